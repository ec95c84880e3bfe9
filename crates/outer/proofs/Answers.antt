-- What the two calls answer, from what was tested; and from two answers by the rule, the same outcome and the same bytes.
use mathlib.Core.Path.{◌≡◌, refl, sym, ap, ◌∙◌, subst}
use mathlib.Core.Bool.{Bool, true, false, not}
use mathlib.Core.List.{List}
use Prim.Native.Nat.{ℕ, ◌+◌, ◌-◌, ◌*◌, ◌/◌, ◌%◌, ◌^◌, ◌<◌}
use native.Mathlib.Decide.{ℕ_discrete}
use native.Mathlib.Omega.{arith}
use lib.Dec.{T, eqb}
use lib.Ieee.Fits.{eq→eqb}
use lib.ListN.{length}
use lib.Seq.{ext_get_or}
use borrow.Author.Tests.{ne_eqb}
use Rattle.rules.specs.Bits.{pick, row}
use Rattle.rules.specs.Answers.{outcome_number}
use Rattle.rules.specs.Outer.{is_k, column, encoded, Restored, ParityMade}
use Rattle.std.specs.Prelude.{⊤, Option, Some, None, Result, Ok, Err}
use Rattle.std.specs.Option.{ok_or}
use Rattle.std.specs.Result.{is_err}
use Rattle.rules.specs.declared.OuterError.{OuterError}
use Rattle.rules.specs.declared.OuterError.TheVariants.{BadK, BadLength, TooManyLost, NoCodeword}
use Rattle.outer.proofs.Roots.{rate}
use Rattle.outer.proofs.Solve.{unique}

-- ---- parity

-- the number that comes first: K, then the block's length
first-k : (b c : Bool) → ¬ T b → 43 ≡ pick {A = ℕ} (not b) 43 (pick (not c) 6 0)
first-k true c n = absurd (n tt)
first-k false c n = refl

first-length : (b c : Bool) → T b → c ≡ false → 6 ≡ pick {A = ℕ} (not b) 43 (pick (not c) 6 0)
first-length true true t e = absurd (subst T e tt)
first-length true false t e = refl
first-length false c t e = absurd t

first-none : (b c : Bool) → T b → T c → 0 ≡ pick {A = ℕ} (not b) 43 (pick (not c) 6 0)
first-none true true t u = refl
first-none true false t u = absurd u
first-none false c t u = absurd t

module _ {k : ℕ} {before : List ℕ} where
  pub parity-bad-k : ¬ T (is_k k) → ParityMade k before before 43
  parity-bad-k n =
      record {
        answer = first-k (is_k k) (eqb (length before) 1952) n;
        long = λ z. absurd (omega arith);
        columns = λ z. absurd (omega arith);
        kept = λ ne. refl;
      }

  pub parity-bad-length : T (is_k k) → ¬ (length before ≡ 1952) → ParityMade k before before 6
  parity-bad-length t n =
      record {
        answer = first-length (is_k k) (eqb (length before) 1952) t (ne_eqb (length before) 1952 n);
        long = λ z. absurd (omega arith);
        columns = λ z. absurd (omega arith);
        kept = λ ne. refl;
      }

  pub parity-done : {after : List ℕ}
      → T (is_k k)
      → length before ≡ 1952
      → length after ≡ 1952
      → ((j : ℕ) → j < 122 → (p : ℕ) → p < 16 → column after j p ≡ encoded (16 - k) (column before j) p)
      → ParityMade k before after 0
  parity-done t long' long each =
      record {
        answer = first-none (is_k k) (eqb (length before) 1952) t (eq→eqb long');
        long = λ z. long;
        columns = λ z. each;
        kept = λ ne. absurd (ne refl);
      }

-- a block of the right length, with a K that is one, is not refused
pub parity-answered : {k n : ℕ} {before after : List ℕ} → T (is_k k) → length before ≡ 1952 → ParityMade k before after n → n ≡ 0
parity-answered {k} {before = before} t long made =
    made.answer ∙ sym (first-none (is_k k) (eqb (length before) 1952) t (eq→eqb long))

-- ---- what is missing is refused

abbrev error-of : {A E : Type 0} → E → Result A E → E
error-of d (Ok x) = d
error-of d (Err e) = e

pub refused-by : {A E : Type 0} (o : Option A) {r : Result A E} {e d : E} → r ≡ ok_or o d → r ≡ Err e → (o ≡ None) × (e ≡ d)
refused-by None {d = d} v w = (refl, ap (error-of d) (sym w ∙ v))
refused-by (Some x) v w = absurd (subst (λ (q : Result _ _). T (is_err q)) (sym w ∙ v) tt)

-- ---- one answer only

-- an outcome goes by its number
outcome-of : ℕ → Result ⊤ OuterError
outcome-of n =
    pick (eqb n 0) (Ok _) (Err (pick (eqb n 43) BadK (pick (eqb n 6) BadLength (pick (eqb n 9) TooManyLost NoCodeword))))

numbered : (o : Result ⊤ OuterError) → outcome-of (outcome_number o) ≡ o
unfolding outcome-of
numbered (Ok x) = refl
numbered (Err BadK) = refl
numbered (Err BadLength) = refl
numbered (Err TooManyLost) = refl
numbered (Err NoCodeword) = refl

number-one : {o o' : Result ⊤ OuterError} → outcome_number o ≡ outcome_number o' → o ≡ o'
number-one {o} {o'} e = sym (numbered o) ∙ ap outcome-of e ∙ numbered o'

-- two blocks with the same columns are the same
same-columns : (after after' : List ℕ) → length after ≡ 1952 → length after' ≡ 1952
    → ((j : ℕ) → j < 122 → (p : ℕ) → p < 16 → column after j p ≡ column after' j p)
    → after ≡ after'
same-columns after after' long long' each = ext_get_or 0 after after' (long ∙ sym long') at
  where
    at : (i : ℕ) → i < length after → row after i ≡ row after' i
    at i l =
        let p : ℕ = i / 122 in
        let j : ℕ = i % 122 in
        let place : 122 * p + j ≡ i = omega arith in
        ap (row after) (sym place) ∙ each j (omega arith) p (omega (arith, long)) ∙ ap (row after') place

pub one-parity : (k : ℕ) {before after after' : List ℕ} {n m : ℕ} → ParityMade k before after n → ParityMade k before after' m
    → (n ≡ m) × (after ≡ after')
one-parity k {before} {after} {after'} {n} {m} x y = (same, go (ℕ_discrete n 0))
  where
    same : n ≡ m
    same = x.answer ∙ sym y.answer

    go : Dec (n ≡ 0) → after ≡ after'
    go (yes z) =
        let z' : m ≡ 0 = sym same ∙ z in
        same-columns after after' (x.long z) (y.long z') (λ j l p h. x.columns z j l p h ∙ sym (y.columns z' j l p h))
    go (no ne) = x.kept ne ∙ sym (y.kept (λ e. ne (same ∙ e)))

pub one-restoring : (k lost : ℕ) {before after after' : List ℕ} {n m : ℕ} → lost < 2 ^ 16
    → Restored k lost before after n
    → Restored k lost before after' m
    → (n ≡ m) × (after ≡ after')
one-restoring k lost {after = after} {after' = after'} fits (Restored.restored t b few long each) (Restored.restored t' b' few' long' each') = (
  refl,
  same-columns after after' long long'
      (λ j l. unique fits few (rate k t) (each j l).0 (each' j l).0 (each j l).1 (each' j l).1),
)
one-restoring k lost {after = after} fits (Restored.restored t b few long each) (Restored.no_codeword t' b' few' j l none e) =
    absurd (none (column after j) (each j l).0 (each j l).1)
one-restoring k lost {after' = after'} fits (Restored.no_codeword t b few j l none e) (Restored.restored t' b' few' long' each') =
    absurd (none (column after' j) (each' j l).0 (each' j l).1)
one-restoring k lost fits (Restored.restored t b few long each) (Restored.bad_k n e) = absurd (n t)
one-restoring k lost fits (Restored.restored t b few long each) (Restored.bad_length t' n e) = absurd (n b)
one-restoring k lost fits (Restored.restored t b few long each) (Restored.too_many_lost t' b' many e) = absurd (omega arith)
one-restoring k lost fits (Restored.bad_k n e) (Restored.bad_k n' e') = (refl, e ∙ sym e')
one-restoring k lost fits (Restored.bad_k n e) (Restored.restored t b few long each) = absurd (n t)
one-restoring k lost fits (Restored.bad_k n e) (Restored.bad_length t n' e') = absurd (n t)
one-restoring k lost fits (Restored.bad_k n e) (Restored.too_many_lost t b many e') = absurd (n t)
one-restoring k lost fits (Restored.bad_k n e) (Restored.no_codeword t b few j l none e') = absurd (n t)
one-restoring k lost fits (Restored.bad_length t n e) (Restored.bad_length t' n' e') = (refl, e ∙ sym e')
one-restoring k lost fits (Restored.bad_length t n e) (Restored.bad_k n' e') = absurd (n' t)
one-restoring k lost fits (Restored.bad_length t n e) (Restored.restored t' b few long each) = absurd (n b)
one-restoring k lost fits (Restored.bad_length t n e) (Restored.too_many_lost t' b many e') = absurd (n b)
one-restoring k lost fits (Restored.bad_length t n e) (Restored.no_codeword t' b few j l none e') = absurd (n b)
one-restoring k lost fits (Restored.too_many_lost t b many e) (Restored.too_many_lost t' b' many' e') = (refl, e ∙ sym e')
one-restoring k lost fits (Restored.too_many_lost t b many e) (Restored.bad_k n e') = absurd (n t)
one-restoring k lost fits (Restored.too_many_lost t b many e) (Restored.bad_length t' n e') = absurd (n b)
one-restoring k lost fits (Restored.too_many_lost t b many e) (Restored.restored t' b' few long each) = absurd (omega arith)
one-restoring k lost fits (Restored.too_many_lost t b many e) (Restored.no_codeword t' b' few j l none e') = absurd (omega arith)
one-restoring k lost fits (Restored.no_codeword t b few j l none e) (Restored.no_codeword t' b' few' j' l' none' e') = (refl, e ∙ sym e')
one-restoring k lost fits (Restored.no_codeword t b few j l none e) (Restored.bad_k n e') = absurd (n t)
one-restoring k lost fits (Restored.no_codeword t b few j l none e) (Restored.bad_length t' n e') = absurd (n b)
one-restoring k lost fits (Restored.no_codeword t b few j l none e) (Restored.too_many_lost t' b' many e') = absurd (omega arith)

-- what the two calls answer is an outcome: it is the same, too
pub parity-outcome : (k : ℕ) (o o' : Result ⊤ OuterError) {before after after' : List ℕ}
    → ParityMade k before after (outcome_number o)
    → ParityMade k before after' (outcome_number o')
    → (o ≡ o') × (after ≡ after')
parity-outcome k o o' x y = let e = one-parity k x y in (number-one e.0, e.1)

pub restoring-outcome : (k lost : ℕ) (o o' : Result ⊤ OuterError) {before after after' : List ℕ} → lost < 2 ^ 16
    → Restored k lost before after (outcome_number o)
    → Restored k lost before after' (outcome_number o')
    → (o ≡ o') × (after ≡ after')
restoring-outcome k lost o o' fits x y = let e = one-restoring k lost fits x y in (number-one e.0, e.1)
