-- What `restore` answers is Delivered's: the k and the block's length are right, so 43 and 6 can't come.
use mathlib.Core.Path.{◌≡◌, refl, sym, ◌∙◌, ap, subst}
use mathlib.Core.List.{List}
use Prim.Native.Nat.{ℕ, ◌+◌, ◌-◌, ◌*◌, ◌≤◌, ◌<◌}
use native.Mathlib.Omega.{arith}
use lib.Count.{ones}
use lib.Dec.{T}
use lib.ListN.{length, take}
use lib.Seq.{length-take-le, get_or-take}
use borrow.Author.Rules.{rules}
use Rattle.std.specs.Prelude.{⊤, Result}
use Rattle.std.specs.Result.{IsErrAnd}
use Rattle.std.proofs.lemmas.Result.{err_from_is_err_and}
use Rattle.rules.specs.declared.OuterError.{OuterError}
use Rattle.rules.specs.declared.OuterError.TheVariants.{BadK, BadLength, TooManyLost, NoCodeword}
use Rattle.rules.specs.declared.Refusal.{Refusal}
use Rattle.rules.specs.Answers.{answer_of, outer_number, refusal_number}
use Rattle.rules.specs.Bits.{row}
use Rattle.rules.specs.Outer.{is_k, column, Codeword, Agree, Restored}
use Rattle.rules.specs.Block.{Delivered}
use Rattle.outer.proofs.Roots.{k-range}
use Rattle.receiving.proofs.judging.deliver.Goals as goal

-- a refusal
refused : {k lost n : ℕ} {block after before : List ℕ} → Restored k lost block after n → T (is_k k) → length block ≡ 1952 → ¬ (n ≡ 0)
    → Delivered k lost (λ p j. column block j p) before before n
refused (Restored.restored t b few long each) k long' ne = absurd (ne refl)
refused (Restored.bad_k n e) k long ne = absurd (n k)
refused (Restored.bad_length t n e) k long ne = absurd (n long)
refused (Restored.too_many_lost t b many e) k long ne = Delivered.too_many many refl
refused (Restored.no_codeword t b few j l none e) k long ne = Delivered.no_codeword few j l none refl

-- the block is restored
whole : {k lost n : ℕ} {block after : List ℕ} → Restored k lost block after n → n ≡ 0
    → (ones lost ≤ 16 - k) × ((j : ℕ) → j < 122 → Codeword (16 - k) (column after j) × Agree lost (column after j) (column block j))
whole (Restored.restored t b few long each) z = (few, each)
whole (Restored.bad_k n e) z = absurd (omega arith)
whole (Restored.bad_length t n e) z = absurd (omega arith)
whole (Restored.too_many_lost t b many e) z = absurd (omega arith)
whole (Restored.no_codeword t b few j l none e) z = absurd (omega arith)

-- what refuses has a number
not-zero : (e : OuterError) → ¬ (outer_number e ≡ 0)
not-zero BadK z = omega arith
not-zero BadLength z = omega arith
not-zero TooManyLost z = omega arith
not-zero NoCodeword z = omega arith

-- the refusal that `?` makes of it has the same
handed-on : (e : OuterError) (r : Result ⊤ Refusal) → IsErrAnd r (λ d. refusal_number d ≡ outer_number e) → outer_number e ≡ (answer_of r).number
handed-on e r h = let p = err_from_is_err_and r h in sym (ap (λ (x : Result ⊤ Refusal). (answer_of x).number) p.1 ∙ p.2)

pub returns-in_err-restore : goal.returns-in_err-restore
returns-in_err-restore c =
    let long : length c.args.block ≡ 1952 = search rules in
    subst (λ (n : ℕ). Delivered c.args.k c.args.lost (λ p j. column c.args.block j p) c.args.«data».now c.args.«data».now n)
    (handed-on _ _ c.from_residual.ensures.1) (refused c.in_err-restore.ensures c.requires.0 long (not-zero _))

pub returns : goal.returns
returns c =
    let w = whole c.in_ok-restore.ensures refl in
    let e = c.copy_from_slice.ensures.after in
    let long : length c.args.block ≡ 1952 = search rules in
    let front : length (take (length c.args.«data».now) c.restore.new.block) ≡ length c.args.«data».now =
    length-take-le (length c.args.«data».now) c.restore.new.block (omega (arith, c.requires.1, k-range c.args.k c.requires.0, c.restore.auto.block)) in
    Delivered.whole w.0 (column c.restore.new.block) w.1 (ap length e ∙ front ∙ c.requires.1)
    (λ p j hp hj. ap (λ (l : List ℕ). row l (122 * p + j)) e ∙ get_or-take (length c.args.«data».now) c.restore.new.block (122 * p + j) 0 (omega arith))
