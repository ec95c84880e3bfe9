-- The first number below another that passes a test: what it is, and that no other is so.
use Rattle.std.specs.Prelude.{◌≡◌, refl, Bool, true, false, ℕ, zero, suc, ◌+◌, ◌<◌, ◌≤◌, T}
use Rattle.std.proofs.Common.{sym, ap, ◌∙◌, subst, arith}
use Rattle.std.proofs.Math.Decide.{ℕ_discrete}
use Rattle.rules.specs.Bits.{pick, first_from}

-- r is the first number below n that passes, or n
pub record First (n : ℕ) (f : ℕ → Bool) (r : ℕ) : Type 0 where
  pub within : r ≤ n
  pub before : (i : ℕ) → i < r → f i ≡ false
  pub passes : r < n → f r ≡ true

-- one among the n numbers from k on, where none before them passes
from : (n k : ℕ) (f : ℕ → Bool) → ((i : ℕ) → i < k → f i ≡ false) → First (k + n) f (first_from n k f)
from zero k f none = record { within = omega arith; before = none; passes = λ lt. absurd (omega arith) }
from (suc n) k f none = go (from n (suc k) f) (f k) refl
  where
    go : {r : ℕ} → (((i : ℕ) → i < suc k → f i ≡ false) → First (suc k + n) f r) → (b : Bool) → f k ≡ b → First (k + suc n) f (pick b k r)
    go rest true e = record { within = omega arith; before = none; passes = λ lt. e }
    go rest false e =
        let h = rest (λ i lt. at i lt (ℕ_discrete i k)) in
        record { within = omega (arith, h.within); before = h.before; passes = λ lt. h.passes (omega arith) }
      where
        at : (i : ℕ) → i < suc k → Dec (i ≡ k) → f i ≡ false
        at i lt (yes q) = ap f q ∙ e
        at i lt (no q) = none i (omega arith)

pub first : (n : ℕ) (f : ℕ → Bool) → First n f (first_from n 0 f)
first n f =
    let h = from n 0 f (λ i lt. absurd (omega arith)) in
    record { within = omega (arith, h.within); before = h.before; passes = λ lt. h.passes (omega arith) }

not-less : {n r s : ℕ} {f : ℕ → Bool} → First n f r → First n f s → ¬ (r < s)
not-less {r = r} a b lt = subst T (sym (a.passes (omega (arith, b.within))) ∙ b.before r lt) tt

pub first-is : {n r : ℕ} {f : ℕ → Bool} → First n f r → r ≡ first_from n 0 f
first-is {n} {r} {f} a =
    let b = first n f in
    let below : ¬ (r < first_from n 0 f) = not-less a b in
    let above : ¬ (first_from n 0 f < r) = not-less b a in
    omega arith
