-- `power` answers `rule.power`: the answer, times the power of the square that is left, is the power.
use mathlib.Core.Path.{◌≡◌, sym, ap, ◌∙◌}
use Prim.Native.Nat.{ℕ, suc, ◌*◌, ◌/◌, ◌<◌}
use native.Mathlib.Omega.{arith}
use Rattle.rules.specs.Field.{◌⊗◌, power}
use Rattle.field.proofs.Laws.{⊗-assoc, ⊗-one-l, ⊗-one-r, ⊗-lt, power-lt, power-suc, power-mul}
use Rattle.field.proofs.Element.power.Goals.{then-left-eq1, else-left-eq1}
use Rattle.field.proofs.Element.power.Goals as goal

power-square : (a k : ℕ) → power (a ⊗ a) k ≡ power a (2 * k)
power-square a k = ap (λ (x : ℕ). power x k) square ∙ power-mul a 2 k
  where
    square : a ⊗ a ≡ power a 2
    square = unfold power in (sym (⊗-one-r (a ⊗ a) (⊗-lt a a)) ∙ ⊗-assoc a a 1)

-- a turn, by the exponent's lowest digit
odd : (r s h b : ℕ) → b ≡ suc (2 * h) → (r ⊗ s) ⊗ power (s ⊗ s) h ≡ r ⊗ power s b
odd r s h b e = ap (◌⊗◌ (r ⊗ s)) (power-square s h) ∙ ⊗-assoc r s _ ∙ ap (◌⊗◌ r) (sym (ap (power s) e ∙ power-suc s (2 * h)))

even : (r s h b : ℕ) → b ≡ 2 * h → r ⊗ power (s ⊗ s) h ≡ r ⊗ power s b
even r s h b e = ap (◌⊗◌ r) (power-square s h ∙ ap (power s) (sym e))

pub loop-left-init : goal.loop-left-init
loop-left-init c = (omega arith, ⊗-one-l _ (power-lt _ _))

pub loop-left-preserved : goal.loop-left-preserved
loop-left-preserved c =
    let l = c.loop-left in
    let r : ℕ = l.answer.0 in
    let s : ℕ = l.square.0 in
    let h : ℕ = l.left / 2 in
    let q : ℕ = c.if-left-eq1.answer.0 in
    let kept : (q < 256) × (q ⊗ power (s ⊗ s) h ≡ r ⊗ power s l.left) =
    elim c.if-left-eq1.branch [
      | then-left-eq1 w ↦ let e : q ≡ r ⊗ s = ap (λ e. e.0) w.answer-is ∙ w.product-answer.ensures in rw e (⊗-lt r s, odd r s h l.left (omega arith))
      | else-left-eq1 w ↦ let e : q ≡ r = ap (λ e. e.0) w.answer-is in rw e (l.invariant.0, even r s h l.left (omega arith))
    ] in
    (kept.0, ap (λ (x : ℕ). q ⊗ power x h) c.product-square.ensures ∙ kept.1 ∙ l.invariant.1)

pub returns : goal.returns
unfolding power
returns c =
    let l = c.loop-left in
    let ended : l.left ≡ 0 = omega arith in
    sym (⊗-one-r l.answer.0 l.invariant.0) ∙ ap (λ (n : ℕ). l.answer.0 ⊗ power l.square.0 n) (sym ended) ∙ l.invariant.1
