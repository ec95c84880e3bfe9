-- After i turns the first i outputs are there, and the state is the scrambler's after i steps.
use mathlib.Core.Path.{◌≡◌, refl, ◌∙◌, ap, ap₂}
use Prim.Native.Nat.{ℕ, ◌+◌, ◌%◌}
use native.Mathlib.Numerals.{add-one}
use native.Mathlib.Omega.{arith}
use Rattle.rules.specs.Slots.{both, scrambler_step, scrambler_state}
use Rattle.laws.specs.Filled.{holds-new, holds-next}
use Rattle.slots.proofs.Scrambler.first_outputs.Goals as goal

next-state : (seed i : ℕ) {s r : ℕ} → s ≡ scrambler_state seed i → r ≡ scrambler_step s → r ≡ scrambler_state seed (i + 1)
unfolding scrambler_state
next-state seed i e f = f ∙ ap scrambler_step e ∙ rw add-one

pub loop-bit-init : goal.loop-bit-init
unfolding scrambler_state
loop-bit-init c = (holds-new 20 _, refl, refl)

pub loop-bit-preserved : goal.loop-bit-preserved
loop-bit-preserved c =
    let s = c.args.self in
    let l = c.loop-bit in
    let next = next-state s.state l.bit-index l.invariant.1 c.stepped-scrambler.ensures.0 in
    let put = c.output.ensures ∙ ap₂ (λ (s m : ℕ). both 20 s m % 2) l.invariant.1 l.invariant.2 in
    (holds-next _ _ 0 l.bit-index _ (omega arith) put l.invariant.0, next, c.stepped-scrambler.ensures.1 ∙ l.invariant.2)
