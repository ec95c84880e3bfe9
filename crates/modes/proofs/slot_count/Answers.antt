-- As the rule has it.
use mathlib.Core.Path.{◌≡◌, ap₂}
use Prim.Native.Nat.{ℕ, ◌*◌, ◌/◌}
use native.Mathlib.Omega.{arith}
use Rattle.rules.specs.Modes.{packet_bits, slot_bits, slots}
use Rattle.modes.proofs.Figures.{figures}
use Rattle.modes.proofs.slot_count.Goals as goal

slots-are : (m a b : ℕ) → a ≡ packet_bits m → b ≡ slot_bits m → 16 * a / b ≡ slots m
unfolding slots
slots-are m a b e f = ap₂ (λ x y. 16 * x / y) e f

pub returns : goal.returns
returns c =
    let m = c.args.mode in
    let e = slots-are m _ _ c.packet_bits.ensures.0 c.slot_bits.ensures.0 in
    let f = figures m in
    rw e (omega arith, f.some_slots, f.slots_most)
