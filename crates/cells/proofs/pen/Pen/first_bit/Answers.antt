-- `Pen::first_bit` meets its contract: a slot's points fill it, and the slots fill the block.
use mathlib.Core.Path.{◌≡◌, ap₂}
use Prim.Native.Nat.{ℕ, ◌+◌, ◌*◌, ◌<◌, ◌≤◌}
use native.Mathlib.Omega.{arith}
use Rattle.rules.specs.Modes.{slot_bits, part_bits, slots}
use Rattle.modes.proofs.Figures.{block-most, part-bounds}
use Rattle.cells.proofs.Within.{point-inside}
use Rattle.cells.proofs.pen.Pen.first_bit.Goals as goal

right : (W S m : ℕ) (t i : ℕ) → S ≡ slot_bits m → W ≡ part_bits m → t < slots m → i < 500
    → (S * t + 2 * W * i ≡ slot_bits m * t + 2 * part_bits m * i) × (S * t + 2 * W * i + 2 * part_bits m ≤ slot_bits m * slots m)
right W S m t i p q h l =
    let e : S * t + 2 * W * i ≡ slot_bits m * t + 2 * part_bits m * i = ap₂ (λ (x y : ℕ). x * t + 2 * y * i) p q in
    (e, rw e (point-inside m t i h l))

pub overflow_mul-result : goal.overflow_mul-result
overflow_mul-result g c =
    let s = c.args.self.now in
    omega (arith, right g.row.W s.slot_bits s.carrier.mode c.args.p.slot c.args.p.point s.slot_long s.part_long c.requires.0 c.requires.1, block-most s.carrier.mode)

pub overflow_mul-result-2 : goal.overflow_mul-result-2
overflow_mul-result-2 g c = omega (arith, c.args.self.now.part_long, part-bounds c.args.self.now.carrier.mode)

pub overflow_mul-result-3 : goal.overflow_mul-result-3
overflow_mul-result-3 g c =
    let s = c.args.self.now in
    omega (arith, right g.row.W s.slot_bits s.carrier.mode c.args.p.slot c.args.p.point s.slot_long s.part_long c.requires.0 c.requires.1, block-most s.carrier.mode)

pub overflow_add-result : goal.overflow_add-result
overflow_add-result g c =
    let s = c.args.self.now in
    omega (arith, right g.row.W s.slot_bits s.carrier.mode c.args.p.slot c.args.p.point s.slot_long s.part_long c.requires.0 c.requires.1, block-most s.carrier.mode)

pub returns : goal.returns
returns g c =
    let s = c.args.self.now in
    right g.row.W s.slot_bits s.carrier.mode c.args.p.slot c.args.p.point s.slot_long s.part_long c.requires.0 c.requires.1
