-- `Pen::cell` meets its contract: the point that a cell carries is one of the block's, so its bits are within the list.
use mathlib.Core.Path.{sym, ◌∙◌, ap}
use Prim.Native.Nat.{ℕ, ◌+◌, ◌*◌}
use native.Mathlib.Omega.{arith}
use Rattle.rules.specs.Bits.{row}
use Rattle.rules.specs.Modes.{part_bits}
use Rattle.rules.specs.Points.{point_of}
use Rattle.rules.specs.Block.{cell_for}
use Rattle.rules.specs.declared.Cell.TheVariants.{Carries}
use Rattle.modes.proofs.Figures.{part-bounds}
use Rattle.cells.specs.Symbol.{slot_bit}
use Rattle.cells.proofs.Inverse.{cell-carried}
use Rattle.cells.proofs.Signs.{point-same}
use Rattle.cells.proofs.pen.Pen.cell.Goals as goal

pub first_bit-requires : goal.first_bit-requires
first_bit-requires g c =
    let a = c.args in
    let p = c.in-Some.p in
    let w = cell-carried a.self.now.carrier.mode a.self.now.carrier.symbol a.c p.slot p.point (sym c.cell.ensures ∙ c.in-Some.is) in
    (omega arith, (w.0, w.1))

pub point-requires : goal.point-requires
point-requires g c =
    let s = c.args.self.now in
    let few = part-bounds s.carrier.mode in
    (omega (arith, few, s.part_long), omega (arith, few, s.part_long), omega (arith, s.part_long))

pub returns-in-Some : goal.returns-in-Some
returns-in-Some g c =
    let a = c.args in
    let s = a.self.now in
    let p = c.in-Some.p in
    let level = s.parts.level in
    let bit = row a.bits.now in
    let m = s.carrier.mode in
    ap Carries
    (c.point.ensures
    ∙ point-same g.row.W level (λ j. bit (c.first_bit.result + j)) (λ j. slot_bit m a.bits.now p.slot (2 * part_bits m * p.point + j))
    (λ j. ap bit (omega (arith, c.first_bit.ensures.0)))
    ∙ ap (λ (w : ℕ). point_of w level (λ j. slot_bit m a.bits.now p.slot (2 * part_bits m * p.point + j))) s.part_long)
    ∙ ap (cell_for (part_bits m) level (slot_bit m a.bits.now)) (sym c.in-Some.is ∙ c.cell.ensures)
