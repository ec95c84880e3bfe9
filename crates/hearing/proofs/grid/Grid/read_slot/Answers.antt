-- `Grid::read_slot` meets its contract: the bytes of the slot's points, spread, are its bits.
use mathlib.Core.Path.{◌≡◌}
use Prim.Native.Nat.{◌*◌}
use native.Mathlib.Omega.{arith}
use Rattle.rules.specs.Bits.{row}
use Rattle.rules.specs.Modes.{part_bits}
use Rattle.modes.proofs.Figures.{figures, part-bounds}
use Rattle.hearing.proofs.Reading.{slot_read}
use Rattle.hearing.proofs.grid.Grid.read_slot.Goals.{Else-part_bits-eq1}
use Rattle.hearing.proofs.grid.Grid.read_slot.Goals as goal

two : (c : Else-part_bits-eq1) → 2 ≡ part_bits c.args.self.now.mode
two c = omega (arith, part-bounds c.args.self.now.mode)

pub spread-requires : goal.spread-requires
spread-requires c =
    (omega arith, omega arith, omega (arith, (figures c.args.self.now.mode).slot))

pub returns-then-part_bits-eq1 : goal.returns-then-part_bits-eq1
returns-then-part_bits-eq1 c =
    let s = c.args.self.now in
    slot_read s.mode 1 (2 * 500) (row s.cells.now) (row c.slot_bytes-bytes.result) c.args.t (omega arith) (omega (arith, (figures s.mode).slot))
    c.slot_bytes-bytes.ensures.each c.spread.ensures

pub spread-requires-else-part_bits-eq1 : goal.spread-requires-else-part_bits-eq1
spread-requires-else-part_bits-eq1 c = (
  omega arith,
  omega arith,
  omega (arith, (figures c.args.self.now.mode).slot, two (goal.at.spread-requires-else-part_bits-eq1 c).Else-part_bits-eq1),
)

pub returns-else-part_bits-eq1 : goal.returns-else-part_bits-eq1
returns-else-part_bits-eq1 c =
    let s = c.args.self.now in
    let w = two (goal.at.returns-else-part_bits-eq1 c).Else-part_bits-eq1 in
    slot_read s.mode 2 (4 * 500) (row s.cells.now) (row c.slot_bytes-bytes.result) c.args.t w (omega (arith, (figures s.mode).slot, w))
    c.slot_bytes-bytes.ensures.each c.spread-else-part_bits-eq1.ensures
