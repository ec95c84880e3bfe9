-- `Grid::slot_bytes` meets its contract. The loop's invariant: the bytes of the slot's first i points are in.
use mathlib.Core.Path.{ap}
use Prim.Native.Nat.{ℕ, ◌+◌, ◌*◌, ◌/◌}
use native.Mathlib.Omega.{arith}
use Rattle.rules.specs.Bits.{row}
use Rattle.laws.specs.Filled.{holds-new, holds-next}
use Rattle.hearing.specs.Reading.{point_byte}
use Rattle.cells.proofs.Within.{slots-lt}
use Rattle.hearing.proofs.grid.Grid.slot_bytes.Goals as goal

pub overflow_mul-from : goal.overflow_mul-from
overflow_mul-from c = omega (arith, slots-lt c.args.self.now.mode)

pub loop-i-init : goal.loop-i-init
loop-i-init c = let a = c.args in (omega arith, holds-new 500 (point_byte (row a.self.now.cells.now) a.t))

pub point_cell-requires : goal.point_cell-requires
point_cell-requires c = (omega (arith, slots-lt c.args.self.now.mode), omega arith)

pub loop-i-preserved : goal.loop-i-preserved
loop-i-preserved c =
    let l = c.loop-i in
    let a = c.args in
    let byte : ℕ → ℕ = (λ k. row a.self.now.cells.now (4096 * (a.t / 7) + k)) in (
      omega arith,
      holds-next (point_byte (row a.self.now.cells.now) a.t) (λ k. 0) 0 l.i _ (omega arith) (ap byte c.point_cell.ensures.0) l.invariant.1,
    )
