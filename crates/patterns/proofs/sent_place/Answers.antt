-- `sent_place` goes through the bit interleaver to the place.
use mathlib.Core.Path.{◌≡◌}
use Prim.Native.Nat.{◌*◌, ◌/◌, ◌%◌, ◌≤◌}
use native.Mathlib.Nat.{mul-le-mul_left}
use native.Mathlib.Omega.{arith}
use Rattle.rules.specs.Turbo.{coded_length}
use Rattle.patterns.proofs.sent_place.Goals.{Start}
use Rattle.patterns.proofs.sent_place.Goals as goal

-- a column begins below three quarters of the bits
below : (c : Start) → c.args.rows * (c.args.i % 4) ≤ c.args.rows * 3
below c = mul-le-mul_left c.args.rows (omega arith)

pub overflow_mul-rows : goal.overflow_mul-rows
overflow_mul-rows c = omega (arith, below (goal.at.overflow_mul-rows c).Start)

pub overflow_add-rows : goal.overflow_add-rows
overflow_add-rows c = omega (arith, below (goal.at.overflow_add-rows c).Start)

pub place-requires : goal.place-requires
place-requires c = omega (arith, below (goal.at.place-requires c).Start)

pub returns : goal.returns
returns c =
    let a = c.args in
    let quarter : coded_length a.rate 994 / 4 ≡ a.rows = omega (arith, c.requires.0) in
    rw quarter c.place.ensures
