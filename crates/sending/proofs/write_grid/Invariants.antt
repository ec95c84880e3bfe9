-- `sending::write_grid` meets its contract. The loop's invariant: the symbols before y are written in both lists.
use Prim.Native.Nat.{◌*◌, ◌≤◌}
use lib.ListN.{get_or}
use Rattle.rules.specs.Points.{zero_part, first_part, second_part}
use Rattle.rules.specs.Modes.{symbols}
use Rattle.laws.specs.Holds.{Holds}
use Rattle.laws.specs.Filled.{up_to}
use Rattle.sending.specs.Steps.{grid_cell}
use Rattle.sending.proofs.write_grid.Given as goal

abbrev pub invariant-loop-y : goal.invariant-loop-y
invariant-loop-y l =
    (l.y ≤ l.n)
    × Holds zero_part (4096 * symbols l.mode) (up_to (4096 * l.y) (λ i. first_part (grid_cell l.mode l.level l.bits i)) (λ i. get_or l.initial.firsts i zero_part)) l.firsts
    × Holds zero_part (4096 * symbols l.mode) (up_to (4096 * l.y) (λ i. second_part (grid_cell l.mode l.level l.bits i)) (λ i. get_or l.initial.seconds i zero_part)) l.seconds
