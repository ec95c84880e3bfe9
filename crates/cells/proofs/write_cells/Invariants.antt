-- `cells::write_cells` meets its contract. The loop's invariant: each of the two lists has the parts of the cells before c.
use Prim.Native.Nat.{◌≤◌}
use lib.ListN.{get_or}
use Rattle.rules.specs.Points.{zero_part, first_part, second_part}
use Rattle.laws.specs.Holds.{Holds}
use Rattle.laws.specs.Filled.{up_to}
use Rattle.cells.specs.Symbol.{symbol_cell}
use Rattle.cells.proofs.write_cells.Given as goal

abbrev pub invariant-loop-c : goal.invariant-loop-c
invariant-loop-c g l =
    (l.c ≤ 4096)
    × Holds zero_part 4096 (up_to l.c (λ k. first_part (symbol_cell l.mode l.level l.bits l.symbol k)) (λ k. get_or l.initial.firsts k zero_part)) l.firsts
    × Holds zero_part 4096 (up_to l.c (λ k. second_part (symbol_cell l.mode l.level l.bits l.symbol k)) (λ k. get_or l.initial.seconds k zero_part)) l.seconds
