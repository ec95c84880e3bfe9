-- The loop's invariant: the bytes of the cells before c are in.
use Prim.Native.Nat.{◌≤◌}
use lib.ListN.{length}
use Rattle.rules.specs.Bits.{row}
use Rattle.laws.specs.Holds.{Holds}
use Rattle.laws.specs.Filled.{up_to}
use Rattle.deciding.specs.Deciding.{byte_of}
use Rattle.deciding.proofs.lines.Lines.cells.Given as goal

abbrev pub invariant-loop-c : goal.invariant-loop-c
invariant-loop-c g l =
    (l.c ≤ length l.initial.out) × Holds 0 (length l.initial.out) (up_to l.c (byte_of g.row.W l.self.level l.self.floor l.firsts l.seconds) (row l.initial.out)) l.out
