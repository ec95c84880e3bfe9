-- At the loop's head no slot before u is t's twin, and u is of t's symbol.
use Rattle.twins.proofs.Twins.{Looking}
use Rattle.twins.proofs.first_like.Given as goal

abbrev pub invariant-loop-u : goal.invariant-loop-u
invariant-loop-u l = Looking l.masks l.seeds l.t l.u
