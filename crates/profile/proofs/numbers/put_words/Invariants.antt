-- At the loop's head, what is left to store gives all the bytes.
use Rattle.profile.proofs.Values.{Putting}
use Rattle.profile.proofs.numbers.put_words.Given as goal

abbrev pub invariant-loop-i : goal.invariant-loop-i
invariant-loop-i l = Putting l.initial.s l.l l.s l.i
