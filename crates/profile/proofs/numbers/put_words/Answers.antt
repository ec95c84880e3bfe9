-- The numbers are stored turn by turn.
use Rattle.std.proofs.Common.{rules}
use Rattle.profile.proofs.Values.{putting-start, putting-more, putting-done}
use Rattle.profile.proofs.numbers.put_words.Goals as goal

pub loop-i-init : goal.loop-i-init
loop-i-init c = putting-start

pub loop-i-preserved : goal.loop-i-preserved
loop-i-preserved c = putting-more c.loop-i.invariant (search rules) c.put_word.ensures (search rules)

pub returns : goal.returns
returns c = putting-done c.loop-i.invariant (search rules) c.requires
