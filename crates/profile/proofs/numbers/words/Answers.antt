-- The calls give the first n numbers, and zeros.
use Rattle.std.proofs.Common.{rules, tests, ltb, take, drop, ◌*◌}
use Rattle.rules.specs.Bits.{pick}
use Rattle.rules.specs.Profile.{number}
use Rattle.profile.proofs.FromFn.{made, words-made}
use Rattle.profile.proofs.numbers.words.Goals as goal

pub returns : goal.returns
returns g c =
    let a = c.args in
    words-made a.n g.row.N a.s.now (search rules) (search rules)
    (made _ _ (λ i. pick (ltb i a.n) (number (take 4 (drop (4 * i) a.s.now))) 0) (λ i y q k. (search (rules, tests), search rules)) c.from_fn.ensures.items)
