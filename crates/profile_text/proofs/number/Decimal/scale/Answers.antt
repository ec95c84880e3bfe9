use Rattle.std.proofs.Common.{rules, arith}
use Rattle.std.proofs.Math.Nat.{one-le-pow}
use Rattle.profile_text.proofs.number.Decimal.scale.Goals as goal

pub returns : goal.returns
returns c = omega (arith, c.pow.ensures, one-le-pow c.args.self.places 10 (search rules))
