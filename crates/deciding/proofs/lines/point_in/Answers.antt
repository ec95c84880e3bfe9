-- `deciding::point_in` meets its contract: what is read within a list goes by no default.
use lib.Ieee.{nan}
use Rattle.rules.specs.Points.{zero_part}
use Rattle.laws.specs.Lists.{any-default}
use Rattle.deciding.proofs.lines.point_in.Goals as goal

pub returns : goal.returns
returns c =
    let a = c.args in (
      any-default a.firsts.now a.c nan zero_part c.requires.0,
      any-default a.seconds.now a.c nan zero_part c.requires.1,
    )
