-- `cells::carried` meets its contract.
use mathlib.Core.Path.{sym, ◌∙◌}
use native.Mathlib.Omega.{arith}
use borrow.Author.Tests.{ltb-true, ltb-false}
use Rattle.rules.specs.Modes.{symbols}
use Rattle.cells.proofs.Within.{slots-lt}
use Rattle.cells.proofs.Inverse.{carried-past}
use Rattle.cells.proofs.carried.Goals as goal

pub of-requires : goal.of-requires
of-requires c =
    let a = c.args in
    let inside = ltb-true a.symbol (symbols a.mode) (sym c.in_grid.ensures ∙ c.if-in_grid.true) in
    omega (arith, slots-lt a.mode)

pub returns-else-in_grid : goal.returns-else-in_grid
returns-else-in_grid c =
    let a = c.args in
    let past = ltb-false a.symbol (symbols a.mode) (sym c.in_grid.ensures ∙ c.if-in_grid.false) in
    sym (carried-past a.mode a.symbol a.c past)
