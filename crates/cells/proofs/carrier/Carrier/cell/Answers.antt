-- `Carrier::cell` meets its contract: what a cell carries goes by the place that it belongs to.
use mathlib.Core.Path.{◌∙◌, ap}
use Rattle.rules.specs.Cells.{carried_at, carried}
use Rattle.cells.proofs.carrier.Carrier.cell.Goals as goal

pub returns-in_err-of : goal.returns-in_err-of
unfolding carried
returns-in_err-of c =
    let a = c.args in
    c.from_residual.ensures ∙ ap (carried_at a.self.now.mode a.self.now.symbol) c.in_err-of.ensures

pub returns : goal.returns
unfolding carried
returns c =
    let a = c.args in
    c.at.ensures ∙ ap (carried_at a.self.now.mode a.self.now.symbol) c.in_ok-of.ensures
