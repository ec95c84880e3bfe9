-- A number that is no mode counts as 1.
use mathlib.Core.Path.{sym, ◌∙◌}
use native.Mathlib.Omega.{arith}
use borrow.Author.Tests.{ltb-true}
use Rattle.modes.proofs.counted.Goals as goal

pub returns-then-is_mode : goal.returns-then-is_mode
returns-then-is_mode c =
    let small = sym c.is_mode.ensures ∙ c.if-is_mode.true in
    (rw small c.from.ensures, omega (arith, ltb-true c.args.mode 5 small))

pub returns-else-is_mode : goal.returns-else-is_mode
returns-else-is_mode c = (rw (sym c.is_mode.ensures ∙ c.if-is_mode.false), omega arith)
