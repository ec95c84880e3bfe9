-- `Parts::part` meets its contract: of two bits the four parts stand by twice the size and the sign.
use mathlib.Core.Path.{◌∙◌, ap, ap₂}
use Prim.Native.Nat.{ℕ, ◌+◌, ◌*◌}
use native.Mathlib.Omega.{arith}
use lib.Dec.{eqb}
use Rattle.rules.specs.Bits.{pick, row}
use Rattle.cells.proofs.Signs.{sized-part}
use Rattle.cells.proofs.parts.Parts.part.Goals as goal

pub returns-else-this-eq1 : goal.returns-else-this-eq1
returns-else-this-eq1 g c =
    let a = c.args in
    let bit = row a.bits.now in
    sized-part a.self.now.level a.self.now.by_size g.row.W (λ j. bit (a.at + j)) _ c.if-this-eq1.false
    (ap₂ (λ (x y : ℕ). 2 * x + y) (c.flag.ensures.0 ∙ ap (λ (i : ℕ). pick (eqb (bit i) 1) 1 0) (omega arith)) c.flag-else-this-eq1.ensures.0)
    (omega arith)
