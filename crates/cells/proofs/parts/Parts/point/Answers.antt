-- `Parts::point` meets its contract, part by part.
use mathlib.Core.Path.{◌≡◌, ◌∙◌}
use Prim.Native.Nat.{ℕ, ◌+◌}
use native.Mathlib.Omega.{arith}
use Rattle.rules.specs.Bits.{row}
use Rattle.rules.specs.Points.{part}
use Rattle.cells.proofs.parts.Parts.point.Goals as goal

pub returns : goal.returns
returns g c =
    let a = c.args in
    let W = g.row.W in
    let bit = row a.bits.now in
    let level = a.self.now.level in
    let moved : (j : ℕ) → a.at + W + j ≡ a.at + (W + j) = (λ j. omega arith) in
    let second : part W level (λ j. bit (a.at + W + j)) ≡ part W level (λ j. bit (a.at + (W + j))) =
    (λ i. part W level (λ j. bit (moved j i))) in
    λ i. record { first = c.part.ensures i; second = (c.part-2.ensures ∙ second) i }
