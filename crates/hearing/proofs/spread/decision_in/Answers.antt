-- `decision_in` meets its contract.
use mathlib.Core.Path.{ap}
use Prim.Native.Nat.{ℕ, ◌/◌, ◌%◌}
use native.Mathlib.Omega.{arith}
use borrow.Author.Tests.{eq-eqb, ne_eqb}
use Rattle.hearing.proofs.Reading.{choices-are}
use Rattle.hearing.proofs.spread.decision_in.Goals as goal

pub returns-then-n-eq0 : goal.returns-then-n-eq0
returns-then-n-eq0 g c =
    let a = c.args in
    rw (eq-eqb (a.n % 2) 0 (omega arith)) (ap (λ (m : ℕ). a.byte % m) (choices-are g.row.W c.requires.0 c.requires.1))

pub returns-else-n-eq0 : goal.returns-else-n-eq0
returns-else-n-eq0 g c =
    let a = c.args in
    rw (ne_eqb (a.n % 2) 0 (omega arith)) (ap (λ (m : ℕ). a.byte / m) (choices-are g.row.W c.requires.0 c.requires.1))
