-- A place by the tables, as it is worked out.
use mathlib.Core.Path.{◌≡◌, sym, ap, ◌∙◌}
use Prim.Native.Nat.{ℕ, ◌+◌, ◌-◌, ◌*◌, ◌/◌}
use native.Mathlib.Omega.{arith}
use borrow.Author.Rules.{rules}
use lib.ListN.{length}
use Rattle.patterns.proofs.Rates.{by-data, by-tail}
use Rattle.patterns.proofs.Pattern.place.Goals as goal

pub returns-then-n-self : goal.returns-then-n-self
returns-then-n-self g c =
    let t = c.args.self.now in
    let wide : length t.«data» ≡ g.row.D = search rules in
    ap (λ (k : ℕ). c.args.n / g.row.D * t.bits + k) c.from.ensures ∙ sym (by-data t.«data» t.bits t.data_length t.tail c.args.n g.row.D wide (omega arith))

pub returns-else-n-self : goal.returns-else-n-self
returns-else-n-self g c =
    let t = c.args.self.now in
    let wide : length t.tail ≡ g.row.T = search rules in
    ap (λ (k : ℕ). 1994 * ((c.args.n - t.data_length) / g.row.T) + k) c.from-else-n-self.ensures
    ∙ sym (by-tail t.«data» t.bits t.data_length t.tail c.args.n g.row.T wide (omega arith))
