-- `own_place` goes from a data bit's place back through the bit interleaver.
use mathlib.Core.Path.{◌≡◌, refl}
use Prim.Native.Nat.{ℕ, ◌+◌, ◌*◌, ◌/◌, ◌%◌, ◌<◌}
use native.Mathlib.Omega.{arith}
use Rattle.rules.specs.Interleaver.{bit_deinterleaved}
use Rattle.rules.specs.Turbo.{coded_length, data_place}
use Rattle.patterns.proofs.Modes.{own-lt, own-sent-lt}
use Rattle.patterns.proofs.own_place.Goals.{After-data_place-n}
use Rattle.patterns.proofs.own_place.Goals as goal

-- what is answered
answer : (c : After-data_place-n)
    → let a = c.args in
    let L : ℕ = coded_length a.rate 994 in
    let r : ℕ = 4 * (c.data_place-n.result % a.rows) + c.data_place-n.result / a.rows in
    (r ≡ bit_deinterleaved L (data_place a.rate a.i)) × (r < 3000)
answer c =
    let a = c.args in
    let L : ℕ = coded_length a.rate 994 in
    let quarter : L / 4 ≡ a.rows = omega (arith, c.requires.0) in
    let is : 4 * (c.data_place-n.result % a.rows) + c.data_place-n.result / a.rows ≡ bit_deinterleaved L (data_place a.rate a.i) =
    rw (quarter, c.data_place-n.ensures) in
    (is, omega (arith, own-sent-lt a.rate L refl (omega arith) a.i c.requires.2))

some : (c : After-data_place-n) → 0 < c.args.rows
some c = omega (arith, own-lt c.args.rate c.args.i c.requires.2)

pub overflow_mul-result : goal.overflow_mul-result
overflow_mul-result c = omega (arith, answer (goal.at.overflow_mul-result c).After-data_place-n)

pub overflow_add-result : goal.overflow_add-result
overflow_add-result c = omega (arith, answer (goal.at.overflow_add-result c).After-data_place-n)

pub returns : goal.returns
returns c = answer (goal.at.returns c).After-data_place-n
