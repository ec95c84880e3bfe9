-- 9 and 25 by the bits of a part.
use mathlib.Core.Path.{◌≡◌, sym, ap, ◌∙◌}
use Prim.Native.Nat.{ℕ, ◌*◌}
use native.Mathlib.Omega.{arith}
use Rattle.rules.specs.Pieces.{choices}
use Rattle.receiving.proofs.pieces.most_byte.Goals as goal

bytes_of : (w k : ℕ) → w ≡ k → choices w * choices w ≡ choices k * choices k
bytes_of w k e = ap (λ (v : ℕ). choices v * choices v) e

pub returns-then-part_bits-eq1 : goal.returns-then-part_bits-eq1
returns-then-part_bits-eq1 c =
    let p = c.part_bits in
    sym (bytes_of _ 1 (sym p.ensures.0 ∙ c.if-part_bits-eq1.true))

pub returns-else-part_bits-eq1 : goal.returns-else-part_bits-eq1
returns-else-part_bits-eq1 c =
    let p = c.part_bits in
    let two : p.result ≡ 2 = omega (arith, p.ensures.1, p.ensures.2, c.if-part_bits-eq1.false) in
    sym (bytes_of _ 2 (sym p.ensures.0 ∙ two))
