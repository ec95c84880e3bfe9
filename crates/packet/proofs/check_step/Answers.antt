-- The register's step, by cases on the bit that is shifted out.
use mathlib.Core.Path.{◌≡◌, sym}
use Prim.Native.Nat.{◌+◌, ◌*◌, ◌/◌, ◌%◌}
use native.Mathlib.Omega.{arith}
use lib.Bits.{xor_zero_r}
use Rattle.rules.specs.Packet.{check_step}
use Rattle.packet.proofs.check_step.Goals as goal

pub returns-then-top-eq1 : goal.returns-then-top-eq1
unfolding check_step
returns-then-top-eq1 c =
    let a = c.args in
    let one : (a.s / 32768 + a.b) % 2 ≡ 1 = omega arith in
    rw one

pub returns-else-top-eq1 : goal.returns-else-top-eq1
unfolding check_step
returns-else-top-eq1 c =
    let a = c.args in
    let zero : (a.s / 32768 + a.b) % 2 ≡ 0 = omega arith in
    rw zero (sym (xor_zero_r (a.s * 2 % 65536)))
