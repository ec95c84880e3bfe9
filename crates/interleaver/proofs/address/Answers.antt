-- `address` is the rule's: its table is table_d, of numbers below 32.
use mathlib.Core.Path.{◌≡◌, sym, ap, ◌∙◌}
use Prim.Native.Nat.{ℕ, ◌+◌, ◌*◌, ◌/◌, ◌%◌, ◌≤◌, ◌<◌}
use native.Mathlib.Nat.{mul-le-mul, le-pred_of_lt}
use native.Mathlib.Omega.{arith}
use lib.Dec.{ltb}
use lib.Dec.{ltb→lt}
use Rattle.rules.specs.Bits.{row}
use Rattle.rules.specs.Kept as keeping
use Rattle.rules.specs.Interleaver.{table_d, address}
use Rattle.laws.specs.Every.{every-at}
use Rattle.interleaver.proofs.address.Goals as goal

small : (i : ℕ) → i < 32 → row table_d i < 32
small i lt = ltb→lt _ _ (every-at 32 (λ i. ltb (row table_d i) 32) tt i lt)

pub overflow_mul-result-2 : goal.overflow_mul-result-2
overflow_mul-result-2 c =
    let m : ℕ = c.args.m in
    let i = c.from-at.result in
    let product : row table_d i * (m / 32 + 1) ≤ 31 * 32 = mul-le-mul {m₂ = 32} (le-pred_of_lt (small i (omega arith))) (omega arith) in
    omega arith

pub returns : goal.returns
unfolding address
returns c =
    let m : ℕ = c.args.m in
    let e : c.from-at.result ≡ m % 32 = omega arith in
    rw (← e)
    (ap (λ (r : ℕ). 32 * r + row table_d c.from-at.result * (m / 32 + 1) % 32) (c.reversed.ensures ∙ ap (keeping.reversed 5) (sym e)))
