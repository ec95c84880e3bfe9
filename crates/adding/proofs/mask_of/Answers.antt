-- There is room for the bit.
use Prim.Native.Nat.{ℕ, suc, ◌≤◌, ◌^◌}
use native.Mathlib.Omega.{arith}
use lib.Pow.{pow_mono}
use Rattle.rules.specs.Bits.{row}
use Rattle.laws.specs.Mask.{mask_lt}
use Rattle.adding.proofs.mask_of.Goals as goal

room : (p : ℕ) → suc p ≤ 16 → 2 ^ suc p ≤ 65536
room p h = pow_mono h

pub overflow_add-lost : goal.overflow_add-lost
overflow_add-lost c =
    let l = c.loop-p in
    omega (arith, room l.p (omega arith), l.invariant.1, mask_lt (row c.args.reasons) l.p)
