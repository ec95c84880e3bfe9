-- `ended` writes the ends of two streams: before turn k, k elements of each.
use mathlib.Core.Path.{◌≡◌}
use Prim.Native.Nat.{ℕ, ◌+◌, ◌≤◌}
use Rattle.rules.specs.Bits.{row}
use Rattle.rules.specs.Turbo.{feedback, parity_of}
use Rattle.laws.specs.Holds.{Holds}
use Rattle.turbo.specs.Within.{within, after_zeros}
use Rattle.turbo.proofs.ended.Given as goal

abbrev pub last_x : ℕ → ℕ → ℕ
last_x s k = feedback (after_zeros s k)

abbrev pub last_y0 : ℕ → ℕ → ℕ
last_y0 s k = parity_of 0 (after_zeros s k)

abbrev pub invariant-loop-k : goal.invariant-loop-k
invariant-loop-k l =
    (l.k ≤ 3)
    × (l.state.bits ≡ after_zeros l.fn.register.bits l.k)
    × Holds 0 3988 (within (l.base + 994) l.k (last_x l.fn.register.bits) (within (l.base + 1991) l.k (last_y0 l.fn.register.bits) (row l.initial.s))) l.s
