-- `next_kept` finds the rule's next counter: from the loop's counter, in the turns that are left, the rule finds what it finds from m.
use mathlib.Core.Path.{◌≡◌}
use Prim.Native.Nat.{ℕ, ◌+◌, ◌-◌, ◌<◌}
use Rattle.rules.specs.Bits.{row}
use Rattle.rules.specs.Kept.{next_kept}
use Rattle.rules.specs.Interleaver.{table_d, address}
use Rattle.interleaver.proofs.next_kept.Given as goal

abbrev pub next : ℕ → ℕ → ℕ
next = next_kept (address 5 (row table_d)) 994

-- there is one to find from m, and from i, in the turns that are left, the rule finds the same
pub record Finds (m i : ℕ) : Type 0 where
  pub there : next 1024 m < 1024
  pub same : next (m + 1024 - i) i ≡ next 1024 m

abbrev pub invariant-loop-address : goal.invariant-loop-address
invariant-loop-address l = Finds l.m l.counter

abbrev pub decreases-loop-address : goal.decreases-loop-address
decreases-loop-address l = 1024 - l.counter
