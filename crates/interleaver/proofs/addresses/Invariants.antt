-- `addresses` fills the addresses in turn: where the loop stands, the rule's next counter is that of address i.
use mathlib.Core.Path.{◌≡◌}
use Prim.Native.Nat.{ℕ, ◌≤◌, ◌<◌}
use mathlib.Core.List.{List}
use lib.ListN.{length, get_or}
use Rattle.rules.specs.Bits.{row}
use Rattle.rules.specs.Kept.{next_kept, counter}
use Rattle.rules.specs.Interleaver.{table_d, address, interleaved}
use Rattle.interleaver.proofs.addresses.Given as goal

-- the first i addresses are in, and the counter of the i-th is the next that is kept
pub record Filled (out : List ℕ) (from i : ℕ) : Type 0 where
  pub most : i ≤ 994
  pub next : next_kept (address 5 (row table_d)) 994 1024 from ≡ counter (address 5 (row table_d)) 1024 994 i
  pub long : length out ≡ 994
  pub each : (k : ℕ) → k < i → get_or out k 0 ≡ interleaved 5 (row table_d) 994 k

abbrev pub invariant-loop-address : goal.invariant-loop-address
invariant-loop-address l = Filled l.address-items l.from l.address-index
