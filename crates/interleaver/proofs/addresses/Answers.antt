-- `addresses` fills the addresses in turn: where the loop stands, the rule's next counter is that of address i.
use mathlib.Core.Path.{◌≡◌, refl, ap, ◌∙◌}
use Prim.Native.Nat.{ℕ, suc, ◌+◌, ◌<◌}
use native.Mathlib.Numerals.{add-one}
use native.Mathlib.Omega.{arith}
use mathlib.Core.List.{List}
use lib.ListN.{get_or, set, length-set}
use lib.Seq.{get_or-set_same, get_or-set_other}
use borrow.Author.Count.{below_more}
use Rattle.rules.specs.Bits.{row}
use Rattle.rules.specs.Kept.{next_kept, counter}
use Rattle.rules.specs.Interleaver.{table_d, address, interleaved}
use Rattle.interleaver.proofs.Interleaving.{counter5-lt}
use Rattle.interleaver.proofs.addresses.Invariants.{Filled}
use Rattle.interleaver.proofs.addresses.Goals as goal

-- one turn stores the address a of counter m
filled_more :
    {out : List ℕ} {from i : ℕ} (a m : ℕ) → Filled out from i → i < 994 → m ≡ next_kept (address 5 (row table_d)) 994 1024 from
    → a ≡ address 5 (row table_d) m → Filled (set out i a) (m + 1) (i + 1)
unfolding counter interleaved
filled_more {out} {from} {i} a m f lt em ea =
    record {
      most = omega arith;
      next = rw (add-one m, add-one i) (ap (λ (x : ℕ). next_kept (address 5 (row table_d)) 994 1024 (suc x)) at);
      long = length-set out i a ∙ f.long;
      each = below_more (λ k. get_or (set out i a) k 0 ≡ interleaved 5 (row table_d) 994 k) i
          (λ k l. get_or-set_other out i k a 0 (omega arith) ∙ f.each k l)
          (get_or-set_same out i a 0 (omega (arith, f.long)) ∙ ea ∙ ap (address 5 (row table_d)) at);
    }
  where
    at : m ≡ counter (address 5 (row table_d)) 1024 994 i
    at = em ∙ f.next

pub loop-address-init : goal.loop-address-init
unfolding counter
loop-address-init c = record { most = omega arith; next = refl; long = refl; each = λ k lt. absurd (omega arith) }

pub next_kept-kept-requires : goal.next_kept-kept-requires
next_kept-kept-requires c = omega (arith, counter5-lt c.loop-address.address-index (omega arith))

pub overflow_add-from : goal.overflow_add-from
overflow_add-from c = omega (arith, counter5-lt c.loop-address.address-index (omega arith))

pub loop-address-preserved : goal.loop-address-preserved
loop-address-preserved c =
    filled_more _ _ c.loop-address.invariant (omega arith) c.next_kept-kept.ensures.0 c.next_kept-kept.ensures.1

pub returns : goal.returns
returns c = record { long = c.loop-address.invariant.long; each = λ k lt. c.loop-address.invariant.each k (omega arith) }
