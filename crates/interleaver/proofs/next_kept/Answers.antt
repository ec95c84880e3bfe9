-- `next_kept` finds the rule's next counter: from the loop's counter, in the turns that are left, the rule finds what it finds from m.
use mathlib.Core.Path.{◌≡◌, sym, ap, ap₂, ◌∙◌}
use Prim.Native.Nat.{ℕ, suc, ◌+◌, ◌-◌, ◌≤◌, ◌<◌}
use native.Mathlib.Omega.{arith}
use borrow.Author.Tests.{lt-ltb, le-ltb}
use Rattle.rules.specs.Bits.{row}
use Rattle.rules.specs.Interleaver.{table_d, address}
use Rattle.interleaver.proofs.Interleaving.{next_here, next-later, next_le}
use Rattle.interleaver.proofs.next_kept.Invariants.{next, Finds}
use Rattle.interleaver.proofs.next_kept.Goals as goal

module _ {m i : ℕ} (f : Finds m i) where
  below : i < 1024
  below = omega (arith, next_le 5 (row table_d) 994 (m + 1024 - i) i)

  one_left : next (suc (m + 1023 - i)) i ≡ next 1024 m
  one_left = let e : suc (m + 1023 - i) ≡ m + 1024 - i = omega (arith, below) in ap (λ (t : ℕ). next t i) e ∙ f.same

  here : address 5 (row table_d) i < 994 → i ≡ next 1024 m
  here lt = sym (next_here 5 (row table_d) 994 (m + 1023 - i) i (lt-ltb _ _ lt)) ∙ one_left

  later : 994 ≤ address 5 (row table_d) i → Finds m (i + 1)
  later le =
      record {
        there = f.there;
        same = ap₂ next e g ∙ sym (next-later 5 (row table_d) 994 (m + 1023 - i) i (le-ltb _ _ le)) ∙ one_left;
      }
    where
      e : m + 1024 - (i + 1) ≡ m + 1023 - i
      e = omega arith

      g : i + 1 ≡ suc i
      g = omega arith

pub loop-address-init : goal.loop-address-init
loop-address-init c =
    let e : c.args.m + 1024 - c.args.m ≡ 1024 = omega arith in
    record { there = c.requires; same = ap (λ (t : ℕ). next t c.args.m) e }

pub address-address-requires : goal.address-address-requires
address-address-requires c = below c.loop-address.invariant

pub overflow_add-counter : goal.overflow_add-counter
overflow_add-counter c = omega (arith, below c.loop-address.invariant)

pub loop-address-smaller : goal.loop-address-smaller
loop-address-smaller c = omega (arith, below c.loop-address.invariant)

pub loop-address-preserved : goal.loop-address-preserved
loop-address-preserved c = later c.loop-address.invariant (omega arith)

pub returns : goal.returns
returns c = (here c.loop-address.invariant (omega arith), c.address-address.ensures)
