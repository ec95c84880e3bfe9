-- From the start on, with a receipt more each time: the totals and the number of blocks stay those of receipts that were added one by one.
use Rattle.std.proofs.Common.{◌≡◌, refl, ap, List, [], ◌∷◌, ℕ, ◌+◌, Bool, true, false, arith}
use Rattle.rules.specs.Bits.{pick}
use Rattle.rules.specs.Totals.{is_block, no_totals, AddRule}
use Rattle.rules.specs.Totals.Summed.{start, taken}
use Rattle.rules.specs.declared.Receipt.{Receipt}
use Rattle.totals.specs.Month.{Month}

pub month-start : Month no_totals 0
month-start = record { taken = []; summed = start; counted = refl }

module _ {t t' : List ℕ} {blocks : ℕ} {a : Receipt} (m : Month t blocks) (rule : AddRule t a t' 0) where
  pub month-block : is_block a ≡ true → Month t' (blocks + 1)
  month-block e =
      let one : pick (is_block a) 1 0 ≡ 1 = ap {B = ℕ} (λ (b : Bool). pick b 1 0) e in
      record { taken = a ∷ m.taken; summed = taken m.taken a t t' m.summed rule; counted = omega (arith, m.counted, one) }

  pub month-other : is_block a ≡ false → Month t' blocks
  month-other e =
      let none : pick (is_block a) 1 0 ≡ 0 = ap {B = ℕ} (λ (b : Bool). pick b 1 0) e in
      record { taken = a ∷ m.taken; summed = taken m.taken a t t' m.summed rule; counted = omega (arith, m.counted, none) }
