-- What the program keeps while it adds up reports.
use Rattle.std.specs.Prelude.{◌≡◌, List, ℕ}
use Rattle.rules.specs.Totals.{is_block, how_often, AddRule, Summed}
use Rattle.rules.specs.declared.Receipt.{Receipt}

-- what was added up: the totals, and the number of blocks
pub record Added : Type 0 where
  pub totals : List ℕ
  pub blocks : ℕ

-- The totals after receipts were added one by one, and the number of blocks among those that were taken.
pub record Month (totals : List ℕ) (blocks : ℕ) : Type 0 where
  pub taken : List Receipt
  pub summed : Summed AddRule taken totals
  pub counted : blocks ≡ how_often is_block taken
