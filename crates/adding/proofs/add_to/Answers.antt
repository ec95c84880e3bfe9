-- No block, and a block that is taken.
use mathlib.Core.Path.{◌≡◌, refl, sym}
use lib.Dec.{T}
use lib.ListN.{length}
use Rattle.rules.specs.Totals.{plus, fits, agrees}
use Rattle.adding.proofs.Counting.{plus_none}
use Rattle.adding.proofs.Numbers.{number-no-block, taken-block}
use Rattle.adding.proofs.add_to.Goals.{In_ok-check}
use Rattle.adding.proofs.add_to.Goals as goal

taken : (c : In_ok-check)
    → (length c.args.totals.now ≡ 128) × T (agrees c.in-Some.block.receipt) × T (fits (plus c.args.totals.now c.in-Some.block.receipt))
taken c = taken-block _ _ c.in-Some.block.received (sym c.in_ok-check.ensures.number)

pub returns-in_default : goal.returns-in_default
returns-in_default c =
    record { number = sym (number-no-block _ _ c.in_default.ensures); added = λ z. sym (plus_none _ _ c.in_default.ensures); kept = λ ne. absurd (ne refl) }

pub raise-requires-clause-long : goal.raise-requires-clause-long
raise-requires-clause-long c = (taken (goal.at.raise-requires-clause-long c).In_ok-check).0

pub raise-requires-clause-room : goal.raise-requires-clause-room
raise-requires-clause-room c = (taken (goal.at.raise-requires-clause-room c).In_ok-check).2
