-- Req 07: at the floor +0.0 every decision is as before, the doubtful parts are exactly the weak ones, and none that is sent is among them.
use Rattle.rules.specs.Demands.{WeakCells}
use Rattle.laws.specs.Decisions.{sent-lt}
use Rattle.laws.specs.Doubt.{doubtful-parts}
use Rattle.laws.specs.Floorless.{as_before}
use Rattle.modes.proofs.Figures.{figures}
use Rattle.profile.proofs.InRange.{good-level}

pub weak-cells : WeakCells
weak-cells =
    record {
      as_before = as_before;
      doubtful_exactly = λ P a t. doubtful-parts _ P.level P.floor a (figures P.mode).part (good-level P t);
      never_sent = λ P s t bits. sent-lt _ P.level P.floor s (figures P.mode).part (good-level P t) bits;
    }
