-- However a grid was cut into pieces, to ask at the end is to receive it whole.
use mathlib.Core.Path.{◌≡◌, sym, ◌∙◌, ap}
use mathlib.Core.List.{List}
use Prim.Native.Nat.{ℕ, ◌*◌}
use native.Mathlib.Omega.{arith}
use lib.Ieee.{Float}
use lib.ListN.{length}
use borrow.Author.Tests.{eq-eqb, le-ltb}
use Rattle.rules.specs.Modes.{symbols}
use Rattle.rules.specs.Block.{early, silence, ReceiveRule}
use Rattle.rules.specs.Pieces.{seen, cell_in, asking, FeedRule, Fed, AskRule}
use Rattle.rules.specs.Answers.{Answer}
use Rattle.rules.specs.declared.Profile.{Profile}
use Rattle.rules.specs.declared.Receipt.{Receipt}
use Rattle.receiving.proofs.Judgement.{kept-judged}
use Rattle.receiving.proofs.States.{is_state_lem, passes}
use Rattle.receiving.proofs.Fed.{Left, fed_left, left_state}

pub any_cutting : (P : Profile) (marks : ℕ) (f s : List Float) (state before after : List ℕ) (a : Receipt)
    → Fed (FeedRule P) f s state
    → length f ≡ 4096 * symbols P.mode
    → AskRule P marks state before after a
    → ReceiveRule P marks f s before after a
any_cutting P marks f s state before after a h all r =
    record {
      refused = λ ne.
          let q = r.refused (λ z. ne (sym (ap (λ (x : Answer). x.number) same) ∙ z)) in
          (q.0 ∙ ap silence same, q.1);
      judged = λ z. kept-judged P marks (cell_in state) f s (λ c lt. w.come c (omega arith)) (r.judged (ap (λ (x : Answer). x.number) same ∙ z));
    }
  where
    cells : ℕ
    cells = 4096 * symbols P.mode

    w : Left P f s state
    w = fed_left P h

    same : asking P state (length before) ≡ early P (length before) (length f) (length s) cells
    same =
        rw (
          sym (passes P.mode state ((is_state_lem P.mode state).0 (left_state P w))),
          eq-eqb (length f) cells all,
          eq-eqb (length s) cells (w.seconds ∙ all),
          le-ltb (seen state) cells (omega (arith, w.firsts)),
        )
