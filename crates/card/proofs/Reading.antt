-- When receiving reads the cells, what it leaves where it doesn't, and that it looks at the block's own cells only.
use mathlib.Core.Path.{◌≡◌, refl, sym, ap, ap₂, ◌∙◌}
use mathlib.Core.List.{List}
use mathlib.Core.Logic.{◌↔◌}
use Prim.Native.Nat.{ℕ, ◌*◌, ◌/◌, ◌%◌, ◌<◌}
use lib.Dec.{T}
use lib.Ieee.{Float}
use lib.ListN.{length, replicate}
use Rattle.rules.specs.Modes.{slot_bits, slots, symbols}
use Rattle.rules.specs.Profile.{faultless}
use Rattle.rules.specs.Answers.{has_read}
use Rattle.rules.specs.Block.{early, heard, decided, silence, Accepted, Answered, ReceiveRule}
use Rattle.rules.specs.Answers.{Answer}
use Rattle.rules.specs.declared.Profile.{Profile}
use Rattle.rules.specs.declared.Receipt.{Receipt}
use Rattle.modes.proofs.Figures.{in-slot}
use Rattle.profile.proofs.AtFault.{or-unread}
use Rattle.block.proofs.Passed.{early-right}
use Rattle.receiving.proofs.Judgement.{again, judged-same}
use Rattle.receiving.proofs.Fed.{delivered-read, read_first}
use Rattle.card.proofs.Names.{lengths-each}
use Rattle.card.proofs.OneAnswer.{one_receipt}

-- of the numbers that come first only 0 is one at which the cells are read
early-read : (P : Profile) (bytes firsts seconds cells : ℕ)
    → ¬ ((early P bytes firsts seconds cells).number ≡ 0)
    → ¬ T (has_read (early P bytes firsts seconds cells).number)
early-read P bytes firsts seconds cells =
    or-unread P _ (lengths-each (λ n. ¬ (n ≡ 0) → ¬ T (has_read n)) (λ ne t. t) (λ ne t. t) (λ ne t. ne refl) P.k bytes firsts seconds cells)

-- where no cells are read, nothing is said of the packets
pub nothing_accepted : (P : Profile) (marks : ℕ) (n : Answer) (v : ℕ → ℕ) (before after : List ℕ) (a : Receipt)
    → Answered P marks n v before after a
    → ¬ T (has_read a.number)
    → (a.lost ≡ 0) × (a.reasons ≡ replicate 16 0) × ((p : ℕ) → ¬ Accepted a p)
nothing_accepted P marks n v before after a r ne =
    let e = (r.refused (λ z. ne (delivered-read (r.judged z).delivered))).0 in
    (ap (λ (b : Receipt). b.lost) e, ap (λ (b : Receipt). b.reasons) e, λ p x. ne x.0)

pub reads : (P : Profile) (marks : ℕ) (f s : List Float) (before after : List ℕ) (a : Receipt)
    → ReceiveRule P marks f s before after a
    → T (has_read a.number)
    ↔ (T (faultless P) × (length before ≡ 122 * P.k) × (length f ≡ 4096 * symbols P.mode) × (length s ≡ 4096 * symbols P.mode))
reads P marks f s before after a r =
    let iff = early-right P (length before) (length f) (length s) (4096 * symbols P.mode) in (
      (λ t. iff.0 (read_first r (early-read P (length before) (length f) (length s) (4096 * symbols P.mode)) t)),
      λ q. delivered-read (r.judged (iff.1 q)).delivered,
    )

module _ (P : Profile) (marks : ℕ) (f s f' s' : List Float) (before : List ℕ) (firsts : length f ≡ length f') (seconds : length s ≡ length s')
    (alike : (t i : ℕ) → t < slots P.mode → i < slot_bits P.mode → heard P f s t i ≡ heard P f' s' t i) where
  -- what is answered to the one grid is an answer to the other
  received_as : (after : List ℕ) (a : Receipt) → ReceiveRule P marks f s before after a → ReceiveRule P marks f' s' before after a
  unfolding decided
  received_as after a r =
      record {
        refused = λ ne.
            let q = r.refused (λ z. ne (sym (ap (λ (x : Answer). x.number) same) ∙ z)) in
            (q.0 ∙ ap silence same, q.1);
        judged = λ z. judged-same P marks (decided P f s) (decided P f' s') bit (r.judged (ap (λ (x : Answer). x.number) same ∙ z));
      }
    where
      same : early P (length before) (length f) (length s) (4096 * symbols P.mode)
          ≡ early P (length before) (length f') (length s') (4096 * symbols P.mode)
      same = ap₂ (λ (x y : ℕ). early P (length before) x y (4096 * symbols P.mode)) firsts seconds

      bit : (g : ℕ) → g < slot_bits P.mode * slots P.mode → decided P f s g ≡ decided P f' s' g
      bit g lt =
          let w = in-slot P.mode g lt in
          again P g (alike (g / slot_bits P.mode) (g % slot_bits P.mode) w.0 w.1)

  pub own_cells : (after after' : List ℕ) (a a' : Receipt)
      → ReceiveRule P marks f s before after a
      → ReceiveRule P marks f' s' before after' a'
      → (a ≡ a') × (after ≡ after')
  own_cells after after' a a' x y = one_receipt P marks before f' s' after after' a a' (received_as after a x) y
