-- What is judged goes by the block's own bits alone; and the packets' judgements, with what the outer code makes of them, are the block's.
use mathlib.Core.Path.{◌≡◌, sym, ◌∙◌, ap}
use mathlib.Core.Bool.{Bool}
use mathlib.Core.List.{List}
use Prim.Native.Nat.{ℕ, ◌+◌, ◌*◌, ◌/◌, ◌%◌, ◌<◌}
use native.Mathlib.Omega.{arith}
use lib.Ieee.{Float}
use borrow.Author.Tests.{eq-eqb}
use Rattle.rules.specs.Bits.{pick, row}
use Rattle.rules.specs.Outer.{column, marked}
use Rattle.rules.specs.Modes.{packet_bits, slot_bits, slots, symbols}
use Rattle.rules.specs.Block.{packet_part, decided_data, byte_of, scrambler, unscrambled, understood, in_block, decided, Delivered, Judged}
use Rattle.rules.specs.Pieces.{byte_at, kept_bit}
use Rattle.rules.specs.declared.Profile.{Profile}
use Rattle.rules.specs.declared.Receipt.{Receipt}
use Rattle.laws.specs.Holds.{Holds}
use Rattle.laws.specs.Filled.{up_to-below}
use Rattle.laws.specs.Mask.{mask-same, mask-kept}
use Rattle.hearing.proofs.Reading.{kept-heard, kept_same}
use Rattle.modes.proofs.Figures.{block-most, in-block, in-slot}
use Rattle.turbo.specs.Blocks.{reason_at, kept_at, WeighedTo}
use Rattle.turbo.proofs.Weighing.{bytes_same, reason-same, kept-at}
use Rattle.block.specs.Steps.{scrambled_row}
use Rattle.receiving.specs.Steps.{KeptBits}

-- delivering goes by the packets that aren't lost
pub delivered-same : {k lost n : ℕ} {f g : ℕ → ℕ → ℕ} {before after : List ℕ}
    → ((p j : ℕ) → p < 16 → j < 122 → marked lost p ≡ 0 → f p j ≡ g p j)
    → Delivered k lost f before after n
    → Delivered k lost g before after n
delivered-same e (Delivered.whole few w words long each) =
    Delivered.whole few w (λ j l. ((words j l).0, λ p q z. (words j l).1 p q z ∙ e p j q l z)) long each
delivered-same e (Delivered.too_many more kept) = Delivered.too_many more kept
delivered-same e (Delivered.no_codeword few j l none kept) =
    Delivered.no_codeword few j l (λ c word agree. none c word (λ p q z. agree p q z ∙ sym (e p j q l z))) kept

-- ---- the whole block

-- a bit said in another way is unscrambled alike
pub again : (P : Profile) (g : ℕ) {x y : ℕ} → x ≡ y
    → unscrambled x (scrambler P (g / slot_bits P.mode) (g % slot_bits P.mode))
    ≡ unscrambled y (scrambler P (g / slot_bits P.mode) (g % slot_bits P.mode))
again P g = ap (λ (b : ℕ). unscrambled b (scrambler P (g / slot_bits P.mode) (g % slot_bits P.mode)))

module _ (P : Profile) (marks : ℕ) {before after : List ℕ} {a : Receipt} where
  -- judging goes by the block's own bits
  pub judged-same : (v w : ℕ → ℕ)
      → ((g : ℕ) → g < slot_bits P.mode * slots P.mode → v g ≡ w g)
      → Judged P marks v before after a
      → Judged P marks w before after a
  judged-same v w same h =
      record {
        place_is = h.place_is;
        reasons_long = h.reasons_long;
        reasons_are = λ p q. h.reasons_are p q ∙ reason-same P.mode (old p) (new p) (here p q) (marked marks p);
        lost_is = h.lost_is;
        delivered = delivered-same (λ p j q l z. bytes_same P.mode (old p) (new p) (here p q) j l) h.delivered;
      }
    where
      old : ℕ → ℕ → ℕ
      old = packet_part P.mode v

      new : ℕ → ℕ → ℕ
      new = packet_part P.mode w

      here : (p : ℕ) → p < 16 → (i : ℕ) → i < packet_bits P.mode → old p i ≡ new p i
      here p q i lt = same (packet_bits P.mode * p + i) (in-block P.mode p i q lt)

  -- the reasons, the lost mask and the block of accepted packets make the judgement, with what the outer code makes of them
  pub weighed-judged : (v : ℕ → ℕ) (block : List ℕ)
      → WeighedTo 16 P.mode marks v a.lost a.reasons block
      → Delivered P.k a.lost (λ p j. column block j p) before after a.number
      → a.place ≡ 0
      → Judged P marks v before after a
  weighed-judged v block s d place =
      record {
        place_is = place;
        reasons_long = s.reasons_are.long;
        reasons_are = reasons;
        lost_is = s.lost_is ∙ sym (mask-same 16 reasons);
        delivered = delivered-same bytes d;
      }
    where
      r : ℕ → ℕ
      r = reason_at P.mode marks v

      byte : ℕ → ℕ → ℕ
      byte p = byte_of (decided_data P.mode (packet_part P.mode v p))

      reasons : (p : ℕ) → p < 16 → row a.reasons p ≡ r p
      reasons p q = s.reasons_are.each p q ∙ up_to-below r (λ k. 0) 16 p q

      bytes : (p j : ℕ) → p < 16 → j < 122 → marked a.lost p ≡ 0 → column block j p ≡ byte p j
      bytes p j q l z =
          let none : r p ≡ 0 = mask-kept r 16 p q (ap (λ (n : ℕ). marked n p) (sym s.lost_is) ∙ z) in
          s.block_is.each (122 * p + j) (omega arith) ∙ up_to-below (kept_at P.mode marks v) (λ g. 0) 1952 (122 * p + j) (omega arith)
          ∙ kept-at P.mode marks p j v l ∙ ap (λ (b : Bool). pick b (byte p j) 0) (eq-eqb (r p) 0 none)

  -- the bits that were judged are those that came, unscrambled
  pub scrambled-judged : (bits plain : List ℕ)
      → Holds 0 48000 (scrambled_row (slot_bits P.mode) P.seeds P.masks (slot_bits P.mode * slots P.mode) (row bits)) plain
      → Judged P marks (row plain) before after a
      → Judged P marks (understood P (row bits)) before after a
  scrambled-judged bits plain h =
      judged-same (row plain) (understood P (row bits))
      (λ g lt. h.each g (omega (arith, block-most P.mode))
      ∙ up_to-below (understood P (row bits)) (row bits) (slot_bits P.mode * slots P.mode) g lt)

  -- the block's bits that were read from the cells' bytes
  pub read-judged : (cells bits : List ℕ)
      → KeptBits P.mode cells bits
      → Judged P marks (understood P (row bits)) before after a
      → Judged P marks (understood P (in_block P.mode (kept_bit P.mode (row cells)))) before after a
  read-judged cells bits h =
      judged-same (understood P (row bits)) (understood P (in_block P.mode (kept_bit P.mode (row cells)))) (λ g lt. again P g (h g lt))

  -- where each byte is what its cell decides to, the bits are those that the grid's cells decide to
  pub kept-judged : (cells : ℕ → ℕ) (f s : List Float)
      → ((c : ℕ) → c < 4096 * symbols P.mode → cells c ≡ byte_at P f s c)
      → Judged P marks (understood P (in_block P.mode (kept_bit P.mode cells))) before after a
      → Judged P marks (decided P f s) before after a
  unfolding decided
  kept-judged cells f s each =
      judged-same (understood P (in_block P.mode (kept_bit P.mode cells))) (decided P f s)
      (λ g lt. again P g (kept-heard P cells f s each (g / slot_bits P.mode) (g % slot_bits P.mode) (in-slot P.mode g lt).0 (in-slot P.mode g lt).1))

  -- the same bytes said in another way
  pub cells-judged : (cells cells' : ℕ → ℕ)
      → ((c : ℕ) → c < 4096 * symbols P.mode → cells c ≡ cells' c)
      → Judged P marks (understood P (in_block P.mode (kept_bit P.mode cells))) before after a
      → Judged P marks (understood P (in_block P.mode (kept_bit P.mode cells'))) before after a
  cells-judged cells cells' each =
      judged-same (understood P (in_block P.mode (kept_bit P.mode cells))) (understood P (in_block P.mode (kept_bit P.mode cells')))
      (λ g lt. again P g (kept_same cells cells' P.mode each (g / slot_bits P.mode) (g % slot_bits P.mode) (in-slot P.mode g lt).0 (in-slot P.mode g lt).1))
