-- The steps together: the block's packets, coded and scrambled, are the sent bits.
use mathlib.Core.Path.{◌≡◌, sym, ◌∙◌, ap}
use mathlib.Core.List.{List}
use Prim.Native.Nat.{ℕ, ◌+◌, ◌*◌, ◌/◌, ◌%◌, ◌<◌}
use native.Mathlib.Nat.{mod-lt, div-lt_iff_lt-mul, div-add-mod}
use native.Mathlib.Omega.{arith}
use Rattle.rules.specs.Bits.{row}
use Rattle.rules.specs.Packet.{packet_bit}
use Rattle.rules.specs.Modes.{packet_bits, slots, slot_bits}
use Rattle.rules.specs.Slots.{block_bit}
use Rattle.rules.specs.Block.{packet, scrambler, sent_bit, unscrambled}
use Rattle.rules.specs.declared.Profile.{Profile}
use Rattle.laws.specs.Holds.{Holds}
use Rattle.laws.specs.Filled.{up_to-below}
use Rattle.modes.proofs.Figures.{figures, block-most}
use Rattle.packet.proofs.Bits.{packet-same, packet-bit-lt}
use Rattle.turbo.specs.Blocks.{coded_row}
use Rattle.turbo.proofs.Modes.{coded-same, coded-bit}
use Rattle.slots.proofs.Twice.{unscrambled-bit}
use Rattle.block.specs.Steps.{scrambled_row}

-- the list has the block's bits, slot after slot
abbrev pub SentRow : Profile → List ℕ → List ℕ → Type 0
SentRow P d b = (g : ℕ) → g < slot_bits P.mode * slots P.mode → row b g ≡ sent_bit P d (g / slot_bits P.mode) (g % slot_bits P.mode)

module _ (P : Profile) (d block bits out : List ℕ)
    (packets : (p j : ℕ) → p < 16 → j < 122 → row block (122 * p + j) ≡ packet P.k d p j)
    (plain : Holds 0 48000 (coded_row P.mode (packet_bits P.mode * 16) block) bits)
    (made : Holds 0 48000 (scrambled_row (slot_bits P.mode) P.seeds P.masks (slot_bits P.mode * slots P.mode) (row bits)) out) where
  abbrev m : ℕ
  m = P.mode

  abbrev b : ℕ → ℕ
  b = block_bit m (packet P.k d)

  -- coding goes by the packets
  plain-bit : (g : ℕ) → g < slot_bits m * slots m → row bits g ≡ b g
  plain-bit g lt =
      let f = figures m in
      let some : 0 < packet_bits m = omega (arith, f.least) in
      let p<16 : g / packet_bits m < 16 = (div-lt_iff_lt-mul {y = 16} some).1 (omega (arith, f.whole)) in
      plain.each g (omega (arith, block-most m))
      ∙ up_to-below (block_bit m (λ p j. row block (122 * p + j))) (λ i. 0) (packet_bits m * 16) g (omega (arith, f.whole))
      ∙ coded-same m _ _ (λ i lt. packet-same _ _ (λ j j<122. packets (g / packet_bits m) j p<16 j<122) i) (g % packet_bits m) (mod-lt g some)

  b_lt : (g : ℕ) → b g < 2
  b_lt g =
      coded-bit m (packet_bit (packet P.k d (g / packet_bits m))) (λ i lt. packet-bit-lt (packet P.k d (g / packet_bits m)) i)
      (g % packet_bits m) (mod-lt g (omega (arith, (figures m).least)))

  -- bit g of a scrambled slot
  abbrev added : ℕ → ℕ
  added g = unscrambled (row bits g) (scrambler P (g / slot_bits m) (g % slot_bits m))

  added_is : (g : ℕ) → g < slot_bits m * slots m → added g ≡ sent_bit P d (g / slot_bits m) (g % slot_bits m)
  unfolding sent_bit
  added_is g lt =
      ap (λ (x : ℕ). unscrambled x (scrambler P (g / slot_bits m) (g % slot_bits m))) (plain-bit g lt) ∙ unscrambled-bit (b g) _ (b_lt g)
      ∙ ap (λ (i : ℕ). (b i + scrambler P (g / slot_bits m) (g % slot_bits m)) % 2) (sym (div-add-mod g (slot_bits m)))

  pub sent-row : SentRow P d out
  sent-row g lt = made.each g (omega (arith, block-most m)) ∙ up_to-below added (row bits) (slot_bits m * slots m) g lt ∙ added_is g lt
