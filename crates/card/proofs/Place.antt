-- One packet in its place: its decided bits are the coded bits of some bytes exactly where its cells decide to these, scrambled.
use mathlib.Core.Path.{◌≡◌, sym, ap, ap₂, ◌∙◌}
use mathlib.Core.Bool.{Bool}
use mathlib.Core.List.{List}
use mathlib.Core.Logic.{◌↔◌}
use Prim.Native.Nat.{ℕ, ◌+◌, ◌*◌, ◌/◌, ◌%◌, ◌<◌}
use native.Mathlib.Nat.{add-zero, div-add-mod, div-eq_of_lt, mod-eq_of_lt, mul-add-div, mul-add-mod_self_left}
use native.Mathlib.Decide.{ℕ_discrete}
use native.Mathlib.Omega.{arith}
use lib.Dec.{T}
use lib.Ieee.{Float}
use lib.ListN.{length}
use borrow.Author.Tests.{eq-eqb, ne_eqb}
use Rattle.rules.specs.Bits.{pick}
use Rattle.rules.specs.Packet.{packet_bit}
use Rattle.rules.specs.Outer.{marked}
use Rattle.rules.specs.Modes.{slot_bits, packet_bits, symbols}
use Rattle.rules.specs.Slots.{coded}
use Rattle.rules.specs.Profile.{faultless}
use Rattle.rules.specs.Block.{packet, scrambler, sent_bit, heard, unscrambled, decided, packet_part, verdict, reason, ReceiveRule, Judged}
use Rattle.rules.specs.Demands.{bit_in_place, heard_in_place, sent_in_place, SomePacket}
use Rattle.rules.specs.declared.Profile.{Profile}
use Rattle.rules.specs.declared.Receipt.{Receipt}
use Rattle.packet.proofs.Bits.{packet-bit-lt}
use Rattle.turbo.proofs.Modes.{coded-bit}
use Rattle.turbo.proofs.Accepted.{accepted-coded, coded-accepted}
use Rattle.slots.proofs.Twice.{scrambling-lt, unscrambled-bit, unscrambled-twice}
use Rattle.hearing.proofs.Heard.{heard-lt}
use Rattle.block.proofs.Passed.{early-right}

-- with a faultless profile, and rooms of the right lengths, receiving judges
pub judges : {P : Profile} {marks : ℕ} (f s : List Float) {before after : List ℕ} {a : Receipt}
    → ReceiveRule P marks f s before after a
    → T (faultless P)
    → length before ≡ 122 * P.k
    → length f ≡ 4096 * symbols P.mode
    → length s ≡ 4096 * symbols P.mode
    → Judged P marks (decided P f s) before after a
judges {P} f s {before = before} r t b x y =
    r.judged ((early-right P (length before) (length f) (length s) (4096 * symbols P.mode)).1 (t, b, x, y))

-- ---- scrambled and back

turned : (h s b : ℕ) → h < 3 → s < 2 → b < 2 → unscrambled h s ≡ b → h ≡ (b + s) % 2
turned h s b hh hs hb e = go (ℕ_discrete h 2)
  where
    go : Dec (h ≡ 2) → h ≡ (b + s) % 2
    go (yes q) = absurd (omega (arith, sym (ap (λ (t : Bool). pick t 2 ((h + s) % 2)) (eq-eqb h 2 q)) ∙ e))
    go (no n) = omega (arith, unscrambled-bit h s (omega arith))

-- the decided bits of packet p
abbrev pub part : Profile → List Float → List Float → ℕ → ℕ → ℕ
part P f s p = packet_part P.mode (decided P f s) p

-- and its reason
abbrev pub reason_in : Profile → ℕ → List Float → List Float → ℕ → ℕ
reason_in P marks f s p = reason P.mode (marked marks p) (part P f s p)

-- an unmarked packet's is the verdict on its bits, and a marked one is not accepted
module _ (P : Profile) (marks : ℕ) (f s : List Float) (p : ℕ) where
  pub reason-verdict : ¬ (marked marks p ≡ 1) → reason_in P marks f s p ≡ verdict P.mode (part P f s p)
  unfolding reason
  reason-verdict ne = rw (ne_eqb (marked marks p) 1 ne)

  pub reason-unmarked : reason_in P marks f s p ≡ 0 → ¬ (marked marks p ≡ 1)
  unfolding reason
  reason-unmarked z e = omega (arith, sym (ap (λ (b : Bool). pick b 11 (verdict P.mode (part P f s p))) (eq-eqb (marked marks p) 1 e)) ∙ z)

module _ (P : Profile) (f s : List Float) (p : ℕ) where
  pub part-place : (e : ℕ → ℕ) (i : ℕ) → i < packet_bits P.mode
      → (part P f s p i ≡ coded P.mode (packet_bit e) i) ↔ (heard_in_place P f s p i ≡ bit_in_place P e p i)
  unfolding decided
  part-place e i l =
      let t : ℕ = (packet_bits P.mode * p + i) / slot_bits P.mode in
      let g : ℕ = (packet_bits P.mode * p + i) % slot_bits P.mode in
      let bit : coded P.mode (packet_bit e) i < 2 = coded-bit P.mode (packet_bit e) (λ k h. packet-bit-lt e k) i l in (
        turned (heard P f s t g) (scrambler P t g) (coded P.mode (packet_bit e) i) (heard-lt P f s t g) (scrambling-lt _ _ g) bit,
        λ h. ap (λ (x : ℕ). unscrambled x (scrambler P t g)) h ∙ unscrambled-twice (coded P.mode (packet_bit e) i) (scrambler P t g) bit,
      )

  -- accepted exactly where some packet has the bits
  pub accepted : (verdict P.mode (part P f s p) ≡ 0) ↔ SomePacket P f s p
  accepted = (
    (λ e. let c = accepted-coded P.mode (part P f s p) e in (_, c.0, λ i l. (part-place _ i l).0 (c.1 i l))),
    λ q. coded-accepted P.mode (part P f s p) q.0 (λ i l. (part-place q.0 i l).1 (q.2 i l)),
  )

-- what is sent for packet p of a block
pub sent-place : (P : Profile) (d : List ℕ) (p i : ℕ) → i < packet_bits P.mode → sent_in_place P d p i ≡ bit_in_place P (packet P.k d p) p i
unfolding sent_bit
sent-place P d p i l =
    let L : ℕ = packet_bits P.mode in
    let S : ℕ = slot_bits P.mode in
    let g : ℕ = L * p + i in
    let whole : S * (g / S) + g % S ≡ g = div-add-mod g S in
    let own : g / L ≡ p = mul-add-div (omega (arith, l)) p i ∙ ap (λ (x : ℕ). p + x) (div-eq_of_lt l) ∙ add-zero p in
    let place : g % L ≡ i = mul-add-mod_self_left L p i ∙ mod-eq_of_lt l in
    ap (λ (c : ℕ). (c + scrambler P (g / S) (g % S)) % 2)
    (ap (λ (x : ℕ). coded P.mode (packet_bit (packet P.k d (x / L))) (x % L)) whole
    ∙ ap₂ (λ (a b : ℕ). coded P.mode (packet_bit (packet P.k d a)) b) own place)
