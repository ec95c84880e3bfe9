-- One packet after the other is judged; what is judged goes by the packet's own bits alone.
use mathlib.Core.Path.{◌≡◌, refl, sym, ◌∙◌, ap, ap₂}
use mathlib.Core.Bool.{Bool, false}
use mathlib.Core.List.{List}
use Prim.Native.Nat.{ℕ, ◌+◌, ◌-◌, ◌*◌, ◌^◌, ◌<◌, ◌≤◌}
use native.Mathlib.Decide.{dec_lt}
use borrow.Author.Tests.{ne_eqb}
use native.Mathlib.Omega.{arith}
use lib.Dec.{eqb, ltb}
use lib.ListN.{length, set, replicate, get_or-replicate}
use Rattle.rules.specs.Bits.{pick, row}
use Rattle.rules.specs.Outer.{marked}
use Rattle.rules.specs.Points.{doubtful}
use Rattle.rules.specs.Modes.{packet_bits}
use Rattle.rules.specs.Slots.{coded}
use Rattle.rules.specs.Block.{packet_part, decided_data, byte_of, verdict, reason}
use Rattle.std.specs.Prelude.{Err}
use Rattle.rules.specs.Answers.{Judgement, reason_number, judgement_of}
use Rattle.rules.specs.declared.Reason.{Reason}
use Rattle.rules.specs.declared.Reason.TheVariants.{Marked, Doubtful, CheckWord, Reserved, Coded}
use Rattle.laws.specs.Holds.{Holds, holds_as}
use Rattle.laws.specs.Every.{every-same}
use Rattle.laws.specs.Filled.{up_to, up_to-below, up_to-from, holds-next, holds-skip, holds-new}
use Rattle.laws.specs.Mask.{mask_lt, mask_next}
use Rattle.laws.specs.Parts.{put_part, part-number, part-place, holds-part}
use Rattle.packet.proofs.Bits.{check-same, reserved-same, byte-same}
use Rattle.turbo.specs.Blocks.{kept_byte, reason_at, kept_at, Weighed, WeighedTo}
use Rattle.turbo.proofs.Modes.{sent-lt, coded-same}
use Rattle.turbo.proofs.Accepted.{verdict-by}

module _ (m : ℕ) (v w : ℕ → ℕ) (same : (i : ℕ) → i < packet_bits m → v i ≡ w i) where
  data-same : (i : ℕ) → i < 994 → decided_data m v i ≡ decided_data m w i
  data-same i lt = same _ (sent-lt m i lt)

  pub bytes_same : (j : ℕ) → j < 122 → byte_of (decided_data m v) j ≡ byte_of (decided_data m w) j
  bytes_same = byte-same (decided_data m v) (decided_data m w) data-same

  verdict-same : verdict m v ≡ verdict m w
  verdict-same =
      sym (verdict-by m v refl refl refl refl)
      ∙ verdict-by m w
      (every-same (packet_bits m) (λ i. ltb (w i) doubtful) (λ i. ltb (v i) doubtful) (λ i lt. ap (λ (n : ℕ). ltb n doubtful) (sym (same i lt))))
      (sym (check-same (decided_data m v) (decided_data m w) data-same)) (sym (reserved-same (decided_data m v) (decided_data m w) data-same))
      (every-same (packet_bits m) (λ i. eqb (w i) (coded m (decided_data m w) i)) (λ i. eqb (v i) (coded m (decided_data m v) i))
      (λ i lt. sym (ap₂ eqb (same i lt) (coded-same m (decided_data m v) (decided_data m w) data-same i lt))))

  pub reason-same : (mark : ℕ) → reason m mark v ≡ reason m mark w
  unfolding reason
  reason-same mark = ap (pick (eqb mark 1) 11) verdict-same

-- ---- packet after packet

-- byte j of packet p of the block
pub kept-at : (m marks p j : ℕ) (v : ℕ → ℕ) → j < 122 → kept_at m marks v (122 * p + j) ≡ kept_byte m (marked marks p) (packet_part m v p) j
kept-at m marks p j v l =
    ap₂ (λ (q i : ℕ). kept_byte m (marked marks q) (packet_part m v q) i) (part-number 122 p j l) (part-place 122 p j l)

pub weighed-none : (m marks : ℕ) (v : ℕ → ℕ) → WeighedTo 0 m marks v 0 (replicate 16 0) (replicate 1952 0)
weighed-none m marks v =
    record { reasons_are = holds-new 16 (reason_at m marks v); lost_is = refl; block_is = holds-new 1952 (kept_at m marks v) }

-- there is room for the next packet's bit
pub weighed-lt : (p m marks : ℕ) (v : ℕ → ℕ) {lost : ℕ} {reasons block : List ℕ} → WeighedTo p m marks v lost reasons block → lost < 2 ^ p
weighed-lt p m marks v s = rw s.lost_is (mask_lt (reason_at m marks v) p)

-- what stands where a turn writes nothing may be said to be written
holds-more : (f g : ℕ → ℕ) {n : ℕ} {l : List ℕ} (i j : ℕ) → i ≤ j → ((k : ℕ) → i ≤ k → k < j → g k ≡ f k) → Holds 0 n (up_to i f g) l
    → Holds 0 n (up_to j f g) l
holds-more f g i j le same = holds_as 0 (up_to j f g) (λ k lt. at k (dec_lt k i) (dec_lt k j))
  where
    at : (k : ℕ) → Dec (k < i) → Dec (k < j) → up_to i f g k ≡ up_to j f g k
    at k (yes before) b = up_to-below f g i k before ∙ sym (up_to-below f g j k (omega arith))
    at k (no after) (yes before) = up_to-from f g i k (omega arith) ∙ same k (omega arith) before ∙ sym (up_to-below f g j k before)
    at k (no after) (no more) = up_to-from f g i k (omega arith) ∙ sym (up_to-from f g j k (omega arith))

reason-some : (r : Reason) → ¬ (reason_number r ≡ 0)
reason-some Marked e = absurd (omega arith)
reason-some Doubtful e = absurd (omega arith)
reason-some CheckWord e = absurd (omega arith)
reason-some Reserved e = absurd (omega arith)
reason-some Coded e = absurd (omega arith)

module _ (m marks p : ℕ) (v u : ℕ → ℕ) (lt : p < 16) (same : (i : ℕ) → i < packet_bits m → u i ≡ packet_part m v p i) where
  reason-is : (a : Judgement) → Weighed m (marked marks p) u a → a.reason ≡ reason_at m marks v p
  reason-is a w = w.reason_is ∙ reason-same m u (packet_part m v p) same (marked marks p)

  -- byte j of the packet
  byte-is : (a : Judgement) → Weighed m (marked marks p) u a → (j : ℕ) → j < 122 → row a.bytes j ≡ kept_at m marks v (122 * p + j)
  byte-is a w j l =
      w.bytes_are.each j l
      ∙ ap₂ (λ (n b : ℕ). pick (eqb n 0) b 0) (reason-same m u (packet_part m v p) same (marked marks p))
      (bytes_same m u (packet_part m v p) same j l)
      ∙ sym (kept-at m marks p j v l)

  -- packet p is accepted: it gets its bytes
  pub weighed-kept : {lost : ℕ} {reasons block : List ℕ} (e : ℕ) (bytes bytes' : List ℕ)
      → Weighed m (marked marks p) u (record { reason = 0; bytes = bytes })
      → e ≡ 122 * p + 122
      → bytes' ≡ bytes
      → WeighedTo p m marks v lost reasons block
      → WeighedTo (p + 1) m marks v lost reasons (put_part (122 * p) e block bytes')
  weighed-kept {lost} {reasons} {block} e bytes bytes' w end from s =
      record {
        reasons_are = holds-skip (reason_at m marks v) (λ k. 0) 0 p is s.reasons_are;
        lost_is = omega (arith, s.lost_is, mask_next (reason_at m marks v) p, ap (λ (n : ℕ). pick (eqb n 0) 0 (2 ^ p)) is);
        block_is = holds-part 0 (kept_at m marks v) (λ g. 0) 122 p e bytes' end (omega arith) (ap length from ∙ w.bytes_are.long)
            (λ j l. ap (λ (b : List ℕ). row b j) from ∙ byte-is a w j l) s.block_is;
      }
    where
      a : Judgement
      a = record { reason = 0; bytes = bytes }

      is : 0 ≡ reason_at m marks v p
      is = reason-is a w

  -- packet p is lost: its bytes stay zeros
  pub weighed-lost : {lost : ℕ} {reasons block : List ℕ} (r : Reason) (n lost' : ℕ)
      → n ≡ reason_number r
      → Weighed m (marked marks p) u (judgement_of (Err r))
      → lost' ≡ lost + 2 ^ p
      → WeighedTo p m marks v lost reasons block
      → WeighedTo (p + 1) m marks v lost' (set reasons p n) block
  weighed-lost {lost} {reasons} {block} r n lost' e w more s =
      record {
        reasons_are = holds-next (reason_at m marks v) (λ k. 0) 0 p n lt is s.reasons_are;
        lost_is = omega (arith, s.lost_is, mask_next (reason_at m marks v) p, ap (λ (b : Bool). pick b 0 (2 ^ p)) other);
        block_is = holds-more (kept_at m marks v) (λ g. 0) (122 * p) (122 * (p + 1)) (omega arith) each s.block_is;
      }
    where
      a : Judgement
      a = judgement_of (Err r)

      is : n ≡ reason_at m marks v p
      is = e ∙ reason-is a w

      other : eqb (reason_at m marks v p) 0 ≡ false
      other = ne_eqb (reason_at m marks v p) 0 (λ z. reason-some r (sym e ∙ is ∙ z))

      each : (k : ℕ) → 122 * p ≤ k → k < 122 * (p + 1) → 0 ≡ kept_at m marks v k
      each k le before =
          let j : ℕ = k - 122 * p in
          let there : 122 * p + j ≡ k = omega arith in
          sym (get_or-replicate 122 j 0 0 (omega arith)) ∙ byte-is a w j (omega arith) ∙ ap (kept_at m marks v) there
