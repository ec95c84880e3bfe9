-- Demand 3: a packet is lost exactly where it is marked, doubtful or wrong; at most r lost come back, and more are refused.
use mathlib.Core.Path.{◌≡◌, refl, sym, ap, subst, ◌∙◌}
use mathlib.Core.List.{List}
use mathlib.Core.Logic.{◌⊎◌, ◌↔◌, inl, inr}
use Prim.Native.Nat.{ℕ, ◌+◌, ◌-◌, ◌*◌, ◌/◌, ◌%◌, ◌^◌, ◌<◌, ◌≤◌}
use native.Mathlib.Decide.{ℕ_discrete}
use native.Mathlib.Omega.{arith}
use lib.Count.{ones}
use lib.Dec.{T}
use lib.Ieee.{Float}
use lib.ListN.{length}
use lib.Seq.{ext_get_or}
use Rattle.rules.specs.Bits.{row, differ}
use Rattle.rules.specs.Packet.{packet_bit}
use Rattle.rules.specs.Outer.{is_k, marked, Codeword, Agree}
use Rattle.rules.specs.Modes.{packet_bits, symbols}
use Rattle.rules.specs.Slots.{coded}
use Rattle.rules.specs.Profile.{faultless}
use Rattle.rules.specs.Block.{packet, decided_data, byte_of, verdict, Delivered, Judged, ReceiveRule, decided, lost_mask}
use Rattle.rules.specs.Demands.{D3, heard_in_place, sent_in_place, Wrong, Lost, Members, Fair, BringsBack}
use Rattle.rules.specs.declared.Profile.{Profile}
use Rattle.rules.specs.declared.Receipt.{Receipt}
use Rattle.outer.proofs.Roots.{k-range, rate as outer-rate, encoded-data, encoded-codeword}
use Rattle.outer.proofs.Solve.{unique}
use Rattle.turbo.proofs.Accepted.{accepted-coded, coded-accepted, accepted-bytes}
use Rattle.receiving.proofs.Fed.{fed_left, ask_reads}
use Rattle.card.proofs.Grid.{grid-heard}
use Rattle.card.proofs.Cutting.{any_cutting}
use Rattle.card.proofs.Few.{few-same}
use Rattle.laws.specs.Mask.{mask_lt}
use Rattle.profile.proofs.InRange.{ranges}
use Rattle.card.proofs.Mask.{mask-kept}
use Rattle.card.proofs.Differ.{find}
use Rattle.card.proofs.Members.{members-one, members-ones}
use Rattle.card.proofs.Place.{judges, reason-verdict, reason-unmarked, part, reason_in, part-place, accepted, sent-place}

-- ---- one packet

module _ (P : Profile) (d : List ℕ) (f s : List Float) (p : ℕ) where
  -- its decided bits are those that were sent
  abbrev Whole : Type 0
  Whole = (i : ℕ) → i < packet_bits P.mode → part P f s p i ≡ coded P.mode (packet_bit (packet P.k d p)) i

  sent-part : (i : ℕ) → i < packet_bits P.mode
      → (part P f s p i ≡ coded P.mode (packet_bit (packet P.k d p)) i) ↔ (heard_in_place P f s p i ≡ sent_in_place P d p i)
  sent-part i l =
      let iff = part-place P f s p (packet P.k d p) i l in
      let same = sent-place P d p i l in
      ((λ h. iff.0 h ∙ sym same), λ h. iff.1 (h ∙ same))

  few-whole : verdict P.mode (part P f s p) ≡ 0
      → differ (packet_bits P.mode) (heard_in_place P f s p) (sent_in_place P d p) ≤ 3
      → Whole
  few-whole z few i l =
      let own = (accepted-coded P.mode (part P f s p) z).1 in
      let e : ℕ → ℕ = byte_of (decided_data P.mode (part P f s p)) in
      own i l
      ∙ few-same P.mode e (packet P.k d p) (heard_in_place P f s p) (sent_in_place P d p)
      (λ k h q. sym (own k h) ∙ (sent-part k h).1 q) few i l

  module _ (marks : ℕ) (each : Fair P marks d f s p) where
    -- accepted only where it is whole
    accepted-whole : reason_in P marks f s p ≡ 0 → Whole
    accepted-whole z = go each
      where
        unmarked : ¬ (marked marks p ≡ 1)
        unmarked = reason-unmarked P marks f s p z

        plain : verdict P.mode (part P f s p) ≡ 0
        plain = sym (reason-verdict P marks f s p unmarked) ∙ z

        go : Fair P marks d f s p → Whole
        go (inl q) = absurd (unmarked q)
        go (inr (inl q)) = absurd (omega (arith, q.2, ((accepted P f s p).0 plain).2 q.0 q.1))
        go (inr (inr few)) = few-whole plain few

    -- lost exactly where it isn't accepted
    lost-reason : (¬ (reason_in P marks f s p ≡ 0)) ↔ Lost P marks d f s p
    lost-reason = (there (ℕ_discrete (marked marks p) 1) (find (packet_bits P.mode) (heard_in_place P f s p) (sent_in_place P d p)), back)
      where
        there : Dec (marked marks p ≡ 1)
            → Wrong P d f s p ⊎ ((i : ℕ) → i < packet_bits P.mode → heard_in_place P f s p i ≡ sent_in_place P d p i)
            → ¬ (reason_in P marks f s p ≡ 0)
            → Lost P marks d f s p
        there (yes q) w ne = inl q
        there (no q) (inl w) ne = inr (inr w)
        there (no q) (inr h) ne =
            absurd (ne (reason-verdict P marks f s p q
            ∙ coded-accepted P.mode (part P f s p) (packet P.k d p) (λ i l. (sent-part i l).1 (h i l))))

        back : Lost P marks d f s p → ¬ (reason_in P marks f s p ≡ 0)
        back (inl q) z = reason-unmarked P marks f s p z q
        back (inr (inl q)) z =
            omega (arith, q.2, (sent-part q.0 q.1).0 (accepted-whole z q.0 q.1), sent-place P d p q.0 q.1)
        back (inr (inr q)) z = q.2 ((sent-part q.0 q.1).0 (accepted-whole z q.0 q.1))

-- ---- the block

-- the packets that are sent make codewords
sent_word : (k : ℕ) (d : List ℕ) → ((i : ℕ) → row d i < 256) → (j : ℕ) → Codeword (16 - k) (λ p. packet k d p j)
sent_word k d bytes j = encoded-codeword (16 - k) (λ q. row d (122 * q + j)) (λ p l. bytes (122 * p + j))

-- where the columns sent agree with what is kept, they come back unless too many are lost
delivers : {k lost : ℕ} {kept : ℕ → ℕ → ℕ} {before after : List ℕ} {n : ℕ} (d : List ℕ)
    → Delivered k lost kept before after n
    → T (is_k k)
    → lost < 2 ^ 16
    → length d ≡ 122 * k
    → ((j : ℕ) → j < 122 → Codeword (16 - k) (λ p. packet k d p j) × Agree lost (λ p. packet k d p j) (λ p. kept p j))
    → (ones lost ≤ 16 - k → (n ≡ 0) × (after ≡ d)) × (16 - k < ones lost → (n ≡ 9) × (after ≡ before))
delivers {k} {after = after} d (Delivered.whole few w good long is) t fits all sent =
    ((λ h. (refl, ext_get_or 0 after d (long ∙ sym all) at)), λ h. absurd (omega arith))
  where
    at : (i : ℕ) → i < length after → row after i ≡ row d i
    at i l =
        let p : ℕ = i / 122 in
        let j : ℕ = i % 122 in
        let whole : 122 * p + j ≡ i = omega arith in
        let small : j < 122 = omega arith in
        let below : p < k = omega (arith, long) in
        let most = k-range k t in
        ap (row after) (sym whole) ∙ is p j below small
        ∙ unique fits few (outer-rate k t) (good j small).0 (sent j small).0 (good j small).1 (sent j small).1 p (omega arith)
        ∙ encoded-data (16 - k) (λ q. row d (122 * q + j)) p (omega arith) ∙ ap (row d) whole
delivers d (Delivered.too_many many e) t fits all sent = ((λ h. absurd (omega arith)), λ h. (refl, e))
delivers d (Delivered.no_codeword few j l none e) t fits all sent =
    ((λ h. absurd (none _ (sent j l).0 (sent j l).1)), λ h. absurd (omega arith))

module _ (P : Profile) (d : List ℕ) (marks : ℕ) (f s : List Float) (before after : List ℕ) (a : Receipt) (t : T (faultless P))
    (bytes : (i : ℕ) → row d i < 256) (each : (p : ℕ) → p < 16 → Fair P marks d f s p) (j : Judged P marks (decided P f s) before after a) where
  -- kept exactly where the reason is 0
  kept-reason : (p : ℕ) → p < 16 → (marked a.lost p ≡ 0) ↔ (reason_in P marks f s p ≡ 0)
  kept-reason p l =
      let mark : marked a.lost p ≡ marked (lost_mask 16 (row a.reasons)) p = ap (λ (x : ℕ). marked x p) j.lost_is in
      let iff = mask-kept (row a.reasons) 16 p l in
      ((λ e. sym (j.reasons_are p l) ∙ iff.0 (sym mark ∙ e)), λ z. mark ∙ iff.1 (j.reasons_are p l ∙ z))

  lost-set : (p : ℕ) → p < 16 → (marked a.lost p ≡ 1) ↔ Lost P marks d f s p
  lost-set p l =
      let iff = lost-reason P d f s p marks (each p l) in (
        (λ e. iff.0 (λ z. omega (arith, (kept-reason p l).1 z, e))),
        λ q. let ne : ¬ (marked a.lost p ≡ 0) = (λ e. iff.1 q ((kept-reason p l).0 e)) in omega arith,
      )

  agrees : (i : ℕ) → i < 122 → Agree a.lost (λ p. packet P.k d p i) (λ p. byte_of (decided_data P.mode (part P f s p)) i)
  agrees i l p h e =
      sym (accepted-bytes P.mode (part P f s p) (packet P.k d p)
      (accepted-whole P d f s p marks (each p h) ((kept-reason p h).0 e)) i l ((sent_word P.k d bytes i).bytes p h))

  fits : a.lost < 2 ^ 16
  fits = subst (λ (x : ℕ). x < 2 ^ 16) (sym j.lost_is) (mask_lt (row a.reasons) 16)

  lost-members : Members (Lost P marks d f s) 16 (ones a.lost)
  lost-members = members-ones (Lost P marks d f s) a.lost fits lost-set

  -- so many are lost as the mask has ones
  as_many : (c : ℕ) → Members (Lost P marks d f s) 16 c → c ≡ ones a.lost
  as_many c m = members-one (Lost P marks d f s) m lost-members

  comes_back : length d ≡ 122 * P.k
      → (ones a.lost ≤ 16 - P.k → (a.number ≡ 0) × (after ≡ d)) × (16 - P.k < ones a.lost → (a.number ≡ 9) × (after ≡ before))
  comes_back long = delivers d j.delivered (ranges P t).k fits long (λ i l. (sent_word P.k d bytes i, agrees i l))

brings-back : (P : Profile) (d : List ℕ) (marks : ℕ) (f s : List Float) (before after : List ℕ) (a : Receipt)
    → T (faultless P)
    → length d ≡ 122 * P.k
    → ((i : ℕ) → row d i < 256)
    → length before ≡ 122 * P.k
    → length f ≡ 4096 * symbols P.mode
    → length s ≡ 4096 * symbols P.mode
    → ((p : ℕ) → p < 16 → Fair P marks d f s p)
    → ReceiveRule P marks f s before after a
    → BringsBack P marks d f s before after a.lost a.number
brings-back P d marks f s before after a t long bytes room firsts seconds each r =
    let j : Judged P marks (decided P f s) before after a = judges f s r t room firsts seconds in
    let back = comes_back P d marks f s before after a t bytes each j long in
    let many = as_many P d marks f s before after a t bytes each j in (
      lost-set P d marks f s before after a t bytes each j,
      lost-members P d marks f s before after a t bytes each j,
      (λ c m few. back.0 (omega (arith, many c m))),
      λ c m more. back.1 (omega (arith, many c m)),
    )

pub d3 : D3
d3 =
    record {
      heard_as_sent = λ P d f s t c. grid-heard P d f s t c;
      sent_and_received = brings-back;
      sent_and_asked = λ P d marks f s state before after a long bytes each h r t.
          let q = (ask_reads P marks f s state before after a h r).0 t in
          brings-back P d marks f s before after a q.0 long bytes q.1 q.2 ((fed_left P h).seconds ∙ q.2) each
          (any_cutting P marks f s state before after a h q.2 r);
    }
