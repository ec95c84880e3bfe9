-- A call can't lawfully answer in two ways: what the rules of receiving and asking leave is one answer.
use mathlib.Core.Path.{◌≡◌, refl, sym, ap, subst, ◌∙◌}
use mathlib.Core.List.{List}
use Prim.Native.Nat.{ℕ, ◌+◌, ◌*◌, ◌/◌, ◌%◌, ◌^◌, ◌<◌}
use native.Mathlib.Decide.{ℕ_discrete}
use native.Mathlib.Omega.{arith}
use lib.Dec.{T}
use lib.Ieee.{Float}
use lib.ListN.{length}
use lib.Seq.{ext_get_or}
use Rattle.rules.specs.Bits.{row}
use Rattle.rules.specs.Outer.{is_k}
use Rattle.rules.specs.Modes.{symbols}
use Rattle.rules.specs.Profile.{faultless}
use Rattle.rules.specs.Block.{early, decided, packet_part, decided_data, byte_of, lost_mask, Delivered, Judged, Answered, ReceiveRule}
use Rattle.rules.specs.Pieces.{asking, AskRule}
use Rattle.rules.specs.Answers.{Answer}
use Rattle.rules.specs.declared.Profile.{Profile}
use Rattle.rules.specs.declared.Receipt.{Receipt}
use Rattle.outer.proofs.Roots.{k-range, rate as outer-rate}
use Rattle.outer.proofs.Solve.{unique}
use Rattle.profile.proofs.InRange.{ranges}
use Rattle.block.proofs.Passed.{right}
use Rattle.receiving.proofs.States.{asking-0}
use Rattle.laws.specs.Mask.{mask_lt}

module _ {k lost : ℕ} {kept : ℕ → ℕ → ℕ} {before : List ℕ} (t : T (is_k k)) (fits : lost < 2 ^ 16) where
  one-delivery : {after after' : List ℕ} {n m : ℕ}
      → Delivered k lost kept before after n
      → Delivered k lost kept before after' m
      → (n ≡ m) × (after ≡ after')
  one-delivery {after} {after'} (Delivered.whole few w good long is) (Delivered.whole few' w' good' long' is') =
      (refl, ext_get_or 0 after after' (long ∙ sym long') at)
    where
      at : (i : ℕ) → i < length after → row after i ≡ row after' i
      at i l =
          let p : ℕ = i / 122 in
          let j : ℕ = i % 122 in
          let whole : 122 * p + j ≡ i = omega arith in
          let small : j < 122 = omega arith in
          let below : p < k = omega (arith, long) in
          let most = k-range k t in
          ap (row after) (sym whole) ∙ is p j below small
          ∙ unique fits few (outer-rate k t) (good j small).0 (good' j small).0 (good j small).1 (good' j small).1 p (omega arith)
          ∙ sym (is' p j below small) ∙ ap (row after') whole
  one-delivery (Delivered.whole few w good long is) (Delivered.too_many many e) = absurd (omega arith)
  one-delivery (Delivered.whole few w good long is) (Delivered.no_codeword few' j l none e) = absurd (none (w j) (good j l).0 (good j l).1)
  one-delivery (Delivered.too_many many e) (Delivered.whole few w good long is) = absurd (omega arith)
  one-delivery (Delivered.too_many many e) (Delivered.too_many many' e') = (refl, e ∙ sym e')
  one-delivery (Delivered.too_many many e) (Delivered.no_codeword few j l none e') = absurd (omega arith)
  one-delivery (Delivered.no_codeword few j l none e) (Delivered.whole few' w good long is) = absurd (none (w j) (good j l).0 (good j l).1)
  one-delivery (Delivered.no_codeword few j l none e) (Delivered.too_many many e') = absurd (omega arith)
  one-delivery (Delivered.no_codeword few j l none e) (Delivered.no_codeword few' j' l' none' e') = (refl, e ∙ sym e')

module _ (P : Profile) (marks : ℕ) (before : List ℕ) where
  one-judgement : (v : ℕ → ℕ) (after after' : List ℕ) (a b : Receipt) → T (faultless P)
      → Judged P marks v before after a
      → Judged P marks v before after' b
      → (a ≡ b) × (after ≡ after')
  one-judgement v after after' a b t x y =
      let kept : ℕ → ℕ → ℕ = (λ p. byte_of (decided_data P.mode (packet_part P.mode v p))) in
      let other : Delivered P.k a.lost kept before after' b.number
      = subst (λ (l : ℕ). Delivered P.k l kept before after' b.number) (sym lost) y.delivered in
      let out = one-delivery (ranges P t).k fits x.delivered other in
      ((λ i. record { number = out.0 i; place = (x.place_is ∙ sym y.place_is) i; lost = lost i; reasons = reasons i }), out.1)
    where
      reasons : a.reasons ≡ b.reasons
      reasons =
          ext_get_or 0 a.reasons b.reasons (x.reasons_long ∙ sym y.reasons_long)
          (λ i l. x.reasons_are i (omega (arith, x.reasons_long)) ∙ sym (y.reasons_are i (omega (arith, x.reasons_long))))

      lost : a.lost ≡ b.lost
      lost = x.lost_is ∙ ap (λ (l : List ℕ). lost_mask 16 (row l)) reasons ∙ sym y.lost_is

      fits : a.lost < 2 ^ 16
      fits = subst (λ (l : ℕ). l < 2 ^ 16) (sym x.lost_is) (mask_lt (row a.reasons) 16)

  -- a refusal is silent, and else the same bits are judged
  one_answer : (n : Answer) → (n.number ≡ 0 → T (faultless P)) → (v : ℕ → ℕ) (after after' : List ℕ) (a b : Receipt)
      → Answered P marks n v before after a
      → Answered P marks n v before after' b
      → (a ≡ b) × (after ≡ after')
  one_answer n range v after after' a b x y = go (ℕ_discrete n.number 0)
    where
      go : Dec (n.number ≡ 0) → (a ≡ b) × (after ≡ after')
      go (yes e) = one-judgement v after after' a b (range e) (x.judged e) (y.judged e)
      go (no ne) =
          let p = x.refused ne in
          let q = y.refused ne in
          (p.0 ∙ sym q.0, p.1 ∙ sym q.1)

  -- receiving a whole grid, and asking for what was fed
  pub one_receipt : (f s : List Float) (after after' : List ℕ) (a b : Receipt)
      → ReceiveRule P marks f s before after a
      → ReceiveRule P marks f s before after' b
      → (a ≡ b) × (after ≡ after')
  one_receipt f s after after' a b =
      one_answer (early P (length before) (length f) (length s) (4096 * symbols P.mode))
      (λ e. (right P (length before) (length f) (length s) (4096 * symbols P.mode) e).range) (decided P f s) after after' a b

  pub one_asking : (state after after' : List ℕ) (a b : Receipt)
      → AskRule P marks state before after a
      → AskRule P marks state before after' b
      → (a ≡ b) × (after ≡ after')
  one_asking state after after' a b =
      one_answer (asking P state (length before)) (λ e. ((asking-0 P state (length before)).0 e).0) _ after after' a b
