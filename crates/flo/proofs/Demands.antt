-- The C calls keep the first sentence and have one answer each: reading the profile does, and then the call's own rule.
use mathlib.Core.Path.{◌≡◌, sym, ◌∙◌, ap, subst}
use mathlib.Core.Bool.{Bool, true, false, not}
use mathlib.Core.List.{List}
use Prim.Native.Nat.{ℕ, ◌<◌}
use native.Mathlib.Decide.{ℕ_discrete}
use lib.Dec.{T, eqb}
use lib.ListN.{length, get_or-replicate}
use Rattle.rules.specs.Bits.{pick, row}
use Rattle.rules.specs.Answers.{is_number, is_answer, is_reason}
use Rattle.rules.specs.Outer.{is_k}
use Rattle.rules.specs.Profile.{only, reading}
use Rattle.rules.specs.Compare.{grids}
use Rattle.rules.specs.Answers.{Answer}
use Rattle.rules.specs.Compare.{Comparison}
use Rattle.rules.specs.declared.Profile.{Profile}
use Rattle.rules.specs.Profile.{Writing}
use Rattle.rules.specs.declared.Receipt.{Receipt}
use Rattle.outer.proofs.Answers.{one-parity}
use Rattle.comparing.proofs.SideBySide.{side_by_side}
use Rattle.card.proofs.D1.{d1}
use Rattle.card.proofs.D2.{d2}
use Rattle.card.proofs.Month.{whole_numbers}
use Rattle.flo.specs.Calls.{AfterReading, refusal, receipt_of, Unread}
use Rattle.flo.specs.Demands.{CallsTold, CallsOne}

-- by cases: reading is refused, or the call's rule holds of the profile that was read
pub by-reading : (profile : List ℕ) {Refused : Answer → Type 0} {Rule : Profile → Type 0} (Goal : Type 0)
    → AfterReading profile Refused Rule
    → (Refused (refusal profile) → Goal)
    → (Rule (reading profile).profile → Goal)
    → Goal
by-reading profile Goal r unread read = go (ℕ_discrete (reading profile).number 0)
  where
    go : Dec ((reading profile).number ≡ 0) → Goal
    go (yes z) = read (r.read z)
    go (no ne) = unread (r.unread ne)

-- the same of two answers to one call
both-reading : (profile : List ℕ) {Refused Refused' : Answer → Type 0} {Rule Rule' : Profile → Type 0} (Goal : Type 0)
    → AfterReading profile Refused Rule
    → AfterReading profile Refused' Rule'
    → (Refused (refusal profile) → Refused' (refusal profile) → Goal)
    → (Rule (reading profile).profile → Rule' (reading profile).profile → Goal)
    → Goal
both-reading profile Goal x y unread read = go (ℕ_discrete (reading profile).number 0)
  where
    go : Dec ((reading profile).number ≡ 0) → Goal
    go (yes z) = read (x.read z) (y.read z)
    go (no ne) = unread (x.unread ne) (y.unread ne)

-- what reading answers is an answer
read_told : (profile : List ℕ) (a : Answer) → a ≡ refusal profile → T (is_answer a.number a.place)
read_told profile a e = subst (λ (m : Answer). T (is_answer m.number m.place)) (sym e) (d1.read profile).0

-- a receive or a question with an unread profile
unread-told : (profile before after : List ℕ) (lost : ℕ) (reasons : List ℕ) (a : Answer)
    → Unread before after lost reasons a (refusal profile)
    → T (is_answer a.number a.place) × ((p : ℕ) → p < 16 → T (is_reason (row reasons p))) × (¬ (a.number ≡ 0) → after ≡ before)
unread-told profile before after lost reasons a q =
    (read_told profile a q.0, (λ p l. rw (q.2, get_or-replicate {A = ℕ} 16 p 0 0 l) tt), λ _. q.3)

-- one receipt, field by field
fields : {a b : Receipt} {after after' : List ℕ} → (a ≡ b) × (after ≡ after')
    → (◌≡◌ {A = Answer} (record { number = a.number; place = a.place }) (record { number = b.number; place = b.place })) × (a.lost ≡ b.lost) × (a.reasons ≡ b.reasons) × (after ≡ after')
fields e = (
  ap (λ (x : Receipt). record { number = x.number; place = x.place }) e.0,
  ap (λ (x : Receipt). x.lost) e.0,
  ap (λ (x : Receipt). x.reasons) e.0,
  e.1,
)

parity-number : (b c : Bool) → T (is_number (pick b 43 (pick c 6 0)))
parity-number true c = tt
parity-number false true = tt
parity-number false false = tt

pub calls-told : CallsTold
calls-told =
    record {
      send = λ profile d f s f' s' a r.
          by-reading profile _ r (λ q. (read_told profile a q.0, λ _. (q.1, q.2))) (d1.send _ d f s f' s' a);
      send_symbol = λ profile d symbol f s f' s' a r.
          by-reading profile _ r (λ q. (read_told profile a q.0, λ _. (q.1, q.2))) (d1.send_symbol _ d symbol f s f' s' a);
      receive = λ profile marks f s before after lost reasons a r.
          by-reading profile _ r (unread-told profile before after lost reasons a)
          (d1.receive _ marks f s before after (receipt_of a lost reasons));
      feed = λ profile f s before after a r.
          by-reading profile _ r (λ q. (read_told profile a q.0, λ _. q.1)) (d1.feed _ f s before after a);
      ask = λ profile marks state before after lost reasons a r.
          by-reading profile _ r (unread-told profile before after lost reasons a)
          (d1.ask _ marks state before after (receipt_of a lost reasons));
      read_profile = λ profile masks level mode k seeds floor a r. read_told profile a r.answer;
      write_profile = λ masks level mode k seeds floor profile count a r.
          subst (λ (w : Writing). T (is_answer w.number w.place)) r.answer (d1.write _).0;
      parity = λ k before after n r. (rw r.answer (parity-number (not (is_k k)) (not (eqb (length before) 1952))), r.kept);
      compare = λ fa sa fb sb before after count n r.
          ((d1.compare 0 (grids fa sa fb sb) before after _ r).0, λ ne. let q = r.refused ne in (q.1, q.0));
    }

pub calls-one : CallsOne
calls-one =
    record {
      send = λ profile d f s f' s' f'' s'' n m x y.
          both-reading profile _ x y (λ p q. (p.0 ∙ sym q.0, p.1 ∙ sym q.1, p.2 ∙ sym q.2)) (d2.one_grid _ d f s f' s' f'' s'' n m);
      send_symbol = λ profile d symbol f s f' s' f'' s'' n m x y.
          both-reading profile _ x y (λ p q. (p.0 ∙ sym q.0, p.1 ∙ sym q.1, p.2 ∙ sym q.2))
          (d2.one_symbol _ d symbol f s f' s' f'' s'' n m);
      receive = λ profile marks f s before after after' lost lost' reasons reasons' n m x y.
          both-reading profile _ x y (λ p q. (p.0 ∙ sym q.0, p.1 ∙ sym q.1, p.2 ∙ sym q.2, p.3 ∙ sym q.3))
          (λ p q. fields (d2.one_receipt _ marks f s before after after' _ _ p q));
      feed = λ profile f s before after after' n m x y.
          both-reading profile _ x y (λ p q. (p.0 ∙ sym q.0, p.1 ∙ sym q.1)) (d2.one_feeding _ f s before after after' n m);
      ask = λ profile marks state before after after' lost lost' reasons reasons' n m x y.
          both-reading profile _ x y (λ p q. (p.0 ∙ sym q.0, p.1 ∙ sym q.1, p.2 ∙ sym q.2, p.3 ∙ sym q.3))
          (λ p q. fields (d2.one_asking _ marks state before after after' _ _ p q));
      read_profile = λ profile masks masks' level level' mode mode' k k' seeds seeds' floor floor' n m x y.
          let e = sym x.value ∙ y.value in (
            x.answer ∙ sym y.answer,
            ap (λ (P : Profile). P.masks) e,
            ap (λ (P : Profile). P.level) e,
            ap (λ (P : Profile). P.mode) e,
            ap (λ (P : Profile). P.k) e,
            ap (λ (P : Profile). P.seeds) e,
            ap (λ (P : Profile). P.floor) e,
          );
      write_profile = λ masks level mode k seeds floor profile profile' count count' n m x y.
          let e = sym x.answer ∙ y.answer in
          (ap (λ (w : Writing). record { number = w.number; place = w.place }) e, ap (λ (w : Writing). w.bytes) e, ap (λ (w : Writing). w.count) e);
      parity = λ k before after after' n m. one-parity k;
      compare = λ fa sa fb sb before after after' count count' n m x y.
          let e = side_by_side.one_comparison 0 (grids fa sa fb sb) before after after' _ _ x y in
          (ap (λ (c : Comparison). c.number) e.0, ap (λ (c : Comparison). c.count) e.0, e.1);
    }
