-- The C calls keep the second and the third sentence: what the card's calls do with a profile, they do with the profile that the bytes say.
use mathlib.Core.Path.{◌≡◌, refl, sym, ◌∙◌, ap, subst}
use mathlib.Core.Bool.{Bool, true, false}
use mathlib.Core.List.{List, ◌++◌}
use mathlib.Core.Logic.{◌↔◌}
use Prim.Native.Nat.{ℕ, ◌-◌, ◌<◌}
use native.Mathlib.Decide.{ℕ_discrete}
use lib.Dec.{T}
use lib.Ieee.{Float}
use lib.ListN.{length, replicate, take}
use Rattle.rules.specs.Bits.{pick, row}
use Rattle.rules.specs.Answers.{has_read, names_fault}
use Rattle.rules.specs.Profile.{fields, blank, only, fault, faultless, largest, reading, refused, spelt, writing, written}
use Rattle.rules.specs.Pieces.{FeedRule, Fed, LeftBy}
use Rattle.rules.specs.Totals.{agrees, AddRule, Summed}
use Rattle.rules.specs.Totals.Summed.{start, taken, refused as Turned-down}
use Rattle.rules.specs.Demands.{Names}
use Rattle.rules.specs.Answers.{Answer}
use Rattle.rules.specs.declared.Profile.{Profile}
use Rattle.rules.specs.Profile.{Reading}
use Rattle.rules.specs.declared.Receipt.{Receipt}
use Rattle.rules.specs.Profile.{Writing}
use Rattle.profile.proofs.RoundTrip.{unread, not-22}
use Rattle.card.proofs.D2.{d2}
use Rattle.card.proofs.D3.{d3}
use Rattle.card.proofs.Month.{received-agrees, asked-agrees, whole_numbers}
use Rattle.adding.proofs.Answers.{never-23}
use Rattle.adding.proofs.Placeless.{with-place}
use Rattle.flo.specs.Calls.{AfterReading, refusal, receipt_of, FloFeed, FloAdds}
use Rattle.flo.specs.Demands.{said, NamesRead, CallsRight, CallsBring, CallsAdd}
use Rattle.flo.proofs.Reading.{told}
use Rattle.flo.proofs.Demands.{by-reading}

-- bytes that read well say a faultless profile
ranged : (profile : List ℕ) → ((i : ℕ) → row profile i < 256) → (reading profile).number ≡ 0 → T (faultless (said profile))
ranged profile bytes z = (d2.writes (said profile)).0 (ap (λ (w : Writing). w.number) (d2.written_read profile bytes z))

-- what the C call added, the card's call adds
added : (rs : List Receipt) (t : List ℕ) → Summed FloAdds rs t → Summed AddRule rs t
added rs t start = start
added rs t (taken rs' a before after s r) = taken rs' a before after (added rs' before s) (with-place before a after 0 r)
added rs t (Turned-down rs' a before after n s ne r) = Turned-down rs' a before after n (added rs' before s) ne (with-place before a after n r)

-- an unread profile's mask and reasons are zero
silent-agrees : (n lost : ℕ) (reasons : List ℕ) → lost ≡ 0 → reasons ≡ replicate 16 0 → T (agrees (receipt_of (only n) lost reasons))
silent-agrees n lost reasons l r = subst (λ (x : ℕ). T (agrees (receipt_of (only n) x reasons))) (sym l) (subst (λ (x : List ℕ). T (agrees (receipt_of (only n) 0 x))) (sym r) tt)

-- where a refusal of reading can't have been answered, the profile was read
passed : (profile : List ℕ) {Refused : Answer → Type 0} {Rule : Profile → Type 0} → AfterReading profile Refused Rule
    → (Refused (refusal profile) → (reading profile).number ≡ 0)
    → Rule (said profile) × ((reading profile).number ≡ 0)
passed profile {Rule = Rule} r none = go (ℕ_discrete (reading profile).number 0)
  where
    go : Dec ((reading profile).number ≡ 0) → Rule (said profile) × ((reading profile).number ≡ 0)
    go (yes z) = (r.read z, z)
    go (no ne) = absurd (ne (none (r.unread ne)))

-- no refusal of reading is a number at which cells are read
not-read : (profile : List ℕ) (a : Answer) → T (has_read a.number) → a ≡ refusal profile → (reading profile).number ≡ 0
not-read profile a t e = unread profile (subst (λ (m : Answer). T (has_read m.number)) e t)

-- nor 0
not-refused : (profile : List ℕ) (a : Answer) → a.number ≡ 0 → a ≡ refusal profile → (reading profile).number ≡ 0
not-refused profile a z e = sym (ap (λ (m : Answer). m.number) e) ∙ z

-- ---- pieces fed with the bytes are fed with the profile that they say

-- the number is no refusal of reading
fed-passed : (profile : List ℕ) {f s : List Float} {before after : List ℕ} {a : Answer} → FloFeed profile f s before after a → a.number ≡ 0
    → FeedRule (said profile) f s before after a × ((reading profile).number ≡ 0)
fed-passed profile {a = a} r z = passed profile r (λ q. not-refused profile a z q.0)

fed-said : (profile : List ℕ) {f s : List Float} {state : List ℕ} → Fed (FloFeed profile) f s state → Fed (FeedRule (said profile)) f s state
fed-said profile Fed.new = Fed.new
fed-said profile (Fed.piece f s f' s' before after h r) =
    Fed.piece f s f' s' before after (fed-said profile h) (fed-passed profile r refl).0

-- and back, where the bytes read well
fed-read : (profile : List ℕ) {f s : List Float} {state : List ℕ} → (reading profile).number ≡ 0 → Fed (FeedRule (said profile)) f s state
    → Fed (FloFeed profile) f s state
fed-read profile z Fed.new = Fed.new
fed-read profile z (Fed.piece f s f' s' before after h r) =
    Fed.piece f s f' s' before after (fed-read profile z h) (record { unread = λ ne. absurd (ne z); read = λ _. r })

-- no number of reading is 22
said-22 : (profile : List ℕ) (a : Answer) → a.number ≡ 22 → a ≡ refusal profile → (reading profile).number ≡ 0
said-22 profile a e q = absurd (not-22 profile (sym (ap (λ (m : Answer). m.number) q) ∙ e))

-- 22 over the bytes, from 22 over the profile
left-said : (profile state : List ℕ) (n : ℕ)
    → ((i : ℕ) → row profile i < 256)
    → (n ≡ 22 → (reading profile).number ≡ 0)
    → ((reading profile).number ≡ 0 → (n ≡ 22) ↔ (T (faultless (said profile)) × ¬ LeftBy (FeedRule (said profile)) state))
    → (n ≡ 22) ↔ (((reading profile).number ≡ 0) × ¬ LeftBy (FloFeed profile) state)
left-said profile state n bytes read iff = (
  (λ e.
      let z = read e in
      (z, λ l. ((iff z).0 e).1 (l.0, l.1, fed-said profile l.2))),
  λ q. (iff q.0).1 (ranged profile bytes q.0, λ l. q.1 (l.0, l.1, fed-read profile q.0 l.2)),
)

-- a value that is read and one that is written have one answer
answers-alike : (P : Profile) (good : Bool)
    → (let w : Writing = pick good (record { number = 0; place = 0; bytes = written P ++ replicate (largest - length (written P)) 0; count = length (written P) })
    (record { number = (fault P).number; place = (fault P).place; bytes = replicate largest 0; count = 0 }) in
    told (pick good (record { number = 0; place = 0; profile = P }) (refused (fault P))) ≡ record { number = w.number; place = w.place })
answers-alike P true = refl
answers-alike P false = refl

-- where the bytes read well, the profile is faultless and no fault is named
names-read : (profile : List ℕ) (a : Answer) {Refused : Answer → Type 0} {Rule : Profile → Type 0}
    → ((i : ℕ) → row profile i < 256)
    → AfterReading profile Refused Rule
    → (Refused (refusal profile) → a ≡ refusal profile)
    → (Rule (said profile) → Names (said profile) a)
    → NamesRead profile a
names-read profile a bytes r unread read = go (ℕ_discrete (reading profile).number 0)
  where
    go : Dec ((reading profile).number ≡ 0) → NamesRead profile a
    go (yes z) =
        let none : ¬ T (names_fault a.number) = λ t. (read (r.read z)).0.0 t (ranged profile bytes z) in
        (((λ t. absurd (none t)), λ t. absurd (subst (λ (n : ℕ). T (names_fault n)) z t)), λ t. absurd (none t))
    go (no ne) =
        let e = unread (r.unread ne) in (
          (subst (λ (m : Answer). T (names_fault m.number)) e, subst (λ (m : Answer). T (names_fault m.number)) (sym e)),
          λ _. e,
        )

pub calls-right : CallsRight
unfolding faultless
calls-right =
    record {
      cells = λ profile d f s f' s' a r z. d2.cells _ d f s f' s' a (passed profile r (λ q. not-refused profile a z q.0)).0 z;
      sends = λ profile d f s f' s' a bytes r. (
        (λ z.
            let w = passed profile r (λ q. not-refused profile a z q.0) in
            let x = (d2.sends _ d f s f' s' a w.0).0 z in
            (w.1, x.1, x.2, x.3)),
        λ q. (d2.sends _ d f s f' s' a (r.read q.0)).1 (ranged profile bytes q.0, q.1, q.2, q.3),
      );
      symbol_cells = λ profile d symbol f s f' s' a r z.
          d2.symbol_cells _ d symbol f s f' s' a (passed profile r (λ q. not-refused profile a z q.0)).0 z;
      reads = λ profile marks f s before after lost reasons a bytes r. (
        (λ t.
            let w = passed profile r (λ q. not-read profile a t q.0) in
            let x = (d2.reads _ marks f s before after _ w.0).0 t in
            (w.1, x.1, x.2, x.3)),
        λ q. (d2.reads _ marks f s before after _ (r.read q.0)).1 (ranged profile bytes q.0, q.1, q.2, q.3),
      );
      nothing_accepted = λ profile marks f s before after lost reasons a r ne.
          by-reading profile _ r (λ q. (q.1, q.2)) (λ q. let x = d2.nothing_accepted _ marks f s before after _ q ne in (x.0, x.1));
      accepts = λ profile marks f s before after lost reasons a r t p l u.
          let w = passed profile r (λ q. not-read profile a t q.0) in
          let iff = d2.accepts _ marks f s before after _ w.0 t p l u in
          ((λ e. iff.0 (t, e)), λ q. (iff.1 q).1);
      feed_22 = λ profile f s before after a bytes state r.
          left-said profile before a.number bytes (λ e. (passed profile r (λ q. said-22 profile a e q.0)).1)
          (λ z. d2.feed_22 _ f s before after a state (r.read z));
      ask_22 = λ profile marks state before after lost reasons a bytes numbers r.
          left-said profile state a.number bytes (λ e. (passed profile r (λ q. said-22 profile a e q.0)).1)
          (λ z. d2.ask_22 _ marks state before after _ numbers (r.read z));
      takes = λ profile f s f' s' before after a bytes z h r.
          d2.takes _ f s f' s' before after a (ranged profile bytes z) (fed-said profile h) (r.read z);
      any_cutting = λ profile marks f s state before after lost reasons a h all r.
          record { unread = r.unread; read = λ z. d2.any_cutting _ marks f s state before after _ (fed-said profile h) all (r.read z) };
      ask_reads = λ profile marks f s state before after lost reasons a bytes h r. (
        (λ t.
            let w = passed profile r (λ q. not-read profile a t q.0) in
            let x = (d2.ask_reads _ marks f s state before after _ (fed-said profile h) w.0).0 t in
            (w.1, x.1, x.2)),
        λ q.
            (d2.ask_reads _ marks f s state before after _ (fed-said profile h) (r.read q.0)).1 (ranged profile bytes q.0, q.1, q.2),
      );
      ask_nothing = λ profile marks state before after lost reasons a r ne.
          by-reading profile _ r (λ q. (q.1, q.2)) (λ q. let x = d2.ask_nothing _ marks state before after _ q ne in (x.0, x.1));
      ask_accepts = λ profile marks f s state before after lost reasons a h r t p l u.
          let w = passed profile r (λ q. not-read profile a t q.0) in
          let iff = d2.ask_accepts _ marks f s state before after _ (fed-said profile h) w.0 t p l u in
          ((λ e. iff.0 (t, e)), λ q. (iff.1 q).1);
      read_written = λ masks level mode k seeds floor profile count a S r z.
          let e = ap (λ (w : Writing). reading (take w.count w.bytes)) (sym r.answer)
          ∙ d2.read_written _ S (ap (λ (w : Writing). w.number) r.answer ∙ z) in
          record { answer = sym (ap told e); value = ap (λ (x : Reading). x.profile) e };
      written_read = λ profile masks level mode k seeds floor a bytes r z.
          record { answer = ap writing (sym r.value) ∙ d2.written_read profile bytes (not-refused profile a z r.answer) };
      refused_alike = λ profile masks level mode k seeds floor bytes count a b t r w.
          let P = spelt fields blank profile in
          r.answer ∙ ap told (d2.read_refused profile t)
          ∙ answers-alike P (faultless P) ∙ ap (λ (x : Writing). record { number = x.number; place = x.place }) w.answer;
      send_names = λ profile d f s f' s' a bytes r.
          names-read profile a bytes r (λ q. q.0) (d2.send_names (said profile) d f s f' s' a);
      symbol_names = λ profile d symbol f s f' s' a bytes r.
          names-read profile a bytes r (λ q. q.0) (d2.symbol_names (said profile) d symbol f s f' s' a);
      receive_names = λ profile marks f s before after lost reasons a bytes r.
          names-read profile a bytes r (λ q. q.0) (d2.receive_names (said profile) marks f s before after (receipt_of a lost reasons));
      feed_names = λ profile f s before after a bytes r.
          names-read profile a bytes r (λ q. q.0) (d2.feed_names (said profile) f s before after a);
      ask_names = λ profile marks state before after lost reasons a bytes r.
          names-read profile a bytes r (λ q. q.0) (d2.ask_names (said profile) marks state before after (receipt_of a lost reasons));
    }

pub calls-bring : CallsBring
calls-bring =
    record {
      sent_and_received = λ profile d marks f s before after lost reasons a bytes q long numbers each r.
          d3.sent_and_received _ d marks f s before after _ (ranged profile bytes q.0) long numbers q.1 q.2 q.3 each (r.read q.0);
      sent_and_asked = λ profile d marks f s state before after lost reasons a long numbers each h r t.
          d3.sent_and_asked _ d marks f s state before after _ long numbers each (fed-said profile h)
          (passed profile r (λ q. not-read profile a t q.0)).0 t;
    }

pub calls-add : CallsAdd
calls-add =
    record {
      told = λ before number lost reasons after n. whole_numbers.told before (receipt_of (only number) lost reasons) after n;
      one_adding = λ before number lost reasons. whole_numbers.one_adding before (receipt_of (only number) lost reasons);
      adds_counted = λ rs t s. whole_numbers.counted rs t (added rs t s);
      adds_received = λ profile marks f s before after lost reasons a t t' n r long q.
          never-23 t _ t' n q long
          (by-reading profile (T (agrees (receipt_of (only a.number) lost reasons))) r (λ x. silent-agrees a.number lost reasons x.1 x.2)
          (received-agrees (said profile) marks f s before after (receipt_of a lost reasons)));
      adds_asked = λ profile marks state before after lost reasons a t t' n r long q.
          never-23 t _ t' n q long
          (by-reading profile (T (agrees (receipt_of (only a.number) lost reasons))) r (λ x. silent-agrees a.number lost reasons x.1 x.2)
          (asked-agrees (said profile) marks state before after (receipt_of a lost reasons)));
    }
