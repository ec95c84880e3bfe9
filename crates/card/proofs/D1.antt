-- Demand 1: whatever arrives, the answer is a number of the table, and a refusal leaves the lent memory holding what it held.
use mathlib.Core.Path.{◌≡◌, refl, sym, subst, ◌∙◌}
use mathlib.Core.Bool.{Bool, true, false, not}
use mathlib.Core.List.{List}
use Prim.Native.Nat.{ℕ, ◌*◌, ◌%◌, ◌<◌}
use native.Mathlib.Decide.{ℕ_discrete}
use lib.Dec.{T, eqb, ltb}
use lib.ListN.{length, replicate, get_or-replicate}
use Rattle.rules.specs.Bits.{pick, row, every_below}
use Rattle.rules.specs.Outer.{marked}
use Rattle.rules.specs.Modes.{packet_bits, symbols}
use Rattle.rules.specs.Slots.{coded}
use Rattle.rules.specs.Points.{doubtful}
use Rattle.rules.specs.Answers.{is_number, is_answer, is_reason}
use Rattle.rules.specs.Block.{early, Answered, Delivered, reason, judged, packet_part}
use Rattle.rules.specs.Block.{check_right, reserved_right, decided_data}
use Rattle.rules.specs.Pieces.{asking}
use Rattle.rules.specs.Compare.{one_length, comparing_number}
use Rattle.rules.specs.Demands.{D1}
use Rattle.rules.specs.Answers.{Answer}
use Rattle.rules.specs.declared.Profile.{Profile}
use Rattle.rules.specs.declared.Receipt.{Receipt}
use Rattle.profile.proofs.RoundTrip.{read_number, write-told}
use Rattle.profile.proofs.AtFault.{only-told, fault-told}
use Rattle.receiving.proofs.States.{feeding-number, asking-number}
use Rattle.card.proofs.Names.{lengths-each, symbol-each, symbol-answer}

early-told : (P : Profile) (bytes firsts seconds cells : ℕ)
    → (let a = early P bytes firsts seconds cells in T (is_answer a.number a.place))
early-told P bytes firsts seconds cells = fault-told P _ (lengths-each (λ n. T (is_number n)) tt tt tt P.k bytes firsts seconds cells)

reason-number : (m mark : ℕ) (v : ℕ → ℕ) → T (is_reason (reason m mark v))
unfolding reason judged
reason-number m mark v =
    go (eqb mark 1)
    (not (every_below (packet_bits m) (λ i. ltb (v i) doubtful)))
    (not (check_right (decided_data m v)))
    (not (reserved_right (decided_data m v)))
    (not (every_below (packet_bits m) (λ i. eqb (v i) (coded m (decided_data m v) i))))
  where
    go : (a b c d e : Bool) → T (is_reason (pick a 11 (pick b 12 (pick c 13 (pick d 14 (pick e 15 0))))))
    go true b c d e = tt
    go false true c d e = tt
    go false false true d e = tt
    go false false false true e = tt
    go false false false false true = tt
    go false false false false false = tt

delivered-number : {k lost : ℕ} {kept : ℕ → ℕ → ℕ} {before after : List ℕ} {n : ℕ} → Delivered k lost kept before after n
    → T (is_number n) × (¬ (n ≡ 0) → after ≡ before)
delivered-number (Delivered.whole few w agree long is) = (tt, λ ne. absurd (ne refl))
delivered-number (Delivered.too_many many e) = (tt, λ ne. e)
delivered-number (Delivered.no_codeword few j l none e) = (tt, λ ne. e)

comparing-number : (fa sa fb sb : ℕ) → T (is_number (comparing_number fa sa fb sb))
unfolding comparing_number
comparing-number fa sa fb sb = go (one_length fa sa fb sb) (eqb (fa % 4096) 0)
  where
    go : (b c : Bool) → T (is_number (pick (not b) 18 (pick (not c) 7 0)))
    go true true = tt
    go true false = tt
    go false c = tt

-- what the demand asks of an answer to receiving
abbrev Told : List ℕ → List ℕ → Receipt → Type 0
Told before after a =
    T (is_answer a.number a.place) × ((p : ℕ) → p < 16 → T (is_reason (row a.reasons p))) × (¬ (a.number ≡ 0) → after ≡ before)

-- a refusal is silent, and else a judgement
told : (P : Profile) (marks : ℕ) (n : Answer) (v : ℕ → ℕ) (before after : List ℕ) (a : Receipt)
    → T (is_answer n.number n.place)
    → Answered P marks n v before after a
    → Told before after a
told P marks n v before after a number r = go (ℕ_discrete n.number 0)
  where
    go : Dec (n.number ≡ 0) → Told before after a
    go (yes e) =
        let j = r.judged e in
        let d = delivered-number j.delivered in
        (rw j.place_is (only-told a.number d.0), (λ p l. rw (j.reasons_are p l) (reason-number P.mode (marked marks p) (packet_part P.mode v p))), d.1)
    go (no ne) =
        let q = r.refused ne in
        let silent : (p : ℕ) → p < 16 → T (is_reason (row (replicate 16 0) p)) = (λ p l. rw (get_or-replicate {A = ℕ} 16 p 0 0 l) tt) in
        subst (λ (b : Receipt). Told before after b) (sym q.0) (number, silent, λ z. q.1)

pub d1 : D1
d1 =
    record {
      send = λ P d f s f' s' a r.
          (rw r.answer (early-told P (length d) (length f) (length s) (4096 * symbols P.mode)), r.kept);
      send_symbol = λ P d symbol f s f' s' a r. (
        rw (r.answer ∙ symbol-answer P (length d) (length f) (length s) symbol (symbols P.mode))
            (fault-told P _ (symbol-each (λ n. T (is_number n)) tt tt tt tt P.k (length d) (length f) (length s) symbol (symbols P.mode))),
        r.kept,
      );
      receive = λ P marks f s before after a.
          told P marks (early P (length before) (length f) (length s) (4096 * symbols P.mode)) _ before after a
          (early-told P (length before) (length f) (length s) (4096 * symbols P.mode));
      feed = λ P f s before after a r. (rw r.answer (fault-told P _ (feeding-number P before (length f) (length s))), r.kept);
      ask = λ P marks state before after a.
          told P marks (asking P state (length before)) _ before after a (fault-told P _ (asking-number P state (length before)));
      compare = λ from G before after a r. (
        rw r.number (comparing-number (length G.firsts_a) (length G.seconds_a) (length G.firsts_b) (length G.seconds_b)),
        λ n. (r.refused n).1,
      );
      read = read_number;
      write = write-told;
    }
