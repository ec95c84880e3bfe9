-- Demand 2: cell for cell, and accepted exactly when some packet has the bits that the cells decide to.
use mathlib.Core.Path.{◌≡◌, refl, sym, ap, ap₂, ◌∙◌}
use mathlib.Core.List.{List}
use mathlib.Core.Logic.{◌↔◌}
use Prim.Native.Nat.{ℕ, ◌+◌, ◌*◌, ◌/◌, ◌%◌, ◌<◌}
use native.Mathlib.Decide.{ℕ_discrete, dec_lt}
use native.Mathlib.Omega.{arith}
use lib.Dec.{T, ltb}
use borrow.Author.Tests.{eq-eqb, ne_eqb, le-ltb}
use lib.Ieee.{Float}
use lib.ListN.{length, get_or}
use Rattle.rules.specs.Bits.{pick}
use Rattle.rules.specs.Outer.{marked}
use Rattle.rules.specs.Modes.{symbols}
use Rattle.rules.specs.Points.{zero_part, first_part, second_part}
use Rattle.rules.specs.Profile.{only, ◌or◌, faultless}
use Rattle.rules.specs.Answers.{has_read, names_fault}
use Rattle.rules.specs.Block.{lengths, early, Cells, sent_cell, SendRule, SendSymbolRule, Accepted, ReceiveRule}
use Rattle.rules.specs.Demands.{D2, SomePacket}
use Rattle.rules.specs.Answers.{Answer}
use Rattle.rules.specs.declared.Profile.{Profile}
use Rattle.rules.specs.declared.Receipt.{Receipt}
use Rattle.laws.specs.Holds.{holds_one}
use Rattle.profile.proofs.RoundTrip.{writes, read_written, written_read, read_refused, written_out, write_names}
use Rattle.profile.proofs.AtFault.{fault-names}
use Rattle.block.proofs.Passed.{early-right}
use Rattle.receiving.proofs.States.{feeding-names, asking-names}
use Rattle.receiving.proofs.Fed.{feed_22, ask_22, takes, ask_reads, one_feeding}
use Rattle.card.proofs.OneAnswer.{one_receipt, one_asking}
use Rattle.card.proofs.Reading.{reads, nothing_accepted, own_cells}
use Rattle.card.proofs.Place.{judges, reason-verdict, accepted}
use Rattle.card.proofs.Cutting.{any_cutting}
use Rattle.card.proofs.Names.{lengths-each, symbol-each, symbol-answer, answered-names}

-- cells leave one pair of lists
one-pair : (P : Profile) (d : List ℕ) (from n : ℕ) (f s f' s' : List Float) → Cells P d from n f s → Cells P d from n f' s' → (f ≡ f') × (s ≡ s')
one-pair P d from n f s f' s' a b = (
  holds_one zero_part (record { long = a.firsts_long; each = a.firsts_are }) (record { long = b.firsts_long; each = b.firsts_are }),
  holds_one zero_part (record { long = a.seconds_long; each = a.seconds_are }) (record { long = b.seconds_long; each = b.seconds_are }),
)

-- where the answer for one symbol is 0, the symbol is in the grid
in_grid : (n symbol : ℕ) (early : Answer) → only 0 ≡ early or only (pick (ltb symbol n) 0 8) → symbol < n
in_grid n symbol early e = go (ℕ_discrete early.number 0) (dec_lt symbol n)
  where
    zero : 0 ≡ (early or only (pick (ltb symbol n) 0 8)).number
    zero = ap (λ (a : Answer). a.number) e

    go : Dec (early.number ≡ 0) → Dec (symbol < n) → symbol < n
    go z (yes lt) = lt
    go (yes z) (no ge) = absurd (omega (arith, rw (eq-eqb early.number 0 z, le-ltb symbol n (omega arith)) at zero))
    go (no z) (no ge) = absurd (z (sym (rw (ne_eqb early.number 0 z) at zero)))

-- one answer, and the same lists: where it is 0 they hold the same cells, else they are as they were
one-sending : (P : Profile) (d : List ℕ) (from count : ℕ) {f s f' s' f'' s'' : List Float} {n m : Answer}
    → n ≡ m
    → (n.number ≡ 0 → Cells P d from count f' s')
    → (m.number ≡ 0 → Cells P d from count f'' s'')
    → (¬ (n.number ≡ 0) → (f' ≡ f) × (s' ≡ s))
    → (¬ (m.number ≡ 0) → (f'' ≡ f) × (s'' ≡ s))
    → (n ≡ m) × (f' ≡ f'') × (s' ≡ s'')
one-sending P d from count {f' = f'} {s' = s'} {f'' = f''} {s'' = s''} {n = n} {m = m} same a b x y = go (ℕ_discrete n.number 0)
  where
    alike : n.number ≡ m.number
    alike = ap (λ (z : Answer). z.number) same

    go : Dec (n.number ≡ 0) → (n ≡ m) × (f' ≡ f'') × (s' ≡ s'')
    go (yes e) = let q = one-pair P d from count f' s' f'' s'' (a e) (b (sym alike ∙ e)) in (same, q.0, q.1)
    go (no ne) =
        let p = x ne in
        let q = y (λ e. ne (alike ∙ e)) in
        (same, p.0 ∙ sym q.0, p.1 ∙ sym q.1)

symbol_of_grid : (P : Profile) (d : List ℕ) (symbol : ℕ) (f s f' s' F S F' S' : List Float) (i : ℕ)
    → SendSymbolRule P d symbol f s f' s' (only 0)
    → SendRule P d F S F' S' (only 0)
    → i < 4096
    → (get_or f' i zero_part ≡ get_or F' (4096 * symbol + i) zero_part) × (get_or s' i zero_part ≡ get_or S' (4096 * symbol + i) zero_part)
symbol_of_grid P d symbol f s f' s' F S F' S' i one all lt =
    let c = one.cells refl in
    let g = all.cells refl in
    let y : symbol + i / 4096 ≡ 0 + (4096 * symbol + i) / 4096 = omega arith in
    let x : i % 4096 ≡ (4096 * symbol + i) % 4096 = omega arith in
    let at : 4096 * symbol + i < 4096 * symbols P.mode = omega (arith, in_grid (symbols P.mode) symbol (early P (length d) (length f) (length s) 4096) one.answer) in
    let cell : sent_cell P d (symbol + i / 4096) (i % 4096) ≡ sent_cell P d (0 + (4096 * symbol + i) / 4096) ((4096 * symbol + i) % 4096)
    = ap₂ (sent_cell P d) y x in (
      c.firsts_are i (omega arith) ∙ ap first_part cell ∙ sym (g.firsts_are (4096 * symbol + i) at),
      c.seconds_are i (omega arith) ∙ ap second_part cell ∙ sym (g.seconds_are (4096 * symbol + i) at),
    )

-- a block is sent exactly where profile and lengths are right
sends : (P : Profile) (d : List ℕ) (f s f' s' : List Float) (a : Answer) → SendRule P d f s f' s' a
    → (a.number ≡ 0)
    ↔ (T (faultless P) × (length d ≡ 122 * P.k) × (length f ≡ 4096 * symbols P.mode) × (length s ≡ 4096 * symbols P.mode))
sends P d f s f' s' a r =
    let same = ap (λ (x : Answer). x.number) r.answer in
    let iff = early-right P (length d) (length f) (length s) (4096 * symbols P.mode) in
    ((λ z. iff.0 (sym same ∙ z)), λ q. same ∙ iff.1 q)

accepts : (P : Profile) (marks : ℕ) (f s : List Float) (before after : List ℕ) (a : Receipt)
    → ReceiveRule P marks f s before after a
    → T (has_read a.number)
    → (p : ℕ)
    → p < 16
    → marked marks p ≡ 0
    → Accepted a p ↔ SomePacket P f s p
accepts P marks f s before after a r t p l u =
    let w = (reads P marks f s before after a r).0 t in
    let is = (judges f s r w.0 w.1 w.2 w.3).reasons_are p l ∙ reason-verdict P marks f s p (omega arith) in
    let iff = accepted P f s p in
    ((λ x. iff.0 (sym is ∙ x.1)), λ q. (t, is ∙ iff.1 q))

-- the numbers for lengths name no field
unnamed : (P : Profile) (bytes firsts seconds cells : ℕ) → ¬ T (names_fault (lengths P.k bytes firsts seconds cells))
unnamed P = lengths-each (λ n. ¬ T (names_fault n)) (λ t. t) (λ t. t) (λ t. t) P.k

pub d2 : D2
d2 =
    record {
      cells = λ P d f s f' s' n r. r.cells;
      sends = sends;
      one_grid = λ P d f s f' s' f'' s'' n m a b.
          one-sending P d 0 (symbols P.mode) (a.answer ∙ sym b.answer) a.cells b.cells a.kept b.kept;
      symbol_of_grid = symbol_of_grid;
      symbol_cells = λ P d symbol f s f' s' n r. r.cells;
      one_symbol = λ P d symbol f s f' s' f'' s'' n m a b.
          one-sending P d symbol 1 (a.answer ∙ sym b.answer) a.cells b.cells a.kept b.kept;
      reads = reads;
      nothing_accepted = λ P marks f s before after a. nothing_accepted P marks _ _ before after a;
      accepts = accepts;
      own_cells = λ P marks f s f' s' before after after' a a' x y alike. own_cells P marks f s f' s' before x y alike after after' a a';
      one_receipt = λ P marks f s before. one_receipt P marks before f s;
      feed_22 = feed_22;
      ask_22 = ask_22;
      takes = takes;
      any_cutting = any_cutting;
      as_whole = λ P marks f s state before after after' a a' h all r.
          one_receipt P marks before f s after after' a a' (any_cutting P marks f s state before after a h all r);
      ask_reads = ask_reads;
      ask_accepts = λ P marks f s state before after a h r t.
          accepts P marks f s before after a (any_cutting P marks f s state before after a h ((ask_reads P marks f s state before after a h r).0 t).2 r) t;
      ask_nothing = λ P marks state before after a. nothing_accepted P marks _ _ before after a;
      one_feeding = one_feeding;
      one_asking = λ P marks state before. one_asking P marks before state;
      writes = writes;
      read_written = read_written;
      written_read = written_read;
      read_refused = read_refused;
      written_out = written_out;
      send_names = λ P d f s f' s' a r.
          fault-names P _ a (unnamed P (length d) (length f) (length s) (4096 * symbols P.mode)) r.answer;
      symbol_names = λ P d symbol f s f' s' a r.
          fault-names P _ a
          (symbol-each (λ n. ¬ T (names_fault n)) (λ t. t) (λ t. t) (λ t. t) (λ t. t) P.k (length d) (length f) (length s) symbol (symbols P.mode))
          (r.answer ∙ symbol-answer P (length d) (length f) (length s) symbol (symbols P.mode));
      receive_names = λ P marks f s before after a.
          answered-names P marks _ _ before after a (unnamed P (length before) (length f) (length s) (4096 * symbols P.mode));
      feed_names = λ P f s before after a r. fault-names P _ a (feeding-names P before (length f) (length s)) r.answer;
      ask_names = λ P marks state before after a. answered-names P marks _ _ before after a (asking-names P state (length before));
      write_names = write_names;
    }
