-- Pieces that are fed: what they leave, and that the states which pieces leave are exactly those that 22 does not refuse.
use mathlib.Core.Path.{◌≡◌, refl, sym, ◌∙◌, ap, ap₂, subst}
use mathlib.Core.Bool.{Bool, ◌&&◌}
use mathlib.Core.List.{List, [], ◌∷◌, ◌++◌}
use mathlib.Core.Logic.Iff
use mathlib.Core.Logic.{◌↔◌, ◌⊎◌, inl, inr}
use Prim.Native.Nat.{ℕ, zero, suc, ◌+◌, ◌-◌, ◌*◌, ◌/◌, ◌%◌, ◌^◌, ◌<◌, ◌≤◌}
use native.Mathlib.Decide.{ℕ_discrete, dec_lt}
use native.Mathlib.Nat.{le_of_suc-le-suc, eq-zero-or-pos, mod-lt, div-lt_iff_lt-mul, div-add-mod}
use native.Mathlib.Omega.{arith}
use lib.Dec.{T, eqb, ltb}
use lib.Ieee.{Float}
use lib.ListN.{length, get_or, replicate, length-append, length-replicate, get_or-replicate, get_or-append, get_or-eq_default}
use lib.Seq.{get_or-append-add, ext_get_or}
use borrow.Author.Tests.{lt-ltb, le-ltb, le-leb, lt-leb, eq-eqb, ne_eqb}
use Rattle.rules.specs.Bits.{pick, row, bit_of}
use Rattle.rules.specs.Modes.{part_bits, symbols}
use Rattle.rules.specs.Points.{zero_part, part, decide}
use Rattle.rules.specs.Profile.{only, faultless}
use Rattle.rules.specs.Answers.{Answer}
use Rattle.profile.proofs.AtFault.{or-zero}
use Rattle.rules.specs.Answers.{has_read}
use Rattle.rules.specs.Block.{Answered, Delivered}
use Rattle.rules.specs.Pieces.{new_state, seen, cell_in, choices, cell_byte, is_state, byte_at, fed_cell, Put, FeedRule, Fed, LeftBy, asking, AskRule}
use Rattle.rules.specs.declared.Profile.{Profile}
use Rattle.rules.specs.declared.Receipt.{Receipt}
use Rattle.laws.specs.Decisions.{Good, decide-number, decide-zero}
use Rattle.modes.proofs.Figures.{figures}
use Rattle.hearing.proofs.Reading.{byte-lt}
use Rattle.profile.proofs.InRange.{good-level}
use Rattle.receiving.proofs.States.{IsState, is_state_lem, grid-fits, feeding-taken, feeding-22, asking-0, asking-22, asking-not-read}

-- ---- what a new state and a fed cell are

-- a list of zeros, read at any place
zeros : (n i : ℕ) → row (replicate n 0) i ≡ 0
zeros n i = go (dec_lt i n)
  where
    go : Dec (i < n) → row (replicate n 0) i ≡ 0
    go (yes l) = get_or-replicate n i 0 0 l
    go (no l) = get_or-eq_default (replicate n 0) 0 {n = i} (omega (arith, length-replicate {A = ℕ} n 0))

new-long : length new_state ≡ 28674
unfolding new_state
new-long = length-replicate {A = ℕ} 28674 0

new_row : (i : ℕ) → row new_state i ≡ 0
unfolding new_state
new_row i = zeros 28674 i

new-seen : seen new_state ≡ 0
new-seen = omega (arith, new_row 0, new_row 1)

-- the byte of a cell that had come before the piece, comes in it, or has not come yet
module _ (P : Profile) (n : ℕ) (f s : List Float) (before : ℕ → ℕ) (c : ℕ) where
  abbrev fed_as : Bool → ℕ
  fed_as b = pick b (byte_at P f s (c - n)) (before c)

  pub fed-before : c < n → fed_cell P n f s before c ≡ before c
  fed-before h = ap (λ (b : Bool). fed_as (b && ltb c (n + length f))) (lt-leb n c h)

  pub fed-in : n ≤ c → c < n + length f → fed_cell P n f s before c ≡ byte_at P f s (c - n)
  fed-in h l = ap₂ (λ (a b : Bool). fed_as (a && b)) (le-leb n c h) (lt-ltb c (n + length f) l)

  pub fed-after : n ≤ c → n + length f ≤ c → fed_cell P n f s before c ≡ before c
  fed-after h l = ap₂ (λ (a b : Bool). fed_as (a && b)) (le-leb n c h) (le-ltb c (n + length f) l)

-- ---- parts that decide to what is wanted

-- a byte that a cell can have has two decisions; n is how many a part has
byte-of : (n b : ℕ) → b < n * n → (b % n < n) × (b / n < n) × (b % n + n * (b / n) ≡ b)
byte-of n b h = (mod-lt b some, (div-lt_iff_lt-mul {y = n} some).1 h, omega (arith, div-add-mod b n))
  where
    some : 0 < n
    some = go (eq-zero-or-pos n)
      where
        go : (n ≡ 0) ⊎ (0 < n) → 0 < n
        go (inl e) = absurd (omega (arith, subst (λ (k : ℕ). b < k * k) e h))
        go (inr l) = l

module _ (w : ℕ) (level floor : Float) (two : (w ≡ 1) ⊎ (w ≡ 2)) (good : Good w level floor) where
  part_for : ℕ → Float
  part_for d = pick (eqb d (2 ^ w)) zero_part (part w level (bit_of w d))

  part-decides : (d : ℕ) → d < choices w → decide w level floor (part_for d) ≡ d
  unfolding part_for
  part-decides d h = go (ℕ_discrete d (2 ^ w))
    where
      go : Dec (d ≡ 2 ^ w) → decide w level floor (part_for d) ≡ d
      go (yes e) = rw (eq-eqb d (2 ^ w) e) (decide-zero w level floor two good ∙ sym e)
      go (no ne) = rw (ne_eqb d (2 ^ w) ne) (decide-number w level floor d two good (omega arith))

-- the first n that a function says, as a list
abbrev made : ℕ → (ℕ → Float) → List Float
made zero g = []
made (suc n) g = g 0 ∷ made n (λ k. g (suc k))

made-long : (n : ℕ) (g : ℕ → Float) → length (made n g) ≡ n
made-long zero g = refl
made-long (suc n) g = ap suc (made-long n (λ k. g (suc k)))

made_at : (n : ℕ) (g : ℕ → Float) (i : ℕ) (d : Float) → i < n → get_or (made n g) i d ≡ g i
made_at zero g i d h = absurd (omega arith)
made_at (suc n) g zero d h = refl
made_at (suc n) g (suc i) d h = made_at n (λ k. g (suc k)) i d (le_of_suc-le-suc h)

-- where the outer code has spoken, the cells were read
pub delivered-read : {k lost : ℕ} {kept : ℕ → ℕ → ℕ} {before after : List ℕ} {n : ℕ} → Delivered k lost kept before after n → T (has_read n)
delivered-read (Delivered.whole few w agree long is) = tt
delivered-read (Delivered.too_many many e) = tt
delivered-read (Delivered.no_codeword few j l none e) = tt

-- where the cells were read, no number came first
pub read_first : {P : Profile} {marks : ℕ} {n : Answer} {v : ℕ → ℕ} {before after : List ℕ} {a : Receipt} → Answered P marks n v before after a
    → (¬ (n.number ≡ 0) → ¬ T (has_read n.number))
    → T (has_read a.number)
    → n.number ≡ 0
read_first {n = n} r first t = go (ℕ_discrete n.number 0)
  where
    go : Dec (n.number ≡ 0) → n.number ≡ 0
    go (yes z) = z
    go (no ne) = absurd (first ne (subst (λ (b : Receipt). T (has_read b.number)) (r.refused ne).0 t))

module _ (P : Profile) where
  -- how many cells the grid has
  abbrev grid : ℕ
  grid = 4096 * symbols P.mode

  abbrev w : ℕ
  w = part_bits P.mode

  two : (w ≡ 1) ⊎ (w ≡ 2)
  two = (figures P.mode).part

  -- the byte of two parts
  abbrev byte : Float → Float → ℕ
  byte = cell_byte w P.level P.floor

  -- ---- what fed pieces leave

  -- the state counts the cells and keeps what each decides to
  pub record Left (f s : List Float) (state : List ℕ) : Type 0 where
    pub long : length state ≡ 28674
    pub firsts : seen state ≡ length f
    pub seconds : length s ≡ length f
    pub within : length f ≤ grid
    pub come : (c : ℕ) → c < length f → cell_in state c ≡ byte_at P f s c
    pub rest : (c : ℕ) → length f ≤ c → 2 + c < 28674 → cell_in state c ≡ 0

  left-new : Left [] [] new_state
  left-new =
      record {
        long = new-long;
        firsts = new-seen;
        seconds = refl;
        within = omega arith;
        come = λ c h. absurd (omega arith);
        rest = λ c h l. new_row (2 + c);
      }

  left-piece : (f s f' s' : List Float) (before after : List ℕ) → Left f s before → FeedRule P f' s' before after (only 0) → Left (f ++ f') (s ++ s') after
  left-piece f s f' s' before after w r =
      record {
        long = r.long ∙ w.long;
        firsts = omega (arith, put.high, put.low, length-append f f');
        seconds = omega (arith, t.2, length-append f f', length-append s s');
        within = omega (arith, t.3, length-append f f');
        come = λ c h. go c (omega (arith, length-append f f')) (dec_lt c (length f));
        rest = λ c h l.
            put.cells c l
            ∙ fed-after P (seen before) f' s' (cell_in before) c (omega (arith, length-append f f')) (omega (arith, length-append f f'))
            ∙ w.rest c (omega (arith, length-append f f')) l;
      }
    where
      put : Put P f' s' before after
      put = r.taken refl

      t : T (faultless P) × T (is_state P.mode before) × (length f' ≡ length s') × (seen before + length f' ≤ grid)
      t = (feeding-taken P before (length f') (length s')).0 (sym (ap (λ (x : Answer). x.number) r.answer))

      -- past the seam of two lists
      past : (g g' : List Float) (c k : ℕ) → length g + k ≡ c → get_or (g ++ g') c zero_part ≡ get_or g' k zero_part
      past g g' c k e = ap (λ (i : ℕ). get_or (g ++ g') i zero_part) (sym e) ∙ get_or-append-add g g' k zero_part

      go : (c : ℕ)
          → c < length f + length f'
          → Dec (c < length f)
          → cell_in after c ≡ byte_at P (f ++ f') (s ++ s') c
      go c h (yes l) =
          put.cells c (omega (arith, grid-fits P.mode))
          ∙ fed-before P (seen before) f' s' (cell_in before) c (omega arith) ∙ w.come c l
          ∙ sym (ap₂ byte (get_or-append f f' zero_part c l) (get_or-append s s' zero_part c (omega arith)))
      go c h (no l) =
          put.cells c (omega (arith, t.3, grid-fits P.mode))
          ∙ fed-in P (seen before) f' s' (cell_in before) c (omega arith) (omega arith)
          ∙ sym (ap₂ byte (past f f' c (c - seen before) (omega arith)) (past s s' c (c - seen before) (omega arith)))

  pub fed_left : {f s : List Float} {state : List ℕ} → Fed (FeedRule P) f s state → Left f s state
  fed_left Fed.new = left-new
  fed_left (Fed.piece f s f' s' before after h r) = left-piece f s f' s' before after (fed_left h) r

  pub left_state : {f s : List Float} {state : List ℕ} → Left f s state → T (is_state P.mode state)
  left_state {f} {s} {state} l =
      (is_state_lem P.mode state).1
      (record {
        long = l.long;
        within = omega (arith, l.firsts, l.within);
        come = λ c h. rw (l.come c (omega (arith, l.firsts))) (byte-lt P f s c);
        rest = λ c h k. l.rest c (omega (arith, l.firsts)) k;
      })

  fed-state : {f s : List Float} {state : List ℕ} → Fed (FeedRule P) f s state → T (is_state P.mode state)
  fed-state h = left_state (fed_left h)

  -- ---- 22 exactly

  -- one piece from the new state on leaves a state that passes the test
  module _ (state : List ℕ) (is : IsState P.mode state) (range : T (faultless P)) where
    good : Good w P.level P.floor
    good = good-level P range

    firsts : List Float
    firsts = made (seen state) (λ c. part_for w P.level P.floor two good (cell_in state c % choices w))

    seconds : List Float
    seconds = made (seen state) (λ c. part_for w P.level P.floor two good (cell_in state c / choices w))

    firsts_long : length firsts ≡ seen state
    unfolding firsts
    firsts_long = made-long (seen state) _

    seconds_long : length seconds ≡ seen state
    unfolding seconds
    seconds_long = made-long (seen state) _

    made-byte : (c k : ℕ) → c < seen state → k ≡ c → byte_at P firsts seconds k ≡ cell_in state c
    unfolding firsts seconds
    made-byte c k h e = subst (λ (i : ℕ). byte_at P firsts seconds i ≡ cell_in state c) (sym e) (ap₂ (λ (a b : ℕ). a + choices w * b) one more ∙ byte.2)
      where
        byte : (cell_in state c % choices w < choices w) × (cell_in state c / choices w < choices w)
            × (cell_in state c % choices w + choices w * (cell_in state c / choices w) ≡ cell_in state c)
        byte = byte-of (choices w) (cell_in state c) (is.come c h)

        one : decide w P.level P.floor (get_or firsts c zero_part) ≡ cell_in state c % choices w
        one = ap (decide w P.level P.floor) (made_at (seen state) _ c zero_part h) ∙ part-decides w P.level P.floor two good _ byte.0

        more : decide w P.level P.floor (get_or seconds c zero_part) ≡ cell_in state c / choices w
        more = ap (decide w P.level P.floor) (made_at (seen state) _ c zero_part h) ∙ part-decides w P.level P.floor two good _ byte.1

    made-cell : (c : ℕ) → 2 + c < 28674 → cell_in state c ≡ fed_cell P (seen new_state) firsts seconds (cell_in new_state) c
    made-cell c l = go (dec_lt c (seen state))
      where
        go : Dec (c < seen state) → cell_in state c ≡ fed_cell P (seen new_state) firsts seconds (cell_in new_state) c
        go (yes h) =
            sym (fed-in P (seen new_state) firsts seconds (cell_in new_state) c (omega (arith, new-seen)) (omega (arith, new-seen, firsts_long))
            ∙ made-byte c (c - seen new_state) h (omega (arith, new-seen)))
        go (no h) =
            is.rest c (omega arith) l
            ∙ sym (fed-after P (seen new_state) firsts seconds (cell_in new_state) c (omega (arith, new-seen)) (omega (arith, new-seen, firsts_long))
            ∙ new_row (2 + c))

    made-rule : row state 1 < 256 → FeedRule P firsts seconds new_state state (only 0)
    made-rule low =
        record {
          answer =
              sym (or-zero P _
              ((feeding-taken P new_state (length firsts) (length seconds)).1
              (range, left_state left-new, firsts_long ∙ sym seconds_long, omega (arith, new-seen, firsts_long))));
          long = is.long ∙ sym new-long;
          taken = λ z.
              record { high = omega (arith, new-seen, firsts_long); low = omega (arith, new-seen, firsts_long); cells = made-cell };
          kept = λ ne. absurd (ne refl);
        }

  module _ (state : List ℕ) (bytes : (i : ℕ) → row state i < 256) where
    state-fed : T (faultless P) → T (is_state P.mode state) → LeftBy (FeedRule P) state
    state-fed range t =
        let is = (is_state_lem P.mode state).0 t in (
          firsts state is range,
          seconds state is range,
          Fed.piece [] [] (firsts state is range) (seconds state is range) new_state state Fed.new (made-rule state is range (bytes 1)),
        )

    -- so the test passes exactly the states that pieces leave
    left_by : T (faultless P) → T (is_state P.mode state) ↔ LeftBy (FeedRule P) state
    left_by range = (state-fed range, λ l. fed-state l.2)

    not_left : (T (faultless P) × ¬ T (is_state P.mode state)) ↔ (T (faultless P) × ¬ LeftBy (FeedRule P) state)
    not_left = ((λ q. (q.0, λ l. q.1 ((left_by q.0).1 l))), λ q. (q.0, λ t. q.1 ((left_by q.0).0 t)))

  pub feed_22 : (f s : List Float) (before after : List ℕ) (a : Answer)
      → ((i : ℕ) → row before i < 256)
      → FeedRule P f s before after a
      → (a.number ≡ 22) ↔ (T (faultless P) × ¬ LeftBy (FeedRule P) before)
  feed_22 f s before after a bytes r = rw r.answer (Iff.trans (feeding-22 P before (length f) (length s)) (not_left before bytes))

  -- a number at which no cell is read is answered exactly where it comes first
  answered-as : (marks : ℕ) (n : Answer) (q : ℕ) (v : ℕ → ℕ) (before after : List ℕ) (a : Receipt)
      → ¬ T (has_read q)
      → Answered P marks n v before after a
      → (a.number ≡ q) ↔ (n.number ≡ q)
  answered-as marks n q v before after a unread r = go (ℕ_discrete n.number 0)
    where
      go : Dec (n.number ≡ 0) → (a.number ≡ q) ↔ (n.number ≡ q)
      go (yes z) = (
        (λ e. absurd (unread (subst (λ (k : ℕ). T (has_read k)) e (delivered-read (r.judged z).delivered)))),
        λ e. absurd (unread (subst (λ (k : ℕ). T (has_read k)) (sym z ∙ e) tt)),
      )
      go (no ne) = let is : a.number ≡ n.number = ap (λ (b : Receipt). b.number) (r.refused ne).0 in ((λ e. sym is ∙ e), λ e. is ∙ e)

  pub ask_22 : (marks : ℕ) (state before after : List ℕ) (a : Receipt)
      → ((i : ℕ) → row state i < 256)
      → AskRule P marks state before after a
      → (a.number ≡ 22) ↔ (T (faultless P) × ¬ LeftBy (FeedRule P) state)
  ask_22 marks state before after a bytes r =
      Iff.trans (answered-as marks (asking P state (length before)) 22 _ before after a (λ t. t) r)
      (Iff.trans (asking-22 P state (length before)) (not_left state bytes))

  -- ---- what is taken, what is read, and that there is one answer

  pub takes : (f s f' s' : List Float) (before after : List ℕ) (a : Answer)
      → T (faultless P)
      → Fed (FeedRule P) f s before
      → FeedRule P f' s' before after a
      → (a.number ≡ 0) ↔ ((length f' ≡ length s') × (length f + length f' ≤ grid))
  takes f s f' s' before after a range h r =
      let w = fed_left h in
      let same = ap (λ (x : Answer). x.number) r.answer in
      let iff = feeding-taken P before (length f') (length s') in (
        (λ e. let q = iff.0 (sym same ∙ e) in (q.2, omega (arith, q.3))),
        λ q. same ∙ iff.1 (range, left_state w, q.0, omega (arith, q.1)),
      )

  pub ask_reads : (marks : ℕ) (f s : List Float) (state before after : List ℕ) (a : Receipt)
      → Fed (FeedRule P) f s state
      → AskRule P marks state before after a
      → T (has_read a.number) ↔ (T (faultless P) × (length before ≡ 122 * P.k) × (length f ≡ grid))
  ask_reads marks f s state before after a h r = (
    (λ t. let q = iff.0 (read_first r (asking-not-read P state (length before)) t) in (q.0, q.2, sym w.firsts ∙ q.3)),
    λ q. delivered-read (r.judged (iff.1 (q.0, left_state w, q.1, w.firsts ∙ q.2))).delivered,
  )
    where
      n : Answer
      n = asking P state (length before)

      w : Left f s state
      w = fed_left h

      iff : (n.number ≡ 0) ↔ (T (faultless P) × T (is_state P.mode state) × (length before ≡ 122 * P.k) × (seen state ≡ grid))
      iff = asking-0 P state (length before)

  pub one_feeding : (f s : List Float) (before after after' : List ℕ) (a b : Answer)
      → FeedRule P f s before after a
      → FeedRule P f s before after' b
      → (a ≡ b) × (after ≡ after')
  one_feeding f s before after after' a b x y = (x.answer ∙ sym y.answer, go (ℕ_discrete a.number 0))
    where
      same : a.number ≡ b.number
      same = ap (λ (z : Answer). z.number) (x.answer ∙ sym y.answer)

      go : Dec (a.number ≡ 0) → after ≡ after'
      go (no ne) = x.kept ne ∙ sym (y.kept (λ e. ne (same ∙ e)))
      go (yes e) = ext_get_or 0 after after' (x.long ∙ sym y.long) each
        where
          e' : b.number ≡ 0
          e' = sym same ∙ e

          long : length before ≡ 28674
          long = ((is_state_lem P.mode before).0 ((feeding-taken P before (length f) (length s)).0 (sym (ap (λ (z : Answer). z.number) x.answer) ∙ e)).1).long

          each : (i : ℕ) → i < length after → row after i ≡ row after' i
          each zero h = (x.taken e).high ∙ sym (y.taken e').high
          each (suc zero) h = (x.taken e).low ∙ sym (y.taken e').low
          each (suc (suc c)) h =
              let at : 2 + c ≡ suc (suc c) = omega arith in
              let l : 2 + c < 28674 = omega (arith, x.long, long) in
              subst (λ (i : ℕ). row after i ≡ row after' i) at ((x.taken e).cells c l ∙ sym ((y.taken e').cells c l))
