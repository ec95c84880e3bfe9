-- The rows that the steps of encoding make are the streams.
use mathlib.Core.Path.{◌≡◌, refl, sym, ap, ◌∙◌}
use Prim.Native.Nat.{ℕ, zero, suc, ◌+◌, ◌-◌, ◌<◌, ◌≤◌}
use native.Mathlib.Nat.{zero-add, sub-zero}
use native.Mathlib.Numerals.{add-one}
use native.Mathlib.Decide.{dec_lt}
use native.Mathlib.Omega.{arith}
use Rattle.rules.specs.Turbo.{X, Y0, at, feedback, parity_of, shift, entering, state, y0, ending}
use Rattle.rules.specs.Bits.{row}
use Rattle.rules.specs.Interleaver.{table_d, interleaved}
use Rattle.rules.specs.Slots.{second}
use Rattle.patterns.specs.Places.{place_from}
use Rattle.turbo.specs.Streams.{stream}
use Rattle.turbo.specs.Within.{within, from, after_zeros, with_data, with_ends}
use Rattle.turbo.proofs.Streams.{stream-data, stream-tail, stream-own, stream-same, stream-first, stream-second}
use Rattle.turbo.proofs.Within.{within-before, within-after, within_in, within-bit, within-swap, ends_same}

pub state-next : (x : ℕ → ℕ) (i : ℕ) → state x (i + 1) ≡ shift (entering (x i) (state x i)) (state x i)
unfolding state
state-next x i = rw add-one

ending-zeros : (x : ℕ → ℕ) (n k : ℕ) → ending x n k ≡ after_zeros (state x n) k
unfolding ending after_zeros
ending-zeros x n zero = refl
ending-zeros x n (suc k) = ap (shift 0) (ending-zeros x n k)

-- the two streams of an encoder that reads x, filled in from a on
module _ (a : ℕ) (x g : ℕ → ℕ) (reads : (i : ℕ) → i < 994 → from g a i ≡ x i) where
  abbrev last_x : ℕ → ℕ
  last_x k = feedback (after_zeros (state x 994) k)

  abbrev last_y0 : ℕ → ℕ
  last_y0 k = parity_of 0 (after_zeros (state x 994) k)

  abbrev walked : ℕ → ℕ
  walked = within (a + 997) 994 (y0 x) g

  abbrev nearly : ℕ → ℕ
  nearly = within (a + 1991) 3 last_y0 walked

  -- the streams that begin at a
  at_own : (k : ℕ) → a ≤ k → k < a + 994 → g k ≡ stream x x (k - a)
  at_own k le lt =
      let there : k ≡ a + (k - a) = omega arith in
      ap g there ∙ reads (k - a) (omega arith) ∙ sym (stream-own x x (k - a) (omega arith))

  at-last_x : (k : ℕ) → a + 994 ≤ k → k < a + 997 → last_x (k - (a + 994)) ≡ stream x x (k - a)
  at-last_x k le lt =
      let there : place_from 994 (at X (k - (a + 994))) ≡ k - a = omega arith in
      ap feedback (sym (ending-zeros x 994 _)) ∙ sym (stream-tail x x (at X (k - (a + 994))) (omega arith)) ∙ ap (stream x x) there

  at-y0 : (k : ℕ) → a + 997 ≤ k → k < a + 1991 → y0 x (k - (a + 997)) ≡ stream x x (k - a)
  at-y0 k le lt =
      let there : place_from 0 (at Y0 (k - (a + 997))) ≡ k - a = omega arith in
      ap (y0 x) (sym (zero-add _)) ∙ sym (stream-data x x 0 (at Y0 (k - (a + 997))) (omega arith)) ∙ ap (stream x x) there

  at-last_y0 : (k : ℕ) → a + 1991 ≤ k → k < a + 1994 → last_y0 (k - (a + 1991)) ≡ stream x x (k - a)
  at-last_y0 k le lt =
      let there : place_from 994 (at Y0 (k - (a + 1991))) ≡ k - a = omega arith in
      ap (parity_of 0) (sym (ending-zeros x 994 _)) ∙ sym (stream-tail x x (at Y0 (k - (a + 1991))) (omega arith)) ∙ ap (stream x x) there

  with-streams : (k : ℕ) → with_ends a (state x 994) walked k ≡ within a 1994 (stream x x) g k
  with-streams k = go (dec_lt k a) (dec_lt k (a + 994)) (dec_lt k (a + 997)) (dec_lt k (a + 1991)) (dec_lt k (a + 1994))
    where
      before : k < a + 994 → with_ends a (state x 994) walked k ≡ g k
      before lt =
          within-before (a + 994) 3 last_x nearly k lt ∙ within-before (a + 1991) 3 last_y0 walked k (omega arith)
          ∙ within-before (a + 997) 994 (y0 x) g k (omega arith)

      go : Dec (k < a)
          → Dec (k < a + 994)
          → Dec (k < a + 997)
          → Dec (k < a + 1991)
          → Dec (k < a + 1994)
          → with_ends a (state x 994) walked k ≡ within a 1994 (stream x x) g k
      go (yes p) q r s t = before (omega arith) ∙ sym (within-before a 1994 (stream x x) g k p)
      go (no p) (yes q) r s t = before q ∙ at_own k (omega arith) q ∙ sym (within_in a 1994 (stream x x) g k (omega arith) (omega arith))
      go (no p) (no q) (yes r) s t =
          within_in (a + 994) 3 last_x nearly k (omega arith) (omega arith) ∙ at-last_x k (omega arith) r
          ∙ sym (within_in a 1994 (stream x x) g k (omega arith) (omega arith))
      go (no p) (no q) (no r) (yes s) t =
          within-after (a + 994) 3 last_x nearly k (omega arith) ∙ within-before (a + 1991) 3 last_y0 walked k s
          ∙ within_in (a + 997) 994 (y0 x) g k (omega arith) (omega arith) ∙ at-y0 k (omega arith) s
          ∙ sym (within_in a 1994 (stream x x) g k (omega arith) (omega arith))
      go (no p) (no q) (no r) (no s) (yes t) =
          within-after (a + 994) 3 last_x nearly k (omega arith) ∙ within_in (a + 1991) 3 last_y0 walked k (omega arith) (omega arith)
          ∙ at-last_y0 k (omega arith) t ∙ sym (within_in a 1994 (stream x x) g k (omega arith) (omega arith))
      go (no p) (no q) (no r) (no s) (no t) =
          within-after (a + 994) 3 last_x nearly k (omega arith) ∙ within-after (a + 1991) 3 last_y0 walked k (omega arith)
          ∙ within-after (a + 997) 994 (y0 x) g k (omega arith) ∙ sym (within-after a 1994 (stream x x) g k (omega arith))

-- ---- the four streams, by both encoders

pub data-bit : (x : ℕ → ℕ) → ((i : ℕ) → x i < 2) → (k : ℕ) → with_data x k < 2
data-bit x bit k =
    within-bit 0 994 x _ k bit (within-bit 1994 994 (second x) (λ j. 0) k (λ j. bit (interleaved 5 (row table_d) 994 j)) (omega arith))

-- f has the data of both
module _ (x f : ℕ → ℕ) (entered : (k : ℕ) → k < 3988 → f k ≡ with_data x k) where
  first_reads : (i : ℕ) → i < 994 → f i ≡ x i
  first_reads i lt = entered i (omega arith) ∙ within_in 0 994 x _ i (omega arith) (omega arith) ∙ ap x (sub-zero i)

  second_reads : (i : ℕ) → i < 994 → from f 1994 i ≡ second x i
  second_reads i lt =
      let back : 1994 + i - 1994 ≡ i = omega arith in
      entered (1994 + i) (omega arith) ∙ within-after 0 994 x _ (1994 + i) (omega arith)
      ∙ within_in 1994 994 (second x) _ (1994 + i) (omega arith) (omega arith) ∙ ap (second x) back

  pub data-streams : (k : ℕ) → stream f (from f 1994) k ≡ stream x (second x) k
  data-streams = stream-same f (from f 1994) x (second x) first_reads second_reads

-- g has the data, l the parities too, and m the first encoder's ends
module _ (g l m : ℕ → ℕ) where
  abbrev x' : ℕ → ℕ
  x' = from g 1994

  abbrev second_walked : ℕ → ℕ
  second_walked = within 2991 994 (y0 x') g

  abbrev first_done : ℕ → ℕ
  first_done = within 0 1994 (stream g g) g

  pub both-streams : ((k : ℕ) → k < 3988 → l k ≡ within 997 994 (y0 g) second_walked k)
      → ((k : ℕ) → k < 3988 → m k ≡ with_ends 0 (state g 994) l k)
      → (k : ℕ)
      → k < 3988
      → with_ends 1994 (state x' 994) m k ≡ stream g x' k
  both-streams walked first_ended k lt =
      ends_same 1994 (state x' 994) m (within 2991 994 (y0 x') first_done) k half-way
      ∙ with-streams 1994 x' first_done (λ i below. within-after 0 1994 (stream g g) g (1994 + i) (omega arith)) k ∙ go (dec_lt k 1994)
    where
      half-way : m k ≡ within 2991 994 (y0 x') first_done k
      half-way =
          first_ended k lt ∙ ends_same 0 (state g 994) l _ k (walked k lt)
          ∙ with-streams 0 g second_walked
          (λ i below. within-before 2991 994 (y0 x') g (0 + i) (omega arith) ∙ ap g (zero-add i)) k
          ∙ within-swap 0 1994 2991 994 (stream g g) (y0 x') g k (omega arith)

      go : Dec (k < 1994) → within 1994 1994 (stream x' x') first_done k ≡ stream g x' k
      go (yes h) =
          within-before 1994 1994 (stream x' x') first_done k h ∙ within_in 0 1994 (stream g g) g k (omega arith) (omega arith)
          ∙ ap (stream g g) (sub-zero k) ∙ stream-first g g x' k h
      go (no h) =
          let whole : 1994 + (k - 1994) ≡ k = omega arith in
          within_in 1994 1994 (stream x' x') first_done k (omega arith) (omega arith)
          ∙ sym (stream-second g x' x' (k - 1994) (omega arith)) ∙ ap (stream g x') whole
