-- The interleaver keeps every address below the length exactly once, for any width n, any 32 odd multipliers D and any length that has room.
-- The kept counters below 32 × 2 ^ n are counted: there are exactly `len`, and counter i has i of them before it.
use mathlib.Core.Path.{◌≡◌, refl, sym, ap, ◌∙◌, subst}
use mathlib.Core.Bool.{Bool, true, false}
use Prim.Native.Nat.{ℕ, zero, suc, ◌+◌, ◌*◌, ◌%◌, ◌^◌, ◌≤◌, ◌<◌}
use native.Mathlib.Nat.{add-suc, suc-add, add-zero}
use native.Mathlib.Omega.{arith}
use native.Mathlib.Decide.{dec_lt}
use lib.Dec.{ltb, eqb, lit≤}
use borrow.Author.Tests.{lt-ltb, ltb-true}
use lib.Dec.{eqb→eq}
use Rattle.rules.specs.Bits.{row}
use Rattle.rules.specs.Kept.{next_kept, counter, count}
use Rattle.rules.specs.Interleaver.{table_d, address, interleaved}
use Rattle.laws.specs.Every.{every-at}
use Rattle.interleaver.proofs.Count.{count_yes, count_no, count-le, count-once, count-below}
use Rattle.interleaver.proofs.OneToOne.{address-injective, back, back-lt, address-back}

module _ (n : ℕ) (D : ℕ → ℕ) (len : ℕ) where
  abbrev kept : ℕ → Bool
  kept m = ltb (address n D m) len

  pub next_here : (turns m : ℕ) → kept m ≡ true → next_kept (address n D) len (suc turns) m ≡ m
  unfolding next_kept
  next_here turns m e = rw (next_kept, e)

  pub next-later : (turns m : ℕ) → kept m ≡ false → next_kept (address n D) len (suc turns) m ≡ next_kept (address n D) len turns (suc m)
  unfolding next_kept
  next-later turns m e = rw (next_kept, e)

  pub next_le : (turns m : ℕ) → m ≤ next_kept (address n D) len turns m
  unfolding next_kept
  next_le zero m = omega arith
  next_le (suc turns) m = go (kept m) refl (next_le turns (suc m))
    where
      go : (b : Bool) → kept m ≡ b → suc m ≤ next_kept (address n D) len turns (suc m) → m ≤ next_kept (address n D) len (suc turns) m
      go true e l = omega (arith, next_here turns m e)
      go false e l = omega (arith, next-later turns m e)

  -- r is kept, and has k kept counters before it
  record Keeps (k r : ℕ) : Type 0 where
    is : kept r ≡ true
    before : count kept r ≡ k

  -- where one more is kept within the turns, it is found
  next-keeps : (turns m : ℕ) → count kept m < count kept (m + turns) → Keeps (count kept m) (next_kept (address n D) len turns m)
  next-keeps zero m more = absurd (omega (arith, ap (count kept) (add-zero m)))
  next-keeps (suc turns) m more = go (kept m) refl (next-keeps turns (suc m))
    where
      Later : Type 0
      Later = count kept (suc m) < count kept (suc m + turns) → Keeps (count kept (suc m)) (next_kept (address n D) len turns (suc m))

      go : (b : Bool) → kept m ≡ b → Later → Keeps (count kept m) (next_kept (address n D) len (suc turns) m)
      go true e later = rw (next_here turns m e) (record { is = e; before = refl })
      go false e later =
          rw (next-later turns m e, ← count_no kept e)
          (later (omega (arith, count_no kept e, ap (count kept) (add-suc m turns ∙ sym (suc-add m turns)))))

module _ (n : ℕ) (D : ℕ → ℕ) (odd : (i : ℕ) → i < 32 → D i % 2 ≡ 1) (len : ℕ) (room : len ≤ 32 * 2 ^ n) where
  -- how many counters before m are kept
  abbrev sofar : ℕ → ℕ
  sofar = count (kept n D len)

  all-kept : sofar (32 * 2 ^ n) ≡ len
  all-kept =
      count-below (address n D) (back n D odd) (32 * 2 ^ n) (λ a _. back-lt n D odd a) (address-back n D odd) (address-injective n D odd)
      len room

  past : (m : ℕ) → 32 * 2 ^ n ≤ m → len ≤ sofar m
  past m le = omega (arith, all-kept, count-le (kept n D len) le)

  onward : (m : ℕ) → sofar m < len → Keeps n D len (sofar m) (next_kept (address n D) len (32 * 2 ^ n) m)
  onward m more = next-keeps n D len (32 * 2 ^ n) m (omega (arith, past (m + 32 * 2 ^ n) (omega arith)))

  counter-keeps : (i : ℕ) → i < len → Keeps n D len i (counter (address n D) (32 * 2 ^ n) len i)
  unfolding counter count
  counter-keeps zero lt = onward 0 lt
  counter-keeps (suc i) lt = go (counter (address n D) (32 * 2 ^ n) len i) (counter-keeps i (omega arith))
    where
      go : (c : ℕ) → Keeps n D len i c → Keeps n D len (suc i) (next_kept (address n D) len (32 * 2 ^ n) (suc c))
      go c k =
          let more : sofar (suc c) ≡ suc i = count_yes (kept n D len) k.is ∙ ap suc k.before in
          subst (λ (j : ℕ). Keeps n D len j (next_kept (address n D) len (32 * 2 ^ n) (suc c))) more (onward (suc c) (omega arith))

  pub counter-lt : (i : ℕ) → i < len → counter (address n D) (32 * 2 ^ n) len i < 32 * 2 ^ n
  counter-lt i lt = go (dec_lt (counter (address n D) (32 * 2 ^ n) len i) (32 * 2 ^ n))
    where
      go : Dec (counter (address n D) (32 * 2 ^ n) len i < 32 * 2 ^ n) → counter (address n D) (32 * 2 ^ n) len i < 32 * 2 ^ n
      go (yes l) = l
      go (no l) = absurd (omega (arith, (counter-keeps i lt).before, past (counter (address n D) (32 * 2 ^ n) len i) (omega arith)))

  pub interleaved-lt : (i : ℕ) → i < len → interleaved n D len i < len
  unfolding interleaved
  interleaved-lt i lt = ltb-true _ _ (counter-keeps i lt).is

  pub interleaved-injective : (i j : ℕ) → i < len → j < len → interleaved n D len i ≡ interleaved n D len j → i ≡ j
  unfolding interleaved
  interleaved-injective i j ilt jlt e =
      sym (counter-keeps i ilt).before
      ∙ ap sofar (address-injective n D odd _ _ (counter-lt i ilt) (counter-lt j jlt) e)
      ∙ (counter-keeps j jlt).before

  pub interleaved-onto : (a : ℕ) → a < len → (i : ℕ) × (i < len) × (interleaved n D len i ≡ a)
  unfolding interleaved
  interleaved-onto a lt = (sofar m, below, ap (address n D) found ∙ from)
    where
      m : ℕ
      m = back n D odd a

      from : address n D m ≡ a
      from = address-back n D odd a (omega arith)

      is : kept n D len m ≡ true
      is = lt-ltb (address n D m) len (omega (arith, from))

      below : sofar m < len
      below = omega (arith, all-kept, count_yes (kept n D len) is, count-le (kept n D len) (back-lt n D odd a))

      found : counter (address n D) (32 * 2 ^ n) len (sofar m) ≡ m
      found = count-once (kept n D len) (counter-keeps _ below).is is (counter-keeps _ below).before

-- the table of document 01, at width 5 and length 994
table_d-odd : (i : ℕ) → i < 32 → row table_d i % 2 ≡ 1
table_d-odd i lt = eqb→eq _ _ (every-at 32 (λ i. eqb (row table_d i % 2) 1) tt i lt)

pub counter5-lt : (i : ℕ) → i < 994 → counter (address 5 (row table_d)) 1024 994 i < 1024
counter5-lt = counter-lt 5 (row table_d) table_d-odd 994 (lit≤ tt)

pub interleaved5-lt : (i : ℕ) → i < 994 → interleaved 5 (row table_d) 994 i < 994
interleaved5-lt = interleaved-lt 5 (row table_d) table_d-odd 994 (lit≤ tt)

pub interleaved5-injective : (i j : ℕ) → i < 994 → j < 994 → interleaved 5 (row table_d) 994 i ≡ interleaved 5 (row table_d) 994 j → i ≡ j
interleaved5-injective = interleaved-injective 5 (row table_d) table_d-odd 994 (lit≤ tt)

pub interleaved5-onto : (a : ℕ) → a < 994 → (i : ℕ) × (i < 994) × (interleaved 5 (row table_d) 994 i ≡ a)
interleaved5-onto = interleaved-onto 5 (row table_d) table_d-odd 994 (lit≤ tt)
