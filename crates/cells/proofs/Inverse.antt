-- What a cell carries is the inverse of where a point goes: `carried-cell` and `cell-carried`. So two points never share a cell.
-- Of the places and interlaces only the eight facts at the head are used.
use mathlib.Core.Path.{◌≡◌, refl, sym, ◌∙◌, ap, ap₂, subst}
use mathlib.Core.Bool.{◌&&◌}
use Prim.Native.Nat.{ℕ, ◌+◌, ◌-◌, ◌*◌, ◌/◌, ◌%◌, ◌<◌, ◌≤◌}
use native.Mathlib.Decide.{ℕ_discrete, dec_lt}
use native.Mathlib.Omega.{arith}
use lib.Dec.{T, eqb, ltb, eqb→eq, ltb→lt}
use lib.Ieee.Fits.{and_l, and_r}
use borrow.Author.Tests.{lt-ltb, le-ltb, le-leb, lt-leb, eq-eqb, ne_eqb}
use Rattle.rules.specs.Bits.{pick, row}
use Rattle.rules.specs.Modes.{slots, symbols}
use Rattle.rules.specs.Slots.{symbol_of, slot_number}
use Rattle.rules.specs.Cells.{place_of, point_at, interlace_of, slot_of, cell_of, point_cell}
use Rattle.rules.specs.Cells.{Belongs, outside, place, belongs, carried_by, carried_at, carried}
use Rattle.std.specs.Prelude.{Option, Some, None}
use Rattle.rules.specs.declared.PointOf.{PointOf}
use Rattle.rules.proofs.Tables.{order, back, inverse, places-checked}
use Rattle.laws.specs.Every.{every-at, first-at}

-- ---- places are a permutation of 0 to 499, as the rules' own tests say

order-at : (i : ℕ) → i < 500 → row order i ≡ place_of i
order-at = first-at 500 place_of

back_at : (i : ℕ) → i < 500 → row back i ≡ point_at i
back_at = first-at 500 point_at

module _ (i : ℕ) (h : i < 500) where
  tested : T (inverse i)
  tested = every-at 500 inverse places-checked.1 i h

  more : T (ltb (row back i) 500 && (eqb (row back (row order i)) i && eqb (row order (row back i)) i))
  more = and_r (ltb (row order i) 500) _ tested

  both : T (eqb (row back (row order i)) i && eqb (row order (row back i)) i)
  both = and_r (ltb (row back i) 500) _ more

  place-below : row order i < 500
  place-below = ltb→lt _ _ (and_l (ltb (row order i) 500) _ tested)

  point-below : row back i < 500
  point-below = ltb→lt _ _ (and_l (ltb (row back i) 500) _ more)

  pub place-point : point_at (place_of i) ≡ i
  place-point =
      ap point_at (sym (order-at i h)) ∙ sym (back_at (row order i) place-below)
      ∙ eqb→eq _ _ (and_l (eqb (row back (row order i)) i) _ both)

  pub point-place : place_of (point_at i) ≡ i
  point-place =
      ap place_of (sym (back_at i h)) ∙ sym (order-at (row back i) point-below)
      ∙ eqb→eq _ _ (and_r (eqb (row back (row order i)) i) _ both)

pub place-lt : {i : ℕ} → i < 500 → place_of i < 500
place-lt {i} h = rw (sym (order-at i h)) (place-below i h)

pub point-lt : {i : ℕ} → i < 500 → point_at i < 500
point-lt {i} h = rw (sym (back_at i h)) (point-below i h)

-- ---- in each symbol the slots 1 to 7 have an interlace each

pub interlace-lt : (y k : ℕ) → 1 ≤ k → k ≤ 7 → interlace_of y k < 8
interlace-lt y k l h = omega arith

pub slot_lt : (y k : ℕ) → k < 8 → slot_of y k ≤ 7
slot_lt y k h = omega arith

pub slot-interlace : (y k : ℕ) → 1 ≤ k → k ≤ 7 → slot_of y (interlace_of y k) ≡ k
slot-interlace y k l h = refl

pub interlace-slot : (y k : ℕ) → k < 8 → ¬ (slot_of y k ≡ 0) → interlace_of y (slot_of y k) ≡ k
interlace-slot y k h n = refl

-- ---- a cell is outside, in the upper half of interlace 0, or at a place of its own interlace

pub belongs-below : (c : ℕ) → c < 48 → belongs c ≡ outside
unfolding belongs
belongs-below c h = simp (lt-ltb c 48 h)

pub belongs-middle : (c : ℕ) → c ≡ 2048 → belongs c ≡ outside
unfolding belongs
belongs-middle c h = rw h

pub belongs-above : (c : ℕ) → 4048 < c → belongs c ≡ outside
unfolding belongs
belongs-above c h = simp (le-ltb c 48 (omega arith), ne_eqb c 2048 (omega arith), lt-ltb 4048 c h)

pub belongs-upper : (c : ℕ) → 2048 < c → c ≤ 4048 → c % 8 ≡ 0 → belongs c ≡ place 0 ((c - 56) / 8)
unfolding belongs
belongs-upper c l h e =
    simp (le-ltb c 48 (omega arith), ne_eqb c 2048 (omega arith), le-ltb 4048 c h, eq-eqb (c % 8) 0 e, lt-ltb 2048 c l)

pub belongs-plain : (c : ℕ) → 48 ≤ c → c ≤ 4048 → ¬ (c ≡ 2048) → (c % 8 ≡ 0 → c ≤ 2048) → belongs c ≡ place (c % 8) ((c - 48) / 8)
unfolding belongs
belongs-plain c l h n e = go (ℕ_discrete (c % 8) 0)
  where
    go : Dec (c % 8 ≡ 0) → belongs c ≡ place (c % 8) ((c - 48) / 8)
    go (yes z) = simp (le-ltb c 48 l, ne_eqb c 2048 n, le-ltb 4048 c h, eq-eqb (c % 8) 0 z, le-ltb 2048 c (e z))
    go (no z) = simp (le-ltb c 48 l, ne_eqb c 2048 n, le-ltb 4048 c h, ne_eqb (c % 8) 0 z)

-- ---- the cell of interlace k and place i belongs there, and what belongs there is that cell

-- of interlace 0 the upper half stands 8 cells higher
pub cell-upper : (k i : ℕ) → k ≡ 0 → 250 ≤ i → cell_of k i ≡ 56 + 8 * i
cell-upper k i z h = simp (eq-eqb k 0 z, le-leb 250 i h)

pub cell-plain : (k i : ℕ) → (k ≡ 0 → i < 250) → cell_of k i ≡ 48 + k + 8 * i
cell-plain k i h = go (ℕ_discrete k 0)
  where
    go : Dec (k ≡ 0) → cell_of k i ≡ 48 + k + 8 * i
    go (yes z) = simp (eq-eqb k 0 z, lt-leb 250 i (h z))
    go (no z) = simp (ne_eqb k 0 z)

pub belongs-cell : (k i : ℕ) → k < 8 → i < 500 → (belongs (cell_of k i) ≡ place k i) × (cell_of k i < 4096)
belongs-cell k i k<8 i<500 = go (ℕ_discrete k 0) (dec_lt i 250)
  where
    by : (c : ℕ) → cell_of k i ≡ c → belongs c ≡ place k i → c < 4096 → (belongs (cell_of k i) ≡ place k i) × (cell_of k i < 4096)
    by c e b l = (ap belongs e ∙ b, rw e l)

    plain : (c : ℕ) → c ≡ 48 + k + 8 * i → ¬ (c ≡ 2048) → (c % 8 ≡ 0 → c ≤ 2048) → belongs c ≡ place k i
    plain c e n h = belongs-plain c (omega arith) (omega arith) n h ∙ ap₂ place (omega arith) (omega arith)

    go : Dec (k ≡ 0) → Dec (i < 250) → (belongs (cell_of k i) ≡ place k i) × (cell_of k i < 4096)
    go (no z) h =
        by (48 + k + 8 * i) (cell-plain k i (λ w. absurd (z w))) (plain _ refl (omega arith) (omega arith)) (omega arith)
    go (yes z) (yes h) =
        by (48 + k + 8 * i) (cell-plain k i (λ _. h)) (plain _ refl (omega arith) (omega arith)) (omega arith)
    go (yes z) (no h) =
        by (56 + 8 * i) (cell-upper k i z (omega arith))
        (belongs-upper (56 + 8 * i) (omega arith) (omega arith) (omega arith) ∙ ap₂ place (sym z) (omega arith)) (omega arith)

abbrev IsCell : ℕ → ℕ → ℕ → Type 0
IsCell k i c = (k < 8) × (i < 500) × (cell_of k i ≡ c)

module _ (c k i : ℕ) (e : belongs c ≡ place k i) where
  not-outside : belongs c ≡ outside → IsCell k i c
  not-outside o = let z : ◌≡◌ {A = ℕ} 0 1 = cc in absurd (omega arith)

  upper : 2048 < c → c ≤ 4048 → c % 8 ≡ 0 → IsCell k i c
  upper l h m =
      let p : belongs c ≡ place 0 ((c - 56) / 8) = belongs-upper c l h m in
      let z : k ≡ 0 = cc in
      let q : i ≡ (c - 56) / 8 = cc in
      (omega arith, omega arith, cell-upper k i z (omega arith) ∙ omega arith)

  plain : 48 ≤ c → c < 4048 → ¬ (c ≡ 2048) → (c % 8 ≡ 0 → c ≤ 2048) → IsCell k i c
  plain l h n m =
      let p : belongs c ≡ place (c % 8) ((c - 48) / 8) = belongs-plain c l (omega arith) n m in
      let z : k ≡ c % 8 = cc in
      let q : i ≡ (c - 48) / 8 = cc in
      (omega arith, omega arith, cell-plain k i (λ w. let w' : c ≤ 2048 = m (omega arith) in omega arith) ∙ omega arith)

  pub cell-belongs : (k < 8) × (i < 500) × (cell_of k i ≡ c)
  cell-belongs = go (dec_lt c 48) (ℕ_discrete c 2048) (dec_lt 4048 c)
    where
      inside : ¬ (c < 48) → ¬ (c ≡ 2048) → ¬ (4048 < c) → Dec (c % 8 ≡ 0) → Dec (2048 < c) → IsCell k i c
      inside a b d (yes f) (yes g) = upper g (omega arith) f
      inside a b d (yes f) (no g) = plain (omega arith) (omega arith) b (λ _. omega arith)
      inside a b d (no f) g = plain (omega arith) (omega arith) b (λ w. absurd (f w))

      go : Dec (c < 48) → Dec (c ≡ 2048) → Dec (4048 < c) → IsCell k i c
      go (yes a) b d = not-outside (belongs-below c a)
      go (no a) (yes b) d = not-outside (belongs-middle c b)
      go (no a) (no b) (yes d) = not-outside (belongs-above c d)
      go (no a) (no b) (no d) = inside a b d (ℕ_discrete (c % 8) 0) (dec_lt 2048 c)

-- ---- point i of slot number s, 0 for none, of symbol y

-- a cell that carries that point
abbrev pub some_point : ℕ → ℕ → Option PointOf
some_point t i = Some (record { slot = t; point = i })

abbrev slot_in : Option PointOf → ℕ
slot_in None = 0
slot_in (Some p) = p.slot

abbrev point_in : Option PointOf → ℕ
point_in None = 0
point_in (Some p) = p.point

-- no other point is the same
same_point : (t i u j : ℕ) → some_point t i ≡ some_point u j → (t ≡ u) × (i ≡ j)
same_point t i u j e = (ap slot_in e, ap point_in e)

abbrev pub served : ℕ → ℕ → ℕ → ℕ → Option PointOf
served m y s i = pick (eqb s 0) None (carried_by m (7 * y + s - 1) i)

module _ (m y s i : ℕ) where
  pub served-none : s ≡ 0 → served m y s i ≡ None
  served-none z = simp (eq-eqb s 0 z)

  pub served-past : ¬ (s ≡ 0) → slots m ≤ 7 * y + s - 1 → served m y s i ≡ None
  served-past z h = simp (ne_eqb s 0 z, le-ltb (7 * y + s - 1) (slots m) h)

  pub served-point : ¬ (s ≡ 0) → 7 * y + s - 1 < slots m → served m y s i ≡ some_point (7 * y + s - 1) i
  served-point z h = simp (ne_eqb s 0 z, lt-ltb (7 * y + s - 1) (slots m) h)

  point-served : (t j : ℕ) → served m y s i ≡ some_point t j → ¬ (s ≡ 0) × (7 * y + s - 1 ≡ t) × (i ≡ j) × (t < slots m)
  point-served t j e = go (ℕ_discrete s 0) (dec_lt (7 * y + s - 1) (slots m))
    where
      go : Dec (s ≡ 0) → Dec (7 * y + s - 1 < slots m) → ¬ (s ≡ 0) × (7 * y + s - 1 ≡ t) × (i ≡ j) × (t < slots m)
      go (yes z) h = let o = served-none z in let q : ◌≡◌ {A = ℕ} 0 1 = cc in absurd (omega arith)
      go (no z) (no h) = let o = served-past z (omega arith) in let q : ◌≡◌ {A = ℕ} 0 1 = cc in absurd (omega arith)
      go (no z) (yes h) =
          let o = served-point z h in
          let q = same_point (7 * y + s - 1) i t j (sym o ∙ e) in
          (z, q.0, q.1, rw q.0 at h)

-- ---- the cell of a point carries just that point, and the point that a cell carries has that cell

-- the symbol and the slot number of a block slot
slot-of : (y s t : ℕ) → ¬ (s ≡ 0) → s ≤ 7 → 7 * y + s - 1 ≡ t → (symbol_of t ≡ y) × (slot_number t ≡ s)
slot-of y s t z l e = omega arith

slot-number : (t : ℕ) → (1 ≤ slot_number t) × (slot_number t ≤ 7)
slot-number t = omega arith

there : (t i : ℕ) → i < 500
    → (belongs (point_cell t i) ≡ place (interlace_of (symbol_of t) (slot_number t)) (place_of i)) × (point_cell t i < 4096)
there t i h =
    let s = slot-number t in
    belongs-cell (interlace_of (symbol_of t) (slot_number t)) (place_of i) (interlace-lt (symbol_of t) (slot_number t) s.0 s.1) (place-lt h)

pub point-cell-lt : (t i : ℕ) → i < 500 → point_cell t i < 4096
point-cell-lt t i h = (there t i h).1

pub carried-cell : (m t i : ℕ) → t < slots m → i < 500 → carried m (symbol_of t) (point_cell t i) ≡ some_point t i
unfolding carried
carried-cell m t i h i<500 =
    let y = symbol_of t in
    let s = slot_number t in
    let back : 7 * y + s - 1 ≡ t = omega arith in
    ap (carried_at m y) (there t i i<500).0
    ∙ ap₂ (served m y) (slot-interlace y s (slot-number t).0 (slot-number t).1) (place-point i i<500)
    ∙ served-point m y s i (omega arith) (rw back h)
    ∙ ap (λ (u : ℕ). some_point u i) back

pub cell-carried : (m y c t i : ℕ) → carried m y c ≡ some_point t i → (t < slots m) × (i < 500) × (symbol_of t ≡ y) × (point_cell t i ≡ c)
unfolding carried
cell-carried m y c t i e = go (belongs c) refl e
  where
    go : (b : Belongs) → belongs c ≡ b → carried_at m y b ≡ some_point t i → (t < slots m) × (i < 500) × (symbol_of t ≡ y) × (point_cell t i ≡ c)
    go outside p q = let z : ◌≡◌ {A = ℕ} 0 1 = cc in absurd (omega arith)
    go (place k j) p q =
        let a = cell-belongs c k j p in
        let b = point-served m y (slot_of y k) (point_at j) t i q in
        let w = slot-of y (slot_of y k) t b.0 (slot_lt y k a.0) b.1 in (
          b.3,
          subst (λ (n : ℕ). n < 500) b.2 (point-lt a.1),
          w.0,
          ap₂ cell_of (ap₂ interlace_of w.0 w.1 ∙ interlace-slot y k a.0 b.0)
              (ap place_of (sym b.2) ∙ point-place j a.1) ∙ a.2,
        )

-- the symbols after the grid's last carry nothing
pub carried-past : (m y c : ℕ) → symbols m ≤ y → carried m y c ≡ None
unfolding carried
carried-past m y c h = go (belongs c)
  where
    past : (s i : ℕ) → Dec (s ≡ 0) → served m y s i ≡ None
    past s i (yes z) = served-none m y s i z
    past s i (no z) = served-past m y s i z (omega arith)

    go : (b : Belongs) → carried_at m y b ≡ None
    go outside = refl
    go (place k i) = past (slot_of y k) (point_at i) (ℕ_discrete (slot_of y k) 0)

-- two points of one symbol never share a cell
pub points-apart : (m t u i j : ℕ)
    → t < slots m
    → u < slots m
    → i < 500
    → j < 500
    → symbol_of t ≡ symbol_of u
    → point_cell t i ≡ point_cell u j
    → (t ≡ u) × (i ≡ j)
points-apart m t u i j ht hu hi hj e p =
    same_point t i u j (sym (carried-cell m t i ht hi) ∙ ap₂ (carried m) e p ∙ carried-cell m u j hu hj)
