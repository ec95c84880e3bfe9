-- What is sent with a good profile decides to the bits that were sent; a block's own cells are all that is heard.
use mathlib.Core.Path.{◌≡◌, ◌∙◌, ap, ap₂}
use mathlib.Core.Bool.{Bool, true, false}
use mathlib.Core.List.{List}
use Prim.Native.Nat.{ℕ, ◌+◌, ◌*◌, ◌/◌, ◌%◌, ◌^◌, ◌<◌}
use native.Mathlib.Decide.{ℕ_discrete}
use native.Mathlib.Nat.{div-add-mod, mod-lt}
use native.Mathlib.Omega.{arith}
use lib.Dec.{eqb}
use lib.Ieee.{Float}
use lib.ListN.{get_or}
use borrow.Author.Tests.{eq-eqb, ne_eqb}
use Rattle.rules.specs.Bits.{pick, bit_of}
use Rattle.rules.specs.Modes.{part_bits, slots, slot_bits}
use Rattle.rules.specs.Slots.{symbol_of}
use Rattle.rules.specs.Points.{zero_part, part, first_part, second_part, doubtful, decide, bit_in}
use Rattle.rules.specs.Cells.{point_cell, grid_cell, carried}
use Rattle.rules.specs.Block.{cell_for, heard, part_of}
use Rattle.rules.specs.declared.Profile.{Profile}
use Rattle.rules.specs.declared.Cell.{Cell}
use Rattle.std.specs.Prelude.{Option}
use Rattle.rules.specs.declared.PointOf.{PointOf}
use Rattle.laws.specs.Decisions.{Good, decide-part}
use Rattle.modes.proofs.Figures.{figures, part-bounds}
use Rattle.cells.proofs.Inverse.{some_point, carried-cell}
use Rattle.hearing.proofs.Reading.{point-of-bit}

-- a bit is decided to 0 or 1, or is doubtful
pub bit-in-lt : (w d j : ℕ) → bit_in w d j < 3
bit-in-lt w d j = go (eqb d (2 ^ w))
  where
    go : (b : Bool) → pick b doubtful (bit_of w d j) < 3
    go true = omega arith
    go false = omega arith

pub heard-lt : (P : Profile) (f s : List Float) (t i : ℕ) → heard P f s t i < 3
unfolding heard
heard-lt P f s t i = bit-in-lt (part_bits P.mode) _ (i % part_bits P.mode)

-- two lists that agree at a block's own cells
abbrev pub SameAt : ℕ → List Float → List Float → Type 0
SameAt m f g = (t i : ℕ) → t < slots m → i < 500 → get_or f (grid_cell t i) zero_part ≡ get_or g (grid_cell t i) zero_part

-- the receiver looks only at the block's own cells
pub heard-own : (P : Profile) (f s f' s' : List Float) → SameAt P.mode f f' → SameAt P.mode s s'
    → (t i : ℕ) → t < slots P.mode → i < slot_bits P.mode → heard P f s t i ≡ heard P f' s' t i
unfolding heard
heard-own P f s f' s' a b t i ht hi =
    let w = part_bits P.mode in
    let inside = point-of-bit P.mode i hi in
    ap (λ (x : Float). bit_in w (decide w P.level P.floor x) (i % w))
    (ap₂ (pick (eqb (i / w % 2) 0)) (a t (i / w / 2) ht inside) (b t (i / w / 2) ht inside))

-- the cell that is written for point i of block slot t
abbrev pub cell_sent : ℕ → Float → (ℕ → ℕ → ℕ) → ℕ → ℕ → Cell
cell_sent m level bits t i = cell_for (part_bits m) level bits (carried m (symbol_of t) (point_cell t i))

-- at a good level and floor what is sent is heard as it was sent
pub heard-sent : (P : Profile) (bits : ℕ → ℕ → ℕ) (f s : List Float)
    → Good (part_bits P.mode) P.level P.floor
    → ((t i : ℕ) → bits t i < 2)
    → ((t i : ℕ) → t < slots P.mode → i < 500 → get_or f (grid_cell t i) zero_part ≡ first_part (cell_sent P.mode P.level bits t i))
    → ((t i : ℕ) → t < slots P.mode → i < 500 → get_or s (grid_cell t i) zero_part ≡ second_part (cell_sent P.mode P.level bits t i))
    → (t i : ℕ)
    → t < slots P.mode
    → i < slot_bits P.mode
    → heard P f s t i ≡ bits t i
unfolding heard
heard-sent P bits f s good hb hf hs t i ht hi = go (ℕ_discrete (n % 2) 0)
  where
    m : ℕ
    m = P.mode

    level : Float
    level = P.level

    w : ℕ
    w = part_bits m

    -- bit k of part n, which is one of point j
    n : ℕ
    n = i / w

    k : ℕ
    k = i % w

    j : ℕ
    j = n / 2

    whole : w * n + k ≡ i
    whole = div-add-mod i w

    there : carried m (symbol_of t) (point_cell t j) ≡ some_point t j
    there = carried-cell m t j ht (point-of-bit m i hi)

    first : get_or f (grid_cell t j) zero_part ≡ part w level (λ b. bits t (2 * w * j + b))
    first = hf t j ht (point-of-bit m i hi) ∙ ap (λ (c : Option PointOf). first_part (cell_for w level bits c)) there

    second : get_or s (grid_cell t j) zero_part ≡ part w level (λ b. bits t (2 * w * j + (w + b)))
    second = hs t j ht (point-of-bit m i hi) ∙ ap (λ (c : Option PointOf). second_part (cell_for w level bits c)) there

    even : n % 2 ≡ 0 → 2 * w * j + k ≡ i
    even e = let twice : n ≡ 2 * j = omega arith in omega (arith, whole, ap (λ (x : ℕ). w * x) twice)

    odd : ¬ (n % 2 ≡ 0) → 2 * w * j + (w + k) ≡ i
    odd e = let twice : n ≡ 2 * j + 1 = omega arith in omega (arith, whole, ap (λ (x : ℕ). w * x) twice)

    decided : (x : Float) (r : ℕ → ℕ) → ((b : ℕ) → r b < 2) → x ≡ part w level r → bit_in w (decide w level P.floor x) k ≡ r k
    decided x r h e =
        ap (λ (y : Float). bit_in w (decide w level P.floor y) k) e
        ∙ decide-part w level P.floor r (figures m).part good h k (mod-lt i (part-bounds m).0)

    go : Dec (n % 2 ≡ 0) → bit_in w (decide w level P.floor (part_of n f s (grid_cell t j))) k ≡ bits t i
    go (yes e) = simp (eq-eqb (n % 2) 0 e) (decided _ (λ b. bits t (2 * w * j + b)) (λ b. hb t _) first ∙ ap (bits t) (even e))
    go (no ne) = simp (ne_eqb (n % 2) 0 ne) (decided _ (λ b. bits t (2 * w * j + (w + b))) (λ b. hb t _) second ∙ ap (bits t) (odd ne))
