-- A turn of the loop that scrambles a block's slots, of b bits each, one after the other.
use mathlib.Core.Path.{◌≡◌, sym, ◌∙◌, ap₂, subst}
use mathlib.Core.List.{List}
use Prim.Native.Nat.{ℕ, ◌+◌, ◌*◌, ◌/◌, ◌%◌, ◌<◌, ◌≤◌}
use native.Mathlib.Nat.{mul-zero}
use native.Mathlib.Omega.{arith}
use lib.ListN.{length}
use borrow.Author.Tests.{le-leb, lt-leb}
use Rattle.rules.specs.Bits.{row}
use Rattle.rules.specs.Modes.{slot_bits, slots}
use Rattle.rules.specs.Slots.{slot_number, scrambling}
use Rattle.rules.specs.Block.{unscrambled}
use Rattle.laws.specs.Holds.{Holds}
use Rattle.laws.specs.Filled.{up_to, up_to-below, up_to-from, holds-first}
use Rattle.laws.specs.Parts.{part, put_part, part-number, part-place, part-long, part_at, holds-part}
use Rattle.modes.proofs.Figures.{block-most}
use Rattle.block.specs.Steps.{held, scrambled_row}

-- a block that is there whole, and one that isn't
pub held_all : (m bits : ℕ) → slot_bits m * slots m ≤ bits → held m bits ≡ slot_bits m * slots m
held_all m bits h = rw (le-leb (slot_bits m * slots m) bits h)

pub held_none : (m bits : ℕ) → bits < slot_bits m * slots m → held m bits ≡ 0
held_none m bits h = rw (lt-leb (slot_bits m * slots m) bits h)

module _ (b : ℕ) (seeds masks : List ℕ) (f : ℕ → ℕ) where
  -- bit g, scrambled
  abbrev made : ℕ → ℕ
  made g = unscrambled (f g) (scrambling (row seeds (g / b)) (row masks (slot_number (g / b))) (g % b))

  -- bit i of a list, scrambled as slot t's
  abbrev own : ℕ → List ℕ → ℕ → ℕ
  own t l i = unscrambled (row l i) (scrambling (row seeds t) (row masks (slot_number t)) i)

  -- before the first slot
  pub scrambled-none : (n : ℕ) (l : List ℕ) → Holds 0 n f l → Holds 0 n (scrambled_row b seeds masks (b * 0) f) l
  scrambled-none n l h = rw (mul-zero b) (holds-first made f 0 h)

  -- slot t's part is scrambled by the slot's own seed and mask
  pub scrambled-turn : (n : ℕ) (out y : List ℕ) (t to : ℕ)
      → b ≤ 2000
      → to ≡ b * t + b
      → to ≤ n
      → (let l = part (b * t) to out in Holds 0 (length l) (up_to 2000 (own t l) (row l)) y)
      → Holds 0 n (scrambled_row b seeds masks (b * t) f) out
      → Holds 0 n (scrambled_row b seeds masks (b * (t + 1)) f) (put_part (b * t) to out y)
  scrambled-turn n out y t to small end room left h =
      holds-part 0 made f b t to y end room (left.long ∙ long)
      (λ k lt. left.each k (omega (arith, long)) ∙ up_to-below (own t l) (row l) 2000 k (omega arith) ∙ ap₂ unscrambled (stands k lt) (sym (adds k lt))) h
    where
      l : List ℕ
      l = part (b * t) to out

      long : length l ≡ b
      long = part-long (b * t) to out (omega arith) (omega (arith, h.long)) ∙ omega arith

      stands : (k : ℕ) → k < b → row l k ≡ f (b * t + k)
      stands k lt =
          part_at (b * t) to out (omega arith) (omega (arith, h.long)) k 0 (omega arith)
          ∙ h.each (b * t + k) (omega arith) ∙ up_to-from made f (b * t) (b * t + k) (omega arith)

      adds : (k : ℕ) → k < b
          → scrambling (row seeds ((b * t + k) / b)) (row masks (slot_number ((b * t + k) / b))) ((b * t + k) % b)
          ≡ scrambling (row seeds t) (row masks (slot_number t)) k
      adds k lt =
          ap₂ (λ (q i : ℕ). scrambling (row seeds q) (row masks (slot_number q)) i) (part-number b t k lt) (part-place b t k lt)

-- a block's bits in an array for the largest block
pub scrambled-block : (m : ℕ) (seeds masks l out : List ℕ)
    → length l ≡ 48000
    → Holds 0 (length l) (scrambled_row (slot_bits m) seeds masks (held m (length l)) (row l)) out
    → Holds 0 48000 (scrambled_row (slot_bits m) seeds masks (slot_bits m * slots m) (row l)) out
scrambled-block m seeds masks l out long h =
    subst (λ (k : ℕ). Holds 0 48000 (scrambled_row (slot_bits m) seeds masks k (row l)) out) (held_all m 48000 (block-most m))
    (subst (λ (n : ℕ). Holds 0 n (scrambled_row (slot_bits m) seeds masks (held m n) (row l)) out) long h)
