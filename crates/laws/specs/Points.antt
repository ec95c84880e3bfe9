-- A point goes by its own bits alone.
use Rattle.std.specs.Prelude.{◌≡◌, ◌⊎◌, ℕ, ◌+◌, ◌*◌, ◌<◌, Float}
use Rattle.std.proofs.Common.{sym, ap, ap₂, subst, inl, inr, arith}
use Rattle.rules.specs.Points.{signed, sized, part, point_of}

module _ (level : Float) (s s' : ℕ → ℕ) where
  -- rows that agree below w make the same part of w bits
  pub part_same : (w : ℕ) → (w ≡ 1) ⊎ (w ≡ 2) → ((j : ℕ) → j < w → s j ≡ s' j) → part w level s ≡ part w level s'
  part_same w (inl e) =
      subst (λ (v : ℕ). ((j : ℕ) → j < v → s j ≡ s' j) → part v level s ≡ part v level s') (sym e)
      (λ h. ap (λ (b : ℕ). signed b level) (h 0 (omega arith)))
  part_same w (inr e) =
      subst (λ (v : ℕ). ((j : ℕ) → j < v → s j ≡ s' j) → part v level s ≡ part v level s') (sym e)
      (λ h. ap₂ (λ (b c : ℕ). signed c (sized b level)) (h 0 (omega arith)) (h 1 (omega arith)))

-- and rows that agree below 2w the same point
pub point-same : (w : ℕ) (level : Float) (s s' : ℕ → ℕ)
    → (w ≡ 1) ⊎ (w ≡ 2)
    → ((j : ℕ) → j < 2 * w → s j ≡ s' j)
    → point_of w level s ≡ point_of w level s'
point-same w level s s' two h =
    ap₂ (λ (a b : Float). record { first = a; second = b }) (part_same level s s' w two (λ j l. h j (omega arith)))
    (part_same level (λ j. s (w + j)) (λ j. s' (w + j)) w two (λ j l. h (w + j) (omega arith)))
