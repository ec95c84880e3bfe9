-- The last r bytes are the remainder's just where the two parts are one list.
use mathlib.Core.Path.{◌≡◌, refl, sym, ap, ◌∙◌, subst}
use mathlib.Core.Bool.{Bool, true, false}
use mathlib.Core.List.{List}
use Prim.Native.Nat.{ℕ, ◌+◌, ◌-◌, ◌≤◌, ◌<◌}
use native.Mathlib.Omega.{arith}
use lib.Dec.{T}
use lib.ListN.{length, take, drop}
use Rattle.std.specs.Bool.{Decides}
use Rattle.std.proofs.lemmas.List.{length-take-le, length-drop, ext_get_or, get_or-take, get_or-drop}
use Rattle.std.proofs.lemmas.Slice.Eq.{slice_eq-Decides}
use Rattle.std.proofs.lemmas.Bool.Decides.{Decides-eqb}
use Rattle.rules.specs.Bits.{row}
use Rattle.rules.specs.Outer.{remainder, Codeword}
use Rattle.laws.specs.Bytes.{byte_at}
use Rattle.outer.specs.Steps.{Starts, Says}
use Rattle.outer.proofs.division.Parity.is_codeword.Goals as goal

module _ (r n : ℕ) (c s : List ℕ) (most : r ≤ 8) (en : n ≡ r) (lc : length c ≡ 16) (ls : length s ≡ 8) (h : Starts r (remainder r (row c) (16 - r)) s) where
  -- the last r bytes, and those of the remainder
  abbrev last : List ℕ
  last = take n (drop (16 - r) c)

  abbrev parity : List ℕ
  parity = take r s

  last-at : (i : ℕ) → i < r → row last i ≡ row c (16 - r + i)
  last-at i l = get_or-take n (drop (16 - r) c) i 0 (omega arith) ∙ get_or-drop (16 - r) c i 0

  parity-at : (i : ℕ) → i < r → row parity i ≡ remainder r (row c) (16 - r) i
  parity-at i l = get_or-take r s i 0 l ∙ h i l

  last-long : length last ≡ r
  last-long = length-take-le n (drop (16 - r) c) (omega (arith, length-drop (16 - r) c)) ∙ en

  says : ((p : ℕ) → p < 16 → row c p < 256) → (b : Bool) → Decides b (last ≡ parity) → Says (Codeword r (row c)) b
  says fit true d =
      record { bytes = fit; parity = λ i l. sym (last-at i l) ∙ ap (λ (m : List ℕ). row m i) (d.0 refl) ∙ parity-at i l }
  says fit false d =
      λ w. absurd (subst T (sym (d.1 (ext_get_or 0 last parity (last-long ∙ sym (length-take-le r s (omega arith)))
      (λ i l. last-at i (omega (arith, last-long)) ∙ w.parity i (omega (arith, last-long)) ∙ sym (parity-at i (omega (arith, last-long))))))) tt)

pub returns : goal.returns
returns c =
    let a = c.args in
    let g = c.well_formed.1.0 in
    says a.self.r _ a.c c.remainder-s.result a.self.few (omega arith) (omega arith) (omega arith) c.remainder-s.ensures
    (λ p m. byte_at a.c g.0 g.1.1 p (omega (arith, g.1.0.1))) c.eq.result (slice_eq-Decides Decides-eqb _ _ _ c.eq.ensures)
