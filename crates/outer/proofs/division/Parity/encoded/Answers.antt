-- The data stand, and the parity is written after them.
use mathlib.Core.Path.{◌≡◌, sym, ap, ◌∙◌}
use mathlib.Core.List.{List, ◌++◌}
use Prim.Native.Nat.{ℕ, ◌+◌, ◌-◌, ◌≤◌, ◌<◌}
use native.Mathlib.Decide.{dec_lt}
use native.Mathlib.Omega.{arith}
use lib.ListN.{length, take, drop}
use borrow.Rule.Slice.PartMut.{put_mid}
use Rattle.std.proofs.lemmas.List.{length-append, length-take-le, length-drop, get_or_append_left, get_or-append_right, get_or-take}
use Rattle.rules.specs.Bits.{row}
use Rattle.rules.specs.Outer.{encoded, remainder}
use Rattle.laws.specs.Holds.{Holds}
use Rattle.outer.specs.Steps.{Starts}
use Rattle.outer.proofs.Roots.{encoded-data, encoded-parity}
use Rattle.outer.proofs.division.Parity.encoded.Goals as goal

written : (r k n : ℕ) (c s t : List ℕ) → r ≤ 8 → k ≡ 16 - r → n ≡ r → length c ≡ 16 → length s ≡ 8 → t ≡ take r s
    → Starts r (remainder r (row c) (16 - r)) s → Holds 0 16 (encoded r (row c)) (put_mid k n c t)
written r k n c s t most ek en lc ls et h = record { long = long; each = λ p l. go p l (dec_lt p k) }
  where
    front : length (take k c) ≡ k
    front = length-take-le k c (omega arith)

    mid : length t ≡ r
    mid = ap length et ∙ length-take-le r s (omega arith)

    rest : List ℕ
    rest = drop n (drop k c)

    long : length (put_mid k n c t) ≡ 16
    long = omega (arith, front, mid, length-append (take k c) (t ++ rest), length-append t rest, length-drop n (drop k c), length-drop k c)

    go : (p : ℕ) → p < 16 → Dec (p < k) → row (put_mid k n c t) p ≡ encoded r (row c) p
    go p l (yes h') =
        get_or_append_left (take k c) (t ++ rest) 0 p (omega (arith, front)) ∙ get_or-take k c p 0 h' ∙ sym (encoded-data r (row c) p (omega arith))
    go p l (no h') =
        let i : ℕ = p - k in
        let place : 16 - r + i ≡ p = omega arith in
        get_or-append_right (take k c) (t ++ rest) k p 0 front (omega arith) ∙ get_or_append_left t rest 0 i (omega (arith, mid)) ∙ ap (λ (m : List ℕ). row m i) et
        ∙ get_or-take r s i 0 (omega arith) ∙ h i (omega arith) ∙ sym (encoded-parity r (row c) i) ∙ ap (encoded r (row c)) place

pub returns : goal.returns
returns c =
    let a = c.args in
    written a.self.r _ _ a.c c.remainder-s.result c.copy_from_slice.new.self a.self.few (omega arith) (omega arith) (omega arith) (omega arith)
    c.copy_from_slice.ensures.after c.remainder-s.ensures
