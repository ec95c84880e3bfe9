-- `sending::block_of` meets its contract: the data lies in front, zeros behind it.
use mathlib.Core.Path.{◌≡◌, sym, ap, ◌∙◌, subst}
use mathlib.Core.List.{List, ◌++◌}
use Prim.Native.Nat.{ℕ, ◌+◌, ◌-◌, ◌<◌, ◌≤◌}
use native.Mathlib.Decide.{dec_lt}
use native.Mathlib.Omega.{arith}
use lib.ListN.{length, drop, replicate, length-append, length-replicate, get_or-append}
use Rattle.std.proofs.Common.{length-drop, get_or-append-add, get_or-drop}
use Rattle.rules.specs.Bits.{row}
use Rattle.laws.specs.Holds.{Holds}
use Rattle.laws.specs.Filled.{up_to, up_to-below, up_to-from, holds-new}
use Rattle.outer.proofs.Roots.{k-range}
use Rattle.sending.proofs.Packets.{block-packet}
use Rattle.sending.proofs.block_of.Goals as goal

in-front : (d out : List ℕ) → length d ≤ 1952 → out ≡ d
    → Holds 0 1952 (up_to (length d) (row d) (λ i. 0)) (out ++ drop (length d) (replicate 1952 0))
in-front d out room e =
    record {
      long = length-append out rest ∙ rw length-drop (omega (arith, ap length e, length-replicate {A = ℕ} 1952 0));
      each = λ k lt. go k lt (dec_lt k (length d));
    }
  where
    rest : List ℕ
    rest = drop (length d) (replicate 1952 0)

    zero : (k : ℕ) → k < 1952 → row (replicate 1952 0) k ≡ 0
    zero k lt = (holds-new 1952 (row d)).each k lt ∙ up_to-from (row d) (λ i. 0) 0 k (omega arith)

    go : (k : ℕ) → k < 1952 → Dec (k < length d) → row (out ++ rest) k ≡ up_to (length d) (row d) (λ i. 0) k
    go k lt (yes h) =
        get_or-append out rest 0 k (omega (arith, ap length e)) ∙ ap (λ (l : List ℕ). row l k) e
        ∙ sym (up_to-below (row d) (λ i. 0) (length d) k h)
    go k lt (no h) =
        let at : k ≡ length out + (k - length d) = omega (arith, ap length e) in
        let back : length d + (k - length d) ≡ k = omega arith in
        ap (row (out ++ rest)) at ∙ get_or-append-add out rest (k - length d) 0
        ∙ get_or-drop (length d) (replicate 1952 0) (k - length d) 0
        ∙ ap (row (replicate 1952 0)) back ∙ zero k lt ∙ sym (up_to-from (row d) (λ i. 0) (length d) k (omega arith))

pub returns : goal.returns
returns c =
    let d : List ℕ = c.args.«data».now in
    let room : length d ≤ 1952 = omega (arith, c.requires.1, k-range c.args.k c.requires.0) in
    block-packet c.args.k d _ _ _ c.requires.0
    (subst (λ (n : ℕ). Holds 0 1952 (up_to n (row d) (λ i. 0)) (c.copy_from_slice.new.self ++ drop (length d) (replicate 1952 0))) c.requires.1
    (in-front d c.copy_from_slice.new.self room c.copy_from_slice.ensures.after))
    c.fill_parity.ensures
