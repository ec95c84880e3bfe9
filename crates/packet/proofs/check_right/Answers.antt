-- The check bits are the check word's exactly where the two lists are the same.
use mathlib.Core.Path.{◌≡◌, refl, sym, ap, ap₂, subst, ◌∙◌}
use mathlib.Core.Bool.{Bool, true, false}
use mathlib.Core.List.{List}
use Prim.Native.Nat.{ℕ, ◌+◌}
use native.Mathlib.Omega.{arith}
use borrow.Author.Rules.{rules}
use lib.Dec.{T, eqb, eqb→eq, eqb_refl}
use lib.ListN.{length}
use Rattle.std.proofs.Common.{ext_get_or}
use lib.Pointwise.{pointwise, bytes_decides}
use Rattle.std.specs.Int.{to_be_bytes, w16}
use Rattle.rules.specs.Bits.{row, bit_of, byte_bit, every_below}
use Rattle.rules.specs.Packet.{check_word}
use Rattle.rules.specs.Block.{check_right}
use Rattle.laws.specs.Holds.{Holds}
use Rattle.laws.specs.Every.{every-at, every-not, every-same}
use Rattle.laws.specs.Parts.{part, part-long, part_at}
use Rattle.packet.proofs.Bits.{word-front, word-bit}
use Rattle.packet.proofs.check_right.Goals as goal

-- two lists are the same exactly where they are so place by place
alike : (n : ℕ) (l m : List ℕ) → length l ≡ n → length m ≡ n → pointwise eqb l m ≡ every_below n (λ i. eqb (row l i) (row m i))
alike n l m a b = go (pointwise eqb l m) refl (every_below n (λ i. eqb (row l i) (row m i))) refl
  where
    go : (s : Bool) → pointwise eqb l m ≡ s → (t : Bool) → every_below n (λ i. eqb (row l i) (row m i)) ≡ t → s ≡ t
    go true p true q = refl
    go false p false q = refl
    go false p true q =
        let each : l ≡ m = ext_get_or 0 l m (a ∙ sym b) (λ i lt. eqb→eq _ _ (every-at n (λ i. eqb (row l i) (row m i)) (rw q tt) i (omega arith))) in
        sym p ∙ (bytes_decides l m).1 each
    go true p false q =
        let other = every-not n (λ i. eqb (row l i) (row m i)) q in
        absurd (subst T other.2 (subst (λ (k : List ℕ). T (eqb (row l other.0) (row k other.0))) ((bytes_decides l m).0 p) (eqb_refl (row l other.0))))

module _ (x : List ℕ) (long : length x ≡ 994) where
  right : (w : ℕ) (z : List ℕ) → w ≡ check_word (row x) 976 → Holds 0 16 (byte_bit (row (to_be_bytes w16 w))) z
      → pointwise eqb (part 976 992 x) z ≡ check_right (row x)
  right w z is made =
      alike 16 (part 976 992 x) z (part-long 976 992 x (omega arith) (omega arith)) made.long
      ∙ every-same 16 (λ i. eqb (row (part 976 992 x) i) (row z i)) (λ i. eqb (row x (976 + i)) (bit_of 16 (check_word (row x) 976) i))
      (λ i lt. ap₂ eqb (part_at 976 992 x (omega arith) (omega arith) i 0 (omega arith))
      (made.each i lt ∙ word-bit w i lt ∙ ap (λ (v : ℕ). bit_of 16 v i) is))

pub slice_bounds-check_of-end : goal.slice_bounds-check_of-end
slice_bounds-check_of-end c = sym (part-long 0 976 c.args.x (omega arith) (search rules))

pub returns : goal.returns
returns c =
    let x = c.args.x in
    let long : length x ≡ 994 = search rules in
    let w = c.check_of.result in
    let z = c.write_bits.new.bits in
    c.eq.ensures ∙ right x long w z (c.check_of.ensures ∙ word-front x (omega arith)) (rw c.to_be_bytes-word.ensures at c.write_bits.ensures)
