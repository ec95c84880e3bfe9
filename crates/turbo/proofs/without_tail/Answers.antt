-- The first 994 of the bits are copied.
use mathlib.Core.Path.{◌≡◌, sym, subst}
use native.Mathlib.Omega.{arith}
use lib.ListN.{length, take}
use lib.Seq.{length-take-le, get_or-take}
use borrow.Author.Rules.{rules}
use Rattle.rules.specs.Bits.{row}
use Rattle.laws.specs.Holds.{Holds}
use Rattle.turbo.proofs.without_tail.Goals.{Start}
use Rattle.turbo.proofs.without_tail.Goals as goal

front : (c : Start) → Holds 0 994 (row c.args.bits) (take 994 c.args.bits)
front c =
    let long : length c.args.bits ≡ 1000 = search rules in
    record { long = length-take-le 994 c.args.bits (omega arith); each = λ k lt. get_or-take 994 c.args.bits k 0 lt }

pub slice_bounds-copy_from_slice-end-2 : goal.slice_bounds-copy_from_slice-end-2
slice_bounds-copy_from_slice-end-2 c = sym (front (goal.at.slice_bounds-copy_from_slice-end-2 c).Start).long

pub copy_from_slice-requires : goal.copy_from_slice-requires
copy_from_slice-requires c = sym (front (goal.at.copy_from_slice-requires c).Start).long

pub returns : goal.returns
returns c =
    subst (Holds 0 994 (row c.args.bits)) (sym c.copy_from_slice.ensures.after) (front (goal.at.returns c).Start)
