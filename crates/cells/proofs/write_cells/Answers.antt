-- `cells::write_cells` meets its contract. The loop's invariant: each of the two lists has the parts of the cells before c.
use mathlib.Core.Path.{◌≡◌, refl, sym, ◌∙◌, ap, ap₂}
use Prim.Native.Nat.{ℕ}
use native.Mathlib.Omega.{arith}
use lib.Ieee.{Float}
use lib.ListN.{length}
use Rattle.rules.specs.Points.{zero_part, first_part, second_part}
use Rattle.laws.specs.Filled.{holds-first, holds-next, holds-whole}
use Rattle.cells.specs.Symbol.{symbol_cell}
use Rattle.cells.proofs.Within.{slots-lt}
use Rattle.cells.proofs.Fits.{fits}
use borrow.Author.Rules.{rules}
use Rattle.cells.proofs.write_cells.Goals as goal

pub loop-c-init : goal.loop-c-init
loop-c-init g c = (
  search rules,
  holds-first _ _ zero_part (record { long = (fits _ _ _ _ _ c.requires.1).firsts_long; each = λ k l. refl }),
  holds-first _ _ zero_part (record { long = (fits _ _ _ _ _ c.requires.1).seconds_long; each = λ k l. refl }),
)

pub of-pen-requires : goal.of-pen-requires
of-pen-requires g c =
    let a = c.args in
    let ok = fits a.mode a.symbol (length a.bits.now) (length a.firsts.now) (length a.seconds.now) c.requires.1 in
    (omega arith, (c.requires.0, omega (arith, ok.in_grid, slots-lt a.mode)))

pub cell-requires : goal.cell-requires
cell-requires g c =
    let a = c.args in
    let ok = fits a.mode a.symbol (length a.bits.now) (length a.firsts.now) (length a.seconds.now) c.requires.1 in
    let pen = c.of-pen.ensures.0 in
    (omega arith, rw pen ok.bits_long)

pub loop-c-preserved : goal.loop-c-preserved
loop-c-preserved g c =
    let a = c.args in
    let pen = c.of-pen.ensures in
    let e : c.cell.result ≡ symbol_cell a.mode a.level a.bits.now a.symbol c.loop-c.c =
    c.cell.ensures
    ∙ ap₂ (λ (m : ℕ) (x : Float). symbol_cell m x a.bits.now c.of-pen.result.carrier.symbol c.loop-c.c) pen.0 pen.1
    ∙ ap (λ (s : ℕ). symbol_cell a.mode a.level a.bits.now s c.loop-c.c) pen.2 in
    let inv = c.loop-c.invariant in (
      omega arith,
      holds-next _ _ zero_part _ _ (omega arith) (c.parts_of-parts.ensures.0 ∙ ap first_part e) inv.1,
      holds-next _ _ zero_part _ _ (omega arith) (c.parts_of-parts.ensures.1 ∙ ap second_part e) inv.2,
    )

pub shape_of-firsts : goal.shape_of-firsts
shape_of-firsts g c = c.loop-c.invariant.1.long ∙ sym (fits _ _ _ _ _ c.requires.1).firsts_long

pub shape_of-seconds : goal.shape_of-seconds
shape_of-seconds g c = c.loop-c.invariant.2.long ∙ sym (fits _ _ _ _ _ c.requires.1).seconds_long

pub returns : goal.returns
returns g c =
    let inv = c.loop-c.invariant in
    record { firsts_are = holds-whole _ _ zero_part _ (omega arith) inv.1; seconds_are = holds-whole _ _ zero_part _ (omega arith) inv.2 }
