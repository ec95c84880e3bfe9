-- `Spot::of` meets its contract, a law of `belongs` for each return.
use mathlib.Core.Path.{sym, ◌∙◌, ap}
use Prim.Native.Nat.{ℕ, ◌-◌, ◌/◌, ◌<◌}
use native.Mathlib.Omega.{arith}
use Rattle.rules.specs.Cells.{place}
use Rattle.cells.proofs.Inverse.{belongs-below, belongs-middle, belongs-above, belongs-upper, belongs-plain}
use Rattle.cells.proofs.spot.Spot.of.Goals.{then-c-lt48-via-then-c-lt48, then-c-lt48-via-else-c-lt48+then-c-gt4048, then-c-lt48-via-else-c-lt48+else-c-gt4048+then-c-eq2048}
use Rattle.cells.proofs.spot.Spot.of.Goals.{then-interlace-ne0-via-then-interlace-ne0, then-interlace-ne0-via-else-interlace-ne0+then-c-lt2048}
use Rattle.cells.proofs.spot.Spot.of.Goals as goal

pub returns-then-c-lt48 : goal.returns-then-c-lt48
returns-then-c-lt48 c =
    elim c.then-c-lt48.branch [
      | then-c-lt48-via-then-c-lt48 w ↦ sym (belongs-below _ w.if-c-lt48.true)
      | then-c-lt48-via-else-c-lt48+then-c-gt4048 w ↦ sym (belongs-above _ w.if-c-gt4048.true)
      | then-c-lt48-via-else-c-lt48+else-c-gt4048+then-c-eq2048 w ↦ sym (belongs-middle _ w.if-c-eq2048.true)
    ]

pub returns-then-interlace-ne0 : goal.returns-then-interlace-ne0
returns-then-interlace-ne0 c =
    sym (belongs-plain c.args.c c.if-c-lt48.false c.if-c-gt4048.false c.if-c-eq2048.false
    (elim c.then-interlace-ne0.branch [
      | then-interlace-ne0-via-then-interlace-ne0 w ↦ λ z. absurd (w.if-interlace-ne0.true z)
      | then-interlace-ne0-via-else-interlace-ne0+then-c-lt2048 w ↦ λ _. omega (arith, w.if-c-lt2048.true)
    ]))

pub returns : goal.returns
returns c =
    let n = c.args.c in
    let upper : 2048 < n = omega (arith, c.if-c-lt2048.false, c.if-c-eq2048.false) in
    ap (λ (k : ℕ). place k ((n - 56) / 8)) c.if-interlace-ne0.false
    ∙ sym (belongs-upper n upper c.if-c-gt4048.false c.if-interlace-ne0.false)
