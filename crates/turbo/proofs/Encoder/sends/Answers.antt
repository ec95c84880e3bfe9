-- i bits are compared.
use mathlib.Core.Path.{◌≡◌, sym, ap₂, ◌∙◌}
use mathlib.Core.Bool.{Bool, ◌&&◌}
use Prim.Native.Nat.{ℕ}
use native.Mathlib.Omega.{arith}
use lib.Dec.{eqb}
use Rattle.rules.specs.Bits.{row}
use Rattle.rules.specs.Modes.{packet_bits}
use Rattle.laws.specs.Every.{every-next}
use Rattle.turbo.specs.Coded.{sent_from}
use Rattle.turbo.proofs.Modes.{place_read, place-read-lt}
use Rattle.turbo.proofs.Encoder.sends.Goals as goal

pub bounds-all-from : goal.bounds-all-from
bounds-all-from c =
    let e = c.args.self.now in
    rw c.from.ensures (place-read-lt e.mode e.places e.placed c.loop-i.i (omega arith))

pub loop-i-preserved : goal.loop-i-preserved
loop-i-preserved c =
    let l = c.loop-i in
    let e = c.args.self.now in
    let v : ℕ → ℕ = row c.args.v.now in
    let w : ℕ → ℕ = sent_from e.mode (row c.args.all) in
    ap₂ (λ (b : Bool) (k : ℕ). b && eqb (v l.i) (row c.args.all k)) l.invariant
    (c.from.ensures ∙ place_read e.mode e.places e.placed l.i (omega arith))
    ∙ sym (every-next l.i (λ i. eqb (v i) (w i)))

pub returns : goal.returns
returns c =
    let l = c.loop-i in
    let all : l.i ≡ packet_bits c.args.self.now.mode = omega arith in
    rw all at l.invariant
