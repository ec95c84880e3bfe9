-- `streams_of` makes the four streams: the data of both encoders, then the streams of both.
use Prim.Native.Nat.{ℕ}
use Rattle.rules.specs.Bits.{row}
use Rattle.rules.specs.Slots.{second}
use Rattle.laws.specs.Holds.{holds_as}
use Rattle.laws.specs.Filled.{holds-bits}
use Rattle.turbo.specs.Streams.{stream}
use Rattle.turbo.proofs.Filling.{data-bit, data-streams}
use Rattle.turbo.proofs.Encoder.streams.Goals as goal

pub encoded-requires : goal.encoded-requires
encoded-requires c =
    holds-bits 3988 _ c.entered.result (λ k lt. data-bit (row c.args.x) c.requires k) c.entered.ensures

pub returns : goal.returns
returns c =
    let x : ℕ → ℕ = row c.args.x in
    let entered = c.entered in
    holds_as 0 (stream x (second x)) (λ k lt. data-streams x (row entered.result) entered.ensures.each k) c.encoded.ensures
