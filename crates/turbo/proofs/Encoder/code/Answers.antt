-- What is sent are the places of the streams of the packet's 994 bits.
use mathlib.Core.Path.{◌∙◌}
use Prim.Native.Nat.{ℕ}
use native.Mathlib.Omega.{arith}
use Rattle.rules.specs.Bits.{row}
use Rattle.rules.specs.Packet.{packet_bit}
use Rattle.rules.specs.Slots.{coded}
use Rattle.laws.specs.Holds.{Holds, holds_as}
use Rattle.laws.specs.Filled.{holds-bits}
use Rattle.packet.proofs.Bits.{packet-bit-lt}
use Rattle.turbo.proofs.Modes.{sent-coded, coded-same}
use Rattle.turbo.proofs.Encoder.code.Goals.{After-without_tail-x}
use Rattle.turbo.proofs.Encoder.code.Goals as goal

-- the packet's bits
abbrev packet : After-without_tail-x → ℕ → ℕ
packet c = packet_bit (row c.args.«data».now)

-- enter
entered : (c : After-without_tail-x) → Holds 0 994 (packet c) c.without_tail-x.result
entered c = holds_as 0 _ (λ k lt. c.bits_of.ensures.each k (omega arith)) c.without_tail-x.ensures

pub streams-requires : goal.streams-requires
streams-requires c =
    let x = (goal.at.streams-requires c).After-without_tail-x in
    holds-bits 994 (packet x) c.without_tail-x.result (λ k lt. packet-bit-lt _ k) (entered x)

pub returns : goal.returns
returns c =
    let m : ℕ = c.args.self.now.mode in
    let streams = c.streams in
    let x : ℕ → ℕ = row c.without_tail-x.result in
    holds_as 0 (coded m (packet (goal.at.returns c).After-without_tail-x))
    (λ i lt. sent-coded m x (row streams.result) streams.ensures.each i lt ∙ coded-same m x (packet (goal.at.returns c).After-without_tail-x) (entered (goal.at.returns c).After-without_tail-x).each i lt)
    c.send.ensures
