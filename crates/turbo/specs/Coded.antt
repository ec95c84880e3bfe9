-- What coding and judging one packet answer, for every input.
use Rattle.std.specs.Prelude.{◌≡◌, Bool, not, ◌&&◌, List, ℕ, ⊤, Result, eqb, ltb, length, replicate}
use Rattle.rules.specs.Bits.{pick, row, every_below}
use Rattle.rules.specs.Packet.{packet_bit}
use Rattle.rules.specs.Interleaver.{table_d, interleaved}
use Rattle.rules.specs.Points.{doubtful}
use Rattle.rules.specs.Answers.{coding_number}
use Rattle.rules.specs.Modes.{is_mode, packet_bits}
use Rattle.rules.specs.Slots.{coded}
use Rattle.rules.specs.Block.{verdict, decided_data, byte_of}
use Rattle.rules.specs.declared.CodingError.{CodingError}
use Rattle.rules.specs.Answers.{Judgement}
use Rattle.laws.specs.Holds.{Holds}
use Rattle.patterns.specs.Places.{sent_place}

-- coding 122 bytes into as many bits as a packet of the mode has: 42 another mode, 6 too short or too long, and nothing is written then
pub record CodingRule (m : ℕ) (d before after : List ℕ) (a : Result ⊤ CodingError) : Type 0 where
  pub answer : coding_number a ≡ pick (not (is_mode m)) 42 (pick (not (eqb (length d) 122 && eqb (length before) (packet_bits m))) 6 0)
  pub bits : coding_number a ≡ 0 → Holds 0 (packet_bits m) (coded m (packet_bit (row d))) after
  pub kept : ¬ (coding_number a ≡ 0) → after ≡ before

-- no bit of n is doubtful; two rows have the same n bits
abbrev pub plain_bits : ℕ → (ℕ → ℕ) → Bool
plain_bits n v = every_below n (λ i. ltb (v i) doubtful)

abbrev pub same_bits : ℕ → (ℕ → ℕ) → (ℕ → ℕ) → Bool
same_bits n v w = every_below n (λ i. eqb (v i) (w i))

-- bit i of what is sent, where g has the streams
abbrev pub sent_from : ℕ → (ℕ → ℕ) → ℕ → ℕ
sent_from m g i = g (sent_place m i)

-- the interleaver's addresses, a table that serves every packet of a block, as the two of its mode do
abbrev pub Addresses : List ℕ → Type 0
Addresses l = Holds 0 994 (interleaved 5 (row table_d) 994) l

-- judging a packet's decided bits, 2 for a doubtful one
pub record JudgingRule (m : ℕ) (v : ℕ → ℕ) (a : Judgement) : Type 0 where
  pub reason_is : a.reason ≡ verdict m v
  pub accepted : a.reason ≡ 0 → Holds 0 122 (byte_of (decided_data m v)) a.bytes
  pub refused : ¬ (a.reason ≡ 0) → a.bytes ≡ replicate 122 0
