-- What coding and judging the 16 packets of a block answer.
use Rattle.std.specs.Prelude.{◌≡◌, List, ℕ, ◌+◌, ◌*◌, ◌/◌, ◌%◌, eqb}
use Rattle.rules.specs.Bits.{pick, row}
use Rattle.rules.specs.Outer.{marked}
use Rattle.rules.specs.Slots.{block_bit}
use Rattle.rules.specs.Block.{packet_part, decided_data, byte_of, reason, lost_mask}
use Rattle.rules.specs.Answers.{Judgement}
use Rattle.laws.specs.Holds.{Holds}
use Rattle.laws.specs.Filled.{up_to}

-- the first n coded bits of a block, and zeros after them
abbrev pub coded_row : ℕ → ℕ → List ℕ → ℕ → ℕ
coded_row m n block = up_to n (block_bit m (λ p j. row block (122 * p + j))) (λ g. 0)

-- byte j of a packet that is accepted, zero of a lost one
abbrev pub kept_byte : ℕ → ℕ → (ℕ → ℕ) → ℕ → ℕ
kept_byte m mark v j = pick (eqb (reason m mark v) 0) (byte_of (decided_data m v) j) 0

pub record Weighed (m mark : ℕ) (v : ℕ → ℕ) (a : Judgement) : Type 0 where
  pub reason_is : a.reason ≡ reason m mark v
  pub bytes_are : Holds 0 122 (kept_byte m mark v) a.bytes

-- of a block's decided bits v: reason p, and byte g of the block that is restored
abbrev pub reason_at : ℕ → ℕ → (ℕ → ℕ) → ℕ → ℕ
reason_at m marks v p = reason m (marked marks p) (packet_part m v p)

abbrev pub kept_at : ℕ → ℕ → (ℕ → ℕ) → ℕ → ℕ
kept_at m marks v g = kept_byte m (marked marks (g / 122)) (packet_part m v (g / 122)) (g % 122)

-- the first n packets are judged
pub record WeighedTo (n m marks : ℕ) (v : ℕ → ℕ) (lost : ℕ) (reasons block : List ℕ) : Type 0 where
  pub reasons_are : Holds 0 16 (up_to n (reason_at m marks v) (λ p. 0)) reasons
  pub lost_is : lost ≡ lost_mask n (reason_at m marks v)
  pub block_is : Holds 0 1952 (up_to (122 * n) (kept_at m marks v) (λ g. 0)) block
