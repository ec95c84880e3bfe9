-- Document 01: the block that is sent, and the answer that receiving gives.
use Rattle.std.specs.Prelude.{◌≡◌, Option, Some, None, Bool, not, ◌&&◌, List, ℕ, zero, suc, ◌+◌, ◌-◌, ◌*◌, ◌/◌, ◌%◌, ◌^◌, ◌<◌, ◌≤◌, T, eqb, ltb, Float, length, get_or, replicate}
use Rattle.std.specs.Int.Count.{ones}
use Rattle.rules.specs.Bits.{pick, row, bit_of, every_below}
use Rattle.rules.specs.Packet.{check_word}
use Rattle.rules.specs.Outer.{encoded, Codeword, Agree, marked}
use Rattle.rules.specs.Interleaver.{bit_deinterleaved}
use Rattle.rules.specs.Turbo.{data_place}
use Rattle.rules.specs.Modes.{rate, part_bits, slot_bits, packet_bits, symbols}
use Rattle.rules.specs.Slots.{coded, block_bit, slot_number, scrambling}
use Rattle.rules.specs.Points.{zero_part, point_of, first_part, second_part, doubtful, decide, bit_in}
use Rattle.rules.specs.Cells.{carried, grid_cell}
use Rattle.rules.specs.Profile.{only, ◌or◌, fault}
use Rattle.rules.specs.Answers.{has_read}
use Rattle.rules.specs.Answers.{Answer}
use Rattle.rules.specs.declared.Profile.{Profile}
use Rattle.rules.specs.declared.PointOf.{PointOf}
use Rattle.rules.specs.declared.Cell.{Cell}
use Rattle.rules.specs.declared.Cell.TheVariants.{Silent, Carries}
use Rattle.rules.specs.declared.Receipt.{Receipt}

-- ---- sending

-- byte j of packet p of the block that K packets of data make
abbrev pub packet : ℕ → List ℕ → ℕ → ℕ → ℕ
packet k d p j = encoded (16 - k) (λ q. row d (122 * q + j)) p

-- what is added to bit i of block slot t
abbrev pub scrambler : Profile → ℕ → ℕ → ℕ
scrambler P t i = scrambling (row P.seeds t) (row P.masks (slot_number t)) i

-- bit i of block slot t, scrambled
unfoldable pub sent_bit : Profile → List ℕ → ℕ → ℕ → ℕ
sent_bit P d t i = (block_bit P.mode (packet P.k d) (slot_bits P.mode * t + i) + scrambler P t i) % 2

-- the cell that carries a point of the scrambled bits: bits 2wi + j of slot t are s0, s1, .. of its point i, where a part has w bits
abbrev pub cell_for : ℕ → Float → (ℕ → ℕ → ℕ) → Option PointOf → Cell
cell_for w level bits None = Silent
cell_for w level bits (Some p) = Carries (point_of w level (λ j. bits p.slot (2 * w * p.point + j)))

-- cell c of a symbol
abbrev pub sent_cell : Profile → List ℕ → ℕ → ℕ → Cell
sent_cell P d symbol c = cell_for (part_bits P.mode) P.level (sent_bit P d) (carried P.mode symbol c)

-- n symbols from the given one on, as two lists
pub record Cells (P : Profile) (d : List ℕ) (from n : ℕ) (firsts seconds : List Float) : Type 0 where
  pub firsts_long : length firsts ≡ 4096 * n
  pub seconds_long : length seconds ≡ 4096 * n
  pub firsts_are : (i : ℕ) → i < 4096 * n → get_or firsts i zero_part ≡ first_part (sent_cell P d (from + i / 4096) (i % 4096))
  pub seconds_are : (i : ℕ) → i < 4096 * n → get_or seconds i zero_part ≡ second_part (sent_cell P d (from + i / 4096) (i % 4096))

-- 6, 7, the first that fits; else 0
abbrev pub lengths : ℕ → ℕ → ℕ → ℕ → ℕ → ℕ
lengths k bytes firsts seconds cells = pick (not (eqb bytes (122 * k))) 6 (pick (not (eqb firsts cells && eqb seconds cells)) 7 0)

-- what is at fault in the profile, 6, 7, the first that fits; else 0
abbrev pub early : Profile → ℕ → ℕ → ℕ → ℕ → Answer
early P bytes firsts seconds cells = fault P or only (lengths P.k bytes firsts seconds cells)

-- what sending answers, and what the lists then hold
pub record SendRule (P : Profile) (d : List ℕ) (firsts seconds firsts' seconds' : List Float) (a : Answer) : Type 0 where
  pub answer : a ≡ early P (length d) (length firsts) (length seconds) (4096 * symbols P.mode)
  pub cells : a.number ≡ 0 → Cells P d 0 (symbols P.mode) firsts' seconds'
  pub kept : ¬ (a.number ≡ 0) → (firsts' ≡ firsts) × (seconds' ≡ seconds)

-- the same for one symbol alone, with 8 as the last
pub record SendSymbolRule (P : Profile) (d : List ℕ) (symbol : ℕ) (firsts seconds firsts' seconds' : List Float) (a : Answer) : Type 0 where
  pub answer : a ≡ early P (length d) (length firsts) (length seconds) 4096 or only (pick (ltb symbol (symbols P.mode)) 0 8)
  pub cells : a.number ≡ 0 → Cells P d symbol 1 firsts' seconds'
  pub kept : ¬ (a.number ≡ 0) → (firsts' ≡ firsts) × (seconds' ≡ seconds)

-- ---- deciding

-- part n of a slot: an even one is the first of its point, an odd one the second
abbrev pub part_of : ℕ → List Float → List Float → ℕ → Float
part_of n firsts seconds at = pick (eqb (n % 2) 0) (get_or firsts at zero_part) (get_or seconds at zero_part)

-- bit i of block slot t as its cell decides, still scrambled: it is one of the w bits of part i / w
unfoldable pub heard : Profile → List Float → List Float → ℕ → ℕ → ℕ
heard P firsts seconds t i =
    let w = part_bits P.mode in
    bit_in w (decide w P.level P.floor (part_of (i / w) firsts seconds (grid_cell t (i / w / 2)))) (i % w)

-- doubtful, or unscrambled
abbrev pub unscrambled : ℕ → ℕ → ℕ
unscrambled b s = pick (eqb b doubtful) doubtful ((b + s) % 2)

-- bit g of the block, unscrambled; v has the scrambled bits
abbrev pub understood : Profile → (ℕ → ℕ) → ℕ → ℕ
understood P v g = unscrambled (v g) (scrambler P (g / slot_bits P.mode) (g % slot_bits P.mode))

-- bit g of the block, from bits by slot
abbrev pub in_block : ℕ → (ℕ → ℕ → ℕ) → ℕ → ℕ
in_block m bits g = bits (g / slot_bits m) (g % slot_bits m)

-- bit g of the block
unfoldable pub decided : Profile → List Float → List Float → ℕ → ℕ
decided P firsts seconds = understood P (in_block P.mode (heard P firsts seconds))

-- packet p's part of the block's decided bits
abbrev pub packet_part : ℕ → (ℕ → ℕ) → ℕ → ℕ → ℕ
packet_part m v p i = v (packet_bits m * p + i)

-- ---- judging one packet's decided bits v

-- the 994 decided bits that entered the encoder
abbrev pub decided_data : ℕ → (ℕ → ℕ) → ℕ → ℕ
decided_data m v i = v (bit_deinterleaved (packet_bits m) (data_place (rate m) i))

-- byte j of 8 bits each, highest bit first
abbrev pub byte_of : (ℕ → ℕ) → ℕ → ℕ
byte_of x j =
    x (8 * j) * 128 + x (8 * j + 1) * 64 + x (8 * j + 2) * 32 + x (8 * j + 3) * 16
    + x (8 * j + 4) * 8 + x (8 * j + 5) * 4 + x (8 * j + 6) * 2 + x (8 * j + 7)

abbrev pub check_right : (ℕ → ℕ) → Bool
check_right x = every_below 16 (λ i. eqb (x (976 + i)) (bit_of 16 (check_word x 976) i))

abbrev pub reserved_right : (ℕ → ℕ) → Bool
reserved_right x = eqb (x 992) 0 && eqb (x 993) 0

-- the reason of a packet that the caller has not marked and that has no doubtful bit: 13 check word, 14 reserved bits, 15 received coded bits
-- differ from the packet's own, 0 accepted
unfoldable pub judged : ℕ → (ℕ → ℕ) → ℕ
judged m v =
    pick (not (check_right (decided_data m v))) 13
    (pick (not (reserved_right (decided_data m v))) 14
    (pick (not (every_below (packet_bits m) (λ i. eqb (v i) (coded m (decided_data m v) i)))) 15 0))

-- 12 a doubtful bit, then as above
abbrev pub verdict : ℕ → (ℕ → ℕ) → ℕ
verdict m v = pick (not (every_below (packet_bits m) (λ i. ltb (v i) doubtful))) 12 (judged m v)

-- 11 marked by the caller, then as above
unfoldable pub reason : ℕ → ℕ → (ℕ → ℕ) → ℕ
reason m mark v = pick (eqb mark 1) 11 (verdict m v)

-- ---- receiving

-- the mask of n packets with bit p set exactly when the reason isn't 0
abbrev pub lost_mask : ℕ → (ℕ → ℕ) → ℕ
lost_mask zero reasons = 0
lost_mask (suc n) reasons = lost_mask n reasons + pick (eqb (reasons n) 0) 0 (2 ^ n)

-- What the outer code makes of the block: kept p j is byte j of a packet p that isn't lost. At 0 the first K packets of the codewords that agree
-- with every packet not lost are written; at 9 more than r are lost; at 10 some column has no such codeword.
pub data Delivered (k lost : ℕ) (kept : ℕ → ℕ → ℕ) (before after : List ℕ) : ℕ → Type 0 where
  whole : ones lost ≤ 16 - k
      → (w : ℕ → ℕ → ℕ)
      → ((j : ℕ) → j < 122 → Codeword (16 - k) (w j) × Agree lost (w j) (λ p. kept p j))
      → length after ≡ 122 * k
      → ((p j : ℕ) → p < k → j < 122 → row after (122 * p + j) ≡ w j p)
      → Delivered k lost kept before after 0
  too_many : 16 - k < ones lost → after ≡ before → Delivered k lost kept before after 9
  no_codeword : ones lost ≤ 16 - k
      → (j : ℕ)
      → j < 122
      → ((c : ℕ → ℕ) → Codeword (16 - k) c → Agree lost c (λ p. kept p j) → ⊥)
      → after ≡ before
      → Delivered k lost kept before after 10

-- what receiving answers for the decided bits v of a block
pub record Judged (P : Profile) (marks : ℕ) (v : ℕ → ℕ) (before after : List ℕ) (a : Receipt) : Type 0 where
  pub place_is : a.place ≡ 0
  pub reasons_long : length a.reasons ≡ 16
  pub reasons_are : (p : ℕ) → p < 16 → row a.reasons p ≡ reason P.mode (marked marks p) (packet_part P.mode v p)
  pub lost_is : a.lost ≡ lost_mask 16 (row a.reasons)
  pub delivered : Delivered P.k a.lost (λ p. byte_of (decided_data P.mode (packet_part P.mode v p))) before after a.number

abbrev pub silence : Answer → Receipt
silence n = record { number = n.number; place = n.place; lost = 0; reasons = replicate 16 0 }

-- what is answered, and what the room for the data then holds, where the answer n comes first: a refusal, then the judgement of the decided bits v
pub record Answered (P : Profile) (marks : ℕ) (n : Answer) (v : ℕ → ℕ) (before after : List ℕ) (a : Receipt) : Type 0 where
  pub refused : ¬ (n.number ≡ 0) → (a ≡ silence n) × (after ≡ before)
  pub judged : n.number ≡ 0 → Judged P marks v before after a

-- packet p counts as accepted: the cells were read, and its reason is 0
abbrev pub Accepted : Receipt → ℕ → Type 0
Accepted a p = T (has_read a.number) × (row a.reasons p ≡ 0)

-- what is at fault in the profile, 6, 7, then the judgement
abbrev pub ReceiveRule : Profile → ℕ → List Float → List Float → List ℕ → List ℕ → Receipt → Type 0
ReceiveRule P marks firsts seconds before after a =
    Answered P marks (early P (length before) (length firsts) (length seconds) (4096 * symbols P.mode)) (decided P firsts seconds) before after a
