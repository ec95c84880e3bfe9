-- The founder's three sentences, and what Req 05 and Req 07 to 09 of document 02 promise, as propositions about the calls' rules. That every call comes back, with no `requires`, and answers by its rule is
-- each function's own contract; card/proofs proves these.
use Rattle.std.specs.Prelude.{◌≡◌, List, ◌∷◌, ◌++◌, ◌⊎◌, ◌↔◌, ℕ, suc, ◌+◌, ◌-◌, ◌*◌, ◌/◌, ◌%◌, ◌^◌, ◌<◌, ◌≤◌, T, Float, length, get_or, take, replicate}
use Rattle.std.specs.Int.Count.{ones}
use Rattle.std.specs.Float.{nan}
use Rattle.std.specs.Float.Ieee.{neg, le}
use Rattle.rules.specs.Bits.{row, differ}
use Rattle.rules.specs.Packet.{packet_bit}
use Rattle.rules.specs.Outer.{marked}
use Rattle.rules.specs.Modes.{part_bits, slot_bits, packet_bits, slots, symbols}
use Rattle.rules.specs.Slots.{coded, symbol_of, slot_number}
use Rattle.rules.specs.Points.{zero_part, part, doubtful, near_end, far_end, decide, decide_without}
use Rattle.rules.specs.Profile.{fields, only, fault, in_range, faultless, Shape, Whole, reading, refused, read_as, headed, spelt, written, writing, blank, largest}
use Rattle.rules.specs.Answers.{is_number, is_adding_number, is_answer, names_fault, is_reason, has_read}
use Rattle.rules.specs.Block.{scrambler, sent_bit, heard, Cells, SendRule, SendSymbolRule}
use Rattle.rules.specs.Block.{Accepted, ReceiveRule}
use Rattle.rules.specs.Pieces.{FeedRule, AskRule, Fed, LeftBy}
use Rattle.rules.specs.Compare.{Grids, differs, differing, difference, CompareRule, symbol_alone, in_turn, total}
use Rattle.rules.specs.Totals.{is_block, is_accepted, is_restored, is_undelivered, has_reason, counts, how_often, AddRule, Summed, Reordered}
use Rattle.rules.specs.Answers.{Answer}
use Rattle.rules.specs.Compare.{Comparison}
use Rattle.rules.specs.declared.Profile.{Profile}
use Rattle.rules.specs.declared.Receipt.{Receipt}

-- ---- 1. Whatever arrives, the answer is a number from the table, and a refusal leaves the lent memory holding what it held

pub record D1 : Type 0 where
  pub send : (P : Profile) (d : List ℕ) (f s f' s' : List Float) (a : Answer)
      → SendRule P d f s f' s' a
      → T (is_answer a.number a.place) × (¬ (a.number ≡ 0) → (f' ≡ f) × (s' ≡ s))
  pub send_symbol : (P : Profile) (d : List ℕ) (symbol : ℕ) (f s f' s' : List Float) (a : Answer)
      → SendSymbolRule P d symbol f s f' s' a
      → T (is_answer a.number a.place) × (¬ (a.number ≡ 0) → (f' ≡ f) × (s' ≡ s))
  pub receive : (P : Profile) (marks : ℕ) (f s : List Float) (before after : List ℕ) (a : Receipt)
      → ReceiveRule P marks f s before after a
      → T (is_answer a.number a.place) × ((p : ℕ) → p < 16 → T (is_reason (row a.reasons p))) × (¬ (a.number ≡ 0) → after ≡ before)
  pub feed : (P : Profile) (f s : List Float) (before after : List ℕ) (a : Answer)
      → FeedRule P f s before after a
      → T (is_answer a.number a.place) × (¬ (a.number ≡ 0) → after ≡ before)
  pub ask : (P : Profile) (marks : ℕ) (state before after : List ℕ) (a : Receipt)
      → AskRule P marks state before after a
      → T (is_answer a.number a.place) × ((p : ℕ) → p < 16 → T (is_reason (row a.reasons p))) × (¬ (a.number ≡ 0) → after ≡ before)
  pub compare : (from : ℕ) (G : Grids) (before after : List ℕ) (a : Comparison)
      → CompareRule from G before after a
      → T (is_number a.number) × (¬ (a.number ≡ 0) → after ≡ before)
  pub read : (s : List ℕ)
      → T (is_answer (reading s).number (reading s).place) × (¬ ((reading s).number ≡ 0) → (reading s).profile ≡ blank)
  pub write : (P : Profile)
      → T (is_answer (writing P).number (writing P).place)
      × (¬ ((writing P).number ≡ 0) → ((writing P).bytes ≡ replicate largest 0) × ((writing P).count ≡ 0))

-- ---- 2. Cell for cell, and accepted exactly when some packet has the bits that the cells decide to

-- bit i, scrambled, of a packet with the bytes e that is sent in the place of packet p
abbrev pub bit_in_place : Profile → (ℕ → ℕ) → ℕ → ℕ → ℕ
bit_in_place P e p i =
    (coded P.mode (packet_bit e) i
    + scrambler P ((packet_bits P.mode * p + i) / slot_bits P.mode) ((packet_bits P.mode * p + i) % slot_bits P.mode)) % 2

-- what the cells of packet p decide to
abbrev pub heard_in_place : Profile → List Float → List Float → ℕ → ℕ → ℕ
heard_in_place P f s p i =
    heard P f s ((packet_bits P.mode * p + i) / slot_bits P.mode) ((packet_bits P.mode * p + i) % slot_bits P.mode)

-- some packet, sent by the rules in the same place with the same profile, has the bits that its cells decide to, none doubtful
abbrev pub SomePacket : Profile → List Float → List Float → ℕ → Type 0
SomePacket P f s p =
    (e : ℕ → ℕ) × ((j : ℕ) → j < 122 → e j < 256)
    × ((i : ℕ) → i < packet_bits P.mode → heard_in_place P f s p i ≡ bit_in_place P e p i)

-- an answer names a fault of the profile exactly where it has one, and then it is that
abbrev pub Names : Profile → Answer → Type 0
Names P a = (T (names_fault a.number) ↔ ¬ T (faultless P)) × (¬ T (faultless P) → a ≡ fault P)

pub record D2 : Type 0 where
  -- sending a block fills the grid with exactly the cells that the rules give, and does so wherever profile and lengths are right
  pub cells : (P : Profile) (d : List ℕ) (f s f' s' : List Float) (a : Answer)
      → SendRule P d f s f' s' a
      → a.number ≡ 0
      → Cells P d 0 (symbols P.mode) f' s'
  pub sends : (P : Profile) (d : List ℕ) (f s f' s' : List Float) (a : Answer)
      → SendRule P d f s f' s' a
      → (a.number ≡ 0)
      ↔ (T (faultless P) × (length d ≡ 122 * P.k) × (length f ≡ 4096 * symbols P.mode) × (length s ≡ 4096 * symbols P.mode))
  pub one_grid : (P : Profile) (d : List ℕ) (f s f' s' f'' s'' : List Float) (a b : Answer)
      → SendRule P d f s f' s' a
      → SendRule P d f s f'' s'' b
      → (a ≡ b) × (f' ≡ f'') × (s' ≡ s'')
  -- one symbol sent alone is that part of the whole grid
  pub symbol_of_grid : (P : Profile) (d : List ℕ) (symbol : ℕ) (f s f' s' F S F' S' : List Float) (i : ℕ)
      → SendSymbolRule P d symbol f s f' s' (only 0)
      → SendRule P d F S F' S' (only 0)
      → i < 4096
      → (get_or f' i zero_part ≡ get_or F' (4096 * symbol + i) zero_part) × (get_or s' i zero_part ≡ get_or S' (4096 * symbol + i) zero_part)
  pub symbol_cells : (P : Profile) (d : List ℕ) (symbol : ℕ) (f s f' s' : List Float) (a : Answer)
      → SendSymbolRule P d symbol f s f' s' a
      → a.number ≡ 0
      → Cells P d symbol 1 f' s'
  pub one_symbol : (P : Profile) (d : List ℕ) (symbol : ℕ) (f s f' s' f'' s'' : List Float) (a b : Answer)
      → SendSymbolRule P d symbol f s f' s' a
      → SendSymbolRule P d symbol f s f'' s'' b
      → (a ≡ b) × (f' ≡ f'') × (s' ≡ s'')
  -- receiving reads the cells exactly where profile and lengths are right; at every other number mask and reasons are zero and nothing counts as accepted
  pub reads : (P : Profile) (marks : ℕ) (f s : List Float) (before after : List ℕ) (a : Receipt)
      → ReceiveRule P marks f s before after a
      → T (has_read a.number)
      ↔ (T (faultless P) × (length before ≡ 122 * P.k) × (length f ≡ 4096 * symbols P.mode) × (length s ≡ 4096 * symbols P.mode))
  pub nothing_accepted : (P : Profile) (marks : ℕ) (f s : List Float) (before after : List ℕ) (a : Receipt)
      → ReceiveRule P marks f s before after a
      → ¬ T (has_read a.number)
      → (a.lost ≡ 0) × (a.reasons ≡ replicate 16 0) × ((p : ℕ) → ¬ Accepted a p)
  -- if it reads the cells, it accepts an unmarked packet exactly when there is such a packet
  pub accepts : (P : Profile) (marks : ℕ) (f s : List Float) (before after : List ℕ) (a : Receipt)
      → ReceiveRule P marks f s before after a
      → T (has_read a.number)
      → (p : ℕ)
      → p < 16
      → marked marks p ≡ 0
      → Accepted a p ↔ SomePacket P f s p
  -- it looks only at the block's own cells: two grids whose own cells decide alike get the same receipt and the same data, whatever else they hold
  pub own_cells : (P : Profile) (marks : ℕ) (f s f' s' : List Float) (before after after' : List ℕ) (a a' : Receipt)
      → length f ≡ length f'
      → length s ≡ length s'
      → ((t i : ℕ) → t < slots P.mode → i < slot_bits P.mode → heard P f s t i ≡ heard P f' s' t i)
      → ReceiveRule P marks f s before after a
      → ReceiveRule P marks f' s' before after' a'
      → (a ≡ a') × (after ≡ after')
  pub one_receipt : (P : Profile) (marks : ℕ) (f s : List Float) (before after after' : List ℕ) (a a' : Receipt)
      → ReceiveRule P marks f s before after a
      → ReceiveRule P marks f s before after' a'
      → (a ≡ a') × (after ≡ after')
  -- 22 exactly where no pieces, fed with this profile from the new state on, leave the state
  pub feed_22 : (P : Profile) (f s : List Float) (before after : List ℕ) (a : Answer)
      → ((i : ℕ) → row before i < 256)
      → FeedRule P f s before after a
      → (a.number ≡ 22) ↔ (T (faultless P) × ¬ LeftBy (FeedRule P) before)
  pub ask_22 : (P : Profile) (marks : ℕ) (state before after : List ℕ) (a : Receipt)
      → ((i : ℕ) → row state i < 256)
      → AskRule P marks state before after a
      → (a.number ≡ 22) ↔ (T (faultless P) × ¬ LeftBy (FeedRule P) state)
  -- after pieces that were fed, every piece is taken that has lists of one length and ends within the grid, and no other
  pub takes : (P : Profile) (f s f' s' : List Float) (before after : List ℕ) (a : Answer)
      → T (faultless P)
      → Fed (FeedRule P) f s before
      → FeedRule P f' s' before after a
      → (a.number ≡ 0) ↔ ((length f' ≡ length s') × (length f + length f' ≤ 4096 * symbols P.mode))
  -- however a grid was cut into pieces, to ask at the end is to receive it whole
  pub any_cutting : (P : Profile) (marks : ℕ) (f s : List Float) (state before after : List ℕ) (a : Receipt)
      → Fed (FeedRule P) f s state
      → length f ≡ 4096 * symbols P.mode
      → AskRule P marks state before after a
      → ReceiveRule P marks f s before after a
  -- so the answer is the whole grid's, and the data too
  pub as_whole : (P : Profile) (marks : ℕ) (f s : List Float) (state before after after' : List ℕ) (a a' : Receipt)
      → Fed (FeedRule P) f s state
      → length f ≡ 4096 * symbols P.mode
      → AskRule P marks state before after a
      → ReceiveRule P marks f s before after' a'
      → (a ≡ a') × (after ≡ after')
  -- asking, where every piece was fed with the profile asked with: it reads the cells exactly where all have come and the room is right, and then
  -- accepts an unmarked packet exactly when there is such a packet
  pub ask_reads : (P : Profile) (marks : ℕ) (f s : List Float) (state before after : List ℕ) (a : Receipt)
      → Fed (FeedRule P) f s state
      → AskRule P marks state before after a
      → T (has_read a.number) ↔ (T (faultless P) × (length before ≡ 122 * P.k) × (length f ≡ 4096 * symbols P.mode))
  pub ask_accepts : (P : Profile) (marks : ℕ) (f s : List Float) (state before after : List ℕ) (a : Receipt)
      → Fed (FeedRule P) f s state
      → AskRule P marks state before after a
      → T (has_read a.number)
      → (p : ℕ)
      → p < 16
      → marked marks p ≡ 0
      → Accepted a p ↔ SomePacket P f s p
  pub ask_nothing : (P : Profile) (marks : ℕ) (state before after : List ℕ) (a : Receipt)
      → AskRule P marks state before after a
      → ¬ T (has_read a.number)
      → (a.lost ≡ 0) × (a.reasons ≡ replicate 16 0) × ((p : ℕ) → ¬ Accepted a p)
  pub one_feeding : (P : Profile) (f s : List Float) (before after after' : List ℕ) (a b : Answer)
      → FeedRule P f s before after a
      → FeedRule P f s before after' b
      → (a ≡ b) × (after ≡ after')
  pub one_asking : (P : Profile) (marks : ℕ) (state before after after' : List ℕ) (a a' : Receipt)
      → AskRule P marks state before after a
      → AskRule P marks state before after' a'
      → (a ≡ a') × (after ≡ after')
  -- a profile is read and written by the same rules: what is faultless is written, reading the written bytes gives the value back, and what reads well
  -- is what is written
  pub writes : (P : Profile) → ((writing P).number ≡ 0) ↔ T (faultless P)
  pub read_written : (P : Profile)
      → Shape P
      → (writing P).number ≡ 0
      → reading (take (writing P).count (writing P).bytes) ≡ record { number = 0; place = 0; profile = P }
  pub written_read : (s : List ℕ)
      → ((i : ℕ) → row s i < 256)
      → (reading s).number ≡ 0
      → writing (reading s).profile ≡ record { number = 0; place = 0; bytes = s ++ replicate (largest - length s) 0; count = length s }
  -- for bytes whose headers and lengths are right, reading answers what the value so read is refused with, or the value
  pub read_refused : (s : List ℕ) → T (headed fields blank s) → reading s ≡ read_as (spelt fields blank s)
  -- so the place is counted as if the value had been written out: its bytes, written out at fault or not, are read so
  pub written_out : (P : Profile) → Shape P → Whole P → reading (written P) ≡ read_as P
  -- a call names a fault of the profile exactly where it has one, and then it answers that
  pub send_names : (P : Profile) (d : List ℕ) (f s f' s' : List Float) (a : Answer) → SendRule P d f s f' s' a → Names P a
  pub symbol_names : (P : Profile) (d : List ℕ) (symbol : ℕ) (f s f' s' : List Float) (a : Answer)
      → SendSymbolRule P d symbol f s f' s' a
      → Names P a
  pub receive_names : (P : Profile) (marks : ℕ) (f s : List Float) (before after : List ℕ) (a : Receipt)
      → ReceiveRule P marks f s before after a
      → Names P (record { number = a.number; place = a.place })
  pub feed_names : (P : Profile) (f s : List Float) (before after : List ℕ) (a : Answer) → FeedRule P f s before after a → Names P a
  pub ask_names : (P : Profile) (marks : ℕ) (state before after : List ℕ) (a : Receipt)
      → AskRule P marks state before after a
      → Names P (record { number = a.number; place = a.place })
  pub write_names : (P : Profile) → Names P (record { number = (writing P).number; place = (writing P).place })

-- ---- 3. The lost set exactly; at most r lost come back, more are refused

-- what is sent for packet p of the block that carries d
abbrev pub sent_in_place : Profile → List ℕ → ℕ → ℕ → ℕ
sent_in_place P d p i =
    sent_bit P d ((packet_bits P.mode * p + i) / slot_bits P.mode) ((packet_bits P.mode * p + i) % slot_bits P.mode)

-- packet p has a doubtful part in its own cells
abbrev pub Doubtful : Profile → List Float → List Float → ℕ → Type 0
Doubtful P f s p = (i : ℕ) × (i < packet_bits P.mode) × (heard_in_place P f s p i ≡ doubtful)

-- it is wrong in some bit
abbrev pub Wrong : Profile → List ℕ → List Float → List Float → ℕ → Type 0
Wrong P d f s p = (i : ℕ) × (i < packet_bits P.mode) × (¬ (heard_in_place P f s p i ≡ sent_in_place P d p i))

abbrev pub Lost : Profile → ℕ → List ℕ → List Float → List Float → ℕ → Type 0
Lost P marks d f s p = (marked marks p ≡ 1) ⊎ (Doubtful P f s p ⊎ Wrong P d f s p)

-- how many of the first n packets are in a set
pub data Members (S : ℕ → Type 0) : ℕ → ℕ → Type 0 where
  none : Members S 0 0
  member : (n c : ℕ) → S n → Members S n c → Members S (suc n) (suc c)
  other : (n c : ℕ) → ¬ S n → Members S n c → Members S (suc n) c

-- packet p is marked, or has doubtful parts, or at most three bits decided wrongly
abbrev pub Fair : Profile → ℕ → List ℕ → List Float → List Float → ℕ → Type 0
Fair P marks d f s p =
    (marked marks p ≡ 1) ⊎ (Doubtful P f s p ⊎ (differ (packet_bits P.mode) (heard_in_place P f s p) (sent_in_place P d p) ≤ 3))

-- What an answer says of a block that was sent. The lost mask names the lost set, and its ones are as many as that has members; at most r of them,
-- and every data packet comes back; more, and it is 9, and no data is written.
abbrev pub BringsBack : Profile → ℕ → List ℕ → List Float → List Float → List ℕ → List ℕ → ℕ → ℕ → Type 0
BringsBack P marks d f s before after lost number =
    ((p : ℕ) → p < 16 → (marked lost p ≡ 1) ↔ Lost P marks d f s p)
    × Members (Lost P marks d f s) 16 (ones lost)
    × ((c : ℕ) → Members (Lost P marks d f s) 16 c → c ≤ 16 - P.k → (number ≡ 0) × (after ≡ d))
    × ((c : ℕ) → Members (Lost P marks d f s) 16 c → 16 - P.k < c → (number ≡ 9) × (after ≡ before))

pub record D3 : Type 0 where
  -- a grid that holds the sent cells is heard as sent
  pub heard_as_sent : (P : Profile) (d : List ℕ) (f s : List Float)
      → T (faultless P)
      → Cells P d 0 (symbols P.mode) f s
      → (p i : ℕ)
      → p < 16
      → i < packet_bits P.mode
      → heard_in_place P f s p i ≡ sent_in_place P d p i
  pub sent_and_received : (P : Profile) (d : List ℕ) (marks : ℕ) (f s : List Float) (before after : List ℕ) (a : Receipt)
      → T (faultless P)
      → length d ≡ 122 * P.k
      → ((i : ℕ) → row d i < 256)
      → length before ≡ 122 * P.k
      → length f ≡ 4096 * symbols P.mode
      → length s ≡ 4096 * symbols P.mode
      → ((p : ℕ) → p < 16 → Fair P marks d f s p)
      → ReceiveRule P marks f s before after a
      → BringsBack P marks d f s before after a.lost a.number
  -- and for asking, where every piece was fed with the profile asked with and the number is 0, 9 or 10
  pub sent_and_asked : (P : Profile) (d : List ℕ) (marks : ℕ) (f s : List Float) (state before after : List ℕ) (a : Receipt)
      → length d ≡ 122 * P.k
      → ((i : ℕ) → row d i < 256)
      → ((p : ℕ) → p < 16 → Fair P marks d f s p)
      → Fed (FeedRule P) f s state
      → AskRule P marks state before after a
      → T (has_read a.number)
      → BringsBack P marks d f s before after a.lost a.number

-- ---- Req 05. Two grids side by side: the differences exactly, each once, in order, none left out

-- all four lists have so many symbols
abbrev pub Symbols : Grids → ℕ → Type 0
Symbols G n =
    (length G.firsts_a ≡ 4096 * n) × (length G.seconds_a ≡ 4096 * n) × (length G.firsts_b ≡ 4096 * n) × (length G.seconds_b ≡ 4096 * n)

pub record SideBySide : Type 0 where
  -- grids are compared exactly where they are whole symbols, as many in each of the four lists; no cell differs exactly where they are the same
  pub compares : (from : ℕ) (G : Grids) (before after : List ℕ) (a : Comparison)
      → CompareRule from G before after a
      → (a.number ≡ 0) ↔ ((n : ℕ) × Symbols G n)
  pub same : (from : ℕ) (G : Grids) (before after : List ℕ) (a : Comparison)
      → CompareRule from G before after a
      → a.number ≡ 0
      → (a.count ≡ 0) ↔ ((G.firsts_a ≡ G.firsts_b) × (G.seconds_a ≡ G.seconds_b))
  -- the cells that count as differing do, they rise, so that none is there twice, and no cell that differs is left out
  pub each_differs : (G : Grids) (k : ℕ)
      → k < length (differing G)
      → (row (differing G) k < length G.firsts_a) × T (differs G (row (differing G) k))
  pub rising : (G : Grids) (k l : ℕ) → k < l → l < length (differing G) → row (differing G) k < row (differing G) l
  pub none_left_out : (G : Grids) (i : ℕ)
      → i < length G.firsts_a
      → T (differs G i)
      → (k : ℕ) × (k < length (differing G)) × (row (differing G) k ≡ i)
  -- the lent list stays as long as it was. Difference k has the six numbers from 6 * k on, if they fit whole; behind the last one all is as it was
  pub as_long : (from : ℕ) (G : Grids) (before after : List ℕ) (a : Comparison) → CompareRule from G before after a → length after ≡ length before
  pub listed : (from : ℕ) (G : Grids) (before after : List ℕ) (a : Comparison) (k j : ℕ)
      → CompareRule from G before after a
      → a.number ≡ 0
      → k < a.count
      → 6 * k + 6 ≤ length before
      → j < 6
      → row after (6 * k + j) ≡ row (difference from G (row (differing G) k)) j
  pub behind : (from : ℕ) (G : Grids) (before after : List ℕ) (a : Comparison) (j : ℕ)
      → CompareRule from G before after a
      → (6 * a.count ≤ j) ⊎ (length before < 6 * (j / 6) + 6)
      → row after j ≡ row before j
  pub one_comparison : (from : ℕ) (G : Grids) (before after after' : List ℕ) (a b : Comparison)
      → CompareRule from G before after a
      → CompareRule from G before after' b
      → (a ≡ b) × (after ≡ after')
  -- symbol by symbol, each with room for all its cells, gives what the whole grids give
  pub symbol_by_symbol : (from n : ℕ) (G : Grids) (before after : List ℕ) (a : Comparison) (answers : ℕ → Comparison) (rooms lists : ℕ → List ℕ)
      → Symbols G n
      → CompareRule from G before after a
      → ((y : ℕ) → y < n → (6 * 4096 ≤ length (rooms y)) × CompareRule (from + y) (symbol_alone G y) (rooms y) (lists y) (answers y))
      → ((y : ℕ) → y < n → (answers y).number ≡ 0)
      × (a.count ≡ total n (λ y. (answers y).count))
      × (6 * a.count ≤ length before → take (6 * a.count) after ≡ in_turn n (λ y. take (6 * (answers y).count) (lists y)))

-- ---- Req 07. Weak cells don't vote

-- from one end to the other, ends included
abbrev pub Within : Float → Float → Float → Type 0
Within low high a = T (le low a) × T (le a high)

-- NaN, around zero; of two bits also around 2D and -2D
abbrev pub Weak : ℕ → Float → Float → Float → Type 0
Weak w level floor a =
    (a ≡ nan) ⊎ (Within (neg floor) floor a
    ⊎ ((w ≡ 2) × (Within (near_end level floor) (far_end level floor) a ⊎ Within (neg (far_end level floor)) (neg (near_end level floor)) a)))

pub record WeakCells : Type 0 where
  -- at the floor +0.0 every decision is as before
  pub as_before : (w : ℕ) (level a : Float) → decide w level zero_part a ≡ decide_without w level a
  -- with a good profile the doubtful parts are exactly the weak ones
  pub doubtful_exactly : (P : Profile) (a : Float)
      → T (faultless P)
      → (decide (part_bits P.mode) P.level P.floor a ≡ 2 ^ part_bits P.mode) ↔ Weak (part_bits P.mode) P.level P.floor a
  -- and none that is sent is among them
  pub never_sent : (P : Profile) (s : ℕ → ℕ)
      → T (faultless P)
      → ((j : ℕ) → s j < 2)
      → decide (part_bits P.mode) P.level P.floor (part (part_bits P.mode) P.level s) < 2 ^ part_bits P.mode

-- ---- Req 08. No twins in one symbol

-- block slot t repeats an earlier one: of its symbol, with the same seed and the same mask
abbrev pub Repeats : Profile → ℕ → Type 0
Repeats P t =
    (u : ℕ) × (u < t) × (symbol_of u ≡ symbol_of t) × (row P.seeds u ≡ row P.seeds t)
    × (row P.masks (slot_number u) ≡ row P.masks (slot_number t))

-- and no slot before t repeats one
abbrev pub FirstRepeat : Profile → ℕ → Type 0
FirstRepeat P t = (t < slots P.mode) × Repeats P t × ((v : ℕ) → v < t → ¬ Repeats P v)

abbrev pub twins_at : ℕ → Answer
twins_at t = record { number = 46; place = t }

pub record NoTwins : Type 0 where
  -- 46 with slot t exactly where every number is in its range and t is the first slot that repeats an earlier one
  pub of_value : (P : Profile) (t : ℕ) → (fault P ≡ twins_at t) ↔ (T (in_range P) × FirstRepeat P t)
  -- so for bytes, where headers and lengths are right and nothing is left over, of the value that stands there
  pub of_bytes : (s : List ℕ) (t : ℕ)
      → (reading s ≡ refused (twins_at t))
      ↔ (T (headed fields blank s) × T (in_range (spelt fields blank s)) × FirstRepeat (spelt fields blank s) t)
  -- a profile is faultless exactly where every number is in its range and no slot repeats an earlier one
  pub allowed : (P : Profile) → T (faultless P) ↔ (T (in_range P) × ((t : ℕ) → t < slots P.mode → ¬ Repeats P t))

-- ---- Req 09. A month in whole numbers: each total is the count over the receipts that were added, in whatever order they came

-- What the eight totals of position p are, after the receipts rs: how often each came. The first three together are as many as rs has blocks, and the last
-- five as often as the packet was lost.
pub record OfPosition (rs : List Receipt) (t : List ℕ) (p : ℕ) : Type 0 where
  pub accepted : row t (8 * p) ≡ how_often (is_accepted p) rs
  pub restored : row t (8 * p + 1) ≡ how_often (is_restored p) rs
  pub undelivered : row t (8 * p + 2) ≡ how_often (is_undelivered p) rs
  pub reasons : (n : ℕ) → 11 ≤ n → n ≤ 15 → row t (8 * p + (n - 8)) ≡ how_often (has_reason n p) rs
  pub blocks : row t (8 * p) + row t (8 * p + 1) + row t (8 * p + 2) ≡ how_often is_block rs
  pub lost : row t (8 * p + 3) + row t (8 * p + 4) + row t (8 * p + 5) + row t (8 * p + 6) + row t (8 * p + 7) ≡ row t (8 * p + 1) + row t (8 * p + 2)

-- mask and reasons say the same of each packet, and each reason is one that there is
abbrev pub InAgreement : Receipt → Type 0
InAgreement a = (p : ℕ) → p < 16 → T (is_reason (row a.reasons p)) × ((marked a.lost p ≡ 1) ↔ ¬ (row a.reasons p ≡ 0))

pub record WholeNumbers : Type 0 where
  -- the first sentence of adding: the number is in the table, and a refusal leaves the totals as they were
  pub told : (before : List ℕ) (a : Receipt) (after : List ℕ) (n : ℕ) → AddRule before a after n → T (is_adding_number n) × (¬ (n ≡ 0) → after ≡ before)
  -- for every sequence of receipts that was added from the start
  pub counted : (rs : List Receipt) (t : List ℕ) → Summed AddRule rs t → (length t ≡ 128) × ((p : ℕ) → p < 16 → OfPosition rs t p)
  -- in another order none of them is refused, and the totals are the same
  pub any_order : (rs ss : List Receipt) (t : List ℕ) → Reordered rs ss → Summed AddRule rs t → Summed AddRule ss t
  pub one_total : (rs ss : List Receipt) (t u : List ℕ) → Reordered rs ss → Summed AddRule rs t → Summed AddRule ss u → t ≡ u
  -- no block: 0, nothing added. 23 and 19 exactly where they should come; the mask of a receipt has 16 bits
  pub no_block : (before : List ℕ) (a : Receipt) (after : List ℕ) (n : ℕ)
      → AddRule before a after n
      → ¬ T (is_block a)
      → (n ≡ 0) × (after ≡ before)
  pub says_23 : (before : List ℕ) (a : Receipt) (after : List ℕ) (n : ℕ)
      → a.lost < 2 ^ 16
      → AddRule before a after n
      → (n ≡ 23) ↔ (T (is_block a) × (¬ (length before ≡ 128) ⊎ ¬ InAgreement a))
  pub says_19 : (rs : List Receipt) (before : List ℕ) (a : Receipt) (after : List ℕ) (n : ℕ)
      → a.lost < 2 ^ 16
      → Summed AddRule rs before
      → AddRule before a after n
      → (n ≡ 19) ↔ (T (is_block a) × InAgreement a × ((i : ℕ) × (i < 128) × (how_often (counts i) (a ∷ rs) ≡ 2 ^ 64)))
  -- what our own receiver answers is never refused with 23
  pub received : (P : Profile) (marks : ℕ) (f s : List Float) (before after : List ℕ) (a : Receipt) (t t' : List ℕ) (n : ℕ)
      → ReceiveRule P marks f s before after a
      → length t ≡ 128
      → AddRule t a t' n
      → ¬ (n ≡ 23)
  pub asked : (P : Profile) (marks : ℕ) (state before after : List ℕ) (a : Receipt) (t t' : List ℕ) (n : ℕ)
      → AskRule P marks state before after a
      → length t ≡ 128
      → AddRule t a t' n
      → ¬ (n ≡ 23)
  pub one_adding : (before : List ℕ) (a : Receipt) (after after' : List ℕ) (n m : ℕ)
      → AddRule before a after n
      → AddRule before a after' m
      → (n ≡ m) × (after ≡ after')
