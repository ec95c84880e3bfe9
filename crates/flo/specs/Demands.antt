-- The founder's three sentences for the C calls, over the profile's bytes. Lent memory is the cell lists of a send, the data room of a receive or a
-- question, the state of flo_feed, the block of flo_parity, the list of flo_compare and the totals of flo_add; what comes back through result pointers is an
-- answer. flo/proofs/Demands.antt and Right.antt prove these. What is promised of two grids (SideBySide) and of totals (WholeNumbers) is said of
-- flo_compare's and flo_add's rules as they stand.
use Rattle.std.specs.Prelude.{◌≡◌, List, ◌++◌, ◌↔◌, ℕ, ◌+◌, ◌-◌, ◌*◌, ◌<◌, ◌≤◌, T, Float, length, take, replicate}
use Rattle.rules.specs.Bits.{row}
use Rattle.rules.specs.Outer.{marked}
use Rattle.rules.specs.Modes.{symbols}
use Rattle.rules.specs.Profile.{Shape, fields, blank, only, reading, headed, spelt, largest}
use Rattle.rules.specs.Answers.{is_number, is_adding_number, is_answer, names_fault, is_reason, has_read}
use Rattle.rules.specs.Block.{Cells}
use Rattle.rules.specs.Pieces.{Fed, LeftBy}
use Rattle.rules.specs.Totals.{Summed}
use Rattle.rules.specs.Demands.{SomePacket, Fair, BringsBack, OfPosition}
use Rattle.rules.specs.Answers.{Answer}
use Rattle.rules.specs.declared.Profile.{Profile}
use Rattle.rules.specs.declared.Receipt.{Receipt}
use Rattle.flo.specs.Calls.{refusal, FloSend, FloSendSymbol, FloReceive, FloFeed, FloAsk, FloReadProfile, FloWriteProfile, FloParity, FloCompare, FloAdd, FloAdds}

-- ---- 1. The number is in the table, and a refusal leaves the lent memory holding what it held

pub record CallsTold : Type 0 where
  pub send : (profile d : List ℕ) (f s f' s' : List Float) (a : Answer)
      → FloSend profile d f s f' s' a
      → T (is_answer a.number a.place) × (¬ (a.number ≡ 0) → (f' ≡ f) × (s' ≡ s))
  pub send_symbol : (profile d : List ℕ) (symbol : ℕ) (f s f' s' : List Float) (a : Answer)
      → FloSendSymbol profile d symbol f s f' s' a
      → T (is_answer a.number a.place) × (¬ (a.number ≡ 0) → (f' ≡ f) × (s' ≡ s))
  pub receive : (profile : List ℕ) (marks : ℕ) (f s : List Float) (before after : List ℕ) (lost : ℕ) (reasons : List ℕ) (a : Answer)
      → FloReceive profile marks f s before after lost reasons a
      → T (is_answer a.number a.place) × ((p : ℕ) → p < 16 → T (is_reason (row reasons p))) × (¬ (a.number ≡ 0) → after ≡ before)
  pub feed : (profile : List ℕ) (f s : List Float) (before after : List ℕ) (a : Answer)
      → FloFeed profile f s before after a
      → T (is_answer a.number a.place) × (¬ (a.number ≡ 0) → after ≡ before)
  pub ask : (profile : List ℕ) (marks : ℕ) (state before after : List ℕ) (lost : ℕ) (reasons : List ℕ) (a : Answer)
      → FloAsk profile marks state before after lost reasons a
      → T (is_answer a.number a.place) × ((p : ℕ) → p < 16 → T (is_reason (row reasons p))) × (¬ (a.number ≡ 0) → after ≡ before)
  pub read_profile : (profile masks : List ℕ) (level : Float) (mode k : ℕ) (seeds : List ℕ) (floor : Float) (a : Answer)
      → FloReadProfile profile masks level mode k seeds floor a
      → T (is_answer a.number a.place)
  pub write_profile : (masks : List ℕ) (level : Float) (mode k : ℕ) (seeds : List ℕ) (floor : Float) (profile : List ℕ) (count : ℕ) (a : Answer)
      → FloWriteProfile masks level mode k seeds floor profile count a
      → T (is_answer a.number a.place)
  pub parity : (k : ℕ) (before after : List ℕ) (n : ℕ) → FloParity k before after n → T (is_number n) × (¬ (n ≡ 0) → after ≡ before)
  pub compare : (fa sa fb sb before after : List ℕ) (count n : ℕ)
      → FloCompare fa sa fb sb before after count n
      → T (is_number n) × (¬ (n ≡ 0) → (after ≡ before) × (count ≡ 0))

-- ---- 2. No call can answer in two ways

pub record CallsOne : Type 0 where
  pub send : (profile d : List ℕ) (f s f' s' f'' s'' : List Float) (a b : Answer)
      → FloSend profile d f s f' s' a
      → FloSend profile d f s f'' s'' b
      → (a ≡ b) × (f' ≡ f'') × (s' ≡ s'')
  pub send_symbol : (profile d : List ℕ) (symbol : ℕ) (f s f' s' f'' s'' : List Float) (a b : Answer)
      → FloSendSymbol profile d symbol f s f' s' a
      → FloSendSymbol profile d symbol f s f'' s'' b
      → (a ≡ b) × (f' ≡ f'') × (s' ≡ s'')
  pub receive : (profile : List ℕ) (marks : ℕ) (f s : List Float) (before after after' : List ℕ) (lost lost' : ℕ) (reasons reasons' : List ℕ) (a b : Answer)
      → FloReceive profile marks f s before after lost reasons a
      → FloReceive profile marks f s before after' lost' reasons' b
      → (a ≡ b) × (lost ≡ lost') × (reasons ≡ reasons') × (after ≡ after')
  pub feed : (profile : List ℕ) (f s : List Float) (before after after' : List ℕ) (a b : Answer)
      → FloFeed profile f s before after a
      → FloFeed profile f s before after' b
      → (a ≡ b) × (after ≡ after')
  pub ask : (profile : List ℕ) (marks : ℕ) (state before after after' : List ℕ) (lost lost' : ℕ) (reasons reasons' : List ℕ) (a b : Answer)
      → FloAsk profile marks state before after lost reasons a
      → FloAsk profile marks state before after' lost' reasons' b
      → (a ≡ b) × (lost ≡ lost') × (reasons ≡ reasons') × (after ≡ after')
  pub read_profile : (profile masks masks' : List ℕ) (level level' : Float) (mode mode' k k' : ℕ) (seeds seeds' : List ℕ) (floor floor' : Float) (a b : Answer)
      → FloReadProfile profile masks level mode k seeds floor a
      → FloReadProfile profile masks' level' mode' k' seeds' floor' b
      → (a ≡ b) × (masks ≡ masks') × (level ≡ level') × (mode ≡ mode') × (k ≡ k') × (seeds ≡ seeds') × (floor ≡ floor')
  pub write_profile : (masks : List ℕ) (level : Float) (mode k : ℕ) (seeds : List ℕ) (floor : Float) (profile profile' : List ℕ) (count count' : ℕ) (a b : Answer)
      → FloWriteProfile masks level mode k seeds floor profile count a
      → FloWriteProfile masks level mode k seeds floor profile' count' b
      → (a ≡ b) × (profile ≡ profile') × (count ≡ count')
  pub parity : (k : ℕ) (before after after' : List ℕ) (n m : ℕ)
      → FloParity k before after n
      → FloParity k before after' m
      → (n ≡ m) × (after ≡ after')
  pub compare : (fa sa fb sb before after after' : List ℕ) (count count' n m : ℕ)
      → FloCompare fa sa fb sb before after count n
      → FloCompare fa sa fb sb before after' count' m
      → (n ≡ m) × (count ≡ count') × (after ≡ after')

-- the profile that some bytes say
abbrev pub said : List ℕ → Profile
said profile = (reading profile).profile

-- reading passes, and all lengths are right
abbrev pub Fitting : List ℕ → ℕ → ℕ → ℕ → Type 0
Fitting profile bytes firsts seconds =
    ((reading profile).number ≡ 0) × (bytes ≡ 122 * (said profile).k)
    × (firsts ≡ 4096 * symbols (said profile).mode) × (seconds ≡ 4096 * symbols (said profile).mode)

-- an answer names a fault of the profile exactly where reading the bytes does, and then it is what reading answers
abbrev pub NamesRead : List ℕ → Answer → Type 0
NamesRead profile a = (T (names_fault a.number) ↔ T (names_fault (reading profile).number)) × (T (names_fault a.number) → a ≡ refusal profile)

-- The cells are those of the rules; a packet is accepted exactly when some packet has the bits; a profile is read and written by the same rules
pub record CallsRight : Type 0 where
  pub cells : (profile d : List ℕ) (f s f' s' : List Float) (a : Answer)
      → FloSend profile d f s f' s' a
      → a.number ≡ 0
      → Cells (said profile) d 0 (symbols (said profile).mode) f' s'
  pub sends : (profile d : List ℕ) (f s f' s' : List Float) (a : Answer)
      → ((i : ℕ) → row profile i < 256)
      → FloSend profile d f s f' s' a
      → (a.number ≡ 0) ↔ Fitting profile (length d) (length f) (length s)
  pub symbol_cells : (profile d : List ℕ) (symbol : ℕ) (f s f' s' : List Float) (a : Answer)
      → FloSendSymbol profile d symbol f s f' s' a
      → a.number ≡ 0
      → Cells (said profile) d symbol 1 f' s'
  pub reads : (profile : List ℕ) (marks : ℕ) (f s : List Float) (before after : List ℕ) (lost : ℕ) (reasons : List ℕ) (a : Answer)
      → ((i : ℕ) → row profile i < 256)
      → FloReceive profile marks f s before after lost reasons a
      → T (has_read a.number) ↔ Fitting profile (length before) (length f) (length s)
  pub nothing_accepted : (profile : List ℕ) (marks : ℕ) (f s : List Float) (before after : List ℕ) (lost : ℕ) (reasons : List ℕ) (a : Answer)
      → FloReceive profile marks f s before after lost reasons a
      → ¬ T (has_read a.number)
      → (lost ≡ 0) × (reasons ≡ replicate 16 0)
  pub accepts : (profile : List ℕ) (marks : ℕ) (f s : List Float) (before after : List ℕ) (lost : ℕ) (reasons : List ℕ) (a : Answer)
      → FloReceive profile marks f s before after lost reasons a
      → T (has_read a.number)
      → (p : ℕ)
      → p < 16
      → marked marks p ≡ 0
      → (row reasons p ≡ 0) ↔ SomePacket (said profile) f s p
  -- 22 exactly where no pieces, fed with these bytes from the new state on, leave the state
  pub feed_22 : (profile : List ℕ) (f s : List Float) (before after : List ℕ) (a : Answer)
      → ((i : ℕ) → row profile i < 256)
      → ((i : ℕ) → row before i < 256)
      → FloFeed profile f s before after a
      → (a.number ≡ 22) ↔ (((reading profile).number ≡ 0) × ¬ LeftBy (FloFeed profile) before)
  pub ask_22 : (profile : List ℕ) (marks : ℕ) (state before after : List ℕ) (lost : ℕ) (reasons : List ℕ) (a : Answer)
      → ((i : ℕ) → row profile i < 256)
      → ((i : ℕ) → row state i < 256)
      → FloAsk profile marks state before after lost reasons a
      → (a.number ≡ 22) ↔ (((reading profile).number ≡ 0) × ¬ LeftBy (FloFeed profile) state)
  -- after pieces that were fed, every piece is taken that has lists of one length and ends within the grid, and no other
  pub takes : (profile : List ℕ) (f s f' s' : List Float) (before after : List ℕ) (a : Answer)
      → ((i : ℕ) → row profile i < 256)
      → (reading profile).number ≡ 0
      → Fed (FloFeed profile) f s before
      → FloFeed profile f' s' before after a
      → (a.number ≡ 0) ↔ ((length f' ≡ length s') × (length f + length f' ≤ 4096 * symbols (said profile).mode))
  -- however a grid was cut into pieces, to ask at the end is to receive it whole
  pub any_cutting : (profile : List ℕ) (marks : ℕ) (f s : List Float) (state before after : List ℕ) (lost : ℕ) (reasons : List ℕ) (a : Answer)
      → Fed (FloFeed profile) f s state
      → length f ≡ 4096 * symbols (said profile).mode
      → FloAsk profile marks state before after lost reasons a
      → FloReceive profile marks f s before after lost reasons a
  pub ask_reads : (profile : List ℕ) (marks : ℕ) (f s : List Float) (state before after : List ℕ) (lost : ℕ) (reasons : List ℕ) (a : Answer)
      → ((i : ℕ) → row profile i < 256)
      → Fed (FloFeed profile) f s state
      → FloAsk profile marks state before after lost reasons a
      → T (has_read a.number)
      ↔ (((reading profile).number ≡ 0) × (length before ≡ 122 * (said profile).k) × (length f ≡ 4096 * symbols (said profile).mode))
  pub ask_nothing : (profile : List ℕ) (marks : ℕ) (state before after : List ℕ) (lost : ℕ) (reasons : List ℕ) (a : Answer)
      → FloAsk profile marks state before after lost reasons a
      → ¬ T (has_read a.number)
      → (lost ≡ 0) × (reasons ≡ replicate 16 0)
  pub ask_accepts : (profile : List ℕ) (marks : ℕ) (f s : List Float) (state before after : List ℕ) (lost : ℕ) (reasons : List ℕ) (a : Answer)
      → Fed (FloFeed profile) f s state
      → FloAsk profile marks state before after lost reasons a
      → T (has_read a.number)
      → (p : ℕ)
      → p < 16
      → marked marks p ≡ 0
      → (row reasons p ≡ 0) ↔ SomePacket (said profile) f s p
  pub read_written : (masks : List ℕ) (level : Float) (mode k : ℕ) (seeds : List ℕ) (floor : Float) (profile : List ℕ) (count : ℕ) (a : Answer)
      → Shape (record { masks = masks; level = level; mode = mode; k = k; seeds = seeds; floor = floor })
      → FloWriteProfile masks level mode k seeds floor profile count a
      → a.number ≡ 0
      → FloReadProfile (take count profile) masks level mode k seeds floor (only 0)
  pub written_read : (profile masks : List ℕ) (level : Float) (mode k : ℕ) (seeds : List ℕ) (floor : Float) (a : Answer)
      → ((i : ℕ) → row profile i < 256)
      → FloReadProfile profile masks level mode k seeds floor a
      → a.number ≡ 0
      → FloWriteProfile masks level mode k seeds floor (profile ++ replicate (largest - length profile) 0) (length profile) (only 0)
  -- bytes whose headers and lengths are right are refused as the value that stands there is
  pub refused_alike : (profile masks : List ℕ) (level : Float) (mode k : ℕ) (seeds : List ℕ) (floor : Float) (bytes : List ℕ) (count : ℕ) (a b : Answer)
      → T (headed fields blank profile)
      → FloReadProfile profile masks level mode k seeds floor a
      → (let P = spelt fields blank profile in FloWriteProfile P.masks P.level P.mode P.k P.seeds P.floor bytes count b)
      → a ≡ b
  -- 40 to 46 are those of reading, with their places
  pub send_names : (profile d : List ℕ) (f s f' s' : List Float) (a : Answer)
      → ((i : ℕ) → row profile i < 256)
      → FloSend profile d f s f' s' a
      → NamesRead profile a
  pub symbol_names : (profile d : List ℕ) (symbol : ℕ) (f s f' s' : List Float) (a : Answer)
      → ((i : ℕ) → row profile i < 256)
      → FloSendSymbol profile d symbol f s f' s' a
      → NamesRead profile a
  pub receive_names : (profile : List ℕ) (marks : ℕ) (f s : List Float) (before after : List ℕ) (lost : ℕ) (reasons : List ℕ) (a : Answer)
      → ((i : ℕ) → row profile i < 256)
      → FloReceive profile marks f s before after lost reasons a
      → NamesRead profile a
  pub feed_names : (profile : List ℕ) (f s : List Float) (before after : List ℕ) (a : Answer)
      → ((i : ℕ) → row profile i < 256)
      → FloFeed profile f s before after a
      → NamesRead profile a
  pub ask_names : (profile : List ℕ) (marks : ℕ) (state before after : List ℕ) (lost : ℕ) (reasons : List ℕ) (a : Answer)
      → ((i : ℕ) → row profile i < 256)
      → FloAsk profile marks state before after lost reasons a
      → NamesRead profile a

-- ---- 3. The lost set exactly; at most r lost come back, more are refused

pub record CallsBring : Type 0 where
  pub sent_and_received : (profile d : List ℕ) (marks : ℕ) (f s : List Float) (before after : List ℕ) (lost : ℕ) (reasons : List ℕ) (a : Answer)
      → ((i : ℕ) → row profile i < 256)
      → Fitting profile (length before) (length f) (length s)
      → length d ≡ 122 * (said profile).k
      → ((i : ℕ) → row d i < 256)
      → ((p : ℕ) → p < 16 → Fair (said profile) marks d f s p)
      → FloReceive profile marks f s before after lost reasons a
      → BringsBack (said profile) marks d f s before after lost a.number
  pub sent_and_asked : (profile d : List ℕ) (marks : ℕ) (f s : List Float) (state before after : List ℕ) (lost : ℕ) (reasons : List ℕ) (a : Answer)
      → length d ≡ 122 * (said profile).k
      → ((i : ℕ) → row d i < 256)
      → ((p : ℕ) → p < 16 → Fair (said profile) marks d f s p)
      → Fed (FloFeed profile) f s state
      → FloAsk profile marks state before after lost reasons a
      → T (has_read a.number)
      → BringsBack (said profile) marks d f s before after lost a.number

-- ---- Req 09. The three sentences of flo_add: the number is in the table, and a refusal leaves the totals as they were; it can't answer in two ways; each
-- total is the sequence's own count, and what our own receiver answers is never refused with 23

pub record CallsAdd : Type 0 where
  pub told : (before : List ℕ) (number lost : ℕ) (reasons after : List ℕ) (n : ℕ)
      → FloAdd before number lost reasons after n
      → T (is_adding_number n) × (¬ (n ≡ 0) → after ≡ before)
  pub one_adding : (before : List ℕ) (number lost : ℕ) (reasons after after' : List ℕ) (n m : ℕ)
      → FloAdd before number lost reasons after n
      → FloAdd before number lost reasons after' m
      → (n ≡ m) × (after ≡ after')
  -- for every sequence of receipts that was added from the start, each total is the sequence's own count
  pub adds_counted : (rs : List Receipt) (t : List ℕ) → Summed FloAdds rs t → (length t ≡ 128) × ((p : ℕ) → p < 16 → OfPosition rs t p)
  -- what flo_receive and flo_ask answer is never refused by flo_add with 23
  pub adds_received : (profile : List ℕ) (marks : ℕ) (f s : List Float) (before after : List ℕ) (lost : ℕ) (reasons : List ℕ) (a : Answer) (t t' : List ℕ) (n : ℕ)
      → FloReceive profile marks f s before after lost reasons a
      → length t ≡ 128
      → FloAdd t a.number lost reasons t' n
      → ¬ (n ≡ 23)
  pub adds_asked : (profile : List ℕ) (marks : ℕ) (state before after : List ℕ) (lost : ℕ) (reasons : List ℕ) (a : Answer) (t t' : List ℕ) (n : ℕ)
      → FloAsk profile marks state before after lost reasons a
      → length t ≡ 128
      → FloAdd t a.number lost reasons t' n
      → ¬ (n ≡ 23)
