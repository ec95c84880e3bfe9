-- Document 02, Req 02: a grid whose cells arrive in pieces. Between the calls a state is kept: how many cells have come, and what each of them decides to.
use Rattle.std.specs.Prelude.{◌≡◌, Bool, not, ◌&&◌, List, [], ◌++◌, ℕ, ◌+◌, ◌-◌, ◌*◌, ◌/◌, ◌%◌, ◌^◌, ◌<◌, eqb, leb, ltb, Float, length, get_or, replicate}
use Rattle.rules.specs.Bits.{pick, row, every_below}
use Rattle.rules.specs.Modes.{part_bits, symbols}
use Rattle.rules.specs.Points.{zero_part, decide, bit_in}
use Rattle.rules.specs.Cells.{grid_cell}
use Rattle.rules.specs.Profile.{only, ◌or◌, fault}
use Rattle.rules.specs.Block.{understood, in_block, Answered}
use Rattle.rules.specs.Answers.{Answer}
use Rattle.rules.specs.declared.Profile.{Profile}
use Rattle.rules.specs.declared.Receipt.{Receipt}

-- ---- the state

-- two bytes, then one for each cell of the largest grid
abbrev pub state_bytes : ℕ
state_bytes = 28674

-- before the first piece
unfoldable pub new_state : List ℕ
new_state = replicate state_bytes 0

-- how many cells have come, high byte first
abbrev pub seen : List ℕ → ℕ
seen state = 256 * row state 0 + row state 1

-- the byte of cell c of the grid
abbrev pub cell_in : List ℕ → ℕ → ℕ
cell_in state c = row state (2 + c)

-- how many decisions a part of w bits has, the doubtful one too: 3 or 5
abbrev pub choices : ℕ → ℕ
choices w = 2 ^ w + 1

-- what it is once the cell has come: the first part's decision, and 3 or 5 times the second's
abbrev pub cell_byte : ℕ → Float → Float → Float → Float → ℕ
cell_byte w level floor first second = decide w level floor first + choices w * decide w level floor second

-- the byte of cell c of two lists
abbrev pub byte_at : Profile → List Float → List Float → ℕ → ℕ
byte_at P firsts seconds c = cell_byte (part_bits P.mode) P.level P.floor (get_or firsts c zero_part) (get_or seconds c zero_part)

-- each of the two decisions is one of these; so a part's bits are doubtful together
abbrev pub is_cell_byte : ℕ → ℕ → Bool
is_cell_byte w b = ltb b (choices w * choices w)

-- the decision for part n of a slot in the byte of its cell: an even one is the first of its point
abbrev pub decision_in : ℕ → ℕ → ℕ → ℕ
decision_in w b n = pick (eqb (n % 2) 0) (b % choices w) (b / choices w)

-- a state that pieces of a grid of mode m leave: the cells that have come have such bytes, and all others zero
unfoldable pub is_state : ℕ → List ℕ → Bool
is_state m state =
    eqb (length state) state_bytes
    && (leb (seen state) (4096 * symbols m)
    && every_below (length state - 2) (λ c. pick (ltb c (seen state)) (is_cell_byte (part_bits m) (cell_in state c)) (eqb (cell_in state c) 0)))

-- bit i of block slot t, still scrambled, from the bytes of the grid's cells, in mode m
unfoldable pub kept_bit : ℕ → (ℕ → ℕ) → ℕ → ℕ → ℕ
kept_bit m cells t i = let w = part_bits m in bit_in w (decision_in w (cells (grid_cell t (i / w / 2))) (i / w)) (i % w)

-- ---- feeding

-- 22, 7, 16, the first that fits; else 0
abbrev pub feeding_number : ℕ → List ℕ → ℕ → ℕ → ℕ
feeding_number m state firsts seconds =
    pick (not (is_state m state)) 22
    (pick (not (eqb firsts seconds)) 7 (pick (ltb (4096 * symbols m) (seen state + firsts)) 16 0))

-- what is at fault in the profile, 22, 7, 16, the first that fits; else 0
abbrev pub feeding : Profile → List ℕ → ℕ → ℕ → Answer
feeding P state firsts seconds = fault P or only (feeding_number P.mode state firsts seconds)

-- the byte of cell c once a piece has come after n cells: the piece's own, and else what it was
abbrev pub fed_cell : Profile → ℕ → List Float → List Float → (ℕ → ℕ) → ℕ → ℕ
fed_cell P n f s before c = pick (leb n c && ltb c (n + length f)) (byte_at P f s (c - n)) (before c)

-- a state once a piece has been put in
pub record Put (P : Profile) (f s : List Float) (before after : List ℕ) : Type 0 where
  pub high : row after 0 ≡ (seen before + length f) / 256
  pub low : row after 1 ≡ (seen before + length f) % 256
  pub cells : (c : ℕ) → 2 + c < state_bytes → cell_in after c ≡ fed_cell P (seen before) f s (cell_in before) c

-- what feeding a piece answers, and what the state then is
pub record FeedRule (P : Profile) (f s : List Float) (before after : List ℕ) (a : Answer) : Type 0 where
  pub answer : a ≡ feeding P before (length f) (length s)
  pub long : length after ≡ length before
  pub taken : a.number ≡ 0 → Put P f s before after
  pub kept : ¬ (a.number ≡ 0) → after ≡ before

-- Pieces fed one after the other from the new state on, none refused: all their cells, and the state that they leave. Feed says what feeding a
-- piece answers.
pub data Fed (Feed : List Float → List Float → List ℕ → List ℕ → Answer → Type 0) : List Float → List Float → List ℕ → Type 0 where
  new : Fed Feed [] [] new_state
  piece : (f s f' s' : List Float) (before after : List ℕ)
      → Fed Feed f s before
      → Feed f' s' before after (only 0)
      → Fed Feed (f ++ f') (s ++ s') after

-- some pieces leave the state
abbrev pub LeftBy : (List Float → List Float → List ℕ → List ℕ → Answer → Type 0) → List ℕ → Type 0
LeftBy Feed state = (f : List Float) × (s : List Float) × Fed Feed f s state

-- ---- asking

-- 22, 6, 17, the first that fits; else 0
abbrev pub asking_number : ℕ → ℕ → List ℕ → ℕ → ℕ
asking_number m k state bytes =
    pick (not (is_state m state)) 22
    (pick (not (eqb bytes (122 * k))) 6 (pick (ltb (seen state) (4096 * symbols m)) 17 0))

-- what is at fault in the profile, 22, 6, 17, the first that fits; else 0
abbrev pub asking : Profile → List ℕ → ℕ → Answer
asking P state bytes = fault P or only (asking_number P.mode P.k state bytes)

-- then the judgement of the bits that were kept
abbrev pub AskRule : Profile → ℕ → List ℕ → List ℕ → List ℕ → Receipt → Type 0
AskRule P marks state before after a =
    Answered P marks (asking P state (length before)) (understood P (in_block P.mode (kept_bit P.mode (cell_in state)))) before after a
