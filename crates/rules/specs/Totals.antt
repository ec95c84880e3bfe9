-- Document 02, Req 09: a month in whole numbers. Totals over any number of blocks are 128 numbers, eight for each packet position.
use Rattle.std.specs.Prelude.{◌≡◌, Result, Ok, Err, Bool, false, not, ◌||◌, ◌&&◌, List, [], ◌∷◌, ℕ, ◌+◌, ◌/◌, ◌%◌, ◌^◌, eqb, ltb, length, get_or, replicate}
use Rattle.rules.specs.Bits.{pick, row, every_below, first_of}
use Rattle.rules.specs.Answers.{is_reason, has_read}
use Rattle.rules.specs.Block.{lost_mask}
use Rattle.rules.specs.declared.Receipt.{Receipt}
use Rattle.rules.specs.declared.Refusal.{Refusal}
use Rattle.rules.specs.declared.Totals as declared

-- ---- what is counted

-- a receipt is a received block: with any other number than 0, 9 and 10 it is no block
abbrev pub is_block : Receipt → Bool
is_block a = has_read a.number

-- packet p is lost: its reason isn't 0
abbrev pub is_lost : ℕ → Receipt → Bool
is_lost p a = not (eqb (row a.reasons p) 0)

abbrev pub is_accepted : ℕ → Receipt → Bool
is_accepted p a = is_block a && not (is_lost p a)

-- restored by the outer code: lost, in a block that ended in 0
abbrev pub is_restored : ℕ → Receipt → Bool
is_restored p a = is_lost p a && eqb a.number 0

-- undelivered: lost, in a block that ended in 9 or 10
abbrev pub is_undelivered : ℕ → Receipt → Bool
is_undelivered p a = is_lost p a && (eqb a.number 9 || eqb a.number 10)

-- reason n came
abbrev pub has_reason : ℕ → ℕ → Receipt → Bool
has_reason n p a = is_block a && eqb (row a.reasons p) n

-- the eight totals of position p, in their order
abbrev pub kinds : ℕ → List (Receipt → Bool)
kinds p =
    is_accepted p ∷ is_restored p ∷ is_undelivered p ∷ has_reason 11 p ∷ has_reason 12 p ∷ has_reason 13 p ∷ has_reason 14 p ∷ has_reason 15 p ∷ []

-- what total i counts: position p's are those from 8p on
unfoldable pub counts : ℕ → Receipt → Bool
counts i = get_or (kinds (i / 8)) (i % 8) (λ a. false)

-- ---- the count over a sequence of receipts

-- in how many receipts of a sequence something is so
abbrev pub how_often : (Receipt → Bool) → List Receipt → ℕ
how_often test [] = 0
how_often test (a ∷ rs) = pick (test a) 1 0 + how_often test rs

-- the totals of a sequence
abbrev pub totals_of : List Receipt → List ℕ
totals_of rs = first_of 128 (λ i. how_often (counts i) rs)

-- ---- adding a receipt to totals

-- all zero at the start
abbrev pub no_totals : List ℕ
no_totals = replicate 128 0

-- the mask has bit p set exactly where reason p isn't 0, and each reason is 0 or one of 11 to 15
abbrev pub agrees : Receipt → Bool
agrees a = eqb a.lost (lost_mask 16 (row a.reasons)) && every_below 16 (λ p. is_reason (row a.reasons p))

-- the totals with a receipt more
unfoldable pub plus : List ℕ → Receipt → List ℕ
plus t a = first_of (length t) (λ i. row t i + pick (counts i a) 1 0)

-- none of them passes 2^64 - 1
unfoldable pub fits : List ℕ → Bool
fits t = every_below 128 (λ i. ltb (row t i) (2 ^ 64))

-- No block, 0, whatever else there is; 23 where mask and reasons disagree, a reason is unknown, or what is lent isn't 128 totals; 19 where a total would
-- pass 2^64 - 1; else 0
unfoldable pub adding_number : List ℕ → Receipt → ℕ
adding_number t a =
    pick (not (is_block a)) 0
    (pick (not (eqb (length t) 128 && agrees a)) 23
    (pick (not (fits (plus t a))) 19 0))

-- what adding a receipt answers, and what the totals then are. (Of no block nothing counts, so that these are then what they were.)
pub record AddRule (before : List ℕ) (a : Receipt) (after : List ℕ) (n : ℕ) : Type 0 where
  pub number : n ≡ adding_number before a
  pub added : n ≡ 0 → after ≡ plus before a
  pub kept : ¬ (n ≡ 0) → after ≡ before

-- the totals that a call leaves which takes them as a value: those that it gives back, or on a refusal those that it got
abbrev pub totals_after : List ℕ → Result declared.Totals Refusal → List ℕ
totals_after before (Ok t) = t.counts
totals_after before (Err e) = before

-- ---- adding receipts one after the other

-- The totals t after receipts were added one by one, from the start on, where `Add` says what adding answers. rs are those that were taken, the last one
-- first; one that was refused is none of them.
pub data Summed (Add : List ℕ → Receipt → List ℕ → ℕ → Type 0) : List Receipt → List ℕ → Type 0 where
  start : Summed Add [] no_totals
  taken : (rs : List Receipt) (a : Receipt) (before after : List ℕ)
      → Summed Add rs before
      → Add before a after 0
      → Summed Add (a ∷ rs) after
  refused : (rs : List Receipt) (a : Receipt) (before after : List ℕ) (n : ℕ)
      → Summed Add rs before
      → ¬ (n ≡ 0)
      → Add before a after n
      → Summed Add rs after

-- the same receipts in another order
pub data Reordered : List Receipt → List Receipt → Type 0 where
  none : Reordered [] []
  first : (a : Receipt) (rs ss : List Receipt) → Reordered rs ss → Reordered (a ∷ rs) (a ∷ ss)
  exchanged : (a b : Receipt) (rs : List Receipt) → Reordered (a ∷ b ∷ rs) (b ∷ a ∷ rs)
  again : (rs ss us : List Receipt) → Reordered rs ss → Reordered ss us → Reordered rs us
