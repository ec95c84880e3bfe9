-- Document 01, "What the desk says back": the numbers, with those that document 02 adds, and what each case of an answer that is an enum stands for.
use Rattle.std.specs.Prelude.{Bool, ◌||◌, ◌&&◌, List, ℕ, ⊤, Result, Ok, Err, eqb, leb, replicate}
use Rattle.rules.specs.declared.Refusal.{Refusal}
use Rattle.rules.specs.declared.Refusal.TheVariants.{EndsInField, WrongTag, WrongLength, EndsBetweenFields, WrongData, WrongCells, OutsideGrid, TooManyLost, NoCodeword, PastEnd, Unfinished, UnequalGrids, FullTotal, NoSuchState, Disagreement, Mask, Level, Mode, K, Seed, Floor, Twins}
use Rattle.rules.specs.declared.OuterError as outer
use Rattle.rules.specs.declared.CodingError as coding
use Rattle.rules.specs.declared.Reason as reason

-- What a call answers: a number of the table, and the place. At 40 to 45, which name a field of the profile, that is the byte where the field's
-- first faulty number begins; at 46 the block slot that repeats an earlier one; at every other number it is zero.
pub record Answer : Type 0 where
  pub number : ℕ
  pub place : ℕ

-- the numbers that name the field whose value is out of its range: 40 mask, 41 level, 42 mode, 43 K, 44 seed (Req 04), 45 floor (Req 07)
abbrev pub names_field : ℕ → Bool
names_field n = leb 40 n && leb n 45

-- the numbers that say what is at fault in a profile, with a place: these, with the byte where the faulty number begins, and 46 twin scrambling, with the
-- block slot that repeats an earlier one (Req 08)
abbrev pub names_fault : ℕ → Bool
names_fault n = names_field n || eqb n 46

-- 0 done, 1 to 3 and 5 to 10 the refusals; and those of document 02: 16 too many cells, 17 the last cell not yet seen, 18 the four lists not all of one
-- length, 22 no such state, 40 to 45, which stand where 4 stood, and 46, which comes after them
abbrev pub is_number : ℕ → Bool
is_number n = leb n 3 || leb 5 n && leb n 10 || leb 16 n && leb n 18 || eqb n 22 || names_fault n

-- the same table with the two numbers of Req 09: 19 a total would pass 2^64 - 1, 23 mask and reasons disagree
abbrev pub is_adding_number : ℕ → Bool
is_adding_number n = is_number n || eqb n 19 || eqb n 23

-- a number of the table, and a place only where it names a fault of the profile
abbrev pub is_answer : ℕ → ℕ → Bool
is_answer n place = is_number n && (names_fault n || eqb place 0)

-- the numbers at which receiving has read the cells: mask and reasons are given, and something may count as accepted
abbrev pub has_read : ℕ → Bool
has_read n = eqb n 0 || eqb n 9 || eqb n 10

-- 0 accepted, 11 marked, 12 doubtful, 13 check word, 14 reserved bits, 15 coded bits differ
abbrev pub is_reason : ℕ → Bool
is_reason n = eqb n 0 || leb 11 n && leb n 15

-- ---- what each case of an answer that is an enum stands for

abbrev pub refusal_number : Refusal → ℕ
refusal_number EndsInField = 1
refusal_number WrongTag = 2
refusal_number WrongLength = 3
refusal_number EndsBetweenFields = 5
refusal_number WrongData = 6
refusal_number WrongCells = 7
refusal_number OutsideGrid = 8
refusal_number TooManyLost = 9
refusal_number NoCodeword = 10
refusal_number PastEnd = 16
refusal_number Unfinished = 17
refusal_number UnequalGrids = 18
refusal_number FullTotal = 19
refusal_number NoSuchState = 22
refusal_number Disagreement = 23
refusal_number (Mask at) = 40
refusal_number (Level at) = 41
refusal_number (Mode at) = 42
refusal_number (K at) = 43
refusal_number (Seed at) = 44
refusal_number (Floor at) = 45
refusal_number (Twins slot) = 46

abbrev pub refusal_place : Refusal → ℕ
refusal_place EndsInField = 0
refusal_place WrongTag = 0
refusal_place WrongLength = 0
refusal_place EndsBetweenFields = 0
refusal_place WrongData = 0
refusal_place WrongCells = 0
refusal_place OutsideGrid = 0
refusal_place TooManyLost = 0
refusal_place NoCodeword = 0
refusal_place PastEnd = 0
refusal_place Unfinished = 0
refusal_place UnequalGrids = 0
refusal_place FullTotal = 0
refusal_place NoSuchState = 0
refusal_place Disagreement = 0
refusal_place (Mask at) = at
refusal_place (Level at) = at
refusal_place (Mode at) = at
refusal_place (K at) = at
refusal_place (Seed at) = at
refusal_place (Floor at) = at
refusal_place (Twins slot) = slot

-- a refusal's answer, and that of a call which may refuse: 0 where it is done
abbrev pub refusal_answer : Refusal → Answer
refusal_answer e = record { number = refusal_number e; place = refusal_place e }

abbrev pub answer_of : {A : Type 0} → Result A Refusal → Answer
answer_of (Ok x) = record { number = 0; place = 0 }
answer_of (Err e) = refusal_answer e

abbrev pub outer_number : outer.OuterError → ℕ
outer_number outer.TheVariants.BadK = 43
outer_number outer.TheVariants.BadLength = 6
outer_number outer.TheVariants.TooManyLost = 9
outer_number outer.TheVariants.NoCodeword = 10

abbrev pub outcome_number : Result ⊤ outer.OuterError → ℕ
outcome_number (Ok x) = 0
outcome_number (Err e) = outer_number e

abbrev pub coding_error_number : coding.CodingError → ℕ
coding_error_number coding.TheVariants.WrongMode = 42
coding_error_number coding.TheVariants.WrongLength = 6

abbrev pub coding_number : Result ⊤ coding.CodingError → ℕ
coding_number (Ok x) = 0
coding_number (Err e) = coding_error_number e

abbrev pub reason_number : reason.Reason → ℕ
reason_number reason.TheVariants.Marked = 11
reason_number reason.TheVariants.Doubtful = 12
reason_number reason.TheVariants.CheckWord = 13
reason_number reason.TheVariants.Reserved = 14
reason_number reason.TheVariants.Coded = 15

-- The judgement on one packet's decided bits: the reason, 0 where it is accepted, and the bytes that its bits then decide to, else zeros.
pub record Judgement : Type 0 where
  pub reason : ℕ
  pub bytes : List ℕ

abbrev pub judgement_of : Result (List ℕ) reason.Reason → Judgement
judgement_of (Ok bytes) = record { reason = 0; bytes = bytes }
judgement_of (Err l) = record { reason = reason_number l; bytes = replicate 122 0 }
