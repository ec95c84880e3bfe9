-- Document 01, "Profile", and document 02, Req 04 and Req 07: the fields as a table that reading, writing and finding what is at fault in a value walk; and
-- what is looked for after them, twin scrambling (Req 08).
use Rattle.std.specs.Prelude.{◌≡◌, Result, Ok, Err, Bool, not, ◌&&◌, ◌||◌, List, [], ◌∷◌, ◌++◌, ℕ, zero, suc, ◌+◌, ◌-◌, ◌*◌, ◌/◌, ◌%◌, ◌^◌, ◌<◌, ◌≤◌, T, eqb, leb, ltb, Float, length, take, drop, replicate}
use Rattle.std.specs.Float.{binary32}
use Rattle.std.specs.Float.Ieee.{of_bits, to_bits, add, lt, le, fits}
use Rattle.rules.specs.Bits.{pick, row, first_from}
use Rattle.rules.specs.Outer.{is_k}
use Rattle.rules.specs.Modes.{is_mode, part_bits, slots}
use Rattle.rules.specs.Slots.{symbol_of, slot_number}
use Rattle.rules.specs.Points.{zero_part, triple}
use Rattle.rules.specs.Answers.{Answer, refusal_answer, refusal_number, refusal_place}
use Rattle.rules.specs.declared.Profile.{Profile}
use Rattle.rules.specs.declared.Refusal.{Refusal}
use Rattle.rules.specs.declared.Written.{Written}

-- ---- numbers high byte first

abbrev pub number : List ℕ → ℕ
number [] = 0
number (b ∷ s) = b * 256 ^ length s + number s

-- n numbers of 4 bytes each, and the bytes of such numbers
abbrev pub words : ℕ → List ℕ → List ℕ
words zero s = []
words (suc n) s = number (take 4 s) ∷ words n (drop 4 s)

abbrev pub word_bytes : ℕ → List ℕ
word_bytes x = x / 2 ^ 24 % 256 ∷ x / 2 ^ 16 % 256 ∷ x / 2 ^ 8 % 256 ∷ x % 256 ∷ []

abbrev pub all_bytes : List ℕ → List ℕ
all_bytes [] = []
all_bytes (x ∷ xs) = word_bytes x ++ all_bytes xs

-- ---- ranges

-- masks and seeds: 1 to 2^20 - 1
abbrev pub in20 : ℕ → Bool
in20 x = ltb 0 x && ltb x (2 ^ 20)

-- positive, finite, normal
abbrev pub is_level : Float → Bool
is_level a = le (of_bits binary32 0x0080_0000) a && le a (of_bits binary32 0x7F7F_FFFF)

-- 16QAM's outer level is finite (Req 06)
abbrev pub has_triple : Float → Bool
has_triple a = le (triple a) (of_bits binary32 0x7F7F_FFFF)

-- a level that a mode can send: QPSK any, 16QAM one whose triple is finite
abbrev pub sends : ℕ → Float → Bool
sends m level = eqb (part_bits m) 1 || has_triple level

-- the floor (Req 07): +0.0, or positive and finite; -0.0 is neither
abbrev pub is_floor : Float → Bool
is_floor a = eqb (to_bits binary32 a) 0 || (lt zero_part a && le a (of_bits binary32 0x7F7F_FFFF))

-- a floor under a level: twice the one is at most the other
abbrev pub floor_under : Float → Float → Bool
floor_under level floor = is_floor floor && le (add binary32 floor floor) level

-- one number of a field's value: how many bytes it has, and whether it is in its range
pub record Tested : Type 0 where
  pub size : ℕ
  pub good : Bool

abbrev pub one : ℕ → Bool → List Tested
one size good = record { size = size; good = good } ∷ []

-- several numbers of one size under one test
abbrev pub each : ℕ → (ℕ → Bool) → List ℕ → List Tested
each size f [] = []
each size f (x ∷ xs) = record { size = size; good = f x } ∷ each size f xs

-- ---- answers

-- a number that names no fault of the profile: the place is zero
abbrev pub only : ℕ → Answer
only n = record { number = n; place = 0 }

-- the first of two answers, unless its number is 0
infixr 20 ◌or◌
abbrev pub ◌or◌ : Answer → Answer → Answer
a or b = pick (eqb a.number 0) b a

-- ---- the fields

-- a tag; the number that refuses a value out of its range; the length due after what was read before the field; the profile with the value that stands in some
-- bytes; the numbers of that value in the order of their bytes, each with its size and whether it is in its range; what the value then finds at fault in a field
-- before it; the bytes
pub record Field : Type 0 where
  pub tag : ℕ
  pub refusal : ℕ
  pub due : Profile → ℕ
  pub with : Profile → List ℕ → Profile
  pub tested : Profile → List Tested
  pub also : Profile → Answer
  pub bytes : Profile → List ℕ

-- nothing
abbrev pub no_more : Profile → Answer
no_more p = only 0

-- the mode cannot send the level: refused as the level is, with the level's own place
abbrev pub level_in_mode : Profile → Answer
level_in_mode p = pick (sends p.mode p.level) (only 0) (record { number = 41; place = 38 })

abbrev pub fields : List Field
fields =
    record {
      tag = 1;
      refusal = 40;
      due = λ p. 32;
      with = λ p s. record { masks = words 8 s; level = p.level; mode = p.mode; k = p.k; seeds = p.seeds; floor = p.floor };
      tested = λ p. each 4 in20 p.masks;
      also = no_more;
      bytes = λ p. all_bytes p.masks;
    }
    ∷ record {
      tag = 2;
      refusal = 41;
      due = λ p. 4;
      with = λ p s. record { masks = p.masks; level = of_bits binary32 (number s); mode = p.mode; k = p.k; seeds = p.seeds; floor = p.floor };
      tested = λ p. one 4 (is_level p.level);
      also = no_more;
      bytes = λ p. word_bytes (to_bits binary32 p.level);
    }
    ∷ record {
      tag = 3;
      refusal = 42;
      due = λ p. 1;
      with = λ p s. record { masks = p.masks; level = p.level; mode = number s; k = p.k; seeds = p.seeds; floor = p.floor };
      tested = λ p. one 1 (is_mode p.mode);
      also = level_in_mode;
      bytes = λ p. p.mode ∷ [];
    }
    ∷ record {
      tag = 4;
      refusal = 43;
      due = λ p. 1;
      with = λ p s. record { masks = p.masks; level = p.level; mode = p.mode; k = number s; seeds = p.seeds; floor = p.floor };
      tested = λ p. one 1 (is_k p.k);
      also = no_more;
      bytes = λ p. p.k ∷ [];
    }
    ∷ record {
      tag = 5;
      refusal = 44;
      due = λ p. 4 * slots p.mode;
      with = λ p s.
          record {
            masks = p.masks;
            level = p.level;
            mode = p.mode;
            k = p.k;
            seeds = words (slots p.mode) s ++ replicate (48 - slots p.mode) 0;
            floor = p.floor;
          };
      -- as many as there are slots; an unused one is zero
      tested = λ p. each 4 in20 (take (slots p.mode) p.seeds) ++ each 4 (eqb 0) (drop (slots p.mode) p.seeds);
      also = no_more;
      bytes = λ p. all_bytes (take (slots p.mode) p.seeds);
    }
    ∷ record {
      tag = 6;
      refusal = 45;
      due = λ p. 4;
      with = λ p s.
          record { masks = p.masks; level = p.level; mode = p.mode; k = p.k; seeds = p.seeds; floor = of_bits binary32 (number s) };
      tested = λ p. one 4 (floor_under p.level p.floor);
      also = no_more;
      bytes = λ p. word_bytes (to_bits binary32 p.floor);
    }
    ∷ []

-- all numbers zero, D and the floor +0.0
abbrev pub blank : Profile
blank = record { masks = replicate 8 0; level = zero_part; mode = 0; k = 0; seeds = replicate 48 0; floor = zero_part }

-- ---- a profile passed as a value

-- what every value of the declared type has, by its type: eight masks, an f32, 48 seeds, an f32
pub record Shape (P : Profile) : Type 0 where
  pub masks : length P.masks ≡ 8
  pub level : T (fits binary32 P.level)
  pub seeds : length P.seeds ≡ 48
  pub floor : T (fits binary32 P.floor)

-- a value all of whose numbers stand in its bytes: masks and seeds fit their four bytes, as an u32 does, and no unused seed is left out
pub record Whole (P : Profile) : Type 0 where
  pub masks : (i : ℕ) → row P.masks i < 2 ^ 32
  pub seeds : (i : ℕ) → row P.seeds i < 2 ^ 32
  pub unused : (i : ℕ) → slots P.mode ≤ i → row P.seeds i ≡ 0

-- ---- what is at fault

-- the first number that is out of its range, among those that begin at a byte: the answer n with the byte where it begins; 0 where there is none
abbrev pub faulty : ℕ → ℕ → List Tested → Answer
faulty n at [] = only 0
faulty n at (x ∷ xs) = pick x.good (faulty n (at + x.size) xs) (record { number = n; place = at })

-- what a field finds at fault in a profile, where the field's header begins at a byte and its value three bytes after
abbrev pub fault_of : Field → ℕ → Profile → Answer
fault_of f at p = faulty f.refusal (at + 3) (f.tested p) or f.also p

-- tested in tag order, the places counted as if the profile had been written out
abbrev pub fault_from : List Field → ℕ → Profile → Answer
fault_from [] at p = only 0
fault_from (f ∷ fs) at p = fault_of f at p or fault_from fs (at + 3 + f.due p) p

-- every number is in its range
unfoldable pub in_range : Profile → Bool
in_range p = eqb (fault_from fields 0 p).number 0

-- ---- twin scrambling (Req 08)

-- block slots u and t have the same seed and the same mask, each the mask of its slot number
abbrev pub alike : List ℕ → List ℕ → ℕ → ℕ → Bool
alike masks seeds u t = eqb (row seeds u) (row seeds t) && eqb (row masks (slot_number u)) (row masks (slot_number t))

-- twins: such slots of one symbol
abbrev pub are_twins : List ℕ → List ℕ → ℕ → ℕ → Bool
are_twins masks seeds u t = eqb (symbol_of u) (symbol_of t) && alike masks seeds u t

-- the first block slot that is t's twin; t itself where no earlier one is
abbrev pub earliest : List ℕ → List ℕ → ℕ → ℕ
earliest masks seeds t = first_from t 0 (λ u. are_twins masks seeds u t)

-- slot t repeats an earlier one of its symbol
abbrev pub repeats : List ℕ → List ℕ → ℕ → Bool
repeats masks seeds t = ltb (earliest masks seeds t) t

-- the first of n block slots that does; n where none does
unfoldable pub first_repeat : ℕ → List ℕ → List ℕ → ℕ
first_repeat n masks seeds = first_from n 0 (repeats masks seeds)

-- 46 with that slot; 0 where there is none
abbrev pub twin_fault : Profile → Answer
twin_fault p =
    let n = slots p.mode in
    let t = first_repeat n p.masks p.seeds in
    pick (ltb t n) (record { number = 46; place = t }) (only 0)

-- after all ranges
unfoldable pub fault : Profile → Answer
fault p = fault_from fields 0 p or twin_fault p

-- nothing is at fault
unfoldable pub faultless : Profile → Bool
faultless p = eqb (fault p).number 0

-- ---- reading

-- what reading answers: at every number but 0 the profile has all numbers zero, D and the floor +0.0. The place is an answer's.
pub record Reading : Type 0 where
  pub number : ℕ
  pub place : ℕ
  pub profile : Profile

abbrev pub refused : Answer → Reading
refused a = record { number = a.number; place = a.place; profile = blank }

abbrev pub reading_of : Result Profile Refusal → Reading
reading_of (Ok p) = record { number = 0; place = 0; profile = p }
reading_of (Err e) = refused (refusal_answer e)

-- a reading, unless the answer has a number that refuses it
abbrev pub unless : Answer → Reading → Reading
unless a r = pick (eqb a.number 0) r (refused a)

-- After the last field fewer than three bytes give 1, else 2. Per field, whose header begins at byte `at`: nothing left (5), header cut (1), tag (2),
-- length (3), value cut (1), what is at fault in the value
unfoldable pub walk : List Field → ℕ → Profile → List ℕ → Reading
walk [] at p s = pick (eqb (length s) 0) (record { number = 0; place = 0; profile = p }) (refused (only (pick (ltb (length s) 3) 1 2)))
walk (f ∷ fs) at p s =
    pick (eqb (length s) 0) (refused (only 5))
    (pick (ltb (length s) 3) (refused (only 1))
    (pick (not (eqb (row s 0) f.tag)) (refused (only 2))
    (pick (not (eqb (row s 1 * 256 + row s 2) (f.due p))) (refused (only 3))
    (pick (ltb (length s) (3 + f.due p)) (refused (only 1))
    (let q = f.with p (take (f.due p) (drop 3 s)) in
    pick (eqb (fault_of f at q).number 0) (walk fs (at + 3 + f.due p) q (drop (3 + f.due p) s)) (refused (fault_of f at q)))))))

-- after the last field and what stands behind it, twins
abbrev pub untwinned : Reading → Reading
untwinned r = pick (eqb r.number 0) (unless (twin_fault r.profile) r) r

abbrev pub reading : List ℕ → Reading
reading s = untwinned (walk fields 0 blank s)

-- headers and lengths are right: field after field its tag, its length and so many bytes, and nothing after the last
abbrev pub headed : List Field → Profile → List ℕ → Bool
headed [] p s = eqb (length s) 0
headed (f ∷ fs) p s =
    leb (3 + f.due p) (length s)
    && (eqb (row s 0) f.tag
    && (eqb (row s 1 * 256 + row s 2) (f.due p) && headed fs (f.with p (take (f.due p) (drop 3 s))) (drop (3 + f.due p) s)))

-- the value that then stands there, in its range or not
abbrev pub spelt : List Field → Profile → List ℕ → Profile
spelt [] p s = p
spelt (f ∷ fs) p s = spelt fs (f.with p (take (f.due p) (drop 3 s))) (drop (3 + f.due p) s)

-- the reading of a value: refused with what is at fault in it, else the value
abbrev pub read_as : Profile → Reading
read_as p = unless (fault p) (record { number = 0; place = 0; profile = p })

-- ---- writing

abbrev pub field_bytes : List Field → Profile → List ℕ
field_bytes [] p = []
field_bytes (f ∷ fs) p = f.tag ∷ f.due p / 256 ∷ f.due p % 256 ∷ f.bytes p ++ field_bytes fs p

unfoldable pub written : Profile → List ℕ
written p = field_bytes fields p

abbrev pub largest : ℕ
largest = 252

-- what writing answers: zeros after the written bytes, and their count. The place is an answer's.
pub record Writing : Type 0 where
  pub number : ℕ
  pub place : ℕ
  pub bytes : List ℕ
  pub count : ℕ

abbrev pub writing_of : Result Written Refusal → Writing
writing_of (Ok w) = record { number = 0; place = 0; bytes = w.bytes; count = w.count }
writing_of (Err e) = record { number = refusal_number e; place = refusal_place e; bytes = replicate largest 0; count = 0 }

abbrev pub writing : Profile → Writing
writing p =
    pick (faultless p)
    (record { number = 0; place = 0; bytes = written p ++ replicate (largest - length (written p)) 0; count = length (written p) })
    (record { number = (fault p).number; place = (fault p).place; bytes = replicate largest 0; count = 0 })
