-- What document 01's turbo interleaver (Interleaver.antt) and Req 01's order of a slot's points (Cells.antt) share: a counter's bits are reversed,
-- and of the results in the counter's order those below a length are kept.
use Rattle.std.specs.Prelude.{Bool, true, false, ℕ, zero, suc, ◌+◌, ◌/◌, ◌%◌, ◌^◌, ltb}
use Rattle.rules.specs.Bits.{pick, as_number}

-- w bits reversed: the lowest comes first
abbrev pub reversed : ℕ → ℕ → ℕ
reversed w i = as_number w (λ j. i / 2 ^ j % 2)

-- the first counter from m on whose result is below the length, looking at no more than `turns` of them
unfoldable pub next_kept : (ℕ → ℕ) → ℕ → ℕ → ℕ → ℕ
next_kept f len zero m = m
next_kept f len (suc turns) m = elim (ltb (f m) len) [ true ↦ m | false ↦ next_kept f len turns (suc m) ]

-- the counter of the i-th result that is kept, from 0, each looked for among the next N counters
unfoldable pub counter : (ℕ → ℕ) → ℕ → ℕ → ℕ → ℕ
counter f N len zero = next_kept f len N 0
counter f N len (suc i) = next_kept f len N (suc (counter f N len i))

-- the i-th result that is kept
abbrev pub kept : (ℕ → ℕ) → ℕ → ℕ → ℕ → ℕ
kept f N len i = f (counter f N len i)

-- how many numbers below m pass a test
unfoldable pub count : (ℕ → Bool) → ℕ → ℕ
count p zero = 0
count p (suc m) = count p m + pick (p m) 1 0
