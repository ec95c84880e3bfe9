-- Feeding and asking: what a state is, and what their numbers tell.
use mathlib.Core.Path.{◌≡◌, refl, sym, ◌∙◌, ap, subst}
use mathlib.Core.Bool.{Bool, true, false, not, ◌&&◌}
use mathlib.Core.List.{List}
use mathlib.Core.Logic.{◌↔◌, ◌⊎◌, inl, inr}
use Prim.Native.Nat.{ℕ, ◌+◌, ◌-◌, ◌*◌, ◌<◌, ◌≤◌}
use native.Mathlib.Decide.{dec_lt}
use native.Mathlib.Omega.{arith}
use lib.Dec.{T, eqb, leb, ltb, eqb→eq, leb→le, le→leb, ltb→lt, lt→ltb, lit<}
use lib.Ieee.Fits.{and_i, and_l, and_r, eq→eqb}
use lib.ListN.{length, get_or-eq_default}
use borrow.Author.Tests.{ltb-false, lt-ltb, le-ltb}
use Rattle.rules.specs.Bits.{pick, row, every_below}
use Rattle.rules.specs.Modes.{part_bits, symbols}
use Rattle.rules.specs.Profile.{only, ◌or◌, fault, faultless}
use Rattle.rules.specs.Answers.{is_number, names_fault, has_read}
use Rattle.rules.specs.Pieces.{seen, cell_in, choices, is_cell_byte, is_state, state_bytes, feeding_number, feeding, asking_number, asking}
use Rattle.rules.specs.declared.Profile.{Profile}
use Rattle.laws.specs.Every.{every-at, every_of}
use Rattle.laws.specs.Parts.{part, part-long, part_at}
use Rattle.modes.proofs.Figures.{figures}
use Rattle.profile.proofs.AtFault.{or-number, or-unread}
use Rattle.receiving.specs.Steps.{Largest}

-- feeding and asking both: 22, x, y, the first that fits, else 0
module _ (x y : ℕ) where
  abbrev first : Bool → Bool → Bool → ℕ
  first b c d = pick (not b) 22 (pick (not c) x (pick d y 0))

  first-0 : 0 < x → 0 < y → (b c d : Bool) → (first b c d ≡ 0) ↔ (T b × T c × (d ≡ false))
  first-0 hx hy true true false = ((λ e. (tt, tt, refl)), λ q. refl)
  first-0 hx hy true true true = ((λ e. absurd (omega arith)), λ q. absurd (subst T q.2 tt))
  first-0 hx hy true false d = ((λ e. absurd (omega arith)), λ q. absurd q.1)
  first-0 hx hy false c d = ((λ e. absurd (omega arith)), λ q. absurd q.0)

  first-22 : x < 22 → y < 22 → (b c d : Bool) → (first b c d ≡ 22) ↔ ¬ T b
  first-22 hx hy false c d = ((λ e t. t), λ q. refl)
  first-22 hx hy true true false = ((λ e. absurd (omega arith)), λ q. absurd (q tt))
  first-22 hx hy true true true = ((λ e. absurd (omega arith)), λ q. absurd (q tt))
  first-22 hx hy true false d = ((λ e. absurd (omega arith)), λ q. absurd (q tt))

  -- what holds of each of the four numbers
  first-each : (A : ℕ → Type 0) → A 22 → A x → A y → A 0 → (b c d : Bool) → A (first b c d)
  first-each A q r s z true true false = z
  first-each A q r s z true true true = s
  first-each A q r s z true false d = r
  first-each A q r s z false c d = q

-- the largest grid has room in the state
pub grid-fits : (m : ℕ) → 4096 * symbols m ≤ 28672
grid-fits m = omega (arith, (figures m).slots_most)

-- how many bytes a cell can have
abbrev pub bytes_of : ℕ → ℕ
bytes_of m = choices (part_bits m) * choices (part_bits m)

bytes-some : (m : ℕ) → 0 < bytes_of m
bytes-some m = go (part_bits m) (figures m).part
  where
    go : (w : ℕ) → (w ≡ 1) ⊎ (w ≡ 2) → 0 < choices w * choices w
    go w (inl e) = rw e (lit< tt)
    go w (inr e) = rw e (lit< tt)

-- ---- what a state is

-- what the test of a state tells, and what passes it
pub record IsState (m : ℕ) (state : List ℕ) : Type 0 where
  pub long : length state ≡ 28674
  pub within : seen state ≤ 4096 * symbols m
  pub come : (c : ℕ) → c < seen state → cell_in state c < bytes_of m
  pub rest : (c : ℕ) → seen state ≤ c → 2 + c < 28674 → cell_in state c ≡ 0

module _ (m : ℕ) (state : List ℕ) where
  abbrev cells : ℕ
  cells = 4096 * symbols m

  -- what is tested of the byte of cell c, once it is known whether the cell has come
  abbrev byte_test : Bool → ℕ → Bool
  byte_test b c = pick b (is_cell_byte (part_bits m) (cell_in state c)) (eqb (cell_in state c) 0)

  abbrev cell_test : ℕ → Bool
  cell_test c = byte_test (ltb c (seen state)) c

  state-tells : T (is_state m state) → IsState m state
  unfolding is_state
  state-tells t = record { long = long; within = within; come = come; rest = rest }
    where
      long : length state ≡ 28674
      long = eqb→eq _ _ (and_l (eqb (length state) state_bytes) (leb (seen state) cells && every_below (length state - 2) cell_test) t)

      more : T (leb (seen state) cells && every_below (length state - 2) cell_test)
      more = and_r (eqb (length state) state_bytes) (leb (seen state) cells && every_below (length state - 2) cell_test) t

      within : seen state ≤ cells
      within = leb→le _ _ (and_l (leb (seen state) cells) (every_below (length state - 2) cell_test) more)

      at : (c : ℕ) → 2 + c < 28674 → T (cell_test c)
      at c h = every-at (length state - 2) cell_test (and_r (leb (seen state) cells) (every_below (length state - 2) cell_test) more) c (omega (arith, long))

      come : (c : ℕ) → c < seen state → cell_in state c < bytes_of m
      come c h = go (dec_lt (2 + c) 28674)
        where
          go : Dec (2 + c < 28674) → cell_in state c < bytes_of m
          go (yes l) = ltb→lt _ _ (subst (λ (b : Bool). T (byte_test b c)) (lt-ltb c (seen state) h) (at c l))
          go (no l) = rw (get_or-eq_default state 0 {n = 2 + c} (omega (arith, long))) (bytes-some m)

      rest : (c : ℕ) → seen state ≤ c → 2 + c < 28674 → cell_in state c ≡ 0
      rest c h l = eqb→eq _ _ (subst (λ (b : Bool). T (byte_test b c)) (le-ltb c (seen state) h) (at c l))

  state-made : IsState m state → T (is_state m state)
  unfolding is_state
  state-made w =
      and_i (eqb (length state) state_bytes) (leb (seen state) cells && every_below (length state - 2) cell_test) (eq→eqb w.long)
      (and_i (leb (seen state) cells) (every_below (length state - 2) cell_test) (le→leb _ _ w.within)
      (every_of (length state - 2) cell_test (λ c l. go c l (dec_lt c (seen state)))))
    where
      go : (c : ℕ) → c < length state - 2 → Dec (c < seen state) → T (cell_test c)
      go c l (yes h) = subst (λ (b : Bool). T (byte_test b c)) (sym (lt-ltb c (seen state) h)) (lt→ltb _ _ (w.come c h))
      go c l (no h) =
          subst (λ (b : Bool). T (byte_test b c)) (sym (le-ltb c (seen state) (omega arith))) (eq→eqb (w.rest c (omega arith) (omega (arith, w.long))))

  pub is_state_lem : T (is_state m state) ↔ IsState m state
  is_state_lem = (state-tells, state-made)

  -- as the test says it
  pub passes : IsState m state → true ≡ is_state m state
  passes w = said (is_state m state) (state-made w)
    where
      said : (b : Bool) → T b → true ≡ b
      said true t = refl
      said false t = absurd t

  pub tells : is_state m state ≡ true → IsState m state
  tells e = state-tells (subst T (sym e) tt)

  pub fails : ¬ IsState m state → false ≡ is_state m state
  fails n = said (is_state m state) (λ t. n (state-tells t))
    where
      said : (b : Bool) → ¬ T b → false ≡ b
      said true f = absurd (f tt)
      said false f = refl

-- ---- a state by the largest byte of those that have come, and of the others

module _ (state : List ℕ) (n : ℕ) (long : length state ≡ 28674) (count : n ≡ seen state) (most : n ≤ 28672) where
  -- the two parts, and where each byte stands in them
  come-long : length (part 2 (2 + n) state) ≡ n
  come-long = part-long 2 (2 + n) state (omega arith) (omega arith) ∙ omega arith

  rest-long : length (part (2 + n) (length state) state) ≡ length state - (2 + n)
  rest-long = part-long (2 + n) (length state) state (omega arith) (omega arith)

  come-at : (c : ℕ) → c < n → row (part 2 (2 + n) state) c ≡ cell_in state c
  come-at c h = part_at 2 (2 + n) state (omega arith) (omega arith) c 0 (omega arith)

  rest_at : (c k : ℕ) → 2 + c ≡ 2 + n + k → 2 + c < length state → row (part (2 + n) (length state) state) k ≡ cell_in state c
  rest_at c k e h = part_at (2 + n) (length state) state (omega arith) (omega arith) k 0 (omega arith) ∙ ap (row state) (sym e)

  pub come-small : (r m most : ℕ) → Largest (part 2 (2 + n) state) r → IsState m state → most + 1 ≡ bytes_of m → r ≤ most
  come-small r m most come w top =
      come.least most (λ c h. omega (arith, w.come c (omega (arith, come-long)), come-at c (omega (arith, come-long)), top))

  pub rest-zero : (q m : ℕ) → Largest (part (2 + n) (length state) state) q → IsState m state → q ≤ 0
  rest-zero q m rest w =
      rest.least 0
      (λ k h. omega (arith, w.rest (n + k) (omega arith) (omega (arith, rest-long)), rest_at (n + k) k (omega arith) (omega (arith, rest-long))))

  pub small-zero : (r q : ℕ) → Largest (part 2 (2 + n) state) r → Largest (part (2 + n) (length state) state) q
      → (m most : ℕ) → n ≤ 4096 * symbols m → r ≤ most → most + 1 ≡ bytes_of m → q ≤ 0 → IsState m state
  small-zero r q come rest m most few small top none =
      record {
        long = long;
        within = omega arith;
        come = λ c h. omega (arith, come.above c (omega (arith, come-long)), come-at c (omega arith), top);
        rest = λ c h l.
            omega (arith, rest.above (c - n) (omega (arith, rest-long)), rest_at c (c - n) (omega arith) (omega arith));
      }

-- ---- the numbers of feeding and asking

module _ (P : Profile) where
  -- how many cells the grid has
  abbrev grid : ℕ
  grid = 4096 * symbols P.mode

  -- where 22 says something of the number after the profile's, it says so of a faultless profile
  first-fault : {A : Type 0} (n : ℕ) → (n ≡ 22) ↔ A → ((fault P or only n).number ≡ 22) ↔ (T (faultless P) × A)
  first-fault n iff =
      let first = or-number P n 22 (λ t. t) in
      ((λ e. let p = first.0 e in (p.0, iff.0 p.1)), λ q. first.1 (q.0, iff.1 q.1))

  module _ (state : List ℕ) (n m : ℕ) where
    -- the numbers after the profile's
    abbrev fed : ℕ
    fed = feeding_number P.mode state n m

    pub feeding-taken : ((feeding P state n m).number ≡ 0) ↔ (T (faultless P) × T (is_state P.mode state) × (n ≡ m) × (seen state + n ≤ grid))
    feeding-taken =
        let first = or-number P fed 0 (λ t. t) in
        let iff = first-0 7 16 (lit< tt) (lit< tt) (is_state P.mode state) (eqb n m) (ltb grid (seen state + n)) in (
          (λ e. let p = first.0 e in let w = iff.0 p.1 in (p.0, w.0, eqb→eq n m w.1, ltb-false grid (seen state + n) w.2)),
          λ q. first.1 (q.0, iff.1 (q.1, eq→eqb q.2, le-ltb grid (seen state + n) q.3)),
        )

    pub feeding-22 : ((feeding P state n m).number ≡ 22) ↔ (T (faultless P) × ¬ T (is_state P.mode state))
    feeding-22 = first-fault fed (first-22 7 16 (lit< tt) (lit< tt) (is_state P.mode state) (eqb n m) (ltb grid (seen state + n)))

    pub feeding-number : T (is_number fed)
    feeding-number = first-each 7 16 (λ k. T (is_number k)) tt tt tt tt (is_state P.mode state) (eqb n m) (ltb grid (seen state + n))

    pub feeding-names : ¬ T (names_fault fed)
    feeding-names = first-each 7 16 (λ k. ¬ T (names_fault k)) (λ t. t) (λ t. t) (λ t. t) (λ t. t) (is_state P.mode state) (eqb n m) (ltb grid (seen state + n))

  module _ (state : List ℕ) (bytes : ℕ) where
    abbrev asked : ℕ
    asked = asking_number P.mode P.k state bytes

    pub asking-0 : ((asking P state bytes).number ≡ 0) ↔ (T (faultless P) × T (is_state P.mode state) × (bytes ≡ 122 * P.k) × (seen state ≡ grid))
    asking-0 =
        let first = or-number P asked 0 (λ t. t) in
        let iff = first-0 6 17 (lit< tt) (lit< tt) (is_state P.mode state) (eqb bytes (122 * P.k)) (ltb (seen state) grid) in (
          (λ e.
              let p = first.0 e in
              let w = iff.0 p.1 in
              let most : seen state ≤ grid = ((is_state_lem P.mode state).0 w.0).within in
              let least : grid ≤ seen state = ltb-false (seen state) grid w.2 in
              (p.0, w.0, eqb→eq _ _ w.1, omega arith)),
          λ q. first.1 (q.0, iff.1 (q.1, eq→eqb q.2, le-ltb (seen state) grid (omega (arith, q.3)))),
        )

    pub asking-22 : ((asking P state bytes).number ≡ 22) ↔ (T (faultless P) × ¬ T (is_state P.mode state))
    asking-22 = first-fault asked (first-22 6 17 (lit< tt) (lit< tt) (is_state P.mode state) (eqb bytes (122 * P.k)) (ltb (seen state) grid))

    pub asking-number : T (is_number asked)
    asking-number = first-each 6 17 (λ k. T (is_number k)) tt tt tt tt (is_state P.mode state) (eqb bytes (122 * P.k)) (ltb (seen state) grid)

    pub asking-names : ¬ T (names_fault asked)
    asking-names =
        first-each 6 17 (λ k. ¬ T (names_fault k)) (λ t. t) (λ t. t) (λ t. t) (λ t. t) (is_state P.mode state) (eqb bytes (122 * P.k)) (ltb (seen state) grid)

    pub asking-not-read : ¬ ((asking P state bytes).number ≡ 0) → ¬ T (has_read (asking P state bytes).number)
    asking-not-read =
        or-unread P asked
        (first-each 6 17 (λ k. ¬ (k ≡ 0) → ¬ T (has_read k)) (λ n t. t) (λ n t. t) (λ n t. t) (λ n t. n refl)
        (is_state P.mode state) (eqb bytes (122 * P.k)) (ltb (seen state) grid))
