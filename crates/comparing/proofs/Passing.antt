-- The numbers that pass a test, in rising order.
use mathlib.Core.Path.{◌≡◌, refl, sym, ◌∙◌, ap, ap₂, subst}
use mathlib.Core.Bool.{Bool, true, false}
use mathlib.Core.List.{List, [], ◌∷◌, ◌++◌, map}
use Prim.Native.Nat.{ℕ, zero, suc, ◌+◌, ◌-◌, ◌<◌, ◌≤◌}
use native.Mathlib.Nat.{zero-add, suc-add, add-zero, add-suc, le_of_suc-le-suc}
use native.Mathlib.Numerals.{add-one}
use native.Mathlib.Decide.{ℕ_discrete}
use native.Mathlib.Omega.{arith}
use lib.Dec.{T}
use lib.ListN.{length}
use Rattle.rules.specs.Bits.{pick, row, passing}

-- ---- from a number on

-- those from i on, below n
abbrev pub passing_from : ℕ → ℕ → (ℕ → Bool) → List ℕ
passing_from n i f = passing (n - i) i f

module _ (n i : ℕ) (f : ℕ → Bool) (lt : i < n) where
  next : passing_from n i f ≡ pick (f i) (i ∷ passing_from n (i + 1) f) (passing_from n (i + 1) f)
  next =
      let e : n - i ≡ suc (n - (i + 1)) = omega arith in
      ap (λ (m : ℕ). passing m i f) e ∙ ap (λ (k : ℕ). pick (f i) (i ∷ passing (n - (i + 1)) k f) (passing (n - (i + 1)) k f)) (sym (add-one i))

  pub next-passes : f i ≡ true → passing_from n i f ≡ i ∷ passing_from n (i + 1) f
  next-passes t = next ∙ ap (λ (b : Bool). pick b (i ∷ passing_from n (i + 1) f) (passing_from n (i + 1) f)) t

  pub next-fails : f i ≡ false → passing_from n i f ≡ passing_from n (i + 1) f
  next-fails t = next ∙ ap (λ (b : Bool). pick b (i ∷ passing_from n (i + 1) f) (passing_from n (i + 1) f)) t

-- at the end none is left
pub passing-end : (n i : ℕ) (f : ℕ → Bool) → ¬ (i < n) → passing_from n i f ≡ []
passing-end n i f ge = let e : n - i ≡ 0 = omega arith in ap (λ (m : ℕ). passing m i f) e

-- ---- each passes, they rise, and none is left out

-- x is one of the n numbers from k on, and passes
abbrev pub Passes : ℕ → ℕ → (ℕ → Bool) → ℕ → Type 0
Passes n k f x = (k ≤ x) × (x < k + n) × T (f x)

pub each-passes : (n k : ℕ) (f : ℕ → Bool) (j : ℕ) → j < length (passing n k f) → Passes n k f (row (passing n k f) j)
each-passes zero k f j lt = absurd (omega arith)
each-passes (suc n) k f j lt = go (each-passes n (suc k) f) (f k) refl j lt
  where
    rest : List ℕ
    rest = passing n (suc k) f

    wider : (x : ℕ) → Passes n (suc k) f x → Passes (suc n) k f x
    wider x p = (omega (arith, p.0), omega (arith, p.1), p.2)

    go : ((i : ℕ) → i < length rest → Passes n (suc k) f (row rest i)) → (b : Bool) → f k ≡ b → (i : ℕ)
        → i < length (pick b (k ∷ rest) rest)
        → Passes (suc n) k f (row (pick b (k ∷ rest) rest) i)
    go ih true e zero lt = (omega arith, omega arith, subst T (sym e) tt)
    go ih true e (suc i) lt = wider (row rest i) (ih i (le_of_suc-le-suc lt))
    go ih false e i lt = wider (row rest i) (ih i lt)

pub passing-rises : (n k : ℕ) (f : ℕ → Bool) (i j : ℕ) → i < j → j < length (passing n k f) → row (passing n k f) i < row (passing n k f) j
passing-rises zero k f i j l lt = absurd (omega arith)
passing-rises (suc n) k f i j l lt = go (passing-rises n (suc k) f) (f k) i j l lt
  where
    rest : List ℕ
    rest = passing n (suc k) f

    go : ((i j : ℕ) → i < j → j < length rest → row rest i < row rest j) → (b : Bool) (i j : ℕ) → i < j
        → j < length (pick b (k ∷ rest) rest)
        → row (pick b (k ∷ rest) rest) i < row (pick b (k ∷ rest) rest) j
    go ih true i zero l lt = absurd (omega arith)
    go ih true zero (suc j) l lt = (each-passes n (suc k) f j (le_of_suc-le-suc lt)).0
    go ih true (suc i) (suc j) l lt = ih i j (le_of_suc-le-suc l) (le_of_suc-le-suc lt)
    go ih false i j l lt = ih i j l lt

-- where x stands
abbrev pub Stands : List ℕ → ℕ → Type 0
Stands l x = (j : ℕ) × (j < length l) × (row l j ≡ x)

pub none-missing : (n k : ℕ) (f : ℕ → Bool) (x : ℕ) → Passes n k f x → Stands (passing n k f) x
none-missing zero k f x p = absurd (omega (arith, p.0, p.1))
none-missing (suc n) k f x p = go (none-missing n (suc k) f x) (f k) refl (ℕ_discrete x k)
  where
    rest : List ℕ
    rest = passing n (suc k) f

    later : ¬ (x ≡ k) → Passes n (suc k) f x
    later ne = (omega (arith, p.0), omega (arith, p.1), p.2)

    behind : Stands rest x → Stands (k ∷ rest) x
    behind s = (suc s.0, omega (arith, s.1), s.2)

    go : (Passes n (suc k) f x → Stands rest x) → (b : Bool) → f k ≡ b → Dec (x ≡ k) → Stands (pick b (k ∷ rest) rest) x
    go ih true e (yes q) = (0, omega arith, sym q)
    go ih true e (no ne) = behind (ih (later ne))
    go ih false e (yes q) = absurd (subst T (ap f q ∙ e) p.2)
    go ih false e (no ne) = ih (later ne)

-- no more of them than were looked at
pub passing-few : (n k : ℕ) (f : ℕ → Bool) → length (passing n k f) ≤ n
passing-few zero k f = omega arith
passing-few (suc n) k f = go (f k) (passing-few n (suc k) f)
  where
    go : (b : Bool) → length (passing n (suc k) f) ≤ n → length (pick b (k ∷ passing n (suc k) f) (passing n (suc k) f)) ≤ suc n
    go true le = omega (arith, le)
    go false le = omega (arith, le)

-- ---- in parts

pub passing-parts : (m n k : ℕ) (f : ℕ → Bool) → passing (m + n) k f ≡ passing m k f ++ passing n (k + m) f
passing-parts zero n k f = ap₂ (λ (a b : ℕ). passing a b f) (zero-add n) (sym (add-zero k))
passing-parts (suc m) n k f =
    ap (λ (a : ℕ). passing a k f) (suc-add m n)
    ∙ go (f k) (passing-parts m n (suc k) f ∙ ap (λ (a : ℕ). passing m (suc k) f ++ passing n a f) (suc-add k m ∙ sym (add-suc k m)))
  where
    go : (b : Bool)
        → passing (m + n) (suc k) f ≡ passing m (suc k) f ++ passing n (k + suc m) f
        → pick b (k ∷ passing (m + n) (suc k) f) (passing (m + n) (suc k) f)
        ≡ pick b (k ∷ passing m (suc k) f) (passing m (suc k) f) ++ passing n (k + suc m) f
    go true e = ap (λ (l : List ℕ). k ∷ l) e
    go false e = e

-- counted from s on
pub passing-shift : (n k s : ℕ) (f : ℕ → Bool) → passing n (s + k) f ≡ map (λ i. s + i) (passing n k (λ i. f (s + i)))
passing-shift zero k s f = refl
passing-shift (suc n) k s f = go (f (s + k)) (ap (λ (a : ℕ). passing n a f) (sym (add-suc s k)) ∙ passing-shift n (suc k) s f)
  where
    rest : List ℕ
    rest = passing n (suc k) (λ i. f (s + i))

    go : (b : Bool)
        → passing n (suc (s + k)) f ≡ map (λ i. s + i) rest
        → pick b ((s + k) ∷ passing n (suc (s + k)) f) (passing n (suc (s + k)) f) ≡ map (λ i. s + i) (pick b (k ∷ rest) rest)
    go true e = ap (λ (l : List ℕ). (s + k) ∷ l) e
    go false e = e

pub map-long : (g : ℕ → ℕ) (l : List ℕ) → length (map g l) ≡ length l
map-long g [] = refl
map-long g (x ∷ l) = ap suc (map-long g l)

-- two tests that agree
pub passing-same : (n k : ℕ) (f g : ℕ → Bool) → ((i : ℕ) → k ≤ i → i < k + n → f i ≡ g i) → passing n k f ≡ passing n k g
passing-same zero k f g same = refl
passing-same (suc n) k f g same =
    ap₂ (λ (b : Bool) (l : List ℕ). pick b (k ∷ l) l) (same k (omega arith) (omega arith))
    (passing-same n (suc k) f g (λ i le lt. same i (omega (arith, le)) (omega (arith, lt))))
