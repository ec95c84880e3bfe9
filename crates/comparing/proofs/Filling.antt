-- Differences go into a list, one after the other.
use mathlib.Core.Path.{◌≡◌, refl, sym, ◌∙◌, ap, ap₂, subst}
use mathlib.Core.Bool.{Bool}
use mathlib.Core.List.{List, [], ◌∷◌, ◌++◌, map, append_assoc}
use mathlib.Core.Logic.{◌⊎◌, ⊎_elim, inl, inr}
use Prim.Native.Nat.{ℕ, zero, suc, ◌+◌, ◌-◌, ◌*◌, ◌/◌, ◌<◌, ◌≤◌}
use native.Mathlib.Nat.{le_of_suc-le-suc}
use native.Mathlib.Decide.{dec_lt}
use native.Mathlib.Omega.{arith}
use lib.ListN.{length, take, drop, length-append, length-drop, take-append-drop, get_or-append}
use lib.Seq.{paste, length-paste, take-paste, drop-paste, take_all, drop-drop, get_or-drop, get_or-append-add, take-append-add}
use borrow.Author.Tests.{lt-ltb, le-ltb}
use Rattle.rules.specs.Bits.{pick, row}
use Rattle.rules.specs.Compare.{filled}
use Rattle.comparing.specs.Listing.{to_go, Gone, place}

-- where fewer than six numbers are left, nothing goes in any more
pub filled-short : (ds : List (List ℕ)) (h : List ℕ) → length h < 6 → filled ds h ≡ h
unfolding filled
filled-short [] h lt = refl
filled-short (d ∷ ds) h lt = ap (λ (b : Bool). pick b h (d ++ filled ds (drop 6 h))) (lt-ltb (length h) 6 lt)

-- else the first one does
pub filled-fits : (d : List ℕ) (ds : List (List ℕ)) (h : List ℕ) → 6 ≤ length h → filled (d ∷ ds) h ≡ d ++ filled ds (drop 6 h)
unfolding filled
filled-fits d ds h le = ap (λ (b : Bool). pick b h (d ++ filled ds (drop 6 h))) (le-ltb (length h) 6 le)

-- where nothing is left to go in, the list is what it is
pub nothing-to-go : (at : ℕ) (l : List ℕ) → to_go [] at l ≡ l
unfolding filled
nothing-to-go at l = take-append-drop at l

-- difference k has no place
pub none-gone : (l : List ℕ) (k : ℕ) (d : List ℕ) → ¬ (k < length l / 6) → Gone l (place (length l) k) d l (place (length l) (k + 1))
none-gone l k d past =
    let at : ℕ = place (length l) k in
    let same_place : at ≡ place (length l) (k + 1) = omega arith in
    let short : length (drop at l) < 6 = omega (arith, length-drop at l) in
    subst (Gone l at d l) same_place
    (record {
      long = refl;
      inside = omega arith;
      same = λ ds. ap (λ (r : List ℕ). take at l ++ r) (filled-short (d ∷ ds) (drop at l) short ∙ sym (filled-short ds (drop at l) short));
    })

gone-at : (l : List ℕ) (at : ℕ) (d l' : List ℕ) → at + 6 ≤ length l → length d ≡ 6 → l' ≡ paste l at d 6 → Gone l at d l' (at + 6)
gone-at l at d l' room six e =
    let le : at ≤ length l = omega arith in
    let enough : 6 ≤ length d = omega arith in
    let long : length l' ≡ length l = ap length e ∙ length-paste l at d 6 room enough in
    record {
      long = long;
      inside = omega arith;
      same = λ ds.
          ap (λ (r : List ℕ). take at l ++ r)
          (filled-fits d ds (drop at l) (subst (λ (n : ℕ). 6 ≤ n) (sym (length-drop at l)) (omega arith))
          ∙ ap (λ (r : List ℕ). d ++ filled ds r) (drop-drop 6 at l))
          ∙ sym (append_assoc (take at l) d (filled ds (drop (at + 6) l)))
          ∙ ap₂ (λ (p q : List ℕ). p ++ filled ds q)
          (ap (λ (r : List ℕ). take at l ++ r) (sym (take_all 6 d (omega arith))) ∙ sym (take-paste l at d 6 le enough) ∙ ap (take (at + 6)) (sym e))
          (sym (drop-paste l at d 6 le enough) ∙ ap (drop (at + 6)) (sym e));
    }

-- it has one, and is there
pub one-gone : (l : List ℕ) (k : ℕ) (d l' : List ℕ) → k < length l / 6 → length d ≡ 6 → l' ≡ paste l (6 * k) d 6
    → Gone l (place (length l) k) d l' (place (length l) (k + 1))
one-gone l k d l' lt six e =
    let here : 6 * k ≡ place (length l) k = omega arith in
    let next : 6 * k + 6 ≡ place (length l) (k + 1) = omega arith in
    subst (λ (at : ℕ). Gone l at d l' (place (length l) (k + 1))) here (subst (Gone l (6 * k) d l') next (gone-at l (6 * k) d l' (omega arith) six e))

-- ---- what stands where, for differences of six numbers each

-- the numbers of some differences one after the other
abbrev pub flat : (ℕ → List ℕ) → List ℕ → List ℕ
flat e [] = []
flat e (c ∷ cs) = e c ++ flat e cs

pub flat-parts : (e : ℕ → List ℕ) (cs ds : List ℕ) → flat e (cs ++ ds) ≡ flat e cs ++ flat e ds
flat-parts e [] ds = refl
flat-parts e (c ∷ cs) ds = ap (λ (l : List ℕ). e c ++ l) (flat-parts e cs ds) ∙ sym (append_assoc (e c) (flat e cs) (flat e ds))

-- renumbered cells, of which the same is said
pub flat-renumbered : (e e' : ℕ → List ℕ) (g : ℕ → ℕ) (cs : List ℕ)
    → ((k : ℕ) → k < length cs → e (g (row cs k)) ≡ e' (row cs k))
    → flat e (map g cs) ≡ flat e' cs
flat-renumbered e e' g [] same = refl
flat-renumbered e e' g (c ∷ cs) same =
    ap₂ ◌++◌ (same 0 (omega arith)) (flat-renumbered e e' g cs (λ k lt. same (suc k) (omega (arith, lt))))

module _ (e : ℕ → List ℕ) (six : (i : ℕ) → length (e i) ≡ 6) where
  pub filled-long : (cs h : List ℕ) → length (filled (map e cs) h) ≡ length h
  unfolding filled
  filled-long [] h = refl
  filled-long (c ∷ cs) h = go (filled-long cs (drop 6 h)) (dec_lt (length h) 6)
    where
      go : length (filled (map e cs) (drop 6 h)) ≡ length (drop 6 h) → Dec (length h < 6) → length (filled (map e (c ∷ cs)) h) ≡ length h
      go ih (yes lt) = ap length (filled-short (map e (c ∷ cs)) h lt)
      go ih (no ge) =
          ap length (filled-fits (e c) (map e cs) h (omega arith))
          ∙ omega (arith, length-append (e c) (filled (map e cs) (drop 6 h)), six c, ih, length-drop 6 h)

  -- difference k has the six numbers from 6 k on
  pub filled_at : (cs h : List ℕ) (k j : ℕ) → k < length cs → 6 * k + 6 ≤ length h → j < 6
      → row (filled (map e cs) h) (6 * k + j) ≡ row (e (row cs k)) j
  filled_at [] h k j lt fits small = absurd (omega arith)
  filled_at (c ∷ cs) h zero j lt fits small =
      let at : 6 * 0 + j ≡ j = omega arith in
      ap₂ row (filled-fits (e c) (map e cs) h (omega arith)) at
      ∙ get_or-append (e c) (filled (map e cs) (drop 6 h)) 0 j (omega (arith, six c))
  filled_at (c ∷ cs) h (suc k) j lt fits small =
      let at : 6 * suc k + j ≡ length (e c) + (6 * k + j) = omega (arith, six c) in
      ap₂ row (filled-fits (e c) (map e cs) h (omega arith)) at
      ∙ get_or-append-add (e c) (filled (map e cs) (drop 6 h)) (6 * k + j) 0
      ∙ filled_at cs (drop 6 h) k j (le_of_suc-le-suc lt) (omega (arith, length-drop 6 h)) small

  -- behind the last one that fits all is as it was
  pub filled-behind : (cs h : List ℕ) (j : ℕ) → (6 * length cs ≤ j) ⊎ (length h < 6 * (j / 6) + 6) → row (filled (map e cs) h) j ≡ row h j
  unfolding filled
  filled-behind [] h j past = refl
  filled-behind (c ∷ cs) h j past = go (filled-behind cs (drop 6 h) (j - 6)) (dec_lt (length h) 6)
    where
      go : ((6 * length cs ≤ j - 6) ⊎ (length (drop 6 h) < 6 * ((j - 6) / 6) + 6) → row (filled (map e cs) (drop 6 h)) (j - 6) ≡ row (drop 6 h) (j - 6))
          → Dec (length h < 6)
          → row (filled (map e (c ∷ cs)) h) j ≡ row h j
      go ih (yes lt) = ap (λ (l : List ℕ). row l j) (filled-short (map e (c ∷ cs)) h lt)
      go ih (no ge) =
          let far : 6 ≤ j = ⊎_elim (λ p. omega (arith, p)) (λ p. omega (arith, p)) past in
          let at : j ≡ length (e c) + (j - 6) = omega (arith, six c) in
          let back : 6 + (j - 6) ≡ j = omega arith in
          let past' : (6 * length cs ≤ j - 6) ⊎ (length (drop 6 h) < 6 * ((j - 6) / 6) + 6) =
          ⊎_elim (λ p. inl (omega (arith, p))) (λ p. inr (omega (arith, p, length-drop 6 h))) past in
          ap₂ row (filled-fits (e c) (map e cs) h (omega arith)) at
          ∙ get_or-append-add (e c) (filled (map e cs) (drop 6 h)) (j - 6) 0
          ∙ ih past'
          ∙ get_or-drop 6 h (j - 6) 0 ∙ ap (row h) back

  -- where all fit, they are there
  pub filled-all : (cs h : List ℕ) → 6 * length cs ≤ length h → take (6 * length cs) (filled (map e cs) h) ≡ flat e cs
  filled-all [] h fits = let none : 6 * 0 ≡ 0 = omega arith in ap (λ (n : ℕ). take n (filled [] h)) none
  filled-all (c ∷ cs) h fits =
      let at : 6 * suc (length cs) ≡ length (e c) + 6 * length cs = omega (arith, six c) in
      ap₂ take at (filled-fits (e c) (map e cs) h (omega arith))
      ∙ take-append-add (e c) (filled (map e cs) (drop 6 h)) (6 * length cs)
      ∙ ap (λ (l : List ℕ). e c ++ l) (filled-all cs (drop 6 h) (omega (arith, length-drop 6 h)))
