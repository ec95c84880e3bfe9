-- A run of stores: the values `all` go into s₀ from place `from` on. After some of the stores s is what there is, and `rest` goes in from `at` on.
use Rattle.std.specs.Prelude.{◌≡◌, refl, List, [], ◌∷◌, ◌++◌, ℕ, zero, suc, ◌+◌, ◌-◌, ◌≤◌, length, set, drop, replicate}
use Rattle.std.proofs.Common.{sym, ◌∙◌, ap, append-nil, add-zero, add-suc, suc-add, zero-add, arith, length-append, drop_of_length-le}
use Rattle.std.proofs.Math.Nat.{sub-zero, zero-sub, suc-sub-suc}
use Rattle.std.proofs.lemmas.List.{length-replicate}
use Rattle.std.proofs.lemmas.List.Edits.{sets, sets-eq}
use Rattle.std.proofs.Math.Seq.{length-sets}

module _ {A : Type 0} where
  pub record Run (s₀ : List A) (from : ℕ) (all : List A) (s : List A) (at : ℕ) (rest : List A) : Type 0 where
    pub long : length s ≡ length s₀
    pub size : from + length all ≡ at + length rest
    pub left : sets s₀ from all ≡ sets s at rest

  pub run_start : (s₀ : List A) (from : ℕ) (all : List A) → Run s₀ from all s₀ from all
  run_start s₀ from all = record { long = refl; size = refl; left = refl }

  sets-append : (s : List A) (at : ℕ) (xs ys : List A) → sets s at (xs ++ ys) ≡ sets (sets s at xs) (at + length xs) ys
  sets-append s at [] ys = rw add-zero
  sets-append s at (x ∷ xs) ys = sets-append (set s at x) (suc at) xs ys ∙ rw (suc-add, add-suc)

  -- the values xs are stored
  pub run_more : {s₀ : List A} {from : ℕ} {all s : List A} {at : ℕ} {rest s' : List A} {at' : ℕ} {rest' : List A} (xs : List A)
      → Run s₀ from all s at rest → rest ≡ xs ++ rest' → s' ≡ sets s at xs → at' ≡ at + length xs → Run s₀ from all s' at' rest'
  run_more {s = s} {at = at} {rest' = rest'} xs h r e a =
      record {
        long = ap length e ∙ length-sets s at xs ∙ h.long;
        size = omega (arith, h.size, ap length r, length-append xs rest');
        left = h.left ∙ ap (sets s at) r ∙ sets-append s at xs rest' ∙ rw (e, a);
      }

  pub run_done : {s₀ : List A} {from : ℕ} {all s : List A} {at : ℕ} {rest : List A} → Run s₀ from all s at rest → rest ≡ [] → s ≡ sets s₀ from all
  run_done {s = s} {at = at} h r = sym (h.left ∙ ap (sets s at) r)

  -- stores that fill a list
  pub sets_all : (s vs : List A) → length s ≡ length vs → sets s 0 vs ≡ vs
  sets_all s vs e = sets-eq vs s 0 (omega arith) ∙ rw (drop_of_length-le s {i = 0 + length vs} (omega arith), append-nil vs)

  pub drop_replicate : (a : A) (n m : ℕ) → drop n (replicate m a) ≡ replicate (m - n) a
  drop_replicate a zero m = rw sub-zero
  drop_replicate a (suc n) zero = rw zero-sub
  drop_replicate a (suc n) (suc m) = rw suc-sub-suc (drop_replicate a n m)

  -- stores into a list of one value
  pub sets_front : (a : A) (n : ℕ) (vs : List A) → length vs ≤ n → sets (replicate n a) 0 vs ≡ vs ++ replicate (n - length vs) a
  sets_front a n vs h =
      sets-eq vs (replicate n a) 0 (rw length-replicate (omega arith)) ∙ rw (zero-add, drop_replicate a (length vs) n)
