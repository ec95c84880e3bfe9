-- What a list holds, place by place: a loop says by `Holds` what stands where; `holds_put` is a store.
use Rattle.std.specs.Prelude.{◌≡◌, refl, Bool, List, ℕ, ◌<◌, eqb, length, get_or, set}
use Rattle.std.proofs.Common.{sym, ◌∙◌, subst, eq-eqb, ne_eqb, length-set, get_or-set_same, get_or-set_other, ext_get_or}
use Rattle.std.proofs.Math.Decide.{ℕ_discrete}
use Rattle.rules.specs.Bits.{pick}

-- f, but v at i
abbrev pub put : {A : Type 0} → (ℕ → A) → ℕ → A → ℕ → A
put f i v k = pick (eqb k i) v (f k)

module _ {A : Type 0} (d : A) where
  -- the list l has n elements, and f says each
  pub record Holds (n : ℕ) (f : ℕ → A) (l : List A) : Type 0 where
    pub long : length l ≡ n
    pub each : (k : ℕ) → k < n → get_or l k d ≡ f k

  -- a list holds itself
  pub holds_self : (l : List A) → Holds (length l) (λ k. get_or l k d) l
  holds_self l = record { long = refl; each = λ k h. refl }

  -- what is held may be said in another way
  pub holds_as : {n : ℕ} {f : ℕ → A} (g : ℕ → A) {l : List A} → ((k : ℕ) → k < n → f k ≡ g k) → Holds n f l → Holds n g l
  holds_as g e h = record { long = h.long; each = λ k lt. h.each k lt ∙ e k lt }

  -- a store at i
  pub holds_put : {n : ℕ} {f : ℕ → A} {l : List A} (i : ℕ) (v : A) → i < n → Holds n f l → Holds n (put f i v) (set l i v)
  holds_put {n} {f} {l} i v lt h = record { long = length-set l i v ∙ h.long; each = at }
    where
      at : (k : ℕ) → k < n → get_or (set l i v) k d ≡ put f i v k
      at k k<n = go (ℕ_discrete k i)
        where
          go : Dec (k ≡ i) → get_or (set l i v) k d ≡ put f i v k
          go (yes e) =
              subst (λ (m : ℕ). get_or (set l i v) m d ≡ put f i v m) (sym e)
              (get_or-set_same l i v d (subst (λ (m : ℕ). i < m) (sym h.long) lt)
              ∙ sym (subst (λ (b : Bool). pick b v (f i) ≡ v) (sym (eq-eqb i i refl)) refl))
          go (no ne) =
              get_or-set_other l i k v d ne ∙ h.each k k<n
              ∙ sym (subst (λ (b : Bool). pick b v (f k) ≡ f k) (sym (ne_eqb k i ne)) refl)

  -- two lists that hold the same are the same
  pub holds_one : {n : ℕ} {f : ℕ → A} {l m : List A} → Holds n f l → Holds n f m → l ≡ m
  holds_one {n} {f} {l} {m} a b =
      ext_get_or d l m (a.long ∙ sym b.long)
      (λ i lt. let lt' : i < n = subst (λ (k : ℕ). i < k) a.long lt in a.each i lt' ∙ sym (b.each i lt'))
