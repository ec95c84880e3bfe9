-- A part of a list, from a to before e: what it holds, and the whole once what a callee left of a `&mut` part is back in its place. A loop that lends
-- consecutive parts of one width fills the list part by part.
use Rattle.std.specs.Prelude.{◌≡◌, List, ◌++◌, ℕ, ◌+◌, ◌-◌, ◌*◌, ◌/◌, ◌%◌, ◌<◌, ◌≤◌, length, get_or, take, drop}
use Rattle.std.proofs.Common.{sym, ◌∙◌, ap, mod-eq_of_lt, mul-le-mul_left, mul-add, mul-one, arith, length-append, length-drop, length-take-le, get_or-take, get_or-drop, get_or-append-add}
use Rattle.std.proofs.Math.Nat.{mul-add-div, mul-add-mod_self_left, div-eq_of_lt}
use Rattle.std.proofs.Math.Decide.{dec_lt}
use Rattle.std.proofs.Math.ListN.{get_or-append}
use Rattle.laws.specs.Holds.{Holds}
use Rattle.laws.specs.Filled.{up_to, up_to-below, up_to-from}

-- ---- place k of part i of width w

pub part-number : (w i k : ℕ) → k < w → (w * i + k) / w ≡ i
part-number w i k h = mul-add-div {m = w} (omega arith) i k ∙ ap (λ (n : ℕ). i + n) (div-eq_of_lt h) ∙ omega arith

pub part-place : (w i k : ℕ) → k < w → (w * i + k) % w ≡ k
part-place w i k h = mul-add-mod_self_left w i k ∙ mod-eq_of_lt h

-- part i ends where the next begins
pub part_end : (w i : ℕ) → w * i + w ≡ w * (i + 1)
part_end w i = sym (mul-add w i 1 ∙ ap (λ (n : ℕ). w * i + n) (mul-one w))

-- and lies within n parts
pub part-within : (w i n : ℕ) → i < n → w * i + w ≤ w * n
part-within w i n h = omega (arith, part_end w i, mul-le-mul_left {m = i + 1} {n = n} w (omega arith))

module _ {A : Type 0} where
  -- the part from a to before e
  abbrev pub part : ℕ → ℕ → List A → List A
  part a e l = take (e - a) (drop a l)

  -- the list with y in the part's place
  abbrev pub put_part : ℕ → ℕ → List A → List A → List A
  put_part a e l y = take a l ++ (y ++ drop (e - a) (drop a l))

  module _ (a e : ℕ) (l : List A) (from : a ≤ e) (to : e ≤ length l) where
    pub part-long : length (part a e l) ≡ e - a
    part-long = length-take-le (e - a) (drop a l) (rw length-drop (omega arith))

    pub part_at : (k : ℕ) (d : A) → a + k < e → get_or (part a e l) k d ≡ get_or l (a + k) d
    part_at k d h = get_or-take (e - a) (drop a l) k d (omega arith) ∙ get_or-drop a l k d

    module _ (y : List A) (long : length y ≡ e - a) where
      head-long : length (take a l) ≡ a
      head-long = length-take-le a l (omega arith)

      pub put-long : length (put_part a e l y) ≡ length l
      put-long = simp (length-append, length-drop, head-long, long) (omega arith)

      pub put-before : (k : ℕ) (d : A) → k < a → get_or (put_part a e l y) k d ≡ get_or l k d
      put-before k d h =
          get_or-append (take a l) (y ++ drop (e - a) (drop a l)) d k (omega (arith, head-long)) ∙ get_or-take a l k d h

      -- past what stands before the part
      past : (k : ℕ) (d : A) → get_or (put_part a e l y) (a + k) d ≡ get_or (y ++ drop (e - a) (drop a l)) k d
      past k d =
          ap (λ (n : ℕ). get_or (put_part a e l y) (n + k) d) (sym head-long)
          ∙ get_or-append-add (take a l) (y ++ drop (e - a) (drop a l)) k d

      pub put_in : (k : ℕ) (d : A) → a + k < e → get_or (put_part a e l y) (a + k) d ≡ get_or y k d
      put_in k d h = past k d ∙ get_or-append y (drop (e - a) (drop a l)) d k (omega arith)

      pub put-after : (k : ℕ) (d : A) → get_or (put_part a e l y) (e + k) d ≡ get_or l (e + k) d
      put-after k d =
          let there : e + k ≡ a + (e - a + k) = omega arith in
          ap (λ (n : ℕ). get_or (put_part a e l y) n d) there ∙ past (e - a + k) d
          ∙ ap (λ (n : ℕ). get_or (y ++ drop (e - a) (drop a l)) (n + k) d) (sym long) ∙ get_or-append-add y (drop (e - a) (drop a l)) k d
          ∙ get_or-drop (e - a) (drop a l) k d ∙ get_or-drop a l (e - a + k) d ∙ ap (λ (n : ℕ). get_or l n d) (sym there)

  -- a turn that leaves in part i what f says there
  pub holds-part : (d : A) (f g : ℕ → A) (w i e : ℕ) {n : ℕ} {l : List A} (y : List A)
      → e ≡ w * i + w
      → e ≤ n
      → length y ≡ w
      → ((k : ℕ) → k < w → get_or y k d ≡ f (w * i + k))
      → Holds d n (up_to (w * i) f g) l
      → Holds d n (up_to (w * (i + 1)) f g) (put_part (w * i) e l y)
  holds-part d f g w i e {n} {l} y end to long each h =
      record { long = put-long (w * i) e l from within y long' ∙ h.long; each = λ k lt. go k lt (dec_lt k (w * i)) (dec_lt k e) }
    where
      from : w * i ≤ e
      from = omega arith

      within : e ≤ length l
      within = omega (arith, h.long)

      long' : length y ≡ e - w * i
      long' = omega arith

      next : w * (i + 1) ≡ e
      next = sym (end ∙ part_end w i)

      go : (k : ℕ) → k < n → Dec (k < w * i) → Dec (k < e) → get_or (put_part (w * i) e l y) k d ≡ up_to (w * (i + 1)) f g k
      go k lt (yes before) b =
          put-before (w * i) e l from within y long' k d before ∙ h.each k lt ∙ up_to-below f g (w * i) k before
          ∙ sym (up_to-below f g (w * (i + 1)) k (omega arith))
      go k lt (no before) (yes inside) =
          let place : w * i + (k - w * i) ≡ k = omega arith in
          ap (λ (m : ℕ). get_or (put_part (w * i) e l y) m d) (sym place)
          ∙ put_in (w * i) e l from within y long' (k - w * i) d (omega arith)
          ∙ each (k - w * i) (omega arith) ∙ ap f place ∙ sym (up_to-below f g (w * (i + 1)) k (omega arith))
      go k lt (no before) (no inside) =
          let place : e + (k - e) ≡ k = omega arith in
          ap (λ (m : ℕ). get_or (put_part (w * i) e l y) m d) (sym place)
          ∙ put-after (w * i) e l from within y long' (k - e) d ∙ ap (λ (m : ℕ). get_or l m d) place
          ∙ h.each k lt ∙ up_to-from f g (w * i) k (omega arith) ∙ sym (up_to-from f g (w * (i + 1)) k (omega arith))
