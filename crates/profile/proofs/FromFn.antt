-- What an array made from a function of the index holds, where the calls leave the function as it was; and so made, the numbers in s and zeros after them.
use Rattle.std.proofs.Common.{◌≡◌, refl, List, ◌++◌, ℕ, zero, suc, ◌+◌, ◌-◌, ◌*◌, ◌<◌, ◌≤◌, length, get_or, take, drop, replicate, ltb, lt-ltb, le-ltb, sym, ◌∙◌, ap, subst, length-append, ext_get_or, arith}
use Rattle.std.specs.Fn.{Called}
use Rattle.std.specs.Array.{IsFromFnResult, IsFromFnResultFrom}
use Rattle.std.proofs.lemmas.List.{get_or_append_left, get_or-append_right, get_or-replicate, length-replicate}
use Rattle.std.proofs.Math.Decide.{dec_lt}
use Rattle.std.proofs.Math.Seq.{drop-drop}
use denote.Param.Members.{Mut}
use Rattle.rules.specs.Bits.{pick, row}
use Rattle.rules.specs.Profile.{number, words}
use Rattle.profile.proofs.Words.{words-length}

module _ {F : Type 0} (g : Mut F (ℕ × Unit {0}) ℕ) (f : F) (v : ℕ → ℕ) (call : (i y : ℕ) (q : F) → Called g f (i, tt) y q → (y ≡ v i) × (q ≡ f)) where
  from : (ys : List ℕ) (i n : ℕ) → IsFromFnResultFrom g f ys i n → (k : ℕ) → k < n → get_or ys (i + k) 0 ≡ v (i + k)
  from ys i zero h k lt = absurd (omega arith)
  from ys i (suc n) h zero lt =
      let here : i ≡ i + 0 = omega arith in
      subst (λ (j : ℕ). get_or ys j 0 ≡ v j) here (h.2.1 0 ∙ (call i h.1 h.0 h.3).0)
  from ys i (suc n) h (suc k) lt =
      let there : i + 1 + k ≡ i + suc k = omega arith in
      subst (λ (j : ℕ). get_or ys j 0 ≡ v j) there
      (from ys (i + 1) n (subst (λ (p : F). IsFromFnResultFrom g p ys (i + 1) n) (call i h.1 h.0 h.3).1 h.4) k (omega arith))

  pub made : {ys : List ℕ} {n : ℕ} → IsFromFnResult g f ys n → (i : ℕ) → i < n → get_or ys i 0 ≡ v i
  made {ys} {n} h i lt =
      let here : 0 + i ≡ i = omega arith in
      subst (λ (j : ℕ). get_or ys j 0 ≡ v j) here (from ys 0 n h.each i lt)

words_at : (n i : ℕ) (s : List ℕ) → i < n → row (words n s) i ≡ number (take 4 (drop (4 * i) s))
words_at zero i s lt = absurd (omega arith)
words_at (suc n) zero s lt = refl
words_at (suc n) (suc i) s lt =
    let next : 4 + 4 * i ≡ 4 * suc i = omega arith in
    words_at n i (drop 4 s) (omega arith) ∙ ap (λ (l : List ℕ). number (take 4 l)) (drop-drop (4 * i) 4 s ∙ ap (λ (k : ℕ). drop k s) next)

pub words-made : (n N : ℕ) (s : List ℕ) {ys : List ℕ} → n ≤ N → length ys ≡ N
    → ((i : ℕ) → i < N → get_or ys i 0 ≡ pick (ltb i n) (number (take 4 (drop (4 * i) s))) 0) → ys ≡ words n s ++ replicate (N - n) 0
words-made n N s {ys} le long each =
    ext_get_or 0 ys (words n s ++ replicate (N - n) 0) (omega (arith, length-append (words n s) (replicate (N - n) 0), words-length n s, length-replicate {A = ℕ} (N - n) 0, long)) at
  where
    at : (i : ℕ) → i < length ys → get_or ys i 0 ≡ get_or (words n s ++ replicate (N - n) 0) i 0
    at i lt = each i (omega arith) ∙ go (dec_lt i n)
      where
        go : Dec (i < n) → pick (ltb i n) (number (take 4 (drop (4 * i) s))) 0 ≡ get_or (words n s ++ replicate (N - n) 0) i 0
        go (yes h) =
            rw (lt-ltb i n h)
            (sym (get_or_append_left (words n s) (replicate (N - n) 0) 0 i (omega (arith, words-length n s)) ∙ words_at n i s h))
        go (no h) =
            rw (le-ltb i n (omega arith))
            (sym (get_or-append_right (words n s) (replicate (N - n) 0) n i 0 (words-length n s) (omega arith)
            ∙ get_or-replicate (N - n) (i - n) 0 0 (omega arith)))
