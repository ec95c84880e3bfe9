-- The loop's invariant: the first j columns are codewords, and the others are as they were.
use mathlib.Core.Path.{◌≡◌, sym, ap, ◌∙◌, subst, subst₂}
use mathlib.Core.List.{List}
use Prim.Native.Nat.{ℕ, ◌+◌, ◌-◌, ◌%◌, ◌^◌, ◌≤◌, ◌<◌}
use native.Mathlib.Nat.{zero-div}
use native.Mathlib.Decide.{ℕ_discrete, dec_lt}
use lib.Dec.{T}
use borrow.Author.Tests.{ne_eqb}
use Rattle.rules.specs.Bits.{row}
use Rattle.rules.specs.Outer.{column, encoded, marked}
use lib.ListN.{length}
use Rattle.laws.specs.Holds.{Holds}
use Rattle.outer.specs.Solve.{kept}
use Rattle.outer.specs.Steps.{Put}
use Rattle.laws.specs.Filled.{up_to, up_to-below, up_to-from}
use Rattle.outer.proofs.Roots.{encoded-same}
use Rattle.std.specs.Result.{result_ok}
use Rattle.std.proofs.lemmas.Result.{err_from_is_err_and}
use Rattle.std.proofs.lemmas.Option.{MatchOption-at_some, MatchOption-at_none}
use Rattle.outer.proofs.Answers.{parity-bad-k, parity-bad-length, parity-done, refused-by}
use native.Mathlib.Omega.{arith}
use Rattle.outer.proofs.fill_parity.Invariants.{Made}
use lib.ListN.{length}
use Rattle.outer.proofs.fill_parity.Goals as goal

-- where no packet is lost, all bytes are kept
all-kept : (c : ℕ → ℕ) (p : ℕ) → kept 0 c p ≡ c p
all-kept c p = let none : marked 0 p ≡ 0 = ap (λ (q : ℕ). q % 2) (zero-div (2 ^ p)) in rw (ne_eqb (marked 0 p) 1 (omega arith))

-- a turn
made_more : (r j : ℕ) (before block after c w : List ℕ) → j < 122 → Made r j before block → Holds 0 16 (kept 0 (column block j)) c
    → Holds 0 16 (encoded r (row c)) w → Put (row w) j block after → Made r (j + 1) before after
made_more r j before block after c w lt made hc hw put i l p m = go (ℕ_discrete i j) (dec_lt i j)
  where
    f : ℕ → ℕ
    f i = encoded r (column before i) p

    g : ℕ → ℕ
    g i = column before i p

    stands : (q : ℕ) → q < 16 → row c q ≡ column before j q
    stands q n =
        hc.each q n ∙ all-kept (column block j) q ∙ made j lt q n
        ∙ up_to-from (λ i. encoded r (column before i) q) (λ i. column before i q) j j (omega arith)

    go : Dec (i ≡ j) → Dec (i < j) → column after i p ≡ up_to (j + 1) f g i
    go (yes e) d =
        subst (λ (i : ℕ). column after i p ≡ up_to (j + 1) f g i) (sym e)
        (put.here p m ∙ hw.each p m ∙ encoded-same r (λ q l. stands q (omega arith)) p ∙ sym (up_to-below f g (j + 1) j (omega arith)))
    go (no ne) (yes h) = put.there i l ne p m ∙ made i l p m ∙ up_to-below f g j i h ∙ sym (up_to-below f g (j + 1) i (omega arith))
    go (no ne) (no h) = put.there i l ne p m ∙ made i l p m ∙ up_to-from f g j i (omega arith) ∙ sym (up_to-from f g (j + 1) i (omega arith))

-- what the whole block holds
made-all : (r k : ℕ) (before now after : List ℕ) → r ≡ 16 - k → now ≡ before → (n : ℕ) → 122 ≤ n → Made r n now after
    → (j : ℕ) → j < 122 → (p : ℕ) → p < 16 → column after j p ≡ encoded (16 - k) (column before j) p
made-all r k before now after e same n all made j l p m =
    subst₂ (λ (q : ℕ) (b : List ℕ). column after j p ≡ encoded q (column b j) p) e same
    (made j l p m ∙ up_to-below (λ i. encoded r (column now i) p) (λ i. column now i p) n j (omega arith))

pub returns-in_err-parity : goal.returns-in_err-parity
returns-in_err-parity c =
    let p = err_from_is_err_and c.from_residual.result c.from_residual.ensures.1 in
    let e = c.in_err-parity.ensures in
    rw (p.1, p.2, e.rest) (parity-bad-k (λ t. subst T (sym e.ok) t))

pub returns-in_err-block : goal.returns-in_err-block
returns-in_err-block c =
    let p = err_from_is_err_and c.from_residual-in_err-block.result c.from_residual-in_err-block.ensures.1 in
    let lacks = refused-by c.as_mut_array.result c.ok_or.ensures.value c.in_err-block.was in
    rw (p.1, p.2, lacks.1) (parity-bad-length (subst T c.in_ok-parity.ensures.ok tt) (MatchOption-at_none _ _ lacks.0 c.as_mut_array.ensures.cases))

pub loop-j-init : goal.loop-j-init
loop-j-init c =
    let b = c.in_ok-block.block.now in
    let r = c.in_ok-parity.parity.r in
    let whole = MatchOption-at_some _ _ c.in_ok-block.block (c.ok_or.ensures.ok_part ∙ ap result_ok c.in_ok-block.was) c.as_mut_array.ensures.cases in
    (omega arith, ap length whole.same ∙ whole.long, λ j l p m. sym (up_to-from (λ i. encoded r (column b i) p) (λ i. column b i p) 0 j (omega arith)))

pub loop-j-preserved : goal.loop-j-preserved
loop-j-preserved c =
    let l = c.loop-j in (
      omega arith,
      c.put.ensures.long,
      made_more c.in_ok-parity.parity.r l.j c.in_ok-block.block.now l.block _ c.kept-c.result c.encoded.result (omega arith)
          l.invariant.2 c.kept-c.ensures c.encoded.ensures c.put.ensures,
    )

pub returns : goal.returns
returns c =
    let l = c.loop-j in
    let whole = MatchOption-at_some _ _ c.in_ok-block.block (c.ok_or.ensures.ok_part ∙ ap result_ok c.in_ok-block.was) c.as_mut_array.ensures.cases in
    parity-done (subst T c.in_ok-parity.ensures.ok tt) whole.long l.invariant.1
    (made-all c.in_ok-parity.parity.r c.args.k c.args.block.now c.in_ok-block.block.now l.block c.in_ok-parity.ensures.rest whole.same l.j (omega arith) l.invariant.2)
