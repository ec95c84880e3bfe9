-- Each answer of `restore` is Restored's: at most one codeword agrees with what is kept, and the one that is worked out was tested.
use mathlib.Core.Path.{◌≡◌, refl, sym, ap, ◌∙◌, subst, subst₂}
use mathlib.Core.List.{List}
use Prim.Native.Nat.{ℕ, ◌-◌, ◌≤◌, ◌<◌, ◌^◌}
use lib.Count.{ones}
use lib.Dec.{T}
use lib.ListN.{length}
use Rattle.std.specs.Prelude.{Ok, Err}
use Rattle.std.specs.Result.{result_ok}
use Rattle.std.proofs.lemmas.Result.{err_from_is_err_and}
use Rattle.std.proofs.lemmas.Option.{MatchOption-at_some, MatchOption-at_none}
use Rattle.rules.specs.declared.OuterError.{OuterError}
use Rattle.rules.specs.Answers.{outer_number}
use Rattle.outer.proofs.Answers.{refused-by}
use Rattle.rules.specs.Outer.{column, is_k, Codeword, Agree, Restored}
use Rattle.outer.specs.Solve.{solved}
use Rattle.outer.specs.Steps.{Solved, Works}
use Rattle.outer.proofs.Roots.{rate, codeword-same}
use Rattle.outer.proofs.Solve.{solved-agrees, none-agrees}
use native.Mathlib.Omega.{arith}
use Rattle.outer.proofs.restore.Goals as goal

restored : (r lost : ℕ) (before out after : List ℕ) → r ≤ 8 → after ≡ out → Solved 122 r lost before out
    → (j : ℕ) → j < 122 → Codeword r (column after j) × Agree lost (column after j) (column before j)
restored r lost before out after most e works j l =
    let same : (p : ℕ) → p < 16 → column after j p ≡ solved r lost (column before j) p =
    λ p m. ap (λ (b : List ℕ). column b j p) e ∙ (works j l).1 p m in
    (codeword-same most same (works j l).0, λ p m kept. same p m ∙ solved-agrees r lost (column before j) p m kept)

module _ (k lost r : ℕ) {before now : List ℕ} (t : T (is_k k)) (e : r ≡ 16 - k) (same : now ≡ before) (long : length before ≡ 1952) where
  many : r < ones lost → Restored k lost before now 9
  many more = Restored.too_many_lost t long (omega (arith, e, more)) same

  none : {x : OuterError} → lost < 2 ^ 16 → ones lost ≤ r → Works r lost now (Err x) → Restored k lost before now (outer_number x)
  none {x} fits few works =
      let w : Works (16 - k) lost before (Err x) = subst₂ (λ (q : ℕ) (b : List ℕ). Works q lost b (Err x)) e same works in
      rw w.0
      (Restored.no_codeword t long (omega (arith, e, few)) w.1.0 w.1.1 (none-agrees fits (omega (arith, e, few)) (rate k t) w.1.2) same)

  done : (out after : List ℕ) → r ≤ 8 → ones lost ≤ r → length out ≡ 1952 → after ≡ out → Works r lost now (Ok out) → Restored k lost before after 0
  done out after most few long' is works =
      let w : Works (16 - k) lost before (Ok out) = subst₂ (λ (q : ℕ) (b : List ℕ). Works q lost b (Ok out)) e same works in
      Restored.restored t long (omega (arith, e, few)) (ap length is ∙ long') (restored (16 - k) lost before out after (omega (arith, e, most)) is w)

pub returns-in_err-parity : goal.returns-in_err-parity
returns-in_err-parity c =
    let p = err_from_is_err_and c.from_residual.result c.from_residual.ensures.1 in
    let e = c.in_err-parity.ensures in
    rw (p.1, p.2, e.rest) (Restored.bad_k (λ t. subst T (sym e.ok) t) refl)

pub returns-in_err-block : goal.returns-in_err-block
returns-in_err-block c =
    let p = err_from_is_err_and c.from_residual-in_err-block.result c.from_residual-in_err-block.ensures.1 in
    let lacks = refused-by c.as_mut_array.result c.ok_or.ensures.value c.in_err-block.was in
    rw (p.1, p.2, lacks.1) (Restored.bad_length (subst T c.in_ok-parity.ensures.ok tt) (MatchOption-at_none _ _ lacks.0 c.as_mut_array.ensures.cases) refl)

pub returns-in_err-system : goal.returns-in_err-system
returns-in_err-system c =
    let p = err_from_is_err_and c.from_residual-in_err-system.result c.from_residual-in_err-system.ensures.1 in
    let whole = MatchOption-at_some _ _ c.in_ok-block.block (c.ok_or.ensures.ok_part ∙ ap result_ok c.in_ok-block.was) c.as_mut_array.ensures.cases in
    let s = c.in_err-system.ensures in
    let parity = c.in_ok-parity.ensures in
    rw (p.1, p.2, s.0) (many c.args.k c.args.lost c.in_ok-parity.parity.r (subst T parity.ok tt) parity.rest whole.same whole.long s.1)

pub returns-in_err-block-2 : goal.returns-in_err-block-2
returns-in_err-block-2 c =
    let p = err_from_is_err_and c.from_residual-in_err-block-2.result c.from_residual-in_err-block-2.ensures.1 in
    let whole = MatchOption-at_some _ _ c.in_ok-block.block (c.ok_or.ensures.ok_part ∙ ap result_ok c.in_ok-block.was) c.as_mut_array.ensures.cases in
    let parity = c.in_ok-parity.ensures in
    let s = c.in_ok-system.ensures in
    rw (p.1, p.2)
    (none c.args.k c.args.lost c.in_ok-parity.parity.r (subst T parity.ok tt) parity.rest whole.same whole.long (omega arith) s.0
    (subst₂ (λ (q m : ℕ). Works q m c.in_ok-block.block.now (Err c.in_err-block-2.field-0.0)) s.1 s.2 c.in_err-block-2.ensures))

pub returns : goal.returns
returns c =
    let whole = MatchOption-at_some _ _ c.in_ok-block.block (c.ok_or.ensures.ok_part ∙ ap result_ok c.in_ok-block.was) c.as_mut_array.ensures.cases in
    let parity = c.in_ok-parity.ensures in
    let s = c.in_ok-system.ensures in
    done c.args.k c.args.lost c.in_ok-parity.parity.r (subst T parity.ok tt) parity.rest whole.same whole.long _ _ (omega arith) s.0 (omega arith) refl
    (subst₂ (λ (q m : ℕ). Works q m c.in_ok-block.block.now (Ok c.in_ok-block-2.field-0)) s.1 s.2 c.in_ok-block-2.ensures)
