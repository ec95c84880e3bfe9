-- What the answer 0 tells, and what gives it: the profile is faultless, and all lengths are right.
use mathlib.Core.Path.{◌≡◌, refl, ◌∙◌, ap}
use mathlib.Core.Bool.{Bool, true, false, not, ◌&&◌}
use mathlib.Core.Logic.{◌↔◌}
use Prim.Native.Nat.{ℕ, ◌*◌}
use native.Mathlib.Omega.{arith}
use lib.Dec.{T, eqb, eqb→eq}
use lib.Ieee.Fits.{eq→eqb}
use Rattle.rules.specs.Bits.{pick}
use Rattle.rules.specs.Profile.{faultless}
use Rattle.rules.specs.Block.{early}
use Rattle.rules.specs.Modes.{symbols}
use Rattle.rules.specs.Answers.{Answer}
use Rattle.rules.specs.declared.Profile.{Profile}
use Rattle.profile.proofs.AtFault.{or-number}

pub record Right (P : Profile) (bytes firsts seconds cells : ℕ) : Type 0 where
  pub range : T (faultless P)
  pub data_long : bytes ≡ 122 * P.k
  pub firsts_long : firsts ≡ cells
  pub seconds_long : seconds ≡ cells

-- the tests after the profile's, as the number that they give
abbrev said : Bool → Bool → Bool → ℕ
said b c d = pick (not b) 6 (pick (not (c && d)) 7 0)

pub right : (P : Profile) (bytes firsts seconds cells : ℕ) → (early P bytes firsts seconds cells).number ≡ 0 → Right P bytes firsts seconds cells
right P bytes firsts seconds cells e =
    let p = (or-number P _ 0 (λ t. t)).0 e in
    let w = go (eqb bytes (122 * P.k)) (eqb firsts cells) (eqb seconds cells) p.1 in
    record { range = p.0; data_long = eqb→eq _ _ w.0; firsts_long = eqb→eq _ _ w.1; seconds_long = eqb→eq _ _ w.2 }
  where
    go : (b c d : Bool) → said b c d ≡ 0 → T b × T c × T d
    go true true true e = (tt, tt, tt)
    go true true false e = absurd (omega arith)
    go true false d e = absurd (omega arith)
    go false c d e = absurd (omega arith)

pub early-right : (P : Profile) (bytes firsts seconds cells : ℕ)
    → ((early P bytes firsts seconds cells).number ≡ 0) ↔ (T (faultless P) × (bytes ≡ 122 * P.k) × (firsts ≡ cells) × (seconds ≡ cells))
early-right P bytes firsts seconds cells = (
  (λ e. let w = right P bytes firsts seconds cells e in (w.range, w.data_long, w.firsts_long, w.seconds_long)),
  λ q.
      (or-number P _ 0 (λ t. t)).1
      (q.0, go (eqb bytes (122 * P.k)) (eqb firsts cells) (eqb seconds cells) (eq→eqb q.1) (eq→eqb q.2) (eq→eqb q.3)),
)
  where
    go : (b c d : Bool) → T b → T c → T d → said b c d ≡ 0
    go true true true q r s = refl
    go false c d q r s = absurd q
    go true false d q r s = absurd r
    go true true false q r s = absurd s

-- the answer for a grid, by the number of symbols that the code works with
pub early-symbols : (P : Profile) (bytes firsts seconds : ℕ) {n : ℕ} {a : Answer} → n ≡ symbols P.mode → a ≡ early P bytes firsts seconds (4096 * n)
    → a ≡ early P bytes firsts seconds (4096 * symbols P.mode)
early-symbols P bytes firsts seconds e is = is ∙ ap (λ (n : ℕ). early P bytes firsts seconds (4096 * n)) e
