-- What a faultless profile has: a level, a mode, a level that this mode can send, a K, a floor under the level.
use mathlib.Core.Bool.{Bool, true, false, ◌&&◌}
use lib.Dec.{T, eqb}
use lib.Ieee.Fits.{and_r}
use Rattle.rules.specs.Bits.{pick}
use Rattle.rules.specs.Modes.{is_mode, part_bits}
use Rattle.rules.specs.Outer.{is_k}
use Rattle.rules.specs.Profile as rule
use Rattle.rules.specs.Profile.{is_level, floor_under, faultless, level_in_mode, only}
use Rattle.rules.specs.Answers.{Answer}
use Rattle.rules.specs.declared.Profile.{Profile}
use Rattle.laws.specs.Decisions.{Good}
use Rattle.profile.proofs.AtFault.{fine}
use Rattle.profile.proofs.Entries.{single}

pub record Ranges (P : Profile) : Type 0 where
  pub level : T (is_level P.level)
  pub mode : T (is_mode P.mode)
  pub sends : T (rule.sends P.mode P.level)
  pub k : T (is_k P.k)
  pub floor : T (floor_under P.level P.floor)

none-sends : (P : Profile) → T (eqb (level_in_mode P).number 0) → T (rule.sends P.mode P.level)
none-sends P = go (rule.sends P.mode P.level)
  where
    go : (b : Bool) → (let a : Answer = pick b (only 0) (record { number = 41; place = 38 }) in T (eqb a.number 0)) → T b
    go true t = tt
    go false t = t

pub ranges : (P : Profile) → T (faultless P) → Ranges P
ranges P h =
    let g = (fine P h).each in
    record {
      level = single (is_level P.level) true g.1.0;
      mode = single (is_mode P.mode) (eqb (level_in_mode P).number 0) g.1.1.0;
      sends = none-sends P (and_r (is_mode P.mode && true) (eqb (level_in_mode P).number 0) g.1.1.0);
      k = single (is_k P.k) true g.1.1.1.0;
      floor = single (floor_under P.level P.floor) true g.1.1.1.1.1.0;
    }

-- so what is sent at its level decides to what was sent
pub good-level : (P : Profile) → T (faultless P) → Good (part_bits P.mode) P.level P.floor
good-level P h = let r = ranges P h in (r.level, r.sends, r.floor)
