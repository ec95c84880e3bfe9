-- What a call owes after reading the profile, from what the reading answered.
use mathlib.Core.Path.{◌≡◌, refl, sym, ap, subst, ◌∙◌}
use mathlib.Core.List.{List}
use Prim.Native.Nat.{ℕ}
use Rattle.rules.specs.Profile.{reading}
use Rattle.rules.specs.Block.{silence}
use Rattle.rules.specs.Answers.{Answer}
use Rattle.rules.specs.declared.Profile.{Profile}
use Rattle.rules.specs.Profile.{Reading}
use Rattle.rules.specs.declared.Receipt.{Receipt}
use Rattle.flo.specs.Calls.{AfterReading, receipt_of, Unread}

-- what a reading answers, without the profile
abbrev pub told : Reading → Answer
told a = record { number = a.number; place = a.place }

module _ {profile : List ℕ} (Refused : Answer → Type 0) (Rule : Profile → Type 0) (a : Reading) (e : a ≡ reading profile) where
  pub not-read : ¬ (a.number ≡ 0) → Refused (told a) → AfterReading profile Refused Rule
  not-read ne x =
      record {
        unread = λ _. subst Refused (ap told e) x;
        read = λ z. absurd (ne (ap (λ (r : Reading). r.number) e ∙ z));
      }

  pub was_read : a.number ≡ 0 → Rule a.profile → AfterReading profile Refused Rule
  was_read z x =
      record {
        unread = λ ne. absurd (ne (sym (ap (λ (r : Reading). r.number) e) ∙ z));
        read = λ _. subst Rule (ap (λ (r : Reading). r.profile) e) x;
      }

-- a silent receipt, handed over, is an unread profile's answer
pub unread-silent : {a m : Answer} {lost : ℕ} {reasons : List ℕ} (before : List ℕ) → receipt_of a lost reasons ≡ silence m
    → Unread before before lost reasons a m
unread-silent before e =
    (ap (λ (r : Receipt). record { number = r.number; place = r.place }) e, ap (λ (r : Receipt). r.lost) e, ap (λ (r : Receipt). r.reasons) e, refl)
