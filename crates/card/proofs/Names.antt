-- An answer names a fault of the profile exactly where it has one, and then it is that: for each call's rule.
use mathlib.Core.Path.{◌≡◌, ap, ◌∙◌}
use mathlib.Core.Bool.{Bool, true, false, not, ◌&&◌}
use mathlib.Core.List.{List}
use Prim.Native.Nat.{ℕ, ◌*◌}
use native.Mathlib.Decide.{ℕ_discrete}
use lib.Dec.{T, eqb, ltb}
use Rattle.rules.specs.Bits.{pick}
use Rattle.rules.specs.Answers.{names_fault}
use Rattle.rules.specs.Profile.{only, ◌or◌, fault}
use Rattle.rules.specs.Block.{lengths, early, Answered}
use Rattle.rules.specs.Demands.{Names}
use Rattle.rules.specs.Answers.{Answer}
use Rattle.rules.specs.declared.Profile.{Profile}
use Rattle.rules.specs.declared.Receipt.{Receipt}
use Rattle.profile.proofs.AtFault.{or_assoc, only-or, or-number, named-unread, fault-names}
use Rattle.receiving.proofs.Fed.{delivered-read}

-- ---- the numbers after the profile's: those of lengths, and with one symbol's

-- what holds of 6, 7 and 0 holds of the number for lengths
pub lengths-each : (A : ℕ → Type 0) → A 6 → A 7 → A 0 → (k bytes firsts seconds cells : ℕ) → A (lengths k bytes firsts seconds cells)
lengths-each A p q z k bytes firsts seconds cells = go (not (eqb bytes (122 * k))) (not (eqb firsts cells && eqb seconds cells))
  where
    go : (b c : Bool) → A (pick b 6 (pick c 7 0))
    go true c = p
    go false true = q
    go false false = z

-- one symbol's: the number for lengths, else 8 where the symbol is outside the grid
abbrev pub symbol_number : ℕ → ℕ → ℕ → ℕ → ℕ → ℕ → ℕ
symbol_number k bytes firsts seconds symbol n = pick (eqb (lengths k bytes firsts seconds 4096) 0) (pick (ltb symbol n) 0 8) (lengths k bytes firsts seconds 4096)

pub symbol-each : (A : ℕ → Type 0) → A 6 → A 7 → A 8 → A 0 → (k bytes firsts seconds symbol n : ℕ)
    → A (symbol_number k bytes firsts seconds symbol n)
symbol-each A p q r z k bytes firsts seconds symbol n =
    go (eqb (lengths k bytes firsts seconds 4096) 0) (ltb symbol n) (lengths-each A p q z k bytes firsts seconds 4096)
  where
    go : (b c : Bool) → A (lengths k bytes firsts seconds 4096) → A (pick b (pick c 0 8) (lengths k bytes firsts seconds 4096))
    go true true h = z
    go true false h = r
    go false c h = h

pub symbol-answer : (P : Profile) (bytes firsts seconds symbol n : ℕ)
    → early P bytes firsts seconds 4096 or only (pick (ltb symbol n) 0 8) ≡ fault P or only (symbol_number P.k bytes firsts seconds symbol n)
symbol-answer P bytes firsts seconds symbol n =
    let m = lengths P.k bytes firsts seconds 4096 in
    or_assoc (fault P) (only m) (only (pick (ltb symbol n) 0 8)) ∙ ap (λ (a : Answer). fault P or a) (only-or m (pick (ltb symbol n) 0 8))

-- ---- a receipt

-- a receipt's number and place
abbrev pub answer_of : Receipt → Answer
answer_of a = record { number = a.number; place = a.place }

pub answered-names : (P : Profile) (marks k : ℕ) (v : ℕ → ℕ) (before after : List ℕ) (a : Receipt)
    → ¬ T (names_fault k)
    → Answered P marks (fault P or only k) v before after a
    → Names P (answer_of a)
answered-names P marks k v before after a not r = go (ℕ_discrete (fault P or only k).number 0)
  where
    go : Dec ((fault P or only k).number ≡ 0) → Names P (answer_of a)
    go (yes z) =
        let range = ((or-number P k 0 (λ t. t)).0 z).0 in (
          ((λ t. absurd (named-unread a.number t (delivered-read (r.judged z).delivered))), (λ o. absurd (o range))),
          λ o. absurd (o range),
        )
    go (no ne) = fault-names P k (answer_of a) not (ap answer_of (r.refused ne).0)
