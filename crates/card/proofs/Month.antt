-- Req 09: totals over blocks. What our own receiver answers agrees with itself, so it is never refused with 23.
use mathlib.Core.Path.{◌≡◌, refl, sym, subst}
use mathlib.Core.List.{List}
use Prim.Native.Nat.{ℕ, ◌*◌, ◌<◌}
use native.Mathlib.Decide.{ℕ_discrete}
use lib.Dec.{T, eqb}
use lib.Ieee.{Float}
use lib.Ieee.Fits.{and_i}
use lib.ListN.{length}
use borrow.Author.Tests.{eq-eqb}
use Rattle.rules.specs.Bits.{row, every_below}
use Rattle.rules.specs.Answers.{is_reason}
use Rattle.rules.specs.Block.{lost_mask, early, Answered, ReceiveRule}
use Rattle.rules.specs.Modes.{symbols}
use Rattle.rules.specs.Pieces.{asking, AskRule}
use Rattle.rules.specs.Totals.{agrees}
use Rattle.rules.specs.Demands.{WholeNumbers}
use Rattle.rules.specs.Answers.{Answer}
use Rattle.rules.specs.declared.Profile.{Profile}
use Rattle.rules.specs.declared.Receipt.{Receipt}
use Rattle.laws.specs.Every.{every_of}
use Rattle.adding.proofs.Sums.{any_order, one_total}
use Rattle.adding.proofs.Positions.{counted}
use Rattle.adding.proofs.Answers.{told, no_block, says_23, says_19, never-23, one_adding}
use Rattle.card.proofs.D1.{d1}

-- a refusal is silent, and else the mask is that of the reasons
own-mask : (P : Profile) (marks : ℕ) (n : Answer) (v : ℕ → ℕ) (before after : List ℕ) (a : Receipt)
    → Answered P marks n v before after a
    → a.lost ≡ lost_mask 16 (row a.reasons)
own-mask P marks n v before after a r = go (ℕ_discrete n.number 0)
  where
    go : Dec (n.number ≡ 0) → a.lost ≡ lost_mask 16 (row a.reasons)
    go (yes e) = (r.judged e).lost_is
    go (no ne) = subst (λ (b : Receipt). b.lost ≡ lost_mask 16 (row b.reasons)) (sym (r.refused ne).0) refl

own-agrees : (a : Receipt) → a.lost ≡ lost_mask 16 (row a.reasons) → ((p : ℕ) → p < 16 → T (is_reason (row a.reasons p))) → T (agrees a)
own-agrees a mask known =
    and_i (eqb a.lost (lost_mask 16 (row a.reasons))) (every_below 16 (λ p. is_reason (row a.reasons p)))
    (subst T (sym (eq-eqb a.lost (lost_mask 16 (row a.reasons)) mask)) tt) (every_of 16 (λ p. is_reason (row a.reasons p)) known)

pub received-agrees : (P : Profile) (marks : ℕ) (f s : List Float) (before after : List ℕ) (a : Receipt)
    → ReceiveRule P marks f s before after a
    → T (agrees a)
received-agrees P marks f s before after a r =
    own-agrees a (own-mask P marks (early P (length before) (length f) (length s) (4096 * symbols P.mode)) _ before after a r)
    (d1.receive P marks f s before after a r).1

pub asked-agrees : (P : Profile) (marks : ℕ) (state before after : List ℕ) (a : Receipt) → AskRule P marks state before after a → T (agrees a)
asked-agrees P marks state before after a r =
    own-agrees a (own-mask P marks (asking P state (length before)) _ before after a r) (d1.ask P marks state before after a r).1

pub whole_numbers : WholeNumbers
whole_numbers =
    record {
      told = told;
      counted = counted;
      any_order = any_order;
      one_total = one_total;
      no_block = no_block;
      says_23 = λ before a after n small r. says_23 before a after n r small;
      says_19 = λ rs before a after n small s r. says_19 before a after n r rs s small;
      received = λ P marks f s before after a t t' n rule long r. never-23 t a t' n r long (received-agrees P marks f s before after a rule);
      asked = λ P marks state before after a t t' n rule long r. never-23 t a t' n r long (asked-agrees P marks state before after a rule);
      one_adding = one_adding;
    }
