-- A receipt's place does not count: receipts that are the same but for it are added alike.
use mathlib.Core.Path.{◌≡◌, refl, sym, ap, ◌∙◌}
use mathlib.Core.Bool.{Bool}
use mathlib.Core.List.{List}
use Prim.Native.Nat.{ℕ, zero, suc, ◌+◌, ◌/◌, ◌%◌}
use lib.ListN.{length}
use Rattle.rules.specs.Bits.{pick, row}
use Rattle.rules.specs.Totals.{counts, plus, AddRule}
use Rattle.rules.specs.declared.Receipt.{Receipt}
use Rattle.adding.proofs.Counting.{at, counts-kind, plus-long, plus-at, plus-holds}
use Rattle.adding.proofs.Numbers.{number_same}

abbrev placeless : Receipt → Receipt
placeless a = record { number = a.number; place = 0; lost = a.lost; reasons = a.reasons }

at_same : (p k : ℕ) (a : Receipt) → at p k (placeless a) ≡ at p k a
at_same p zero a = refl
at_same p (suc zero) a = refl
at_same p (suc (suc zero)) a = refl
at_same p (suc (suc (suc zero))) a = refl
at_same p (suc (suc (suc (suc zero)))) a = refl
at_same p (suc (suc (suc (suc (suc zero))))) a = refl
at_same p (suc (suc (suc (suc (suc (suc zero)))))) a = refl
at_same p (suc (suc (suc (suc (suc (suc (suc zero))))))) a = refl
at_same p (suc (suc (suc (suc (suc (suc (suc (suc k)))))))) a = refl

counts_same : (i : ℕ) (a : Receipt) → counts i (placeless a) ≡ counts i a
counts_same i a = counts-kind i (placeless a) (i % 8) refl ∙ at_same (i / 8) (i % 8) a ∙ sym (counts-kind i a (i % 8) refl)

plus-same : (t : List ℕ) (a : Receipt) → plus t (placeless a) ≡ plus t a
plus-same t a =
    plus-holds t (plus t (placeless a)) a (length t) refl
    (record {
      long = plus-long t (placeless a);
      each = λ i lt. plus-at t (placeless a) i lt ∙ ap {B = ℕ} (λ (b : Bool). row t i + pick b 1 0) (counts_same i a);
    })

pub with-place : (t : List ℕ) (a : Receipt) (t' : List ℕ) (n : ℕ) → AddRule t (placeless a) t' n → AddRule t a t' n
with-place t a t' n r =
    record {
      number = r.number ∙ number_same t (placeless a) a refl refl (plus-same t a);
      added = λ z. r.added z ∙ plus-same t a;
      kept = r.kept;
    }
