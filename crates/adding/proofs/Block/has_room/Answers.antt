-- What `all` answers, as whether each total below 128 has room.
use mathlib.Core.Path.{◌≡◌, sym, subst, ap, ◌∙◌}
use mathlib.Core.Bool.{Bool, true, false}
use mathlib.Core.List.{List}
use Prim.Native.Nat.{ℕ, ◌-◌, ◌^◌, ◌<◌}
use native.Mathlib.Nat.{zero-add}
use native.Mathlib.Omega.{arith}
use lib.Dec.{T, ltb}
use lib.Ieee.Bits.{is_true}
use lib.ListN.{length, get_or}
use Rattle.std.proofs.Common.{rules, tests}
use Rattle.std.specs.Bool.{MatchBool}
use Rattle.std.specs.List.{AllWithin, HoldsAt, enumerate_from}
use Rattle.std.proofs.lemmas.Iterator.{cases_from_all, YieldsList-from_slice}
use Rattle.std.proofs.lemmas.Iterator.Consumers.{YieldsList-from_enumerate}
use Rattle.std.proofs.lemmas.List.FromFn.{length-enumerate_from, get_or-enumerate_from}
use Rattle.rules.specs.Bits.{row}
use Rattle.rules.specs.Totals.{counts, plus, fits}
use Rattle.rules.specs.declared.Receipt.{Receipt}
use Rattle.laws.specs.Every.{every_of, every-fails}
use Rattle.adding.proofs.Counting.{full, room}
use Rattle.adding.proofs.Block.has_room.Goals as goal

module _ (a : Receipt) where
  -- a total, by its number, has room, and it is full
  abbrev Roomy : ℕ × ℕ → Type 0
  Roomy p = p.1 ≡ 2 ^ 64 - 1 → counts p.0 a ≡ false

  abbrev Full : ℕ × ℕ → Type 0
  Full p = (p.1 ≡ 2 ^ 64 - 1) × (counts p.0 a ≡ true)

  all-room : (t : List ℕ) (r : Bool) → length t ≡ 128 → ((i : ℕ) → row t i < 2 ^ 64)
      → MatchBool r (AllWithin Roomy (enumerate_from 0 t) 0 (length (enumerate_from 0 t))) ((k : ℕ) × (k < length (enumerate_from 0 t)) × HoldsAt Full (enumerate_from 0 t) k)
      → r ≡ fits (plus t a)
  unfolding fits
  all-room t r long small = go r
    where
      roomy : ℕ → Bool
      roomy i = ltb (row (plus t a) i) (2 ^ 64)

      at : (i : ℕ) → i < length t → get_or (enumerate_from 0 t) i (0, 0) ≡ (i, row t i)
      at i lt = get_or-enumerate_from 0 t i (0, 0) lt ∙ ap (λ (k : ℕ). (k, row t i)) (zero-add i)

      each : ((i : ℕ) → i < length t → Roomy (get_or (enumerate_from 0 t) i (0, 0))) → (i : ℕ) → i < 128 → T (roomy i)
      each all i lt =
          let here : i < length t = omega (arith, long, lt) in
          subst T (sym (room t a i here (small i) (subst Roomy (at i here) (all i here)))) tt

      go : (r : Bool)
          → MatchBool r (AllWithin Roomy (enumerate_from 0 t) 0 (length (enumerate_from 0 t))) ((k : ℕ) × (k < length (enumerate_from 0 t)) × HoldsAt Full (enumerate_from 0 t) k)
          → r ≡ fits (plus t a)
      go true all = sym (is_true (fits (plus t a)) (every_of 128 roomy (each (λ i lt. all i (0, 0) (omega arith) (omega (arith, lt, length-enumerate_from 0 t))))))
      go false some =
          let here : some.0 < length t = omega (arith, some.1, length-enumerate_from 0 t) in
          let h = subst Full (at some.0 here) (some.2 (0, 0)) in
          sym (every-fails 128 roomy some.0 (omega (arith, long, here)) (full t a some.0 here h.0 h.1))

pub returns : goal.returns
returns c =
    let a = c.args.self.receipt in
    all-room a c.args.totals.now c.all.result c.requires (search rules)
    (cases_from_all _ _ _ (Roomy a) (Full a) c.all.ensures.ran (YieldsList-from_enumerate (YieldsList-from_slice c.args.totals.now (cc)) (cc)) (λ x q k. search (rules, tests)) (λ x q k. search (rules, tests)))
