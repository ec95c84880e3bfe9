-- What it tells that a symbol can be written.
use mathlib.Core.Path.{◌≡◌, sym, ◌∙◌, subst}
use mathlib.Core.Bool.{Bool, true, ◌&&◌}
use mathlib.Core.List.{List}
use Prim.Native.Nat.{ℕ, ◌*◌, ◌<◌}
use lib.Dec.{T, eqb, ltb, eqb→eq, ltb→lt}
use lib.Ieee.{Float}
use lib.Ieee.Fits.{and_l, and_r}
use lib.ListN.{length}
use borrow.Author.Tests.{lt-ltb, eq-eqb}
use Rattle.rules.specs.Modes.{slots, slot_bits, symbols}
use Rattle.cells.specs.Symbol.{fitting, Written, WriteRule}

module _ (m symbol bits firsts seconds : ℕ) where
  pub record Fits : Type 0 where
    pub firsts_long : firsts ≡ 4096
    pub seconds_long : seconds ≡ 4096
    pub in_grid : symbol < symbols m
    pub bits_long : bits ≡ slot_bits m * slots m

  pub fits : fitting m symbol bits firsts seconds ≡ true → Fits
  fits e =
      let last = eqb bits (slot_bits m * slots m) in
      let all = subst (λ (b : Bool). T b) (sym e) tt in
      let after-firsts = and_r (eqb firsts 4096) (eqb seconds 4096 && (ltb symbol (symbols m) && last)) all in
      let after-seconds = and_r (eqb seconds 4096) (ltb symbol (symbols m) && last) after-firsts in
      record {
        firsts_long = eqb→eq _ _ (and_l (eqb firsts 4096) (eqb seconds 4096 && (ltb symbol (symbols m) && last)) all);
        seconds_long = eqb→eq _ _ (and_l (eqb seconds 4096) (ltb symbol (symbols m) && last) after-firsts);
        in_grid = ltb→lt _ _ (and_l (ltb symbol (symbols m)) last after-seconds);
        bits_long = eqb→eq _ _ (and_r (ltb symbol (symbols m)) last after-seconds);
      }

  pub fit : Fits → fitting m symbol bits firsts seconds ≡ true
  fit h =
      rw (
        eq-eqb firsts 4096 h.firsts_long,
        eq-eqb seconds 4096 h.seconds_long,
        lt-ltb symbol (symbols m) h.in_grid,
        eq-eqb bits (slot_bits m * slots m) h.bits_long,
      )

-- what fits is written
pub write_done : {m : ℕ} {level : Float} {bits : List ℕ} {symbol : ℕ} {firsts seconds firsts' seconds' : List Float} {r : Bool}
    → WriteRule m level bits symbol firsts seconds firsts' seconds' r
    → Fits m symbol (length bits) (length firsts) (length seconds)
    → Written m level bits symbol firsts' seconds'
write_done w h = w.done (w.answer ∙ fit _ _ _ _ _ h)
