-- A marked packet's reason is 11, whatever its bits are; another is judged.
use mathlib.Core.Path.{◌≡◌, refl, sym, ◌∙◌, ap}
use mathlib.Core.Bool.{Bool}
use mathlib.Core.List.{List}
use Prim.Native.Nat.{ℕ}
use native.Mathlib.Decide.{ℕ_discrete}
use native.Mathlib.Omega.{arith}
use lib.ListN.{length, replicate, length-replicate, get_or-replicate}
use borrow.Author.Tests.{eq-eqb, ne_eqb}
use Rattle.rules.specs.Bits.{pick, row}
use Rattle.rules.specs.Outer.{marked}
use Rattle.rules.specs.Block.{reason, verdict, decided_data, byte_of}
use Rattle.rules.specs.Answers.{Judgement}
use Rattle.laws.specs.Holds.{Holds, holds_as}
use Rattle.turbo.specs.Coded.{JudgingRule}
use Rattle.turbo.specs.Blocks.{kept_byte, Weighed}
use Rattle.turbo.proofs.blocks.weigh.Goals as goal

module _ (m mark : ℕ) (v : ℕ → ℕ) where
  marked-reason : mark ≡ 1 → reason m mark v ≡ 11
  unfolding reason
  marked-reason e = ap (λ (b : Bool). pick b 11 (verdict m v)) (eq-eqb mark 1 e)

  other-reason : ¬ (mark ≡ 1) → reason m mark v ≡ verdict m v
  unfolding reason
  other-reason ne = ap (λ (b : Bool). pick b 11 (verdict m v)) (ne_eqb mark 1 ne)

  -- the bytes of a packet that has a reason, and of one that has none
  bytes-lost : (l : List ℕ) → l ≡ replicate 122 0 → ¬ (reason m mark v ≡ 0) → Holds 0 122 (kept_byte m mark v) l
  bytes-lost l e ne =
      record {
        long = ap length e ∙ length-replicate {A = ℕ} 122 0;
        each = λ j lt.
            ap (λ (l : List ℕ). row l j) e ∙ get_or-replicate 122 j 0 0 lt
            ∙ sym (ap (λ (b : Bool). pick b (byte_of (decided_data m v) j) 0) (ne_eqb (reason m mark v) 0 ne));
      }

  bytes-kept : (l : List ℕ) → reason m mark v ≡ 0 → Holds 0 122 (byte_of (decided_data m v)) l → Holds 0 122 (kept_byte m mark v) l
  bytes-kept l e =
      holds_as 0 (kept_byte m mark v) (λ j lt. sym (ap (λ (b : Bool). pick b (byte_of (decided_data m v) j) 0) (eq-eqb (reason m mark v) 0 e)))

  weighed : (a : Judgement) → ¬ (mark ≡ 1) → JudgingRule m v a → Weighed m mark v a
  weighed a ne h = record { reason_is = is; bytes_are = go (ℕ_discrete a.reason 0) }
    where
      is : a.reason ≡ reason m mark v
      is = h.reason_is ∙ sym (other-reason ne)

      go : Dec (a.reason ≡ 0) → Holds 0 122 (kept_byte m mark v) a.bytes
      go (yes e) = bytes-kept a.bytes (sym is ∙ e) (h.accepted e)
      go (no z) = bytes-lost a.bytes (h.refused z) (λ e. z (is ∙ e))

pub returns-then-marks-p-eq1 : goal.returns-then-marks-p-eq1
returns-then-marks-p-eq1 c =
    let a = c.args in
    let is = marked-reason a.decoder.now.encoder.mode (marked a.marks a.p) (row a.v.now) c.if-marks-p-eq1.true in
    record { reason_is = sym is; bytes_are = bytes-lost a.decoder.now.encoder.mode (marked a.marks a.p) (row a.v.now) _ refl (λ e. omega arith) }

pub returns : goal.returns
returns c =
    let a = c.args in
    weighed a.decoder.now.encoder.mode (marked a.marks a.p) (row a.v.now) _ c.if-marks-p-eq1.false c.judge.ensures
