-- `judge_with` answers by the judging rule: the local array has the decided data, and each test is the rule's.
use mathlib.Core.Path.{◌≡◌, refl, sym, ap, ◌∙◌}
use mathlib.Core.Bool.{Bool, true}
use Rattle.std.specs.Prelude.{List, Err}
use Prim.Native.Nat.{ℕ, ◌≤◌, ◌<◌}
use native.Mathlib.Omega.{arith}
use lib.Dec.{ltb}
use lib.ListN.{length, take}
use Rattle.std.proofs.Common.{length-take-le, get_or-take}
use Rattle.rules.specs.Points.{doubtful}
use Rattle.laws.specs.Every.{every-same}
use Rattle.rules.specs.Bits.{row}
use Rattle.rules.specs.Modes.{packet_bits}
use Rattle.rules.specs.Slots.{coded, second}
use Rattle.rules.specs.Block.{verdict, byte_of, decided_data, check_right, reserved_right}
use Rattle.rules.specs.Answers.{reason_number, judgement_of}
use Rattle.rules.specs.declared.Reason.{Reason}
use Rattle.rules.specs.declared.Reason.TheVariants.{Doubtful, CheckWord, Reserved, Coded}
use Rattle.laws.specs.Holds.{Holds, holds_as}
use Rattle.laws.specs.Rows.{Bits}
use Rattle.laws.specs.Filled.{holds-bits}
use Rattle.packet.proofs.Bits.{check-same, reserved-same, byte-same, lowest-bytes}
use Rattle.turbo.specs.Coded.{JudgingRule, plain_bits, same_bits, sent_from}
use Rattle.turbo.specs.Streams.{stream}
use Rattle.turbo.proofs.Modes.{sent-same}
use Rattle.turbo.proofs.Accepted.{verdict-by, decided-bit}
use Rattle.turbo.proofs.Decoder.judge.Goals.{After-decided-x}
use Rattle.turbo.proofs.Decoder.judge.Goals as goal

-- a refusal, for a reason that is the verdict
refusal : (m : ℕ) (v : ℕ → ℕ) (r : Reason) → reason_number r ≡ verdict m v → (reason_number r ≡ 0 → ⊥) → JudgingRule m v (judgement_of (Err r))
refusal m v r e not = record { reason_is = e; accepted = λ zero. absurd (not zero); refused = λ ne. refl }

-- ---- what is known on the way

-- the bits of the part that is lent are those of the whole
plain-front : (n : ℕ) (v : List ℕ) → n ≤ length v → plain_bits (length (take n v)) (row (take n v)) ≡ plain_bits n (row v)
plain-front n v le =
    ap (λ (k : ℕ). plain_bits k (row (take n v))) (length-take-le n v le)
    ∙ every-same n (λ i. ltb (row (take n v) i) doubtful) (λ i. ltb (row v i) doubtful)
    (λ i lt. ap (λ (b : ℕ). ltb b doubtful) (get_or-take n v i 0 lt))

plain-is : (m : ℕ) (v : List ℕ) {n : ℕ} {b : Bool} → n ≡ packet_bits m → packet_bits m ≤ length v
    → b ≡ plain_bits (length (take n v)) (row (take n v)) → plain_bits (packet_bits m) (row v) ≡ b
plain-is m v {n} e le f = ap (λ (k : ℕ). plain_bits k (row v)) (sym e) ∙ sym (f ∙ plain-front n v (omega arith))

-- the local array has the decided data, which are bits
module _ (c : After-decided-x) where
  abbrev m : ℕ
  m = c.args.self.now.encoder.mode

  abbrev v : ℕ → ℕ
  v = row c.args.v.now

  abbrev own : ℕ → ℕ
  own = decided_data m v

  plain-passed : plain_bits (packet_bits m) v ≡ true
  plain-passed = plain-is m c.args.v.now c.packet_bits.ensures.0 c.requires c.plain.ensures ∙ c.if-not-plain.false

  has : Holds 0 994 own c.decided-x.result
  has = c.decided-x.ensures

  own-bit : (i : ℕ) → i < 994 → own i < 2
  own-bit = decided-bit m v (rw plain-passed tt)

  bits : Bits c.decided-x.result
  bits = holds-bits 994 own c.decided-x.result own-bit has

  -- the other tests
  check-is : {b : Bool} → b ≡ check_right (row c.decided-x.result) → check_right own ≡ b
  check-is e = sym (e ∙ check-same (row c.decided-x.result) own has.each)

  reserved-is : {b : Bool} → b ≡ reserved_right (row c.decided-x.result) → reserved_right own ≡ b
  reserved-is e = sym (e ∙ reserved-same (row c.decided-x.result) own has.each)

  same-is : {s : List ℕ} {b : Bool} → Holds 0 3988 (stream (row c.decided-x.result) (second (row c.decided-x.result))) s
      → b ≡ same_bits (packet_bits m) v (sent_from m (row s)) → same_bits (packet_bits m) v (coded m own) ≡ b
  same-is {s} h e = sym (e ∙ sent-same m v (row c.decided-x.result) own (row s) h.each has.each)

pub returns-then-not-plain : goal.returns-then-not-plain
returns-then-not-plain c =
    let m = c.args.self.now.encoder.mode in
    let v = c.args.v.now in
    refusal m (row v) Doubtful
    (verdict-by m (row v) (plain-is m v c.packet_bits.ensures.0 c.requires c.plain.ensures ∙ c.if-not-plain.true) refl refl refl)
    (λ e. omega arith)

pub returns-then-not-check_right : goal.returns-then-not-check_right
returns-then-not-check_right c =
    let d = (goal.at.returns-then-not-check_right c).After-decided-x in
    refusal (m d) (v d) CheckWord
    (verdict-by (m d) (v d) (plain-passed d) (check-is d c.check_right.ensures ∙ c.if-not-check_right.true) refl refl) (λ e. omega arith)

pub returns-then-not-reserved_right : goal.returns-then-not-reserved_right
returns-then-not-reserved_right c =
    let d = (goal.at.returns-then-not-reserved_right c).After-decided-x in
    refusal (m d) (v d) Reserved
    (verdict-by (m d) (v d) (plain-passed d) (check-is d c.check_right.ensures ∙ c.if-not-check_right.false)
    (reserved-is d c.reserved_right.ensures ∙ c.if-not-reserved_right.true) refl)
    (λ e. omega arith)

pub streams-requires : goal.streams-requires
streams-requires c = bits (goal.at.streams-requires c).After-decided-x

pub returns-then-not-sends : goal.returns-then-not-sends
returns-then-not-sends c =
    let d = (goal.at.returns-then-not-sends c).After-decided-x in
    refusal (m d) (v d) Coded
    (verdict-by (m d) (v d) (plain-passed d) (check-is d c.check_right.ensures ∙ c.if-not-check_right.false)
    (reserved-is d c.reserved_right.ensures ∙ c.if-not-reserved_right.false) (same-is d c.streams.ensures c.sends.ensures ∙ c.if-not-sends.true))
    (λ e. omega arith)

pub returns : goal.returns
returns c =
    let x : ℕ → ℕ = row c.decided-x.result in
    let d = (goal.at.returns c).After-decided-x in
    record {
      reason_is =
          verdict-by (m d) (v d) (plain-passed d) (check-is d c.check_right.ensures ∙ c.if-not-check_right.false)
          (reserved-is d c.reserved_right.ensures ∙ c.if-not-reserved_right.false) (same-is d c.streams.ensures c.sends.ensures ∙ c.if-not-sends.false);
      accepted = λ e.
          holds_as 0 (byte_of (own d)) (λ j lt. lowest-bytes x (λ i l. bits d i) j lt ∙ byte-same x (own d) (has d).each j lt) c.bytes_of.ensures;
      refused = λ ne. absurd (ne refl);
    }
