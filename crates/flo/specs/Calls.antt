-- The C calls: what reading the profile answers comes first, then the call's own rule. Results through pointers are written at every return.
use Rattle.std.specs.Prelude.{◌≡◌, List, ℕ, Float, replicate}
use Rattle.rules.specs.Profile.{only, reading, writing}
use Rattle.rules.specs.Outer.{ParityMade}
use Rattle.rules.specs.Block.{SendRule, SendSymbolRule, ReceiveRule}
use Rattle.rules.specs.Pieces.{FeedRule, AskRule}
use Rattle.rules.specs.Compare.{grids, CompareRule}
use Rattle.rules.specs.Totals.{AddRule}
use Rattle.rules.specs.Answers.{Answer}
use Rattle.rules.specs.declared.Profile.{Profile}
use Rattle.rules.specs.declared.Receipt.{Receipt}

-- what reading a profile answers, without the profile
abbrev pub refusal : List ℕ → Answer
refusal profile = record { number = (reading profile).number; place = (reading profile).place }

-- what a call does after reading: where that was refused, with the refusal, else with the profile that was read
pub record AfterReading (profile : List ℕ) (Refused : Answer → Type 0) (Rule : Profile → Type 0) : Type 0 where
  pub unread : ¬ ((reading profile).number ≡ 0) → Refused (refusal profile)
  pub read : (reading profile).number ≡ 0 → Rule (reading profile).profile

abbrev pub FloSend : List ℕ → List ℕ → List Float → List Float → List Float → List Float → Answer → Type 0
FloSend profile d f s f' s' a =
    AfterReading profile (λ m. (a ≡ m) × (f' ≡ f) × (s' ≡ s)) (λ P. SendRule P d f s f' s' a)

abbrev pub FloSendSymbol : List ℕ → List ℕ → ℕ → List Float → List Float → List Float → List Float → Answer → Type 0
FloSendSymbol profile d symbol f s f' s' a =
    AfterReading profile (λ m. (a ≡ m) × (f' ≡ f) × (s' ≡ s)) (λ P. SendSymbolRule P d symbol f s f' s' a)

-- a receipt from what comes back through the pointers
abbrev pub receipt_of : Answer → ℕ → List ℕ → Receipt
receipt_of a lost reasons = record { number = a.number; place = a.place; lost = lost; reasons = reasons }

-- an unread profile's answer to a receive, and to a question
abbrev pub Unread : List ℕ → List ℕ → ℕ → List ℕ → Answer → Answer → Type 0
Unread before after lost reasons a m = (a ≡ m) × (lost ≡ 0) × (reasons ≡ replicate 16 0) × (after ≡ before)

abbrev pub FloReceive : List ℕ → ℕ → List Float → List Float → List ℕ → List ℕ → ℕ → List ℕ → Answer → Type 0
FloReceive profile marks f s before after lost reasons a =
    AfterReading profile (Unread before after lost reasons a) (λ P. ReceiveRule P marks f s before after (receipt_of a lost reasons))

abbrev pub FloFeed : List ℕ → List Float → List Float → List ℕ → List ℕ → Answer → Type 0
FloFeed profile f s before after a = AfterReading profile (λ m. (a ≡ m) × (after ≡ before)) (λ P. FeedRule P f s before after a)

abbrev pub FloAsk : List ℕ → ℕ → List ℕ → List ℕ → List ℕ → ℕ → List ℕ → Answer → Type 0
FloAsk profile marks state before after lost reasons a =
    AfterReading profile (Unread before after lost reasons a) (λ P. AskRule P marks state before after (receipt_of a lost reasons))

pub record FloReadProfile (profile masks : List ℕ) (level : Float) (mode k : ℕ) (seeds : List ℕ) (floor : Float) (a : Answer) : Type 0 where
  pub answer : a ≡ refusal profile
  pub value : (reading profile).profile ≡ record { masks = masks; level = level; mode = mode; k = k; seeds = seeds; floor = floor }

pub record FloWriteProfile (masks : List ℕ) (level : Float) (mode k : ℕ) (seeds : List ℕ) (floor : Float) (profile : List ℕ) (count : ℕ) (a : Answer) : Type 0 where
  pub answer : writing (record { masks = masks; level = level; mode = mode; k = k; seeds = seeds; floor = floor })
      ≡ record { number = a.number; place = a.place; bytes = profile; count = count }

abbrev pub FloParity : ℕ → List ℕ → List ℕ → ℕ → Type 0
FloParity = ParityMade

-- without a profile: the rule itself, from symbol 0 on, with the answer from what comes back
abbrev pub FloCompare : List ℕ → List ℕ → List ℕ → List ℕ → List ℕ → List ℕ → ℕ → ℕ → Type 0
FloCompare fa sa fb sb before after count n = CompareRule 0 (grids fa sa fb sb) before after (record { number = n; count = count })

-- without a profile: the rule itself, for a receipt of number, mask and reasons, whose place does not count
abbrev pub FloAdd : List ℕ → ℕ → ℕ → List ℕ → List ℕ → ℕ → Type 0
FloAdd before number lost reasons after n = AddRule before (receipt_of (only number) lost reasons) after n

-- adding what a receipt has, by that call
abbrev pub FloAdds : List ℕ → Receipt → List ℕ → ℕ → Type 0
FloAdds before a after n = FloAdd before a.number a.lost a.reasons after n
