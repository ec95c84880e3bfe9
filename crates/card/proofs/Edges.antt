-- The demands at the ends of their bounds, by numbers written out here: the last packet, byte, bit and cell, three wrong bits, as many lost as there is
-- parity, and one more. A demand with a narrower bound would not give these.
use mathlib.Core.Path.{◌≡◌, refl, sym, ap, ap₂, ◌∙◌}
use mathlib.Core.Bool.{true}
use mathlib.Core.List.{List, [], ◌∷◌}
use mathlib.Core.Logic.{◌⊎◌, inr, ◌↔◌}
use Prim.Native.Nat.{ℕ, suc, ◌+◌, ◌-◌, ◌*◌, ◌/◌, ◌%◌, ◌<◌, ◌≤◌}
use native.Mathlib.Decide.{dec_lt}
use native.Mathlib.Omega.{arith}
use lib.Dec.{T, eqb, eqb→eq, lit<, lit≤}
use lib.Ieee.{Float}
use lib.ListN.{length, get_or, get_or-eq_default}
use borrow.Author.Tests.{lt-ltb, eq-eqb, ne_eqb}
use Rattle.rules.specs.Bits.{row, differ}
use Rattle.rules.specs.Outer.{marked}
use Rattle.rules.specs.Modes.{mode, slot_bits, packet_bits, slots, symbols}
use Rattle.rules.specs.Points.{zero_part, first_part, second_part}
use Rattle.rules.specs.Profile.{only, faultless, Shape, reading, read_as, written}
use Rattle.rules.specs.Answers.{is_reason}
use Rattle.rules.specs.Block.{Cells, sent_cell, SendRule, SendSymbolRule, Accepted, ReceiveRule}
use Rattle.rules.specs.Pieces.{seen, is_state, asking_number, asking, FeedRule, AskRule, Fed}
use Rattle.rules.specs.Totals.{is_block, is_accepted, has_reason, counts, how_often, AddRule, Summed}
use Rattle.rules.specs.Totals.Reordered.{first, exchanged, again}
use Rattle.rules.specs.Demands.{InAgreement, bit_in_place, heard_in_place, sent_in_place, Doubtful, Lost, Members}
use Rattle.rules.specs.Answers.{Answer}
use Rattle.rules.specs.declared.Profile.{Profile}
use Rattle.rules.specs.declared.Receipt.{Receipt}
use Rattle.laws.specs.Every.{every-at}
use Rattle.profile.proofs.AtFault.{or-fine}
use Rattle.receiving.proofs.States.{is_state_lem, passes}
use Rattle.receiving.proofs.Fed.{Left, fed_left, left_state}
use Rattle.card.proofs.D1.{d1}
use Rattle.card.proofs.D2.{d2}
use Rattle.card.proofs.D3.{d3}
use Rattle.card.proofs.Twins.{no-twins}
use Rattle.card.proofs.Month.{whole_numbers}

-- the reason of the last packet is one of the table's
pub last-reason : (P : Profile) (marks : ℕ) (f s : List Float) (before after : List ℕ) (a : Receipt)
    → ReceiveRule P marks f s before after a
    → T (is_reason (row a.reasons 15))
last-reason P marks f s before after a r = (d1.receive P marks f s before after a r).1 15 (lit< tt)

pub last-asked : (P : Profile) (marks : ℕ) (state before after : List ℕ) (a : Receipt)
    → AskRule P marks state before after a
    → T (is_reason (row a.reasons 15))
last-asked P marks state before after a r = (d1.ask P marks state before after a r).1 15 (lit< tt)

-- after pieces that were fed, and with a faultless profile
module _ (P : Profile) (f s : List Float) (state : List ℕ) (t : T (faultless P)) (h : Fed (FeedRule P) f s state) where
  left : Left P f s state
  left = fed_left P h

  good : is_state P.mode state ≡ true
  good = sym (passes _ state ((is_state_lem _ state).0 (left_state P left)))

  module _ (f' s' : List Float) (after : List ℕ) (a : Answer) (r : FeedRule P f' s' state after a) where
    -- the piece that ends with the grid's last cell is taken, and one of a cell more is 16
    pub to_the_end : length f' ≡ length s' → length f + length f' ≡ 4096 * symbols P.mode → a.number ≡ 0
    to_the_end e q = (d2.takes P f s f' s' state after a t h r).1 (e, omega arith)

    pub one-cell-past : length f' ≡ length s' → length f + length f' ≡ 4096 * symbols P.mode + 1 → a ≡ only 16
    one-cell-past e q =
        let past : 4096 * symbols P.mode < seen state + length f' = omega (arith, left.firsts) in
        r.answer ∙ or-fine P _ t ∙ ap only (rw (good, eq-eqb _ _ e, lt-ltb _ _ past))

    -- lists of two lengths are 7, also past the end
    pub unequal : ¬ (length f' ≡ length s') → a ≡ only 7
    unequal ne = r.answer ∙ or-fine P _ t ∙ ap only (rw (good, ne_eqb _ _ ne))

  module _ (marks : ℕ) (before after : List ℕ) (a : Receipt) (r : AskRule P marks state before after a) where
    -- a number other than 0 that comes first is the answer's
    said-first : (q : ℕ) → ¬ (q ≡ 0) → asking_number P.mode P.k state (length before) ≡ q → a.number ≡ q
    said-first q ne e =
        let first : (asking P state (length before)).number ≡ q = ap (λ (b : Answer). b.number) (or-fine P _ t) ∙ e in
        ap (λ (b : Receipt). b.number) (r.refused (λ z. ne (sym first ∙ z))).0 ∙ first

    -- a wrong room is 6, also where cells are missing; with all cells but one it is 17
    pub wrong-room : ¬ (length before ≡ 122 * P.k) → a.number ≡ 6
    wrong-room ne = said-first 6 (λ z. omega arith) (rw (good, ne_eqb _ _ ne))

    pub one-cell-early : length before ≡ 122 * P.k → length f + 1 ≡ 4096 * symbols P.mode → a.number ≡ 17
    one-cell-early e q =
        let early : seen state < 4096 * symbols P.mode = omega (arith, left.firsts) in
        said-first 17 (λ z. omega arith) (rw (good, eq-eqb _ _ e, lt-ltb _ _ early))

-- cell 4095 of the last symbol y is the rules'
pub last-cell : (P : Profile) (d : List ℕ) (f s f' s' : List Float) (y : ℕ)
    → SendRule P d f s f' s' (only 0)
    → symbols P.mode ≡ suc y
    → (get_or f' (4096 * y + 4095) zero_part ≡ first_part (sent_cell P d y 4095))
    × (get_or s' (4096 * y + 4095) zero_part ≡ second_part (sent_cell P d y 4095))
last-cell P d f s f' s' y r e =
    let c = d2.cells P d f s f' s' (only 0) r refl in
    let at : 4096 * y + 4095 < 4096 * symbols P.mode = omega arith in
    let symbol : 0 + (4096 * y + 4095) / 4096 ≡ y = omega arith in
    let place : (4096 * y + 4095) % 4096 ≡ 4095 = omega arith in
    let cell : sent_cell P d (0 + (4096 * y + 4095) / 4096) ((4096 * y + 4095) % 4096) ≡ sent_cell P d y 4095 = ap₂ (sent_cell P d) symbol place in
    (c.firsts_are (4096 * y + 4095) at ∙ ap first_part cell, c.seconds_are (4096 * y + 4095) at ∙ ap second_part cell)

pub last-alone : (P : Profile) (d : List ℕ) (symbol : ℕ) (f s f' s' F S F' S' : List Float)
    → SendSymbolRule P d symbol f s f' s' (only 0)
    → SendRule P d F S F' S' (only 0)
    → (get_or f' 4095 zero_part ≡ get_or F' (4096 * symbol + 4095) zero_part) × (get_or s' 4095 zero_part ≡ get_or S' (4096 * symbol + 4095) zero_part)
last-alone P d symbol f s f' s' F S F' S' one all = d2.symbol_of_grid P d symbol f s f' s' F S F' S' 4095 one all (lit< tt)

-- where the last packet is accepted, byte 121 of the packet that has its bits is a byte, and its last bit is heard
pub last-accepted : (P : Profile) (marks : ℕ) (f s : List Float) (before after : List ℕ) (a : Receipt) (i : ℕ)
    → ReceiveRule P marks f s before after a
    → marked marks 15 ≡ 0
    → packet_bits P.mode ≡ suc i
    → Accepted a 15
    → (e : ℕ → ℕ) × (e 121 < 256) × (heard_in_place P f s 15 i ≡ bit_in_place P e 15 i)
last-accepted P marks f s before after a i r u long x =
    let q = (d2.accepts P marks f s before after a r x.0 15 (lit< tt) u).0 x in
    (q.0, q.1 121 (lit< tt), q.2 i (omega arith))

-- the last bit of the last packet is heard as it was sent
pub last-heard : (P : Profile) (d : List ℕ) (f s : List Float) (i : ℕ)
    → T (faultless P)
    → Cells P d 0 (symbols P.mode) f s
    → packet_bits P.mode ≡ suc i
    → heard_in_place P f s 15 i ≡ sent_in_place P d 15 i
last-heard P d f s i t c long = d3.heard_as_sent P d f s t c 15 i (lit< tt) (omega arith)

module _ (P : Profile) (d : List ℕ) (marks : ℕ) (f s : List Float) (before after : List ℕ) (a : Receipt)
    (t : T (faultless P))
    (long : length d ≡ 122 * P.k)
    (bytes : (i : ℕ) → row d i < 256)
    (room : length before ≡ 122 * P.k)
    (firsts : length f ≡ 4096 * symbols P.mode)
    (seconds : length s ≡ 4096 * symbols P.mode)
    -- the packets 0 to 15 are marked, or doubtful, or no more than three of their bits are decided wrongly
    (each : (p : ℕ)
    → p ≤ 15
    → (marked marks p ≡ 1)
    ⊎ (Doubtful P f s p ⊎ (differ (packet_bits P.mode) (heard_in_place P f s p) (sent_in_place P d p) ≤ 3)))
    (r : ReceiveRule P marks f s before after a) where
  all : ((p : ℕ) → p < 16 → (marked a.lost p ≡ 1) ↔ Lost P marks d f s p)
      × ((c : ℕ) → Members (Lost P marks d f s) 16 c → c ≤ 16 - P.k → (a.number ≡ 0) × (after ≡ d))
      × ((c : ℕ) → Members (Lost P marks d f s) 16 c → 16 - P.k < c → (a.number ≡ 9) × (after ≡ before))
  all =
      let q = d3.sent_and_received P d marks f s before after a t long bytes room firsts seconds
      (λ p l. each p (omega arith)) r in
      (q.0, q.2, q.3)

  -- the last packet too
  pub last-lost : (marked a.lost 15 ≡ 1) ↔ Lost P marks d f s 15
  last-lost = all.0 15 (lit< tt)

  -- as many as there is parity come back, and one more does not
  pub just_enough : Members (Lost P marks d f s) 16 (16 - P.k) → (a.number ≡ 0) × (after ≡ d)
  just_enough m = all.1 (16 - P.k) m (omega arith)

  pub one-too-many : Members (Lost P marks d f s) 16 (suc (16 - P.k)) → (a.number ≡ 9) × (after ≡ before)
  one-too-many m = all.2 (suc (16 - P.k)) m (omega arith)

-- the seeds that each mode uses
abbrev used : ℕ → ℕ
used = row (48 ∷ 32 ∷ 24 ∷ 16 ∷ 12 ∷ [])

slots-used : (m : ℕ) → m ≤ 4 → slots m ≡ used m
unfolding mode slot_bits packet_bits slots
slots-used m l = eqb→eq _ _ (every-at 5 (λ k. eqb (slots k) (used k)) tt m (omega arith))

-- a value whose masks and seeds have all 32 bits, each mode with the seeds that it uses: its bytes are read as the value is refused
pub all-bits : (P : Profile) → Shape P → P.mode ≤ 4
    → ((i : ℕ) → row P.masks i ≤ 0xFFFF_FFFF)
    → ((i : ℕ) → row P.seeds i ≤ 0xFFFF_FFFF)
    → ((i : ℕ) → used P.mode ≤ i → i < 48 → row P.seeds i ≡ 0)
    → reading (written P) ≡ read_as P
all-bits P S few a b rest =
    d2.written_out P S
    (record { masks = λ i. omega (arith, a i); seeds = λ i. omega (arith, b i); unused = λ i h. go i h (dec_lt i 48) })
  where
    go : (i : ℕ) → slots P.mode ≤ i → Dec (i < 48) → row P.seeds i ≡ 0
    go i h (yes l) = rest i (omega (arith, h, slots-used P.mode few)) l
    go i h (no l) = get_or-eq_default P.seeds 0 {n = i} (omega (arith, S.seeds))

-- the last slot of a faultless profile is no twin of another one in its symbol
pub last-slot : (P : Profile) (u t : ℕ) → P.mode ≤ 4 → T (faultless P)
    → used P.mode ≡ suc t
    → u < t
    → u / 7 ≡ t / 7
    → row P.seeds u ≡ row P.seeds t
    → ¬ (row P.masks (1 + u % 7) ≡ row P.masks (1 + t % 7))
last-slot P u t few r last less symbol seeds masks =
    ((no-twins.allowed P).0 r).1 t (omega (arith, slots-used P.mode few)) (u, less, symbol, seeds, masks)

-- the totals of the last position, and of the first: its blocks, its last reason
module _ (rs : List Receipt) (t : List ℕ) (s : Summed AddRule rs t) where
  pub last-position : (row t 120 ≡ how_often (is_accepted 15) rs) × (row t 127 ≡ how_often (has_reason 15 15) rs) × (row t 123 ≡ how_often (has_reason 11 15) rs)
  last-position =
      let h = (whole_numbers.counted rs t s).1 15 (lit< tt) in
      (h.accepted, h.reasons 15 (lit≤ tt) (lit≤ tt), h.reasons 11 (lit≤ tt) (lit≤ tt))

  pub received-blocks : (row t 0 + row t 1 + row t 2 ≡ how_often is_block rs) × (row t 120 + row t 121 + row t 122 ≡ how_often is_block rs)
  received-blocks = (((whole_numbers.counted rs t s).1 0 (lit< tt)).blocks, ((whole_numbers.counted rs t s).1 15 (lit< tt)).blocks)

  -- the last total that is full, in a block of which the mask is full
  pub full-total : (a : Receipt) (after : List ℕ) (n : ℕ)
      → AddRule t a after n
      → a.lost ≡ 65535
      → T (is_block a)
      → InAgreement a
      → how_often (counts 127) (a ∷ rs) ≡ 18446744073709551616
      → n ≡ 19
  full-total a after n r mask block agree full = (whole_numbers.says_19 rs t a after n (omega (arith, mask)) s r).1 (block, agree, (127, lit< tt, full))

-- the last packet's reason is looked at
pub last-disagrees : (before : List ℕ) (a : Receipt) (after : List ℕ) (n : ℕ)
    → AddRule before a after n
    → a.lost ≡ 65535
    → T (is_block a)
    → row a.reasons 15 ≡ 0
    → n ≡ 23
last-disagrees before a after n r mask block zero =
    let set : marked a.lost 15 ≡ 1 = ap (λ (m : ℕ). marked m 15) mask in
    (whole_numbers.says_23 before a after n (omega (arith, mask)) r).1 (block, inr (λ h. (h 15 (lit< tt)).1.0 set zero))

-- three receipts in the opposite order
pub turned_round : (a b c : Receipt) (t u : List ℕ)
    → Summed AddRule (a ∷ b ∷ c ∷ []) t
    → Summed AddRule (c ∷ b ∷ a ∷ []) u
    → t ≡ u
turned_round a b c t u =
    whole_numbers.one_total (a ∷ b ∷ c ∷ []) (c ∷ b ∷ a ∷ []) t u
    (again _ _ _ (exchanged a b (c ∷ []))
    (again _ _ _ (first b (a ∷ c ∷ []) (c ∷ a ∷ []) (exchanged a c [])) (exchanged b c (a ∷ []))))
