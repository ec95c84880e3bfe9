-- What is sent at any rate is a choice of places in the row of the four streams.
-- The streams are bits, and only the 994 bits that enter count.
use mathlib.Core.Path.{◌≡◌, refl, sym, ap, ap₂, ◌∙◌}
use Prim.Native.Nat.{ℕ, zero, suc, ◌+◌, ◌-◌, ◌*◌, ◌/◌, ◌%◌, ◌<◌, ◌≤◌}
use native.Mathlib.Nat.{zero-add, add-zero}
use native.Mathlib.Decide.{dec_lt}
use native.Mathlib.Omega.{arith}
use borrow.Author.Tests.{lt-ltb, le-ltb}
use Rattle.rules.specs.Turbo.{Output, Sent, X, Y0, X', Y'0, at, data_output, tail_output}
use Rattle.rules.specs.Turbo.{feedback, parity_of, shift, entering, state, y0, ending, data_length, coded_length, coded_bit, data_place}
use Rattle.rules.specs.declared.Rate.{Rate}
use Rattle.laws.specs.Filled.{pick-lt, pick-ge}
use Rattle.patterns.specs.Places.{stream_number, place_from, place}
use Rattle.patterns.proofs.Rates.{further, begun, output_of, end_of, place-data, place-tail, data-further, tail-further, own-place}
use Rattle.turbo.specs.Streams.{stream_of, period_of, stream}

-- an output's stream has its periods in order
stream_at : (x x' : ℕ → ℕ) (o : Output) (i : ℕ) → i < 997 → stream x x' (997 * stream_number o + i) ≡ period_of x x' o i
stream_at x x' o i lt =
    let quotient : (997 * stream_number o + i) / 997 ≡ stream_number o = omega arith in
    let rest : (997 * stream_number o + i) % 997 ≡ i = omega arith in
    ap₂ (period_of x x') (ap stream_of quotient ∙ named o) rest
  where
    named : (o : Output) → stream_of (stream_number o) ≡ o
    named X = refl
    named Y0 = refl
    named X' = refl
    named Y'0 = refl

-- a bit's outputs
pub stream-data : (x x' : ℕ → ℕ) (i : ℕ) (s : Sent) → i + further s < 994 → stream x x' (place_from i s) ≡ data_output x x' i s
unfolding period_of
stream-data x x' i (at o k) lt = stream_at x x' o (i + k) (omega arith) ∙ pick-lt (i + k) 994 _ _ lt ∙ moved o
  where
    moved : (o : Output) → data_output x x' (i + k) (at o 0) ≡ data_output x x' i (at o k)
    moved X = ap x (add-zero (i + k))
    moved Y0 = ap (y0 x) (add-zero (i + k))
    moved X' = ap x' (add-zero (i + k))
    moved Y'0 = ap (y0 x') (add-zero (i + k))

-- outputs of the three periods that end the encoders
pub stream-tail : (x x' : ℕ → ℕ) (s : Sent) → further s < 3 → stream x x' (place_from 994 s) ≡ tail_output x x' 994 s
unfolding period_of
stream-tail x x' (at o k) lt =
    let back : 994 + k - 994 ≡ k = omega arith in
    stream_at x x' o (994 + k) (omega arith) ∙ pick-ge (994 + k) 994 _ _ (omega arith) ∙ ap (λ (j : ℕ). tail_output x x' 994 (at o j)) back

-- bit n of what is sent stands in the streams, at its place
pub coded-stream : (R : Rate) (x x' : ℕ → ℕ) (n : ℕ) → n < coded_length R 994 → coded_bit R x x' 994 n ≡ stream x x' (place R n)
unfolding coded_bit
coded-stream R x x' n lt = go (dec_lt n (data_length R 994))
  where
    go : Dec (n < data_length R 994) → coded_bit R x x' 994 n ≡ stream x x' (place R n)
    go (yes h) =
        pick-lt n (data_length R 994) _ _ h ∙ sym (stream-data x x' (begun R n) (output_of R n) (data-further R n h))
        ∙ ap (stream x x') (sym (place-data R n h))
    go (no h) =
        let le : data_length R 994 ≤ n = omega arith in
        pick-ge n (data_length R 994) _ _ le ∙ sym (stream-tail x x' (end_of R n) (tail-further R n lt le)) ∙ ap (stream x x') (sym (place-tail R n le))

-- x's own bits begin the row, and each is sent
pub stream-own : (x x' : ℕ → ℕ) (i : ℕ) → i < 994 → stream x x' i ≡ x i
stream-own x x' i lt =
    let here : i ≡ place_from 0 (at X i) = omega arith in
    ap (stream x x') here ∙ stream-data x x' 0 (at X i) (omega arith) ∙ ap x (zero-add i)

pub own-coded : (R : Rate) (x x' : ℕ → ℕ) (i : ℕ) → i < 994 → coded_bit R x x' 994 (data_place R i) ≡ x i
own-coded R x x' i lt =
    let own = own-place R i lt in
    coded-stream R x x' (data_place R i) own.0 ∙ ap (stream x x') own.1 ∙ stream-own x x' i lt

-- ---- bits stay bits

pub stream-bit : (x x' : ℕ → ℕ) → ((i : ℕ) → i < 994 → x i < 2) → ((i : ℕ) → i < 994 → x' i < 2) → (k : ℕ) → stream x x' k < 2
unfolding period_of
stream-bit x x' h h' k = go (stream_of (k / 997)) (k % 997) (dec_lt (k % 997) 994)
  where
    data-bit : (o : Output) (i : ℕ) → i < 994 → data_output x x' i (at o 0) < 2
    data-bit X i lt = h (i + 0) (omega arith)
    data-bit Y0 i lt = omega arith
    data-bit X' i lt = h' (i + 0) (omega arith)
    data-bit Y'0 i lt = omega arith

    tail-bit : (o : Output) (i : ℕ) → tail_output x x' 994 (at o i) < 2
    tail-bit X i = omega arith
    tail-bit Y0 i = omega arith
    tail-bit X' i = omega arith
    tail-bit Y'0 i = omega arith

    go : (o : Output) (i : ℕ) → Dec (i < 994) → period_of x x' o i < 2
    go o i (yes lt) = rw (lt-ltb i 994 lt) (data-bit o i lt)
    go o i (no ge) = rw (le-ltb i 994 (omega arith)) (tail-bit o (i - 994))

-- ---- only the bits that enter count

state-same : (x y : ℕ → ℕ) (n : ℕ) → ((i : ℕ) → i < n → x i ≡ y i) → state x n ≡ state y n
unfolding state
state-same x y zero same = refl
state-same x y (suc n) same =
    ap₂ (λ (b s : ℕ). shift (entering b s) s) (same n (omega arith)) (state-same x y n (λ i lt. same i (omega arith)))

ending-same : (x y : ℕ → ℕ) (n k : ℕ) → ((i : ℕ) → i < n → x i ≡ y i) → ending x n k ≡ ending y n k
unfolding ending
ending-same x y n zero same = state-same x y n same
ending-same x y n (suc k) same = ap (shift 0) (ending-same x y n k same)

y0-same : (x y : ℕ → ℕ) (n : ℕ) → ((i : ℕ) → i < suc n → x i ≡ y i) → y0 x n ≡ y0 y n
y0-same x y n same =
    ap₂ (λ (b s : ℕ). parity_of (entering b s) s) (same n (omega arith)) (state-same x y n (λ i lt. same i (omega arith)))

pub stream-same : (x x' y y' : ℕ → ℕ)
    → ((i : ℕ) → i < 994 → x i ≡ y i)
    → ((i : ℕ) → i < 994 → x' i ≡ y' i)
    → (k : ℕ)
    → stream x x' k ≡ stream y y' k
unfolding period_of
stream-same x x' y y' e e' k = go (stream_of (k / 997)) (k % 997) (dec_lt (k % 997) 994)
  where
    data-same : (o : Output) (i : ℕ) → i < 994 → data_output x x' i (at o 0) ≡ data_output y y' i (at o 0)
    data-same X i lt = e (i + 0) (omega arith)
    data-same Y0 i lt = y0-same x y (i + 0) (λ k below. e k (omega arith))
    data-same X' i lt = e' (i + 0) (omega arith)
    data-same Y'0 i lt = y0-same x' y' (i + 0) (λ k below. e' k (omega arith))

    tail-same : (o : Output) (i : ℕ) → tail_output x x' 994 (at o i) ≡ tail_output y y' 994 (at o i)
    tail-same X i = ap feedback (ending-same x y 994 i e)
    tail-same Y0 i = ap (parity_of 0) (ending-same x y 994 i e)
    tail-same X' i = ap feedback (ending-same x' y' 994 i e')
    tail-same Y'0 i = ap (parity_of 0) (ending-same x' y' 994 i e')

    go : (o : Output) (i : ℕ) → Dec (i < 994) → period_of x x' o i ≡ period_of y y' o i
    go o i (yes lt) = rw (lt-ltb i 994 lt) (data-same o i lt)
    go o i (no ge) = rw (le-ltb i 994 (omega arith)) (tail-same o (i - 994))

-- the first half is the first encoder's, the second half the second's
pub stream-first : (x x' y : ℕ → ℕ) (k : ℕ) → k < 1994 → stream x x' k ≡ stream x y k
unfolding period_of
stream-first x x' y k lt = go (k / 997) (k % 997) (omega arith)
  where
    go : (q i : ℕ) → q < 2 → period_of x x' (stream_of q) i ≡ period_of x y (stream_of q) i
    go zero i h = refl
    go (suc zero) i h = refl
    go (suc (suc q)) i h = absurd (omega arith)

pub stream-second : (x x' y : ℕ → ℕ) (k : ℕ) → k < 1994 → stream x x' (1994 + k) ≡ stream x' y k
unfolding period_of
stream-second x x' y k lt =
    let quotient : (1994 + k) / 997 ≡ 2 + k / 997 = omega arith in
    let rest : (1994 + k) % 997 ≡ k % 997 = omega arith in
    ap₂ (λ (q i : ℕ). period_of x x' (stream_of q) i) quotient rest ∙ go (k / 997) (k % 997) (omega arith)
  where
    go : (q i : ℕ) → q < 2 → period_of x x' (stream_of (2 + q)) i ≡ period_of x' y (stream_of q) i
    go zero i h = refl
    go (suc zero) i h = refl
    go (suc (suc q)) i h = absurd (omega arith)
