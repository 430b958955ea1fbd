-- Lanes and their bytes.
use Rattle.std.proofs.Common.{take, drop, ◌≡◌, ℕ, ◌^◌, ◌/◌, ◌%◌, zero, suc, ◌<◌, List, [], ◌∷◌, ◌++◌, length, get_or}
use Rattle.std.proofs.Common.{◌∙◌, ap, arith}
use Rattle.std.specs.Int.{w64, w128, from_be_bytes, to_be_bytes}
use Rattle.std.proofs.lemmas.List.{take_rest}
use Rattle.definitions.specs.Items.{IsBytes}
use Rattle.definitions.specs.Fingerprints.{IsLanes}
use Rattle.definitions.specs.Wire.{lanes_text, lanes_read}

number_fits : (bs : List ℕ) → ((i : ℕ) → get_or bs i 0 < 256) → from_be_bytes w128 bs < 2 ^ 128
number_fits bs fits = omega arith

take-fits : (k : ℕ) (bs : List ℕ) → IsBytes bs → IsBytes (take k bs)
take-fits zero bs fit = tt
take-fits (suc k) [] fit = tt
take-fits (suc k) (b ∷ bs) fit = (fit.0, take-fits k bs fit.1)

drop-fits : (k : ℕ) (bs : List ℕ) → IsBytes bs → IsBytes (drop k bs)
drop-fits zero bs fit = fit
drop-fits (suc k) [] fit = tt
drop-fits (suc k) (b ∷ bs) fit = drop-fits k bs fit.1

pub lanes_fit : ((bs : List ℕ) → IsBytes bs → (i : ℕ) → get_or bs i 0 < 256) → (bytes : List ℕ) → IsBytes bytes →
    IsLanes (lanes_read bytes)
lanes_fit reads bytes fit = record {
  first_fits = number_fits (take 16 bytes) (reads (take 16 bytes) (take-fits 16 bytes fit));
  second_fits = number_fits (drop 16 bytes) (reads (drop 16 bytes) (drop-fits 16 bytes fit));
}

-- the two halves of 32 bytes, read one by one
pub halves_back : (bytes : List ℕ) (a b : ℕ) → lanes_text (lanes_read bytes) ≡ bytes → length bytes ≡ 32 →
    a ≡ from_be_bytes w128 (take 16 bytes) → b ≡ from_be_bytes w128 (take 16 (drop 16 bytes)) →
    lanes_text (record { first = a; second = b }) ≡ bytes
halves_back bytes a b back len front rest =
    let half : take 16 (drop 16 bytes) ≡ drop 16 bytes = rw len at (take_rest bytes 16) in
    let whole : b ≡ from_be_bytes w128 (drop 16 bytes) = rest ∙ ap (from_be_bytes w128) half in
    (λ i. lanes_text (record { first = front i; second = whole i })) ∙ back

-- the bytes of a number are those of its two halves
pub halves_text : (n : ℕ) → to_be_bytes w64 (n / 2 ^ 64) ++ to_be_bytes w64 (n % 2 ^ 64) ≡ to_be_bytes w128 n
halves_text n =
    let df : n / 2 ^ 64 / 2 ^ 56 % 256 ≡ n / 2 ^ 120 % 256 = omega arith in
    let de : n / 2 ^ 64 / 2 ^ 48 % 256 ≡ n / 2 ^ 112 % 256 = omega arith in
    let dd : n / 2 ^ 64 / 2 ^ 40 % 256 ≡ n / 2 ^ 104 % 256 = omega arith in
    let dc : n / 2 ^ 64 / 2 ^ 32 % 256 ≡ n / 2 ^ 96 % 256 = omega arith in
    let db : n / 2 ^ 64 / 2 ^ 24 % 256 ≡ n / 2 ^ 88 % 256 = omega arith in
    let da : n / 2 ^ 64 / 2 ^ 16 % 256 ≡ n / 2 ^ 80 % 256 = omega arith in
    let d9 : n / 2 ^ 64 / 2 ^ 8 % 256 ≡ n / 2 ^ 72 % 256 = omega arith in
    let d8 : n / 2 ^ 64 % 256 ≡ n / 2 ^ 64 % 256 = omega arith in
    let d7 : (n % 2 ^ 64) / 2 ^ 56 % 256 ≡ n / 2 ^ 56 % 256 = omega arith in
    let d6 : (n % 2 ^ 64) / 2 ^ 48 % 256 ≡ n / 2 ^ 48 % 256 = omega arith in
    let d5 : (n % 2 ^ 64) / 2 ^ 40 % 256 ≡ n / 2 ^ 40 % 256 = omega arith in
    let d4 : (n % 2 ^ 64) / 2 ^ 32 % 256 ≡ n / 2 ^ 32 % 256 = omega arith in
    let d3 : (n % 2 ^ 64) / 2 ^ 24 % 256 ≡ n / 2 ^ 24 % 256 = omega arith in
    let d2 : (n % 2 ^ 64) / 2 ^ 16 % 256 ≡ n / 2 ^ 16 % 256 = omega arith in
    let d1 : (n % 2 ^ 64) / 2 ^ 8 % 256 ≡ n / 2 ^ 8 % 256 = omega arith in
    let d0 : (n % 2 ^ 64) % 256 ≡ n % 256 = omega arith in
    λ i. df i ∷ de i ∷ dd i ∷ dc i ∷ db i ∷ da i ∷ d9 i ∷ d8 i ∷ d7 i ∷ d6 i ∷ d5 i ∷ d4 i ∷ d3 i ∷ d2 i ∷ d1 i ∷ d0 i
    ∷ []
