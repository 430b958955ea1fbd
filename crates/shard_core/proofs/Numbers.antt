-- The number of an item's shard is below 2 ^ b.
use Rattle.std.proofs.Common.{◌≡◌, ℕ, ◌+◌, ◌-◌, ◌*◌, ◌/◌, ◌^◌, ◌<◌, ◌≤◌, List, take, sym, ap, subst, ◌∙◌, arith}
use Rattle.std.proofs.Math.Pow.{pow_mono}
use Rattle.std.proofs.Math.Nat.{div-lt_iff_lt-mul}
use Rattle.std.proofs.lemmas.Nat.{pow-add, pow_pos}
use Rattle.std.specs.Int.{w16, from_be_bytes}
use Rattle.sha2.specs.Sha256.{sha256, digest_bytes, final_hash, initial_hash_256}
use Rattle.definitions.specs.Items.{Item}
use Rattle.shard_core.specs.Shards.{shard_number}

pub few : (b : ℕ) → b ≤ 12 → 2 ^ b ≤ 4096
few b low = pow_mono {i = b} {j = 12} low

-- the first two bytes of the bytes of any eight words
front_of_words : (h : List ℕ) → from_be_bytes w16 (take 2 (digest_bytes h 8)) < 2 ^ 16
unfolding digest_bytes
front_of_words h = omega arith

pub front_fits : (m : List ℕ) → from_be_bytes w16 (take 2 (sha256 m)) < 2 ^ 16
unfolding sha256
front_fits m = front_of_words (final_hash initial_hash_256 m)

pub first_bits : (b n : ℕ) → b ≤ 16 → n < 2 ^ 16 → n / 2 ^ (16 - b) < 2 ^ b
first_bits b n low fits =
    let all : b + (16 - b) ≡ 16 = omega arith in
    let whole : 2 ^ b * 2 ^ (16 - b) ≡ 2 ^ 16 = sym (pow-add 2 b (16 - b)) ∙ ap (λ k. 2 ^ k) all in
    (div-lt_iff_lt-mul (pow_pos (16 - b))).1 (subst (λ m. n < m) (sym whole) fits)

pub number_below : (b : ℕ) (x : Item) → b ≤ 12 → shard_number b x < 2 ^ b
unfolding shard_number
number_below b x low = first_bits b (from_be_bytes w16 (take 2 (sha256 x))) (omega arith) (front_fits x)
