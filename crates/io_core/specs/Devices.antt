-- What the calls of a device do to the bytes that it holds, and to the count of calls that it refused, where these are
-- known.
--     Holds held bytes               the bytes held are these
--     first_left held n              the first n of the bytes held
--     AppendsFront old new bytes     a beginning of the bytes was added at the end
--     AppendsSome old new r bytes    `append(bytes)`: at Ok(n) the first n were added, at Err a beginning
--     Cuts old new r n               `cut(n)`: at Ok the first n are left, at Err at least these, and nothing new
--     is_short r bytes               `append(bytes)` failed, or took fewer than all
--     with_refusal count refused     the count after one call more
--     Rises old new, Stays old new   the count is higher; it is as it was, or higher
use Rattle.std.specs.Prelude.{◌≡◌, ℕ, ◌+◌, ◌<◌, ◌≤◌, Bool, true, nat_lt, List, length, take, Option, Some, None}
use Rattle.std.specs.Prelude.{Result, Ok, Err, MatchResult, if◌then◌else◌, ⊤, option_map}
use Rattle.std.specs.Io.KnownBytes.{append_known}

abbrev pub Holds : Option (List ℕ) → List ℕ → Type 0
Holds None bytes = ⊤
Holds (Some xs) bytes = xs ≡ bytes

abbrev pub first_left : Option (List ℕ) → ℕ → Option (List ℕ)
first_left held n = option_map (λ xs. take n xs) held

abbrev pub AppendsFront : Option (List ℕ) → Option (List ℕ) → List ℕ → Type 0
AppendsFront old new bytes = (n : ℕ) × (n ≤ length bytes) × (new ≡ append_known old (take n bytes))

abbrev pub AppendsSome : {E : Type 0} → Option (List ℕ) → Option (List ℕ) → Result ℕ E → List ℕ → Type 0
AppendsSome old new r bytes = MatchResult r (λ n. new ≡ append_known old (take n bytes))
    (λ _. AppendsFront old new bytes)

abbrev pub Cuts : {E : Type 0} → Option (List ℕ) → Option (List ℕ) → Result Unit E → ℕ → Type 0
Cuts old new r n = MatchResult r (λ _. new ≡ first_left old n) (λ _. (m : ℕ) × (n ≤ m) × (new ≡ first_left old m))

abbrev pub is_short : {E : Type 0} → Result ℕ E → List ℕ → Bool
is_short (Ok n) bytes = nat_lt n (length bytes)
is_short (Err e) bytes = true

abbrev pub with_refusal : Option ℕ → Bool → Option ℕ
with_refusal None refused = None
with_refusal (Some count) refused = Some (if refused then count + 1 else count)

abbrev pub Rises : Option ℕ → Option ℕ → Type 0
Rises None new = ⊤
Rises (Some m) None = ⊥
Rises (Some m) (Some n) = m < n

abbrev pub Stays : Option ℕ → Option ℕ → Type 0
Stays None new = ⊤
Stays (Some m) None = ⊥
Stays (Some m) (Some n) = m ≤ n
