-- Which shards a call speaks of, by its words.
--     Shards, shards_told s, told_of r    shards as plain numbers, and those of a value and of a result
--     shard_in bits text                  the number of a shard, if the text is decimal digits that write one
--     shards_in bits text                 the shards that `N` or `N-M` names, if it names some
--     asked bits only at_once stdio       what the words ask for: shards, one set, or why neither
use Rattle.std.specs.Prelude.{ℕ, ◌^◌, ◌-◌, ◌==◌, nat_le, nat_lt, List, length, Bool, ◌&&◌, ◌||◌}
use Rattle.std.specs.Prelude.{if◌then◌else◌, Option, Some, None, is_some, Result, Ok, Err}
use Rattle.std.specs.Char.{is_ascii_digit}
use Rattle.std.specs.List.{list_all, position_or_len, before_first, after_first}
use Rattle.std.specs.Str.Parse.{digits_value}
use Rattle.settings_core.specs.declared.sharding.Sharding.{Sharding}
use Rattle.settings_core.specs.declared.shard_words.ShardFlaw.{ShardFlaw}
use Rattle.settings_core.specs.declared.shard_words.ShardFlaw.TheVariants.{NoShards, Stdio, Only}

-- the shards from first to last, of 2 to the power of bits
pub record Shards : Type 0 where
  pub bits : ℕ
  pub first : ℕ
  pub last : ℕ

abbrev pub shards_told : Sharding → Shards
shards_told s = record { bits = s.bits; first = s.first; last = s.last }

abbrev pub told_of : Result (Option Sharding) ShardFlaw → Result (Option Shards) ShardFlaw
told_of (Ok (Some s)) = Ok (Some (shards_told s))
told_of (Ok None) = Ok None
told_of (Err f) = Err f

-- ---- the text of `--only`

-- a decimal number, without a sign and without spaces
abbrev pub are_digits : List ℕ → Bool
are_digits text = nat_lt 0 (length text) && list_all is_ascii_digit text

abbrev pub shard_in : ℕ → List ℕ → Option ℕ
shard_in bits text =
    if are_digits text && nat_lt (digits_value 10 text) (2 ^ bits) then Some (digits_value 10 text) else None

abbrev pub is_dash : ℕ → Bool
is_dash b = b == 45

-- what stands before the first dash, and after it; the text itself twice, where there is none
abbrev pub ends_of : List ℕ → List ℕ × List ℕ
ends_of text = if nat_lt (position_or_len is_dash text) (length text)
    then (before_first is_dash text, after_first is_dash text) else (text, text)

abbrev pub rising : ℕ → Option ℕ → Option ℕ → Option Shards
rising bits None last = None
rising bits (Some first) None = None
rising bits (Some first) (Some last) =
    if nat_le first last then Some (record { bits = bits; first = first; last = last }) else None

-- `N` or `N-M`
abbrev pub shards_in : ℕ → List ℕ → Option Shards
shards_in bits text = rising bits (shard_in bits (ends_of text).0) (shard_in bits (ends_of text).1)

-- ---- the words

-- all shards, where no text names some
abbrev pub span_of : ℕ → Option (List ℕ) → Option Shards
span_of bits None = Some (record { bits = bits; first = 0; last = 2 ^ bits - 1 })
span_of bits (Some text) = shards_in bits text

abbrev pub spanned : Option Shards → Result (Option Shards) ShardFlaw
spanned None = Err Only
spanned (Some shards) = Ok (Some shards)

abbrev pub asked : Option ℕ → Option (List ℕ) → Bool → Bool → Result (Option Shards) ShardFlaw
asked None only at_once stdio = if is_some only || at_once then Err NoShards else Ok None
asked (Some bits) only at_once stdio = if stdio then Err Stdio else spanned (span_of bits only)
