-- The items that begin with some bytes.
--     begins_with p x     the byte string x begins with p
--     end_of p            what comes first after all byte strings that begin with p; None is the end
--     of_prefix p         the range of them
use Rattle.std.specs.Prelude.{ℕ, ◌+◌, Bool, List, [], ◌∷◌, length, take, bytes_eq, nat_lt}
use Rattle.std.specs.Prelude.{if◌then◌else◌, Option, Some, None}
use Rattle.definitions.specs.Items.{Range}

abbrev pub begins_with : List ℕ → List ℕ → Bool
begins_with p x = bytes_eq (take (length p) x) p

-- bytes that have an end go on; of those that have none the first is one more, where that is a byte
abbrev pub end_after : ℕ → Option (List ℕ) → Option (List ℕ)
end_after byte (Some later) = Some (byte ∷ later)
end_after byte None = if nat_lt byte 255 then Some ((byte + 1) ∷ []) else None

abbrev pub end_of : List ℕ → Option (List ℕ)
end_of [] = None
end_of (byte ∷ bytes) = end_after byte (end_of bytes)

abbrev pub of_prefix : List ℕ → Range
of_prefix p = record { lower = p; upper = end_of p }
