-- Where a side of sessions listens or connects.
--     IsAddress word a          the word names this address
--     default_address           the address if none is given
--     is_host address           whether it is a host alone: it has no `:`, or ends with `]`
--     host_of address           what stands before the last `:`, if there is one
--     is_part_of_six host       whether that is a part of an IPv6 address: it ends with `:`, and is not `::`
--     whole_address port a      the address with this port, if it has none
use Rattle.std.specs.Prelude.{◌≡◌, ◌≢◌, ◌==◌, ◌-◌, ◌&&◌, ◌||◌, not, nat_lt, List, [], ◌∷◌, ℕ, ◌++◌, codes, length}
use Rattle.std.specs.Prelude.{Bool, false, bytes_eq, slice_index, if◌then◌else◌, Option, Some, None, option_map}
use Rattle.std.specs.List.{list_any}
use Rattle.settings_core.specs.declared.addresses.Address.{Address}
use Rattle.settings_core.specs.declared.addresses.Address.TheVariants.{Tcp, Unix}

abbrev pub default_address : List ℕ
default_address = codes "127.0.0.1:7700"

-- what follows `unix:` is the path of a Unix socket; any other word is an address of TCP
abbrev pub IsAddress : List ℕ → Address → Type 0
IsAddress word (Unix path) = word ≡ codes "unix:" ++ path.now
IsAddress word (Tcp address) = (address.now ≡ word) × ((rest : List ℕ) → word ≢ codes "unix:" ++ rest)

-- ---- a port, where none is given: 58 is `:`, 91 `[`, and 93 `]`

abbrev pub is_colon : ℕ → Bool
is_colon byte = byte == 58

abbrev pub ends_in : ℕ → List ℕ → Bool
ends_in byte bytes = nat_lt 0 (length bytes) && (slice_index bytes (length bytes - 1) == byte)

abbrev pub is_host : List ℕ → Bool
is_host address = not (list_any is_colon address) || ends_in 93 address

-- the first if there is one, else the second
abbrev pub first_of : Option (List ℕ) → Option (List ℕ) → Option (List ℕ)
first_of (Some host) other = Some host
first_of None other = other

abbrev pub host_of : List ℕ → Option (List ℕ)
host_of [] = None
host_of (byte ∷ bytes) =
    first_of (option_map (λ host. byte ∷ host) (host_of bytes)) (if byte == 58 then Some [] else None)

abbrev pub is_part_of_six : Option (List ℕ) → Bool
is_part_of_six (Some host) = not (bytes_eq host (codes "::")) && ends_in 58 host
is_part_of_six None = false

abbrev pub whole_address : List ℕ → List ℕ → List ℕ
whole_address port address =
    if is_host address then address ++ (58 ∷ port)
    else if is_part_of_six (host_of address) then 91 ∷ (address ++ (codes "]:" ++ port)) else address
