-- Why a call does not speak over standard input and output.
--     stdio_flaw address retries items is_terminal  the reason, if there is one, by the words of the call, and whether
--                                                   standard input is a terminal
use Rattle.std.specs.Prelude.{ℕ, List, codes, Bool, false, bytes_eq, if◌then◌else◌, Option, Some, None}
use Rattle.settings_core.specs.Addresses.{default_address}
use Rattle.settings_core.specs.declared.stdio_words.StdioFlaw.{StdioFlaw}
use Rattle.settings_core.specs.declared.stdio_words.StdioFlaw.TheVariants.{Address, Retry, Items, Terminal}

-- `-` is standard input
abbrev pub are_piped : Option (List ℕ) → Bool
are_piped None = false
are_piped (Some items) = bytes_eq items (codes "-")

abbrev pub stdio_flaw : List ℕ → Bool → Option (List ℕ) → Bool → Option StdioFlaw
stdio_flaw address retries items is_terminal =
    if bytes_eq address default_address then
    if retries then Some Retry else if are_piped items then Some Items else if is_terminal then Some Terminal else None
    else Some Address
