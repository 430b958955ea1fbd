-- How a server stands, as it is told at its door.
--     status_json s        as a JSON object in a line: the kit's print of these tokens
--     partner_line p       the line of a partner
--     status_lines s       as lines
use Rattle.std.specs.Prelude.{◌≡◌, ℕ, ◌==◌, Bool, true, false, not, List, [], ◌∷◌, ◌++◌, length, codes, flat_map}
use Rattle.std.specs.Prelude.{Option, Some, None, Result, OnOk}
use Rattle.std.specs.Fmt.{decimal}
use Rattle.json.specs.Print.{print}
use Rattle.json.specs.Token as token
use Rattle.json.specs.Token.{Token, key}
use Rattle.json.specs.Written.{Written}
use Rattle.watch_core.specs.Partners.{seconds_ago, state_text}
use Rattle.watch_core.specs.Pieces.{fault_text, known_text, turn_text}
use Rattle.watch_core.specs.declared.partnered.Partnered.{Partnered}
use Rattle.watch_core.specs.declared.status.Number.{Number}
use Rattle.watch_core.specs.declared.status.Status.{Status}
use Rattle.watch_core.specs.declared.turn.Turn.{Turn}

-- the tokens are appended, after what stood there before the writer began
abbrev pub Adds : {E : Type 0} → Result (Unit {0}) E → Written → Written → List Token → Type 0
Adds r old new ts = OnOk r ((new.before ≡ old.before) × (new.tokens ≡ old.tokens ++ ts))

abbrev pub named : Number → List ℕ × ℕ
named n = (n.name.now, n.value)

abbrev pub is_kept : Status → Bool
is_kept s = not (length s.standing.file.now == 0)

unfoldable pub numbers : Status → List (List ℕ × ℕ)
numbers s = (codes "items", s.standing.items) ∷ (codes "cap", s.standing.cap) ∷ (codes "version", s.standing.version)
    ∷ (codes "taken", s.taken) ∷ (codes "opened", s.opened) ∷ (codes "ended", s.ended) ∷ (codes "live", s.standing.live)
    ∷ (codes "peers", s.standing.peers) ∷ (codes "dropped", s.standing.dropped)
    ∷ (codes "waiting", s.standing.waiting) ∷ (codes "failures", s.standing.failures)
    ∷ (codes "milliseconds", s.standing.ran) ∷ []

-- ---- JSON

abbrev pub number_tokens : List ℕ × ℕ → List Token
number_tokens n = key n.0 ∷ token.number (decimal n.1) ∷ []

abbrev pub text_tokens : List ℕ → List ℕ → List Token
text_tokens name text = key name ∷ token.string text ∷ []

abbrev pub known_token : Option ℕ → Token
known_token None = token.null
known_token (Some n) = token.number (decimal n)

abbrev pub known_tokens : List ℕ → Option ℕ → List Token
known_tokens name n = key name ∷ known_token n ∷ []

abbrev pub fault_token : Option Turn → Token
fault_token None = token.null
fault_token (Some t) = token.string (turn_text t)

abbrev pub fault_tokens : Option Turn → List Token
fault_tokens t = key (codes "error") ∷ fault_token t ∷ []

abbrev pub name_tokens : Partnered → List Token
name_tokens p = token.begin_object ∷ (text_tokens (codes "address") p.address.now
    ++ text_tokens (codes "state") (state_text p))

unfoldable pub counted : Partnered → List (List ℕ × ℕ)
counted p = (codes "ended", p.ended) ∷ (codes "failed", p.failed) ∷ (codes "behind", p.behind) ∷ []

abbrev pub turns_tokens : Partnered → List Token
turns_tokens p = flat_map number_tokens (counted p) ++ (known_tokens (codes "seconds_ago") (seconds_ago p)
    ++ fault_tokens p.fault)

abbrev pub partner_tokens : Partnered → List Token
partner_tokens p = name_tokens p ++ (turns_tokens p ++ token.end_object ∷ [])

abbrev pub list_tokens : List Partnered → List Token
list_tokens ps = key (codes "partners") ∷ token.begin_array ∷ (flat_map partner_tokens ps ++ token.end_array ∷ [])

abbrev pub server_tokens : Status → List Token
server_tokens s = token.begin_object ∷ (flat_map number_tokens (numbers s)
    ++ key (codes "kept") ∷ token.boolean (is_kept s) ∷ [])

abbrev pub status_json : Status → List ℕ
status_json s = print (server_tokens s ++ (list_tokens s.standing.partners.now ++ token.end_object ∷ []))
    ++ codes "\n"

-- ---- lines

abbrev pub number_line : List ℕ × ℕ → List ℕ
number_line n = n.0 ++ (codes " " ++ (decimal n.1 ++ codes "\n"))

abbrev pub kept_line : Bool → List ℕ
kept_line true = codes "kept file\n"
kept_line false = codes "kept memory\n"

abbrev pub line_front : Partnered → List ℕ
line_front p = codes "partner " ++ (p.address.now ++ (codes " " ++ (state_text p ++ (codes " ended "
    ++ (decimal p.ended ++ (codes " failed " ++ decimal p.failed))))))

abbrev pub line_end : Partnered → List ℕ
line_end p = codes " behind " ++ (decimal p.behind ++ (codes " seconds " ++ (known_text (seconds_ago p)
    ++ (codes " error " ++ (fault_text p.fault ++ codes "\n")))))

abbrev pub partner_line : Partnered → List ℕ
partner_line p = line_front p ++ line_end p

abbrev pub status_lines : Status → List ℕ
status_lines s =
    flat_map number_line (numbers s) ++ (kept_line (is_kept s) ++ flat_map partner_line s.standing.partners.now)
