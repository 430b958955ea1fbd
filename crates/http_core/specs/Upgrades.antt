-- What begins a WebSocket (RFC 6455, section 4): a request for it, and what is answered.
--     has_word text word         one of the pieces between the commas and blanks of a text is this word
--     may_come origins fields    each Origin is one of those that are listed
--     Judges origins .. r        what a request with this head gets
--     AsksToUpgrade origins bytes r   bytes begin with such a head, or are refused
--     IsHeadAwaited bytes        bytes that ask for nothing so far
--     given_text accept named    the answer that gives a WebSocket
--     refusal_text why           the answer that gives none
use Rattle.std.specs.Prelude.{◌≡◌, ℕ, ◌<◌, ◌≤◌, ◌⊎◌, ◌==◌, ◌||◌, ◌&&◌, not, nat_lt, Bool, true, false, List, []}
use Rattle.std.specs.Prelude.{◌∷◌, ◌++◌, length, map, codes, bytes_eq, drop, if◌then◌else◌, Result, Ok, Err, ⊤}
use Rattle.std.specs.List.{list_all, list_any}
use Rattle.httparse.specs.Grammar.{HasNoRequest, MayBecomeRequest, NeverHasRequest, ReadsRequest, RequestHead}
use Rattle.httparse.specs.Spans.{RequestExceeds, name_and_value}
use Rattle.http1.specs.Fields.{Header, is_named}
use Rattle.websocket.specs.declared.handshake.failure.HandshakeError.{HandshakeError}
use Rattle.websocket.specs.Handshake.{Answers, requested_key}
use Rattle.http_core.specs.Requests.{path_of}
use Rattle.http_core.specs.declared.upgrades.NoUpgrade.{NoUpgrade}
use Rattle.http_core.specs.declared.upgrades.NoUpgrade.TheVariants as reasons
use Rattle.http_core.specs.declared.upgrades.Upgrade.{Upgrade}
use Rattle.http_core.specs.declared.upgrades.Upgrade.TheVariants as upgrades

abbrev pub is_between : ℕ → Bool
is_between b = b == 32 || b == 44

-- the piece that began with `piece`, or a later one, is the word
abbrev pub has_word_from : List ℕ → List ℕ → List ℕ → Bool
has_word_from word piece [] = bytes_eq piece word
has_word_from word piece (b ∷ bs) =
    if is_between b then bytes_eq piece word || has_word_from word [] bs
    else has_word_from word (piece ++ b ∷ []) bs

abbrev pub has_word : List ℕ → List ℕ → Bool
has_word text word = has_word_from word [] text

-- ---- who asks

abbrev pub is_listed : List ℕ → List ℕ → Bool
is_listed origins value = nat_lt 0 (length value) && has_word origins value

-- a field that is no Origin, or one that is listed
abbrev pub is_own_page : List ℕ → Header → Bool
is_own_page origins h = not (is_named (codes "origin") h) || is_listed origins h.1

abbrev pub may_come : List ℕ → List Header → Bool
may_come origins fields = list_all (is_own_page origins) fields

-- ---- what is spoken

abbrev pub is_offer : Header → Bool
is_offer h = is_named (codes "sec-websocket-protocol") h

abbrev pub is_own_offer : Header → Bool
is_own_offer h = is_offer h && has_word h.1 (codes "rangesync")

abbrev pub offers_some : List Header → Bool
offers_some fields = list_any (is_named (codes "sec-websocket-protocol")) fields

abbrev pub offers_own : List Header → Bool
offers_own fields = list_any is_own_offer fields

-- the path is `/`, and if protocols are named, this one is among them
abbrev pub is_here : List ℕ → List Header → Bool
is_here target fields = bytes_eq (path_of target) (codes "/") && (offers_own fields || not (offers_some fields))

-- ---- what is given

-- there is a key, and this answers it
abbrev pub HasKey : List ℕ → Result (List ℕ) HandshakeError → Type 0
HasKey accept key = Answers (Ok accept) key

-- no key that could be answered is there
abbrev pub HasNoKey : Result (List ℕ) HandshakeError → Type 0
HasNoKey key = (e : HandshakeError) × Answers (Err e) key

abbrev pub Judges : List ℕ → List ℕ → List ℕ → ℕ → List Header → Upgrade → Type 0
Judges origins method target minor fields (upgrades.Given accept named n) = (may_come origins fields ≡ true)
    × (is_here target fields ≡ true) × (named ≡ offers_own fields)
    × HasKey accept (requested_key method minor fields)
Judges origins method target minor fields (upgrades.Refused reasons.Malformed) = (may_come origins fields ≡ true)
    × ((is_here target fields ≡ false) ⊎ HasNoKey (requested_key method minor fields))
Judges origins method target minor fields (upgrades.Refused reasons.Foreign) = may_come origins fields ≡ false
Judges origins method target minor fields (upgrades.Refused reasons.TooLong) = ⊥

-- how many bytes a head has that gets a WebSocket
abbrev pub HasLength : Upgrade → List ℕ → List ℕ → Type 0
HasLength (upgrades.Given accept named n) bytes rest = (n ≤ 4096) × (rest ≡ drop n bytes)
HasLength (upgrades.Refused _) bytes rest = ⊤

-- it is that of a head of n bytes
abbrev pub HasHeadOf : ℕ → Upgrade → Type 0
HasHeadOf n (upgrades.Given accept named m) = m ≡ n
HasHeadOf n (upgrades.Refused _) = ⊤

abbrev pub IsJudged : List ℕ → List ℕ → Upgrade → Type 0
IsJudged origins bytes r = (head : RequestHead) × (rest : List ℕ) × ReadsRequest bytes head rest
    × HasLength r bytes rest × Judges origins head.method head.target head.minor (map name_and_value head.fields) r

abbrev pub IsMalformed : List ℕ → Upgrade → Type 0
IsMalformed bytes r = (r ≡ upgrades.Refused reasons.Malformed) × NeverHasRequest bytes

-- a head of more than 4,096 bytes is there, or so many have come without a whole one, or it has too many fields
abbrev pub IsLong : List ℕ → Type 0
IsLong bytes = ((n : ℕ) × (4096 < n) × ((head : RequestHead) × ReadsRequest bytes head (drop n bytes)))
    ⊎ (((4096 ≤ length bytes) × HasNoRequest bytes) ⊎ RequestExceeds 64 bytes)

abbrev pub IsTooLong : List ℕ → Upgrade → Type 0
IsTooLong bytes r = (r ≡ upgrades.Refused reasons.TooLong) × IsLong bytes

abbrev pub AsksToUpgrade : List ℕ → List ℕ → Upgrade → Type 0
AsksToUpgrade origins bytes r = IsJudged origins bytes r ⊎ (IsMalformed bytes r ⊎ IsTooLong bytes r)

abbrev pub IsHeadAwaited : List ℕ → Type 0
IsHeadAwaited bytes = HasNoRequest bytes × MayBecomeRequest bytes × (length bytes < 4096)

-- ---- what is answered

unfoldable pub given_front : List ℕ
given_front =
    codes "HTTP/1.1 101 Switching Protocols\r\nUpgrade: websocket\r\nConnection: Upgrade\r\nSec-WebSocket-Accept: "

abbrev pub given_end : Bool → List ℕ
given_end named = if named then codes "\r\nSec-WebSocket-Protocol: rangesync\r\n\r\n" else codes "\r\n\r\n"

abbrev pub given_text : List ℕ → Bool → List ℕ
given_text accept named = given_front ++ (accept ++ given_end named)

unfoldable pub refusal_text : NoUpgrade → List ℕ
refusal_text reasons.Malformed =
    codes "HTTP/1.1 400 Bad Request\r\nConnection: close\r\n\r\n400: this asks for no WebSocket of path /\n"
refusal_text reasons.Foreign =
    codes "HTTP/1.1 403 Forbidden\r\nConnection: close\r\n\r\n403: --origin does not name the origin of the page\n"
refusal_text reasons.TooLong =
    codes "HTTP/1.1 431 Request Header Fields Too Large\r\nConnection: close\r\n\r\n431: the head is too long\n"
