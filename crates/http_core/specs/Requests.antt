-- What those ask for who speak HTTP.
--     path_of target             what stands before the query
--     request_for method target  the request with this method and this target
--     Answers bytes r            bytes are this request: they begin with its head, or are refused
--     IsWaitedFor bytes          bytes that ask for nothing so far
--     status_text a              the first lines of an answer: the status, and what the body is
--     head_text a n              all lines before a body of n bytes
use Rattle.std.specs.Prelude.{◌≡◌, ℕ, ◌<◌, ◌≤◌, ◌⊎◌, ◌||◌, List, length, ◌++◌, codes, bytes_eq, if◌then◌else◌}
use Rattle.std.specs.Prelude.{◌==◌, false, []}
use Rattle.std.specs.List.{before_first}
use Rattle.std.specs.Fmt.{decimal}
use Rattle.httparse.specs.Grammar.{HasNoRequest, MayBecomeRequest, NeverHasRequest, ReadsRequest, RequestHead}
use Rattle.httparse.specs.Spans.{RequestExceeds}
use Rattle.http_core.specs.declared.replying.TheConstants.{CAUTION, POLICY}
use Rattle.http_core.specs.declared.requests.Asked.{Asked}
use Rattle.http_core.specs.declared.requests.Request.{Request}
use Rattle.http_core.specs.declared.requests.Asked.TheVariants.{Metrics, Page, Missing, Method, Malformed, TooLong}

-- what stands before the first byte of this value, or all where there is none
abbrev pub before_byte : ℕ → List ℕ → List ℕ
before_byte byte bytes = before_first (λ b. b == byte) bytes

-- what stands before the question mark
abbrev pub path_of : List ℕ → List ℕ
path_of target = before_byte 63 target

-- GET and HEAD are answered
abbrev pub by_method : List ℕ → Asked → Asked
by_method method asked = if bytes_eq method (codes "GET") || bytes_eq method (codes "HEAD") then asked else Method

-- what is asked for of a path
abbrev pub asked_for : List ℕ → List ℕ → Asked
asked_for method path = if bytes_eq path (codes "/metrics") then by_method method Metrics
    else if bytes_eq path (codes "/") then by_method method Page else Missing

abbrev pub request_for : List ℕ → List ℕ → Request
request_for method target =
    record { asked = asked_for method (path_of target); is_head = bytes_eq method (codes "HEAD") }

abbrev pub refused : Asked → Request
refused a = record { asked = a; is_head = false }

abbrev pub IsAskedFor : List ℕ → Request → Type 0
IsAskedFor bytes r = (head : RequestHead) × (rest : List ℕ) × ReadsRequest bytes head rest
    × (r ≡ request_for head.method head.target)

-- what is no head of a request, whatever comes after it
abbrev pub IsMalformed : List ℕ → Request → Type 0
IsMalformed bytes r = (r ≡ refused Malformed) × NeverHasRequest bytes

-- too many bytes have come and no head of a request is whole, or it has too many fields
abbrev pub IsTooLong : List ℕ → Request → Type 0
IsTooLong bytes r = (r ≡ refused TooLong) × (((8192 ≤ length bytes) × HasNoRequest bytes) ⊎ RequestExceeds 64 bytes)

abbrev pub Answers : List ℕ → Request → Type 0
Answers bytes r = IsAskedFor bytes r ⊎ (IsMalformed bytes r ⊎ IsTooLong bytes r)

-- no head of a request is whole, more bytes may make it one, and more may come
abbrev pub IsWaitedFor : List ℕ → Type 0
IsWaitedFor bytes = HasNoRequest bytes × MayBecomeRequest bytes × (length bytes < 8192)

unfoldable pub status_text : Asked → List ℕ
status_text Metrics =
    codes "HTTP/1.1 200 OK\r\nContent-Type: text/plain; version=0.0.4; charset=utf-8\r\n"
status_text Page = codes "HTTP/1.1 200 OK\r\nContent-Type: text/html; charset=utf-8\r\n"
status_text Missing = codes "HTTP/1.1 404 Not Found\r\nContent-Type: text/plain; charset=utf-8\r\n"
status_text Method =
    codes "HTTP/1.1 405 Method Not Allowed\r\nAllow: GET, HEAD\r\nContent-Type: text/plain; charset=utf-8\r\n"
status_text Malformed = codes "HTTP/1.1 400 Bad Request\r\nContent-Type: text/plain; charset=utf-8\r\n"
status_text TooLong =
    codes "HTTP/1.1 431 Request Header Fields Too Large\r\nContent-Type: text/plain; charset=utf-8\r\n"

-- nothing is kept, or taken for something else
unfoldable pub caution : List ℕ
caution = CAUTION.now

-- nothing is run, and nothing is fetched from elsewhere
unfoldable pub policy : List ℕ
policy = POLICY.now

-- the last lines before a body of n bytes
unfoldable pub length_text : ℕ → List ℕ
length_text n = codes "Connection: close\r\nContent-Length: " ++ (decimal n ++ codes "\r\n\r\n")

abbrev pub head_text : Asked → ℕ → List ℕ
head_text a n = status_text a ++ (caution ++ (policy ++ length_text n))

-- the body as it is wanted: none to HEAD
abbrev pub wanted : Request → List ℕ → List ℕ
wanted r body = if r.is_head then [] else body

-- what is said to who does not get what was asked for
abbrev pub refusal_text : Asked → List ℕ
refusal_text Metrics = codes ""
refusal_text Page = codes ""
refusal_text Missing = codes "404: there are / and /metrics\n"
refusal_text Method = codes "405: only GET and HEAD are answered\n"
refusal_text Malformed = codes "400: this is no request\n"
refusal_text TooLong = codes "431: the head of the request is too long\n"
