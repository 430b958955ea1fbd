-- What programs of the machine ask for at the door of a server.
--     door_asked method path     what a method asks for of a path
--     with_body a known          the same with the body that the fields tell of, and how many bytes it has: at most
--                                16,777,216
--     is_local fields            the fields are of a program of this machine: no Origin, and each Host is the loopback
--     asks tcp method target fields   what is asked for, and how many bytes of a body it has
--     AsksAtDoor tcp bytes r     bytes are this request: they begin with its head, or are refused
use Rattle.std.specs.Prelude.{◌≡◌, ℕ, ◌≤◌, ◌⊎◌, ◌==◌, ◌||◌, ◌&&◌, not, nat_lt, Bool, false, List, length, map}
use Rattle.std.specs.Prelude.{codes, bytes_eq, drop, take, slice_range, if◌then◌else◌}
use Rattle.std.specs.Char.{is_ascii_digit}
use Rattle.std.specs.List.{list_all, list_any}
use Rattle.httparse.specs.Grammar.{HasNoRequest, NeverHasRequest, ReadsRequest, RequestHead}
use Rattle.httparse.specs.Spans.{RequestExceeds, name_and_value, span_bytes}
use Rattle.httparse.specs.declared.spans.RequestSpans.{RequestSpans}
use Rattle.http1.specs.Fields.{Header, is_named, known_fields}
use Rattle.http1.specs.Text.{eq_ignore_case}
use Rattle.http1.specs.declared.fields.ContentLength.{ContentLength}
use Rattle.http1.specs.declared.fields.ContentLength.TheVariants as lengths
use Rattle.http1.specs.declared.fields.TransferEncoding.{TransferEncoding}
use Rattle.http1.specs.declared.fields.TransferEncoding.TheVariants as codings
use Rattle.http1.specs.declared.fields.KnownFields.{KnownFields}
use Rattle.http_core.specs.Requests.{before_byte, path_of}
use Rattle.http_core.specs.declared.door_requests.DoorAsked.{DoorAsked}
use Rattle.http_core.specs.declared.door_requests.DoorAsked.TheVariants as asked
use Rattle.http_core.specs.declared.door_requests.DoorRequest.{DoorRequest}
use Rattle.http_core.specs.declared.door_requests.Sized.{Sized}

-- ---- methods and paths

abbrev pub is_read : List ℕ → Bool
is_read method = bytes_eq method (codes "GET") || bytes_eq method (codes "HEAD")

abbrev pub only_read : List ℕ → DoorAsked → DoorAsked
only_read method a = if is_read method then a else asked.OnlyRead

abbrev pub only_posted : List ℕ → DoorAsked → DoorAsked
only_posted method a = if bytes_eq method (codes "POST") then a else asked.OnlyPosted

abbrev pub items_asked : List ℕ → DoorAsked
items_asked method = if bytes_eq method (codes "POST") then asked.Put
    else if is_read method then asked.Items else asked.NoMethod

abbrev pub is_item_path : List ℕ → Bool
is_item_path path = bytes_eq (take 7 path) (codes "/items/")

abbrev pub door_asked : List ℕ → List ℕ → DoorAsked
door_asked method path = if bytes_eq path (codes "/items") then items_asked method
    else if is_item_path path then only_read method asked.Item
    else if bytes_eq path (codes "/news") then only_read method asked.News
    else if bytes_eq path (codes "/status") then only_read method asked.Status
    else if bytes_eq path (codes "/sync") then only_posted method asked.Sync
    else if bytes_eq path (codes "/stop") then only_posted method asked.Stop
    else asked.Missing

-- ---- bodies

abbrev pub without_body : DoorAsked → Sized
without_body a = record { asked = a; length = 0 }

-- a body without a length is refused where there has to be one
abbrev pub unstated : DoorAsked → Sized
unstated asked.Put = without_body asked.NoLength
unstated a = without_body a

abbrev pub by_length : DoorAsked → ContentLength → Sized
by_length a lengths.Absent = unstated a
by_length a lengths.Invalid = without_body asked.Malformed
by_length a (lengths.Value n) =
    if nat_lt 16777216 n then without_body asked.TooLarge else record { asked = a; length = n }

abbrev pub body_asked : DoorAsked → KnownFields → Sized
body_asked a known = by_coding a known.transfer_encoding known.content_length
  where
    by_coding : DoorAsked → TransferEncoding → ContentLength → Sized
    by_coding a codings.Absent length = by_length a length
    by_coding a _ length = without_body asked.NoLength

-- what is read takes no body
abbrev pub with_body : DoorAsked → KnownFields → Sized
with_body asked.Put known = body_asked asked.Put known
with_body asked.Sync known = body_asked asked.Sync known
with_body asked.Stop known = body_asked asked.Stop known
with_body a known = without_body a

-- ---- who asks

abbrev pub is_number_byte : ℕ → Bool
is_number_byte b = is_ascii_digit b || b == 46

-- `localhost`, or an address that begins with 127
abbrev pub is_own_name : List ℕ → Bool
is_own_name name = eq_ignore_case name (codes "localhost")
    || (bytes_eq (take 4 name) (codes "127.") && list_all is_number_byte name)

-- a Host names the loopback: in brackets, or before the port
abbrev pub is_loopback : List ℕ → Bool
is_loopback host = bytes_eq (before_byte 93 host) (codes "[::1") || is_own_name (before_byte 58 host)

abbrev pub is_foreign : Header → Bool
is_foreign h = is_named (codes "host") h && not (is_loopback h.1)

abbrev pub is_local : List Header → Bool
is_local fields = not (list_any (is_named (codes "origin")) fields)
    && (list_any (is_named (codes "host")) fields && not (list_any is_foreign fields))

-- ---- requests

abbrev pub asks : Bool → List ℕ → List ℕ → List Header → Sized
asks tcp method target fields = if tcp && not (is_local fields) then without_body asked.Foreign
    else with_body (door_asked method (path_of target)) (known_fields fields)

-- the request with this head, whose parts stand there in the bytes
abbrev pub request_of : Bool → List ℕ → RequestSpans → List Header → DoorRequest
request_of tcp bytes head fields =
    let sized = asks tcp (span_bytes bytes head.method) (span_bytes bytes head.path) fields in
    record {
      asked = sized.asked;
      is_head = bytes_eq (span_bytes bytes head.method) (codes "HEAD");
      expects = (known_fields fields).expect_continue;
      target = (head.path.start, head.path.end);
      start = head.len;
      length = sized.length;
    }

abbrev pub refused : DoorAsked → DoorRequest
refused a = record { asked = a; is_head = false; expects = false; target = (0, 0); start = 0; length = 0 }

-- bytes begin with the head of this request, and what comes after it is its body
pub record IsAsked (tcp : Bool) (bytes : List ℕ) (r : DoorRequest) : Type 0 where
  pub head : RequestHead
  pub reads : ReadsRequest bytes head (drop r.start bytes)
  pub sized : record { asked = r.asked; length = r.length }
      ≡ asks tcp head.method head.target (map name_and_value head.fields)
  pub target : slice_range bytes r.target.0 r.target.1 ≡ head.target
  pub is_head : r.is_head ≡ bytes_eq head.method (codes "HEAD")
  pub expects : r.expects ≡ (known_fields (map name_and_value head.fields)).expect_continue

abbrev pub IsMalformed : List ℕ → DoorRequest → Type 0
IsMalformed bytes r = (r ≡ refused asked.Malformed) × NeverHasRequest bytes

abbrev pub IsTooLong : List ℕ → DoorRequest → Type 0
IsTooLong bytes r = (r ≡ refused asked.TooLong)
    × (((8192 ≤ length bytes) × HasNoRequest bytes) ⊎ RequestExceeds 64 bytes)

abbrev pub AsksAtDoor : Bool → List ℕ → DoorRequest → Type 0
AsksAtDoor tcp bytes r = IsAsked tcp bytes r ⊎ (IsMalformed bytes r ⊎ IsTooLong bytes r)
