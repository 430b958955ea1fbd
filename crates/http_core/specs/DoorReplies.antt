-- What is answered at the door of a server.
--     status_line s         the first line of an answer, and at a 405 what may be done
--     door_head reply n     all lines before a body of n bytes; with none it comes in chunks
use Rattle.std.specs.Prelude.{ℕ, Bool, true, false, List, [], ◌++◌, codes, Option, Some, None}
use Rattle.std.specs.Fmt.{decimal}
use Rattle.http_core.specs.declared.door_replies.TheConstants.{CAUTION}
use Rattle.http_core.specs.declared.door_replies.DoorReply.{DoorReply}
use Rattle.http_core.specs.declared.door_replies.DoorStatus.{DoorStatus}
use Rattle.http_core.specs.declared.door_replies.DoorStatus.TheVariants.{Done, Accepted, Unread, Foreign, Missing}
use Rattle.http_core.specs.declared.door_replies.DoorStatus.TheVariants.{OnlyRead, OnlyPosted, NoMethod, Gone, NoLength}
use Rattle.http_core.specs.declared.door_replies.DoorStatus.TheVariants.{TooLarge, TooLong, NoRoom}

unfoldable pub status_line : DoorStatus → List ℕ
status_line Done = codes "HTTP/1.1 200 OK\r\n"
status_line Accepted = codes "HTTP/1.1 202 Accepted\r\n"
status_line Unread = codes "HTTP/1.1 400 Bad Request\r\n"
status_line Foreign = codes "HTTP/1.1 403 Forbidden\r\n"
status_line Missing = codes "HTTP/1.1 404 Not Found\r\n"
status_line OnlyRead = codes "HTTP/1.1 405 Method Not Allowed\r\nAllow: GET, HEAD\r\n"
status_line OnlyPosted = codes "HTTP/1.1 405 Method Not Allowed\r\nAllow: POST\r\n"
status_line NoMethod = codes "HTTP/1.1 405 Method Not Allowed\r\nAllow: GET, HEAD, POST\r\n"
status_line Gone = codes "HTTP/1.1 410 Gone\r\n"
status_line NoLength = codes "HTTP/1.1 411 Length Required\r\n"
status_line TooLarge = codes "HTTP/1.1 413 Content Too Large\r\n"
status_line TooLong = codes "HTTP/1.1 431 Request Header Fields Too Large\r\n"
status_line NoRoom = codes "HTTP/1.1 507 Insufficient Storage\r\n"

unfoldable pub type_text : Bool → List ℕ
type_text true = codes "Content-Type: application/json\r\n"
type_text false = codes "Content-Type: text/plain; charset=utf-8\r\n"

-- nothing is kept, or taken for something else
unfoldable pub door_caution : List ℕ
door_caution = CAUTION.now

-- how many items the set took
unfoldable pub at_text : Option ℕ → List ℕ
at_text None = []
at_text (Some n) = codes "Rangesync-At: " ++ (decimal n ++ codes "\r\n")

-- no file keeps the set
unfoldable pub kept_text : Bool → List ℕ
kept_text true = codes "Rangesync-Kept: memory\r\n"
kept_text false = []

-- how many partners are behind
unfoldable pub behind_text : Option ℕ → List ℕ
behind_text None = []
behind_text (Some n) = codes "Rangesync-Behind: " ++ (decimal n ++ codes "\r\n")

abbrev pub fields_text : DoorReply → List ℕ
fields_text reply = at_text reply.at ++ (kept_text reply.in_memory ++ behind_text reply.behind)

unfoldable pub framing_text : Option ℕ → List ℕ
framing_text (Some n) = codes "Connection: close\r\nContent-Length: " ++ (decimal n ++ codes "\r\n\r\n")
framing_text None = codes "Connection: close\r\nTransfer-Encoding: chunked\r\n\r\n"

abbrev pub door_head : DoorReply → Option ℕ → List ℕ
door_head reply length = (status_line reply.status ++ type_text reply.is_json)
    ++ (door_caution ++ (fields_text reply ++ framing_text length))
