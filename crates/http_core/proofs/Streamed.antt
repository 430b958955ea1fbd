-- What a reader of frames gives: bytes that were read of the connection give a front of the stream, and what is still
-- to come of it are the bytes of what is still to be read.
use Rattle.std.proofs.Common.{◌≡◌, ℕ, List, [], ◌∷◌, ◌++◌, refl, ap, sym, subst, ◌∙◌, Option, None, Some}
use Rattle.std.specs.Prelude.{option_to_list}
use Rattle.std.specs.Io.KnownBytes.{Consumes, IsAtEnd, Keeps}
use Rattle.http_core.specs.declared.frames.Stop.{Stop}
use Rattle.http_core.specs.declared.frames.Body.{Body}
use Rattle.http_core.specs.Frames.{FrameState, run, step_at}
use Rattle.http_core.specs.Streams.{stream_left}
use Rattle.http_core.proofs.Pieces.{said_of_both}

gives_front : (old new : Option (List ℕ)) (s : FrameState) (came : List ℕ) → Consumes old new came →
    Consumes (stream_left s old) (stream_left (run s came).0 new) (run s came).1
gives_front None new s came read = tt
gives_front (Some xs) None s came read = elim read [ ]
gives_front (Some xs) (Some ys) s came read = ap (λ bytes. (run s bytes).1) read ∙ said_of_both s came ys

pub reads_front : (old new : Option (List ℕ)) (s t : FrameState) (came given : List ℕ) → Consumes old new came →
    t ≡ (run s came).0 → given ≡ (run s came).1 → Consumes (stream_left s old) (stream_left t new) given
reads_front old new s t came given read state said = rw (state, said) (gives_front old new s came read)

pub keeps_stream : (old new : Option (List ℕ)) (s : FrameState) → Keeps old new →
    Keeps (stream_left s old) (stream_left s new)
keeps_stream None new s same = tt
keeps_stream (Some xs) None s same = elim same [ ]
keeps_stream (Some xs) (Some ys) s same = ap (λ bytes. (run s bytes).1) same

pub ends_stream : (new : Option (List ℕ)) (s : FrameState) → IsAtEnd new → IsAtEnd (stream_left s new)
ends_stream None s end = tt
ends_stream (Some xs) s end = ap (λ bytes. (run s bytes).1) end

stays : (stop : Option Stop) (body : Option Body) (s : FrameState) (b : ℕ) (why : Stop) → stop ≡ Some why →
    step_at stop body s b ≡ (s, None)
stays stop body s b why is = subst (λ it. step_at it body s b ≡ (s, None)) (sym is) refl

gives_nothing : (s : FrameState) (why : Stop) → s.stop ≡ Some why → (bytes : List ℕ) → (run s bytes).1 ≡ []
gives_nothing s why is [] = refl
gives_nothing s why is (b ∷ bytes) =
    ap (λ (next : FrameState × Option ℕ). option_to_list next.1 ++ (run next.0 bytes).1) (stays s.stop s.body s b why is)
    ∙ gives_nothing s why is bytes

pub stopped_is_at_end : (s : FrameState) (why : Stop) (new : Option (List ℕ)) → s.stop ≡ Some why →
    IsAtEnd (stream_left s new)
stopped_is_at_end s why None is = tt
stopped_is_at_end s why (Some xs) is = gives_nothing s why is xs

pub same : (a : Option (List ℕ)) → Keeps a a
same None = tt
same (Some xs) = refl

pub nothing_read : (old new : Option (List ℕ)) → Consumes old new [] → Keeps old new
nothing_read None new read = tt
nothing_read (Some xs) None read = elim read [ ]
nothing_read (Some xs) (Some ys) read = sym read

pub keeps_on : (a b c : Option (List ℕ)) → Keeps a b → Keeps b c → Keeps a c
keeps_on None b c one two = tt
keeps_on (Some xs) None c one two = elim one [ ]
keeps_on (Some xs) (Some ys) None one two = elim two [ ]
keeps_on (Some xs) (Some ys) (Some zs) one two = two ∙ one

pub reads_on : (a b c : Option (List ℕ)) (bytes : List ℕ) → Keeps a b → Consumes b c bytes → Consumes a c bytes
reads_on None b c bytes one two = tt
reads_on (Some xs) None c bytes one two = elim one [ ]
reads_on (Some xs) (Some ys) None bytes one two = elim two [ ]
reads_on (Some xs) (Some ys) (Some zs) bytes one two = sym one ∙ two
