-- What a reader of the frames of a client gives.
--     FramedState R              a reader of frames, and how far they were read
--     stream_left s unread       the bytes of the stream that are still to come, where those of the frames are known
--     may_end stop               a stream that stopped for this may say that it has ended: it was closed, or has not stopped
--     GivesOnce old new read buf what one read gives: bytes of the front; none at the end, or without room; after an
--                                error they are all still to come
use Rattle.std.specs.Prelude.{◌<◌, ℕ, List, Bool, true, false, Option, None, Some, option_map, MatchResult, MatchOption, Result, length, take}
use Rattle.std.specs.Io.KnownBytes.{Consumes, IsAtEnd, Keeps}
use Rattle.http_core.specs.declared.frames.Stop.{Stop}
use Rattle.http_core.specs.declared.frames.Stop.TheVariants as stops
use Rattle.http_core.specs.Frames.{FrameState, run}

pub record FramedState (R : Type 0) : Type 0 where
  pub reader : R
  pub frames : FrameState

abbrev pub stream_left : FrameState → Option (List ℕ) → Option (List ℕ)
stream_left s unread = option_map (λ bytes. (run s bytes).1) unread

abbrev pub may_end : Option Stop → Bool
may_end None = true
may_end (Some stops.Closed) = true
may_end (Some _) = false

abbrev pub GivesOnce : {E : Type 0} →
    Option (List ℕ) → Option (List ℕ) → Result (Option ℕ) E → List ℕ → Type 0
GivesOnce old new read buf = MatchResult read
    (λ given. MatchOption given (Keeps old new × (0 < length buf → IsAtEnd new)) (λ n. Consumes old new (take n buf)))
    (λ _. Keeps old new)
