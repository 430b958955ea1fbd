-- What is read of an origin, and then more.
use Rattle.std.proofs.Common.{◌≡◌, ℕ, List, [], ◌++◌, length, take, Option, sym, ap, ◌∙◌, subst, append_assoc}
use Rattle.std.proofs.Common.{append-nil, ◌<◌}
use Rattle.definitions.proofs.Lemmas.{All-append}
use Rattle.std.proofs.Math.Seq.{take-append_seam, take-length}
use Rattle.std.proofs.KnownBytes.{Consumes-trans, Consumes-nil}
use Rattle.std.specs.Io.KnownBytes.{Consumes}
use Rattle.std.specs.Prelude.{bytes_eq}
use Rattle.definitions.specs.Wire.{Profile}
use Rattle.peer_threads.specs.Choices.{begins_with_hello}
use Rattle.peer_threads.specs.Inboxes.{ReadOn}
use Rattle.peer_threads.specs.Outcomes.{Origin, Reader, After, Takes}

pub on-nothing : (unread : Option (List ℕ)) → ReadOn unread unread
on-nothing unread = ([], tt, Consumes-nil unread)

pub on-further : (unread mid left : Option (List ℕ)) → ReadOn unread mid → ReadOn mid left → ReadOn unread left
on-further unread mid left a b =
    (a.0 ++ b.0, All-append (λ y. y < 256) a.0 b.0 a.1 b.1, Consumes-trans unread mid left a.0 b.0 a.2 b.2)

pub takes-on : (o : Origin) (left last : Option (List ℕ)) (bytes more : List ℕ) → Takes o left bytes →
    Consumes left last more → Takes o last (bytes ++ more)
takes-on (Reader unread) left last bytes more read on = Consumes-trans unread left last bytes more read on
takes-on (After front unread) left last bytes more (rest, is, read) on = (
  rest ++ more,
  ap (λ (l : List ℕ). l ++ more) is ∙ append_assoc front rest more,
  Consumes-trans unread left last rest more read on,
)

-- nothing was read after what was read before
pub takes-front : (front : List ℕ) (unread : Option (List ℕ)) → Takes (After front unread) unread front
takes-front front unread = ([], sym (append-nil front), Consumes-nil unread)

-- all that was read, from before the front on
pub takes-all : (front bytes : List ℕ) (unread mid left : Option (List ℕ)) → Consumes unread mid front →
    Takes (After front mid) left bytes → Takes (Reader unread) left bytes
takes-all front bytes unread mid left first (rest, is, read) =
    subst (Consumes unread left) (sym is) (Consumes-trans unread mid left front rest first read)

-- it begins as the front does, which is a hello long
pub begins-alike : {F : Type 0} (P : Profile F) (front bytes : List ℕ) (mid left : Option (List ℕ)) →
    length front ≡ 4 → Takes (After front mid) left bytes → begins_with_hello P bytes ≡ begins_with_hello P front
begins-alike P front bytes mid left four (rest, is, read) =
    let whole = ap (take 4) is ∙ ap (λ (n : ℕ). take n (front ++ rest)) (sym four) ∙ take-append_seam front rest in
    let all = ap (λ (n : ℕ). take n front) (sym four) ∙ take-length front in
    ap (λ (l : List ℕ). bytes_eq l P.hello) (whole ∙ sym all)
