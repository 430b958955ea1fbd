-- A visit is counted once.
--     own       the count of its ending rises by one
--     others    no other count changes
use Rattle.std.proofs.Common.{◌≡◌, refl, sym, ap, subst, ◌<◌, get_or-set_same, get_or-set_other}
use Rattle.std.specs.Prelude.{◌≢◌, slice_index}
use Rattle.session_table.specs.declared.outcome.Direction.TheVariants.{Read, Write}
use Rattle.watch_core.specs.Counting.{HasNumbers, IsEnding, count_of, plus, with_ending}
use Rattle.watch_core.specs.declared.endings.Ending.{Ending}
use Rattle.watch_core.specs.declared.endings.Ending.TheVariants as endings
use Rattle.watch_core.specs.declared.endings.EndingCounts.{EndingCounts}

pub own : (e : Ending) (c : EndingCounts) → HasNumbers c → IsEnding e →
    count_of e (with_ending e c) ≡ plus (count_of e c) 1
own endings.Ended c has is = refl
own (endings.Refused code) c has is =
    get_or-set_same c.refused code (plus (slice_index c.refused code) 1) 0 (subst (λ n. code < n) (sym has.0) is)
own (endings.PeerRefused code) c has is =
    get_or-set_same c.peer_refused code (plus (slice_index c.peer_refused code) 1) 0
    (subst (λ n. code < n) (sym has.1) is)
own (endings.Io Read) c has is = refl
own (endings.Io Write) c has is = refl
own endings.Memory c has is = refl

pub others : (e f : Ending) (c : EndingCounts) → e ≢ f → count_of f (with_ending e c) ≡ count_of f c
others endings.Ended endings.Ended c differ = absurd (differ refl)
others endings.Ended (endings.Refused b) c differ = refl
others endings.Ended (endings.PeerRefused b) c differ = refl
others endings.Ended (endings.Io Read) c differ = refl
others endings.Ended (endings.Io Write) c differ = refl
others endings.Ended endings.Memory c differ = refl
others (endings.Refused a) endings.Ended c differ = refl
others (endings.Refused a) (endings.Refused b) c differ =
    get_or-set_other c.refused a b (plus (slice_index c.refused a) 1) 0 (λ same. differ (ap endings.Refused (sym same)))
others (endings.Refused a) (endings.PeerRefused b) c differ = refl
others (endings.Refused a) (endings.Io Read) c differ = refl
others (endings.Refused a) (endings.Io Write) c differ = refl
others (endings.Refused a) endings.Memory c differ = refl
others (endings.PeerRefused a) endings.Ended c differ = refl
others (endings.PeerRefused a) (endings.Refused b) c differ = refl
others (endings.PeerRefused a) (endings.PeerRefused b) c differ =
    get_or-set_other c.peer_refused a b (plus (slice_index c.peer_refused a) 1) 0
    (λ same. differ (ap endings.PeerRefused (sym same)))
others (endings.PeerRefused a) (endings.Io Read) c differ = refl
others (endings.PeerRefused a) (endings.Io Write) c differ = refl
others (endings.PeerRefused a) endings.Memory c differ = refl
others (endings.Io Read) endings.Ended c differ = refl
others (endings.Io Read) (endings.Refused b) c differ = refl
others (endings.Io Read) (endings.PeerRefused b) c differ = refl
others (endings.Io Read) (endings.Io Read) c differ = absurd (differ refl)
others (endings.Io Read) (endings.Io Write) c differ = refl
others (endings.Io Read) endings.Memory c differ = refl
others (endings.Io Write) endings.Ended c differ = refl
others (endings.Io Write) (endings.Refused b) c differ = refl
others (endings.Io Write) (endings.PeerRefused b) c differ = refl
others (endings.Io Write) (endings.Io Read) c differ = refl
others (endings.Io Write) (endings.Io Write) c differ = absurd (differ refl)
others (endings.Io Write) endings.Memory c differ = refl
others endings.Memory endings.Ended c differ = refl
others endings.Memory (endings.Refused b) c differ = refl
others endings.Memory (endings.PeerRefused b) c differ = refl
others endings.Memory (endings.Io Read) c differ = refl
others endings.Memory (endings.Io Write) c differ = refl
others endings.Memory endings.Memory c differ = absurd (differ refl)
