-- What was read of a hello that did not come whole.
use Rattle.std.proofs.Common.{◌≡◌, ℕ, ◌<◌, List, [], length, take, drop, Option, IsTrue, refl, sym, subst}
use Rattle.std.proofs.Common.{append-nil, take-append-drop, arith}
use Rattle.std.proofs.lemmas.List.{length-take}
use Rattle.std.proofs.KnownBytes.{Consumes-trans, Consumes-kept}
use Rattle.std.specs.Io.KnownBytes.{Consumes, Keeps}
use Rattle.definitions.specs.Accounts.{Seen}
use Rattle.definitions.specs.Items.{IsBytes}
use Rattle.definitions.specs.Refusals.{truncated}
use Rattle.laws.proofs.Fields.{front_fits}
use Rattle.session_table.specs.declared.outcome.Direction.TheVariants as directions
use Rattle.peer_threads.specs.declared.stop.Stop.{Stop}
use Rattle.peer_threads.specs.declared.stop.Stop.TheVariants as stops
use Rattle.peer_threads.specs.Hellos.{NoMore, NoHello}

fewer : (s : Seen) (room : List ℕ) (came : ℕ) (stop : Stop) → length room ≡ 4 → came < 4 → IsBytes room →
    NoMore s stop →
    NoHello s (take came room) stop
fewer s room came stop four less are why = record {
  fits = front_fits room (take came room) (drop came room) (sym (take-append-drop came room)) are;
  less = omega (arith, length-take came room);
  why = why;
}

-- the reader failed
pub no-hello-failed : (unread mid left : Option (List ℕ)) (s : Seen) (room : List ℕ) (came : ℕ) → length room ≡ 4 →
    came < 4 → IsBytes room → Consumes unread mid (take came room) → Keeps mid left → IsTrue s.failed →
    (bytes : List ℕ) × NoHello s bytes (stops.Io directions.Read) × Consumes unread left bytes
no-hello-failed unread mid left s room came four less are read kept failed =
    (take came room, fewer s room came _ four less are (refl, failed), Consumes-kept unread mid left _ read kept)

-- it ended
pub no-hello-ended : (unread mid left : Option (List ℕ)) (s : Seen) (room : List ℕ) (came : ℕ) → length room ≡ 4 →
    came < 4 → IsBytes room → Consumes unread mid (take came room) → Consumes mid left [] → IsTrue s.ended →
    (code : ℕ) → code ≡ truncated →
    (bytes : List ℕ) × NoHello s bytes (stops.Refused code) × Consumes unread left bytes
no-hello-ended unread mid left s room came four less are read none ended code three = (
  take came room,
  fewer s room came _ four less are (three, ended),
  subst (Consumes unread left) (append-nil (take came room)) (Consumes-trans unread mid left (take came room) [] read
      none),
)
