-- No List of a reply is longer than the limit.
use Rattle.std.proofs.Common.{◌≡◌, ◌++◌, Result, Ok, Err, IfSome, Option, Some, None, sym, ap, ◌∙◌, subst, arith}
use Rattle.std.specs.List.{AllByRecursion}
use Rattle.definitions.specs.Fingerprints.{Summary}
use Rattle.definitions.specs.Messages.{Message}
use Rattle.definitions.specs.Wire.{Profile}
use Rattle.definitions.specs.Replies.{reply, Peer}
use Rattle.definitions.specs.Ends.{End, Answer, Replies, answer}
use Rattle.std.specs.Prelude.{fold}
use Rattle.definitions.proofs.Lemmas.{fold-append}
use Rattle.definitions.specs.Taking.{nothing_taken, taken, taken_all, ended, by_parts}
use Rattle.definitions.specs.Theorems.{RepliesAreShort, IsShort}
use Rattle.laws.specs.Taking.{PartsAreTaken}
use Rattle.ends_core.specs.EndStates.{EndState}
use Rattle.ends_core.specs.Standing.{Stands}
use Rattle.ends_core.specs.Turns.{KeepsLimit, answer_in}
use Rattle.ends_core.specs.declared.turn.Turn.{Turn}
use Rattle.ends_core.specs.declared.turn.Turn.TheVariants as turns
use Rattle.ends_core.specs.declared.turn.EndFault.{EndFault}

-- what is replied is the reply
replied : {F : Type 0} (S : Summary F) (e : End F) (M N : Message F) → Replies N ≡ answer S e M → N ≡ reply S e.peer M
replied S e M N same = grind arith

module _ {F : Type 0} (S : Summary F) (Q : Profile F) where
  answered-short : (start : Peer → End F) (h : EndState F) (M : Message F) (r : Result (Turn F) EndFault) →
      RepliesAreShort S → Stands S Q start h →
      IfSome (answer_in r) (λ a. a ≡ answer S h.end M) → KeepsLimit h r
  answered-short start h M (Ok (turns.Reply N)) short s same =
      subst (AllByRecursion (IsShort h.end.peer.table.limit)) (sym (replied S h.end M N same))
      (short h.end.peer M s.checked.is_table s.checked.accepted s.room)
  answered-short start h M (Ok turns.Over) short s same = tt
  answered-short start h M (Err f) short s same = tt

  -- of the end of a message: what was taken are the parts of some message
  pub ended-short : (start : Peer → End F) (h : EndState F) (r : Result (Turn F) EndFault) → RepliesAreShort S →
      PartsAreTaken S → Stands S Q start h →
      IfSome (answer_in r) (λ a. a ≡ ended h.taken) → KeepsLimit h r
  ended-short start h r short law s same = answered-short start h s.took.0 r short s (told (answer_in r) same) where
    told : (o : Option (Answer F)) → IfSome o (λ a. a ≡ ended h.taken) → IfSome o (λ a. a ≡ answer S h.end s.took.0)
    told None same = tt
    told (Some a) same = same ∙ ap ended s.took.2 ∙ (law h.end s.took.0).at_the_end

  -- of a message, after the parts that were taken before
  pub message-short : (start : Peer → End F) (h : EndState F) (M : Message F) (r : Result (Turn F) EndFault) →
      RepliesAreShort S → PartsAreTaken S → Stands S Q start h →
      IfSome (answer_in r) (λ a. a ≡ by_parts S h.end h.taken M) → KeepsLimit h r
  message-short start h M r short law s same =
      answered-short start h (s.took.0 ++ M) r short s (told (answer_in r) same) where
        all : fold (taken S h.end) h.taken M ≡ taken_all S h.end (s.took.0 ++ M)
        all =
            ap (λ t. fold (taken S h.end) t M) s.took.2
            ∙ sym (fold-append (taken S h.end) (nothing_taken h.end) s.took.0 M)

        told : (o : Option (Answer F)) → IfSome o (λ a. a ≡ by_parts S h.end h.taken M) →
            IfSome o (λ a. a ≡ answer S h.end (s.took.0 ++ M))
        told None same = tt
        told (Some a) same =
            same ∙ (law h.end M).from_any h.taken ∙ ap ended all ∙ (law h.end (s.took.0 ++ M)).at_the_end
