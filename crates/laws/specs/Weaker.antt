-- What does not hold: claims with a premise less.
--     InitiatorStopsAnyhow, ResponderStopsAnyhow      where an upper bound may come before the lower
--     ListsAreShortAnyhow                             where a table's rows may end below the cap
--     KnowledgeIsExactAnyhow, PartsAreFewAnyhow       where the test of fingerprints may err
use Rattle.std.specs.Prelude.{ℕ, ◌+◌, ◌≤◌, ◌<◌, ◌==◌, true, false, List, length}
use Rattle.std.specs.List.{AllByRecursion}
use Rattle.definitions.specs.Items.{Item}
use Rattle.definitions.specs.Sets.{IsSet}
use Rattle.definitions.specs.Fingerprints.{Summary}
use Rattle.definitions.specs.Messages.{Message}
use Rattle.definitions.specs.Ranks.{Accepted}
use Rattle.definitions.specs.Replies.{Peer}
use Rattle.definitions.specs.Talks.{talk, initiator_knows, IsClear}
use Rattle.definitions.specs.Cost.{part_bound}
use Rattle.definitions.specs.Engines.{says, initiating, responding}
use Rattle.definitions.specs.Theorems.{Ready, opened, rank, KeepLimits, KnowsDifference}

abbrev pub InitiatorStopsAnyhow : {F : Type 0} → Summary F → Type 0
InitiatorStopsAnyhow {F} S = (P : Peer) (f : List ℕ) (Ms : List (Message F)) → Ready P f →
    length (says S (initiating S P) Ms) ≤ opened S f P + 2

abbrev pub ResponderStopsAnyhow : {F : Type 0} → Summary F → Type 0
ResponderStopsAnyhow {F} S = (P : Peer) (f : List ℕ) (Ms : List (Message F)) → Ready P f →
    length (says S (responding S P) Ms) ≤ rank f P + 1

abbrev pub ListsAreShortAnyhow : {F : Type 0} → Summary F → Type 0
ListsAreShortAnyhow S = (I R : Peer) (k : ℕ) → Accepted I.table → Accepted R.table →
    length I.items ≤ I.table.cap → length R.items ≤ R.table.cap →
    KeepLimits I.table.limit R.table.limit (talk S I R k)

-- the fingerprint of a set is its size
abbrev pub count_summary : Summary ℕ
count_summary = record { of = length; same = λ m n. m == n; may_cut = false }

abbrev pub KnowledgeIsExactAnyhow : {F : Type 0} → Summary F → Type 0
KnowledgeIsExactAnyhow S = (I R : Peer) (k : ℕ) → IsSet I.items → IsSet R.items → length (talk S I R k) < k →
    IsClear S I.items R.items (talk S I R k) →
    KnowsDifference (initiator_knows I.items (talk S I R k)) I.items R.items

-- the fingerprint of a set is the set, and all are taken for equal
abbrev pub blind : Summary (List Item)
blind = record { of = λ A. A; same = λ f g. true; may_cut = false }

abbrev pub PartsAreFewAnyhow : {F : Type 0} → Summary F → Type 0
PartsAreFewAnyhow S = (I R : Peer) (k : ℕ) → IsSet I.items → IsSet R.items →
    AllByRecursion (λ M. length M ≤ part_bound S I R) (talk S I R k)

-- the fingerprint of a set is the set, and none are taken for equal
abbrev pub wary : Summary (List Item)
wary = record { of = λ A. A; same = λ f g. false; may_cut = false }
