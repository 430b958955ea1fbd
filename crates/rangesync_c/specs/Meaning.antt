-- What a handle stands for.
--     IfStrategy, IfSet, IfVersion, IfSession, IfShards t P     P holds of it, where the handle stands for one
--     IsStrategy, IsSet, IsVersion, IsSession, IsShards t P     the handle stands for one, and P holds of it
--     no_strategy, no_set, no_version, no_session, no_shards t     whether it stands for something else
--     form_number, side_number, profile_number     the number by which C names a form, a role, a profile
--     state_number, state_code s                      the numbers by which C is told how a session stands
-- What a call answers where it is not 0.
--     IsNumberOf Why code            the number of a fault of which `Why` holds
--     IsRefusal Why code             the same, or 90: memory ran out
--     IsItemFault bytes code         71 or 72: the bytes are no item
--     IsNoSetIn form text a code     why a text gives no set, in the form of a number
--     IsNotPut s bytes code          why bytes are not put into a set
--     IsUnopened role profile code   why no session is opened
--     IsNoPart lower upper code      why there is no part of a version
--     IsUncut, IsNotRead, IsUnread, IsNotDealt, IsUnshared, IsUnsaid, IsUnasked, IsUntold ..   of shards
--     IsNoPlace items place room used code     98: no item is at this place, or it is longer than the room, and its
--                                    length is said
use Rattle.std.specs.Prelude.{◌≡◌, ◌≢◌, ℕ, ◌<◌, ◌≤◌, ◌^◌, ◌⊎◌, Bool, true, false, ◌||◌, List, length, take, Err}
use Rattle.std.specs.Prelude.{IfSome, slice_get, Option, Some, ⊤}
use Rattle.std.specs.Option.{option_or}
use Rattle.std.specs.Arc.{arc_value}
use Rattle.strategy_check.specs.Checked.{Checked}
use Rattle.definitions.specs.Items.{Item, Range, IsRange}
use Rattle.definitions.specs.Talks.{Knowledge}
use Rattle.definitions.specs.Histories.{insertion}
use Rattle.shard_core.specs.Directories.{first_fault}
use Rattle.shard_core.specs.Selectors.{IsWhich, which_number, selector_text, selecting, refusal_of}
use Rattle.shard_core.specs.declared.entry.BadEntry.{BadEntry}
use Rattle.shard_core.specs.declared.selector.Which.{Which}
use Rattle.shard_core.specs.declared.selector.Selecting.TheVariants.{More, Selected}
use Rattle.rangesync_c.specs.SetStates.{SetState, VersionState, IsNoSet, IsAnswer, between, AreBounds, IsNoRange}
use Rattle.rangesync_c.specs.ShardStates.{ShardsState, version_in, is_there, IsRoomFor, IsFullFor, NoWhich}
use Rattle.rangesync_c.specs.ShardStates.{IsNotSplit, has_hello}
use Rattle.rangesync_c.specs.SessionStates.{state_in, learned_in}
use Rattle.rangesync_c.specs.Faults.{embedded_fault_number}
use Rattle.rangesync_c.specs.declared.fault.EmbeddedFault.{EmbeddedFault}
use Rattle.rangesync_c.specs.declared.any_session.AnySession.{AnySession}
use Rattle.ends_core.specs.declared.side.Side.{Side}
use Rattle.ends_core.specs.declared.side.Side.TheVariants as sides
use Rattle.rangesync_c.specs.declared.any_session.SessionProfile.{SessionProfile}
use Rattle.rangesync_c.specs.declared.any_session.SessionProfile.TheVariants as profiles
use Rattle.session_core.specs.declared.state.State.{State}
use Rattle.session_core.specs.declared.state.State.TheVariants as states
use Rattle.item_files.specs.declared.form.ItemForm.{ItemForm}
use Rattle.item_files.specs.declared.form.ItemForm.TheVariants as forms
use Rattle.rangesync_c.specs.declared.held.Thing.{Thing}
use Rattle.rangesync_c.specs.declared.held.Thing.TheVariants as things

abbrev pub IfStrategy : Thing → (Checked → Type 0) → Type 0
IfStrategy (things.Strategy x) P = P (arc_value x)
IfStrategy other P = ⊤

abbrev pub IsStrategy : Thing → (Checked → Type 0) → Type 0
IsStrategy (things.Strategy x) P = P (arc_value x)
IsStrategy other P = ⊥

abbrev pub no_strategy : Thing → Bool
no_strategy (things.Strategy x) = false
no_strategy other = true

abbrev pub IfSet : Thing → (SetState → Type 0) → Type 0
IfSet (things.Set x) P = P x
IfSet other P = ⊤

abbrev pub IsSet : Thing → (SetState → Type 0) → Type 0
IsSet (things.Set x) P = P x
IsSet other P = ⊥

abbrev pub no_set : Thing → Bool
no_set (things.Set x) = false
no_set other = true

abbrev pub IfVersion : Thing → (VersionState → Type 0) → Type 0
IfVersion (things.Version x) P = P x
IfVersion other P = ⊤

abbrev pub IsVersion : Thing → (VersionState → Type 0) → Type 0
IsVersion (things.Version x) P = P x
IsVersion other P = ⊥

abbrev pub no_version : Thing → Bool
no_version (things.Version x) = false
no_version other = true

abbrev pub IfSession : Thing → (AnySession → Type 0) → Type 0
IfSession (things.Session x) P = P x
IfSession other P = ⊤

abbrev pub IsSession : Thing → (AnySession → Type 0) → Type 0
IsSession (things.Session x) P = P x
IsSession other P = ⊥

abbrev pub no_session : Thing → Bool
no_session (things.Session x) = false
no_session other = true

abbrev pub form_number : ItemForm → ℕ
form_number forms.Hex = 0
form_number forms.Text = 1
form_number forms.Hash = 2

abbrev pub side_number : Side → ℕ
side_number sides.Initiator = 0
side_number sides.Responder = 1

abbrev pub profile_number : SessionProfile → ℕ
profile_number profiles.One = 1
profile_number profiles.Two = 2

abbrev pub state_number : State → ℕ
state_number states.Open = 0
state_number states.Ended = 1
state_number (states.Refused code) = 2
state_number (states.PeerRefused code) = 3

-- the number of a refusal, or 0
abbrev pub state_code : State → ℕ
state_code states.Open = 0
state_code states.Ended = 0
state_code (states.Refused code) = code
state_code (states.PeerRefused code) = code

-- ---- what a call answers where it is not 0

abbrev pub IsNumberOf : (EmbeddedFault → Type 0) → ℕ → Type 0
IsNumberOf Why code = (f : EmbeddedFault) × (code ≡ embedded_fault_number f) × Why f

abbrev pub IsRefusal : (EmbeddedFault → Type 0) → ℕ → Type 0
IsRefusal Why code = (code ≡ 90) ⊎ IsNumberOf Why code

-- an item has 1 to 64 bytes
abbrev pub IsItemLength : List ℕ → Type 0
IsItemLength bytes = (1 ≤ length bytes) × (length bytes ≤ 64)

abbrev pub IsItemFault : List ℕ → ℕ → Type 0
IsItemFault bytes code = ((code ≡ 71) × (length bytes ≡ 0)) ⊎ ((code ≡ 72) × (64 < length bytes))

-- there is no such form; or the text gives no set under this strategy, or memory ran out
abbrev pub IsNoSetIn : ℕ → List ℕ → Checked → ℕ → Type 0
IsNoSetIn form text a code = ((code ≡ 98) × (1 < form)) ⊎ ((form ≤ 1)
    × IsRefusal (λ f. (kind : ItemForm) × (form_number kind ≡ form) × IsNoSet kind text a f) code)

-- they are no item; or it is new and the set is full, or memory ran out
abbrev pub IsNotPut : SetState → List ℕ → ℕ → Type 0
IsNotPut s bytes code = IsItemFault bytes code
    ⊎ (IsItemLength bytes × IsNumberOf (λ f. IsAnswer (insertion s.accepted.table.cap s.history bytes) (Err f)) code)

-- a role and a profile have these numbers; or there is no such role, or no such profile
abbrev pub NamesBoth : ℕ → ℕ → Type 0
NamesBoth role profile = (role ≤ 1) × (1 ≤ profile) × (profile ≤ 2)

abbrev pub NamesNone : ℕ → ℕ → Type 0
NamesNone role profile = (1 < role) ⊎ ((profile ≡ 0) ⊎ (2 < profile))

-- there is no such role, or no such profile; or memory ran out
abbrev pub IsUnopened : ℕ → ℕ → ℕ → Type 0
IsUnopened role profile code = ((code ≡ 98) × NamesNone role profile) ⊎ ((code ≡ 90) × NamesBoth role profile)

-- there is no such range; or there is, and memory ran out
abbrev pub IsNoPart : List ℕ → List ℕ → ℕ → Type 0
IsNoPart lower upper code = IsNumberOf (IsNoRange lower upper) code ⊎ ((code ≡ 90) × AreBounds lower upper)

abbrev pub IsNoPlace : List Item → ℕ → ℕ → ℕ → ℕ → Type 0
IsNoPlace items place room used code = (code ≡ 98)
    × IfSome (slice_get items place) (λ x. (room < length x) × (used ≡ length x))

-- ---- sets of any size

abbrev pub IfShards : Thing → (ShardsState → Type 0) → Type 0
IfShards (things.Shards x) P = P x
IfShards other P = ⊤

abbrev pub IsShards : Thing → (ShardsState → Type 0) → Type 0
IsShards (things.Shards x) P = P x
IsShards other P = ⊥

abbrev pub no_shards : Thing → Bool
no_shards (things.Shards x) = false
no_shards other = true

-- there are such shards, where the cap has room for their directory; or there are none
abbrev pub AreCut : List ℕ → ℕ → Type 0
AreCut name bits = (length name ≤ 64) × (bits ≤ 12)

abbrev pub IsUncut : Checked → List ℕ → ℕ → ℕ → Type 0
IsUncut a name bits code = ((code ≡ 98) × ((64 < length name) ⊎ (12 < bits)))
    ⊎ (AreCut name bits × (((code ≡ 82) × (a.table.cap < 2 ^ bits)) ⊎ ((code ≡ 90) × (2 ^ bits ≤ a.table.cap))))

-- there is no such form; or the text gives no set in these shards, or memory ran out
abbrev pub IsNotRead : Checked → ℕ → ℕ → List ℕ → ℕ → Type 0
IsNotRead a bits form text code = ((code ≡ 98) × (1 < form)) ⊎ ((form ≤ 1)
    × IsRefusal (λ f. (kind : ItemForm) × (form_number kind ≡ form) × IsNotSplit kind text a bits f) code)

-- there are no such shards; or there are, and nothing is read into them
abbrev pub IsUnread : Checked → List ℕ → ℕ → ℕ → List ℕ → ℕ → Type 0
IsUnread a name bits form text code = IsUncut a name bits code
    ⊎ (AreCut name bits × (2 ^ bits ≤ a.table.cap) × IsNotRead a bits form text code)

-- bytes are no item; or it is new, and its shard is full, or memory ran out
abbrev pub IsNotDealt : ShardsState → List ℕ → ℕ → Type 0
IsNotDealt s bytes code = IsItemFault bytes code ⊎ (IsItemLength bytes × (is_there s bytes ≡ false)
    × (((code ≡ 40) × IsFullFor s bytes) ⊎ ((code ≡ 90) × IsRoomFor s bytes)))

-- a shard or the directory has this number
abbrev pub Names : ℕ → ℕ → Which → Type 0
Names bits number w = IsWhich bits w × (which_number w ≡ number)

-- none has; or there is no such range of its items; or memory ran out
abbrev pub IsUnshared : ℕ → ℕ → List ℕ → List ℕ → ℕ → Type 0
IsUnshared bits number lower upper code = ((code ≡ 98) × NoWhich bits number)
    ⊎ (((w : Which) × Names bits number w) × IsNoPart lower upper code)

-- the same; or the selector is longer than the room, and its length is said
abbrev pub IsUnsaid : ShardsState → ℕ → List ℕ → List ℕ → ℕ → ℕ → ℕ → Type 0
IsUnsaid s number lower upper room used code = IsUnshared s.bits number lower upper code
    ⊎ ((code ≡ 98) × AreBounds lower upper × (room < used) × ((w : Which) × Names s.bits number w
    × (used ≡ length (selector_text s.name s.bits w (between lower upper)))))

-- a peer's first bytes are judged once its hello has come, or they have ended
abbrev pub is_judged : Bool → List ℕ → Bool
is_judged ended bytes = ended || has_hello bytes

-- they select no version here, or none yet, which is refused 3
abbrev pub IsRefusedFor : ShardsState → List ℕ → ℕ → Type 0
IsRefusedFor s bytes code = (refusal_of (selecting s.name s.bits bytes) ≡ Some code)
    ⊎ ((code ≡ 3) × (selecting s.name s.bits bytes ≡ More))

-- they select one, and memory ran out
abbrev pub IsUnmade : ShardsState → List ℕ → ℕ → Type 0
IsUnmade s bytes code = (code ≡ 90)
    × ((w : Which) × (X : Range) × (used : ℕ) × (selecting s.name s.bits bytes ≡ Selected w X used))

abbrev pub IsUnasked : ShardsState → Bool → List ℕ → ℕ → Type 0
IsUnasked s ended bytes code = ((code ≡ 98) × (is_judged ended bytes ≡ false))
    ⊎ ((is_judged ended bytes ≡ true) × (IsRefusedFor s bytes code ⊎ IsUnmade s bytes code))

-- a selector of so many bytes comes first, of what has this number; the version has just its items
abbrev pub Selects : ShardsState → List ℕ → ℕ → ℕ → VersionState → Type 0
Selects s bytes number used v = (w : Which) × (X : Range) × Names s.bits number w × IsRange X
    × (selecting s.name s.bits bytes ≡ Selected w X used) × (take used bytes ≡ selector_text s.name s.bits w X)
    × (v ≡ version_in s w X)

-- what was learned has an item that is no entry
abbrev pub entry_faults : ℕ → Knowledge → Option BadEntry
entry_faults bits l = option_or (first_fault bits l.ours) (first_fault bits l.theirs)

-- there is no such number of shards, or no room for as many bytes, or nothing is learned yet; or that is no directory;
-- or memory ran out
abbrev pub IsNoDirectory : ℕ → Knowledge → ℕ → Type 0
IsNoDirectory bits l code = ((code ≡ 57) × ((f : BadEntry) × (entry_faults bits l ≡ Some f))) ⊎ (code ≡ 90)

abbrev pub IsUntold : AnySession → ℕ → ℕ → ℕ → Type 0
IsUntold s bits room code =
    ((code ≡ 98) × ((12 < bits) ⊎ ((room < 2 ^ bits) ⊎ (state_in s ≢ states.Ended))))
    ⊎ ((bits ≤ 12) × (2 ^ bits ≤ room) × (state_in s ≡ states.Ended) × IsNoDirectory bits (learned_in s) code)
