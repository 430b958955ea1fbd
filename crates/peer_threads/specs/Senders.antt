-- What was written.
--     SenderState                     whether the hello was, and how many messages
--     HasWritten o held holds Ms      the hello and these messages were
--     Adds o p held holds Ms          these messages more
--     hello_due o                     the hello, if it was not written
--     refusal_text o code             by which a side refuses: the hello, if it was not written, and one fault frame
--     Begins held holds bytes         some beginning of these bytes
--     BreaksIn held holds bytes       some beginning of these bytes, and not all of them
--     WroteSo held holds failed bytes all of them, or a beginning, and then the writer failed
use Rattle.std.specs.Prelude.{◌≡◌, ℕ, ◌+◌, ◌<◌, ◌⊎◌, Bool, true, IsTrue, List, [], ◌++◌, length, flat_map, take}
use Rattle.std.specs.Prelude.{if◌then◌else◌, Option}
use Rattle.std.specs.Io.KnownBytes.{Appends}
use Rattle.definitions.specs.Messages.{Message}
use Rattle.definitions.specs.Wire.{Profile, session_text, message_text, fault_text}

pub record SenderState : Type 0 where
  pub greeted : Bool
  pub sent : ℕ

abbrev pub sender_state : Bool → ℕ → SenderState
sender_state greeted sent = record { greeted = greeted; sent = sent }

module _ {F : Type 0} (W : Profile F) where
  pub record HasWritten (o : SenderState) (held holds : Option (List ℕ)) (Ms : List (Message F)) : Type 0 where
    pub greeted : o.greeted ≡ true
    pub count : o.sent ≡ length Ms
    pub written : Appends held holds (session_text W Ms)

  -- each of these was written whole
  pub record Adds (o p : SenderState) (held holds : Option (List ℕ)) (Ms : List (Message F)) : Type 0 where
    pub greeted : p.greeted ≡ o.greeted
    pub count : p.sent ≡ o.sent + length Ms
    pub written : Appends held holds (flat_map (message_text W) Ms)

  abbrev pub hello_due : SenderState → List ℕ
  hello_due o = if o.greeted then [] else W.hello

  abbrev pub refusal_text : SenderState → ℕ → List ℕ
  refusal_text o code = hello_due o ++ fault_text code

-- some beginning of the bytes was written
abbrev pub Begins : Option (List ℕ) → Option (List ℕ) → List ℕ → Type 0
Begins held holds bytes = (n : ℕ) × Appends held holds (take n bytes)

-- a proper beginning of the bytes was written
abbrev pub BreaksIn : Option (List ℕ) → Option (List ℕ) → List ℕ → Type 0
BreaksIn held holds bytes = (n : ℕ) × (n < length bytes) × Appends held holds (take n bytes)

abbrev pub WroteSo : Option (List ℕ) → Option (List ℕ) → Bool → List ℕ → Type 0
WroteSo held holds failed bytes = Appends held holds bytes ⊎ (IsTrue failed × Begins held holds bytes)
