-- A folder in which a file is replaced by a new one beside it: what the calls do, where that is known.
--     FolderState           what stands at the path, what a stop could leave there, and what the new file holds
--     CouldLeave p bytes    a stop at any moment so far could have left these bytes at the path
--     begun p               the new file is there, and empty
--     appended bs short p   it has these bytes more. If it stands at the path already, a stop could leave a part
--     synced p              what it holds outlives a loss of power
--     renamed p             it stands at the path. If it was not synced, a loss of power could leave anything there
--     settled p             a loss of power leaves what stands there
--     Fails p q             a call failed: at the path all is as it was, and of the new file nothing is known
--     FailsToAppend p q     the same of an append; if the new file stands at the path, nothing is known of that
--     FailsToRename p q     the same of a rename: the new file stands there or the other
--     Lifts P old new       P holds of both states, where they are known
--     Gives f Fs old new r  at Ok the new state is f of the old one, at Err the call failed
--     Writes bytes p q      the new file holds just these bytes, and at the path all is as it was
--     Saves bytes p q       the same, and they outlive a loss of power
--     StopsBefore p q       a call was refused, and at the path all is as it was
--     Replaces text p q r   the file was replaced by one of this text, or not, and nothing else was there at any moment
use Rattle.std.specs.Prelude.{◌≡◌, ◌⊎◌, ℕ, ◌+◌, ◌<◌, ◌≤◌, nat_lt, Bool, true, false, not, ◌||◌, List, [], ◌∷◌, ◌++◌}
use Rattle.std.specs.Prelude.{length, Contains, ⊤, Option, Some, None, option_map, Result, Ok, Err, MatchResult, OnOk}
use Rattle.std.specs.Prelude.{OnErr, IfErr, IsTrue, if◌then◌else◌}
use Rattle.loading.specs.declared.replacing.ReplaceFault.{ReplaceFault}
use Rattle.loading.specs.declared.replacing.ReplaceFault.TheVariants.{NotReplaced, NotSettled}

pub record FolderState : Type 0 where
  -- what stands at the path, for who reads it now
  pub there : List ℕ
  -- what a stop now could leave there: a kill, or a loss of power
  pub leaves : List (List ℕ)
  -- what a stop at any moment so far could have left there
  pub found : List (List ℕ)
  -- a stop could have left something else, as a part of a file
  pub is_spoiled : Bool
  -- what the new file holds, and whether all of it outlives a loss of power
  pub fresh : List ℕ
  pub is_saved : Bool
  -- the new file stands at the path
  pub is_renamed : Bool
  -- how many calls were refused, or not taken whole
  pub refusals : ℕ

abbrev pub CouldLeave : FolderState → List ℕ → Type 0
CouldLeave p bytes = IsTrue p.is_spoiled ⊎ Contains p.found bytes

abbrev pub begun : FolderState → FolderState
begun p = record p { fresh = []; is_saved = false; is_renamed = false }

-- bytes of the file that stands at the path may be lost from now on
abbrev pub touched : FolderState → FolderState
touched p = record p { is_saved = false; is_spoiled = p.is_spoiled || p.is_renamed }

abbrev pub grown : FolderState → List ℕ → FolderState
grown p new = record p { fresh = new; there = if p.is_renamed then new else p.there }

abbrev pub counted : FolderState → Bool → FolderState
counted p refused = record p { refusals = if refused then p.refusals + 1 else p.refusals }

abbrev pub appended : List ℕ → Bool → FolderState → FolderState
appended bytes short p = counted (grown (touched p) (p.fresh ++ bytes)) short

abbrev pub synced : FolderState → FolderState
synced p = record p { is_saved = true }

abbrev pub renamed : FolderState → FolderState
renamed p = record p {
  there = p.fresh;
  leaves = p.leaves ++ p.fresh ∷ [];
  found = p.found ++ p.fresh ∷ [];
  is_spoiled = p.is_spoiled || not p.is_saved;
  is_renamed = true;
}

abbrev pub settled : FolderState → FolderState
settled p = record p { leaves = if p.is_renamed then p.there ∷ [] else p.leaves }

pub record Fails (p q : FolderState) : Type 0 where
  pub there : q.there ≡ p.there
  pub leaves : q.leaves ≡ p.leaves
  pub found : q.found ≡ p.found
  pub spoiled : q.is_spoiled ≡ p.is_spoiled
  pub counted : q.refusals ≡ p.refusals + 1

abbrev pub FailsBy : Bool → FolderState → FolderState → Type 0
FailsBy false p q = Fails p q
FailsBy true p q = (q.is_spoiled ≡ true) × (q.refusals ≡ p.refusals + 1)

abbrev pub FailsToAppend : FolderState → FolderState → Type 0
FailsToAppend p q = FailsBy p.is_renamed p q

abbrev pub FailsToRename : FolderState → FolderState → Type 0
FailsToRename p q = Fails p q ⊎ Fails (renamed p) q

abbrev pub Lifts : (FolderState → FolderState → Type 0) → Option FolderState → Option FolderState → Type 0
Lifts P None q = ⊤
Lifts P (Some p) None = ⊥
Lifts P (Some p) (Some q) = P p q

abbrev pub is_short : {E : Type 0} → Result ℕ E → List ℕ → Bool
is_short (Ok n) bytes = nat_lt n (length bytes)
is_short (Err e) bytes = true

abbrev pub Gives : {T E : Type 0} → (FolderState → FolderState) → (FolderState → FolderState → Type 0) →
    Option FolderState → Option FolderState → Result T E → Type 0
Gives f Fs old new r = MatchResult r (λ _. new ≡ option_map f old) (λ _. Lifts Fs old new)

pub record Writes (bytes : List ℕ) (p q : FolderState) : Type 0 where
  pub there : q.there ≡ p.there
  pub leaves : q.leaves ≡ p.leaves
  pub found : q.found ≡ p.found
  pub spoiled : q.is_spoiled ≡ p.is_spoiled
  pub fresh : q.fresh ≡ bytes
  pub beside : q.is_renamed ≡ false
  pub counts : p.refusals ≤ q.refusals

pub record Saves (bytes : List ℕ) (p q : FolderState) : Type 0 where
  pub writes : Writes bytes p q
  pub saved : q.is_saved ≡ true

pub record StopsBefore (p q : FolderState) : Type 0 where
  pub there : q.there ≡ p.there
  pub leaves : q.leaves ≡ p.leaves
  pub found : q.found ≡ p.found
  pub spoiled : q.is_spoiled ≡ p.is_spoiled
  pub counts : p.refusals < q.refusals

-- where the fault says that the new file stands at the path, it does
abbrev pub IsThere : List ℕ → FolderState → ReplaceFault → Type 0
IsThere text q (NotReplaced kind) = ⊤
IsThere text q (NotSettled kind) = q.there ≡ text

pub record Replaces (text : List ℕ) (p q : FolderState) (r : Result Unit ReplaceFault) : Type 0 where
  -- who reads it now, as after a kill, finds the old bytes or the new ones
  pub there : (q.there ≡ p.there) ⊎ (q.there ≡ text)
  -- a stop at any moment could have left what it could before, or the new ones
  pub found : (bytes : List ℕ) → CouldLeave q bytes → CouldLeave p bytes ⊎ (bytes ≡ text)
  -- once it is done, a stop leaves the new ones alone
  pub done : OnOk r ((q.there ≡ text) × (q.leaves ≡ text ∷ []) × (q.is_spoiled ≡ p.is_spoiled))
  pub named : IfErr r (IsThere text q)
  pub refused : OnErr r (p.refusals < q.refusals)
