-- What a writer holds, and the text that waits for it.
use Rattle.std.proofs.Common.{ℕ, List, Option, sym, take, drop}
use Rattle.std.proofs.lemmas.List.{take-append-drop}
use Rattle.std.specs.Io.KnownBytes.{Keeps, Appends, append_known}
use Rattle.std.proofs.KnownBytes.{Keeps-refl, Keeps-trans, append_known-moved}

-- so much of the text was taken
pub taken_moved : (a b : Option (List ℕ)) (pending : List ℕ) (n : ℕ) → Appends a b (take n pending) →
    Keeps (append_known a pending) (append_known b (drop n pending))
taken_moved a b pending n taken =
    append_known-moved a b (take n pending) (drop n pending) pending taken (sym (take-append-drop n pending))

pub held_same : (a : Option (List ℕ)) → Keeps a a
held_same a = Keeps-refl a

pub held_on : (a b c : Option (List ℕ)) → Keeps a b → Keeps b c → Keeps a c
held_on a b c p q = Keeps-trans a b c p q
