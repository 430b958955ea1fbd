-- What the getters of the matches read, by the rows.
use Rattle.std.proofs.Common.{arith, ◌≡◌, ◌∙◌, ℕ, ◌<◌, ◌^◌, Bool, true, false, Option, Some, None, Result, Ok, Err}
use Rattle.std.proofs.Common.{IfErr, IfOk, IfSome, ap, sym, refl, subst}
use Rattle.std.specs.Bool.{then_some}
use Rattle.std.specs.Str.Parse.{ExplainsUnsignedError, HasUnsignedDigitsIfOk, ParsesUnsigned}
use Rattle.std.specs.declared.num.ParseIntError.{ParseIntError}
use Rattle.clap.specs.Words.{ReadsOne, TriesOne, Text, one_text, rows_of}
use Rattle.clap.specs.declared.parser.matches.Found.{Found}
use Rattle.clap.proofs.WalkLemmas.{one_text-rows}
use Rattle.settings_core.specs.Calls.{Finds, IsNumber, IsWritten}
use Rattle.settings_core.specs.Spans.{IsWithin}

-- what `parse` gives at an unsigned number of k bits
abbrev Parses : ℕ → Text → Result ℕ ParseIntError → Type 0
Parses k text r = ParsesUnsigned k 10 text r × ExplainsUnsignedError 10 text r × HasUnsignedDigitsIfOk text r

pub nothing : {X : Type 0} (P : X → Type 0) (r : Option X) → r ≡ None → ((x : X) → P x → ⊥) → Finds P r
nothing P r is none = subst (Finds P) (sym is) none

pub kept : {X : Type 0} (P : X → Type 0) (x : X) (b : Bool) (r : Option X) → r ≡ then_some b x
    → (b ≡ true → P x) → (b ≡ false → (y : X) → P y → ⊥) → Finds P r
kept P x true r is holds fails = subst (Finds P) (sym is) (holds refl)
kept P x false r is holds fails = subst (Finds P) (sym is) (fails refl)

-- one text writes one number
pub one_number : (text : Option Text) (n : ℕ) (x : Option ℕ) → IsWritten text (Some n) → IsWritten text x → x ≡ Some n
one_number None n x written other = absurd written
one_number (Some text) n None written other = absurd other
one_number (Some text) n (Some m) written other = ap Some (other.1 ∙ sym written.1)

pub same_number : (text : Option Text) (n m : ℕ) → IsWritten text (Some n) → IsWritten text (Some m) → n ≡ m
same_number None n m written other = absurd written
same_number (Some text) n m written other = written.1 ∙ sym other.1

-- a text that is no number of k bits writes none
no_number : (k : ℕ) (text : Text) (e : ParseIntError) (n : ℕ) → ParsesUnsigned k 10 text (Err e) → n < 2 ^ k
    → IsWritten (Some text) (Some n) → ⊥
no_number k text e n refused small written = refused (written.0, subst (λ m. m < 2 ^ k) written.1 small)

-- a number of k bits that a text writes
abbrev Fits : ℕ → Option Text → ℕ → Type 0
Fits k text n = (n < 2 ^ k) × IsWritten text (Some n)

-- no number of k bits, and not that there is none
abbrev FitsNone : ℕ → Option Text → Type 0
FitsNone k text = (x : Option ℕ) → IfSome x (λ n. n < 2 ^ k) → IsWritten text x → ⊥

-- what `try_get_one` gives at a text
abbrev Tells : ℕ → Option Text → Result (Option ℕ) ParseIntError → Type 0
Tells k text r = IfOk r (IsWritten text) × IfErr r (λ _. FitsNone k text)

-- the number that `get_one` gives is the one that the text writes
pub number_got : (k : ℕ) (f : Found) (id : Text) (o : Option ℕ) → (one_text f id ≡ None → o ≡ None)
    → ((text : Text) → one_text f id ≡ Some text → ReadsOne (Parses k) text o)
    → Finds (λ n. (n < 2 ^ k) × IsNumber id (rows_of f) (Some n)) o
number_got k f id o none value = subst (λ t. Finds (Fits k t) o) (one_text-rows f id) (go (one_text f id) refl)
  where
    given : (text : Text) (p : Option ℕ) → ReadsOne (Parses k) text p → Finds (Fits k (Some text)) p
    given text (Some n) reads = (subst (λ m. m < 2 ^ k) (sym reads.0.1) reads.0.0.1, (reads.0.0.0, reads.0.1))
    given text None reads = λ n h. no_number k text reads.0 n reads.1.0 h.0 h.1

    go : (t : Option Text) → one_text f id ≡ t → Finds (Fits k t) o
    go None at = nothing _ o (none at) (λ n h. h.1)
    go (Some text) at = given text o (value text at)

-- and so of `try_get_one`, which also tells that there is none
pub number_tried : (k : ℕ) (f : Found) (id : Text) (r : Result (Option ℕ) ParseIntError)
    → (one_text f id ≡ None → r ≡ Ok None)
    → ((text : Text) → one_text f id ≡ Some text → TriesOne (Parses k) text r)
    → IfOk r (IsNumber id (rows_of f))
    × IfErr r (λ _. (x : Option ℕ) → IfSome x (λ n. n < 2 ^ k) → IsNumber id (rows_of f) x → ⊥)
number_tried k f id r none value = subst (λ t. Tells k t r) (one_text-rows f id) (go (one_text f id) refl)
  where
    given : (text : Text) (p : Result (Option ℕ) ParseIntError) → TriesOne (Parses k) text p → Tells k (Some text) p
    given text (Ok (Some n)) tries = ((tries.0.0.0, tries.0.1), tt)
    given text (Ok None) tries = absurd tries
    given text (Err e) tries = (tt, refused)
      where
        refused : (x : Option ℕ) → IfSome x (λ n. n < 2 ^ k) → IsWritten (Some text) x → ⊥
        refused None small written = written
        refused (Some n) small written = no_number k text e n tries.0 small written

    go : (t : Option Text) → one_text f id ≡ t → Tells k t r
    go None at = subst (Tells k None) (sym (none at)) (tt, tt)
    go (Some text) at = given text r (value text at)

pub small : (least most : ℕ) → most < 2 ^ 32 → (x : Option ℕ) → IfSome x (IsWithin least most)
    → IfSome x (λ n. n < 2 ^ 32)
small least most fits None span = tt
small least most fits (Some n) span = let high = span.1 in omega (arith, fits, high)
