-- What single reads and writes make of `Greets`, and that one call after another is one.
--
-- A read gives bytes, and they are kept: our hello is chosen by the first four bytes, and where some of it was written
-- these have come before, so what is read later changes no byte that was written. A write takes the next bytes of our
-- hello. Each call is one record `Greets`, and two such records, the second from where the first ends, make one: the
-- bytes are joined on both sides.
use Rattle.std.proofs.Common.{◌≡◌, ℕ, zero, suc, ◌+◌, ◌^◌, ◌<◌, ◌≤◌, List, [], ◌++◌, length, length-append}
use Rattle.std.proofs.Common.{take, drop}
use Rattle.std.proofs.Common.{Option, Ok, Err, refl, sym, ap, ◌∙◌, subst, append_assoc, append-nil, arith}
use Rattle.std.specs.Io.KnownBytes.{Consumes, Appends}
use Rattle.std.proofs.KnownBytes.{Consumes-nil, Appends-nil, Appends-trans}
use Rattle.std.proofs.lemmas.List.{take-append-le, length-take-le}
use Rattle.std.proofs.Math.Seq.{take-add}
use Rattle.session_core.specs.Links.{count_of}
use Rattle.session_core.specs.declared.fault.LinkFault.{LinkFault}
use Rattle.session_core.proofs.Moving.{reads-joined, counts-both}
use Rattle.session_core.specs.declared.pumped.Pumped.{Pumped}
use Rattle.hub_core.specs.Greetings.{GreetingState, IsGreeting, Greets, own_hello, told}
use Rattle.session_core.specs.Links.{both_of}
use Rattle.hub_core.specs.Steps.{GreetsSo}

-- ---- our hello

-- it is chosen by the first four bytes
hello-stays : (came read : List ℕ) → 4 ≤ length came → own_hello (came ++ read) ≡ own_hello came
hello-stays came read four = rw (take-append-le 4 came read four) refl

told-stays : (said : ℕ) (came read : List ℕ) → (0 < said → 4 ≤ length came) →
    take said (own_hello (came ++ read)) ≡ take said (own_hello came)
told-stays zero came read after = refl
told-stays (suc n) came read after = ap (take (suc n)) (hello-stays came read (after (omega arith)))

-- ---- one call

pub greets-none : (g : GreetingState) (unread held : Option (List ℕ)) → Greets g g unread unread held held [] [] []
greets-none g unread held = record {
  consumed = Consumes-nil unread;
  appended = Appends-nil held;
  came = sym (append-nil g.came);
  writes = sym (append-nil (told g));
}

pub greets-heard : (g h : GreetingState) (unread left held : Option (List ℕ)) (read : List ℕ) → IsGreeting g →
    Consumes unread left read → h.came ≡ g.came ++ read → h.said ≡ g.said → Greets g h unread left held held read [] []
greets-heard g h unread left held read is consumed came said = record {
  consumed = subst (λ l. Consumes unread left l) (sym (append-nil read)) consumed;
  appended = Appends-nil held;
  came = came;
  writes = ap (λ (n : ℕ). take n (own_hello h.came)) said ∙ ap (λ (l : List ℕ). take g.said (own_hello l)) came
      ∙ told-stays g.said g.came read is.after ∙ sym (append-nil (told g));
}

-- what was read is lost
pub greets-lost : (g h : GreetingState) (unread left held : Option (List ℕ)) (lost : List ℕ) → h ≡ g →
    Consumes unread left lost → Greets g h unread left held held [] [] lost
greets-lost g h unread left held lost same consumed = record {
  consumed = consumed;
  appended = Appends-nil held;
  came = ap (λ (x : GreetingState). x.came) same ∙ sym (append-nil g.came);
  writes = ap told same ∙ sym (append-nil (told g));
}

pub greets-said : (g h : GreetingState) (unread held holds : Option (List ℕ)) (piece : List ℕ) (n : ℕ) →
    h.came ≡ g.came → h.said ≡ g.said + n → piece ≡ drop g.said (own_hello g.came) →
    Appends held holds (take n piece) → Greets g h unread unread held holds [] (take n piece) []
greets-said g h unread held holds piece n came said is appended = record {
  consumed = Consumes-nil unread;
  appended = appended;
  came = came ∙ sym (append-nil g.came);
  writes = ap (λ (k : ℕ). take k (own_hello h.came)) said ∙ ap (λ (l : List ℕ). take (g.said + n) (own_hello l)) came
      ∙ take-add g.said n (own_hello g.came) ∙ ap (λ (l : List ℕ). told g ++ take n l) (sym is);
}

-- so many bytes were moved as are counted
pub counted-take : (n : ℕ) (piece : List ℕ) → n ≤ length piece → n < 2 ^ 64 → n ≡ count_of (take n piece)
counted-take n piece within small = omega (arith, length-take-le n piece within)

-- and so many bytes more have come
pub came-long : (n : ℕ) (piece before after : List ℕ) → n ≤ length piece → after ≡ before ++ take n piece →
    length after ≡ length before + n
came-long n piece before after within is =
    omega (
      arith,
      ap (λ (l : List ℕ). length l) is,
      length-append before (take n piece),
      length-take-le n piece within,
    )

-- ---- one call after another

pub greets-trans : (g h i : GreetingState) (unread mid left held half holds : Option (List ℕ))
    (read said more tells lost : List ℕ) → Greets g h unread mid held half read said [] →
    Greets h i mid left half holds more tells lost →
    Greets g i unread left held holds (read ++ more) (said ++ tells) lost
greets-trans g h i unread mid left held half holds read said more tells lost first second =
    record {
      consumed = reads-joined unread mid left read more lost first.consumed second.consumed;
      appended = Appends-trans held half holds said tells first.appended second.appended;
      came = second.came ∙ ap (λ (l : List ℕ). l ++ more) first.came ∙ append_assoc g.came read more;
      writes = second.writes ∙ ap (λ (l : List ℕ). l ++ tells) first.writes ∙ append_assoc (told g) said tells;
    }

pub GreetsSo-both : (s t : Pumped) (g h i : GreetingState) (unread mid left held half holds : Option (List ℕ)) →
    GreetsSo g h unread mid held half (Ok s) → GreetsSo h i mid left half holds (Ok t) →
    GreetsSo g i unread left held holds (Ok (both_of s t))
GreetsSo-both s t g h i unread mid left held half holds (read, said, moves, reads, writes)
    (more, tells, moves2, reads2, writes2) =
    let both = greets-trans g h i unread mid left held half holds read said more tells [] moves moves2 in
    let counts = counts-both _ _ _ _ read more said tells reads reads2 writes writes2 in
    (read ++ more, said ++ tells, both, counts.0, counts.1)

pub GreetsSo-failed : (s : Pumped) (f : LinkFault) (g h i : GreetingState)
    (unread mid left held half holds : Option (List ℕ)) → GreetsSo g h unread mid held half (Ok s) →
    GreetsSo h i mid left half holds (Err f) → GreetsSo g i unread left held holds (Err f)
GreetsSo-failed s f g h i unread mid left held half holds (read, said, moves, reads, writes)
    (more, tells, lost, moves2) =
    let both = greets-trans g h i unread mid left held half holds read said more tells lost moves moves2 in
    (read ++ more, said ++ tells, lost, both)
