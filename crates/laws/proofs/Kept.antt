-- What is kept of a stream between its pieces.
-- Three things, each by going through what the bytes mean. It is an end of the bytes: the events take their texts off
-- the front, and what is kept is the rest, or nothing. It is short: it is a beginning of a hello or of a frame and not
-- a whole one, so it has fewer bytes than four and the longest body. It has been read: to feed it again from where the
-- stream is gives no event and keeps it, since to feed the bytes in one piece is to feed them and then nothing more
-- (Streams).
-- docs/LAWS.md: A stream may come in pieces (`feeds_rest`).
use Rattle.std.proofs.Common.{◌≡◌, ℕ, ◌+◌, ◌<◌, List, [], ◌∷◌, ◌++◌, length, refl, sym, ap, subst, ◌∙◌, arith, inl}
use Rattle.std.proofs.Common.{inr, append_assoc}
use Rattle.definitions.proofs.Words.{IsBytes, Profile, part_text, end_text, Event, Came, Ended, Failed}
use Rattle.definitions.proofs.Words.{IsProfile, count_text, Standing, Before_hello, In_message, Meaning_over, Faulted}
use Rattle.definitions.proofs.Words.{MeansFrames, Fed, feed, Means}
use Rattle.definitions.specs.Wire.{max_body}
use Rattle.definitions.specs.Faults.{IsPartial}
use Rattle.definitions.specs.Streams.{stays}
use Rattle.definitions.proofs.Lemmas.{length-append, append-nil}
use Rattle.laws.specs.Parts.{FeedsRest, IsEndOf, joined}
use Rattle.laws.proofs.Streams.{feed_sound, feeds_joined}

-- ---- it is an end

ends_later : (bytes front rest kept : List ℕ) → bytes ≡ front ++ rest → IsEndOf rest kept → IsEndOf bytes kept
ends_later bytes front rest kept is (more, end) =
    (front ++ more, is ∙ ap (λ (t : List ℕ). front ++ t) end ∙ sym (append_assoc front more kept))

ends_all : (bytes kept : List ℕ) → kept ≡ bytes → IsEndOf bytes kept
ends_all bytes kept same = ([], sym same)

ends_none : (bytes kept : List ℕ) → kept ≡ [] → IsEndOf bytes kept
ends_none bytes kept none = (bytes, sym (append-nil bytes) ∙ ap (λ (t : List ℕ). bytes ++ t) (sym none))

kept_ends : {F : Type 0} (P : Profile F) (parts : ℕ) (events : List (Event F)) (bytes : List ℕ) (to : Standing)
    (kept : List ℕ) → MeansFrames P parts events bytes to kept → IsEndOf bytes kept
kept_ends P parts [] bytes to kept (inl m) = ends_all bytes kept m.2
kept_ends P parts [] bytes to kept (inr m) = ends_none bytes kept m.3
kept_ends P parts (Came p ∷ events) bytes to kept (part, few, rest, is, m) =
    ends_later bytes (part_text P p) rest kept is (kept_ends P (parts + 1) events rest to kept m)
kept_ends P parts (Ended ∷ events) bytes to kept (rest, is, m) =
    ends_later bytes end_text rest kept is (kept_ends P 0 events rest to kept m)
kept_ends P parts (Failed code ∷ events) bytes to kept (small, rest, is, none, over, empty) = ends_none bytes kept empty

any_ends : {F : Type 0} (P : Profile F) (from : Standing) (events : List (Event F)) (bytes : List ℕ) (to : Standing)
    (kept : List ℕ) → Means P from events bytes to kept → IsEndOf bytes kept
any_ends P Before_hello events bytes to kept (inl (none, inl m)) = ends_all bytes kept m.2
any_ends P Before_hello events bytes to kept (inl (none, inr m)) = ends_none bytes kept m.3
any_ends P Before_hello events bytes to kept (inr (rest, is, m)) =
    ends_later bytes P.hello rest kept is (kept_ends P 0 events rest to kept m)
any_ends P (In_message parts) events bytes to kept m = kept_ends P parts events bytes to kept m
any_ends P Meaning_over events bytes to kept m = ends_none bytes kept m.2
any_ends P (Faulted code) events bytes to kept m = ends_none bytes kept m.2

-- ---- it is short

abbrev IsShort : List ℕ → Type 0
IsShort kept = length kept < 4 + max_body

partial_short : (bytes : List ℕ) → IsPartial bytes → IsShort bytes
partial_short bytes (inl few) = omega arith
partial_short bytes (inr (n, rest, right, is, less)) =
    let l = ap length is in let a = length-append (count_text n) rest in let small = right.1 in omega arith

short_none : (kept : List ℕ) → kept ≡ [] → IsShort kept
short_none kept none = let l = ap length none in omega arith

kept_short : {F : Type 0} (P : Profile F) (parts : ℕ) (events : List (Event F)) (bytes : List ℕ) (to : Standing)
    (kept : List ℕ) → MeansFrames P parts events bytes to kept → IsShort kept
kept_short P parts [] bytes to kept (inl m) = subst IsShort (sym m.2) (partial_short bytes m.0)
kept_short P parts [] bytes to kept (inr m) = short_none kept m.3
kept_short P parts (Came p ∷ events) bytes to kept (part, few, rest, is, m) =
    kept_short P (parts + 1) events rest to kept m
kept_short P parts (Ended ∷ events) bytes to kept (rest, is, m) = kept_short P 0 events rest to kept m
kept_short P parts (Failed code ∷ events) bytes to kept (small, rest, is, none, over, empty) = short_none kept empty

any_short : {F : Type 0} (P : Profile F) (from : Standing) (events : List (Event F)) (bytes : List ℕ) (to : Standing)
    (kept : List ℕ) → Means P from events bytes to kept → IsShort kept
any_short P Before_hello events bytes to kept (inl (none, inl m)) = let l = ap length m.2 in let few = m.0 in
    omega arith
any_short P Before_hello events bytes to kept (inl (none, inr m)) = short_none kept m.3
any_short P Before_hello events bytes to kept (inr (rest, is, m)) = kept_short P 0 events rest to kept m
any_short P (In_message parts) events bytes to kept m = kept_short P parts events bytes to kept m
any_short P Meaning_over events bytes to kept m = short_none kept m.2
any_short P (Faulted code) events bytes to kept m = short_none kept m.2

-- ---- it has been read

nothing_more : {X : Type 0} (xs ys : List X) → xs ≡ xs ++ ys → ys ≡ []
nothing_more xs [] h = refl
nothing_more xs (y ∷ ys) h = absurd (let l = ap length h in let a = length-append xs (y ∷ ys) in omega arith)

-- what comes after all of a is nothing
joined_none : {F : Type 0} (a b : Fed F) → a ≡ joined a b → b ≡ stays a.to a.kept
joined_none {F} a b h =
    let none : b.events ≡ [] = nothing_more a.events b.events (ap (λ (f : Fed F). f.events) h) in
    let there = ap (λ (f : Fed F). f.to) h in
    let held = ap (λ (f : Fed F). f.kept) h in
    λ i. record { events = none i; to = sym there i; kept = sym held i }

has_been_read : {F : Type 0} (P : Profile F) → IsProfile P → (from : Standing) (bytes : List ℕ) → IsBytes bytes →
    (let fed = feed P from bytes in feed P fed.to fed.kept ≡ stays fed.to fed.kept)
has_been_read {F} P real from bytes fits =
    let a : Fed F = feed P from bytes in
    let all : feed P from (bytes ++ []) ≡ joined a (feed P a.to (a.kept ++ [])) =
    feeds_joined P real from bytes [] fits tt in
    joined_none a (feed P a.to a.kept) (sym (ap (feed P from) (append-nil bytes)) ∙ all
    ∙ ap (λ (t : List ℕ). joined a (feed P a.to t)) (append-nil a.kept))

pub feeds_rest : {F : Type 0} (P : Profile F) → IsProfile P → FeedsRest P
feeds_rest P real from bytes fits =
    let fed = feed P from bytes in
    let means = feed_sound P real from bytes fits in (
      has_been_read P real from bytes fits,
      any_ends P from fed.events bytes fed.to fed.kept means,
      any_short P from fed.events bytes fed.to fed.kept means,
    )
