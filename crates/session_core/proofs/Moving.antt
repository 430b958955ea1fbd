-- What single reads and writes make of `Moves`, and that one call after another is one.
--
-- A read gives bytes, and they are pushed; a write takes bytes of what is due, and they are taken. Each call is one
-- record `Moves`, with the bytes of one of the two ways, or of neither. Two such records, the second from where the
-- first ends, make one: the bytes are joined, on the reader's side, on the writer's side, and in what is known of the
-- session. Counts that stop at the greatest number join too. Why a call left off speaks of its end alone, so it is that
-- of the last read or write.
use Rattle.std.proofs.Common.{◌≡◌, ℕ, ◌+◌, ◌-◌, ◌≤◌, ◌<◌, true, false, List, [], ◌++◌, length, take, drop}
use Rattle.std.proofs.Common.{min, length-append, length-take-le, ◌^◌}
use Rattle.std.proofs.Common.{Option, Result, Ok, Err, inl, inr}
use Rattle.std.proofs.Common.{sym, ap, ◌∙◌, subst, append_assoc, append-nil, arith}
use Rattle.std.specs.Io.KnownBytes.{Consumes, Appends}
use Rattle.std.proofs.KnownBytes.{Consumes-nil, Appends-nil, Consumes-trans, Appends-trans}
use Rattle.std.proofs.lemmas.List.{take-append-drop}
use Rattle.std.proofs.Math.Seq.{take-length}
use Rattle.definitions.specs.Fingerprints.{Summary}
use Rattle.definitions.specs.Wire.{Profile}
use Rattle.definitions.specs.Ends.{is_live}
use Rattle.definitions.specs.Engines.{Speaker}
use Rattle.session_core.specs.Sessions.{SessionState, Knows, Goes, GoesOn, Pushes, Takes, is_open}
use Rattle.session_core.proofs.Calls.{knows-same, knows-joined}
use Rattle.session_core.specs.declared.fault.LinkFault.{LinkFault}
use Rattle.session_core.specs.declared.polled.Last.{Last}
use Rattle.session_core.specs.declared.pumped.Pause.{Pause}
use Rattle.session_core.specs.declared.pumped.Pause.TheVariants as pauses
use Rattle.session_core.specs.declared.pumped.Pumped.{Pumped}
use Rattle.session_core.specs.Links.{Moves, MovesSo, Stands, StandsAt, both_of, count_of}

-- what two calls read, of which the first lost nothing
pub reads-joined : (unread mid left : Option (List ℕ)) (read more lost : List ℕ) → Consumes unread mid (read ++ []) →
    Consumes mid left (more ++ lost) → Consumes unread left ((read ++ more) ++ lost)
reads-joined unread mid left read more lost first second =
    subst (λ (l : List ℕ). Consumes unread left l) (sym (append_assoc read more lost))
    (Consumes-trans unread mid left read (more ++ lost)
    (subst (λ (l : List ℕ). Consumes unread mid l) (append-nil read) first) second)

-- what two calls read and wrote is counted together
pub counts-both : (n m k l : ℕ) (read more said tells : List ℕ) → n ≡ count_of read → m ≡ count_of more →
    k ≡ count_of said → l ≡ count_of tells → (min (n + m) (2 ^ 64 - 1) ≡ count_of (read ++ more))
    × (min (k + l) (2 ^ 64 - 1) ≡ count_of (said ++ tells))
counts-both n m k l read more said tells reads reads2 writes writes2 = (
  omega (arith, reads, reads2, length-append read more),
  omega (arith, writes, writes2, length-append said tells),
)

module _ {F : Type 0} (S : Summary F) (W : Profile F) where
  -- ---- one call

  -- bytes were lost, if any were read
  pub Moves-lost : (c : SessionState F) (unread left held : Option (List ℕ)) (lost : List ℕ) →
      Consumes unread left lost → Moves S W c c unread left held held [] [] lost
  Moves-lost c unread left held lost consumed = record {
    consumed = consumed;
    appended = Appends-nil held;
    knows = λ s pushed taken live k. knows-same S W s c pushed taken k;
  }

  pub Moves-none : (c : SessionState F) (unread held : Option (List ℕ)) →
      Moves S W c c unread unread held held [] [] []
  Moves-none c unread held = Moves-lost c unread unread held [] (Consumes-nil unread)

  -- these bytes were taken and written
  pub Moves-said : (c d : SessionState F) (unread held holds : Option (List ℕ)) (said : List ℕ) →
      Appends held holds said → Takes S W c said d → Moves S W c d unread unread held holds [] said []
  Moves-said c d unread held holds said appended takes = record {
    consumed = Consumes-nil unread;
    appended = appended;
    knows = λ s pushed taken live k.
        subst (λ (l : List ℕ). Knows S W s d l (taken ++ said)) (sym (append-nil pushed)) (takes s pushed taken k);
  }

  -- these bytes were read and pushed
  pub Moves-read : (c d : SessionState F) (unread left held : Option (List ℕ)) (read lost : List ℕ) →
      Consumes unread left (read ++ lost) → Pushes S W c read d → Moves S W c d unread left held held read [] lost
  Moves-read c d unread left held read lost consumed pushes = record {
    consumed = consumed;
    appended = Appends-nil held;
    knows = λ s pushed taken live k.
        subst (λ (l : List ℕ). Knows S W s d (pushed ++ read) l) (sym (append-nil taken))
        (pushes s pushed taken live k);
  }

  -- all of a piece was
  pub Moves-whole : (c d : SessionState F) (unread left held : Option (List ℕ)) (piece : List ℕ) →
      Consumes unread left piece → Pushes S W c piece d → Moves S W c d unread left held held piece [] []
  Moves-whole c d unread left held piece consumed pushes =
      Moves-read c d unread left held piece []
      (subst (λ (l : List ℕ). Consumes unread left l) (sym (append-nil piece)) consumed) pushes

  -- some of it was
  pub Moves-part : (c d : SessionState F) (unread left held : Option (List ℕ)) (piece : List ℕ) (n : ℕ) →
      Consumes unread left piece → Pushes S W c (take n piece) d →
      Moves S W c d unread left held held (take n piece) [] (drop n piece)
  Moves-part c d unread left held piece n consumed pushes =
      Moves-read c d unread left held (take n piece) (drop n piece)
      (subst (λ (l : List ℕ). Consumes unread left l) (sym (take-append-drop n piece)) consumed) pushes

  -- ---- what is pushed

  -- an open session listens
  pub pushes-open : (c d : SessionState F) (bytes : List ℕ) → is_open c.talk.state ≡ true →
      (c.over ≡ false → Pushes S W c bytes d) → Pushes S W c bytes d
  pushes-open c d bytes goes pushes s pushed taken live k =
      let on : Goes S W s c pushed = subst (λ b. GoesOn S W b s c pushed) goes k.goes_on in
      pushes on.listens s pushed taken live k

  pub pushes-whole : (c d : SessionState F) (piece : List ℕ) (n : ℕ) → n ≡ length piece →
      Pushes S W c (take n piece) d → Pushes S W c piece d
  pushes-whole c d piece n all pushes =
      let whole : take n piece ≡ piece = ap (λ (m : ℕ). take m piece) all ∙ take-length piece in
      subst (λ (l : List ℕ). Pushes S W c l d) whole pushes

  -- what is known stays, and no byte was pushed
  pub pushes-none : (c d : SessionState F) (bytes : List ℕ) → bytes ≡ [] →
      ((s : Speaker F) (pushed taken : List ℕ) → is_live s.start.stage ≡ true → Knows S W s c pushed taken →
      Knows S W s d pushed taken) → Pushes S W c bytes d
  pushes-none c d bytes none knows s pushed taken live k =
      subst (λ (l : List ℕ). Knows S W s d (pushed ++ l) taken) (sym none)
      (subst (λ (l : List ℕ). Knows S W s d l taken) (sym (append-nil pushed)) (knows s pushed taken live k))

  -- ---- a whole read, and a whole write

  -- this many bytes of a list
  counted : (n : ℕ) (bytes : List ℕ) → n ≤ length bytes → n < 2 ^ 64 → n ≡ count_of (take n bytes)
  counted n bytes fits small = omega (arith, length-take-le n bytes fits, fits, small)

  taken-so : (n m : ℕ) (ready : List ℕ) → n ≤ length ready → m ≡ min n (length ready) → m ≡ n
  taken-so n m ready fits is = omega (arith, fits, is)

  pub says-so : (p : Pumped) (c d : SessionState F) (unread held holds : Option (List ℕ)) (ready : List ℕ) (n m : ℕ) →
      Appends held holds (take n ready) → n ≤ length ready → n < 2 ^ 64 → m ≡ min n (length ready) →
      Takes S W c (take m ready) d → p.read ≡ 0 → p.written ≡ n → MovesSo S W c d unread unread held holds (Ok p)
  says-so p c d unread held holds ready n m appended fits small is takes none written =
      let takes2 = subst (λ (k : ℕ). Takes S W c (take k ready) d) (taken-so n m ready fits is) takes in (
        [],
        take n ready,
        Moves-said c d unread held holds (take n ready) appended takes2,
        none,
        written ∙ counted n ready fits small,
      )

  pub says-and-fails : (e : LinkFault) (c d : SessionState F) (unread held holds : Option (List ℕ)) (ready : List ℕ)
      (n m : ℕ) → Appends held holds (take n ready) → n ≤ length ready → m ≡ min n (length ready) →
      Takes S W c (take m ready) d → MovesSo S W c d unread unread held holds (Err e)
  says-and-fails e c d unread held holds ready n m appended fits is takes =
      let takes2 = subst (λ (k : ℕ). Takes S W c (take k ready) d) (taken-so n m ready fits is) takes in
      ([], take n ready, [], Moves-said c d unread held holds (take n ready) appended takes2)

  pub hears-so : (p : Pumped) (c d : SessionState F) (unread left held : Option (List ℕ)) (room : List ℕ) (n : ℕ) →
      Consumes unread left (take n room) → n ≤ length room → n < 2 ^ 64 → Pushes S W c (take n room) d →
      p.read ≡ n → p.written ≡ 0 → MovesSo S W c d unread left held held (Ok p)
  hears-so p c d unread left held room n consumed fits small pushes read none = (
    take n room,
    [],
    Moves-whole c d unread left held (take n room) consumed pushes,
    read ∙ counted n room fits small,
    none,
  )

  pub hears-and-fails : (e : LinkFault) (c d : SessionState F) (unread left held : Option (List ℕ)) (piece : List ℕ) →
      Consumes unread left piece → Pushes S W c piece d → MovesSo S W c d unread left held held (Err e)
  hears-and-fails e c d unread left held piece consumed pushes =
      (piece, [], [], Moves-whole c d unread left held piece consumed pushes)

  pub hears-some : (e : LinkFault) (c d : SessionState F) (unread left held : Option (List ℕ)) (piece : List ℕ) →
      Consumes unread left piece → (n : ℕ) × Pushes S W c (take n piece) d →
      MovesSo S W c d unread left held held (Err e)
  hears-some e c d unread left held piece consumed (n, pushes) =
      (take n piece, [], drop n piece, Moves-part c d unread left held piece n consumed pushes)

  -- nothing was read or written
  pub moves-nothing : (p : Pumped) (c : SessionState F) (unread held : Option (List ℕ)) → p.read ≡ 0 → p.written ≡ 0 →
      MovesSo S W c c unread unread held held (Ok p)
  moves-nothing p c unread held read written = ([], [], Moves-none c unread held, read, written)

  pub fails-at-once : (e : LinkFault) (c : SessionState F) (unread held : Option (List ℕ)) →
      MovesSo S W c c unread unread held held (Err e)
  fails-at-once e c unread held = ([], [], [], Moves-none c unread held)

  -- ---- one call after another

  pub Moves-trans : (c d e : SessionState F) (unread mid left held half holds : Option (List ℕ))
      (read said more tells lost : List ℕ) → Moves S W c d unread mid held half read said [] →
      Moves S W d e mid left half holds more tells lost →
      Moves S W c e unread left held holds (read ++ more) (said ++ tells) lost
  Moves-trans c d e unread mid left held half holds read said more tells lost first second =
      record {
        consumed = reads-joined unread mid left read more lost first.consumed second.consumed;
        appended = Appends-trans held half holds said tells first.appended second.appended;
        knows = λ s pushed taken live k.
            knows-joined S W s e pushed read more taken said tells
            (second.knows s (pushed ++ read) (taken ++ said) live (first.knows s pushed taken live k));
      }

  -- texts were made first
  pub MovesSo-made : (r : Result Pumped LinkFault) (c d e : SessionState F) (unread left held holds : Option (List ℕ)) →
      Takes S W c [] d → MovesSo S W d e unread left held holds r → MovesSo S W c e unread left held holds r
  MovesSo-made (Ok p) c d e unread left held holds made (read, said, moves, reads, writes) = (
    read,
    said,
    Moves-trans c d e unread unread left held held holds [] [] read said []
        (Moves-said c d unread held held [] (Appends-nil held) made) moves,
    reads,
    writes,
  )
  MovesSo-made (Err f) c d e unread left held holds made (read, said, lost, moves) = (
    read,
    said,
    lost,
    Moves-trans c d e unread unread left held held holds [] [] read said lost
        (Moves-said c d unread held held [] (Appends-nil held) made) moves,
  )

  pub MovesSo-both : (p q : Pumped) (c d e : SessionState F) (unread mid left held half holds : Option (List ℕ)) →
      MovesSo S W c d unread mid held half (Ok p) → MovesSo S W d e mid left half holds (Ok q) →
      MovesSo S W c e unread left held holds (Ok (both_of p q))
  MovesSo-both p q c d e unread mid left held half holds (read, said, moves, reads, writes)
      (more, tells, moves2, reads2, writes2) =
      let both = Moves-trans c d e unread mid left held half holds read said more tells [] moves moves2 in
      let counts = counts-both _ _ _ _ read more said tells reads reads2 writes writes2 in
      (read ++ more, said ++ tells, both, counts.0, counts.1)

  pub MovesSo-failed : (p : Pumped) (f : LinkFault) (c d e : SessionState F)
      (unread mid left held half holds : Option (List ℕ)) →
      MovesSo S W c d unread mid held half (Ok p) → MovesSo S W d e mid left half holds (Err f) →
      MovesSo S W c e unread left held holds (Err f)
  MovesSo-failed p f c d e unread mid left held half holds (read, said, moves, reads, writes)
      (more, tells, lost, moves2) =
      let both = Moves-trans c d e unread mid left held half holds read said more tells lost moves moves2 in
      (read ++ more, said ++ tells, lost, both)

  -- ---- why a call left off

  -- of two calls it is the second's
  pub stands-both : (p q : Pumped) (d : SessionState F) (r w : Last) → Stands W (Ok q) d r w →
      Stands W (Ok (both_of p q)) d r w
  stands-both p q d r w stands = by q.pause stands where
    by : (x : Pause) → StandsAt W x d r w q.read q.written →
        StandsAt W x d r w (both_of p q).read (both_of p q).written
    by pauses.Waits s = s
    by pauses.Over s = s
    by pauses.Opens s = s
    by pauses.More (inl some) = inl (omega (arith, some))
    by pauses.More (inr other) = inr other
