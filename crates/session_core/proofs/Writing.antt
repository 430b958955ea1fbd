-- Which messages were taken whole.
--
-- The texts of all that is said follow the hello. Those taken whole come first, then those that are made and not taken
-- whole, whose ends an outbox keeps, then those whose text is not made. To make texts moves messages from the third to
-- the second, to take bytes from the second to the first: the ends that are passed are those of the first of them.
use Rattle.std.proofs.Common.{◌≡◌, ℕ, suc, ◌+◌, ◌-◌, ◌<◌, ◌≤◌, Bool, true, false, List, [], ◌∷◌, ◌++◌, length, map}
use Rattle.std.proofs.Common.{◌⊎◌, inl, inr, refl, sym, ap, ◌∙◌, subst, append_assoc, append-nil, length-append, arith}
use Rattle.std.proofs.Common.{flat_map, drop, take, get_or}
use Rattle.std.specs.Prelude.{nat_le, if◌then◌else◌}
use Rattle.std.proofs.lemmas.Bool.{leb-true, leb-false}
use Rattle.std.proofs.lemmas.List.{map-append, length-map, length-drop, take_more}
use Rattle.std.proofs.lemmas.Grind.{flat_map-append}
use Rattle.definitions.specs.Messages.{Message}
use Rattle.definitions.specs.Wire.{Profile, message_text, part_text, session_text, end_text}
use Rattle.session_core.specs.Outboxes.{OutboxState, outbox_state, ends_after, ends_from, made, less, unwritten}
use Rattle.session_core.specs.Written.{IsTold, IsCut, IsWritten, IsLaid}

module _ {F : Type 0} (W : Profile F) where
  -- ---- lengths

  abbrev pub size : List (Message F) → ℕ
  size Ms = length (session_text W Ms)

  abbrev pub text_size : List (Message F) → ℕ
  text_size Ms = length (flat_map (message_text W) Ms)

  -- a text has at least the end of its message
  text-some : (M : Message F) → 0 < length (message_text W M)
  text-some M =
      let front = flat_map (part_text W) M in
      let back : length end_text ≡ 5 = refl in
      omega (arith, length-append front end_text, back)

  size-joined : (Ms Ns : List (Message F)) → size (Ms ++ Ns) ≡ size Ms + text_size Ns
  size-joined Ms Ns =
      let f = message_text W in
      omega (
        arith,
        length-append W.hello (flat_map f (Ms ++ Ns)),
        length-append W.hello (flat_map f Ms),
        ap (λ (l : List ℕ). length l) (flat_map-append f Ms Ns),
        length-append (flat_map f Ms) (flat_map f Ns),
      )

  size-more : (Ms : List (Message F)) (M : Message F) → size (Ms ++ M ∷ []) ≡ size Ms + length (message_text W M)
  size-more Ms M =
      omega (arith, size-joined Ms (M ∷ []), ap (λ (l : List ℕ). length l) (append-nil (message_text W M)))

  -- ---- places

  ends-joined : (start : ℕ) (Ms Ns : List (Message F)) →
      ends_from W start (Ms ++ Ns) ≡ ends_from W start Ms ++ ends_from W (start + text_size Ms) Ns
  ends-joined start [] Ns = ap (λ (n : ℕ). ends_from W n Ns) (omega arith)
  ends-joined start (M ∷ Ms) Ns =
      let next = start + length (message_text W M) in
      let same : next + text_size Ms ≡ start + text_size (M ∷ Ms) =
      omega (arith, length-append (message_text W M) (flat_map (message_text W) Ms)) in
      ap (λ (es : List ℕ). next ∷ es) (ends-joined next Ms Ns
      ∙ ap (λ (n : ℕ). ends_from W next Ms ++ ends_from W n Ns) same)

  -- one text more
  pub texts-more : (Ms : List (Message F)) (i : ℕ) (M : Message F) → i < length Ms → get_or Ms i M ≡ M →
      flat_map (message_text W) (take (i + 1) Ms) ≡ flat_map (message_text W) (take i Ms) ++ message_text W M
  texts-more Ms i M low here =
      let f = message_text W in
      ap (λ (l : List (Message F)). flat_map f l)
      (take_more Ms i M low ∙ ap (λ (N : Message F). take i Ms ++ N ∷ []) here)
      ∙ flat_map-append f (take i Ms) (M ∷ [])
      ∙ ap (λ (l : List ℕ). flat_map f (take i Ms) ++ l) (append-nil (f M))

  pub ends-more : (start : ℕ) (Ms : List (Message F)) (i : ℕ) (M : Message F) → i < length Ms → get_or Ms i M ≡ M →
      ends_from W start (take (i + 1) Ms)
      ≡ ends_from W start (take i Ms) ++ (start + text_size (take (i + 1) Ms)) ∷ []
  ends-more start Ms i M low here =
      let front = take i Ms in
      let f = message_text W in
      let more : take (i + 1) Ms ≡ front ++ M ∷ [] =
      take_more Ms i M low ∙ ap (λ (N : Message F). front ++ N ∷ []) here in
      let end : (start + text_size front) + length (f M) ≡ start + text_size (take (i + 1) Ms) =
      omega (
        arith,
        ap (λ (l : List ℕ). length l) (texts-more Ms i M low here),
        length-append (flat_map f front) (f M),
      ) in
      ap (λ (l : List (Message F)). ends_from W start l) more ∙ ends-joined start front (M ∷ [])
      ∙ ap (λ (n : ℕ). ends_from W start front ++ n ∷ []) end

  ends-moved : (at start : ℕ) (Ms : List (Message F)) →
      map (λ e. at + e) (ends_from W start Ms) ≡ ends_from W (at + start) Ms
  ends-moved at start [] = refl
  ends-moved at start (M ∷ Ms) =
      let n = length (message_text W M) in
      let same : at + (start + n) ≡ (at + start) + n = omega arith in
      (λ i. same i ∷ (ends-moved at (start + n) Ms ∙ ap (λ (k : ℕ). ends_from W k Ms) same) i)

  ends-count : (start : ℕ) (Ms : List (Message F)) → length (ends_from W start Ms) ≡ length Ms
  ends-count start [] = refl
  ends-count start (M ∷ Ms) = ap suc (ends-count (start + length (message_text W M)) Ms)

  -- where the first text is that is not made
  ends-placed : (a b : ℕ) (later : List (Message F)) → (later ≡ []) ⊎ (a ≡ b) →
      ends_from W a later ≡ ends_from W b later
  ends-placed a b later (inl none) = ap (λ l. ends_from W a l) none ∙ ap (λ l. ends_from W b l) (sym none)
  ends-placed a b later (inr same) = ap (λ (n : ℕ). ends_from W n later) same

  -- ---- what is taken whole

  told-so : (Ms : List (Message F)) (at : ℕ) → size Ms ≤ at → IsTold W Ms at
  told-so [] at fits = tt
  told-so (M ∷ Ms) at fits = fits

  told-more : (Ms : List (Message F)) (at n : ℕ) → IsTold W Ms at → IsTold W Ms (at + n)
  told-more [] at n told = tt
  told-more (M ∷ Ms) at n told = omega (arith, told)

  cut-before : (whole made later : List (Message F)) (at ready : ℕ) → IsCut W whole made at →
      (later ≡ []) ⊎ (at + ready ≡ size (whole ++ made)) → IsCut W whole (made ++ later) at
  cut-before whole (M ∷ made) later at ready cut placed = cut
  cut-before whole [] [] at ready cut placed = tt
  cut-before whole [] (M ∷ later) at ready cut (inl none) = absurd cc
  cut-before whole [] (M ∷ later) at ready cut (inr is) =
      omega (arith, is, size-more whole M, text-some M, ap (λ l. size l) (append-nil whole))

  -- ---- one call

  -- nothing was taken
  pub laid-first : (Ms : List (Message F)) → IsLaid W (Ms ++ []) 0 (outbox_state W.hello [] Ms)
  laid-first Ms = record {
    whole = [];
    made = [];
    split = append-nil Ms;
    within = tt;
    ends = refl;
    cut = tt;
    placed = inr (omega (arith, ap (λ (l : List ℕ). length l) (append-nil W.hello)));
  }

  -- more is said
  pub laid-on : (said new : List (Message F)) (at : ℕ) (o : OutboxState F) →
      at + (length o.ready + text_size o.later) ≡ size said → IsLaid W said at o →
      IsLaid W (said ++ new) at (outbox_state o.ready o.ends (o.later ++ new))
  laid-on said new at o text l = record {
    whole = l.whole;
    made = l.made;
    split = ap (λ (Ms : List (Message F)). Ms ++ new) l.split ∙ append_assoc (l.whole ++ l.made) o.later new;
    within = l.within;
    ends = l.ends;
    cut = l.cut;
    placed = inr (omega (
      arith,
      text,
      ap (λ (Ms : List (Message F)). size Ms) l.split,
      size-joined (l.whole ++ l.made) o.later,
    ));
  }

  -- all texts are made
  pub laid-made : (said : List (Message F)) (at : ℕ) (o : OutboxState F) (last : List ℕ) → IsLaid W said at o →
      IsLaid W said at (made W o last)
  laid-made said at o last l =
      let start = size l.whole in
      let ready = length o.ready in
      let rest = ends_from W ready o.later in
      let place : (o.later ≡ []) ⊎ (at + ready ≡ start + text_size l.made) = elim l.placed [
        | inl none ↦ inl none
        | inr is ↦ inr (is ∙ size-joined l.whole l.made)
      ] in
      record {
        whole = l.whole;
        made = l.made ++ o.later;
        split = l.split ∙ append_assoc l.whole l.made o.later ∙ sym (append-nil (l.whole ++ (l.made ++ o.later)));
        within = l.within;
        ends = map-append (λ e. at + e) o.ends rest
            ∙ ap (λ (es : List ℕ). es ++ map (λ e. at + e) rest) l.ends
            ∙ ap (λ (es : List ℕ). ends_from W start l.made ++ es) (ends-moved at ready o.later
            ∙ ends-placed (at + ready) (start + text_size l.made) o.later place)
            ∙ sym (ends-joined start l.made o.later);
        cut = cut-before l.whole l.made o.later at ready l.cut l.placed;
        placed = inl refl;
      }

  -- ---- bytes that are taken

  -- the places further on are counted from another one
  lowered : (at n start : ℕ) (es : List ℕ) (Ms : List (Message F)) → at + n ≤ start →
      map (λ e. at + e) es ≡ ends_from W start Ms →
      map (λ e. (at + n) + e) (map (λ x. x - n) es) ≡ ends_from W start Ms
  lowered at n start [] Ms far is = is
  lowered at n start (e ∷ es) [] far is = absurd cc
  lowered at n start (e ∷ es) (M ∷ Ms) far is =
      let next = start + length (message_text W M) in
      let first : at + e ≡ next = cc in
      let rest : map (λ e. at + e) es ≡ ends_from W next Ms = cc in
      let here : (at + n) + (e - n) ≡ next = omega (arith, first, far) in
      let on : at + n ≤ next = omega (arith, far) in
      (λ i. here i ∷ lowered at n next es Ms on rest i)

  -- where the messages are after that
  record IsMoved (all : List (Message F)) (at n : ℕ) (es : List ℕ) : Type 0 where
    pub whole : List (Message F)
    pub made : List (Message F)
    pub split : all ≡ whole ++ made
    pub within : IsTold W whole (at + n)
    pub ends : map (λ e. (at + n) + e) (ends_after n es) ≡ ends_from W (size whole) made
    pub cut : IsCut W whole made (at + n)

  moved : (at n : ℕ) (es : List ℕ) (whole made : List (Message F)) → IsTold W whole (at + n) →
      map (λ e. at + e) es ≡ ends_from W (size whole) made → IsMoved (whole ++ made) at n es
  moved at n [] whole [] told is = record {
    whole = whole;
    made = [];
    split = refl;
    within = told;
    ends = refl;
    cut = tt;
  }
  moved at n [] whole (M ∷ made) told is = absurd cc
  moved at n (e ∷ es) whole [] told is = absurd cc
  moved at n (e ∷ es) whole (M ∷ made) told is =
      by (nat_le e n) refl (λ fits. moved at n es more made (told-so more (at + n) fits) on) where
        next : ℕ
        next = size whole + length (message_text W M)

        more : List (Message F)
        more = whole ++ M ∷ []

        longer : size more ≡ next
        longer = size-more whole M

        first : at + e ≡ next
        first = cc

        rest : map (λ x. at + x) es ≡ ends_from W next made
        rest = cc

        on : map (λ x. at + x) es ≡ ends_from W (size more) made
        on = rest ∙ ap (λ (k : ℕ). ends_from W k made) (sym longer)

        Moved : Bool → List ℕ
        Moved b = map (λ x. (at + n) + x) (if b then ends_after n es else map (λ x. x - n) (e ∷ es))

        by : (b : Bool) → nat_le e n ≡ b → (size more ≤ at + n → IsMoved (more ++ made) at n es) →
            IsMoved (whole ++ M ∷ made) at n (e ∷ es)
        by true low go =
            let short : e ≤ n = leb-true e n low in
            let r = go (omega (arith, longer, first, short)) in
            record {
              whole = r.whole;
              made = r.made;
              split = sym (append_assoc whole (M ∷ []) made) ∙ r.split;
              within = r.within;
              ends = ap Moved low ∙ r.ends;
              cut = r.cut;
            }
        by false high go =
            let long : n < e = leb-false e n high in
            let here : (at + n) + (e - n) ≡ next = omega (arith, first, long) in
            let far : at + n ≤ next = omega (arith, first, long) in
            record {
              whole = whole;
              made = M ∷ made;
              split = refl;
              within = told;
              ends = ap Moved high ∙ (λ i. here i ∷ lowered at n next es made far rest i);
              cut = omega (arith, longer, first, long);
            }

  -- so many bytes are taken
  pub laid-less : (said : List (Message F)) (at n : ℕ) (o : OutboxState F) → n ≤ length o.ready → IsLaid W said at o →
      IsLaid W said (at + n) (less n o)
  laid-less said at n o fits l =
      let r = moved at n o.ends l.whole l.made (told-more l.whole at n l.within) l.ends in
      record {
        whole = r.whole;
        made = r.made;
        split = l.split ∙ ap (λ (Ms : List (Message F)). Ms ++ o.later) r.split;
        within = r.within;
        ends = r.ends;
        cut = r.cut;
        placed = elim l.placed [
          | inl none ↦ inl none
          | inr is ↦ inr (omega (
            arith,
            is,
            fits,
            length-drop n o.ready,
            ap (λ (Ms : List (Message F)). size Ms) r.split,
          ))
        ];
      }

  -- the same messages, and the same to say
  pub laid-same : (said now : List (Message F)) (at : ℕ) (o p : OutboxState F) → now ≡ said → p ≡ o →
      IsLaid W said at o → IsLaid W now at p
  laid-same said now at o p same is l =
      subst (λ (Ms : List (Message F)). IsLaid W Ms at p) (sym same)
      (subst (λ (q : OutboxState F). IsLaid W said at q) (sym is) l)

  -- ---- what is told

  pub written-so : (said : List (Message F)) (taken : List ℕ) (o : OutboxState F) (sent n : ℕ) → sent ≡ length said →
      n ≡ sent - unwritten o → IsLaid W said (length taken) o → IsWritten W said taken n
  written-so said taken o sent n all is l = record {
    whole = l.whole;
    left = l.made ++ o.later;
    split = l.split ∙ append_assoc l.whole l.made o.later;
    count = omega (
      arith,
      all,
      is,
      ap (λ (Ms : List (Message F)). length Ms) l.split,
      length-append (l.whole ++ l.made) o.later,
      length-append l.whole l.made,
      length-map o.ends (λ e. length taken + e),
      ap (λ (es : List ℕ). length es) l.ends,
      ends-count (size l.whole) l.made,
    );
    within = l.within;
    cut = cut-before l.whole l.made o.later (length taken) (length o.ready) l.cut l.placed;
  }
