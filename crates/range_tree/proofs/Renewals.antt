-- What stands beside the nodes of a row of which one grew. A count or a fingerprint at a place is that of all nodes up
-- to there. In front of the node that grew it stays. Behind it, what the node and those before it held goes off, and
-- what they hold now comes on: so the count is moved by their difference, and the fingerprint is that of the new front
-- joined with the old one without that of the old front. The number of a node's first item depends on no other node.
use Rattle.std.proofs.Common.{◌≡◌, ℕ, zero, suc, ◌+◌, ◌-◌, ◌<◌, ◌≤◌, Bool, true, false, List, [], ◌∷◌, ◌++◌}
use Rattle.std.proofs.Common.{take, drop, map, length, get_or, refl, sym, ap, subst, ◌∙◌, arith, nat_lt}
use Rattle.std.specs.List.{flat_map}
use Rattle.std.proofs.lemmas.Bool.{ltb-true, ltb-false}
use Rattle.std.proofs.lemmas.List.{length-append, length-map, length-take-le, length-drop, append-nil, map-append}
use Rattle.std.proofs.lemmas.List.{get_or_append_left, get_or-append-add, get_or-map, get_or-take, get_or-drop}
use Rattle.std.proofs.lemmas.List.{take-take, take-append-le, append_assoc, same_lists}
use Rattle.std.proofs.Math.Seq.{take-append-add, take-add}
use Rattle.std.proofs.lemmas.List.Concat.{flat_map-append}
use Rattle.definitions.specs.Items.{Item, IsBytes}
use Rattle.definitions.specs.Fingerprints.{Lanes, two_lanes, join_lanes}
use Rattle.digest_core.specs.Laws.{adds_up}
use Rattle.range_tree.specs.Nodes.{first_item}
use Rattle.range_tree.specs.Rows.{IsRow, AreHeads}
use Rattle.range_tree.specs.Heads.{head_number}
use Rattle.range_tree.proofs.Pieces.{all_append, all_take, all_drop}
use Rattle.range_tree.proofs.Places.{map_take, map_drop, map_more}
use Rattle.range_tree.proofs.Rows.{IsRunning}

-- ---- two lists of which each element is known, one after the other

running_append : {X : Type 0} (f : ℕ → X) (n m : ℕ) (xs ys : List X) → length xs ≡ n → IsRunning f n xs →
    ((j : ℕ) (d : X) → j < m → get_or ys j d ≡ f (n + (j + 1))) → IsRunning f (n + m) (xs ++ ys)
running_append {X} f n m xs ys long front back i d low = by_place (nat_lt i n) refl where
  by_place : (b : Bool) → nat_lt i n ≡ b → get_or (xs ++ ys) i d ≡ f (i + 1)
  by_place true t =
      let inside : i < n = ltb-true _ _ t in
      get_or_append_left xs ys d i (omega arith) ∙ front i d inside
  by_place false t =
      let past : n ≤ i = ltb-false _ _ t in
      let same : i ≡ length xs + (i - n) = omega arith in
      let next : n + (i - n + 1) ≡ i + 1 = omega arith in
      ap (λ k. get_or (xs ++ ys) k d) same ∙ get_or-append-add xs ys (i - n) d ∙ back (i - n) d (omega arith)
      ∙ ap f next

-- ---- a loop that moves fingerprints from one front to another

map_next : {X Y : Type 0} (f : X → Y) (xs : List X) (i : ℕ) (d : X) (y : Y) (front held now : List Y) →
    i < length xs → f (get_or xs i d) ≡ y → now ≡ held ++ y ∷ [] → held ≡ front ++ map f (take i xs) →
    now ≡ front ++ map f (take (i + 1) xs)
map_next f xs i d y front held now low is adds so_far =
    adds ∙ ap (λ hs. hs ++ y ∷ []) so_far ∙ append_assoc front (map f (take i xs)) (y ∷ [])
    ∙ ap (λ ys. front ++ ys)
    (map_more f xs i d y (map f (take i xs)) (map f (take i xs) ++ y ∷ []) low is refl refl)

module _ (A : List Item) (Bs : List (List Item)) (sums : List Lanes) (start : Lanes) (i : ℕ)
    (are : sums ≡ map (λ B. two_lanes.of (A ++ B)) Bs) where
  same_count : length sums ≡ length Bs
  same_count = ap length are ∙ length-map Bs (λ B. two_lanes.of (A ++ B))

  pub moved_more : (sum own joined : Lanes) (front held now : List Lanes) → i < length sums →
      sum ≡ get_or sums i sum → ((B : List Item) → sum ≡ two_lanes.of (A ++ B) → own ≡ two_lanes.of B) →
      joined ≡ join_lanes start own → now ≡ held ++ joined ∷ [] →
      held ≡ front ++ map (λ B. join_lanes start (two_lanes.of B)) (take i Bs) →
      now ≡ front ++ map (λ B. join_lanes start (two_lanes.of B)) (take (i + 1) Bs)
  moved_more sum own joined front held now low read without is adds so_far =
      let same = same_count in
      let inside : i < length Bs = omega arith in
      let whole : sum ≡ two_lanes.of (A ++ get_or Bs i []) =
      read ∙ ap (λ ss. get_or ss i sum) are ∙ get_or-map (λ B. two_lanes.of (A ++ B)) Bs i [] sum inside in
      let left : own ≡ two_lanes.of (get_or Bs i []) = without (get_or Bs i []) whole in
      map_next (λ B. join_lanes start (two_lanes.of B)) Bs i [] joined front held now inside
      (ap (join_lanes start) (sym left) ∙ sym is) adds so_far

-- ---- numbers of first items

heads_front : (k : ℕ) (xs : List Item) (heads : List ℕ) → AreHeads xs heads → AreHeads (take k xs) (take k heads)
heads_front k xs heads all = record {
  are_numbers = ap (take k) all.are_numbers ∙ sym (map_take head_number k xs);
  are_bytes = all_take IsBytes k xs all.are_bytes;
}

heads_back : (k : ℕ) (xs : List Item) (heads : List ℕ) → AreHeads xs heads → AreHeads (drop k xs) (drop k heads)
heads_back k xs heads all = record {
  are_numbers = ap (drop k) all.are_numbers ∙ sym (map_drop head_number k xs);
  are_bytes = all_drop IsBytes k xs all.are_bytes;
}

heads_append : (xs ys : List Item) (heads more : List ℕ) → AreHeads xs heads → AreHeads ys more →
    AreHeads (xs ++ ys) (heads ++ more)
heads_append xs ys heads more first second = record {
  are_numbers = (λ j. first.are_numbers j ++ second.are_numbers j) ∙ sym (map-append head_number xs ys);
  are_bytes = all_append IsBytes xs ys first.are_bytes second.are_bytes;
}

-- ---- the lists beside the nodes

module _ {P : Type 0} (content : P → List Item) where
  abbrev pub lead : P → Item
  lead p = first_item (content p)

  abbrev pub AreBeside : List P → List ℕ → List Lanes → List ℕ → Type 0
  AreBeside ps ends sums heads = IsRow content ps ends sums × AreHeads (map lead ps) heads

  -- what the first node holds, what the first two hold, and so on
  abbrev pub fronts : List P → List (List Item)
  fronts [] = []
  fronts (p ∷ ps) = content p ∷ map (λ B. content p ++ B) (fronts ps)

  fronts_length : (ps : List P) → length (fronts ps) ≡ length ps
  fronts_length [] = refl
  fronts_length (p ∷ ps) =
      ap (λ n. suc n) (length-map (fronts ps) (λ B. content p ++ B) ∙ fronts_length ps)

  fronts_get : (ps : List P) (j : ℕ) (d : List Item) → j < length ps →
      get_or (fronts ps) j d ≡ flat_map content (take (j + 1) ps)
  fronts_get [] j d low = absurd (omega arith)
  fronts_get (p ∷ ps) zero d low = sym (append-nil (content p))
  fronts_get (p ∷ ps) (suc j) d low =
      let same = fronts_length ps in
      let next : suc j + 1 ≡ suc (j + 1) = omega arith in
      rw next (get_or-map (λ B. content p ++ B) (fronts ps) j d d (omega arith)
      ∙ ap (λ B. content p ++ B) (fronts_get ps j d (omega arith)))

  items_cut : (ps : List P) (k j : ℕ) → flat_map content (take (k + j + 1) ps)
      ≡ flat_map content (take k ps) ++ flat_map content (take (j + 1) (drop k ps))
  items_cut ps k j =
      let next : k + j + 1 ≡ k + (j + 1) = omega arith in
      ap (λ n. flat_map content (take n ps)) next ∙ ap (flat_map content) (take-add k (j + 1) ps)
      ∙ flat_map-append content (take k ps) (take (j + 1) (drop k ps))

  -- from a place on, the fingerprints are those of the nodes before it and of the fronts of the rest
  pub sums_from : (ps : List P) (ends : List ℕ) (sums : List Lanes) (k : ℕ) → IsRow content ps ends sums →
      k ≤ length ps →
      drop k sums ≡ map (λ B. two_lanes.of (flat_map content (take k ps) ++ B)) (fronts (drop k ps))
  sums_from ps ends sums k row within =
      let F : List Item → Lanes = λ B. two_lanes.of (flat_map content (take k ps) ++ B) in
      let Bs = fronts (drop k ps) in
      let many = row.as_many_sums in
      let left = length-drop k sums in
      let rest = length-drop k ps in
      let same = fronts_length (drop k ps) in
      let mapped = length-map Bs F in
      same_lists (drop k sums) (map F Bs) (omega arith) (λ j d low.
      get_or-drop k sums j d ∙ row.are_sums (k + j) d (omega arith) ∙ ap two_lanes.of (items_cut ps k j)
      ∙ ap F (sym (fronts_get (drop k ps) j [] (omega arith)))
      ∙ sym (get_or-map F Bs j [] d (omega arith)))

  row_front : (ps : List P) (ends : List ℕ) (sums : List Lanes) (k : ℕ) → IsRow content ps ends sums →
      k ≤ length ps → IsRow content (take k ps) (take k ends) (take k sums)
  row_front ps ends sums k row within =
      let many = row.as_many_ends in
      let many_too = row.as_many_sums in
      let first = length-take-le k ps within in
      let second = length-take-le k ends (omega arith) in
      let third = length-take-le k sums (omega arith) in
      record {
        as_many_ends = omega arith;
        as_many_sums = omega arith;
        are_ends = λ i d low.
            get_or-take k ends i d (omega arith) ∙ row.are_ends i d (omega arith)
            ∙ ap (λ qs. length (flat_map content qs)) (sym (take-take (i + 1) k ps (omega arith)));
        are_sums = λ i d low.
            get_or-take k sums i d (omega arith) ∙ row.are_sums i d (omega arith)
            ∙ ap (λ qs. two_lanes.of (flat_map content qs)) (sym (take-take (i + 1) k ps (omega arith)));
      }

  -- the lists beside the first nodes
  pub front_beside : (ps qs : List P) (ends es : List ℕ) (sums ss : List Lanes) (heads hs : List ℕ) (k : ℕ) →
      AreBeside ps ends sums heads → k ≤ length ps → qs ≡ take k ps → es ≡ take k ends → ss ≡ take k sums →
      hs ≡ take k heads → AreBeside qs es ss hs
  front_beside ps qs ends es sums ss heads hs k beside within in_nodes in_ends in_sums in_heads =
      rw (in_nodes, in_ends, in_sums, in_heads) (
        row_front ps ends sums k beside.0 within,
        rw (map_take lead k ps) (heads_front k (map lead ps) heads beside.1),
      )

  module _ (qs rest : List P) where
    front_items : (i : ℕ) → i < length qs →
        flat_map content (take (i + 1) (qs ++ rest)) ≡ flat_map content (take (i + 1) qs)
    front_items i low = ap (flat_map content) (take-append-le (i + 1) qs rest (omega arith))

    back_items : (j : ℕ) → flat_map content (take (length qs + (j + 1)) (qs ++ rest))
        ≡ flat_map content qs ++ flat_map content (take (j + 1) rest)
    back_items j = ap (flat_map content) (take-append-add qs rest (j + 1))
        ∙ flat_map-append content qs (take (j + 1) rest)

    row_append : (ends es : List ℕ) (sums ss : List Lanes) → IsRow content qs ends sums →
        length es ≡ length rest → length ss ≡ length rest →
        ((j d : ℕ) → j < length rest →
        get_or es j d ≡ length (flat_map content qs) + length (flat_map content (take (j + 1) rest))) →
        ((j : ℕ) (d : Lanes) → j < length rest → get_or ss j d
        ≡ join_lanes (two_lanes.of (flat_map content qs)) (two_lanes.of (flat_map content (take (j + 1) rest)))) →
        IsRow content (qs ++ rest) (ends ++ es) (sums ++ ss)
    row_append ends es sums ss row many_ends many_sums in_ends in_sums =
        let all = length-append qs rest in
        let own = row.as_many_ends in
        let own_too = row.as_many_sums in
        let longer = length-append ends es in
        let longer_too = length-append sums ss in
        record {
          as_many_ends = omega arith;
          as_many_sums = omega arith;
          are_ends = λ i d low.
              running_append (λ k. length (flat_map content (take k (qs ++ rest)))) (length qs) (length rest) ends es
              own (λ h e there. row.are_ends h e there ∙ ap length (sym (front_items h there)))
              (λ j e there. in_ends j e there
              ∙ sym (length-append (flat_map content qs) (flat_map content (take (j + 1) rest)))
              ∙ ap length (sym (back_items j))) i d (omega arith);
          are_sums = λ i d low.
              running_append (λ k. two_lanes.of (flat_map content (take k (qs ++ rest)))) (length qs) (length rest) sums
              ss own_too
              (λ h e there. row.are_sums h e there ∙ ap two_lanes.of (sym (front_items h there)))
              (λ j e there. in_sums j e there
              ∙ sym (adds_up (flat_map content qs) (flat_map content (take (j + 1) rest)))
              ∙ ap two_lanes.of (sym (back_items j))) i d (omega arith);
        }

  row_more : (qs : List P) (p : P) (ends : List ℕ) (sums : List Lanes) (end : ℕ) (sum : Lanes) →
      IsRow content qs ends sums → end ≡ length (flat_map content qs) + length (content p) →
      sum ≡ join_lanes (two_lanes.of (flat_map content qs)) (two_lanes.of (content p)) →
      IsRow content (qs ++ p ∷ []) (ends ++ end ∷ []) (sums ++ sum ∷ [])
  row_more qs p ends sums end sum row in_end in_sum =
      row_append qs (p ∷ []) ends (end ∷ []) sums (sum ∷ []) row refl refl at_end at_sum where
        at_end : (j d : ℕ) → j < 1 → get_or (end ∷ []) j d
            ≡ length (flat_map content qs) + length (flat_map content (take (j + 1) (p ∷ [])))
        at_end zero d low =
            in_end ∙ ap (λ xs. length (flat_map content qs) + length xs) (sym (append-nil (content p)))
        at_end (suc j) d low = absurd (omega arith)

        at_sum : (j : ℕ) (d : Lanes) → j < 1 → get_or (sum ∷ []) j d
            ≡ join_lanes (two_lanes.of (flat_map content qs)) (two_lanes.of (flat_map content (take (j + 1) (p ∷ []))))
        at_sum zero d low =
            in_sum ∙ ap (λ xs. join_lanes (two_lanes.of (flat_map content qs)) (two_lanes.of xs))
            (sym (append-nil (content p)))
        at_sum (suc j) d low = absurd (omega arith)

  -- the lists beside the nodes and one more
  pub more_beside : (qs now : List P) (p : P) (ends es : List ℕ) (sums ss : List Lanes) (heads hs : List ℕ) (end : ℕ)
      (sum : Lanes) (head : ℕ) (first : Item) → AreBeside qs ends sums heads →
      end ≡ length (flat_map content qs) + length (content p) →
      sum ≡ join_lanes (two_lanes.of (flat_map content qs)) (two_lanes.of (content p)) →
      first ≡ lead p → head ≡ head_number first → IsBytes first →
      now ≡ qs ++ p ∷ [] → es ≡ ends ++ end ∷ [] → ss ≡ sums ++ sum ∷ [] → hs ≡ heads ++ head ∷ [] →
      AreBeside now es ss hs
  more_beside qs now p ends es sums ss heads hs end sum head first beside in_end in_sum is in_head bytes in_nodes
      in_ends in_sums in_heads =
      let own : AreHeads (lead p ∷ []) (head ∷ []) =
      subst (λ x. AreHeads (x ∷ []) (head ∷ [])) is (record {
        are_numbers = ap (λ n. n ∷ []) in_head;
        are_bytes = (bytes, tt);
      }) in
      rw (in_nodes, in_ends, in_sums, in_heads) (
        row_more qs p ends sums end sum beside.0 in_end in_sum,
        rw (map-append lead qs (p ∷ [])) (heads_append (map lead qs) (lead p ∷ []) heads (head ∷ []) beside.1 own),
      )

  module _ (qs ps : List P) (k : ℕ) (ends old_ends : List ℕ) (sums old_sums : List Lanes) (begun start : ℕ)
      (start_sum : Lanes) where
    row_rest : IsRow content qs ends sums → IsRow content ps old_ends old_sums → k ≤ length ps →
        begun ≡ length (flat_map content (take k ps)) → start ≡ length (flat_map content qs) →
        start_sum ≡ two_lanes.of (flat_map content qs) → IsRow content (qs ++ drop k ps)
        (ends ++ map (λ end. start + (end - begun)) (drop k old_ends))
        (sums ++ map (λ B. join_lanes start_sum (two_lanes.of B)) (fronts (drop k ps)))
    row_rest row old within in_begun in_start in_sum =
        let many = old.as_many_ends in
        let left = length-drop k old_ends in
        let rest = length-drop k ps in
        let same = fronts_length (drop k ps) in
        let mapped = length-map (drop k old_ends) (λ end. start + (end - begun)) in
        let mapped_too = length-map (fronts (drop k ps)) (λ B. join_lanes start_sum (two_lanes.of B)) in
        row_append qs (drop k ps) ends (map (λ end. start + (end - begun)) (drop k old_ends)) sums
        (map (λ B. join_lanes start_sum (two_lanes.of B)) (fronts (drop k ps))) row (omega arith) (omega arith)
        (λ j d low.
        let moved = get_or-map (λ end. start + (end - begun)) (drop k old_ends) j 0 d (omega arith) in
        let read = get_or-drop k old_ends j 0 ∙ old.are_ends (k + j) 0 (omega arith) ∙ ap length (items_cut ps k j)
        ∙ length-append (flat_map content (take k ps)) (flat_map content (take (j + 1) (drop k ps))) in
        omega arith)
        (λ j d low.
        get_or-map (λ B. join_lanes start_sum (two_lanes.of B)) (fronts (drop k ps)) j [] d (omega arith)
        ∙ (λ i. join_lanes (in_sum i) (two_lanes.of (fronts_get (drop k ps) j [] (omega arith) i))))

    -- the lists beside the nodes and the rest of others
    pub rest_beside : (now : List P) (es : List ℕ) (ss : List Lanes) (heads old_heads hs : List ℕ) →
        AreBeside qs ends sums heads → AreBeside ps old_ends old_sums old_heads → k ≤ length ps →
        begun ≡ length (flat_map content (take k ps)) → start ≡ length (flat_map content qs) →
        start_sum ≡ two_lanes.of (flat_map content qs) → now ≡ qs ++ drop k ps →
        es ≡ ends ++ map (λ end. start + (end - begun)) (drop k old_ends) →
        ss ≡ sums ++ map (λ B. join_lanes start_sum (two_lanes.of B)) (fronts (drop k ps)) →
        hs ≡ heads ++ drop k old_heads → AreBeside now es ss hs
    rest_beside now es ss heads old_heads hs beside old within in_begun in_start in_sum in_nodes in_ends in_sums
        in_heads =
        let leads : map lead (qs ++ drop k ps) ≡ map lead qs ++ drop k (map lead ps) =
        map-append lead qs (drop k ps) ∙ ap (λ xs. map lead qs ++ xs) (map_drop lead k ps) in
        rw (in_nodes, in_ends, in_sums, in_heads) (
          row_rest beside.0 old.0 within in_begun in_start in_sum,
          rw leads (heads_append (map lead qs) (drop k (map lead ps)) heads (drop k old_heads) beside.1
              (heads_back k (map lead ps) old_heads old.1)),
        )
