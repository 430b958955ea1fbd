-- Items that are kept packed. Each ends past where it begins, so that the items are pieces of the bytes. Items that
-- come after others are pieces further on: each of their ends is moved by as many bytes as stand in front. Bytes that
-- stand after the pieces change none of them. The first items are the pieces of the bytes in front of where the last of
-- them ends.
use Rattle.std.proofs.Common.{◌≡◌, ℕ, zero, suc, ◌+◌, ◌-◌, ◌^◌, ◌<◌, ◌≤◌, List, [], ◌∷◌, ◌++◌, take, drop, length}
use Rattle.std.proofs.Common.{get_or, map, Some, refl, sym, ap, subst, ◌∙◌, arith}
use Rattle.std.specs.List.{slice_get}
use Rattle.std.proofs.lemmas.List.{length-append, length-drop, take-append-le, length-take-le, drop-append-le, drop_at}
use Rattle.std.proofs.lemmas.List.{drop-drop, drop_more, get_or-take, get_or_read, take_all, take_more}
use Rattle.std.proofs.lemmas.List.{take-append-drop}
use Rattle.std.proofs.lemmas.Option.{get_or_from_slice_get, slice_get-get_or}
use Rattle.definitions.specs.Items.{Item}
use Rattle.store_core.specs.Packs.{piece, pieces, IsRising}

-- ---- where items end

pub rising_within : (start : ℕ) (ends : List ℕ) (last : ℕ) → IsRising start ends last → start ≤ last
rising_within start [] last rise = omega (arith, rise)
rising_within start (e ∷ es) last rise =
    let low = rise.0 in
    let rest = rising_within e es last rise.2 in
    omega arith

-- the item at a place begins before it ends, has at most 64 bytes, and ends within all
pub rising_at : (start : ℕ) (ends : List ℕ) (last k d : ℕ) → IsRising start ends last → k < length ends →
    (get_or (start ∷ ends) k d < get_or ends k d) × (get_or ends k d ≤ get_or (start ∷ ends) k d + 64)
    × (get_or ends k d ≤ last)
rising_at start [] last k d rise low = absurd (omega arith)
rising_at start (e ∷ es) last zero d rise low = (rise.0, rise.1, rising_within e es last rise.2)
rising_at start (e ∷ es) last (suc k) d rise low = rising_at e es last k d rise.2 (omega arith)

rising_append : (start : ℕ) (ends : List ℕ) (last : ℕ) (more : List ℕ) (final : ℕ) → IsRising start ends last →
    IsRising last more final → IsRising start (ends ++ more) final
rising_append start [] last more final rise next = subst (λ s. IsRising s more final) (sym rise) next
rising_append start (e ∷ es) last more final rise next =
    (rise.0, rise.1, rising_append e es last more final rise.2 next)

-- .. each so much further on
rising_moved : (base start from : ℕ) (ends : List ℕ) (last : ℕ) → from ≡ base + start → IsRising start ends last →
    IsRising from (map (λ end. base + end) ends) (base + last)
rising_moved base start from [] last at rise = omega (arith, at, rise)
rising_moved base start from (e ∷ es) last at rise =
    let low = rise.0 in
    let high = rise.1 in
    (omega arith, omega arith, rising_moved base e (base + e) es last refl rise.2)

-- the ends can be moved, where all bytes together are few
pub moved_low : (base : ℕ) (ends : List ℕ) (last : ℕ) → IsRising 0 ends last → base + last < 2 ^ 32 →
    (k : ℕ) → k < length ends → base + get_or ends k 0 < 2 ^ 32
moved_low base ends last rise few k low =
    let within = (rising_at 0 ends last k 0 rise low).2 in
    omega arith

-- the first items end where the last of them does
rising_front : (start : ℕ) (ends : List ℕ) (last count : ℕ) → IsRising start ends last →
    IsRising start (take count ends) (get_or (start ∷ take count ends) (length (take count ends)) 0)
rising_front start [] last zero rise = refl
rising_front start [] last (suc n) rise = refl
rising_front start (e ∷ es) last zero rise = refl
rising_front start (e ∷ es) last (suc n) rise = (rise.0, rise.1, rising_front e es last n rise.2)

front_within : (start : ℕ) (ends : List ℕ) (last count : ℕ) → IsRising start ends last →
    get_or (start ∷ take count ends) (length (take count ends)) 0 ≤ last
front_within start [] last zero rise = omega (arith, rise)
front_within start [] last (suc n) rise = omega (arith, rise)
front_within start (e ∷ es) last zero rise = rising_within start (e ∷ es) last rise
front_within start (e ∷ es) last (suc n) rise = front_within e es last n rise.2

-- ---- the items

pub length_pieces : (start : ℕ) (ends bytes : List ℕ) → length (pieces start ends bytes) ≡ length ends
length_pieces start [] bytes = refl
length_pieces start (e ∷ es) bytes = ap suc (length_pieces e es bytes)

pub piece_at : (start : ℕ) (ends bytes : List ℕ) (k : ℕ) (x : Item) (d : ℕ) → k < length ends →
    get_or (pieces start ends bytes) k x ≡ piece (get_or (start ∷ ends) k d) (get_or ends k d) bytes
piece_at start [] bytes k x d low = absurd (omega arith)
piece_at start (e ∷ es) bytes zero x d low = refl
piece_at start (e ∷ es) bytes (suc k) x d low = piece_at e es bytes k x d (omega arith)

pub length_piece : (from to : ℕ) (bytes : List ℕ) → to ≤ length bytes → length (piece from to bytes) ≡ to - from
length_piece from to bytes within =
    let rest = length-drop from bytes in
    length-take-le (to - from) (drop from bytes) (omega arith)

-- a place of the items is one of the ends
pub place_low : (ends bytes : List ℕ) (xs : List Item) (k : ℕ) → pieces 0 ends bytes ≡ xs → k < length xs →
    k < length ends
place_low ends bytes xs k is low = omega (arith, low, ap length is, length_pieces 0 ends bytes)

-- what is read at a place is the item there
module _ (ends bytes es : List ℕ) (xs : List Item) (k start end : ℕ) (rise : IsRising 0 ends (length bytes))
    (is : pieces 0 ends bytes ≡ xs) (low : k < length xs) (begins : start ≡ get_or (0 ∷ es) k 0) (same : es ≡ ends)
    (stops : end ≡ get_or ends k end) where
  within : k < length ends
  within = place_low ends bytes xs k is low

  starts : start ≡ get_or (0 ∷ ends) k 0
  starts = begins ∙ ap (λ (fs : List ℕ). get_or (0 ∷ fs) k 0) same

  ending : end ≡ get_or ends k 0
  ending = get_or_read ends k end within stops 0

  pub item_spans : (start < end) × (end ≤ start + 64) × (end ≤ length bytes)
  item_spans =
      let at = rising_at 0 ends (length bytes) k 0 rise within in
      (omega (arith, at.0, starts, ending), omega (arith, at.1, starts, ending), omega (arith, at.2, ending))

  pub item_is : (all : List ℕ) → all ≡ bytes → slice_get xs k ≡ Some (take (end - start) (drop start all))
  item_is all bytes_are =
      let count = length_pieces 0 ends bytes in
      ap (λ ys. slice_get ys k) (sym is)
      ∙ slice_get-get_or (pieces 0 ends bytes) k [] (omega (arith, count, within))
      ∙ ap Some (piece_at 0 ends bytes k [] 0 within
      ∙ (λ i. piece (sym starts i) (sym ending i) (sym bytes_are i)))

-- bytes after those of the items change none of them
pieces_longer : (start : ℕ) (ends : List ℕ) (last : ℕ) (bytes more : List ℕ) → IsRising start ends last →
    last ≤ length bytes → pieces start ends (bytes ++ more) ≡ pieces start ends bytes
pieces_longer start [] last bytes more rise within = refl
pieces_longer start (e ∷ es) last bytes more rise within =
    let low = rise.0 in
    let high = rising_within e es last rise.2 in
    let rest = length-drop start bytes in
    let first : piece start e (bytes ++ more) ≡ piece start e bytes =
    ap (take (e - start)) (drop-append-le start bytes more (omega arith))
    ∙ take-append-le (e - start) (drop start bytes) more (omega arith) in
    (λ i. first i ∷ pieces_longer e es last bytes more rise.2 within i)

pieces_append : (start : ℕ) (ends : List ℕ) (last : ℕ) (more bytes : List ℕ) → IsRising start ends last →
    pieces start (ends ++ more) bytes ≡ pieces start ends bytes ++ pieces last more bytes
pieces_append start [] last more bytes rise = ap (λ s. pieces s more bytes) rise
pieces_append start (e ∷ es) last more bytes rise =
    ap (λ xs. piece start e bytes ∷ xs) (pieces_append e es last more bytes rise.2)

-- bytes in front of those of the items move them
pieces_moved : (base start from : ℕ) (ends front bytes : List ℕ) → length front ≡ base → from ≡ base + start →
    pieces from (map (λ end. base + end) ends) (front ++ bytes) ≡ pieces start ends bytes
pieces_moved base start from [] front bytes count at = refl
pieces_moved base start from (e ∷ es) front bytes count at =
    let width : (base + e) - from ≡ e - start = omega arith in
    let rest_is : drop from (front ++ bytes) ≡ drop start bytes =
    ap (λ n. drop n (front ++ bytes)) at ∙ sym (drop-drop start base (front ++ bytes))
    ∙ ap (drop start) (drop_at front bytes base count) in
    (λ i. take (width i) (rest_is i) ∷ pieces_moved base e (base + e) es front bytes count refl i)

pieces_front : (start : ℕ) (ends bytes : List ℕ) (count : ℕ) →
    pieces start (take count ends) bytes ≡ take count (pieces start ends bytes)
pieces_front start [] bytes zero = refl
pieces_front start [] bytes (suc n) = refl
pieces_front start (e ∷ es) bytes zero = refl
pieces_front start (e ∷ es) bytes (suc n) = ap (λ xs. piece start e bytes ∷ xs) (pieces_front e es bytes n)

-- ---- one item more

module _ (ends bytes x more_bytes more_ends : List ℕ) (rise : IsRising 0 ends (length bytes)) (some : 1 ≤ length x)
    (short : length x ≤ 64) (in_bytes : more_bytes ≡ bytes ++ x)
    (in_ends : more_ends ≡ ends ++ length more_bytes ∷ []) where
  longer : length more_bytes ≡ length bytes + length x
  longer = ap length in_bytes ∙ length-append bytes x

  pub packed_rise : IsRising 0 more_ends (length more_bytes)
  packed_rise =
      let own : IsRising (length bytes) (length more_bytes ∷ []) (length more_bytes) =
      (omega (arith, longer, some), omega (arith, longer, short), refl) in
      subst (λ es. IsRising 0 es (length more_bytes)) (sym in_ends)
      (rising_append 0 ends (length bytes) (length more_bytes ∷ []) (length more_bytes) rise own)

  pub packed_is : pieces 0 more_ends more_bytes ≡ pieces 0 ends bytes ++ x ∷ []
  packed_is =
      let count : length more_bytes - length bytes ≡ length x = omega (arith, longer) in
      let own : piece (length bytes) (length more_bytes) more_bytes ≡ x =
      (λ i. take (count i) (drop (length bytes) (in_bytes i)))
      ∙ ap (take (length x)) (drop_at bytes x (length bytes) refl) ∙ take_all (length x) x (omega arith) in
      let old : pieces 0 ends more_bytes ≡ pieces 0 ends bytes =
      ap (pieces 0 ends) in_bytes ∙ pieces_longer 0 ends (length bytes) bytes x rise (omega arith) in
      ap (λ es. pieces 0 es more_bytes) in_ends
      ∙ pieces_append 0 ends (length bytes) (length more_bytes ∷ []) more_bytes rise
      ∙ (λ i. old i ++ own i ∷ [])

-- ---- other items after these

module _ (ends bytes other_ends other_bytes more_bytes more_ends kept es : List ℕ) (from : ℕ)
    (rise : IsRising 0 ends (length bytes)) (others : IsRising 0 other_ends (length other_bytes))
    (in_bytes : more_bytes ≡ bytes ++ other_bytes) (pushed : more_ends ≡ kept ++ map (λ end. from + end) es)
    (kept_are : kept ≡ ends) (at : from ≡ length bytes) (es_are : es ≡ other_ends) where
  in_ends : more_ends ≡ ends ++ map (λ (end : ℕ). length bytes + end) other_ends
  in_ends = pushed ∙ (λ i. kept_are i ++ map (λ (end : ℕ). at i + end) (es_are i))

  pub joined_rise : IsRising 0 more_ends (length more_bytes)
  joined_rise =
      let moved = map (λ (end : ℕ). length bytes + end) other_ends in
      let count : length bytes + length other_bytes ≡ length more_bytes =
      sym (ap length in_bytes ∙ length-append bytes other_bytes) in
      let next : IsRising (length bytes) moved (length bytes + length other_bytes) =
      rising_moved (length bytes) 0 (length bytes) other_ends (length other_bytes) (omega arith) others in
      subst (λ (es : List ℕ). IsRising 0 es (length more_bytes)) (sym in_ends)
      (rising_append 0 ends (length bytes) moved (length more_bytes) rise
      (subst (IsRising (length bytes) moved) count next))

  pub joined_is : pieces 0 more_ends more_bytes ≡ pieces 0 ends bytes ++ pieces 0 other_ends other_bytes
  joined_is =
      let moved = map (λ (end : ℕ). length bytes + end) other_ends in
      let all = bytes ++ other_bytes in
      let own : pieces 0 ends all ≡ pieces 0 ends bytes =
      pieces_longer 0 ends (length bytes) bytes other_bytes rise (omega arith) in
      let rest_is : pieces (length bytes) moved all ≡ pieces 0 other_ends other_bytes =
      pieces_moved (length bytes) 0 (length bytes) other_ends bytes other_bytes refl (omega arith) in
      (λ i. pieces 0 (in_ends i) (in_bytes i))
      ∙ pieces_append 0 ends (length bytes) moved all rise ∙ (λ i. own i ++ rest_is i)

-- ---- the first items

module _ (ends bytes kept_ends kept_bytes es : List ℕ) (count end : ℕ) (rise : IsRising 0 ends (length bytes))
    (in_ends : kept_ends ≡ take count ends) (stops : end ≡ get_or (0 ∷ es) (length es) 0) (same : es ≡ kept_ends)
    (in_bytes : kept_bytes ≡ take end bytes) where
  stops_front : end ≡ get_or (0 ∷ take count ends) (length (take count ends)) 0
  stops_front = stops ∙ ap (λ (fs : List ℕ). get_or (0 ∷ fs) (length fs) 0) (same ∙ in_ends)

  front_rises : IsRising 0 (take count ends) end
  front_rises =
      subst (IsRising 0 (take count ends)) (sym stops_front) (rising_front 0 ends (length bytes) count rise)

  size : length (take end bytes) ≡ end
  size = length-take-le end bytes
      (omega (arith, stops_front, front_within 0 ends (length bytes) count rise))

  pub cut_rise : IsRising 0 kept_ends (length kept_bytes)
  cut_rise =
      subst (λ (es : List ℕ). IsRising 0 es (length kept_bytes)) (sym in_ends)
      (subst (IsRising 0 (take count ends)) (sym (ap length in_bytes ∙ size)) front_rises)

  pub cut_is : pieces 0 kept_ends kept_bytes ≡ take count (pieces 0 ends bytes)
  cut_is =
      (λ i. pieces 0 (in_ends i) (in_bytes i))
      ∙ sym (pieces_longer 0 (take count ends) end (take end bytes) (drop end bytes) front_rises
      (omega (arith, size)))
      ∙ ap (pieces 0 (take count ends)) (take-append-drop end bytes)
      ∙ pieces_front 0 ends bytes count

-- ---- the items that were unpacked so far, one more

pub taken_more : (xs : List Item) (k : ℕ) (x : Item) → k < length xs → slice_get xs k ≡ Some x →
    take (k + 1) xs ≡ take k xs ++ x ∷ []
taken_more xs k x low is =
    take_more xs k x low ∙ ap (λ (y : Item). take k xs ++ y ∷ []) (get_or_from_slice_get xs k x x is)

-- the first items, of which the one at a place is put somewhere
pub first_at : (xs : List Item) (first place : ℕ) (x : Item) → first ≤ length xs → place < first →
    slice_get xs place ≡ Some x → drop place (take first xs) ≡ x ∷ drop (place + 1) (take first xs)
first_at xs first place x within low is =
    let count = length-take-le first xs within in
    drop_more (take first xs) place x (omega arith)
    ∙ ap (λ (y : Item). y ∷ drop (place + 1) (take first xs))
    (get_or-take first xs place x low ∙ get_or_from_slice_get xs place x x is)
