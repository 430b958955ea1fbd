-- Spans of lists, and lists that are kept in nodes.
use Rattle.std.proofs.Common.{◌≡◌, ℕ, None, Some, zero, suc, ◌+◌, ◌-◌, ◌<◌, ◌≤◌, Bool, not, ◌&&◌, filter, List, [], ◌∷◌}
use Rattle.std.proofs.Common.{◌++◌}
use Rattle.std.proofs.Common.{take, drop, map, length, get_or, refl, sym, ap, subst, ◌∙◌, arith}
use Rattle.std.specs.List.{flat_map, slice_get}
use Rattle.std.proofs.lemmas.List.{drop_more, take_more, take-append-drop, take-append-le, drop-append-le, append_assoc}
use Rattle.std.proofs.lemmas.List.{get_or-drop, get_or-take, length-drop}
use Rattle.std.proofs.lemmas.Option.{get_or_from_slice_get}
use Rattle.std.proofs.lemmas.List.{append-nil, map-append, length-append, length-take, take_all}
use Rattle.std.proofs.lemmas.List.Concat.{flat_map-append}
use Rattle.definitions.proofs.Partitions.{later}
use Rattle.range_tree.specs.Nodes.{span, PassFirst}

pub drop_none : {X : Type 0} (n : ℕ) → drop {A = X} n [] ≡ []
drop_none {X} zero = refl
drop_none {X} (suc n) = refl

pub span_none : {X : Type 0} (s e : ℕ) → span {X = X} s e [] ≡ []
span_none {X} s zero = drop_none s
span_none {X} s (suc e) = drop_none s

-- what stands between two places of two lists, one after the other
pub span_append : {X : Type 0} (s e : ℕ) (xs ys : List X) →
    span s e (xs ++ ys) ≡ span s e xs ++ span (s - length xs) (e - length xs) ys
span_append s e [] ys =
    let same : s - 0 ≡ s = omega arith in
    let too : e - 0 ≡ e = omega arith in
    rw (same, too, span_none {X = _} s e) refl
span_append s zero (x ∷ xs) ys =
    let none : 0 - length (x ∷ xs) ≡ 0 = omega arith in
    rw (none, drop_none s, drop_none (s - length (x ∷ xs))) refl
span_append zero (suc e) (x ∷ xs) ys =
    let less : suc e - suc (length xs) ≡ e - length xs = omega arith in
    let none : 0 - suc (length xs) ≡ 0 - length xs = omega arith in
    rw (less, none) (ap (λ zs. x ∷ zs) (span_append zero e xs ys))
span_append (suc s) (suc e) (x ∷ xs) ys =
    let less : suc e - suc (length xs) ≡ e - length xs = omega arith in
    let fewer : suc s - suc (length xs) ≡ s - length xs = omega arith in
    rw (less, fewer) (span_append s e xs ys)

pub map_get : {X Y : Type 0} (f : X → Y) (xs : List X) (i : ℕ) (d : X) → get_or (map f xs) i (f d) ≡ f (get_or xs i d)
map_get f [] i d = refl
map_get f (x ∷ xs) zero d = refl
map_get f (x ∷ xs) (suc i) d = map_get f xs i d

pub map_drop : {X Y : Type 0} (f : X → Y) (n : ℕ) (xs : List X) → map f (drop n xs) ≡ drop n (map f xs)
map_drop f zero xs = refl
map_drop f (suc n) [] = refl
map_drop f (suc n) (x ∷ xs) = map_drop f n xs

-- what the nodes hold, cut before and after one of them
pub flat_cut : {P A : Type 0} (f : P → List A) (ps : List P) (k : ℕ) (d : P) → k < length ps →
    flat_map f ps ≡ flat_map f (take k ps) ++ (f (get_or ps k d) ++ flat_map f (drop (k + 1) ps))
flat_cut f ps k d low = ap (flat_map f) (sym (take-append-drop k ps)) ∙ flat_map-append f (take k ps) (drop k ps)
    ∙ ap (λ qs. flat_map f (take k ps) ++ flat_map f qs) (drop_more ps k d low)

-- the rest of the nodes, where x is the first one of it
pub flat_rest : {T P A : Type 0} (f : P → List A) (v : T → P) (xs : List T) (i : ℕ) (x : T) → i < length xs →
    x ≡ get_or xs i x → flat_map f (map v (drop i xs)) ≡ f (v x) ++ flat_map f (map v (drop (i + 1) xs))
flat_rest f v xs i x low e = ap (λ ys. flat_map f (map v ys)) (drop_more xs i x low)
    ∙ ap (λ y. f (v y) ++ flat_map f (map v (drop (i + 1) xs))) (sym e)

-- what is held so far, and what the rest has between the places that are left
pub span_step : {A : Type 0} (s e : ℕ) (xs ys held all : List A) → held ++ span s e (xs ++ ys) ≡ all →
    held ++ span s e xs ++ span (s - length xs) (e - length xs) ys ≡ all
span_step s e xs ys held all h = append_assoc held (span s e xs) (span (s - length xs) (e - length xs) ys)
    ∙ ap (λ zs. held ++ zs) (sym (span_append s e xs ys)) ∙ h

-- so one more of some nodes that are gone over: what it has between the places is held too
pub span_next : {T P A : Type 0} (f : P → List A) (v : T → P) (xs : List T) (i : ℕ) (x : T) (s e : ℕ)
    (held now all : List A) → i < length xs → x ≡ get_or xs i x →
    held ++ span s e (flat_map f (map v (drop i xs))) ≡ all → now ≡ held ++ span s e (f (v x)) →
    now ++ span (s - length (f (v x))) (e - length (f (v x))) (flat_map f (map v (drop (i + 1) xs))) ≡ all
span_next f v xs i x s e held now all low read before is =
    let rest = flat_map f (map v (drop (i + 1) xs)) in
    ap (λ zs. zs ++ span (s - length (f (v x))) (e - length (f (v x))) rest) is
    ∙ span_step s e (f (v x)) rest held all
    (ap (λ zs. held ++ span s e zs) (sym (flat_rest f v xs i x low read)) ∙ before)

-- as many elements between two places as there are: these are all
pub span_whole : {X : Type 0} (s e : ℕ) (xs : List X) → e ≤ length xs → e - s ≡ length xs → span s e xs ≡ xs
span_whole s e [] most all = span_none s e
span_whole s e (x ∷ xs) most all = let first : s ≡ 0 = omega arith in rw first (take_all e (x ∷ xs) (omega arith))

pub map_take : {X Y : Type 0} (f : X → Y) (n : ℕ) (xs : List X) → map f (take n xs) ≡ take n (map f xs)
map_take f zero xs = refl
map_take f (suc n) [] = refl
map_take f (suc n) (x ∷ xs) = ap (λ ys. f x ∷ ys) (map_take f n xs)

pub length_cut : {P A : Type 0} (f : P → List A) (ps : List P) (k : ℕ) (d : P) → k < length ps → length (flat_map f ps)
    ≡ length (flat_map f (take k ps)) + (length (f (get_or ps k d)) + length (flat_map f (drop (k + 1) ps)))
length_cut f ps k d low =
    ap length (flat_cut f ps k d low)
    ∙ length-append (flat_map f (take k ps)) (f (get_or ps k d) ++ flat_map f (drop (k + 1) ps))
    ∙ ap (λ n. length (flat_map f (take k ps)) + n) (length-append (f (get_or ps k d)) (flat_map f (drop (k + 1) ps)))

pub length_take_more : {P A : Type 0} (f : P → List A) (ps : List P) (k : ℕ) (d : P) → k < length ps →
    length (flat_map f (take (k + 1) ps)) ≡ length (flat_map f (take k ps)) + length (f (get_or ps k d))
length_take_more f ps k d low =
    ap (λ qs. length (flat_map f qs)) (take_more ps k d low)
    ∙ ap length (flat_map-append f (take k ps) (get_or ps k d ∷ []))
    ∙ length-append (flat_map f (take k ps)) (f (get_or ps k d) ++ [])
    ∙ ap (λ xs. length (flat_map f (take k ps)) + length xs) (append-nil (f (get_or ps k d)))

-- the value of a node that is read
pub value_read : {T P : Type 0} (v : T → P) (xs : List T) (i : ℕ) (x : T) → x ≡ get_or xs i x →
    get_or (map v xs) i (v x) ≡ v x
value_read v xs i x e = map_get v xs i x ∙ ap v (sym e)

-- the same, of a reference to the value, where the values are known
pub node_read : {T P : Type 0} (v : T → P) (xs : List T) (ps : List P) (i : ℕ) (x : T) (p : P) → map v xs ≡ ps →
    x ≡ get_or xs i x → p ≡ v x → p ≡ get_or ps i p
node_read v xs ps i x p values e is =
    is ∙ sym (value_read v xs i x e) ∙ (λ j. get_or (values j) i (sym is j))

-- what holds of the element at that place holds of what is read there
pub of_read : {T P : Type 0} (Q : P → Type 0) (v : T → P) (xs : List T) (ps : List P) (i : ℕ) (x : T) (p : P) →
    map v xs ≡ ps → x ≡ get_or xs i x → p ≡ v x → Q (get_or ps i p) → Q p
of_read Q v xs ps i x p values e is known = subst Q (sym (node_read v xs ps i x p values e is)) known

pub get_front : {X : Type 0} (xs ys : List X) (n : ℕ) → n < length xs → slice_get (xs ++ ys) n ≡ slice_get xs n
get_front [] ys n low = absurd (omega arith)
get_front (x ∷ xs) ys zero low = refl
get_front (x ∷ xs) ys (suc n) low = get_front xs ys n (omega arith)

pub get_back : {X : Type 0} (xs ys : List X) (n : ℕ) → slice_get (xs ++ ys) (length xs + n) ≡ slice_get ys n
get_back [] ys n = let e : 0 + n ≡ n = omega arith in rw e refl
get_back (x ∷ xs) ys n = let e : suc (length xs) + n ≡ suc (length xs + n) = omega arith in rw e (get_back xs ys n)

pub get_node : {P A : Type 0} (f : P → List A) (ps : List P) (k own : ℕ) (d : P) →
    k < length ps → own < length (f (get_or ps k d)) →
    slice_get (flat_map f ps) (length (flat_map f (take k ps)) + own) ≡ slice_get (f (get_or ps k d)) own
get_node f ps k own d low within =
    ap (λ xs. slice_get xs (length (flat_map f (take k ps)) + own)) (flat_cut f ps k d low)
    ∙ get_back (flat_map f (take k ps)) (f (get_or ps k d) ++ flat_map f (drop (k + 1) ps)) own
    ∙ get_front (f (get_or ps k d)) (flat_map f (drop (k + 1) ps)) own within

-- with one more element at a place
abbrev pub put : {X : Type 0} → ℕ → X → List X → List X
put i x xs = take i xs ++ x ∷ drop i xs

pub put_front : {X : Type 0} (xs ys : List X) (n : ℕ) (x : X) → n ≤ length xs → put n x (xs ++ ys) ≡ put n x xs ++ ys
put_front xs ys n x low =
    rw (take-append-le n xs ys low, drop-append-le n xs ys low) (sym (append_assoc (take n xs) (x ∷ drop n xs) ys))

pub put_back : {X : Type 0} (xs ys : List X) (n : ℕ) (x : X) → put (length xs + n) x (xs ++ ys) ≡ xs ++ put n x ys
put_back [] ys n x = let e : 0 + n ≡ n = omega arith in rw e refl
put_back (y ∷ xs) ys n x = let e : suc (length xs) + n ≡ suc (length xs + n) = omega arith in
    rw e (ap (λ zs. y ∷ zs) (put_back xs ys n x))

pub put_node : {P A : Type 0} (f : P → List A) (ps : List P) (k own : ℕ) (d : P) (x : A) (gs : List P) →
    k < length ps → own ≤ length (f (get_or ps k d)) → flat_map f gs ≡ put own x (f (get_or ps k d)) →
    flat_map f (take k ps ++ gs ++ drop (k + 1) ps) ≡ put (length (flat_map f (take k ps)) + own) x (flat_map f ps)
put_node f ps k own d x gs low within e =
    let front = flat_map f (take k ps) in
    let back = flat_map f (drop (k + 1) ps) in
    flat_map-append f (take k ps ++ gs) (drop (k + 1) ps)
    ∙ ap (λ xs. xs ++ back) (flat_map-append f (take k ps) gs ∙ ap (λ xs. front ++ xs) e)
    ∙ append_assoc front (put own x (f (get_or ps k d))) back
    ∙ ap (λ xs. front ++ xs) (sym (put_front (f (get_or ps k d)) back own x within))
    ∙ sym (put_back front (f (get_or ps k d) ++ back) own x)
    ∙ ap (put (length front + own) x) (sym (flat_cut f ps k d low))

-- two halves of the nodes hold what all hold
pub flat_halves : {T P A : Type 0} (f : P → List A) (v : T → P) (n : ℕ) (xs : List T) →
    flat_map f (map v (take n xs)) ++ (flat_map f (map v (drop n xs)) ++ []) ≡ flat_map f (map v xs)
flat_halves f v n xs =
    ap (λ ys. flat_map f (map v (take n xs)) ++ ys) (append-nil (flat_map f (map v (drop n xs))))
    ∙ sym (flat_map-append f (map v (take n xs)) (map v (drop n xs)))
    ∙ ap (flat_map f) (sym (map-append v (take n xs) (drop n xs)) ∙ ap (map v) (take-append-drop n xs))

-- ---- what passes both of two tests

none_later : {X : Type 0} (p : X → Bool) (x : X) (xs : List X) → PassFirst p (x ∷ xs) zero → PassFirst p xs zero
none_later p x xs parted =
    ((λ k d low high. absurd (omega arith)), (λ k d low high. parted.1 (suc k) d (omega arith) (omega arith)))

pub between_both : {X : Type 0} (p q : X → Bool) (xs : List X) (i j : ℕ) → PassFirst p xs i → PassFirst q xs j →
    span i j xs ≡ filter (λ z. not (p z) && q z) xs
between_both p q [] i j first second = span_none i j
between_both p q (x ∷ xs) zero zero first second =
    rw (first.1 zero x (omega arith) (omega arith), second.1 zero x (omega arith) (omega arith))
    (between_both p q xs zero zero (none_later p x xs first) (none_later q x xs second))
between_both p q (x ∷ xs) (suc i) zero first second =
    rw (first.0 zero x (omega arith) (omega arith))
    (sym (drop_none i) ∙ between_both p q xs i zero (later p x xs i first) (none_later q x xs second))
between_both p q (x ∷ xs) zero (suc j) first second =
    rw (first.1 zero x (omega arith) (omega arith), second.0 zero x (omega arith) (omega arith))
    (ap (λ ys. x ∷ ys) (between_both p q xs zero j (none_later p x xs first) (later q x xs j second)))
between_both p q (x ∷ xs) (suc i) (suc j) first second =
    rw (first.0 zero x (omega arith) (omega arith))
    (between_both p q xs i j (later p x xs i first) (later q x xs j second))

pub length_put : {X : Type 0} (n : ℕ) (x : X) (xs : List X) → length (put n x xs) ≡ length xs + 1
length_put n x xs =
    let with_one = length-append (take n xs) (x ∷ drop n xs) in
    let without = length-append (take n xs) (drop n xs) in
    let whole = ap length (take-append-drop n xs) in
    omega arith

pub get_past : {X : Type 0} (xs : List X) (n : ℕ) → length xs ≤ n → slice_get xs n ≡ None
get_past [] n low = refl
get_past (x ∷ xs) zero low = absurd (omega arith)
get_past (x ∷ xs) (suc n) low = get_past xs n (omega arith)

pub get_in_span : {X : Type 0} (s e i : ℕ) (xs : List X) (x d : X) → i < length (span s e xs) →
    slice_get xs (s + i) ≡ Some x → get_or (span s e xs) i d ≡ x
get_in_span s e i xs x d low is =
    let inside : s + i < e = omega (arith, low, length-drop s (take e xs), length-take e xs) in
    get_or-drop s (take e xs) i d ∙ get_or-take e xs (s + i) d inside ∙ get_or_from_slice_get xs (s + i) x d is

-- one element more of a list that is gone over
pub map_more : {X Y : Type 0} (f : X → Y) (xs : List X) (i : ℕ) (d : X) (y : Y) (held now : List Y) → i < length xs →
    f (get_or xs i d) ≡ y → now ≡ held ++ y ∷ [] → held ≡ map f (take i xs) → now ≡ map f (take (i + 1) xs)
map_more f xs i d y held now low is adds so_far =
    adds ∙ ap (λ hs. hs ++ y ∷ []) so_far ∙ ap (λ z. map f (take i xs) ++ z ∷ []) (sym is)
    ∙ sym (map-append f (take i xs) (get_or xs i d ∷ [])) ∙ ap (map f) (sym (take_more xs i d low))
