-- What a file of lines keeps through each call, over plain values.
use Rattle.std.proofs.Common.{◌≡◌, ◌∙◌, ℕ, ◌+◌, ◌-◌, ◌≤◌, Bool, false, List, [], ◌++◌, length, take, drop, nat_lt}
use Rattle.std.proofs.Common.{Option, Some, None, refl, sym, ap, subst, arith, rules, append_assoc, append-nil, ⊎_elim}
use Rattle.std.proofs.Common.{take-append-drop}
use Rattle.std.specs.Io.KnownBytes.{append_known}
use Rattle.std.proofs.lemmas.List.{length-append, length-take, length-drop, take_at, take_all, take-take, drop-drop}
use Rattle.std.proofs.lemmas.List.{length-take-le}
use Rattle.std.proofs.lemmas.Bool.{cases_lt}
use Rattle.std.proofs.Math.Seq.{take-append-add, take-add}
use Rattle.io_core.specs.Lines.{AreLines}
use Rattle.io_core.specs.Devices.{Holds, first_left}
use Rattle.io_core.specs.Keeping.{Kept, IsKept, MovesOn}
use Rattle.io_core.proofs.Cutting.{more_lines}

-- ---- what is held, where it is known

held_more : (old new : Option (List ℕ)) (xs ys : List ℕ) → Holds old xs → new ≡ append_known old ys
    → Holds new (xs ++ ys)
held_more None new xs ys is more = subst (λ o. Holds o (xs ++ ys)) (sym more) tt
held_more (Some zs) new xs ys is more =
    subst (λ o. Holds o (xs ++ ys)) (sym more) (ap (λ (l : List ℕ). l ++ ys) is)

held_front : (old new : Option (List ℕ)) (n : ℕ) (xs : List ℕ) → Holds old xs → new ≡ first_left old n
    → Holds new (take n xs)
held_front None new n xs is front = subst (λ o. Holds o (take n xs)) (sym front) tt
held_front (Some zs) new n xs is front = subst (λ o. Holds o (take n xs)) (sym front) (ap (take n) is)

-- the first a of the first b are the first few
shorter : (a b : ℕ) (xs : List ℕ) → (j : ℕ) × (j ≤ b) × (take a (take b xs) ≡ take j xs)
shorter a b xs = ⊎_elim (λ less. (a, omega arith, take-take a b xs (omega arith)))
    (λ more. (b, omega arith, take_all a (take b xs) (omega (arith, length-take b xs)))) (cases_lt a b)

-- ---- the calls

abbrev pub at : {D : Type 0} → D → ℕ → Bool → List ℕ → Kept D
at device n is_torn xs = record { device = device; whole_length = n; is_torn = is_torn; waiting = xs }

module _ {D : Type 0} (held : D → Option (List ℕ)) (d d2 : D) (n : ℕ) (torn : Bool) (xs : List ℕ) where
  -- it was cut to its whole lines
  pub cut_off : held d2 ≡ first_left (held d) n → (base told : List ℕ) → IsKept held base told (at d n torn xs)
      → IsKept held base told (at d2 n false xs)
  cut_off front base told k = record {
    written = k.written;
    torn = 0;
    order = k.order;
    whole = k.whole;
    size = k.size;
    within = omega arith;
    clean = λ _. refl;
    holds = subst (λ (l : List ℕ). Holds (held d2) l)
        (take_at (base ++ k.written) (take k.torn xs) n (sym k.size) ∙ sym (append-nil (base ++ k.written)))
        (held_front (held d) (held d2) n _ k.holds front);
  }

  -- some of what follows them was cut
  pub cut_some : (m : ℕ) → n ≤ m → held d2 ≡ first_left (held d) m → (base told : List ℕ)
      → IsKept held base told (at d n torn xs) → IsKept held base told (at d2 n torn xs)
  cut_some m far front base told k =
      let few = shorter (m - n) k.torn xs in
      let size = k.size in
      let long : m ≡ length (base ++ k.written) + (m - n) = omega arith in
      record {
        written = k.written;
        torn = few.0;
        order = k.order;
        whole = k.whole;
        size = k.size;
        within = let within = k.within in let less = few.1 in omega arith;
        clean = λ whole. let none = k.clean whole in let less = few.1 in omega arith;
        holds = subst (λ (l : List ℕ). Holds (held d2) l)
            (ap (λ i. take i (base ++ k.written ++ take k.torn xs)) long
            ∙ (take-append-add (base ++ k.written) (take k.torn xs) (m - n)
            ∙ ap (λ (l : List ℕ). base ++ k.written ++ l) few.2))
            (held_front (held d) (held d2) m _ k.holds front);
      }

  -- what is held, where nothing is torn, and some bytes more
  holds_more : (base told : List ℕ) (k : IsKept held base told (at d n torn xs)) (ys : List ℕ) → torn ≡ false
      → held d2 ≡ append_known (held d) ys → Holds (held d2) (base ++ k.written ++ ys)
  holds_more base told k ys clean more =
      let all = held_more (held d) (held d2) _ ys k.holds more in
      let none : take k.torn xs ≡ [] = ap (λ i. take i xs) (k.clean clean) in
      subst (λ (l : List ℕ). Holds (held d2) (l ++ ys))
      (ap (λ (l : List ℕ). base ++ k.written ++ l) none ∙ append-nil (base ++ k.written)) all

  -- the first so many bytes were added, and some of these are whole lines
  pub added : (taken few : ℕ) → torn ≡ false → taken ≤ length xs → few ≤ taken → AreLines (take few xs)
      → held d2 ≡ append_known (held d) (take taken xs) → (base told : List ℕ)
      → IsKept held base told (at d n torn xs)
      → IsKept held base told (at d2 (n + few) (nat_lt few taken) (drop few xs))
  added taken few clean within less lines more base told k =
      let size = k.size in
      let ends = ap (λ i. take i xs) (let is : taken ≡ few + (taken - few) = omega arith in is)
      ∙ take-add few (taken - few) xs in
      record {
        written = k.written ++ take few xs;
        torn = taken - few;
        order = k.order ∙ (ap (λ (l : List ℕ). k.written ++ l) (sym (take-append-drop few xs))
            ∙ sym (append_assoc k.written (take few xs) (drop few xs)));
        whole = subst AreLines (append_assoc base k.written (take few xs))
            (more_lines (base ++ k.written) (take few xs) k.whole lines);
        size = omega (
          arith,
          length-append base (k.written ++ take few xs),
          length-append k.written (take few xs),
          length-append base k.written,
          length-take-le few xs (omega arith),
        );
        within = omega (arith, length-drop few xs);
        clean = λ same. let all : taken ≤ few = search (rules, same) in omega arith;
        holds = subst (λ (l : List ℕ). Holds (held d2) l)
            (ap (λ (l : List ℕ). base ++ k.written ++ l) ends
            ∙ (sym (append_assoc (base ++ k.written) (take few xs) (take (taken - few) (drop few xs)))
            ∙ ap (λ (l : List ℕ). l ++ take (taken - few) (drop few xs)) (append_assoc base k.written (take few xs))))
            (holds_more base told k (take taken xs) clean more);
      }

-- some went, and then some more
pub moves_more : {D : Type 0} (a b c : Kept D) → MovesOn a b → MovesOn b c → MovesOn a c
moves_more a b c first second =
    let waits : drop first.n a.waiting ≡ b.waiting = sym first.waits in
    let left = length-drop first.n a.waiting in
    record {
      n = first.n + second.n;
      within = let within = first.within in let last = second.within in omega (arith, left, ap length waits);
      lines = subst AreLines
          (ap (λ (l : List ℕ). take first.n a.waiting ++ take second.n l) first.waits
          ∙ sym (take-add first.n second.n a.waiting))
          (more_lines (take first.n a.waiting) (take second.n b.waiting) first.lines second.lines);
      waits = second.waits ∙ (ap (drop second.n) first.waits ∙ drop-drop second.n first.n a.waiting);
      size = let size = first.size in let last = second.size in omega arith;
    }

-- nothing waits: all that was told is held
pub all_held : {D : Type 0} (held : D → Option (List ℕ)) (base told : List ℕ) (f : Kept D) → f.waiting ≡ []
    → IsKept held base told f → Holds (held f.device) (base ++ told)
all_held held base told f none k =
    let torn : k.torn ≡ 0 = let within = k.within in omega (arith, ap length none) in
    let all : k.written ≡ told = sym (k.order ∙ (ap (λ (l : List ℕ). k.written ++ l) none ∙ append-nil k.written)) in
    subst (λ (l : List ℕ). Holds (held f.device) l)
    (ap (λ i. base ++ k.written ++ take i f.waiting) torn
    ∙ (append-nil (base ++ k.written) ∙ ap (λ (l : List ℕ). base ++ l) all)) k.holds
