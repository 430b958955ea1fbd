-- What a session reads while the hello comes, and after it.
use Rattle.std.proofs.Common.{◌≡◌, ℕ, zero, suc, ◌+◌, ◌-◌, ◌≤◌, ◌<◌, List, [], ◌∷◌, ◌++◌, Bool, true, false, refl}
use Rattle.std.proofs.Common.{sym, ap, ◌∙◌}
use Rattle.std.proofs.Common.{append_assoc, append-nil, arith, length, take, drop, length-append, zero-add}
use Rattle.std.proofs.Math.Seq.{take-append-add}
use Rattle.std.specs.Prelude.{bytes_eq, if◌then◌else◌}
use Rattle.definitions.proofs.Lemmas.{bytes_eq-Decides}
use Rattle.definitions.specs.Wire.{Profile}
use Rattle.compact_core.specs.Unpacking.{frames_after}
use Rattle.compact_core.specs.Openings.{OpeningState, due, after_hello, opened}

drop_over : (x y : List ℕ) (m : ℕ) → drop (length x + m) (x ++ y) ≡ drop m y
drop_over [] y m = ap (λ n. drop n y) (zero-add m)
drop_over (a ∷ x) y m =
    let next : length (a ∷ x) + m ≡ suc (length x + m) = omega arith in
    ap (λ n. drop n (a ∷ (x ++ y))) next ∙ drop_over x y m

pub other_length : (x y : List ℕ) → length x < length y → bytes_eq x y ≡ false
other_length x y less = cases (bytes_eq x y) refl where
  cases : (b : Bool) → bytes_eq x y ≡ b → b ≡ false
  cases true is = absurd (let same = (bytes_eq-Decides x y).0 is in omega (arith, ap length same))
  cases false is = refl

-- bytes of the hello come
pub hello_read : {F : Type 0} (P : Profile F) (s : OpeningState) (got more : List ℕ) → length got ≤ due s →
    opened P s (got ++ more) ≡ got ++ opened P (record { hello = s.hello ++ got; unpacker = s.unpacker }) more
hello_read P s got more le =
    let m : ℕ = due s - length got in
    let d : due s ≡ length got + m = omega arith in
    let t1 : take (due s) (got ++ more) ≡ got ++ take m more =
    ap (λ n. take n (got ++ more)) d ∙ take-append-add got more m in
    let t2 : drop (due s) (got ++ more) ≡ drop m more =
    ap (λ n. drop n (got ++ more)) d ∙ drop_over got more m in
    let size = length-append s.hello got in
    let left : 4 - length (s.hello ++ got) ≡ m = omega arith in
    (λ i. t1 i ++ after_hello P (s.hello ++ t1 i) s.unpacker (t2 i))
    ∙ append_assoc got (take m more) _
    ∙ ap (λ (h : List ℕ). got ++ (take m more ++ after_hello P h s.unpacker (drop m more)))
    (sym (append_assoc s.hello got (take m more)))
    ∙ ap (λ n. got ++ (take n more ++ after_hello P ((s.hello ++ got) ++ take n more) s.unpacker (drop n more)))
    (sym left)

-- it has come
opened_whole : {F : Type 0} (P : Profile F) (s : OpeningState) (xs : List ℕ) → due s ≡ 0 →
    opened P s xs ≡ after_hello P s.hello s.unpacker xs
opened_whole P s xs none =
    ap (λ n. take n xs ++ after_hello P (s.hello ++ take n xs) s.unpacker (drop n xs)) none
    ∙ ap (λ (h : List ℕ). after_hello P h s.unpacker xs) (append-nil s.hello)

pub opened_other : {F : Type 0} (P : Profile F) (s : OpeningState) (xs : List ℕ) → due s ≡ 0 →
    bytes_eq s.hello P.hello ≡ false → opened P s xs ≡ xs
opened_other P s xs none other =
    opened_whole P s xs none ∙ ap (λ b. if b then frames_after P s.unpacker xs else xs) other

pub opened_compact : {F : Type 0} (P : Profile F) → length P.hello ≡ 4 → (s : OpeningState) (xs : List ℕ) →
    bytes_eq s.hello P.hello ≡ true → opened P s xs ≡ frames_after P s.unpacker xs
opened_compact P four s xs same =
    let is = (bytes_eq-Decides s.hello P.hello).0 same in
    let none : due s ≡ 0 = omega (arith, ap length is) in
    opened_whole P s xs none ∙ ap (λ b. if b then frames_after P s.unpacker xs else xs) same

-- all that has come was said
pub opened_none : {F : Type 0} (P : Profile F) (s : OpeningState) → frames_after P s.unpacker [] ≡ [] →
    opened P s [] ≡ []
opened_none P s rests = cases (due s) (s.hello) where
  after : (b : Bool) → (if b then frames_after P s.unpacker [] else []) ≡ []
  after true = rests
  after false = refl

  cases : (n : ℕ) (hello : List ℕ) →
      take n [] ++ after_hello P (hello ++ take n []) s.unpacker (drop n []) ≡ []
  cases zero hello = after (bytes_eq (hello ++ []) P.hello)
  cases (suc n) hello = after (bytes_eq (hello ++ []) P.hello)
