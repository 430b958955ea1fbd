-- What is read and written in turns.
use Rattle.std.proofs.Common.{◌≡◌, Bool, false, zero, suc, ◌<◌, arith, rules, List, [], ◌++◌, ℕ, ◌+◌, ◌-◌, length, take}
use Rattle.std.proofs.Common.{drop, Option, Some, None, refl, sym, ap, subst, ◌∙◌, append_assoc}
use Rattle.std.specs.Prelude.{◌||◌, ◌&&◌, ◌==◌}
use Rattle.std.specs.Io.KnownBytes.{Consumes, Appends}
use Rattle.std.proofs.Math.Seq.{take-add}
use Rattle.std.proofs.lemmas.List.{take_rest}
use Rattle.io_core.specs.Inputs.{ReadsMore}

-- nothing was read
pub consumes_nothing : (a : Option (List ℕ)) → Consumes a a []
consumes_nothing None = tt
consumes_nothing (Some xs) = refl

-- first xs was read, and then ys
pub consumes_more : (a b c : Option (List ℕ)) (xs ys : List ℕ) → Consumes a b xs → Consumes b c ys →
    Consumes a c (xs ++ ys)
consumes_more None b c xs ys p q = tt
consumes_more (Some a) None c xs ys p q = absurd p
consumes_more (Some a) (Some b) None xs ys p q = absurd q
consumes_more (Some a) (Some b) (Some c) xs ys p q = p ∙ ap (λ (l : List ℕ). xs ++ l) q ∙ sym (append_assoc xs ys c)

-- .. by one read
pub read_on : (a b c : Option (List ℕ)) (before after : List ℕ) (n : ℕ) → Consumes a b before →
    ReadsMore b c before after n → Consumes a c after
read_on a b c before after n p more =
    subst (Consumes a c) (sym more.follows) (consumes_more a b c before more.front p more.read)

-- two appends, of the first i bytes and of the n after them, are one of i + n
pub appends_more : (a b c : Option (List ℕ)) (bs : List ℕ) (i n : ℕ) → Appends a b (take i bs) →
    Appends b c (take n (take (length bs - i) (drop i bs))) → Appends a c (take (i + n) bs)
appends_more None b c bs i n p q = tt
appends_more (Some a) None c bs i n p q = absurd p
appends_more (Some a) (Some b) None bs i n p q = absurd q
appends_more (Some a) (Some b) (Some c) bs i n p q =
    let r = rw take_rest at q in
    r ∙ (ap (λ (x : List ℕ). x ++ take n (drop i bs)) p
    ∙ (append_assoc a (take i bs) (take n (drop i bs)) ∙ ap (λ (x : List ℕ). a ++ x) (sym (take-add i n bs))))

-- a write that took some bytes did not fail
pub took_some : (failed : Bool) (n : ℕ) (room : Bool) → failed ≡ false → 0 < n → (failed || (n == 0 && room)) ≡ false
took_some failed zero room fine some = absurd (omega arith)
took_some failed (suc n) room fine some = let none : (suc n == 0) ≡ false = search rules in
    λ i. fine i || (none i && room)
