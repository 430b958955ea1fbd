use Rattle.std.proofs.Common.{arith, rules, refl, sym, ◌∙◌, ap, ◌≡◌, ◌+◌, ◌-◌}
use Rattle.std.proofs.Common.{◌++◌, ◌∷◌, [], ℕ, List, length, take, drop, min}
use Rattle.std.proofs.Common.{Some, None, slice_get}
use Rattle.std.proofs.lemmas.List.{take_more, take_all, length-drop, length_push}
use Rattle.std.proofs.lemmas.Option.{get_or_from_slice_get, slice_get_within}
use Rattle.circular_buffer.proofs.Places.{slice_get-some, slice_get-drop}
use Rattle.http_core.proofs.arrivals.Arrivals.from_place.Goals as goal

none_some : {X : Type 0} {x : X} → None ≡ Some x → ⊥
none_some e = search (rules, e)

-- one more
step : {X : Type 0} (xs held : List X) (place later : ℕ) (x : X) (pushed : List X) →
    slice_get xs (place + later) ≡ Some x → held ≡ take later (drop place xs) → length held ≡ later →
    pushed ≡ held ++ x ∷ [] →
    (pushed ≡ take (later + 1) (drop place xs)) × (length pushed ≡ later + 1)
step xs held place later x pushed at taken all is =
    let got : slice_get (drop place xs) later ≡ Some x = slice_get-drop place xs later (place + later) refl ∙ at in
    let more = take_more (drop place xs) later x (slice_get_within (drop place xs) later x got)
    ∙ ap (λ y. take later (drop place xs) ++ y ∷ []) (get_or_from_slice_get (drop place xs) later x x got) in
    (is ∙ ap (λ ys. ys ++ x ∷ []) taken ∙ sym more, ap length is ∙ length_push held x ∙ ap (λ n. n + 1) all)

few_of : {X : Type 0} (ys : List X) (most n : ℕ) → length ys ≡ n → take (min most n) ys ≡ take most ys
few_of ys most n is = grind (arith, is, take_all)

-- as many as there are, if there are no more
few : {X : Type 0} (xs : List X) (place most : ℕ) →
    take (min most (length xs - place)) (drop place xs) ≡ take most (drop place xs)
few xs place most = few_of (drop place xs) most (length xs - place) (length-drop place xs)

pub returns-in_default : goal.returns-in_default
returns-in_default c =
    let n = c.len.ensures.len in
    let m = c.min-count.ensures in
    let t = c.loop-later-test.true in
    let xs = c.args.self.now.items.items in
    let there = slice_get-some xs (c.args.place + c.loop-later.later) (omega (arith, n, m, t)) in
    absurd (none_some (c.in_default.ensures ∙ there.1))

pub loop-later-preserved : goal.loop-later-preserved
loop-later-preserved c =
    let xs = c.args.self.now.items.items in
    let got = step xs c.loop-later.items.items c.args.place c.loop-later.later c.in-Some.item.now
    c.push.new.self.items (sym c.in-Some.ensures) c.loop-later.invariant.taken c.loop-later.invariant.all
    c.in_ok-push.ensures.items in
    record { taken = got.0; all = got.1 }

pub returns : goal.returns
returns c =
    let xs = c.args.self.now.items.items in
    let all : c.loop-later.later ≡ min c.args.most (length xs - c.args.place)
    = omega (arith, c.len.ensures.len, c.min-count.ensures, c.loop-later-test.false, c.loop-later.auto.later-end) in
    c.loop-later.invariant.taken ∙ (ap (λ n. take n (drop c.args.place xs)) all ∙ few xs c.args.place c.args.most)
