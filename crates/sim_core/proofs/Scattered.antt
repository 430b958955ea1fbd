-- The items of numbers: sixteen words after one another, and a first word that no other number has.
use Rattle.std.proofs.Common.{◌≡◌, ◌≢◌, ℕ, suc, ◌+◌, ◌*◌, ◌-◌, ◌<◌, ◌≤◌, ◌∙◌, List, [], ◌∷◌, ◌++◌, length, take, drop}
use Rattle.std.proofs.Common.{◌^◌, refl, sym, ap, subst, arith, append_assoc, length-append}
use Rattle.std.specs.Int.{w32, to_be_bytes}
use Rattle.std.proofs.lemmas.List.{take_at, length-take-le, length-drop}
use Rattle.sim_core.specs.Samples.{first_word, words_to, word_at, later_word, word_after, items_from, item_text}
use Rattle.definitions.specs.Items.{Item}

pub word-put : (old new word all : List ℕ) (place : ℕ) → place < 16 → length old ≡ 64 → length word ≡ 4 →
    new ≡ take (4 * place) old ++ (word ++ drop (4 * place + 4) old) → take (4 * place) old ≡ all →
    (take (4 * (place + 1)) new ≡ all ++ word) × (length new ≡ 64)
word-put old new word all place few long four is same =
    let front : length (take (4 * place) old) ≡ 4 * place = length-take-le (4 * place) old (omega arith) in
    let more : length (take (4 * place) old ++ word) ≡ 4 * (place + 1) =
    omega (arith, length-append (take (4 * place) old) word, front, four) in
    let back : length (drop (4 * place + 4) old) ≡ 60 - 4 * place = omega (arith, length-drop (4 * place + 4) old) in
    let all_of : length new ≡ 64 = ap length is
    ∙ omega (
      arith,
      length-append (take (4 * place) old) (word ++ drop (4 * place + 4) old),
      length-append word (drop (4 * place + 4) old),
      front,
      back,
      four,
    ) in (
      ap (λ l. take (4 * (place + 1)) l) (is
          ∙ sym (append_assoc (take (4 * place) old) word (drop (4 * place + 4) old)))
          ∙ take_at (take (4 * place) old ++ word) (drop (4 * place + 4) old) (4 * (place + 1)) more
          ∙ ap (λ l. l ++ word) same,
      all_of,
    )

pub first-word-own : (n m : ℕ) → n < 2 ^ 32 → m < 2 ^ 32 → first_word n ≡ first_word m → n ≡ m
first-word-own n m few few2 same = omega arith

one-more : (k : ℕ) → suc k ≡ k + 1
one-more k = omega arith

pub words-more : (n place word : ℕ) (bytes all : List ℕ) → bytes ≡ all ++ to_be_bytes w32 word →
    all ≡ words_to n place →
    word ≡ word_at n place → bytes ≡ words_to n (place + 1)
words-more n place word bytes all is same at = is ∙ ap (λ k. all ++ to_be_bytes w32 k) at
    ∙ ap (λ l. l ++ to_be_bytes w32 (word_at n place)) same ∙ ap (λ k. words_to n k) (one-more place)

pub word-next : (n place word : ℕ) → word ≡ later_word n place → word ≡ word_at n (place + 1)
word-next n place word is = is ∙ ap (λ k. word_at n k) (one-more place)

pub later-next : (n place word more : ℕ) → word ≡ later_word n place → more ≡ word_after n word →
    more ≡ later_word n (place + 1)
later-next n place word more is after = after ∙ ap (λ k. word_after n k) is ∙ ap (λ k. later_word n k) (one-more place)

-- one item more
pub items-more : (size first number : ℕ) (old new : List Item) (x : Item) → first ≤ number →
    old ≡ items_from size first (number - first) → new ≡ old ++ x ∷ [] → x ≡ item_text size number →
    new ≡ items_from size first (number + 1 - first)
items-more size first number old new x order is same it =
    let place : number ≡ first + (number - first) = omega (arith, order) in
    let more : suc (number - first) ≡ number + 1 - first = omega (arith, order) in
    same ∙ ap (λ l. l ++ x ∷ []) is
    ∙ ap (λ y. items_from size first (number - first) ++ y ∷ []) (it ∙ ap (λ k. item_text size k) place)
    ∙ ap (λ k. items_from size first k) more

pub items-none : (size first : ℕ) → [] ≡ items_from size first (first - first)
items-none size first =
    let none : 0 ≡ first - first = omega arith in
    ap (λ k. items_from size first k) none
