use Rattle.std.proofs.Common.{rules, ◌≡◌, ℕ, ◌+◌, ◌-◌, ◌<◌, ◌≤◌, true, false, List, length, get_or, take, drop}
use Rattle.std.proofs.Common.{◌∙◌, arith, bytes_eq, length-drop, get_or-drop}
use Rattle.std.proofs.lemmas.List.{drop_more, take_more}
use Rattle.http_core.specs.Upgrades.{has_word_from, is_between}
use Rattle.http_core.proofs.upgrades.has_word.Goals as goal
use Rattle.http_core.proofs.upgrades.has_word.Goals.{then-is_between+else-eq, else-is_between}

-- between two words a new one begins
at_end : (word piece text : List ℕ) (i : ℕ) → i < length text → is_between (get_or text i 0) ≡ true →
    bytes_eq piece word ≡ false → has_word_from word piece (drop i text)
    ≡ has_word_from word (take (i + 1 - (i + 1)) (drop (i + 1) text)) (drop (i + 1) text)
at_end word piece text i inside test other =
    let none : i + 1 - (i + 1) ≡ 0 = omega arith in rw (drop_more text i 0 inside, test, other, none)

-- any other byte goes on with the piece
in_piece : (word text : List ℕ) (start i : ℕ) → start ≤ i → i < length text → is_between (get_or text i 0) ≡ false →
    has_word_from word (take (i - start) (drop start text)) (drop i text)
    ≡ has_word_from word (take (i + 1 - start) (drop start text)) (drop (i + 1) text)
in_piece word text start i ordered inside test =
    let more : i + 1 - start ≡ i - start + 1 = omega arith in
    let back : start + (i - start) ≡ i = omega arith in
    rw (
      drop_more text i 0 inside,
      test,
      more,
      take_more (drop start text) (i - start) 0 (omega (arith, length-drop start text)),
      get_or-drop,
      back,
    )

pub loop-at-preserved : goal.loop-at-preserved
loop-at-preserved c =
    elim c.if-is_between.branch [
      | then-is_between+else-eq w ↦
          let test : is_between (get_or c.args.text.now c.loop-at.at 0) ≡ true = search rules in
          rw w.start-is (
            omega arith,
            c.loop-at.invariant.1
                ∙ at_end _ _ c.args.text.now c.loop-at.at (omega arith) test (search rules),
          )
      | else-is_between w ↦
          let test : is_between (get_or c.args.text.now c.loop-at.at 0) ≡ false = search rules in
          rw w.start-is (
            omega arith,
            c.loop-at.invariant.1
                ∙ in_piece _ c.args.text.now c.loop-at.start c.loop-at.at c.loop-at.invariant.0 (omega arith) test,
          )
    ]
