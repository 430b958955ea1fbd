use Rattle.std.proofs.Common.{rules, refl, sym, ◌≡◌, false, Option, Some, None}
use Rattle.std.specs.Prelude.{is_none}
use Rattle.settings_core.specs.Spans.{IsAnyGiven}
use Rattle.settings_core.proofs.given_words.serve_in.Goals as goal
use Rattle.settings_core.proofs.given_words.serve_in.Goals.{else-is_none-via-then-is_none+else-is_none-2}
use Rattle.settings_core.proofs.given_words.serve_in.Goals.{else-is_none-via-else-is_none}

first : {X Y : Type 0} (x : Option X) (y : Option Y) → is_none x ≡ false → IsAnyGiven x y
first None y e = absurd (search (rules, e))
first (Some x) y e = tt

second : {X Y : Type 0} (x : Option X) (y : Option Y) → is_none y ≡ false → IsAnyGiven x y
second None None e = absurd (search (rules, e))
second None (Some y) e = tt
second (Some x) y e = tt

-- each value by itself: all at once are too many for one search
pub returns : goal.returns
returns c = (
  refl,
  (
    sym c.in_ok-text_in.ensures,
    sym c.in_ok-text_in-2.ensures,
    c.flag_in.ensures,
    c.text_in-3.ensures,
    c.in_ok-number_in.ensures.0,
    c.text_in-4.ensures,
    c.in_ok-workers_in.ensures.0,
    c.in_ok-number_in-2.ensures.0,
    c.in_ok-default_in.ensures.0,
    c.in_ok-default_in-2.ensures.0,
    c.in_ok-number_in-3.ensures.0,
    c.in_ok-number_in-4.ensures.0,
    c.in_ok-number_in-5.ensures.0,
    c.in_ok-number_in-6.ensures.0,
    c.text_in-5.ensures,
    c.text_in-6.ensures,
    c.text_in-keep.ensures,
    c.flag_in-2.ensures,
    c.in_ok-most_learned_in.ensures.0,
    c.flag_in-3.ensures,
    c.in_ok-report_items_in.ensures.0,
    c.text_in-7.ensures,
    c.text_in-8.ensures,
    c.text_in-9.ensures,
    c.text_in-10.ensures,
    c.text_in-11.ensures,
    c.text_in-12.ensures,
    c.text_in-13.ensures,
    c.in_ok-number_in-7.ensures.0,
    c.text_in-14.ensures,
    c.flag_in-4.ensures,
    c.form_or_hash_in.ensures,
    c.text_in-items.ensures,
  ),
  (
    c.in_ok-number_in.ensures.1,
    c.in_ok-workers_in.ensures.1,
    c.in_ok-number_in-2.ensures.1,
    c.in_ok-default_in.ensures.1,
    c.in_ok-default_in-2.ensures.1,
    c.in_ok-number_in-3.ensures.1,
    c.in_ok-number_in-4.ensures.1,
    c.in_ok-number_in-5.ensures.1,
    c.in_ok-number_in-6.ensures.1,
    c.in_ok-most_learned_in.ensures.1,
    c.in_ok-report_items_in.ensures.1,
    c.in_ok-number_in-7.ensures.1,
    elim c.else-is_none.branch [
      | else-is_none-via-then-is_none+else-is_none-2 w ↦
          second c.text_in-keep.result c.text_in-items.result
          (search (rules, w.if-is_none-2, w.is_none-then-is_none.ensures))
      | else-is_none-via-else-is_none w ↦
          first c.text_in-keep.result c.text_in-items.result (search (rules, w.if-is_none, c.is_none.ensures))
    ],
  ),
)
