use Rattle.std.proofs.Common.{◌≡◌, ◌∙◌, Some, false, ap, sym, subst}
use Rattle.std.specs.Prelude.{chars}
use Rattle.std.specs.Char.{is_control}
use Rattle.std.specs.List.{list_any}
use Rattle.printing_core.proofs.Plain.{nothing_plain, all_plain}
use Rattle.printing_core.proofs.item_text.plain_text.Goals as goal

pub returns-in_default : goal.returns-in_default
returns-in_default c = nothing_plain c.args.bytes.now c.in_default.ensures.cases.0

pub returns : goal.returns
returns c =
    let same = c.in-Ok.ensures.cases.0 in
    ap Some same ∙ all_plain c.args.bytes.now c.in-Ok.ensures.cases.1
    (subst (λ x. list_any is_control (chars x) ≡ false) same (sym c.has_control.ensures ∙ c.if-has_control.false))
    (sym c.is_marked.ensures ∙ c.if-is_marked.false)
    (sym c.has_byte_order_mark.ensures ∙ c.if-has_byte_order_mark.false)
