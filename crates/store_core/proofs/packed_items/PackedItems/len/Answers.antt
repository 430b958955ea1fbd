use Rattle.std.proofs.Common.{rules, ◌≡◌, ◌∙◌, sym, ap, length}
use Rattle.store_core.proofs.Packs.{length_pieces}
use Rattle.store_core.proofs.packed_items.PackedItems.len.Goals as goal

pub returns : goal.returns
returns c =
    let p = c.self.inside in
    let own : c.len.result ≡ length p.ends.items = search rules in
    own ∙ sym (length_pieces 0 p.ends.items p.bytes.items) ∙ ap length c.self.view_is
