use Rattle.std.proofs.Common.{ap, sym, ◌∙◌, arith, length, List, subst}
use Rattle.definitions.specs.Strategies.{Row, Table, List_items, act}
use Rattle.strategy_core.proofs.Rows.{found_row, row_is_there, EndBefore}
use Rattle.strategy_core.proofs.strategy.Strategy.row_of.Goals as goal

pub index-requires : goal.index-requires
index-requires c =
    let parted =
    subst (λ (rows : List Row). EndBefore c.args.n rows c.place.result) c.deref.ensures.value c.place.ensures.parted in
    let within = ap (λ (T : Table). T.cap) c.self.view_is in
    let there = row_is_there _ c.args.n c.place.result (record { upto = 0; act = List_items }) c.self.invariant
    (omega arith) parted in
    omega (arith, c.deref.ensures.len, ap length c.deref.ensures.value)

pub returns-clause-row : goal.returns-clause-row
returns-clause-row c =
    let parted =
    subst (λ (rows : List Row). EndBefore c.args.n rows c.place.result) c.deref.ensures.value c.place.ensures.parted in
    let within = ap (λ (T : Table). T.cap) c.self.view_is in
    let there = row_is_there _ c.args.n c.place.result c.index.result.now c.self.invariant (omega arith) parted in
    let found = found_row c.self.inside.rows.items c.args.n c.place.result c.index.result.now parted there in
    ap (λ (row : Row). row.act) c.index.ensures ∙ sym found ∙ ap (λ (T : Table). act T c.args.n) c.self.view_is
