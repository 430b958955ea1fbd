-- A piece begins where the one before it ended, and ends no sooner than it begins. So what stands before its end is
-- what stands before its start, of which the loop keeps the sum, and then the piece itself.
use Rattle.std.proofs.Common.{◌≡◌, ◌∙◌, ◌+◌, ◌<◌, ◌≤◌, ◌∷◌, ◌++◌, [], suc, length, map, get_or, sym, ap, subst}
use Rattle.std.proofs.Common.{arith, rules}
use Rattle.std.proofs.lemmas.List.{get_or-map, length-map}
use Rattle.definitions.specs.Messages.{Sum}
use Rattle.definitions.specs.Replies.{sum_of}
use Rattle.definitions.specs.Sets.{items_in}
use Rattle.store_core.specs.Stores.{span}
use Rattle.ends_core.proofs.Pieces.{length-pieces, piece_is, piece_order, map_goes_on}
use Rattle.ends_core.proofs.replying.push_sums.Goals as goal

pub loop-piece-preserved : goal.loop-piece-preserved
loop-piece-preserved g c =
    let A = g.S.RangeStore.content c.args.store.now in
    let S = g.F.WireSummary.summary in
    let at = c.args.at in
    let ps = c.args.places.now in
    let ranges = c.args.ranges.now in
    let i = c.loop-piece.piece in
    let from = c.loop-piece.from in
    let end = c.end_of-to.result in
    let range = c.index-ranges-piece.result in
    let low : i < length ranges = search rules in
    let pushed : c.push.new.self.items ≡ c.loop-piece.parts.items ++ c.sum.result ∷ [] = search rules in
    let count : length ranges ≡ suc (length ps) = sym (length-map ranges (items_in A)) ∙ ap length c.requires.pieces
    ∙ length-pieces (span at.from at.to A) 0 ps in
    let inside : i ≤ length ps = omega (arith, low, count) in
    let read : range ≡ get_or ranges i range = c.index-ranges-piece.is in
    let begins : from ≡ at.from + get_or (0 ∷ ps) i 0 = c.loop-piece.invariant.begins inside in
    let ordered : (at.from + get_or (0 ∷ ps) i 0 ≤ end) × (end ≤ at.to) = piece_order at.from at.to ps i end
    c.requires.order c.requires.within c.requires.rise inside c.end_of-to.ensures.inner c.end_of-to.ensures.last in
    let order : from ≤ end = subst (λ n. n ≤ end) (sym begins) ordered.0 in
    let within : end ≤ length A = omega (arith, ordered.1, c.requires.end) in
    let own : items_in A range ≡ span from end A = ap (items_in A) read
    ∙ sym (get_or-map (items_in A) ranges i range [] low) ∙ ap (λ zs. get_or zs i []) c.requires.pieces
    ∙ piece_is A at.from at.to ps i end c.requires.within inside c.end_of-to.ensures.inner c.end_of-to.ensures.last
    ∙ ap (λ n. span n end A) (sym begins) in
    let sum = c.sum_between.ensures A order within c.loop-piece.invariant.front c.sum_before-next.ensures in
    let value : c.sum.result ≡ sum_of S A range = c.sum.ensures ∙ ap (λ f. Sum range f) (sum ∙ ap S.of (sym own)) in
    let next : i + 1 ≡ suc i = omega arith in
    record {
      said = map_goes_on (sum_of S A) ranges i range c.sum.result c.args.parts.now.items c.loop-piece.parts.items
          c.push.new.self.items low (value ∙ ap (sum_of S A) read) pushed c.loop-piece.invariant.said;
      begins = λ more. rw next (c.end_of-to.ensures.inner (omega (arith, more)));
      front = c.sum_before-next.ensures;
    }
