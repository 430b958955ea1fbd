use Rattle.std.proofs.Common.{arith, refl, subst, get_or, []}
use Rattle.std.proofs.lemmas.List.{drop_all}
use Rattle.version_log.specs.Arrivals.{before}
use Rattle.version_log.proofs.Arrivals.{StandsAt, stands_on, moved_little}
use Rattle.version_log.proofs.arrival.place_after.Goals as goal

pub moved_by-place-requires : goal.moved_by-place-requires
moved_by-place-requires c = omega (arith, c.loop-arrival.invariant.fits, c.loop-arrival-test.true, c.requires)

pub loop-arrival-init : goal.loop-arrival-init
loop-arrival-init c = record {
  fits = omega arith;
  there = λ A come low. record { low = low; there = refl };
}

pub loop-arrival-preserved : goal.loop-arrival-preserved
loop-arrival-preserved c =
    let moved = c.moved_by-place.ensures.moved in
    let stayed = c.moved_by-place.ensures.stayed in
    record {
      fits = omega (arith, c.loop-arrival.invariant.fits, moved_little _ _ _ moved stayed);
      there = λ A come low. stands_on c.args.arrivals.now c.loop-arrival.arrival-index
          (record { writer = 0; place = 0 }) c.loop-arrival.place c.moved_by-place.result c.loop-arrival-test.true
          moved stayed A come _ (c.loop-arrival.invariant.there A come low);
    }

pub returns : goal.returns
returns c A come low =
    let first = get_or (before c.args.arrivals.now A) c.args.place [] in
    let at = subst (λ ls. StandsAt (before ls A) c.loop-arrival.place first)
    (drop_all _ c.args.arrivals.now c.loop-arrival-test.false) (c.loop-arrival.invariant.there A come low) in
    (at.low, at.there)
