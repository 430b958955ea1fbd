use Rattle.std.proofs.Common.{◌+◌, ◌-◌, ◌*◌, ◌<◌, ◌∙◌, rules, arith, drop}
use Rattle.range_tree.specs.Heads.{number_from}
use Rattle.range_tree.proofs.Numbers.{head_more, fits_more, fits_64}
use Rattle.range_tree.proofs.heads.head_of.Goals as goal

pub overflow_mul-number : goal.overflow_mul-number
overflow_mul-number c =
    let k = c.loop-place.place in
    let low : k < 8 = search rules in
    let fits = fits_64 c.loop-place.number k 0 low c.loop-place.invariant.fits (omega arith) in
    let first = fits.0 in
    search (rules, first)

pub overflow_add-number : goal.overflow_add-number
overflow_add-number c =
    let k = c.loop-place.place in
    let low : k < 8 = search rules in
    let byte : c.byte_at.result < 256 = search rules in
    let fits = fits_64 c.loop-place.number k c.byte_at.result low c.loop-place.invariant.fits byte in
    let second = fits.1 in
    search (rules, second)

pub loop-place-preserved : goal.loop-place-preserved
loop-place-preserved c =
    let k = c.loop-place.place in
    let s = c.loop-place.number in
    let x = c.bytes-bytes.result.now in
    let low : k < 8 = search rules in
    let byte : c.byte_at.result < 256 = search rules in
    record {
      number = (λ j. number_from (8 - (k + 1)) (s * 256 + c.byte_at.ensures j) (drop (k + 1) x))
          ∙ head_more s k x low ∙ c.loop-place.invariant.number;
      fits = fits_more s k c.byte_at.result c.loop-place.invariant.fits byte;
    }
