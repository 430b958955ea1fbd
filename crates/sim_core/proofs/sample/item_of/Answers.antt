use Rattle.std.proofs.Common.{◌≡◌, ◌≤◌, ◌*◌, ◌+◌, ◌∙◌, refl, rules, length, take, ap, arith, sym, subst}
use Rattle.std.specs.Int.{w32, to_be_bytes}
use Rattle.std.proofs.Math.Seq.{take-length}
use Rattle.sim_core.specs.Samples.{words_to}
use Rattle.sim_core.proofs.Scattered.{word-put, words-more, word-next, later-next}
use Rattle.sim_core.proofs.sample.item_of.Goals as goal

pub loop-place-preserved : goal.loop-place-preserved
loop-place-preserved c =
    let place = c.loop-place.place in
    let n = c.args.number in
    let put = word-put c.loop-place.bytes c.put_word.new.bytes (to_be_bytes w32 c.loop-place.word)
    (take (4 * place) c.loop-place.bytes) place c.loop-place-test.true c.loop-place.invariant.size refl
    c.put_word.ensures refl in
    let word = word-next n place c.loop-place.next c.loop-place.invariant.next in
    let next = later-next n place c.loop-place.next c.word_after-next.result c.loop-place.invariant.next
    c.word_after-next.ensures in
    record {
      so_far = words-more n place c.loop-place.word (take (4 * (place + 1)) c.put_word.new.bytes)
          (take (4 * place) c.loop-place.bytes) put.0 c.loop-place.invariant.so_far c.loop-place.invariant.word;
      size = put.1;
      word = search (rules, word);
      next = search (rules, next);
    }

pub returns : goal.returns
returns c =
    let place = c.loop-place.place in
    let n = c.args.number in
    let bytes = c.loop-place.bytes in
    let end : place ≡ 16 = omega (arith, c.loop-place-test.false, c.loop-place.auto.place-end) in
    let size : length bytes ≡ 4 * place = omega (arith, c.loop-place.invariant.size, end) in
    let all : bytes ≡ words_to n 16 = sym (take-length bytes) ∙ ap (λ k. take k bytes) size
    ∙ c.loop-place.invariant.so_far ∙ ap (λ k. words_to n k) end in
    c.of.ensures ∙ ap (λ l. take c.args.size l) all
