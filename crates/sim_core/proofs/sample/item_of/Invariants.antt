use Rattle.std.proofs.Common.{◌≡◌, ◌*◌, take, length}
use Rattle.sim_core.specs.Samples.{words_to, word_at, later_word}
use Rattle.sim_core.proofs.sample.item_of.Given as goal

abbrev pub invariant-loop-place : goal.invariant-loop-place
invariant-loop-place l = record {
  so_far : take (4 * l.place) l.bytes ≡ words_to l.number l.place;
  size : length l.bytes ≡ 64;
  word : l.word ≡ word_at l.number l.place;
  next : l.next ≡ later_word l.number l.place;
}
