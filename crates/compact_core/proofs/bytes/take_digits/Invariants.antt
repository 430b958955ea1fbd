use Rattle.std.proofs.Common.{◌≡◌, ◌<◌, ◌≤◌, ◌-◌, length}
use Rattle.definitions.specs.CompactReading.{digits_from}
use Rattle.compact_core.proofs.bytes.take_digits.Given as goal

-- the digits that are still to be read make the number, which is small so far
abbrev pub invariant-digits : goal.invariant-digits
invariant-digits l = record {
  so_far : digits_from (4 - l.counter) l.number l.bytes.now ≡ digits_from 4 0 l.initial.bytes.now;
  none : l.counter ≡ 0 → l.number ≡ 0;
  one : l.counter ≡ 1 → l.number < 128;
  two : l.counter ≡ 2 → l.number < 16384;
  three : l.counter ≡ 3 → l.number < 2097152;
  shorter : length l.bytes.now ≤ length l.initial.bytes.now;
}
