use Rattle.std.proofs.Common.{◌≡◌, ◌+◌, ◌-◌, ◌*◌, ◌%◌, ◌≤◌, suc, rules, arith, sym, ◌∙◌, ap}
use Rattle.definitions.specs.CompactReading.{digits_from}
use Rattle.compact_core.proofs.Readings.{digits_more}
use Rattle.compact_core.proofs.bytes.take_digits.Goals as goal

pub digits-preserved : goal.digits-preserved
digits-preserved c =
    let byte = c.from-byte.result in
    let places : 4 - c.digits.counter ≡ suc (4 - (c.digits.counter + 1)) = omega arith in
    let large : 128 ≤ byte = omega arith in
    let one = digits_more (4 - (c.digits.counter + 1)) c.digits.number c.digits.bytes.now c.take_byte.new.bytes.now byte
    (search rules) large in
    record {
      so_far = sym one ∙ ap (λ n. digits_from n c.digits.number c.digits.bytes.now) (sym places)
          ∙ c.digits.invariant.so_far;
      none = search rules;
      one = search rules;
      two = search rules;
      three = search rules;
      shorter = search rules;
    }
