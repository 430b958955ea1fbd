use Rattle.std.proofs.Common.{◌≡◌, length, inr, ap, arith, rules}
use Rattle.std.proofs.lemmas.List.{length-append}
use Rattle.io_core.specs.declared.read_fault.ReadFault.TheVariants as faults
use Rattle.io_core.proofs.Streams.{consumes_nothing, read_on}
use Rattle.io_core.proofs.input.read_input.Goals as goal

pub chunks-init : goal.chunks-init
chunks-init g c = record {
  read = rw c.new-input.ensures.items (consumes_nothing (g.R.Read.remaining c.args.reader.now.inner));
  short = rw c.new-input.ensures.items (omega arith);
  fine = c.requires;
  room = omega (arith, c.in_ok-chunk.ensures);
}

pub returns-then-len-gt-MAX_INPUT-clause-unread : goal.returns-then-len-gt-MAX_INPUT-clause-unread
returns-then-len-gt-MAX_INPUT-clause-unread g c =
    λ f is. inr (
      (let same : f ≡ faults.TooLong = cc in same),
      (
        c.read_more.new.input.items,
        read_on (g.R.Read.remaining c.args.reader.now.inner) (g.R.Read.remaining c.chunks.reader.inner)
            (g.R.Read.remaining c.read_more.new.reader.inner) c.chunks.input.items c.read_more.new.input.items
            _ c.chunks.invariant.read c.in_ok-read_more.ensures.more,
        (let n : c.len.result ≡ length c.read_more.new.input.items = search rules in omega arith),
      ),
    )

pub chunks-preserved : goal.chunks-preserved
chunks-preserved g c =
    record {
      read = read_on (g.R.Read.remaining c.args.reader.now.inner) (g.R.Read.remaining c.chunks.reader.inner)
          (g.R.Read.remaining c.read_more.new.reader.inner) c.chunks.input.items c.read_more.new.input.items
          _ c.chunks.invariant.read c.in_ok-read_more.ensures.more;
      short = let n : c.len.result ≡ length c.read_more.new.input.items = search rules in omega arith;
      fine = c.in_ok-read_more.ensures.fine;
      room = c.chunks.invariant.room;
    }

pub returns-clause-input : goal.returns-clause-input
returns-clause-input g c =
    let more = c.in_ok-read_more.ensures.more in
    record {
      read = read_on (g.R.Read.remaining c.args.reader.now.inner) (g.R.Read.remaining c.chunks.reader.inner)
          (g.R.Read.remaining c.read_more.new.reader.inner) c.chunks.input.items c.read_more.new.input.items
          _ c.chunks.invariant.read c.in_ok-read_more.ensures.more;
      whole = more.whole (omega arith);
      short = let n = ap length more.follows in let short = c.chunks.invariant.short in let count = more.count in
          omega (arith, length-append c.chunks.input.items more.front);
      fine = c.in_ok-read_more.ensures.fine;
    }
