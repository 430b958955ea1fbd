use Rattle.std.proofs.Common.{arith, ◌∙◌}
use Rattle.std.proofs.lemmas.Grind.{common_steps}
use Rattle.io_core.proofs.Streams.{appends_more, took_some}
use Rattle.io_core.proofs.output.write_output.Goals as goal

pub sent-preserved : goal.sent-preserved
sent-preserved g c = record {
  within = grind (arith, common_steps);
  front = appends_more _ _ _ c.args.bytes.now c.sent.written c.in-Ok.count c.sent.invariant.front c.in-Ok.ensures.bytes;
  fine = c.in-Ok.ensures.failed ∙ took_some c.sent.writer.failed c.in-Ok.count _ c.sent.invariant.fine (omega arith);
}
