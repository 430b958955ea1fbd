use Rattle.std.proofs.Common.{rules, Ok, ap, ◌∙◌}
use Rattle.wire_core.specs.Bodies.{fields_event}
use Rattle.wire_core.proofs.Read.{part_read}
use Rattle.wire_core.proofs.reading.part_in.Goals as goal

pub of_fields-requires : goal.of_fields-requires
of_fields-requires g c =
    part_read g.F.WireSummary.profile (c.body_is_exact.ensures g.F.WireSummary.profile g.met.F.WireSummary.real)
    c.args.body.now ((c.reads_are_bytes.ensures c.args.body.now).1 (search rules)) c.requires _
    (c.in_ok-fields.ensures ∙ ap (λ o. Ok (fields_event o)) c.in-Some.is)
