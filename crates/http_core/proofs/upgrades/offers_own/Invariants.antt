use Rattle.std.proofs.Common.{◌≡◌, drop, map}
use Rattle.std.specs.List.{list_any}
use Rattle.httparse.specs.Spans.{header_bytes}
use Rattle.http_core.specs.Upgrades.{is_own_offer}
use Rattle.http_core.proofs.upgrades.offers_own.Given as goal

-- what the rest has, all have
abbrev pub invariant-loop-field : goal.invariant-loop-field
invariant-loop-field l =
    list_any is_own_offer (map (header_bytes l.came) (drop l.field-index l.fields))
    ≡ list_any is_own_offer (map (header_bytes l.came) l.fields)
