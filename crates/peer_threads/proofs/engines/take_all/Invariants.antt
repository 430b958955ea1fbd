use Rattle.std.proofs.Common.{◌≡◌, map, take}
use Rattle.std.specs.Prelude.{fold}
use Rattle.definitions.specs.Hearing.{Goes_on, hear}
use Rattle.definitions.specs.Wire.{Came}
use Rattle.peer_threads.specs.Underway.{heard_as, most_sent}
use Rattle.peer_threads.proofs.engines.take_all.Given as goal

-- the parts in front of this one were heard
abbrev pub invariant-loop-part : goal.invariant-loop-part
invariant-loop-part g l = record {
  heard : heard_as l.party
      ≡ fold (hear g.F.WireSummary.summary) (Goes_on l.fn.party.end l.fn.party.taken) (map Came (take l.part-index
      l.parts));
  end : l.party.end ≡ l.fn.party.end;
  most : most_sent g.F.WireSummary.summary g.P.Role.side l.party
      ≡ most_sent g.F.WireSummary.summary g.P.Role.side l.fn.party;
}
