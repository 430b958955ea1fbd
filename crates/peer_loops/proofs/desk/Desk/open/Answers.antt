use Rattle.std.proofs.Common.{rules, ◌≡◌, ◌∙◌, length, OnOk, Some, ℕ, subst}
use Rattle.slab.specs.Slab.{get}
use Rattle.hub_core.specs.Peers.{version_after}
use Rattle.peer_loops.proofs.desk.Desk.open.Goals as goal

-- the version is that of the pin, which is how many entries the seat has seen
pub returns-clause-version : goal.returns-clause-version
returns-clause-version g c =
    let noted : OnOk c.unwrap_or.result ((p q : _) → get c.args.hub.now.peers c.args.key ≡ Some p →
    get c.open.new.self.peers c.args.key ≡ Some q →
    q.version ≡ version_after p.phase p.version c.version-version.result) = search rules in
    subst (λ (n : ℕ). OnOk c.unwrap_or.result ((p q : _) → get c.args.hub.now.peers c.args.key ≡ Some p →
    get c.open.new.self.peers c.args.key ≡ Some q → q.version ≡ version_after p.phase p.version n))
    (c.version-version.ensures ∙ c.in_ok-pin.ensures.version) noted
