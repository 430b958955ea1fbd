use Rattle.std.proofs.Common.{rules}
use Rattle.settings_core.proofs.Hosts.{host_none, host_some}
use Rattle.settings_core.proofs.addresses.host_of.Goals as goal

pub returns-in_err-host : goal.returns-in_err-host
returns-in_err-host c = let none = host_none c.args.address.now c.in_err-host.ensures.cases in search (rules, none)

pub returns : goal.returns
returns c =
    let split = c.in_ok-host.ensures.cases in
    host_some c.args.address.now split.0 split.1 c.in_ok-host.host.now split.2 split.3
