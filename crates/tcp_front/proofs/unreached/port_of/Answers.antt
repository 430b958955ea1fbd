use Rattle.std.proofs.Common.{rules}
use Rattle.tcp_front.proofs.Ports.{port_none, port_some}
use Rattle.tcp_front.proofs.unreached.port_of.Goals as goal

pub returns-in_err-_host : goal.returns-in_err-_host
returns-in_err-_host c = let none = port_none c.args.address.now c.in_err-_host.ensures.cases in search (rules, none)

pub returns : goal.returns
returns c =
    let split = c.in_ok-_host.ensures.cases in
    port_some c.args.address.now split.0 split.1 c.in_ok-_host.port.now split.2 split.4
