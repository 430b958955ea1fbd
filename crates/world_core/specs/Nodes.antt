-- Nodes by a checked table and a history.
use Rattle.std.specs.Prelude.{length}
use Rattle.definitions.specs.Histories.{History, version}
use Rattle.definitions.specs.Replies.{Peer}
use Rattle.definitions.specs.Worlds.{Node}
use Rattle.strategy_check.specs.Checked.{Checked}

abbrev pub node_by : Checked → History → Node
node_by a h = record { table = a.table; steps = a.steps; history = h }

-- the node's table and the newest version of its set
abbrev pub newest : Node → Peer
newest node = record { table = node.table; items = version node.history (length node.history) }
