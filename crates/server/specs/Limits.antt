-- What peers may cost a server, by the words of a call.
--     IsLimitsOf words limits    what is given; and where nothing is, 1,024 peers, 64 of one address, an hour a session
--                                and 1,024 MiB. There are as many places for sessions as peers, at least one and at
--                                most 1,024
use Rattle.std.specs.Prelude.{◌≡◌, ◌*◌, ◌^◌, min, max}
use Rattle.std.specs.Option.{unwrap_or}
use Rattle.settings_core.specs.declared.commands.ServeWords.{ServeWords}
use Rattle.peer_loops.specs.declared.crowd.PeerLimits.{PeerLimits}

pub record IsLimitsOf (words : ServeWords) (limits : PeerLimits) : Type 0 where
  pub peers : limits.peers ≡ unwrap_or words.peers 1024
  pub patience : limits.patience ≡ words.patience
  pub session_seconds : limits.session_seconds ≡ unwrap_or words.session_seconds 3600
  pub most_bytes : limits.most_bytes ≡ words.most_bytes
  pub memory : limits.memory ≡ unwrap_or words.memory 1024 * 2 ^ 20
  pub sessions : limits.sessions ≡ min (max limits.peers 1) 1024
  pub peers_of_one : limits.peers_of_one ≡ unwrap_or words.peers_of_one 64
