-- What the laws say of sessions, in one place.
--     Laws S             of one that is looked at
--     DeliveryLaws S     and of one whose message is delivered
use Rattle.definitions.specs.Fingerprints.{Summary, IsExact}
use Rattle.laws.specs.Sessions.{SessionsGoOn, SessionsKeepNodes, SessionsTell}

pub record Laws {F : Type 0} (S : Summary F) : Type 0 where
  pub exact : IsExact S
  pub tell : SessionsTell S

pub record DeliveryLaws {F : Type 0} (S : Summary F) : Type 0 where
  pub look : Laws S
  pub go_on : SessionsGoOn S
  pub keep : SessionsKeepNodes S
