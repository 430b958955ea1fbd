-- What an exchange of messages rests on.
--     Laws S W     the laws of what is heard, and of what is said to it
use Rattle.definitions.specs.Fingerprints.{Summary}
use Rattle.definitions.specs.Wire.{Profile}
use Rattle.laws.specs.Hearing.{HearingsGoOn, OwnBegins, BytesAgree}

pub record Laws {F : Type 0} (S : Summary F) (W : Profile F) : Type 0 where
  pub go_on : HearingsGoOn S
  pub begin : OwnBegins S
  pub agree : BytesAgree S W
