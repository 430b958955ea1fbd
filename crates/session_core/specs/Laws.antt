-- What a session that is pushed bytes in pieces rests on.
--     Laws S W     the laws of what is heard, and of a stream that is cut
use Rattle.definitions.specs.Fingerprints.{Summary}
use Rattle.definitions.specs.Wire.{Profile}
use Rattle.laws.specs.Hearing.{HearingsGoOn, BytesAgree}
use Rattle.laws.specs.Parts.{FeedsJoin}

pub record Laws {F : Type 0} (S : Summary F) (W : Profile F) : Type 0 where
  pub go_on : HearingsGoOn S
  pub agree : BytesAgree S W
  pub join : FeedsJoin W
