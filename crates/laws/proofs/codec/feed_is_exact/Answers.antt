use Rattle.laws.proofs.Streams.{feed_exact}
use Rattle.laws.proofs.codec.feed_is_exact.Goals as goal

pub returns : goal.returns
returns g c = λ P real. feed_exact P real
