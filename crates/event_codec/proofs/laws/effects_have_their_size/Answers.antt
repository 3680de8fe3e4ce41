use Rattle.event_codec.proofs.Sizes.{effects_code_size}
use Rattle.event_codec.proofs.laws.effects_have_their_size.Goals as goal

pub returns : goal.returns
returns c = λ effects. effects_code_size effects
