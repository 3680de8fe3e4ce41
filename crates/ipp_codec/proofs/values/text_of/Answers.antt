use Rattle.ipp_codec.proofs.Utf8.{text_refused, text_read}
use Rattle.ipp_codec.proofs.values.text_of.Goals as goal

pub returns-in_default : goal.returns-in_default
returns-in_default g c = text_refused _ _ _ c.args.octets.now c.in_default.ensures.cases.0

pub returns-in-Ok-read : goal.returns-in-Ok-read
returns-in-Ok-read g c = text_read _ _ _ c.args.octets.now c.in-Ok.text.now c.in-Ok-read.text c.in-Ok.ensures.cases c.in-Ok-read.ensures.allowed c.in-Ok-read.ensures.value
