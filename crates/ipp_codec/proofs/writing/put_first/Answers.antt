use Rattle.ipp_codec.proofs.Utf8.{text_is}
use Rattle.ipp_codec.proofs.writing.put_first.Goals as goal

pub returns-clause-name : goal.returns-clause-name
returns-clause-name c = text_is 1 255 127 c.as_str.result.now c.args.name.now c.as_str.ensures.value c.as_str.utf8 c.as_str.ensures.allowed
