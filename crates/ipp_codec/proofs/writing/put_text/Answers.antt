use Rattle.ipp_codec.proofs.Utf8.{text_is}
use Rattle.ipp_codec.proofs.writing.put_text.Goals as goal

pub returns-clause-legal : goal.returns-clause-legal
returns-clause-legal g c = text_is _ _ _ c.as_str.result.now c.args.text.now c.as_str.ensures.value c.as_str.utf8 c.as_str.ensures.allowed
