use Rattle.event_codec.proofs.Utf8.{text_is}
use Rattle.event_codec.proofs.field_writing.put_text.Goals as goal

pub returns-clause-is_text : goal.returns-clause-is_text
returns-clause-is_text g c = text_is g.K.TextKind.allowed c.as_str.result.now c.args.text.now c.as_str.ensures.value c.as_str.utf8 c.as_str.ensures.allowed
