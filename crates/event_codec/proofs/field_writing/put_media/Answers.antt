use Rattle.spool_types.specs.Values.{is_media_type}
use Rattle.event_codec.proofs.Utf8.{text_is}
use Rattle.event_codec.proofs.field_writing.put_media.Goals as goal

pub returns-clause-is_text : goal.returns-clause-is_text
returns-clause-is_text c = text_is is_media_type c.as_str.result.now c.args.media.now c.as_str.ensures.value c.as_str.utf8 c.as_str.ensures.allowed
