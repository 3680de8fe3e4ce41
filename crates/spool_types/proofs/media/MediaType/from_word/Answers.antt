use Rattle.spool_types.specs.Values.{is_media_type}
use Rattle.spool_types.proofs.Words.{no_folded, some_folded}
use Rattle.spool_types.proofs.media.MediaType.from_word.Goals as goal

pub returns-in_default : goal.returns-in_default
returns-in_default c = no_folded is_media_type c.args.word.now c.in_default.ensures.cases.0

pub returns-in-Ok-read : goal.returns-in-Ok-read
returns-in-Ok-read c = some_folded is_media_type c.args.word.now c.in-Ok.text.now c.in-Ok-read.media c.in-Ok.ensures.cases c.in-Ok-read.ensures.allowed c.in-Ok-read.ensures.value
