use Rattle.field_codec.proofs.Utf8.{utf8_read, utf8_refused}
use Rattle.field_codec.proofs.fields.utf8_in.Goals as goal

pub returns-in-Ok-clause-read : goal.returns-in-Ok-clause-read
returns-in-Ok-clause-read c = utf8_read c.args.bytes.now c.in-Ok.text.now c.in-Ok.ensures.cases.0 c.in-Ok.ensures.cases.1

pub returns-in-Err-clause-read : goal.returns-in-Err-clause-read
returns-in-Err-clause-read c = utf8_refused c.args.bytes.now c.in-Err.ensures.cases.0
