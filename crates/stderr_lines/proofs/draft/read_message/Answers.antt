use Rattle.std.proofs.Common.{ap, ◌∙◌}
use Rattle.spool_types.specs.Values.{is_message}
use Rattle.stderr_lines.proofs.TextLaws.{message_text}
use Rattle.stderr_lines.proofs.draft.read_message.Goals as goal

pub copy_of-requires : goal.copy_of-requires
copy_of-requires c = ap is_message c.printable_text.ensures ∙ message_text c.args.text.now c.requires
