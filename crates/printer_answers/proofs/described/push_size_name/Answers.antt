use Rattle.std.proofs.Common.{◌∷◌, []}
use Rattle.std.specs.Prelude.{codes}
use Rattle.printer_answers.specs.PrinterMedia.{media_name, member_value}
use Rattle.printer_answers.proofs.TwoAdded.{two_added}
use Rattle.printer_answers.proofs.described.push_size_name.Goals as goal

pub returns : goal.returns
returns c =
    two_added c.push_media_name.result c.args.values.now c.push_member.new.values c.push_media_name.new.values (member_value (codes "media-size-name") ∷ []) (media_name c.args.size.now ∷ []) c.in_ok-push_member.ensures c.push_media_name.ensures
