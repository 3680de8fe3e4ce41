use Rattle.std.proofs.Common.{◌++◌, ◌∷◌, [], ◌∙◌, ap}
use Rattle.std.specs.List.{slice_get}
use Rattle.command_lines.specs.Replies.{quoted}
use Rattle.ipp_printing.specs.JobCommands.{document_name, media_of, media_word}
use Rattle.ipp_printing.proofs.Appends.{appended_three}
use Rattle.ipp_printing.proofs.printing.PrintingJob.push_document.Goals as goal

pub returns : goal.returns
returns c =
    appended_three
    c.args.line.now.items c.push_quoted.new.text.items c.push_media.new.line.items c.extend_from_slice.new.self.items
    (quoted (document_name (slice_get c.args.self.now.documents.items c.args.part))) (media_word (media_of c.args.self.now c.args.part)) (10 ∷ [])
    (c.in_ok-push_quoted.ensures ∙ ap (λ text. c.args.line.now.items ++ quoted text) c.name.ensures)
    (c.in_ok-push_media.ensures ∙ ap (λ media. c.push_quoted.new.text.items ++ media_word media) c.media.ensures)
    c.in_ok-extend_from_slice.ensures.items
