use Rattle.std.proofs.Common.{ap, sym, ◌∙◌, ◌-◌, take}
use Rattle.mime_lines.specs.JoinedLines.{without_last}
use Rattle.mime_lines.specs.LineFields.{text_of}
use Rattle.mime_lines.proofs.LineLaws.{take_last}
use Rattle.mime_lines.proofs.lines.shortened.Goals as goal

pub returns-in-Joined : goal.returns-in-Joined
returns-in-Joined c =
    c.pop.ensures.rest
    ∙ ap (λ n. take (n - 1) c.in-Joined.bytes.items) c.in-Joined.bytes.ok.0
    ∙ take_last c.in-Joined.bytes.items
    ∙ sym (ap (λ t. without_last (text_of t)) c.in-Joined.is)
