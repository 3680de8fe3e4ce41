use Rattle.std.proofs.Common.{◌++◌, ap, sym, ◌∙◌}
use Rattle.std.specs.Option.{option_copied, option_to_list}
use Rattle.stderr_lines.specs.Rests.{reasons_from}
use Rattle.stderr_lines.proofs.ReasonLaws.{first_reason}
use Rattle.stderr_lines.proofs.TextLaws.{reason_allowed}
use Rattle.stderr_lines.proofs.reasons.next_reason.Goals as goal

pub returns-clause-reasons : goal.returns-clause-reasons
returns-clause-reasons c =
    let behind = option_copied c.split_word.result.1 in
    first_reason c.args.text.now c.split_word.result.0.now behind c.split_word.ensures.words
    ∙ ap (λ r. option_to_list r ++ reasons_from behind) (sym c.text_in.ensures)

pub returns-clause-allowed : goal.returns-clause-allowed
returns-clause-allowed c = reason_allowed c.split_word.result.0.now (option_copied c.text_in.result) c.text_in.ensures
