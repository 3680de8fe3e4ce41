use Rattle.std.proofs.Common.{Some, ap, ◌∙◌, arith}
use Rattle.std.proofs.lemmas.Str.Pattern.{split_once_first}
use Rattle.std.specs.Option.{option_or}
use Rattle.std.specs.Result.{result_err}
use Rattle.filter_args.proofs.WordLaws.{pair_in_named, named_fault}
use Rattle.filter_args.proofs.reading.pair_fault.Goals as goal

pub returns-in-Some : goal.returns-in-Some
returns-in-Some c =
    let word = c.args.word.now in
    let name = c.in-Some.name.now in
    let raw = c.in-Some.raw.now in
    let (inside, front, back) = split_once_first 61 word (Some (c.in-Some.name, c.in-Some.raw)) c.in-Some.ensures.cases (omega arith) in
    c.or.ensures
    ∙ ap (λ o. option_or o c.value_fault.result) c.name_fault-in-Some.ensures
    ∙ ap (option_or _) c.value_fault.ensures
    ∙ named_fault name raw
    ∙ ap result_err (pair_in_named word name raw inside front back)
