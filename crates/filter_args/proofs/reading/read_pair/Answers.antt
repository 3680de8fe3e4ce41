use Rattle.std.proofs.Common.{None, Some, ap, sym, ◌∙◌, Ok, arith}
use Rattle.std.proofs.lemmas.Str.Pattern.{split_once_first}
use Rattle.std.specs.Result.{result_err}
use Rattle.filter_args.proofs.WordLaws.{pair_in_bare, pair_in_named, bare_read, named_read}
use Rattle.filter_args.proofs.reading.read_pair.Goals as goal

pub returns-in-None : goal.returns-in-None
returns-in-None c =
    let word = c.args.word.now in
    let bare = pair_in_bare word (split_once_first 61 word None c.in-None.ensures.cases (omega arith)) in
    sym bare ∙ bare_read word (ap result_err bare ∙ c.requires) ∙ ap (λ p. Ok p) (sym c.bare_pair.ensures)

pub returns-in_ok-value-in-Some : goal.returns-in_ok-value-in-Some
returns-in_ok-value-in-Some c =
    let word = c.args.word.now in
    let name = c.in-Some.name.now in
    let raw = c.in-Some.raw.now in
    let (inside, front, back) = split_once_first 61 word (Some (c.in-Some.name, c.in-Some.raw)) c.in-Some.ensures.cases (omega arith) in
    let named = pair_in_named word name raw inside front back in
    sym named ∙ named_read name raw (ap result_err named ∙ c.requires) ∙ ap (λ value. Ok (name, value)) (sym c.in_ok-value-in-Some.ensures)
