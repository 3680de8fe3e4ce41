use Rattle.std.proofs.Common.{rules, ap, subst, sym, unwrap_or, ◌≡◌, ◌≤◌, ◌∙◌, ℕ, Option}
use Rattle.std.specs.Prelude.{option_map}
use Rattle.std.specs.Str.Parse.{ParsesUnsigned, ExplainsUnsignedError, HasUnsignedDigitsIfOk}
use Rattle.clap.specs.Words.{Text, found_of, one_text}
use Rattle.clap.proofs.WalkLemmas.{one_text-rows}
use Rattle.spool_runtime.specs.ProgramArguments.{number_of, number_or}
use Rattle.spool_runtime.proofs.Sizes.{number_read, number_within}
use Rattle.spool_runtime.proofs.options.number_given.Goals as goal

pub returns-clause-number : goal.returns-clause-number
returns-clause-number c =
    let name = c.args.name.now in
    let usual = c.args.usual in
    let found = one_text (found_of c.args.matches.now) name in
    let read : c.get_one.result ≡ option_map number_of found =
    number_read 0 18446744073709551615 (λ bs r. ParsesUnsigned 64 10 bs r × ExplainsUnsignedError 10 bs r × HasUnsignedDigitsIfOk bs r) found c.get_one.result
    (λ u x g. g.0) c.get_one.ensures.none c.get_one.ensures.value c.requires in
    let number : c.unwrap_or.result ≡ unwrap_or c.get_one.result usual = search rules in
    number ∙ ap (λ (r : Option ℕ). unwrap_or r usual) read
    ∙ ap (λ (o : Option Text). number_or usual o) (one_text-rows (found_of c.args.matches.now) name)

pub returns-clause-in_range : goal.returns-clause-in_range
returns-clause-in_range c = λ least most has low high.
    let usual = c.args.usual in
    let found = one_text (found_of c.args.matches.now) c.args.name.now in
    let number : c.unwrap_or.result ≡ unwrap_or c.get_one.result usual = search rules in
    subst (λ (n : ℕ). (least ≤ n) × (n ≤ most)) (sym number)
    (number_within least most usual (λ bs r. ParsesUnsigned 64 10 bs r × ExplainsUnsignedError 10 bs r × HasUnsignedDigitsIfOk bs r) found c.get_one.result
    (λ u x g. g.0) c.get_one.ensures.none c.get_one.ensures.value has low high)
