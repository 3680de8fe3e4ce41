-- The number that clap finds.
use Rattle.std.proofs.Common.{◌∙◌, ◌≤◌, ℕ, Option, Some, None, ap, arith}
use Rattle.std.specs.Prelude.{IfSome, option_map, unwrap_or}
use Rattle.std.specs.Str.Parse.{ParsesUnsigned, ExplainsUnsignedError, HasUnsignedDigitsIfOk}
use Rattle.clap.specs.Words.{found_of, one_text}
use Rattle.clap.proofs.WalkLemmas.{one_text-rows}
use Rattle.spool_runtime.specs.ProgramArguments.{number_of}
use Rattle.spool_runtime.proofs.Sizes.{number_read, number_within}
use Rattle.spool_admin.proofs.queue_words.number_in.Goals as goal

within : (o : Option ℕ) (most : ℕ) → unwrap_or o most ≤ most → IfSome o (λ n. n ≤ most)
within None most le = tt
within (Some n) most le = le

pub returns-clause-number : goal.returns-clause-number
returns-clause-number c =
    let found = one_text (found_of c.args.matches.now) c.args.name.now in
    number_read 0 c.args.most (λ bs r. ParsesUnsigned 64 10 bs r × ExplainsUnsignedError 10 bs r × HasUnsignedDigitsIfOk bs r) found c.get_one.result
    (λ u x g. g.0) c.get_one.ensures.none c.get_one.ensures.value c.requires
    ∙ ap (option_map number_of) (one_text-rows (found_of c.args.matches.now) c.args.name.now)

pub returns-clause-in_range : goal.returns-clause-in_range
returns-clause-in_range c =
    let found = one_text (found_of c.args.matches.now) c.args.name.now in
    within c.get_one.result c.args.most
    (number_within 0 c.args.most c.args.most (λ bs r. ParsesUnsigned 64 10 bs r × ExplainsUnsignedError 10 bs r × HasUnsignedDigitsIfOk bs r) found c.get_one.result
    (λ u x g. g.0) c.get_one.ensures.none c.get_one.ensures.value c.requires (omega arith) (omega arith)).1
