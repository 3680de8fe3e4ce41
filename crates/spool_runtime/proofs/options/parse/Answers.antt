use Rattle.std.proofs.Common.{◌≡◌, inl, inr, true, map}
use Rattle.clap.specs.Words.{app_of, fault_of, found_of, kind_of}
use Rattle.clap.specs.Faults.{is_simple_and_free}
use Rattle.clap.specs.Built.{BuildsOrBreaks, is_broken}
use Rattle.clap.specs.declared.builder.command.Command.{Command}
use Rattle.clap.proofs.SimpleLemmas.{plain_fields}
use Rattle.spool_runtime.proofs.Accepted.{IsFor, accepted, is_buildable_by, is_plain, is_simple_by}
use Rattle.spool_runtime.proofs.Refusals.{refused_by_clap}
use Rattle.spool_runtime.proofs.options.parse.Goals as goal

is_for : (old new : Command) → is_simple_and_free (app_of old) ≡ true → BuildsOrBreaks old new → (is_broken new ≡ true → ⊥) → IsFor (app_of old) new
is_for old new simple (inl broken) whole = absurd (whole broken)
is_for old new simple (inr made) whole = elim made.2 [
  | inl same ↦ inl same
  | inr builds ↦ inr (builds (is_buildable_by (app_of old) simple))
]

pub returns-in-Ok-clause-found : goal.returns-in-Ok-clause-found
returns-in-Ok-clause-found g c = (c.in-Ok.ensures.ok.2 (is_simple_by (app_of c.args.command.now) c.requires)).0

pub returns-in-Ok-clause-pass : goal.returns-in-Ok-clause-pass
returns-in-Ok-clause-pass g c = λ name text parser some_name plain option some.
    let old = c.args.command.now in
    let new = c.try_get_matches_from_mut.new.self in
    let simple = c.requires in
    let is : IsFor (app_of old) new = is_for old new simple c.in-Ok.ensures.after (λ broken. c.in-Ok.ensures.fails broken) in
    accepted (app_of old) simple name parser some_name plain option new (found_of c.in-Ok.matches) is
    (c.in-Ok.ensures.ok.1 (plain_fields new (is_plain (app_of old) simple new is)).globals).values text some

pub returns-in-Err-clause-taken : goal.returns-in-Err-clause-taken
returns-in-Err-clause-taken g c =
    let words = map g.S.AsStr.text c.args.words.now in
    refused_by_clap (fault_of (app_of c.args.command.now) words) (kind_of c.in-Err.error) c.words_fault.result c.words_fault.ensures
    (c.in-Err.ensures.kinds c.requires)
