-- What clap finds in the words is what the command finds.
use Rattle.std.proofs.Common.{◌∙◌, ap, map, subst, sym}
use Rattle.clap.specs.Words.{App, matches_of}
use Rattle.spool_runtime.specs.ProgramArguments.{AreFaultlessFor, PassParsers, RefusesOnly}
use Rattle.spool_runtime.proofs.Refusals.{refuses}
use Rattle.spool_admin.specs.QueueArguments.{AreTakenFor, FitSet, IsSet, set_app}
use Rattle.spool_admin.proofs.QueueWords.{has_numbers, less_refused}
use Rattle.spool_admin.proofs.queue_words.read_set_words.Goals as goal

pub set_in-requires : goal.set_in-requires
set_in-requires g c = has_numbers c.in-Ok-parse.matches (subst (λ (a : App). PassParsers a c.in-Ok-parse.matches) c.in-Ok.ensures c.in-Ok-parse.ensures.pass)

pub returns-in-Ok-set_in-clause-asked : goal.returns-in-Ok-set_in-clause-asked
returns-in-Ok-set_in-clause-asked g c =
    let words = map g.S.AsStr.text c.args.words.now in
    subst (λ rows. IsSet rows c.in-Ok-set_in.words) (c.in-Ok-parse.ensures.found ∙ ap (λ (a : App). matches_of a words) c.in-Ok.ensures) c.in-Ok-set_in.ensures.asked

pub returns-in-Ok-set_in-clause-taken : goal.returns-in-Ok-set_in-clause-taken
returns-in-Ok-set_in-clause-taken g c =
    let words = map g.S.AsStr.text c.args.words.now in (
      subst (λ (a : App). AreFaultlessFor a words) c.in-Ok.ensures c.in-Ok-parse.ensures.taken,
      subst FitSet (c.in-Ok-parse.ensures.found ∙ ap (λ (a : App). matches_of a words) c.in-Ok.ensures) c.in-Ok-set_in.ensures.fit,
    )

pub returns-in-Err-clause-taken : goal.returns-in-Err-clause-taken
returns-in-Err-clause-taken g c =
    let words = map g.S.AsStr.text c.args.words.now in
    less_refused (AreFaultlessFor set_app words) (AreTakenFor set_app FitSet words) c.in-Err.fault (λ taken. taken.0)
    (subst (λ (a : App). RefusesOnly (AreFaultlessFor a words) c.in-Err.fault) c.in-Ok.ensures c.in-Err.ensures.taken)

pub returns-clause-taken : goal.returns-clause-taken
returns-clause-taken g c =
    let words = map g.S.AsStr.text c.args.words.now in
    refuses (AreTakenFor set_app FitSet words) c.mistake.result
    (λ taken. c.in-Err-set_in.ensures.fit (subst FitSet (sym (c.in-Ok-parse.ensures.found ∙ ap (λ (a : App). matches_of a words) c.in-Ok.ensures)) taken.1))
