-- The words after `queue set` are those of that form.
use Rattle.std.proofs.Common.{◌≡◌, ◌∙◌, map, subst, sym}
use Rattle.clap.specs.Words.{matches_of}
use Rattle.spool_runtime.specs.ProgramArguments.{AreFaultlessFor, RefusesOnly}
use Rattle.spool_admin.specs.AdminForms.{AreFaultlessIn, AreTakenIn, IsAskedIn, form_of}
use Rattle.spool_admin.specs.QueueArguments.{AreTakenFor, FitSet, IsSet, set_app}
use Rattle.spool_admin.specs.declared.words.Asked.TheVariants as asked
use Rattle.spool_admin.specs.declared.words.Form.TheVariants.{Set}
use Rattle.spool_admin.proofs.words.read_words.Goals as goal

pub returns-in-Ok-clause-asked : goal.returns-in-Ok-clause-asked
returns-in-Ok-clause-asked g c =
    let words = map g.S.AsStr.text c.args.words.now in
    let form : form_of words ≡ Set = sym c.form_of.ensures ∙ c.in-Set.is in
    subst (λ f. IsAskedIn f words (asked.Set c.in-Ok.words)) (sym form) (subst (λ more. IsSet (matches_of set_app more) c.in-Ok.words) c.after_two.ensures c.in-Ok.ensures.asked)

pub returns-in-Ok-clause-taken : goal.returns-in-Ok-clause-taken
returns-in-Ok-clause-taken g c =
    let words = map g.S.AsStr.text c.args.words.now in
    let form : form_of words ≡ Set = sym c.form_of.ensures ∙ c.in-Set.is in
    subst (λ f. AreFaultlessIn f words) (sym form) (subst (λ more. AreFaultlessFor set_app more) c.after_two.ensures c.in-Ok.ensures.taken.0)

pub returns-in-Err-clause-taken : goal.returns-in-Err-clause-taken
returns-in-Err-clause-taken g c =
    let words = map g.S.AsStr.text c.args.words.now in
    let form : form_of words ≡ Set = sym c.form_of.ensures ∙ c.in-Set.is in
    subst (λ f. RefusesOnly (AreTakenIn f words) c.in-Err.fault) (sym form) (subst (λ more. RefusesOnly (AreTakenFor set_app FitSet more) c.in-Err.fault) c.after_two.ensures c.in-Err.ensures.taken)
