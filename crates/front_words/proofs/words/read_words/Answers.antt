-- The values that clap finds by the form's command are those of the arguments.
use Rattle.std.proofs.Common.{◌≡◌, ◌∙◌, List, true, ap, drop, map, subst, sym}
use Rattle.std.specs.Prelude.{IfOk, MatchResult}
use Rattle.clap.specs.Words.{App, Row, Text, app_of, found_of, is_simple_and_free, matches_of, rows_of}
use Rattle.front_words.specs.Apps.{app_for}
use Rattle.front_words.specs.AskedTasks.{AreTaken, Fit, IsAskedIn, found_in}
use Rattle.front_words.specs.WordFaults.{RefusesOnly}
use Rattle.front_words.specs.Forms.{form_in, skipped}
use Rattle.front_words.specs.CommandOptions.{AreFaultlessFor}
use Rattle.front_words.specs.declared.forms.Form.{Form}
use Rattle.front_words.proofs.Blames.{less_refused, taken_so}
use Rattle.front_words.proofs.Simple.{is_simple}
use Rattle.front_words.proofs.words.read_words.Goals as goal

module _ (words own : List Text) (form : Form) (app : App) (is : form ≡ form_in words) (for : app ≡ app_for form) (behind : own ≡ drop (skipped form) words) where
  own_is : own ≡ drop (skipped (form_in words)) words
  own_is = behind ∙ ap (λ (f : Form). drop (skipped f) words) is

  app_is : app ≡ app_for (form_in words)
  app_is = for ∙ ap app_for is

  found_is : (rows : List Row) → rows ≡ matches_of app own → rows ≡ found_in words
  found_is rows found = found ∙ ap (λ (a : App). matches_of a own) app_is ∙ ap (matches_of (app_for (form_in words))) own_is

  faultless_is : AreFaultlessFor app own → AreFaultlessFor (app_for (form_in words)) (drop (skipped (form_in words)) words)
  faultless_is held = subst (AreFaultlessFor (app_for (form_in words))) own_is (subst (λ (a : App). AreFaultlessFor a own) app_is held)

  faultless_was : AreFaultlessFor (app_for (form_in words)) (drop (skipped (form_in words)) words) → AreFaultlessFor app own
  faultless_was held = subst (λ (a : App). AreFaultlessFor a own) (sym app_is) (subst (AreFaultlessFor (app_for (form_in words))) (sym own_is) held)

  said : (P : Form → List Row → Type 0) (rows : List Row) → rows ≡ matches_of app own → P form rows → P (form_in words) (found_in words)
  said P rows found held = subst (λ (f : Form). P f (found_in words)) is (subst (P form) (found_is rows found) held)

pub parse-requires : goal.parse-requires
parse-requires g c = subst (λ (a : App). is_simple_and_free a ≡ true) (sym c.in-Ok.ensures) (is_simple c.form_of-form.result)

pub returns-in-Ok-parse-clause-asked : goal.returns-in-Ok-parse-clause-asked
returns-in-Ok-parse-clause-asked g c =
    let words = map g.S.AsStr.text c.args.words.now in
    let own = map g.S.AsStr.text c.own_words.result.now in
    said words own c.form_of-form.result (app_of c.in-Ok.command) c.form_of-form.ensures c.in-Ok.ensures c.own_words.ensures
    (λ f rows. IfOk c.asked_or_mistake.result (IsAskedIn f rows)) (rows_of (found_of c.in-Ok-parse.matches)) c.in-Ok-parse.ensures.found c.asked_or_mistake.ensures.asked

pub returns-in-Ok-parse-clause-taken : goal.returns-in-Ok-parse-clause-taken
returns-in-Ok-parse-clause-taken g c =
    let words = map g.S.AsStr.text c.args.words.now in
    let own = map g.S.AsStr.text c.own_words.result.now in
    taken_so _ (Fit (form_in words) (found_in words)) c.asked_or_mistake.result
    (faultless_is words own c.form_of-form.result (app_of c.in-Ok.command) c.form_of-form.ensures c.in-Ok.ensures c.own_words.ensures c.in-Ok-parse.ensures.taken)
    (said words own c.form_of-form.result (app_of c.in-Ok.command) c.form_of-form.ensures c.in-Ok.ensures c.own_words.ensures
    (λ f rows. MatchResult c.asked_or_mistake.result (λ _. Fit f rows) (RefusesOnly (Fit f rows))) (rows_of (found_of c.in-Ok-parse.matches)) c.in-Ok-parse.ensures.found
    c.asked_or_mistake.ensures.fit)

pub returns-clause-taken : goal.returns-clause-taken
returns-clause-taken g c =
    let words = map g.S.AsStr.text c.args.words.now in
    let own = map g.S.AsStr.text c.own_words.result.now in
    less_refused (AreFaultlessFor (app_of c.in-Ok.command) own) (AreTaken words) c.in-Err.fault
    (λ taken. faultless_was words own c.form_of-form.result (app_of c.in-Ok.command) c.form_of-form.ensures c.in-Ok.ensures c.own_words.ensures taken.0)
    c.in-Err.ensures.taken
