-- A request that the values do not make is not made by the words.
use Rattle.std.proofs.Common.{◌≡◌, ◌∙◌, List, [], Option, Some, None, ap, map, subst, sym}
use Rattle.std.specs.Prelude.{IfNone}
use Rattle.clap.specs.Words.{App, Row, fault_of, found_of, matches_of, rows_of}
use Rattle.spool_runtime.proofs.Refusals.{refuses}
use Rattle.spool_admin.specs.AdminArguments.{AreTaken, HasTask, admin_app}
use Rattle.spool_admin.proofs.words.read_folder_words.Goals as goal

no_task : {T : Type 0} (asked : Option T) (found given : List Row) → asked ≡ None → IfNone asked (HasTask found → ⊥) → found ≡ given → HasTask given → ⊥
no_task None found given is never same has = never (subst HasTask (sym same) has)
no_task (Some x) found given is never same has = cc

pub returns-in-Ok-Some-clause-taken : goal.returns-in-Ok-Some-clause-taken
returns-in-Ok-Some-clause-taken g c =
    subst (λ (app : App). fault_of app (map g.S.AsStr.text c.args.words.now) ≡ []) c.in-Ok.ensures c.in-Ok-parse.ensures.taken

pub returns-in-Ok-None-clause-taken : goal.returns-in-Ok-None-clause-taken
returns-in-Ok-None-clause-taken g c =
    let words = map g.S.AsStr.text c.args.words.now in
    refuses (AreTaken words) c.mistake.result
    (λ taken. no_task c.in-Ok-None.field-0 (rows_of (found_of c.in-Ok-parse.matches)) (matches_of admin_app words) c.in-Ok-None.field-0-is c.in-Ok-None.ensures.none
    (c.in-Ok-parse.ensures.found ∙ ap (λ app. matches_of app words) c.in-Ok.ensures) taken.1)
