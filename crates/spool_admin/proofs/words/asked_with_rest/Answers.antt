-- The given words are the words that clap found.
use Rattle.std.proofs.Common.{◌≡◌, ◌∙◌, List, [], Option, Some, None, ap, codes, map, subst, sym}
use Rattle.std.specs.Borrow.{Bor}
use Rattle.std.specs.declared.alloc.AllocError.{AllocError}
use Rattle.std.specs.Prelude.{IfNone, IfOk, IfSome, Result, unwrap_or}
use Rattle.std.specs.Option.{option_map}
use Rattle.clap.specs.Words.{Text, all_of, found_of, rows_of}
use Rattle.clap.proofs.WalkLemmas.{raw_values-rows}
use Rattle.spool_admin.specs.AdminArguments.{IsFor, IsOfTask}
use Rattle.spool_admin.specs.declared.words.Asked.{Asked}
use Rattle.spool_admin.proofs.words.asked_with_rest.Goals as goal

abbrev texts_in : Option (Bor (List (Bor Text))) → Option (List Text)
texts_in r = option_map (λ s. map (λ v. v.now) s.now) r

some_is : (r : Option (Bor (List (Bor Text)))) (x : Bor (List (Bor Text))) (found : Option (List Text)) → texts_in r ≡ found → r ≡ Some x
    → map (λ v. v.now) x.now ≡ unwrap_or found []
some_is r x found same is = ap (λ (o : Option (List Text)). unwrap_or o []) (sym (ap texts_in is) ∙ same)

none_is : (r : Option (Bor (List (Bor Text)))) (found : Option (List Text)) → texts_in r ≡ found → r ≡ None → [] ≡ unwrap_or found []
none_is r found same is = ap (λ (o : Option (List Text)). unwrap_or o []) (sym (ap texts_in is) ∙ same)

-- The result for these words and for those that clap found.
abbrev IsAskedBy : Text → Text → Result (Option Asked) AllocError → List Text → Type 0
IsAskedBy task dir asked rest = IfOk asked (λ found. IfSome found (IsFor task dir rest))

abbrev IsNoneBy : Text → Result (Option Asked) AllocError → List Text → Type 0
IsNoneBy task asked rest = IfOk asked (λ found. IfNone found (IsOfTask task rest → ⊥))

pub returns-in-Some-clause-asked : goal.returns-in-Some-clause-asked
returns-in-Some-clause-asked c =
    let f = found_of c.args.matches.now in
    subst (IsAskedBy c.args.task.now c.args.dir.now c.asked_of.result)
    (some_is c.get_strs.result c.in-Some.rest (all_of (codes "rest") (rows_of f)) (c.get_strs.ensures ∙ raw_values-rows f (codes "rest")) c.in-Some.is) c.asked_of.ensures.asked

pub returns-in-Some-clause-none : goal.returns-in-Some-clause-none
returns-in-Some-clause-none c =
    let f = found_of c.args.matches.now in
    subst (IsNoneBy c.args.task.now c.asked_of.result)
    (some_is c.get_strs.result c.in-Some.rest (all_of (codes "rest") (rows_of f)) (c.get_strs.ensures ∙ raw_values-rows f (codes "rest")) c.in-Some.is) c.asked_of.ensures.none

pub returns-in-None-clause-asked : goal.returns-in-None-clause-asked
returns-in-None-clause-asked c =
    let f = found_of c.args.matches.now in
    subst (IsAskedBy c.args.task.now c.args.dir.now c.asked_of-in-None.result)
    (none_is c.get_strs.result (all_of (codes "rest") (rows_of f)) (c.get_strs.ensures ∙ raw_values-rows f (codes "rest")) c.in-None.is) c.asked_of-in-None.ensures.asked

pub returns-in-None-clause-none : goal.returns-in-None-clause-none
returns-in-None-clause-none c =
    let f = found_of c.args.matches.now in
    subst (IsNoneBy c.args.task.now c.asked_of-in-None.result)
    (none_is c.get_strs.result (all_of (codes "rest") (rows_of f)) (c.get_strs.ensures ∙ raw_values-rows f (codes "rest")) c.in-None.is) c.asked_of-in-None.ensures.none
