use Rattle.std.proofs.Common.{◌≡◌, ◌++◌, ◌∷◌, [], ℕ, List, None, map, refl, sym, ap, ◌∙◌, append_assoc}
use Rattle.std.specs.Borrow.{Bor}
use Rattle.std.specs.List.{flat_map}
use Rattle.std.proofs.lemmas.Grind.{flat_map-append}
use Rattle.std.proofs.lemmas.Iterator.Consumers.{YieldsList-from_first, YieldsList-end}
use Rattle.std.proofs.lemmas.List.{append-nil, map_push}
use Rattle.std.proofs.lemmas.List.Concat.{flat_map-cons}
use Rattle.spool_types.specs.State.{Job, job_of}
use Rattle.spool_types.specs.declared.rows.JobRow.{JobRow}
use Rattle.service_texts.specs.Shown.{shown_line, shown_lines}
use Rattle.service_texts.proofs.job_texts.push_shown_jobs.Goals as goal

-- The line of one more job.
next_line : (line : Job → List ℕ) (xs : List (Bor JobRow)) (x : Bor JobRow) → flat_map line (map job_of (map (λ row. row.now) (xs ++ x ∷ []))) ≡ flat_map line (map job_of (map (λ row. row.now) xs)) ++ line (job_of x.now)
next_line line xs x =
    ap (λ (rs : List JobRow). flat_map line (map job_of rs)) (map_push (λ row. row.now) xs x)
    ∙ ap (flat_map line) (map_push job_of (map (λ row. row.now) xs) x.now)
    ∙ flat_map-append line (map job_of (map (λ row. row.now) xs)) (job_of x.now ∷ [])
    ∙ ap (λ (rest : List ℕ). flat_map line (map job_of (map (λ row. row.now) xs)) ++ rest) (flat_map-cons line (job_of x.now) [] ∙ append-nil (line (job_of x.now)))

pub loop-row-init : goal.loop-row-init
loop-row-init c = sym (append-nil c.args.text.now.items)

pub loop-row-preserved : goal.loop-row-preserved
loop-row-preserved c =
    let lines = shown_lines c.args.client.now c.args.now (map job_of (map (λ row. row.now) c.loop-row.yielded)) in
    let line = shown_line c.args.client.now c.args.now (job_of c.in-Some.row.now) in
    c.in_ok-push_shown_line.ensures
    ∙ ap (λ (text : List ℕ). text ++ line) c.loop-row.invariant
    ∙ append_assoc c.args.text.now.items lines line
    ∙ ap (λ (rest : List ℕ). c.args.text.now.items ++ rest) (sym (next_line (shown_line c.args.client.now c.args.now) c.loop-row.yielded c.in-Some.row))

pub returns : goal.returns
returns c =
    let rows = c.args.rows.now.items in
    let end = YieldsList-end (YieldsList-from_first (λ x. x.now) (λ r. r) rows cc) c.loop-row.yielded c.loop-row.row-iterator c.loop-row.yielded_by None c.next.new.self refl c.in-None.ensures.steps in
    c.loop-row.invariant
    ∙ ap (λ (rs : List JobRow). c.args.text.now.items ++ shown_lines c.args.client.now c.args.now (map job_of rs)) end.0
