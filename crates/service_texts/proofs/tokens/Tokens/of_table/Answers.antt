-- One more job was noted.
use Rattle.std.proofs.Common.{ℕ, List, Option, None, map, sym, ap, ◌∙◌}
use Rattle.std.proofs.lemmas.List.{map_push}
use Rattle.spool_types.specs.State.{Job, job_of}
use Rattle.service_texts.specs.SubmissionTokens.{all_noted_for, noted_for}
use Rattle.service_texts.proofs.TokenLaws.{noted_last}
use Rattle.service_texts.proofs.tokens.Tokens.of_table.Goals as goal

pub loop-row-preserved : goal.loop-row-preserved
loop-row-preserved c = λ token.
    let rows = map job_of (map (λ row. row.now) c.loop-row.yielded) in
    let row = job_of c.in-Some.row.now in
    c.in_ok-note_row.ensures token
    ∙ ap (λ (entry : Option ℕ). noted_for token entry row) (c.loop-row.invariant token)
    ∙ sym (noted_last token None rows row)
    ∙ sym (ap (λ (rs : List Job). all_noted_for token None rs) (ap (map job_of) (map_push (λ row. row.now) c.loop-row.yielded c.in-Some.row) ∙ map_push job_of (map (λ row. row.now) c.loop-row.yielded) c.in-Some.row.now))
