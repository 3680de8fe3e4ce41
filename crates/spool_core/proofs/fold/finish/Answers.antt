-- Rows that are a complete listing, or events after one.
use Rattle.std.proofs.Common.{◌≡◌, refl, sym, subst, false, true}
use Rattle.spool_core.specs.Folding.{HasNoneNoted, HasRead, ReadLiesIn}
use Rattle.documents.specs.Documents.{LieIn}
use Rattle.job_table.specs.Contents.{places_of}
use Rattle.spool_core.proofs.FoldLaws.{rows_finished, events_finished}
use Rattle.spool_core.proofs.fold.finish.Goals as goal

never : false ≡ true → ⊥
never is = absurd (cc)

pub returns-in-Ok-clause-table : goal.returns-in-Ok-clause-table
returns-in-Ok-clause-table c = λ v base payloads has.
    rows_finished v base payloads c.in-Rows.loading c.in-Ok.table (subst (λ r. HasRead v base r payloads) c.in-Rows.is has) (c.if-is_whole.ensures.0 refl) c.in-Ok.ensures.state c.in-Ok.ensures.places

pub returns-in-Ok-clause-lie : goal.returns-in-Ok-clause-lie
returns-in-Ok-clause-lie c = λ low high lie j lives.
    subst (λ ps. LieIn low high (places_of ps j)) (sym c.in-Ok.ensures.places) ((subst (ReadLiesIn low high) c.in-Rows.is lie) j)

pub returns-else-is_whole-clause-fault : goal.returns-else-is_whole-clause-fault
returns-else-is_whole-clause-fault c = λ v base payloads has. (
  refl,
  record { progress = c.in-Rows.loading.progress; begins = (subst (λ r. HasRead v base r payloads) c.in-Rows.is has).begins; short = λ whole. never (c.if-is_whole.ensures.1 whole) },
)

pub returns-in-Events-clause-table : goal.returns-in-Events-clause-table
returns-in-Events-clause-table c = λ v base payloads has.
    events_finished v base payloads c.in-Events.table (subst (λ r. HasRead v base r payloads) c.in-Events.is has)

pub returns-in-Events-clause-lie : goal.returns-in-Events-clause-lie
returns-in-Events-clause-lie c = λ low high lie. subst (ReadLiesIn low high) c.in-Events.is lie

pub returns-in-Events-clause-unmoved : goal.returns-in-Events-clause-unmoved
returns-in-Events-clause-unmoved c = λ none. subst HasNoneNoted c.in-Events.is none
