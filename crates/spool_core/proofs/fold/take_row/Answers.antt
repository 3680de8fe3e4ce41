-- A row that may come next, a row that may not, or the first event.
use Rattle.std.proofs.Common.{◌≡◌, ◌∙◌, refl, sym, subst, false, true, [], None}
use Rattle.documents.specs.Documents.{LieIn}
use Rattle.job_table.specs.Contents.{places_of}
use Rattle.spool_core.specs.Folding.{IsRowIn, IsRowOrNone}
use Rattle.spool_core.proofs.HistoryLaws.{begun_version}
use Rattle.spool_types.specs.Sent.{piece_of}
use Rattle.spool_core.proofs.FoldLaws.{if_ok, if_err, row_read, row_lies, piece_long, has_place, event_lies, misplaced, early, first_read, first_fault, none_noted}
use Rattle.spool_core.proofs.fold.take_row.Goals as goal

never : false ≡ true → ⊥
never is = absurd (cc)

pub load-requires : goal.load-requires
load-requires c =
    let row = subst (IsRowOrNone c.version.result c.args.payload.now) c.in-Ok-Some.field-0-is c.in-Ok-Some.ensures.row in
    has_place c.args.extent.place c.args.extent.len (piece_of c.in-Ok-Some.row) (piece_long c.version.result c.in-Ok-Some.row c.args.payload.now c.args.extent.len row.spelt c.requires.long) c.requires.inside

pub returns-in-Ok-clause-next : goal.returns-in-Ok-clause-next
returns-in-Ok-clause-next c = λ v base payloads are here.
    let told = c.version.ensures ∙ begun_version v payloads c.args.loading.progress [] are.begins in
    let row = subst (λ u. IsRowIn u c.args.payload.now c.in-Ok-Some.row) told (subst (IsRowOrNone c.version.result c.args.payload.now) c.in-Ok-Some.field-0-is c.in-Ok-Some.ensures.row) in
    row_read v base payloads c.args.payload.now c.args.loading c.load.new.self c.in-Ok-Some.row c.args.extent.place are here row.spellable row.spelt c.in-Ok.ensures.placed c.in-Ok.ensures.loaded c.in-Ok.ensures.places

pub returns-in-Ok-clause-lie : goal.returns-in-Ok-clause-lie
returns-in-Ok-clause-lie c = λ low below lie.
    let row = subst (IsRowOrNone c.version.result c.args.payload.now) c.in-Ok-Some.field-0-is c.in-Ok-Some.ensures.row in
    row_lies c.version.result low c.args.extent.place c.args.extent.len c.in-Ok-Some.row c.args.payload.now c.args.loading c.load.new.self row.spelt c.requires.long below c.in-Ok.ensures.places lie

pub returns-in-Err-Misplaced-clause-fault : goal.returns-in-Err-Misplaced-clause-fault
returns-in-Err-Misplaced-clause-fault c = λ v payloads begins.
    let told = c.version.ensures ∙ begun_version v payloads c.args.loading.progress [] begins in
    let row = subst (λ u. IsRowIn u c.args.payload.now c.in-Ok-Some.row) told (subst (IsRowOrNone c.version.result c.args.payload.now) c.in-Ok-Some.field-0-is c.in-Ok-Some.ensures.row) in
    (refl, misplaced v payloads c.args.payload.now c.args.loading.progress c.in-Ok-Some.row begins row.spellable row.spelt row.only (c.in-Err-Misplaced.ensures.misplaced.0 (rw c.in-Err-Misplaced.field-0-is refl)))

pub returns-in-Ok-into_table-clause-next : goal.returns-in-Ok-into_table-clause-next
returns-in-Ok-into_table-clause-next c = if_ok c.add_event.result c.add_event.ensures.next
    (λ next is v base payloads are here. first_read v base payloads c.args.payload.now c.args.extent.place c.args.loading c.in-Ok-into_table.table next are (c.if-is_whole.ensures.0 refl) c.in-Ok-into_table.ensures.state c.in-Ok-into_table.ensures.places here is)

pub returns-in-Ok-into_table-clause-lie : goal.returns-in-Ok-into_table-clause-lie
returns-in-Ok-into_table-clause-lie c = if_ok c.add_event.result c.add_event.ensures.next
    (λ next is low below lie. event_lies low c.args.extent.place c.args.extent.len c.args.payload.now c.in-Ok-into_table.table next c.requires.long below is
    (λ j lives. subst (λ ps. LieIn low c.args.extent.place (places_of ps j)) (sym c.in-Ok-into_table.ensures.places) (lie j)))

pub returns-in-Ok-into_table-clause-fault : goal.returns-in-Ok-into_table-clause-fault
returns-in-Ok-into_table-clause-fault c = if_err c.add_event.result c.add_event.ensures.fault
    (λ fault is v payloads begins. first_fault v payloads c.args.payload.now c.args.loading.progress c.in-Ok-into_table.table.state c.args.extent fault begins
    (subst (λ u. IsRowOrNone u c.args.payload.now None) (c.version.ensures ∙ begun_version v payloads c.args.loading.progress [] begins) (subst (IsRowOrNone c.version.result c.args.payload.now) c.in-Ok-None.field-0-is c.in-Ok-None.ensures.row)) c.in-Ok-into_table.ensures.state is)

pub returns-else-is_whole-clause-fault : goal.returns-else-is_whole-clause-fault
returns-else-is_whole-clause-fault c = λ v payloads begins. (
  refl,
  early v payloads c.args.payload.now c.args.loading.progress begins
      (subst (λ u. IsRowOrNone u c.args.payload.now None) (c.version.ensures ∙ begun_version v payloads c.args.loading.progress [] begins) (subst (IsRowOrNone c.version.result c.args.payload.now) c.in-Ok-None.field-0-is c.in-Ok-None.ensures.row)) (λ whole. never (c.if-is_whole.ensures.1 whole)),
)

pub returns-in-Ok-into_table-clause-unmoved : goal.returns-in-Ok-into_table-clause-unmoved
returns-in-Ok-into_table-clause-unmoved c = if_ok c.add_event.result c.add_event.ensures.next
    (λ next is. none_noted c.in-Ok-into_table.table c.args.payload.now c.args.extent.place next is c.in-Ok-into_table.ensures.moves)
