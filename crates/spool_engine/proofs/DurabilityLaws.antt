-- The same steps, by the durability of their events.
use Rattle.std.proofs.Common.{◌≡◌, ℕ, List, [], length, take, refl, ap, sym, ◌∙◌, subst, inl, inr, Bool, true, false, Option, None, Some, Result, Ok, Err}
use Rattle.std.specs.Prelude.{⊤, IsTrue, codes}
use Rattle.spool_types.specs.declared.event.Event.{Event}
use Rattle.spool_types.specs.declared.event.Event.TheVariants as events
use Rattle.spool_types.specs.declared.event.Reply.{Reply}
use Rattle.spool_types.specs.declared.refusal.Refusal.{Refusal}
use Rattle.job_table.specs.Over.{is_over}
use Rattle.job_table.specs.Step.{refusal_of}
use Rattle.spool_disk.specs.Disk.{DiskView, IsLawful}
use Rattle.command_lines.specs.Replies.{refusal_line}
use Rattle.command_lines.specs.declared.command.Command.{Command}
use Rattle.command_lines.specs.declared.command.Command.TheVariants.{Close}
use Rattle.child_pipeline.specs.ChildTraces.{ChildTrace}
use Rattle.child_pipeline.specs.StageSlots.{Slots}
use Rattle.spool_core.specs.DocumentReading as reading
use Rattle.spool_core.specs.OpenSpools.{OpenSpool, IsAnswer, IsSettled as NoneStaged, len_at}
use Rattle.spool_core.specs.declared.reading.Unread.{Unread}
use Rattle.spool_core.specs.declared.reading.Unread.TheVariants as unread
use Rattle.spool_core.specs.declared.spool.apply_fault.ApplyFault.{ApplyFault}
use Rattle.print_rounds.specs.RunStates.{RunState, run_state}
use Rattle.spool_engine.specs.Mime.{media_of}
use Rattle.spool_engine.specs.Script.{says, asks, meaning, closing_of, closing_line, withheld_line, withholds}
use Rattle.spool_engine.specs.EventSteps.{Setting, EventStep, IsCut, MayBeRead}
use Rattle.spool_engine.specs.EventAnswers.{event_line}
use Rattle.spool_engine.specs.EngineRuns.{CommandStep}
use Rattle.spool_engine.specs.StagedSteps.{IsPlainIfSettled, StagesStep, MayApply, IsFrontReadAs, IsAppliedAs, TakesAs, TakesStepAs}
use Rattle.spool_engine.specs.declared.durability.Durability.{Durability}
use Rattle.spool_engine.specs.declared.durability.Durability.TheVariants.{Durable, Staged}
use Rattle.spool_engine.proofs.EventLaws.{ReadsNothing, event_told, said_told, same_bytes, same_command, unasked, unread_told}
use Rattle.spool_engine.proofs.CloseLaws.{closed_by_front, dead_close, read_cut, read_for, read_still, refused_close, told_as, unread_document, unreadable_document}
use Rattle.spool_engine.proofs.RoundLaws.{event_lifted, listed, said_lifted, withheld_turn}
use Rattle.spool_engine.proofs.StagingLaws.{ReadsNoneShown, closed_by_shown_front, dead_staged_close, held_staged, refused_staged_close, staged_said, staged_turn, staged_unread, unasked_staged, unread_staged_document, unreadable_staged_document, withheld_staged}

-- A step with a text that equals another.
said_as_well : {D : Type 0} (v : Setting D) (s s' : OpenSpool D) (c : Command) (said text : List ℕ) → (t : EventStep D) × TakesAs Staged v s c t s' × (t.text ≡ text) → said ≡ text → (t : EventStep D) × TakesAs Staged v s c t s' × (said ≡ t.text)
said_as_well v s s' c said text (t, takes, told) is = (t, takes, same_bytes said text t.text told is)

-- ## Commands of at most one event

pub event_as : {D : Type 0} (d : Durability) (said : List ℕ) (v : Setting D) (s s' : OpenSpool D) (c : Command) (e : Event) (line : Reply → List ℕ) → IsLawful v.device → ReadsNothing v s c → ReadsNoneShown v s c → meaning v.mime s.state [] c ≡ asks e line
    → (a : Result Reply ApplyFault) × IsAppliedAs d v.device s e a s' × (said ≡ event_line line a) → (t : EventStep D) × TakesAs d v s c t s' × (said ≡ t.text)
event_as Durable said v s s' c e line lawful none nothing is applied = event_told said v s s' c e line lawful.only_now none is applied
event_as Staged said v s s' c e line lawful none nothing is (a, staged, text) = said_as_well v s s' c said (event_line line a) (staged_turn v s s' c e line a nothing is staged) text

pub said_as : {D : Type 0} (d : Durability) (said : List ℕ) (v : Setting D) (s : OpenSpool D) (c : Command) (text : List ℕ) → IsLawful v.device → IsPlainIfSettled v.device s → MayApply d s → ReadsNothing v s c → ReadsNoneShown v s c → meaning v.mime s.state [] c ≡ says text → said ≡ text
    → (t : EventStep D) × TakesAs d v s c t s × (said ≡ t.text)
said_as Durable said v s c text lawful plain may none nothing is told = said_told said v s c text lawful.only_now (plain.kept may) none is told
said_as Staged said v s c text lawful plain may none nothing is told = said_as_well v s s c said text (staged_said v s c text lawful plain nothing is) told

pub unread_as : {D : Type 0} (d : Durability) (said : List ℕ) (v : Setting D) (s : OpenSpool D) (c : Command) → IsLawful v.device → IsPlainIfSettled v.device s → MayApply d s → ReadsNothing v s c → ReadsNoneShown v s c → MayBeRead c → said ≡ codes "error memory\n"
    → (t : EventStep D) × TakesAs d v s c t s × (said ≡ t.text)
unread_as Durable said v s c lawful plain may none nothing read told = unread_told said v s c lawful.only_now (plain.kept may) none read told
unread_as Staged said v s c lawful plain may none nothing read told = said_as_well v s s c said (codes "error memory\n") (staged_unread v s c lawful plain nothing read) told

-- The same step under an equal command.
pub same_command_as : {D : Type 0} (d : Durability) (said : List ℕ) (v : Setting D) (s s' : OpenSpool D) (c c' : Command) → c ≡ c' → (t : EventStep D) × TakesAs d v s c' t s' × (said ≡ t.text) → (t : EventStep D) × TakesAs d v s c t s' × (said ≡ t.text)
same_command_as Durable said v s s' c c' e step = same_command said v s s' c c' e step
same_command_as Staged said v s s' c c' e (t, takes, told) = (t, record { legal = takes.legal; command = takes.command ∙ sym e; next = takes.next }, told)

-- Nothing was done for an event.
pub unasked_as : {D : Type 0} (d : Durability) (v : DiskView D) (s : OpenSpool D) (e : Event) (fault : ApplyFault) → IsLawful v → IsPlainIfSettled v s → MayApply d s → IsAnswer v s e (Err fault) s → IsAppliedAs d v s e (Err fault) s
unasked_as Durable v s e fault lawful plain may h = unasked v s e fault lawful.only_now (plain.kept may) h
unasked_as Staged v s e fault lawful plain may h = unasked_staged v lawful s e fault plain h

-- ## Closing a job

-- The bytes that were read belong to the document of the command.
pub read_as : {D : Type 0} (d : Durability) (v : DiskView D) (s s' : OpenSpool D) (j count : ℕ) (r : Result (List ℕ) Unread) → s.dead ≡ false → MayApply d s → is_over s.state j ≡ false → reading.IsFrontRead v s j count r s' → IsFrontReadAs d v s j count r s'
read_as Durable v s s' j count r alive may lasts is = read_for v s s' j count r alive (may alive) lasts is
read_as Staged v s s' j count (Ok front) alive may lasts is = (
  read_still v s s' ⊥ alive (is.0.state, is.0.room, is.0.epoch, is.0.held) is.0.disk is.0.blames is.0.dies (λ bad. bad),
  record { document = is.1.document; own = record { long = is.1.is.long; own = is.1.is.own lasts }; front_is = is.1.part_is },
)
read_as Staged v s s' j count (Err unread.Memory) alive may lasts is = is
read_as Staged v s s' j count (Err unread.Disk) alive may lasts is = read_cut v s s' ⊤ alive (is.state, is.room, is.epoch, is.held) is.disk is.blames is.dies tt

alive_before : (old new : Bool) → (IsTrue old → IsTrue new) → new ≡ false → old ≡ false
alive_before false new dies lives = refl
alive_before true new dies lives = let died = dies refl in absurd (cc (died, lives))

-- A read stages nothing.
read_settled : {D : Type 0} (v : DiskView D) (s s' : OpenSpool D) (j count : ℕ) (r : Result (List ℕ) Unread) → NoneStaged s → reading.IsFrontRead v s j count r s' → NoneStaged s'
read_settled v s s' j count (Ok front) settled is = λ lives. is.0.held ∙ settled (alive_before s.dead s'.dead (λ died. is.0.dies.1 (inl died)) lives)
read_settled v s s' j count (Err unread.Memory) settled is = subst NoneStaged (sym is) settled
read_settled v s s' j count (Err unread.Disk) settled is = λ lives. absurd (let died = is.dies.1 (inr tt) in cc (died, lives))

pub front_may : {D : Type 0} (d : Durability) (v : DiskView D) (s s' : OpenSpool D) (j count : ℕ) (r : Result (List ℕ) Unread) → MayApply d s → reading.IsFrontRead v s j count r s' → MayApply d s'
front_may Durable v s s' j count r may is = read_settled v s s' j count r may is
front_may Staged v s s' j count r may is = tt

pub dead_close_as : {D : Type 0} (d : Durability) (said : List ℕ) (v : Setting D) (s : OpenSpool D) (job : ℕ) (name : List ℕ) → IsLawful v.device → IsPlainIfSettled v.device s → MayApply d s → s.dead ≡ true → said ≡ codes "error dead\n"
    → (t : EventStep D) × TakesAs d v s (Close job name) t s × (said ≡ t.text)
dead_close_as Durable said v s job name lawful plain may died told = told_as said v s s job name (codes "error dead\n") (dead_close v s job name lawful (plain.kept may) died) told
dead_close_as Staged said v s job name lawful plain may died told = said_as_well v s s (Close job name) said (codes "error dead\n") (dead_staged_close v s job name lawful plain died) told

pub refused_close_as : {D : Type 0} (d : Durability) (said : List ℕ) (v : Setting D) (s : OpenSpool D) (job : ℕ) (name : List ℕ) (refusal : Refusal) → IsLawful v.device → IsPlainIfSettled v.device s → MayApply d s → s.dead ≡ false
    → refusal_of s.state (events.Close (closing_of v.mime s.state [] job name)) ≡ Some refusal → said ≡ refusal_line refusal → (t : EventStep D) × TakesAs d v s (Close job name) t s × (said ≡ t.text)
refused_close_as Durable said v s job name refusal lawful plain may alive is told = told_as said v s s job name (refusal_line refusal) (refused_close v s job name refusal lawful (plain.kept may) alive is) told
refused_close_as Staged said v s job name refusal lawful plain may alive is told = said_as_well v s s (Close job name) said (refusal_line refusal) (refused_staged_close v s job name refusal lawful plain alive is) told

pub front_close_as : {D : Type 0} (d : Durability) (said : List ℕ) (v : Setting D) (s read s' : OpenSpool D) (job : ℕ) (name front : List ℕ) (count : ℕ) → IsLawful v.device → IsPlainIfSettled v.device s → MayApply d s → s.dead ≡ false
    → ((document : List ℕ) → refusal_of s.state (events.Close (closing_of v.mime s.state document job name)) ≡ None)
    → ((document : List ℕ) → length document ≡ len_at s.state job → media_of v.mime name (take count document) ≡ media_of v.mime name document)
    → IsFrontReadAs d v.device s job count (Ok front) read
    → (a : Result Reply ApplyFault) × IsAppliedAs d v.device read (events.Close (closing_of v.mime read.state front job name)) a s' × (said ≡ event_line (closing_line (closing_of v.mime read.state front job name)) a)
    → (t : EventStep D) × TakesAs d v s (Close job name) t s' × (said ≡ t.text)
front_close_as Durable said v s read s' job name front count lawful plain may alive none enough (still, was) went =
    closed_by_front said v s read s' job name front was.document lawful (plain.kept may) alive (none was.document) still was.own
    (ap (λ (bytes : List ℕ). media_of v.mime name bytes) was.front_is ∙ enough was.document was.own.long) went
front_close_as Staged said v s read s' job name front count lawful plain may alive none enough (still, was) (a, went, text) =
    said_as_well v s s' (Close job name) said (event_line (closing_line (closing_of v.mime read.state front job name)) a)
    (closed_by_shown_front v s read s' job name front was.document lawful alive (none was.document) still was.own
    (ap (λ (bytes : List ℕ). media_of v.mime name bytes) was.front_is ∙ enough was.document was.own.long) a went)
    text

pub memory_close_as : {D : Type 0} (d : Durability) (said : List ℕ) (v : Setting D) (s s' : OpenSpool D) (job count : ℕ) (name : List ℕ) → IsLawful v.device → IsPlainIfSettled v.device s → MayApply d s → s.dead ≡ false
    → refusal_of s.state (events.Close (closing_of v.mime s.state [] job name)) ≡ None → IsFrontReadAs d v.device s job count (Err unread.Memory) s' → said ≡ codes "error memory\n" → (t : EventStep D) × TakesAs d v s (Close job name) t s' × (said ≡ t.text)
memory_close_as Durable said v s s' job count name lawful plain may alive none same told = told_as said v s s' job name (codes "error memory\n") (unread_document v s s' job name lawful (plain.kept may) alive none same) told
memory_close_as Staged said v s s' job count name lawful plain may alive none same told = said_as_well v s s' (Close job name) said (codes "error memory\n") (unread_staged_document v s s' job name lawful plain alive none same) told

pub disk_close_as : {D : Type 0} (d : Durability) (said : List ℕ) (v : Setting D) (s s' : OpenSpool D) (job count : ℕ) (name : List ℕ) → IsLawful v.device → IsPlainIfSettled v.device s → MayApply d s
    → refusal_of s.state (events.Close (closing_of v.mime s.state [] job name)) ≡ None → IsFrontReadAs d v.device s job count (Err unread.Disk) s' → said ≡ codes "error disk\n" → (t : EventStep D) × TakesAs d v s (Close job name) t s' × (said ≡ t.text)
disk_close_as Durable said v s s' job count name lawful plain may none cut told = told_as said v s s' job name (codes "error disk\n") (unreadable_document v s s' job name (plain.kept may) none cut) told
disk_close_as Staged said v s s' job count name lawful plain may none cut told = said_as_well v s s' (Close job name) said (codes "error disk\n") (unreadable_staged_document v s s' job name lawful none cut) told

-- ## With slots and children that do not change

pub event_lifted_as : {D : Type 0} (d : Durability) (said : List ℕ) (v : Setting D) (e e' : OpenSpool D) (slots : Slots) (told : Option ChildTrace) (s : RunState D) (c : Command) → run_state e slots told ≡ s → withholds slots c ≡ false
    → (t : EventStep D) × TakesAs d v e c t e' × (said ≡ t.text) → (t : CommandStep D) × TakesStepAs d v s c t (run_state e' slots told) × (said ≡ t.text)
event_lifted_as Durable said v e e' slots told s c is free step = event_lifted said v e e' slots told s c is free step
event_lifted_as {D} Staged said v e e' slots told s c is free step =
    subst (λ y. (t : CommandStep D) × StagesStep v y c t (run_state e' slots told) × (said ≡ t.text)) is
    (held_staged said v (run_state e slots told) (run_state e' slots told) c (record { slots = refl; told = refl }) free step)

-- The same if the spool did not change.
pub listed_as : {D : Type 0} (d : Durability) (said : List ℕ) (v : Setting D) (e : OpenSpool D) (slots : Slots) (told : Option ChildTrace) (s : RunState D) (c : Command) → run_state e slots told ≡ s → withholds slots c ≡ false
    → (t : EventStep D) × TakesAs d v e c t e × (said ≡ t.text) → (t : CommandStep D) × TakesStepAs d v s c t s × (said ≡ t.text)
listed_as Durable said v e slots told s c is free step = listed said v e slots told s c is free step
listed_as {D} Staged said v e slots told s c is free step =
    subst (λ y. (t : CommandStep D) × StagesStep v y c t y × (said ≡ t.text)) is
    (held_staged said v (run_state e slots told) (run_state e slots told) c (record { slots = refl; told = refl }) free step)

pub said_lifted_as : {D : Type 0} (d : Durability) (said : List ℕ) (v : Setting D) (s : RunState D) (c : Command) → withholds s.slots c ≡ false
    → (t : EventStep D) × TakesAs d v s.spool c t s.spool × (said ≡ t.text) → (t : CommandStep D) × TakesStepAs d v s c t s × (said ≡ t.text)
said_lifted_as Durable said v s c free step = said_lifted said v s c free step
said_lifted_as Staged said v s c free step = held_staged said v s s c (record { slots = refl; told = refl }) free step

-- A purge of a job whose child runs changes nothing.
pub withheld_as : {D : Type 0} (d : Durability) (said : List ℕ) (v : Setting D) (s : RunState D) (c : Command) → IsLawful v.device → IsPlainIfSettled v.device s.spool → MayApply d s.spool → withholds s.slots c ≡ true → said ≡ withheld_line
    → (t : CommandStep D) × TakesStepAs d v s c t s × (said ≡ t.text)
withheld_as Durable said v s c lawful plain may is told = withheld_turn said v s c lawful.only_now (plain.kept may) is told
withheld_as Staged said v s c lawful plain may is told = withheld_staged said v s c lawful plain is told
