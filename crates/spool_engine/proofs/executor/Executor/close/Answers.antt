-- A job is closed by its document, if that is read. If the spool is not asked, it does not change.
use Rattle.std.proofs.Common.{List, ℕ, refl, sym, ap, subst, ◌∙◌, codes, [], Ok, Err}
use Rattle.spool_types.specs.declared.event.Event.TheVariants.{Close as Closes}
use Rattle.job_table.specs.Step.{refusal_of}
use Rattle.command_lines.specs.Replies.{refusal_line}
use Rattle.spool_core.specs.declared.reading.Unread.{Unread}
use Rattle.spool_engine.specs.AnswerTexts.{answer_text}
use Rattle.spool_engine.specs.EventSteps.{setting}
use Rattle.spool_engine.specs.StagedSteps.{IsFrontReadAs}
use Rattle.spool_engine.specs.Script.{closing_of}
use Rattle.spool_engine.proofs.CloseLaws.{is_there, not_over}
use Rattle.spool_engine.proofs.DurabilityLaws.{dead_close_as, disk_close_as, front_close_as, memory_close_as, refused_close_as}
use Rattle.spool_engine.proofs.executor.Executor.close.Goals as goal

pub returns-then-met_fault : goal.returns-then-met_fault
returns-then-met_fault g c = record {
  taken = λ p.
      let s = c.args.self.now in
      let v = setting g.D.Disk.device c.args.mime.now p in
      dead_close_as c.args.durability (answer_text s.state c.fault_answer.result) v s c.args.job c.args.name.now g.met.D.Disk.lawful c.if-met_fault.ensures.plain c.requires.may (sym c.if-met_fault.ensures.dead) (c.fault_answer.ensures s.state);
  may = c.requires.may;
}

pub returns-in-Some : goal.returns-in-Some
returns-in-Some g c = record {
  taken = λ p.
      let s = c.args.self.now in
      let v = setting g.D.Disk.device c.args.mime.now p in
      let n = closing_of v.mime s.state [] c.args.job c.args.name.now in
      let is = ap (λ t. refusal_of t (Closes n)) (sym c.table.ensures) ∙ sym (c.close_refusal.ensures n refl) ∙ c.in-Some.is in
      refused_close_as c.args.durability (answer_text s.state c.fault_answer-in-Some.result) v s c.args.job c.args.name.now c.in-Some.refusal g.met.D.Disk.lawful c.if-met_fault.ensures.plain c.requires.may (sym c.if-met_fault.ensures.dead) is (c.fault_answer-in-Some.ensures s.state);
  may = c.requires.may;
}

pub reach-count-requires : goal.reach-count-requires
reach-count-requires g c =
    let s = c.args.self.now in
    let n = closing_of c.args.mime.now s.state [] c.args.job c.args.name.now in
    is_there s.state n (ap (λ t. refusal_of t (Closes n)) (sym c.table.ensures) ∙ sym (c.close_refusal.ensures n refl) ∙ c.in_default.is)

pub front-requires-clause-there : goal.front-requires-clause-there
front-requires-clause-there g c =
    let s = c.args.self.now in
    let n = closing_of c.args.mime.now s.state [] c.args.job c.args.name.now in
    is_there s.state n (ap (λ t. refusal_of t (Closes n)) (sym c.table.ensures) ∙ sym (c.close_refusal.ensures n refl) ∙ c.in_default.is)

pub front-requires-clause-lasts : goal.front-requires-clause-lasts
front-requires-clause-lasts g c =
    let s = c.args.self.now in
    let n = closing_of c.args.mime.now s.state [] c.args.job c.args.name.now in
    not_over s.state n (ap (λ t. refusal_of t (Closes n)) (sym c.table.ensures) ∙ sym (c.close_refusal.ensures n refl) ∙ c.in_default.is)

pub returns-in-Ok : goal.returns-in-Ok
returns-in-Ok g c = record {
  taken = λ p.
      let s = c.args.self.now in
      let v = setting g.D.Disk.device c.args.mime.now p in
      let none = λ (document : List ℕ).
      let n = closing_of v.mime s.state document c.args.job c.args.name.now in
      ap (λ t. refusal_of t (Closes n)) (sym c.table.ensures) ∙ sym (c.close_refusal.ensures n refl) ∙ c.in_default.is in
      front_close_as c.args.durability (answer_text c.close_typed.new.self.state c.close_typed.result) v s c.front.new.self c.close_typed.new.self c.args.job c.args.name.now c.as_slice.result.now c.reach-count.result g.met.D.Disk.lawful c.if-met_fault.ensures.plain c.requires.may (sym c.if-met_fault.ensures.dead) none
      (λ document long. c.reach-count.ensures.enough c.args.name.now document long)
      (subst (λ (front : List ℕ). IsFrontReadAs c.args.durability g.D.Disk.device s c.args.job c.reach-count.result (Ok front) c.front.new.self) (sym c.as_slice.ensures) c.in-Ok.ensures.read)
      c.close_typed.ensures.taken;
  may = c.close_typed.ensures.may;
}

pub returns-in-Err-Memory : goal.returns-in-Err-Memory
returns-in-Err-Memory g c = record {
  taken = λ p.
      let s = c.args.self.now in
      let v = setting g.D.Disk.device c.args.mime.now p in
      let n = closing_of v.mime s.state [] c.args.job c.args.name.now in
      let none = ap (λ t. refusal_of t (Closes n)) (sym c.table.ensures) ∙ sym (c.close_refusal.ensures n refl) ∙ c.in_default.is in
      let same = rw c.in-Err-Memory.field-0-is at c.in-Err-Memory.ensures.read in
      memory_close_as c.args.durability (answer_text c.front.new.self.state c.fault_answer-in-Err-Memory.result) v s c.front.new.self c.args.job c.reach-count.result c.args.name.now g.met.D.Disk.lawful c.if-met_fault.ensures.plain c.requires.may (sym c.if-met_fault.ensures.dead) none same
      (c.fault_answer-in-Err-Memory.ensures c.front.new.self.state);
  may = c.front.ensures.may;
}

pub returns-in-Err-Disk : goal.returns-in-Err-Disk
returns-in-Err-Disk g c = record {
  taken = λ p.
      let s = c.args.self.now in
      let v = setting g.D.Disk.device c.args.mime.now p in
      let n = closing_of v.mime s.state [] c.args.job c.args.name.now in
      let none = ap (λ t. refusal_of t (Closes n)) (sym c.table.ensures) ∙ sym (c.close_refusal.ensures n refl) ∙ c.in_default.is in
      let cut = rw c.in-Err-Disk.field-0-is at c.in-Err-Disk.ensures.read in
      disk_close_as c.args.durability (answer_text c.front.new.self.state c.fault_answer-in-Err-Disk.result) v s c.front.new.self c.args.job c.reach-count.result c.args.name.now g.met.D.Disk.lawful c.if-met_fault.ensures.plain c.requires.may none cut
      (c.fault_answer-in-Err-Disk.ensures c.front.new.self.state);
  may = c.front.ensures.may;
}
