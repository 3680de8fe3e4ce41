-- A queue is added if its URI is that of a device.
use Rattle.std.proofs.Common.{refl, sym, ap, ◌∙◌, codes, Err}
use Rattle.spool_types.specs.declared.event.Event.TheVariants.{AddQueue}
use Rattle.device_uri.specs.DeviceUris.{is_device_uri}
use Rattle.command_lines.specs.declared.command.Command.TheVariants.{Queue}
use Rattle.spool_engine.specs.AnswerTexts.{answer_text}
use Rattle.spool_engine.specs.EventSteps.{setting}
use Rattle.spool_engine.specs.Script.{reply_line}
use Rattle.spool_engine.proofs.DurabilityLaws.{event_as, said_as, unread_as}
use Rattle.spool_engine.proofs.EventLaws.{queue_event, no_queue_event}
use Rattle.spool_engine.proofs.executor.Executor.add_queue.Goals as goal

pub returns-in-Ok : goal.returns-in-Ok
returns-in-Ok g c = record {
  taken = λ m p.
      let s = c.args.self.now in
      let q = c.args.queue in
      let is = queue_event m s.state q (ap is_device_uri (sym c.as_str.ensures.value) ∙ c.in-Ok.ensures.device) in
      event_as c.args.durability (answer_text c.execute_event.new.self.state c.execute_event.result) (setting g.D.Disk.device m p) s _ (Queue q) (AddQueue q) reply_line g.met.D.Disk.lawful (λ o. tt) (λ o. tt) is c.execute_event.ensures.taken;
  may = c.execute_event.ensures.may;
}

pub returns-in-Err-BadUri : goal.returns-in-Err-BadUri
returns-in-Err-BadUri g c = record {
  taken = λ m p.
      let s = c.args.self.now in
      let q = c.args.queue in
      let is = no_queue_event m s.state q (ap is_device_uri (sym c.as_str.ensures.value) ∙ c.in-Err-BadUri.ensures.no_device (ap Err c.in-Err-BadUri.field-0-is)) in
      said_as c.args.durability (codes "error uri\n") (setting g.D.Disk.device m p) s (Queue q) (codes "error uri\n") g.met.D.Disk.lawful c.met_fault-plain.ensures.plain c.requires.may (λ o. tt) (λ o. tt) is refl;
  may = c.requires.may;
}

pub returns : goal.returns
returns g c = record {
  taken = λ m p.
      unread_as c.args.durability (codes "error memory\n") (setting g.D.Disk.device m p) c.args.self.now (Queue c.args.queue) g.met.D.Disk.lawful c.met_fault-plain.ensures.plain c.requires.may (λ o. tt) (λ o. tt) c.as_str.ensures.allowed refl;
  may = c.requires.may;
}
