use Rattle.service_loop.proofs.CallLaws.{along_after, along_service}
use Rattle.service_loop.proofs.laws.crashes_lose_no_call.Goals as goal

pub returns-clause-calls : goal.returns-clause-calls
returns-clause-calls g c = λ old new goes kept alive tells.
    along_service g.D.Disk.device old new goes (c.crashes_between_calls.ensures.calls old.mime old.place old.run_state goes.calls kept goes.are alive tells)

pub returns-clause-durable : goal.returns-clause-durable
returns-clause-durable g c = λ old mid new before after kept durable tells.
    along_after g.D.Disk.device old mid new before after (c.crashes_between_calls.ensures.tables old.mime old.place old.run_state before.calls after.calls kept) durable tells
