-- The verdict is that of the job's queue.
use Rattle.std.proofs.Common.{sym, subst}
use Rattle.job_table.specs.Attempts.{lost_by}
use Rattle.job_table.specs.Legal.{IsLegal}
use Rattle.spool_types.specs.declared.event.Event.TheVariants.{Abandon}
use Rattle.job_table.proofs.Accepted.{busy_abandon}
use Rattle.job_table.proofs.Legal.{legal_after}
use Rattle.job_table.proofs.Steps.{rule_same}
use Rattle.job_table.proofs.store.Store.abandon.Goals as goal

pub rule-requires-clause-busy : goal.rule-requires-clause-busy
rule-requires-clause-busy c = busy_abandon c.args.self.now.state c.args.job c.requires

pub rule-requires-clause-legal : goal.rule-requires-clause-legal
rule-requires-clause-legal c = λ legal.
    subst IsLegal (sym (rule_same c.args.self.now.state c.args.job c.verdict_on_lost-verdict.result lost_by c.verdict_on_lost-verdict.ensures))
    (legal_after c.args.self.now.state (Abandon c.args.job) tt c.requires legal)
