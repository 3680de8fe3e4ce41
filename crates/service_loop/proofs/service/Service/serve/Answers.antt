-- The calls of each turn follow those of the previous turns.
use Rattle.std.proofs.Common.{ap}
use Rattle.service_loop.proofs.CallLaws.{within_kept, within_none, within_then}
use Rattle.service_loop.proofs.HistoryLaws.{history_kept, history_none, history_then}
use Rattle.service_loop.proofs.service.Service.serve.Goals as goal
use Rattle.service_loop.proofs.service.Service.serve.Goals.{else-loop-test, then-loop-test+in_ok-turn+then-not-branch}

pub loop-init : goal.loop-init
loop-init g c = record { calls = within_none g.D.Disk.device _ _; history = history_none _ _ _ _ }

pub returns-in_err-turn-clause-calls : goal.returns-in_err-turn-clause-calls
returns-in_err-turn-clause-calls g c = within_then g.D.Disk.device _ _ _ _ _ _ c.loop.invariant.calls c.turn.ensures.calls

pub loop-preserved : goal.loop-preserved
loop-preserved g c = record {
  calls = within_then g.D.Disk.device _ _ _ _ _ _ c.loop.invariant.calls c.turn.ensures.calls;
  history = history_then _ _ _ _ _ _ _ _ c.loop.invariant.history c.turn.ensures.history;
}

pub returns-clause-calls : goal.returns-clause-calls
returns-clause-calls g c =
    elim c.loop-test.branch [
      | else-loop-test w ↦ within_kept g.D.Disk.device _ _ _ _ _ _ c.loop.invariant.calls (ap (λ s. s.shared.engine) w.self-is) (ap (λ s. s.shared.most) w.self-is)
      | then-loop-test+in_ok-turn+then-not-branch w ↦ within_kept g.D.Disk.device _ _ _ _ _ _ (within_then g.D.Disk.device _ _ _ _ _ _ c.loop.invariant.calls w.turn.ensures.calls) (ap (λ s. s.shared.engine) w.self-is) (ap (λ s. s.shared.most) w.self-is)
    ]

pub returns-2-clause-calls : goal.returns-2-clause-calls
returns-2-clause-calls g c =
    elim c.loop-test.branch [
      | else-loop-test w ↦ within_kept g.D.Disk.device _ _ _ _ _ _ c.loop.invariant.calls (ap (λ s. s.shared.engine) w.self-is) (ap (λ s. s.shared.most) w.self-is)
      | then-loop-test+in_ok-turn+then-not-branch w ↦ within_kept g.D.Disk.device _ _ _ _ _ _ (within_then g.D.Disk.device _ _ _ _ _ _ c.loop.invariant.calls w.turn.ensures.calls) (ap (λ s. s.shared.engine) w.self-is) (ap (λ s. s.shared.most) w.self-is)
    ]

pub returns-in_err-turn-clause-history : goal.returns-in_err-turn-clause-history
returns-in_err-turn-clause-history g c = history_then _ _ _ _ _ _ _ _ c.loop.invariant.history c.turn.ensures.history

pub returns-clause-history : goal.returns-clause-history
returns-clause-history g c =
    elim c.loop-test.branch [
      | else-loop-test w ↦ history_kept _ _ _ _ _ _ _ _ c.loop.invariant.history (ap (λ s. s.shared.engine) w.self-is) (ap (λ s. s.clients.slots) w.self-is)
      | then-loop-test+in_ok-turn+then-not-branch w ↦
          history_kept _ _ _ _ _ _ _ _ (history_then _ _ _ _ _ _ _ _ c.loop.invariant.history w.turn.ensures.history) (ap (λ s. s.shared.engine) w.self-is)
          (ap (λ s. s.clients.slots) w.self-is)
    ]

pub returns-2-clause-history : goal.returns-2-clause-history
returns-2-clause-history g c =
    elim c.loop-test.branch [
      | else-loop-test w ↦ history_kept _ _ _ _ _ _ _ _ c.loop.invariant.history (ap (λ s. s.shared.engine) w.self-is) (ap (λ s. s.clients.slots) w.self-is)
      | then-loop-test+in_ok-turn+then-not-branch w ↦
          history_kept _ _ _ _ _ _ _ _ (history_then _ _ _ _ _ _ _ _ c.loop.invariant.history w.turn.ensures.history) (ap (λ s. s.shared.engine) w.self-is)
          (ap (λ s. s.clients.slots) w.self-is)
    ]
