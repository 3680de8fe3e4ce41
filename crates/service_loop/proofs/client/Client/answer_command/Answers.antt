-- One action: a tick, or a command step of the engine.
use Rattle.std.proofs.Common.{refl, sym}
use Rattle.service_loop.proofs.ClientStepLaws.{answered_by_tick, answered_by_turn, is_round_one, is_no_round}
use Rattle.service_loop.proofs.client.Client.answer_command.Goals as goal

pub returns-in_ok-add_answer-in-Round-clause-done : goal.returns-in_ok-add_answer-in-Round-clause-done
returns-in_ok-add_answer-in-Round-clause-done g c =
    let ticked = c.tick-counts.ensures in
    answered_by_tick _ _ _ _ _ _ c.args.command c.tick-counts.result _ (record { limits = _; next = _; result = c.tick-counts.result; tried = ticked.tick.0 }) refl refl ticked.calls.mime ticked.calls.place
    (is_round_one c.args.command c.in-Round.is) c.requires.role ticked.tick.1 (c.round_answer.ensures c.table.result.now.state) c.in_ok-add_answer-in-Round.ensures.added c.requires.waits c.in_ok-add_answer-in-Round.ensures.status

pub returns-in_ok-note_created-in_default-clause-done : goal.returns-in_ok-note_created-in_default-clause-done
returns-in_ok-note_created-in_default-clause-done g c =
    let (t, takes, same) = c.in_ok-answer-in_default.ensures.executed in
    let kept = c.execute.ensures in
    let added = c.in_ok-add_shown_answer-in_default.ensures in
    answered_by_turn _ _ _ _ _ _ _ c.args.command t c.in_ok-answer-in_default.answer kept.calls.mime kept.calls.place
    (is_no_round c.args.command c.in_default.not-Round c.in_default.not-Drain) c.requires.role takes same
    (rw (sym c.table-in_default.ensures) added.added) added.status c.requires.waits c.in_ok-note_created-in_default.ensures.ok c.in_ok-note_created-in_default.ensures.kept

pub execute-requires : goal.execute-requires
execute-requires g c = is_no_round c.args.command c.in_default.not-Round c.in_default.not-Drain
