use Rattle.std.proofs.Common.{rules, tests, ◌≡◌, ◌+◌, ◌<◌, arith, true, false, [], ◌∷◌, ◌++◌, length, get_or, sym, ap, subst, ◌∙◌, append-nil, take}
use Rattle.std.specs.FinMap as finite
use Rattle.std.specs.Option.{option_or}
use Rattle.std.proofs.lemmas.List.{get_or_default, map-append}
use Rattle.std.specs.Prelude.{vec_capacity}
use Rattle.job_table.specs.Attempts.{next_of}
use Rattle.print_rounds.specs.Counts.{start_events, start_fault, starting_events, starting_fault}
use Rattle.print_rounds.specs.Happenings.{HaveHappened, happenings_of}
use Rattle.print_rounds.proofs.HappenedLaws.{start_happened, with_room}
use Rattle.print_rounds.specs.RunStates.{Starting, AreStartings}
use Rattle.print_rounds.specs.Passes.{unblocked}
use Rattle.print_rounds.proofs.BlockLaws.{unblocked_more}
use Rattle.print_rounds.proofs.StartLaws.{queue_count, starts_keys}
use Rattle.print_rounds.proofs.TraceLaws.{more_starts, one_fault, starts_settled}
use Rattle.print_rounds.proofs.starts.start_free.Goals as goal
use Rattle.print_rounds.proofs.starts.start_free.Goals.{then-not-blocked-at, else-not-blocked-at}

pub start_next-answer-requires-clause-within : goal.start_next-answer-requires-clause-within
start_next-answer-requires-clause-within g c =
    let (ts, starts, queues, fault, noted) = c.loop-at.invariant.starts in
    let count = queue_count c.queues-at-end.result.now (finite.keys c.table.result.now.state.queues) c.queues-at-end.ensures.names in
    let same = ap (λ s. finite.keys s.queues) c.table.ensures.table ∙ sym (starts_keys g.D.Disk.device c.args.spool.now ts c.loop-at.spool starts) in
    subst (λ n. c.loop-at.at < n) (count ∙ ap length same) c.loop-at-test.true

pub start_next-answer-requires-clause-settled : goal.start_next-answer-requires-clause-settled
start_next-answer-requires-clause-settled g c =
    let (ts, starts, queues, fault, noted) = c.loop-at.invariant.starts in
    starts_settled g.D.Disk.device c.args.spool.now ts c.loop-at.spool c.requires.settled starts

pub loop-at-preserved : goal.loop-at-preserved
loop-at-preserved g c =
    let (ts, starts, queues, fault, noted) = c.loop-at.invariant.starts in
    let old = c.args.spool.now in
    let names = finite.keys old.state.queues in
    let flags = c.args.blocked.now in
    let at = c.loop-at.at in
    let count = queue_count c.queues-at-end.result.now (finite.keys c.table.result.now.state.queues) c.queues-at-end.ensures.names ∙ ap (λ s. length (finite.keys s.queues)) c.table.ensures.table in
    let lt : at < length names = subst (λ n. at < n) count c.loop-at-test.true in
    elim c.if-not-blocked-at.branch [
      | then-not-blocked-at w ↦
          let (name, there, is, more) = w.start_next-answer.ensures.start in
          let t : Starting g.row.D.Denot = record { queue = name; answer = w.start_next-answer.result; next = w.start_next-answer.new.spool } in
          let off : get_or flags at false ≡ false = search (rules, tests, w.if-not-blocked-at.true) in
          let there_first = there ∙ ap (λ ks. get_or ks at name) (starts_keys g.D.Disk.device old ts c.loop-at.spool starts) in
          let capacity = c.loop-at.invariant.capacity in record {
            starts = (
              ts ++ t ∷ [],
              subst (λ s. AreStartings g.D.Disk.device old (ts ++ t ∷ []) s) (sym w.spool-is) (more_starts g.D.Disk.device old c.loop-at.spool ts t starts is),
              map-append (λ (t : Starting g.row.D.Denot). t.queue) ts (t ∷ []) ∙ ap (λ ns. ns ++ name ∷ []) queues ∙ sym (unblocked_more flags names at false false name c.requires.count lt (sym off) there_first),
              w.fault-is ∙ w.or-fault.ensures ∙ ap (λ f. option_or f w.start_fault.result) fault ∙ ap (option_or (starting_fault ts)) w.start_fault.ensures ∙ sym (one_fault (λ (t : Starting g.row.D.Denot). start_fault t.answer) ts t),
              subst (λ list. HaveHappened (vec_capacity c.args.happened.now) (at + 1) c.args.happened.now.items list (happenings_of (starting_events old (ts ++ t ∷ [])))) (sym (ap (λ v. v.items) w.happened-is))
                  (start_happened g.D.Disk.device (vec_capacity c.args.happened.now) at old c.loop-at.spool ts t starts c.args.happened.now.items c.loop-at.happened.items w.start_next-answer.new.happened.items noted
                  (subst (λ n. HaveHappened n 1 c.loop-at.happened.items w.start_next-answer.new.happened.items (happenings_of (start_events (next_of c.loop-at.spool.state name) w.start_next-answer.result))) capacity more)),
            );
            capacity = ap vec_capacity w.happened-is ∙ w.start_next-answer.ensures.capacity ∙ capacity;
          }
      | else-not-blocked-at w ↦
          let on : get_or flags at false ≡ true = search (rules, tests, w.if-not-blocked-at.false) in
          let first = unblocked (take at flags) (take at names) in record {
            starts = (
              ts,
              subst (λ s. AreStartings g.D.Disk.device old ts s) (sym w.spool-is) starts,
              queues ∙ sym (append-nil first) ∙ sym (unblocked_more flags names at true false (get_or names at []) c.requires.count lt (sym on) (get_or_default names at [] (get_or names at []) lt)),
              w.fault-is ∙ fault,
              subst (λ list. HaveHappened (vec_capacity c.args.happened.now) (at + 1) c.args.happened.now.items list (happenings_of (starting_events old ts))) (sym (ap (λ v. v.items) w.happened-is))
                  (with_room (vec_capacity c.args.happened.now) at (at + 1) c.args.happened.now.items c.loop-at.happened.items (happenings_of (starting_events old ts)) (omega arith) noted),
            );
            capacity = ap vec_capacity w.happened-is ∙ c.loop-at.invariant.capacity;
          }
    ]
