-- One action: the answer to the word, over the table.
use Rattle.std.proofs.Common.{◌≡◌, ◌⊎◌, true, ℕ, List, Bor, refl, ap, sym, inl, inr, codes, subst}
use Rattle.event_records.specs.SeenTimes.{job_times, queue_time}
use Rattle.queue_sayings.specs.QueueSayings.{all_queues_shown}
use Rattle.service_texts.specs.FoundTexts.{found_text}
use Rattle.service_texts.specs.LeftJobs.{incoming_text}
use Rattle.service_texts.specs.Listings.{listed_text}
use Rattle.service_texts.specs.MeasuredTexts.{now_text}
use Rattle.service_texts.specs.Shown.{shown_job}
use Rattle.client_roles.specs.RoleTable.{is_allowed}
use Rattle.client_reader.specs.declared.ask.Ask.TheVariants as asking
use Rattle.service_texts.specs.declared.own_words.OwnWord.{OwnWord}
use Rattle.service_texts.specs.declared.own_words.OwnWord.TheVariants as words
use Rattle.service_loop.specs.ClientActions.{IsSaid, moment_of}
use Rattle.service_loop.specs.ClientSteps.{IsAnswered}
use Rattle.service_loop.proofs.ClientStepLaws.{answered_by_offer, answered_by_proof, answered_by_word}
use Rattle.service_loop.proofs.client.Client.answer_own.Goals as goal
use Rattle.service_loop.proofs.client.Client.answer_own.Goals.{then-ends, else-ends}

pub returns-in_ok-show_job-in-Job-clause-done : goal.returns-in_ok-show_job-in-Job-clause-done
returns-in_ok-show_job-in-Job-clause-done g c =
    let e = c.in_ok-show_job-in-Job.ensures in
    let s = c.args.shared.now.engine.run_state.spool.state in
    let times = job_times c.args.shared.now.records.seen in
    let text = shown_job c.args.self.now.standing times s c.in-Job.job in
    let said : IsSaid c.args.self.now.standing s c.args.word text = (rw c.in-Job.is (times, refl)) in
    answered_by_word _ _ _ _ _ c.args.word text c.requires.role said e.shown c.requires.waits (rw c.in-Job.is (sym e.status))

pub returns-in_ok-show_queue-in-Queue-clause-done : goal.returns-in_ok-show_queue-in-Queue-clause-done
returns-in_ok-show_queue-in-Queue-clause-done g c =
    let e = c.in_ok-show_queue-in-Queue.ensures in
    let s = c.args.shared.now.engine.run_state.spool.state in
    let said : IsSaid c.args.self.now.standing s c.args.word e.shown.0 = (rw c.in-Queue.is (queue_time c.args.shared.now.records.seen c.in-Queue.name, e.shown.1)) in
    answered_by_word _ _ _ _ _ c.args.word e.shown.0 c.requires.role said e.shown.2 c.requires.waits (rw c.in-Queue.is (sym e.status))

pub returns-in_ok-list-in-List-clause-done : goal.returns-in_ok-list-in-List-clause-done
returns-in_ok-list-in-List-clause-done g c =
    let e = c.in_ok-list-in-List.ensures in
    let s = c.args.shared.now.engine.run_state.spool.state in
    let times = job_times c.args.shared.now.records.seen in
    let text = listed_text c.args.self.now.standing times c.in-List.selection s in
    let said : IsSaid c.args.self.now.standing s c.args.word text = (rw c.in-List.is (times, refl)) in
    answered_by_word _ _ _ _ _ c.args.word text c.requires.role said e.shown c.requires.waits (rw c.in-List.is (sym e.status))

pub returns-in_ok-find-in-Find-clause-done : goal.returns-in_ok-find-in-Find-clause-done
returns-in_ok-find-in-Find-clause-done g c =
    let e = c.in_ok-find-in-Find.ensures in
    let s = c.args.shared.now.engine.run_state.spool.state in
    let tokens = c.args.shared.now.known.tokens in
    let text = found_text tokens s c.in-Find.token in
    let said : IsSaid c.args.self.now.standing s c.args.word text = (rw c.in-Find.is (tokens, refl)) in
    answered_by_word _ _ _ _ _ c.args.word text c.requires.role said e.found c.requires.waits (rw c.in-Find.is (sym e.status))

pub returns-in_ok-list_left-in-Incoming-clause-done : goal.returns-in_ok-list_left-in-Incoming-clause-done
returns-in_ok-list_left-in-Incoming-clause-done g c =
    let e = c.in_ok-list_left-in-Incoming.ensures in
    let s = c.args.shared.now.engine.run_state.spool.state in
    let left = c.args.shared.now.known.left in
    let now = c.args.shared.now.known.now in
    let text = incoming_text now s left in
    let said : IsSaid c.args.self.now.standing s c.args.word text = (rw c.in-Incoming.is (now, left, refl)) in
    answered_by_word _ _ _ _ _ c.args.word text c.requires.role said e.shown c.requires.waits (rw c.in-Incoming.is (sym e.status))

pub returns-in_ok-show_room-in-Room-clause-done : goal.returns-in_ok-show_room-in-Room-clause-done
returns-in_ok-show_room-in-Room-clause-done g c = (rw c.in-Room.is c.in_ok-show_room-in-Room.ensures.done)

pub show_room-requires-clause-role : goal.show_room-requires-clause-role
show_room-requires-clause-role g c = subst (λ (word : OwnWord). is_allowed c.args.self.now.standing c.args.shared.now.engine.run_state.spool.state (asking.Own word) ≡ true) c.in-Room.is c.requires.role

pub returns-in_ok-show_now-in-Now-clause-done : goal.returns-in_ok-show_now-in-Now-clause-done
returns-in_ok-show_now-in-Now-clause-done g c =
    let e = c.in_ok-show_now-in-Now.ensures in
    let s = c.args.shared.now.engine.run_state.spool.state in
    let now = c.args.shared.now.records.now in
    let text = now_text (moment_of now s) in
    let said : IsSaid c.args.self.now.standing s c.args.word text = (rw c.in-Now.is (now, refl)) in
    answered_by_word _ _ _ _ _ c.args.word text c.requires.role said e.shown c.requires.waits (rw c.in-Now.is (sym e.status))

pub returns-in_ok-show_queues-in-Printers-clause-done : goal.returns-in_ok-show_queues-in-Printers-clause-done
returns-in_ok-show_queues-in-Printers-clause-done g c =
    let e = c.in_ok-show_queues-in-Printers.ensures in
    let s = c.args.shared.now.engine.run_state.spool.state in
    let text = all_queues_shown c.args.self.now.standing s in
    let said : IsSaid c.args.self.now.standing s c.args.word text = (rw c.in-Printers.is refl) in
    answered_by_word _ _ _ _ _ c.args.word text c.requires.role said e.shown c.requires.waits (rw c.in-Printers.is (sym e.status))

pub returns-in_ok-show_why-in-Why-clause-done : goal.returns-in_ok-show_why-in-Why-clause-done
returns-in_ok-show_why-in-Why-clause-done g c =
    let e = c.in_ok-show_why-in-Why.ensures in
    let s = c.args.shared.now.engine.run_state.spool.state in
    let said : IsSaid c.args.self.now.standing s c.args.word e.shown.1 = (rw c.in-Why.is (e.shown.0, e.shown.2)) in
    answered_by_word _ _ _ _ _ c.args.word e.shown.1 c.requires.role said e.shown.3 c.requires.waits (rw c.in-Why.is (sym e.status))

pub returns-in_ok-wait_for-in-Wait-clause-done : goal.returns-in_ok-wait_for-in-Wait-clause-done
returns-in_ok-wait_for-in-Wait-clause-done g c = (rw c.in-Wait.is c.in_ok-wait_for-in-Wait.ensures.done)

pub wait_for-requires-clause-role : goal.wait_for-requires-clause-role
wait_for-requires-clause-role g c = subst (λ (word : OwnWord). is_allowed c.args.self.now.standing c.args.shared.now.engine.run_state.spool.state (asking.Own word) ≡ true) c.in-Wait.is c.requires.role

pub returns-in_ok-watch-in-Watch-clause-done : goal.returns-in_ok-watch-in-Watch-clause-done
returns-in_ok-watch-in-Watch-clause-done g c = (rw c.in-Watch.is c.in_ok-watch-in-Watch.ensures.done)

pub watch-requires-clause-role : goal.watch-requires-clause-role
watch-requires-clause-role g c = subst (λ (word : OwnWord). is_allowed c.args.self.now.standing c.args.shared.now.engine.run_state.spool.state (asking.Own word) ≡ true) c.in-Watch.is c.requires.role

pub returns-in_ok-watch_after-in-WatchFrom-clause-done : goal.returns-in_ok-watch_after-in-WatchFrom-clause-done
returns-in_ok-watch_after-in-WatchFrom-clause-done g c = (rw c.in-WatchFrom.is c.in_ok-watch_after-in-WatchFrom.ensures.done)

pub watch_after-requires-clause-role : goal.watch_after-requires-clause-role
watch_after-requires-clause-role g c = subst (λ (word : OwnWord). is_allowed c.args.self.now.standing c.args.shared.now.engine.run_state.spool.state (asking.Own word) ≡ true) c.in-WatchFrom.is c.requires.role

pub returns-in_ok-stop_job-in-Stop-clause-done : goal.returns-in_ok-stop_job-in-Stop-clause-done
returns-in_ok-stop_job-in-Stop-clause-done g c = (rw c.in-Stop.is c.in_ok-stop_job-in-Stop.ensures.done)

pub returns-in_ok-close_as-in-CloseAs-clause-done : goal.returns-in_ok-close_as-in-CloseAs-clause-done
returns-in_ok-close_as-in-CloseAs-clause-done g c = (rw c.in-CloseAs.is c.in_ok-close_as-in-CloseAs.ensures.done)

pub returns-in_ok-close_at-in-CloseAt-clause-done : goal.returns-in_ok-close_at-in-CloseAt-clause-done
returns-in_ok-close_at-in-CloseAt-clause-done g c = (rw c.in-CloseAt.is c.in_ok-close_at-in-CloseAt.ensures.done)

pub stop_job-requires-clause-role : goal.stop_job-requires-clause-role
stop_job-requires-clause-role g c = subst (λ (word : OwnWord). is_allowed c.args.self.now.standing c.args.shared.now.engine.run_state.spool.state (asking.Own word) ≡ true) c.in-Stop.is c.requires.role

pub close_as-requires-clause-role : goal.close_as-requires-clause-role
close_as-requires-clause-role g c = subst (λ (word : OwnWord). is_allowed c.args.self.now.standing c.args.shared.now.engine.run_state.spool.state (asking.Own word) ≡ true) c.in-CloseAs.is c.requires.role

pub close_at-requires-clause-role : goal.close_at-requires-clause-role
close_at-requires-clause-role g c = subst (λ (word : OwnWord). is_allowed c.args.self.now.standing c.args.shared.now.engine.run_state.spool.state (asking.Own word) ≡ true) c.in-CloseAt.is c.requires.role

pub returns-in_ok-add-in-End-clause-done : goal.returns-in_ok-add-in-End-clause-done
returns-in_ok-add-in-End-clause-done g c =
    let said : (c.if-ends.add.now ≡ codes "ok\n") ⊎ (c.if-ends.add.now ≡ codes "error job\n") =
    elim c.if-ends.branch [ then-ends w ↦ inl (ap (λ (r : Bor (List ℕ)). r.now) w.add-is) | else-ends w ↦ inr (ap (λ (r : Bor (List ℕ)). r.now) w.add-is) ] in
    let told : IsSaid c.args.self.now.standing c.args.shared.now.engine.run_state.spool.state c.args.word c.if-ends.add.now = (rw c.in-End.is said) in
    answered_by_word _ _ _ _ _ c.args.word c.if-ends.add.now c.requires.role told c.in_ok-add-in-End.ensures.added c.requires.waits (rw c.in-End.is (sym c.in_ok-add-in-End.ensures.status))

pub returns-in_ok-add-in-Shutdown-clause-done : goal.returns-in_ok-add-in-Shutdown-clause-done
returns-in_ok-add-in-Shutdown-clause-done g c =
    let said : IsSaid c.args.self.now.standing c.args.shared.now.engine.run_state.spool.state c.args.word (codes "ok\n") = (rw c.in-Shutdown.is refl) in
    let added = c.in_ok-add-in-Shutdown.ensures.added in
    answered_by_word _ _ _ _ _ c.args.word (codes "ok\n") c.requires.role said added c.requires.waits (rw c.in-Shutdown.is (sym c.in_ok-add-in-Shutdown.ensures.status))

pub returns-in_ok-offer_proof-in-Challenge-clause-done : goal.returns-in_ok-offer_proof-in-Challenge-clause-done
returns-in_ok-offer_proof-in-Challenge-clause-done g c =
    let offered = c.in_ok-offer_proof-in-Challenge.ensures.offered in
    let role : is_allowed c.args.self.now.standing c.args.shared.now.engine.run_state.spool.state (asking.Own words.Challenge) ≡ true = subst (λ (word : OwnWord). is_allowed c.args.self.now.standing c.args.shared.now.engine.run_state.spool.state (asking.Own word) ≡ true) c.in-Challenge.is c.requires.role in
    subst (λ (word : OwnWord). IsAnswered g.D.Disk.device g.L.Connection.view c.args.shared.now.engine c.args.self.now (asking.Own word) c.args.shared.now.engine c.offer_proof.new.self) (sym c.in-Challenge.is)
    (answered_by_offer _ _ _ _ _ offered.0 role offered.1 c.requires.waits c.in_ok-offer_proof-in-Challenge.ensures.status)

pub returns-in_ok-examine_proof-in-Prove-clause-done : goal.returns-in_ok-examine_proof-in-Prove-clause-done
returns-in_ok-examine_proof-in-Prove-clause-done g c =
    let proved = c.in_ok-examine_proof-in-Prove.ensures.proved in
    let role : is_allowed c.args.self.now.standing c.args.shared.now.engine.run_state.spool.state (asking.Own words.Prove) ≡ true = subst (λ (word : OwnWord). is_allowed c.args.self.now.standing c.args.shared.now.engine.run_state.spool.state (asking.Own word) ≡ true) c.in-Prove.is c.requires.role in
    subst (λ (word : OwnWord). IsAnswered g.D.Disk.device g.L.Connection.view c.args.shared.now.engine c.args.self.now (asking.Own word) c.args.shared.now.engine c.examine_proof.new.self) (sym c.in-Prove.is)
    (answered_by_proof _ _ _ _ _ proved.0 role proved.2 c.requires.waits proved.1 (ap (λ x. x.waits) c.in_ok-examine_proof-in-Prove.ensures.kept))
