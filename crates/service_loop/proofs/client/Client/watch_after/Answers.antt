-- No more clients may listen, or it is sent what changed.
use Rattle.std.proofs.Common.{refl, sym, ◌∙◌}
use Rattle.service_texts.specs.Notices.{watch_text}
use Rattle.service_texts.specs.declared.own_words.OwnWord.TheVariants as words
use Rattle.service_rules.specs.Listeners.{may_listen}
use Rattle.service_loop.specs.AdmissionViews.{is_listener}
use Rattle.service_loop.proofs.ClientStepLaws.{answered_by_busy, answered_by_word}
use Rattle.service_loop.proofs.ListenerCounts.{may_not}
use Rattle.service_loop.proofs.client.Client.watch_after.Goals as goal

pub returns-then-not-may_listen-clause-done : goal.returns-then-not-may_listen-clause-done
returns-then-not-may_listen-clause-done g c =
    let busy = may_not (is_listener c.args.self.now) (may_listen c.args.listening.now) (sym c.may_listen.ensures ∙ c.if-not-may_listen.true) in
    answered_by_busy _ _ _ _ _ (words.WatchFrom c.args.number) c.args.listening.now c.requires.role refl busy c.in_ok-add.ensures.added c.requires.waits c.in_ok-add.ensures.status

pub returns-clause-done : goal.returns-clause-done
returns-clause-done g c =
    let e = c.in_ok-watch_from.ensures in
    let text = watch_text c.args.self.now.standing c.args.shared.now.engine.run_state.spool.state e.added.0 c.args.number in
    answered_by_word _ _ _ _ _ (words.WatchFrom c.args.number) text c.requires.role (e.added.0, refl) e.added.1 c.requires.waits (sym e.status)
