-- No more clients may listen, or it waits.
use Rattle.std.proofs.Common.{[], refl, sym, ◌∙◌}
use Rattle.service_texts.specs.declared.own_words.OwnWord.TheVariants as words
use Rattle.service_rules.specs.Listeners.{may_listen}
use Rattle.service_loop.specs.AdmissionViews.{is_listener}
use Rattle.service_loop.proofs.ClientStepLaws.{added_none, answered_by_busy, answered_by_word}
use Rattle.service_loop.proofs.ListenerCounts.{may_not}
use Rattle.service_loop.proofs.client.Client.wait_for.Goals as goal

pub returns-then-not-may_listen-clause-done : goal.returns-then-not-may_listen-clause-done
returns-then-not-may_listen-clause-done g c =
    let busy = may_not (is_listener c.args.self.now) (may_listen c.args.listening.now) (sym c.may_listen.ensures ∙ c.if-not-may_listen.true) in
    answered_by_busy _ _ _ _ _ (words.Wait c.args.job) c.args.listening.now c.requires.role refl busy c.in_ok-add.ensures.added c.requires.waits c.in_ok-add.ensures.status

pub returns-clause-done : goal.returns-clause-done
returns-clause-done g c = answered_by_word _ _ _ _ _ (words.Wait c.args.job) [] c.requires.role refl (added_none _ _ refl refl refl refl) c.requires.waits refl
