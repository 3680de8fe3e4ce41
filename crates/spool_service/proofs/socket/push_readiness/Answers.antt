use Rattle.std.proofs.Common.{◌≡◌, ◌∙◌, ◌++◌, ◌∷◌, [], List, map, ap, sym, append_assoc, append-nil, rules}
use Rattle.std.specs.Borrow.{Bor}
use Rattle.std.proofs.lemmas.Iterator.{YieldsList-from_slice}
use Rattle.std.proofs.lemmas.Iterator.Consumers.{YieldsList-end}
use Rattle.std.proofs.lemmas.List.{map_push}
use Rattle.mio.specs.Events.{items}
use Rattle.mio.specs.declared.event.event.Event.{Event}
use Rattle.service_loop.specs.declared.listener.Readiness.{Readiness}
use Rattle.spool_service.specs.Socket.{readiness_of}
use Rattle.spool_service.proofs.socket.push_readiness.Goals as goal

-- The readiness of one more event.
one_more : (all old : List Readiness) (before : List (Bor Event)) (event : Bor Event) (sign : Readiness) → sign ≡ readiness_of event.now
    → all ≡ old ++ map readiness_of (map (λ e. e.now) before) → all ++ sign ∷ [] ≡ old ++ map readiness_of (map (λ e. e.now) (before ++ event ∷ []))
one_more all old before event sign is told =
    ap (λ (l : List Readiness). l ++ sign ∷ []) told
    ∙ append_assoc old (map readiness_of (map (λ e. e.now) before)) (sign ∷ [])
    ∙ ap (λ (s : Readiness). old ++ (map readiness_of (map (λ e. e.now) before) ++ s ∷ [])) is
    ∙ ap (λ (l : List Readiness). old ++ l) (sym (map_push readiness_of (map (λ e. e.now) before) event.now))
    ∙ ap (λ (l : List Event). old ++ map readiness_of l) (sym (map_push (λ (e : Bor Event). e.now) before event))

pub loop-event-init : goal.loop-event-init
loop-event-init c = sym (append-nil _)

pub loop-event-preserved : goal.loop-event-preserved
loop-event-preserved c =
    c.in_ok-push.ensures.items ∙ one_more c.loop-event.ready.items c.args.ready.now.items c.loop-event.yielded c.in-Some.event c.readiness_of.result c.readiness_of.ensures c.loop-event.invariant

pub returns : goal.returns
returns c =
    let all = (YieldsList-end (YieldsList-from_slice (items c.args.events.now) (search rules)) c.loop-event.yielded _ c.loop-event.yielded_by _ c.next.new.self c.in-None.is c.next.ensures.steps).0 in
    c.loop-event.invariant ∙ ap (λ (l : List Event). c.args.ready.now.items ++ map readiness_of l) all
