-- No client listens at first.
use Rattle.std.proofs.Common.{◌≤◌, [], length, arith}
use Rattle.service_rules.specs.Listeners.{most_listeners, listeners_after}
use Rattle.service_rules.proofs.ListenerLaws.{fewer, most_always, share_always}
use Rattle.service_rules.proofs.listening.listeners_leave_places.Goals as goal

pub returns-clause-places : goal.returns-clause-places
returns-clause-places c = λ places some wishes.
    let most : length (listeners_after places [] wishes) ≤ most_listeners places = most_always places [] wishes (omega arith) in
    let lt = fewer places some in
    omega arith

pub returns-clause-most : goal.returns-clause-most
returns-clause-most c = λ places wishes. most_always places [] wishes (omega arith)

pub returns-clause-share : goal.returns-clause-share
returns-clause-share c = λ places user wishes. share_always places user [] wishes (omega arith)
