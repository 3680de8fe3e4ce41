-- Each slot had its turn for requests, and then its turn for replies.
use Rattle.std.proofs.Common.{sym, ◌∙◌, arith}
use Rattle.slab.specs.Slab.{get}
use Rattle.service_loop.proofs.CallLaws.{within_then}
use Rattle.service_loop.proofs.PlaceLaws.{each_own, untouched}
use Rattle.service_loop.proofs.ProgressLaws.{neither}
use Rattle.service_loop.proofs.clients.Clients.serve.Goals as goal

pub returns-clause-turns : goal.returns-clause-turns
returns-clause-turns g c = record {
  between = c.serve_requests.new.shared.engine;
  mid = c.serve_requests.new.self.slots;
  requests = c.serve_requests.ensures.turns;
  replies = c.send_replies-more.ensures.turns;
}

pub returns-clause-calls : goal.returns-clause-calls
returns-clause-calls g c = within_then _ _ _ _ _ _ _ c.serve_requests.ensures.calls c.send_replies-more.ensures.calls

pub returns-clause-own : goal.returns-clause-own
returns-clause-own g c = λ key lt.
    (get c.serve_requests.new.self.slots key, each_own _ _ _ _ 1000 _ _ c.serve_requests.ensures.turns key lt, each_own _ _ _ _ 1000 _ _ c.send_replies-more.ensures.turns key lt)

pub returns-clause-others : goal.returns-clause-others
returns-clause-others g c = λ key le.
    untouched g.D.Disk.device g.L.Connection.view _ _ 1000 _ _ c.send_replies-more.ensures.turns key le
    ∙ untouched g.D.Disk.device g.L.Connection.view _ _ 1000 _ _ c.serve_requests.ensures.turns key le

pub returns-clause-listeners : goal.returns-clause-listeners
returns-clause-listeners g c = λ few.
    let one = c.serve_requests.ensures.few few in
    let two = c.send_replies-more.ensures.few in
    let counted = c.send_replies-more.ensures.counted in
    omega arith

pub returns-clause-rests : goal.returns-clause-rests
returns-clause-rests g c = λ none.
    let both = neither c.serve_requests.new.turns.more c.send_replies-more.result (sym c.either.ensures ∙ none) in
    c.send_replies-more.ensures.rests both.1 (c.serve_requests.ensures.rests both.0)
