use Rattle.ipp_sockets.proofs.Answering.{all_lost, none_lost}
use Rattle.ipp_sockets.proofs.link.Link.pump.Goals as goal

pub returns-then-stands-clause-once : goal.returns-then-stands-clause-once
returns-then-stands-clause-once g c = none_lost _ _ _ _ _ c.stands.ensures.ends c.new.ensures.items

pub returns-else-stands-clause-once : goal.returns-else-stands-clause-once
returns-else-stands-clause-once g c = all_lost _ _ _ _ _ _ c.stands.ensures.ends c.lose.ensures.lost c.lose.ensures.given_up.clear.waits
