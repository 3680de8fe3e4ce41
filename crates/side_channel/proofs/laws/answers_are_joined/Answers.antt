use Rattle.side_channel.proofs.SessionLaws.{session-nothing, session-cut}
use Rattle.side_channel.proofs.RequestLaws.{session-asked, session-end_packet}
use Rattle.side_channel.proofs.laws.answers_are_joined.Goals as goal

pub returns-clause-requests : goal.returns-clause-requests
returns-clause-requests c = session-asked

pub returns-clause-end : goal.returns-clause-end
returns-clause-end c = session-end_packet

pub returns-clause-stopped : goal.returns-clause-stopped
returns-clause-stopped c = session-nothing

pub returns-clause-cut_short : goal.returns-clause-cut_short
returns-clause-cut_short c = session-cut
