use Rattle.std.proofs.Common.{refl}
use Rattle.side_channel.specs.SideSessions.{session, session_within}
use Rattle.text_examples.proofs.session_examples.Goals as goal

pub returns-clause-command : goal.returns-clause-command
unfolding session session_within
returns-clause-command c = refl

pub returns-clause-end : goal.returns-clause-end
unfolding session session_within
returns-clause-end c = refl

pub returns-clause-size : goal.returns-clause-size
unfolding session session_within
returns-clause-size c = refl

pub returns-clause-most : goal.returns-clause-most
unfolding session session_within
returns-clause-most c = refl

pub returns-clause-command_number : goal.returns-clause-command_number
unfolding session session_within
returns-clause-command_number c = refl

pub returns-clause-no_command : goal.returns-clause-no_command
unfolding session session_within
returns-clause-no_command c = refl

pub returns-clause-status : goal.returns-clause-status
unfolding session session_within
returns-clause-status c = refl
