use Rattle.side_channel.proofs.PieceLaws.{any_end, any_turns}
use Rattle.side_channel.proofs.laws.any_pieces.Goals as goal

pub returns-clause-answers : goal.returns-clause-answers
returns-clause-answers c = any_turns

pub returns-clause-end : goal.returns-clause-end
returns-clause-end c = any_end
