use Rattle.std.proofs.Common.{ap, ◌∙◌}
use Rattle.side_channel.specs.SideAnswers.{answer_of}
use Rattle.side_channel.proofs.answers.answer.Goals as goal

pub returns : goal.returns
returns c = c.answer_to.ensures c.packet.inside.status c.packet.inside.body.items ∙ ap (answer_of c.args.device.now) c.packet.view_is
