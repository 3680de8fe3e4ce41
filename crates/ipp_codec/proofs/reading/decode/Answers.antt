use Rattle.std.proofs.Common.{arith}
use Rattle.ipp_codec.proofs.DecodeLaws.{complete_of, few_of, short_of, sound_of}
use Rattle.ipp_codec.proofs.CompletedMessages.{unfinished_of}
use Rattle.ipp_codec.proofs.Growth.{lasting_of}
use Rattle.ipp_codec.proofs.reading.decode.Goals as goal

pub returns-clause-sound : goal.returns-clause-sound
returns-clause-sound c = sound_of c.args.octets.now c.read_message.result (λ i. omega (arith, c.type_inv.octets i)) c.read_message.ensures

pub returns-clause-short : goal.returns-clause-short
returns-clause-short c = short_of c.args.octets.now c.read_message.result (λ i. omega (arith, c.type_inv.octets i)) c.read_message.ensures

pub returns-clause-few : goal.returns-clause-few
returns-clause-few c = few_of c.args.octets.now c.read_message.result (λ i. omega (arith, c.type_inv.octets i)) c.read_message.ensures

pub returns-clause-complete : goal.returns-clause-complete
returns-clause-complete c = complete_of c.args.octets.now c.read_message.result c.read_message.ensures

pub returns-clause-lasting : goal.returns-clause-lasting
returns-clause-lasting c = lasting_of c.args.octets.now c.read_message.result (λ i. omega (arith, c.type_inv.octets i)) c.read_message.ensures

pub returns-clause-unfinished : goal.returns-clause-unfinished
returns-clause-unfinished c = unfinished_of c.args.octets.now c.read_message.result (λ i. omega (arith, c.type_inv.octets i)) c.read_message.ensures
