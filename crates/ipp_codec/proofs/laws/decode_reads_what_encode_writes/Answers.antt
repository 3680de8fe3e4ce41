use Rattle.ipp_codec.proofs.DecodeLaws.{spelling_read_first}
use Rattle.ipp_codec.proofs.laws.decode_reads_what_encode_writes.Goals as goal

pub returns : goal.returns
returns c = spelling_read_first
