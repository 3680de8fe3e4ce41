use Rattle.std.proofs.Common.{refl}
use Rattle.std.specs.Char.{encode_utf8}
use Rattle.std.specs.Fmt.{digits}
use Rattle.std.specs.Str.{is_utf8, chars}
use Rattle.ipp_printer_examples.proofs.printer_examples.Goals as goal

pub returns-clause-size : goal.returns-clause-size
unfolding encode_utf8 is_utf8 chars digits
returns-clause-size c = refl

pub returns-clause-no_size : goal.returns-clause-no_size
unfolding encode_utf8 is_utf8 chars digits
returns-clause-no_size c = refl

pub returns-clause-short_name : goal.returns-clause-short_name
unfolding encode_utf8 is_utf8 chars digits
returns-clause-short_name c = refl

pub returns-clause-file : goal.returns-clause-file
unfolding encode_utf8 is_utf8 chars digits
returns-clause-file c = (refl, refl, refl, refl, refl, refl, refl, refl)

pub returns-clause-fault : goal.returns-clause-fault
unfolding encode_utf8 is_utf8 chars digits
returns-clause-fault c = refl
