use Rattle.std.proofs.Common.{refl}
use Rattle.std.specs.Char.{encode_utf8}
use Rattle.std.specs.Fmt.{digits}
use Rattle.std.specs.Str.{is_utf8, chars}
use Rattle.ipp_option_examples.proofs.job_examples.Goals as goal

pub returns-clause-plain : goal.returns-clause-plain
unfolding encode_utf8 is_utf8 chars digits
returns-clause-plain c = (refl, refl, refl, refl)

pub returns-clause-many : goal.returns-clause-many
unfolding encode_utf8 is_utf8 chars digits
returns-clause-many c = (refl, refl, refl, refl, refl, refl)

pub returns-clause-injection : goal.returns-clause-injection
unfolding encode_utf8 is_utf8 chars digits
returns-clause-injection c = (refl, refl, refl)

pub returns-clause-bad : goal.returns-clause-bad
unfolding encode_utf8 is_utf8 chars digits
returns-clause-bad c = (refl, refl, refl, refl, refl, refl)

pub returns-clause-kept : goal.returns-clause-kept
unfolding encode_utf8 is_utf8 chars digits
returns-clause-kept c = refl

pub returns-clause-hold : goal.returns-clause-hold
unfolding encode_utf8 is_utf8 chars digits
returns-clause-hold c = refl

pub returns-clause-date : goal.returns-clause-date
unfolding encode_utf8 is_utf8 chars digits
returns-clause-date c = refl

pub returns-clause-media : goal.returns-clause-media
unfolding encode_utf8 is_utf8 chars digits
returns-clause-media c = refl

pub returns-clause-stated : goal.returns-clause-stated
unfolding encode_utf8 is_utf8 chars digits
returns-clause-stated c = (refl, refl, refl, refl, refl)

pub returns-clause-given : goal.returns-clause-given
unfolding encode_utf8 is_utf8 chars digits
returns-clause-given c = (refl, refl, refl, refl, refl)
