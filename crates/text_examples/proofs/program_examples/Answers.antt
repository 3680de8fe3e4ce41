use Rattle.std.proofs.Common.{refl}
use Rattle.std.specs.Char.{encode_utf8}
use Rattle.std.specs.Str.{is_utf8, chars}
use Rattle.text_examples.proofs.program_examples.Goals as goal

pub returns-clause-silent : goal.returns-clause-silent
unfolding encode_utf8 is_utf8 chars
returns-clause-silent c = refl

pub returns-clause-filter : goal.returns-clause-filter
unfolding encode_utf8 is_utf8 chars
returns-clause-filter c = refl

pub returns-clause-backend : goal.returns-clause-backend
unfolding encode_utf8 is_utf8 chars
returns-clause-backend c = refl

pub returns-clause-side : goal.returns-clause-side
unfolding encode_utf8 is_utf8 chars
returns-clause-side c = refl

pub returns-clause-unread : goal.returns-clause-unread
unfolding encode_utf8 is_utf8 chars
returns-clause-unread c = refl

pub returns-clause-twice : goal.returns-clause-twice
unfolding encode_utf8 is_utf8 chars
returns-clause-twice c = refl

pub returns-clause-named : goal.returns-clause-named
unfolding encode_utf8 is_utf8 chars
returns-clause-named c = refl

pub returns-clause-named_backend : goal.returns-clause-named_backend
unfolding encode_utf8 is_utf8 chars
returns-clause-named_backend c = refl

pub returns-clause-none_named : goal.returns-clause-none_named
unfolding encode_utf8 is_utf8 chars
returns-clause-none_named c = refl
