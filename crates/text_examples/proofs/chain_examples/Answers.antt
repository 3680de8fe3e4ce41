use Rattle.std.proofs.Common.{refl}
use Rattle.std.specs.Char.{encode_utf8}
use Rattle.std.specs.Fmt.{digits}
use Rattle.std.specs.Str.{is_utf8, chars}
use Rattle.mime_costs.specs.LeastWalk.{walks, walks_within, least_walk}
use Rattle.text_examples.proofs.chain_examples.Goals as goal

pub returns-clause-named : goal.returns-clause-named
unfolding encode_utf8 digits is_utf8 chars walks walks_within least_walk
returns-clause-named c = refl

pub returns-clause-read : goal.returns-clause-read
unfolding encode_utf8 digits is_utf8 chars walks walks_within least_walk
returns-clause-read c = refl

pub returns-clause-fault : goal.returns-clause-fault
unfolding encode_utf8 digits is_utf8 chars walks walks_within least_walk
returns-clause-fault c = refl

pub returns-clause-left : goal.returns-clause-left
unfolding encode_utf8 digits is_utf8 chars walks walks_within least_walk
returns-clause-left c = refl

pub returns-clause-tie : goal.returns-clause-tie
unfolding encode_utf8 digits is_utf8 chars walks walks_within least_walk
returns-clause-tie c = refl

pub returns-clause-wild : goal.returns-clause-wild
unfolding encode_utf8 digits is_utf8 chars walks walks_within least_walk
returns-clause-wild c = refl

pub returns-clause-long : goal.returns-clause-long
unfolding encode_utf8 digits is_utf8 chars walks walks_within least_walk
returns-clause-long c = refl

pub returns-clause-filter : goal.returns-clause-filter
unfolding encode_utf8 digits is_utf8 chars walks walks_within least_walk
returns-clause-filter c = refl

pub returns-clause-order : goal.returns-clause-order
unfolding encode_utf8 digits is_utf8 chars walks walks_within least_walk
returns-clause-order c = refl
