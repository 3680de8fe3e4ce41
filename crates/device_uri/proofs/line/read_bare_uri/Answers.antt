use Rattle.std.proofs.Common.{inl, inr}
use Rattle.spool_types.specs.Values.{is_uri}
use Rattle.std.proofs.lemmas.Bool.{and_left, false_from_ne_true}
use Rattle.device_uri.proofs.LineLaws.{uri_utf8}
use Rattle.device_uri.proofs.line.read_bare_uri.Goals as goal

pub returns-clause-bad : goal.returns-clause-bad
returns-clause-bad c = λ bad. elim (c.read_text.ensures.bad bad) [
  | inl beyond ↦ and_left (is_uri c.args.word.now) _ beyond
  | inr broken ↦ and_left (is_uri c.args.word.now) _ (false_from_ne_true (is_uri c.args.word.now) (λ h. broken (uri_utf8 c.args.word.now h)))
]
