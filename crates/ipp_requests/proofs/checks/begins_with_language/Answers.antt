use Rattle.std.proofs.Common.{ap, sym, ◌∙◌}
use Rattle.ipp_requests.specs.IppChecks.{begins_with_language}
use Rattle.ipp_requests.proofs.checks.begins_with_language.Goals as goal

pub returns-in-Some : goal.returns-in-Some
returns-in-Some c = c.is_text.ensures ∙ sym (ap begins_with_language c.in-Some.ensures.cases.0)
