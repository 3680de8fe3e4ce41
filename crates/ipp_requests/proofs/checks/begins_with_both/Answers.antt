use Rattle.std.proofs.Common.{Bool, ◌&&◌, ap, sym, ◌∙◌}
use Rattle.ipp_requests.specs.IppChecks.{begins_with_both, begins_with_language}
use Rattle.ipp_requests.proofs.checks.begins_with_both.Goals as goal

pub returns-else-is_text : goal.returns-else-is_text
returns-else-is_text c =
    c.if-is_text.false
    ∙ sym (ap begins_with_both c.in-Some.ensures.cases.0
    ∙ ap (λ (b : Bool). b && begins_with_language c.in-Some.others.now) (sym c.is_text.ensures ∙ c.if-is_text.false))
