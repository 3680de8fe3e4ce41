use Rattle.std.proofs.Common.{ℕ, List, codes, ap, ◌∙◌}
use Rattle.std.specs.Fmt.{decimal}
use Rattle.filter_args.specs.Environment.{variable}
use Rattle.filter_args.specs.OptionFields.{texts}
use Rattle.filter_args.proofs.ListLaws.{four}
use Rattle.filter_args.proofs.variables.push_stage.Goals as goal

pub returns : goal.returns
returns c =
    four (texts c.args.variables.now) _ _ _ _ _ _ _ _ _ _ _ _ c.in_ok-push.ensures c.in_ok-push-2.ensures c.in_ok-push-3.ensures c.in_ok-push-4.ensures
    (ap (λ (v : List ℕ). variable (codes "TMPDIR") v) c.as_str.ensures.value)
    (ap (λ (v : List ℕ). variable (codes "SPOOL_ATTEMPT") v) (c.as_str-2.ensures.value ∙ c.in_ok-attempt.ensures))
    (ap (λ (v : List ℕ). variable (codes "SPOOL_SIDE") v) (c.as_str-3.ensures.value ∙ c.in_ok-side.ensures))
    (ap (λ (v : List ℕ). variable (codes "SPOOL_STAGE") v) (c.as_str-4.ensures.value ∙ c.in_ok-stage.ensures ∙ ap decimal c.from.ensures))
