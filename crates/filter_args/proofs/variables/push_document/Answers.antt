use Rattle.std.proofs.Common.{ℕ, List, codes, ap, refl}
use Rattle.filter_args.specs.Environment.{variable}
use Rattle.filter_args.specs.OptionFields.{texts}
use Rattle.filter_args.proofs.ListLaws.{three}
use Rattle.filter_args.proofs.variables.push_document.Goals as goal

pub returns : goal.returns
returns c =
    three (texts c.args.variables.now) _ _ _ _ _ _ _ _ _ c.in_ok-push.ensures c.in_ok-push-2.ensures c.in_ok-push-3.ensures
    refl
    (ap (λ (v : List ℕ). variable (codes "CONTENT_TYPE") v) c.content_type.ensures)
    refl
