use Rattle.std.proofs.Common.{ℕ, List, codes, ap}
use Rattle.filter_args.specs.Environment.{variable}
use Rattle.filter_args.specs.OptionFields.{texts}
use Rattle.filter_args.proofs.ListLaws.{two}
use Rattle.filter_args.proofs.variables.push_device.Goals as goal

pub returns : goal.returns
returns c =
    two (texts c.args.variables.now) _ _ _ _ _ _ c.in_ok-push.ensures c.in_ok-push-2.ensures
    (ap (λ (v : List ℕ). variable (codes "DEVICE_URI") v) c.as_str.ensures.value)
    (ap (λ (v : List ℕ). variable (codes "FINAL_CONTENT_TYPE") v) c.as_str-2.ensures.value)
