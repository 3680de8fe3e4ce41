use Rattle.std.proofs.Common.{ℕ, List, codes, ap}
use Rattle.filter_args.specs.Environment.{variable}
use Rattle.filter_args.specs.OptionFields.{texts}
use Rattle.filter_args.proofs.ListLaws.{three}
use Rattle.filter_args.proofs.variables.push_printer.Goals as goal

pub returns : goal.returns
returns c =
    three (texts c.args.variables.now) _ _ _ _ _ _ _ _ _ c.in_ok-push.ensures c.in_ok-push-2.ensures c.in_ok-push-3.ensures
    (ap (λ (v : List ℕ). variable (codes "PRINTER") v) c.as_str.ensures.value)
    (ap (λ (v : List ℕ). variable (codes "PRINTER_INFO") v) c.as_str-2.ensures.value)
    (ap (λ (v : List ℕ). variable (codes "PRINTER_LOCATION") v) c.as_str-3.ensures.value)
