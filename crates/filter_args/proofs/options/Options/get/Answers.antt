use Rattle.std.proofs.Common.{ℕ, List, Some, option_map, ap, ◌∙◌}
use Rattle.std.specs.Cow.{cow_str_bytes}
use denote.Ref.{Bor}
use Rattle.filter_args.specs.Pairs.{value_of}
use Rattle.filter_args.proofs.PairLaws.{value_of-pairs_of}
use Rattle.filter_args.proofs.options.Options.get.Goals as goal

pub returns-in_err-value : goal.returns-in_err-value
returns-in_err-value c =
    ap (option_map (λ (v : Bor (List ℕ)). v.now)) c.from_residual.ensures
    ∙ ap (option_map cow_str_bytes) c.in_err-value.ensures.value
    ∙ value_of-pairs_of c.args.name.now c.self.inside.pairs.entries
    ∙ ap (value_of c.args.name.now) c.self.view_is

pub returns : goal.returns
returns c =
    ap (λ v. Some v) c.as_str.ensures.value
    ∙ ap (option_map cow_str_bytes) c.in_ok-value.ensures.value
    ∙ value_of-pairs_of c.args.name.now c.self.inside.pairs.entries
    ∙ ap (value_of c.args.name.now) c.self.view_is
