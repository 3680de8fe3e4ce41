use Rattle.std.proofs.Common.{◌≡◌, ap, ◌∙◌}
use Rattle.std.specs.Cow.{cow_str_bytes}
use Rattle.filter_args.specs.Pairs.{put, are_options}
use Rattle.filter_args.specs.OptionFields.{pairs_of}
use Rattle.filter_args.proofs.PairLaws.{pairs_of-insert, put-are_options}
use Rattle.filter_args.proofs.options.Options.insert.Goals as goal

pub returns-clause-value : goal.returns-clause-value
returns-clause-value c =
    ap pairs_of c.in_ok-insert.ensures.entries
    ∙ pairs_of-insert c.self.inside.pairs.entries c.args.name c.args.value
    ∙ ap (λ qs. put qs (c.args.name.now, cow_str_bytes c.args.value)) c.self.view_is

pub invariant_of-self-2 : goal.invariant_of-self-2
invariant_of-self-2 c =
    ap are_options (ap pairs_of c.in_ok-insert.ensures.entries ∙ pairs_of-insert c.self.inside.pairs.entries c.args.name c.args.value)
    ∙ put-are_options (pairs_of c.self.inside.pairs.entries) (c.args.name.now, cow_str_bytes c.args.value) c.self.invariant c.requires
