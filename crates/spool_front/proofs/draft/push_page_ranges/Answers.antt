use Rattle.std.proofs.Common.{◌++◌, ap, append_assoc, string_bytes, sym, ◌∙◌}
use Rattle.std.specs.Prelude.{codes}
use Rattle.std.specs.Option.{option_map}
use Rattle.spool_front.specs.JobDrafts.{option_text, page_ranges_option}
use Rattle.spool_front.proofs.draft.push_page_ranges.Goals as goal

pub returns : goal.returns
returns c =
    c.in_ok-push_option.ensures
    ∙ ap (λ front. front ++ option_text c.in-Some.ranges.now) c.in_ok-push_str.ensures.bytes
    ∙ append_assoc (string_bytes c.args.options.now) (codes "page-ranges=") (option_text c.in-Some.ranges.now)
    ∙ ap (λ ranges. string_bytes c.args.options.now ++ page_ranges_option (option_map (λ text. text.now) ranges)) (sym c.in-Some.is)
