use Rattle.std.proofs.Common.{subst, sym, ap, ◌∙◌}
use Rattle.mime_costs.specs.SourceIndex.{links_in, Ascends, AreCheap}
use Rattle.mime_costs.proofs.ReadLaws.{text_rises, text_cheap}
use Rattle.mime_costs.proofs.convs.Convs.read.Goals as goal

pub invariant_of-convs : goal.invariant_of-convs
invariant_of-convs c = record {
  linked = c.in_ok-links.ensures ∙ ap links_in c.deref.ensures.value;
  rising = subst (Ascends 1) (sym c.in_ok-conversions.ensures.conversions) (text_rises c.args.text.now);
  cheap = subst AreCheap (sym c.in_ok-conversions.ensures.conversions) (text_cheap c.args.text.now);
}
