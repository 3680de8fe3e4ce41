use Rattle.event_codec.proofs.RowLaws.{one_row}
use Rattle.event_codec.proofs.laws.no_proper_prefix_of_rows.Goals as goal

pub returns : goal.returns
returns c = λ v a b rest h i same. (one_row v a b rest h i same).1
