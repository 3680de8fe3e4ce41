use Rattle.std.proofs.Common.{[], ◌∙◌}
use Rattle.std.proofs.lemmas.List.{append-nil}
use Rattle.event_codec.specs.RowSpelling.{row_spelling}
use Rattle.event_codec.proofs.RowLaws.{one_row}
use Rattle.event_codec.proofs.laws.one_row.Goals as goal

pub returns : goal.returns
returns c = λ v a b h i same. (one_row v a b [] h i (append-nil (row_spelling v a) ∙ same)).0
