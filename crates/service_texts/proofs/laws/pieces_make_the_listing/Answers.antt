use Rattle.service_texts.proofs.WholeListing.{whole}
use Rattle.service_texts.proofs.laws.pieces_make_the_listing.Goals as goal

pub returns : goal.returns
returns c passes most left rows up = whole passes most left rows up
