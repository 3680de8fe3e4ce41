use Rattle.event_codec.specs.Spelling.{spelling}
use Rattle.event_codec.specs.RowSpelling.{row_spelling}
use Rattle.spool_types.specs.Sent.{sent_by, piece_of}
use Rattle.documents.proofs.Joined as joined
use Rattle.documents.proofs.Placed as placed
use Rattle.documents.proofs.Moved as moved
use Rattle.documents.proofs.laws.size_law.Goals as goal

pub returns-clause-sent : goal.returns-clause-sent
returns-clause-sent c gate j events = placed.sized spelling sent_by placed.spells_sent gate events j

pub returns-clause-listed : goal.returns-clause-listed
returns-clause-listed c v gate j rows = placed.sized (row_spelling v) piece_of (moved.spells_pieces v) gate rows j

pub returns-clause-history : goal.returns-clause-history
returns-clause-history c v base j rows events = moved.history_size v base j rows events

pub returns-clause-pushed : goal.returns-clause-pushed
returns-clause-pushed c xs x = joined.size_pushed xs x

pub returns-clause-joined : goal.returns-clause-joined
returns-clause-joined c low high xs bytes lie fits = joined.joined_len low high xs bytes lie fits
