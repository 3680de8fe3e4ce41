use Rattle.std.proofs.Common.{◌+◌}
use Rattle.spool_areas.specs.Header.{header_len}
use Rattle.event_codec.specs.RowSpelling.{row_spelling}
use Rattle.spool_types.specs.Sent.{piece_of}
use Rattle.documents.proofs.Placed.{held_first, lie_between, one_more}
use Rattle.documents.proofs.Moved as moved
use Rattle.documents.proofs.laws.moves_law.Goals as goal

pub returns-clause-moved : goal.returns-clause-moved
returns-clause-moved c v base j rows bytes has = held_first (row_spelling v) piece_of (moved.spells_pieces v) base bytes rows j has

pub returns-clause-within : goal.returns-clause-within
returns-clause-within c v base j rows = lie_between (row_spelling v) piece_of (moved.spells_pieces v) (base + header_len) rows j

pub returns-clause-added : goal.returns-clause-added
returns-clause-added c v gate j rows row = one_more (row_spelling v) piece_of (moved.spells_pieces v) gate rows row j

pub returns-clause-history : goal.returns-clause-history
returns-clause-history c v base j rows events bytes has = moved.history v base j rows events bytes has

pub returns-clause-history_within : goal.returns-clause-history_within
returns-clause-history_within c v base j rows events = moved.history_within v base j rows events

pub returns-clause-history_added : goal.returns-clause-history_added
returns-clause-history_added c v base j rows events e = moved.history_added v base j rows events e

pub returns-clause-pieces : goal.returns-clause-pieces
returns-clause-pieces c r document = moved.whole r document

pub returns-clause-listed : goal.returns-clause-listed
returns-clause-listed c documents before after r one two = moved.in_listing documents before after r one two

pub returns-clause-others : goal.returns-clause-others
returns-clause-others c r document j apart = moved.others r document j apart
