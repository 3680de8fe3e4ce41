-- The list is searched by its words.
use Rattle.row_effects.specs.QueueReasons.{word_of}
use Rattle.row_effects.proofs.Keys.{searched}
use Rattle.row_effects.proofs.changes.reason_position.Goals as goal

pub returns-clause-found : goal.returns-clause-found
returns-clause-found c = (searched word_of c.args.reasons.now c.requires c.args.word.now _ c.binary_search.ensures.bound c.binary_search.ensures.position).found

pub returns-clause-absent : goal.returns-clause-absent
returns-clause-absent c = (searched word_of c.args.reasons.now c.requires c.args.word.now _ c.binary_search.ensures.bound c.binary_search.ensures.position).absent
