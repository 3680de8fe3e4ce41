use Rattle.spool_core.proofs.driving.look.Goals as goal

pub returns-clause-synced : goal.returns-clause-synced
returns-clause-synced g c alive = c.table.ensures.synced alive (c.requires.settled alive)
