-- An end is seen after a part of the child's time, or at its first check.
use Rattle.service_rules.proofs.Seeing.{ends_alone, ends_beside}
use Rattle.service_rules.proofs.looks.ends_are_seen_soon.Goals as goal

pub returns-clause-beside : goal.returns-clause-beside
returns-clause-beside c = ends_beside

pub returns-clause-alone : goal.returns-clause-alone
returns-clause-alone c = ends_alone
