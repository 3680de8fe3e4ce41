use Rattle.job_table.proofs.Taken.{only_listings}
use Rattle.job_table.proofs.Reloaded.{listed_again}
use Rattle.job_table.proofs.laws.listings_are_loaded.Goals as goal

pub returns-clause-listed : goal.returns-clause-listed
returns-clause-listed c = listed_again

pub returns-clause-only : goal.returns-clause-only
returns-clause-only c = only_listings
