-- The meaning of the fields of the rows.
use Rattle.std.specs.Prelude.{◌≡◌, ◌-◌, ◌≤◌, map, vec_len, vec_capacity, IsTrue}
use Rattle.std.specs.Ordering.{nat_cmp}
use Rattle.std.specs.Cmp.Lexicographic.{slice_cmp}
use Rattle.std.specs.FinMap as finite
use Rattle.spool_types.specs.Limits.{greatest_number}
use Rattle.job_table.specs.Legal.{IsLegal}
use Rattle.job_table.specs.TableRows.{queue_entry, job_entry, document_entry, place_entry, HoldDocuments}
use Rattle.job_table.specs.Contents.{Contents, no_moves}
use Rattle.job_table.specs.declared.store.Store.TheInside.{Inside}

abbrev pub contents_of : Inside → Contents
contents_of a = record {
  state = record {
    queues = finite.from_sorted (map queue_entry a.queues.items);
    jobs = finite.from_sorted (map job_entry a.jobs.items);
    highest = a.highest;
    moment = a.moment;
    version = a.version;
  };
  places = map place_entry a.jobs.items;
  room = record {
    queues = vec_capacity a.queues - vec_len a.queues;
    jobs = a.jobs.room;
    documents = map document_entry a.jobs.items;
    spare = a.spare;
  };
  moves = no_moves;
}

-- The rows are in ascending order, without duplicates, and each job is stored under its own number. Their state is
-- legal. Each job has its document, and no memory for it after it has ended.
pub record IsOrdered (a : Inside) : Type 0 where
  pub queues : IsTrue (finite.is_sorted (slice_cmp nat_cmp) (map queue_entry a.queues.items))
  pub jobs : IsTrue (finite.is_sorted nat_cmp (map job_entry a.jobs.items))
  pub own : a.jobs.numbers ≡ map (λ r. r.job.id) a.jobs.items
  pub highest : a.highest ≤ greatest_number
  pub documents : HoldDocuments a.jobs.items
  pub legal : IsLegal (contents_of a).state
