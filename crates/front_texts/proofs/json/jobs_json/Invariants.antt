-- The values so far.
use Rattle.std.proofs.Common.{◌≡◌, map, take}
use Rattle.serde_json.specs.View.{view}
use Rattle.front_texts.specs.Json.{job_data}
use Rattle.front_texts.proofs.json.jobs_json.Given as goal

abbrev pub invariant-loop-job : goal.invariant-loop-job
invariant-loop-job l = map view l.array.items ≡ map job_data (take l.job-index l.jobs)
