-- The output of `look`.
use Rattle.std.specs.Prelude.{ℕ, List, [], ◌∷◌, ◌++◌, codes}
use Rattle.std.specs.Fmt.{decimal}
use Rattle.clap.specs.Words.{Text}
use Rattle.spool_admin.specs.declared.found.Account.{Account}
use Rattle.spool_admin.specs.declared.found.JobCounts.{JobCounts}

-- A line: a word, a blank and a number.
abbrev pub line_of : Text → ℕ → List ℕ
line_of word n = word ++ (32 ∷ (decimal n ++ (10 ∷ [])))

-- The file and its current area.
abbrev pub area_text : Account → List ℕ
area_text a =
    line_of (codes "version") a.version ++ line_of (codes "epoch") a.epoch ++ line_of (codes "file") a.size
    ++ line_of (codes "area") a.area ++ line_of (codes "used") a.used ++ line_of (codes "free") a.free

abbrev pub jobs_text : JobCounts → List ℕ
jobs_text j =
    line_of (codes "jobs") j.all ++ line_of (codes "incoming") j.incoming ++ line_of (codes "waiting") j.waiting
    ++ line_of (codes "processing") j.processing ++ line_of (codes "ended") j.ended

-- A line for each number.
abbrev pub account_text : Account → List ℕ
account_text a = area_text a ++ line_of (codes "queues") a.queues ++ jobs_text a.jobs
