-- The meaning of rows.
use Rattle.std.proofs.Common.{◌≡◌, ℕ, false, nat_eq, List, [], ◌∷◌, length, Option, Vec, ap}
use Rattle.std.specs.Global.{Global}
use Rattle.front_submission.specs.declared.reply.Reply.{Reply}
use Rattle.front_texts.specs.JobPage.{shown_job}
use Rattle.front_texts.specs.declared.job_shown.JobShown.{JobShown}
use Rattle.ipp_facts.specs.JobReports.{rows_text}
use Rattle.ipp_printing.specs.PrintingJobs.{job_reply, rows_reply}

pub rows_shown : (reply : Reply) (rows : List (Vec ℕ Global)) (job : Option JobShown) → nat_eq (length rows) 0 ≡ false → job ≡ shown_job (rows_text rows) → job_reply job ≡ rows_reply reply rows
rows_shown reply [] job some is = absurd (cc)
rows_shown reply (row ∷ rows) job some is = ap job_reply is
