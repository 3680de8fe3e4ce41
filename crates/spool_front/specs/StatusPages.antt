-- The page of queues and jobs.
use Rattle.std.specs.Prelude.{◌≡◌, ℕ, List}
use Rattle.std.specs.Option.{option_map}
use Rattle.front_texts.specs.Page.{aged_page_html}
use Rattle.front_texts.specs.declared.aged_jobs.AgedJob.{AgedJob}
use Rattle.front_texts.specs.declared.queue_line.QueueLine.{QueueLine}
use Rattle.front_words.specs.declared.asked.PageFile.{PageFile}

-- The page of these queues and jobs, as it was asked for. The time of the clock is unknown.
abbrev pub IsPage : List QueueLine → List AgedJob → PageFile → List ℕ → Type 0
IsPage queues jobs asked text =
    (stamp : List ℕ)
    × (text ≡ aged_page_html queues jobs (option_map (λ name. name.now) asked.queue) (option_map (λ name. name.now) asked.user) asked.follow stamp)
