-- Objects of the output. The members of an object are in the order of their keys.
use Rattle.std.specs.Prelude.{◌≡◌, ⊤, ℕ, true, false, List, codes, map, Option, None, Some, Vec}
use Rattle.std.specs.Global.{Global}
use Rattle.std.specs.List.{after_first, before_first}
use Rattle.std.specs.Str.Lossy.{utf8_lossy}
use Rattle.serde_json.specs.View.{items_of}
use Rattle.serde_json.specs.Data.{Data, array, boolean, number, unsigned, string, object, put, Members, member, no_members}
use Rattle.front_texts.specs.Json.{job_data, queue_data}
use Rattle.front_texts.specs.ReplyLines.{is_space, watch_line}
use Rattle.front_texts.specs.declared.reply_lines.WatchLine.{WatchLine}
use Rattle.front_texts.specs.declared.reply_lines.WatchLine.TheVariants.{Job, Queue, GoneJob, GoneQueue, Missed}

abbrev pub accepted_data : List ℕ → ℕ → Data
accepted_data queue job = object (member (codes "job") (number (unsigned job)) (member (codes "queue") (string queue) no_members))

abbrev pub running_data : List ℕ → Data
running_data socket = object (member (codes "running") (boolean true) (member (codes "service") (string socket) no_members))

-- A queue prints unless there is a reason why it cannot.
abbrev pub printing_data : List ℕ → Option (List ℕ) → Data
printing_data queue None = object (member (codes "prints") (boolean true) (member (codes "queue") (string queue) no_members))
printing_data queue (Some why) =
    object (member (codes "prints") (boolean false) (member (codes "queue") (string queue) (member (codes "why") (string why) no_members)))

abbrev pub unfit_data : List ℕ → List ℕ → List ℕ → Data
unfit_data kind name why = object (member (codes "kind") (string kind) (member (codes "name") (string name) (member (codes "why") (string why) no_members)))

abbrev pub news_data : WatchLine → Data
news_data (Job job) = object (member (codes "job") (job_data job) no_members)
news_data (Queue queue) = object (member (codes "queue") (queue_data queue) no_members)
news_data (GoneJob job) = object (member (codes "gone_job") (number (unsigned job)) no_members)
news_data (GoneQueue name) = object (member (codes "gone_queue") (string name) no_members)
news_data Missed = object (member (codes "missed") (boolean true) no_members)

-- A line that states a job or a queue has the object of it.
abbrev pub IsNewsBy : Option WatchLine → Data → Type 0
IsNewsBy (Some news) data_of = data_of ≡ news_data news
IsNewsBy None data_of = ⊤

abbrev pub IsNews : List ℕ → Data → Type 0
IsNews line data_of = IsNewsBy (watch_line line) data_of

-- A line of a reply as a text, in which U+FFFD stands for each invalid sequence.
abbrev pub line_data : Vec ℕ Global → Data
line_data line = string (utf8_lossy line.items)

abbrev pub lines_data : List (Vec ℕ Global) → Data
lines_data lines = array (items_of (map line_data lines))

-- A reply: its rows and its last line.
abbrev pub reply_data : List (Vec ℕ Global) → List ℕ → Data
reply_data rows last = object (member (codes "last") (string last) (member (codes "rows") (lines_data rows) no_members))

-- The members, with the field of a line `NAME VALUE`.
abbrev pub with_field : List ℕ → Members → Members
with_field line ms = put (before_first is_space line) (string (after_first is_space line)) ms
