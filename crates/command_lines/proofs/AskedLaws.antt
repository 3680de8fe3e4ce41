-- No line asks for another event than those of a line.
use Rattle.std.proofs.Common.{◌≡◌, ℕ, suc, zero, ◌+◌, Bool, true, false, cond, List, [], ◌∷◌, take, drop, length, refl, ltb, leb, Option, None, Some}
use Rattle.std.specs.List.{All}
use Rattle.std.specs.Option.{option_map, option_and_then}
use Rattle.std.specs.Prelude.{codes}
use Rattle.std.proofs.lemmas.List.Elements.{All-nil, All-cons}
use Rattle.spool_types.specs.Limits.{longest_send}
use Rattle.spool_types.specs.Values.{is_queue_name, is_uri, is_user_name, is_title, is_options, is_note, is_file_name, text_in, media_in}
use Rattle.spool_types.specs.declared.phase.Policy.{Policy}
use Rattle.spool_types.specs.declared.event.Event.{Event}
use Rattle.spool_types.specs.declared.event.Event.TheVariants.{SetAccept, SetStop, Release, Abandon, Cancel, Purge, Clock}
use Rattle.command_lines.specs.AskedEvents.{is_line_event, AsksForLineEvent}
use Rattle.command_lines.specs.TextLines.{first_line, after_line}
use Rattle.command_lines.specs.CommandWords.{words_of}
use Rattle.command_lines.specs.CommandGrammar.{is_word, policy_in, interval_in, limit_in, copies_in, priority_in, count_in, until_in, job_in, moment_in, queue_in, one_word, one_word_line, new_queue_of, queue_line, info_of, info_line, creation_of, creation_in, create_line, createby_line, send_of, send_line, close_of, close_line, hold_of, hold_line, jobs_line, queues_line, rounds_in, round_line, drain_line, checkpoint_line, line_of, or_malformed, kind_of_words, is_remark, kind_of}
use Rattle.command_lines.specs.Text.{is_lf_at, sent, after_bytes, after_kind, commands_within, commands_of}
use Rattle.command_lines.specs.declared.command.Command.{Command}
use Rattle.command_lines.specs.declared.command.Command.TheVariants.{Apply, Drain, Malformed}
use Rattle.command_lines.specs.declared.command.Kind.{Kind}
use Rattle.command_lines.specs.declared.command.Kind.TheVariants.{Remark, Says, Takes}

-- The events that a line of this kind asks for.
abbrev Asks : Kind → Type 0
Asks Remark = Unit {0}
Asks (Says c) = AsksForLineEvent c
Asks (Takes job n) = Unit {0}

abbrev MayAsk : Option Kind → Type 0
MayAsk None = Unit {0}
MayAsk (Some kind) = Asks kind

abbrev IsOfLine : Option Event → Type 0
IsOfLine None = Unit {0}
IsOfLine (Some e) = is_line_event e ≡ true

either : {X : Type 0} (P : X → Type 0) (b : Bool) (x y : X) → P x → P y → P (cond b x y)
either P true x y p q = p
either P false x y p q = q

mapped : {X : Type 0} (event : X → Event) → ((x : X) → is_line_event (event x) ≡ true) → (value : Option X) → IsOfLine (option_map event value)
mapped event h None = tt
mapped event h (Some x) = h x

-- ## The rows of the table

one_word_asks : (name word : List ℕ) → IsOfLine (one_word name word)
one_word_asks name word =
    either IsOfLine (is_word name (codes "accept")) _ _ (mapped (λ queue. SetAccept queue true) (λ x. refl) (queue_in word))
    (either IsOfLine (is_word name (codes "reject")) _ _ (mapped (λ queue. SetAccept queue false) (λ x. refl) (queue_in word))
    (either IsOfLine (is_word name (codes "enable")) _ _ (mapped (λ queue. SetStop queue false) (λ x. refl) (queue_in word))
    (either IsOfLine (is_word name (codes "disable")) _ _ (mapped (λ queue. SetStop queue true) (λ x. refl) (queue_in word))
    (either IsOfLine (is_word name (codes "release")) _ _ (mapped (λ job. Release job) (λ x. refl) (job_in word))
    (either IsOfLine (is_word name (codes "cancel")) _ _ (mapped (λ job. Cancel job) (λ x. refl) (job_in word))
    (either IsOfLine (is_word name (codes "abandon")) _ _ (mapped (λ job. Abandon job) (λ x. refl) (job_in word))
    (either IsOfLine (is_word name (codes "purge")) _ _ (mapped (λ job. Purge job) (λ x. refl) (job_in word))
    (either IsOfLine (is_word name (codes "clock")) _ _ (mapped (λ moment. Clock moment) (λ x. refl) (moment_in word))
    tt))))))))

says_event : (event : Option Event) → IsOfLine event → MayAsk (option_map (λ e. Says (Apply e)) event)
says_event None h = tt
says_event (Some e) h = h

one_word_line_asks : (name : List ℕ) (words : List (List ℕ)) → MayAsk (one_word_line name words)
one_word_line_asks name [] = tt
one_word_line_asks name (word ∷ []) = says_event (one_word name word) (one_word_asks name word)
one_word_line_asks name (word ∷ other ∷ words) = tt

queue_asks : (name uri target : Option (List ℕ)) (policy : Option Policy) (interval limit : Option ℕ) → MayAsk (new_queue_of name uri target policy interval limit)
queue_asks None uri target policy interval limit = tt
queue_asks (Some name) None target policy interval limit = tt
queue_asks (Some name) (Some uri) None policy interval limit = tt
queue_asks (Some name) (Some uri) (Some target) None interval limit = tt
queue_asks (Some name) (Some uri) (Some target) (Some policy) None limit = tt
queue_asks (Some name) (Some uri) (Some target) (Some policy) (Some interval) None = tt
queue_asks (Some name) (Some uri) (Some target) (Some policy) (Some interval) (Some limit) = tt

queue_line_asks : (words : List (List ℕ)) → MayAsk (queue_line words)
queue_line_asks [] = tt
queue_line_asks (a ∷ []) = tt
queue_line_asks (a ∷ b ∷ []) = tt
queue_line_asks (a ∷ b ∷ c ∷ []) = tt
queue_line_asks (a ∷ b ∷ c ∷ d ∷ []) = queue_asks (text_in is_queue_name a) (text_in is_uri b) (media_in c) (policy_in d) (Some 30) (Some 5)
queue_line_asks (a ∷ b ∷ c ∷ d ∷ e ∷ []) = queue_asks (text_in is_queue_name a) (text_in is_uri b) (media_in c) (policy_in d) (interval_in e) (Some 5)
queue_line_asks (a ∷ b ∷ c ∷ d ∷ e ∷ f ∷ []) = queue_asks (text_in is_queue_name a) (text_in is_uri b) (media_in c) (policy_in d) (interval_in e) (limit_in f)
queue_line_asks (a ∷ b ∷ c ∷ d ∷ e ∷ f ∷ g ∷ words) = tt

info_asks : (queue info location : Option (List ℕ)) → MayAsk (info_of queue info location)
info_asks None info location = tt
info_asks (Some queue) None location = tt
info_asks (Some queue) (Some info) None = tt
info_asks (Some queue) (Some info) (Some location) = refl

info_line_asks : (words : List (List ℕ)) → MayAsk (info_line words)
info_line_asks [] = tt
info_line_asks (a ∷ []) = tt
info_line_asks (a ∷ b ∷ []) = tt
info_line_asks (a ∷ b ∷ c ∷ []) = info_asks (text_in is_queue_name a) (text_in is_note b) (text_in is_note c)
info_line_asks (a ∷ b ∷ c ∷ d ∷ words) = tt

creation_asks : (queue user title : Option (List ℕ)) (copies priority : Option ℕ) (options : Option (List ℕ)) (by : Option ℕ) → MayAsk (creation_of queue user title copies priority options by)
creation_asks None user title copies priority options by = tt
creation_asks (Some queue) None title copies priority options by = tt
creation_asks (Some queue) (Some user) None copies priority options by = tt
creation_asks (Some queue) (Some user) (Some title) None priority options by = tt
creation_asks (Some queue) (Some user) (Some title) (Some copies) None options by = tt
creation_asks (Some queue) (Some user) (Some title) (Some copies) (Some priority) None by = tt
creation_asks (Some queue) (Some user) (Some title) (Some copies) (Some priority) (Some options) by = tt

create_line_asks : (words : List (List ℕ)) → MayAsk (create_line words)
create_line_asks [] = tt
create_line_asks (a ∷ []) = tt
create_line_asks (a ∷ b ∷ []) = tt
create_line_asks (a ∷ b ∷ c ∷ []) = tt
create_line_asks (a ∷ b ∷ c ∷ d ∷ []) = tt
create_line_asks (a ∷ b ∷ c ∷ d ∷ e ∷ []) = tt
create_line_asks (a ∷ b ∷ c ∷ d ∷ e ∷ f ∷ []) = creation_asks (text_in is_queue_name a) (text_in is_user_name b) (text_in is_title c) (copies_in d) (priority_in e) (text_in is_options f) None
create_line_asks (a ∷ b ∷ c ∷ d ∷ e ∷ f ∷ g ∷ words) = tt

createby_asks : (a b c d e f : List ℕ) (by : Option ℕ) → MayAsk (option_and_then (λ moment. creation_in a b c d e f (Some moment)) by)
createby_asks a b c d e f None = tt
createby_asks a b c d e f (Some moment) = creation_asks (text_in is_queue_name a) (text_in is_user_name b) (text_in is_title c) (copies_in d) (priority_in e) (text_in is_options f) (Some moment)

createby_line_asks : (words : List (List ℕ)) → MayAsk (createby_line words)
createby_line_asks [] = tt
createby_line_asks (a ∷ []) = tt
createby_line_asks (a ∷ b ∷ []) = tt
createby_line_asks (a ∷ b ∷ c ∷ []) = tt
createby_line_asks (a ∷ b ∷ c ∷ d ∷ []) = tt
createby_line_asks (a ∷ b ∷ c ∷ d ∷ e ∷ []) = tt
createby_line_asks (a ∷ b ∷ c ∷ d ∷ e ∷ f ∷ []) = tt
createby_line_asks (a ∷ b ∷ c ∷ d ∷ e ∷ f ∷ by ∷ []) = createby_asks a b c d e f (moment_in by)
createby_line_asks (a ∷ b ∷ c ∷ d ∷ e ∷ f ∷ by ∷ more ∷ words) = tt

send_asks : (job count : Option ℕ) → MayAsk (send_of job count)
send_asks None count = tt
send_asks (Some job) None = tt
send_asks (Some job) (Some count) = tt

send_line_asks : (words : List (List ℕ)) → MayAsk (send_line words)
send_line_asks [] = tt
send_line_asks (a ∷ []) = tt
send_line_asks (a ∷ b ∷ []) = send_asks (job_in a) (count_in b)
send_line_asks (a ∷ b ∷ c ∷ words) = tt

close_asks : (job : Option ℕ) (name : Option (List ℕ)) → MayAsk (close_of job name)
close_asks None name = tt
close_asks (Some job) None = tt
close_asks (Some job) (Some name) = tt

close_line_asks : (words : List (List ℕ)) → MayAsk (close_line words)
close_line_asks [] = tt
close_line_asks (a ∷ []) = tt
close_line_asks (a ∷ b ∷ []) = close_asks (job_in a) (text_in is_file_name b)
close_line_asks (a ∷ b ∷ c ∷ words) = tt

hold_asks : (job : Option ℕ) (until : Option (Option ℕ)) → MayAsk (hold_of job until)
hold_asks None until = tt
hold_asks (Some job) None = tt
hold_asks (Some job) (Some until) = refl

hold_line_asks : (words : List (List ℕ)) → MayAsk (hold_line words)
hold_line_asks [] = tt
hold_line_asks (a ∷ []) = tt
hold_line_asks (a ∷ b ∷ []) = hold_asks (job_in a) (until_in b)
hold_line_asks (a ∷ b ∷ c ∷ words) = tt

jobs_line_asks : (words : List (List ℕ)) → MayAsk (jobs_line words)
jobs_line_asks [] = tt
jobs_line_asks (a ∷ words) = tt

queues_line_asks : (words : List (List ℕ)) → MayAsk (queues_line words)
queues_line_asks [] = tt
queues_line_asks (a ∷ words) = tt

round_line_asks : (words : List (List ℕ)) → MayAsk (round_line words)
round_line_asks [] = tt
round_line_asks (a ∷ words) = tt

drain_asks : (most : Option ℕ) → MayAsk (option_map (λ n. Says (Drain n)) most)
drain_asks None = tt
drain_asks (Some n) = tt

drain_line_asks : (words : List (List ℕ)) → MayAsk (drain_line words)
drain_line_asks [] = tt
drain_line_asks (a ∷ []) = drain_asks (rounds_in a)
drain_line_asks (a ∷ b ∷ words) = tt

checkpoint_line_asks : (words : List (List ℕ)) → MayAsk (checkpoint_line words)
checkpoint_line_asks [] = tt
checkpoint_line_asks (a ∷ words) = tt

-- ## The table, and the text

line_asks : (name : List ℕ) (words : List (List ℕ)) → MayAsk (line_of name words)
line_asks name words =
    either MayAsk (is_word name (codes "jobs")) _ _ (jobs_line_asks words)
    (either MayAsk (is_word name (codes "queues")) _ _ (queues_line_asks words)
    (either MayAsk (is_word name (codes "round")) _ _ (round_line_asks words)
    (either MayAsk (is_word name (codes "drain")) _ _ (drain_line_asks words)
    (either MayAsk (is_word name (codes "checkpoint")) _ _ (checkpoint_line_asks words)
    (either MayAsk (is_word name (codes "queue")) _ _ (queue_line_asks words)
    (either MayAsk (is_word name (codes "info")) _ _ (info_line_asks words)
    (either MayAsk (is_word name (codes "create")) _ _ (create_line_asks words)
    (either MayAsk (is_word name (codes "createby")) _ _ (createby_line_asks words)
    (either MayAsk (is_word name (codes "send")) _ _ (send_line_asks words)
    (either MayAsk (is_word name (codes "close")) _ _ (close_line_asks words)
    (either MayAsk (is_word name (codes "hold")) _ _ (hold_line_asks words)
    (one_word_line_asks name words))))))))))))

words_ask : (words : Option (List (List ℕ))) → Asks (kind_of_words words)
words_ask None = tt
words_ask (Some []) = tt
words_ask (Some (name ∷ words)) = (elim (line_of name words) as (λ (v : Option Kind). MayAsk v → Asks (or_malformed v)) [ None ↦ λ h. tt | Some kind ↦ λ h. h ]) (line_asks name words)

kind_asks : (line : List ℕ) → Asks (kind_of line)
unfolding kind_of
kind_asks line =
    either Asks (is_remark line) _ _ tt
    (either Asks (ltb 4096 (length line)) _ _ tt
    (words_ask (words_of line)))

sent_asks : (job n : ℕ) (bytes : List ℕ) → AsksForLineEvent (sent job n bytes)
sent_asks job n bytes = either AsksForLineEvent (leb n longest_send) _ _ refl tt

module _ (reading : List ℕ → List Command) (asks : (text : List ℕ) → All AsksForLineEvent (reading text)) where
  bytes_ask : (job n : ℕ) (text : List ℕ) → All AsksForLineEvent (after_bytes reading (sent job n) n text)
  bytes_ask job n text =
      either (All AsksForLineEvent) (is_lf_at n text) _ _
      (All-cons AsksForLineEvent (sent job n (take n text)) (reading (drop (n + 1) text)) (sent_asks job n (take n text)) (asks (drop (n + 1) text)))
      (All-cons AsksForLineEvent Malformed (reading (after_line (drop n text))) tt (asks (after_line (drop n text))))

  after_asks : (kind : Kind) (rest : List ℕ) → Asks kind → All AsksForLineEvent (after_kind reading kind rest)
  after_asks Remark rest h = asks rest
  after_asks (Says c) rest h = All-cons AsksForLineEvent c (reading rest) h (asks rest)
  after_asks (Takes job n) rest h = bytes_ask job n rest

within_asks : (k : ℕ) (text : List ℕ) → All AsksForLineEvent (commands_within k text)
unfolding commands_within
within_asks zero text = All-nil AsksForLineEvent
within_asks (suc k) [] = All-nil AsksForLineEvent
within_asks (suc k) (b ∷ bs) =
    after_asks (commands_within k) (within_asks k) (kind_of (first_line (b ∷ bs))) (after_line (b ∷ bs)) (kind_asks (first_line (b ∷ bs)))

pub text_asks : (text : List ℕ) → All AsksForLineEvent (commands_of text)
unfolding commands_of
text_asks text = within_asks (length text) text
