-- No line is a command that only the bytes of a send can be.
use Rattle.std.proofs.Common.{◌≡◌, ℕ, Bool, true, false, cond, List, [], ◌∷◌, length, refl, ltb, Option, None, Some}
use Rattle.std.specs.Option.{option_map, option_and_then}
use Rattle.std.specs.Prelude.{codes}
use Rattle.spool_types.specs.Values.{is_queue_name, is_uri, is_user_name, is_title, is_options, is_note, is_file_name, text_in, media_in}
use Rattle.spool_types.specs.declared.phase.Policy.{Policy}
use Rattle.spool_types.specs.declared.event.Event.{Event}
use Rattle.spool_types.specs.declared.event.Event.TheVariants.{SetAccept, SetStop, Send, Release, Abandon, Cancel, Purge, Clock}
use Rattle.command_lines.specs.CommandWords.{words_of}
use Rattle.command_lines.specs.CommandGrammar.{is_word, policy_in, interval_in, limit_in, copies_in, priority_in, count_in, until_in, job_in, moment_in, queue_in, one_word, one_word_line, new_queue_of, queue_line, info_of, info_line, creation_of, creation_in, create_line, createby_line, send_of, send_line, close_of, close_line, hold_of, hold_line, jobs_line, queues_line, rounds_in, round_line, drain_line, checkpoint_line, line_of, or_malformed, kind_of_words, is_remark, kind_of}
use Rattle.command_lines.specs.declared.command.Command.{Command}
use Rattle.command_lines.specs.declared.command.Command.TheVariants.{Apply, Drain, OversizedSend}
use Rattle.command_lines.specs.declared.command.Kind.{Kind}
use Rattle.command_lines.specs.declared.command.Kind.TheVariants.{Remark, Says, Takes}

abbrev pub is_send_event : Event → Bool
is_send_event (Send job bytes) = true
is_send_event e = false

-- The command of the bytes of a send.
abbrev pub is_send : Command → Bool
is_send (Apply e) = is_send_event e
is_send OversizedSend = true
is_send c = false

-- The command of a line of this kind is no send.
abbrev pub SaysNone : Kind → Type 0
SaysNone Remark = Unit {0}
SaysNone (Says c) = is_send c ≡ false
SaysNone (Takes job n) = Unit {0}

abbrev MaySay : Option Kind → Type 0
MaySay None = Unit {0}
MaySay (Some kind) = SaysNone kind

abbrev IsNoSend : Option Event → Type 0
IsNoSend None = Unit {0}
IsNoSend (Some e) = is_send (Apply e) ≡ false

either : {X : Type 0} (P : X → Type 0) (b : Bool) (x y : X) → P x → P y → P (cond b x y)
either P true x y p q = p
either P false x y p q = q

mapped : {X : Type 0} (event : X → Event) → ((x : X) → is_send (Apply (event x)) ≡ false) → (value : Option X) → IsNoSend (option_map event value)
mapped event h None = tt
mapped event h (Some x) = h x

-- ## The rows of the table

no_send_one_word : (name word : List ℕ) → IsNoSend (one_word name word)
no_send_one_word name word =
    either IsNoSend (is_word name (codes "accept")) _ _ (mapped (λ queue. SetAccept queue true) (λ x. refl) (queue_in word))
    (either IsNoSend (is_word name (codes "reject")) _ _ (mapped (λ queue. SetAccept queue false) (λ x. refl) (queue_in word))
    (either IsNoSend (is_word name (codes "enable")) _ _ (mapped (λ queue. SetStop queue false) (λ x. refl) (queue_in word))
    (either IsNoSend (is_word name (codes "disable")) _ _ (mapped (λ queue. SetStop queue true) (λ x. refl) (queue_in word))
    (either IsNoSend (is_word name (codes "release")) _ _ (mapped (λ job. Release job) (λ x. refl) (job_in word))
    (either IsNoSend (is_word name (codes "cancel")) _ _ (mapped (λ job. Cancel job) (λ x. refl) (job_in word))
    (either IsNoSend (is_word name (codes "abandon")) _ _ (mapped (λ job. Abandon job) (λ x. refl) (job_in word))
    (either IsNoSend (is_word name (codes "purge")) _ _ (mapped (λ job. Purge job) (λ x. refl) (job_in word))
    (either IsNoSend (is_word name (codes "clock")) _ _ (mapped (λ moment. Clock moment) (λ x. refl) (moment_in word))
    tt))))))))

says_event : (event : Option Event) → IsNoSend event → MaySay (option_map (λ e. Says (Apply e)) event)
says_event None h = tt
says_event (Some e) h = h

no_send_one_word_line : (name : List ℕ) (words : List (List ℕ)) → MaySay (one_word_line name words)
no_send_one_word_line name [] = tt
no_send_one_word_line name (word ∷ []) = says_event (one_word name word) (no_send_one_word name word)
no_send_one_word_line name (word ∷ other ∷ words) = tt

no_send_queue : (name uri target : Option (List ℕ)) (policy : Option Policy) (interval limit : Option ℕ) → MaySay (new_queue_of name uri target policy interval limit)
no_send_queue None uri target policy interval limit = tt
no_send_queue (Some name) None target policy interval limit = tt
no_send_queue (Some name) (Some uri) None policy interval limit = tt
no_send_queue (Some name) (Some uri) (Some target) None interval limit = tt
no_send_queue (Some name) (Some uri) (Some target) (Some policy) None limit = tt
no_send_queue (Some name) (Some uri) (Some target) (Some policy) (Some interval) None = tt
no_send_queue (Some name) (Some uri) (Some target) (Some policy) (Some interval) (Some limit) = refl

no_send_queue_line : (words : List (List ℕ)) → MaySay (queue_line words)
no_send_queue_line [] = tt
no_send_queue_line (a ∷ []) = tt
no_send_queue_line (a ∷ b ∷ []) = tt
no_send_queue_line (a ∷ b ∷ c ∷ []) = tt
no_send_queue_line (a ∷ b ∷ c ∷ d ∷ []) = no_send_queue (text_in is_queue_name a) (text_in is_uri b) (media_in c) (policy_in d) (Some 30) (Some 5)
no_send_queue_line (a ∷ b ∷ c ∷ d ∷ e ∷ []) = no_send_queue (text_in is_queue_name a) (text_in is_uri b) (media_in c) (policy_in d) (interval_in e) (Some 5)
no_send_queue_line (a ∷ b ∷ c ∷ d ∷ e ∷ f ∷ []) = no_send_queue (text_in is_queue_name a) (text_in is_uri b) (media_in c) (policy_in d) (interval_in e) (limit_in f)
no_send_queue_line (a ∷ b ∷ c ∷ d ∷ e ∷ f ∷ g ∷ words) = tt

no_send_info : (queue info location : Option (List ℕ)) → MaySay (info_of queue info location)
no_send_info None info location = tt
no_send_info (Some queue) None location = tt
no_send_info (Some queue) (Some info) None = tt
no_send_info (Some queue) (Some info) (Some location) = refl

no_send_info_line : (words : List (List ℕ)) → MaySay (info_line words)
no_send_info_line [] = tt
no_send_info_line (a ∷ []) = tt
no_send_info_line (a ∷ b ∷ []) = tt
no_send_info_line (a ∷ b ∷ c ∷ []) = no_send_info (text_in is_queue_name a) (text_in is_note b) (text_in is_note c)
no_send_info_line (a ∷ b ∷ c ∷ d ∷ words) = tt

no_send_creation : (queue user title : Option (List ℕ)) (copies priority : Option ℕ) (options : Option (List ℕ)) (by : Option ℕ) → MaySay (creation_of queue user title copies priority options by)
no_send_creation None user title copies priority options by = tt
no_send_creation (Some queue) None title copies priority options by = tt
no_send_creation (Some queue) (Some user) None copies priority options by = tt
no_send_creation (Some queue) (Some user) (Some title) None priority options by = tt
no_send_creation (Some queue) (Some user) (Some title) (Some copies) None options by = tt
no_send_creation (Some queue) (Some user) (Some title) (Some copies) (Some priority) None by = tt
no_send_creation (Some queue) (Some user) (Some title) (Some copies) (Some priority) (Some options) by = refl

no_send_create_line : (words : List (List ℕ)) → MaySay (create_line words)
no_send_create_line [] = tt
no_send_create_line (a ∷ []) = tt
no_send_create_line (a ∷ b ∷ []) = tt
no_send_create_line (a ∷ b ∷ c ∷ []) = tt
no_send_create_line (a ∷ b ∷ c ∷ d ∷ []) = tt
no_send_create_line (a ∷ b ∷ c ∷ d ∷ e ∷ []) = tt
no_send_create_line (a ∷ b ∷ c ∷ d ∷ e ∷ f ∷ []) = no_send_creation (text_in is_queue_name a) (text_in is_user_name b) (text_in is_title c) (copies_in d) (priority_in e) (text_in is_options f) None
no_send_create_line (a ∷ b ∷ c ∷ d ∷ e ∷ f ∷ g ∷ words) = tt

no_send_createby : (a b c d e f : List ℕ) (by : Option ℕ) → MaySay (option_and_then (λ moment. creation_in a b c d e f (Some moment)) by)
no_send_createby a b c d e f None = tt
no_send_createby a b c d e f (Some moment) = no_send_creation (text_in is_queue_name a) (text_in is_user_name b) (text_in is_title c) (copies_in d) (priority_in e) (text_in is_options f) (Some moment)

no_send_createby_line : (words : List (List ℕ)) → MaySay (createby_line words)
no_send_createby_line [] = tt
no_send_createby_line (a ∷ []) = tt
no_send_createby_line (a ∷ b ∷ []) = tt
no_send_createby_line (a ∷ b ∷ c ∷ []) = tt
no_send_createby_line (a ∷ b ∷ c ∷ d ∷ []) = tt
no_send_createby_line (a ∷ b ∷ c ∷ d ∷ e ∷ []) = tt
no_send_createby_line (a ∷ b ∷ c ∷ d ∷ e ∷ f ∷ []) = tt
no_send_createby_line (a ∷ b ∷ c ∷ d ∷ e ∷ f ∷ by ∷ []) = no_send_createby a b c d e f (moment_in by)
no_send_createby_line (a ∷ b ∷ c ∷ d ∷ e ∷ f ∷ by ∷ more ∷ words) = tt

no_send_send : (job count : Option ℕ) → MaySay (send_of job count)
no_send_send None count = tt
no_send_send (Some job) None = tt
no_send_send (Some job) (Some count) = tt

no_send_send_line : (words : List (List ℕ)) → MaySay (send_line words)
no_send_send_line [] = tt
no_send_send_line (a ∷ []) = tt
no_send_send_line (a ∷ b ∷ []) = no_send_send (job_in a) (count_in b)
no_send_send_line (a ∷ b ∷ c ∷ words) = tt

no_send_close : (job : Option ℕ) (name : Option (List ℕ)) → MaySay (close_of job name)
no_send_close None name = tt
no_send_close (Some job) None = tt
no_send_close (Some job) (Some name) = refl

no_send_close_line : (words : List (List ℕ)) → MaySay (close_line words)
no_send_close_line [] = tt
no_send_close_line (a ∷ []) = tt
no_send_close_line (a ∷ b ∷ []) = no_send_close (job_in a) (text_in is_file_name b)
no_send_close_line (a ∷ b ∷ c ∷ words) = tt

no_send_hold : (job : Option ℕ) (until : Option (Option ℕ)) → MaySay (hold_of job until)
no_send_hold None until = tt
no_send_hold (Some job) None = tt
no_send_hold (Some job) (Some until) = refl

no_send_hold_line : (words : List (List ℕ)) → MaySay (hold_line words)
no_send_hold_line [] = tt
no_send_hold_line (a ∷ []) = tt
no_send_hold_line (a ∷ b ∷ []) = no_send_hold (job_in a) (until_in b)
no_send_hold_line (a ∷ b ∷ c ∷ words) = tt

no_send_jobs_line : (words : List (List ℕ)) → MaySay (jobs_line words)
no_send_jobs_line [] = refl
no_send_jobs_line (a ∷ words) = tt

no_send_queues_line : (words : List (List ℕ)) → MaySay (queues_line words)
no_send_queues_line [] = refl
no_send_queues_line (a ∷ words) = tt

no_send_round_line : (words : List (List ℕ)) → MaySay (round_line words)
no_send_round_line [] = refl
no_send_round_line (a ∷ words) = tt

no_send_drain : (most : Option ℕ) → MaySay (option_map (λ n. Says (Drain n)) most)
no_send_drain None = tt
no_send_drain (Some n) = refl

no_send_drain_line : (words : List (List ℕ)) → MaySay (drain_line words)
no_send_drain_line [] = tt
no_send_drain_line (a ∷ []) = no_send_drain (rounds_in a)
no_send_drain_line (a ∷ b ∷ words) = tt

no_send_checkpoint_line : (words : List (List ℕ)) → MaySay (checkpoint_line words)
no_send_checkpoint_line [] = refl
no_send_checkpoint_line (a ∷ words) = tt

-- ## The table, and the text

no_send_line : (name : List ℕ) (words : List (List ℕ)) → MaySay (line_of name words)
no_send_line name words =
    either MaySay (is_word name (codes "jobs")) _ _ (no_send_jobs_line words)
    (either MaySay (is_word name (codes "queues")) _ _ (no_send_queues_line words)
    (either MaySay (is_word name (codes "round")) _ _ (no_send_round_line words)
    (either MaySay (is_word name (codes "drain")) _ _ (no_send_drain_line words)
    (either MaySay (is_word name (codes "checkpoint")) _ _ (no_send_checkpoint_line words)
    (either MaySay (is_word name (codes "queue")) _ _ (no_send_queue_line words)
    (either MaySay (is_word name (codes "info")) _ _ (no_send_info_line words)
    (either MaySay (is_word name (codes "create")) _ _ (no_send_create_line words)
    (either MaySay (is_word name (codes "createby")) _ _ (no_send_createby_line words)
    (either MaySay (is_word name (codes "send")) _ _ (no_send_send_line words)
    (either MaySay (is_word name (codes "close")) _ _ (no_send_close_line words)
    (either MaySay (is_word name (codes "hold")) _ _ (no_send_hold_line words)
    (no_send_one_word_line name words))))))))))))

no_send_words : (words : Option (List (List ℕ))) → SaysNone (kind_of_words words)
no_send_words None = refl
no_send_words (Some []) = refl
no_send_words (Some (name ∷ words)) = (elim (line_of name words) as (λ (v : Option Kind). MaySay v → SaysNone (or_malformed v)) [ None ↦ λ h. refl | Some kind ↦ λ h. h ]) (no_send_line name words)

pub no_send_kind : (line : List ℕ) → SaysNone (kind_of line)
unfolding kind_of
no_send_kind line =
    either SaysNone (is_remark line) _ _ tt
    (either SaysNone (ltb 4096 (length line)) _ _ refl
    (no_send_words (words_of line)))
