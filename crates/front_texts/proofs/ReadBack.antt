-- The printed row of a job reads as the job.
use Rattle.std.proofs.Common.{◌≡◌, ℕ, ◌<◌, ◌≤◌, ◌^◌, Bool, true, false, ◌&&◌, cond, nat_le, nat_lt, List, [], ◌∷◌, ◌++◌, length, codes, refl, ap, ◌∙◌, arith, Option, None, Some, append_assoc, IsTrue}
use Rattle.std.proofs.lemmas.Bool.{and_from, le-leb}
use Rattle.std.proofs.lemmas.Bool.Decides.{nat_tests}
use Rattle.std.proofs.lemmas.Fmt.{length-decimal-le}
use Rattle.std.proofs.lemmas.List.{append_cancel_right}
use Rattle.std.specs.Fmt.{decimal}
use Rattle.std.specs.List.{list_all}
use Rattle.std.specs.Option.{option_and_then}
use Rattle.std.specs.Str.{is_utf8, chars}
use Rattle.std.specs.Char.{encode_utf8}
use Rattle.line_words.specs.Blanks.{first_word, after_word}
use Rattle.line_words.specs.DecimalNumbers.{decimal as number_in}
use Rattle.spool_types.specs.Limits.{greatest_number}
use Rattle.spool_types.specs.Phases.{is_in_force, hold_word, hold_reason_word, waiting_word, abort_reason_word, job_state, job_reason}
use Rattle.spool_types.specs.Values.{is_queue_byte, is_queue_name, is_title, text_in}
use Rattle.front_texts.specs.ShownUsers.{is_shown_user}
use Rattle.spool_types.specs.declared.phase.Phase.{Phase}
use Rattle.spool_types.specs.declared.phase.Phase.TheVariants.{Incoming, Waiting, Processing, Completed, Canceled, Aborted}
use Rattle.spool_types.specs.declared.phase.Hold.{Hold}
use Rattle.spool_types.specs.declared.phase.Hold.TheVariants.{Free, Indefinite, Until}
use Rattle.spool_types.specs.declared.phase.HoldReason.{HoldReason}
use Rattle.spool_types.specs.declared.phase.HoldReason.TheVariants.{Unspecified, Authentication, Backend}
use Rattle.spool_types.specs.declared.phase.AbortReason.{AbortReason}
use Rattle.spool_types.specs.declared.phase.AbortReason.TheVariants.{FilterFailed, BackendFailed, RetryLimit, AttemptLost, NoFilter}
use Rattle.command_lines.specs.CommandGrammar.{job_in}
use Rattle.command_lines.specs.CommandNumbers.{number_of}
use Rattle.front_texts.specs.ReplyFields.{quoted_text, after_quoted, text_of, rest_of, is_end, count_in, job_state_of, reason_in}
use Rattle.front_texts.specs.JobRows.{head_of, head_row, tail_of, tail_from, tail_row, joined, job_words, job_row}
use Rattle.front_texts.specs.ReadBack.{state_of, reason_of, JobRowsReadBack}
use Rattle.front_texts.specs.declared.states.JobState.{JobState}
use Rattle.front_texts.specs.declared.states.JobState.TheVariants as states
use Rattle.front_texts.specs.StateWords.{job_state_in}
use Rattle.front_texts.specs.declared.job_line.JobHead.{JobHead}
use Rattle.front_texts.specs.declared.job_line.JobTail.{JobTail}
use Rattle.front_texts.proofs.WordLaws.{is_solid, IsWhole, first_word-front, after_word-front, whole_from, decimal_whole, number_back, escaped_text, quoted_back}

-- ## The state and its reason

-- A reason of a state.
record IsReasonWord (w : List ℕ) : Type 0 where
  pub whole : IsWhole w
  pub reads : reason_in w ≡ Some (reason_of w)

whole : (w : List ℕ) → nat_le 1 (length w) ≡ true → list_all is_solid w ≡ true → IsWhole w
whole w e all = record { some = grind (arith, nat_tests); solid = all }

word_of_hold : (r : HoldReason) → IsReasonWord (hold_reason_word r)
unfolding is_utf8 chars encode_utf8
word_of_hold Unspecified = record { whole = whole _ refl refl; reads = refl }
word_of_hold Authentication = record { whole = whole _ refl refl; reads = refl }
word_of_hold Backend = record { whole = whole _ refl refl; reads = refl }

no_word : IsReasonWord (codes "none")
no_word = record { whole = whole _ refl refl; reads = refl }

word_of : (hold : Hold) → IsReasonWord (hold_word hold)
word_of Free = no_word
word_of (Indefinite reason) = word_of_hold reason
word_of (Until moment) = word_of_hold Unspecified

word_of_abort : (r : AbortReason) → IsReasonWord (abort_reason_word r)
unfolding is_utf8 chars encode_utf8
word_of_abort FilterFailed = record { whole = whole _ refl refl; reads = refl }
word_of_abort BackendFailed = record { whole = whole _ refl refl; reads = refl }
word_of_abort RetryLimit = record { whole = whole _ refl refl; reads = refl }
word_of_abort AttemptLost = record { whole = whole _ refl refl; reads = refl }
word_of_abort NoFilter = record { whole = whole _ refl refl; reads = refl }

later_word : IsReasonWord (codes "retry-later")
unfolding is_utf8 chars encode_utf8
later_word = record { whole = whole _ refl refl; reads = refl }

word_waiting : (now : ℕ) (hold : Hold) (not_before : ℕ) → IsReasonWord (waiting_word now hold not_before)
word_waiting now hold not_before =
    elim (is_in_force now hold) as (λ v. IsReasonWord (cond v (hold_word hold) (cond (nat_lt now not_before) (codes "retry-later") (codes "none")))) [
      | true ↦ word_of hold
      | false ↦ elim (nat_lt now not_before) as (λ v. IsReasonWord (cond v (codes "retry-later") (codes "none"))) [ true ↦ later_word | false ↦ no_word ]
    ]

incoming_word : IsReasonWord (codes "job-incoming")
unfolding is_utf8 chars encode_utf8
incoming_word = record { whole = whole _ refl refl; reads = refl }

printing_word : IsReasonWord (codes "job-printing")
unfolding is_utf8 chars encode_utf8
printing_word = record { whole = whole _ refl refl; reads = refl }

completed_word : IsReasonWord (codes "job-completed-successfully")
unfolding is_utf8 chars encode_utf8
completed_word = record { whole = whole _ refl refl; reads = refl }

canceled_word : IsReasonWord (codes "canceled")
unfolding is_utf8 chars encode_utf8
canceled_word = record { whole = whole _ refl refl; reads = refl }

reason_word : (now : ℕ) (phase : Phase) → IsReasonWord (job_reason now phase)
reason_word now (Incoming hold) = incoming_word
reason_word now (Waiting hold not_before first) = word_waiting now hold not_before
reason_word now (Processing attempt stage stages) = printing_word
reason_word now Completed = completed_word
reason_word now Canceled = canceled_word
reason_word now (Aborted reason) = word_of_abort reason

-- The digits of a number up to 9.
read_as : (n : ℕ) → n ≤ 9 → job_state_of (decimal n) ≡ job_state_in n
read_as n le = ap (option_and_then job_state_in) (number_back 9 n le (omega arith))

state_reads : (now : ℕ) (phase : Phase) → job_state_of (decimal (job_state now phase)) ≡ Some (state_of now phase)
state_reads now (Incoming hold) = read_as 4 (omega arith)
state_reads now (Waiting hold not_before first) =
    elim (is_in_force now hold) as (λ v. job_state_of (decimal (cond v 4 3)) ≡ Some (cond v states.Held states.Pending)) [ true ↦ read_as 4 (omega arith) | false ↦ read_as 3 (omega arith) ]
state_reads now (Processing attempt stage stages) = read_as 5 (omega arith)
state_reads now Completed = read_as 9 (omega arith)
state_reads now Canceled = read_as 7 (omega arith)
state_reads now (Aborted reason) = read_as 8 (omega arith)

state_small : (now : ℕ) (phase : Phase) → job_state now phase < 2 ^ 64
state_small now (Incoming hold) = omega arith
state_small now (Waiting hold not_before first) = elim (is_in_force now hold) as (λ v. cond v 4 3 < 2 ^ 64) [ true ↦ omega arith | false ↦ omega arith ]
state_small now (Processing attempt stage stages) = omega arith
state_small now Completed = omega arith
state_small now Canceled = omega arith
state_small now (Aborted reason) = omega arith

-- ## The fields

text_reads : (allowed : List ℕ → Bool) (w : List ℕ) → IsTrue (is_utf8 w) → IsTrue (allowed w) → text_in allowed w ≡ Some w
text_reads allowed w utf8 is = ap (λ v. cond v (Some w) None) (and_from (is_utf8 w) (allowed w) (search (nat_tests, utf8)) (search (nat_tests, is)))

number_reads : (n : ℕ) → 1 ≤ n → n ≤ greatest_number → job_in (decimal n) ≡ Some n
number_reads n least most =
    let short : length (decimal n) ≤ 13 = length-decimal-le 13 n (omega arith) (omega arith) (omega arith) in
    let read : number_of (decimal n) ≡ Some n = ap (λ v. cond v (number_in 9999999999999 (decimal n)) None) (le-leb (length (decimal n)) 13 short) ∙ number_back 9999999999999 n (omega arith) (omega arith) in
    ap (λ o. elim o [ None ↦ None | Some k ↦ cond (nat_le 1 k && nat_le k greatest_number) (Some k) None ]) read
    ∙ ap (λ v. cond v (Some n) None) (and_from (nat_le 1 n) (nat_le n greatest_number) (le-leb 1 n least) (le-leb n greatest_number most))

queue_solid : (b : ℕ) → is_queue_byte b ≡ true → is_solid b ≡ true
queue_solid b h = grind (arith, nat_tests)

first_part : (x y : Bool) → (x && y) ≡ true → x ≡ true
first_part true y h = refl
first_part false y h = h

second_part : (x y : Bool) → (x && y) ≡ true → y ≡ true
second_part true y h = h
second_part false true h = refl
second_part false false h = h

queue_whole : (q : List ℕ) → IsTrue (is_queue_name q) → IsWhole q
queue_whole q is =
    let e : is_queue_name q ≡ true = search (nat_tests, is) in
    let some : 1 ≤ length q = leb_true 1 (length q) (first_part _ _ (first_part _ _ e)) in
    whole_from is_queue_byte q queue_solid some (second_part _ _ e)
  where
    leb_true : (a b : ℕ) → nat_le a b ≡ true → a ≤ b
    leb_true a b h = grind (arith, nat_tests)

-- ## The row

-- A row of these words, whose texts are escaped.
abbrev row : List ℕ → List ℕ → List ℕ → List ℕ → List ℕ → List ℕ → List ℕ → List ℕ → List ℕ
row number queue state word user size pages title =
    codes "job" ++ 32 ∷ (number ++ 32 ∷ (queue ++ 32 ∷ (state ++ 32 ∷ (word ++ 32 ∷ (34 ∷ (user ++ 34 ∷ (32 ∷ (size ++ 32 ∷ (pages ++ 32 ∷ (34 ∷ (title ++ 34 ∷ [])))))))))))

-- The same row as it is printed, with its line feed, for any separators between the words.
joined_pieces : (j sp qt lf d q s w u z p t : List ℕ) → (j ++ d ++ sp ++ q ++ sp ++ s ++ sp ++ w ++ sp) ++ (qt ++ (u ++ qt)) ++ (sp ++ z ++ sp ++ p ++ sp) ++ (qt ++ (t ++ qt)) ++ lf ≡ (j ++ (d ++ (sp ++ (q ++ (sp ++ (s ++ (sp ++ (w ++ (sp ++ (qt ++ (u ++ (qt ++ (sp ++ (z ++ (sp ++ (p ++ (sp ++ (qt ++ (t ++ qt))))))))))))))))))) ++ lf
joined_pieces j sp qt lf d q s w u z p t = simp append_assoc

printed : (d q s w u z p t : List ℕ) → (codes "job " ++ d ++ codes " " ++ q ++ codes " " ++ s ++ codes " " ++ w ++ codes " ") ++ (34 ∷ (u ++ 34 ∷ [])) ++ (codes " " ++ z ++ codes " " ++ p ++ codes " ") ++ (34 ∷ (t ++ 34 ∷ [])) ++ codes "\n" ≡ row d q s w u z p t ++ codes "\n"
printed d q s w u z p t = joined_pieces (codes "job ") (codes " ") (34 ∷ []) (codes "\n") d q s w u z p t

regroup : (d q s w u z p t line : List ℕ) → line ++ codes "\n" ≡ (codes "job " ++ d ++ codes " " ++ q ++ codes " " ++ s ++ codes " " ++ w ++ codes " ") ++ (34 ∷ (u ++ 34 ∷ [])) ++ (codes " " ++ z ++ codes " " ++ p ++ codes " ") ++ (34 ∷ (t ++ 34 ∷ [])) ++ codes "\n" → line ≡ row d q s w u z p t
regroup d q s w u z p t line e = append_cancel_right line (row d q s w u z p t) (codes "\n") (e ∙ printed d q s w u z p t)

words_read : (d q s w tail : List ℕ) → IsWhole d → IsWhole q → IsWhole s → IsWhole w → job_words (32 ∷ (d ++ 32 ∷ (q ++ 32 ∷ (s ++ 32 ∷ (w ++ 32 ∷ tail))))) ≡ joined (head_row d q s w) (tail_row (32 ∷ tail))
words_read d q s w tail wd wq ws ww =
    let r3 = w ++ 32 ∷ tail in
    let r2 = s ++ 32 ∷ r3 in
    let r1 = q ++ 32 ∷ r2 in
    let a1 = after_word-front d r1 wd in
    let a2 = ap after_word a1 ∙ after_word-front q r2 wq in
    let a3 = ap after_word a2 ∙ after_word-front s r3 ws in
    let a4 = ap after_word a3 ∙ after_word-front w tail ww in
    let f1 = first_word-front d r1 wd in
    let f2 = ap first_word a1 ∙ first_word-front q r2 wq in
    let f3 = ap first_word a2 ∙ first_word-front s r3 ws in
    let f4 = ap first_word a3 ∙ first_word-front w tail ww in
    five f1 f2 f3 f4 a4
  where
    five : {a1 a2 a3 a4 b1 b2 b3 b4 t u : List ℕ} → a1 ≡ b1 → a2 ≡ b2 → a3 ≡ b3 → a4 ≡ b4 → t ≡ u → joined (head_row a1 a2 a3 a4) (tail_row t) ≡ joined (head_row b1 b2 b3 b4) (tail_row u)
    five e1 e2 e3 e4 e5 = cc

tail_value : (user : Option (List ℕ)) (line z p t title : List ℕ) → first_word line ≡ z → first_word (after_word line) ≡ p → after_word (after_word line) ≡ t → quoted_text t ≡ Some title → after_quoted t ≡ [] → tail_from user line ≡ tail_of (option_and_then (text_in is_shown_user) user) (count_in z) (count_in p) (option_and_then (text_in is_title) (Some title))
tail_value user line z p t title e1 e2 e3 e4 e5 =
    let u = option_and_then (text_in is_shown_user) user in
    ap (λ x. cond (is_end (after_quoted x)) (tail_of u (count_in (first_word line)) (count_in (first_word (after_word line))) (option_and_then (text_in is_title) (quoted_text x))) None) e3
    ∙ ap (λ x. cond (is_end x) (tail_of u (count_in (first_word line)) (count_in (first_word (after_word line))) (option_and_then (text_in is_title) (quoted_text t))) None) e5
    ∙ ap (λ x. tail_of u (count_in x) (count_in (first_word (after_word line))) (option_and_then (text_in is_title) (quoted_text t))) e1
    ∙ ap (λ x. tail_of u (count_in z) (count_in x) (option_and_then (text_in is_title) (quoted_text t))) e2
    ∙ ap (λ x. tail_of u (count_in z) (count_in p) (option_and_then (text_in is_title) x)) e4

tail_read : (user z p title : List ℕ) → IsWhole z → IsWhole p → tail_row (32 ∷ (34 ∷ (escaped_text user ++ 34 ∷ (32 ∷ (z ++ 32 ∷ (p ++ 32 ∷ (34 ∷ (escaped_text title ++ 34 ∷ [])))))))) ≡ tail_of (option_and_then (text_in is_shown_user) (Some user)) (count_in z) (count_in p) (option_and_then (text_in is_title) (Some title))
tail_read user z p title wz wp =
    let last = 34 ∷ (escaped_text title ++ 34 ∷ []) in
    let rest = 32 ∷ (z ++ 32 ∷ (p ++ 32 ∷ last)) in
    let a1 = after_word-front z (p ++ 32 ∷ last) wz in
    let a2 = ap after_word a1 ∙ after_word-front p last wp in
    let f2 = ap first_word a1 ∙ first_word-front p last wp in
    let t = quoted_back title [] in
    ap (λ f. tail_from (text_of f) (rest_of f)) (quoted_back user rest)
    ∙ tail_value (Some user) rest z p (32 ∷ last) title (first_word-front z (p ++ 32 ∷ last) wz) f2 a2 (ap text_of t) (ap rest_of t)

-- ## The whole row

pub job_rows : JobRowsReadBack
job_rows now r line is printed =
    let small : r.id < 2 ^ 64 = let m = is.most in omega arith in
    let word = reason_word now r.phase in
    let state = decimal (job_state now r.phase) in
    let z = number_back 4294967295 r.size (let h = is.size in omega arith) (let h = is.size in omega arith) in
    let p = number_back 4294967295 r.pages (let h = is.pages in omega arith) (let h = is.pages in omega arith) in
    let same = regroup (decimal r.id) r.queue state (job_reason now r.phase) (escaped_text r.user) (decimal r.size) (decimal r.pages) (escaped_text r.title) line printed in
    let words = words_read (decimal r.id) r.queue state (job_reason now r.phase) _ (decimal_whole r.id small) (queue_whole r.queue is.queue) (decimal_whole (job_state now r.phase) (state_small now r.phase)) word.whole in
    let rest = tail_read r.user (decimal r.size) (decimal r.pages) r.title (decimal_whole r.size (let h = is.size in omega arith)) (decimal_whole r.pages (let h = is.pages in omega arith)) in
    let head = heads (number_reads r.id is.least is.most) (text_reads is_queue_name r.queue is.queue_text is.queue) (state_reads now r.phase) word.reads in
    let tail = tails (text_reads is_shown_user r.user is.user_text is.user) z p (text_reads is_title r.title is.title_text is.title) in
    ap job_row same ∙ words ∙ both head (rest ∙ tail)
  where
    heads : {n n' : Option ℕ} {q q' : Option (List ℕ)} {s s' : Option JobState} {w w' : Option (Option (List ℕ))} → n ≡ n' → q ≡ q' → s ≡ s' → w ≡ w' → head_of n q s w ≡ head_of n' q' s' w'
    heads a b c d = cc

    tails : {u u' t t' : Option (List ℕ)} {z z' p p' : Option ℕ} → u ≡ u' → z ≡ z' → p ≡ p' → t ≡ t' → tail_of u z p t ≡ tail_of u' z' p' t'
    tails a b c d = cc

    both : {h h' : Option JobHead} {t t' : Option JobTail} → h ≡ h' → t ≡ t' → joined h t ≡ joined h' t'
    both a b = cc
