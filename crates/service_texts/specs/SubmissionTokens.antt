-- The token of a submission, which its job has among its options, and an index of the jobs by token.
use Rattle.std.specs.Prelude.{◌≡◌, ℕ, Bool, false, ◌||◌, ◌&&◌, not, cond, nat_eq, ◌==◌, List, [], ◌∷◌, codes, drop, take, Option, None, Some, IsSome}
use Rattle.std.specs.BTreeMap.{get}
use Rattle.std.specs.Cmp.Lexicographic.{pointwise, slice_cmp}
use Rattle.std.specs.Ordering.{nat_cmp}
use Rattle.line_words.specs.Blanks.{is_blank}
use Rattle.command_lines.specs.CommandGrammar.{is_word}
use Rattle.spool_types.specs.State.{State, Job, job_at}
use Rattle.spool_types.specs.Values.{is_text_of, is_graphic, text_in}
use Rattle.service_texts.specs.declared.tokens.Tokens.{Tokens}

-- Bytes with a meaning in options: quotes, the backslash and the comma.
abbrev pub is_option_mark : ℕ → Bool
is_option_mark b = b == 34 || b == 39 || b == 92 || b == 44

abbrev pub is_token_byte : ℕ → Bool
is_token_byte b = is_graphic b && not (is_option_mark b)

abbrev pub is_token : List ℕ → Bool
is_token text = is_text_of is_token_byte 1 64 text

-- ## The token of a job

-- The bytes after the last blank, or this word if no blank follows.
abbrev pub last_word_from : List ℕ → List ℕ → List ℕ
last_word_from word [] = word
last_word_from word (b ∷ bs) = cond (is_blank b) (last_word_from bs bs) (last_word_from word bs)

abbrev pub last_word : List ℕ → List ℕ
last_word text = last_word_from text text

abbrev pub token_in : List ℕ → Option (List ℕ)
token_in word = cond (is_word (take 11 word) (codes "submission=")) (text_in is_token (drop 11 word)) None

-- The last word of the options names it.
abbrev pub token_of : List ℕ → Option (List ℕ)
token_of options = token_in (last_word options)

abbrev pub is_some_text : Option (List ℕ) → List ℕ → Bool
is_some_text None text = false
is_some_text (Some other) text = pointwise nat_eq other text

abbrev pub has_token : List ℕ → Job → Bool
has_token token r = is_some_text (token_of r.options) token

-- ## The index

-- The index has a place for the token, perhaps without a job yet.
abbrev pub HasPlace : Tokens → List ℕ → Type 0
HasPlace tokens token = IsSome (get (slice_cmp nat_cmp) tokens.jobs token)

abbrev pub job_in : Option (Option ℕ) → Option ℕ
job_in None = None
job_in (Some job) = job

-- The job that the index has for a token.
abbrev pub entry_for : Tokens → List ℕ → Option ℕ
entry_for tokens token = job_in (get (slice_cmp nat_cmp) tokens.jobs token)

-- The index has the same jobs.
abbrev pub HasSame : Tokens → Tokens → Type 0
HasSame old new = (token : List ℕ) → entry_for new token ≡ entry_for old token

-- This entry was made or replaced, and no other.
abbrev pub IsPut : Tokens → List ℕ → Option ℕ → Tokens → Type 0
IsPut old token entry new = (other : List ℕ) → entry_for new other ≡ cond (pointwise nat_eq token other) entry (entry_for old other)

-- The entry for a token after a job was noted: the last one that has it.
abbrev pub noted_for : List ℕ → Option ℕ → Job → Option ℕ
noted_for token entry r = cond (has_token token r) (Some r.id) entry

abbrev pub all_noted_for : List ℕ → Option ℕ → List Job → Option ℕ
all_noted_for token entry [] = entry
all_noted_for token entry (r ∷ rs) = all_noted_for token (noted_for token entry r) rs

abbrev pub is_job : Option ℕ → ℕ → Bool
is_job None job = false
is_job (Some other) job = other == job

-- The entry for a token after a job was forgotten.
abbrev pub left_for : List ℕ → Option ℕ → List ℕ → ℕ → Option ℕ
left_for token entry forgotten job = cond (pointwise nat_eq forgotten token && is_job entry job) None entry

-- ## The answer

abbrev pub has_token_at : List ℕ → Option Job → Bool
has_token_at token None = false
has_token_at token (Some r) = has_token token r

-- The job of an entry, if its row has the token.
abbrev pub found_by : State → List ℕ → Option ℕ → Option ℕ
found_by s token None = None
found_by s token (Some job) = cond (has_token_at token (job_at s job)) (Some job) None

abbrev pub found : State → Tokens → List ℕ → Option ℕ
found s tokens token = found_by s token (entry_for tokens token)
