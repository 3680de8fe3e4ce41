-- No line with a word of the service is a command.
use Rattle.std.proofs.Common.{◌≡◌, ◌⊎◌, inl, inr, ℕ, Bool, true, false, cond, ◌==◌, List, [], ◌∷◌, length, Option, None, Some, refl, ap, sym, ◌∙◌}
use Rattle.std.specs.Prelude.{codes, nat_lt}
use Rattle.std.specs.Cmp.Lexicographic.{bytes_decides}
use Rattle.std.specs.List.{list_any}
use Rattle.std.specs.Option.{option_and_then}
use Rattle.std.proofs.lemmas.Bool.{eqb-true}
use Rattle.line_words.specs.Blanks.{is_blank, after_blanks, word_here, behind_word, first_word, after_word}
use Rattle.line_words.specs.Quotes.{is_quote, quoted}
use Rattle.command_lines.specs.CommandWords.{Front, broken, word, with_word, bare_word, quoted_word, front_here, next_word, after_front, words_of}
use Rattle.command_lines.specs.CommandGrammar.{is_word, line_of, or_malformed, kind_of_words, is_remark, kind_of}
use Rattle.command_lines.specs.declared.command.Command.TheVariants.{Malformed}
use Rattle.command_lines.specs.declared.command.Kind.{Kind}
use Rattle.command_lines.specs.declared.command.Kind.TheVariants.{Remark, Says}
use Rattle.service_texts.specs.ServiceWords.{alone, close_at_word, close_word, find_word, followed, has_words, is_blank_line, list_word, own_word, queue_word, with_words}
use Rattle.service_texts.specs.declared.own_words.OwnWord.{OwnWord}

-- ## A line whose first word names no command

-- No list of words after this name is a command.
abbrev pub IsNoName : List ℕ → Type 0
IsNoName name = (words : List (List ℕ)) → line_of name words ≡ None

no_words : (name : List ℕ) → IsNoName name → (words : Option (List (List ℕ))) → kind_of_words (with_word name words) ≡ Says Malformed
no_words name none None = refl
no_words name none (Some words) = ap or_malformed (none words)

-- The words after this name are no command with it.
abbrev pub IsNoLine : List ℕ → List ℕ → Type 0
IsNoLine name rest = kind_of_words (with_word name (words_of rest)) ≡ Says Malformed

no_front : (name rest : List ℕ) → IsNoLine name rest → (quotes : Bool) → kind_of_words (after_front words_of (cond quotes broken (word name rest))) ≡ Says Malformed
no_front name rest none true = refl
no_front name rest none false = none

-- A word at this position begins with the first byte.
first_byte : (x : ℕ) (xs : List ℕ) (b : ℕ) (bs : List ℕ) → word_here (x ∷ xs) ≡ b ∷ bs → x ≡ b
first_byte x xs b bs = elim (is_blank x) as (λ v. cond v [] (x ∷ word_here xs) ≡ b ∷ bs → x ≡ b) [ true ↦ λ e. cc | false ↦ λ e. cc ]

no_here : (line : List ℕ) (b : ℕ) (bs : List ℕ) → word_here line ≡ b ∷ bs → is_quote b ≡ false → IsNoLine (b ∷ bs) (behind_word line) → kind_of_words (after_front words_of (front_here line)) ≡ Says Malformed
no_here [] b bs is plain none = cc
no_here (x ∷ xs) b bs is plain none =
    let unquoted : is_quote x ≡ false = ap is_quote (first_byte x xs b bs is) ∙ plain in
    let bare : front_here (x ∷ xs) ≡ bare_word (x ∷ xs) = ap (λ v. cond v (quoted_word (quoted false xs)) (bare_word (x ∷ xs))) unquoted in
    let named : bare_word (x ∷ xs) ≡ cond (list_any is_quote (b ∷ bs)) broken (word (b ∷ bs) (behind_word (x ∷ xs))) =
    ap (λ (w : List ℕ). cond (list_any is_quote w) broken (word w (behind_word (x ∷ xs)))) is in
    ap (λ (front : Front). kind_of_words (after_front words_of front)) (bare ∙ named) ∙ no_front (b ∷ bs) (behind_word (x ∷ xs)) none (list_any is_quote (b ∷ bs))

blank_says : (x : ℕ) → is_blank x ≡ true → is_remark (x ∷ []) ≡ false
blank_says x blank = by_test (x == 35) refl
  where
    by_test : (v : Bool) → (x == 35) ≡ v → v ≡ false
    by_test false is = refl
    by_test true is = sym blank ∙ ap is_blank (eqb-true x 35 is)

no_remark : (line : List ℕ) (b : ℕ) (bs : List ℕ) → first_word line ≡ b ∷ bs → (b == 35) ≡ false → is_remark line ≡ false
no_remark [] b bs is other = cc
no_remark (x ∷ xs) b bs is other =
    (elim (is_blank x) as (λ v. is_blank x ≡ v → word_here (cond v (after_blanks xs) (x ∷ xs)) ≡ b ∷ bs → is_remark (x ∷ xs) ≡ false) [
      | true ↦ λ blank e. blank_says x blank
      | false ↦ λ blank e. ap (λ n. n == 35) (first_byte x xs b bs e) ∙ other
    ]) refl is

either : (v : Bool) (k : Kind) → cond v k k ≡ k
either true k = refl
either false k = refl

no_command : ((line : List ℕ) → words_of line ≡ after_front words_of (next_word line)) → (line : List ℕ) (b : ℕ) (bs : List ℕ) → first_word line ≡ b ∷ bs → is_quote b ≡ false → (b == 35) ≡ false → IsNoLine (b ∷ bs) (after_word line) → kind_of line ≡ Says Malformed
unfolding kind_of
no_command by_word line b bs is plain other none =
    let says : kind_of_words (words_of line) ≡ Says Malformed = ap kind_of_words (by_word line) ∙ no_here (after_blanks line) b bs is plain none in
    ap (λ v. cond v Remark (cond (nat_lt 4096 (length line)) (Says Malformed) (kind_of_words (words_of line)))) (no_remark line b bs is other)
    ∙ ap (cond (nat_lt 4096 (length line)) (Says Malformed)) says
    ∙ either (nat_lt 4096 (length line)) (Says Malformed)

-- ## The words of the service

job_none : IsNoName (codes "job")
job_none [] = refl
job_none (w ∷ []) = refl
job_none (w ∷ v ∷ ws) = refl

wait_none : IsNoName (codes "wait")
wait_none [] = refl
wait_none (w ∷ []) = refl
wait_none (w ∷ v ∷ ws) = refl

end_none : IsNoName (codes "end")
end_none [] = refl
end_none (w ∷ []) = refl
end_none (w ∷ v ∷ ws) = refl

stop_none : IsNoName (codes "stop")
stop_none [] = refl
stop_none (w ∷ []) = refl
stop_none (w ∷ v ∷ ws) = refl

watch_none : IsNoName (codes "watch")
watch_none [] = refl
watch_none (w ∷ []) = refl
watch_none (w ∷ v ∷ ws) = refl

shutdown_none : IsNoName (codes "shutdown")
shutdown_none [] = refl
shutdown_none (w ∷ []) = refl
shutdown_none (w ∷ v ∷ ws) = refl

challenge_none : IsNoName (codes "i-am")
challenge_none [] = refl
challenge_none (w ∷ []) = refl
challenge_none (w ∷ v ∷ ws) = refl

prove_none : IsNoName (codes "made")
prove_none [] = refl
prove_none (w ∷ []) = refl
prove_none (w ∷ v ∷ ws) = refl

list_none : IsNoName (codes "list")
list_none [] = refl
list_none (w ∷ []) = refl
list_none (w ∷ v ∷ ws) = refl

incoming_none : IsNoName (codes "incoming")
incoming_none [] = refl
incoming_none (w ∷ []) = refl
incoming_none (w ∷ v ∷ ws) = refl

room_none : IsNoName (codes "room")
room_none [] = refl
room_none (w ∷ []) = refl
room_none (w ∷ v ∷ ws) = refl

printers_none : IsNoName (codes "printers")
printers_none [] = refl
printers_none (w ∷ []) = refl
printers_none (w ∷ v ∷ ws) = refl

why_none : IsNoName (codes "why")
why_none [] = refl
why_none (w ∷ []) = refl
why_none (w ∷ v ∷ ws) = refl

now_none : IsNoName (codes "now")
now_none [] = refl
now_none (w ∷ []) = refl
now_none (w ∷ v ∷ ws) = refl

find_none : IsNoName (codes "find")
find_none [] = refl
find_none (w ∷ []) = refl
find_none (w ∷ v ∷ ws) = refl

close_at_none : IsNoName (codes "closeat")
close_at_none [] = refl
close_at_none (w ∷ []) = refl
close_at_none (w ∷ v ∷ ws) = refl

-- The command `queue` has four words or more.
queue_none : (words : List (List ℕ)) (w : OwnWord) → queue_word words ≡ Some w → kind_of_words (with_word (codes "queue") (Some words)) ≡ Says Malformed
queue_none [] w e = refl
queue_none (v ∷ []) w e = refl
queue_none (v ∷ u ∷ vs) w e = absurd (cc)

-- The command `close` has two words.
close_none : (words : List (List ℕ)) (w : OwnWord) → close_word words ≡ Some w → kind_of_words (with_word (codes "close") (Some words)) ≡ Says Malformed
close_none [] w e = refl
close_none (v ∷ []) w e = refl
close_none (v ∷ u ∷ []) w e = absurd (cc)
close_none (v ∷ u ∷ t ∷ vs) w e = refl

-- The name is this one and its request is this, or a later test accepts the name.
tested : (name own : List ℕ) (x y : Option OwnWord) (w : OwnWord) → cond (is_word name own) x y ≡ Some w → ((name ≡ own) × (x ≡ Some w)) ⊎ (y ≡ Some w)
tested name own x y w = (elim (is_word name own) as (λ v. is_word name own ≡ v → cond v x y ≡ Some w → ((name ≡ own) × (x ≡ Some w)) ⊎ (y ≡ Some w)) [
  | true ↦ λ is e. inl ((bytes_decides name own).0 is, e)
  | false ↦ λ is e. inr e
]) refl

-- One of two requests.
either_said : (v : Bool) (x y : Option OwnWord) (w : OwnWord) → cond v x y ≡ Some w → (x ≡ Some w) ⊎ (y ≡ Some w)
either_said true x y w e = inl e
either_said false x y w e = inr e

module _ (by_word : (line : List ℕ) → words_of line ≡ after_front words_of (next_word line)) (line : List ℕ) (w : OwnWord) where
  -- A first word that names no command.
  no_name : (b : ℕ) (bs : List ℕ) → first_word line ≡ b ∷ bs → is_quote b ≡ false → (b == 35) ≡ false → IsNoName (b ∷ bs) → kind_of line ≡ Says Malformed
  no_name b bs is plain other none = no_command by_word line b bs is plain other (no_words (b ∷ bs) none (words_of (after_word line)))

  alone_none : alone (first_word line) ≡ Some w → kind_of line ≡ Says Malformed
  alone_none e = elim (tested (first_word line) (codes "watch") _ _ w e) [
    | inl p ↦ no_name _ _ p.0 refl refl watch_none
    | inr e2 ↦ elim (tested (first_word line) (codes "shutdown") _ _ w e2) [
      | inl p ↦ no_name _ _ p.0 refl refl shutdown_none
      | inr e3 ↦ elim (tested (first_word line) (codes "i-am") _ _ w e3) [
        | inl p ↦ no_name _ _ p.0 refl refl challenge_none
        | inr e4 ↦ elim (tested (first_word line) (codes "made") _ _ w e4) [
          | inl p ↦ no_name _ _ p.0 refl refl prove_none
          | inr e5 ↦ elim (tested (first_word line) (codes "list") _ _ w e5) [
            | inl p ↦ no_name _ _ p.0 refl refl list_none
            | inr e6 ↦ elim (tested (first_word line) (codes "incoming") _ _ w e6) [
              | inl p ↦ no_name _ _ p.0 refl refl incoming_none
              | inr e7 ↦ elim (tested (first_word line) (codes "room") _ _ w e7) [
                | inl p ↦ no_name _ _ p.0 refl refl room_none
                | inr e8 ↦ elim (tested (first_word line) (codes "now") _ _ w e8) [
                  | inl p ↦ no_name _ _ p.0 refl refl now_none
                  | inr e9 ↦ elim (tested (first_word line) (codes "printers") _ _ w e9) [
                    | inl p ↦ no_name _ _ p.0 refl refl printers_none
                    | inr e10 ↦ absurd (cc)
                  ]
                ]
              ]
            ]
          ]
        ]
      ]
    ]
  ]

  worded_none : (words : Option (List (List ℕ))) → words_of (after_word line) ≡ words → option_and_then (with_words (first_word line)) words ≡ Some w → kind_of line ≡ Says Malformed
  worded_none None is e = absurd (cc)
  worded_none (Some words) is e = elim (tested (first_word line) (codes "queue") (queue_word words) _ w e) [
    | inl p ↦ no_command by_word line _ _ p.0 refl refl (ap (λ v. kind_of_words (with_word (codes "queue") v)) is ∙ queue_none words w p.1)
    | inr e2 ↦ elim (tested (first_word line) (codes "list") (list_word words) _ w e2) [
      | inl p ↦ no_name _ _ p.0 refl refl list_none
      | inr e3 ↦ elim (tested (first_word line) (codes "find") (find_word words) _ w e3) [
        | inl p ↦ no_name _ _ p.0 refl refl find_none
        | inr e4 ↦ elim (tested (first_word line) (codes "close") (close_word words) _ w e4) [
          | inl p ↦ no_command by_word line _ _ p.0 refl refl (ap (λ v. kind_of_words (with_word (codes "close") v)) is ∙ close_none words w p.1)
          | inr e5 ↦ elim (tested (first_word line) (codes "closeat") (close_at_word words) _ w e5) [
            | inl p ↦ no_name _ _ p.0 refl refl close_at_none
            | inr e6 ↦ absurd (cc)
          ]
        ]
      ]
    ]
  ]

  followed_none : followed (first_word line) (after_word line) ≡ Some w → kind_of line ≡ Says Malformed
  followed_none e = elim (tested (first_word line) (codes "job") _ _ w e) [
    | inl p ↦ no_name _ _ p.0 refl refl job_none
    | inr e2 ↦ elim (tested (first_word line) (codes "wait") _ _ w e2) [
      | inl p ↦ no_name _ _ p.0 refl refl wait_none
      | inr e3 ↦ elim (tested (first_word line) (codes "end") _ _ w e3) [
        | inl p ↦ no_name _ _ p.0 refl refl end_none
        | inr e4 ↦ elim (tested (first_word line) (codes "stop") _ _ w e4) [
          | inl p ↦ no_name _ _ p.0 refl refl stop_none
          | inr e5 ↦ elim (tested (first_word line) (codes "why") _ _ w e5) [
            | inl p ↦ no_name _ _ p.0 refl refl why_none
            | inr e6 ↦ elim (tested (first_word line) (codes "watch") _ _ w e6) [
              | inl p ↦ no_name _ _ p.0 refl refl watch_none
              | inr e7 ↦ elim (either_said (has_words (first_word line)) _ _ w e7) [
                | inl e8 ↦ worded_none (words_of (after_word line)) refl e8
                | inr e8 ↦ absurd (cc)
              ]
            ]
          ]
        ]
      ]
    ]
  ]

  pub no_own_word : own_word line ≡ Some w → kind_of line ≡ Says Malformed
  no_own_word e = elim (either_said (is_blank_line (after_word line)) _ _ w e) [ inl e2 ↦ alone_none e2 | inr e2 ↦ followed_none e2 ]
