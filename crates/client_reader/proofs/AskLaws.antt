-- The requests of a text compared with its commands, and over a list of calls.
use Rattle.std.proofs.Common.{◌≡◌, ℕ, suc, zero, ◌+◌, true, false, cond, List, [], ◌∷◌, ◌++◌, length, take, drop, map, refl, ap, sym, ◌∙◌, append_assoc, Bool, Option, None, Some}
use Rattle.std.specs.Prelude.{nat_le}
use Rattle.std.proofs.lemmas.List.{append-nil}
use Rattle.command_lines.specs.TextLines.{first_line, after_line}
use Rattle.command_lines.specs.CommandGrammar.{kind_of}
use Rattle.command_lines.specs.Text as texts
use Rattle.command_lines.specs.Text.{commands_within, commands_of, is_lf_at, sent}
use Rattle.command_lines.specs.declared.command.Command.{Command}
use Rattle.command_lines.specs.declared.command.Command.TheVariants.{Malformed}
use Rattle.command_lines.specs.declared.command.Kind.{Kind}
use Rattle.command_lines.specs.declared.command.Kind.TheVariants.{Remark, Takes, Says}
use Rattle.service_texts.specs.ServiceWords.{own_word}
use Rattle.service_texts.specs.declared.own_words.OwnWord.{OwnWord}
use Rattle.client_reader.specs.declared.ask.Ask.{Ask}
use Rattle.client_reader.specs.declared.ask.Ask.TheVariants as asking
use Rattle.client_reader.specs.Asks.{own_of, after_send, after_kind, after_own, asks_within, asks_of}
use Rattle.client_reader.specs.ReaderCalls.{Call, takes, gives, AreCalls, AreFirstOf, as_command, given_in, taken_in}

-- No word of the service is a command, as `service_texts` states it.
abbrev pub AreNoCommands : Type 0
AreNoCommands = (line : List ℕ) (word : OwnWord) → own_word line ≡ Some word → kind_of line ≡ Says Malformed

module _ (law : AreNoCommands) where
  own_kind : (line : List ℕ) (word : OwnWord) → own_of line ≡ Some word → kind_of line ≡ Says Malformed
  own_kind line word = by_test (nat_le (length line) 4096)
    where
      by_test : (short : Bool) → cond short (own_word line) None ≡ Some word → kind_of line ≡ Says Malformed
      by_test true e = law line word e
      by_test false e = cc

  module _ (f : List ℕ → List Ask) (g : List ℕ → List Command) (same : (t : List ℕ) → map as_command (f t) ≡ g t) where
    send_same : (job n : ℕ) (rest : List ℕ) → map as_command (after_send f job n rest) ≡ texts.after_bytes g (sent job n) n rest
    send_same job n rest =
        elim (is_lf_at n rest) as (λ v. map as_command (cond v (asking.Command (sent job n (take n rest)) ∷ f (drop (n + 1) rest)) (asking.Command Malformed ∷ f (after_line (drop n rest)))) ≡ cond v (sent job n (take n rest) ∷ g (drop (n + 1) rest)) (Malformed ∷ g (after_line (drop n rest))))
        [ true ↦ ap (λ l. sent job n (take n rest) ∷ l) (same (drop (n + 1) rest)) | false ↦ ap (λ l. Malformed ∷ l) (same (after_line (drop n rest))) ]

    kind_same : (kind : Kind) (rest : List ℕ) → map as_command (after_kind f kind rest) ≡ texts.after_kind g kind rest
    kind_same Remark rest = same rest
    kind_same (Says c) rest = ap (λ l. c ∷ l) (same rest)
    kind_same (Takes job n) rest = send_same job n rest

    line_same : (line rest : List ℕ) (word : Option OwnWord) → own_of line ≡ word → map as_command (after_own f word (kind_of line) rest) ≡ texts.after_kind g (kind_of line) rest
    line_same line rest None e = kind_same (kind_of line) rest
    line_same line rest (Some word) e = ap (λ l. Malformed ∷ l) (same rest) ∙ ap (λ k. texts.after_kind g k rest) (sym (own_kind line word e))

  within_same : (k : ℕ) (text : List ℕ) → map as_command (asks_within k text) ≡ commands_within k text
  unfolding asks_within commands_within
  within_same zero text = refl
  within_same (suc k) [] = refl
  within_same (suc k) (b ∷ bs) = line_same (asks_within k) (commands_within k) (within_same k) (first_line (b ∷ bs)) (after_line (b ∷ bs)) (own_of (first_line (b ∷ bs))) refl

  pub all_same : (text : List ℕ) → map as_command (asks_of text) ≡ commands_of text
  unfolding asks_of commands_of
  all_same text = within_same (length text) text

-- The returned requests come first, whatever follows.
in_order : (old : List ℕ → List Ask) (calls : List Call) (new : List ℕ → List Ask) → AreCalls old calls new → (more : List ℕ) → old (taken_in calls ++ more) ≡ given_in calls ++ new more
in_order old [] new are more = are more
in_order old (takes piece ∷ calls) new are more = ap old (append_assoc piece (taken_in calls) more) ∙ in_order (λ more. old (piece ++ more)) calls new are more
in_order old (gives ask ∷ calls) new are more = are.1 (taken_in calls ++ more) ∙ ap (λ l. ask ∷ l) (in_order are.0 calls new are.2 more)

pub first_whatever : (calls : List Call) (left : List ℕ → List Ask) → AreCalls asks_of calls left → (more : List ℕ) → AreFirstOf (given_in calls) (asks_of (taken_in calls ++ more))
first_whatever calls left are more = (left more, in_order asks_of calls left are more)

pub first_given : (calls : List Call) (left : List ℕ → List Ask) → AreCalls asks_of calls left → AreFirstOf (given_in calls) (asks_of (taken_in calls))
first_given calls left are = (left [], ap asks_of (sym (append-nil (taken_in calls))) ∙ in_order asks_of calls left are [])
