-- The result of each step of a reader.
use Rattle.std.proofs.Common.{◌≡◌, ◌⊎◌, inl, inr, ℕ, ◌+◌, ◌<◌, ◌≤◌, true, false, List, [], ◌∷◌, ◌++◌, length, get_or, take, drop, map, refl, ap, sym, ◌∙◌, arith, append_assoc, min, None, Some}
use Rattle.std.proofs.lemmas.List.{drop_more, take_more, take_all, take-append-drop, length-take-le}
use Rattle.command_lines.specs.TextLines.{has_lf}
use Rattle.command_lines.specs.CommandGrammar.{kind_of}
use Rattle.command_lines.specs.PendingCommands.{IsPartial, Leads, nothing_read, to_come}
use Rattle.command_lines.specs.Waits.{wanted_of}
use Rattle.command_lines.specs.declared.commands.Wanted.TheVariants as wants
use Rattle.command_lines.specs.declared.command.Command.{Command}
use Rattle.service_texts.specs.declared.own_words.OwnWord.{OwnWord}
use Rattle.client_reader.specs.declared.ask.Ask.{Ask}
use Rattle.client_reader.specs.declared.ask.Ask.TheVariants as asking
use Rattle.client_reader.specs.declared.ask.Next.TheVariants as nexts
use Rattle.client_reader.specs.declared.reader.Reader.{Reader}
use Rattle.client_reader.specs.Asks.{own_of, after_own, asks_of}
use Rattle.client_reader.specs.AwaitedRequests.{Where, at_line, in_line, in_send, asked_from, IsAt, Awaits, Gives, ends_within}
use Rattle.client_reader.proofs.Lines.{LineByLine, asks_line, ends_within_front, ends_within_line}
use Rattle.client_reader.proofs.Steps.{waits_line, waits_sending, IsLineMode, IsSending, no_send_place, given_first, send_place, none_given, Goes, goes_on, goes_line, goes_front, goes_rest, goes_part, goes_send}

-- The byte offset of the first line feed.
pub record IsLine (text : List ℕ) (at : ℕ) : Type 0 where
  pub within : at < length text
  pub before : has_lf (take at text) ≡ false
  pub there : get_or text at 0 ≡ 10

pub line_split : (text : List ℕ) (at : ℕ) → IsLine text at → text ≡ take at text ++ 10 ∷ drop (at + 1) text
line_split text at is = sym (take-append-drop at text) ∙ ap (λ l. take at text ++ l) (drop_more text at 0 is.within ∙ ap (λ b. b ∷ drop (at + 1) text) is.there)

pub line_taken : (text : List ℕ) (at : ℕ) → IsLine text at → take (at + 1) text ≡ take at text ++ 10 ∷ []
line_taken text at is = take_more text at 0 is.within ∙ ap (λ b. take at text ++ b ∷ []) is.there

-- Only the reader of commands changed, and it returns the same.
pub stays : (old new : Reader) → Leads old.commands [] new.commands → new.text.items ≡ old.text.items → new.within ≡ old.within →
    (asks : List ℕ → List Ask) → Awaits old asks → Awaits new asks
stays old new leads text within asks a = record {
  given = a.given;
  position = a.position;
  at = record { commands = λ more. sym (leads more) ∙ a.at.commands more; fits = rw within a.at.fits };
  asked = λ more. a.asked more ∙ ap (λ l. map asking.Command a.given ++ asked_from a.position (l ++ more)) (sym text);
}

-- It got bytes.
pub were_given : (old new : Reader) (xs rest : List ℕ) → new.commands ≡ record old.commands { held = old.commands.held ++ xs } →
    old.text.items ≡ xs ++ rest → new.text.items ≡ rest → new.within ≡ ends_within xs →
    (asks : List ℕ → List Ask) (a : Awaits old asks) → Goes xs (ends_within xs) a.given a.position → Awaits new asks
were_given old new xs rest commands text left within asks a goes =
    let at = goes_on old.commands xs old.within (ends_within xs) a.given a.position a.at goes in
    record {
      given = goes.given';
      position = goes.position';
      at = rw (commands, within) at;
      asked = λ more. a.asked more
          ∙ ap (λ l. map asking.Command a.given ++ asked_from a.position l) (ap (λ l. l ++ more) text ∙ append_assoc xs rest more)
          ∙ goes.asks (rest ++ more)
          ∙ ap (λ l. map asking.Command goes.given' ++ asked_from goes.position' (l ++ more)) (sym left);
    }

module _ (law : LineByLine) where
  pub gives_command : (old new : Reader) (c : Command) → Leads old.commands (c ∷ []) new.commands → new.text.items ≡ old.text.items → new.within ≡ old.within →
      (asks : List ℕ → List Ask) → Awaits old asks → Gives asks (nexts.Asked (asking.Command c)) new
  gives_command old new c leads text within asks a =
      let r = given_first law old.commands new.commands old.within a.given a.position c a.at leads in (
        λ more. map asking.Command r.0 ++ asked_from a.position (new.text.items ++ more),
        λ more. a.asked more ∙ ap (λ g. map asking.Command g ++ asked_from a.position (old.text.items ++ more)) r.1 ∙ ap (λ l. asking.Command c ∷ (map asking.Command r.0 ++ asked_from a.position (l ++ more))) (sym text),
        record { given = r.0; position = a.position; at = rw within r.2; asked = λ more. refl },
      )

  -- If it waits for a line and did not get the front of one last, the text is at the beginning of a line.
  at_beginning : (r : Reader) → IsLineMode r.commands.mode → IsPartial r.commands.mode r.commands.held → r.within ≡ false →
      (asks : List ℕ → List Ask) (a : Awaits r asks) → (a.given ≡ []) × (a.position ≡ at_line)
  at_beginning r mode partial out asks a = by_place a.given a.position a.at (no_send_place law r.commands r.within a.given a.position a.at mode partial)
    where
      by_place : (given : List Command) (position : Where) → IsAt r.commands r.within given position → (position ≡ at_line) ⊎ (position ≡ in_line) → (given ≡ []) × (position ≡ at_line)
      by_place given at_line at e = (none_given law r.commands r.within given at mode partial, refl)
      by_place given in_line at e = absurd (let k : true ≡ false = sym at.fits ∙ out in cc)
      by_place given (in_send job n held) at (inl e) = absurd (cc)
      by_place given (in_send job n held) at (inr e) = absurd (cc)

  in_rest : (r : Reader) → IsLineMode r.commands.mode → IsPartial r.commands.mode r.commands.held → r.within ≡ true →
      (asks : List ℕ → List Ask) (a : Awaits r asks) → a.position ≡ in_line
  in_rest r mode partial out asks a = by_place a.given a.position a.at (no_send_place law r.commands r.within a.given a.position a.at mode partial)
    where
      by_place : (given : List Command) (position : Where) → IsAt r.commands r.within given position → (position ≡ at_line) ⊎ (position ≡ in_line) → position ≡ in_line
      by_place given at_line at e = absurd (let k : false ≡ true = sym at.fits ∙ out in cc)
      by_place given in_line at e = refl
      by_place given (in_send job n held) at (inl e) = absurd (cc)
      by_place given (in_send job n held) at (inr e) = absurd (cc)

  -- A word of the service was taken.
  pub gives_own : (old new : Reader) (l rest : List ℕ) (word : OwnWord) → IsLineMode old.commands.mode → IsPartial old.commands.mode old.commands.held → old.within ≡ false →
      old.text.items ≡ l ++ 10 ∷ rest → has_lf l ≡ false → own_of l ≡ Some word →
      new.commands ≡ old.commands → new.text.items ≡ rest → new.within ≡ old.within →
      (asks : List ℕ → List Ask) → Awaits old asks → Gives asks (nexts.Asked (asking.Own word)) new
  gives_own old new l rest word mode partial out text none own commands left within asks a =
      let p = at_beginning old mode partial out asks a in
      let at : IsAt old.commands old.within [] at_line = (rw (p.0, p.1) at (a.at)) in (
        λ more. asks_of (new.text.items ++ more),
        λ more. a.asked more
            ∙ ap (λ g. map asking.Command g ++ asked_from a.position (old.text.items ++ more)) p.0
            ∙ ap (λ w. asked_from w (old.text.items ++ more)) p.1
            ∙ ap (λ t. asks_of (t ++ more)) text
            ∙ ap asks_of (append_assoc l (10 ∷ rest) more)
            ∙ asks_line l (rest ++ more) none
            ∙ ap (λ w. after_own asks_of w (kind_of l) (rest ++ more)) own
            ∙ ap (λ t. asking.Own word ∷ asks_of (t ++ more)) (sym left),
        record { given = []; position = at_line; at = rw (commands, within) at; asked = λ more. refl },
      )

  -- Bytes at the beginning of a line that are no word of the service.
  pub line_given : (r : Reader) (xs : List ℕ) → IsLineMode r.commands.mode → IsPartial r.commands.mode r.commands.held → r.within ≡ false →
      Goes xs (ends_within xs) [] at_line → (asks : List ℕ → List Ask) (a : Awaits r asks) → Goes xs (ends_within xs) a.given a.position
  line_given r xs mode partial out goes asks a = let p = at_beginning r mode partial out asks a in rw (p.0, p.1) goes

  pub rest_given : (r : Reader) (xs : List ℕ) → IsLineMode r.commands.mode → IsPartial r.commands.mode r.commands.held → r.within ≡ true →
      ((given : List Command) → Goes xs (ends_within xs) given in_line) → (asks : List ℕ → List Ask) (a : Awaits r asks) → Goes xs (ends_within xs) a.given a.position
  rest_given r xs mode partial out goes asks a = let p = in_rest r mode partial out asks a in rw p (goes a.given)

  pub send_given : (r : Reader) (xs : List ℕ) (missing : ℕ) → IsSending r.commands missing → length xs ≤ missing + 1 → 0 < length xs →
      (asks : List ℕ → List Ask) (a : Awaits r asks) → Goes xs (ends_within xs) a.given a.position
  send_given r xs missing sends le some asks a =
      let p = send_place law r.commands r.within a.given a.position missing a.at sends in
      rw (p.0, p.4) (goes_send p.1 p.2 p.3 xs (let fits = p.5 in omega arith) some)

  pub goes_whole : (l : List ℕ) → has_lf l ≡ false → own_of l ≡ None → Goes (l ++ 10 ∷ []) (ends_within (l ++ 10 ∷ [])) [] at_line
  goes_whole l none other = rw ends_within_line (goes_line law l none other)

  pub goes_long : (l : List ℕ) → has_lf l ≡ false → 4096 < length l → Goes l (ends_within l) [] at_line
  goes_long l none long = rw (ends_within_front l none) (goes_front law l none long)

pub goes_to_end : (l : List ℕ) → has_lf l ≡ false → (given : List Command) → Goes (l ++ 10 ∷ []) (ends_within (l ++ 10 ∷ [])) given in_line
goes_to_end l none given = rw ends_within_line (goes_rest l given none)

pub goes_further : (l : List ℕ) → has_lf l ≡ false → (given : List Command) → Goes l (ends_within l) given in_line
goes_further l none given = rw (ends_within_front l none) (goes_part l given none)

-- The first bytes of the text were passed on.
pub record WasGiven (old new : Reader) (count : ℕ) : Type 0 where
  pub commands : new.commands ≡ record old.commands { held = old.commands.held ++ take count old.text.items }
  pub text : new.text.items ≡ drop count old.text.items
  pub within : new.within ≡ ends_within (take count old.text.items)

pub awaits_given : (old new : Reader) (count : ℕ) → WasGiven old new count → (asks : List ℕ → List Ask) (a : Awaits old asks) →
    Goes (take count old.text.items) (ends_within (take count old.text.items)) a.given a.position → Awaits new asks
awaits_given old new count was asks a goes =
    were_given old new (take count old.text.items) (drop count old.text.items) was.commands (sym (take-append-drop count old.text.items)) was.text was.within asks a goes

module _ (law : LineByLine) (old new : Reader) (partial : IsPartial old.commands.mode old.commands.held) (wanted : (wanted_of old.commands ≡ wants.Line) ⊎ (wanted_of old.commands ≡ wants.Rest)) where
  pub line_word : old.within ≡ false → (at : ℕ) → IsLine old.text.items at → (word : OwnWord) → own_of (take at old.text.items) ≡ Some word →
      new.commands ≡ old.commands → new.text.items ≡ drop (at + 1) old.text.items → new.within ≡ old.within →
      (asks : List ℕ → List Ask) → Awaits old asks → Gives asks (nexts.Asked (asking.Own word)) new
  line_word out at is word own = gives_own law old new (take at old.text.items) (drop (at + 1) old.text.items) word (waits_line old.commands wanted) partial out (line_split old.text.items at is) is.before own

  pub line_on : old.within ≡ false → (at : ℕ) → IsLine old.text.items at → own_of (take at old.text.items) ≡ None → WasGiven old new (at + 1) →
      (asks : List ℕ → List Ask) → Awaits old asks → Awaits new asks
  line_on out at is own was asks a =
      awaits_given old new (at + 1) was asks a
      (line_given law old (take (at + 1) old.text.items) (waits_line old.commands wanted) partial out (rw (line_taken old.text.items at is) (goes_whole law (take at old.text.items) is.before own)) asks a)

  pub front_on : old.within ≡ false → has_lf old.text.items ≡ false → 4096 < length old.text.items → (count : ℕ) → count ≡ length old.text.items → WasGiven old new count →
      (asks : List ℕ → List Ask) → Awaits old asks → Awaits new asks
  front_on out none long count all was asks a =
      awaits_given old new count was asks a
      (line_given law old (take count old.text.items) (waits_line old.commands wanted) partial out (rw (whole count all) (goes_long law old.text.items none long)) asks a)
    where
      whole : (count : ℕ) → count ≡ length old.text.items → take count old.text.items ≡ old.text.items
      whole count all = take_all count old.text.items (omega arith)

  pub rest_to_end : old.within ≡ true → (at : ℕ) → IsLine old.text.items at → WasGiven old new (at + 1) → (asks : List ℕ → List Ask) → Awaits old asks → Awaits new asks
  rest_to_end out at is was asks a =
      awaits_given old new (at + 1) was asks a
      (rest_given law old (take (at + 1) old.text.items) (waits_line old.commands wanted) partial out (rw (line_taken old.text.items at is) (goes_to_end (take at old.text.items) is.before)) asks a)

  pub rest_on : old.within ≡ true → has_lf old.text.items ≡ false → (count : ℕ) → count ≡ length old.text.items → WasGiven old new count → (asks : List ℕ → List Ask) → Awaits old asks → Awaits new asks
  rest_on out none count all was asks a =
      awaits_given old new count was asks a
      (rest_given law old (take count old.text.items) (waits_line old.commands wanted) partial out (rw (whole count all) (goes_further old.text.items none)) asks a)
    where
      whole : (count : ℕ) → count ≡ length old.text.items → take count old.text.items ≡ old.text.items
      whole count all = take_all count old.text.items (omega arith)

pub send_on : LineByLine → (old new : Reader) → IsPartial old.commands.mode old.commands.held → (count : ℕ) → wanted_of old.commands ≡ wants.Bytes count → 0 < length old.text.items →
    (given : ℕ) → given ≡ min count (length old.text.items) → WasGiven old new given → (asks : List ℕ → List Ask) → Awaits old asks → Awaits new asks
send_on law old new partial count wanted some given least was asks a =
    let w = waits_sending old.commands count partial wanted in
    let e : count ≡ w.0 + 1 = w.1 in
    let k : length (take given old.text.items) ≡ given = length-take-le given old.text.items (omega arith) in
    awaits_given old new given was asks a
    (send_given law old (take given old.text.items) w.0 w.2 (omega arith) (omega arith) asks a)

pub begins : (r : Reader) → r.commands ≡ nothing_read → r.text.items ≡ [] → r.within ≡ false → Awaits r asks_of
begins r commands text within = record {
  given = [];
  position = at_line;
  at = record { commands = λ more. ap (λ p. to_come p more) commands; fits = within };
  asked = λ more. ap (λ t. asks_of (t ++ more)) (sym text);
}

pub takes : (old new : Reader) (piece : List ℕ) → new.commands ≡ old.commands → new.text.items ≡ old.text.items ++ piece → new.within ≡ old.within →
    (asks : List ℕ → List Ask) → Awaits old asks → Awaits new (λ more. asks (piece ++ more))
takes old new piece commands text within asks a = record {
  given = a.given;
  position = a.position;
  at = rw (commands, within) a.at;
  asked = λ more. a.asked (piece ++ more) ∙ ap (λ t. map asking.Command a.given ++ asked_from a.position t) (sym (append_assoc old.text.items piece more) ∙ ap (λ t. t ++ more) (sym text));
}
