-- The position in the text when the reader of commands waits, and the effect of passing it more of the text.
use Rattle.std.proofs.Common.{◌≡◌, ◌⊎◌, inl, inr, ℕ, suc, zero, ◌+◌, ◌-◌, ◌<◌, ◌≤◌, Bool, true, false, not, cond, List, [], ◌∷◌, ◌++◌, length, get_or, take, drop, map, refl, ap, sym, ◌∙◌, eqb, leb, arith, append_assoc, length-append, replicate, None}
use Rattle.std.proofs.lemmas.List.{append-nil, get_or-append_right, get_or_append_left, get_or-replicate, length-replicate}
use Rattle.std.proofs.lemmas.Bool.{false≢true}
use Rattle.command_lines.specs.TextLines.{has_lf, after_line}
use Rattle.command_lines.specs.CommandGrammar.{kind_of, is_remark}
use Rattle.command_lines.specs.Waits.{wanted_in, wanted_of}
use Rattle.command_lines.specs.declared.commands.Wanted.TheVariants as wants
use Rattle.command_lines.specs.PendingCommands.{Pending, IsPartial, Leads, to_come}
use Rattle.command_lines.specs.PendingCommands as pendings
use Rattle.command_lines.specs.Text as texts
use Rattle.command_lines.specs.Text.{commands_of, after_bytes, is_lf_at, sent}
use Rattle.command_lines.specs.declared.command.Command.{Command}
use Rattle.command_lines.specs.declared.command.Command.TheVariants.{Apply, Malformed, OversizedSend}
use Rattle.spool_types.specs.declared.event.Event.TheVariants.{Send}
use Rattle.spool_types.specs.Limits.{longest_send}
use Rattle.command_lines.specs.declared.command.Kind.{Kind}
use Rattle.command_lines.specs.declared.command.Kind.TheVariants.{Remark, Takes, Says}
use Rattle.command_lines.specs.declared.command.Mode.{Mode}
use Rattle.command_lines.specs.declared.command.Mode.TheVariants.{Line, Skip, Payload, Counting}
use Rattle.client_reader.specs.declared.ask.Ask.TheVariants as asking
use Rattle.client_reader.specs.Asks.{own_of, after_send, after_kind, after_own, asks_of}
use Rattle.client_reader.specs.AwaitedRequests.{Where, at_line, in_line, in_send, asked_from, heard_from, IsWithin, IsAt, ends_within}
use Rattle.client_reader.proofs.NoSends.{is_send, SaysNone, no_send_kind}
use Rattle.client_reader.proofs.Lines.{LineByLine, split_wrong, split_cut, split_whole, split_full, split_off, commands_of-nil, commands_line, one_fault, asks_line, commands_long, asks_long, after_line_part, has_lf_append}

zeros : ℕ → List ℕ
zeros n = replicate n 0

-- Bytes up to a line feed.
abbrev filling : ℕ → List ℕ
filling n = replicate n 0 ++ 10 ∷ []

no_lf_zeros : (n : ℕ) → has_lf (replicate n 0) ≡ false
no_lf_zeros zero = refl
no_lf_zeros (suc n) = no_lf_zeros n

either : {X : Type 0} (P : X → Type 0) (b : Bool) (x y : X) → P x → P y → P (cond b x y)
either P true x y p q = p
either P false x y p q = q

sent_is : (job n : ℕ) (bytes : List ℕ) → is_send (sent job n bytes) ≡ true
sent_is job n bytes = either (λ c. is_send c ≡ true) (leb n longest_send) (Apply (Send job bytes)) OversizedSend refl refl

-- ## The position of a reader that waits

-- The reader is in a send: the commands that come if the text ends here, and if the bytes of the send are filled up.
pub record IsSending (p : Pending) (missing : ℕ) : Type 0 where
  pub cut : to_come p [] ≡ Malformed ∷ []
  pub command : Command
  pub send : is_send command ≡ true
  pub whole : to_come p (filling missing) ≡ command ∷ []

abbrev pub IsLineMode : Mode → Type 0
IsLineMode Line = Unit {0}
IsLineMode Skip = Unit {0}
IsLineMode m = ⊥

-- The only command at the end is no send.
no_last : (kind : Kind) (given : List Command) (c : Command) → SaysNone kind → is_send c ≡ true → texts.after_kind commands_of kind [] ≡ given ++ c ∷ [] → ⊥
no_last Remark [] c says send e = let k = sym commands_of-nil ∙ e in cc
no_last Remark (g ∷ given) c says send e = let k = sym commands_of-nil ∙ e in cc
no_last (Says d) [] c says send e = let k : d ≡ c = cc in false≢true (sym says ∙ ap is_send k ∙ send)
no_last (Says d) (g ∷ []) c says send e = let k : commands_of [] ≡ c ∷ [] = cc in let l = sym commands_of-nil ∙ k in cc
no_last (Says d) (g ∷ h ∷ given) c says send e = let k : commands_of [] ≡ h ∷ (given ++ c ∷ []) = cc in let l = sym commands_of-nil ∙ k in cc
no_last (Takes job n) given c says send e = only given (sym (split_cut commands_of (sent job n) Malformed n [] (omega arith) ∙ ap (λ l. Malformed ∷ l) commands_of-nil) ∙ e)
  where
    only : (given : List Command) → Malformed ∷ [] ≡ given ++ c ∷ [] → ⊥
    only [] e = let k : Malformed ≡ c = cc in false≢true (ap is_send k ∙ send)
    only (g ∷ []) e = cc
    only (g ∷ h ∷ given) e = cc

module _ (law : LineByLine) where
  -- A reader that waits for a line is not in a send.
  line_filled : (p : Pending) (missing : ℕ) (given : List Command) (c : Command) → IsLineMode p.mode → IsPartial p.mode p.held → is_send c ≡ true → to_come p (filling missing) ≡ given ++ c ∷ [] → ⊥
  line_filled p missing given c = by_mode p.mode p.held
    where
      by_mode : (mode : Mode) (held : List ℕ) → IsLineMode mode → IsPartial mode held → is_send c ≡ true → to_come (record { mode = mode; held = held }) (filling missing) ≡ given ++ c ∷ [] → ⊥
      by_mode Line held is partial send e =
          let none = has_lf_append held (replicate missing 0) partial.0 (no_lf_zeros missing) in
          no_last (kind_of (held ++ replicate missing 0)) given c (no_send_kind (held ++ replicate missing 0)) send
          (sym (ap commands_of (sym (append_assoc held (replicate missing 0) (10 ∷ []))) ∙ commands_line law (held ++ replicate missing 0) [] none) ∙ e)
      by_mode Skip held is partial send e =
          let none : to_come (record { mode = Skip; held = held }) (filling missing) ≡ [] =
          ap (λ h. commands_of (after_line (h ++ filling missing))) partial ∙ ap commands_of (after_line_part (replicate missing 0) (10 ∷ []) (no_lf_zeros missing)) ∙ commands_of-nil in
          nothing given (sym none ∙ e)
        where
          nothing : (given : List Command) → [] ≡ given ++ c ∷ [] → ⊥
          nothing [] e = cc
          nothing (g ∷ given) e = cc
      by_mode (Payload job n) held is partial send e = is
      by_mode (Counting n) held is partial send e = is

  -- The bytes of a send, filled up.
  filled : (job n : ℕ) (held : List ℕ) → length held ≤ n → heard_from (in_send job n held) (filling (n - length held)) ≡ sent job n (held ++ replicate (n - length held) 0) ∷ []
  filled job n held le =
      let full : length (held ++ replicate (n - length held) 0) ≡ n = (let a = length-append held (replicate (n - length held) 0) in let b = length-replicate {A = ℕ} (n - length held) 0 in omega arith) in
      ap (after_bytes commands_of (sent job n) n) (sym (append_assoc held (replicate (n - length held) 0) (10 ∷ [])))
      ∙ split_whole commands_of (sent job n) Malformed n (held ++ replicate (n - length held) 0) [] full
      ∙ ap (λ l. sent job n (held ++ replicate (n - length held) 0) ∷ l) commands_of-nil

  -- When a line is awaited, the text is not in a send.
  pub no_send_place : (p : Pending) (within : Bool) (given : List Command) (position : Where) → IsAt p within given position → IsLineMode p.mode → IsPartial p.mode p.held →
      (position ≡ at_line) ⊎ (position ≡ in_line)
  no_send_place p within given at_line at mode partial = inl refl
  no_send_place p within given in_line at mode partial = inr refl
  no_send_place p within given (in_send job n held) at mode partial =
      absurd (line_filled p (n - length held) given (sent job n (held ++ replicate (n - length held) 0)) mode partial (sent_is job n _)
      (at.commands (filling (n - length held)) ∙ ap (λ l. given ++ l) (filled job n held at.fits)))

  -- The first command to come is the first that was still to be returned.
  pub given_first : (p new : Pending) (within : Bool) (given : List Command) (position : Where) (c : Command) → IsAt p within given position → Leads p (c ∷ []) new →
      (rest : List Command) × (given ≡ c ∷ rest) × IsAt new within rest position
  given_first p new within [] at_line c at leads = absurd (let e = sym commands_of-nil ∙ sym (at.commands []) ∙ leads [] in cc)
  given_first p new within [] in_line c at leads = absurd (let e = sym commands_of-nil ∙ sym (at.commands []) ∙ leads [] in cc)
  given_first p new within [] (in_send job n held) c at leads =
      let bad : Malformed ∷ commands_of [] ≡ c ∷ to_come new [] =
      sym (ap (after_bytes commands_of (sent job n) n) (append-nil held) ∙ split_cut commands_of (sent job n) Malformed n held at.fits) ∙ sym (at.commands []) ∙ leads [] in
      let good : sent job n (held ++ replicate (n - length held) 0) ∷ [] ≡ c ∷ to_come new (filling (n - length held)) =
      sym (filled job n held at.fits) ∙ sym (at.commands (filling (n - length held))) ∙ leads (filling (n - length held)) in
      let a : Malformed ≡ c = cc in
      let b : sent job n (held ++ replicate (n - length held) 0) ≡ c = cc in
      absurd (false≢true (ap is_send (a ∙ sym b) ∙ sent_is job n _))
  given_first p new within (g ∷ rest) position c at leads =
      let e : (more : List ℕ) → g ∷ (rest ++ heard_from position more) ≡ c ∷ to_come new more = λ more. sym (at.commands more) ∙ leads more in
      let same : g ≡ c = first g c _ _ (e []) in
      (rest, ap (λ x. x ∷ rest) same, record { commands = λ more. sym (others g c _ _ (e more)); fits = at.fits })
    where
      first : (x y : Command) (xs ys : List Command) → x ∷ xs ≡ y ∷ ys → x ≡ y
      first x y xs ys e = cc

      others : (x y : Command) (xs ys : List Command) → x ∷ xs ≡ y ∷ ys → xs ≡ ys
      others x y xs ys e = cc

  -- When bytes of a send are awaited, the text is in a send that needs these bytes or more, and no command is still to be returned.
  pub send_place : (p : Pending) (within : Bool) (given : List Command) (position : Where) (missing : ℕ) → IsAt p within given position → IsSending p missing →
      (given ≡ []) × (job : ℕ) × (n : ℕ) × (held : List ℕ) × (position ≡ in_send job n held) × (length held + missing ≤ n)
  send_place p within (g ∷ given) position missing at sends =
      let a : g ≡ Malformed = first g Malformed _ _ (sym (at.commands []) ∙ sends.cut) in
      let b : g ≡ sends.command = first g sends.command _ _ (sym (at.commands (filling missing)) ∙ sends.whole) in
      absurd (false≢true (ap is_send (sym a ∙ b) ∙ sends.send))
    where
      first : (x y : Command) (xs ys : List Command) → x ∷ xs ≡ y ∷ ys → x ≡ y
      first x y xs ys e = cc
  send_place p within [] at_line missing at sends = absurd (let e = sym commands_of-nil ∙ sym (at.commands []) ∙ sends.cut in cc)
  send_place p within [] in_line missing at sends = absurd (let e = sym commands_of-nil ∙ sym (at.commands []) ∙ sends.cut in cc)
  send_place p within [] (in_send job n held) missing at sends = (refl, job, n, held, refl, fits (total n (length held + missing)))
    where
      total : (a b : ℕ) → (a < b) ⊎ (b ≤ a)
      total a b = grind arith

      fits : (n < length held + missing) ⊎ (length held + missing ≤ n) → length held + missing ≤ n
      fits (inr le) = le
      fits (inl lt) =
          let le = at.fits in
          let zero_there : get_or (held ++ filling missing) n 0 ≡ 0 =
          get_or-append_right held (filling missing) (length held) n 0 refl le
          ∙ get_or_append_left (replicate missing 0) (10 ∷ []) 0 (n - length held) (let l = length-replicate {A = ℕ} missing 0 in omega arith)
          ∙ get_or-replicate missing (n - length held) 0 0 (omega arith) in
          let wrong : heard_from (in_send job n held) (filling missing) ≡ Malformed ∷ commands_of (after_line (drop n (held ++ filling missing))) =
          split_wrong commands_of (sent job n) Malformed n (held ++ filling missing) (ap (λ b. eqb b 10) zero_there) in
          let e : Malformed ∷ commands_of (after_line (drop n (held ++ filling missing))) ≡ sends.command ∷ [] = sym wrong ∙ sym (at.commands (filling missing)) ∙ sends.whole in
          let a : Malformed ≡ sends.command = cc in
          absurd (false≢true (ap is_send a ∙ sends.send))

  -- At the beginning of an awaited line no command is still to be returned.
  pub none_given : (p : Pending) (within : Bool) (given : List Command) → IsAt p within given at_line → IsLineMode p.mode → IsPartial p.mode p.held → given ≡ []
  none_given p within [] at mode partial = refl
  none_given p within (g ∷ given) at mode partial = absurd (by_mode p.mode p.held mode partial (at.commands []) (at.commands (120 ∷ 10 ∷ [])))
    where
      two : (kind : Kind) → texts.after_kind commands_of kind [] ≡ g ∷ (given ++ commands_of (120 ∷ 10 ∷ [])) → ⊥
      two kind e = two_by kind (e ∙ ap (λ l. g ∷ (given ++ l)) (one_fault law ∙ ap (λ l. Malformed ∷ l) commands_of-nil))
        where
          one : (x y : Command) (given : List Command) → x ∷ [] ≡ y ∷ (given ++ Malformed ∷ []) → ⊥
          one x y [] e = cc
          one x y (h ∷ given) e = cc

          two_by : (kind : Kind) → texts.after_kind commands_of kind [] ≡ g ∷ (given ++ Malformed ∷ []) → ⊥
          two_by Remark e = let k = sym commands_of-nil ∙ e in cc
          two_by (Says d) e = one d g given (sym (ap (λ l. d ∷ l) commands_of-nil) ∙ e)
          two_by (Takes job n) e = one Malformed g given (sym (split_cut commands_of (sent job n) Malformed n [] (omega arith) ∙ ap (λ l. Malformed ∷ l) commands_of-nil) ∙ e)

      by_mode : (mode : Mode) (held : List ℕ) → IsLineMode mode → IsPartial mode held → to_come (record { mode = mode; held = held }) [] ≡ g ∷ (given ++ commands_of []) →
          to_come (record { mode = mode; held = held }) (120 ∷ 10 ∷ []) ≡ g ∷ (given ++ commands_of (120 ∷ 10 ∷ [])) → ⊥
      by_mode Line held is partial e f =
          two (kind_of (held ++ 120 ∷ [])) (sym (ap commands_of (sym (append_assoc held (120 ∷ []) (10 ∷ []))) ∙ commands_line law (held ++ 120 ∷ []) [] (has_lf_append held (120 ∷ []) partial.0 refl)) ∙ f)
      by_mode Skip held is partial e f = let k = sym (ap (λ h. commands_of (after_line (h ++ []))) partial ∙ commands_of-nil) ∙ e in cc
      by_mode (Payload job n) held is partial e f = is
      by_mode (Counting n) held is partial e f = is

-- A reader that waits for bytes is in a send.
pub waits_sending : (p : Pending) (count : ℕ) → IsPartial p.mode p.held → wanted_of p ≡ wants.Bytes count → (missing : ℕ) × (count ≡ missing + 1) × IsSending p missing
waits_sending p count = by_mode p.mode p.held
  where
    all : (n : ℕ) (command : List ℕ → Command) → ((bytes : List ℕ) → is_send (command bytes) ≡ true) → (mode : Mode) (held : List ℕ) → length held ≤ n →
        ((more : List ℕ) → to_come (record { mode = mode; held = held }) more ≡ after_bytes commands_of command n (held ++ more)) → IsSending (record { mode = mode; held = held }) (n - length held)
    all n command sends mode held le is =
        let full : length (held ++ replicate (n - length held) 0) ≡ n = (let a = length-append held (replicate (n - length held) 0) in let b = length-replicate {A = ℕ} (n - length held) 0 in omega arith) in
        record {
          cut = is [] ∙ ap (after_bytes commands_of command n) (append-nil held) ∙ split_cut commands_of command Malformed n held le ∙ ap (λ l. Malformed ∷ l) commands_of-nil;
          command = command (held ++ replicate (n - length held) 0);
          send = sends (held ++ replicate (n - length held) 0);
          whole = is (filling (n - length held)) ∙ ap (after_bytes commands_of command n) (sym (append_assoc held (replicate (n - length held) 0) (10 ∷ [])))
              ∙ split_whole commands_of command Malformed n (held ++ replicate (n - length held) 0) [] full
              ∙ ap (λ l. command (held ++ replicate (n - length held) 0) ∷ l) commands_of-nil;
        }

    counted : (x y : ℕ) → wants.Bytes x ≡ wants.Bytes y → x ≡ y
    counted x y e = cc

    by_mode : (mode : Mode) (held : List ℕ) → IsPartial mode held → wanted_in mode (length held) ≡ wants.Bytes count → (missing : ℕ) × (count ≡ missing + 1) × IsSending (record { mode = mode; held = held }) missing
    by_mode Line held partial e = absurd (cc)
    by_mode Skip held partial e = absurd (cc)
    by_mode (Payload job n) held partial e =
        let le = partial.0 in
        let k : n + 1 - length held ≡ count = counted _ _ e in
        (n - length held, omega arith, all n (sent job n) (sent_is job n) (Payload job n) held le (λ more. refl))
    by_mode (Counting n) held partial e =
        let none : length held ≡ 0 = ap length partial in
        let k : n + 1 ≡ count = counted _ _ e in
        (n - length held, omega arith, all n (λ _. OversizedSend) (λ bytes. refl) (Counting n) held (omega arith) (λ more. refl))

pub waits_line : (p : Pending) → (wanted_of p ≡ wants.Line) ⊎ (wanted_of p ≡ wants.Rest) → IsLineMode p.mode
waits_line p = by_mode p.mode p.held
  where
    by_mode : (mode : Mode) (held : List ℕ) → (wanted_in mode (length held) ≡ wants.Line) ⊎ (wanted_in mode (length held) ≡ wants.Rest) → IsLineMode mode
    by_mode Line held e = tt
    by_mode Skip held e = tt
    by_mode (Payload job n) held (inl e) = cc
    by_mode (Payload job n) held (inr e) = cc
    by_mode (Counting n) held (inl e) = cc
    by_mode (Counting n) held (inr e) = cc

-- ## The effect of passing bytes

-- These bytes move from one position to another, after the commands still to be returned, and the requests stay the same.
pub record Goes (xs : List ℕ) (within : Bool) (given : List Command) (position : Where) : Type 0 where
  pub given' : List Command
  pub position' : Where
  pub commands : (more : List ℕ) → given ++ heard_from position (xs ++ more) ≡ given' ++ heard_from position' more
  pub asks : (more : List ℕ) → map asking.Command given ++ asked_from position (xs ++ more) ≡ map asking.Command given' ++ asked_from position' more
  pub fits : IsWithin position' within

-- So they do for the reader that got them.
pub goes_on : (p : Pending) (xs : List ℕ) (old within : Bool) (given : List Command) (position : Where) → IsAt p old given position → (goes : Goes xs within given position) →
    IsAt (record p { held = p.held ++ xs }) within goes.given' goes.position'
goes_on p xs old within given position at goes = record {
  commands = λ more. fed p.mode p.held more ∙ at.commands (xs ++ more) ∙ goes.commands more;
  fits = goes.fits;
}
  where
    fed : (mode : Mode) (held more : List ℕ) → to_come (record { mode = mode; held = held ++ xs }) more ≡ to_come (record { mode = mode; held = held }) (xs ++ more)
    fed mode held more = ap (pendings.commands_from mode) (append_assoc held xs more)

module _ (law : LineByLine) where
  -- A line that is no word of the service.
  pub goes_line : (l : List ℕ) → has_lf l ≡ false → own_of l ≡ None → Goes (l ++ 10 ∷ []) false [] at_line
  goes_line l none other = by_kind (kind_of l) (λ more. ap commands_of (append_assoc l (10 ∷ []) more) ∙ commands_line law l more none)
      (λ more. ap asks_of (append_assoc l (10 ∷ []) more) ∙ asks_line l more none ∙ ap (λ w. after_own asks_of w (kind_of l) more) other)
    where
      by_kind : (kind : Kind) → ((more : List ℕ) → commands_of ((l ++ 10 ∷ []) ++ more) ≡ texts.after_kind commands_of kind more) →
          ((more : List ℕ) → asks_of ((l ++ 10 ∷ []) ++ more) ≡ after_kind asks_of kind more) → Goes (l ++ 10 ∷ []) false [] at_line
      by_kind Remark c a = record { given' = []; position' = at_line; commands = c; asks = a; fits = refl }
      by_kind (Says d) c a = record { given' = d ∷ []; position' = at_line; commands = c; asks = a; fits = refl }
      by_kind (Takes job n) c a = record { given' = []; position' = in_send job n []; commands = c; asks = a; fits = omega arith }

  -- The front of a line that is too long.
  pub goes_front : (l : List ℕ) → has_lf l ≡ false → 4096 < length l → Goes l true [] at_line
  goes_front l none long = by_kind (is_remark l) (λ more. commands_long law l more none long) (λ more. asks_long l more none long)
    where
      by_kind : (remark : Bool) → ((more : List ℕ) → commands_of (l ++ more) ≡ texts.after_kind commands_of (cond remark Remark (Says Malformed)) (after_line more)) →
          ((more : List ℕ) → asks_of (l ++ more) ≡ after_kind asks_of (cond remark Remark (Says Malformed)) (after_line more)) → Goes l true [] at_line
      by_kind true c a = record { given' = []; position' = in_line; commands = c; asks = a; fits = refl }
      by_kind false c a = record { given' = Malformed ∷ []; position' = in_line; commands = c; asks = a; fits = refl }

-- The rest of a line, or part of it.
pub goes_rest : (l : List ℕ) (given : List Command) → has_lf l ≡ false → Goes (l ++ 10 ∷ []) false given in_line
goes_rest l given none =
    let e : (more : List ℕ) → after_line ((l ++ 10 ∷ []) ++ more) ≡ more = λ more. ap after_line (append_assoc l (10 ∷ []) more) ∙ after_line_part l (10 ∷ more) none in
    record {
      given' = given;
      position' = at_line;
      commands = λ more. ap (λ t. given ++ commands_of t) (e more);
      asks = λ more. ap (λ t. map asking.Command given ++ asks_of t) (e more);
      fits = refl;
    }

pub goes_part : (l : List ℕ) (given : List Command) → has_lf l ≡ false → Goes l true given in_line
goes_part l given none = record {
  given' = given;
  position' = in_line;
  commands = λ more. ap (λ t. given ++ commands_of t) (after_line_part l more none);
  asks = λ more. ap (λ t. map asking.Command given ++ asks_of t) (after_line_part l more none);
  fits = refl;
}

-- Bytes of a send.
pub goes_send : (job n : ℕ) (held xs : List ℕ) → length held + length xs ≤ n + 1 → 0 < length xs → Goes xs (ends_within xs) [] (in_send job n held)
goes_send job n held xs le some = by_length (grind arith)
  where
    here : (more : List ℕ) → held ++ (xs ++ more) ≡ (held ++ xs) ++ more
    here more = sym (append_assoc held xs more)

    joined : length (held ++ xs) ≡ length held + length xs
    joined = length-append held xs

    last_same : length held + length xs ≡ n + 1 → is_lf_at n (held ++ xs) ≡ is_lf_at (length xs - 1) xs
    last_same e =
        let k : n - length held ≡ length xs - 1 = omega arith in
        ap (λ b. eqb b 10) (get_or-append_right held xs (length held) n 0 refl (omega arith) ∙ ap (λ i. get_or xs i 0) k)

    by_last : length held + length xs ≡ n + 1 → (last : Bool) → is_lf_at (length xs - 1) xs ≡ last → Goes xs (not last) [] (in_send job n held)
    by_last e true is = record {
      given' = sent job n (take n (held ++ xs)) ∷ [];
      position' = at_line;
      commands = λ more. ap (after_bytes commands_of (sent job n) n) (here more) ∙ split_full commands_of (sent job n) Malformed n (held ++ xs) (joined ∙ e) (last_same e ∙ is) more;
      asks = λ more. ap (after_send asks_of job n) (here more) ∙ split_full asks_of (λ b. asking.Command (sent job n b)) (asking.Command Malformed) n (held ++ xs) (joined ∙ e) (last_same e ∙ is) more;
      fits = refl;
    }
    by_last e false is = record {
      given' = Malformed ∷ [];
      position' = in_line;
      commands = λ more. ap (after_bytes commands_of (sent job n) n) (here more) ∙ split_off commands_of (sent job n) Malformed n (held ++ xs) (joined ∙ e) (last_same e ∙ is) more;
      asks = λ more. ap (after_send asks_of job n) (here more) ∙ split_off asks_of (λ b. asking.Command (sent job n b)) (asking.Command Malformed) n (held ++ xs) (joined ∙ e) (last_same e ∙ is) more;
      fits = refl;
    }

    by_length : (length held + length xs ≤ n) ⊎ (length held + length xs ≡ n + 1) → Goes xs (ends_within xs) [] (in_send job n held)
    by_length (inl less) = record {
      given' = [];
      position' = in_send job n (held ++ xs);
      commands = λ more. ap (after_bytes commands_of (sent job n) n) (here more);
      asks = λ more. ap (after_send asks_of job n) (here more);
      fits = omega (arith, joined);
    }
    by_length (inr e) = by_last e (is_lf_at (length xs - 1) xs) refl
