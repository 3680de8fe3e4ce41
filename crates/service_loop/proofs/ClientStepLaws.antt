-- Two client steps in order are one client step.
use Rattle.std.proofs.Common.{◌≡◌, ◌⊎◌, inl, inr, Result, OnOk, ℕ, ◌+◌, ◌-◌, ◌≤◌, take, List, [], ◌∷◌, ◌++◌, length, drop, Option, None, Some, true, false, refl, ap, sym, ◌∙◌, subst, append_assoc, arith}
use Rattle.std.specs.Io.KnownBytes.{Appends, Consumes, Keeps, append_known}
use Rattle.std.proofs.lemmas.List.{append-nil, drop-append-le, drop-drop, length-append, length-drop, take-append-drop, take_all}
use Rattle.spool_disk.specs.Disk.{DiskView}
use Rattle.service_texts.specs.declared.own_words.OwnWord.{OwnWord}
use Rattle.service_texts.specs.declared.own_words.OwnWord.TheVariants as words
use Rattle.print_rounds.specs.RunStates.{RunState}
use Rattle.print_rounds.specs.declared.outcome.Round.{Round}
use Rattle.print_rounds.specs.declared.outcome.RoundFault.{RoundFault}
use Rattle.client_reader.specs.Asks.{asks_of}
use Rattle.client_reader.specs.ReaderCalls.{AreFirstOf}
use Rattle.client_reader.specs.AwaitedRequests.{Awaits, Gives}
use Rattle.client_reader.specs.declared.ask.Ask.{Ask}
use Rattle.client_reader.specs.declared.ask.Ask.TheVariants as asking
use Rattle.client_reader.specs.declared.ask.Next.{Next}
use Rattle.client_reader.specs.declared.ask.Next.TheVariants as nexts
use Rattle.command_lines.specs.declared.command.Command.{Command}
use Rattle.command_lines.specs.declared.command.Command.TheVariants as commands
use Rattle.spool_engine.specs.EventSteps.{Setting, setting}
use Rattle.spool_engine.specs.EngineRounds.{round_line}
use Rattle.spool_engine.specs.EngineTicks.{Ticked}
use Rattle.spool_engine.specs.StagedSteps.{IsStagingTick, SettlesTo, TakesStagingStep}
use Rattle.spool_engine.specs.EngineRuns.{Engine, CommandStep, is_round}
use Rattle.command_lines.specs.declared.reply.Answer.{Answer}
use Rattle.client_standing.specs.ClientStanding.{ClientStanding, first_standing, with_proof}
use Rattle.client_standing.specs.declared.caller.Proved.{Proved}
use Rattle.client_roles.specs.RoleTable.{is_allowed}
use Rattle.service_rules.specs.Listeners.{may_listen}
use Rattle.service_rules.specs.declared.listening.Listening.{Listening}
use Rattle.spool_engine.specs.AnswerTexts.{answer_text}
use Rattle.engine_reserve.specs.CommandRoom.{full_text}
use Rattle.service_loop.specs.TakenRoom.{is_reserved}
use Rattle.service_loop.specs.ClientActions.{Action, answers, ticks, applies, says, offers, proves, denies, reserves, turns_away, ends, settles, delivers, ClientStatus, IsDurable, IsMeant, IsSaid, IsEndReported, IsDone, AreActions, after_action, standing_after, standing_after_all, status_after, with_answer, begins_to_listen, asks_by, asks_in, text_by, texts_in, proofs_by, proofs_in, given_by, given_in, applied_text}
use Rattle.service_loop.specs.ConnectionViews.{ConnectionView, IsProofStep, ProofStep, AddsProofs, named, examined}
use Rattle.service_loop.specs.ProofTexts.{busy_text, denied_text, offer_text, proof_text}
use Rattle.service_loop.specs.ShownAnswers.{shown_answer}
use Rattle.service_loop.specs.Progress.{IsRead}
use Rattle.service_loop.specs.ClientSteps.{AreClientSteps, Asks, AsksFirst, Delivers, GivesNext, Goes, GoesGiving, GoesProving, HasAll, IsAdded, IsAnswered, IsEntry, IsClientStep, IsClientStepBy, ClientStep, turns, changes, signs, client_after, actions_by, actions_of, status_of, told_to}
use Rattle.service_loop.specs.declared.client.Client.{Client}

first_then : (a b c : Option (List ℕ)) (f g h : List ℕ → List Ask) (xs ys : List Ask) → AsksFirst a f xs b g → AsksFirst b g ys c h → AsksFirst a f (xs ++ ys) c h
first_then None b c f g h xs ys p q = tt
first_then (Some r) None c f g h xs ys p q = absurd p
first_then (Some r) (Some s) None f g h xs ys p q = q
first_then (Some r) (Some s) (Some t) f g h xs ys p q = λ more. p more ∙ ap (λ l. xs ++ l) (q more) ∙ sym (append_assoc xs ys (h (t ++ more)))

appends_then : (a b c : Option (List ℕ)) (xs ys : List ℕ) → Appends a b xs → Appends b c ys → Appends a c (xs ++ ys)
appends_then None b c xs ys p q = tt
appends_then (Some r) None c xs ys p q = absurd p
appends_then (Some r) (Some s) None xs ys p q = q
appends_then (Some r) (Some s) (Some t) xs ys p q = q ∙ ap (λ l. l ++ ys) p ∙ append_assoc r xs ys

adds_then : (a b c : Option (List ProofStep)) (xs ys : List ProofStep) → AddsProofs a b xs → AddsProofs b c ys → AddsProofs a c (xs ++ ys)
adds_then None b c xs ys p q = tt
adds_then (Some before) b c xs ys p q =
    let further : AddsProofs (Some (before ++ xs)) c ys = subst (λ (o : Option (List ProofStep)). AddsProofs o c ys) p q in
    further ∙ ap Some (append_assoc before xs ys)

adds_none : (known : Option (List ProofStep)) → AddsProofs known known []
adds_none None = tt
adds_none (Some before) = ap Some (sym (append-nil before))

-- The same steps of proofs are reported.
adds_same : (old new : Option (List ProofStep)) → new ≡ old → AddsProofs old new []
adds_same old new same = subst (λ (o : Option (List ProofStep)). AddsProofs old o []) (sym same) (adds_none old)

module _ {L : Type 0} (view : ConnectionView L) where
  pub goes_on : (a b c : Client L) (xs ys : List Ask) (s t : List ℕ) (ps qs : List ProofStep) (v w : List ℕ) → GoesGiving view a xs s ps v b → GoesGiving view b ys t qs w c →
      GoesGiving view a (xs ++ ys) (s ++ t) (ps ++ qs) (v ++ w) c
  goes_on a b c xs ys s t ps qs v w one two = record {
    asked = λ awaited awaits.
        let first = one.asked awaited awaits in
        let then = two.asked first.0 first.1 in
        (then.0, then.1, first_then (view.remaining a.connection) (view.remaining b.connection) (view.remaining c.connection) awaited first.0 then.0 xs ys first.2 then.2);
    told = λ within.
        let first = one.told within in
        let then = two.told first.within in
        record { within = then.within; told = appends_then (told_to view a) (told_to view b) (told_to view c) s t first.told then.told };
    proved = adds_then (view.proofs a.connection) (view.proofs b.connection) (view.proofs c.connection) ps qs one.proved two.proved;
    wrote = appends_then (view.contents a.connection) (view.contents b.connection) (view.contents c.connection) v w one.wrote two.wrote;
  }

  pub goes_then : (a b c : Client L) (xs ys : List Ask) (s t : List ℕ) → Goes view a xs s b → Goes view b ys t c → Goes view a (xs ++ ys) (s ++ t) c
  goes_then a b c xs ys s t one two = goes_on a b c xs ys s t [] [] [] [] one two

  pub delivers_then : (a b c : Client L) → Delivers view a b → Delivers view b c → Delivers view a c
  delivers_then a b c (v, one) (w, two) = (v ++ w, goes_on a b c [] [] [] [] [] [] v w one two)

  pub delivers_none : (a b : Client L) → Goes view a [] [] b → Delivers view a b
  delivers_none a b goes = ([], goes)

-- ## A text is added

asks_none : (known : Option (List ℕ)) (f : List ℕ → List Ask) → AsksFirst known f [] known f
asks_none None f = tt
asks_none (Some rest) f = λ more. refl

asks_one : (known : Option (List ℕ)) (f g : List ℕ → List Ask) (ask : Ask) → ((more : List ℕ) → f more ≡ ask ∷ g more) → AsksFirst known f (ask ∷ []) known g
asks_one None f g ask gives = tt
asks_one (Some rest) f g ask gives = λ more. gives (rest ++ more)

keeps_same : (known : Option (List ℕ)) → Keeps known known
keeps_same None = tt
keeps_same (Some said) = refl

-- Nothing was written.
wrote_none : (old new : Option (List ℕ)) → Keeps old new → Appends old new []
wrote_none None new kept = tt
wrote_none (Some said) None kept = absurd kept
wrote_none (Some said) (Some now) kept = kept ∙ sym (append-nil said)

wrote_same : (old new : Option (List ℕ)) → new ≡ old → Appends old new []
wrote_same old new same = subst (λ (o : Option (List ℕ)). Appends old o []) (sym same) (wrote_none old old (keeps_same old))

appends_behind : (known : Option (List ℕ)) (untaken text : List ℕ) → Appends (append_known known untaken) (append_known known (untaken ++ text)) text
appends_behind None untaken text = tt
appends_behind (Some said) untaken text = sym (append_assoc said untaken text)

module _ {L : Type 0} (view : ConnectionView L) where
  pub goes_added : (a : Client L) (text : List ℕ) (b : Client L) → IsAdded a text b → Goes view a [] text b
  goes_added a text b added = record {
    asked = λ awaited awaits. (awaited, rw added.reader awaits, rw added.connection (asks_none (view.remaining a.connection) awaited));
    told = λ within. record {
      within = rw (added.taken, added.replies, length-append a.replies.items text) (omega arith);
      told =
          rw (added.connection, added.taken, added.replies, drop-append-le a.taken a.replies.items text within)
          (appends_behind (view.contents a.connection) (drop a.taken a.replies.items) text);
    };
    proved = adds_same (view.proofs a.connection) (view.proofs b.connection) (ap view.proofs added.connection);
    wrote = wrote_same (view.contents a.connection) (view.contents b.connection) (ap view.contents added.connection);
  }

-- ## Some of its replies are written

asks_kept : (old new : Option (List ℕ)) (f : List ℕ → List Ask) → Keeps old new → AsksFirst old f [] new f
asks_kept None new f kept = tt
asks_kept (Some rest) None f kept = absurd kept
asks_kept (Some rest) (Some left) f kept = λ more. ap (λ l. f (l ++ more)) (sym kept)

appends_moved : (old new : Option (List ℕ)) (untaken : List ℕ) (count : ℕ) → Appends old new (take count untaken) →
    Appends (append_known old untaken) (append_known new (drop count untaken)) []
appends_moved None new untaken count wrote = tt
appends_moved (Some said) None untaken count wrote = absurd wrote
appends_moved (Some said) (Some now) untaken count wrote =
    ap (λ l. l ++ drop count untaken) wrote ∙ append_assoc said (take count untaken) (drop count untaken)
    ∙ ap (λ l. said ++ l) (take-append-drop count untaken) ∙ sym (append-nil (said ++ untaken))

-- The connection is given all bytes that were not taken.
pub unwritten : (given items : List ℕ) (taken : ℕ) → given ≡ items → take (length given - taken) (drop taken given) ≡ drop taken items
unwritten given items taken same = take_all (length given - taken) (drop taken given) (omega (arith, length-drop taken given)) ∙ ap (drop taken) same

-- This number of the bytes not yet taken was written.
pub record IsWritten {L : Type 0} (view : ConnectionView L) (old : Client L) (count : ℕ) (new : Client L) : Type 0 where
  pub kept : Keeps (view.remaining old.connection) (view.remaining new.connection)
  pub wrote : Appends (view.contents old.connection) (view.contents new.connection) (take count (drop old.taken old.replies.items))
  pub reader : new.reader ≡ old.reader
  pub taken : new.taken ≡ old.taken + count
  pub replies : new.replies.items ≡ old.replies.items
  pub within : count ≤ length old.replies.items - old.taken
  pub proofs : view.proofs new.connection ≡ view.proofs old.connection

pub goes_written : {L : Type 0} (view : ConnectionView L) (old : Client L) (count : ℕ) (new : Client L) → IsWritten view old count new → GoesGiving view old [] [] [] (take count (drop old.taken old.replies.items)) new
goes_written view old count new written = record {
  asked = λ awaited awaits. (awaited, rw written.reader awaits, asks_kept (view.remaining old.connection) (view.remaining new.connection) awaited written.kept);
  told = λ within.
      let fits = written.within in
      record {
        within = rw (written.taken, written.replies) (omega arith);
        told =
            rw (written.taken, written.replies, ← drop-drop count old.taken old.replies.items)
            (appends_moved (view.contents old.connection) (view.contents new.connection) (drop old.taken old.replies.items) count written.wrote);
      };
  proved = adds_same (view.proofs old.connection) (view.proofs new.connection) written.proofs;
  wrote = written.wrote;
}

-- ## A piece is read

asks_read : (old new : Option (List ℕ)) (f : List ℕ → List Ask) (piece : List ℕ) → Consumes old new piece → AsksFirst old f [] new (λ more. f (piece ++ more))
asks_read None new f piece consumes = tt
asks_read (Some rest) None f piece consumes = absurd consumes
asks_read (Some rest) (Some left) f piece consumes = λ more. ap (λ l. f (l ++ more)) consumes ∙ ap f (append_assoc piece left more)

appends_kept : (old new : Option (List ℕ)) (untaken : List ℕ) → Keeps old new → Appends (append_known old untaken) (append_known new untaken) []
appends_kept None new untaken kept = tt
appends_kept (Some said) None untaken kept = absurd kept
appends_kept (Some said) (Some now) untaken kept = ap (λ l. l ++ untaken) kept ∙ sym (append-nil (said ++ untaken))

appends_kept_then : (old new : Option (List ℕ)) (untaken text : List ℕ) → Keeps old new → Appends (append_known old untaken) (append_known new (untaken ++ text)) text
appends_kept_then None new untaken text kept = tt
appends_kept_then (Some said) None untaken text kept = absurd kept
appends_kept_then (Some said) (Some now) untaken text kept = ap (λ l. l ++ (untaken ++ text)) kept ∙ sym (append_assoc said untaken text)

pub goes_read : {L : Type 0} (view : ConnectionView L) (old : Client L) (piece : List ℕ) (new : Client L) → IsRead view old piece new → view.proofs new.connection ≡ view.proofs old.connection → Goes view old [] [] new
goes_read view old piece new read proofs = record {
  asked = λ awaited awaits. ((λ more. awaited (piece ++ more)), read.took awaited awaits, asks_read (view.remaining old.connection) (view.remaining new.connection) awaited piece read.consumed);
  told = λ within. record {
    within = rw (read.taken, read.replies) within;
    told = rw (read.taken, read.replies) (appends_kept (view.contents old.connection) (view.contents new.connection) (drop old.taken old.replies.items) read.kept);
  };
  proved = adds_same (view.proofs old.connection) (view.proofs new.connection) proofs;
  wrote = wrote_none (view.contents old.connection) (view.contents new.connection) read.kept;
}

-- A step of a proof was made, and its text was appended.
pub goes_offered : {L : Type 0} (view : ConnectionView L) (old : Client L) (step : ProofStep) (text : List ℕ) (new : Client L) → IsProofStep view old.connection step new.connection →
    new.reader ≡ old.reader → new.taken ≡ old.taken → new.replies.items ≡ old.replies.items ++ text → GoesProving view old [] text (step ∷ []) new
goes_offered view old step text new made reader taken replies = record {
  asked = λ awaited awaits. (awaited, rw reader awaits, asks_kept (view.remaining old.connection) (view.remaining new.connection) awaited made.remaining);
  told = λ within. record {
    within = rw (taken, replies, length-append old.replies.items text) (omega arith);
    told =
        rw (taken, replies, drop-append-le old.taken old.replies.items text within)
        (appends_kept_then (view.contents old.connection) (view.contents new.connection) (drop old.taken old.replies.items) text made.contents);
  };
  proved = made.proofs;
  wrote = wrote_none (view.contents old.connection) (view.contents new.connection) made.contents;
}

-- ## The next request is returned

goes_asked : {L : Type 0} (view : ConnectionView L) (old : Client L) (asks : List Ask) (new : Client L) → Asks view old asks new → new.connection ≡ old.connection → new.taken ≡ old.taken → new.replies.items ≡ old.replies.items →
    Goes view old asks [] new
goes_asked view old asks new asked connection taken replies = record {
  asked = asked;
  told = λ within. record {
    within = rw (taken, replies) within;
    told = rw (connection, taken, replies) (appends_kept (view.contents old.connection) (view.contents old.connection) (drop old.taken old.replies.items) (keeps_same (view.contents old.connection)));
  };
  proved = adds_same (view.proofs old.connection) (view.proofs new.connection) (ap view.proofs connection);
  wrote = wrote_same (view.contents old.connection) (view.contents new.connection) (ap view.contents connection);
}

pub gives_next : {L : Type 0} (view : ConnectionView L) (old : Client L) (next : Next) (new : Client L) → ((asks : List ℕ → List Ask) → Awaits old.reader asks → Gives asks next new.reader) →
    new.connection ≡ old.connection → new.taken ≡ old.taken → new.replies.items ≡ old.replies.items → GivesNext view old next new
gives_next view old (nexts.Asked ask) new gives connection taken replies =
    goes_asked view old (ask ∷ []) new
    (λ awaited awaits. let g = gives awaited awaits in (g.0, g.2, rw connection (asks_one (view.remaining old.connection) awaited g.0 ask g.1)))
    connection taken replies
gives_next view old nexts.Again new gives connection taken replies =
    goes_asked view old [] new (λ awaited awaits. (awaited, gives awaited awaits, rw connection (asks_none (view.remaining old.connection) awaited))) connection taken replies
gives_next view old nexts.Text new gives connection taken replies =
    goes_asked view old [] new (λ awaited awaits. (awaited, gives awaited awaits, rw connection (asks_none (view.remaining old.connection) awaited))) connection taken replies

-- Nothing was added.
pub added_none : {L : Type 0} (a b : Client L) → b.connection ≡ a.connection → b.reader ≡ a.reader → b.taken ≡ a.taken → b.replies.items ≡ a.replies.items → IsAdded a [] b
added_none a b connection reader taken replies = record { connection = connection; reader = reader; taken = taken; replies = replies ∙ sym (append-nil a.replies.items) }

-- A text was added that is equal to this one.
pub added_as : {L T E : Type 0} (r : Result T E) (a : Client L) (given text : List ℕ) (b : Client L) → given ≡ text → OnOk r (IsAdded a given b) → OnOk r (IsAdded a text b)
added_as r a given text b same added = subst (λ (l : List ℕ). OnOk r (IsAdded a l b)) same added

pub goes_none : {L : Type 0} (view : ConnectionView L) (c : Client L) → Goes view c [] [] c
goes_none view c = goes_added view c [] c (added_none c c refl refl refl refl)

-- ## Actions

module _ {D : Type 0} where
  actions_then : (v : Setting D) (s : RunState D) (w : ClientStatus) (xs : List (Action D)) (m : RunState D) (w1 : ClientStatus) (ys : List (Action D)) (t : RunState D) (w2 : ClientStatus) →
      AreActions v s w xs m w1 → AreActions v m w1 ys t w2 → AreActions v s w (xs ++ ys) t w2
  actions_then v s w [] m w1 ys t w2 one two = subst (λ x. AreActions v x w ys t w2) one.0 (subst (λ x. AreActions v m x ys t w2) one.1 two)
  actions_then v s w (x ∷ xs) m w1 ys t w2 one two = (one.0, actions_then v (after_action s x) (status_after w x) xs m w1 ys t w2 one.1 two)

  pub asks_in-append : (xs ys : List (Action D)) → asks_in (xs ++ ys) ≡ asks_in xs ++ asks_in ys
  asks_in-append [] ys = refl
  asks_in-append (x ∷ xs) ys = ap (λ l. asks_by x ++ l) (asks_in-append xs ys) ∙ sym (append_assoc (asks_by x) (asks_in xs) (asks_in ys))

  pub texts_in-append : (xs ys : List (Action D)) → texts_in (xs ++ ys) ≡ texts_in xs ++ texts_in ys
  texts_in-append [] ys = refl
  texts_in-append (x ∷ xs) ys = ap (λ l. text_by x ++ l) (texts_in-append xs ys) ∙ sym (append_assoc (text_by x) (texts_in xs) (texts_in ys))

  pub proofs_in-append : (xs ys : List (Action D)) → proofs_in (xs ++ ys) ≡ proofs_in xs ++ proofs_in ys
  proofs_in-append [] ys = refl
  proofs_in-append (x ∷ xs) ys = ap (λ l. proofs_by x ++ l) (proofs_in-append xs ys) ∙ sym (append_assoc (proofs_by x) (proofs_in xs) (proofs_in ys))

  given_in-append : (xs ys : List (Action D)) → given_in (xs ++ ys) ≡ given_in xs ++ given_in ys
  given_in-append [] ys = refl
  given_in-append (x ∷ xs) ys = ap (λ l. given_by x ++ l) (given_in-append xs ys) ∙ sym (append_assoc (given_by x) (given_in xs) (given_in ys))

  -- An action that answers a request writes nothing.
  asked_writes_none : (x : Action D) (ask : Ask) → asks_by x ≡ ask ∷ [] → given_by x ≡ []
  asked_writes_none (delivers bytes) ask asked = absurd (cc)
  asked_writes_none x ask asked = refl

  standing-append : (c : ClientStanding) (xs ys : List (Action D)) → standing_after_all c (xs ++ ys) ≡ standing_after_all (standing_after_all c xs) ys
  standing-append c [] ys = refl
  standing-append c (x ∷ xs) ys = standing-append (standing_after c x) xs ys

  -- The rights of a client change by its actions alone.
  standing_of_actions : (v : Setting D) (s : RunState D) (w : ClientStatus) (xs : List (Action D)) (s1 : RunState D) (w1 : ClientStatus) → AreActions v s w xs s1 w1 →
      w1.standing ≡ standing_after_all w.standing xs
  standing_of_actions v s w [] s1 w1 are = ap (λ (x : ClientStatus). x.standing) are.1
  standing_of_actions v s w (x ∷ xs) s1 w1 are = standing_of_actions v (after_action s x) (status_after w x) xs s1 w1 are.1

abbrev status : ClientStanding → Option ℕ → ClientStatus
status standing waits = record { standing = standing; waits = waits }

same_status : (a b : ClientStanding) (x y : Option ℕ) → a ≡ b → x ≡ y → status a x ≡ status b y
same_status a b x y standing waits = ap (λ s. status s x) standing ∙ ap (λ w. status b w) waits

-- ## A request was answered

module _ {D L : Type 0} (device : DiskView D) (view : ConnectionView L) where
  -- The engine answered a command, and the client noted its answer.
  pub answered_by_turn : (e e1 : Engine D) (c c1 c2 : Client L) (command : Command) (t : CommandStep D) (answer : Answer) → e1.mime ≡ e.mime → e1.place ≡ e.place → is_round command ≡ false →
      is_allowed c.standing e.run_state.spool.state (asking.Command command) ≡ true →
      TakesStagingStep (setting device e.mime e.place) e.run_state command t e1.run_state → answer_text e1.run_state.spool.state answer ≡ t.text →
      IsAdded c (shown_answer c.standing e1.run_state.spool.state answer) c1 → status_of c1 ≡ status_of c → c.waits ≡ None →
      c2.standing ≡ with_answer c1.standing answer → c2 ≡ record c1 { standing = c2.standing } → IsAnswered device view e c (asking.Command command) e1 c2
  answered_by_turn e e1 c c1 c2 command t answer mime place other role served same added kept none noted rest = record {
    mime = mime;
    place = place;
    action = answers t answer (shown_answer c.standing e1.run_state.spool.state answer);
    asked = ap (λ x. asking.Command x ∷ []) served.command;
    is = record {
      is = record {
        command = ap is_round served.command ∙ other;
        turn = served.legal;
        same = ap (λ (s : RunState D). answer_text s.spool.state answer) served.next ∙ same;
        told = ap (λ (s : RunState D). shown_answer c.standing s.spool.state answer) (sym served.next);
      };
      role = ap (λ x. is_allowed c.standing e.run_state.spool.state (asking.Command x)) served.command ∙ role;
      timely = none;
    };
    next = served.next;
    status = same_status (with_answer c.standing answer) c2.standing c.waits c2.waits
        (sym (noted ∙ ap (λ (s : ClientStatus). with_answer s.standing answer) kept))
        (sym (ap (λ (x : Client L). x.waits) rest ∙ ap (λ (s : ClientStatus). s.waits) kept));
    told = goes_added view c (shown_answer c.standing e1.run_state.spool.state answer) c2 (record {
      connection = ap (λ (x : Client L). x.connection) rest ∙ added.connection;
      reader = ap (λ (x : Client L). x.reader) rest ∙ added.reader;
      taken = ap (λ (x : Client L). x.taken) rest ∙ added.taken;
      replies = ap (λ (x : Client L). x.replies.items) rest ∙ added.replies;
    });
  }

  -- A round was answered by a tick.
  pub answered_by_tick : (e e1 : Engine D) (c c1 : Client L) (command : Command) (counts : Result Round RoundFault) (text : List ℕ) (t : Ticked D) →
      t.next ≡ e1.run_state → t.result ≡ counts → e1.mime ≡ e.mime → e1.place ≡ e.place → is_round command ≡ true →
      is_allowed c.standing e.run_state.spool.state (asking.Command command) ≡ true →
      IsStagingTick (setting device e.mime e.place) e.run_state t → text ≡ round_line counts → IsAdded c text c1 → c.waits ≡ None → status_of c1 ≡ status_of c → IsAnswered device view e c (asking.Command command) e1 c1
  answered_by_tick e e1 c c1 command counts text t next result mime place round role ticked told added none kept = record {
    mime = mime;
    place = place;
    action = ticks command t text;
    asked = refl;
    is = record { is = record { round = round; tick = ticked; told = told ∙ sym (ap round_line result) }; role = role; timely = none };
    next = next;
    status = sym kept;
    told = goes_added view c text c1 added;
  }

  -- A word of the service was answered.
  pub answered_by_word : (e : Engine D) (c c1 : Client L) (word : OwnWord) (text : List ℕ) → is_allowed c.standing e.run_state.spool.state (asking.Own word) ≡ true →
      IsSaid c.standing e.run_state.spool.state word text → IsAdded c text c1 →
      c.waits ≡ None → status_after {D = D} (status_of c) (says word text) ≡ status_of c1 → IsAnswered device view e c (asking.Own word) e c1
  answered_by_word e c c1 word text role said added none kept = record {
    mime = refl;
    place = refl;
    action = says word text;
    asked = refl;
    is = record { is = said; role = role; timely = none };
    next = refl;
    status = kept;
    told = goes_added view c text c1 added;
  }

  -- A word of the service was answered by a command of the engine.
  pub answered_by_applied : (e e1 : Engine D) (c c1 : Client L) (word : OwnWord) (command : Command) (t : CommandStep D) (answer : Answer) (text : List ℕ) → e1.mime ≡ e.mime → e1.place ≡ e.place →
      is_allowed c.standing e.run_state.spool.state (asking.Own word) ≡ true → IsMeant (setting device e.mime e.place) e.run_state.spool.state word command →
      TakesStagingStep (setting device e.mime e.place) e.run_state command t e1.run_state → answer_text e1.run_state.spool.state answer ≡ t.text →
      text ≡ applied_text (setting device e.mime e.place) e.run_state.spool.state e1.run_state.spool.state word answer →
      IsAdded c text c1 → status_of c1 ≡ status_of c → c.waits ≡ None → IsAnswered device view e c (asking.Own word) e1 c1
  answered_by_applied e e1 c c1 word command t answer text mime place role meant served same told added kept none = record {
    mime = mime;
    place = place;
    action = applies word t text;
    asked = refl;
    is = record {
      is = record {
        meant = subst (λ (x : Command). IsMeant (setting device e.mime e.place) e.run_state.spool.state word x) (sym served.command) meant;
        turn = served.legal;
        answer = answer;
        same = ap (λ (s : RunState D). answer_text s.spool.state answer) served.next ∙ same;
        told = told ∙ ap (λ (s : RunState D). applied_text (setting device e.mime e.place) e.run_state.spool.state s.spool.state word answer) (sym served.next);
      };
      role = role;
      timely = none;
    };
    next = served.next;
    status = sym kept;
    told = goes_added view c text c1 added;
  }

  -- A folder was named by which the client may prove who it is.
  pub answered_by_offer : (e : Engine D) (c c1 : Client L) (path : Option (List ℕ)) → is_allowed c.standing e.run_state.spool.state (asking.Own words.Challenge) ≡ true →
      GoesProving view c [] (offer_text path) (named path ∷ []) c1 → c.waits ≡ None → status_of c1 ≡ status_of c → IsAnswered device view e c (asking.Own words.Challenge) e c1
  answered_by_offer e c c1 path role told none kept = record {
    mime = refl;
    place = refl;
    action = offers path;
    asked = refl;
    is = record { is = tt; role = role; timely = none };
    next = refl;
    status = sym kept;
    told = told;
  }

  -- The folder was examined.
  pub answered_by_proof : (e : Engine D) (c c1 : Client L) (who : Option Proved) → is_allowed c.standing e.run_state.spool.state (asking.Own words.Prove) ≡ true →
      GoesProving view c [] (proof_text who) (examined who ∷ []) c1 → c.waits ≡ None → c1.standing ≡ with_proof c.standing who → c1.waits ≡ c.waits → IsAnswered device view e c (asking.Own words.Prove) e c1
  answered_by_proof e c c1 who role told none standing waits = record {
    mime = refl;
    place = refl;
    action = proves who;
    asked = refl;
    is = record { is = tt; role = role; timely = none };
    next = refl;
    status = same_status (with_proof c.standing who) c1.standing c.waits c1.waits (sym standing) (sym waits);
    told = told;
  }

  -- A request was denied.
  pub answered_by_denial : (e : Engine D) (c c1 : Client L) (ask : Ask) → is_allowed c.standing e.run_state.spool.state ask ≡ false → IsAdded c denied_text c1 →
      c.waits ≡ None → status_of c1 ≡ status_of c → IsAnswered device view e c ask e c1
  answered_by_denial e c c1 ask role added none kept = record {
    mime = refl;
    place = refl;
    action = denies ask;
    asked = refl;
    is = record { is = tt; role = role; timely = none };
    next = refl;
    status = sym kept;
    told = goes_added view c denied_text c1 added;
  }

  -- A request was refused for the reserve.
  pub answered_by_reserve : (e : Engine D) (c c1 : Client L) (ask : Ask) (area : ℕ) → is_allowed c.standing e.run_state.spool.state ask ≡ true → is_reserved area e.run_state ask ≡ true →
      IsAdded c full_text c1 → c.waits ≡ None → status_of c1 ≡ status_of c → IsAnswered device view e c ask e c1
  answered_by_reserve e c c1 ask area role reserved added none kept = record {
    mime = refl;
    place = refl;
    action = reserves ask;
    asked = refl;
    is = record { is = (area, reserved); role = role; timely = none };
    next = refl;
    status = sym kept;
    told = goes_added view c full_text c1 added;
  }

  -- No more clients may listen.
  pub answered_by_busy : (e : Engine D) (c c1 : Client L) (word : OwnWord) (l : Listening) → is_allowed c.standing e.run_state.spool.state (asking.Own word) ≡ true →
      begins_to_listen word ≡ true → may_listen l ≡ false → IsAdded c busy_text c1 → c.waits ≡ None → status_of c1 ≡ status_of c → IsAnswered device view e c (asking.Own word) e c1
  answered_by_busy e c c1 word l role begins busy added none kept = record {
    mime = refl;
    place = refl;
    action = turns_away l word;
    asked = refl;
    is = record { is = (begins, busy); role = role; timely = none };
    next = refl;
    status = sym kept;
    told = goes_added view c busy_text c1 added;
  }

-- ## Client steps

module _ {D L : Type 0} (device : DiskView D) (view : ConnectionView L) where
  -- Some actions were done.
  abbrev pub Stepped : Engine D → Client L → Engine D → Client L → Type 0
  Stepped old c new c' = (actions : List (Action D)) × IsClientStep device view old c actions new c'

  pub client_step_then : (e : Engine D) (c : Client L) (xs : List (Action D)) (e1 : Engine D) (c1 : Client L) (ys : List (Action D)) (e2 : Engine D) (c2 : Client L) →
      IsClientStep device view e c xs e1 c1 → IsClientStep device view e1 c1 ys e2 c2 → IsClientStep device view e c (xs ++ ys) e2 c2
  client_step_then e c xs e1 c1 ys e2 c2 one two = record {
    mime = two.mime ∙ one.mime;
    place = two.place ∙ one.place;
    actions =
        actions_then (setting device e.mime e.place) e.run_state (status_of c) xs e1.run_state (status_of c1) ys e2.run_state (status_of c2) one.actions
        (subst (λ m. AreActions (setting device m e.place) e1.run_state (status_of c1) ys e2.run_state (status_of c2)) one.mime
        (subst (λ p. AreActions (setting device e1.mime p) e1.run_state (status_of c1) ys e2.run_state (status_of c2)) one.place two.actions));
    client =
        rw (asks_in-append xs ys, texts_in-append xs ys, proofs_in-append xs ys, given_in-append xs ys)
        (goes_on view c c1 c2 (asks_in xs) (asks_in ys) (texts_in xs) (texts_in ys) (proofs_in xs) (proofs_in ys) (given_in xs) (given_in ys) one.client two.client);
  }

  -- A client that requested nothing and was sent nothing, with an unchanged engine.
  pub step_none : (e : Engine D) (c c1 : Client L) → Goes view c [] [] c1 → status_of c1 ≡ status_of c → Stepped e c e c1
  step_none e c c1 goes kept = ([], record { mime = refl; place = refl; actions = (refl, kept); client = goes })

  pub stepped_then : (e : Engine D) (c : Client L) (e1 : Engine D) (c1 : Client L) (e2 : Engine D) (c2 : Client L) →
      Stepped e c e1 c1 → Stepped e1 c1 e2 c2 → Stepped e c e2 c2
  stepped_then e c e1 c1 e2 c2 one two = (one.0 ++ two.0, client_step_then e c one.0 e1 c1 two.0 e2 c2 one.1 two.1)

  -- The staged events were settled, and the client did not change.
  pub step_settled : (e : Engine D) (c : Client L) (e1 : Engine D) → e1.mime ≡ e.mime → e1.place ≡ e.place → SettlesTo device e.run_state e1.run_state → Stepped e c e1 c
  step_settled e c e1 mime place is = (
    settles e1.run_state ∷ [],
    record { mime = mime; place = place; actions = (record { is = is; role = tt; timely = tt }, (refl, refl)); client = goes_none view c },
  )

  -- Some bytes were written to its connection, with an unchanged engine whose events were all durable.
  pub step_given : (e : Engine D) (c c1 : Client L) → IsDurable e.run_state.spool → Delivers view c c1 → status_of c1 ≡ status_of c → Stepped e c e c1
  step_given e c c1 durable (bytes, goes) kept = (
    delivers bytes ∷ [],
    record { mime = refl; place = refl; actions = (record { is = durable; role = tt; timely = tt }, (refl, kept)); client = rw (append-nil bytes) goes },
  )

  -- A request was answered.
  pub step_answered : (e : Engine D) (c c1 : Client L) (ask : Ask) (e1 : Engine D) (c2 : Client L) → Goes view c (ask ∷ []) [] c1 → status_of c1 ≡ status_of c →
      IsAnswered device view e c1 ask e1 c2 → Stepped e c e1 c2
  step_answered e c c1 ask e1 c2 asked kept done = (
    done.action ∷ [],
    record {
      mime = done.mime;
      place = done.place;
      actions = (
        subst (λ (w : ClientStatus). IsDone (setting device e.mime e.place) e.run_state w done.action) kept done.is,
        (sym done.next, sym done.status ∙ ap (λ w. status_after w done.action) kept),
      );
      client =
          rw (done.asked, append-nil (text_by done.action), append-nil (proofs_by done.action), asked_writes_none done.action ask done.asked)
          (goes_on view c c1 c2 (ask ∷ []) [] [] (text_by done.action) [] (proofs_by done.action) [] [] asked done.told);
    },
  )

  -- The end of a job was reported.
  pub step_ended : (e : Engine D) (c c1 : Client L) (job : ℕ) (text : List ℕ) → IsEndReported c.standing e.run_state.spool.state job text → IsAdded c text c1 → c.waits ≡ Some job → c1.waits ≡ None →
      c1.standing ≡ c.standing → Stepped e c e c1
  step_ended e c c1 job text told added waits over standing = (
    ends job text ∷ [],
    record {
      mime = refl;
      place = refl;
      actions = (record { is = told; role = tt; timely = waits }, (refl, same_status c1.standing c.standing c1.waits None standing over));
      client = rw (append-nil text) (goes_added view c text c1 added);
    },
  )

pub is_round_one : (command : Command) → (command ≡ commands.Round) ⊎ ((n : ℕ) × (command ≡ commands.Drain n)) → is_round command ≡ true
is_round_one command (inl e) = ap is_round e
is_round_one command (inr e) = ap is_round e.1

pub is_no_round : (command : Command) → (command ≡ commands.Round → ⊥) → ((n : ℕ) → command ≡ commands.Drain n → ⊥) → is_round command ≡ false
is_no_round commands.Round not_round not_drain = absurd (not_round refl)
is_no_round (commands.Drain n) not_round not_drain = absurd (not_drain n refl)
is_no_round command not_round not_drain = refl

-- ## All steps of a client

first_of : (known left : Option (List ℕ)) (text : List ℕ) (f g : List ℕ → List Ask) (asks : List Ask) → known ≡ Some text → AsksFirst known f asks left g → (more : List ℕ) → AreFirstOf asks (f (text ++ more))
first_of None left text f g asks e first more = absurd (cc)
first_of (Some rest) None text f g asks e first more = absurd first
first_of (Some rest) (Some still) text f g asks e first more = (g (still ++ more), ap (λ l. f (l ++ more)) (let same : text ≡ rest = cc in same) ∙ first more)

module _ {D L : Type 0} (device : DiskView D) (view : ConnectionView L) where
  goes_by : (c : Client L) (x : ClientStep D L) → IsClientStepBy device view c x →
      GoesGiving view c (asks_in (actions_by x)) (texts_in (actions_by x)) (proofs_in (actions_by x)) (given_in (actions_by x)) (client_after x)
  goes_by c (turns old done new c1) is = is.client
  goes_by c (changes text told c1) is = rw (append-nil told) (goes_added view c told c1 is.1)
  goes_by c (signs c1) is = is.0

  goes_all : (c : Client L) (xs : List (ClientStep D L)) (c1 : Client L) → AreClientSteps device view c xs c1 →
      GoesGiving view c (asks_in (actions_of xs)) (texts_in (actions_of xs)) (proofs_in (actions_of xs)) (given_in (actions_of xs)) c1
  goes_all c [] c1 same = rw same (goes_none view c)
  goes_all c (x ∷ xs) c1 are =
      rw (asks_in-append (actions_by x) (actions_of xs), texts_in-append (actions_by x) (actions_of xs), proofs_in-append (actions_by x) (actions_of xs), given_in-append (actions_by x) (actions_of xs))
      (goes_on view c (client_after x) c1 (asks_in (actions_by x)) (asks_in (actions_of xs)) (texts_in (actions_by x)) (texts_in (actions_of xs)) (proofs_in (actions_by x)) (proofs_in (actions_of xs))
      (given_in (actions_by x)) (given_in (actions_of xs)) (goes_by c x are.0) (goes_all (client_after x) xs c1 are.1))

  standing_by : (c : Client L) (x : ClientStep D L) → IsClientStepBy device view c x → (client_after x).standing ≡ standing_after_all c.standing (actions_by x)
  standing_by c (turns old done new c1) is = standing_of_actions (setting device old.mime old.place) old.run_state (status_of c) done new.run_state (status_of c1) is.actions
  standing_by c (changes text told c1) is = ap (λ (s : ClientStatus). s.standing) is.2
  standing_by c (signs c1) is = ap (λ (s : ClientStatus). s.standing) is.1

  standing_all : (c : Client L) (xs : List (ClientStep D L)) (c1 : Client L) → AreClientSteps device view c xs c1 → c1.standing ≡ standing_after_all c.standing (actions_of xs)
  standing_all c [] c1 same = ap (λ (x : Client L). x.standing) same
  standing_all c (x ∷ xs) c1 are =
      standing_all (client_after x) xs c1 are.1
      ∙ ap (λ (s : ClientStanding). standing_after_all s (actions_of xs)) (standing_by c x are.0)
      ∙ sym (standing-append c.standing (actions_by x) (actions_of xs))

  pub standing_by_steps : (own : L) (c : Client L) (xs : List (ClientStep D L)) (c1 : Client L) → IsEntry view own c → AreClientSteps device view c xs c1 →
      c1.standing ≡ standing_after_all (first_standing (view.rules own) (view.is_operators own)) (actions_of xs)
  standing_by_steps own c xs c1 entry are = standing_all c xs c1 are ∙ ap (λ (s : ClientStanding). standing_after_all s (actions_of xs)) entry.standing

  adds_known : (known now : Option (List ProofStep)) (before steps : List ProofStep) → known ≡ Some before → AddsProofs known now steps → now ≡ Some (before ++ steps)
  adds_known None now before steps e adds = absurd (cc)
  adds_known (Some first) now before steps e adds = adds ∙ ap (λ l. Some (l ++ steps)) (let same : first ≡ before = cc in same)

  pub proofs_by_steps : (own : L) (c : Client L) (xs : List (ClientStep D L)) (c1 : Client L) → IsEntry view own c → AreClientSteps device view c xs c1 →
      (before : List ProofStep) → view.proofs own ≡ Some before → view.proofs c1.connection ≡ Some (before ++ proofs_in (actions_of xs))
  proofs_by_steps own c xs c1 entry are before known =
      adds_known (view.proofs c.connection) (view.proofs c1.connection) before (proofs_in (actions_of xs)) (ap view.proofs entry.connection ∙ known) (goes_all c xs c1 are).proved

  pub answers_come_in_order : (own : L) (c : Client L) (xs : List (ClientStep D L)) (c1 : Client L) → IsEntry view own c → AreClientSteps device view c xs c1 →
      (text : List ℕ) → view.remaining own ≡ Some text → (more : List ℕ) → AreFirstOf (asks_in (actions_of xs)) (asks_of (text ++ more))
  answers_come_in_order own c xs c1 entry are text brings =
      let asked = (goes_all c xs c1 are).asked asks_of entry.reader in
      first_of (view.remaining c.connection) (view.remaining c1.connection) text asks_of asked.0 (asks_in (actions_of xs)) (ap view.remaining entry.connection ∙ brings) asked.2

  has_all : (known now : Option (List ℕ)) (said text untaken : List ℕ) → known ≡ Some said → Appends (append_known known []) (append_known now untaken) text →
      (written : List ℕ) × (now ≡ Some written) × (written ++ untaken ≡ said ++ text)
  has_all None now said text untaken e appends = absurd (cc)
  has_all (Some before) None said text untaken e appends = absurd appends
  has_all (Some before) (Some written) said text untaken e appends =
      (written, refl, appends ∙ ap (λ l. l ++ text) (append-nil before ∙ (let same : before ≡ said = cc in same)))

  pub told_once : (own : L) (c : Client L) (xs : List (ClientStep D L)) (c1 : Client L) → IsEntry view own c → AreClientSteps device view c xs c1 →
      (said : List ℕ) → view.contents own ≡ Some said → HasAll view said (texts_in (actions_of xs)) c1
  told_once own c xs c1 entry are said holds =
      let told = (goes_all c xs c1 are).told (rw entry.taken (omega arith)) in
      let none : drop c.taken c.replies.items ≡ [] = (rw (entry.taken, entry.replies) refl) in
      let appends = subst (λ (l : List ℕ). Appends (append_known (view.contents c.connection) l) (told_to view c1) (texts_in (actions_of xs))) none told.told in
      let all = has_all (view.contents c.connection) (view.contents c1.connection) said (texts_in (actions_of xs)) (drop c1.taken c1.replies.items) (ap view.contents entry.connection ∙ holds) appends in
      record { written = all.0; contents = all.1; all = all.2 }
