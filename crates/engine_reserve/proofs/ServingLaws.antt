-- A run so far, and its end.
use Rattle.std.proofs.Common.{◌≡◌, ℕ, List, [], ◌∷◌, ◌++◌, refl, ap, sym, ◌∙◌, subst, append_assoc, Option, None, Some, Result, Ok, Err}
use Rattle.std.proofs.lemmas.List.{append-nil, map-append}
use Rattle.std.specs.Prelude.{OnOk}
use Rattle.std.specs.Io.KnownBytes.{Appends, Keeps, Consumes, IsAtEnd}
use Rattle.std.proofs.KnownBytes.{Appends-nil, Consumes-nil, Consumes-trans, Consumes-kept}
use Rattle.command_lines.specs.PendingCommands.{Pending, Leads, to_come, commands_from}
use Rattle.command_lines.specs.Steps.{GivesOne, EndsWith}
use Rattle.command_lines.specs.Text.{commands_of}
use Rattle.command_lines.specs.declared.command.Command.{Command}
use Rattle.command_lines.specs.declared.command.Mode.TheVariants.{Line}
use Rattle.print_rounds.specs.RunStates.{RunState}
use Rattle.spool_disk.specs.Disk.{DiskView}
use Rattle.filter_args.specs.declared.place.Place.{Place}
use Rattle.spool_engine.specs.Mime.{Mime}
use Rattle.spool_engine.specs.EventSteps.{Setting, setting, IsKept}
use Rattle.spool_engine.specs.EngineRuns.{CommandStep, Tells, commands_in, texts_of}
use Rattle.spool_engine.specs.declared.fault.RunFault.{RunFault}
use Rattle.spool_engine.specs.declared.fault.RunFault.TheVariants.{Read, Memory}
use Rattle.spool_engine.proofs.TurnLaws.{wrote_more, wrote_all}
use Rattle.engine_reserve.specs.ReservedRuns.{IsReservedRun, LeadReserved, ServesEnd, ServesOne, ServesPiece, ServesWhole}
use Rattle.engine_reserve.proofs.StepLaws.{at_setting, lead_both, lead_none, lead_one}

commands_both : {D : Type 0} (ts us : List (CommandStep D)) → commands_in (ts ++ us) ≡ commands_in ts ++ commands_in us
commands_both {D} ts us = map-append (λ (t : CommandStep D). t.command) ts us

joined : (xs ys zs us vs : List Command) → us ≡ xs ++ vs → vs ≡ ys ++ zs → us ≡ (xs ++ ys) ++ zs
joined xs ys zs us vs e f = e ∙ ap (λ l. xs ++ l) f ∙ sym (append_assoc xs ys zs)

-- Commands, and then one.
one_more : {D : Type 0} (ts : List (CommandStep D)) (t : CommandStep D) (c : Command) (all rest later : List Command) → all ≡ commands_in ts ++ rest → rest ≡ c ∷ [] ++ later → t.command ≡ c
    → all ≡ commands_in (ts ++ t ∷ []) ++ later
one_more ts t c all rest later e f same =
    joined (commands_in ts) (c ∷ []) later all rest e f
    ∙ ap (λ l. l ++ later) (ap (λ x. commands_in ts ++ x ∷ []) (sym same) ∙ sym (commands_both ts (t ∷ [])))

-- ## The same steps for equal rules and an equal place

module _ {D : Type 0} (device : DiskView D) (m m' : Mime) (p p' : Place) (area : ℕ) where
  pub one_at : (s : RunState D) (c : Command) (t : CommandStep D) (s' : RunState D) (r : Result (Unit {0}) RunFault) (a b : Option (List ℕ)) → m' ≡ m → p' ≡ p
      → ServesOne (setting device m' p') area s c t s' r a b → ServesOne (setting device m p) area s c t s' r a b
  one_at s c t s' r a b e f h = at_setting device (λ v. ServesOne v area s c t s' r a b) m m' p p' e f h

  pub piece_at : (piece : List ℕ) (s : RunState D) (q : Pending) (ts : List (CommandStep D)) (s' : RunState D) (q' : Pending) (r : Result (Unit {0}) RunFault) (a b : Option (List ℕ)) → m' ≡ m → p' ≡ p
      → ServesPiece (setting device m' p') area piece s q ts s' q' r a b → ServesPiece (setting device m p) area piece s q ts s' q' r a b
  piece_at piece s q ts s' q' r a b e f h = at_setting device (λ v. ServesPiece v area piece s q ts s' q' r a b) m m' p p' e f h

  pub end_at : (s : RunState D) (q : Pending) (ts : List (CommandStep D)) (s' : RunState D) (rest : List Command) (r : Result (Unit {0}) RunFault) (a b : Option (List ℕ)) → m' ≡ m → p' ≡ p
      → ServesEnd (setting device m' p') area s q ts s' rest r a b → ServesEnd (setting device m p) area s q ts s' rest r a b
  end_at s q ts s' rest r a b e f h = at_setting device (λ v. ServesEnd v area s q ts s' rest r a b) m m' p p' e f h

-- ## The commands that are whole

module _ {D : Type 0} (v : Setting D) (area : ℕ) (r : Result (Unit {0}) RunFault) where
  pub whole_more : (s m s' : RunState D) (p q q' : Pending) (ts : List (CommandStep D)) (t : CommandStep D) (c : Command) (a b d : Option (List ℕ))
      → ServesWhole v area s p ts m q (Ok tt) a b → GivesOne q c q' → ServesOne v area m c t s' r b d → ServesWhole v area s p (ts ++ t ∷ []) s' q' r a d
  whole_more s m s' p q q' ts t c a b d h gives one = record {
    lead = lead_both v area s m s' ts (t ∷ []) h.lead (lead_one v area m s' t one.takes.legal one.takes.next);
    commands = λ more. one_more ts t c _ _ (to_come q' more) (h.commands more) (gives.leads more) one.takes.command;
    wrote = wrote_more r a b d ts (t ∷ []) h.wrote one.wrote;
  }

  pub end_more : (s m s' : RunState D) (p q q' : Pending) (ts : List (CommandStep D)) (t : CommandStep D) (c : Command) (a b d : Option (List ℕ))
      → ServesEnd v area s p ts m (to_come q []) (Ok tt) a b → EndsWith q c q' → ServesOne v area m c t s' r b d → ServesEnd v area s p (ts ++ t ∷ []) s' (to_come q' []) r a d
  end_more s m s' p q q' ts t c a b d h gives one = record {
    lead = lead_both v area s m s' ts (t ∷ []) h.lead (lead_one v area m s' t one.takes.legal one.takes.next);
    commands = one_more ts t c _ _ (to_come q' []) h.commands gives.leads one.takes.command;
    wrote = wrote_more r a b d ts (t ∷ []) h.wrote one.wrote;
  }

-- No command was returned, and memory ran out in the reader of commands.
pub whole_stop : {D : Type 0} (v : Setting D) (area : ℕ) (s m : RunState D) (p q q' : Pending) (ts : List (CommandStep D)) (a b : Option (List ℕ)) → ServesWhole v area s p ts m q (Ok tt) a b → Leads q [] q'
    → ServesWhole v area s p ts m q' (Err Memory) a b
whole_stop v area s m p q q' ts a b h leads = record {
  lead = h.lead;
  commands = λ more. h.commands more ∙ ap (λ l. commands_in ts ++ l) (leads more);
  wrote = wrote_all a b ts h.wrote;
}

pub whole_none : {D : Type 0} (v : Setting D) (area : ℕ) (s : RunState D) (p : Pending) (a : Option (List ℕ)) → ServesWhole v area s p [] s p (Ok tt) a a
whole_none v area s p a = record { lead = lead_none v area s; commands = λ more. refl; wrote = Appends-nil a }

pub end_stop : {D : Type 0} (v : Setting D) (area : ℕ) (s m : RunState D) (p : Pending) (ts : List (CommandStep D)) (rest rest' : List Command) (a b : Option (List ℕ)) → ServesEnd v area s p ts m rest (Ok tt) a b → rest' ≡ rest
    → ServesEnd v area s p ts m rest' (Err Memory) a b
end_stop v area s m p ts rest rest' a b h e = record {
  lead = h.lead;
  commands = h.commands ∙ ap (λ l. commands_in ts ++ l) (sym e);
  wrote = wrote_all a b ts h.wrote;
}

pub end_none : {D : Type 0} (v : Setting D) (area : ℕ) (s : RunState D) (p : Pending) (a : Option (List ℕ)) → ServesEnd v area s p [] s (to_come p []) (Ok tt) a a
end_none v area s p a = record { lead = lead_none v area s; commands = refl; wrote = Appends-nil a }

-- ## Pieces

on_ok : (r : Result (Unit {0}) RunFault) {P : Type 0} → P → OnOk r P
on_ok (Ok x) h = h
on_ok (Err e) h = tt

-- A piece that was fed, and then the commands that are whole.
pub fed : {D : Type 0} (v : Setting D) (area : ℕ) (r : Result (Unit {0}) RunFault) (s s' : RunState D) (p m p' : Pending) (piece : List ℕ) (ts : List (CommandStep D)) (a b : Option (List ℕ)) → m ≡ record p { held = p.held ++ piece }
    → ServesWhole v area s m ts s' p' r a b → ServesPiece v area piece s p ts s' p' r a b
fed v area r s s' p m p' piece ts a b e h =
    let came : (more : List ℕ) → to_come p (piece ++ more) ≡ commands_in ts ++ to_come p' more =
    λ more. ap (commands_from p.mode) (sym (append_assoc p.held piece more)) ∙ sym (ap (λ x. to_come x more) e) ∙ h.commands more in
    record {
      lead = h.lead;
      commands = λ more. (to_come p' more, came more);
      on_ok = on_ok r came;
      wrote = h.wrote;
    }

-- Memory ran out for a piece.
pub unfed : {D : Type 0} (v : Setting D) (area : ℕ) (s : RunState D) (p p' : Pending) (piece : List ℕ) (a : Option (List ℕ)) → ServesPiece v area piece s p [] s p' (Err Memory) a a
unfed v area s p p' piece a = record {
  lead = lead_none v area s;
  commands = λ more. (to_come p (piece ++ more), refl);
  on_ok = tt;
  wrote = wrote_all a a [] (Appends-nil a);
}

-- ## The run so far

-- The text that was read so far, the steps so far, and the commands to come.
pub record SoFar {D : Type 0} (v : Setting D) (area : ℕ) (known known' : Option (List ℕ)) (s s' : RunState D) (p : Pending) (seen : List ℕ) (ts : List (CommandStep D)) (old new : Option (List ℕ)) : Type 0 where
  pub read : Consumes known known' seen
  pub lead : LeadReserved v area s ts s'
  pub commands : (more : List ℕ) → commands_of (seen ++ more) ≡ commands_in ts ++ to_come p more
  pub wrote : Appends old new (texts_of ts)

pub nothing_yet : {D : Type 0} (v : Setting D) (area : ℕ) (known : Option (List ℕ)) (s : RunState D) (p : Pending) (old : Option (List ℕ)) → p ≡ record { mode = Line; held = [] } → SoFar v area known known s s p [] [] old old
nothing_yet v area known s p old e = record {
  read = Consumes-nil known;
  lead = lead_none v area s;
  commands = λ more. sym (ap (λ x. to_come x more) e);
  wrote = Appends-nil old;
}

rest_of : Option (List ℕ) → List ℕ
rest_of None = []
rest_of (Some xs) = xs

tells_rest : (a b : Option (List ℕ)) (seen : List ℕ) → Consumes a b seen → Tells a (seen ++ rest_of b)
unfolding rest_of
tells_rest None b seen h = tt
tells_rest (Some x) None seen h = absurd h
tells_rest (Some x) (Some y) seen h = h

tells_all : (a b : Option (List ℕ)) (seen : List ℕ) → Consumes a b seen → IsAtEnd b → Tells a seen
tells_all None b seen h e = tt
tells_all (Some x) None seen h e = absurd h
tells_all (Some x) (Some y) seen h e = h ∙ ap (λ l. seen ++ l) e ∙ append-nil seen

-- No more text was read.
pub still : {D : Type 0} (v : Setting D) (area : ℕ) (known k k' : Option (List ℕ)) (s s' : RunState D) (p : Pending) (seen : List ℕ) (ts : List (CommandStep D)) (a b : Option (List ℕ)) → SoFar v area known k s s' p seen ts a b → Keeps k k'
    → SoFar v area known k' s s' p seen ts a b
still v area known k k' s s' p seen ts a b far keeps = record { read = Consumes-kept known k k' seen far.read keeps; lead = far.lead; commands = far.commands; wrote = far.wrote }

-- The same for an equal run state, reader of commands and writer.
pub renamed : {D : Type 0} (v : Setting D) (area : ℕ) (known k : Option (List ℕ)) (s s' s'' : RunState D) (p p' : Pending) (seen : List ℕ) (ts : List (CommandStep D)) (a b b' : Option (List ℕ)) → s'' ≡ s' → p' ≡ p → b' ≡ b → SoFar v area known k s s' p seen ts a b
    → SoFar v area known k s s'' p' seen ts a b'
renamed v area known k s s' s'' p p' seen ts a b b' es ep eb far = record {
  read = far.read;
  lead = subst (LeadReserved v area s ts) (sym es) far.lead;
  commands = λ more. far.commands more ∙ ap (λ x. commands_in ts ++ to_come x more) (sym ep);
  wrote = subst (λ x. Appends a x (texts_of ts)) (sym eb) far.wrote;
}

-- A piece.
pub goes_on : {D : Type 0} (v : Setting D) (area : ℕ) (known k k' : Option (List ℕ)) (s m s' : RunState D) (p p' : Pending) (seen piece : List ℕ) (ts us : List (CommandStep D)) (a b d : Option (List ℕ)) → SoFar v area known k s m p seen ts a b
    → Consumes k k' piece → ServesPiece v area piece m p us s' p' (Ok tt) b d → SoFar v area known k' s s' p' (seen ++ piece) (ts ++ us) a d
goes_on v area known k k' s m s' p p' seen piece ts us a b d far takes h = record {
  read = Consumes-trans known k k' seen piece far.read takes;
  lead = lead_both v area s m s' ts us far.lead h.lead;
  commands = λ more.
      ap commands_of (append_assoc seen piece more)
      ∙ joined (commands_in ts) (commands_in us) (to_come p' more) _ _ (far.commands (piece ++ more)) (h.on_ok more)
      ∙ ap (λ l. l ++ to_come p' more) (sym (commands_both ts us));
  wrote = wrote_more (Ok tt) a b d ts us far.wrote h.wrote;
}

-- ## The end of a run

abbrev Ends : {D : Type 0} → Setting D → ℕ → Option (List ℕ) → RunState D → RunState D → Result (Unit {0}) RunFault → Option (List ℕ) → Option (List ℕ) → Type 0
Ends {D} v area known s s' r a d = (text : List ℕ) × (turns : List (CommandStep D)) × IsReservedRun v area known s text turns s' r a d

-- A fault of the reader.
pub stops : {D : Type 0} (v : Setting D) (area : ℕ) (known k k' : Option (List ℕ)) (s s' : RunState D) (p : Pending) (seen : List ℕ) (ts : List (CommandStep D)) (a b : Option (List ℕ)) → SoFar v area known k s s' p seen ts a b → Keeps k k'
    → IsKept v.device s.spool → Ends v area known s s' (Err Read) a b
stops v area known k k' s s' p seen ts a b far keeps kept = (
  seen ++ rest_of k',
  ts,
  record {
    tells = tells_rest known k' seen (Consumes-kept known k k' seen far.read keeps);
    begins = kept;
    legal = far.lead.legal;
    last = far.lead.last;
    first = (to_come p (rest_of k'), far.commands (rest_of k'));
    all = tt;
    wrote = far.wrote;
  },
)

-- A piece, and a fault in it.
pub stops_in : {D : Type 0} (v : Setting D) (area : ℕ) (e : RunFault) (known k k' : Option (List ℕ)) (s m s' : RunState D) (p p' : Pending) (seen piece : List ℕ) (ts us : List (CommandStep D)) (a b d : Option (List ℕ))
    → SoFar v area known k s m p seen ts a b → Consumes k k' piece → ServesPiece v area piece m p us s' p' (Err e) b d → IsKept v.device s.spool → Ends v area known s s' (Err e) a d
stops_in v area e known k k' s m s' p p' seen piece ts us a b d far takes h kept =
    let (rest, front) = h.commands (rest_of k') in
    let lead = lead_both v area s m s' ts us far.lead h.lead in (
      (seen ++ piece) ++ rest_of k',
      ts ++ us,
      record {
        tells = tells_rest known k' (seen ++ piece) (Consumes-trans known k k' seen piece far.read takes);
        begins = kept;
        legal = lead.legal;
        last = lead.last;
        first = (rest, ap commands_of (append_assoc seen piece (rest_of k')) ∙ joined (commands_in ts) (commands_in us) rest _ _ (far.commands (piece ++ rest_of k')) front ∙ ap (λ l. l ++ rest) (sym (commands_both ts us)));
        all = tt;
        wrote = wrote_more (Err e) a b d ts us far.wrote h.wrote;
      },
    )

all_given : (r : Result (Unit {0}) RunFault) (rest cs all : List Command) → all ≡ cs ++ rest → OnOk r (rest ≡ []) → OnOk r (cs ≡ all)
all_given (Ok x) rest cs all e h = sym (e ∙ ap (λ l. cs ++ l) h ∙ append-nil cs)
all_given (Err x) rest cs all e h = tt

-- The end of the text.
pub ends : {D : Type 0} (v : Setting D) (area : ℕ) (r : Result (Unit {0}) RunFault) (known k k' : Option (List ℕ)) (s m s' : RunState D) (p : Pending) (seen : List ℕ) (rest : List Command) (ts us : List (CommandStep D)) (a b d : Option (List ℕ))
    → SoFar v area known k s m p seen ts a b → Consumes k k' [] → IsAtEnd k' → ServesEnd v area m p us s' rest r b d → OnOk r (rest ≡ []) → IsKept v.device s.spool → Ends v area known s s' r a d
ends v area r known k k' s m s' p seen rest ts us a b d far takes end h none kept =
    let front : commands_of seen ≡ commands_in (ts ++ us) ++ rest =
    ap commands_of (sym (append-nil seen)) ∙ joined (commands_in ts) (commands_in us) rest _ _ (far.commands []) h.commands ∙ ap (λ l. l ++ rest) (sym (commands_both ts us)) in
    let lead : LeadReserved v area s (ts ++ us) s' = lead_both v area s m s' ts us far.lead h.lead in (
      seen,
      ts ++ us,
      record {
        tells = tells_all known k' seen (subst (Consumes known k') (append-nil seen) (Consumes-trans known k k' seen [] far.read takes)) end;
        begins = kept;
        legal = lead.legal;
        last = lead.last;
        first = (rest, front);
        all = all_given r rest (commands_in (ts ++ us)) (commands_of seen) front none;
        wrote = wrote_more r a b d ts us far.wrote h.wrote;
      },
    )
