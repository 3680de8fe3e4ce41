-- Steps in order.
use Rattle.std.proofs.Common.{◌≡◌, ℕ, suc, ◌+◌, List, [], ◌∷◌, ◌++◌, length, take, refl, ap, sym, ◌∙◌, subst, arith, append_assoc, Option, Result, Ok, Err}
use Rattle.std.proofs.lemmas.List.{append-nil, map-append}
use Rattle.std.specs.Io.KnownBytes.{Appends}
use Rattle.std.proofs.KnownBytes.{Appends-nil, Appends-trans}
use Rattle.command_lines.specs.PendingCommands.{Pending, Leads, to_come}
use Rattle.command_lines.specs.Steps.{GivesOne, EndsWith}
use Rattle.command_lines.specs.declared.command.Command.{Command}
use Rattle.print_rounds.specs.RunStates.{RunState}
use Rattle.spool_engine.specs.EventSteps.{Setting}
use Rattle.spool_engine.specs.EngineRuns.{CommandStep, IsCommandStep, AreCommandSteps, last_run_state, texts_of, commands_in, Wrote, Lead, Serves, Drains, DrainsEnd}
use Rattle.whole_writes.specs.Writes.{WroteSome}
use Rattle.spool_engine.specs.declared.fault.RunFault.{RunFault}
use Rattle.spool_engine.specs.declared.fault.RunFault.TheVariants.{Read, Write, Memory as Wanted}

-- A step is appended to steps.
are_more : {D : Type 0} (v : Setting D) (s : RunState D) (ts : List (CommandStep D)) (t : CommandStep D) → AreCommandSteps v s ts → IsCommandStep v (last_run_state s ts) t → AreCommandSteps v s (ts ++ t ∷ [])
are_more v s [] t h k = (k, tt)
are_more v s (u ∷ ts) t h k = (h.0, are_more v u.next ts t h.1 k)

last_more : {D : Type 0} (s : RunState D) (ts : List (CommandStep D)) (t : CommandStep D) → last_run_state s (ts ++ t ∷ []) ≡ t.next
last_more s [] t = refl
last_more s (u ∷ ts) t = last_more u.next ts t

pub texts_of-append : {D : Type 0} (ts us : List (CommandStep D)) → texts_of (ts ++ us) ≡ texts_of ts ++ texts_of us
texts_of-append [] us = refl
texts_of-append (t ∷ ts) us = ap (λ l. t.text ++ l) (texts_of-append ts us) ∙ sym (append_assoc t.text (texts_of ts) (texts_of us))

commands_more : {D : Type 0} (ts : List (CommandStep D)) (t : CommandStep D) → commands_in (ts ++ t ∷ []) ≡ commands_in ts ++ t.command ∷ []
commands_more {D} ts t = map-append (λ (u : CommandStep D). u.command) ts (t ∷ [])

pub lead_none : {D : Type 0} (v : Setting D) (s : RunState D) → Lead v s [] s
lead_none v s = record { legal = tt; last = refl }

lead_more : {D : Type 0} (v : Setting D) (s m s' : RunState D) (ts : List (CommandStep D)) (t : CommandStep D) → Lead v s ts m → IsCommandStep v m t → t.next ≡ s' → Lead v s (ts ++ t ∷ []) s'
lead_more v s m s' ts t l is e = record { legal = are_more v s ts t l.legal (subst (λ x. IsCommandStep v x t) (sym l.last) is); last = last_more s ts t ∙ e }

are_both : {D : Type 0} (v : Setting D) (s : RunState D) (ts us : List (CommandStep D)) → AreCommandSteps v s ts → AreCommandSteps v (last_run_state s ts) us → AreCommandSteps v s (ts ++ us)
are_both v s [] us h k = k
are_both v s (t ∷ ts) us h k = (h.0, are_both v t.next ts us h.1 k)

last_both : {D : Type 0} (s : RunState D) (ts us : List (CommandStep D)) → last_run_state s (ts ++ us) ≡ last_run_state (last_run_state s ts) us
last_both s [] us = refl
last_both s (t ∷ ts) us = last_both t.next ts us

pub lead_both : {D : Type 0} (v : Setting D) (s m s' : RunState D) (ts us : List (CommandStep D)) → Lead v s ts m → Lead v m us s' → Lead v s (ts ++ us) s'
lead_both v s m s' ts us l k = record {
  legal = are_both v s ts us l.legal (subst (λ x. AreCommandSteps v x us) (sym l.last) k.legal);
  last = last_both s ts us ∙ ap (λ x. last_run_state x us) l.last ∙ k.last;
}

take_past : (xs ys : List ℕ) (n : ℕ) → take (length xs + n) (xs ++ ys) ≡ xs ++ take n ys
take_past [] ys n = let e : 0 + n ≡ n = omega arith in ap (λ m. take m ys) e
take_past (x ∷ xs) ys n =
    let e : suc (length xs) + n ≡ suc (length xs + n) = omega arith in
    ap (λ m. take m (x ∷ (xs ++ ys))) e ∙ ap (λ l. x ∷ l) (take_past xs ys n)

-- More is written after the earlier bytes.
pub wrote_more : {D : Type 0} (r : Result (Unit {0}) RunFault) (a b d : Option (List ℕ)) (ts us : List (CommandStep D)) → Appends a b (texts_of ts) → Wrote r b d us → Wrote r a d (ts ++ us)
wrote_more (Ok x) a b d ts us h k = subst (Appends a d) (sym (texts_of-append ts us)) (Appends-trans a b d (texts_of ts) (texts_of us) h k)
wrote_more (Err Read) a b d ts us h k = subst (Appends a d) (sym (texts_of-append ts us)) (Appends-trans a b d (texts_of ts) (texts_of us) h k)
wrote_more (Err Write) a b d ts us h k = record {
  told = ts ++ k.told;
  cut = k.cut;
  split = ap (λ l. ts ++ l) k.split ∙ sym (append_assoc ts k.told (k.cut ∷ []));
  count = k.count;
  short = k.short;
  front = subst (Appends a d) (sym (ap (λ l. l ++ take k.count k.cut.text) (texts_of-append ts k.told) ∙ append_assoc (texts_of ts) (texts_of k.told) (take k.count k.cut.text))) (Appends-trans a b d (texts_of ts) (texts_of k.told ++ take k.count k.cut.text) h k.front);
}
wrote_more (Err Wanted) a b d ts us h k = record {
  told = ts ++ k.told;
  untold = k.untold;
  split = ap (λ l. ts ++ l) k.split ∙ sym (append_assoc ts k.told k.untold);
  at_most_one = k.at_most_one;
  wrote = subst (Appends a d) (sym (texts_of-append ts k.told)) (Appends-trans a b d (texts_of ts) (texts_of k.told) h k.wrote);
}

-- All replies were written before memory ran out for what follows.
pub wrote_all : {D : Type 0} (a b : Option (List ℕ)) (ts : List (CommandStep D)) → Appends a b (texts_of ts) → Wrote (Err Wanted) a b ts
wrote_all a b ts h = record { told = ts; untold = []; split = sym (append-nil ts); at_most_one = omega arith; wrote = h }

-- One step, by the bytes that were written of its reply.
pub wrote_one : {D : Type 0} (a b : Option (List ℕ)) (t : CommandStep D) → Appends a b t.text → Wrote (Ok tt) a b (t ∷ [])
wrote_one a b t h = subst (Appends a b) (sym (append-nil t.text)) h

pub wrote_part : {D : Type 0} (a b : Option (List ℕ)) (t : CommandStep D) → WroteSome a b t.text → Wrote (Err Write) a b (t ∷ [])
wrote_part a b t h = record { told = []; cut = t; split = refl; count = h.count; short = h.short; front = h.front }

pub wrote_none : {D : Type 0} (a : Option (List ℕ)) (t : CommandStep D) → Wrote (Err Wanted) a a (t ∷ [])
wrote_none a t = record { told = []; untold = t ∷ []; split = refl; at_most_one = omega arith; wrote = Appends-nil a }

module _ {D : Type 0} (v : Setting D) (r : Result (Unit {0}) RunFault) where
  pub drains_more : (s m s' : RunState D) (p q q' : Pending) (ts : List (CommandStep D)) (t : CommandStep D) (c : Command) (a b d : Option (List ℕ))
      → Drains v s p ts m q (Ok tt) a b → GivesOne q c q' → Serves v m c t s' r b d → Drains v s p (ts ++ t ∷ []) s' q' r a d
  drains_more s m s' p q q' ts t c a b d h gives one = record {
    lead = lead_more v s m s' ts t h.lead one.legal one.next;
    commands = λ more.
        h.commands more ∙ ap (λ l. commands_in ts ++ l) (gives.leads more)
        ∙ sym (append_assoc (commands_in ts) (c ∷ []) (to_come q' more))
        ∙ ap (λ l. l ++ to_come q' more) (ap (λ x. commands_in ts ++ x ∷ []) (sym one.command) ∙ sym (commands_more ts t));
    wrote = wrote_more r a b d ts (t ∷ []) h.wrote one.wrote;
  }

  pub ends_more : (s m s' : RunState D) (p q q' : Pending) (ts : List (CommandStep D)) (t : CommandStep D) (c : Command) (a b d : Option (List ℕ))
      → DrainsEnd v s p ts m (to_come q []) (Ok tt) a b → EndsWith q c q' → Serves v m c t s' r b d → DrainsEnd v s p (ts ++ t ∷ []) s' (to_come q' []) r a d
  ends_more s m s' p q q' ts t c a b d h gives one = record {
    lead = lead_more v s m s' ts t h.lead one.legal one.next;
    commands =
        h.commands ∙ ap (λ l. commands_in ts ++ l) gives.leads
        ∙ sym (append_assoc (commands_in ts) (c ∷ []) (to_come q' []))
        ∙ ap (λ l. l ++ to_come q' []) (ap (λ x. commands_in ts ++ x ∷ []) (sym one.command) ∙ sym (commands_more ts t));
    wrote = wrote_more r a b d ts (t ∷ []) h.wrote one.wrote;
  }

-- No command was returned, and memory ran out in the reader of commands.
pub drains_stop : {D : Type 0} (v : Setting D) (s m : RunState D) (p q q' : Pending) (ts : List (CommandStep D)) (a b : Option (List ℕ)) → Drains v s p ts m q (Ok tt) a b → Leads q [] q' → Drains v s p ts m q' (Err Wanted) a b
drains_stop v s m p q q' ts a b h leads = record {
  lead = h.lead;
  commands = λ more. h.commands more ∙ ap (λ l. commands_in ts ++ l) (leads more);
  wrote = wrote_all a b ts h.wrote;
}

pub ends_stop : {D : Type 0} (v : Setting D) (s m : RunState D) (p : Pending) (ts : List (CommandStep D)) (rest rest' : List Command) (a b : Option (List ℕ)) → DrainsEnd v s p ts m rest (Ok tt) a b → rest' ≡ rest → DrainsEnd v s p ts m rest' (Err Wanted) a b
ends_stop v s m p ts rest rest' a b h e = record {
  lead = h.lead;
  commands = h.commands ∙ ap (λ l. commands_in ts ++ l) (sym e);
  wrote = wrote_all a b ts h.wrote;
}
