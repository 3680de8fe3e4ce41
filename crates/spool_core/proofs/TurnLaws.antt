-- One event of a run, after the previous events.
use Rattle.std.proofs.Common.{◌≡◌, ◌<◌, ℕ, zero, suc, ◌+◌, List, [], ◌∷◌, ◌++◌, length, take, Bool, true, false, IsSome, IsTrue, Result, Some, Err, refl, sym, subst, ap, ◌∙◌, arith, length-append}
use Rattle.spool_types.specs.declared.event.Event.{Event}
use Rattle.spool_types.specs.declared.event.Reply.{Reply}
use Rattle.spool_types.specs.declared.refusal.Refusal.{Refusal}
use Rattle.spool_types.specs.State.{State}
use Rattle.job_table.specs.Step.{refusal_of, answer_to}
use Rattle.job_table.specs.EventFold.{after_one, after_all}
use Rattle.spool_disk.specs.Disk.{DiskView, IsLawful, IsSynced, Blames, LeavesOnly}
use Rattle.spool_disk.proofs.Moments.{started, weaker_run, at_return}
use Rattle.spool_disk.proofs.Ranges.{told}
use Rattle.spool_core.specs.Image.{HasTable, HasDocuments, HasBeforeOrAfterEvent, HasWholeBeforeOrAfterEvent, documents_after_one}
use Rattle.spool_core.specs.OpenSpools.{OpenSpool, IsFailed}
use Rattle.spool_core.specs.Driving.{replies_to, documents_after, HasPrefixTable, HasWholePrefix, IsAcknowledged, IsAcknowledgedWhole, IsChain, IsWholeChain, KeepsImages, LeavesDocuments, room_after, room_after_one, IsDriven, IsOutcome, IsEnding, reach}
use Rattle.spool_core.specs.RunEvents.{IsAnswered, DrivesOne}
use Rattle.spool_core.specs.declared.driving.Ending.{Ending}
use Rattle.spool_core.specs.declared.driving.Ending.TheVariants.{End, Memory, Full, Disk, Dead}
use Rattle.spool_core.proofs.DriveLaws.{after_all_last, replies_last, documents_after-append, IsNext, HasTableAfter, HasWholeAfter, turn_prefix, turn_whole, run_none, run_more, chain_more, whole_more, room_last}

not_dead : (b : Bool) → b ≡ false → b ≡ true → ⊥
not_dead b p q = cc

-- The effect of an event on the disk, whatever the reply.
pub record Turns {D : Type 0} (v : DiskView D) (old : OpenSpool D) (e : Event) (new : OpenSpool D) : Type 0 where
  pub fixed : v.size new.disk ≡ v.size old.disk
  pub told : IsSome (v.bytes new.disk) → IsSome (v.bytes old.disk)
  pub tells : IsSome (v.bytes old.disk) → IsSome (v.bytes new.disk)
  pub any_moment : old.dead ≡ false → IsSome (v.bytes old.disk) → LeavesOnly v old.disk new.disk (HasBeforeOrAfterEvent old.state e)
  pub documents : old.dead ≡ false → (r : List ℕ) (documents : ℕ → List ℕ) → v.bytes old.disk ≡ Some r → HasDocuments old.state documents r → LeavesOnly v old.disk new.disk (HasWholeBeforeOrAfterEvent old.state documents e)

module _ {D : Type 0} (v : DiskView D)
    (lawful : IsLawful v) (old : OpenSpool D) (events : List Event) where
  pub same_replies : (replies others : List (Result Reply Refusal)) (ending : Ending) (new : OpenSpool D) → others ≡ replies → IsOutcome v old events replies ending new
      → IsOutcome v old events others ending new
  same_replies replies others ending new is has = subst (λ (rs : List (Result Reply Refusal)). IsOutcome v old events rs ending new) (sym is) has

  -- A dead spool stops at the first event.
  pub dead_ends : (n : ℕ) (ending : Ending) (new : OpenSpool D) → IsEnding v old events n ending new → (0 < n → old.dead ≡ false) → IsTrue old.dead → 0 < length events → (ending ≡ Dead) × (new ≡ old)
  dead_ends n End new is alive dead some = absurd (not_dead old.dead (alive (omega (arith, is.0, some))) dead)
  dead_ends n Memory new is alive dead some = absurd (not_dead old.dead is.1 dead)
  dead_ends n Full new is alive dead some = absurd (not_dead old.dead is.3 dead)
  dead_ends n Disk new is alive dead some = absurd (not_dead old.dead is.4 dead)
  dead_ends n Dead new is alive dead some = (refl, is.3)

  pub driven_none : (replies : List (Result Reply Refusal)) → replies ≡ [] → (old.dead ≡ false → IsSome (v.bytes old.disk) → KeepsImages v old) → (old.dead ≡ false → IsSynced v old.disk) → IsDriven v old events replies old
  driven_none replies none kept synced = subst (λ (rs : List (Result Reply Refusal)). IsDriven v old events rs old) (sym none) (record {
    fits = omega arith;
    replies_are = refl;
    table = refl;
    room = refl;
    alive = λ some. absurd (omega arith);
    dead = refl;
    same = λ dead. refl;
    counted = refl;
    fixed = refl;
    told = λ t. t;
    tells = λ t. t;
    kept = kept;
    any_moment = λ alive tells. run_none v lawful (HasTableAfter old.state events) old.disk (kept alive tells);
    chain = λ alive tells. refl;
    documents = λ alive r documents tells has.
        run_none v lawful (HasWholeAfter old.state documents events) old.disk
        (λ c left. (kept alive (subst IsSome (sym tells) refl) c left, subst (HasDocuments old.state documents) (sym (synced alive r tells c left)) has));
    sent = λ alive r documents tells has c left. subst (HasDocuments old.state documents) (sym (synced alive r tells c left)) has;
    whole_chain = λ alive r documents tells has. refl;
  })

  module _ (replies : List (Result Reply Refusal)) (now : OpenSpool D) (driven : IsDriven v old events replies now) where
    -- The device is not blamed.
    not_blamed : (ending : Ending) → ¬ (ending ≡ Disk) → Blames (v.failures old.disk) (v.failures now.disk) (ending ≡ Disk)
    not_blamed ending other = record { later = omega (arith, driven.counted); failed = λ is. absurd (other is); counted = λ not. driven.counted }

    -- A crash leaves the table after the answered events.
    rests : old.dead ≡ false → IsSome (v.bytes old.disk) → LeavesOnly v now.disk now.disk (HasPrefixTable old.state events (length replies) (length replies))
    rests alive tells =
        started v now.disk (HasPrefixTable old.state events (length replies) (length replies))
        (λ c left. (length replies, omega arith, omega arith, subst (λ (s : State). HasTable s c) driven.table (driven.kept alive tells c (lawful.only_now now.disk c left))))

    acknowledged_here : old.dead ≡ false → IsSome (v.bytes old.disk) → IsAcknowledged v old.state events (length replies) (length replies) old.disk now.disk
    acknowledged_here alive tells = (now.disk, driven.chain alive tells, rests alive tells)

    -- It also leaves their documents.
    whole_here : old.dead ≡ false → (r : List ℕ) (documents : ℕ → List ℕ) → v.bytes old.disk ≡ Some r → HasDocuments old.state documents r
        → (c : List ℕ) → v.image now.disk c → HasWholePrefix old.state documents events (length replies) (length replies) c
    whole_here alive r documents tells has c left = (
      length replies,
      omega arith,
      omega arith,
      (
        subst (λ (s : State). HasTable s c) driven.table (driven.kept alive (subst IsSome (sym tells) refl) c left),
        subst (λ (s : State). HasDocuments s (documents_after old.state documents (take (length replies) events)) c) driven.table (driven.sent alive r documents tells has c left),
      ),
    )

    acknowledged_whole : old.dead ≡ false → (r : List ℕ) (documents : ℕ → List ℕ) → v.bytes old.disk ≡ Some r → HasDocuments old.state documents r
        → IsAcknowledgedWhole v old.state documents events (length replies) (length replies) old.disk now.disk
    acknowledged_whole alive r documents tells has = (
      now.disk,
      driven.whole_chain alive r documents tells has,
      started v now.disk (HasWholePrefix old.state documents events (length replies) (length replies)) (λ c left. whole_here alive r documents tells has c (lawful.only_now now.disk c left)),
    )

    pub end_of_all : length replies ≡ length events → IsOutcome v old events replies End now
    end_of_all all = record {
      replies_are = driven.replies_are;
      table = driven.table;
      room = driven.room;
      ending_is = (all, driven.dead);
      alive = driven.alive;
      blames = not_blamed End (λ same. cc same);
      fixed = driven.fixed;
      told = driven.told;
      tells = driven.tells;
      kept = λ alive tells. driven.kept (sym driven.dead ∙ alive) tells;
      any_moment = driven.any_moment;
      acknowledged = acknowledged_here;
      documents = driven.documents;
      sent = whole_here;
      whole = acknowledged_whole;
    }

    pub end_of_memory : length replies < length events → old.dead ≡ false → IsOutcome v old events replies Memory now
    end_of_memory fewer lives = record {
      replies_are = driven.replies_are;
      table = driven.table;
      room = driven.room;
      ending_is = (fewer, lives, driven.dead ∙ lives);
      alive = driven.alive;
      blames = not_blamed Memory (λ same. cc same);
      fixed = driven.fixed;
      told = driven.told;
      tells = driven.tells;
      kept = λ alive tells. driven.kept (sym driven.dead ∙ alive) tells;
      any_moment = driven.any_moment;
      acknowledged = acknowledged_here;
      documents = driven.documents;
      sent = whole_here;
      whole = acknowledged_whole;
    }

    module _ (taken : List Event) (e : Event) (next : IsNext events taken e (length replies)) (new : OpenSpool D) (turns : Turns v now e new) where
      now_alive : old.dead ≡ false → now.dead ≡ false
      now_alive alive = driven.dead ∙ alive

      now_table : now.state ≡ after_all old.state taken
      now_table = driven.table ∙ ap (after_all old.state) next.before

      now_room : now.room ≡ room_after old.state old.room taken
      now_room = driven.room ∙ ap (room_after old.state old.room) next.before

      -- The current event may or may not be on the device.
      turn_run : old.dead ≡ false → IsSome (v.bytes old.disk) → LeavesOnly v now.disk new.disk (HasPrefixTable old.state events (length replies) (length replies + 1))
      turn_run alive tells =
          weaker_run v now.disk new.disk (HasPrefixTable old.state events (length replies) (length replies + 1)) (HasBeforeOrAfterEvent now.state e)
          (turns.any_moment (now_alive alive) (driven.tells tells))
          (λ c has. turn_prefix old.state events taken e (length replies) now.state c next now_table has)

      run_with : old.dead ≡ false → IsSome (v.bytes old.disk) → LeavesOnly v old.disk new.disk (HasPrefixTable old.state events 0 (length replies + 1))
      run_with alive tells =
          run_more v lawful (HasTableAfter old.state events) 0 (length replies) (length replies + 1) old.disk now.disk new.disk (omega arith) (omega arith) (driven.any_moment alive tells) (turn_run alive tells)

      acknowledged_with : old.dead ≡ false → IsSome (v.bytes old.disk) → IsAcknowledged v old.state events (length replies) (length replies + 1) old.disk new.disk
      acknowledged_with alive tells = (now.disk, driven.chain alive tells, turn_run alive tells)

      module _ (alive : old.dead ≡ false) (r : List ℕ) (documents : ℕ → List ℕ) (tells : v.bytes old.disk ≡ Some r) (has : HasDocuments old.state documents r) where
        abbrev documents_now : ℕ → List ℕ
        documents_now = documents_after old.state documents (take (length replies) events)

        told_now : (c : List ℕ) × (v.bytes now.disk ≡ Some c)
        told_now = told (v.bytes now.disk) (driven.tells (subst IsSome (sym tells) refl))

        has_now : HasDocuments now.state documents_now told_now.0
        has_now = driven.sent alive r documents tells has told_now.0 (lawful.reads_image now.disk told_now.0 told_now.1)

        now_documents : documents_now ≡ documents_after old.state documents taken
        now_documents = ap (documents_after old.state documents) next.before

        -- The part that the current event sends may or may not be on the device.
        turn_documents : LeavesOnly v now.disk new.disk (HasWholePrefix old.state documents events (length replies) (length replies + 1))
        turn_documents =
            weaker_run v now.disk new.disk (HasWholePrefix old.state documents events (length replies) (length replies + 1)) (HasWholeBeforeOrAfterEvent now.state documents_now e)
            (turns.documents (now_alive alive) told_now.0 documents_now told_now.1 has_now)
            (λ c left. turn_whole old.state documents events taken e (length replies) now.state documents_now c next now_table now_documents left)

        documents_with : LeavesOnly v old.disk new.disk (HasWholePrefix old.state documents events 0 (length replies + 1))
        documents_with =
            run_more v lawful (HasWholeAfter old.state documents events) 0 (length replies) (length replies + 1) old.disk now.disk new.disk (omega arith) (omega arith) (driven.documents alive r documents tells has) turn_documents

        whole_with : IsAcknowledgedWhole v old.state documents events (length replies) (length replies + 1) old.disk new.disk
        whole_with = (now.disk, driven.whole_chain alive r documents tells has, turn_documents)

        sent_with : (c : List ℕ) → v.image new.disk c → HasWholePrefix old.state documents events (length replies) (length replies + 1) c
        sent_with = at_return v lawful now.disk new.disk (HasWholePrefix old.state documents events (length replies) (length replies + 1)) turn_documents

        -- The same for the table and the documents after the previous events.
        whole_turn : LeavesOnly v now.disk new.disk (HasWholeBeforeOrAfterEvent (after_all old.state taken) (documents_after old.state documents taken) e)
        whole_turn =
            subst (λ (s : State). LeavesOnly v now.disk new.disk (HasWholeBeforeOrAfterEvent s (documents_after old.state documents taken) e)) now_table
            (subst (λ (ds : ℕ → List ℕ). LeavesOnly v now.disk new.disk (HasWholeBeforeOrAfterEvent now.state ds e)) now_documents
            (turns.documents (now_alive alive) told_now.0 documents_now told_now.1 has_now))

        -- After an answered event the part that it sends is stored.
        sent_on : ((r : List ℕ) (documents : ℕ → List ℕ) → v.bytes now.disk ≡ Some r → HasDocuments now.state documents r → LeavesDocuments v new.state (documents_after_one now.state documents e) new.disk)
            → LeavesDocuments v new.state (documents_after_one (after_all old.state taken) (documents_after old.state documents taken) e) new.disk
        sent_on sent c left = subst (λ (ds : ℕ → List ℕ). HasDocuments new.state ds c) (λ i. documents_after_one (now_table i) (now_documents i) e) (sent told_now.0 documents_now told_now.1 has_now c left)

      -- The device failed.
      end_of_disk : IsFailed v now e new → IsOutcome v old events replies Disk new
      end_of_disk broken = record {
        replies_are = driven.replies_are;
        table = broken.state ∙ driven.table;
        room = broken.room ∙ driven.room;
        ending_is = (e, next.hand, ap (λ (s : State). refusal_of s e) broken.state ∙ broken.fits.accepted, omega (arith, broken.fits.room, broken.room), sym driven.dead ∙ broken.fits.alive, broken.dead, omega (arith, driven.counted, broken.cause));
        alive = driven.alive;
        blames = record { later = omega (arith, driven.counted, broken.cause); failed = λ is. omega (arith, driven.counted, broken.cause); counted = λ other. absurd (other refl) };
        fixed = turns.fixed ∙ driven.fixed;
        told = λ t. driven.told (turns.told t);
        tells = λ t. turns.tells (driven.tells t);
        kept = λ alive tells. absurd (not_dead new.dead alive broken.dead);
        any_moment = run_with;
        acknowledged = acknowledged_with;
        documents = documents_with;
        sent = sent_with;
        whole = whole_with;
      }

      -- Nothing has changed.
      end_unchanged : (ending : Ending) → ¬ (ending ≡ Disk) → IsEnding v old events (length replies) ending now → reach ending (length replies) ≡ length replies → new ≡ now
          → IsOutcome v old events replies ending new
      end_unchanged ending other is reaches same = subst (λ (s : OpenSpool D). IsOutcome v old events replies ending s) (sym same) (record {
        replies_are = driven.replies_are;
        table = driven.table;
        room = driven.room;
        ending_is = is;
        alive = driven.alive;
        blames = not_blamed ending other;
        fixed = driven.fixed;
        told = driven.told;
        tells = driven.tells;
        kept = λ alive tells. driven.kept (sym driven.dead ∙ alive) tells;
        any_moment = λ alive tells. subst (λ (k : ℕ). LeavesOnly v old.disk now.disk (HasPrefixTable old.state events 0 k)) (sym reaches) (driven.any_moment alive tells);
        acknowledged = λ alive tells. subst (λ (k : ℕ). IsAcknowledged v old.state events (length replies) k old.disk now.disk) (sym reaches) (acknowledged_here alive tells);
        documents = λ alive r documents tells has. subst (λ (k : ℕ). LeavesOnly v old.disk now.disk (HasWholePrefix old.state documents events 0 k)) (sym reaches) (driven.documents alive r documents tells has);
        sent = λ alive r documents tells has c left. subst (λ (k : ℕ). HasWholePrefix old.state documents events (length replies) k c) (sym reaches) (whole_here alive r documents tells has c left);
        whole = λ alive r documents tells has. subst (λ (k : ℕ). IsAcknowledgedWhole v old.state documents events (length replies) k old.disk now.disk) (sym reaches) (acknowledged_whole alive r documents tells has);
      })

      none_answered : (n : ℕ) → (0 < n → old.dead ≡ false) → IsTrue old.dead → n ≡ 0
      none_answered zero alive dead = refl
      none_answered (suc n) alive dead = absurd (not_dead old.dead (alive (omega arith)) dead)

      pub end_of_turn : (ending : Ending) → DrivesOne v now e (Err ending) new → IsOutcome v old events replies ending new
      end_of_turn End is = absurd is
      end_of_turn Memory is = end_unchanged Memory (λ same. cc same) (next.fits, sym driven.dead ∙ is.0, is.0) refl is.1
      end_of_turn Full is = end_unchanged Full (λ same. cc same) (e, next.hand, is.0, sym driven.dead ∙ is.0.alive) refl is.1
      end_of_turn Disk is = end_of_disk is
      end_of_turn Dead is =
          let dead : IsTrue old.dead = sym driven.dead ∙ is.0 in
          let first : length replies ≡ 0 = none_answered (length replies) driven.alive dead in
          end_unchanged Dead (λ same. cc same) (dead, first, omega (arith, next.fits), driven.same dead) refl is.1

      -- One more reply.
      pub driven_more : (answer : Result Reply Refusal) (more : List (Result Reply Refusal)) → more ≡ replies ++ answer ∷ [] → IsAnswered now e answer new → (IsSome (v.bytes now.disk) → KeepsImages v now → KeepsImages v new)
          → ((r : List ℕ) (documents : ℕ → List ℕ) → v.bytes now.disk ≡ Some r → HasDocuments now.state documents r → LeavesDocuments v new.state (documents_after_one now.state documents e) new.disk)
          → v.failures new.disk ≡ v.failures now.disk → IsDriven v old events more new
      driven_more answer more is answered kept sent counted =
          let long : length more ≡ length replies + 1 = omega (arith, ap length is, length-append replies (answer ∷ [])) in
          let whole : take (length more) events ≡ taken ++ e ∷ [] = ap (λ (n : ℕ). take n events) long ∙ next.after in
          let old_alive : old.dead ≡ false = sym driven.dead ∙ answered.alive in
          let table : new.state ≡ after_all old.state (take (length more) events) = answered.table ∙ ap (λ (s : State). after_one s e) now_table ∙ sym (after_all_last old.state taken e) ∙ ap (after_all old.state) (sym whole) in
          let keeps : IsSome (v.bytes old.disk) → KeepsImages v new = λ tells. kept (driven.tells tells) (driven.kept old_alive tells) in
          record {
            fits = omega (arith, long, next.fits);
            replies_are =
                is
                ∙ ap (λ (rs : List (Result Reply Refusal)). rs ++ answer ∷ []) (driven.replies_are ∙ ap (replies_to old.state) next.before)
                ∙ ap (λ (a : Result Reply Refusal). replies_to old.state taken ++ a ∷ []) (answered.answer_is ∙ ap (λ (s : State). answer_to s e) now_table)
                ∙ sym (replies_last old.state taken e)
                ∙ ap (replies_to old.state) (sym whole);
            table = table;
            room = answered.room ∙ ap (λ (s : State). room_after_one s now.room e) now_table ∙ ap (λ (n : ℕ). room_after_one (after_all old.state taken) n e) now_room ∙ sym (room_last old.state old.room taken e) ∙ ap (room_after old.state old.room) (sym whole);
            alive = λ some. old_alive;
            dead = answered.dead ∙ sym old_alive;
            same = λ dead. absurd (not_dead old.dead old_alive dead);
            counted = counted ∙ driven.counted;
            fixed = turns.fixed ∙ driven.fixed;
            told = λ t. driven.told (turns.told t);
            tells = λ t. turns.tells (driven.tells t);
            kept = λ alive tells. keeps tells;
            any_moment = λ alive tells. subst (λ (k : ℕ). LeavesOnly v old.disk new.disk (HasPrefixTable old.state events 0 k)) (sym long) (run_with alive tells);
            chain = λ alive tells. subst (λ (es : List Event). IsChain v old.state es old.disk new.disk) (sym whole)
                (chain_more v lawful old.state taken e old.disk now.disk new.disk
                (subst (λ (es : List Event). IsChain v old.state es old.disk now.disk) next.before (driven.chain alive tells))
                (subst (λ (s : State). LeavesOnly v now.disk new.disk (HasBeforeOrAfterEvent s e)) now_table (turns.any_moment (now_alive alive) (driven.tells tells)))
                (λ c left. subst (λ (s : State). HasTable s c) (answered.table ∙ ap (λ (s : State). after_one s e) now_table) (keeps tells c left)));
            documents = λ alive r documents tells has. subst (λ (k : ℕ). LeavesOnly v old.disk new.disk (HasWholePrefix old.state documents events 0 k)) (sym long) (documents_with alive r documents tells has);
            sent = λ alive r documents tells has c left.
                subst (λ (ds : ℕ → List ℕ). HasDocuments new.state ds c)
                (sym (documents_after-append old.state documents taken (e ∷ [])) ∙ ap (documents_after old.state documents) (sym whole))
                (sent_on alive r documents tells has sent c left);
            whole_chain = λ alive r documents tells has. subst (λ (es : List Event). IsWholeChain v old.state documents es old.disk new.disk) (sym whole)
                (whole_more v lawful old.state documents taken e old.disk now.disk new.disk
                (subst (λ (es : List Event). IsWholeChain v old.state documents es old.disk now.disk) next.before (driven.whole_chain alive r documents tells has))
                (whole_turn alive r documents tells has)
                (λ c left.
                let leads : new.state ≡ after_one (after_all old.state taken) e = answered.table ∙ ap (λ (s : State). after_one s e) now_table in
                let now_tells : IsSome (v.bytes old.disk) = subst IsSome (sym tells) refl in (
                  subst (λ (s : State). HasTable s c) leads (keeps now_tells c left),
                  subst (λ (s : State). HasDocuments s (documents_after_one (after_all old.state taken) (documents_after old.state documents taken) e) c) leads (sent_on alive r documents tells has sent c left),
                )));
          }
