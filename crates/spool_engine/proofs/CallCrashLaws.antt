-- Crashes in a list of calls.
use Rattle.std.proofs.Common.{◌≡◌, ◌⊎◌, ℕ, List, [], ◌∷◌, ◌++◌, refl, ap, sym, ◌∙◌, subst, inl, inr, ⊎_elim, true, false, Bool, Option}
use Rattle.std.specs.Prelude.{IsSome}
use Rattle.spool_types.specs.declared.event.Event.{Event}
use Rattle.spool_types.specs.State.{State}
use Rattle.spool_disk.specs.Disk.{DiskView, IsLawful, LeavesOnly}
use Rattle.spool_disk.proofs.Moments.{runs_on, started, weaker_run}
use Rattle.spool_core.specs.Batch.{HasBeforeOrAllEvents, HasWholeBeforeOrAll}
use Rattle.spool_core.specs.Image.{HasTable, HasWhole}
use Rattle.spool_core.specs.OpenSpools.{IsSettled as NoneStaged}
use Rattle.print_rounds.proofs.PrefixLaws.{none_of}
use Rattle.print_rounds.specs.RunStates.{RunState}
use Rattle.print_rounds.specs.Rounds.{LeavesDocuments}
use Rattle.spool_engine.specs.EngineCalls.{Call, round_call, tick_call, run_call, stage_call, settle_call, left_by, IsCall, AreCalls, AreStagedSteps, last_by, documents_by, HasTableBy, IsAlongCalls, HasWholeBy, IsWholeAlongCalls, last_documents_by}
use Rattle.spool_engine.specs.EventSteps.{Setting, IsKept, tried_as}
use Rattle.spool_engine.specs.EngineRuns.{CommandStep, How, answered, ran, withheld, AreCommandSteps, HasSomeBy, IsAlong, IsWholeAlong, documents_left, last_run_state, last_documents, tried_by, tried_in}
use Rattle.spool_engine.specs.Script.{Documents, event_of}
use Rattle.spool_engine.specs.EngineTicks.{Ticked, IsTicked, IsTickWith}
use Rattle.spool_engine.specs.StagedSteps.{HoldsTable, HoldsWhole, ShowsDocuments, SettlesTo}
use Rattle.spool_engine.proofs.CrashLaws.{along, dead_last, dead_still, whole_along}
use Rattle.spool_engine.proofs.EventLaws.{none_whole}
use Rattle.spool_engine.proofs.RoundLaws.{dead_rans, whole_none}
use Rattle.spool_engine.proofs.StagingLaws.{holds_then, leaves_shown, shows_left, whole_then}

module _ {D : Type 0} (v : Setting D) where
  -- ## Steps

  alive_turns : (s : RunState D) (ts : List (CommandStep D)) (b : Bool) → s.spool.dead ≡ b → AreCommandSteps v s ts → (last_run_state s ts).spool.dead ≡ false → s.spool.dead ≡ false
  alive_turns s ts true is are lives = let died = ap (λ x. x.dead) (dead_last v s ts is are) ∙ is in absurd cc
  alive_turns s ts false is are lives = is

  kept_turns : (s : RunState D) (ts : List (CommandStep D)) → IsKept v.device s.spool → AreCommandSteps v s ts → IsKept v.device (last_run_state s ts).spool
  kept_turns s [] kept are = kept
  kept_turns s (t ∷ ts) kept are = kept_turns t.next ts are.0.kept are.1

  tell_on : (s : RunState D) (ts : List (CommandStep D)) → AreCommandSteps v s ts → IsSome (v.device.bytes s.spool.disk) → IsSome (v.device.bytes (last_run_state s ts).spool.disk)
  tell_on s [] are tells = tells
  tell_on s (t ∷ ts) are tells = tell_on t.next ts are.1 (are.0.told.1 tells)

  told_turns : (s : RunState D) (ts : List (CommandStep D)) → AreCommandSteps v s ts → IsSome (v.device.bytes (last_run_state s ts).spool.disk) → IsSome (v.device.bytes s.spool.disk)
  told_turns s [] are tells = tells
  told_turns s (t ∷ ts) are tells = are.0.told.0 (told_turns t.next ts are.1 tells)

  last_turns : (s : RunState D) (documents : Documents) (ts : List (CommandStep D)) → AreCommandSteps v s ts → (last_run_state s ts).spool.dead ≡ false → IsSome (v.device.bytes s.spool.disk) → LeavesDocuments v.device documents s.spool
      → LeavesDocuments v.device (last_documents v.mime s documents ts) (last_run_state s ts).spool
  last_turns s documents [] are lives tells has = has
  last_turns s documents (t ∷ ts) are lives tells has =
      last_turns t.next (documents_left v.mime s documents t) ts are.1 lives (are.0.told.1 tells)
      (are.0.lasting (alive_turns t.next ts t.next.spool.dead refl are.1 lives) tells documents has)

  -- ## One call

  dead_tick : (s : RunState D) (t : Ticked D) → s.spool.dead ≡ true → IsTicked v s t → t.next.spool ≡ s.spool
  dead_tick s t is ticked =
      let done = subst (λ (b : Bool). IsTickWith v.device v.place s b t) is ticked.tick in
      ap (λ (c : RunState D). c.spool) done.0.1

  -- A dead spool does not change.
  dead_call : (s : RunState D) (c : Call D) → s.spool.dead ≡ true → IsCall v s c → (left_by s c).spool ≡ s.spool
  dead_call s (round_call r) is called = dead_rans v s (r ∷ []) r.next is (called.1, refl)
  dead_call s (tick_call t) is called = dead_tick s t is called.1
  dead_call s (run_call turns) is called = dead_last v s turns is called.1
  dead_call s (stage_call t) is called = dead_still v s t t.how is called.how
  dead_call s (settle_call next) is called = called.spool.died is

  tells_call : (s : RunState D) (c : Call D) → IsCall v s c → IsSome (v.device.bytes s.spool.disk) → IsSome (v.device.bytes (left_by s c).spool.disk)
  tells_call s (round_call r) called tells = called.1.told.1 tells
  tells_call s (tick_call t) called tells = called.1.told.1 tells
  tells_call s (run_call turns) called tells = tell_on s turns called.1 tells
  tells_call s (stage_call t) called tells = called.told.1 tells
  tells_call s (settle_call next) called tells = called.spool.told.1 tells

  told_call : (s : RunState D) (c : Call D) → IsCall v s c → IsSome (v.device.bytes (left_by s c).spool.disk) → IsSome (v.device.bytes s.spool.disk)
  told_call s (round_call r) called tells = called.1.told.0 tells
  told_call s (tick_call t) called tells = called.1.told.0 tells
  told_call s (run_call turns) called tells = told_turns s turns called.1 tells
  told_call s (stage_call t) called tells = called.told.0 tells
  told_call s (settle_call next) called tells = called.spool.told.0 tells

  -- If nothing is staged, a crash leaves the table that is shown, and these documents.
  abbrev IsKeptIfSettled : RunState D → Type 0
  IsKeptIfSettled s = NoneStaged s.spool → IsKept v.device s.spool

  abbrev AreLeftIfSettled : Documents → RunState D → Type 0
  AreLeftIfSettled documents s = NoneStaged s.spool → LeavesDocuments v.device documents s.spool

  kept_call : (s : RunState D) (c : Call D) → IsKeptIfSettled s → IsCall v s c → IsKeptIfSettled (left_by s c)
  kept_call s (round_call r) kept called = λ settled. called.1.kept
  kept_call s (tick_call t) kept called = λ settled. called.1.kept
  kept_call s (run_call turns) kept called = λ settled. kept_turns s turns (kept called.0.0) called.1
  kept_call s (stage_call t) kept called = called.plain.kept
  kept_call s (settle_call next) kept called = λ settled. called.spool.kept

  -- The table that is shown is that of each image.
  holds_kept : (s : RunState D) → IsKept v.device s.spool → s.spool.dead ≡ false → IsSome (v.device.bytes s.spool.disk) → HoldsTable v.device s.spool.disk s.spool.state
  holds_kept s kept lives tells = record { tells = tells; each = λ c now. kept lives tells c now }

  holds_whole : (s : RunState D) (documents : Documents) → IsKept v.device s.spool → LeavesDocuments v.device documents s.spool → s.spool.dead ≡ false → IsSome (v.device.bytes s.spool.disk) → HoldsWhole v.device s.spool.disk s.spool.state documents
  holds_whole s documents kept leaves lives tells = record { tells = tells; each = λ c now. (kept lives tells c now, leaves c now) }

  -- The table that a call finds is one along the calls from there on.
  along_turns : (s : RunState D) (ts : List (CommandStep D)) (image : List ℕ) → HasTable s.spool.state image → IsAlong v.mime s ts image
  along_turns s [] image has = has
  along_turns s (t ∷ ts) image has = inl (inl (none_of s.spool.state (tried_in v.mime s t) image has))

  found_by : (s : RunState D) (c : Call D) (image : List ℕ) → HasTable s.spool.state image → HasTableBy v.mime s c image
  found_by s (round_call r) image has = none_of s.spool.state r.tried image has
  found_by s (tick_call t) image has = none_of s.spool.state t.tried image has
  found_by s (run_call turns) image has = along_turns s turns image has
  found_by s (stage_call t) image has = has
  found_by s (settle_call next) image has = has

  found_along : (s : RunState D) (cs : List (Call D)) (image : List ℕ) → HasTable s.spool.state image → IsAlongCalls v.mime s cs image
  found_along s [] image has = has
  found_along s (c ∷ cs) image has = inl (found_by s c image has)

  -- The same with the documents.
  some_how : (s : RunState D) (documents : Documents) (asked : Option Event) (how : How D) (image : List ℕ) → HasWhole s.spool.state documents image → HasSomeBy s documents asked how image
  some_how s documents asked (answered outcome) image has = none_whole s.spool.state documents (tried_as asked outcome) image has
  some_how s documents asked (ran rs) image has = whole_none s.spool.state documents (tried_by asked (ran rs)) image has
  some_how s documents asked withheld image has = has

  whole_turns : (s : RunState D) (documents : Documents) (ts : List (CommandStep D)) (image : List ℕ) → HasWhole s.spool.state documents image → IsWholeAlong v.mime s documents ts image
  whole_turns s documents [] image has = has
  whole_turns s documents (t ∷ ts) image has = inl (inl (some_how s documents (event_of v.mime s.spool.state t.document t.command) t.how image has))

  found_whole : (s : RunState D) (documents : Documents) (c : Call D) (image : List ℕ) → HasWhole s.spool.state documents image → HasWholeBy v.mime s documents c image
  found_whole s documents (round_call r) image has = whole_none s.spool.state documents r.tried image has
  found_whole s documents (tick_call t) image has = whole_none s.spool.state documents t.tried image has
  found_whole s documents (run_call turns) image has = whole_turns s documents turns image has
  found_whole s documents (stage_call t) image has = has
  found_whole s documents (settle_call next) image has = has

  found_whole_along : (s : RunState D) (documents : Documents) (cs : List (Call D)) (image : List ℕ) → HasWhole s.spool.state documents image → IsWholeAlongCalls v.mime s documents cs image
  found_whole_along s documents [] image has = has
  found_whole_along s documents (c ∷ cs) image has = inl (found_whole s documents c image has)

  -- ## Calls

  dead_calls : (s : RunState D) (cs : List (Call D)) → s.spool.dead ≡ true → AreCalls v s cs → (last_by s cs).spool ≡ s.spool
  dead_calls s [] is are = refl
  dead_calls s (c ∷ cs) is are =
      let same : (left_by s c).spool ≡ s.spool = dead_call s c is are.0 in
      dead_calls (left_by s c) cs (ap (λ x. x.dead) same ∙ is) are.1 ∙ same

  first_calls : (s : RunState D) (first others : List (Call D)) → AreCalls v s (first ++ others) → AreCalls v s first
  first_calls s [] others are = tt
  first_calls s (c ∷ first) others are = (are.0, first_calls (left_by s c) first others are.1)

  alive_calls : (s : RunState D) (cs : List (Call D)) (b : Bool) → s.spool.dead ≡ b → AreCalls v s cs → (last_by s cs).spool.dead ≡ false → s.spool.dead ≡ false
  alive_calls s cs true is are lives = let died = ap (λ x. x.dead) (dead_calls s cs is are) ∙ is in absurd cc
  alive_calls s cs false is are lives = is

  told_calls : (s : RunState D) (cs : List (Call D)) → AreCalls v s cs → IsSome (v.device.bytes (last_by s cs).spool.disk) → IsSome (v.device.bytes s.spool.disk)
  told_calls s [] are tells = tells
  told_calls s (c ∷ cs) are tells = told_call s c are.0 (told_calls (left_by s c) cs are.1 tells)

  -- A crash in a call or in the calls after it. The premise for the later calls requires that the spool is alive after the first one.
  after_call : (s : RunState D) (c : Call D) (cs : List (Call D)) (P Q R : List ℕ → Type 0) (b : Bool) → (left_by s c).spool.dead ≡ b → AreCalls v (left_by s c) cs
      → LeavesOnly v.device s.spool.disk (left_by s c).spool.disk P → ((left_by s c).spool.dead ≡ false → LeavesOnly v.device (left_by s c).spool.disk (last_by (left_by s c) cs).spool.disk Q)
      → ((image : List ℕ) → P image → R image) → ((image : List ℕ) → Q image → R image) → LeavesOnly v.device s.spool.disk (last_by (left_by s c) cs).spool.disk R
  after_call s c cs P Q R false is are one rest first then =
      runs_on v.device s.spool.disk (left_by s c).spool.disk (last_by (left_by s c) cs).spool.disk R Q (weaker_run v.device s.spool.disk (left_by s c).spool.disk R P one first) (rest is) then
  after_call s c cs P Q R true is are one rest first then =
      subst (λ x. LeavesOnly v.device s.spool.disk x.disk R) (sym (dead_calls (left_by s c) cs is are)) (weaker_run v.device s.spool.disk (left_by s c).spool.disk R P one first)

  -- The images of calls that begin with this durable table: it is the one before the staged events.
  abbrev IsFrom : State → RunState D → List (Call D) → List ℕ → Type 0
  IsFrom before s cs image = HasTable before image ⊎ IsAlongCalls v.mime s cs image

  -- After a call that leaves nothing staged.
  rest_from : (s : RunState D) (cs : List (Call D)) (image : List ℕ) → IsFrom s.spool.state s cs image → IsAlongCalls v.mime s cs image
  rest_from s cs image (inl has) = found_along s cs image has
  rest_from s cs image (inr along) = along

  abbrev IsWholeFrom : State → Documents → RunState D → Documents → List (Call D) → List ℕ → Type 0
  IsWholeFrom before kept s documents cs image = HasWhole before kept image ⊎ IsWholeAlongCalls v.mime s documents cs image

  whole_rest_from : (s : RunState D) (documents : Documents) (cs : List (Call D)) (image : List ℕ) → IsWholeFrom s.spool.state documents s documents cs image → IsWholeAlongCalls v.mime s documents cs image
  whole_rest_from s documents cs image (inl has) = found_whole_along s documents cs image has
  whole_rest_from s documents cs image (inr along) = along

  module _ (lawful : IsLawful v.device) where
    -- A call that begins with nothing staged, followed by others.
    settled_from : (s : RunState D) (before : State) (c : Call D) (cs : List (Call D)) → IsKept v.device (left_by s c).spool → IsCall v s c → AreCalls v (left_by s c) cs → IsSome (v.device.bytes s.spool.disk)
        → LeavesOnly v.device s.spool.disk (left_by s c).spool.disk (HasTableBy v.mime s c)
        → ((left_by s c).spool.dead ≡ false → HoldsTable v.device (left_by s c).spool.disk (left_by s c).spool.state → LeavesOnly v.device (left_by s c).spool.disk (last_by (left_by s c) cs).spool.disk (IsFrom (left_by s c).spool.state (left_by s c) cs))
        → LeavesOnly v.device s.spool.disk (last_by (left_by s c) cs).spool.disk (IsFrom before s (c ∷ cs))
    settled_from s before c cs kept called others tells one rest =
        after_call s c cs (HasTableBy v.mime s c) (IsFrom (left_by s c).spool.state (left_by s c) cs) (IsFrom before s (c ∷ cs)) (left_by s c).spool.dead refl others one
        (λ lives. rest lives (holds_kept (left_by s c) kept lives (tells_call s c called tells)))
        (λ image some. inr (inl some)) (λ image along. inr (inr (rest_from (left_by s c) cs image along)))

    calls_from : (s : RunState D) (before : State) (cs : List (Call D)) → IsKeptIfSettled s → AreCalls v s cs → s.spool.dead ≡ false → HoldsTable v.device s.spool.disk before
        → LeavesOnly v.device s.spool.disk (last_by s cs).spool.disk (IsFrom before s cs)
    calls_from s before [] kept are alive holds = started v.device s.spool.disk (IsFrom before s []) (λ c since. inl (holds.each c (lawful.only_now s.spool.disk c since)))
    calls_from s before (round_call r ∷ cs) kept (called, others) alive holds =
        settled_from s before (round_call r) cs called.1.kept called others holds.tells (called.1.crash alive holds.tells)
        (λ lives then. calls_from r.next r.next.spool.state cs (λ settled. called.1.kept) others lives then)
    calls_from s before (tick_call t ∷ cs) kept (called, others) alive holds =
        settled_from s before (tick_call t) cs called.1.kept called others holds.tells (called.1.crash alive holds.tells)
        (λ lives then. calls_from t.next t.next.spool.state cs (λ settled. called.1.kept) others lives then)
    calls_from s before (run_call turns ∷ cs) kept (called, others) alive holds =
        let kept_then = kept_turns s turns (kept called.0.0) called.1 in
        settled_from s before (run_call turns) cs kept_then called others holds.tells (along v s turns lawful.only_now (kept called.0.0) called.1 alive holds.tells)
        (λ lives then. calls_from (last_run_state s turns) (last_run_state s turns).spool.state cs (λ settled. kept_then) others lives then)
    calls_from s before (stage_call t ∷ cs) kept (called, others) alive holds =
        let one = called.still.tables alive before holds in
        after_call s (stage_call t) cs (HasTable before) (IsFrom before t.next cs) (IsFrom before s (stage_call t ∷ cs)) t.next.spool.dead refl others one
        (λ lives. calls_from t.next before cs called.plain.kept others lives (holds_then v.device lawful s.spool.disk t.next.spool.disk before (called.told.1 holds.tells) one))
        (λ image has. inl has) (λ image from. ⊎_elim (λ has. inl has) (λ along. inr (inr along)) from)
    calls_from s before (settle_call next ∷ cs) kept (called, others) alive holds =
        after_call s (settle_call next) cs (HasBeforeOrAllEvents before s.spool.state) (IsFrom next.spool.state next cs) (IsFrom before s (settle_call next ∷ cs)) next.spool.dead refl others (called.spool.tables alive before holds)
        (λ lives. calls_from next next.spool.state cs (λ settled. called.spool.kept) others lives (holds_kept next called.spool.kept lives (called.spool.told.1 holds.tells)))
        (λ image either. ⊎_elim (λ has. inl has) (λ all. inr (inl all)) either) (λ image from. inr (inr (rest_from next cs image from)))

    pub along_calls : (s : RunState D) (cs : List (Call D)) → IsKept v.device s.spool → AreCalls v s cs → s.spool.dead ≡ false → IsSome (v.device.bytes s.spool.disk)
        → LeavesOnly v.device s.spool.disk (last_by s cs).spool.disk (IsAlongCalls v.mime s cs)
    along_calls s cs kept are alive tells =
        weaker_run v.device s.spool.disk (last_by s cs).spool.disk (IsAlongCalls v.mime s cs) (IsFrom s.spool.state s cs)
        (calls_from s s.spool.state cs (λ settled. kept) are alive (holds_kept s kept alive tells)) (rest_from s cs)

    -- ## Documents

    settled_whole : (s : RunState D) (before : State) (old documents : Documents) (c : Call D) (cs : List (Call D)) → IsKept v.device (left_by s c).spool → IsCall v s c → AreCalls v (left_by s c) cs → IsSome (v.device.bytes s.spool.disk)
        → ((left_by s c).spool.dead ≡ false → LeavesDocuments v.device (documents_by v.mime s documents c) (left_by s c).spool)
        → LeavesOnly v.device s.spool.disk (left_by s c).spool.disk (HasWholeBy v.mime s documents c)
        → ((left_by s c).spool.dead ≡ false → LeavesDocuments v.device (documents_by v.mime s documents c) (left_by s c).spool → HoldsWhole v.device (left_by s c).spool.disk (left_by s c).spool.state (documents_by v.mime s documents c)
        → LeavesOnly v.device (left_by s c).spool.disk (last_by (left_by s c) cs).spool.disk (IsWholeFrom (left_by s c).spool.state (documents_by v.mime s documents c) (left_by s c) (documents_by v.mime s documents c) cs))
        → LeavesOnly v.device s.spool.disk (last_by (left_by s c) cs).spool.disk (IsWholeFrom before old s documents (c ∷ cs))
    settled_whole s before old documents c cs kept called others tells leaves one rest =
        let after = documents_by v.mime s documents c in
        after_call s c cs (HasWholeBy v.mime s documents c) (IsWholeFrom (left_by s c).spool.state after (left_by s c) after cs) (IsWholeFrom before old s documents (c ∷ cs)) (left_by s c).spool.dead refl others one
        (λ lives. rest lives (leaves lives) (holds_whole (left_by s c) after kept (leaves lives) lives (tells_call s c called tells)))
        (λ image some. inr (inl some)) (λ image along. inr (inr (whole_rest_from (left_by s c) after cs image along)))

    whole_from : (s : RunState D) (before : State) (old documents : Documents) (cs : List (Call D)) → IsKeptIfSettled s → AreLeftIfSettled documents s → ShowsDocuments v.device documents s.spool → AreCalls v s cs → s.spool.dead ≡ false → HoldsWhole v.device s.spool.disk before old
        → LeavesOnly v.device s.spool.disk (last_by s cs).spool.disk (IsWholeFrom before old s documents cs)
    whole_from s before old documents [] kept left shows are alive holds = started v.device s.spool.disk (IsWholeFrom before old s documents []) (λ c since. inl (holds.each c (lawful.only_now s.spool.disk c since)))
    whole_from s before old documents (round_call r ∷ cs) kept left shows (called, others) alive holds =
        let leaves = left called.0.0 in
        settled_whole s before old documents (round_call r) cs called.1.kept called others holds.tells (λ lives. called.1.lasting lives holds.tells documents leaves) (called.1.whole alive holds.tells documents leaves)
        (λ lives then whole. whole_from r.next r.next.spool.state documents documents cs (λ settled. called.1.kept) (λ settled. then) (shows_left v.device lawful documents r.next.spool (called.0.1 lives) then) others lives whole)
    whole_from s before old documents (tick_call t ∷ cs) kept left shows (called, others) alive holds =
        let leaves = left called.0.0 in
        settled_whole s before old documents (tick_call t) cs called.1.kept called others holds.tells (λ lives. called.1.lasting lives holds.tells documents leaves) (called.1.whole alive holds.tells documents leaves)
        (λ lives then whole. whole_from t.next t.next.spool.state documents documents cs (λ settled. called.1.kept) (λ settled. then) (shows_left v.device lawful documents t.next.spool (called.0.1 lives) then) others lives whole)
    whole_from s before old documents (run_call turns ∷ cs) kept left shows (called, others) alive holds =
        let leaves = left called.0.0 in
        let kept_then = kept_turns s turns (kept called.0.0) called.1 in
        let after = last_documents v.mime s documents turns in
        settled_whole s before old documents (run_call turns) cs kept_then called others holds.tells (λ lives. last_turns s documents turns called.1 lives holds.tells leaves)
        (whole_along v s documents turns lawful.only_now (kept called.0.0) called.1 alive holds.tells leaves)
        (λ lives then whole. whole_from (last_run_state s turns) (last_run_state s turns).spool.state after after cs (λ settled. kept_then) (λ settled. then) (shows_left v.device lawful after (last_run_state s turns).spool (called.0.1 lives) then) others lives whole)
    whole_from s before old documents (stage_call t ∷ cs) kept left shows (called, others) alive holds =
        let one = called.still.documents alive before old holds in
        let after = documents_left v.mime s documents t in
        after_call s (stage_call t) cs (HasWhole before old) (IsWholeFrom before old t.next after cs) (IsWholeFrom before old s documents (stage_call t ∷ cs)) t.next.spool.dead refl others one
        (λ lives.
        let then = called.sent lives documents shows in
        whole_from t.next before old after cs called.plain.kept (λ settled. leaves_shown v.device after t.next.spool (called.told.1 holds.tells) (settled lives) (called.plain.synced lives (settled lives)) then) then others lives
        (whole_then v.device lawful s.spool.disk t.next.spool.disk before old (called.told.1 holds.tells) one))
        (λ image has. inl has) (λ image from. ⊎_elim (λ has. inl has) (λ along. inr (inr along)) from)
    whole_from s before old documents (settle_call next ∷ cs) kept left shows (called, others) alive holds =
        after_call s (settle_call next) cs (HasWholeBeforeOrAll before old s.spool.state documents) (IsWholeFrom next.spool.state documents next documents cs) (IsWholeFrom before old s documents (settle_call next ∷ cs)) next.spool.dead refl others
        (called.spool.documents alive before old documents holds shows)
        (λ lives.
        let then = called.spool.sent lives holds.tells documents shows in
        whole_from next next.spool.state documents documents cs (λ settled. called.spool.kept) (λ settled. then) (shows_left v.device lawful documents next.spool (called.spool.settled lives) then) others lives
        (holds_whole next documents called.spool.kept then lives (called.spool.told.1 holds.tells)))
        (λ image either. ⊎_elim (λ has. inl has) (λ all. inr (inl all)) either) (λ image from. inr (inr (whole_rest_from next documents cs image from)))

    pub whole_along_calls : (s : RunState D) (documents : Documents) (cs : List (Call D)) → IsKept v.device s.spool → LeavesDocuments v.device documents s.spool → ShowsDocuments v.device documents s.spool → AreCalls v s cs → s.spool.dead ≡ false → IsSome (v.device.bytes s.spool.disk)
        → LeavesOnly v.device s.spool.disk (last_by s cs).spool.disk (IsWholeAlongCalls v.mime s documents cs)
    whole_along_calls s documents cs kept leaves shows are alive tells =
        weaker_run v.device s.spool.disk (last_by s cs).spool.disk (IsWholeAlongCalls v.mime s documents cs) (IsWholeFrom s.spool.state documents s documents cs)
        (whole_from s s.spool.state documents documents cs (λ settled. kept) (λ settled. leaves) shows are alive (holds_whole s documents kept leaves alive tells)) (whole_rest_from s documents cs)

    -- ## After the first of the calls

    pub along_later_calls : (s : RunState D) (first others : List (Call D)) → IsKeptIfSettled s → AreCalls v s (first ++ others) → NoneStaged (last_by s first).spool → (last_by s first).spool.dead ≡ false → IsSome (v.device.bytes (last_by s first).spool.disk)
        → LeavesOnly v.device (last_by s first).spool.disk (last_by s (first ++ others)).spool.disk (IsAlongCalls v.mime (last_by s first) others)
    along_later_calls s [] others kept are settled alive tells = along_calls s others (kept settled) are alive tells
    along_later_calls s (c ∷ first) others kept are settled alive tells = along_later_calls (left_by s c) first others (kept_call s c kept are.0) are.1 settled alive tells

    -- The documents after a call, as they are shown and, if nothing is staged, as a crash leaves them.
    last_call : (s : RunState D) (documents : Documents) (c : Call D) → IsCall v s c → (left_by s c).spool.dead ≡ false → IsSome (v.device.bytes s.spool.disk) → ShowsDocuments v.device documents s.spool → AreLeftIfSettled documents s
        → ShowsDocuments v.device (documents_by v.mime s documents c) (left_by s c).spool × AreLeftIfSettled (documents_by v.mime s documents c) (left_by s c)
    last_call s documents (round_call r) called lives tells shows left =
        let then = called.1.lasting lives tells documents (left called.0.0) in (shows_left v.device lawful documents r.next.spool (called.0.1 lives) then, λ settled. then)
    last_call s documents (tick_call t) called lives tells shows left =
        let then = called.1.lasting lives tells documents (left called.0.0) in (shows_left v.device lawful documents t.next.spool (called.0.1 lives) then, λ settled. then)
    last_call s documents (run_call turns) called lives tells shows left =
        let then = last_turns s documents turns called.1 lives tells (left called.0.0) in
        (shows_left v.device lawful (last_documents v.mime s documents turns) (last_run_state s turns).spool (called.0.1 lives) then, λ settled. then)
    last_call s documents (stage_call t) called lives tells shows left =
        let then = called.sent lives documents shows in
        (then, λ settled. leaves_shown v.device (documents_left v.mime s documents t) t.next.spool (called.told.1 tells) (settled lives) (called.plain.synced lives (settled lives)) then)
    last_call s documents (settle_call next) called lives tells shows left =
        let then = called.spool.sent lives tells documents shows in (shows_left v.device lawful documents next.spool (called.spool.settled lives) then, λ settled. then)

    pub whole_along_later_calls : (s : RunState D) (documents : Documents) (first others : List (Call D)) → IsKeptIfSettled s → ShowsDocuments v.device documents s.spool → AreLeftIfSettled documents s → AreCalls v s (first ++ others) → NoneStaged (last_by s first).spool
        → (last_by s first).spool.dead ≡ false → IsSome (v.device.bytes (last_by s first).spool.disk)
        → LeavesOnly v.device (last_by s first).spool.disk (last_by s (first ++ others)).spool.disk (IsWholeAlongCalls v.mime (last_by s first) (last_documents_by v.mime s documents first) others)
    whole_along_later_calls s documents [] others kept shows left are settled alive tells = whole_along_calls s documents others (kept settled) (left settled) shows are alive tells
    whole_along_later_calls s documents (c ∷ first) others kept shows left are settled alive tells =
        let these = first_calls (left_by s c) first others are.1 in
        let lives = alive_calls (left_by s c) first (left_by s c).spool.dead refl these alive in
        let told = told_call s c are.0 (told_calls (left_by s c) first these tells) in
        let then = last_call s documents c are.0 lives told shows left in
        whole_along_later_calls (left_by s c) (documents_by v.mime s documents c) first others (kept_call s c kept are.0) then.0 then.1 are.1 settled alive tells

    pub whole_later : (s : RunState D) (documents : Documents) (first others : List (Call D)) → IsKept v.device s.spool → LeavesDocuments v.device documents s.spool → NoneStaged s.spool → AreCalls v s (first ++ others) → NoneStaged (last_by s first).spool
        → (last_by s first).spool.dead ≡ false → IsSome (v.device.bytes (last_by s first).spool.disk)
        → LeavesOnly v.device (last_by s first).spool.disk (last_by s (first ++ others)).spool.disk (IsWholeAlongCalls v.mime (last_by s first) (last_documents_by v.mime s documents first) others)
    whole_later s documents first others kept leaves none are settled alive tells =
        let lives = alive_calls s first s.spool.dead refl (first_calls s first others are) alive in
        whole_along_later_calls s documents first others (λ settled. kept) (shows_left v.device lawful documents s.spool (none lives) leaves) (λ settled. leaves) are settled alive tells

    -- ## A batch

    dead_staged : (s : RunState D) (ts : List (CommandStep D)) → s.spool.dead ≡ true → AreStagedSteps v s ts → (last_run_state s ts).spool ≡ s.spool
    dead_staged s [] died are = refl
    dead_staged s (t ∷ ts) died are =
        let same : t.next.spool ≡ s.spool = dead_still v s t t.how died are.0.how in
        dead_staged t.next ts (ap (λ x. x.dead) same ∙ died) are.1 ∙ same

    -- A staged step, followed by others and by the settle. The premise for these requires that the spool is alive after the first one.
    after_staged : (s : RunState D) (before : State) (t : CommandStep D) (ts : List (CommandStep D)) (next : RunState D) (b : Bool) → t.next.spool.dead ≡ b → AreStagedSteps v t.next ts → SettlesTo v.device (last_run_state t.next ts) next
        → LeavesOnly v.device s.spool.disk t.next.spool.disk (HasTable before)
        → (t.next.spool.dead ≡ false → LeavesOnly v.device t.next.spool.disk next.spool.disk (HasBeforeOrAllEvents before (last_run_state t.next ts).spool.state))
        → LeavesOnly v.device s.spool.disk next.spool.disk (HasBeforeOrAllEvents before (last_run_state t.next ts).spool.state)
    after_staged s before t ts next true died others settles run rest =
        let R : List ℕ → Type 0 = HasBeforeOrAllEvents before (last_run_state t.next ts).spool.state in
        let same : (last_run_state t.next ts).spool ≡ t.next.spool = dead_staged t.next ts died others in
        let end : next.spool ≡ t.next.spool = settles.spool.died (ap (λ x. x.dead) same ∙ died) ∙ same in
        subst (λ x. LeavesOnly v.device s.spool.disk x.disk R) (sym end) (weaker_run v.device s.spool.disk t.next.spool.disk R (HasTable before) run (λ c has. inl has))
    after_staged s before t ts next false lives others settles run rest =
        let R : List ℕ → Type 0 = HasBeforeOrAllEvents before (last_run_state t.next ts).spool.state in
        runs_on v.device s.spool.disk t.next.spool.disk next.spool.disk R R (weaker_run v.device s.spool.disk t.next.spool.disk R (HasTable before) run (λ c has. inl has)) (rest lives) (λ c either. either)

    -- A crash in a batch leaves the table without its events or the one with all of them.
    pub batch_from : (s : RunState D) (before : State) (ts : List (CommandStep D)) (next : RunState D) → AreStagedSteps v s ts → SettlesTo v.device (last_run_state s ts) next → s.spool.dead ≡ false → HoldsTable v.device s.spool.disk before
        → LeavesOnly v.device s.spool.disk next.spool.disk (HasBeforeOrAllEvents before (last_run_state s ts).spool.state)
    batch_from s before [] next are settles alive holds = settles.spool.tables alive before holds
    batch_from s before (t ∷ ts) next (one, others) settles alive holds =
        let run = one.still.tables alive before holds in
        after_staged s before t ts next t.next.spool.dead refl others settles run
        (λ lives. batch_from t.next before ts next others settles lives (holds_then v.device lawful s.spool.disk t.next.spool.disk before (one.told.1 holds.tells) run))
