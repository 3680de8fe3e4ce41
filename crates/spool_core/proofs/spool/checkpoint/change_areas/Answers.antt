use Rattle.std.proofs.Common.{◌≡◌, ◌∙◌, ◌+◌, length, map, sym, subst, ap, refl, arith, Ok, Err}
use Rattle.std.specs.Prelude.{IsSome}
use Rattle.spool_types.specs.State.{State, job_at}
use Rattle.spool_disk.specs.Disk.{LeavesOnly}
use Rattle.spool_disk.proofs.Moments.{no_change}
use Rattle.spool_disk.proofs.Ranges.{tells_still}
use Rattle.spool_areas.specs.Checkpoint.{other_base, plan_of}
use Rattle.job_table.specs.Contents.{HasMoves, places_of}
use Rattle.job_table.specs.TableVersions.{raised}
use Rattle.spool_core.specs.Checkpointing.{blank, fault_for, listed_payloads, IsCheckpoint, IsCheckpointed, IsListed, IsUnlisted}
use Rattle.spool_core.specs.Image.{HasInEitherVersion, HasDocuments}
use Rattle.spool_core.specs.SpoolFields.{open_spool_at}
use Rattle.spool_core.specs.declared.spool.checkpoint_fault.CheckpointFault.{CheckpointFault}
use Rattle.spool_core.proofs.ImageLaws.{go_on, stands_on, told_before}
use Rattle.spool_core.proofs.CheckpointLaws.{alive_planned, blames_none, unlisted_for}
use Rattle.spool_core.proofs.ChangeLaws.{moves_noted, listed_answer, unlisted_answer, leaves_table, leaves_whole, checkpointed, stands_listed, told_bytes, still_table, still_documents, dead_on}
use Rattle.spool_core.proofs.spool.checkpoint.change_areas.Goals as goal

pub returns-in-Err-clause-any_moment : goal.returns-in-Err-clause-any_moment
returns-in-Err-clause-any_moment g c alive tells =
    let v = g.D.Disk.device in
    let a = c.args.areas.now in
    still_table v g.met.D.Disk.lawful a c.args.table.now c.requires.open_spool alive a.disk (no_change v a.disk g.met.D.Disk.lawful) tells

pub returns-in-Err-clause-documents : goal.returns-in-Err-clause-documents
returns-in-Err-clause-documents g c alive r documents tells has =
    let v = g.D.Disk.device in
    let a = c.args.areas.now in
    still_documents v g.met.D.Disk.lawful a c.args.table.now c.requires.open_spool alive a.disk (no_change v a.disk g.met.D.Disk.lawful) r documents tells has

pub returns-in-Err-prepare-clause-any_moment : goal.returns-in-Err-prepare-clause-any_moment
returns-in-Err-prepare-clause-any_moment g c alive tells =
    let v = g.D.Disk.device in
    let a = c.args.areas.now in
    still_table v g.met.D.Disk.lawful a c.args.table.now c.requires.open_spool alive a.disk (no_change v a.disk g.met.D.Disk.lawful) tells

pub returns-in-Err-prepare-clause-documents : goal.returns-in-Err-prepare-clause-documents
returns-in-Err-prepare-clause-documents g c alive r documents tells has =
    let v = g.D.Disk.device in
    let a = c.args.areas.now in
    still_documents v g.met.D.Disk.lawful a c.args.table.now c.requires.open_spool alive a.disk (no_change v a.disk g.met.D.Disk.lawful) r documents tells has

pub returns-in-Err-prepare-clause-open_spool : goal.returns-in-Err-prepare-clause-open_spool
returns-in-Err-prepare-clause-open_spool g c =
    let v = g.D.Disk.device in
    let a = c.args.areas.now in
    let t = c.prepare.new.table in
    let stands = stands_on v a a c.args.table.now t (go_on v a) c.prepare.ensures.same c.prepare.ensures.places c.requires.open_spool in
    stands

pub returns-in-Err-plan_by_sum-clause-any_moment : goal.returns-in-Err-plan_by_sum-clause-any_moment
returns-in-Err-plan_by_sum-clause-any_moment g c alive tells =
    let v = g.D.Disk.device in
    let a = c.args.areas.now in
    still_table v g.met.D.Disk.lawful a c.args.table.now c.requires.open_spool alive a.disk (no_change v a.disk g.met.D.Disk.lawful) tells

pub returns-in-Err-plan_by_sum-clause-documents : goal.returns-in-Err-plan_by_sum-clause-documents
returns-in-Err-plan_by_sum-clause-documents g c alive r documents tells has =
    let v = g.D.Disk.device in
    let a = c.args.areas.now in
    still_documents v g.met.D.Disk.lawful a c.args.table.now c.requires.open_spool alive a.disk (no_change v a.disk g.met.D.Disk.lawful) r documents tells has

pub returns-in-Err-plan_by_sum-clause-open_spool : goal.returns-in-Err-plan_by_sum-clause-open_spool
returns-in-Err-plan_by_sum-clause-open_spool g c =
    let v = g.D.Disk.device in
    let a = c.args.areas.now in
    let t = c.prepare.new.table in
    let stands = stands_on v a a c.args.table.now t (go_on v a) c.prepare.ensures.same c.prepare.ensures.places c.requires.open_spool in
    stands

pub returns-in-Err-plan_by_sum-clause-answer : goal.returns-in-Err-plan_by_sum-clause-answer
returns-in-Err-plan_by_sum-clause-answer g c =
    let v = g.D.Disk.device in
    let a = c.args.areas.now in
    let t = c.prepare.new.table in
    let stands = stands_on v a a c.args.table.now t (go_on v a) c.prepare.ensures.same c.prepare.ensures.places c.requires.open_spool in
    let fault = c.in-Err-plan_by_sum.fault in
    let all = listed_payloads t.state (blank t.state) in
    let plan : plan_of a (map length all) ≡ Err fault = sym (c.plan_by_sum.ensures.exact all c.in-Ok-prepare.ensures.sum) ∙ c.in-Err-plan_by_sum.is in
    subst (λ (f : CheckpointFault). IsCheckpoint v (open_spool_at a c.args.table.now.state) (Err f) (open_spool_at a t.state)) (sym c.fault_of-in-Err-plan_by_sum.ensures)
    (subst (λ (s : State). IsCheckpoint v (open_spool_at a s) (Err (fault_for fault)) (open_spool_at a t.state)) c.prepare.ensures.same
    (unlisted_for v a stands.area.end_is t.state fault plan))

pub returns-in-Err-plan_by_sum-clause-blames : goal.returns-in-Err-plan_by_sum-clause-blames
returns-in-Err-plan_by_sum-clause-blames g c =
    let v = g.D.Disk.device in
    let a = c.args.areas.now in
    let t = c.prepare.new.table in
    let stands = stands_on v a a c.args.table.now t (go_on v a) c.prepare.ensures.same c.prepare.ensures.places c.requires.open_spool in
    let fault = c.in-Err-plan_by_sum.fault in
    let all = listed_payloads t.state (blank t.state) in
    let plan : plan_of a (map length all) ≡ Err fault = sym (c.plan_by_sum.ensures.exact all c.in-Ok-prepare.ensures.sum) ∙ c.in-Err-plan_by_sum.is in
    blames_none v a c.args.table.now.state t.state c.fault_of-in-Err-plan_by_sum.result
    (subst (λ (f : CheckpointFault). IsCheckpoint v (open_spool_at a c.args.table.now.state) (Err f) (open_spool_at a t.state)) (sym c.fault_of-in-Err-plan_by_sum.ensures)
    (subst (λ (s : State). IsCheckpoint v (open_spool_at a s) (Err (fault_for fault)) (open_spool_at a t.state)) c.prepare.ensures.same
    (unlisted_for v a stands.area.end_is t.state fault plan)))

pub fill_other-requires-clause-alive : goal.fill_other-requires-clause-alive
fill_other-requires-clause-alive g c =
    let v = g.D.Disk.device in
    let a = c.args.areas.now in
    let t = c.prepare.new.table in
    let stands = stands_on v a a c.args.table.now t (go_on v a) c.prepare.ensures.same c.prepare.ensures.places c.requires.open_spool in
    let ok = c.in-Ok-prepare.ensures in
    let first = c.in-Ok-plan_by_sum.field-0 in
    let all = listed_payloads t.state (blank t.state) in
    let plan : plan_of a (map length all) ≡ Ok first = sym (c.plan_by_sum.ensures.exact all ok.sum) ∙ c.in-Ok-plan_by_sum.is in
    alive_planned v a stands.area.end_is t.state first plan

pub fill_other-requires-clause-stands : goal.fill_other-requires-clause-stands
fill_other-requires-clause-stands g c =
    let v = g.D.Disk.device in
    let a = c.args.areas.now in
    let t = c.prepare.new.table in
    let stands = stands_on v a a c.args.table.now t (go_on v a) c.prepare.ensures.same c.prepare.ensures.places c.requires.open_spool in
    stands

pub fill_other-requires-clause-plan : goal.fill_other-requires-clause-plan
fill_other-requires-clause-plan g c = c.in-Ok-plan_by_sum.ensures.begins ∙ ap Ok c.in-Ok-plan_by_sum.ensures.first

pub fill_other-requires-clause-room : goal.fill_other-requires-clause-room
fill_other-requires-clause-room g c =
    let t = c.prepare.new.table in
    omega (arith, c.in-Ok-plan_by_sum.ensures.first, c.in-Ok-plan_by_sum.ensures.fits (listed_payloads t.state (blank t.state)) c.in-Ok-prepare.ensures.sum)

pub commit_moves-requires : goal.commit_moves-requires
commit_moves-requires g c =
    let t = c.prepare.new.table in
    subst (λ (s : State). HasMoves s c.fill_other.new.table.moves) (sym c.fill_other.ensures.same)
    (moves_noted t.state (other_base c.args.areas.now + 16) c.fill_other.new.table.moves c.in-Ok-prepare.ensures.legal.0 c.in-Ok-fill_other.ensures.noted)

pub returns-in-Ok-fill_other-clause-answer : goal.returns-in-Ok-fill_other-clause-answer
returns-in-Ok-fill_other-clause-answer g c =
    let v = g.D.Disk.device in
    let a = c.args.areas.now in
    let t = c.prepare.new.table in
    let stands = stands_on v a a c.args.table.now t (go_on v a) c.prepare.ensures.same c.prepare.ensures.places c.requires.open_spool in
    let ok = c.in-Ok-prepare.ensures in
    let first = c.in-Ok-plan_by_sum.field-0 in
    let all = listed_payloads t.state (blank t.state) in
    let plan : plan_of a (map length all) ≡ Ok first = sym (c.plan_by_sum.ensures.exact all ok.sum) ∙ c.in-Ok-plan_by_sum.is in
    let over = c.in-Ok-fill_other.ensures.over in
    subst (λ (s : State). IsListed v (open_spool_at a s) (open_spool_at c.fill_other.new.areas c.raise.new.self.state)) c.prepare.ensures.same
    (listed_answer v g.met.D.Disk.lawful a t stands ok.legal.0 ok.legal.1 ok.sized first plan over.listed.rows over.listed.listing_is c.fill_other.new.areas c.raise.new.self.state
    (c.raise.ensures.state ∙ ap raised (c.commit_moves.ensures.same ∙ c.fill_other.ensures.same)) over.listed.changed over.alive)

pub returns-in-Ok-fill_other-clause-blames : goal.returns-in-Ok-fill_other-clause-blames
returns-in-Ok-fill_other-clause-blames g c =
    let same = c.in-Ok-fill_other.ensures.over.counted in
    record { later = omega (arith, same); failed = λ is. absurd (cc is); counted = λ no. same }

pub returns-in-Ok-fill_other-clause-told : goal.returns-in-Ok-fill_other-clause-told
returns-in-Ok-fill_other-clause-told g c = (told_before _ _ _ c.fill_other.ensures.over.changes.bytes, tells_still _ _ _ c.fill_other.ensures.over.changes.bytes)

pub returns-in-Ok-fill_other-clause-any_moment : goal.returns-in-Ok-fill_other-clause-any_moment
returns-in-Ok-fill_other-clause-any_moment g c alive tells =
    let v = g.D.Disk.device in
    let a = c.args.areas.now in
    let t = c.prepare.new.table in
    let stands = stands_on v a a c.args.table.now t (go_on v a) c.prepare.ensures.same c.prepare.ensures.places c.requires.open_spool in
    let ok = c.in-Ok-prepare.ensures in
    let first = c.in-Ok-plan_by_sum.field-0 in
    let all = listed_payloads t.state (blank t.state) in
    let plan : plan_of a (map length all) ≡ Ok first = sym (c.plan_by_sum.ensures.exact all ok.sum) ∙ c.in-Ok-plan_by_sum.is in
    let told = told_bytes (v.bytes a.disk) tells in
    let b = c.fill_other.new.areas in
    subst (λ (s : State). LeavesOnly v a.disk b.disk (HasInEitherVersion s)) c.prepare.ensures.same
    (leaves_table v g.met.D.Disk.lawful a t stands ok.legal.0 ok.legal.1 ok.sized first plan b c.fill_other.ensures.over.changes c.fill_other.ensures.over.leaves told.0 told.1)

pub returns-in-Ok-fill_other-clause-documents : goal.returns-in-Ok-fill_other-clause-documents
returns-in-Ok-fill_other-clause-documents g c alive r documents tells has =
    let v = g.D.Disk.device in
    let a = c.args.areas.now in
    let t = c.prepare.new.table in
    let stands = stands_on v a a c.args.table.now t (go_on v a) c.prepare.ensures.same c.prepare.ensures.places c.requires.open_spool in
    let ok = c.in-Ok-prepare.ensures in
    let first = c.in-Ok-plan_by_sum.field-0 in
    let all = listed_payloads t.state (blank t.state) in
    let plan : plan_of a (map length all) ≡ Ok first = sym (c.plan_by_sum.ensures.exact all ok.sum) ∙ c.in-Ok-plan_by_sum.is in
    let b = c.fill_other.new.areas in
    subst (λ (s : State). LeavesOnly v a.disk b.disk (HasDocuments s documents)) c.prepare.ensures.same
    (leaves_whole v g.met.D.Disk.lawful a t stands ok.legal.0 ok.legal.1 ok.sized first plan b c.fill_other.ensures.over.changes c.fill_other.ensures.over.leaves r tells ok.own documents (subst (λ (s : State). HasDocuments s documents r) (sym c.prepare.ensures.same) has))

pub returns-in-Ok-fill_other-clause-listed : goal.returns-in-Ok-fill_other-clause-listed
returns-in-Ok-fill_other-clause-listed g c tells image left =
    let v = g.D.Disk.device in
    let a = c.args.areas.now in
    let t = c.prepare.new.table in
    let stands = stands_on v a a c.args.table.now t (go_on v a) c.prepare.ensures.same c.prepare.ensures.places c.requires.open_spool in
    let ok = c.in-Ok-prepare.ensures in
    let first = c.in-Ok-plan_by_sum.field-0 in
    let all = listed_payloads t.state (blank t.state) in
    let plan : plan_of a (map length all) ≡ Ok first = sym (c.plan_by_sum.ensures.exact all ok.sum) ∙ c.in-Ok-plan_by_sum.is in
    let over = c.in-Ok-fill_other.ensures.over in
    let told = told_bytes (v.bytes a.disk) tells in
    let keeps = stands.table (alive_planned v a stands.area.end_is t.state first plan) tells in
    subst (λ (s : State). IsCheckpointed s c.fill_other.new.areas.epoch image) c.prepare.ensures.same
    (checkpointed v g.met.D.Disk.lawful a t stands ok.legal.0 ok.legal.1 ok.sized first plan over.listed.rows over.listed.listing_is told.0 told.1 c.fill_other.new.areas over.listed.changed.version
    (over.listed.kept keeps.payloads keeps.kept) image left)

pub returns-in-Ok-fill_other-clause-open_spool : goal.returns-in-Ok-fill_other-clause-open_spool
returns-in-Ok-fill_other-clause-open_spool g c =
    let v = g.D.Disk.device in
    let a = c.args.areas.now in
    let t = c.prepare.new.table in
    let stands = stands_on v a a c.args.table.now t (go_on v a) c.prepare.ensures.same c.prepare.ensures.places c.requires.open_spool in
    let ok = c.in-Ok-prepare.ensures in
    let first = c.in-Ok-plan_by_sum.field-0 in
    let all = listed_payloads t.state (blank t.state) in
    let plan : plan_of a (map length all) ≡ Ok first = sym (c.plan_by_sum.ensures.exact all ok.sum) ∙ c.in-Ok-plan_by_sum.is in
    let over = c.in-Ok-fill_other.ensures.over in
    let new = c.fill_other.new.areas in
    let alive = alive_planned v a stands.area.end_is t.state first plan in
    stands_listed v g.met.D.Disk.lawful a t stands ok.legal.0 ok.legal.1 ok.sized first plan over.listed.rows over.listed.listing_is new over.listed.changed over.changes.size c.raise.new.self
    (c.raise.ensures.state ∙ ap raised (c.commit_moves.ensures.same ∙ c.fill_other.ensures.same)) c.fill_other.new.table.moves c.in-Ok-fill_other.ensures.noted
    (λ j q there lives. ap (λ ps. places_of ps j) c.raise.ensures.places ∙ c.commit_moves.ensures.places j q (sym (ap (λ (s : State). job_at s j) c.raise.ensures.state) ∙ there) lives)
    c.jobs-jobs.ensures.own
    (λ now r tells. let keeps = stands.table alive (subst IsSome (sym tells) refl) in over.listed.kept keeps.payloads keeps.kept)
    (λ tells. told_bytes (v.bytes a.disk) (told_before _ _ _ over.changes.bytes tells))

pub returns-in-Err-fill_other-clause-answer : goal.returns-in-Err-fill_other-clause-answer
returns-in-Err-fill_other-clause-answer g c =
    let v = g.D.Disk.device in
    let a = c.args.areas.now in
    let t = c.prepare.new.table in
    let stands = stands_on v a a c.args.table.now t (go_on v a) c.prepare.ensures.same c.prepare.ensures.places c.requires.open_spool in
    let ok = c.in-Ok-prepare.ensures in
    let first = c.in-Ok-plan_by_sum.field-0 in
    let all = listed_payloads t.state (blank t.state) in
    let plan : plan_of a (map length all) ≡ Ok first = sym (c.plan_by_sum.ensures.exact all ok.sum) ∙ c.in-Ok-plan_by_sum.is in
    let over = c.in-Err-fill_other.ensures.over in
    subst (λ (s : State). IsUnlisted v (open_spool_at a s) (open_spool_at c.fill_other.new.areas c.fill_other.new.table.state)) c.prepare.ensures.same
    (unlisted_answer v g.met.D.Disk.lawful a t stands ok.legal.0 ok.legal.1 ok.sized first plan c.fill_other.new.areas c.fill_other.new.table.state c.fill_other.ensures.same over.held over.dead over.cause)

pub returns-in-Err-fill_other-clause-any_moment : goal.returns-in-Err-fill_other-clause-any_moment
returns-in-Err-fill_other-clause-any_moment g c alive tells =
    let v = g.D.Disk.device in
    let a = c.args.areas.now in
    let t = c.prepare.new.table in
    let stands = stands_on v a a c.args.table.now t (go_on v a) c.prepare.ensures.same c.prepare.ensures.places c.requires.open_spool in
    let ok = c.in-Ok-prepare.ensures in
    let first = c.in-Ok-plan_by_sum.field-0 in
    let all = listed_payloads t.state (blank t.state) in
    let plan : plan_of a (map length all) ≡ Ok first = sym (c.plan_by_sum.ensures.exact all ok.sum) ∙ c.in-Ok-plan_by_sum.is in
    let told = told_bytes (v.bytes a.disk) tells in
    let b = c.fill_other.new.areas in
    subst (λ (s : State). LeavesOnly v a.disk b.disk (HasInEitherVersion s)) c.prepare.ensures.same
    (leaves_table v g.met.D.Disk.lawful a t stands ok.legal.0 ok.legal.1 ok.sized first plan b c.fill_other.ensures.over.changes c.fill_other.ensures.over.leaves told.0 told.1)

pub returns-in-Err-fill_other-clause-documents : goal.returns-in-Err-fill_other-clause-documents
returns-in-Err-fill_other-clause-documents g c alive r documents tells has =
    let v = g.D.Disk.device in
    let a = c.args.areas.now in
    let t = c.prepare.new.table in
    let stands = stands_on v a a c.args.table.now t (go_on v a) c.prepare.ensures.same c.prepare.ensures.places c.requires.open_spool in
    let ok = c.in-Ok-prepare.ensures in
    let first = c.in-Ok-plan_by_sum.field-0 in
    let all = listed_payloads t.state (blank t.state) in
    let plan : plan_of a (map length all) ≡ Ok first = sym (c.plan_by_sum.ensures.exact all ok.sum) ∙ c.in-Ok-plan_by_sum.is in
    let b = c.fill_other.new.areas in
    subst (λ (s : State). LeavesOnly v a.disk b.disk (HasDocuments s documents)) c.prepare.ensures.same
    (leaves_whole v g.met.D.Disk.lawful a t stands ok.legal.0 ok.legal.1 ok.sized first plan b c.fill_other.ensures.over.changes c.fill_other.ensures.over.leaves r tells ok.own documents (subst (λ (s : State). HasDocuments s documents r) (sym c.prepare.ensures.same) has))

pub returns-in-Err-fill_other-clause-open_spool : goal.returns-in-Err-fill_other-clause-open_spool
returns-in-Err-fill_other-clause-open_spool g c =
    let v = g.D.Disk.device in
    let a = c.args.areas.now in
    let t = c.prepare.new.table in
    let stands = stands_on v a a c.args.table.now t (go_on v a) c.prepare.ensures.same c.prepare.ensures.places c.requires.open_spool in
    let over = c.in-Err-fill_other.ensures.over in
    let b = c.fill_other.new.areas in
    stands_on v a b t c.fill_other.new.table
    (dead_on v a b over.held over.changes.size (told_before _ _ _ over.changes.bytes) over.dead)
    c.fill_other.ensures.same c.fill_other.ensures.places stands

pub returns-in-Err-fill_other-clause-settled : goal.returns-in-Err-fill_other-clause-settled
returns-in-Err-fill_other-clause-settled g c alive = let dead = c.in-Err-fill_other.ensures.over.dead in absurd (cc (dead, alive))
