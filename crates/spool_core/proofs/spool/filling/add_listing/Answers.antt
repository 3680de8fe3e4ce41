use Rattle.std.proofs.Common.{◌≤◌, ◌∷◌, ◌++◌, ◌+◌, [], ℕ, List, Ok, Err, map, refl, sym, subst, ap, arith}
use Rattle.std.specs.FinMap as finite
use Rattle.std.specs.List.{flat_map, AllByRecursion}
use Rattle.spool_types.specs.Limits.{greatest_number}
use Rattle.spool_types.specs.declared.listing.Head.{Head as HeadOf}
use Rattle.spool_types.specs.declared.rows.QueueRow.{QueueRow}
use Rattle.spool_types.specs.declared.listing.Row.{Row}
use Rattle.spool_types.specs.declared.listing.Row.TheVariants.{Head, Queue}
use Rattle.event_codec.specs.RowSpelling.{IsLegalRow, IsOrderedQueue}
use Rattle.job_table.specs.Listing.{head_of}
use Rattle.job_table.specs.Loading.{begin_loading, loaded}
use Rattle.spool_core.specs.Checkpointing.{blank, blank_rows}
use Rattle.listing_rows.specs.RowFilling.{filling_at, AddsRows, MayFill, next_place}
use Rattle.listing_rows.proofs.RowLaws.{end_room, end_short, end_spare, end_whole, err_on, put_adds, put_back, put_on}
use Rattle.spool_core.proofs.AddLaws.{lie_on, may_first, may_more, then_adds, then_on}
use Rattle.spool_core.proofs.AllLaws.{blank_fits, head_rows, listing_added, listing_may, listing_noted}
use Rattle.spool_core.proofs.ListingLaws.{on_ok, told}
use Rattle.spool_core.proofs.Numbers.{jobs_found}
use Rattle.spool_core.proofs.spool.filling.add_listing.Goals as goal

pub end_record-requires-clause-whole : goal.end_record-requires-clause-whole
end_record-requires-clause-whole g c =
    let v = g.D.Disk.device in
    let lawful = g.met.D.Disk.lawful in
    let a = c.args.areas.now in
    let filler = c.args.filler.now in
    let table = c.args.table.now in
    let s = table.state in
    let f = filling_at a filler in
    let head = Head c.head.result in
    let queues : List Row = map (λ (q : QueueRow). Queue q) (finite.values s.queues) in
    let jobs : List Row = flat_map blank_rows (finite.values s.jobs) in
    let put = c.put_head-start.new.block in
    let start = c.put_head-start.result in
    let is = c.put_head-start.ensures.put in
    let found = jobs_found s c.queues-queues.ensures.legal in
    let numbers : s.highest ≤ greatest_number = omega (arith, c.highest-highest.ensures.value, c.highest-highest.ensures.at_most) in
    let all : MayFill v (head ∷ (queues ++ jobs)) f = subst (λ (h : HeadOf). MayFill v (Head h ∷ (queues ++ jobs)) f) (sym c.head.ensures) (listing_may v s f found c.requires.may) in
    let may = may_first v lawful (head ∷ []) (queues ++ jobs) f all in
    end_whole v a filler.gate head filler.block put start may is c.requires.spare

pub end_record-requires-clause-short : goal.end_record-requires-clause-short
end_record-requires-clause-short g c =
    let v = g.D.Disk.device in
    let lawful = g.met.D.Disk.lawful in
    let a = c.args.areas.now in
    let filler = c.args.filler.now in
    let table = c.args.table.now in
    let s = table.state in
    let f = filling_at a filler in
    let head = Head c.head.result in
    let queues : List Row = map (λ (q : QueueRow). Queue q) (finite.values s.queues) in
    let jobs : List Row = flat_map blank_rows (finite.values s.jobs) in
    let put = c.put_head-start.new.block in
    let start = c.put_head-start.result in
    let is = c.put_head-start.ensures.put in
    let found = jobs_found s c.queues-queues.ensures.legal in
    let numbers : s.highest ≤ greatest_number = omega (arith, c.highest-highest.ensures.value, c.highest-highest.ensures.at_most) in
    let all : MayFill v (head ∷ (queues ++ jobs)) f = subst (λ (h : HeadOf). MayFill v (Head h ∷ (queues ++ jobs)) f) (sym c.head.ensures) (listing_may v s f found c.requires.may) in
    let may = may_first v lawful (head ∷ []) (queues ++ jobs) f all in
    end_short v a filler.gate head filler.block put start may is c.requires.spare

pub end_record-requires-clause-spare : goal.end_record-requires-clause-spare
end_record-requires-clause-spare g c =
    let v = g.D.Disk.device in
    let lawful = g.met.D.Disk.lawful in
    let a = c.args.areas.now in
    let filler = c.args.filler.now in
    let table = c.args.table.now in
    let s = table.state in
    let f = filling_at a filler in
    let head = Head c.head.result in
    let queues : List Row = map (λ (q : QueueRow). Queue q) (finite.values s.queues) in
    let jobs : List Row = flat_map blank_rows (finite.values s.jobs) in
    let put = c.put_head-start.new.block in
    let start = c.put_head-start.result in
    let is = c.put_head-start.ensures.put in
    let found = jobs_found s c.queues-queues.ensures.legal in
    let numbers : s.highest ≤ greatest_number = omega (arith, c.highest-highest.ensures.value, c.highest-highest.ensures.at_most) in
    let all : MayFill v (head ∷ (queues ++ jobs)) f = subst (λ (h : HeadOf). MayFill v (Head h ∷ (queues ++ jobs)) f) (sym c.head.ensures) (listing_may v s f found c.requires.may) in
    let may = may_first v lawful (head ∷ []) (queues ++ jobs) f all in
    end_spare v a filler.gate head filler.block put start may is c.requires.spare

pub end_record-requires-clause-room : goal.end_record-requires-clause-room
end_record-requires-clause-room g c =
    let v = g.D.Disk.device in
    let lawful = g.met.D.Disk.lawful in
    let a = c.args.areas.now in
    let filler = c.args.filler.now in
    let table = c.args.table.now in
    let s = table.state in
    let f = filling_at a filler in
    let head = Head c.head.result in
    let queues : List Row = map (λ (q : QueueRow). Queue q) (finite.values s.queues) in
    let jobs : List Row = flat_map blank_rows (finite.values s.jobs) in
    let put = c.put_head-start.new.block in
    let start = c.put_head-start.result in
    let is = c.put_head-start.ensures.put in
    let found = jobs_found s c.queues-queues.ensures.legal in
    let numbers : s.highest ≤ greatest_number = omega (arith, c.highest-highest.ensures.value, c.highest-highest.ensures.at_most) in
    let all : MayFill v (head ∷ (queues ++ jobs)) f = subst (λ (h : HeadOf). MayFill v (Head h ∷ (queues ++ jobs)) f) (sym c.head.ensures) (listing_may v s f found c.requires.may) in
    let may = may_first v lawful (head ∷ []) (queues ++ jobs) f all in
    end_room v a filler.gate head filler.block put start may is c.requires.spare

pub returns-in_err-end_record-clause-on : goal.returns-in_err-end_record-clause-on
returns-in_err-end_record-clause-on g c =
    let v = g.D.Disk.device in
    let lawful = g.met.D.Disk.lawful in
    let a = c.args.areas.now in
    let filler = c.args.filler.now in
    let table = c.args.table.now in
    let s = table.state in
    let f = filling_at a filler in
    let head = Head c.head.result in
    let queues : List Row = map (λ (q : QueueRow). Queue q) (finite.values s.queues) in
    let jobs : List Row = flat_map blank_rows (finite.values s.jobs) in
    let put = c.put_head-start.new.block in
    let start = c.put_head-start.result in
    let is = c.put_head-start.ensures.put in
    let found = jobs_found s c.queues-queues.ensures.legal in
    let numbers : s.highest ≤ greatest_number = omega (arith, c.highest-highest.ensures.value, c.highest-highest.ensures.at_most) in
    let all : MayFill v (head ∷ (queues ++ jobs)) f = subst (λ (h : HeadOf). MayFill v (Head h ∷ (queues ++ jobs)) f) (sym c.head.ensures) (listing_may v s f found c.requires.may) in
    let may = may_first v lawful (head ∷ []) (queues ++ jobs) f all in
    let end = filling_at c.end_record.new.areas c.end_record.new.filler in
    let e = c.in_err-end_record.field-0.0 in
    err_on v f end e _ c.from_residual.result c.from_residual.ensures.1 (put_on v a filler.gate head filler.block put start is end (Err e) c.in_err-end_record.ensures.on)

pub add_queues-requires-clause-may : goal.add_queues-requires-clause-may
add_queues-requires-clause-may g c =
    let v = g.D.Disk.device in
    let lawful = g.met.D.Disk.lawful in
    let a = c.args.areas.now in
    let filler = c.args.filler.now in
    let table = c.args.table.now in
    let s = table.state in
    let f = filling_at a filler in
    let head = Head c.head.result in
    let queues : List Row = map (λ (q : QueueRow). Queue q) (finite.values s.queues) in
    let jobs : List Row = flat_map blank_rows (finite.values s.jobs) in
    let put = c.put_head-start.new.block in
    let start = c.put_head-start.result in
    let is = c.put_head-start.ensures.put in
    let found = jobs_found s c.queues-queues.ensures.legal in
    let numbers : s.highest ≤ greatest_number = omega (arith, c.highest-highest.ensures.value, c.highest-highest.ensures.at_most) in
    let all : MayFill v (head ∷ (queues ++ jobs)) f = subst (λ (h : HeadOf). MayFill v (Head h ∷ (queues ++ jobs)) f) (sym c.head.ensures) (listing_may v s f found c.requires.may) in
    let may = may_first v lawful (head ∷ []) (queues ++ jobs) f all in
    let placed = (c.listings_are_loaded.ensures.listed s (blank s) c.queues-queues.ensures.legal numbers (blank_fits s)).0 in
    let are = told (blank s) (finite.values s.queues) (finite.values s.jobs) (loaded (begin_loading s.version) (Head (head_of s))) placed.1 in
    let one = filling_at c.end_record.new.areas c.end_record.new.filler in
    let spellable = c.put_head-start.ensures.spellable (subst (λ (h : HeadOf). IsLegalRow (Head h)) (sym c.head.ensures) (record { at_least = omega arith; at_most = numbers })) in
    let on = put_on v a filler.gate head filler.block put start is one (Ok tt) c.in_ok-end_record.ensures.on in
    let adds = put_adds v a filler.gate head filler.block put start is one (c.in_ok-end_record.ensures.added head (put_back head filler.block put start is) spellable) in
    let rest = may_more v lawful f one on (head ∷ []) adds (queues ++ jobs) all in
    subst (λ (qs : List QueueRow). MayFill v (map (λ q. Queue q) qs) one) (sym c.queues-queues.ensures.rows) (may_first v lawful queues jobs one rest)

pub add_queues-requires-clause-spare : goal.add_queues-requires-clause-spare
add_queues-requires-clause-spare g c = omega (arith, c.requires.spare, c.put_head-start.ensures.put.spare, c.end_record.ensures.spare)

pub add_queues-requires-clause-ordered : goal.add_queues-requires-clause-ordered
add_queues-requires-clause-ordered g c =
    let v = g.D.Disk.device in
    let lawful = g.met.D.Disk.lawful in
    let a = c.args.areas.now in
    let filler = c.args.filler.now in
    let table = c.args.table.now in
    let s = table.state in
    let f = filling_at a filler in
    let head = Head c.head.result in
    let queues : List Row = map (λ (q : QueueRow). Queue q) (finite.values s.queues) in
    let jobs : List Row = flat_map blank_rows (finite.values s.jobs) in
    let put = c.put_head-start.new.block in
    let start = c.put_head-start.result in
    let is = c.put_head-start.ensures.put in
    let found = jobs_found s c.queues-queues.ensures.legal in
    let numbers : s.highest ≤ greatest_number = omega (arith, c.highest-highest.ensures.value, c.highest-highest.ensures.at_most) in
    let all : MayFill v (head ∷ (queues ++ jobs)) f = subst (λ (h : HeadOf). MayFill v (Head h ∷ (queues ++ jobs)) f) (sym c.head.ensures) (listing_may v s f found c.requires.may) in
    let may = may_first v lawful (head ∷ []) (queues ++ jobs) f all in
    let placed = (c.listings_are_loaded.ensures.listed s (blank s) c.queues-queues.ensures.legal numbers (blank_fits s)).0 in
    let are = told (blank s) (finite.values s.queues) (finite.values s.jobs) (loaded (begin_loading s.version) (Head (head_of s))) placed.1 in
    let one = filling_at c.end_record.new.areas c.end_record.new.filler in
    let spellable = c.put_head-start.ensures.spellable (subst (λ (h : HeadOf). IsLegalRow (Head h)) (sym c.head.ensures) (record { at_least = omega arith; at_most = numbers })) in
    let on = put_on v a filler.gate head filler.block put start is one (Ok tt) c.in_ok-end_record.ensures.on in
    let adds = put_adds v a filler.gate head filler.block put start is one (c.in_ok-end_record.ensures.added head (put_back head filler.block put start is) spellable) in
    let rest = may_more v lawful f one on (head ∷ []) adds (queues ++ jobs) all in
    subst (AllByRecursion IsOrderedQueue) (sym c.queues-queues.ensures.rows) are.queues

pub returns-in_err-add_queues-clause-on : goal.returns-in_err-add_queues-clause-on
returns-in_err-add_queues-clause-on g c =
    let v = g.D.Disk.device in
    let lawful = g.met.D.Disk.lawful in
    let a = c.args.areas.now in
    let filler = c.args.filler.now in
    let table = c.args.table.now in
    let s = table.state in
    let f = filling_at a filler in
    let head = Head c.head.result in
    let queues : List Row = map (λ (q : QueueRow). Queue q) (finite.values s.queues) in
    let jobs : List Row = flat_map blank_rows (finite.values s.jobs) in
    let put = c.put_head-start.new.block in
    let start = c.put_head-start.result in
    let is = c.put_head-start.ensures.put in
    let found = jobs_found s c.queues-queues.ensures.legal in
    let numbers : s.highest ≤ greatest_number = omega (arith, c.highest-highest.ensures.value, c.highest-highest.ensures.at_most) in
    let all : MayFill v (head ∷ (queues ++ jobs)) f = subst (λ (h : HeadOf). MayFill v (Head h ∷ (queues ++ jobs)) f) (sym c.head.ensures) (listing_may v s f found c.requires.may) in
    let may = may_first v lawful (head ∷ []) (queues ++ jobs) f all in
    let placed = (c.listings_are_loaded.ensures.listed s (blank s) c.queues-queues.ensures.legal numbers (blank_fits s)).0 in
    let are = told (blank s) (finite.values s.queues) (finite.values s.jobs) (loaded (begin_loading s.version) (Head (head_of s))) placed.1 in
    let one = filling_at c.end_record.new.areas c.end_record.new.filler in
    let spellable = c.put_head-start.ensures.spellable (subst (λ (h : HeadOf). IsLegalRow (Head h)) (sym c.head.ensures) (record { at_least = omega arith; at_most = numbers })) in
    let on = put_on v a filler.gate head filler.block put start is one (Ok tt) c.in_ok-end_record.ensures.on in
    let adds = put_adds v a filler.gate head filler.block put start is one (c.in_ok-end_record.ensures.added head (put_back head filler.block put start is) spellable) in
    let rest = may_more v lawful f one on (head ∷ []) adds (queues ++ jobs) all in
    let end = filling_at c.add_queues.new.areas c.add_queues.new.filler in
    let e = c.in_err-add_queues.field-0.0 in
    err_on v f end e _ c.from_residual-in_err-add_queues.result c.from_residual-in_err-add_queues.ensures.1 (then_on v lawful f one on (head ∷ []) adds end (Err e) c.in_err-add_queues.ensures.on)

pub add_jobs-requires-clause-may : goal.add_jobs-requires-clause-may
add_jobs-requires-clause-may g c =
    let v = g.D.Disk.device in
    let lawful = g.met.D.Disk.lawful in
    let a = c.args.areas.now in
    let filler = c.args.filler.now in
    let table = c.args.table.now in
    let s = table.state in
    let f = filling_at a filler in
    let head = Head c.head.result in
    let queues : List Row = map (λ (q : QueueRow). Queue q) (finite.values s.queues) in
    let jobs : List Row = flat_map blank_rows (finite.values s.jobs) in
    let put = c.put_head-start.new.block in
    let start = c.put_head-start.result in
    let is = c.put_head-start.ensures.put in
    let found = jobs_found s c.queues-queues.ensures.legal in
    let numbers : s.highest ≤ greatest_number = omega (arith, c.highest-highest.ensures.value, c.highest-highest.ensures.at_most) in
    let all : MayFill v (head ∷ (queues ++ jobs)) f = subst (λ (h : HeadOf). MayFill v (Head h ∷ (queues ++ jobs)) f) (sym c.head.ensures) (listing_may v s f found c.requires.may) in
    let may = may_first v lawful (head ∷ []) (queues ++ jobs) f all in
    let placed = (c.listings_are_loaded.ensures.listed s (blank s) c.queues-queues.ensures.legal numbers (blank_fits s)).0 in
    let are = told (blank s) (finite.values s.queues) (finite.values s.jobs) (loaded (begin_loading s.version) (Head (head_of s))) placed.1 in
    let one = filling_at c.end_record.new.areas c.end_record.new.filler in
    let spellable = c.put_head-start.ensures.spellable (subst (λ (h : HeadOf). IsLegalRow (Head h)) (sym c.head.ensures) (record { at_least = omega arith; at_most = numbers })) in
    let on = put_on v a filler.gate head filler.block put start is one (Ok tt) c.in_ok-end_record.ensures.on in
    let adds = put_adds v a filler.gate head filler.block put start is one (c.in_ok-end_record.ensures.added head (put_back head filler.block put start is) spellable) in
    let rest = may_more v lawful f one on (head ∷ []) adds (queues ++ jobs) all in
    let two = filling_at c.add_queues.new.areas c.add_queues.new.filler in
    let queued : AddsRows v queues one two = subst (λ (qs : List QueueRow). AddsRows v (map (λ q. Queue q) qs) one two) c.queues-queues.ensures.rows c.in_ok-add_queues.ensures.added in
    let both = then_on v lawful f one on (head ∷ []) adds two (Ok tt) c.in_ok-add_queues.ensures.on in
    let first : AddsRows v (head_rows s) f two = subst (λ (h : HeadOf). AddsRows v (Head h ∷ queues) f two) c.head.ensures (then_adds v lawful f one on (head ∷ []) adds two queues queued) in
    may_more v lawful one two c.in_ok-add_queues.ensures.on queues queued jobs rest

pub add_jobs-requires-clause-lie : goal.add_jobs-requires-clause-lie
add_jobs-requires-clause-lie g c =
    let v = g.D.Disk.device in
    let lawful = g.met.D.Disk.lawful in
    let a = c.args.areas.now in
    let filler = c.args.filler.now in
    let table = c.args.table.now in
    let s = table.state in
    let f = filling_at a filler in
    let head = Head c.head.result in
    let queues : List Row = map (λ (q : QueueRow). Queue q) (finite.values s.queues) in
    let jobs : List Row = flat_map blank_rows (finite.values s.jobs) in
    let put = c.put_head-start.new.block in
    let start = c.put_head-start.result in
    let is = c.put_head-start.ensures.put in
    let found = jobs_found s c.queues-queues.ensures.legal in
    let numbers : s.highest ≤ greatest_number = omega (arith, c.highest-highest.ensures.value, c.highest-highest.ensures.at_most) in
    let all : MayFill v (head ∷ (queues ++ jobs)) f = subst (λ (h : HeadOf). MayFill v (Head h ∷ (queues ++ jobs)) f) (sym c.head.ensures) (listing_may v s f found c.requires.may) in
    let may = may_first v lawful (head ∷ []) (queues ++ jobs) f all in
    let placed = (c.listings_are_loaded.ensures.listed s (blank s) c.queues-queues.ensures.legal numbers (blank_fits s)).0 in
    let are = told (blank s) (finite.values s.queues) (finite.values s.jobs) (loaded (begin_loading s.version) (Head (head_of s))) placed.1 in
    let one = filling_at c.end_record.new.areas c.end_record.new.filler in
    let spellable = c.put_head-start.ensures.spellable (subst (λ (h : HeadOf). IsLegalRow (Head h)) (sym c.head.ensures) (record { at_least = omega arith; at_most = numbers })) in
    let on = put_on v a filler.gate head filler.block put start is one (Ok tt) c.in_ok-end_record.ensures.on in
    let adds = put_adds v a filler.gate head filler.block put start is one (c.in_ok-end_record.ensures.added head (put_back head filler.block put start is) spellable) in
    let rest = may_more v lawful f one on (head ∷ []) adds (queues ++ jobs) all in
    let two = filling_at c.add_queues.new.areas c.add_queues.new.filler in
    let queued : AddsRows v queues one two = subst (λ (qs : List QueueRow). AddsRows v (map (λ q. Queue q) qs) one two) c.queues-queues.ensures.rows c.in_ok-add_queues.ensures.added in
    let both = then_on v lawful f one on (head ∷ []) adds two (Ok tt) c.in_ok-add_queues.ensures.on in
    let first : AddsRows v (head_rows s) f two = subst (λ (h : HeadOf). AddsRows v (Head h ∷ queues) f two) c.head.ensures (then_adds v lawful f one on (head ∷ []) adds two queues queued) in
    lie_on (a.base + 16) a.end (c.add_queues.new.areas.base + 16) c.add_queues.new.areas.end table table (ap (λ (b : ℕ). b + 16) both.base) both.end refl refl c.requires.lie

pub add_jobs-requires-clause-spare : goal.add_jobs-requires-clause-spare
add_jobs-requires-clause-spare g c = omega (arith, c.requires.spare, c.put_head-start.ensures.put.spare, c.end_record.ensures.spare, c.add_queues.ensures.spare)

pub add_jobs-requires-clause-listed : goal.add_jobs-requires-clause-listed
add_jobs-requires-clause-listed g c =
    let v = g.D.Disk.device in
    let lawful = g.met.D.Disk.lawful in
    let a = c.args.areas.now in
    let filler = c.args.filler.now in
    let table = c.args.table.now in
    let s = table.state in
    let f = filling_at a filler in
    let head = Head c.head.result in
    let queues : List Row = map (λ (q : QueueRow). Queue q) (finite.values s.queues) in
    let jobs : List Row = flat_map blank_rows (finite.values s.jobs) in
    let put = c.put_head-start.new.block in
    let start = c.put_head-start.result in
    let is = c.put_head-start.ensures.put in
    let found = jobs_found s c.queues-queues.ensures.legal in
    let numbers : s.highest ≤ greatest_number = omega (arith, c.highest-highest.ensures.value, c.highest-highest.ensures.at_most) in
    let all : MayFill v (head ∷ (queues ++ jobs)) f = subst (λ (h : HeadOf). MayFill v (Head h ∷ (queues ++ jobs)) f) (sym c.head.ensures) (listing_may v s f found c.requires.may) in
    let may = may_first v lawful (head ∷ []) (queues ++ jobs) f all in
    let placed = (c.listings_are_loaded.ensures.listed s (blank s) c.queues-queues.ensures.legal numbers (blank_fits s)).0 in
    let are = told (blank s) (finite.values s.queues) (finite.values s.jobs) (loaded (begin_loading s.version) (Head (head_of s))) placed.1 in
    let one = filling_at c.end_record.new.areas c.end_record.new.filler in
    let spellable = c.put_head-start.ensures.spellable (subst (λ (h : HeadOf). IsLegalRow (Head h)) (sym c.head.ensures) (record { at_least = omega arith; at_most = numbers })) in
    let on = put_on v a filler.gate head filler.block put start is one (Ok tt) c.in_ok-end_record.ensures.on in
    let adds = put_adds v a filler.gate head filler.block put start is one (c.in_ok-end_record.ensures.added head (put_back head filler.block put start is) spellable) in
    let rest = may_more v lawful f one on (head ∷ []) adds (queues ++ jobs) all in
    are.jobs

pub returns-clause-on : goal.returns-clause-on
returns-clause-on g c =
    let v = g.D.Disk.device in
    let lawful = g.met.D.Disk.lawful in
    let a = c.args.areas.now in
    let filler = c.args.filler.now in
    let table = c.args.table.now in
    let s = table.state in
    let f = filling_at a filler in
    let head = Head c.head.result in
    let queues : List Row = map (λ (q : QueueRow). Queue q) (finite.values s.queues) in
    let jobs : List Row = flat_map blank_rows (finite.values s.jobs) in
    let put = c.put_head-start.new.block in
    let start = c.put_head-start.result in
    let is = c.put_head-start.ensures.put in
    let found = jobs_found s c.queues-queues.ensures.legal in
    let numbers : s.highest ≤ greatest_number = omega (arith, c.highest-highest.ensures.value, c.highest-highest.ensures.at_most) in
    let all : MayFill v (head ∷ (queues ++ jobs)) f = subst (λ (h : HeadOf). MayFill v (Head h ∷ (queues ++ jobs)) f) (sym c.head.ensures) (listing_may v s f found c.requires.may) in
    let may = may_first v lawful (head ∷ []) (queues ++ jobs) f all in
    let placed = (c.listings_are_loaded.ensures.listed s (blank s) c.queues-queues.ensures.legal numbers (blank_fits s)).0 in
    let are = told (blank s) (finite.values s.queues) (finite.values s.jobs) (loaded (begin_loading s.version) (Head (head_of s))) placed.1 in
    let one = filling_at c.end_record.new.areas c.end_record.new.filler in
    let spellable = c.put_head-start.ensures.spellable (subst (λ (h : HeadOf). IsLegalRow (Head h)) (sym c.head.ensures) (record { at_least = omega arith; at_most = numbers })) in
    let on = put_on v a filler.gate head filler.block put start is one (Ok tt) c.in_ok-end_record.ensures.on in
    let adds = put_adds v a filler.gate head filler.block put start is one (c.in_ok-end_record.ensures.added head (put_back head filler.block put start is) spellable) in
    let rest = may_more v lawful f one on (head ∷ []) adds (queues ++ jobs) all in
    let two = filling_at c.add_queues.new.areas c.add_queues.new.filler in
    let queued : AddsRows v queues one two = subst (λ (qs : List QueueRow). AddsRows v (map (λ q. Queue q) qs) one two) c.queues-queues.ensures.rows c.in_ok-add_queues.ensures.added in
    let both = then_on v lawful f one on (head ∷ []) adds two (Ok tt) c.in_ok-add_queues.ensures.on in
    let first : AddsRows v (head_rows s) f two = subst (λ (h : HeadOf). AddsRows v (Head h ∷ queues) f two) c.head.ensures (then_adds v lawful f one on (head ∷ []) adds two queues queued) in
    then_on v lawful f two both (head_rows s) first (filling_at c.add_jobs.new.areas c.add_jobs.new.filler) c.add_jobs.result c.add_jobs.ensures.on

pub returns-clause-spare : goal.returns-clause-spare
returns-clause-spare g c = omega (arith, c.put_head-start.ensures.put.spare, c.end_record.ensures.spare, c.add_queues.ensures.spare, c.add_jobs.ensures.spare)

pub returns-clause-added : goal.returns-clause-added
returns-clause-added g c =
    let v = g.D.Disk.device in
    let lawful = g.met.D.Disk.lawful in
    let a = c.args.areas.now in
    let filler = c.args.filler.now in
    let table = c.args.table.now in
    let s = table.state in
    let f = filling_at a filler in
    let head = Head c.head.result in
    let queues : List Row = map (λ (q : QueueRow). Queue q) (finite.values s.queues) in
    let jobs : List Row = flat_map blank_rows (finite.values s.jobs) in
    let put = c.put_head-start.new.block in
    let start = c.put_head-start.result in
    let is = c.put_head-start.ensures.put in
    let found = jobs_found s c.queues-queues.ensures.legal in
    let numbers : s.highest ≤ greatest_number = omega (arith, c.highest-highest.ensures.value, c.highest-highest.ensures.at_most) in
    let all : MayFill v (head ∷ (queues ++ jobs)) f = subst (λ (h : HeadOf). MayFill v (Head h ∷ (queues ++ jobs)) f) (sym c.head.ensures) (listing_may v s f found c.requires.may) in
    let may = may_first v lawful (head ∷ []) (queues ++ jobs) f all in
    let placed = (c.listings_are_loaded.ensures.listed s (blank s) c.queues-queues.ensures.legal numbers (blank_fits s)).0 in
    let are = told (blank s) (finite.values s.queues) (finite.values s.jobs) (loaded (begin_loading s.version) (Head (head_of s))) placed.1 in
    let one = filling_at c.end_record.new.areas c.end_record.new.filler in
    let spellable = c.put_head-start.ensures.spellable (subst (λ (h : HeadOf). IsLegalRow (Head h)) (sym c.head.ensures) (record { at_least = omega arith; at_most = numbers })) in
    let on = put_on v a filler.gate head filler.block put start is one (Ok tt) c.in_ok-end_record.ensures.on in
    let adds = put_adds v a filler.gate head filler.block put start is one (c.in_ok-end_record.ensures.added head (put_back head filler.block put start is) spellable) in
    let rest = may_more v lawful f one on (head ∷ []) adds (queues ++ jobs) all in
    let two = filling_at c.add_queues.new.areas c.add_queues.new.filler in
    let queued : AddsRows v queues one two = subst (λ (qs : List QueueRow). AddsRows v (map (λ q. Queue q) qs) one two) c.queues-queues.ensures.rows c.in_ok-add_queues.ensures.added in
    let both = then_on v lawful f one on (head ∷ []) adds two (Ok tt) c.in_ok-add_queues.ensures.on in
    let first : AddsRows v (head_rows s) f two = subst (λ (h : HeadOf). AddsRows v (Head h ∷ queues) f two) c.head.ensures (then_adds v lawful f one on (head ∷ []) adds two queues queued) in
    on_ok c.add_jobs.result c.add_jobs.ensures.added (λ added. listing_added v lawful table f two (filling_at c.add_jobs.new.areas c.add_jobs.new.filler) found both first added)

pub returns-clause-noted : goal.returns-clause-noted
returns-clause-noted g c =
    let v = g.D.Disk.device in
    let lawful = g.met.D.Disk.lawful in
    let a = c.args.areas.now in
    let filler = c.args.filler.now in
    let table = c.args.table.now in
    let s = table.state in
    let f = filling_at a filler in
    let head = Head c.head.result in
    let queues : List Row = map (λ (q : QueueRow). Queue q) (finite.values s.queues) in
    let jobs : List Row = flat_map blank_rows (finite.values s.jobs) in
    let put = c.put_head-start.new.block in
    let start = c.put_head-start.result in
    let is = c.put_head-start.ensures.put in
    let found = jobs_found s c.queues-queues.ensures.legal in
    let numbers : s.highest ≤ greatest_number = omega (arith, c.highest-highest.ensures.value, c.highest-highest.ensures.at_most) in
    let all : MayFill v (head ∷ (queues ++ jobs)) f = subst (λ (h : HeadOf). MayFill v (Head h ∷ (queues ++ jobs)) f) (sym c.head.ensures) (listing_may v s f found c.requires.may) in
    let may = may_first v lawful (head ∷ []) (queues ++ jobs) f all in
    let placed = (c.listings_are_loaded.ensures.listed s (blank s) c.queues-queues.ensures.legal numbers (blank_fits s)).0 in
    let are = told (blank s) (finite.values s.queues) (finite.values s.jobs) (loaded (begin_loading s.version) (Head (head_of s))) placed.1 in
    let one = filling_at c.end_record.new.areas c.end_record.new.filler in
    let spellable = c.put_head-start.ensures.spellable (subst (λ (h : HeadOf). IsLegalRow (Head h)) (sym c.head.ensures) (record { at_least = omega arith; at_most = numbers })) in
    let on = put_on v a filler.gate head filler.block put start is one (Ok tt) c.in_ok-end_record.ensures.on in
    let adds = put_adds v a filler.gate head filler.block put start is one (c.in_ok-end_record.ensures.added head (put_back head filler.block put start is) spellable) in
    let rest = may_more v lawful f one on (head ∷ []) adds (queues ++ jobs) all in
    let two = filling_at c.add_queues.new.areas c.add_queues.new.filler in
    let queued : AddsRows v queues one two = subst (λ (qs : List QueueRow). AddsRows v (map (λ q. Queue q) qs) one two) c.queues-queues.ensures.rows c.in_ok-add_queues.ensures.added in
    let both = then_on v lawful f one on (head ∷ []) adds two (Ok tt) c.in_ok-add_queues.ensures.on in
    let first : AddsRows v (head_rows s) f two = subst (λ (h : HeadOf). AddsRows v (Head h ∷ queues) f two) c.head.ensures (then_adds v lawful f one on (head ∷ []) adds two queues queued) in
    on_ok c.add_jobs.result c.add_jobs.ensures.noted (λ noted. listing_noted s (next_place f) (next_place two) table.moves c.add_jobs.new.table.moves found first.place c.requires.none noted)
