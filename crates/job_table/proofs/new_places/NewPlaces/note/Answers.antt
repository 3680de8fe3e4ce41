-- The document is changed at its position.
use Rattle.std.proofs.Common.{◌-◌, ◌==◌, ◌<◌, ◌++◌, ◌∷◌, [], if◌then◌else◌, IsSome, sym, ap, subst, ◌∙◌, arith}
use Rattle.std.specs.Ordering.{nat_cmp}
use Rattle.std.specs.FinMap as finite
use Rattle.job_table.specs.Contents.{Noted, places_of, move_room}
use Rattle.job_table.specs.Noted.{noted_of}
use Rattle.job_table.proofs.Noted.{no_spare, spare_there, sorted_after, noted_more, still_there, spare_less}
use Rattle.job_table.proofs.new_places.NewPlaces.note.Goals as goal

pub unreachable-requires : goal.unreachable-requires
unreachable-requires c =
    let room : 0 < move_room (noted_of c.self.inside) c.args.job = subst (λ (v : Noted). 0 < move_room v c.args.job) (sym c.self.view_is) c.requires in
    let none = no_spare c.self.inside.documents.items c.self.invariant c.args.job _ (rw c.deref.ensures.value at c.in-Err.ensures.absent) in
    omega (arith, room, none)

pub add_extent-requires : goal.add_extent-requires
add_extent-requires c =
    let room : 0 < move_room (noted_of c.self.inside) c.args.job = subst (λ (v : Noted). 0 < move_room v c.args.job) (sym c.self.view_is) c.requires in
    let own = spare_there c.self.inside.documents.items c.self.invariant c.args.job c.in-Ok.at c.index_mut.result.now c.index_mut.ensures.value (rw c.deref.ensures.value at c.in-Ok.ensures.found) in
    subst (λ n. 0 < n) own room

pub invariant_of-self : goal.invariant_of-self
invariant_of-self c =
    sorted_after c.self.inside.documents.items c.self.invariant c.args.job c.in-Ok.at c.index_mut.result.now c.index_mut.ensures.value (rw c.deref.ensures.value at c.in-Ok.ensures.found)
    c.add_extent.new.document c.add_extent.ensures.job

pub returns-clause-noted : goal.returns-clause-noted
returns-clause-noted c = λ k.
    noted_more c.self.inside.documents.items c.self.invariant c.args.job c.in-Ok.at c.index_mut.result.now c.index_mut.ensures.value (rw c.deref.ensures.value at c.in-Ok.ensures.found)
    c.add_extent.new.document c.add_extent.ensures.job c.args.extent c.add_extent.ensures.added k
    ∙ ap (λ (v : Noted). if c.args.job == k then places_of v.places k ++ c.args.extent ∷ [] else places_of v.places k) c.self.view_is

pub returns-clause-there : goal.returns-clause-there
returns-clause-there c = λ k there.
    still_there c.self.inside.documents.items c.self.invariant c.args.job c.in-Ok.at c.index_mut.result.now c.index_mut.ensures.value (rw c.deref.ensures.value at c.in-Ok.ensures.found)
    c.add_extent.new.document c.add_extent.ensures.job k (subst (λ (v : Noted). IsSome (finite.find nat_cmp k v.places)) (sym c.self.view_is) there)

pub returns-clause-room : goal.returns-clause-room
returns-clause-room c = λ k.
    spare_less c.self.inside.documents.items c.self.invariant c.args.job c.in-Ok.at c.index_mut.result.now c.index_mut.ensures.value (rw c.deref.ensures.value at c.in-Ok.ensures.found)
    c.add_extent.new.document c.add_extent.ensures.job c.add_extent.ensures.room k
    ∙ ap (λ (v : Noted). if c.args.job == k then move_room v k - 1 else move_room v k) c.self.view_is
