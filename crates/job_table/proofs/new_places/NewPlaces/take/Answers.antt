-- The extents are taken out of the document at its position.
use Rattle.std.proofs.Common.{◌-◌, sym, ap, ◌∙◌}
use Rattle.std.specs.Prelude.{vec_capacity, vec_len}
use Rattle.std.specs.Ordering.{nat_cmp}
use Rattle.std.specs.FinMap as finite
use Rattle.job_table.specs.Contents.{Noted, move_room, places_of}
use Rattle.job_table.proofs.Noted.{none_there, items_there, spare_there, sorted_after, noted_others, spare_others}
use Rattle.job_table.proofs.Tables.{needed_and_not}
use Rattle.job_table.proofs.new_places.NewPlaces.take.Goals as goal

pub unreachable-requires : goal.unreachable-requires
unreachable-requires c = needed_and_not _ _ c.requires
    (none_there c.self.inside.documents.items c.self.invariant c.args.job _ (rw c.deref.ensures.value at c.in-Err.ensures.absent))
    (ap (λ (v : Noted). finite.find nat_cmp c.args.job v.places) c.self.view_is)

pub invariant_of-self : goal.invariant_of-self
invariant_of-self c =
    sorted_after c.self.inside.documents.items c.self.invariant c.args.job c.in-Ok.at c.index_mut.result.now c.index_mut.ensures.value (rw c.deref.ensures.value at c.in-Ok.ensures.found)
    c.take_extents.new.document c.take_extents.ensures.job

pub returns-clause-value : goal.returns-clause-value
returns-clause-value c =
    ap (λ v. v.items) c.take_extents.ensures.value
    ∙ sym (items_there c.self.inside.documents.items c.self.invariant c.args.job c.in-Ok.at c.index_mut.result.now c.index_mut.ensures.value (rw c.deref.ensures.value at c.in-Ok.ensures.found))
    ∙ ap (λ (v : Noted). places_of v.places c.args.job) c.self.view_is

pub returns-clause-others : goal.returns-clause-others
returns-clause-others c = λ k apart.
    noted_others c.self.inside.documents.items c.self.invariant c.args.job c.in-Ok.at c.index_mut.result.now c.index_mut.ensures.value (rw c.deref.ensures.value at c.in-Ok.ensures.found)
    c.take_extents.new.document c.take_extents.ensures.job k apart
    ∙ ap (λ (v : Noted). finite.find nat_cmp k v.places) c.self.view_is

pub returns-clause-room : goal.returns-clause-room
returns-clause-room c =
    ap (λ v. vec_capacity v - vec_len v) c.take_extents.ensures.value
    ∙ sym (spare_there c.self.inside.documents.items c.self.invariant c.args.job c.in-Ok.at c.index_mut.result.now c.index_mut.ensures.value (rw c.deref.ensures.value at c.in-Ok.ensures.found))
    ∙ ap (λ (v : Noted). move_room v c.args.job) c.self.view_is

pub returns-clause-others_room : goal.returns-clause-others_room
returns-clause-others_room c = λ k apart.
    spare_others c.self.inside.documents.items c.self.invariant c.args.job c.in-Ok.at c.index_mut.result.now c.index_mut.ensures.value (rw c.deref.ensures.value at c.in-Ok.ensures.found)
    c.take_extents.new.document c.take_extents.ensures.job k apart
    ∙ ap (λ (v : Noted). move_room v k) c.self.view_is
