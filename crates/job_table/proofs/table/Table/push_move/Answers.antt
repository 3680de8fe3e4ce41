-- The extent is noted.
use Rattle.std.proofs.Common.{◌-◌, ◌==◌, ◌<◌, ◌++◌, ◌∷◌, [], if◌then◌else◌, IsSome, Some, sym, ap, subst, ◌∙◌}
use Rattle.std.specs.Ordering.{nat_cmp}
use Rattle.std.specs.FinMap as finite
use Rattle.extents.specs.declared.extent.Extent.{Extent}
use Rattle.spool_types.specs.Sent.{extent_behind, with_placed}
use Rattle.job_table.specs.Contents.{Contents, move_room, places_of}
use Rattle.job_table.proofs.table.Table.push_move.Goals as goal

pub note-requires : goal.note-requires
note-requires c = subst (λ (v : Contents). 0 < move_room v.moves c.args.job) (sym c.self.view_is) c.requires.room

pub returns-clause-noted : goal.returns-clause-noted
returns-clause-noted c = λ bytes j long.
    c.note.ensures.noted j
    ∙ ap (λ (x : Extent). if c.args.job == j then places_of c.self.inside.new_places.places j ++ x ∷ [] else places_of c.self.inside.new_places.places j) (c.extent_behind.ensures ∙ ap (extent_behind c.args.at) (sym long))
    ∙ ap (λ (v : Contents). with_placed (places_of v.moves.places j) c.args.at j (Some (c.args.job, bytes))) c.self.view_is

pub returns-clause-there : goal.returns-clause-there
returns-clause-there c = λ j there. c.note.ensures.there j (subst (λ (v : Contents). IsSome (finite.find nat_cmp j v.moves.places)) (sym c.self.view_is) there)

pub returns-clause-room : goal.returns-clause-room
returns-clause-room c = λ j. c.note.ensures.room j ∙ ap (λ (v : Contents). if c.args.job == j then move_room v.moves j - 1 else move_room v.moves j) c.self.view_is
