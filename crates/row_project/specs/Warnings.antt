-- The objects outside the session that changed links name.
use Rattle.std.specs.Prelude.{ℕ, Bool, not, ◌||◌, List, [], ◌∷◌, ◌++◌, map, fold, Option, None, Some, is_some, if◌then◌else◌}
use Rattle.std.specs.List.{filter, flat_map}
use Rattle.std.specs.BTreeSet.{insert_key}
use Rattle.std.specs.declared.cmp.Ordering.{Ordering}
use Rattle.std.specs.Ordering.{nat_cmp}
use Rattle.base_core.specs.declared.ids.ObjId.{ObjId}
use Rattle.base_core.specs.declared.refusal.Warning.{Warning}
use Rattle.class_types.specs.declared.mapped.Relation.{Relation}
use Rattle.class_mapping.specs.Mapped.{Mapped}
use Rattle.object_arena.specs.declared.object.Link.{Link}
use Rattle.object_arena.specs.Graph.{Graph, object_at}
use Rattle.object_rows.specs.declared.prepared.Prepared.{Prepared}
use Rattle.object_rows.specs.Seen.{end_put, is_in_session, is_new, keeps_rows, link_of, object_ids}
use Rattle.pair_rows.specs.Pairs.{is_leaving, members_added, members_removed, relations_at}

abbrev pub end_list : Option (Option ObjId) → List ObjId
end_list None = []
end_list (Some None) = []
end_list (Some (Some end)) = end ∷ []

-- the objects that were removed and are not to be deleted, where that takes a pair away
abbrev pub parted_named : Prepared → Relation → Link → List ObjId
parted_named prepared relation link = if is_some relation.far then filter (λ member. not (is_leaving prepared member)) (members_removed link) else []

abbrev pub members_named : Prepared → Relation → Link → List ObjId
members_named prepared relation link = members_added link ++ parted_named prepared relation link

-- the objects of which a changed link of an object, of this number, tells
abbrev pub named_by : Graph → Prepared → ObjId → ℕ × Relation → List ObjId
named_by graph prepared object placed =
    if placed.1.many then members_named prepared placed.1 (link_of (object_at graph object) (record { 0 = placed.0 }))
    else end_list (end_put graph prepared object (record { 0 = placed.0 }))

abbrev pub object_cmp : ObjId → ObjId → Ordering
object_cmp one other = nat_cmp one.0 other.0

-- those outside the session, as a set, ascending
abbrev pub outside : Graph → Prepared → List ObjId → List ObjId
outside graph prepared objects = fold (insert_key object_cmp) [] (filter (λ object. not (is_in_session graph prepared object)) objects)

abbrev pub warning_of : ℕ × Relation → ObjId → Warning
warning_of placed object = record { object = object; class = placed.1.class; relation = record { 0 = placed.0 } }

abbrev pub warned_by : Graph → Prepared → ObjId → ℕ × Relation → List Warning
warned_by graph prepared object placed = map (warning_of placed) (outside graph prepared (named_by graph prepared object placed))

abbrev pub warned_of : Mapped → Graph → Prepared → ObjId → List Warning
warned_of mapped graph prepared object = flat_map (warned_by graph prepared object) (relations_at mapped graph object)

-- the object is in the session and not to be deleted
abbrev pub is_written : Graph → Prepared → ObjId → Bool
is_written graph prepared object = is_new graph prepared object || keeps_rows graph prepared object

-- by owner, relationship and member
unfoldable pub warnings : Mapped → Graph → Prepared → List Warning
warnings mapped graph prepared = flat_map (warned_of mapped graph prepared) (filter (is_written graph prepared) (object_ids graph))
