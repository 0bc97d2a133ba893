-- What is to be known of an object before its rows are deleted.
use Rattle.std.specs.Prelude.{◌≡◌, Bool, true, not, ◌&&◌, ◌||◌, ℕ, find, List, Option, is_some}
use Rattle.std.specs.List.{list_all}
use Rattle.base_core.specs.declared.ids.ObjId.{ObjId}
use Rattle.class_types.specs.declared.mapped.Relation.{Relation}
use Rattle.class_mapping.specs.Mapped.{Mapped}
use Rattle.object_arena.specs.declared.object.Cell.{Cell}
use Rattle.object_arena.specs.declared.object.Object.{Object}
use Rattle.object_arena.specs.Graph.{Graph, object_at}
use Rattle.object_parts.specs.Links.{is_unloaded}
use Rattle.object_rows.specs.Seen.{link_of}
use Rattle.pair_rows.specs.Pairs.{relations_at}
use Rattle.prepared_objects.specs.Leaving.{going}

-- what the cell holds and what its row holds are known
abbrev pub is_known : Cell → Bool
is_known cell = is_some cell.value && is_some cell.base

-- collections, whose members go or lose a link, and links along which deletes go on
abbrev pub is_read_for : Relation → Bool
is_read_for relation = relation.many || relation.cascade.delete

-- such a link of an object, of this number, is not loaded
abbrev pub lacks_link : Object → ℕ × Relation → Bool
lacks_link object placed = is_read_for placed.1 && is_unloaded (link_of object (record { 0 = placed.0 }))

-- all such links of these are loaded
abbrev pub has_links : Object → List (ℕ × Relation) → Bool
has_links object relations = list_all (λ placed. not (lacks_link object placed)) relations

-- all cells of an object are known, and all such links are loaded
abbrev pub is_read : Mapped → Graph → ObjId → Bool
is_read mapped graph object = list_all is_known (object_at graph object).cells && has_links (object_at graph object) (relations_at mapped graph object)

-- the object of least number that is to be deleted and of which something is to be read
unfoldable pub next_unread : Mapped → Graph → Option ObjId
next_unread mapped graph = find (λ object. not (is_read mapped graph object)) (going mapped graph)

-- all is known of the objects that are to be deleted
abbrev pub IsPrepared : Mapped → Graph → Type 0
IsPrepared mapped graph = list_all (is_read mapped graph) (going mapped graph) ≡ true
