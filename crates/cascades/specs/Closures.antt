-- The closures of an object: to which objects a call goes on along relationships that have its flag.
use Rattle.std.specs.Prelude.{◌≡◌, Bool, true, not, ◌&&◌, ◌||◌, List, [], ◌∷◌, ◌++◌, length, map, ◌==◌}
use Rattle.std.specs.List.{All, filter, list_all, list_any, range_with_len}
use Rattle.base_core.specs.declared.ids.ObjId.{ObjId}
use Rattle.base_core.specs.Ascending.{IsAscending}
use Rattle.class_types.specs.declared.declared.Cascade.{Cascade}
use Rattle.class_types.specs.declared.mapped.Relation.{Relation}
use Rattle.class_mapping.specs.Mapped.{Mapped, relations_of}
use Rattle.object_arena.specs.declared.object.Link.{Link}
use Rattle.object_arena.specs.Graph.{Graph, IsObject, object_at}
use Rattle.object_arena.specs.Identity.{id_of_place}
pub use Rattle.object_parts.specs.Ends.{end_of, ends_of, ends_with}
use Rattle.cascades.specs.declared.closures.Flag.{Flag}
use Rattle.cascades.specs.declared.closures.Flag.TheVariants.{SaveUpdate, RefreshExpire, Expunge, Delete}

-- the relationship's calls of this kind go on along it
abbrev pub has_flag : Flag → Cascade → Bool
has_flag SaveUpdate cascade = cascade.save_update
has_flag RefreshExpire cascade = cascade.refresh_expire
has_flag Expunge cascade = cascade.expunge
has_flag Delete cascade = cascade.delete

-- what the links hold whose relationships have the flag
abbrev pub ends_along : Flag → List Relation → List Link → List ObjId
ends_along flag [] links = []
ends_along flag (relation ∷ relations) [] = []
ends_along flag (relation ∷ relations) (link ∷ links) = ends_with (has_flag flag relation.cascade) link ++ ends_along flag relations links

-- the objects to which an object is linked along relationships with the flag
unfoldable pub linked_objects : Flag → Mapped → Graph → ObjId → List ObjId
linked_objects flag mapped graph object = ends_along flag (relations_of mapped (object_at graph object).class) (object_at graph object).links

-- with each object the set has all to which it is linked
abbrev pub IsClosed : Flag → Mapped → Graph → (ObjId → Bool) → Type 0
IsClosed flag mapped graph inside = (object : ObjId) → inside object ≡ true → list_all inside (linked_objects flag mapped graph object) ≡ true

abbrev pub is_among : List ObjId → ObjId → Bool
is_among objects object = list_any (λ other. object.0 == other.0) objects

-- the least closed set that has the object, ascending by number
pub record IsClosure (flag : Flag) (mapped : Mapped) (graph : Graph) (object : ObjId) (closure : List ObjId) : Type 0 where
  pub ascending : IsAscending closure
  pub has : is_among closure object ≡ true
  pub closed : IsClosed flag mapped graph (is_among closure)
  pub least : (inside : ObjId → Bool) → inside object ≡ true → IsClosed flag mapped graph inside → list_all inside closure ≡ true
  pub objects : All (IsObject graph) closure

-- ---- the closure as a list

-- every list of some of the objects, in their order
abbrev pub sublists : List ObjId → List (List ObjId)
sublists [] = [] ∷ []
sublists (object ∷ objects) = map (λ some. object ∷ some) (sublists objects) ++ sublists objects

-- with each of its objects the list has all to which that one is linked
abbrev pub is_closed : Flag → Mapped → Graph → List ObjId → Bool
is_closed flag mapped graph objects = list_all (λ object. list_all (is_among objects) (linked_objects flag mapped graph object)) objects

-- the list, if it is closed and has the one object, has the other
abbrev pub has_beside : Flag → Mapped → Graph → ObjId → ObjId → List ObjId → Bool
has_beside flag mapped graph object other objects = not (is_among objects object && is_closed flag mapped graph objects) || is_among objects other

-- the objects that all closed sets with the object have, ascending by number: the least such set
unfoldable pub closure_of : Flag → Mapped → Graph → ObjId → List ObjId
closure_of flag mapped graph object =
    let all : List ObjId = map id_of_place (range_with_len 0 (length graph.objects)) in
    filter (λ other. list_all (has_beside flag mapped graph object other) (sublists all)) all
