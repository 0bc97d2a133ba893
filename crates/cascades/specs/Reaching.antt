-- What a call reaches that goes on from several objects at once along relationships with its flag.
use Rattle.std.specs.Prelude.{◌≡◌, Bool, true, not, ◌&&◌, ◌||◌, List, map, length}
use Rattle.std.specs.List.{All, filter, list_all, range_with_len}
use Rattle.base_core.specs.declared.ids.ObjId.{ObjId}
use Rattle.base_core.specs.Ascending.{IsAscending}
use Rattle.class_mapping.specs.Mapped.{Mapped}
use Rattle.object_arena.specs.Graph.{Graph, IsObject}
use Rattle.object_arena.specs.Identity.{id_of_place}
use Rattle.cascades.specs.declared.closures.Flag.{Flag}
use Rattle.cascades.specs.Closures.{IsClosed, is_among, is_closed, sublists}

-- the least closed set that has some objects, ascending by number
pub record IsReach (flag : Flag) (mapped : Mapped) (graph : Graph) (starts reach : List ObjId) : Type 0 where
  pub ascending : IsAscending reach
  pub has : list_all (is_among reach) starts ≡ true
  pub closed : IsClosed flag mapped graph (is_among reach)
  pub least : (inside : ObjId → Bool) → list_all inside starts ≡ true → IsClosed flag mapped graph inside → list_all inside reach ≡ true
  pub objects : All (IsObject graph) reach

-- the list, if it is closed and has the starts, has the object
abbrev pub has_with : Flag → Mapped → Graph → List ObjId → ObjId → List ObjId → Bool
has_with flag mapped graph starts object objects = not (list_all (is_among objects) starts && is_closed flag mapped graph objects) || is_among objects object

-- the objects that all closed sets with the starts have, ascending by number: the least such set
unfoldable pub reach_of : Flag → Mapped → Graph → List ObjId → List ObjId
reach_of flag mapped graph starts =
    let all : List ObjId = map id_of_place (range_with_len 0 (length graph.objects)) in
    filter (λ object. list_all (has_with flag mapped graph starts object) (sublists all)) all
