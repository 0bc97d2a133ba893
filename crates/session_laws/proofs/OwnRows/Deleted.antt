-- The objects that are to be deleted have been made, are persistent, and stand there once.
use Rattle.std.proofs.Common.{◌≡◌, Bool, true, false, ◌&&◌, ◌==◌, List, length, map, filter, is_some, refl}
use Rattle.std.specs.List.{AllByRecursion, list_all, range_with_len}
use Rattle.std.proofs.lemmas.Bool.{and_parts}
use Rattle.std.proofs.lemmas.List.Elements.{recursion_from_All}
use Rattle.std.proofs.lemmas.List.Sums.{AllPass-from_list_all}
use Rattle.base_core.specs.declared.ids.ObjId.{ObjId}
use Rattle.schema_core.specs.Declaration.{some_two}
use Rattle.class_mapping.specs.Mapped.{Mapped}
use Rattle.class_mapping.proofs.Having.{all_from, all_of, from_filter}
use Rattle.object_arena.specs.declared.object.Cell.{Cell}
use Rattle.object_arena.specs.declared.object.Object.{Object}
use Rattle.object_arena.specs.Graph.{Graph, IsObject, cell_in, expired_cell, is_persistent, object_at}
use Rattle.object_arena.specs.Identity.{id_of_place}
use Rattle.object_rows.specs.Seen.{object_ids}
use Rattle.object_rows.proofs.ObjectSteps.{all_made}
use Rattle.pair_rows.specs.Pairs.{relations_at}
use Rattle.row_switches.proofs.Each.{all_filter}
use Rattle.cascades.specs.declared.closures.Flag.TheVariants.{Delete}
use Rattle.cascades.specs.Closures.{sublists}
use Rattle.cascades.specs.Reaching.{has_with, reach_of}
use Rattle.prepared_objects.specs.Known.{IsPrepared, has_links, is_known, is_read}
use Rattle.prepared_objects.specs.Leaving.{delete_starts, going, reached}
use Rattle.session_laws.proofs.OwnRows.Standing.{ids_once}
use Rattle.session_laws.proofs.Plans.Stated.{two_filter}
use Rattle.session_laws.specs.Held.{IsWhollyKnown}

module _ (mapped : Mapped) (graph : Graph) where
  abbrev all : List ObjId
  all = map id_of_place (range_with_len 0 (length graph.objects))

  -- every closed set with those from which deletes go on has the object
  abbrev is_reached : ObjId → Bool
  is_reached object = list_all (has_with Delete mapped graph (delete_starts graph) object) (sublists all)

  abbrev persists : ObjId → Bool
  persists object = is_persistent (object_at graph object).state

  pub going_made : AllByRecursion (IsObject graph) (going mapped graph)
  unfolding going reached reach_of object_ids
  going_made =
      all_filter (IsObject graph) persists (reached mapped graph)
      (all_filter (IsObject graph) is_reached all (recursion_from_All (IsObject graph) (object_ids graph) (all_made graph (object_ids graph) refl)))

  pub going_persistent : AllByRecursion (λ object. is_persistent (object_at graph object).state ≡ true) (going mapped graph)
  unfolding going
  going_persistent =
      all_from (λ (object : ObjId). is_persistent (object_at graph object).state ≡ true) (filter persists (reached mapped graph))
      (λ object has. (from_filter persists (reached mapped graph) object has).1)

  pub going_once : some_two (λ (one other : ObjId). one.0 == other.0) (going mapped graph) ≡ false
  unfolding going reached reach_of
  going_once = two_filter (λ (one other : ObjId). one.0 == other.0) persists (reached mapped graph) (ids_once is_reached 0 (length graph.objects))

  -- all of a read object is known
  read_known : (object : ObjId) → is_read mapped graph object ≡ true → IsWhollyKnown (object_at graph object)
  read_known object is attr less =
      let o : Object = object_at graph object in
      let cell : Cell = cell_in o attr in
      let all : list_all is_known o.cells ≡ true = (and_parts (list_all is_known o.cells) (has_links o (relations_at mapped graph object)) is).0 in
      (and_parts (is_some cell.value) (is_some cell.base) (AllPass-from_list_all is_known o.cells all attr.0 expired_cell less)).1

  -- so it is of those that are to be deleted, where that is prepared
  pub going_known : IsPrepared mapped graph → AllByRecursion (λ object. IsWhollyKnown (object_at graph object)) (going mapped graph)
  going_known prepared =
      all_from (λ (object : ObjId). IsWhollyKnown (object_at graph object)) (going mapped graph)
      (λ object has. read_known object (all_of (is_read mapped graph) (going mapped graph) object prepared has))
