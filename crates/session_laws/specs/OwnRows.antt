-- Objects that stand in the tables as they were read have their own rows.
use Rattle.std.specs.Prelude.{◌≡◌, ◌<◌, ◌==◌, ℕ, true, false, length}
use Rattle.std.specs.List.{AllByRecursion}
use Rattle.base_core.specs.declared.ids.ObjId.{ObjId}
use Rattle.schema_core.specs.Declaration.{some_two}
use Rattle.schema_core.specs.Tables.{Legal, Tables}
use Rattle.class_mapping.specs.Mapped.{Mapped}
use Rattle.object_arena.specs.Fit.{IsFit}
use Rattle.object_arena.specs.Graph.{Graph, IsObject, is_persistent, object_at}
use Rattle.object_arena.specs.Identity.{IsGraph}
use Rattle.flush_order.specs.Orders.{place_of_gone}
use Rattle.flush_order.specs.Sorted.{same_place}
use Rattle.object_rows.specs.declared.prepared.Prepared.{Prepared}
use Rattle.pair_rows.specs.Pairs.{lost_rows}
use Rattle.session_laws.specs.Graphs.{HaveOwnRows, IsWellMapped}
use Rattle.session_laws.specs.Held.{HoldsItsRows, IsWhollyKnown, placed_object}

-- The mapping is as every configured one is, the objects fit it, and one stands for each key; those that are to be deleted have been
-- made, are persistent and stand there once, and all of these is known. What is known of persistent objects is what their rows hold,
-- in legal tables.
pub record StandInTables (mapped : Mapped) (graph : Graph) (prepared : Prepared) (old : Tables) : Type 0 where
  pub well : IsWellMapped mapped
  pub fit : IsFit mapped graph
  pub is : IsGraph graph.objects graph.roots
  pub made : AllByRecursion (IsObject graph) prepared.deleted
  pub standing : AllByRecursion (λ object. is_persistent (object_at graph object).state ≡ true) prepared.deleted
  pub once : some_two (λ (one other : ObjId). one.0 == other.0) prepared.deleted ≡ false
  pub legal : Legal mapped.schema old
  pub holds : (place : ℕ) → place < length graph.objects → is_persistent (placed_object graph place).state ≡ true → HoldsItsRows mapped old (placed_object graph place)
  pub known : AllByRecursion (λ object. IsWhollyKnown (object_at graph object)) prepared.deleted

-- no two rows that pairs take away are one row
abbrev pub ArePairsOnce : Mapped → Graph → Prepared → Type 0
ArePairsOnce mapped graph prepared = some_two (λ one other. same_place (place_of_gone mapped.schema one) (place_of_gone mapped.schema other)) (lost_rows mapped graph prepared) ≡ false

-- such objects have their own rows, also those that are to be deleted
abbrev pub ObjectsHaveOwnRows : Type 0
ObjectsHaveOwnRows =
    (mapped : Mapped) (graph : Graph) (prepared : Prepared) (old : Tables) → StandInTables mapped graph prepared old → HaveOwnRows mapped graph prepared

-- so it is whatever the objects hold: of the pairs of one table and key the first has a row
abbrev pub PairsAreOnce : Type 0
PairsAreOnce = (mapped : Mapped) (graph : Graph) (prepared : Prepared) → ArePairsOnce mapped graph prepared
