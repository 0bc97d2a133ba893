-- What a flush writes, the keys of the new rows aside, fits the mapping.
use Rattle.std.specs.Prelude.{List}
use Rattle.base_core.specs.declared.value.Value.{Value}
use Rattle.schema_core.specs.declared.changes.RowChanges.{RowChanges}
use Rattle.class_mapping.specs.Mapped.{Mapped}
use Rattle.class_mapping.specs.Related.{AreRelated}
use Rattle.object_arena.specs.Fit.{IsFit}
use Rattle.object_arena.specs.Graph.{Graph}
use Rattle.object_rows.specs.declared.prepared.Prepared.{Prepared}
use Rattle.graph_flushed.specs.Fitting.{AreClearable, IsFitting}
use Rattle.graph_flushed.specs.Flushed.{written_with}
use Rattle.mapping_laws.specs.Hierarchies.{HasHierarchies}

-- over a configured mapping and objects that fit it, where only links to one object become none
abbrev pub FlushesFit : Type 0
FlushesFit =
    (mapped : Mapped) (graph : Graph) (prepared : Prepared) (changes : RowChanges) (keys : List (List Value)) → HasHierarchies mapped → AreRelated mapped → IsFit mapped graph → AreClearable mapped graph prepared
    → IsFitting (written_with mapped prepared changes keys graph)
