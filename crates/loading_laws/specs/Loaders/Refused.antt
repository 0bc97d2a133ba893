-- What select-in loads leave whatever they answer.
use Rattle.std.specs.Prelude.{List}
use Rattle.std.specs.List.{All}
use Rattle.base_core.specs.declared.ids.ObjId.{ObjId}
use Rattle.base_core.specs.declared.ids.RelNo.{RelNo}
use Rattle.class_types.specs.declared.mapped.Relation.{Relation}
use Rattle.class_mapping.specs.Mapped.{Mapped}
use Rattle.load_calls.specs.Reading.{World}
use Rattle.load_batches.specs.Batches.{IsOwner}
use Rattle.load_queries.specs.Selectin.{load_selectin}
use Rattle.loading_laws.specs.Loaders.Linked.{IsStage}
use Rattle.loading_laws.specs.Loaders.Options.{Leaves}

-- Whatever a select-in load answers, it leaves of the objects that there were all but unloaded links at its place. So the links that its
-- earlier batches filled stay filled where a later one is refused.
abbrev pub SelectinLeavesAlways : Type 0
SelectinLeavesAlways =
    (mapped : Mapped) (relation : Relation) (place : RelNo) (owners : List ObjId) (w : World) → IsStage mapped w → All (IsOwner mapped w.own.graph relation place) owners → Leaves place w.own.graph (load_selectin mapped place owners w).after.own.graph
