-- What the change of a link keeps.
use Rattle.std.specs.Prelude.{◌≡◌, ◌<◌, length}
use Rattle.base_core.specs.declared.ids.ObjId.{ObjId}
use Rattle.base_core.specs.declared.ids.RelNo.{RelNo}
use Rattle.class_mapping.specs.Mapped.{Mapped, relations_of}
use Rattle.object_arena.specs.Fit.{IsFit, relation_of}
use Rattle.object_arena.specs.Graph.{Graph, IsObject, object_at}
use Rattle.relations.specs.declared.calls.LinkCall.{LinkCall}
use Rattle.relations.specs.Calls.{end_of, is_of_collection}
use Rattle.relations.specs.Keys.{IsEnd}
use Rattle.session_calls.specs.Parts.{World}
use Rattle.session_links.specs.Steps.{change_link}
use Rattle.session_laws.specs.Sound.{IsSound}

-- the call is of the relationship at a place of an object, and the objects that are named have been made
pub record IsLinkCall (mapped : Mapped) (graph : Graph) (owner : ObjId) (place : RelNo) (call : LinkCall) : Type 0 where
  pub made : IsObject graph owner
  pub there : place.0 < length (relations_of mapped (object_at graph owner).class)
  pub form : (relation_of mapped (object_at graph owner).class place).many ≡ is_of_collection call
  pub end : IsEnd graph (end_of call)

-- the change of a link of an object keeps a sound session sound, where its objects fit the mapping and those that are named have been made
abbrev pub ChangingLinksKeepsSound : Type 0
ChangingLinksKeepsSound =
    (owner : ObjId) (place : RelNo) (call : LinkCall) (world : World) → IsFit world.own.mapping world.own.graph → IsObject world.own.graph owner → IsEnd world.own.graph (end_of call)
    → IsSound world → IsSound (change_link owner place call world).after
