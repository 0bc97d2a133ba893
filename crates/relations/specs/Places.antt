-- Where links are put: at places that objects have.
use Rattle.std.specs.Prelude.{◌≡◌, length, Option, None, Some}
use Rattle.base_core.specs.declared.ids.ObjId.{ObjId}
use Rattle.object_arena.specs.Graph.{Graph, IsLink, IsObject, object_at}
use Rattle.relations.specs.declared.change.Change.{Change}
use Rattle.relations.specs.declared.change.LinkPut.{LinkPut}

-- the link is put at a place that an object has
abbrev pub IsPutIn : Graph → Option LinkPut → Type 0
IsPutIn graph None = Unit {0}
IsPutIn graph (Some put) = IsObject graph put.object × IsLink graph put.object put.relation

pub record IsPlaced (graph : Graph) (change : Change) : Type 0 where
  pub left : IsPutIn graph change.left
  pub joined : IsPutIn graph change.joined
  pub own : IsPutIn graph change.own

-- as many objects, each with as many links
pub record HasPlaces (old new : Graph) : Type 0 where
  pub objects : length new.objects ≡ length old.objects
  pub links : (object : ObjId) → length (object_at new object).links ≡ length (object_at old object).links
