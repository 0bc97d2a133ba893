-- When the links that a change puts in fit their relationships.
use Rattle.std.specs.Prelude.{◌≡◌, true, false, Option, None, Some}
use Rattle.base_core.specs.declared.ids.ClassId.{ClassId}
use Rattle.base_core.specs.declared.ids.ObjId.{ObjId}
use Rattle.base_core.specs.declared.ids.RelNo.{RelNo}
use Rattle.class_types.specs.declared.mapped.Relation.{Relation}
use Rattle.class_mapping.specs.Mapped.{Mapped}
use Rattle.class_mapping.specs.Paired.{IsAt}
use Rattle.object_arena.specs.Graph.{Graph, object_at}
use Rattle.object_arena.specs.Fit.{link_fits, relation_of}
use Rattle.relations.specs.Mirror.{is_of}
use Rattle.relations.specs.declared.change.Change.{Change}
use Rattle.relations.specs.declared.change.LinkPut.{LinkPut}

abbrev pub PutFits : Mapped → Graph → Option LinkPut → Type 0
PutFits mapped graph None = Unit {0}
PutFits mapped graph (Some put) = link_fits mapped graph.roots (relation_of mapped (object_at graph put.object).class put.relation) put.link ≡ true

pub record ChangeFits (mapped : Mapped) (graph : Graph) (change : Change) : Type 0 where
  pub left : PutFits mapped graph change.left
  pub joined : PutFits mapped graph change.joined
  pub own : PutFits mapped graph change.own

-- the end of a link is of its target
abbrev pub IsEndOf : Graph → Mapped → ClassId → Option ObjId → Type 0
IsEndOf graph mapped target None = Unit {0}
IsEndOf graph mapped target (Some end) = is_of graph mapped target end ≡ true

-- the relationship at a place of an object is many-to-one
pub record IsOneAt (graph : Graph) (mapped : Mapped) (object : ObjId) (place : RelNo) (relation : Relation) : Type 0 where
  pub at : IsAt mapped (object_at graph object).class place.0 relation
  pub one : relation.many ≡ false

-- the relationship at a place of an object is a collection
pub record IsManyAt (graph : Graph) (mapped : Mapped) (object : ObjId) (place : RelNo) (relation : Relation) : Type 0 where
  pub at : IsAt mapped (object_at graph object).class place.0 relation
  pub many : relation.many ≡ true
