-- What loads fill of links of any kind: the objects that stand for the rows that are related to the owner.
use Rattle.std.specs.Prelude.{◌≡◌, Bool, true, false, List, filter, map, slice_get, Option, None, Some, if◌then◌else◌}
use Rattle.std.specs.List.{All}
use Rattle.base_core.specs.declared.ids.ClassId.{ClassId}
use Rattle.base_core.specs.declared.ids.ObjId.{ObjId}
use Rattle.base_core.specs.declared.ids.RelNo.{RelNo}
use Rattle.base_core.specs.declared.value.Value.{Value}
use Rattle.sql_semantics.specs.Created.{bare}
use Rattle.sql_semantics.specs.Eval.{Row, Tables, rows_in}
use Rattle.sql_semantics.specs.Shapes.{AreRows}
use Rattle.class_types.specs.declared.mapped.Relation.{Relation}
use Rattle.class_sides.specs.Keys.{TableKey}
use Rattle.class_mapping.specs.Mapped.{Mapped, root_of}
use Rattle.class_mapping.specs.Related.{AreRelated}
use Rattle.mapping_laws.specs.Hierarchies.{HasHierarchies}
use Rattle.object_arena.specs.declared.object.Link.{Link}
use Rattle.object_arena.specs.Fit.{IsFit}
use Rattle.object_arena.specs.Graph.{Graph, object_at}
use Rattle.object_arena.specs.Identity.{IsGraph, find_identity}
use Rattle.relations.specs.Mirror.{is_of}
use Rattle.load_filling.specs.Rows.{row_key}
use Rattle.load_rows.specs.Reading.{identity_key}
use Rattle.load_rows.specs.Links.{collection_of, end_of}
use Rattle.load_calls.specs.Reading.{World}
use Rattle.load_targets.specs.ForeignKeys.{is_key_expired}
use Rattle.load_batches.specs.Batches.{IsOwner}
use Rattle.load_ends.specs.Ends.{key_of}
use Rattle.loading_laws.specs.Answers.Equal.{equals_key}
use Rattle.loading_laws.specs.Members.{paired_rows}
use Rattle.loading_laws.specs.Strategies.Ends.{has_row}
use Rattle.loading_laws.specs.Strategies.Filled.{keys_in_order, related_rows}
use Rattle.loading_laws.specs.Strategies.Standing.{Stands}

-- ---- related rows

-- of all rows of the target the one under a foreign key: a key with a NULL refers to none
abbrev pub referred_rows : Mapped → Relation → List Row → List Value → List Row
referred_rows mapped relation all key = filter (λ row. equals_key (row_key mapped relation.target row) key) all

abbrev pub related_by : Mapped → Relation → Tables → List Row → Graph → ObjId → Option TableKey → List Row
related_by mapped relation tables all graph owner None =
    if relation.many then related_rows mapped relation all (identity_key graph owner) else referred_rows mapped relation all (key_of mapped relation graph owner)
related_by mapped relation tables all graph owner (Some far) = paired_rows mapped relation far all (rows_in tables relation.foreign.0.0) (identity_key graph owner)

-- Of all rows of a relationship's target those that are related to an owner: behind a secondary table those to which the owner's pairs
-- lead, else those that refer to the owner, or the one to which the owner refers.
abbrev pub related_to : Mapped → Relation → Tables → List Row → Graph → ObjId → List Row
related_to mapped relation tables all graph owner = related_by mapped relation tables all graph owner relation.far

-- ---- what a link holds

-- what an unloaded link becomes with objects: a collection has them all, with the changes that were kept for it, another link leads
-- to the first
abbrev pub link_with : Bool → List ObjId → Link → Option Link
link_with true objects old = collection_of objects old
link_with false objects old = end_of (slice_get objects 0) old

-- an unloaded link has become one with the persistent objects of these rows, in the order of their keys and each once
pub record HoldsRows (mapped : Mapped) (relation : Relation) (rows : List Row) (old : Link) (graph : Graph) (now : Link) : Type 0 where
  pub objects : List ObjId
  pub keys : map (identity_key graph) objects ≡ keys_in_order (map (row_key mapped relation.target) rows)
  pub stand : All (λ object. Stands (root_of mapped relation.target) graph (identity_key graph object) object) objects
  pub link : Some now ≡ link_with relation.many objects old

-- two links became such of one, each in its graph, with objects of the same identities in the same order
pub record HoldAlike (first second : Graph) (many : Bool) (old one other : Link) : Type 0 where
  pub objects : List ObjId
  pub same : List ObjId
  pub one_link : Some one ≡ link_with many objects old
  pub other_link : Some other ≡ link_with many same old
  pub alike : map (identity_key first) objects ≡ map (identity_key second) same

-- ---- what a load starts from

-- the mapping is configured, the objects are those of an arena and fit it, and the tables hold rows of theirs
pub record IsStage (mapped : Mapped) (w : World) : Type 0 where
  pub has : HasHierarchies mapped
  pub related : AreRelated mapped
  pub graph : IsGraph w.own.graph.objects w.own.graph.roots
  pub fit : IsFit mapped w.own.graph
  pub held : AreRows mapped.schema (bare w.store.tables)

-- a persistent owner at whose place the relationship stands; of a many-to-one relationship no cell of its foreign key is expired
pub record IsReady (mapped : Mapped) (relation : Relation) (place : RelNo) (graph : Graph) (object : ObjId) : Type 0 where
  pub owner : IsOwner mapped graph relation place object
  pub held : relation.many ≡ false → is_key_expired mapped relation (object_at graph object) ≡ false

-- an object that the identity map has under a key is of the class just where one of the class's rows has the key
abbrev pub IsOfItsRow : Mapped → ClassId → List Row → Graph → List Value → Option ObjId → Type 0
IsOfItsRow mapped class all graph key None = Unit {0}
IsOfItsRow mapped class all graph key (Some object) = is_of graph mapped class object ≡ has_row mapped class all key

-- where an owner refers to one row, so is the object that the identity map has under its key
abbrev pub AgreesWithMap : Mapped → Relation → List Row → Graph → ObjId → Type 0
AgreesWithMap mapped relation all graph owner =
    relation.many ≡ false → IsOfItsRow mapped relation.target all graph (key_of mapped relation graph owner) (find_identity graph (root_of mapped relation.target) (key_of mapped relation graph owner))
