-- The reading of one link of several objects together, by the kind of the relationship, and of the links that a query names.
use Rattle.std.specs.Prelude.{◌≡◌, ◌<◌, Bool, true, ◌&&◌, List, [], ◌∷◌, length, if◌then◌else◌}
use Rattle.std.specs.List.{All, flat_map}
use Rattle.base_core.specs.declared.ids.ClassId.{ClassId}
use Rattle.base_core.specs.declared.ids.ObjId.{ObjId}
use Rattle.base_core.specs.declared.ids.RelNo.{RelNo}
use Rattle.expr_types.specs.declared.select.ObjectQuery.{ObjectQuery}
use Rattle.class_types.specs.declared.mapped.Relation.{Relation}
use Rattle.sql_semantics.specs.Plain.{IsPlainSelect}
use Rattle.class_mapping.specs.Mapped.{IsClass, Mapped, relations_of}
use Rattle.class_mapping.specs.Paired.{is_at_or_under}
use Rattle.object_arena.specs.declared.object.State.TheVariants.{Persistent}
use Rattle.object_arena.specs.Fit.{relation_of}
use Rattle.object_arena.specs.Graph.{Graph, IsObject, is_persistent, object_at}
use Rattle.keeper_core.specs.Programs.{Run, ◌>>=◌, each, give}
use Rattle.keeper_core.specs.Beside.{by_own}
use Rattle.relations.specs.Mirror.{is_of}
use Rattle.main_selects.specs.MainSelect.{main_select}
use Rattle.load_calls.specs.Reading.{World}
use Rattle.load_batches.specs.Batches.{load_members}
use Rattle.load_ends.specs.Ends.{load_ends}
use Rattle.load_queries.specs.Joined.{load_joined}
use Rattle.load_queries.specs.Queries.{ReadsObjects, load_select}

-- ---- owners

-- a persistent object of the class or of one under it
pub record IsOwnerOf (mapped : Mapped) (graph : Graph) (class : ClassId) (object : ObjId) : Type 0 where
  pub made : IsObject graph object
  pub persistent : (object_at graph object).state ≡ Persistent
  pub under : is_at_or_under mapped (object_at graph object).class class ≡ true

-- the owners are such objects of one class, which has a relationship at the place
pub record AreOwners (mapped : Mapped) (graph : Graph) (place : RelNo) (owners : List ObjId) : Type 0 where
  pub class : ClassId
  pub within : place.0 < length (relations_of mapped class)
  pub each : All (IsOwnerOf mapped graph class) owners

-- ---- one link of several objects

-- the links at a place where owners have this relationship: collections, or links with one end
abbrev pub load_together : Mapped → Relation → RelNo → List ObjId → World → Run World (Unit {0})
load_together mapped relation place owners = if relation.many then load_members mapped relation place owners else load_ends mapped relation place owners

-- the links at a place where owners have one relationship, which is the one that the first of them has there
unfoldable pub load_selectin : Mapped → RelNo → List ObjId → World → Run World (Unit {0})
load_selectin mapped place [] = give tt
load_selectin mapped place (first ∷ more) = by_own (λ own. load_together mapped (relation_of mapped (object_at own.graph first).class place) place (first ∷ more))

-- ---- the links that a query names

abbrev pub is_owner : Mapped → ClassId → Graph → ObjId → Bool
is_owner mapped class graph object = is_persistent (object_at graph object).state && is_of graph mapped class object

abbrev pub if_owner : Mapped → ClassId → Graph → ObjId → List ObjId
if_owner mapped class graph object = if is_owner mapped class graph object then object ∷ [] else []

-- of these objects the persistent ones of the class or of one under it: an object of another class is no owner
unfoldable pub owners_among : Mapped → ClassId → Graph → List ObjId → List ObjId
owners_among mapped class graph objects = flat_map (if_owner mapped class graph) objects

-- the class has a relationship at the place
abbrev pub IsOption : Mapped → ClassId → RelNo → Type 0
IsOption mapped class place = place.0 < length (relations_of mapped class)

-- Which queries can be answered with their options: these are relationships of its class, its select reads the objects of its class, and
-- its main select is plain.
pub record IsSelectable (mapped : Mapped) (query : ObjectQuery) : Type 0 where
  pub class : IsClass mapped query.class
  pub joined : All (IsOption mapped query.class) query.joined
  pub selectin : All (IsOption mapped query.class) query.selectin
  pub reads : ReadsObjects mapped query.class query.select
  pub plain : IsPlainSelect mapped.schema (main_select mapped query)

-- the links at the place of a relationship of the class, of those among the objects that have it
abbrev pub load_option : Mapped → ClassId → List ObjId → RelNo → Unit {0} → World → Run World (Unit {0})
load_option mapped class objects place u = by_own (λ own. load_together mapped (relation_of mapped class place) place (owners_among mapped class own.graph objects))

-- those at each of the places, one after the other
unfoldable pub load_options : Mapped → ClassId → List ObjId → List RelNo → World → Run World (Unit {0})
load_options mapped class objects places = each (load_option mapped class objects) tt places

abbrev pub with_options : Mapped → ObjectQuery → List ObjId → World → Run World (List ObjId)
with_options mapped query objects = load_options mapped query.class objects query.selectin >>= λ _. give objects

-- the objects of a query, whose links at its places are loaded then
unfoldable pub load_objects : Mapped → ObjectQuery → World → Run World (List ObjId)
load_objects mapped query = load_select mapped query >>= with_options mapped query

-- the objects of a query with what its joined options' links hold, and then the links at its other places
unfoldable pub load_query : Mapped → ObjectQuery → World → Run World (List ObjId)
load_query mapped query = load_joined mapped query >>= with_options mapped query
