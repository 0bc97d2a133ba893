-- What loads fill of many-to-one links: the object to which an owner's foreign key leads, whatever the strategy.
use Rattle.std.specs.Prelude.{◌≡◌, Bool, true, false, not, ◌&&◌, List, Option, None, Some, is_some}
use Rattle.std.specs.List.{All, list_any}
use Rattle.std.specs.Option.{option_map}
use Rattle.base_core.specs.declared.ids.ClassId.{ClassId}
use Rattle.base_core.specs.declared.ids.ObjId.{ObjId}
use Rattle.base_core.specs.declared.ids.RelNo.{RelNo}
use Rattle.base_core.specs.declared.value.Value.{Value}
use Rattle.schema_core.specs.Tables.{has_null, same_values}
use Rattle.sql_semantics.specs.Eval.{Row}
use Rattle.class_types.specs.declared.mapped.Relation.{Relation}
use Rattle.class_mapping.specs.Mapped.{Mapped, root_of}
use Rattle.class_mapping.specs.Related.{IsRelated}
use Rattle.mapping_laws.specs.Hierarchies.{HasHierarchies}
use Rattle.object_arena.specs.declared.object.Link.{Link}
use Rattle.object_arena.specs.declared.object.Link.TheVariants.{One}
use Rattle.object_arena.specs.Graph.{Graph, IsLink, IsObject, is_among, object_at}
use Rattle.object_arena.specs.Identity.{find_identity}
use Rattle.relations.specs.Mirror.{is_of}
use Rattle.load_filling.specs.Rows.{row_key}
use Rattle.load_rows.specs.Reading.{identity_key}
use Rattle.load_rows.specs.Links.{link_at}
use Rattle.load_calls.specs.Reading.{World}
use Rattle.load_targets.specs.ForeignKeys.{is_key_expired}
use Rattle.load_targets.specs.Targets.{load_target}
use Rattle.load_batches.specs.Batches.{is_unloaded}
use Rattle.load_ends.specs.Ends.{key_of, load_ends}
use Rattle.loading_laws.specs.Strategies.Filled.{Goes, Stage}
use Rattle.loading_laws.specs.Strategies.Standing.{Stands}

-- ---- what a load starts from

-- a many-to-one relationship of a configured mapping
pub record IsManyToOne (mapped : Mapped) (relation : Relation) : Type 0 where
  pub has : HasHierarchies mapped
  pub related : IsRelated mapped relation
  pub one : relation.many ≡ false
  pub near : relation.far ≡ None

-- an object with an unloaded link at the place, of whose foreign key no cell is expired
pub record IsPointing (mapped : Mapped) (relation : Relation) (place : RelNo) (graph : Graph) (owner : ObjId) : Type 0 where
  pub made : IsObject graph owner
  pub has : IsLink graph owner place
  pub unloaded : is_unloaded (link_at graph owner place) ≡ true
  pub held : is_key_expired mapped relation (object_at graph owner) ≡ false

-- ---- to what a foreign key leads

-- one of these rows of the class has the key
abbrev pub has_row : Mapped → ClassId → List Row → List Value → Bool
has_row mapped class rows key = list_any (λ row. same_values (row_key mapped class row) key) rows

-- where the identity map has an object under the key it is that one, if its class fits; else there has to be a row
abbrev pub leads_by : Mapped → Relation → List Row → Graph → List Value → Option ObjId → Bool
leads_by mapped relation all graph key (Some object) = is_of graph mapped relation.target object
leads_by mapped relation all graph key None = has_row mapped relation.target all key

-- a key leads to an object of the target; one with a NULL leads to none
abbrev pub leads_to_one : Mapped → Relation → List Row → Graph → List Value → Bool
leads_to_one mapped relation all graph key = not (has_null key) && leads_by mapped relation all graph key (find_identity graph (root_of mapped relation.target) key)

abbrev pub StandsIfAny : ClassId → Graph → List Value → Option ObjId → Type 0
StandsIfAny root graph key None = Unit {0}
StandsIfAny root graph key (Some object) = Stands root graph key object

-- the link leads to the persistent object of the key where it leads to one, and to none otherwise
pub record IsLed (mapped : Mapped) (relation : Relation) (leads : Bool) (key : List Value) (graph : Graph) (now : Link) : Type 0 where
  pub end : Option ObjId
  pub link : now ≡ One end false
  pub some : is_some end ≡ leads
  pub stands : StandsIfAny (root_of mapped relation.target) graph key end

-- two links lead to objects of one identity, each in its graph, or both to none
pub record LeadAlike (first second : Graph) (one other : Link) : Type 0 where
  pub end : Option ObjId
  pub same : Option ObjId
  pub one_link : one ≡ One end false
  pub other_link : other ≡ One same false
  pub alike : option_map (identity_key first) end ≡ option_map (identity_key second) same

-- ---- the laws

-- the link of an owner leads to what its foreign key says
abbrev pub LeadsToTarget : Mapped → Relation → RelNo → List Row → World → World → ObjId → Type 0
LeadsToTarget mapped relation place all w after owner =
    IsLed mapped relation (leads_to_one mapped relation all w.own.graph (key_of mapped relation w.own.graph owner)) (key_of mapped relation w.own.graph owner) after.own.graph (link_at after.own.graph owner place)

-- A lazy load leads the link of an owner to what its foreign key says.
abbrev pub LazyLeads : Type 0
LazyLeads =
    (mapped : Mapped) (relation : Relation) (place : RelNo) (owner : ObjId) (all : List Row) (w after : World) → IsManyToOne mapped relation → Stage mapped relation all w → IsPointing mapped relation place w.own.graph owner
    → Goes (load_target mapped relation owner place) w tt after → LeadsToTarget mapped relation place all w after owner

-- A select-in load leads so the link of each owner.
abbrev pub SelectinLeads : Type 0
SelectinLeads =
    (mapped : Mapped) (relation : Relation) (place : RelNo) (owners : List ObjId) (owner : ObjId) (all : List Row) (w after : World) → IsManyToOne mapped relation → Stage mapped relation all w
    → All (IsPointing mapped relation place w.own.graph) owners → is_among owners owner ≡ true
    → Goes (load_ends mapped relation place owners) w tt after → LeadsToTarget mapped relation place all w after owner

-- Both lead it to the same object, by identity, or both to none.
abbrev pub StrategiesLeadAlike : Type 0
StrategiesLeadAlike =
    (mapped : Mapped) (relation : Relation) (place : RelNo) (owners : List ObjId) (owner : ObjId) (all : List Row) (w lazy together : World) → IsManyToOne mapped relation → Stage mapped relation all w
    → All (IsPointing mapped relation place w.own.graph) owners → is_among owners owner ≡ true
    → Goes (load_target mapped relation owner place) w tt lazy → Goes (load_ends mapped relation place owners) w tt together
    → LeadAlike lazy.own.graph together.own.graph (link_at lazy.own.graph owner place) (link_at together.own.graph owner place)
