-- What a joined load answers and fills: the objects that the query's own select gives, and links as a lazy load fills them.
use Rattle.std.specs.Prelude.{◌≡◌, ◌<◌, ◌==◌, true, false, List, [], fold, length, map, Option, None, Some, Ok}
use Rattle.std.specs.List.{All, list_any}
use Rattle.base_core.specs.declared.ids.ClassId.{ClassId}
use Rattle.base_core.specs.declared.ids.ObjId.{ObjId}
use Rattle.base_core.specs.declared.ids.RelNo.{RelNo}
use Rattle.base_core.specs.declared.value.Value.{Value}
use Rattle.schema_core.specs.Tables.{same_values}
use Rattle.expr_types.specs.declared.select.ObjectQuery.{ObjectQuery}
use Rattle.sql_semantics.specs.Created.{bare}
use Rattle.sql_semantics.specs.Eval.{Row}
use Rattle.sql_semantics.specs.Rows.{answer}
use Rattle.class_types.specs.declared.mapped.Relation.{Relation}
use Rattle.class_mapping.specs.Mapped.{IsClass, Mapped, relations_of, root_of}
use Rattle.class_mapping.specs.Related.{AreRelated}
use Rattle.mapping_laws.specs.Hierarchies.{HasHierarchies}
use Rattle.object_arena.specs.declared.object.Link.{Link}
use Rattle.object_arena.specs.declared.object.Link.TheVariants.{Unloaded}
use Rattle.object_arena.specs.Fit.{IsFit, relation_of}
use Rattle.object_arena.specs.Graph.{Graph}
use Rattle.object_arena.specs.Identity.{find_identity}
use Rattle.relations.specs.Mirror.{is_of}
use Rattle.main_selects.specs.MainSelect.{main_select}
use Rattle.load_filling.specs.Rows.{row_key}
use Rattle.load_rows.specs.Reading.{identity_key}
use Rattle.load_rows.specs.Links.{link_at}
use Rattle.load_calls.specs.Reading.{World}
use Rattle.load_batches.specs.Batches.{is_unloaded}
use Rattle.load_ends.specs.Ends.{with_first}
use Rattle.load_queries.specs.Queries.{load_select}
use Rattle.load_queries.specs.Joined.{load_joined}
use Rattle.loading_laws.specs.Answers.Answers.{AreRowsOf}
use Rattle.loading_laws.specs.Strategies.Filled.{Goes, IsFilled}
use Rattle.loading_laws.specs.Strategies.Ends.{IsLed, has_row}
use Rattle.loading_laws.specs.Joined.Blocks.{AreJoined, referred_key, tied_rows}

-- ---- the objects

-- keys where each comes first
abbrev pub first_keys : List (List Value) → List (List Value)
first_keys keys = fold with_first [] keys

-- the objects are those that the identity map has under the keys of rows of a class, each where its key comes first
pub record AreAnswered (mapped : Mapped) (class : ClassId) (rows : List Row) (graph : Graph) (answered : List ObjId) : Type 0 where
  pub keys : map (identity_key graph) answered ≡ first_keys (map (row_key mapped class) rows)
  pub found : All (λ object. find_identity graph (root_of mapped class) (identity_key graph object) ≡ Some object) answered

-- two loads answer objects of the same identities in the same order, each once, and both the one that had an identity before
pub record AnswerAlike (mapped : Mapped) (class : ClassId) (start first second : Graph) (one other : List ObjId) : Type 0 where
  pub rows : List Row
  pub first_are : AreAnswered mapped class rows first one
  pub second_are : AreAnswered mapped class rows second other
  pub first_kept : (key : List Value) (object : ObjId) → find_identity start (root_of mapped class) key ≡ Some object → find_identity first (root_of mapped class) key ≡ Some object
  pub second_kept : (key : List Value) (object : ObjId) → find_identity start (root_of mapped class) key ≡ Some object → find_identity second (root_of mapped class) key ≡ Some object

-- ---- what a load starts from

-- A query for objects of a class of a configured mapping, with options of its relationships, over objects that fit the mapping and
-- tables in which its own select answers the plain rows and its main select the joined ones.
pub record IsJoining (mapped : Mapped) (query : ObjectQuery) (plain joined : List Row) (w : World) : Type 0 where
  pub has : HasHierarchies mapped
  pub related : AreRelated mapped
  pub class : IsClass mapped query.class
  pub places : All (λ (place : RelNo). place.0 < length (relations_of mapped query.class)) query.joined
  pub fit : IsFit mapped w.own.graph
  pub own_rows : answer mapped.schema (bare w.store.tables) query.select ≡ Ok plain
  pub main_rows : answer mapped.schema (bare w.store.tables) (main_select mapped query) ≡ Ok joined
  pub rows : AreJoined mapped query (bare w.store.tables) plain joined

-- a link before a load: that of the object that has a key, and that of an object which the load makes is unloaded
abbrev pub link_before : Graph → RelNo → Option ObjId → Link
link_before graph place (Some object) = link_at graph object place
link_before graph place None = Unloaded [] []

abbrev pub first_link : Mapped → ClassId → RelNo → Graph → Row → Link
first_link mapped class place graph row = link_before graph place (find_identity graph (root_of mapped class) (row_key mapped class row))

-- the object of a row of the query, of its class, and one of its options, whose link was not loaded
pub record IsJoinedOwner (mapped : Mapped) (query : ObjectQuery) (plain : List Row) (first last : Graph) (row : Row) (place : RelNo) (owner : ObjId) : Type 0 where
  pub asked : list_any (λ (other : RelNo). other.0 == place.0) query.joined ≡ true
  pub among : list_any (same_values row) plain ≡ true
  pub found : find_identity last (root_of mapped query.class) (row_key mapped query.class row) ≡ Some owner
  pub of : is_of last mapped query.class owner ≡ true
  pub unloaded : is_unloaded (first_link mapped query.class place first row) ≡ true

-- the object of a row of a class, which is of the class
pub record IsOwnerOf (mapped : Mapped) (class : ClassId) (graph : Graph) (row : Row) (owner : ObjId) : Type 0 where
  pub found : find_identity graph (root_of mapped class) (row_key mapped class row) ≡ Some owner
  pub of : is_of graph mapped class owner ≡ true

-- the rows under a row's key refer to one key
abbrev pub ReferAlike : Mapped → ClassId → Relation → List Row → Row → Type 0
ReferAlike mapped class relation rows row =
    (other : Row) → list_any (same_values other) rows ≡ true → row_key mapped class other ≡ row_key mapped class row → referred_key mapped class relation other ≡ referred_key mapped class relation row

-- ---- the laws

-- A joined load answers the objects that the query's own select gives, each where it comes first.
abbrev pub JoinedAnswers : Type 0
JoinedAnswers =
    (mapped : Mapped) (query : ObjectQuery) (plain joined : List Row) (objects answered : List ObjId) (w first after : World) → IsJoining mapped query plain joined w → Goes (load_select mapped query) w objects first
    → Goes (load_joined mapped query) w answered after → AnswerAlike mapped query.class w.own.graph first.own.graph after.own.graph objects answered

-- A joined load fills the collection of an owner with the objects of the rows to which its row leads.
abbrev pub JoinedFills : Type 0
JoinedFills =
    (mapped : Mapped) (query : ObjectQuery) (plain joined all : List Row) (answered : List ObjId) (w after : World) (row : Row) (place : RelNo) (owner : ObjId) → IsJoining mapped query plain joined w
    → (relation_of mapped query.class place).many ≡ true → AreRowsOf mapped (relation_of mapped query.class place).target (bare w.store.tables) all → Goes (load_joined mapped query) w answered after
    → IsJoinedOwner mapped query plain w.own.graph after.own.graph row place owner
    → IsFilled mapped (relation_of mapped query.class place) (tied_rows mapped query.class (relation_of mapped query.class place) (bare w.store.tables) all row) (first_link mapped query.class place w.own.graph row) after.own.graph (link_at after.own.graph owner place)

-- A joined load leads a many-to-one link to the object of the row to which the foreign key of its owner's row refers.
abbrev pub JoinedLeads : Type 0
JoinedLeads =
    (mapped : Mapped) (query : ObjectQuery) (plain joined all : List Row) (answered : List ObjId) (w after : World) (row : Row) (place : RelNo) (owner : ObjId) → IsJoining mapped query plain joined w
    → (relation_of mapped query.class place).many ≡ false → AreRowsOf mapped (relation_of mapped query.class place).target (bare w.store.tables) all → ReferAlike mapped query.class (relation_of mapped query.class place) plain row
    → Goes (load_joined mapped query) w answered after → IsJoinedOwner mapped query plain w.own.graph after.own.graph row place owner
    → IsLed mapped (relation_of mapped query.class place) (has_row mapped (relation_of mapped query.class place).target all (referred_key mapped query.class (relation_of mapped query.class place) row))
    (referred_key mapped query.class (relation_of mapped query.class place) row) after.own.graph (link_at after.own.graph owner place)
