-- Lazy and joined loading answer the same objects and fill the same links.
use Rattle.std.specs.Prelude.{◌≡◌, ◌==◌, true, List}
use Rattle.std.specs.List.{list_any}
use Rattle.base_core.specs.declared.ids.ClassId.{ClassId}
use Rattle.base_core.specs.declared.ids.ObjId.{ObjId}
use Rattle.base_core.specs.declared.ids.RelNo.{RelNo}
use Rattle.base_core.specs.declared.value.Value.{Value}
use Rattle.expr_types.specs.declared.select.ObjectQuery.{ObjectQuery}
use Rattle.sql_semantics.specs.Created.{bare}
use Rattle.class_mapping.specs.Mapped.{Mapped, root_of}
use Rattle.object_arena.specs.declared.object.Link.{Link}
use Rattle.object_arena.specs.Fit.{relation_of}
use Rattle.object_arena.specs.Graph.{Graph, is_among}
use Rattle.object_arena.specs.Identity.{find_identity}
use Rattle.relations.specs.Mirror.{is_of}
use Rattle.load_rows.specs.Reading.{identity_key}
use Rattle.load_rows.specs.Links.{link_at}
use Rattle.load_calls.specs.Reading.{World}
use Rattle.load_batches.specs.Batches.{is_unloaded}
use Rattle.load_queries.specs.Queries.{load_select}
use Rattle.load_queries.specs.Joined.{load_joined}
use Rattle.load_targets.specs.Targets.{load_lazy}
use Rattle.loading_laws.specs.Strategies.Filled.{Goes}
use Rattle.loading_laws.specs.Joined.Joined.{AnswerAlike, link_before}
use Rattle.loading_laws.specs.Loaders.Linked.{HoldAlike}
use Rattle.loading_laws.specs.Loaders.OwnRows.{AreOfTheirRows}
use Rattle.loading_laws.specs.Loading.Loadable.{AreFresh, IsLoadable}

-- from one world a query's objects are read by its own select, and by its main select with its options
pub record AreBothRead (mapped : Mapped) (query : ObjectQuery) (objects answered : List ObjId) (w first after : World) : Type 0 where
  pub query_is : IsLoadable mapped query w
  pub selected : Goes (load_select mapped query) w objects first
  pub joined : Goes (load_joined mapped query) w answered after

-- Both answer objects of the same identities, in the same order and each once.
abbrev pub LoadsAnswerAlike : Type 0
LoadsAnswerAlike =
    (mapped : Mapped) (query : ObjectQuery) (objects answered : List ObjId) (w first after : World) → AreBothRead mapped query objects answered w first after
    → AnswerAlike mapped query.class w.own.graph first.own.graph after.own.graph objects answered

-- the link of the object that had a key before a load: of one that the load makes it is unloaded
abbrev pub old_link : Mapped → ClassId → RelNo → Graph → List Value → Link
old_link mapped class place graph key = link_before graph place (find_identity graph (root_of mapped class) key)

-- the same owner answered by both, of the class, and one of the options; its link was unloaded
pub record IsOwner (mapped : Mapped) (query : ObjectQuery) (objects answered : List ObjId) (w first after : World) (place : RelNo) (one owner : ObjId) : Type 0 where
  pub asked : list_any (λ (other : RelNo). other.0 == place.0) query.joined ≡ true
  pub one_among : is_among objects one ≡ true
  pub owner_among : is_among answered owner ≡ true
  pub same : identity_key first.own.graph one ≡ identity_key after.own.graph owner
  pub one_of : is_of first.own.graph mapped query.class one ≡ true
  pub owner_of : is_of after.own.graph mapped query.class owner ≡ true
  pub unloaded : is_unloaded (old_link mapped query.class place w.own.graph (identity_key first.own.graph one)) ≡ true

-- Nothing was left to flush, and behind the own select each persistent object whose row is there is of the class that its row names.
pub record AreSettled (mapped : Mapped) (w first : World) : Type 0 where
  pub fresh : AreFresh mapped w.store.tables w.own.graph
  pub own : AreOfTheirRows mapped (bare w.store.tables) first.own.graph

-- A lazy load of the owner's link, of whatever kind, fills it with objects of the same identities as the joined load did, in the same
-- order, and puts the same kept changes to them.
abbrev pub LinksAgree : Type 0
LinksAgree =
    (mapped : Mapped) (query : ObjectQuery) (objects answered : List ObjId) (w first after lazy : World) (place : RelNo) (one owner : ObjId) → AreBothRead mapped query objects answered w first after
    → IsOwner mapped query objects answered w first after place one owner → AreSettled mapped w first → Goes (load_lazy mapped one place) first tt lazy
    → HoldAlike lazy.own.graph after.own.graph (relation_of mapped query.class place).many (link_at first.own.graph one place) (link_at lazy.own.graph one place) (link_at after.own.graph owner place)
