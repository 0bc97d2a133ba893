-- A lazy load of an owner whose foreign key is expired reads its cells first.
use Rattle.std.proofs.Common.{◌≡◌, Bool, true, false, List, [], ◌∷◌, length, Option, if◌then◌else◌, refl, sym, ap, subst, ◌∙◌}
use Rattle.std.specs.Prelude.{slice_index_or, unwrap_or}
use Rattle.base_core.specs.declared.ids.AttrNo.{AttrNo}
use Rattle.base_core.specs.declared.ids.ClassId.{ClassId}
use Rattle.base_core.specs.declared.ids.ObjId.{ObjId}
use Rattle.base_core.specs.declared.ids.RelNo.{RelNo}
use Rattle.base_core.specs.declared.value.Value.{Value}
use Rattle.schema_core.specs.WellFormed.{is_key}
use Rattle.sql_semantics.specs.Created.{bare}
use Rattle.sql_semantics.specs.Eval.{Row}
use Rattle.sql_semantics.specs.Shapes.{AreRows}
use Rattle.class_types.specs.declared.mapped.Relation.{Relation}
use Rattle.class_mapping.specs.Mapped.{Mapped, root_spec}
use Rattle.class_mapping.specs.Paired.{IsAt}
use Rattle.keeper_core.specs.Programs.{◌>>=◌, continue_from, give}
use Rattle.keeper_core.specs.Beside.{by_own, on_own}
use Rattle.keeper_core.specs.Store.{Store}
use Rattle.object_arena.specs.declared.object.Link.{Link}
use Rattle.object_arena.specs.declared.object.Link.TheVariants.{Unset}
use Rattle.object_arena.specs.declared.object.Object.{Object}
use Rattle.object_arena.specs.Graph.{Graph, no_object, object_at, place_of}
use Rattle.object_arena.specs.Identity.{IsGraph}
use Rattle.load_filling.specs.Filled.{Found, filled_object, with_filled}
use Rattle.load_rows.specs.Loading.{Loading, filled}
use Rattle.load_rows.specs.Links.{link_at}
use Rattle.load_calls.specs.Reading.{World, read}
use Rattle.load_calls.specs.Refreshing.{expired_attrs, found_among, read_cells, refresh, refresh_cells, take_cells}
use Rattle.load_calls.specs.Collections.{load_collection}
use Rattle.load_targets.specs.ForeignKeys.{is_key_expired}
use Rattle.load_targets.specs.Targets.{load_end, load_lazy, load_target, refresh_if, refresh_key}
use Rattle.load_batches.specs.Batches.{IsOwner, is_unloaded}
use Rattle.load_selects.specs.Selects.{cells_select}
use Rattle.load_rows.specs.Reading.{identity_key}
use Rattle.loading_laws.specs.Answers.Answers.{AreRowsOf}
use Rattle.loading_laws.specs.Strategies.Filled.{Goes}
use Rattle.loading_laws.specs.Strategies.Standing.{Stays}
use Rattle.loading_laws.proofs.Strategies.Goes.{by_own_goes, given, on_own_goes, parted, read_goes}
use Rattle.loading_laws.proofs.Strategies.Standing.{made_later, set_related, stays_put, stays_same}
use Rattle.loading_laws.specs.Loaders.Linked.{IsStage}
use Rattle.loading_laws.specs.Loaders.Expired.{ReadsKeyFirst}
use Rattle.loading_laws.proofs.Loaders.Frames.{graph_put}
use Rattle.loading_laws.proofs.Loaders.EachKind.{owned_at, owned_keyed, owned_related}
use Rattle.loading_laws.proofs.Loaders.Loads.{lazily, lazy_by}

-- ---- the reading of cells

-- an object with other cells alone
record IsRead (object : ObjId) (old new : Graph) : Type 0 where
  graph : IsGraph new.objects new.roots
  stays : Stays old new
  class : (object_at new object).class ≡ (object_at old object).class
  links : (object_at new object).links ≡ (object_at old object).links

filled_read : (object : ObjId) (graph : Graph) (found : Found) → IsGraph graph.objects graph.roots → IsRead object graph (with_filled graph object found)
unfolding with_filled
filled_read object graph found is =
    let new : Object = filled_object found (object_at graph object) in
    record {
      graph = graph_put graph object new is refl refl;
      stays = stays_put graph object new refl refl;
      class = set_related (λ (x y : Object). y.class ≡ x.class) graph.objects (place_of object) (place_of object) new no_object (λ x. refl) refl;
      links = set_related (λ (x y : Object). y.links ≡ x.links) graph.objects (place_of object) (place_of object) new no_object (λ x. refl) refl;
    }

taken_read : (object : ObjId) (attrs : List AttrNo) (rows : List (List Value)) (own now : Loading) → IsGraph own.graph.objects own.graph.roots → Goes (take_cells object attrs rows) own tt now → IsRead object own.graph now.graph
unfolding take_cells filled
taken_read object attrs [] own now is g = absurd (let no = g.answer in cc)
taken_read object attrs (row ∷ rows) own now is g =
    subst (λ (graph : Graph). IsRead object own.graph graph) (ap (λ (one : Loading). one.graph) g.leaves) (filled_read object own.graph (found_among (length (object_at own.graph object).cells) attrs row) is)

cells_read : (mapped : Mapped) (object : ObjId) (attrs : List AttrNo) (w u : World) → IsGraph w.own.graph.objects w.own.graph.roots → Goes (refresh_cells mapped object attrs) w tt u → IsRead object w.own.graph u.own.graph × (u.store ≡ w.store)
unfolding read_cells
cells_read mapped object [] w u is g =
    let same : w ≡ u = (given tt tt w u g).1 in
    (subst (λ (x : World). IsRead object w.own.graph x.own.graph) same (record { graph = is; stays = stays_same w.own.graph; class = refl; links = refl }), ap (λ (x : World). x.store) (sym same))
cells_read mapped object (attr ∷ attrs) w u is g =
    let two = parted (read_cells mapped object (attr ∷ attrs)) (λ (rows : List (List Value)). on_own (take_cells object (attr ∷ attrs) rows)) w tt u g in
    let asked = λ (own : Loading). read mapped.schema (cells_select mapped (object_at own.graph object).class (attr ∷ attrs) (identity_key own.graph object)) in
    let chosen = by_own_goes asked w two.value two.between (record { answer = two.first.answer; leaves = two.first.leaves }) in
    let sent = read_goes mapped.schema (cells_select mapped (object_at w.own.graph object).class (attr ∷ attrs) (identity_key w.own.graph object)) w two.value two.between chosen in
    let own = on_own_goes (take_cells object (attr ∷ attrs) two.value) two.between tt u two.second in
    let here : IsGraph two.between.own.graph.objects two.between.own.graph.roots = subst (λ (graph : Graph). IsGraph graph.objects graph.roots) (sym sent.graph) is in
    (subst (λ (graph : Graph). IsRead object graph u.own.graph) sent.graph (taken_read object (attr ∷ attrs) two.value two.between.own u.own here own.goes), own.store ∙ sent.store)

refreshed : (mapped : Mapped) (object : ObjId) (w u : World) → IsGraph w.own.graph.objects w.own.graph.roots → Goes (refresh mapped object) w tt u → IsRead object w.own.graph u.own.graph × (u.store ≡ w.store)
unfolding refresh
refreshed mapped object w u is g =
    cells_read mapped object (expired_attrs (object_at w.own.graph object)) w u is (by_own_goes (λ (own : Loading). refresh_cells mapped object (expired_attrs (object_at own.graph object))) w tt u (record { answer = g.answer; leaves = g.leaves }))

-- ---- the load behind it

-- where the key is held nothing is read before
target_then : (mapped : Mapped) (relation : Relation) (owner : ObjId) (place : RelNo) (u after : World) → is_key_expired mapped relation (object_at u.own.graph owner) ≡ false → Goes (load_end mapped relation owner place tt) u tt after
    → Goes (load_target mapped relation owner place) u tt after
unfolding load_target refresh_key by_own ◌>>=◌ give
target_then mapped relation owner place u after held g = record {
  answer =
      ap (λ (b : Bool). (continue_from (refresh_if b mapped owner u).events (refresh_if b mapped owner u).after (refresh_if b mapped owner u).answer (load_end mapped relation owner place)).answer) held ∙ g.answer;
  leaves =
      ap (λ (b : Bool). (continue_from (refresh_if b mapped owner u).events (refresh_if b mapped owner u).after (refresh_if b mapped owner u).answer (load_end mapped relation owner place)).after) held ∙ g.leaves;
}

reads_first : (mapped : Mapped) (relation : Relation) (place : RelNo) (owner : ObjId) (all : List Row) (w after : World) → IsStage mapped w → AreRowsOf mapped relation.target (bare w.store.tables) all → IsOwner mapped w.own.graph relation place owner
    → relation.many ≡ false → is_unloaded (link_at w.own.graph owner place) ≡ true → is_key_expired mapped relation (object_at w.own.graph owner) ≡ true → Goes (load_target mapped relation owner place) w tt after
    → ReadsKeyFirst mapped relation place all w after owner
unfolding load_target refresh_key
reads_first mapped relation place owner all w after stage rows owned single unloaded expired g =
    let two =
    parted (by_own (λ (own : Loading). refresh_if (is_key_expired mapped relation (object_at own.graph owner)) mapped owner)) (load_end mapped relation owner place) w tt after (record { answer = g.answer; leaves = g.leaves }) in
    let u : World = two.between in
    let chosen = by_own_goes (λ (own : Loading). refresh_if (is_key_expired mapped relation (object_at own.graph owner)) mapped owner) w two.value u two.first in
    let reading : Goes (refresh mapped owner) w tt u = subst (λ (b : Bool). Goes (refresh_if b mapped owner) w two.value u) expired chosen in
    let read_one = refreshed mapped owner w u stage.graph reading in
    let link : link_at u.own.graph owner place ≡ link_at w.own.graph owner place = ap (λ (links : List Link). slice_index_or links place.0 Unset) read_one.0.links in
    record {
      between = u;
      read = reading;
      same_store = read_one.1;
      same_link = link;
      leads = λ held agrees.
          lazily mapped relation place all u
          (record {
            has = stage.has;
            related = owned_related mapped relation place w owner stage owned;
            rooted = read_one.0.graph.rooted;
            held = subst (λ (store : Store). AreRows mapped.schema (bare store.tables)) (sym read_one.1) stage.held;
            rows = subst (λ (store : Store). AreRowsOf mapped relation.target (bare store.tables) all) (sym read_one.1) rows;
          })
          owner after relation.far false refl single
          (record {
            made = made_later w.own.graph u.own.graph owner read_one.0.stays owned.made;
            at = subst (λ (own : ClassId). IsAt mapped own place.0 relation) (sym read_one.0.class) (owned_at mapped relation place w owner stage owned);
            unloaded = ap is_unloaded link ∙ unloaded;
            keyed =
                ap (λ (identity : Option (List Value)). is_key (root_spec mapped relation.class) (unwrap_or identity [])) (read_one.0.stays.identities owner owned.made)
                ∙ owned_keyed mapped relation place w owner stage owned;
            held = λ only. held;
          })
          agrees (target_then mapped relation owner place u after held (record { answer = two.second.answer; leaves = two.second.leaves }));
    }

pub lazy_reads_first : (mapped : Mapped) (relation : Relation) (place : RelNo) (owner : ObjId) (all : List Row) (w after : World) → IsStage mapped w → AreRowsOf mapped relation.target (bare w.store.tables) all → IsOwner mapped w.own.graph relation place owner
    → relation.many ≡ false → is_unloaded (link_at w.own.graph owner place) ≡ true → is_key_expired mapped relation (object_at w.own.graph owner) ≡ true → Goes (load_lazy mapped owner place) w tt after
    → ReadsKeyFirst mapped relation place all w after owner
lazy_reads_first mapped relation place owner all w after stage rows owned single unloaded expired g =
    reads_first mapped relation place owner all w after stage rows owned single unloaded expired
    (subst (λ (b : Bool). Goes (if b then load_collection mapped relation owner place else load_target mapped relation owner place) w tt after) single (lazy_by mapped relation place owner w after owned g))
