-- A lazy load of a one-to-many collection fills it with what is related to its owner.
use Rattle.std.proofs.Common.{◌≡◌, suc, ◌<◌, arith, true, List, [], ◌∷◌, length, get_or, map, Option, Some, Ok, refl, sym, ap, subst, ◌∙◌}
use Rattle.std.specs.Prelude.{unwrap_or}
use Rattle.std.specs.List.{All}
use Rattle.base_core.specs.declared.ids.ClassId.{ClassId}
use Rattle.base_core.specs.declared.ids.ObjId.{ObjId}
use Rattle.base_core.specs.declared.ids.RelNo.{RelNo}
use Rattle.base_core.specs.declared.value.Value.{Value}
use Rattle.expr_types.specs.declared.select.Select.{Select}
use Rattle.sql_semantics.specs.Created.{bare}
use Rattle.sql_semantics.specs.Eval.{Row}
use Rattle.sql_semantics.specs.Rows.{answer}
use Rattle.class_types.specs.declared.mapped.Relation.{Relation}
use Rattle.class_sides.specs.Keys.{TableKey}
use Rattle.class_mapping.specs.Mapped.{Mapped, root_of}
use Rattle.class_mapping.specs.Paired.{HasPairs}
use Rattle.keeper_core.specs.Beside.{by_own, changes, on_own}
use Rattle.object_arena.specs.declared.object.Link.{Link}
use Rattle.object_arena.specs.declared.object.Link.TheVariants.{Unset, Unloaded, One, Many}
use Rattle.object_arena.specs.Graph.{Graph, IsLink, IsObject, object_at, with_link}
use Rattle.collection_selects.specs.Collections.{members_by, members_select, owner_columns}
use Rattle.load_filling.specs.Rows.{row_key}
use Rattle.load_rows.specs.Loading.{Loading}
use Rattle.load_rows.specs.Reading.{identity_key}
use Rattle.load_rows.specs.Links.{collection_filled, collection_of, in_key_order, link_at, linked, with_loaded}
use Rattle.load_calls.specs.Reading.{World, read}
use Rattle.load_calls.specs.Collections.{load_collection, read_members, take_members, take_rows}
use Rattle.load_batches.specs.Batches.{is_unloaded}
use Rattle.loading_laws.proofs.Answers.Filters.{rows_of_key}
use Rattle.loading_laws.specs.Strategies.Filled.{Goes, HoldsRelated, IsFilled, IsOneToMany, IsWaiting, Stage, key_of_owner, keys_in_order, related_rows}
use Rattle.loading_laws.specs.Strategies.Standing.{Keeps, Stands, Stays}
use Rattle.loading_laws.proofs.Strategies.Goes.{StandFor, by_own_goes, changed_to, on_own_goes, parted, read_goes, rows_taken}
use Rattle.loading_laws.proofs.Strategies.KeyOrder.{keys_of_stand, ordered_all, ordered_keys, stand_each}
use Rattle.loading_laws.proofs.Strategies.Tells.{tells_owners}
use Rattle.loading_laws.proofs.Strategies.Standing.{link_kept, link_put, made_later, stays_link}

-- ---- the filling of a collection

-- an unloaded link has what it is filled with
some_link : (read : List ObjId) (link : Link) → is_unloaded link ≡ true → (new : Link) × (collection_of read link ≡ Some new)
some_link read Unset h = absurd cc
some_link read (Unloaded added removed) h = (Many (linked added removed read) read, refl)
some_link read (One end changed) h = absurd cc
some_link read (Many members base) h = absurd cc

-- identities and who stands are not changed by a link
filled_keys : (old new : Graph) (objects : List ObjId) → Stays old new → All (IsObject old) objects → map (identity_key new) objects ≡ map (identity_key old) objects
filled_keys old new [] stays made = refl
filled_keys old new (object ∷ objects) stays made =
    let same : identity_key new object ≡ identity_key old object = ap (λ (k : Option (List Value)). unwrap_or k []) (stays.identities object (made 0 object (omega arith))) in
    ap (λ (x : List Value). x ∷ map (identity_key new) objects) same
    ∙ ap (λ (xs : List (List Value)). identity_key old object ∷ xs) (filled_keys old new objects stays (λ i d less. made (suc i) d (omega (arith, less))))

-- who stood for their own keys still do
stands_later : (root : ClassId) (old new : Graph) (objects : List ObjId) → Stays old new → All (λ object. Stands root old (identity_key old object) object) objects → All (λ object. Stands root new (identity_key new object) object) objects
stands_later root old new objects stays each = λ i d less.
    let object : ObjId = get_or objects i d in
    let one : Stands root old (identity_key old object) object = each i d less in
    let same : identity_key new object ≡ identity_key old object = ap (λ (k : Option (List Value)). unwrap_or k []) (stays.identities object one.0) in
    subst (λ (key : List Value). Stands root new key object) (sym same) (stays.stand root (identity_key old object) object one)

-- what is filled stays so while who stands stays
pub later_filled : (mapped : Mapped) (relation : Relation) (rows : List Row) (link now : Link) (old new : Graph) → Stays old new → IsFilled mapped relation rows link old now → IsFilled mapped relation rows link new now
later_filled mapped relation rows link now old new stays filled = record {
  base = filled.base;
  keys = filled_keys old new filled.base stays (λ i d less. (filled.stand i d less).0) ∙ filled.keys;
  stand = stands_later (root_of mapped relation.target) old new filled.base stays filled.stand;
  link = filled.link;
}

-- a graph in which the link holds the objects of rows in key order, and those that stood for them still do
pub filled_link : (mapped : Mapped) (relation : Relation) (place : RelNo) (owner : ObjId) (rows : List Row) (objects : List ObjId) (graph : Graph) (old : Link) → StandFor mapped relation.target graph rows objects → IsObject graph owner → IsLink graph owner place
    → is_unloaded old ≡ true → link_at graph owner place ≡ old → (own : Loading) → own.graph ≡ graph
    → IsFilled mapped relation rows old (collection_filled owner place objects own).graph (link_at (collection_filled owner place objects own).graph owner place)
unfolding collection_filled
filled_link mapped relation place owner rows objects graph old stand made held unloaded here own is =
    let base : List ObjId = in_key_order own.graph objects in
    let now : Link = link_at own.graph owner place in
    let same : now ≡ old = ap (λ (g : Graph). link_at g owner place) is ∙ here in
    let new = some_link base now (ap is_unloaded same ∙ unloaded) in
    let after : Graph = with_link own.graph owner place new.0 in
    let put : (with_loaded owner place (collection_of base now) own).graph ≡ after = ap (λ (link : Option Link). (with_loaded owner place link own).graph) new.1 in
    let stands : StandFor mapped relation.target own.graph rows objects = subst (λ (g : Graph). StandFor mapped relation.target g rows objects) (sym is) stand in
    let each : All (λ object. Stands (root_of mapped relation.target) own.graph (identity_key own.graph object) object) base =
    ordered_all (λ object. Stands (root_of mapped relation.target) own.graph (identity_key own.graph object) object) own.graph objects (stand_each mapped relation.target own.graph rows objects stands) in
    let stays : Stays own.graph after = stays_link own.graph owner place new.0 in
    let keys : map (identity_key after) base ≡ map (identity_key own.graph) base = filled_keys own.graph after base stays (λ i d less. (each i d less).0) in
    subst (λ (g : Graph). IsFilled mapped relation rows old g (link_at g owner place)) (sym put)
    (record {
      base = base;
      keys = keys ∙ ordered_keys own.graph objects ∙ ap keys_in_order (keys_of_stand mapped relation.target own.graph rows objects stands);
      stand = stands_later (root_of mapped relation.target) own.graph after base stays each;
      link =
          ap Some (link_put own.graph owner place new.0 (subst (λ (g : Graph). IsObject g owner) (sym is) made) (subst (λ (g : Graph). IsLink g owner place) (sym is) held))
          ∙ sym new.1 ∙ ap (collection_of base) same;
    })

-- rows under the same keys fill a link alike
pub filled_as : (mapped : Mapped) (relation : Relation) (one other : List Row) (old : Link) (graph : Graph) (now : Link) → keys_in_order (map (row_key mapped relation.target) one) ≡ keys_in_order (map (row_key mapped relation.target) other)
    → IsFilled mapped relation one old graph now → IsFilled mapped relation other old graph now
filled_as mapped relation one other old graph now same filled = record { base = filled.base; keys = filled.keys ∙ same; stand = filled.stand; link = filled.link }

-- ---- the load

-- a lazy load fills with the rows that are answered, or with others under the same keys
pub lazy_filled : (mapped : Mapped) (relation : Relation) (place : RelNo) (owner : ObjId) (wanted : List Row) (w after : World) → HasPairs mapped → length w.own.graph.roots ≡ length w.own.graph.objects → IsObject w.own.graph owner
    → IsLink w.own.graph owner place → is_unloaded (link_at w.own.graph owner place) ≡ true
    → ((rows : List Row) → answer mapped.schema (bare w.store.tables) (members_select mapped relation (identity_key w.own.graph owner)) ≡ Ok rows → keys_in_order (map (row_key mapped relation.target) rows) ≡ keys_in_order (map (row_key mapped relation.target) wanted))
    → Goes (load_collection mapped relation owner place) w tt after → IsFilled mapped relation wanted (link_at w.own.graph owner place) after.own.graph (link_at after.own.graph owner place)
unfolding load_collection read_members
lazy_filled mapped relation place owner wanted w after has rooted_now made linked unloaded same g =
    let key : List Value = identity_key w.own.graph owner in
    let select : Select = members_select mapped relation key in
    let one = parted (by_own (λ (own : Loading). read mapped.schema (members_select mapped relation (identity_key own.graph owner)))) (λ (rows : List Row). take_members mapped relation owner place rows) w tt after (record { answer = g.answer; leaves = g.leaves }) in
    let sent = read_goes mapped.schema select w one.value one.between (by_own_goes (λ (own : Loading). read mapped.schema (members_select mapped relation (identity_key own.graph owner))) w one.value one.between one.first) in
    let two = parted (on_own (take_rows mapped relation.target one.value)) (λ (members : List ObjId). changes (collection_filled owner place members)) one.between tt after one.second in
    let own = on_own_goes (take_rows mapped relation.target one.value) one.between two.value two.between two.first in
    let graph : Graph = two.between.own.graph in
    let rooted : length one.between.own.graph.roots ≡ length one.between.own.graph.objects = subst (λ (h : Graph). length h.roots ≡ length h.objects) (sym sent.graph) rooted_now in
    let taken = rows_taken mapped relation.target has one.value one.between.own two.value two.between.own rooted own.goes in
    let keeps : Keeps w.own.graph graph = subst (λ (h : Graph). Keeps h graph) sent.graph taken.keeps in
    let stand : StandFor mapped relation.target graph one.value two.value = subst (StandFor mapped relation.target graph one.value) (sym taken.are) taken.stand in
    let end = changed_to (collection_filled owner place two.value) two.between tt after two.second in
    let links : (object_at graph owner).links ≡ (object_at w.own.graph owner).links = keeps.links owner made in
    let held : IsLink graph owner place = subst (λ (ls : List Link). place.0 < length ls) (sym links) linked in
    subst (λ (u : World). IsFilled mapped relation wanted (link_at w.own.graph owner place) u.own.graph (link_at u.own.graph owner place)) end
    (filled_as mapped relation one.value wanted (link_at w.own.graph owner place) (collection_filled owner place two.value two.between.own).graph (link_at (collection_filled owner place two.value two.between.own).graph owner place) (same one.value sent.answered)
    (filled_link mapped relation place owner one.value two.value graph (link_at w.own.graph owner place) stand (made_later w.own.graph graph owner keeps.all made) held unloaded
    (link_kept w.own.graph graph owner place keeps made) two.between.own refl))

pub lazy_fills : (mapped : Mapped) (relation : Relation) (place : RelNo) (owner : ObjId) (all : List Row) (w after : World) → IsOneToMany mapped relation → Stage mapped relation all w → IsWaiting mapped relation place w.own.graph owner
    → Goes (load_collection mapped relation owner place) w tt after → HoldsRelated mapped relation place all w after owner
unfolding members_select
lazy_fills mapped relation place owner all w after many stage waiting g =
    let key : List Value = identity_key w.own.graph owner in
    lazy_filled mapped relation place owner (related_rows mapped relation all key) w after many.has.paired stage.rooted waiting.made waiting.has waiting.unloaded
    (λ rows answered.
    ap (λ (rs : List Row). keys_in_order (map (row_key mapped relation.target) rs))
    (rows_of_key mapped relation.target (bare w.store.tables) (owner_columns mapped relation) (key_of_owner mapped relation) key all rows (tells_owners mapped relation many) waiting.keyed stage.rows
    (ap (λ (far : Option TableKey). answer mapped.schema (bare w.store.tables) (members_by mapped relation key far)) (sym many.near) ∙ answered)))
    g
