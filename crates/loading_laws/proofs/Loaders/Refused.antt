-- What loads leave whatever they answer.
use Rattle.std.proofs.Common.{◌≡◌, ◌+◌, Bool, true, false, List, [], ◌∷◌, ◌++◌, length, Result, Ok, Err, if◌then◌else◌, refl, sym, subst, arith}
use Rattle.std.specs.List.{All}
use Rattle.base_core.specs.declared.ids.ClassId.{ClassId}
use Rattle.base_core.specs.declared.ids.ObjId.{ObjId}
use Rattle.base_core.specs.declared.ids.RelNo.{RelNo}
use Rattle.base_core.specs.declared.refusal.Refusal.{Refusal}
use Rattle.base_core.specs.declared.value.Value.{Value}
use Rattle.schema_core.specs.Catalog.{Catalog}
use Rattle.expr_types.specs.declared.select.Select.{Select}
use Rattle.class_types.specs.declared.mapped.Relation.{Relation}
use Rattle.class_mapping.specs.Mapped.{IsClass, Mapped}
use Rattle.class_mapping.specs.Related.{IsRelated}
use Rattle.mapping_laws.specs.Hierarchies.{HasHierarchies}
use Rattle.keeper_core.specs.Programs.{Event, Run, ◌>>=◌, change, continue_from, each, give}
use Rattle.keeper_core.specs.Beside.{by_own, on_own, on_store}
use Rattle.keeper_core.specs.Calls.{query}
use Rattle.object_arena.specs.Fit.{relation_of}
use Rattle.object_arena.specs.Graph.{Graph, no_object, object_at, place_of}
use Rattle.object_arena.specs.Identity.{IsGraph}
use Rattle.load_filling.specs.Rows.{row_object}
use Rattle.load_rows.specs.Loading.{Loading, take_row, taken_as}
use Rattle.load_rows.specs.Links.{collection_filled}
use Rattle.load_calls.specs.Reading.{World, read}
use Rattle.load_calls.specs.Collections.{take_next, take_rows}
use Rattle.load_calls.proofs.CollectionLemmas.{related_at}
use Rattle.load_batches.specs.Batches.{IsOwner, batch_at, batch_starts, fill_batch, fill_owner, fill_owners, keys_of, load_batch, load_each, load_from, load_members, member_of, members_under, owner_key_in, read_batch, take_member, take_members, target_values, unloaded_owners}
use Rattle.load_batches.specs.declared.members.Member.{Member}
use Rattle.load_batches.specs.declared.owners.Owner.{Owner}
use Rattle.collection_selects.specs.Collections.{batch_select}
use Rattle.load_ends.specs.Ends as ends
use Rattle.load_selects.specs.Selects.{targets_select}
use Rattle.load_queries.specs.Selectin.{load_selectin}
use Rattle.loading_laws.specs.Loaders.Linked.{IsStage}
use Rattle.loading_laws.specs.Loaders.Options.{Leaves}
use Rattle.loading_laws.proofs.Loaders.Frames.{collection_leaves, end_leaves, framed_row, leaves_same, leaves_then}

-- ---- programs, whatever they answer

-- of whatever world with a graph
module _ (place : RelNo) {W : Type 0} (graph_of : W → Graph) where
  abbrev InArena : W → Type 0
  InArena w = IsGraph (graph_of w).objects (graph_of w).roots

  abbrev IsSteady : {A : Type 0} → (W → Run W A) → Type 0
  IsSteady m = (w : W) → InArena w → Leaves place (graph_of w) (graph_of (m w).after)

  steady_by : {A B : Type 0} (start : Graph) (events : List Event) (u : W) (r : Result A Refusal) (next : A → W → Run W B) → Leaves place start (graph_of u) → ((a : A) → IsSteady (next a)) → Leaves place start (graph_of (continue_from events u r next).after)
  steady_by start events u (Ok a) next leaves rest = leaves_then place start (graph_of u) (graph_of (next a u).after) leaves (rest a u leaves.graph)
  steady_by start events u (Err e) next leaves rest = leaves

  steady_then : {A B : Type 0} (m : W → Run W A) (next : A → W → Run W B) → IsSteady m → ((a : A) → IsSteady (next a)) → IsSteady (m >>= next)
  unfolding ◌>>=◌
  steady_then m next first rest = λ w is. steady_by (graph_of w) (m w).events (m w).after (m w).answer next (first w is) rest

  steady_give : {A : Type 0} (a : A) → IsSteady (give a)
  unfolding give
  steady_give a = λ w is. leaves_same place (graph_of w) is

  steady_each : {A S : Type 0} (step : A → S → W → Run W S) (xs : List A) (s : S) → ((x : A) (t : S) → IsSteady (step x t)) → IsSteady (each step s xs)
  unfolding each
  steady_each step [] s all = steady_give s
  steady_each step (x ∷ xs) s all = steady_then (step x s) (λ t. each step t xs) (all x s) (λ t. steady_each step xs t all)

  steady_change : (f : W → W) → ((w : W) → InArena w → Leaves place (graph_of w) (graph_of (f w))) → IsSteady (change f)
  unfolding change
  steady_change f leaves = leaves

abbrev own_graph : Loading → Graph
own_graph own = own.graph

abbrev world_graph : World → Graph
world_graph w = w.own.graph

-- ---- rows and links

pub refused_row : (mapped : Mapped) (class : ClassId) (row : List Value) (own : Loading) (e : Refusal) → (take_row mapped class row own).answer ≡ Err e → (take_row mapped class row own).after ≡ own
unfolding take_row
refused_row mapped class row own e is = by (row_object mapped class row own.graph) is
  where
    by : (r : Result (ObjId × Graph) Refusal) → (taken_as mapped class row own r).answer ≡ Err e → (taken_as mapped class row own r).after ≡ own
    by (Ok found) never = absurd cc
    by (Err f) same = refl

module _ (place : RelNo) where
  abbrev IsSteadyOwn : {A : Type 0} → (Loading → Run Loading A) → Type 0
  IsSteadyOwn m = IsSteady place own_graph m

  module _ (mapped : Mapped) (class : ClassId) (has : HasHierarchies mapped) (declared : IsClass mapped class) where
    steady_row : (row : List Value) → IsSteadyOwn (take_row mapped class row)
    steady_row row = λ own is. by own is (take_row mapped class row own).answer refl
      where
        by : (own : Loading) → IsGraph own.graph.objects own.graph.roots → (r : Result ObjId Refusal) → (take_row mapped class row own).answer ≡ r → Leaves place own.graph (take_row mapped class row own).after.graph
        by own is (Ok object) e = framed_row place mapped class has declared row own (take_row mapped class row own).after object is (record { answer = e; leaves = refl })
        by own is (Err f) e = subst (λ (now : Loading). Leaves place own.graph now.graph) (sym (refused_row mapped class row own f e)) (leaves_same place own.graph is)

    steady_rows : (rows : List (List Value)) → IsSteadyOwn (take_rows mapped class rows)
    unfolding take_rows
    steady_rows rows = λ own is.
        steady_each place own_graph (take_next mapped class) rows []
        (λ row before. steady_then place own_graph (take_row mapped class row) (λ o. give (before ++ o ∷ [])) (steady_row row) (λ o. steady_give place own_graph (before ++ o ∷ []))) own is

    steady_targets : (rows : List (List Value)) → IsSteadyOwn (ends.take_targets mapped class rows)
    steady_targets rows = steady_then place own_graph (take_rows mapped class rows) (λ objects. give tt) (steady_rows rows) (λ objects. steady_give place own_graph tt)

  module _ (mapped : Mapped) (relation : Relation) (has : HasHierarchies mapped) (declared : IsClass mapped relation.target) where
    steady_members : (rows : List (List Value)) → IsSteadyOwn (take_members mapped relation rows)
    unfolding take_members
    steady_members rows = λ own is.
        steady_each place own_graph (take_member mapped relation) rows []
        (λ row before. steady_then place own_graph (take_row mapped relation.target (target_values mapped relation row)) (λ o. give (before ++ member_of (owner_key_in mapped relation row) o ∷ []))
        (steady_row mapped relation.target has declared (target_values mapped relation row)) (λ o. steady_give place own_graph (before ++ member_of (owner_key_in mapped relation row) o ∷ [])))
        own is

    steady_owners : (owners : List Owner) (members : List Member) → IsSteadyOwn (fill_owners place owners members)
    unfolding fill_owners
    steady_owners owners members = λ own is.
        steady_each place own_graph (fill_owner place members) owners tt
        (λ owner u. steady_change place own_graph (collection_filled owner.object place (members_under members owner.key)) (λ one is_one. collection_leaves place owner.object (members_under members owner.key) one is_one)) own is

    steady_ends : (owners : List ObjId) → IsSteadyOwn (ends.fill_owners mapped relation place owners)
    unfolding ends.fill_owners
    steady_ends owners = λ own is.
        steady_each place own_graph (ends.fill_owner mapped relation place) owners tt
        (λ owner u. steady_change place own_graph (ends.end_known mapped relation place owner) (λ one is_one. end_leaves place owner (ends.known_end mapped relation.target one.graph (ends.key_of mapped relation one.graph owner)) one is_one)) own is

  -- ---- loads

  steady_read : (schema : Catalog) (select : Select) → IsSteady place world_graph (read schema select)
  unfolding read on_store query
  steady_read schema select = λ w is. leaves_same place w.own.graph is

  steady_own : {A : Type 0} (m : Loading → Run Loading A) → IsSteadyOwn m → IsSteady place world_graph (on_own m)
  unfolding on_own
  steady_own m steady = λ w is. steady w.own is

  module _ (mapped : Mapped) (relation : Relation) (has : HasHierarchies mapped) (declared : IsClass mapped relation.target) where
    steady_batch : (owners : List Owner) → IsSteady place world_graph (load_batch mapped relation place owners)
    unfolding load_batch read_batch give
    steady_batch [] = λ w is. leaves_same place w.own.graph is
    steady_batch (first ∷ more) =
        steady_then place world_graph (read mapped.schema (batch_select mapped relation (keys_of (first ∷ more)))) (λ rows. on_own (fill_batch mapped relation place (first ∷ more) rows))
        (steady_read mapped.schema (batch_select mapped relation (keys_of (first ∷ more))))
        (λ rows. steady_own (fill_batch mapped relation place (first ∷ more) rows)
        (steady_then place own_graph (take_members mapped relation rows) (fill_owners place (first ∷ more)) (steady_members mapped relation has declared rows) (λ members. steady_owners mapped relation has declared (first ∷ more) members)))

    steady_keys : (keys : List (List Value)) → IsSteady place world_graph (ends.load_keys mapped relation.target keys)
    unfolding ends.load_keys give
    steady_keys [] = λ w is. leaves_same place w.own.graph is
    steady_keys (first ∷ more) =
        steady_then place world_graph (read mapped.schema (targets_select mapped relation.target (first ∷ more))) (λ rows. on_own (ends.take_targets mapped relation.target rows))
        (steady_read mapped.schema (targets_select mapped relation.target (first ∷ more))) (λ rows. steady_own (ends.take_targets mapped relation.target rows) (steady_targets mapped relation.target has declared rows))

    steady_load : (owners : List ObjId) → IsSteady place world_graph (load_members mapped relation place owners)
    unfolding load_members load_each by_own
    steady_load owners = λ w is.
        let waiting : List Owner = unloaded_owners w.own.graph place owners in
        steady_each place world_graph (load_from mapped relation place waiting) (batch_starts (length waiting)) tt (λ start u. steady_batch (batch_at waiting start)) w is

    steady_load_ends : (owners : List ObjId) → IsSteady place world_graph (ends.load_ends mapped relation place owners)
    unfolding ends.load_ends ends.load_each by_own
    steady_load_ends owners = λ w is.
        let waiting : List ObjId = ends.unloaded w.own.graph place owners in
        let keys : List (List Value) = ends.wanted_keys mapped relation w.own.graph waiting in
        steady_then place world_graph (each (ends.load_from mapped relation.target keys) tt (batch_starts (length keys))) (λ u. on_own (ends.fill_owners mapped relation place waiting))
        (steady_each place world_graph (ends.load_from mapped relation.target keys) (batch_starts (length keys)) tt (λ start u. steady_keys (batch_at keys start)))
        (λ u. steady_own (ends.fill_owners mapped relation place waiting) (steady_ends mapped relation has declared waiting)) w is

    steady_together : (owners : List ObjId) (many : Bool) → IsSteady place world_graph (if many then load_members mapped relation place owners else ends.load_ends mapped relation place owners)
    steady_together owners true = steady_load owners
    steady_together owners false = steady_load_ends owners

pub selectin_leaves_always : (mapped : Mapped) (relation : Relation) (place : RelNo) (owners : List ObjId) (w : World) → IsStage mapped w → All (IsOwner mapped w.own.graph relation place) owners
    → Leaves place w.own.graph (load_selectin mapped place owners w).after.own.graph
unfolding load_selectin by_own give
selectin_leaves_always mapped relation place [] w stage owned = leaves_same place w.own.graph stage.graph
selectin_leaves_always mapped relation place (first ∷ more) w stage owned =
    let own = owned 0 first (omega arith) in
    let class : ClassId = (object_at w.own.graph first).class in
    let less : IsClass mapped class = (stage.fit.objects (place_of first) no_object (let made = own.made in omega (arith, made.0, made.1))).class in
    let related : IsRelated mapped (relation_of mapped class place) = related_at mapped class place stage.related less own.within in
    steady_together place mapped (relation_of mapped class place) stage.has related.target (first ∷ more) (relation_of mapped class place).many w stage.graph
