-- What the reading before a flush keeps, whatever the tables hold: the store, and what each step of a load keeps.
use Rattle.std.proofs.Common.{◌≡◌, ℕ, ◌+◌, ◌<◌, ◌≤◌, zero, suc, Bool, true, false, List, [], ◌∷◌, ◌++◌, length, get_or, Option, None, Some, Result, Ok, Err, IfOk, refl, ap, ◌∙◌, sym, subst, ⊎_elim, arith}
use Rattle.std.specs.Prelude.{if◌then◌else◌, nat_lt, slice_set}
use Rattle.std.specs.List.{AllByRecursion}
use Rattle.std.proofs.lemmas.Bool.{cases_lt}
use Rattle.std.proofs.lemmas.List.{get_or_append_left, length-append}
use Rattle.std.proofs.Math.Seq.{get_or-append_seam}
use Rattle.base_core.specs.declared.ids.AttrNo.{AttrNo}
use Rattle.base_core.specs.declared.ids.ClassId.{ClassId}
use Rattle.base_core.specs.declared.ids.ObjId.{ObjId}
use Rattle.base_core.specs.declared.ids.RelNo.{RelNo}
use Rattle.base_core.specs.declared.refusal.LimitKind.TheVariants.{Objects}
use Rattle.base_core.specs.declared.refusal.Refusal.{Refusal}
use Rattle.base_core.specs.declared.refusal.Refusal.TheVariants.{LimitReached}
use Rattle.base_core.specs.declared.value.Value.{Value}
use Rattle.schema_core.specs.Catalog.{Catalog}
use Rattle.schema_core.specs.Tables.{has_null}
use Rattle.expr_types.specs.declared.select.Select.{Select}
use Rattle.class_types.specs.declared.mapped.Relation.{Relation}
use Rattle.class_mapping.specs.Mapped.{Mapped, root_of}
use Rattle.keeper_core.specs.Beside.{by_own, changes, on_own, on_store}
use Rattle.keeper_core.specs.Calls as call
use Rattle.keeper_core.specs.Programs.{Run, ◌>>=◌, each, give, quiet}
use Rattle.keeper_core.specs.Store.{Store}
use Rattle.table_laws.specs.Legality.{Keeps}
use Rattle.table_laws.proofs.EachJoin.{keeps_each, keeps_give, keeps_then}
use Rattle.object_arena.specs.declared.object.Cell.{Cell}
use Rattle.object_arena.specs.declared.object.Link.{Link}
use Rattle.object_arena.specs.declared.object.Object.{Object}
use Rattle.object_arena.specs.Fit.{relation_of}
use Rattle.object_arena.specs.Graph.{Graph, no_object, object_at, object_limit, place_of, with_link, with_object}
use Rattle.object_arena.specs.Identity.{find_identity}
use Rattle.load_filling.specs.Filled.{Found, filled_object, with_filled}
use Rattle.load_filling.specs.Loaded.{load, loaded_object, with_loaded}
use Rattle.load_filling.specs.Rows.{class_named, found_or_loaded, loaded_as, row_key, row_object}
use Rattle.load_rows.specs.Links.{collection_filled, collection_of, end_filled, end_of, in_key_order, link_at}
use Rattle.load_rows.specs.Links as links
use Rattle.load_rows.specs.Loading.{Loading, take_row, taken_as}
use Rattle.load_rows.specs.Reading.{identity_key}
use Rattle.load_rows.specs.Loading as rows
use Rattle.collection_selects.specs.Collections.{members_select}
use Rattle.load_selects.specs.Selects.{cells_select, key_select}
use Rattle.load_calls.specs.Collections.{load_collection, read_members, take_members, take_next, take_rows}
use Rattle.load_calls.specs.Reading.{World, read}
use Rattle.load_calls.specs.Refreshing.{expired_attrs, read_cells, refresh, refresh_cells, take_cells}
use Rattle.load_targets.specs.ForeignKeys.{foreign_key, is_key_expired}
use Rattle.load_targets.specs.Targets.{find_or_load, found_or_load, load_by, load_end, load_key, load_lazy, load_target, read_target, refresh_if, refresh_key, take_first}
use Rattle.load_preparing.specs.Preparing.{is_to_load, load_if, read_going, read_link, read_links, read_most, read_object, read_then, reread, reread_object}
use Rattle.pair_rows.specs.Pairs.{relations_at}
use Rattle.prepared_objects.specs.Known.{next_unread}
use Rattle.session_scopes.specs.Loads.{on_load}
use Rattle.session_calls.specs.Parts as sessions
use Rattle.session_acts.specs.Flush.{prepare}
use Rattle.session_laws.specs.Loads.{IsLoad, loading_of}
use Rattle.session_laws.specs.Sound.{EachObject, IsMarkedRight}
use Rattle.session_laws.proofs.Health.Named.{each_with}
use Rattle.session_laws.proofs.Loads.Touched.{filled_scopes}

-- ---- loads, of which nothing is known

-- what is so of the objects stays so when cells and links are read, and where an object is made
record AreReadSteps (mapped : Mapped) (P : Graph → Type 0) : Type 0 where
  filled : (object : ObjId) (found : Found) (graph : Graph) → P graph → P (with_filled graph object found)
  made : (class : ClassId) (key : List Value) (graph : Graph) → P graph → P (with_loaded mapped class key graph)
  linked : (owner : ObjId) (place : RelNo) (link : Link) (graph : Graph) → P graph → P (with_link graph owner place link)
  reread : (object : ObjId) (graph : Graph) → P graph → P (with_object graph object (reread_object (object_at graph object)))

module _ (mapped : Mapped) (store : Store) (P : Graph → Type 0) (steps : AreReadSteps mapped P) where
  -- so it is of the objects, and the store is this one
  record IsOver (w : World) : Type 0 where
    objects : P w.own.graph
    same : w.store ≡ store

  -- ---- how programs are put together

  reads : (schema : Catalog) (select : Select) → Keeps IsOver (read schema select)
  unfolding read on_store call.query
  reads schema select = record { kept = λ w it. record { objects = it.objects; same = it.same } }

  owned : {A : Type 0} (m : Loading → Run Loading A) → Keeps (λ own. P own.graph) m → Keeps IsOver (on_own m)
  unfolding on_own
  owned m stays = record { kept = λ w it. record { objects = stays.kept w.own it.objects; same = it.same } }

  changed : (f : Loading → Loading) → ((own : Loading) → P own.graph → P (f own).graph) → Keeps IsOver (changes f)
  unfolding changes
  changed f stays = record { kept = λ w it. record { objects = stays w.own it.objects; same = it.same } }

  chosen : {A : Type 0} (choose : Loading → World → Run World A) → ((own : Loading) → Keeps IsOver (choose own)) → Keeps IsOver (by_own choose)
  unfolding by_own
  chosen choose one = record { kept = λ w it. (one w.own).kept w it }

  joined : {A B : Type 0} (m : World → Run World A) (next : A → World → Run World B) → Keeps IsOver m → ((a : A) → Keeps IsOver (next a)) → Keeps IsOver (m >>= next)
  joined m next first later = keeps_then IsOver m next first (λ w a it is. later a)

  -- ---- the objects of rows

  by_room : (room : Bool) (class : ClassId) (key : List Value) (graph : Graph) → P graph
      → (let made : Result (ObjId × Graph) Refusal = (if room then Ok (record { 0 = length graph.objects + 1 }, with_loaded mapped class key graph) else Err (LimitReached Objects)) in IfOk made (λ found. P found.1))
  by_room true class key graph has = steps.made class key graph has
  by_room false class key graph has = tt

  by_class : (named : Option ClassId) (key : List Value) (graph : Graph) → P graph → IfOk (loaded_as mapped key graph named) (λ found. P found.1)
  unfolding load
  by_class None key graph has = tt
  by_class (Some class) key graph has = by_room (nat_lt (length graph.objects) object_limit) class key graph has

  by_found : (found : Option ObjId) (class : ClassId) (values : List Value) (graph : Graph) → P graph → IfOk (found_or_loaded mapped class values graph found) (λ found. P found.1)
  by_found (Some object) class values graph has = has
  by_found None class values graph has = by_class (class_named mapped class values) (row_key mapped class values) graph has

  by_object : (class : ClassId) (values : List Value) (own : Loading) (r : Result (ObjId × Graph) Refusal) → P own.graph → IfOk r (λ found. P found.1) → P (taken_as mapped class values own r).after.graph
  unfolding rows.filled
  by_object class values own (Ok found) has made = steps.filled found.0 _ found.1 made
  by_object class values own (Err e) has made = has

  takes : (class : ClassId) (values : List Value) → Keeps (λ own. P own.graph) (take_row mapped class values)
  unfolding take_row row_object
  takes class values = record {
    kept = λ own has.
        by_object class values own (row_object mapped class values own.graph) has (by_found (find_identity own.graph (root_of mapped class) (row_key mapped class values)) class values own.graph has);
  }

  takes_all : (class : ClassId) (rows : List (List Value)) → Keeps (λ own. P own.graph) (take_rows mapped class rows)
  unfolding take_rows
  takes_all class rows = keeps_each (λ own. P own.graph) (take_next mapped class) [] rows (each_row rows)
    where
      each_row : (rows : List (List Value)) → AllByRecursion (λ row. (objects : List ObjId) → Keeps (λ own. P own.graph) (take_next mapped class row objects)) rows
      each_row [] = tt
      each_row (row ∷ rows) = (
        λ objects. keeps_then (λ own. P own.graph) (take_row mapped class row) (λ object. give (objects ++ object ∷ [])) (takes class row) (λ own object has is. keeps_give (λ own. P own.graph) (objects ++ object ∷ [])),
        each_row rows,
      )

  takes_first : (class : ClassId) (rows : List (List Value)) → Keeps (λ own. P own.graph) (take_first mapped class rows)
  unfolding take_first
  takes_first class [] = keeps_give (λ own. P own.graph) None
  takes_first class (row ∷ rows) = keeps_then (λ own. P own.graph) (take_row mapped class row) (λ object. give (Some object)) (takes class row) (λ own object has is. keeps_give (λ own. P own.graph) (Some object))

  -- ---- links

  link_put : (owner : ObjId) (place : RelNo) (link : Option Link) (own : Loading) → P own.graph → P (links.with_loaded owner place link own).graph
  link_put owner place None own has = has
  link_put owner place (Some link) own has = steps.linked owner place link own.graph has

  collects : (relation : Relation) (owner : ObjId) (place : RelNo) → Keeps IsOver (load_collection mapped relation owner place)
  unfolding load_collection read_members collection_filled
  collects relation owner place =
      joined (read_members mapped relation owner) (λ rows. take_members mapped relation owner place rows)
      (chosen (λ own. read mapped.schema (members_select mapped relation (identity_key own.graph owner))) (λ own. reads mapped.schema (members_select mapped relation (identity_key own.graph owner))))
      (λ rows.
      joined (on_own (take_rows mapped relation.target rows)) (λ members. changes (collection_filled owner place members)) (owned (take_rows mapped relation.target rows) (takes_all relation.target rows))
      (λ members. changed (collection_filled owner place members) (λ own has. link_put owner place (collection_of (in_key_order own.graph members) (link_at own.graph owner place)) own has)))

  -- ---- cells

  by_rows : (object : ObjId) (attrs : List AttrNo) (rows : List (List Value)) → Keeps (λ own. P own.graph) (take_cells object attrs rows)
  unfolding take_cells rows.filled
  by_rows object attrs [] = record { kept = λ own has. has }
  by_rows object attrs (row ∷ rows) = record { kept = λ own has. steps.filled object _ own.graph has }

  by_attrs : (object : ObjId) (attrs : List AttrNo) → Keeps IsOver (refresh_cells mapped object attrs)
  unfolding read_cells
  by_attrs object [] = keeps_give IsOver tt
  by_attrs object (attr ∷ attrs) =
      joined (read_cells mapped object (attr ∷ attrs)) (λ rows. on_own (take_cells object (attr ∷ attrs) rows))
      (chosen (λ own. read mapped.schema (cells_select mapped (object_at own.graph object).class (attr ∷ attrs) (identity_key own.graph object)))
      (λ own. reads mapped.schema (cells_select mapped (object_at own.graph object).class (attr ∷ attrs) (identity_key own.graph object))))
      (λ rows. owned (take_cells object (attr ∷ attrs) rows) (by_rows object (attr ∷ attrs) rows))

  refreshes : (object : ObjId) → Keeps IsOver (refresh mapped object)
  unfolding refresh
  refreshes object = chosen (λ own. refresh_cells mapped object (expired_attrs (object_at own.graph object))) (λ own. by_attrs object (expired_attrs (object_at own.graph object)))

  refreshes_if : (b : Bool) (object : ObjId) → Keeps IsOver (refresh_if b mapped object)
  refreshes_if true object = refreshes object
  refreshes_if false object = keeps_give IsOver tt

  -- ---- a link to one object

  loads_key : (class : ClassId) (key : List Value) → Keeps IsOver (load_key mapped class key)
  unfolding load_key
  loads_key class key =
      joined (read mapped.schema (key_select mapped class key)) (λ rows. on_own (take_first mapped class rows)) (reads mapped.schema (key_select mapped class key))
      (λ rows. owned (take_first mapped class rows) (takes_first class rows))

  finds : (class : ClassId) (key : List Value) → Keeps IsOver (find_or_load mapped class key)
  unfolding find_or_load
  finds class key = by (has_null key)
    where
      by_identity : (graph : Graph) (found : Option ObjId) → Keeps IsOver (found_or_load mapped class key graph found)
      by_identity graph (Some object) = keeps_give IsOver _
      by_identity graph None = loads_key class key

      by : (none : Bool) → Keeps IsOver (if none then give None else by_own (λ own. found_or_load mapped class key own.graph (find_identity own.graph (root_of mapped class) key)))
      by true = keeps_give IsOver None
      by false = chosen (λ own. found_or_load mapped class key own.graph (find_identity own.graph (root_of mapped class) key)) (λ own. by_identity own.graph (find_identity own.graph (root_of mapped class) key))

  leads : (relation : Relation) (object : ObjId) (place : RelNo) → Keeps IsOver (load_target mapped relation object place)
  unfolding load_target refresh_key read_target end_filled
  leads relation object place =
      joined (refresh_key mapped relation object) (load_end mapped relation object place)
      (chosen (λ own. refresh_if (is_key_expired mapped relation (object_at own.graph object)) mapped object) (λ own. refreshes_if (is_key_expired mapped relation (object_at own.graph object)) object))
      (λ u.
      joined (read_target mapped relation object) (λ end. changes (end_filled object place end))
      (chosen (λ own. find_or_load mapped relation.target (foreign_key mapped relation (object_at own.graph object))) (λ own. finds relation.target (foreign_key mapped relation (object_at own.graph object))))
      (λ end. changed (end_filled object place end) (λ own has. link_put object place (end_of end (link_at own.graph object place)) own has)))

  loads : (object : ObjId) (place : RelNo) → Keeps IsOver (load_lazy mapped object place)
  unfolding load_lazy
  loads object place =
      chosen (λ own. load_by mapped (relation_of mapped (object_at own.graph object).class place) object place)
      (λ own. by (relation_of mapped (object_at own.graph object).class place) (relation_of mapped (object_at own.graph object).class place).many)
    where
      by : (relation : Relation) (many : Bool) → Keeps IsOver (if many then load_collection mapped relation object place else load_target mapped relation object place)
      by relation true = collects relation object place
      by relation false = leads relation object place

  -- ---- the objects that are to be deleted

  reads_link : (object : ObjId) (placed : ℕ × Relation) (u : Unit {0}) → Keeps IsOver (read_link mapped object placed u)
  unfolding read_link
  reads_link object placed u = chosen (λ own. load_if (is_to_load (object_at own.graph object) placed) mapped object placed) (λ own. by (is_to_load (object_at own.graph object) placed))
    where
      by : (asked : Bool) → Keeps IsOver (load_if asked mapped object placed)
      by true = loads object (record { 0 = placed.0 })
      by false = keeps_give IsOver tt

  reads_links : (object : ObjId) → Keeps IsOver (read_links mapped object)
  unfolding read_links
  reads_links object =
      chosen (λ own. each (read_link mapped object) tt (relations_at mapped own.graph object))
      (λ own. keeps_each IsOver (read_link mapped object) tt (relations_at mapped own.graph object) (each_link (relations_at mapped own.graph object)))
    where
      each_link : (relations : List (ℕ × Relation)) → AllByRecursion (λ placed. (u : Unit {0}) → Keeps IsOver (read_link mapped object placed u)) relations
      each_link [] = tt
      each_link (placed ∷ relations) = (reads_link object placed, each_link relations)

  reads_object : (object : ObjId) → Keeps IsOver (read_object mapped object)
  unfolding read_object
  reads_object object =
      joined (changes (reread object)) (λ u. refresh mapped object >>= λ u. read_links mapped object) (changed (reread object) (λ own has. steps.reread object own.graph has))
      (λ u. joined (refresh mapped object) (λ u. read_links mapped object) (refreshes object) (λ u. reads_links object))

  reads_then : (next : Option ObjId) (more : World → Run World (Unit {0})) → Keeps IsOver more → Keeps IsOver (read_then mapped next more)
  reads_then None more kept = keeps_give IsOver tt
  reads_then (Some object) more kept = joined (read_object mapped object) (λ u. more) (reads_object object) (λ u. kept)

  reads_most : (most : ℕ) → Keeps IsOver (read_most most mapped)
  unfolding read_most
  reads_most zero = keeps_give IsOver tt
  reads_most (suc most) = chosen (λ own. read_then mapped (next_unread mapped own.graph) (read_most most mapped)) (λ own. reads_then (next_unread mapped own.graph) (read_most most mapped) (reads_most most))

  reads_going : Keeps IsOver (read_going mapped)
  unfolding read_going
  reads_going = reads_most object_limit

-- ---- the reading before a flush

module _ (w : sessions.World) where
  prepared_over : (P : Graph → Type 0) (steps : AreReadSteps w.own.mapping P) → P w.own.graph → IsOver w.own.mapping w.store P steps (read_going w.own.mapping (loading_of w)).after
  prepared_over P steps has = (reads_going w.own.mapping w.store P steps).kept (loading_of w) (record { objects = has; same = refl })

  any_steps : AreReadSteps w.own.mapping (λ graph. Unit {0})
  any_steps = record { filled = λ object found graph has. tt; made = λ class key graph has. tt; linked = λ owner place link graph has. tt; reread = λ object graph has. tt }

  -- it leaves the store
  pub prepare_store : (prepare w).after.store ≡ w.store
  unfolding prepare by_own on_load
  prepare_store = (prepared_over (λ graph. Unit {0}) any_steps tt).same

  pub prepare_mapping : (prepare w).after.own.mapping ≡ w.own.mapping
  unfolding prepare by_own on_load
  prepare_mapping = refl

  -- and the scopes in progress
  pub prepare_scopes : (prepare w).after.own.frames.scopes ≡ w.own.frames.scopes
  unfolding prepare by_own on_load
  prepare_scopes = let own : Loading = (read_going w.own.mapping (loading_of w)).after.own in filled_scopes own.graph own.notes w.own.frames

-- what holds of each object, and of one more, holds of each
each_more : (P : Object → Type 0) (objects : List Object) (new : Object) (place : ℕ) → ((k : ℕ) → k < length objects → P (get_or objects k no_object)) → P new → place < length (objects ++ new ∷ []) → P (get_or (objects ++ new ∷ []) place no_object)
each_more P objects new place all one less =
    ⊎_elim
    (λ (inside : place < length objects). subst P (sym (get_or_append_left objects (new ∷ []) no_object place inside)) (all place inside))
    (λ (past : length objects ≤ place).
    let last : place ≡ length objects = omega (arith, less, past, length-append objects (new ∷ [])) in
    subst P (sym (ap (λ (n : ℕ). get_or (objects ++ new ∷ []) n no_object) last ∙ get_or-append_seam objects new [] no_object)) one)
    (cases_lt place (length objects))

-- what cells and links do not change, a load does not, where it holds of each object that loads make
each_steps : (mapped : Mapped) (P : Object → Type 0) → ((o : Object) (cells : List Cell) → P o → P (record o { cells = cells })) → ((o : Object) (all : List Link) → P o → P (record o { links = all })) → ((class : ClassId) (key : List Value) → P (loaded_object mapped class key))
    → AreReadSteps mapped (EachObject P)
unfolding with_filled
each_steps mapped P put linked made = record {
  filled = λ object found graph all.
      each_with P graph object (filled_object found (object_at graph object)) all (λ less. put (object_at graph object) (filled_object found (object_at graph object)).cells (all (place_of object) less));
  made = λ class key graph all place less. each_more P graph.objects (loaded_object mapped class key) place all (made class key) less;
  linked = λ owner place link graph all.
      let new : List Link = slice_set (object_at graph owner).links place.0 link in
      each_with P graph owner (record (object_at graph owner) { links = new }) all (λ less. linked (object_at graph owner) new (all (place_of owner) less));
  reread = λ object graph all.
      each_with P graph object (reread_object (object_at graph object)) all (λ less. put (object_at graph object) (reread_object (object_at graph object)).cells (all (place_of object) less));
}

-- only persistent objects go on to be marked
pub prepare_marks : (w : sessions.World) → EachObject IsMarkedRight w.own.graph → EachObject IsMarkedRight (prepare w).after.own.graph
unfolding prepare by_own on_load
prepare_marks w marks =
    (prepared_over w (EachObject IsMarkedRight) (each_steps w.own.mapping IsMarkedRight (λ o cells marked. marked) (λ o all marked. marked) (λ class key marked. absurd cc)) marks).objects

-- ---- where it reads as loads read

-- the reading leaves what loads leave, and the store as it was
abbrev pub IsReadWell : sessions.World → Type 0
IsReadWell world = IsLoad (read_going world.own.mapping) world

-- ---- where nothing is to be read

none_next : (mapped : Mapped) (more : World → Run World (Unit {0})) (next : Option ObjId) (w : World) → next ≡ None → read_then mapped next more w ≡ quiet (Ok tt) w
unfolding give
none_next mapped more None w is = refl
none_next mapped more (Some object) w is = absurd cc

none_most : (most : ℕ) (mapped : Mapped) (w : World) → next_unread mapped w.own.graph ≡ None → read_most most mapped w ≡ quiet (Ok tt) w
unfolding read_most give by_own
none_most zero mapped w none = refl
none_most (suc most) mapped w none = none_next mapped (read_most most mapped) (next_unread mapped w.own.graph) w none

-- nothing is done
pub none_read : (mapped : Mapped) (w : World) → next_unread mapped w.own.graph ≡ None → read_going mapped w ≡ quiet (Ok tt) w
unfolding read_going
none_read mapped w none = none_most object_limit mapped w none
