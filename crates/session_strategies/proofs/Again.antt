-- A flush where nothing is left to flush leaves the objects and the tables as they are.
use Rattle.std.proofs.Common.{◌≡◌, ℕ, zero, suc, ◌+◌, ◌<◌, ◌≤◌, Bool, true, false, ◌&&◌, List, [], ◌∷◌, get_or, length, map, Option, None, Some, Ok, Err, if◌then◌else◌, refl, sym, ap, subst, ◌∙◌, ⊎_elim, arith}
use Rattle.std.specs.List.{AllByRecursion, enumerate_from, position, zip}
use Rattle.std.specs.Prelude.{slice_get}
use Rattle.std.specs.Option.{option_map}
use Rattle.std.proofs.lemmas.Bool.{and_parts, cases_lt}
use Rattle.std.proofs.lemmas.List.{get_or_past}
use Rattle.std.proofs.lemmas.List.Quantifiers.{position-Some}
use Rattle.base_core.specs.declared.ids.ClassId.{ClassId}
use Rattle.base_core.specs.declared.ids.ObjId.{ObjId}
use Rattle.base_core.specs.declared.ids.TableId.{TableId}
use Rattle.base_core.specs.declared.value.Value.{Value}
use Rattle.schema_core.specs.declared.changes.Planned.{Planned}
use Rattle.schema_core.specs.declared.changes.RowCell.{RowCell}
use Rattle.schema_core.specs.declared.changes.RowChanges.{RowChanges}
use Rattle.schema_core.specs.Tables.{Tables}
use Rattle.class_types.specs.declared.mapped.Attribute.{Attribute}
use Rattle.class_layouts.specs.Faults.{foreigns_in}
use Rattle.class_mapping.specs.Mapped.{Mapped, attribute_of, is_key_attribute, relations_of}
use Rattle.object_arena.specs.declared.object.Cell.{Cell}
use Rattle.object_arena.specs.declared.object.Link.{Link}
use Rattle.object_arena.specs.declared.object.Link.TheVariants.{Unset, Unloaded, One, Many}
use Rattle.object_arena.specs.declared.object.Object.{Object}
use Rattle.object_arena.specs.declared.object.State.{State}
use Rattle.object_arena.specs.declared.object.State.TheVariants.{Transient, Pending, Persistent, Deleted, Detached}
use Rattle.object_arena.specs.Fit.{key_fits}
use Rattle.object_arena.specs.Graph.{Graph, is_pending, is_persistent, no_class_id, no_object, object_at, place_of, root_at}
use Rattle.object_arena.specs.Identity.{has_key, id_of_place, is_other}
use Rattle.object_rows.specs.declared.prepared.Prepared.{Prepared}
use Rattle.object_rows.specs.Cells.{first_cell, is_by, linked_cell, or_first, put_cell, relation_cell}
use Rattle.object_rows.specs.Seen.{changed_end, is_new, link_of, object_ids}
use Rattle.flush_plan.specs.Flushing.{Flushed, send_all}
use Rattle.flush_plan.specs.Planning.{plan}
use Rattle.row_project.specs.Changes.{project}
use Rattle.graph_flushed.specs.Flushed.{Written, graph_written, held_or, kept_cell, kept_link, graph_flushed, object_flushed, object_in, staying_cell, state_under, state_unless, value_come, value_put, written_with}
use Rattle.graph_flushed.specs.Keys.{is_given, key_if_fit, key_if_new, new_holder, new_key, new_keys}
use Rattle.keeper_core.specs.Beside.{Beside, by_own}
use Rattle.keeper_core.specs.Programs.{Run}
use Rattle.load_rows.specs.Loading.{Loading}
use Rattle.prepared_objects.specs.Known.{next_unread}
use Rattle.prepared_objects.specs.Leaving.{going, prepared_of, starts_deletes}
use Rattle.session_scopes.specs.Loads.{on_load}
use Rattle.session_calls.specs.Parts.{World}
use Rattle.session_acts.specs.Flush.{flush, prepare}
use Rattle.session_acts.specs.Outcome.{changes_of}
use Rattle.loading_laws.proofs.Strategies.Goes.{same_answer}
use Rattle.session_laws.specs.Flushed.{nothing_prepared}
use Rattle.session_laws.proofs.Flushed.{no_statement}
use Rattle.session_laws.proofs.Flushes.Again.{here_at}
use Rattle.session_laws.specs.Flushes.{prepared_world}
use Rattle.session_laws.specs.Loads.{loading_of}
use Rattle.session_laws.proofs.Flushes.Flushing.{IsFlushSent, flush_sent}
use Rattle.session_laws.proofs.Flushes.Reached.{none_going, none_prepared, none_unread}
use Rattle.session_laws.proofs.Flushes.Reading.{none_read, prepare_mapping, prepare_store}
use Rattle.session_strategies.specs.Strategies.{FlushesOfNothingStay}
use Rattle.session_strategies.specs.Unwritten.{IsAsFlushed, NothingIsLeft}
use Rattle.session_strategies.proofs.Kept.{IsKeptCell, IsKeptLink}

-- what holds of each object that was made, and of none, holds of each number
at_number : (P : Object → Type 0) (graph : Graph) (object : ObjId) → ((place : ℕ) → place < length graph.objects → P (get_or graph.objects place no_object)) → P no_object → P (object_at graph object)
at_number P graph object each none =
    ⊎_elim (λ (inside : place_of object < length graph.objects). each (place_of object) inside) (λ (past : length graph.objects ≤ place_of object). subst P (sym (get_or_past graph.objects (place_of object) no_object past)) none)
    (cases_lt (place_of object) (length graph.objects))

-- ---- links that a flush keeps

no_end : (link : Link) → changed_end (kept_link link) ≡ None
no_end Unset = refl
no_end (Unloaded added removed) = refl
no_end (One end changed) = refl
no_end (Many members base) = refl

kept_end : (links : List Link) (n : ℕ) → AllByRecursion IsKeptLink links → changed_end (get_or links n Unset) ≡ None
kept_end [] n all = refl
kept_end (link ∷ links) zero all = sym (ap changed_end all.0) ∙ no_end link
kept_end (link ∷ links) (suc n) all = kept_end links n all.1

first_none : {A : Type 0} (f : A → Option RowCell) (xs : List A) → ((x : A) → f x ≡ None) → first_cell (map f xs) ≡ None
first_none f [] none = refl
first_none f (x ∷ xs) none = ap (λ (o : Option RowCell). or_first o (first_cell (map f xs))) (none x) ∙ first_none f xs none

neither : (b : Bool) → (let none : Option RowCell = None in if b then none else none) ≡ None
neither true = refl
neither false = refl

-- ---- the flush of such objects

module _ (mapped : Mapped) (graph : Graph) (nothing : NothingIsLeft graph) where
  none_starts : (object : ObjId) → starts_deletes (object_at graph object) ≡ false
  none_starts object = at_number (λ (it : Object). starts_deletes it ≡ false) graph object (λ place inside. (nothing place inside).stays) refl

  not_pending : (state : State) → (state ≡ Pending → ⊥) → is_pending state ≡ false
  not_pending Transient never = refl
  not_pending Pending never = absurd (never refl)
  not_pending Persistent never = refl
  not_pending Deleted never = refl
  not_pending Detached never = refl

  none_pending : (object : ObjId) → is_pending (object_at graph object).state ≡ false
  none_pending object = at_number (λ (it : Object). is_pending it.state ≡ false) graph object (λ place inside. not_pending _ (nothing place inside).settled.settled) refl

  -- nothing is to be deleted
  deletes_nothing : going mapped graph ≡ []
  deletes_nothing = none_going mapped graph none_starts

  prepares_nothing : prepared_of mapped graph ≡ nothing_prepared
  prepares_nothing = none_prepared mapped graph deletes_nothing none_pending

module _ (mapped : Mapped) (rows : RowChanges) (given : List (List Value)) (graph : Graph) (nothing : NothingIsLeft graph) where
  abbrev done : Written
  done = written_with mapped nothing_prepared rows given graph

  -- no object is new, and so none has a new key
  not_new : (object : ObjId) → is_new graph nothing_prepared object ≡ false
  not_new object = ap (λ (b : Bool). b && true) (none_pending mapped graph nothing object)

  keys_none : (objects : List ObjId) (roots : List ClassId) (n : ℕ) → (get_or (zip (map (key_if_new mapped graph nothing_prepared rows given) objects) roots) n (None, no_class_id)).0 ≡ None
  keys_none [] roots n = refl
  keys_none (object ∷ objects) [] n = refl
  keys_none (object ∷ objects) (root ∷ roots) zero = without_key (not_new object)
    where
      without_key : is_new graph nothing_prepared object ≡ false → key_if_new mapped graph nothing_prepared rows given object ≡ None
      without_key none = ap (λ (b : Bool). if b then key_if_fit (key_fits mapped (object_at graph object).class (new_key mapped graph rows given object)) (new_key mapped graph rows given object) else None) none
  keys_none (object ∷ objects) (root ∷ roots) (suc n) = keys_none objects roots n

  no_holder : (root : ClassId) (key : List Value) → new_holder done.keys graph.roots root key ≡ None
  unfolding new_keys
  no_holder root key = by (position (is_given root key) (zip done.keys graph.roots)) refl
    where
      by : (found : Option ℕ) → position (is_given root key) (zip done.keys graph.roots) ≡ found → option_map id_of_place found ≡ None
      by None is = refl
      by (Some i) is =
          let there = (position-Some (is_given root key) (zip done.keys graph.roots) i (None, no_class_id) is).1 in
          let has = (and_parts _ (has_key key (get_or (zip done.keys graph.roots) i (None, no_class_id)).0) there).1 in
          absurd (let never : false ≡ true = sym (ap (has_key key) (keys_none (object_ids graph) graph.roots i)) ∙ has in cc)

  stands : (object : ObjId) (identity : Option (List Value)) → state_under done object identity ≡ Persistent
  stands object None = refl
  stands object (Some key) = ap (λ (found : Option ObjId). state_unless (is_other object found)) (no_holder (root_at graph object) key)

  -- ---- an object

  module _ (object : ObjId) (it : Object) (here : object_at graph object ≡ it) (flushed : IsAsFlushed it) where
    come_none : is_persistent it.state ≡ true → (table : TableId) (name : List ℕ) → linked_cell mapped graph nothing_prepared done.names object table name ≡ None
    come_none persistent table name =
        first_none (relation_cell mapped graph nothing_prepared done.names object table name) (enumerate_from 0 (relations_of mapped (object_at graph object).class))
        (λ placed.
        ap (λ (put : Option (Option ObjId)). if is_by table placed.1 then put_cell mapped.schema graph nothing_prepared done.names name (slice_get (foreigns_in mapped.schema.tables table) placed.1.foreign.1) put else None)
        (ap (λ (o : Object). changed_end (link_of o (record { 0 = placed.0 }))) here ∙ kept_end it.links placed.0 (flushed.links persistent))
        ∙ neither (is_by table placed.1))

    cell_same : is_persistent it.state ≡ true → (placed : ℕ × Cell) → IsKeptCell placed.1 → staying_cell done object it.class placed ≡ placed.1
    cell_same persistent placed kept = by (is_key_attribute mapped it.class (record { 0 = placed.0 }))
      where
        attribute : Attribute
        attribute = attribute_of mapped it.class (record { 0 = placed.0 })

        by : (key : Bool) → (if key then kept_cell placed.1 else held_or (value_come done object (attribute_of mapped it.class (record { 0 = placed.0 }))) (kept_cell placed.1)) ≡ placed.1
        by true = kept
        by false = ap (λ (o : Option RowCell). held_or (option_map (value_put done) o) (kept_cell placed.1)) (come_none persistent attribute.table attribute.name) ∙ kept

    cells_same : is_persistent it.state ≡ true → (k : ℕ) (cells : List Cell) → AllByRecursion IsKeptCell cells → map (staying_cell done object it.class) (enumerate_from k cells) ≡ cells
    cells_same persistent k [] all = refl
    cells_same persistent k (cell ∷ cells) all =
        ap (λ (c : Cell). c ∷ map (staying_cell done object it.class) (enumerate_from (k + 1) cells)) (cell_same persistent (k, cell) all.0) ∙ ap (λ (cs : List Cell). cell ∷ cs) (cells_same persistent (k + 1) cells all.1)

    prepared_same : (k : ℕ) (links : List Link) → map (λ (placed : ℕ × Link). placed.1) (enumerate_from k links) ≡ links
    prepared_same k [] = refl
    prepared_same k (link ∷ links) = ap (λ (ls : List Link). link ∷ ls) (prepared_same (k + 1) links)

    kept_same : (links : List Link) → AllByRecursion IsKeptLink links → map kept_link links ≡ links
    kept_same [] all = refl
    kept_same (link ∷ links) all = ap (λ (l : Link). l ∷ map kept_link links) all.0 ∙ ap (λ (ls : List Link). link ∷ ls) (kept_same links all.1)

    same_in : (state : State) → it.state ≡ state → object_in state done object it ≡ it
    same_in Transient is = λ i. record it { links = prepared_same 0 it.links i }
    same_in Pending is = absurd (flushed.settled.settled is)
    same_in Persistent is =
        let persistent : is_persistent it.state ≡ true = ap is_persistent is in
        λ i. record it {
          state = (stands object it.identity ∙ sym is) i;
          cells = cells_same persistent 0 it.cells (flushed.cells persistent) i;
          links = (ap (map kept_link) (prepared_same 0 it.links) ∙ kept_same it.links (flushed.links persistent)) i;
        }
    same_in Deleted is = λ i. record it { links = prepared_same 0 it.links i }
    same_in Detached is = λ i. record it { links = prepared_same 0 it.links i }

  -- ---- all of them

  all_same : (k : ℕ) (objects : List Object) → ((i : ℕ) → i < length objects → object_flushed done (id_of_place (k + i)) (get_or objects i no_object) ≡ get_or objects i no_object)
      → map (λ (placed : ℕ × Object). object_flushed done (id_of_place placed.0) placed.1) (enumerate_from k objects) ≡ objects
  all_same k [] each = refl
  all_same k (it ∷ objects) each =
      let first : k + 0 ≡ k = omega arith in
      ap (λ (one : Object). one ∷ map (λ (placed : ℕ × Object). object_flushed done (id_of_place placed.0) placed.1) (enumerate_from (k + 1) objects))
      (ap (λ (n : ℕ). object_flushed done (id_of_place n) it) (sym first) ∙ each 0 (omega arith))
      ∙ ap (λ (os : List Object). it ∷ os)
      (all_same (k + 1) objects
      (λ i less.
      let place : k + 1 + i ≡ k + suc i = omega arith in
      ap (λ (n : ℕ). object_flushed done (id_of_place n) (get_or objects i no_object)) place ∙ each (suc i) (omega (arith, less))))

  pub graph_same : graph_written done ≡ graph
  unfolding graph_written
  graph_same = λ i. record {
    objects = all_same 0 graph.objects
        (λ i less.
        let place : 0 + i ≡ i = omega arith in
        ap (λ (n : ℕ). object_flushed done (id_of_place n) (get_or graph.objects i no_object)) place
        ∙ same_in (id_of_place i) (get_or graph.objects i no_object) (here_at graph i) (nothing i less) (get_or graph.objects i no_object).state refl) i;
    roots = graph.roots;
  }

  none_planned : plan mapped.schema (project mapped graph (prepared_of mapped graph)) ≡ Ok []
  none_planned =
      ap (λ (p : Prepared). plan mapped.schema (project mapped graph p)) (prepares_nothing mapped graph nothing)
      ∙ ap (λ (g : Graph). plan mapped.schema (project mapped g nothing_prepared)) (sym graph_same) ∙ no_statement done

-- ---- the session

-- where nothing is to be read before a flush, the objects are as they were
unread_same : (w : World) → next_unread w.own.mapping w.own.graph ≡ None → (prepared_world w).own.graph ≡ w.own.graph
unfolding prepare by_own on_load
unread_same w none = ap (λ (run : Run (Beside Loading) (Unit {0})). run.after.own.graph) (none_read w.own.mapping (loading_of w) none)

pub flush_same : FlushesOfNothingStay
flush_same w nothing is =
    let mid : World = prepared_world w in
    let same : mid.own.graph ≡ w.own.graph = unread_same w (none_unread w.own.mapping w.own.graph (deletes_nothing w.own.mapping w.own.graph nothing)) in
    let there : NothingIsLeft mid.own.graph = subst NothingIsLeft (sym same) nothing in
    let sent : IsFlushSent mid (flush w).after = (flush_sent w is).sent in
    let none : sent.statements ≡ [] = same_answer sent.statements [] (sym sent.planned ∙ none_planned mid.own.mapping (changes_of mid.own) sent.given mid.own.graph there) in
    let sofar : ◌≡◌ {A = Flushed} (Ok (record { tables = mid.store.tables; keys = [] })) (Ok (record { tables = (flush w).after.store.tables; keys = sent.keys })) =
    subst (λ (statements : List Planned). send_all mid.own.mapping.schema (changes_of mid.own) (Ok (record { tables = mid.store.tables; keys = [] })) statements ≡ Ok (record { tables = (flush w).after.store.tables; keys = sent.keys })) none sent.sent in
    let store : (flush w).after.store ≡ mid.store = λ i. record { tables = (sym (ap (λ (s : Flushed). tables_of s mid.store.tables) sofar)) i; scopes = sent.starts i } in
    record {
      mapping = sent.mapping ∙ prepare_mapping w;
      graph = sent.objects ∙ ap (λ (p : Prepared). graph_flushed mid.own.mapping p (changes_of mid.own) sent.given mid.own.graph) (prepares_nothing mid.own.mapping mid.own.graph there)
          ∙ graph_same mid.own.mapping (changes_of mid.own) sent.given mid.own.graph there ∙ same;
      store = store ∙ prepare_store w;
    }
  where
    tables_of : Flushed → Tables → Tables
    tables_of (Ok sofar) other = sofar.tables
    tables_of (Err stop) other = other
