-- What is read before a flush is never refused as not built.
use Rattle.std.proofs.Common.{◌≡◌, ℕ, zero, suc, ◌+◌, Bool, true, false, List, [], ◌∷◌, ◌++◌, length, Option, None, Some, Result, Ok, Err, if◌then◌else◌, refl, ap}
use Rattle.std.specs.Prelude.{nat_lt}
use Rattle.base_core.specs.declared.ids.AttrNo.{AttrNo}
use Rattle.base_core.specs.declared.ids.ClassId.{ClassId}
use Rattle.base_core.specs.declared.ids.ObjId.{ObjId}
use Rattle.base_core.specs.declared.ids.RelNo.{RelNo}
use Rattle.base_core.specs.declared.refusal.LimitKind.TheVariants.{Objects}
use Rattle.base_core.specs.declared.refusal.Refusal.{Refusal}
use Rattle.base_core.specs.declared.refusal.Refusal.TheVariants.{LimitReached, NotBuilt}
use Rattle.base_core.specs.declared.value.Value.{Value}
use Rattle.schema_core.specs.Catalog.{Catalog}
use Rattle.schema_core.specs.Tables.{has_null}
use Rattle.expr_types.specs.declared.select.Select.{Select}
use Rattle.sql_semantics.specs.Created.{bare}
use Rattle.select_rows.proofs.Refused.{refused_rows}
use Rattle.class_types.specs.declared.mapped.Relation.{Relation}
use Rattle.class_mapping.specs.Mapped.{Mapped, root_of}
use Rattle.object_arena.specs.Fit.{relation_of}
use Rattle.object_arena.specs.Graph.{Graph, object_at, object_limit}
use Rattle.object_arena.specs.Identity.{find_identity}
use Rattle.pair_rows.specs.Pairs.{relations_at}
use Rattle.collection_selects.specs.Collections.{members_select}
use Rattle.keeper_core.specs.Beside.{Beside, by_own, changes, on_own, on_store}
use Rattle.keeper_core.specs.Calls.{query}
use Rattle.keeper_core.specs.Programs.{Event, Run, ◌>>=◌, continue_from, each, give}
use Rattle.prepared_objects.specs.Known.{next_unread}
use Rattle.load_selects.specs.Selects.{cells_select, key_select}
use Rattle.load_filling.specs.Loaded.{load, with_loaded}
use Rattle.load_filling.specs.Rows.{class_named, found_or_loaded, loaded_as, row_key, row_object}
use Rattle.load_rows.specs.Links.{collection_filled, end_filled}
use Rattle.load_rows.specs.Loading.{Loading, take_row, taken_as}
use Rattle.load_rows.specs.Reading.{identity_key}
use Rattle.load_calls.specs.Collections.{load_collection, read_members, take_members, take_next, take_rows}
use Rattle.load_calls.specs.Reading as loads
use Rattle.load_calls.specs.Reading.{read}
use Rattle.load_calls.specs.Refreshing.{expired_attrs, read_cells, refresh, refresh_cells, take_cells}
use Rattle.load_targets.specs.ForeignKeys.{foreign_key, is_key_expired}
use Rattle.load_targets.specs.Targets.{find_or_load, found_or_load, if_of, load_by, load_end, load_key, load_lazy, load_target, read_target, refresh_if, refresh_key, take_first}
use Rattle.load_preparing.specs.Preparing.{is_to_load, load_if, read_going, read_link, read_links, read_most, read_object, read_then, reread}
use Rattle.session_scopes.specs.Loads.{loading_in, on_load}
use Rattle.session_calls.specs.Parts.{World}
use Rattle.session_acts.specs.Flush.{prepare}

-- ---- programs that are never refused so

-- the run is not refused as not built
abbrev pub IsBuilt : {W A : Type 0} → Run W A → Type 0
IsBuilt run = run.answer ≡ Err NotBuilt → ⊥

built_from : {W A B : Type 0} (events : List Event) (v : W) (r : Result A Refusal) (next : A → W → Run W B) → (r ≡ Err NotBuilt → ⊥) → ((a : A) → r ≡ Ok a → IsBuilt (next a v)) → IsBuilt (continue_from events v r next)
built_from events v (Ok a) next first second is = second a refl is
built_from events v (Err e) next first second is = let same : e ≡ NotBuilt = cc in first (ap (λ (d : Refusal). Err d) same)

-- a program, and what goes on from its answer
pub built_then : {W A B : Type 0} (m : W → Run W A) (next : A → W → Run W B) (w : W) → IsBuilt (m w) → ((a : A) → (m w).answer ≡ Ok a → IsBuilt (next a (m w).after)) → IsBuilt ((m >>= next) w)
unfolding ◌>>=◌
built_then m next w first second = built_from (m w).events (m w).after (m w).answer next first second

pub built_give : {W A : Type 0} (a : A) (w : W) → IsBuilt (give a w)
unfolding give
built_give a w is = cc

pub built_changes : {S : Type 0} (f : S → S) (w : Beside S) → IsBuilt (changes f w)
unfolding changes
built_changes f w is = cc

built_each : {W A S : Type 0} (step : A → S → W → Run W S) → ((x : A) (s : S) (w : W) → IsBuilt (step x s w)) → (s : S) (xs : List A) (w : W) → IsBuilt (each step s xs w)
unfolding each
built_each step one s [] w is = built_give s w is
built_each step one s (x ∷ xs) w is = built_then (step x s) (λ t. each step t xs) w (one x s w) (λ t e. built_each step one t xs (step x s w).after) is

-- ---- rows

-- the rows of a select
read_built : (schema : Catalog) (select : Select) (w : loads.World) → IsBuilt (read schema select w)
unfolding read on_store query
read_built schema select w is = refused_rows schema (bare w.store.tables) select (Err NotBuilt) is

module _ (mapped : Mapped) where
  -- the object of a row
  load_built : (class : ClassId) (key : List Value) (graph : Graph) → load mapped class key graph ≡ Err NotBuilt → ⊥
  unfolding load
  load_built class key graph is = by (nat_lt (length graph.objects) object_limit) is
    where
      by : (b : Bool) → (let answer : Result (ObjId × Graph) Refusal = if b then Ok (record { 0 = length graph.objects + 1 }, with_loaded mapped class key graph) else Err (LimitReached Objects) in answer ≡ Err NotBuilt) → ⊥
      by true is = cc
      by false is = cc

  named_built : (key : List Value) (graph : Graph) (named : Option ClassId) → loaded_as mapped key graph named ≡ Err NotBuilt → ⊥
  named_built key graph None is = cc
  named_built key graph (Some class) is = load_built class key graph is

  found_built : (class : ClassId) (values : List Value) (graph : Graph) (found : Option ObjId) → found_or_loaded mapped class values graph found ≡ Err NotBuilt → ⊥
  found_built class values graph (Some object) is = cc
  found_built class values graph None is = named_built (row_key mapped class values) graph (class_named mapped class values) is

  taken_built : (class : ClassId) (values : List Value) (own : Loading) (r : Result (ObjId × Graph) Refusal) → (r ≡ Err NotBuilt → ⊥) → IsBuilt (taken_as mapped class values own r)
  taken_built class values own (Ok found) never is = cc
  taken_built class values own (Err e) never is = let same : e ≡ NotBuilt = cc in never (ap (λ (d : Refusal). Err d) same)

  row_built : (class : ClassId) (values : List Value) (own : Loading) → IsBuilt (take_row mapped class values own)
  unfolding take_row row_object
  row_built class values own is =
      taken_built class values own (row_object mapped class values own.graph) (found_built class values own.graph (find_identity own.graph (root_of mapped class) (row_key mapped class values))) is

  first_built : (class : ClassId) (rows : List (List Value)) (own : Loading) → IsBuilt (take_first mapped class rows own)
  unfolding take_first
  first_built class [] own is = built_give None own is
  first_built class (row ∷ rows) own is = built_then (take_row mapped class row) (λ object. give (Some object)) own (row_built class row own) (λ object e. built_give (Some object) (take_row mapped class row own).after) is

  next_built : (class : ClassId) (values : List Value) (objects : List ObjId) (own : Loading) → IsBuilt (take_next mapped class values objects own)
  next_built class values objects own is =
      built_then (take_row mapped class values) (λ object. give (objects ++ object ∷ [])) own (row_built class values own) (λ object e. built_give (objects ++ object ∷ []) (take_row mapped class values own).after) is

  rows_built : (class : ClassId) (rows : List (List Value)) (own : Loading) → IsBuilt (take_rows mapped class rows own)
  unfolding take_rows
  rows_built class rows own is = built_each (take_next mapped class) (next_built class) [] rows own is

  -- ---- cells

  cells_built : (object : ObjId) (attrs : List AttrNo) (rows : List (List Value)) (own : Loading) → IsBuilt (take_cells object attrs rows own)
  unfolding take_cells
  cells_built object attrs [] own is = cc
  cells_built object attrs (row ∷ rows) own is = cc

  attrs_built : (object : ObjId) (attrs : List AttrNo) (w : loads.World) → IsBuilt (refresh_cells mapped object attrs w)
  unfolding read_cells by_own on_own
  attrs_built object [] w is = built_give tt w is
  attrs_built object (attr ∷ attrs) w is =
      built_then (read_cells mapped object (attr ∷ attrs)) (λ rows. on_own (take_cells object (attr ∷ attrs) rows)) w
      (read_built mapped.schema (cells_select mapped (object_at w.own.graph object).class (attr ∷ attrs) (identity_key w.own.graph object)) w)
      (λ rows e. cells_built object (attr ∷ attrs) rows (read_cells mapped object (attr ∷ attrs) w).after.own) is

  refresh_built : (object : ObjId) (w : loads.World) → IsBuilt (refresh mapped object w)
  unfolding refresh by_own
  refresh_built object w is = attrs_built object (expired_attrs (object_at w.own.graph object)) w is

  -- ---- links

  members_built : (relation : Relation) (owner : ObjId) (place : RelNo) (rows : List (List Value)) (w : loads.World) → IsBuilt (take_members mapped relation owner place rows w)
  unfolding on_own
  members_built relation owner place rows w is =
      built_then (on_own (take_rows mapped relation.target rows)) (λ members. changes (collection_filled owner place members)) w (rows_built relation.target rows w.own)
      (λ members e. built_changes (collection_filled owner place members) (on_own (take_rows mapped relation.target rows) w).after) is

  collection_built : (relation : Relation) (owner : ObjId) (place : RelNo) (w : loads.World) → IsBuilt (load_collection mapped relation owner place w)
  unfolding load_collection read_members by_own
  collection_built relation owner place w is =
      built_then (read_members mapped relation owner) (λ rows. take_members mapped relation owner place rows) w (read_built mapped.schema (members_select mapped relation (identity_key w.own.graph owner)) w)
      (λ rows e. members_built relation owner place rows (read_members mapped relation owner w).after) is

  key_built : (class : ClassId) (key : List Value) (w : loads.World) → IsBuilt (load_key mapped class key w)
  unfolding load_key on_own
  key_built class key w is =
      built_then (read mapped.schema (key_select mapped class key)) (λ rows. on_own (take_first mapped class rows)) w (read_built mapped.schema (key_select mapped class key) w)
      (λ rows e. first_built class rows (read mapped.schema (key_select mapped class key) w).after.own) is

  either_built : (class : ClassId) (key : List Value) (graph : Graph) (found : Option ObjId) (w : loads.World) → IsBuilt (found_or_load mapped class key graph found w)
  either_built class key graph (Some object) w is = built_give (if_of graph mapped class object) w is
  either_built class key graph None w is = key_built class key w is

  end_built : (class : ClassId) (key : List Value) (w : loads.World) → IsBuilt (find_or_load mapped class key w)
  unfolding find_or_load by_own
  end_built class key w is = by (has_null key) is
    where
      by : (b : Bool) → IsBuilt ((if b then give None else by_own (λ own. found_or_load mapped class key own.graph (find_identity own.graph (root_of mapped class) key))) w)
      by true = built_give None w
      by false = either_built class key w.own.graph (find_identity w.own.graph (root_of mapped class) key) w

  target_built : (relation : Relation) (object : ObjId) (w : loads.World) → IsBuilt (read_target mapped relation object w)
  unfolding read_target by_own
  target_built relation object w is = end_built relation.target (foreign_key mapped relation (object_at w.own.graph object)) w is

  linked_built : (relation : Relation) (object : ObjId) (place : RelNo) (u : Unit {0}) (w : loads.World) → IsBuilt (load_end mapped relation object place u w)
  linked_built relation object place u w is =
      built_then (read_target mapped relation object) (λ end. changes (end_filled object place end)) w (target_built relation object w)
      (λ end e. built_changes (end_filled object place end) (read_target mapped relation object w).after) is

  if_built : (b : Bool) (object : ObjId) (w : loads.World) → IsBuilt (refresh_if b mapped object w)
  if_built true object w is = refresh_built object w is
  if_built false object w is = built_give tt w is

  foreign_built : (relation : Relation) (object : ObjId) (w : loads.World) → IsBuilt (refresh_key mapped relation object w)
  unfolding refresh_key by_own
  foreign_built relation object w is = if_built (is_key_expired mapped relation (object_at w.own.graph object)) object w is

  one_built : (relation : Relation) (object : ObjId) (place : RelNo) (w : loads.World) → IsBuilt (load_target mapped relation object place w)
  unfolding load_target
  one_built relation object place w is =
      built_then (refresh_key mapped relation object) (load_end mapped relation object place) w (foreign_built relation object w)
      (λ u e. linked_built relation object place u (refresh_key mapped relation object w).after) is

  by_built : (relation : Relation) (object : ObjId) (place : RelNo) (w : loads.World) → IsBuilt (load_by mapped relation object place w)
  by_built relation object place w is = by relation.many is
    where
      by : (b : Bool) → IsBuilt ((if b then load_collection mapped relation object place else load_target mapped relation object place) w)
      by true = collection_built relation object place w
      by false = one_built relation object place w

  lazy_built : (object : ObjId) (place : RelNo) (w : loads.World) → IsBuilt (load_lazy mapped object place w)
  unfolding load_lazy by_own
  lazy_built object place w is = by_built (relation_of mapped (object_at w.own.graph object).class place) object place w is

  -- ---- what is read before a flush

  loaded_built : (b : Bool) (object : ObjId) (placed : ℕ × Relation) (w : loads.World) → IsBuilt (load_if b mapped object placed w)
  loaded_built true object placed w is = lazy_built object (record { 0 = placed.0 }) w is
  loaded_built false object placed w is = built_give tt w is

  link_built : (object : ObjId) (placed : ℕ × Relation) (u : Unit {0}) (w : loads.World) → IsBuilt (read_link mapped object placed u w)
  unfolding read_link by_own
  link_built object placed u w is = loaded_built (is_to_load (object_at w.own.graph object) placed) object placed w is

  links_built : (object : ObjId) (w : loads.World) → IsBuilt (read_links mapped object w)
  unfolding read_links by_own
  links_built object w is = built_each (read_link mapped object) (link_built object) tt (relations_at mapped w.own.graph object) w is

  object_built : (object : ObjId) (w : loads.World) → IsBuilt (read_object mapped object w)
  unfolding read_object
  object_built object w is =
      built_then (changes (reread object)) (λ u. refresh mapped object >>= λ u. read_links mapped object) w (built_changes (reread object) w)
      (λ u e. built_then (refresh mapped object) (λ u. read_links mapped object) (changes (reread object) w).after (refresh_built object (changes (reread object) w).after)
      (λ u e. links_built object (refresh mapped object (changes (reread object) w).after).after)) is

  turn_built : (next : Option ObjId) (more : loads.World → Run loads.World (Unit {0})) → ((v : loads.World) → IsBuilt (more v)) → (w : loads.World) → IsBuilt (read_then mapped next more w)
  turn_built None more rest w is = built_give tt w is
  turn_built (Some object) more rest w is = built_then (read_object mapped object) (λ u. more) w (object_built object w) (λ u e. rest (read_object mapped object w).after) is

  most_built : (most : ℕ) (w : loads.World) → IsBuilt (read_most most mapped w)
  unfolding read_most by_own
  most_built zero w is = built_give tt w is
  most_built (suc most) w is = turn_built (next_unread mapped w.own.graph) (read_most most mapped) (most_built most) w is

-- a session is never refused as not built before it is written
pub prepare_built : (w : World) → IsBuilt (prepare w)
unfolding prepare by_own on_load read_going
prepare_built w is = most_built w.own.mapping object_limit (record { own = loading_in w.own; store = w.store }) is
