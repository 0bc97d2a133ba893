-- What a query's own select reads leaves objects that hold what their rows have: an expired cell is filled by a row that has the object's key.
use Rattle.std.proofs.Common.{◌≡◌, ◌⊎◌, inl, inr, ℕ, zero, suc, ◌+◌, ◌-◌, ◌==◌, nat_lt, Bool, true, false, cond, List, [], ◌∷◌, ◌++◌, get_or, length, map, Option, None, Some, Result, Ok, Err, if◌then◌else◌, is_none, refl, sym, ap, subst, ◌∙◌, arith}
use Rattle.std.specs.Prelude.{find, slice_get, slice_index_or, unwrap_or}
use Rattle.std.specs.List.{AllByRecursion, enumerate_from, position, position_or_len}
use Rattle.std.specs.Option.{option_and_then, option_map}
use Rattle.std.proofs.lemmas.Bool.{and_parts, eqb-true, ltb-true}
use Rattle.std.proofs.lemmas.List.Folds.{find_at}
use Rattle.std.proofs.lemmas.Option.{same_Some, slice_get-get_or, slice_get-map}
use Rattle.base_core.specs.declared.ids.AttrNo.{AttrNo}
use Rattle.base_core.specs.declared.ids.ClassId.{ClassId}
use Rattle.base_core.specs.declared.ids.ObjId.{ObjId}
use Rattle.base_core.specs.declared.ids.TableId.{TableId}
use Rattle.base_core.specs.declared.refusal.LimitKind.TheVariants.{Objects}
use Rattle.base_core.specs.declared.refusal.Refusal.{Refusal}
use Rattle.base_core.specs.declared.refusal.Refusal.TheVariants.{LimitReached}
use Rattle.base_core.specs.declared.value.Value.{Value}
use Rattle.schema_core.specs.Tables as held
use Rattle.expr_types.specs.declared.select.ObjectQuery.{ObjectQuery}
use Rattle.expr_types.specs.declared.select.Select.{Select}
use Rattle.sql_semantics.specs.Created.{bare}
use Rattle.sql_semantics.specs.Eval.{Row, Tables, item_or_null}
use Rattle.sql_semantics.specs.Plain.{IsPlainSelect}
use Rattle.sql_semantics.specs.Rows.{answer, require_created, tables_of}
use Rattle.class_types.specs.declared.mapped.Attribute.{Attribute}
use Rattle.class_mapping.specs.Mapped.{IsClass, Mapped, attribute_of, attributes_of, no_attribute, root_of, table_or_none, tables_of as class_tables_of}
use Rattle.class_mapping.proofs.Having.{has_at}
use Rattle.mapping_laws.specs.Hierarchies.{HasHierarchies}
use Rattle.keeper_core.specs.Beside.{on_own}
use Rattle.keeper_core.specs.Programs.{each, give}
use Rattle.object_arena.specs.declared.object.Cell.{Cell}
use Rattle.object_arena.specs.declared.object.Object.{Object}
use Rattle.object_arena.specs.declared.object.State.TheVariants.{Persistent}
use Rattle.object_arena.specs.Graph.{Graph, expired_cell, no_object, object_at, object_limit, place_of}
use Rattle.object_arena.specs.Identity.{find_identity}
use Rattle.load_columns.specs.Placing.{attribute_column, attribute_columns, from_root, rank_of}
use Rattle.collection_selects.proofs.ClassLemmas.{rank_is}
use Rattle.main_selects.specs.MainSelect.{main_select}
use Rattle.load_filling.specs.Filled.{Found, cell_read, filled_cell, filled_object, value_found, with_filled}
use Rattle.load_filling.specs.Loaded.{load, loaded_object, with_loaded}
use Rattle.load_filling.specs.Rows.{class_named, found_or_loaded, loaded_as, row_key, row_object}
use Rattle.load_rows.specs.Loading.{Loading, filled, found_in_row, is_same_column, take_row, taken_as, value_for}
use Rattle.load_rows.specs.Reading.{identity_key}
use Rattle.load_calls.specs.Reading.{World, read}
use Rattle.load_calls.specs.Collections.{take_next, take_rows}
use Rattle.object_parts.specs.Lists.{firsts}
use Rattle.load_queries.specs.Queries.{load_select, take_objects}
use Rattle.load_targets.specs.ForeignKeys.{value_of}
use Rattle.table_laws.specs.Legality.{AreSound}
use Rattle.loading_laws.proofs.Members.Choices.{Choice, chosen}
use Rattle.loading_laws.proofs.Members.Owned.{attribute_ranked}
use Rattle.loading_laws.proofs.Members.Ranks.{AreRanked}
use Rattle.loading_laws.specs.Wide.Parts.{cell, cells}
use Rattle.loading_laws.specs.Wide.Answers.{AreBlocks, AreOfSources, CanBeJoined, CutsOwners, own_columns}
use Rattle.loading_laws.proofs.Wide.Blocks.{answered_created, blocks_of}
use Rattle.loading_laws.proofs.TiedRows.Behind.{cells_chosen, row_at}
use Rattle.loading_laws.proofs.TiedRows.Joined.{owner_there}
use Rattle.loading_laws.proofs.MainSelects.Unjoined.{own_select}
use Rattle.loading_laws.specs.Strategies.Filled.{Goes}
use Rattle.loading_laws.proofs.Strategies.Finding.{row_finds}
use Rattle.loading_laws.proofs.Strategies.Goes.{given, on_own_goes, parted, read_goes, row_taken, same_answer}
use Rattle.loading_laws.proofs.Strategies.KeyOrder.{key_of_stand}
use Rattle.loading_laws.proofs.Strategies.Standing.{found_stands, set_related}
use Rattle.loading_laws.proofs.Joined.Objects.{rooted_fit}
use Rattle.loading_laws.specs.Loaders.OwnRows.{key_in_table}
use Rattle.loading_laws.specs.Loading.Loadable.{AreFresh, IsLoadable, row_of_key, value_under}
use Rattle.loading_laws.proofs.Loading.RowKeys.{row_found}
use Rattle.loading_laws.proofs.Loading.Rows.{held_of, legal_of}

-- ---- cells that are filled

abbrev value_in : Option Cell → Option Value
value_in found = option_and_then (λ (cell : Cell). cell.value) found

-- what a cell holds then it held before, or it was found
filled_value : (found : Found) (cells : List Cell) (k n : ℕ) (value : Value) → value_in (slice_get (map (filled_cell found) (enumerate_from k cells)) n) ≡ Some value → (value_in (slice_get cells n) ≡ Some value) ⊎ (value_found found (k + n) ≡ Some value)
filled_value found [] k n value e = absurd cc
filled_value found (cell ∷ cells) k zero value e = by cell.value refl (value_found found k) refl e
  where
    by : (was : Option Value) → cell.value ≡ was → (new : Option Value) → value_found found k ≡ new → (if is_none was then cell_read cell new else cell).value ≡ Some value → (cell.value ≡ Some value) ⊎ (value_found found (k + 0) ≡ Some value)
    by (Some x) is new found_is e = inl e
    by None is None found_is e = absurd (let never = sym is ∙ e in cc)
    by None is (Some y) found_is e = let place : k + 0 ≡ k = omega arith in inr (ap (value_found found) place ∙ found_is ∙ e)
filled_value found (cell ∷ cells) k (suc n) value e =
    let place : k + 1 + n ≡ k + suc n = omega arith in
    subst (λ (p : ℕ). (value_in (slice_get cells n) ≡ Some value) ⊎ (value_found found p ≡ Some value)) place (filled_value found cells (k + 1) n value e)

-- an object that a load makes holds nothing
none_held : {A : Type 0} (attributes : List A) (n : ℕ) (value : Value) → value_in (slice_get (map (λ attribute. expired_cell) attributes) n) ≡ Some value → ⊥
none_held [] n value e = absurd cc
none_held (attribute ∷ attributes) zero value e = absurd cc
none_held (attribute ∷ attributes) (suc n) value e = none_held attributes n value e

each_behind : {A : Type 0} (P : A → Type 0) (xs : List A) (x d : A) → ((n : ℕ) → P (get_or xs n d)) → P x → (n : ℕ) → P (get_or (xs ++ x ∷ []) n d)
each_behind P [] x d all h zero = h
each_behind P [] x d all h (suc n) = all zero
each_behind P (y ∷ xs) x d all h zero = all zero
each_behind P (y ∷ xs) x d all h (suc n) = each_behind P xs x d (λ k. all (suc k)) h n

module _ (mapped : Mapped) (tables : held.Tables) where
  -- the cells that a persistent object holds are those of its rows
  abbrev Fresh : Object → Type 0
  Fresh object = (attr : AttrNo) (value : Value) → object.state ≡ Persistent → value_of object attr ≡ Some value → value_under tables (attribute_of mapped object.class attr) (unwrap_or object.identity []) ≡ Some value

  fresh_filled : (graph : Graph) (object : ObjId) (found : Found) → AreFresh mapped tables graph
      → ((attr : AttrNo) (value : Value) → value_found found attr.0 ≡ Some value → value_under tables (attribute_of mapped (object_at graph object).class attr) (identity_key graph object) ≡ Some value)
      → AreFresh mapped tables (with_filled graph object found)
  unfolding with_filled
  fresh_filled graph object found fresh fills = λ other attr value state held.
      set_related (λ (x y : Object). Fresh x → Fresh y) graph.objects (place_of object) (place_of other) (filled_object found (object_at graph object)) no_object (λ x f. f) renewed (fresh other) attr value state held
    where
      renewed : Fresh (object_at graph object) → Fresh (filled_object found (object_at graph object))
      renewed old attr value state held = by (filled_value found (object_at graph object).cells 0 attr.0 value held)
        where
          by : (value_of (object_at graph object) attr ≡ Some value) ⊎ (value_found found (0 + attr.0) ≡ Some value) → value_under tables (attribute_of mapped (object_at graph object).class attr) (identity_key graph object) ≡ Some value
          by (inl was) = old attr value state was
          by (inr new) = let first : 0 + attr.0 ≡ attr.0 = omega arith in fills attr value (ap (value_found found) (sym first) ∙ new)

  fresh_loaded : (graph : Graph) (named : ClassId) (key : List Value) → AreFresh mapped tables graph → AreFresh mapped tables (with_loaded mapped named key graph)
  fresh_loaded graph named key fresh = λ object attr value state held. each_behind Fresh graph.objects (loaded_object mapped named key) no_object before made (place_of object) attr value state held
    where
      before : (n : ℕ) → Fresh (get_or graph.objects n no_object)
      before n = let number : n + 1 - 1 ≡ n = omega arith in subst (λ (k : ℕ). Fresh (get_or graph.objects k no_object)) number (fresh (record { 0 = n + 1 }))

      made : Fresh (loaded_object mapped named key)
      made attr value state held = absurd (none_held (attributes_of mapped named) attr.0 value held)

-- ---- places of columns

pub find_passes : {A : Type 0} (test : A → Bool) (xs : List A) (x : A) → find test xs ≡ Some x → test x ≡ true
find_passes test [] x e = absurd cc
find_passes test (y ∷ xs) x e = by (test y) refl e (find_passes test xs x)
  where
    by : (b : Bool) → test y ≡ b → cond b (Some y) (find test xs) ≡ Some x → (find test xs ≡ Some x → test x ≡ true) → test x ≡ true
    by true is e later = ap test (sym (same_Some y x e)) ∙ is
    by false is e later = later e

-- what stands at the place that is found passes
placed : (test : Attribute → Bool) (xs : List Attribute) (i : ℕ) → position test xs ≡ Some i → (x : Attribute) × (slice_get xs i ≡ Some x) × (test x ≡ true)
placed test xs i is = by (nat_lt n (length xs)) refl is
  where
    n : ℕ
    n = position_or_len test xs

    by : (b : Bool) → nat_lt n (length xs) ≡ b → cond b (Some n) None ≡ Some i → (x : Attribute) × (slice_get xs i ≡ Some x) × (test x ≡ true)
    by false less e = absurd cc
    by true less e =
        let same : n ≡ i = same_Some n i e in
        let x : Attribute = get_or xs n no_attribute in
        let here : slice_get xs n ≡ Some x = slice_get-get_or xs n no_attribute (ltb-true n (length xs) less) in
        (x, ap (slice_get xs) (sym same) ∙ here, find_passes test xs x (find_at test xs ∙ here))

-- ---- rows of a class

-- the row has the attributes of a row of each table of the class, all under its key
pub record IsRanked (mapped : Mapped) (class : ClassId) (tables : Tables) (row : Row) : Type 0 where
  pub rows : Choice
  pub ranked : AreRanked mapped class tables rows (row_key mapped class row)
  pub is : row ≡ map (chosen rows) (attribute_columns mapped class (from_root 0))

-- what stands in an attribute's place of a row of a choice
pub attribute_value : (mapped : Mapped) (class : ClassId) (rows : Choice) (i : ℕ) (attribute : Attribute) → slice_get (attributes_of mapped class) i ≡ Some attribute
    → slice_get (map (chosen rows) (attribute_columns mapped class (from_root 0))) i ≡ Some (item_or_null (slice_get (rows (rank_of mapped class attribute.table)) attribute.column.0))
attribute_value mapped class rows i attribute at =
    slice_get-map (chosen rows) (attribute_columns mapped class (from_root 0)) i
    ∙ ap (option_map (chosen rows)) (slice_get-map (attribute_column mapped class (from_root 0)) (attributes_of mapped class) i ∙ ap (option_map (attribute_column mapped class (from_root 0))) at)
    ∙ ap (λ (k : ℕ). Some (item_or_null (slice_get (rows k) attribute.column.0))) (rank_is (rank_of mapped class attribute.table))

module _ (mapped : Mapped) (tables : held.Tables) (sound : AreSound mapped.schema tables) (class : ClassId) where
  -- what a row has for an attribute is what is under its key
  row_value : (row : Row) → IsRanked mapped class (bare tables) row → (attribute : Attribute) (value : Value) → value_for mapped class row attribute ≡ Some value → value_under tables attribute (row_key mapped class row) ≡ Some value
  row_value row ranked attribute value e = by (position (is_same_column attribute) (attributes_of mapped class)) refl e
    where
      key : List Value
      key = row_key mapped class row

      by : (found : Option ℕ) → position (is_same_column attribute) (attributes_of mapped class) ≡ found → option_and_then (slice_get row) found ≡ Some value → value_under tables attribute key ≡ Some value
      by None is e = absurd cc
      by (Some i) is e =
          let at = placed (is_same_column attribute) (attributes_of mapped class) i is in
          let own : Attribute = at.0 in
          let both = and_parts (own.table.0 == attribute.table.0) (own.column.0 == attribute.column.0) at.2 in
          let same_table : own.table ≡ attribute.table = ap (λ (n : ℕ). let t : TableId = record { 0 = n } in t) (eqb-true own.table.0 attribute.table.0 both.0) in
          let rank : ℕ = rank_of mapped class own.table in
          let here : slice_get (class_tables_of mapped class) rank ≡ Some own.table = attribute_ranked mapped class own.table own (has_at (attributes_of mapped class) i own at.1) refl in
          let one : Row = ranked.rows rank in
          let shown : slice_get row i ≡ Some (item_or_null (slice_get one own.column.0)) = ap (λ (l : Row). slice_get l i) ranked.is ∙ attribute_value mapped class ranked.rows i own at.1 in
          let found : row_of_key tables own.table key ≡ Some one =
          row_found mapped tables sound own.table one key (ranked.ranked.rows rank own.table here) (ap (λ (found : Option TableId). key_in_table mapped (table_or_none found) one) (sym here) ∙ ranked.ranked.keys rank own.table here) in
          ap (λ (t : TableId). option_map (λ (r : Row). item_or_null (slice_get r attribute.column.0)) (row_of_key tables t key)) (sym same_table)
          ∙ ap (option_map (λ (r : Row). item_or_null (slice_get r attribute.column.0))) found
          ∙ ap (λ (k : ℕ). Some (item_or_null (slice_get one k))) (sym (eqb-true own.column.0 attribute.column.0 both.1)) ∙ sym shown ∙ e

  found_value : (attributes : List Attribute) (row : Row) (n : ℕ) (value : Value) → value_found (map (value_for mapped class row) attributes) n ≡ Some value → value_for mapped class row (slice_index_or attributes n no_attribute) ≡ Some value
  found_value [] row n value e = absurd cc
  found_value (attribute ∷ attributes) row zero value e = e
  found_value (attribute ∷ attributes) row (suc n) value e = found_value attributes row n value e

  -- ---- a row that is taken

  module _ (row : Row) (old : Graph) (fresh : AreFresh mapped tables old) where
    same_pair : (x y : ObjId × Graph) → ◌≡◌ {A = Result (ObjId × Graph) Refusal} (Ok x) (Ok y) → x ≡ y
    same_pair x y e = cc

    made_fresh : (named : ClassId) (found : ObjId × Graph) (b : Bool) → (if b then Ok (record { 0 = length old.objects + 1 }, with_loaded mapped named (row_key mapped class row) old) else Err (LimitReached Objects)) ≡ Ok found → AreFresh mapped tables found.1
    made_fresh named found false e = absurd cc
    made_fresh named found true e =
        subst (λ (one : ObjId × Graph). AreFresh mapped tables one.1) (same_pair (record { 0 = length old.objects + 1 }, with_loaded mapped named (row_key mapped class row) old) found e) (fresh_loaded mapped tables old named (row_key mapped class row) fresh)

    named_fresh : (named : Option ClassId) (found : ObjId × Graph) → loaded_as mapped (row_key mapped class row) old named ≡ Ok found → AreFresh mapped tables found.1
    unfolding load
    named_fresh None found e = absurd cc
    named_fresh (Some named) found e = made_fresh named found (nat_lt (length old.objects) object_limit) e

    found_fresh : (holder : Option ObjId) (found : ObjId × Graph) → found_or_loaded mapped class row old holder ≡ Ok found → AreFresh mapped tables found.1
    found_fresh None found e = named_fresh (class_named mapped class row) found e
    found_fresh (Some object) found e = subst (λ (one : ObjId × Graph). AreFresh mapped tables one.1) (same_pair (object, old) found e) fresh

  taken_fresh : (row : Row) (own now : Loading) (object : ObjId) (r : Result (ObjId × Graph) Refusal) → IsRanked mapped class (bare tables) row → AreFresh mapped tables own.graph → row_object mapped class row own.graph ≡ r
      → Goes (λ (start : Loading). taken_as mapped class row start r) own object now → identity_key now.graph object ≡ row_key mapped class row → AreFresh mapped tables now.graph
  unfolding filled with_filled row_object
  taken_fresh row own now object (Err e) ranked fresh is g named = absurd (let never = g.answer in cc)
  taken_fresh row own now object (Ok found) ranked fresh is g named =
      let own_class : ClassId = (object_at found.1 found.0).class in
      let values : Found = found_in_row mapped class row own_class in
      let same : found.0 ≡ object = same_answer found.0 object g.answer in
      let left : with_filled found.1 found.0 values ≡ now.graph = ap (λ (one : Loading). one.graph) g.leaves in
      let before : AreFresh mapped tables found.1 = found_fresh row own.graph fresh (find_identity own.graph (root_of mapped class) (row_key mapped class row)) found is in
      let kept : identity_key (with_filled found.1 found.0 values) found.0 ≡ identity_key found.1 found.0 =
      ap (λ (identity : Option (List Value)). unwrap_or identity [])
      (set_related (λ (x y : Object). y.identity ≡ x.identity) found.1.objects (place_of found.0) (place_of found.0) (filled_object values (object_at found.1 found.0)) no_object (λ x. refl) refl) in
      let key : identity_key found.1 found.0 ≡ row_key mapped class row = sym kept ∙ ap (λ (graph : Graph). identity_key graph found.0) left ∙ ap (identity_key now.graph) same ∙ named in
      subst (AreFresh mapped tables) left
      (fresh_filled mapped tables found.1 found.0 values before
      (λ attr value e. ap (value_under tables (attribute_of mapped own_class attr)) key ∙ row_value row ranked (attribute_of mapped own_class attr) value (found_value (attributes_of mapped own_class) row attr.0 value e)))

  module _ (has : HasHierarchies mapped) (declared : IsClass mapped class) where
    row_fresh : (row : Row) (own now : Loading) (object : ObjId) → length own.graph.roots ≡ length own.graph.objects → IsRanked mapped class (bare tables) row → AreFresh mapped tables own.graph → Goes (take_row mapped class row) own object now → AreFresh mapped tables now.graph
    unfolding take_row
    row_fresh row own now object rooted ranked fresh g =
        let root : ClassId = root_of mapped class in
        let key : List Value = row_key mapped class row in
        let taken = row_taken mapped class has.paired row own now object rooted g in
        let finds = row_finds mapped class has declared row own now object rooted g in
        taken_fresh row own now object (row_object mapped class row own.graph) ranked fresh refl (record { answer = g.answer; leaves = g.leaves })
        (key_of_stand root now.graph key object (found_stands now.graph root key object taken.rooted finds.found))

    each_fresh : (rows : List Row) (before : List ObjId) (own : Loading) (objects : List ObjId) (now : Loading) → length own.graph.roots ≡ length own.graph.objects → AllByRecursion (IsRanked mapped class (bare tables)) rows → AreFresh mapped tables own.graph
        → Goes (each (take_next mapped class) before rows) own objects now → AreFresh mapped tables now.graph
    unfolding each
    each_fresh [] before own objects now rooted ranked fresh g = let end = given before objects own now g in subst (λ (u : Loading). AreFresh mapped tables u.graph) end.1 fresh
    each_fresh (row ∷ rows) before own objects now rooted ranked fresh g =
        let one = parted (take_next mapped class row before) (λ (t : List ObjId). each (take_next mapped class) t rows) own objects now g in
        let two = parted (take_row mapped class row) (λ (o : ObjId). give (before ++ o ∷ [])) own one.value one.between one.first in
        let put = given (before ++ two.value ∷ []) one.value two.between one.between two.second in
        let there : length one.between.graph.roots ≡ length one.between.graph.objects =
        subst (λ (u : Loading). length u.graph.roots ≡ length u.graph.objects) put.1 (row_taken mapped class has.paired row own two.between two.value rooted two.first).rooted in
        let here : AreFresh mapped tables one.between.graph = subst (λ (u : Loading). AreFresh mapped tables u.graph) put.1 (row_fresh row own two.between two.value rooted ranked.0 fresh two.first) in
        each_fresh rows one.value one.between objects now there ranked.1 here one.second

    rows_fresh : (rows : List Row) (own : Loading) (objects : List ObjId) (now : Loading) → length own.graph.roots ≡ length own.graph.objects → AllByRecursion (IsRanked mapped class (bare tables)) rows → AreFresh mapped tables own.graph
        → Goes (take_rows mapped class rows) own objects now → AreFresh mapped tables now.graph
    unfolding take_rows
    rows_fresh rows own objects now rooted ranked fresh g = each_fresh rows [] own objects now rooted ranked fresh (record { answer = g.answer; leaves = g.leaves })

-- ---- the rows of a query's own select

module _ (mapped : Mapped) (query : ObjectQuery) (w : World) (is : IsLoadable mapped query w) where
  abbrev tables : Tables
  tables = bare w.store.tables

  -- the query without its options
  abbrev alone : ObjectQuery
  alone = record { class = query.class; select = query.select; joined = []; selectin = query.selectin }

  ranked_each : (from : List (List Row)) → AllByRecursion (AreOfSources mapped.schema tables query.select) from → AllByRecursion (IsRanked mapped query.class tables) (map (cells (own_columns mapped query)) from)
  ranked_each [] sourced = tt
  ranked_each (rows ∷ from) sourced = (
    record {
      rows = row_at rows;
      ranked = (owner_there mapped query.class tables query.select is.has is.class (held_of mapped query w is) (legal_of mapped query w is) is.begins rows sourced.0).ranked;
      is = cells_chosen rows (own_columns mapped query);
    },
    ranked_each from sourced.1,
  )

  -- each is one of the class's tables
  pub plain_ranked : (plain : List Row) → answer mapped.schema tables query.select ≡ Ok plain → AllByRecursion (IsRanked mapped query.class tables) plain
  plain_ranked plain told =
      let same : main_select mapped alone ≡ query.select = own_select mapped alone refl in
      let can : CanBeJoined mapped tables alone = record {
        reads = is.reads;
        plain = is.plain;
        single = is.single;
        main = subst (IsPlainSelect mapped.schema) (sym same) is.plain;
        held = held_of mapped query w is;
        created = subst (λ (s : Select). require_created tables (tables_of s) ≡ Ok tt) (sym same) (answered_created mapped.schema tables query.select plain told);
      } in
      let cuts : CutsOwners mapped tables alone = record { not_distinct = is.cuts.not_distinct; cut = inr (λ rows of. refl) } in
      let blocks : AreBlocks mapped tables alone plain plain = blocks_of mapped tables alone can cuts plain plain told (ap (answer mapped.schema tables) same ∙ told) in
      subst (AllByRecursion (IsRanked mapped query.class tables)) (sym blocks.owners_are) (ranked_each blocks.from blocks.sourced)

  -- what the own select leaves is fresh where all was
  pub fresh_selected : (objects : List ObjId) (first : World) → AreFresh mapped w.store.tables w.own.graph → Goes (load_select mapped query) w objects first → AreFresh mapped w.store.tables first.own.graph
  unfolding load_select
  fresh_selected objects first fresh g =
      let class : ClassId = query.class in
      let one = parted (read mapped.schema query.select) (λ (rows : List Row). on_own (take_objects mapped class rows)) w objects first (record { answer = g.answer; leaves = g.leaves }) in
      let sent = read_goes mapped.schema query.select w one.value one.between one.first in
      let own = on_own_goes (take_objects mapped class one.value) one.between objects first one.second in
      let two = parted (take_rows mapped class one.value) (λ (found : List ObjId). give (firsts found)) one.between.own objects first.own own.goes in
      let end = given (firsts two.value) objects two.between first.own two.second in
      let rooted : length one.between.own.graph.roots ≡ length one.between.own.graph.objects = subst (λ (h : Graph). length h.roots ≡ length h.objects) (sym sent.graph) (rooted_fit mapped w.own.graph is.fit) in
      let before : AreFresh mapped w.store.tables one.between.own.graph = subst (AreFresh mapped w.store.tables) (sym sent.graph) fresh in
      subst (λ (u : Loading). AreFresh mapped w.store.tables u.graph) end.1
      (rows_fresh mapped w.store.tables is.sound class is.has is.class one.value one.between.own two.value two.between rooted (plain_ranked one.value sent.answered) before two.first)
