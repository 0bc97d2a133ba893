-- An object whose row is there is of a class just where one of the class's rows has its key.
use Rattle.std.proofs.Common.{◌≡◌, ℕ, zero, suc, ◌+◌, ◌<◌, ◌≤◌, ◌==◌, Bool, true, false, not, ◌&&◌, ◌||◌, List, [], ◌∷◌, length, map, slice_get, Option, None, Some, if◌then◌else◌, is_none, is_some, refl, sym, ap, subst, ◌∙◌, inl, inr, arith}
use Rattle.std.specs.Prelude.{find, slice_index_or, unwrap_or}
use Rattle.std.specs.List.{cons_option, filter_map, list_all, list_any, range_with_len}
use Rattle.std.specs.Option.{option_and_then}
use Rattle.std.specs.Ordering.{is_eq, ordering_reverse}
use Rattle.std.specs.declared.cmp.Ordering.{Ordering}
use Rattle.std.specs.declared.cmp.Ordering.TheVariants.{Less, Equal, Greater}
use Rattle.std.proofs.lemmas.Bool.{and_parts, eq-eqb, eqb-false, eqb-true}
use Rattle.std.proofs.lemmas.List.{get_or-map}
use Rattle.std.proofs.lemmas.Option.{same_Some, slice_get-get_or, slice_get_within}
use Rattle.base_core.specs.declared.ids.ClassId.{ClassId}
use Rattle.base_core.specs.declared.ids.ObjId.{ObjId}
use Rattle.base_core.specs.declared.ids.TableId.{TableId}
use Rattle.base_core.specs.declared.value.Kind.{Kind}
use Rattle.base_core.specs.declared.value.Value.{Value}
use Rattle.base_core.specs.declared.value.Value.TheVariants as value
use Rattle.base_core.specs.Order.{same_value, value_cmp}
use Rattle.base_core.specs.OrderLaws.{value_cmp_total}
use Rattle.base_core.proofs.Exact.{exact_value}
use Rattle.schema_core.specs.Catalog.{key_columns, kind_of}
use Rattle.schema_core.specs.Tables.{has_null, is_null, kind_of_value, same_values}
use Rattle.schema_core.specs.WellFormed.{is_key}
use Rattle.sql_semantics.specs.Created.{bare}
use Rattle.sql_semantics.specs.Eval.{Row, Tables, item_or_null, rows_in}
use Rattle.class_types.specs.declared.declared.ClassSpec.{ClassSpec}
use Rattle.class_layouts.specs.Columns.{named_table, own_table, table_in}
use Rattle.class_layouts.specs.Faults.{has_kind, is_identity}
use Rattle.class_layouts.specs.Hierarchy.{line_of, no_class}
use Rattle.class_mapping.specs.Mapped.{IsClass, Mapped, class_spec, root_of, root_spec, root_table, table_or_none, tables_of}
use Rattle.class_mapping.specs.Paired.{is_at_or_under}
use Rattle.class_mapping.specs.Plain.{is_over_table}
use Rattle.class_mapping.proofs.Having.{Has, all_of, any_has, found_of, has_at, has_filter, has_left, some_of}
use Rattle.class_mapping.proofs.LineLemmas.{line_within}
use Rattle.class_mapping.proofs.RelatedLemmas.{has_class_from, own_line}
use Rattle.object_arena.specs.declared.object.Object.{Object}
use Rattle.object_arena.specs.declared.object.State.TheVariants.{Persistent}
use Rattle.object_arena.specs.Fit.{ObjectFits, key_fits}
use Rattle.object_arena.specs.Graph.{Graph, IsObject, is_persistent, no_class_id, no_object, object_at, place_of, root_at}
use Rattle.object_arena.specs.Identity.{find_identity, has_key}
use Rattle.object_arena.proofs.GraphLemmas.{same_equiv}
use Rattle.object_parts.proofs.Expiries.{persistent_is}
use Rattle.relations.specs.Mirror.{is_of}
use Rattle.mapping_laws.proofs.KeyKinds.{keys_alike}
use Rattle.mapping_laws.specs.Hierarchies.{HasHierarchies, HasTables, kinds_of}
use Rattle.mapping_laws.proofs.Ties.{class_tables}
use Rattle.mapping_laws.proofs.Tables.{from_filter_map, own_is}
use Rattle.mapping_laws.proofs.Told.{tells_apart}
use Rattle.load_columns.specs.declared.placing.SourceColumn.{SourceColumn}
use Rattle.load_columns.specs.Placing.{attribute_columns, from_root, rank_of, table_at_rank}
use Rattle.load_filling.specs.Rows.{row_key}
use Rattle.load_rows.specs.Reading.{identity_key}
use Rattle.load_calls.specs.Reading.{World}
use Rattle.load_calls.proofs.RefreshLemmas.{own_key_fits}
use Rattle.collection_selects.proofs.Keys.{key_fits as table_key_fits}
use Rattle.collection_selects.proofs.Placed.{branch_under, rank_finds}
use Rattle.load_selects.specs.Branches.{branch, class_ids, class_numbered, discriminator_column, discriminator_of, identities, is_under}
use Rattle.loading_laws.specs.Answers.Answers.{AreRowsOf}
use Rattle.loading_laws.specs.Answers.Equal.{are_equal}
use Rattle.loading_laws.proofs.Members.Choices.{Choice, chosen}
use Rattle.loading_laws.proofs.Members.Owned.{AreHeld, IsOwn, class_known, own_ranked, own_row, own_test, ranked_own, root_there, row_key_is, row_own}
use Rattle.loading_laws.proofs.Members.Ranks.{AreRanked, key_in, same_equal}
use Rattle.loading_laws.specs.Strategies.Ends.{has_row}
use Rattle.loading_laws.proofs.Strategies.KeyOrder.{key_of_stand}
use Rattle.loading_laws.proofs.Strategies.Standing.{found_stands}
use Rattle.loading_laws.specs.Loaders.Linked.{IsStage}
use Rattle.loading_laws.proofs.Loaders.EachKind.{kinds_known}
use Rattle.loading_laws.specs.Loaders.OwnRows.{AreOfTheirRows, AreRowsOfOne, has_row_under, is_named_under, key_in_table, names_by, names_class}

-- ---- values, lists and lines

value_itself : (v : Value) → is_eq (value_cmp v v) ≡ true
value_itself v = by (value_cmp v v) (value_cmp_total.antisymm v v)
  where
    by : (o : Ordering) → o ≡ ordering_reverse o → is_eq o ≡ true
    by Less e = absurd cc
    by Equal e = refl
    by Greater e = absurd cc

value_tied : (one other : Value) → is_eq (value_cmp one other) ≡ true → one ≡ other
value_tied one other same = by (value_cmp one other) refl same
  where
    by : (o : Ordering) → value_cmp one other ≡ o → is_eq o ≡ true → one ≡ other
    by Less is e = absurd cc
    by Equal is e = exact_value one other is
    by Greater is e = absurd cc

any_chosen : {A B : Type 0} (f : A → Option B) (p : B → Bool) (xs : List A) (x : A) (y : B) → Has xs x → f x ≡ Some y → p y ≡ true → list_any p (filter_map f xs) ≡ true
any_chosen f p [] x y there is passes = absurd there
any_chosen f p (z ∷ xs) x y (inl e) is passes =
    ap (λ found. list_any p (cons_option found (filter_map f xs))) (ap f e ∙ is) ∙ ap (λ (b : Bool). b || list_any p (filter_map f xs)) passes
any_chosen {B = B} f p (z ∷ xs) x y (inr there) is passes = by (f z) (any_chosen f p xs x y there is passes)
  where
    or_late : (b c : Bool) → c ≡ true → (b || c) ≡ true
    or_late true c e = refl
    or_late false c e = e

    by : (found : Option B) → list_any p (filter_map f xs) ≡ true → list_any p (cons_option found (filter_map f xs)) ≡ true
    by None rest = rest
    by (Some first) rest = or_late (p first) (list_any p (filter_map f xs)) rest

has_number : (n count : ℕ) (class : ClassId) → n ≤ class.0 → class.0 < n + count → Has (map class_numbered (range_with_len n count)) class
has_number n zero class low less = absurd (omega (arith, low, less))
has_number n (suc count) class low less = by (n == class.0) refl (λ next. has_number (n + 1) count class next (omega (arith, less)))
  where
    by : (b : Bool) → (n == class.0) ≡ b → (n + 1 ≤ class.0 → Has (map class_numbered (range_with_len (n + 1) count)) class) → Has (map class_numbered (range_with_len n (suc count))) class
    by true is more = inl (ap class_numbered (eqb-true n class.0 is))
    by false is more = let apart = eqb-false n class.0 is in inr (more (omega (arith, low, apart)))

-- ---- lines of classes

-- a class at or under another is at or under those above that one
pub above_all : (mapped : Mapped) (class middle above : ClassId) → HasHierarchies mapped → is_at_or_under mapped class middle ≡ true → is_at_or_under mapped middle above ≡ true → is_at_or_under mapped class above ≡ true
above_all mapped class middle above has under over =
    let begins = has.lines.nested class.0 middle under in
    let found = some_of (λ (other : ClassId). other.0 == above.0) (line_of mapped.classes middle.0) over in
    has_class_from (line_of mapped.classes class.0) found.0 above.0
    (subst (λ (line : List ClassId). Has line found.0) (sym begins.1) (has_left (line_of mapped.classes middle.0) begins.0 found.0 found.1)) (eqb-true found.0.0 above.0 found.2)

class_of : (mapped : Mapped) → HasHierarchies mapped → (class above : ClassId) → is_at_or_under mapped class above ≡ true → IsClass mapped class
class_of mapped has class above under = subst (λ (n : ℕ). class.0 < n) has.lined (line_within mapped.classes.lines class.0 above.0 (slice_get mapped.classes.lines class.0) refl under)

-- a class is among those at or under one that it is at or under
branch_has : (mapped : Mapped) (class other : ClassId) → IsClass mapped other → is_at_or_under mapped other class ≡ true → Has (branch mapped class) other
branch_has mapped class other less under = by (other.0 == class.0) refl
  where
    by : (b : Bool) → (other.0 == class.0) ≡ b → Has (branch mapped class) other
    by true is = inl (ap class_numbered (sym (eqb-true other.0 class.0 is)))
    by false is =
        inr
        (has_filter (is_under mapped class) (class_ids mapped) other (has_number 0 (length mapped.classes.specs) other (omega arith) (omega (arith, less)))
        (ap (λ (b : Bool). not b && is_at_or_under mapped other class) is ∙ under))

-- the table that a class names is one of its tables
own_found : (mapped : Mapped) (class : ClassId) → list_all (is_over_table mapped.schema.tables) mapped.classes.specs ≡ true → IsClass mapped class → is_some (class_spec mapped class).table ≡ true → (table : TableId) × (own_table mapped.schema.tables mapped.classes class.0 ≡ Some table)
own_found mapped class over less named =
    let spec : ClassSpec = class_spec mapped class in
    let here : slice_get mapped.classes.specs class.0 ≡ Some spec = slice_get-get_or mapped.classes.specs class.0 no_class less in
    let found = found_by spec.table named (all_of (is_over_table mapped.schema.tables) mapped.classes.specs spec over (has_at mapped.classes.specs class.0 spec here)) in
    (found.0, ap (table_in mapped.schema.tables) here ∙ found.1)
  where
    some_table : (found : Option TableId) → is_some found ≡ true → (table : TableId) × (found ≡ Some table)
    some_table None h = absurd cc
    some_table (Some table) h = (table, refl)

    found_by : (name : Option (List ℕ)) → is_some name ≡ true → (is_none name || is_some (named_table mapped.schema.tables name)) ≡ true → (table : TableId) × (named_table mapped.schema.tables name ≡ Some table)
    found_by None h declared = absurd cc
    found_by (Some name) h declared = some_table (named_table mapped.schema.tables (Some name)) declared

given_by : (v : Value) (kind : Kind) → has_kind (option_and_then kind_of_value (Some v)) kind ≡ true → is_null v ≡ false
given_by value.Null kind h = absurd cc
given_by (value.Bool b) kind h = refl
given_by (value.Int n) kind h = refl
given_by (value.Text s) kind h = refl
given_by (value.Bytes s) kind h = refl

-- an identity that a row holds
identity_is : (identity : Option Value) (v : Value) → is_identity identity (Some v) ≡ true → identity ≡ Some v
identity_is None v h = absurd cc
identity_is (Some own) v h = ap (λ (x : Value). Some x) (value_tied own v h)

-- ---- one class, and an object's class in its hierarchy

module _ (mapped : Mapped) (class : ClassId) (tables : Tables) (all : List Row) (stage : AreHeld mapped class tables all) (over : list_all (is_over_table mapped.schema.tables) mapped.classes.specs ≡ true) (key : List Value) (given : has_null key ≡ false)
    (own : ClassId) (own_is_class : IsClass mapped own) (same_root : root_of mapped own ≡ root_of mapped class) (one : AreRowsOfOne mapped tables own key) where
  abbrev known : HasTables mapped class
  known = class_known mapped class tables all stage

  abbrev root : TableId
  root = root_table mapped class

  abbrev place : List ℕ → SourceColumn
  place name = discriminator_column mapped class (from_root 0) name

  -- what a row has in the key of the table of a rank
  ranked_key : (ranks : Choice) (rank : ℕ) (table : TableId) → slice_get (tables_of mapped class) rank ≡ Some table → key_in mapped class ranks rank ≡ key_in_table mapped table (ranks rank)
  ranked_key ranks rank table here = ap (λ (found : Option TableId). key_in_table mapped (table_or_none found) (ranks rank)) here

  row_under : (table : TableId) (row : Row) → Has (rows_in tables table.0) row → key_in_table mapped table row ≡ key → has_row_under mapped tables key table ≡ true
  row_under table row there same =
      any_has (λ (r : Row). same_values (key_in_table mapped table r) key) (rows_in tables table.0) row there (ap (λ (k : List Value). same_values k key) same ∙ same_equiv.refl key)

  -- the root of a class of the branch
  branch_root : (other : ClassId) → is_at_or_under mapped other class ≡ true → root_of mapped other ≡ root_of mapped own
  branch_root other under = ap (λ (n : ℕ). let root : ClassId = record { 0 = n } in root) (stage.has.paired.rooted other class under) ∙ sym same_root

  -- ---- a row of the class is one of the object's class or of a class above it

  tabled : is_some (class_spec mapped class).table ≡ true → (ranks : Choice) → AreRanked mapped class tables ranks key → is_at_or_under mapped own class ≡ true
  tabled named ranks ranked =
      let found = own_found mapped class over stage.is named in
      let inside : Has (tables_of mapped class) found.0 = chosen_has (line_of mapped.classes class.0) (own_line mapped stage.has.lined stage.has.lines class stage.is) found.0 found.1 in
      let rank : ℕ = rank_of mapped class found.0 in
      let here : slice_get (tables_of mapped class) rank ≡ Some found.0 = rank_finds (tables_of mapped class) found.0 inside in
      sym (one.tables_of class found.0 stage.is (sym same_root) found.1)
      ∙ row_under found.0 (ranks rank) (ranked.rows rank found.0 here) (sym (ranked_key ranks rank found.0 here) ∙ ranked.keys rank found.0 here)
    where
      chosen_has : (line : List ClassId) → Has line class → (table : TableId) → own_table mapped.schema.tables mapped.classes class.0 ≡ Some table → Has (filter_map (λ (other : ClassId). own_table mapped.schema.tables mapped.classes other.0) line) table
      chosen_has line there table is =
          let f : ClassId → Option TableId = λ other. own_table mapped.schema.tables mapped.classes other.0 in
          let any = some_of (λ (t : TableId). t.0 == table.0) (filter_map f line) (any_chosen f (λ (t : TableId). t.0 == table.0) line class table there is (eq-eqb table.0 table.0 refl)) in
          subst (Has (filter_map f line)) (ap (λ (n : ℕ). let t : TableId = record { 0 = n } in t) (eqb-true any.0.0 table.0 any.2)) any.1

  -- the row names a class of the branch
  named_there : (name : List ℕ) → discriminator_of mapped class ≡ Some name → (row : Row) → Has (rows_in tables root.0) row → key_in_table mapped root row ≡ key
      → list_any (λ x. are_equal (item_or_null (slice_get row (place name).column.0), x)) (identities mapped class) ≡ true → is_at_or_under mapped own class ≡ true
  named_there name is row there same passes =
      let v : Value = item_or_null (slice_get row (place name).column.0) in
      let found = some_of (λ x. are_equal (v, x)) (identities mapped class) passes in
      let from = from_filter_map (λ (other : ClassId). (class_spec mapped other).identity) (branch mapped class) found.0 found.1 in
      let other : ClassId = from.0 in
      let under : is_at_or_under mapped other class ≡ true = branch_under mapped class stage.has stage.is known other from.1 in
      let equal = and_parts (not (is_null v)) (not (is_null found.0) && same_value v found.0) found.2 in
      let tied : v ≡ found.0 = value_tied v found.0 (and_parts (not (is_null found.0)) (same_value v found.0) equal.1).1 in
      let other_root : root_of mapped other ≡ root_of mapped class = branch_root other under ∙ same_root in
      let told : names_class mapped other row ≡ true =
      ap (λ (r : ClassId). names_by mapped other (table_or_none (own_table mapped.schema.tables mapped.classes r.0)) row (class_spec mapped r).discriminator) other_root
      ∙ ap (names_by mapped other root row) is
      ∙ ap (λ (identity : Option Value). is_identity identity (Some v)) from.2 ∙ ap (λ (x : Value). is_eq (value_cmp x v)) (sym tied) ∙ value_itself v in
      let listed : is_named_under mapped tables key other ≡ true =
      ap (λ (table : TableId). list_any (λ r. same_values (key_in_table mapped table r) key && names_class mapped other r) (rows_in tables table.0)) (ap (λ (r : ClassId). table_or_none (own_table mapped.schema.tables mapped.classes r.0)) other_root)
      ∙ any_has (λ r. same_values (key_in_table mapped root r) key && names_class mapped other r) (rows_in tables root.0) row there
      (ap (λ (k : List Value). same_values k key && names_class mapped other row) same ∙ ap (λ (b : Bool). b && names_class mapped other row) (same_equiv.refl key) ∙ told) in
      let less : IsClass mapped other = class_of mapped stage.has other class under in
      let alike : other ≡ own = ap class_numbered (eqb-true other.0 own.0 (sym (one.named other less (branch_root other under)) ∙ listed)) in
      subst (λ (c : ClassId). is_at_or_under mapped c class ≡ true) alike under

  row_key_in : (rows : Choice) → row_key mapped class (map (chosen rows) (attribute_columns mapped class (from_root 0))) ≡ key_in mapped class rows 0
  row_key_in rows = row_key_is mapped class known stage.has rows

  first_rank : slice_get (tables_of mapped class) 0 ≡ Some root
  first_rank = root_there mapped class known

  abbrev names_one : (SourceColumn → Value) → Option (List ℕ) → Bool
  names_one v None = true
  names_one v (Some name) = list_any (λ x. are_equal (v (place name), x)) (identities mapped class) && true

  from_row : has_row mapped class all key ≡ true → is_at_or_under mapped own class ≡ true
  from_row h =
      let found = some_of (λ row. same_values (row_key mapped class row) key) all h in
      let choice = row_own mapped class tables all stage found.0 found.1 in
      let rows : Choice = choice.0 in
      let keyed : key_in mapped class rows 0 ≡ key = sym (row_key_in rows) ∙ ap (row_key mapped class) (sym choice.2) ∙ same_equal (row_key mapped class found.0) key found.2 in
      let ranked = own_ranked mapped class known tables rows choice.1.head choice.1.meets key keyed in
      let passes : (if is_some (class_spec mapped class).table then true else names_one (chosen rows) (discriminator_of mapped class)) ≡ true = choice.1.passes in
      by rows ranked choice.1.head (is_some (class_spec mapped class).table) refl passes
    where
      by : (rows : Choice) → AreRanked mapped class tables rows key → Has (rows_in tables root.0) (rows 0) → (b : Bool) → is_some (class_spec mapped class).table ≡ b → (if b then true else names_one (chosen rows) (discriminator_of mapped class)) ≡ true → is_at_or_under mapped own class ≡ true
      by rows ranked head true named passes = tabled named rows ranked
      by rows ranked head false nameless passes =
          let tells = tells_apart mapped class stage.has stage.is nameless in
          let test : Bool = list_any (λ x. are_equal (item_or_null (slice_get (rows 0) (place tells.0).column.0), x)) (identities mapped class) in
          let shown : (test && true) ≡ true = sym (ap (names_one (chosen rows)) tells.1.is) ∙ passes in
          named_there tells.0 tells.1.is (rows 0) head (sym (ranked_key rows 0 root first_rank) ∙ ranked.keys 0 root first_rank) (and_parts test true shown).0

  -- ---- and a class at or above the object's has the row

  abbrev picked : TableId → Row
  picked table = unwrap_or (find (λ row. same_values (key_in_table mapped table row) key) (rows_in tables table.0)) []

  pub record IsPicked (table : TableId) (row : Row) : Type 0 where
    pub there : Has (rows_in tables table.0) row
    pub keyed : key_in_table mapped table row ≡ key

  picked_is : (table : TableId) → has_row_under mapped tables key table ≡ true → IsPicked table (picked table)
  picked_is table h =
      let found = found_of (λ row. same_values (key_in_table mapped table row) key) (rows_in tables table.0) h in
      subst (IsPicked table) (sym (ap (λ (o : Option Row). unwrap_or o []) found.1)) (record { there = found.2; keyed = same_equal (key_in_table mapped table found.0) key found.3 })

  -- the row of the root's table that names the object's class, and of each further table one under the key
  abbrev choice_of : Row → Choice
  choice_of head = λ rank. if rank == 0 then head else picked (table_at_rank mapped class rank)

  table_under : is_at_or_under mapped own class ≡ true → (rank : ℕ) (table : TableId) → slice_get (tables_of mapped class) rank ≡ Some table → has_row_under mapped tables key table ≡ true
  table_under under rank table here =
      let line : List ClassId = line_of mapped.classes class.0 in
      let from = from_filter_map (λ (other : ClassId). own_table mapped.schema.tables mapped.classes other.0) line table (has_at (tables_of mapped class) rank table here) in
      let above : is_at_or_under mapped class from.0 ≡ true = has_class_from line from.0 from.0.0 from.1 refl in
      let less : IsClass mapped from.0 = slice_get_within mapped.classes.specs from.0.0 _ (own_is mapped.schema.tables mapped.classes from.0.0 table from.2).declared in
      let rooted : root_of mapped from.0 ≡ root_of mapped own = ap (λ (n : ℕ). let r : ClassId = record { 0 = n } in r) (sym (stage.has.paired.rooted class from.0 above)) ∙ sym same_root in
      one.tables_of from.0 table less rooted from.2 ∙ above_all mapped own class from.0 stage.has under above

  chosen_at : (head : Row) → IsPicked root head → is_at_or_under mapped own class ≡ true → (rank : ℕ) (table : TableId) → slice_get (tables_of mapped class) rank ≡ Some table → IsPicked table (choice_of head rank)
  chosen_at head at under rank table here = by (rank == 0) refl
    where
      by : (b : Bool) → (rank == 0) ≡ b → IsPicked table (if b then head else picked (table_at_rank mapped class rank))
      by true is = subst (λ (t : TableId). IsPicked t head) (same_Some root table (sym first_rank ∙ ap (slice_get (tables_of mapped class)) (sym (eqb-true rank 0 is)) ∙ here)) at
      by false is =
          let same : table_at_rank mapped class rank ≡ table = ap table_or_none here in
          subst (λ (t : TableId). IsPicked table (picked t)) (sym same) (picked_is table (table_under under rank table here))

  -- its discriminator is among those of the branch
  among_branch : is_at_or_under mapped own class ≡ true → (head : Row) → names_class mapped own head ≡ true → is_some (class_spec mapped class).table ≡ false → names_one (λ column. item_or_null (slice_get head column.column.0)) (discriminator_of mapped class) ≡ true
  among_branch under head names nameless =
      let tells = tells_apart mapped class stage.has stage.is nameless in
      let v : Value = item_or_null (slice_get head (place tells.0).column.0) in
      let told : names_by mapped own root head (Some tells.0) ≡ true =
      sym
      (ap (λ (r : ClassId). names_by mapped own (table_or_none (own_table mapped.schema.tables mapped.classes r.0)) head (class_spec mapped r).discriminator) same_root ∙ ap (names_by mapped own root head) tells.1.is) ∙ names in
      let is : (class_spec mapped own).identity ≡ Some v = identity_is (class_spec mapped own).identity v told in
      let known_value : is_null v ≡ false = given_by v (kind_of tells.1.column.kind) (ap (λ (identity : Option Value). has_kind (option_and_then kind_of_value identity) (kind_of tells.1.column.kind)) (sym is) ∙ tells.1.takes own own_is_class under) in
      let equal : are_equal (v, v) ≡ true = ap (λ (b : Bool). not b && (not b && same_value v v)) known_value ∙ value_itself v in
      ap (names_one (λ column. item_or_null (slice_get head column.column.0))) tells.1.is
      ∙ ap (λ (b : Bool). b && true)
      (any_chosen (λ (other : ClassId). (class_spec mapped other).identity) (λ x. are_equal (v, x)) (branch mapped class) own v (branch_has mapped class own own_is_class under) is equal)

  to_row : is_at_or_under mapped own class ≡ true → has_row mapped class all key ≡ true
  to_row under =
      let own_root : TableId = root_table mapped own in
      let same_table : own_root ≡ root = ap (λ (r : ClassId). table_or_none (own_table mapped.schema.tables mapped.classes r.0)) same_root in
      let found = some_of (λ row. same_values (key_in_table mapped own_root row) key && names_class mapped own row) (rows_in tables own_root.0) (one.named own own_is_class refl ∙ eq-eqb own.0 own.0 refl) in
      let both = and_parts (same_values (key_in_table mapped own_root found.0) key) (names_class mapped own found.0) found.2 in
      let at : IsPicked root found.0 = subst (λ (t : TableId). IsPicked t found.0) same_table (record { there = found.1; keyed = same_equal (key_in_table mapped own_root found.0) key both.0 }) in
      let ranks : Choice = choice_of found.0 in
      let ranked : AreRanked mapped class tables ranks key = record {
        rows = λ rank table here. (chosen_at found.0 at under rank table here).there;
        keys = λ rank table here. ranked_key ranks rank table here ∙ (chosen_at found.0 at under rank table here).keyed;
      } in
      let passes : own_test mapped class (chosen ranks) ≡ true = by found.0 both.1 (is_some (class_spec mapped class).table) refl in
      let is_own : IsOwn mapped class tables ranks = ranked_own mapped class known tables ranks key ranked given passes in
      let row : Row = map (chosen ranks) (attribute_columns mapped class (from_root 0)) in
      let keyed : row_key mapped class row ≡ key = row_key_in ranks ∙ ranked.keys 0 root first_rank in
      any_has (λ r. same_values (row_key mapped class r) key) all row (own_row mapped class tables all stage ranks is_own) (ap (λ (k : List Value). same_values k key) keyed ∙ same_equiv.refl key)
    where
      by : (head : Row) → names_class mapped own head ≡ true → (b : Bool) → is_some (class_spec mapped class).table ≡ b → (if b then true else names_one (chosen (choice_of head)) (discriminator_of mapped class)) ≡ true
      by head names true named = refl
      by head names false nameless =
          let tells = tells_apart mapped class stage.has stage.is nameless in
          ap (names_one (chosen (choice_of head))) tells.1.is ∙ sym (ap (names_one (λ column. item_or_null (slice_get head column.column.0))) tells.1.is) ∙ among_branch under head names nameless

  pub class_is : is_at_or_under mapped own class ≡ has_row mapped class all key
  class_is = by (is_at_or_under mapped own class) (has_row mapped class all key) refl refl
    where
      by : (a b : Bool) → is_at_or_under mapped own class ≡ a → has_row mapped class all key ≡ b → a ≡ b
      by true b is row = sym (to_row is) ∙ row
      by false true is row = sym is ∙ from_row row
      by false false is row = refl

-- ---- an object that the identity map has

-- an object that the identity map has under a key: it is persistent, fits its class, which is of the hierarchy, and no part of its key is
-- NULL
record IsHolder (mapped : Mapped) (class : ClassId) (key : List Value) (object : ObjId) (w : World) : Type 0 where
  made : IsObject w.own.graph object
  persistent : (object_at w.own.graph object).state ≡ Persistent
  declared : IsClass mapped (object_at w.own.graph object).class
  same_root : root_of mapped (object_at w.own.graph object).class ≡ root_of mapped class
  named : identity_key w.own.graph object ≡ key
  known : has_null (identity_key w.own.graph object) ≡ false

holder_of : (mapped : Mapped) (class : ClassId) (key : List Value) (object : ObjId) (w : World) → IsStage mapped w → find_identity w.own.graph (root_of mapped class) key ≡ Some object → IsHolder mapped class key object w
holder_of mapped class key object w stage found =
    let graph : Graph = w.own.graph in
    let root : ClassId = root_of mapped class in
    let stands = found_stands graph root key object stage.graph.rooted found in
    let record_of : Object = object_at graph object in
    let inside : place_of object < length graph.objects = omega (arith, stands.0.0, stands.0.1) in
    let parts = and_parts (is_persistent record_of.state) ((root_at graph object).0 == root.0 && has_key key record_of.identity) stands.1 in
    let persistent : record_of.state ≡ Persistent = persistent_is record_of.state parts.0 in
    let fits : ObjectFits mapped record_of = stage.fit.objects (place_of object) no_object inside in
    let own_class : ClassId = record_of.class in
    let rooted : root_at graph object ≡ root_of mapped own_class =
    ap (λ (roots : List ClassId). slice_index_or roots (place_of object) no_class_id) stage.fit.roots ∙ get_or-map (λ (o : Object). root_of mapped o.class) graph.objects (place_of object) no_object no_class_id inside in
    let fit : key_fits mapped own_class (identity_key graph object) ≡ true = own_key_fits mapped graph object record_of fits refl persistent (stage.graph.identified (place_of object) no_object inside) in
    let keyed : is_key (root_spec mapped own_class) (identity_key graph object) ≡ true = sym (keys_alike mapped own_class (identity_key graph object) stage.has (class_tables mapped own_class stage.has fits.class)) ∙ fit in
    record {
      made = stands.0;
      persistent = persistent;
      declared = fits.class;
      same_root = sym rooted ∙ ap class_numbered (eqb-true (root_at graph object).0 root.0 (and_parts ((root_at graph object).0 == root.0) (has_key key record_of.identity) parts.1).0);
      named = key_of_stand root graph key object stands;
      known = kinds_known (kinds_of (key_columns (root_spec mapped own_class))) (identity_key graph object) (table_key_fits mapped (root_table mapped own_class) (identity_key graph object) keyed);
    }

-- a key that it has has no NULL
pub found_known : (mapped : Mapped) (class : ClassId) (key : List Value) (object : ObjId) (w : World) → IsStage mapped w → find_identity w.own.graph (root_of mapped class) key ≡ Some object → has_null key ≡ false
found_known mapped class key object w stage found = let one = holder_of mapped class key object w stage found in ap has_null (sym one.named) ∙ one.known

pub map_agrees : (mapped : Mapped) (class : ClassId) (key : List Value) (object : ObjId) (all : List Row) (w : World) → IsStage mapped w → list_all (is_over_table mapped.schema.tables) mapped.classes.specs ≡ true → IsClass mapped class
    → AreRowsOf mapped class (bare w.store.tables) all → AreOfTheirRows mapped (bare w.store.tables) w.own.graph → find_identity w.own.graph (root_of mapped class) key ≡ Some object
    → has_row_under mapped (bare w.store.tables) key (root_table mapped class) ≡ true → is_of w.own.graph mapped class object ≡ has_row mapped class all key
map_agrees mapped class key object all w stage over less rows own found present =
    let graph : Graph = w.own.graph in
    let tables : Tables = bare w.store.tables in
    let holder = holder_of mapped class key object w stage found in
    let own_class : ClassId = (object_at graph object).class in
    let there : has_row_under mapped tables (identity_key graph object) (root_table mapped own_class) ≡ true =
    ap (λ (k : List Value). has_row_under mapped tables k (root_table mapped own_class)) holder.named
    ∙ ap (λ (r : ClassId). has_row_under mapped tables key (table_or_none (own_table mapped.schema.tables mapped.classes r.0))) holder.same_root ∙ present in
    let one : AreRowsOfOne mapped tables own_class (identity_key graph object) = own.each object holder.made holder.persistent there in
    subst (λ (k : List Value). is_of graph mapped class object ≡ has_row mapped class all k) holder.named
    (class_is mapped class tables all (record { has = stage.has; is = less; held = stage.held; rows = rows }) over (identity_key graph object) holder.known own_class holder.declared holder.same_root one)
