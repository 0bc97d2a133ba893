-- Behind rows of sources each source of a many-to-one option gives one row: that under the key that it is asked for, or NULLs.
use Rattle.std.proofs.Common.{◌≡◌, inl, inr, ℕ, zero, suc, ◌+◌, ◌-◌, ◌<◌, ◌≤◌, ◌==◌, nat_lt, Bool, true, false, ◌&&◌, cond, List, [], ◌∷◌, ◌++◌, filter, get_or, length, map, Option, None, Some, if◌then◌else◌, is_some, refl, sym, ap, subst, ◌∙◌, arith, append_assoc, append-nil}
use Rattle.std.specs.Prelude.{slice_get}
use Rattle.std.specs.List.{AllByRecursion, enumerate_from, flat_map}
use Rattle.std.specs.List.Sorted.{IsStrictlySortedBy}
use Rattle.std.specs.Ordering.{is_eq}
use Rattle.std.specs.declared.cmp.Ordering.TheVariants.{Less}
use Rattle.std.proofs.lemmas.Bool.{and_parts, eqb-false, eqb-true, ltb-false, ltb-true, ne_eqb}
use Rattle.std.proofs.lemmas.List.{length-append, length-map}
use Rattle.std.proofs.lemmas.List.Elements.{recursion_from_All}
use Rattle.std.proofs.lemmas.Option.{slice_get-get_or, slice_get_within}
use Rattle.base_core.specs.declared.ids.ClassId.{ClassId}
use Rattle.base_core.specs.declared.ids.ColumnNo.{ColumnNo}
use Rattle.base_core.specs.declared.ids.RelNo.{RelNo}
use Rattle.base_core.specs.declared.ids.TableId.{TableId}
use Rattle.base_core.specs.declared.value.Value.{Value}
use Rattle.base_core.specs.Order.{values_cmp}
use Rattle.base_core.proofs.Lists.{get_after}
use Rattle.schema_core.specs.declared.table.ColumnSpec.{ColumnSpec}
use Rattle.schema_core.specs.Catalog.{key_columns, spec_of}
use Rattle.schema_core.specs.Tables.{has_null, key_cells, key_of}
use Rattle.expr_types.specs.declared.expr.Origin.{Origin}
use Rattle.sql_semantics.specs.Eval.{Row, Tables, item_or_null, rows_in}
use Rattle.sql_semantics.specs.Kinds.{Scope}
use Rattle.sql_semantics.specs.Plain.{sources_of}
use Rattle.sql_semantics.specs.Shapes.{AreLegalRows, AreRows}
use Rattle.class_types.specs.declared.mapped.Relation.{Relation}
use Rattle.class_sides.specs.Keys.{TableKey}
use Rattle.class_sides.specs.Pairs.{differ}
use Rattle.class_mapping.specs.Mapped.{Mapped, no_table_id, relations_of, root_spec, table_or_none, tables_of}
use Rattle.class_mapping.specs.Paired.{IsBack}
use Rattle.class_mapping.specs.Related.{AreRelated, IsRelated, has_keys}
use Rattle.class_mapping.proofs.Having.{Has, has_filter, has_flat}
use Rattle.object_arena.specs.Fit.{no_relation, relation_of}
use Rattle.object_arena.proofs.GraphLemmas.{same_equiv}
use Rattle.mapping_laws.specs.Hierarchies.{HasTables, kinds_of}
use Rattle.load_columns.specs.declared.placing.Placement.{Placement}
use Rattle.load_columns.specs.declared.placing.SourceColumn.{SourceColumn}
use Rattle.load_columns.specs.Placing.{column_at, columns_at, foreign_numbers, from_root, key_at_rank, key_numbers, number_at, place_at_rank, place_of_table, rank_of, referred_table}
use Rattle.load_selects.specs.declared.sources.Further.{Further}
use Rattle.load_selects.specs.Sources.{first_behind, leading_by, leading_table, rank_tied, target_placement}
use Rattle.collection_selects.proofs.MemberLemmas.{RefersTo}
use Rattle.collection_selects.proofs.Placed.{at_more, rank_finds}
use Rattle.main_selects.specs.MainSelect.{option_sources}
use Rattle.joined_rows.proofs.Widening.{table_of}
use Rattle.loading_laws.proofs.MainSelects.Referring.{HasKey, declared_above, key_of as relation_key, tables_under}
use Rattle.loading_laws.proofs.MainSelects.Tied.{option_tied}
use Rattle.loading_laws.specs.Answers.Equal.{equals_key}
use Rattle.loading_laws.proofs.Members.Choices.{Choice, EachPlaced, Tie, chosen, placed_join, wide_row}
use Rattle.loading_laws.proofs.Members.Owned.{foreign_long, numbers_chosen}
use Rattle.loading_laws.proofs.Members.Ranks.{equal_both, high_place, key_long, lead_place, low_place, tie_at, to_places}
use Rattle.loading_laws.specs.Wide.Parts.{all_hold}
use Rattle.loading_laws.specs.Wide.Partners.{or_null_row, partners, rows_behind}
use Rattle.loading_laws.specs.Wide.Answers.{AreWideIn, options_sources}
use Rattle.loading_laws.proofs.Wide.Lefts.{partners_append}
use Rattle.loading_laws.proofs.Wide.Places.{wide_long}
use Rattle.loading_laws.proofs.TiedRows.Behind.{AreAlike, AreFit, MetOrNull, first_alike, is_met, left_source, next_row, partner_placed, row_at, test_at}
use Rattle.loading_laws.proofs.TiedRows.Joined.{stands_first}
use Rattle.loading_laws.proofs.TiedRows.Options.{added, first_long, wide_more}
use Rattle.loading_laws.proofs.TiedRows.Owners.{StandsFirst, legal_key}
use Rattle.loading_laws.proofs.TiedRows.Ranked.{IsOption, keys_some, known, leads, not_both, null_values}
use Rattle.loading_laws.proofs.TiedRows.Sources.{first_ties, lead_behind, lead_tie, option_fits, option_ties, other_ties, others_before, referred_tie, referring_tie, second_ties, sources_are}
use Rattle.loading_laws.specs.ToOne.{AreInKeyOrder, ToOneOptionsPutOne}

-- ---- rows under one key

-- the key's cells of a row, by the columns' numbers
pub key_numbered : (columns : List ColumnSpec) (row before : Row) (n : ℕ) → length before ≡ n → length row ≡ length columns
    → map (λ (placed : ℕ × ColumnSpec). item_or_null (slice_get (before ++ row) placed.0)) (filter (λ (placed : ℕ × ColumnSpec). placed.1.key) (enumerate_from n columns)) ≡ key_cells columns row
key_numbered [] [] before n at long = refl
key_numbered [] (v ∷ row) before n at long = absurd cc
key_numbered (column ∷ columns) [] before n at long = absurd cc
key_numbered (column ∷ columns) (v ∷ row) before n at long = by column.key (key_numbered columns row (before ++ v ∷ []) (n + 1) (length-append before (v ∷ []) ∙ ap (λ (k : ℕ). k + 1) at) (omega (arith, long)))
  where
    cell_at : Row → ℕ × ColumnSpec → Value
    cell_at all placed = item_or_null (slice_get all placed.0)

    later : List (ℕ × ColumnSpec)
    later = filter (λ (placed : ℕ × ColumnSpec). placed.1.key) (enumerate_from (n + 1) columns)

    by : (b : Bool) → map (λ (placed : ℕ × ColumnSpec). item_or_null (slice_get ((before ++ v ∷ []) ++ row) placed.0)) later ≡ key_cells columns row
        → map (λ (placed : ℕ × ColumnSpec). item_or_null (slice_get (before ++ (v ∷ row)) placed.0)) (if b then (n, column) ∷ later else later) ≡ cond b (v ∷ key_cells columns row) (key_cells columns row)
    by true rest =
        let here : n ≡ length before + 0 = omega (arith, at) in
        ap (λ (k : ℕ). item_or_null (slice_get (before ++ (v ∷ row)) k) ∷ map (λ (placed : ℕ × ColumnSpec). item_or_null (slice_get (before ++ (v ∷ row)) placed.0)) later) here
        ∙ ap (λ (found : Option Value). item_or_null found ∷ map (λ (placed : ℕ × ColumnSpec). item_or_null (slice_get (before ++ (v ∷ row)) placed.0)) later) (get_after before (v ∷ row) 0)
        ∙ ap (λ (values : List Value). v ∷ values) (ap (λ (all : Row). map (λ (placed : ℕ × ColumnSpec). item_or_null (slice_get all placed.0)) later) (sym (append_assoc before (v ∷ []) row)) ∙ rest)
    by false rest = ap (λ (all : Row). map (λ (placed : ℕ × ColumnSpec). item_or_null (slice_get all placed.0)) later) (sym (append_assoc before (v ∷ []) row)) ∙ rest

map_again : {A B C : Type 0} (f : B → C) (g : A → B) (xs : List A) → map f (map g xs) ≡ map (λ x. f (g x)) xs
map_again f g [] = refl
map_again {C = C} f g (x ∷ xs) = ap (λ (ys : List C). f (g x) ∷ ys) (map_again f g xs)

-- of rows whose keys are apart one passes at most, where all that pass have one key
at_most_one : (p : Row → Bool) (key : Row → List Value) (xs : List Row) → IsStrictlySortedBy values_cmp (map key xs) → ((x y : Row) → Has xs x → Has xs y → p x ≡ true → p y ≡ true → key x ≡ key y) → length (filter p xs) ≤ 1
unfolding IsStrictlySortedBy
at_most_one p key [] sorted same = omega arith
at_most_one p key (x ∷ xs) sorted same = by (p x) refl (at_most_one p key xs sorted.1 (λ y z one other. same y z (inr one) (inr other)))
  where
    never_less : (k : List Value) → values_cmp k k ≡ Less → ⊥
    never_less k less = not_both (is_eq (values_cmp k k)) (same_equiv.refl k) (ap is_eq less)

    none : (ys : List Row) → ((y : Row) → Has ys y → Has xs y) → p x ≡ true → AllByRecursion (λ k. values_cmp (key x) k ≡ Less) (map key ys) → length (filter p ys) ≡ 0
    none [] within passes above = refl
    none (y ∷ ys) within passes above = one_by (p y) refl (none ys (λ z there. within z (inr there)) passes above.1)
      where
        one_by : (b : Bool) → p y ≡ b → length (filter p ys) ≡ 0 → length (if p y then y ∷ filter p ys else filter p ys) ≡ 0
        one_by true e rest =
            absurd (never_less (key x) (ap (values_cmp (key x)) (same x y (inl refl) (inr (within y (inl refl))) passes e) ∙ above.0))
        one_by false e rest = ap (λ (b : Bool). length (if b then y ∷ filter p ys else filter p ys)) e ∙ rest

    by : (b : Bool) → p x ≡ b → length (filter p xs) ≤ 1 → length (if p x then x ∷ filter p xs else filter p xs) ≤ 1
    by true e rest =
        let empty = none xs (λ y there. there) e sorted.0 in
        let one = ap (λ (b : Bool). length (if b then x ∷ filter p xs else filter p xs)) e in
        omega (arith, one, empty)
    by false e rest = let one = ap (λ (b : Bool). length (if b then x ∷ filter p xs else filter p xs)) e in omega (arith, one, rest)

one_or_nulls : (n : ℕ) (xs : List Row) → length xs ≤ 1 → length (or_null_row n xs) ≡ 1
one_or_nulls n [] few = refl
one_or_nulls n (x ∷ []) few = refl
one_or_nulls n (x ∷ y ∷ xs) few = absurd (omega (arith, few))

flat_one : {A B : Type 0} (f : A → List B) (xs : List A) → length xs ≡ 1 → ((x : A) → Has xs x → length (f x) ≡ 1) → length (flat_map f xs) ≡ 1
flat_one f [] long each = absurd cc
flat_one {B = B} f (x ∷ []) long each = ap (λ (ys : List B). length ys) (append-nil (f x)) ∙ each x (inl refl)
flat_one f (x ∷ y ∷ xs) long each = absurd (omega (arith, long))

-- ---- one option

module _ (mapped : Mapped) (class : ClassId) (relation : Relation) (first : List Origin) (tables : Tables) (option : IsOption mapped class relation first) (held : AreRows mapped.schema tables) (legal : AreLegalRows mapped.schema tables) (ordered : AreInKeyOrder mapped.schema tables) where
  abbrev target : ClassId
  target = relation.target

  abbrev placement : Placement
  placement = target_placement mapped relation (length first)

  abbrev key_at : TableId → Row → List Value
  key_at table row = map (λ (number : ColumnNo). item_or_null (slice_get row number.0)) (key_numbers mapped table)

  -- the row that a source gives behind rows is under one key
  abbrev IsKeyed : ℕ → Tie → Type 0
  IsKeyed place tie =
      (one other : Choice) → AreAlike place one other → is_met mapped target placement (chosen one) tie ≡ true → is_met mapped target placement (chosen other) tie ≡ true → key_at tie.table (one place) ≡ key_at tie.table (other place)

  -- a row's key by its cells
  key_is : (table : TableId) (row : Row) → Has (rows_in tables table.0) row → key_at table row ≡ key_of (spec_of mapped.schema table) row
  key_is table row there =
      map_again (λ (number : ColumnNo). item_or_null (slice_get row number.0)) number_at (filter (λ (placed : ℕ × ColumnSpec). placed.1.key) (enumerate_from 0 (spec_of mapped.schema table).columns))
      ∙ key_numbered (spec_of mapped.schema table).columns row [] 0 refl (wide_row mapped.schema tables table row held there)

  -- a source whose row is under one key gives one row
  module _ (tie : Tie) (scope : Scope) (rows : List Row) (wide : AreWideIn mapped.schema scope rows) (fit : AreFit mapped target placement scope (tie ∷ [])) (keyed : IsKeyed (length rows) tie) (some : 0 < length (key_numbers mapped tie.table)) where
    abbrev source : Further
    source = left_source mapped target placement tie

    abbrev passes : Row → Bool
    passes row = all_hold tables source.on (rows ++ row ∷ [])

    alone : (row : Row) → Has (rows_behind mapped.schema tables source rows) row → Has (partners mapped.schema tables (source ∷ []) rows) (row ∷ [])
    alone row there =
        has_flat (λ (found : Row). map (λ (others : List Row). found ∷ others) (partners mapped.schema tables [] (rows ++ found ∷ []))) (rows_behind mapped.schema tables source rows) row (row ∷ []) there (inl refl)

    next_wide : (row : Row) → Has (rows_behind mapped.schema tables source rows) row → AreWideIn mapped.schema (scope ++ tie.table ∷ []) (rows ++ row ∷ [])
    next_wide row there = (partner_placed mapped target placement tables held (tie ∷ []) scope rows (row ∷ []) wide fit (alone row there)).1

    -- a row that passes is met
    passing_met : (row : Row) → Has (rows_in tables tie.table.0) row → Has (rows_behind mapped.schema tables source rows) row → is_met mapped target placement (chosen (row_at (rows ++ row ∷ []))) tie ≡ true
    passing_met row there behind = by (partner_placed mapped target placement tables held (tie ∷ []) scope rows (row ∷ []) wide fit (alone row behind)).0.0
      where
        by : MetOrNull mapped target placement tables (row_at (rows ++ row ∷ [])) (length rows) tie → is_met mapped target placement (chosen (row_at (rows ++ row ∷ []))) tie ≡ true
        by (inl met) = met.1
        by (inr none) = not_both (has_null (key_at tie.table row)) (null_values row _ (key_numbers mapped tie.table) (sym (next_row rows row []) ∙ none) some) (legal_key mapped tables legal tie.table row there)

    pub one_behind : length (rows_behind mapped.schema tables source rows) ≡ 1
    one_behind = one_or_nulls _ (filter passes (rows_in tables tie.table.0)) (at_most_one passes (key_of (spec_of mapped.schema tie.table)) (rows_in tables tie.table.0) (ordered tie.table) same)
      where
        behind : (row : Row) → Has (rows_in tables tie.table.0) row → passes row ≡ true → Has (rows_behind mapped.schema tables source rows) row
        behind row there h = or_null (filter passes (rows_in tables tie.table.0)) (has_filter passes (rows_in tables tie.table.0) row there h)
          where
            or_null : (xs : List Row) → Has xs row → Has (or_null_row (length (spec_of mapped.schema tie.table).columns) xs) row
            or_null [] none = absurd none
            or_null (x ∷ xs) here = here

        same : (x y : Row) → Has (rows_in tables tie.table.0) x → Has (rows_in tables tie.table.0) y → passes x ≡ true → passes y ≡ true → key_of (spec_of mapped.schema tie.table) x ≡ key_of (spec_of mapped.schema tie.table) y
        same x y one other first_passes second_passes =
            let alike : AreAlike (length rows) (row_at (rows ++ x ∷ [])) (row_at (rows ++ y ∷ [])) = λ k less. first_alike rows (x ∷ []) k less ∙ sym (first_alike rows (y ∷ []) k less) in
            let keys = keyed (row_at (rows ++ x ∷ [])) (row_at (rows ++ y ∷ [])) alike (passing_met x one (behind x one first_passes)) (passing_met y other (behind y other second_passes)) in
            sym (key_is tie.table x one) ∙ ap (key_at tie.table) (sym (next_row rows x [])) ∙ keys ∙ ap (key_at tie.table) (next_row rows y []) ∙ key_is tie.table y other

  -- ---- ties by keys

  -- each source's row is under one key, and keys have columns
  abbrev Keyed : ℕ → Tie → Type 0
  Keyed place tie = (0 < length (key_numbers mapped tie.table)) × IsKeyed place tie

  numbers_long : (choice : Choice) (place : ℕ) (numbers : List ColumnNo) → length (map (chosen choice) (columns_at place numbers)) ≡ length numbers
  numbers_long choice place numbers = length-map (columns_at place numbers) (chosen choice) ∙ length-map numbers (column_at place)

  abbrev values_of : Row → List ColumnNo → List Value
  values_of row numbers = map (λ (number : ColumnNo). item_or_null (slice_get row number.0)) numbers

  -- where its key equals columns of a source before it
  equal_keyed : (tie : Tie) (place before : ℕ) (numbers : List ColumnNo) → before < place → length (key_numbers mapped tie.table) ≡ length numbers
      → ((choice : Choice) → is_met mapped target placement (chosen choice) tie ≡ true → values_of (choice place) (key_numbers mapped tie.table) ≡ values_of (choice before) numbers) → IsKeyed place tie
  equal_keyed tie place before numbers less long equal one other alike first_met second_met =
      equal one first_met ∙ ap (λ (row : Row). values_of row numbers) (alike before less) ∙ sym (equal other second_met)

  tie_holds : (tie : Tie) (choice : Choice) → is_met mapped target placement (chosen choice) tie ≡ true → equals_key (map (chosen choice) tie.ones) (map (chosen choice) tie.others) ≡ true
  tie_holds tie choice met = (and_parts (equals_key (map (chosen choice) tie.ones) (map (chosen choice) tie.others)) (test_at mapped target placement (chosen choice) tie.table) met).0

  keyed_ones : (tie : Tie) (place before : ℕ) (numbers : List ColumnNo) → tie.ones ≡ columns_at place (key_numbers mapped tie.table) → tie.others ≡ columns_at before numbers → before < place
      → length (key_numbers mapped tie.table) ≡ length numbers → IsKeyed place tie
  keyed_ones tie place before numbers ones others less long =
      equal_keyed tie place before numbers less long (λ choice met.
      let own : List SourceColumn = columns_at place (key_numbers mapped tie.table) in
      let far : List SourceColumn = columns_at before numbers in
      let tied : equals_key (map (chosen choice) own) (map (chosen choice) far) ≡ true =
      ap (λ (columns : List SourceColumn). equals_key (map (chosen choice) columns) (map (chosen choice) far)) (sym ones)
      ∙ ap (λ (columns : List SourceColumn). equals_key (map (chosen choice) tie.ones) (map (chosen choice) columns)) (sym others) ∙ tie_holds tie choice met in
      let same = equal_both (map (chosen choice) own) (map (chosen choice) far) (numbers_long choice place (key_numbers mapped tie.table) ∙ long ∙ sym (numbers_long choice before numbers)) tied in
      sym (numbers_chosen choice place (choice place) (key_numbers mapped tie.table) refl) ∙ same.same ∙ numbers_chosen choice before (choice before) numbers refl)

  keyed_others : (tie : Tie) (place before : ℕ) (numbers : List ColumnNo) → tie.ones ≡ columns_at before numbers → tie.others ≡ columns_at place (key_numbers mapped tie.table) → before < place
      → length (key_numbers mapped tie.table) ≡ length numbers → IsKeyed place tie
  keyed_others tie place before numbers ones others less long =
      equal_keyed tie place before numbers less long (λ choice met.
      let own : List SourceColumn = columns_at place (key_numbers mapped tie.table) in
      let far : List SourceColumn = columns_at before numbers in
      let tied : equals_key (map (chosen choice) far) (map (chosen choice) own) ≡ true =
      ap (λ (columns : List SourceColumn). equals_key (map (chosen choice) columns) (map (chosen choice) own)) (sym ones)
      ∙ ap (λ (columns : List SourceColumn). equals_key (map (chosen choice) tie.ones) (map (chosen choice) columns)) (sym others) ∙ tie_holds tie choice met in
      let same = equal_both (map (chosen choice) far) (map (chosen choice) own) (numbers_long choice before numbers ∙ sym long ∙ sym (numbers_long choice place (key_numbers mapped tie.table))) tied in
      sym (numbers_chosen choice place (choice place) (key_numbers mapped tie.table) refl) ∙ sym same.same ∙ numbers_chosen choice before (choice before) numbers refl)

  -- ---- the target's tables

  abbrev own : List TableId
  own = tables_of mapped target

  target_known : HasTables mapped target
  target_known = known mapped class relation first tables option

  table_long : (rank : ℕ) (table : TableId) → slice_get own rank ≡ Some table → length (key_numbers mapped table) ≡ length (kinds_of (key_columns (root_spec mapped target)))
  table_long rank table here = ap (λ (found : Option TableId). length (key_numbers mapped (table_or_none found))) (sym here) ∙ key_long mapped target target_known rank table here

  some_numbers : (rank : ℕ) (table : TableId) → slice_get own rank ≡ Some table → 0 < length (key_numbers mapped table)
  some_numbers rank table here = let long = table_long rank table here in let some = keys_some mapped class relation first tables option in omega (arith, long, some)

  lead_there : slice_get own placement.leading ≡ Some (leading_table mapped relation)
  lead_there = leads mapped class relation first tables option

  -- a table stands behind the one nearer to the root, unless it leads
  rank_later : (k : ℕ) → (suc k ≡ placement.leading → ⊥) → place_at_rank placement k < place_at_rank placement (suc k)
  rank_later k apart = by (k == placement.leading) (nat_lt k placement.leading) refl refl
    where
      by : (b c : Bool) → (k == placement.leading) ≡ b → nat_lt k placement.leading ≡ c → place_at_rank placement k < place_at_rank placement (suc k)
      by true c p q =
          let same = eqb-true k placement.leading p in
          let one = lead_place mapped target placement k same in
          let next = high_place mapped target placement (suc k) (omega (arith, same)) in
          omega (arith, one, next)
      by false true p q =
          let less = ltb-true k placement.leading q in
          let low : suc k < placement.leading = below less in
          let one = low_place mapped target placement k less in
          let next = low_place mapped target placement (suc k) low in
          omega (arith, one, next)
        where
          next_by : (b : Bool) → (suc k == placement.leading) ≡ b → k < placement.leading → suc k < placement.leading
          next_by true e less = absurd (apart (eqb-true (suc k) placement.leading e))
          next_by false e less = let other = eqb-false (suc k) placement.leading e in omega (arith, less, other)

          below : k < placement.leading → suc k < placement.leading
          below less = next_by (suc k == placement.leading) refl less
      by false false p q =
          let other = eqb-false k placement.leading p in
          let most = ltb-false k placement.leading q in
          let one = high_place mapped target placement k (omega (arith, other, most)) in
          let next = high_place mapped target placement (suc k) (omega (arith, most)) in
          omega (arith, one, next)

  rank_keyed : (k : ℕ) (table : TableId) → slice_get own k ≡ Some table → ((k ≡ placement.leading) → ⊥) → Keyed (place_at_rank placement k) (tie_at mapped target placement (k, table))
  rank_keyed zero table here apart =
      let later : 0 < placement.leading = zero_below (0 == placement.leading) refl in
      let lead = lead_place mapped target placement placement.leading refl in
      let root = low_place mapped target placement 0 later in
      let leading : TableId = leading_table mapped relation in (
        some_numbers 0 table here,
        keyed_ones (tie_at mapped target placement (0, table)) (place_at_rank placement 0) (place_at_rank placement placement.leading) (key_numbers mapped leading)
            (ap (λ (found : Option TableId). columns_at (place_at_rank placement 0) (key_numbers mapped (table_or_none found))) here)
            (ap (λ (found : Option TableId). columns_at (place_at_rank placement placement.leading) (key_numbers mapped (table_or_none found))) lead_there) (omega (arith, lead, root))
            (table_long 0 table here ∙ sym (table_long placement.leading leading lead_there)),
      )
    where
      zero_below : (b : Bool) → (0 == placement.leading) ≡ b → 0 < placement.leading
      zero_below true e = absurd (apart (eqb-true 0 placement.leading e))
      zero_below false e = let other = eqb-false 0 placement.leading e in omega (arith, other)
  rank_keyed (suc k) table here apart =
      let less = slice_get_within own (suc k) table here in
      let parent : TableId = get_or own k no_table_id in
      let above : slice_get own k ≡ Some parent = slice_get-get_or own k no_table_id (omega (arith, less)) in
      let before : suc k - 1 ≡ k = omega arith in
      let itself : rank_tied placement (suc k) ≡ suc k = ap (λ (b : Bool). if b then placement.leading else suc k) (ne_eqb (suc k) 0 (λ same. omega (arith, same))) in (
        some_numbers (suc k) table here,
        keyed_others (tie_at mapped target placement (suc k, table)) (place_at_rank placement (suc k)) (place_at_rank placement k) (key_numbers mapped parent)
            (ap (key_at_rank mapped target placement) before ∙ ap (λ (found : Option TableId). columns_at (place_at_rank placement k) (key_numbers mapped (table_or_none found))) above)
            (ap (key_at_rank mapped target placement) itself ∙ ap (λ (found : Option TableId). columns_at (place_at_rank placement (suc k)) (key_numbers mapped (table_or_none found))) here) (rank_later k apart)
            (table_long (suc k) table here ∙ sym (table_long k parent above)),
      )

  -- ---- a many-to-one option

  module _ (near : relation.far ≡ None) (to_one : relation.many ≡ false) where
    abbrev class_place : ℕ
    class_place = place_of_table mapped class (from_root 0) relation.foreign.0

    abbrev referred : Tie
    referred = referred_tie mapped class relation (length first) relation.foreign class_place (length first)

    lead_is : lead_tie mapped class relation (length first) relation.far ≡ referred
    lead_is = ap (lead_tie mapped class relation (length first)) near ∙ ap (λ (b : Bool). if b then referring_tie mapped class relation (length first) relation.foreign (length first) else referred) to_one

    leading_is : leading_table mapped relation ≡ referred_table mapped relation.foreign
    leading_is = ap (leading_by mapped relation) near ∙ ap (λ (b : Bool). if b then relation.foreign.0 else referred_table mapped relation.foreign) to_one

    foreign_key : HasKey mapped relation
    foreign_key = relation_key mapped relation (ap (has_keys mapped relation) (sym near) ∙ option.related.keys)

    lead_keyed : Keyed (length first) referred
    lead_keyed =
        let to : RefersTo mapped relation.foreign target = subst (RefersTo mapped relation.foreign) (ap (λ (b : Bool). if b then relation.class else target) to_one) foreign_key.refers in
        let inside : Has (tables_of mapped relation.class) relation.foreign.0 = subst (λ (one : ClassId). Has (tables_of mapped one) relation.foreign.0) (ap (λ (b : Bool). if b then target else relation.class) to_one) foreign_key.inside in
        let here : slice_get (tables_of mapped class) (rank_of mapped class relation.foreign.0) ≡ Some relation.foreign.0 =
        rank_finds (tables_of mapped class) relation.foreign.0 (tables_under mapped class relation.class relation.foreign.0 option.has option.above inside) in
        let within = slice_get_within (map table_of first) class_place relation.foreign.0 (option.stands (rank_of mapped class relation.foreign.0) relation.foreign.0 here) in
        let counted = length-map first table_of in
        let at_lead : slice_get own placement.leading ≡ Some (referred_table mapped relation.foreign) = lead_there ∙ ap (λ (table : TableId). Some table) leading_is in (
          some_numbers placement.leading (referred_table mapped relation.foreign) at_lead,
          keyed_ones referred (length first) class_place (foreign_numbers mapped relation.foreign) refl refl (omega (arith, within, counted))
              (table_long placement.leading (referred_table mapped relation.foreign) at_lead ∙ sym (foreign_long mapped relation.foreign target option.has target_known to)),
        )

    option_keyed : EachPlaced Keyed (length first) (option_ties mapped class relation (length first))
    option_keyed =
        let firsts : List Tie = first_ties mapped class relation (length first) in
        let seconds : List Tie = second_ties mapped class relation (length first) relation.far in
        let at : length first + length seconds ≡ length first = lead_behind mapped class relation (length first) relation.far ∙ ap (first_behind (length first)) near in
        let lead : Keyed (length first + length seconds) (lead_tie mapped class relation (length first) relation.far) = subst (λ (tie : Tie). Keyed (length first + length seconds) tie) (sym lead_is) (subst (λ (n : ℕ). Keyed n referred) (sym at) lead_keyed) in
        placed_join Keyed (length first) firsts (other_ties mapped class relation (length first))
        (placed_join Keyed (length first) seconds (lead_tie mapped class relation (length first) relation.far ∷ []) (subst (λ (end : Option TableKey). EachPlaced Keyed (length first) (second_ties mapped class relation (length first) end)) (sym near) tt) (lead, tt))
        (to_places mapped target placement Keyed own 0 (length first + length firsts) (others_before mapped class relation (length first)) (λ k table here apart.
        let same : 0 + k ≡ k = omega arith in
        subst (λ (r : ℕ). Keyed (place_at_rank placement r) (tie_at mapped target placement (r, table))) (sym same) (rank_keyed k table here (λ leading. apart (same ∙ leading)))))

    partners_one : (ties : List Tie) (scope : Scope) (rows : List Row) → AreWideIn mapped.schema scope rows → AreFit mapped target placement scope ties → EachPlaced Keyed (length rows) ties → length (partners mapped.schema tables (map (left_source mapped target placement) ties) rows) ≡ 1
    partners_one [] scope rows wide fit keyed = refl
    partners_one (tie ∷ ties) scope rows wide fit keyed =
        flat_one (λ (row : Row). map (λ (others : List Row). row ∷ others) (partners mapped.schema tables (map (left_source mapped target placement) ties) (rows ++ row ∷ []))) (rows_behind mapped.schema tables (left_source mapped target placement tie) rows)
        (one_behind tie scope rows wide (fit.0, tt) keyed.0.1 keyed.0.0)
        (λ row there.
        length-map (partners mapped.schema tables (map (left_source mapped target placement) ties) (rows ++ row ∷ [])) (λ (others : List Row). row ∷ others)
        ∙ partners_one ties (scope ++ tie.table ∷ []) (rows ++ row ∷ []) (next_wide tie scope rows wide (fit.0, tt) keyed.0.1 keyed.0.0 row there) fit.1 (subst (λ (n : ℕ). EachPlaced Keyed n ties) (sym (length-append rows (row ∷ []))) keyed.1))

    pub option_one : (rows : List Row) → AreWideIn mapped.schema (map table_of first) rows → length (partners mapped.schema tables (option_sources mapped class relation (length first)) rows) ≡ 1
    option_one rows wide =
        let long : length rows ≡ length first = wide_long mapped.schema (map table_of first) rows wide ∙ length-map first table_of in
        ap (λ (found : List Further). length (partners mapped.schema tables found rows)) (sources_are mapped class relation (length first))
        ∙ partners_one (option_ties mapped class relation (length first)) (map table_of first) rows wide
        (option_fits mapped class relation (length first) first (option_tied mapped class relation first option.has option.related option.above option.stands)) (subst (λ (n : ℕ). EachPlaced Keyed n (option_ties mapped class relation (length first))) (sym long) option_keyed)

-- ---- several options

module _ (mapped : Mapped) (class : ClassId) (tables : Tables) (related : AreRelated mapped) (held : AreRows mapped.schema tables) (legal : AreLegalRows mapped.schema tables) (ordered : AreInKeyOrder mapped.schema tables) where
  option_there : (place : RelNo) → place.0 < length (relations_of mapped class) → (first : List Origin) → StandsFirst mapped class first → IsOption mapped class (relation_of mapped class place) first
  option_there place inside first at_first =
      let one : IsRelated mapped (relation_of mapped class place) = related.each class at_first.is place.0 no_relation inside in
      record {
        has = at_first.has;
        related = one;
        above = declared_above mapped class (relation_of mapped class place) one (at_first.has.paired.back class place.0 (relation_of mapped class place) (slice_get-get_or (relations_of mapped class) place.0 no_relation inside));
        stands = at_first.stands;
      }

  -- a many-to-one relationship has no secondary table
  none_between : (place : RelNo) → place.0 < length (relations_of mapped class) → (first : List Origin) → StandsFirst mapped class first → (relation_of mapped class place).many ≡ false → (relation_of mapped class place).far ≡ None
  none_between place inside first at_first to_one = by (relation_of mapped class place).far refl
    where
      relation : Relation
      relation = relation_of mapped class place

      by : (end : Option TableKey) → relation.far ≡ end → relation.far ≡ None
      by None e = e
      by (Some far) e =
          let partner = (related.each class at_first.is place.0 no_relation inside).partner in
          let back = subst (IsBack mapped class relation) partner.1.there (at_first.has.paired.back class place.0 relation (slice_get-get_or (relations_of mapped class) place.0 no_relation inside)) in
          not_both relation.many (and_parts relation.many partner.0.many (sym (ap (λ (found : Option TableKey). if is_some found then relation.many && partner.0.many else differ relation.many partner.0.many) e) ∙ back.0)).0 to_one

  options_one : (places : List RelNo) → AllByRecursion (λ (place : RelNo). place.0 < length (relations_of mapped class)) places → AllByRecursion (λ (place : RelNo). (relation_of mapped class place).many ≡ false) places → (first : List Origin) (rows : List Row)
      → StandsFirst mapped class first → AreWideIn mapped.schema (map table_of first) rows → length (partners mapped.schema tables (options_sources mapped class (length first) places) rows) ≡ 1
  options_one [] inside ends first rows at_first wide = refl
  options_one (place ∷ places) inside ends first rows at_first wide =
      let relation : Relation = relation_of mapped class place in
      let sources : List Further = option_sources mapped class relation (length first) in
      let option = option_there place inside.0 first at_first in
      let next : List Origin = first ++ added mapped class relation first tables option held rows wide in
      let counted : length next ≡ length first + length sources = first_long mapped class relation first tables option held rows wide in
      let at_next : StandsFirst mapped class next = record {
        has = at_first.has;
        is = at_first.is;
        known = at_first.known;
        stands = λ rank table here. at_more first (added mapped class relation first tables option held rows wide) (place_at_rank (from_root 0) rank) table (at_first.stands rank table here);
      } in
      ap (λ (all : List (List Row)). length all) (partners_append mapped.schema tables sources (options_sources mapped class (length first + length sources) places) rows)
      ∙ flat_one (λ (now : List Row). map (λ (rest : List Row). now ++ rest) (partners mapped.schema tables (options_sources mapped class (length first + length sources) places) (rows ++ now))) (partners mapped.schema tables sources rows)
      (option_one mapped class relation first tables option held legal ordered (none_between place inside.0 first at_first ends.0) ends.0 rows wide)
      (λ now there.
      length-map (partners mapped.schema tables (options_sources mapped class (length first + length sources) places) (rows ++ now)) (λ (rest : List Row). now ++ rest)
      ∙ ap (λ (count : ℕ). length (partners mapped.schema tables (options_sources mapped class count places) (rows ++ now))) (sym counted)
      ∙ options_one places inside.1 ends.1 next (rows ++ now) at_next (wide_more mapped class relation first tables option held rows wide now there))

pub options_put_one : ToOneOptionsPutOne
options_put_one mapped tables query options rows sourced =
    options_one mapped query.class tables options.related options.held options.legal options.ordered query.joined
    (recursion_from_All (λ (place : RelNo). place.0 < length (relations_of mapped query.class)) query.joined options.places)
    (recursion_from_All (λ (place : RelNo). (relation_of mapped query.class place).many ≡ false) query.joined options.ends) (sources_of query.select) rows
    (stands_first mapped query.class tables query.select options.has options.class options.held options.legal options.begins) sourced.wide
