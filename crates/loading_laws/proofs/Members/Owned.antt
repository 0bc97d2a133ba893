-- The rows of a class by the ranks of its tables: each is that of a choice of a row of each table, all under one key.
use Rattle.std.proofs.Common.{◌≡◌, ◌⊎◌, inl, ℕ, zero, suc, ◌+◌, ◌-◌, ◌<◌, ◌≤◌, ◌==◌, nat_lt, Bool, true, false, List, [], ◌∷◌, get_or, length, map, Option, Some, Ok, if◌then◌else◌, refl, sym, ap, subst, ◌∙◌, arith}
use Rattle.std.specs.Prelude.{slice_get}
use Rattle.std.specs.List.{AllByRecursion, enumerate_from}
use Rattle.std.proofs.lemmas.Bool.{eq-eqb, eqb-false, eqb-true, le-ltb, lt-ltb, ltb-false, ltb-true, ne_eqb}
use Rattle.std.proofs.lemmas.List.{length-map}
use Rattle.std.proofs.lemmas.Option.{same_Some, slice_get-get_or, slice_get_within}
use Rattle.base_core.specs.declared.ids.ClassId.{ClassId}
use Rattle.base_core.specs.declared.ids.ColumnNo.{ColumnNo}
use Rattle.base_core.specs.declared.ids.TableId.{TableId}
use Rattle.base_core.specs.declared.value.Kind.{Kind}
use Rattle.base_core.specs.declared.value.Value.{Value}
use Rattle.schema_core.specs.Catalog.{key_columns, spec_of}
use Rattle.schema_core.specs.Tables.{has_null}
use Rattle.expr_types.specs.declared.expr.Expr.{Expr}
use Rattle.sql_semantics.specs.Eval.{Row, Tables, item_or_null, rows_in}
use Rattle.sql_semantics.specs.Plain.{IsPlainSelect}
use Rattle.sql_semantics.specs.Rows.{answer}
use Rattle.sql_semantics.specs.Shapes.{AreRows}
use Rattle.class_types.specs.declared.mapped.Attribute.{Attribute}
use Rattle.class_layouts.specs.Columns.{table_attributes}
use Rattle.class_layouts.specs.Hierarchy.{line_of}
use Rattle.class_sides.specs.Keys.{TableKey}
use Rattle.class_mapping.specs.Mapped.{IsClass, Mapped, attributes_of, no_table_id, root_spec, root_table, table_or_none, tables_of}
use Rattle.class_mapping.proofs.Having.{Has, from_flat, from_numbered, has_at}
use Rattle.mapping_laws.specs.Hierarchies.{HasHierarchies, HasTables, kinds_of}
use Rattle.mapping_laws.proofs.Attributes.{of_column}
use Rattle.mapping_laws.proofs.Ties.{class_tables}
use Rattle.load_columns.specs.declared.placing.Placement.{Placement}
use Rattle.load_columns.specs.declared.placing.SourceColumn.{SourceColumn}
use Rattle.load_columns.specs.Placing.{attribute_columns, column_at, columns_at, foreign_numbers, from_root, key_at_rank, key_numbers, place_at_rank, rank_of, table_at_rank}
use Rattle.collection_selects.proofs.ClassLemmas.{rank_is, rows_plain}
use Rattle.collection_selects.proofs.MemberLemmas.{RefersTo, foreign_typed, owned_kinds}
use Rattle.collection_selects.proofs.Placed.{rank_finds}
use Rattle.collection_selects.proofs.Typed.{typed_long}
use Rattle.load_selects.specs.declared.sources.Further.{Further}
use Rattle.load_selects.specs.Branches.{discriminator_column, is_of_branch}
use Rattle.load_selects.specs.Selects.{origin_of, select_of}
use Rattle.load_selects.specs.Sources.{other_tables, rank_tied}
use Rattle.load_filling.specs.Rows.{row_key}
use Rattle.loading_laws.specs.Answers.Answers.{AreRowsOf}
use Rattle.loading_laws.specs.Answers.Equal.{equals_key}
use Rattle.loading_laws.proofs.Answers.Totals.{map_twice}
use Rattle.loading_laws.proofs.Members.Choices.{Choice, Fit, HasInside, IsChoice, IsInside, IsLocal, Meet, Meets, Tie, choice_row, chosen, chosen_row, inside_of, joined_where}
use Rattle.loading_laws.proofs.Members.Ranks.{AreRanked, OthersMeet, branch_alike, branch_inside, branch_test, branch_tests, equal_both, from_places, high_place, key_chosen, key_in, key_long, lead_place, low_place, ranks_meet, sources_tied, ties_behind, to_places}
use Rattle.loading_laws.proofs.Members.RootKeys.{key_read}

-- what a choice has in columns of the source at a place
pub numbers_chosen : (rows : Choice) (place : ℕ) (row : Row) (numbers : List ColumnNo) → rows place ≡ row → map (chosen rows) (columns_at place numbers) ≡ map (λ (number : ColumnNo). item_or_null (slice_get row number.0)) numbers
numbers_chosen rows place row numbers same =
    map_twice (chosen rows) (column_at place) numbers ∙ ap (λ (found : Row). map (λ (number : ColumnNo). item_or_null (slice_get found number.0)) numbers) same

-- a foreign key is as wide as the key of the class to which it refers
pub foreign_long : (mapped : Mapped) (key : TableKey) (class : ClassId) → HasHierarchies mapped → HasTables mapped class → RefersTo mapped key class
    → length (foreign_numbers mapped key) ≡ length (kinds_of (key_columns (root_spec mapped class)))
foreign_long mapped key class has known to =
    let kinds : List Kind = kinds_of (key_columns (spec_of mapped.schema to.table)) in
    sym (length-map (foreign_numbers mapped key) (column_at 0))
    ∙ typed_long mapped.schema (origin_of key.0 ∷ []) (columns_at 0 (foreign_numbers mapped key)) kinds (foreign_typed mapped (origin_of key.0 ∷ []) 0 key class has to refl)
    ∙ ap (λ (found : List Kind). length found) (sym (owned_kinds mapped key class known to))

-- ---- the choice of the tables of a class behind other rows, one of them before all others

module _ (before ranks : Choice) (lead first : ℕ) where
  abbrev pub turned : Choice
  turned = λ place.
      if nat_lt place first then before place else if place == first then ranks lead else if nat_lt place (first + 1 + lead) then ranks (place - (first + 1)) else ranks (place - first)

  turned_by : (place : ℕ) (b c d : Bool) → nat_lt place first ≡ b → (place == first) ≡ c → nat_lt place (first + 1 + lead) ≡ d
      → turned place ≡ (if b then before place else if c then ranks lead else if d then ranks (place - (first + 1)) else ranks (place - first))
  turned_by place b c d p q r =
      ap (λ (x : Bool). if x then before place else if place == first then ranks lead else if nat_lt place (first + 1 + lead) then ranks (place - (first + 1)) else ranks (place - first)) p
      ∙ ap (λ (x : Bool). if b then before place else if x then ranks lead else if nat_lt place (first + 1 + lead) then ranks (place - (first + 1)) else ranks (place - first)) q
      ∙ ap (λ (x : Bool). if b then before place else if c then ranks lead else if x then ranks (place - (first + 1)) else ranks (place - first)) r

  pub turned_before : (place : ℕ) → place < first → turned place ≡ before place
  turned_before place less =
      ap (λ (x : Bool). if x then before place else if place == first then ranks lead else if nat_lt place (first + 1 + lead) then ranks (place - (first + 1)) else ranks (place - first)) (lt-ltb place first less)

  pub turned_lead : turned first ≡ ranks lead
  turned_lead = turned_by first false true (nat_lt first (first + 1 + lead)) (le-ltb first first (omega arith)) (eq-eqb first first refl) refl

  abbrev behind : Placement
  behind = record { leading = lead; first = first }

  turned_low : (mapped : Mapped) (class : ClassId) (rank : ℕ) → rank < lead → turned (place_at_rank behind rank) ≡ ranks rank
  turned_low mapped class rank less =
      let place : ℕ = first + 1 + rank in
      let back : place - (first + 1) ≡ rank = omega arith in
      ap turned (low_place mapped class behind rank less)
      ∙ turned_by place false false true (le-ltb place first (omega arith)) (ne_eqb place first (λ e. omega (arith, e))) (lt-ltb place (first + 1 + lead) (omega (arith, less)))
      ∙ ap ranks back

  turned_high : (mapped : Mapped) (class : ClassId) (rank : ℕ) → lead < rank → turned (place_at_rank behind rank) ≡ ranks rank
  turned_high mapped class rank more =
      let place : ℕ = first + rank in
      let back : place - first ≡ rank = omega arith in
      ap turned (high_place mapped class behind rank more)
      ∙ turned_by place false false false (le-ltb place first (omega arith)) (ne_eqb place first (λ e. omega (arith, e, more))) (le-ltb place (first + 1 + lead) (omega (arith, more)))
      ∙ ap ranks back

  pub turned_at : (mapped : Mapped) (class : ClassId) (rank : ℕ) → turned (place_at_rank behind rank) ≡ ranks rank
  turned_at mapped class rank = by (rank == lead) (nat_lt rank lead) refl refl
    where
      by : (b c : Bool) → (rank == lead) ≡ b → nat_lt rank lead ≡ c → turned (place_at_rank behind rank) ≡ ranks rank
      by true c p q = let same = eqb-true rank lead p in ap turned (lead_place mapped class behind rank same) ∙ turned_lead ∙ ap ranks (sym same)
      by false true p q = turned_low mapped class rank (ltb-true rank lead q)
      by false false p q = let apart = eqb-false rank lead p in let most = ltb-false rank lead q in turned_high mapped class rank (omega (arith, apart, most))

-- ---- choices of a row of each table of a class

module _ (mapped : Mapped) (class : ClassId) where
  abbrev own : List TableId
  own = tables_of mapped class

  abbrev plain : Placement
  plain = from_root 0

  -- the ties of the class's tables behind the root's, and the condition of its branch
  abbrev pub own_ties : List Tie
  own_ties = ties_behind mapped class plain 0 own

  abbrev pub own_test : (SourceColumn → Value) → Bool
  own_test v = branch_test mapped class plain v

  pub others_tied : other_tables mapped class plain ≡ map joined_where own_ties
  others_tied = sources_tied mapped class plain 0 own

  pub own_before : ((1 ≡ 0 + 1 + 0) × (0 ≤ 0)) ⊎ ((1 ≡ 0 + 0) × (0 < 0))
  own_before = inl (omega arith, omega arith)

  -- a row of each table of the class, tied and of its branch
  abbrev pub IsOwn : Tables → Choice → Type 0
  IsOwn tables rows = IsChoice tables (root_table mapped class) own_ties own_test rows

  -- the table of an attribute has a rank
  pub attribute_ranked : (table : TableId) (attribute : Attribute) → Has (attributes_of mapped class) attribute → attribute.table ≡ table → slice_get own (rank_of mapped class table) ≡ Some table
  attribute_ranked table attribute there same =
      let line : List ClassId = line_of mapped.classes class.0 in
      let found = from_flat (table_attributes mapped.schema.tables mapped.classes line) (enumerate_from 0 own) attribute there in
      let numbered = from_numbered 0 own found.0 found.1 in
      let of : found.0.1 ≡ attribute.table = ap (λ (one : Attribute). one.table) (of_column mapped line found.0 attribute found.2).is in
      rank_finds own table (subst (Has own) (of ∙ same) (has_at own numbered.0 found.0.1 numbered.2))

  -- the condition of the class's branch looks at columns of the sources
  pub branch_local : (placement : Placement) (scope : List TableId) → AllByRecursion (Fit mapped.schema scope) (is_of_branch mapped class placement) → (u v : SourceColumn → Value)
      → ((column : SourceColumn) → IsInside mapped.schema scope column → u column ≡ v column) → branch_test mapped class placement u ≡ branch_test mapped class placement v
  branch_local placement scope fit u v same =
      branch_alike mapped class placement placement u v (λ bare n named. same (discriminator_column mapped class placement n) (branch_inside mapped class placement scope fit bare n named))

  -- the key of the table of a rank, wherever this stands
  pub lead_key : (lead : ℕ) (table : TableId) → slice_get own lead ≡ Some table → (rows ranks : Choice) (place : ℕ) → rows place ≡ ranks lead → map (chosen rows) (columns_at place (key_numbers mapped table)) ≡ key_in mapped class ranks lead
  lead_key lead table leads rows ranks place same =
      map_twice (chosen rows) (column_at place) (key_numbers mapped table)
      ∙ ap (λ (row : Row). map (λ (number : ColumnNo). item_or_null (slice_get row number.0)) (key_numbers mapped table)) same
      ∙ ap (λ (found : Option TableId). map (λ (number : ColumnNo). item_or_null (slice_get (ranks lead) number.0)) (key_numbers mapped (table_or_none found))) (sym leads)

  module _ (known : HasTables mapped class) where
    pub root_there : slice_get own 0 ≡ Some (root_table mapped class)
    root_there = ap (λ (found : List TableId). slice_get found 0) known.first

    -- the keys of all ranks are as wide as the root's
    pub rank_long : (ranks : Choice) (rank : ℕ) (table : TableId) → slice_get own rank ≡ Some table → length (key_in mapped class ranks rank) ≡ length (kinds_of (key_columns (root_spec mapped class)))
    rank_long ranks rank table here =
        length-map (key_numbers mapped (table_at_rank mapped class rank)) (λ (number : ColumnNo). item_or_null (slice_get (ranks rank) number.0)) ∙ key_long mapped class known rank table here

    -- the key of a row of the class
    pub row_key_is : HasHierarchies mapped → (rows : Choice) → row_key mapped class (map (chosen rows) (attribute_columns mapped class plain)) ≡ key_in mapped class rows 0
    row_key_is has rows =
        key_read mapped class has known (chosen rows)
        ∙ ap (λ (found : Option TableId). map (chosen rows) (columns_at (place_at_rank plain 0) (key_numbers mapped (table_or_none found)))) (sym root_there)
        ∙ key_chosen mapped class plain rows rows 0 (ap rows (rank_is 0))

    -- ---- tables that are tied behind one that leads

    module _ (placement : Placement) (lead : TableId) (leads : slice_get own placement.leading ≡ Some lead) (tables : Tables) (choice : Choice) (lead_row : Has (rows_in tables lead.0) (choice placement.first))
        (others : OthersMeet mapped class placement tables choice 0 own) where
      abbrev by_rank : Choice
      by_rank = λ rank. choice (place_at_rank placement rank)

      abbrev key : List Value
      key = key_in mapped class by_rank placement.leading

      other_row : (rank : ℕ) (table : TableId) → slice_get own rank ≡ Some table → (b : Bool) → (rank == placement.leading) ≡ b → Has (rows_in tables table.0) (by_rank rank)
      other_row rank table here true e =
          let same = eqb-true rank placement.leading e in
          let one : lead ≡ table = same_Some lead table (sym leads ∙ ap (slice_get own) (sym same) ∙ here) in
          subst (λ (p : ℕ). Has (rows_in tables table.0) (choice p)) (sym (lead_place mapped class placement rank same)) (subst (λ (t : TableId). Has (rows_in tables t.0) (choice placement.first)) one lead_row)
      other_row rank table here false e =
          let first : 0 + rank ≡ rank = omega arith in
          let apart = eqb-false rank placement.leading e in
          subst (λ (r : ℕ). Has (rows_in tables table.0) (by_rank r)) first (others rank table here (λ same. apart (omega (arith, same)))).0

      -- two ranks whose keys are tied
      ranks_tied : (p q : ℕ) (one other : TableId) → slice_get own p ≡ Some one → slice_get own q ≡ Some other
          → equals_key (map (chosen choice) (key_at_rank mapped class placement p)) (map (chosen choice) (key_at_rank mapped class placement q)) ≡ true → key_in mapped class by_rank p ≡ key_in mapped class by_rank q
      ranks_tied p q one other here there tied =
          let first = key_chosen mapped class placement choice by_rank p refl in
          let second_key = key_chosen mapped class placement choice by_rank q refl in
          (equal_both (key_in mapped class by_rank p) (key_in mapped class by_rank q) (rank_long by_rank p one here ∙ sym (rank_long by_rank q other there))
          (sym (ap (λ (k : List Value). equals_key k (map (chosen choice) (key_at_rank mapped class placement q))) first ∙ ap (equals_key (key_in mapped class by_rank p)) second_key) ∙ tied)).same

      behind_by : (rank : ℕ) (table : TableId) → slice_get own rank ≡ Some table → (b : Bool) → (rank == placement.leading) ≡ b → ((parent : TableId) → slice_get own (rank - 1) ≡ Some parent → key_in mapped class by_rank (rank - 1) ≡ key)
          → key_in mapped class by_rank rank ≡ key
      behind_by rank table here true e more = ap (key_in mapped class by_rank) (eqb-true rank placement.leading e)
      behind_by zero table here false e more = let before : 0 ≡ 0 - 1 = omega arith in ap (key_in mapped class by_rank) before ∙ more table (ap (slice_get own) (sym before) ∙ here)
      behind_by (suc k) table here false e more =
          let less = slice_get_within own (suc k) table here in
          let parent : TableId = get_or own k no_table_id in
          let above : slice_get own k ≡ Some parent = slice_get-get_or own k no_table_id (omega (arith, less)) in
          let before : suc k - 1 ≡ k = omega arith in
          let first : 0 + suc k ≡ suc k = omega arith in
          let apart = eqb-false (suc k) placement.leading e in
          let one = others (suc k) table here (λ same. apart (omega (arith, same))) in
          let lower : 0 + suc k - 1 ≡ k = omega arith in
          let itself : rank_tied placement (0 + suc k) ≡ suc k = ap (rank_tied placement) first ∙ ap (λ (b : Bool). if b then placement.leading else suc k) (ne_eqb (suc k) 0 (λ same. omega (arith, same))) in
          let tied : equals_key (map (chosen choice) (key_at_rank mapped class placement k)) (map (chosen choice) (key_at_rank mapped class placement (suc k))) ≡ true =
          sym
          (ap (λ (r : ℕ). equals_key (map (chosen choice) (key_at_rank mapped class placement r)) (map (chosen choice) (key_at_rank mapped class placement (rank_tied placement (0 + suc k))))) lower
          ∙ ap (λ (r : ℕ). equals_key (map (chosen choice) (key_at_rank mapped class placement k)) (map (chosen choice) (key_at_rank mapped class placement r))) itself) ∙ one.1 in
          sym (ranks_tied k (suc k) parent table above here tied) ∙ ap (key_in mapped class by_rank) (sym before) ∙ more parent (ap (slice_get own) before ∙ above)

      behind_key : (rank : ℕ) (table : TableId) → slice_get own rank ≡ Some table → key_in mapped class by_rank rank ≡ key
      behind_key zero table here = behind_zero table here (0 == placement.leading) refl
        where
          behind_zero : (found : TableId) → slice_get own 0 ≡ Some found → (b : Bool) → (0 == placement.leading) ≡ b → key_in mapped class by_rank 0 ≡ key
          behind_zero found there true e = ap (key_in mapped class by_rank) (eqb-true 0 placement.leading e)
          behind_zero found there false e =
              let one = others 0 found there (λ same. eqb-false 0 placement.leading e (omega (arith, same))) in
              ranks_tied 0 placement.leading found lead there leads one.1
      behind_key (suc k) table here =
          behind_by (suc k) table here (suc k == placement.leading) refl (λ parent above.
          let before : suc k - 1 ≡ k = omega arith in
          ap (key_in mapped class by_rank) before ∙ behind_key k parent (ap (slice_get own) (sym before) ∙ above))

      -- their rows are under one key, that of the table that leads
      pub behind_ranked : AreRanked mapped class tables by_rank key
      behind_ranked = record { rows = λ rank table here. other_row rank table here (rank == placement.leading) refl; keys = behind_key }

    -- such a choice is one by ranks, under the root's key
    pub own_ranked : (tables : Tables) (rows : Choice) → Has (rows_in tables (root_table mapped class).0) (rows 0) → Meets tables rows 1 own_ties → (k : List Value) → key_in mapped class rows 0 ≡ k → AreRanked mapped class tables rows k
    own_ranked tables rows head meets k same =
        let others = from_places mapped class plain (Meet tables rows) own 0 1 own_before meets in
        let ranked = behind_ranked plain (root_table mapped class) root_there tables rows head others in
        let key_of : Row → ℕ → List Value = λ row rank. map (λ (number : ColumnNo). item_or_null (slice_get row number.0)) (key_numbers mapped (table_at_rank mapped class rank)) in
        record {
          rows = λ rank table here. subst (λ (p : ℕ). Has (rows_in tables table.0) (rows p)) (rank_is rank) (ranked.rows rank table here);
          keys = λ rank table here. ap (λ (p : ℕ). key_of (rows p) rank) (sym (rank_is rank)) ∙ ranked.keys rank table here ∙ ap (λ (p : ℕ). key_of (rows p) 0) (rank_is 0) ∙ same;
        }

    -- a choice by ranks is one of the class's rows
    pub ranked_own : (tables : Tables) (ranks : Choice) (k : List Value) → AreRanked mapped class tables ranks k → has_null k ≡ false → own_test (chosen ranks) ≡ true → IsOwn tables ranks
    ranked_own tables ranks k ranked given passes = record {
      head = ranked.rows 0 (root_table mapped class) root_there;
      meets =
          to_places mapped class plain (Meet tables ranks) own 0 1 own_before
          (ranks_meet mapped class plain tables ranks ranks k (root_table mapped class) root_there given ranked (λ rank table here. ap ranks (rank_is rank)));
      passes = passes;
    }

-- ---- all rows of a class

-- these are all rows of a class of a configured mapping, over tables that hold rows of theirs
pub record AreHeld (mapped : Mapped) (class : ClassId) (tables : Tables) (all : List Row) : Type 0 where
  pub has : HasHierarchies mapped
  pub is : IsClass mapped class
  pub held : AreRows mapped.schema tables
  pub rows : AreRowsOf mapped class tables all

module _ (mapped : Mapped) (class : ClassId) (tables : Tables) (all : List Row) (stage : AreHeld mapped class tables all) where
  abbrev root : TableId
  root = root_table mapped class

  abbrev items : List SourceColumn
  items = attribute_columns mapped class (from_root 0)

  abbrev own_branch : List Expr
  own_branch = is_of_branch mapped class (from_root 0)

  pub class_known : HasTables mapped class
  class_known = class_tables mapped class stage.has stage.is

  own_inside : HasInside mapped.schema root (own_ties mapped class) items own_branch
  own_inside =
      inside_of mapped.schema root (own_ties mapped class) items own_branch
      (subst (λ (further : List Further). IsPlainSelect mapped.schema (select_of root further items own_branch)) (others_tied mapped class) (rows_plain mapped class stage.has stage.is class_known [] tt))

  abbrev own_scope : List TableId
  own_scope = root ∷ map (λ (tie : Tie). tie.table) (own_ties mapped class)

  own_local : IsLocal mapped.schema own_scope own_branch (own_test mapped class)
  own_local = record { tests = branch_tests mapped class (from_root 0); local = branch_local mapped class (from_root 0) own_scope own_inside.conditions_in }

  own_answered : answer mapped.schema tables (select_of root (map joined_where (own_ties mapped class)) items own_branch) ≡ Ok all
  own_answered = subst (λ (further : List Further). answer mapped.schema tables (select_of root further items own_branch) ≡ Ok all) (others_tied mapped class) stage.rows

  -- such a choice is that of a row of the class
  pub own_row : (rows : Choice) → IsOwn mapped class tables rows → Has all (map (chosen rows) items)
  own_row rows one = choice_row mapped.schema tables root (own_ties mapped class) items own_branch (own_test mapped class) stage.held own_inside.ties_in own_inside.items_in own_local all own_answered rows one

  -- and each row of the class is that of one
  pub row_own : (row : Row) → Has all row → (rows : Choice) × IsOwn mapped class tables rows × (row ≡ map (chosen rows) items)
  row_own row there = chosen_row mapped.schema tables root (own_ties mapped class) items own_branch (own_test mapped class) stage.held own_inside.ties_in own_inside.items_in own_local all own_answered row there
