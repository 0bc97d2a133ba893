-- The selects of a class's rows, from its root's table on, are plain.
use Rattle.std.proofs.Common.{◌≡◌, ℕ, zero, suc, ◌+◌, ◌-◌, ◌<◌, ◌≤◌, Bool, true, false, ◌&&◌, nat_lt, List, [], ◌∷◌, ◌++◌, map, length, get_or, Option, Some, refl, sym, ap, subst, ◌∙◌, if◌then◌else◌, arith, zero-add, append_assoc, length-append}
use Rattle.std.specs.Prelude.{slice_get}
use Rattle.std.specs.List.{All, AllByRecursion, enumerate_from, flat_map, list_all}
use Rattle.std.proofs.lemmas.Bool.{lt-ltb, ltb-true}
use Rattle.std.proofs.lemmas.List.Elements.{recursion_from_All}
use Rattle.std.proofs.lemmas.Option.{slice_get-get_or}
use Rattle.base_core.proofs.Lists.{every_append, get_after, get_before, get_last}
use Rattle.base_core.specs.declared.ids.AttrNo.{AttrNo}
use Rattle.base_core.specs.declared.ids.ClassId.{ClassId}
use Rattle.base_core.specs.declared.ids.TableId.{TableId}
use Rattle.base_core.specs.declared.value.Value.{Value}
use Rattle.schema_core.specs.Catalog.{Catalog, IsTable, key_columns, spec_of}
use Rattle.schema_core.specs.WellFormed.{is_key}
use Rattle.expr_types.specs.declared.expr.Expr.{Expr}
use Rattle.expr_types.specs.declared.expr.Origin.{Origin}
use Rattle.expr_types.specs.declared.select.Joined.{Joined}
use Rattle.expr_types.specs.declared.select.Select.{Select}
use Rattle.sql_semantics.specs.Plain.{IsPlainSelect, are_distinct, is_declared, name_of, sources_of}
use Rattle.class_mapping.specs.Mapped.{IsAttribute, IsClass, Mapped, attribute_of, attributes_of, no_attribute, no_table_id, root_spec, root_table, table_or_none, tables_of}
use Rattle.class_mapping.proofs.Having.{has_at}
use Rattle.load_columns.specs.declared.placing.SourceColumn.{SourceColumn}
use Rattle.load_columns.specs.Placing.{attribute_columns, columns_at, from_root, key_at_rank, key_numbers, place_at_rank, root_key, table_at_rank}
use Rattle.load_columns.specs.Conditions.{equal_columns, has_one_of, has_values}
use Rattle.load_selects.specs.declared.sources.Further.{Further}
use Rattle.load_selects.specs.Branches.{is_of_branch}
use Rattle.load_selects.specs.Sources.{keyed_source, other_tables, rank_tied, ranked_source}
use Rattle.load_selects.specs.Selects.{cell_column, cells_select, class_rows, class_select, inner_joined, key_select, origin_of, targets_select}
use Rattle.mapping_laws.specs.Hierarchies.{HasHierarchies, HasTables, kinds_of, name_in}
use Rattle.mapping_laws.proofs.Tables.{not_zero, tables_declared}
use Rattle.mapping_laws.proofs.Ties.{class_tables, table_faultless}
use Rattle.collection_selects.proofs.Keys.{IsAt, key_fits, key_typed, keys_some}
use Rattle.collection_selects.proofs.Placed.{StandsAt, at_more, attribute_there, attributes_there, branch_parts}
use Rattle.collection_selects.proofs.Plain.{AreTied, IsColumn, IsPart, select_is_plain}
use Rattle.collection_selects.proofs.Typed.{AreTyped, equal_some, equal_stand, fit_kinds, one_of_stands, values_stand}

-- ---- places

not_below : (n : ℕ) → nat_lt n 0 ≡ false
not_below n = by (nat_lt n 0) refl
  where
    by : (b : Bool) → nat_lt n 0 ≡ b → b ≡ false
    by true h = let less : n < 0 = ltb-true n 0 h in absurd (omega (arith, less))
    by false h = refl

-- from the root's on the table of a rank stands at that place
pub rank_is : (n : ℕ) → place_at_rank (from_root 0) n ≡ n
rank_is zero = refl
rank_is (suc n) =
    ap (λ (b : Bool). if b then 0 else if nat_lt (suc n) 0 then 0 + 1 + suc n else 0 + suc n) (not_zero (suc n) n refl)
    ∙ ap (λ (b : Bool). if b then 0 + 1 + suc n else 0 + suc n) (not_below (suc n)) ∙ zero-add (suc n)

-- ---- the tables behind the root's

abbrev pub sources_by : List TableId → List Origin
sources_by tables = map origin_of tables

ranked_one : (mapped : Mapped) (class : ClassId) (n k : ℕ) (table : TableId) → n ≡ suc k → ranked_source mapped class (from_root 0) (n, table) ≡ keyed_source mapped class (from_root 0) (n, table) ∷ []
unfolding ranked_source
ranked_one mapped class n k table e = ap (λ (b : Bool). if b then [] else keyed_source mapped class (from_root 0) (n, table) ∷ []) (not_zero n k e)

-- ---- keys of the same kinds

-- the columns of two keys of the same kinds equal each other, one by one
keys_equal : (mapped : Mapped) (sources : List Origin) (p q : ℕ) (one other : TableId) → IsAt sources p one → IsAt sources q other
    → kinds_of (key_columns (spec_of mapped.schema one)) ≡ kinds_of (key_columns (spec_of mapped.schema other))
    → AllByRecursion (IsPart mapped.schema sources) (equal_columns (columns_at p (key_numbers mapped one)) (columns_at q (key_numbers mapped other)))
keys_equal mapped sources p q one other at far alike =
    equal_stand mapped.schema sources (columns_at p (key_numbers mapped one)) (columns_at q (key_numbers mapped other)) (kinds_of (key_columns (spec_of mapped.schema one)))
    (key_typed mapped sources p one at) (subst (AreTyped mapped.schema sources (columns_at q (key_numbers mapped other))) (sym alike) (key_typed mapped sources q other far))

-- ---- the tables of a class as sources

pub tables_back : (tables : List TableId) → map (λ (origin : Origin). origin.table) (sources_by tables) ≡ tables
tables_back [] = refl
tables_back (table ∷ tables) = ap (λ (more : List TableId). table ∷ more) (tables_back tables)

pub at_sources : (tables : List TableId) (n : ℕ) (table : TableId) → slice_get tables n ≡ Some table → IsAt (sources_by tables) n table
at_sources tables n table e = ap (λ (all : List TableId). slice_get all n) (tables_back tables) ∙ e

sources_more : (before : List TableId) (table : TableId) → sources_by (before ++ table ∷ []) ≡ sources_by before ++ origin_of table ∷ []
sources_more [] table = refl
sources_more (one ∷ before) table = ap (λ (more : List Origin). origin_of one ∷ more) (sources_more before table)

pub names_back : (mapped : Mapped) (tables : List TableId) → map (name_of mapped.schema) (sources_by tables) ≡ map (name_in mapped) tables
names_back mapped [] = refl
names_back mapped (table ∷ tables) = ap (λ (names : List (List ℕ)). name_in mapped table ∷ names) (names_back mapped tables)

pub declared_by : (schema : Catalog) (tables : List TableId) → AllByRecursion (IsTable schema) tables → list_all (is_declared schema) (sources_by tables) ≡ true
declared_by schema [] h = refl
declared_by schema (table ∷ tables) h = ap (λ (b : Bool). b && list_all (is_declared schema) (sources_by tables)) (lt-ltb table.0 (length schema.tables) h.0) ∙ declared_by schema tables h.1

abbrev IsRootKey : Mapped → ClassId → List Value → Type 0
IsRootKey mapped class key = is_key (root_spec mapped class) key ≡ true

module _ (mapped : Mapped) (class : ClassId) (has : HasHierarchies mapped) (less : IsClass mapped class) (known : HasTables mapped class) where
  abbrev own : List TableId
  own = tables_of mapped class

  abbrev sources : List Origin
  sources = sources_by own

  key_is : (n : ℕ) (table : TableId) → slice_get own n ≡ Some table → key_at_rank mapped class (from_root 0) n ≡ columns_at n (key_numbers mapped table)
  key_is n table e =
      ap (λ (k : ℕ). columns_at k (key_numbers mapped (table_at_rank mapped class n))) (rank_is n)
      ∙ ap (λ (found : Option TableId). columns_at n (key_numbers mapped (table_or_none found))) e

  -- a table behind the root's has the key of the one before it
  on_is : (n k : ℕ) (parent table : TableId) → n ≡ suc k → slice_get own k ≡ Some parent → slice_get own n ≡ Some table
      → (keyed_source mapped class (from_root 0) (n, table)).on ≡ equal_columns (columns_at k (key_numbers mapped parent)) (columns_at n (key_numbers mapped table))
  unfolding keyed_source
  on_is n k parent table e before here =
      let one_less : n - 1 ≡ k = omega (arith, e) in
      let tied : rank_tied (from_root 0) n ≡ n = ap (λ (b : Bool). if b then 0 else n) (not_zero n k e) in
      ap (λ (m : ℕ). equal_columns (key_at_rank mapped class (from_root 0) m) (key_at_rank mapped class (from_root 0) (rank_tied (from_root 0) n))) one_less
      ∙ ap (λ (m : ℕ). equal_columns (key_at_rank mapped class (from_root 0) k) (key_at_rank mapped class (from_root 0) m)) tied
      ∙ ap (λ (columns : List SourceColumn). equal_columns columns (key_at_rank mapped class (from_root 0) n)) (key_is k parent before)
      ∙ ap (equal_columns (columns_at k (key_numbers mapped parent))) (key_is n table here)

  keyed_stands : (n k : ℕ) (parent table : TableId) (before : List TableId) → n ≡ suc k → slice_get own k ≡ Some parent → slice_get own n ≡ Some table
      → slice_get before k ≡ Some parent → slice_get before n ≡ Some table
      → (1 ≤ length (keyed_source mapped class (from_root 0) (n, table)).on) × AllByRecursion (IsPart mapped.schema (sources_by before)) (keyed_source mapped class (from_root 0) (n, table)).on
  keyed_stands n k parent table before e above here first second =
      let alike = known.alike k parent table above (ap (slice_get own) (sym e) ∙ here) in
      let keyed = (table_faultless mapped parent has (tables_declared mapped class parent (has_at own k parent above))).keyed in
      let keyed_too = (table_faultless mapped table has (tables_declared mapped class table (has_at own n table here))).keyed in
      let at = at_sources before k parent first in
      let far = at_sources before n table second in
      let same = sym (on_is n k parent table e above here) in (
        subst (λ (es : List Expr). 1 ≤ length es) same
            (equal_some (columns_at k (key_numbers mapped parent)) (columns_at n (key_numbers mapped table)) (keys_some mapped (sources_by before) k parent at keyed) (keys_some mapped (sources_by before) n table far keyed_too)),
        subst (AllByRecursion (IsPart mapped.schema (sources_by before))) same
            (keys_equal mapped (sources_by before) k n parent table at far alike),
      )

  tied_from : (rest before : List TableId) (n k : ℕ) → n ≡ suc k → length before ≡ n → own ≡ before ++ rest
      → AreTied mapped.schema (sources_by before) (flat_map (ranked_source mapped class (from_root 0)) (enumerate_from n rest))
  unfolding keyed_source
  tied_from [] before n k e long is = tt
  tied_from (table ∷ rest) before n k e long is =
      let within : k < length before = omega (arith, e, long) in
      let last : n ≡ length before + 0 = omega (arith, long) in
      let parent : TableId = get_or before k no_table_id in
      let first : slice_get before k ≡ Some parent = slice_get-get_or before k no_table_id within in
      let above : slice_get own k ≡ Some parent = ap (λ (all : List TableId). slice_get all k) is ∙ get_before before (table ∷ rest) k within ∙ first in
      let here : slice_get own n ≡ Some table = ap (λ (all : List TableId). slice_get all n) is ∙ ap (slice_get (before ++ table ∷ rest)) last ∙ get_after before (table ∷ rest) 0 in
      let second : slice_get (before ++ table ∷ []) n ≡ Some table = ap (slice_get (before ++ table ∷ [])) (sym long) ∙ get_last before table in
      let stands = keyed_stands n k parent table (before ++ table ∷ []) e above here (get_before before (table ∷ []) k within ∙ first) second in
      let longer : length (before ++ table ∷ []) ≡ n + 1 = omega (arith, long, length-append before (table ∷ [])) in
      let next : n + 1 ≡ suc n = omega arith in
      let more = tied_from rest (before ++ table ∷ []) (n + 1) n next longer (is ∙ sym (append_assoc before (table ∷ []) rest)) in
      let later : List Further = flat_map (ranked_source mapped class (from_root 0)) (enumerate_from (n + 1) rest) in
      subst (λ (xs : List Further). AreTied mapped.schema (sources_by before) (xs ++ later)) (sym (ranked_one mapped class n k table e)) (
        stands.0,
        subst (λ (under : List Origin). AllByRecursion (IsPart mapped.schema under) (keyed_source mapped class (from_root 0) (n, table)).on) (sources_more before table) stands.1,
        subst (λ (under : List Origin). AreTied mapped.schema under later) (sources_more before table) more,
      )

  origins_from : (rest : List TableId) (n k : ℕ) → n ≡ suc k
      → map (λ (join : Joined). join.origin) (map inner_joined (flat_map (ranked_source mapped class (from_root 0)) (enumerate_from n rest))) ≡ sources_by rest
  unfolding keyed_source
  origins_from [] n k e = refl
  origins_from (table ∷ rest) n k e =
      let next : n + 1 ≡ suc n = omega arith in
      let later : List Further = flat_map (ranked_source mapped class (from_root 0)) (enumerate_from (n + 1) rest) in
      ap (λ (xs : List Further). map (λ (join : Joined). join.origin) (map inner_joined (xs ++ later))) (ranked_one mapped class n k table e)
      ∙ ap (λ (origins : List Origin). origin_of table ∷ origins) (origins_from rest (n + 1) n next)

  others_are : other_tables mapped class (from_root 0) ≡ flat_map (ranked_source mapped class (from_root 0)) (enumerate_from 1 known.rest)
  unfolding ranked_source
  others_are = ap (λ (tables : List TableId). flat_map (ranked_source mapped class (from_root 0)) (enumerate_from 0 tables)) known.first

  abbrev root : TableId
  root = root_table mapped class

  pub all_tied : AreTied mapped.schema (origin_of root ∷ []) (other_tables mapped class (from_root 0))
  all_tied = subst (AreTied mapped.schema (origin_of root ∷ [])) (sym others_are) (tied_from known.rest (root ∷ []) 1 0 refl refl known.first)

  abbrev made : List SourceColumn → List Expr → Select
  made columns conditions = class_select mapped class columns conditions

  pub sources_are : (columns : List SourceColumn) (conditions : List Expr) → sources_of (made columns conditions) ≡ sources
  sources_are columns conditions =
      ap (λ (more : List Further). origin_of root ∷ map (λ (join : Joined). join.origin) (map inner_joined more)) others_are
      ∙ ap (λ (origins : List Origin). origin_of root ∷ origins) (origins_from known.rest 1 0 refl)
      ∙ ap sources_by (sym known.first)

  -- columns of a class's tables where all conditions hold
  class_plain : (columns : List SourceColumn) (conditions : List Expr) → AllByRecursion (IsColumn mapped.schema sources) columns → AllByRecursion (IsPart mapped.schema sources) conditions
      → IsPlainSelect mapped.schema (made columns conditions)
  class_plain columns conditions there stand =
      let same = sym (sources_are columns conditions) in
      select_is_plain mapped.schema root (other_tables mapped class (from_root 0)) columns conditions
      (record {
        declared = subst (λ (under : List Origin). list_all (is_declared mapped.schema) under ≡ true) same (declared_by mapped.schema own (recursion_from_All (IsTable mapped.schema) own known.declared));
        distinct = subst (λ (under : List Origin). are_distinct (map (name_of mapped.schema) under) ≡ true) same (ap are_distinct (names_back mapped own) ∙ known.apart);
        items = subst (λ (under : List Origin). AllByRecursion (IsColumn mapped.schema under) columns) same there;
        tied = all_tied;
        filter = subst (λ (under : List Origin). AllByRecursion (IsPart mapped.schema under) conditions) same stand;
      })

  -- ---- its attributes

  -- the tables stand from the root's on, also with further sources behind
  pub placed_before : (more : List Origin) → StandsAt mapped class (from_root 0) (sources ++ more)
  placed_before more rank table e =
      ap (λ (n : ℕ). slice_get (map (λ (origin : Origin). origin.table) (sources ++ more)) n) (rank_is rank) ∙ at_more sources more rank table (at_sources own rank table e)

  pub root_placed : StandsAt mapped class (from_root 0) sources
  root_placed rank table e = ap (λ (n : ℕ). slice_get (map (λ (origin : Origin). origin.table) sources) n) (rank_is rank) ∙ at_sources own rank table e

  cells_there : (attrs : List AttrNo) → AllByRecursion (IsAttribute mapped class) attrs → AllByRecursion (IsColumn mapped.schema sources) (map (cell_column mapped class) attrs)
  unfolding cell_column
  cells_there [] h = tt
  cells_there (attr ∷ attrs) h = (
    attribute_there mapped class has less known (from_root 0) sources root_placed (attribute_of mapped class attr)
        (has_at (attributes_of mapped class) attr.0 (attribute_of mapped class attr) (slice_get-get_or (attributes_of mapped class) attr.0 no_attribute h.0)),
    cells_there attrs h.1,
  )

  -- ---- its key, and its branch

  root_at : IsAt sources 0 root
  root_at = at_sources own 0 root (ap (λ (tables : List TableId). slice_get tables 0) known.first)

  abbrev root_columns : List SourceColumn
  root_columns = root_key mapped class (from_root 0)

  root_typed : AreTyped mapped.schema sources root_columns (kinds_of (key_columns (root_spec mapped class)))
  root_typed = key_typed mapped sources 0 root root_at

  key_parts : (key : List Value) → is_key (root_spec mapped class) key ≡ true → AllByRecursion (IsPart mapped.schema sources) (has_values root_columns key)
  key_parts key h = values_stand mapped.schema sources root_columns (kinds_of (key_columns (root_spec mapped class))) key root_typed (key_fits mapped root key h)

  all_fit : (keys : List (List Value)) → AllByRecursion (IsRootKey mapped class) keys → AllByRecursion (λ key. fit_kinds (kinds_of (key_columns (root_spec mapped class))) key ≡ true) keys
  all_fit [] h = tt
  all_fit (key ∷ keys) h = (key_fits mapped root key h.0, all_fit keys h.1)

  one_of_parts : (keys : List (List Value)) → 0 < length keys → AllByRecursion (IsRootKey mapped class) keys → AllByRecursion (IsPart mapped.schema sources) (has_one_of root_columns keys)
  one_of_parts keys some h =
      let first = has_at own 0 root (ap (λ (tables : List TableId). slice_get tables 0) known.first) in
      let keyed = (table_faultless mapped root has (tables_declared mapped class root first)).keyed in
      one_of_stands mapped.schema sources root_columns (kinds_of (key_columns (root_spec mapped class))) keys (keys_some mapped sources 0 root root_at keyed) some root_typed (all_fit keys h)

  -- the rows of a class for which conditions hold
  pub rows_plain : (conditions : List Expr) → AllByRecursion (IsPart mapped.schema sources) conditions → IsPlainSelect mapped.schema (class_rows mapped class conditions)
  rows_plain conditions stand =
      class_plain (attribute_columns mapped class (from_root 0)) (conditions ++ is_of_branch mapped class (from_root 0)) (attributes_there mapped class has less known (from_root 0) sources root_placed)
      (every_append (IsPart mapped.schema sources) conditions (is_of_branch mapped class (from_root 0)) stand (branch_parts mapped class has less known (from_root 0) sources root_placed))

pub key_is_plain : (mapped : Mapped) (class : ClassId) (key : List Value) → HasHierarchies mapped → IsClass mapped class → is_key (root_spec mapped class) key ≡ true → IsPlainSelect mapped.schema (key_select mapped class key)
unfolding key_select
key_is_plain mapped class key has less h =
    let known = class_tables mapped class has less in
    rows_plain mapped class has less known (has_values (root_key mapped class (from_root 0)) key) (key_parts mapped class has less known key h)

pub cells_are_plain : (mapped : Mapped) (class : ClassId) (attrs : List AttrNo) (key : List Value) → HasHierarchies mapped → IsClass mapped class → All (IsAttribute mapped class) attrs → is_key (root_spec mapped class) key ≡ true
    → IsPlainSelect mapped.schema (cells_select mapped class attrs key)
unfolding cells_select
cells_are_plain mapped class attrs key has less there h =
    let known = class_tables mapped class has less in
    class_plain mapped class has less known (map (cell_column mapped class) attrs) (has_values (root_key mapped class (from_root 0)) key)
    (cells_there mapped class has less known attrs (recursion_from_All (IsAttribute mapped class) attrs there)) (key_parts mapped class has less known key h)

pub targets_are_plain : (mapped : Mapped) (class : ClassId) (keys : List (List Value)) → HasHierarchies mapped → IsClass mapped class → 0 < length keys → All (λ key. is_key (root_spec mapped class) key ≡ true) keys
    → IsPlainSelect mapped.schema (targets_select mapped class keys)
unfolding targets_select
targets_are_plain mapped class keys has less some h =
    let known = class_tables mapped class has less in
    rows_plain mapped class has less known (has_one_of (root_key mapped class (from_root 0)) keys)
    (one_of_parts mapped class has less known keys some (recursion_from_All (IsRootKey mapped class) keys h))
