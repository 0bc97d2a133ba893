-- The partners of rows behind left joins over equal columns: at each source's place a row that is tied, or NULLs.
use Rattle.std.proofs.Common.{◌≡◌, ◌⊎◌, inr, inl, ℕ, zero, suc, ◌+◌, ◌<◌, ◌==◌, Bool, true, false, ◌&&◌, List, [], ◌∷◌, ◌++◌, filter, length, map, Option, None, Some, if◌then◌else◌, is_some, refl, sym, ap, subst, ◌∙◌, arith, append_assoc, append-nil}
use Rattle.std.specs.Prelude.{slice_get, unwrap_or}
use Rattle.std.specs.Option.{option_and_then}
use Rattle.std.specs.List.{AllByRecursion}
use Rattle.std.proofs.lemmas.Bool.{eqb-false, eqb-true}
use Rattle.std.proofs.lemmas.List.{length-append, length-replicate}
use Rattle.std.proofs.lemmas.Option.{slice_get_within}
use Rattle.base_core.specs.declared.ids.ClassId.{ClassId}
use Rattle.base_core.specs.declared.ids.TableId.{TableId}
use Rattle.base_core.specs.declared.value.Value.{Value}
use Rattle.base_core.specs.declared.value.Value.TheVariants as value
use Rattle.base_core.proofs.Lists.{get_after, get_before}
use Rattle.schema_core.specs.Catalog.{Catalog, spec_of}
use Rattle.expr_types.specs.declared.expr.Expr.{Expr}
use Rattle.sql_semantics.specs.Eval.{Row, Tables, item_or_null, rows_in}
use Rattle.sql_semantics.specs.Kinds.{Scope}
use Rattle.sql_semantics.specs.Rows.{nulls}
use Rattle.sql_semantics.specs.Shapes.{AreRows}
use Rattle.class_mapping.specs.Mapped.{Mapped, class_spec, root_table}
use Rattle.class_mapping.proofs.Having.{Has, from_filter, from_flat, from_map, has_filter, has_flat, has_map}
use Rattle.load_columns.specs.declared.placing.Placement.{Placement}
use Rattle.load_columns.specs.declared.placing.SourceColumn.{SourceColumn}
use Rattle.load_columns.specs.Conditions.{equal_columns}
use Rattle.load_selects.specs.declared.sources.Further.{Further}
use Rattle.load_selects.specs.Branches.{discriminator_column, discriminator_of, identities, is_of_branch, names_branch}
use Rattle.loading_laws.specs.Answers.Equal.{are_equal, equals_key}
use Rattle.loading_laws.proofs.Members.Choices.{Choice, EachPlaced, Fit, IsInside, PairsInside, Tie, chosen, equal_inside, pairs_inside, wide_row}
use Rattle.loading_laws.proofs.Members.Owned.{branch_local}
use Rattle.loading_laws.proofs.Members.Paired.{split_every}
use Rattle.loading_laws.proofs.Members.Ranks.{branch_inside, branch_test, names_test}
use Rattle.loading_laws.specs.Wide.Parts.{all_hold, cell, holds_at}
use Rattle.loading_laws.specs.Wide.Partners.{or_null_row, partners, rows_behind}
use Rattle.loading_laws.specs.Wide.Answers.{AreWideIn, table_width}
use Rattle.loading_laws.proofs.Wide.Conditions.{equal_holds, in_holds}
use Rattle.loading_laws.proofs.Wide.Places.{wide_long, wide_more}

-- ---- rows of several sources as a choice

-- the row at each place, an empty one where there is none
abbrev pub row_at : List Row → Choice
row_at rows place = unwrap_or (slice_get rows place) []

pub cell_chosen : (rows : List Row) (column : SourceColumn) → cell rows column ≡ chosen (row_at rows) column
cell_chosen rows column = by (slice_get rows column.source)
  where
    by : (found : Option Row) → item_or_null (option_and_then (λ (row : Row). slice_get row column.column.0) found) ≡ item_or_null (slice_get (unwrap_or found []) column.column.0)
    by None = refl
    by (Some row) = refl

pub cells_chosen : (rows : List Row) (columns : List SourceColumn) → map (cell rows) columns ≡ map (chosen (row_at rows)) columns
cells_chosen rows [] = refl
cells_chosen rows (column ∷ columns) = ap (λ (v : Value). v ∷ map (cell rows) columns) (cell_chosen rows column) ∙ ap (λ (vs : List Value). chosen (row_at rows) column ∷ vs) (cells_chosen rows columns)

-- choices that are the same at the first places
abbrev pub AreAlike : ℕ → Choice → Choice → Type 0
AreAlike count one other = (k : ℕ) → k < count → one k ≡ other k

pub first_alike : (rows more : List Row) → AreAlike (length rows) (row_at (rows ++ more)) (row_at rows)
first_alike rows more k less = ap (λ (found : Option Row). unwrap_or found []) (get_before rows more k less)

pub next_row : (rows : List Row) (row : Row) (more : List Row) → row_at (rows ++ (row ∷ more)) (length rows) ≡ row
next_row rows row more =
    let here : length rows ≡ length rows + 0 = omega arith in
    ap (λ (k : ℕ). unwrap_or (slice_get (rows ++ (row ∷ more)) k) []) here ∙ ap (λ (found : Option Row). unwrap_or found []) (get_after rows (row ∷ more) 0)

-- a column of the sources is the same in choices that are the same there
pub inside_alike : (schema : Catalog) (scope : Scope) (one other : Choice) → AreAlike (length scope) one other → (column : SourceColumn) → IsInside schema scope column → chosen one column ≡ chosen other column
inside_alike schema scope one other alike column inside = by (slice_get scope column.source) refl inside.1
  where
    by : (found : Option TableId) → slice_get scope column.source ≡ found → option_and_then (λ table. slice_get (spec_of schema table).columns column.column.0) found ≡ Some inside.0 → chosen one column ≡ chosen other column
    by None is e = absurd cc
    by (Some table) is e = ap (λ (row : Row). item_or_null (slice_get row column.column.0)) (alike column.source (slice_get_within scope column.source table is))

-- ---- the sources of an option

module _ (mapped : Mapped) (class : ClassId) (placement : Placement) where
  abbrev schema : Catalog
  schema = mapped.schema

  -- the table of the class's root is joined by the rows of the branch alone
  abbrev pub branch_at : TableId → List Expr
  branch_at table = if table.0 == (root_table mapped class).0 then is_of_branch mapped class placement else []

  abbrev pub left_source : Tie → Further
  left_source tie = record { table = tie.table; on = equal_columns tie.ones tie.others ++ branch_at tie.table }

  abbrev pub test_at : (SourceColumn → Value) → TableId → Bool
  test_at v table = if table.0 == (root_table mapped class).0 then branch_test mapped class placement v else true

  -- the columns are equal, and those of the root's table are of the branch
  abbrev pub is_met : (SourceColumn → Value) → Tie → Bool
  is_met v tie = equals_key (map v tie.ones) (map v tie.others) && test_at v tie.table

  -- the conditions of each source stand under those before it and itself
  abbrev pub AreFit : Scope → List Tie → Type 0
  AreFit scope [] = Unit {0}
  AreFit scope (tie ∷ ties) = AllByRecursion (Fit schema (scope ++ tie.table ∷ [])) (equal_columns tie.ones tie.others ++ branch_at tie.table) × AreFit (scope ++ tie.table ∷ []) ties

  test_local : (scope : Scope) (table : TableId) → AllByRecursion (Fit schema scope) (branch_at table) → (u v : SourceColumn → Value) → ((column : SourceColumn) → IsInside schema scope column → u column ≡ v column) → test_at u table ≡ test_at v table
  test_local scope table fit u v same = by (table.0 == (root_table mapped class).0) fit
    where
      by : (b : Bool) → AllByRecursion (Fit schema scope) (if b then is_of_branch mapped class placement else []) → (if b then branch_test mapped class placement u else true) ≡ (if b then branch_test mapped class placement v else true)
      by true h = branch_local mapped class placement scope h u v same
      by false h = refl

  -- they look at the columns of these sources
  met_local : (tables : Tables) (scope : Scope) (tie : Tie) → AllByRecursion (Fit schema scope) (equal_columns tie.ones tie.others ++ branch_at tie.table) → (u v : SourceColumn → Value)
      → ((column : SourceColumn) → IsInside schema scope column → u column ≡ v column) → is_met u tie ≡ is_met v tie
  met_local tables scope tie fit u v same =
      let parts = split_every (Fit schema scope) (equal_columns tie.ones tie.others) (branch_at tie.table) fit in
      ap (λ (b : Bool). b && test_at u tie.table) (equal_inside schema tables u v scope tie.ones tie.others same (pairs_inside schema scope tie.ones tie.others parts.0))
      ∙ ap (λ (b : Bool). equals_key (map v tie.ones) (map v tie.others) && b) (test_local scope tie.table parts.1 u v same)

  -- ---- whether the conditions are true

  pub equals_hold : (scope : Scope) (tables : Tables) (rows : List Row) (ones others : List SourceColumn) → AreWideIn schema scope rows → PairsInside schema scope ones others
      → all_hold tables (equal_columns ones others) rows ≡ equals_key (map (cell rows) ones) (map (cell rows) others)
  equals_hold scope tables rows [] others wide inside = refl
  equals_hold scope tables rows (one ∷ ones) [] wide inside = refl
  equals_hold scope tables rows (one ∷ ones) (other ∷ others) wide inside =
      ap (λ (b : Bool). b && all_hold tables (equal_columns ones others) rows) (equal_holds schema scope tables rows one other wide (ap is_some inside.0.0.1) (ap is_some inside.0.1.1))
      ∙ ap (λ (b : Bool). are_equal (cell rows one, cell rows other) && b) (equals_hold scope tables rows ones others wide inside.1)

  branch_holds : (scope : Scope) (tables : Tables) (rows : List Row) → AreWideIn schema scope rows → AllByRecursion (Fit schema scope) (is_of_branch mapped class placement)
      → all_hold tables (is_of_branch mapped class placement) rows ≡ branch_test mapped class placement (cell rows)
  branch_holds scope tables rows wide fit = by (is_some (class_spec mapped class).table) refl
    where
      named : (bare : is_some (class_spec mapped class).table ≡ false) (name : Option (List ℕ)) → discriminator_of mapped class ≡ name → all_hold tables (names_branch mapped class placement name) rows ≡ names_test mapped class placement (cell rows) name
      named bare None is = refl
      named bare (Some name) is =
          let place : SourceColumn = discriminator_column mapped class placement name in
          ap (λ (b : Bool). b && true) (in_holds schema scope tables rows place (identities mapped class) wide (ap is_some (branch_inside mapped class placement scope fit bare name is).1))

      by : (b : Bool) → is_some (class_spec mapped class).table ≡ b
          → all_hold tables (if b then [] else names_branch mapped class placement (discriminator_of mapped class)) rows ≡ (if b then true else names_test mapped class placement (cell rows) (discriminator_of mapped class))
      by true e = refl
      by false e = named e (discriminator_of mapped class) refl

  all_hold_both : (tables : Tables) (rows : List Row) (es gs : List Expr) → all_hold tables (es ++ gs) rows ≡ (all_hold tables es rows && all_hold tables gs rows)
  all_hold_both tables rows [] gs = refl
  all_hold_both tables rows (e ∷ es) gs =
      ap (λ (b : Bool). holds_at tables e rows && b) (all_hold_both tables rows es gs) ∙ and_all (holds_at tables e rows) (all_hold tables es rows) (all_hold tables gs rows)
    where
      and_all : (a b c : Bool) → (a && (b && c)) ≡ ((a && b) && c)
      and_all true b c = refl
      and_all false b c = refl

  test_holds : (scope : Scope) (tables : Tables) (rows : List Row) (table : TableId) → AreWideIn schema scope rows → AllByRecursion (Fit schema scope) (branch_at table) → all_hold tables (branch_at table) rows ≡ test_at (cell rows) table
  test_holds scope tables rows table wide fit = by (table.0 == (root_table mapped class).0) fit
    where
      by : (b : Bool) → AllByRecursion (Fit schema scope) (if b then is_of_branch mapped class placement else [])
          → all_hold tables (if b then is_of_branch mapped class placement else []) rows ≡ (if b then branch_test mapped class placement (cell rows) else true)
      by true h = branch_holds scope tables rows wide h
      by false h = refl

  source_holds : (scope : Scope) (tables : Tables) (rows : List Row) (tie : Tie) → AreWideIn schema scope rows → AllByRecursion (Fit schema scope) (equal_columns tie.ones tie.others ++ branch_at tie.table)
      → all_hold tables (left_source tie).on rows ≡ is_met (cell rows) tie
  source_holds scope tables rows tie wide fit =
      let parts = split_every (Fit schema scope) (equal_columns tie.ones tie.others) (branch_at tie.table) fit in
      all_hold_both tables rows (equal_columns tie.ones tie.others) (branch_at tie.table)
      ∙ ap (λ (b : Bool). b && all_hold tables (branch_at tie.table) rows) (equals_hold scope tables rows tie.ones tie.others wide (pairs_inside schema scope tie.ones tie.others parts.0))
      ∙ ap (λ (b : Bool). equals_key (map (cell rows) tie.ones) (map (cell rows) tie.others) && b) (test_holds scope tables rows tie.table wide parts.1)

  -- ---- from partners to choices

  -- the source at a place gives a row that is tied, or NULLs
  abbrev pub Met : Tables → Choice → ℕ → Tie → Type 0
  Met tables choice place tie = Has (rows_in tables tie.table.0) (choice place) × (is_met (chosen choice) tie ≡ true)

  abbrev pub MetOrNull : Tables → Choice → ℕ → Tie → Type 0
  MetOrNull tables choice place tie = Met tables choice place tie ⊎ (choice place ≡ nulls (table_width schema tie.table))

  -- at rows that are one longer a source is met where its conditions are true
  met_there : (tables : Tables) (scope : Scope) (rows : List Row) (tie : Tie) (choice : Choice) → AreWideIn schema scope rows → AllByRecursion (Fit schema scope) (equal_columns tie.ones tie.others ++ branch_at tie.table)
      → AreAlike (length rows) (row_at rows) choice → all_hold tables (left_source tie).on rows ≡ is_met (chosen choice) tie
  met_there tables scope rows tie choice wide fit alike =
      let long = wide_long schema scope rows wide in
      source_holds scope tables rows tie wide fit
      ∙ met_local tables scope tie fit (cell rows) (chosen choice) (λ column inside. cell_chosen rows column ∙ inside_alike schema scope (row_at rows) choice (λ k less. alike k (omega (arith, less, long))) column inside)

  or_null_has : (n : ℕ) (xs : List Row) (row : Row) → Has (or_null_row n xs) row → Has xs row ⊎ (row ≡ nulls n)
  or_null_has n [] row (inl e) = inr (sym e)
  or_null_has n [] row (inr none) = absurd none
  or_null_has n (x ∷ xs) row there = inl there

  has_or_null : (n : ℕ) (xs : List Row) (row : Row) → Has xs row → Has (or_null_row n xs) row
  has_or_null n [] row there = absurd there
  has_or_null n (x ∷ xs) row there = there

  -- each partner is a choice, and the rows with it are wide
  pub partner_placed : (tables : Tables) → AreRows schema tables → (ties : List Tie) (scope : Scope) (rows more : List Row) → AreWideIn schema scope rows → AreFit scope ties → Has (partners schema tables (map left_source ties) rows) more
      → EachPlaced (MetOrNull tables (row_at (rows ++ more))) (length rows) ties × AreWideIn schema (scope ++ map (λ (tie : Tie). tie.table) ties) (rows ++ more)
  partner_placed tables held [] scope rows more wide fit (inl e) =
      (tt, subst (λ (found : List Row). AreWideIn schema (scope ++ []) (rows ++ found)) e (subst (λ (s : Scope). AreWideIn schema s (rows ++ [])) (sym (append-nil scope)) (subst (AreWideIn schema scope) (sym (append-nil rows)) wide)))
  partner_placed tables held [] scope rows more wide fit (inr none) = absurd none
  partner_placed tables held (tie ∷ ties) scope rows more wide fit there =
      let source : Further = left_source tie in
      let from = from_flat (λ (row : Row). map (λ (others : List Row). row ∷ others) (partners schema tables (map left_source ties) (rows ++ row ∷ []))) (rows_behind schema tables source rows) more there in
      let row : Row = from.0 in
      let behind = from_map (λ (others : List Row). row ∷ others) (partners schema tables (map left_source ties) (rows ++ row ∷ [])) more from.2 in
      let others : List Row = behind.0 in
      let next : Scope = scope ++ tie.table ∷ [] in
      let passing : List Row = filter (λ (r : Row). all_hold tables source.on (rows ++ r ∷ [])) (rows_in tables tie.table.0) in
      let found = or_null_has (table_width schema tie.table) passing row from.1 in
      let wide_one : length row ≡ table_width schema tie.table = wide_by tie row passing (λ h. (from_filter (λ (r : Row). all_hold tables source.on (rows ++ r ∷ [])) (rows_in tables tie.table.0) row h).0) found in
      let wide_next : AreWideIn schema next (rows ++ row ∷ []) = wide_more schema scope rows tie.table row wide wide_one in
      let rest = partner_placed tables held ties next (rows ++ row ∷ []) others wide_next fit.1 behind.1 in
      let all : (rows ++ row ∷ []) ++ others ≡ rows ++ more = append_assoc rows (row ∷ []) others ∙ ap (λ (found : List Row). rows ++ found) behind.2 in
      let long : length (rows ++ row ∷ []) ≡ length rows + 1 = length-append rows (row ∷ []) in
      let choice : Choice = row_at (rows ++ more) in
      let here : choice (length rows) ≡ row = ap (λ (found : List Row). row_at (rows ++ found) (length rows)) (sym behind.2) ∙ next_row rows row others in
      let alike : AreAlike (length (rows ++ row ∷ [])) (row_at (rows ++ row ∷ [])) choice =
      λ k less. sym (first_alike (rows ++ row ∷ []) others k less) ∙ ap (λ (found : List Row). row_at found k) all in (
        (
          placed tie row choice (length rows) passing here found
              (λ h.
              let kept = from_filter (λ (r : Row). all_hold tables source.on (rows ++ r ∷ [])) (rows_in tables tie.table.0) row h in
              (kept.0, sym (met_there tables next (rows ++ row ∷ []) tie choice wide_next fit.0 alike) ∙ kept.1)),
          subst (λ (n : ℕ). EachPlaced (MetOrNull tables choice) n ties) long (subst (λ (found : List Row). EachPlaced (MetOrNull tables (row_at found)) (length (rows ++ row ∷ [])) ties) all rest.0),
        ),
        subst (λ (s : Scope). AreWideIn schema s (rows ++ more)) (append_assoc scope (tie.table ∷ []) (map (λ (one : Tie). one.table) ties)) (subst (AreWideIn schema (next ++ map (λ (one : Tie). one.table) ties)) all rest.1),
      )
    where
      wide_by : (tie : Tie) (row : Row) (passing : List Row) → (Has passing row → Has (rows_in tables tie.table.0) row) → Has passing row ⊎ (row ≡ nulls (table_width schema tie.table)) → length row ≡ table_width schema tie.table
      wide_by tie row passing inside (inl h) = wide_row schema tables tie.table row held (inside h)
      wide_by tie row passing inside (inr e) = ap (λ (r : Row). length r) e ∙ length-replicate (table_width schema tie.table) value.Null

      placed : (tie : Tie) (row : Row) (choice : Choice) (place : ℕ) (passing : List Row) → choice place ≡ row → Has passing row ⊎ (row ≡ nulls (table_width schema tie.table)) → (Has passing row → Has (rows_in tables tie.table.0) row × (is_met (chosen choice) tie ≡ true))
          → MetOrNull tables choice place tie
      placed tie row choice place passing here (inl h) met = let one = met h in inl (subst (Has (rows_in tables tie.table.0)) (sym here) one.0, one.1)
      placed tie row choice place passing here (inr e) met = inr (here ∙ e)

  -- ---- from choices to partners

  -- the rows of a choice from a place on
  abbrev pub taken : Choice → ℕ → ℕ → List Row
  taken choice place zero = []
  taken choice place (suc n) = choice place ∷ taken choice (place + 1) n

  -- each choice whose sources are all tied is a partner
  pub placed_partner : (tables : Tables) → AreRows schema tables → (choice : Choice) (ties : List Tie) (scope : Scope) (rows : List Row) → AreWideIn schema scope rows → AreFit scope ties → AreAlike (length rows) (row_at rows) choice
      → EachPlaced (Met tables choice) (length rows) ties
      → Has (partners schema tables (map left_source ties) rows) (taken choice (length rows) (length ties)) × AreAlike (length rows + length ties) (row_at (rows ++ taken choice (length rows) (length ties))) choice
  placed_partner tables held choice [] scope rows wide fit alike met =
      (inl refl, λ k less. ap (λ (found : List Row). row_at found k) (append-nil rows) ∙ alike k (omega (arith, less)))
  placed_partner tables held choice (tie ∷ ties) scope rows wide fit alike met =
      let source : Further = left_source tie in
      let row : Row = choice (length rows) in
      let next : Scope = scope ++ tie.table ∷ [] in
      let more : List Row = rows ++ row ∷ [] in
      let long : length more ≡ length rows + 1 = length-append rows (row ∷ []) in
      let wide_next : AreWideIn schema next more = wide_more schema scope rows tie.table row wide (wide_row schema tables tie.table row held met.0.0) in
      let alike_next : AreAlike (length more) (row_at more) choice = λ k less. one_more rows row choice alike refl k (omega (arith, less, long)) in
      let passes_all : all_hold tables source.on more ≡ true = met_there tables next more tie choice wide_next fit.0 alike_next ∙ met.0.1 in
      let passing : List Row = filter (λ (r : Row). all_hold tables source.on (rows ++ r ∷ [])) (rows_in tables tie.table.0) in
      let here : Has (rows_behind schema tables source rows) row =
      has_or_null (table_width schema tie.table) passing row (has_filter (λ (r : Row). all_hold tables source.on (rows ++ r ∷ [])) (rows_in tables tie.table.0) row met.0.0 passes_all) in
      let rest = placed_partner tables held choice ties next more wide_next fit.1 alike_next (subst (λ (n : ℕ). EachPlaced (Met tables choice) n ties) (sym long) met.1) in
      let same : taken choice (length more) (length ties) ≡ taken choice (length rows + 1) (length ties) = ap (λ (n : ℕ). taken choice n (length ties)) long in
      let others : List Row = taken choice (length rows + 1) (length ties) in
      let in_rest : Has (partners schema tables (map left_source ties) more) others = subst (Has (partners schema tables (map left_source ties) more)) same rest.0 in
      let all : more ++ taken choice (length more) (length ties) ≡ rows ++ (row ∷ others) = ap (λ (found : List Row). more ++ found) same ∙ append_assoc rows (row ∷ []) others in (
        has_flat (λ (r : Row). map (λ (found : List Row). r ∷ found) (partners schema tables (map left_source ties) (rows ++ r ∷ []))) (rows_behind schema tables source rows) row (row ∷ others) here
            (has_map (λ (found : List Row). row ∷ found) (partners schema tables (map left_source ties) more) others in_rest),
        λ k less. ap (λ (found : List Row). row_at found k) (sym all) ∙ rest.1 k (omega (arith, less, long)),
      )
    where
      one_more : (rows : List Row) (row : Row) (choice : Choice) → AreAlike (length rows) (row_at rows) choice → row ≡ choice (length rows) → (k : ℕ) → k < length rows + 1 → row_at (rows ++ row ∷ []) k ≡ choice k
      one_more rows row choice alike is k less = by (k == length rows) refl
        where
          by : (b : Bool) → (k == length rows) ≡ b → row_at (rows ++ row ∷ []) k ≡ choice k
          by true e = let same = eqb-true k (length rows) e in ap (row_at (rows ++ row ∷ [])) same ∙ next_row rows row [] ∙ is ∙ ap choice (sym same)
          by false e =
              let apart = eqb-false k (length rows) e in
              let before : k < length rows = omega (arith, less, apart) in
              first_alike rows (row ∷ []) k before ∙ alike k before
