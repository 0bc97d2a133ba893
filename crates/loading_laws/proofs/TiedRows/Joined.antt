-- The rows of a query's main select that come of one row of its class give each option the rows to which that row is tied.
use Rattle.std.proofs.Common.{◌≡◌, ◌⊎◌, inl, inr, ℕ, ◌+◌, ◌<◌, true, false, List, [], ◌∷◌, ◌++◌, filter, length, map, refl, sym, ap, subst, ◌∙◌, arith, append_assoc}
use Rattle.std.specs.List.{Contains}
use Rattle.std.proofs.lemmas.List.{length-append, length-map, map-append}
use Rattle.std.proofs.lemmas.List.Elements.{recursion_from_All}
use Rattle.std.proofs.lemmas.Option.{slice_get-get_or}
use Rattle.std.specs.Prelude.{slice_index_or}
use Rattle.base_core.specs.declared.ids.ClassId.{ClassId}
use Rattle.base_core.specs.declared.ids.RelNo.{RelNo}
use Rattle.base_core.specs.declared.ids.TableId.{TableId}
use Rattle.schema_core.specs.Tables.{has_null}
use Rattle.expr_types.specs.declared.expr.Origin.{Origin}
use Rattle.expr_types.specs.declared.select.Joined.{Joined}
use Rattle.expr_types.specs.declared.select.Select.{Select}
use Rattle.sql_semantics.specs.Eval.{Row, Tables, rows_in}
use Rattle.sql_semantics.specs.Kinds.{Scope}
use Rattle.sql_semantics.specs.Plain.{sources_of}
use Rattle.sql_semantics.specs.Rows.{nulls, width}
use Rattle.sql_semantics.specs.Shapes.{AreLegalRows, AreRows}
use Rattle.class_mapping.specs.Mapped.{IsClass, Mapped, attributes_of, relations_of, root_table, tables_of}
use Rattle.class_mapping.proofs.Having.{Has, all_from, from_filter, from_map, has_at, has_filter, has_map}
use Rattle.mapping_laws.specs.Hierarchies.{HasHierarchies, HasTables}
use Rattle.mapping_laws.proofs.Ties.{class_tables}
use Rattle.load_columns.specs.declared.placing.SourceColumn.{SourceColumn}
use Rattle.load_columns.specs.Placing.{attribute_column, attribute_columns, from_root}
use Rattle.load_columns.specs.Conditions.{conjoined, equal_columns}
use Rattle.load_selects.specs.declared.sources.Further.{Further}
use Rattle.load_selects.specs.Selects.{inner_joined, origin_of}
use Rattle.load_selects.specs.Sources.{other_tables}
use Rattle.load_filling.specs.Rows.{row_key}
use Rattle.collection_selects.proofs.ClassLemmas.{all_tied, placed_before, sources_are}
use Rattle.collection_selects.proofs.Placed.{StandsAt}
use Rattle.collection_selects.proofs.Plain.{AreTied}
use Rattle.joined_rows.specs.Parts.{own_values, parts_of, values_from, width_of}
use Rattle.joined_rows.proofs.Widening.{table_of}
use Rattle.joined_rows.specs.Taking.{has_target}
use Rattle.loading_laws.specs.Answers.Equal.{equals_key}
use Rattle.loading_laws.proofs.Members.Choices.{Choice, EachPlaced, IsInside, Meet, Tie, are_tied, chosen, equal_inside, joined_where, pairs_inside, wide_row}
use Rattle.loading_laws.proofs.Members.Owned.{others_tied, own_ranked, own_ties, root_there, row_key_is}
use Rattle.loading_laws.proofs.Members.Paired.{have_same}
use Rattle.loading_laws.proofs.Members.Ranks.{key_in}
use Rattle.loading_laws.specs.Wide.Parts.{all_hold, cell, cells, holds_at, is_true}
use Rattle.loading_laws.specs.Wide.Answers.{AreBehind, AreOfSources, AreWideIn, joined_row, joined_rows, own_columns, query_partners}
use Rattle.loading_laws.proofs.Wide.Conditions.{conjoined_tests, equalities_total}
use Rattle.loading_laws.proofs.Wide.Places.{wide_long, wide_more}
use Rattle.known_queries.specs.Known.{BeginsWith}
use Rattle.loading_laws.specs.TiedRows.{GivesTied, OptionsGiveTied, members_in, tied_at}
use Rattle.loading_laws.proofs.TiedRows.Behind.{cell_chosen, cells_chosen, equals_hold, first_alike, inside_alike, next_row, row_at}
use Rattle.loading_laws.proofs.TiedRows.Options.{parts_tied, tied_parts}
use Rattle.loading_laws.proofs.TiedRows.Owners.{IsOwner, StandsFirst, legal_rank}
use Rattle.loading_laws.proofs.TiedRows.Sources.{parts_fit}

pub contained_has : {A : Type 0} (xs : List A) (x : A) → Contains xs x → Has xs x
contained_has xs x there = subst (Has xs) there.2 (has_at xs there.0 (slice_index_or xs there.0 x) (slice_get-get_or xs there.0 x there.1))

-- ---- the joins of a class's own tables

module _ (mapped : Mapped) (class : ClassId) (tables : Tables) (held : AreRows mapped.schema tables) where
  -- a join over equal columns holds where the cells are equal
  join_holds : (tie : Tie) (rows : List Row) → holds_at tables (conjoined (equal_columns tie.ones tie.others)) rows ≡ true → all_hold tables (equal_columns tie.ones tie.others) rows ≡ true
  join_holds tie rows h =
      let test = conjoined_tests tables (equal_columns tie.ones tie.others) (equalities_total tie.ones tie.others) rows in
      sym test.2 ∙ sym (ap is_true test.1) ∙ h

  -- rows that inner joins over equal columns put together meet the ties
  pub joins_meet : (ties : List Tie) (origins : List Origin) (rows others : List Row) (more : List Joined) → AreTied mapped.schema origins (map joined_where ties) → AreWideIn mapped.schema (map table_of origins) rows
      → AreBehind mapped.schema tables rows (map inner_joined (map joined_where ties) ++ more) others → EachPlaced (Meet tables (row_at (rows ++ others))) (length rows) ties
  joins_meet [] origins rows others more tied wide behind = tt
  joins_meet (tie ∷ ties) origins rows [] more tied wide behind = absurd behind
  joins_meet (tie ∷ ties) origins rows (row ∷ others) more tied wide behind =
      let next : List Origin = origins ++ origin_of tie.table ∷ [] in
      let longer : List Row = rows ++ row ∷ [] in
      let all : longer ++ others ≡ rows ++ (row ∷ others) = append_assoc rows (row ∷ []) others in
      let there = found behind.0 in
      let scope : map table_of next ≡ map table_of origins ++ tie.table ∷ [] = map-append table_of origins (origin_of tie.table ∷ []) in
      let wide_next : AreWideIn mapped.schema (map table_of next) longer =
      subst (λ (s : Scope). AreWideIn mapped.schema s longer) (sym scope) (wide_more mapped.schema (map table_of origins) rows tie.table row wide (wide_row mapped.schema tables tie.table row held there.0)) in
      let inside = pairs_inside mapped.schema (map table_of next) tie.ones tie.others (parts_fit mapped class (from_root 0) next (map table_of next) (equal_columns tie.ones tie.others) refl tied.1) in
      let choice : Choice = row_at (rows ++ (row ∷ others)) in
      let long = wide_long mapped.schema (map table_of next) longer wide_next in
      let same : (column : SourceColumn) → IsInside mapped.schema (map table_of next) column → cell longer column ≡ chosen choice column = λ column within.
      cell_chosen longer column
      ∙ inside_alike mapped.schema (map table_of next) (row_at longer) choice (λ k less. sym (first_alike longer others k (omega (arith, less, long))) ∙ ap (λ (found : List Row). row_at found k) all) column within in
      let equal : equals_key (map (cell longer) tie.ones) (map (cell longer) tie.others) ≡ true =
      sym (equals_hold mapped class (from_root 0) (map table_of next) tables longer tie.ones tie.others wide_next inside) ∙ join_holds tie longer there.1 in
      let tied_here : are_tied choice tie ≡ true = sym (equal_inside mapped.schema tables (cell longer) (chosen choice) (map table_of next) tie.ones tie.others same inside) ∙ equal in
      let counted : length longer ≡ length rows + 1 = length-append rows (row ∷ []) in
      let rest = joins_meet ties next longer others more tied.2 wide_next behind.1 in (
        (subst (Has (rows_in tables tie.table.0)) (sym (next_row rows row others)) there.0, tied_here),
        subst (λ (n : ℕ). EachPlaced (Meet tables choice) n ties) counted (subst (λ (found : List Row). EachPlaced (Meet tables (row_at found)) (length longer) ties) all rest),
      )
    where
      found : (Contains (rows_in tables tie.table.0) row × (holds_at tables (conjoined (equal_columns tie.ones tie.others)) (rows ++ row ∷ []) ≡ true)) ⊎ ((false ≡ true) × (row ≡ nulls (width mapped.schema (origin_of tie.table)))) → Has (rows_in tables tie.table.0) row × (holds_at tables (conjoined (equal_columns tie.ones tie.others)) (rows ++ row ∷ []) ≡ true)
      found (inl one) = (contained_has (rows_in tables tie.table.0) row one.0, one.1)
      found (inr left) = absurd (let never = left.0 in cc)

-- ---- owners in selects

module _ (mapped : Mapped) (class : ClassId) (tables : Tables) (s : Select) (has : HasHierarchies mapped) (is : IsClass mapped class) (held : AreRows mapped.schema tables) (legal : AreLegalRows mapped.schema tables) (begins : BeginsWith mapped class s) where
  class_known : HasTables mapped class
  class_known = class_tables mapped class has is

  abbrev origin_in : Joined → Origin
  origin_in join = join.origin

  class_first : sources_of s ≡ map origin_of (tables_of mapped class) ++ map origin_in begins.more
  class_first =
      ap (λ (first : Origin). first ∷ map origin_in s.joins) begins.first
      ∙ ap (λ (joins : List Joined). origin_of (root_table mapped class) ∷ map origin_in joins) begins.joins
      ∙ ap (λ (origins : List Origin). origin_of (root_table mapped class) ∷ origins) (map-append origin_in (map inner_joined (other_tables mapped class (from_root 0))) begins.more)
      ∙ ap (λ (origins : List Origin). origins ++ map origin_in begins.more) (sources_are mapped class has is class_known [] [])

  pub stands_first : StandsFirst mapped class (sources_of s)
  stands_first = record {
    has = has;
    is = is;
    known = class_known;
    stands = subst (StandsAt mapped class (from_root 0)) (sym class_first) (placed_before mapped class has is class_known (map origin_in begins.more));
  }

  -- rows of its sources are an owner's
  pub owner_there : (rows : List Row) → AreOfSources mapped.schema tables s rows → IsOwner mapped class (sources_of s) tables (map (cell rows) (attribute_columns mapped class (from_root 0))) rows
  owner_there [] sourced = absurd sourced.together
  owner_there (row ∷ others) sourced =
      let rows : List Row = row ∷ others in
      let root : TableId = root_table mapped class in
      let head : Has (rows_in tables root.0) row = subst (λ (first : Origin). Has (rows_in tables first.table.0) row) begins.first (contained_has (rows_in tables s.first.table.0) row sourced.together.0) in
      let ties : List Tie = own_ties mapped class in
      let tied : AreTied mapped.schema (origin_of root ∷ []) (map joined_where ties) = subst (AreTied mapped.schema (origin_of root ∷ [])) (others_tied mapped class) (all_tied mapped class has is class_known) in
      let behind : AreBehind mapped.schema tables (row ∷ []) (map inner_joined (map joined_where ties) ++ begins.more) others =
      subst (λ (further : List Further). AreBehind mapped.schema tables (row ∷ []) (map inner_joined further ++ begins.more) others) (others_tied mapped class)
      (subst (λ (joins : List Joined). AreBehind mapped.schema tables (row ∷ []) joins others) begins.joins sourced.together.1) in
      let meets = joins_meet mapped class tables held ties (origin_of root ∷ []) (row ∷ []) others begins.more tied (wide_row mapped.schema tables root row held head, tt) behind in
      let own : Row = map (cell rows) (attribute_columns mapped class (from_root 0)) in
      let key_is : row_key mapped class own ≡ key_in mapped class (row_at rows) 0 =
      ap (row_key mapped class) (cells_chosen rows (attribute_columns mapped class (from_root 0))) ∙ row_key_is mapped class class_known has (row_at rows) in
      record {
        wide = sourced.wide;
        reads = refl;
        ranked = own_ranked mapped class class_known tables (row_at rows) head meets (row_key mapped class own) (sym key_is);
        given = ap has_null key_is ∙ legal_rank mapped tables legal class (row_at rows) 0 root (root_there mapped class class_known) head;
      }

-- ---- the law

pub options_give_tied : OptionsGiveTied
unfolding parts_of
options_give_tied mapped read query tables rows options sourced =
    let class : ClassId = query.class in
    let s : Select = query.select in
    let own : Row = cells (own_columns mapped query) rows in
    let joined : List Row = joined_rows mapped tables query rows in
    let places = recursion_from_All (λ (place : RelNo). place.0 < length (relations_of mapped class)) query.joined options.places in
    let first = stands_first mapped class tables s options.has options.class options.held options.legal options.begins in
    let owner = owner_there mapped class tables s options.has options.class options.held options.legal options.begins rows sourced in
    let long : length own ≡ width_of mapped class = length-map (own_columns mapped query) (cell rows) ∙ length-map (attributes_of mapped class) (attribute_column mapped class (from_root 0)) in
    all_from (GivesTied mapped read class tables own joined) (parts_of mapped class query.joined) (λ part there all answered.
    let shown : Row → Row = λ row. own_values mapped part.target (values_from part row) in
    have_same (members_in mapped part joined) (tied_at mapped read class part tables all own)
    (λ row among.
    let from = from_map shown (filter (has_target mapped part) joined) row among in
    let kept = from_filter (has_target mapped part) joined from.0 from.1 in
    let made = from_map (joined_row mapped query rows) (query_partners mapped tables query rows) from.0 kept.0 in
    let tied =
    parts_tied mapped read class tables own options.related options.held options.legal options.reads query.joined places (sources_of s) rows (width_of mapped class) first owner part there all answered own long made.0 made.1
    (ap (has_target mapped part) made.2 ∙ kept.1) in
    subst (Has (tied_at mapped read class part tables all own)) (ap shown made.2 ∙ from.2) tied)
    (λ row among.
    let found = tied_parts mapped read class tables own options.related options.held options.legal options.reads query.joined places (sources_of s) rows (width_of mapped class) first owner part there all answered own long row among in
    let out : Row = joined_row mapped query rows found.more in
    subst (Has (members_in mapped part joined)) found.is
    (has_map shown (filter (has_target mapped part) joined) out (has_filter (has_target mapped part) joined out (has_map (joined_row mapped query rows) (query_partners mapped tables query rows) found.more found.there) found.has))))
