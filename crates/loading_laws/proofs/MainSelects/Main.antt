-- The main select of a plain query is plain.
use Rattle.std.proofs.Common.{◌≡◌, ℕ, zero, suc, ◌+◌, ◌-◌, ◌<◌, ◌≤◌, ◌^◌, Bool, true, false, ◌==◌, List, [], ◌∷◌, ◌++◌, length, map, fold, get_or, Option, None, Some, is_some, refl, sym, ap, subst, ◌∙◌, if◌then◌else◌, arith, append_assoc, length-append}
use Rattle.std.specs.Prelude.{slice_get}
use Rattle.std.specs.Option.{option_map}
use Rattle.std.specs.List.{All, AllByRecursion, enumerate_from, flat_map, range_with_len}
use Rattle.std.proofs.lemmas.List.{length-map, map-append}
use Rattle.std.proofs.lemmas.List.Elements.{recursion_from_All}
use Rattle.std.proofs.lemmas.Option.{slice_get-get_or}
use Rattle.base_core.proofs.Lists.{every_append}
use Rattle.base_core.specs.declared.ids.ClassId.{ClassId}
use Rattle.base_core.specs.declared.ids.RelNo.{RelNo}
use Rattle.base_core.specs.declared.ids.TableId.{TableId}
use Rattle.base_core.specs.declared.value.Kind.{Kind}
use Rattle.schema_core.specs.Catalog.{Catalog, key_columns, spec_of}
use Rattle.expr_types.specs.declared.expr.Expr.{Expr}
use Rattle.expr_types.specs.declared.expr.Expr.TheOpen.{Expr-F}
use Rattle.expr_types.specs.declared.expr.Origin.{Origin}
use Rattle.expr_types.specs.declared.select.Joined.{Joined}
use Rattle.expr_types.specs.declared.select.ObjectQuery.{ObjectQuery}
use Rattle.expr_types.specs.declared.select.Select.{Select}
use Rattle.sql_semantics.specs.Plain.{IsFilter, IsPlainSelect, is_grouped, name_of, sources_of}
use Rattle.class_types.specs.declared.mapped.Relation.{Relation}
use Rattle.class_sides.specs.Keys.{TableKey}
use Rattle.class_mapping.specs.Mapped.{IsClass, Mapped, class_spec, relations_of, root_table, table_or_none, tables_of}
use Rattle.class_mapping.specs.Paired.{is_at_or_under}
use Rattle.class_mapping.specs.Related.{AreRelated, IsRelated}
use Rattle.class_mapping.proofs.Having.{all_from}
use Rattle.mapping_laws.specs.Hierarchies.{HasHierarchies, HasTables, kinds_of}
use Rattle.mapping_laws.proofs.Tables.{tables_declared}
use Rattle.mapping_laws.proofs.Ties.{class_tables}
use Rattle.object_arena.specs.Fit.{no_relation, relation_of}
use Rattle.load_columns.specs.declared.placing.Placement.{Placement}
use Rattle.load_columns.specs.declared.placing.SourceColumn.{SourceColumn}
use Rattle.load_columns.specs.Conditions.{conjoined}
use Rattle.load_columns.specs.Placing.{attribute_columns, columns_at, from_root, key_at_rank, key_numbers, place_at_rank, place_of_table, referred_table}
use Rattle.load_selects.specs.declared.sources.Further.{Further}
use Rattle.load_selects.specs.Branches.{discriminator_column, discriminator_of, identities, is_of_branch, names_branch}
use Rattle.load_selects.specs.Selects.{origin_of}
use Rattle.load_selects.specs.Sources.{keyed_source, leading_by, ranked_source, referred_source, referring_source, related_sources, target_placement, tied_by}
use Rattle.collection_selects.proofs.ClassLemmas.{placed_before}
use Rattle.collection_selects.proofs.Keys.{key_typed}
use Rattle.collection_selects.proofs.MemberLemmas.{referring_within}
use Rattle.collection_selects.proofs.Placed.{StandsAt, attributes_there}
use Rattle.collection_selects.proofs.Plain.{AreTied, IsColumn, IsPart, all_stand, all_whole}
use Rattle.collection_selects.proofs.Standing.{and_stands, as_filter}
use Rattle.collection_selects.proofs.Typed.{AreTyped}
use Rattle.load_queries.specs.Queries.{ReadsObjects}
use Rattle.collection_selects.proofs.Pairs.Plainness.{secondary_of}
use Rattle.main_selects.specs.MainSelect.{further_count, further_keys, left_joined, main_select, option_columns, option_sources, with_joined, with_left_join, with_shifted, within_branch}
use Rattle.main_selects.specs.Shifted.{shifted}
use Rattle.joined_rows.proofs.Targets.{target_stands}
use Rattle.joined_rows.proofs.Widening.{count_sources, option_of, table_of}
use Rattle.alias_names.specs.Names.{exists_names, filter_names, names_at, taken_names}
use Rattle.loading_laws.proofs.MainSelects.Grown.{IsGrown, grown_itself, grown_plain, grown_sources, inner_names, origins_of, with_columns, with_join}
use Rattle.loading_laws.proofs.Wide.Levels.{fold_stays, moved}
use Rattle.loading_laws.proofs.MainSelects.Referring.{declared_above}
use Rattle.loading_laws.proofs.MainSelects.Simple.{IsSimple, equals_simple, in_simple, parts_renamed}
use Rattle.loading_laws.proofs.MainSelects.Tied.{lead_inside, option_tied}

abbrev Names : Type 0
Names = List (List ℕ)

-- ---- how many names

names_long : (schema : Catalog) (wide : Select) → length (taken_names schema wide) ≡ length schema.tables + (length (sources_of wide) + length (inner_names schema wide))
names_long schema wide =
    let own : Names = map (name_of schema) (sources_of wide) in
    let all = length-append (map (λ table. table.name) schema.tables) (own ++ inner_names schema wide) in
    let tables = length-map schema.tables (λ table. table.name) in
    let rest = length-append own (inner_names schema wide) in
    let long = length-map (sources_of wide) (name_of schema) in
    omega (arith, all, tables, rest, long)

one_more : (schema : Catalog) (wide : Select) (further : Further) → length (taken_names schema (with_left_join schema wide further)) ≡ length (taken_names schema wide) + 1
one_more schema wide further =
    let before = names_long schema wide in
    let now = names_long schema (with_left_join schema wide further) in
    let one = count_sources wide in
    let two = count_sources (with_left_join schema wide further) in
    let long = length-append wide.joins (left_joined schema wide further ∷ []) in
    omega (arith, before, now, one, two, long)

all_more : (schema : Catalog) (wide : Select) (more : List Further) → length (taken_names schema (fold (with_left_join schema) wide more)) ≡ length (taken_names schema wide) + length more
all_more schema wide [] = omega arith
all_more schema wide (further ∷ more) =
    let rest = all_more schema (with_left_join schema wide further) more in
    let one = one_more schema wide further in
    omega (arith, rest, one)

option_more : (mapped : Mapped) (class : ClassId) (wide : Select) (place : RelNo) → length (taken_names mapped.schema wide) ≤ length (taken_names mapped.schema (with_joined mapped class wide place))
option_more mapped class wide place =
    let more : List Further = option_sources mapped class (relation_of mapped class place) (suc (length wide.joins)) in
    let long = all_more mapped.schema wide more in
    omega (arith, long)

options_more : (mapped : Mapped) (class : ClassId) (wide : Select) (places : List RelNo) → length (taken_names mapped.schema wide) ≤ length (taken_names mapped.schema (fold (with_joined mapped class) wide places))
options_more mapped class wide [] = omega arith
options_more mapped class wide (place ∷ places) =
    let one = option_more mapped class wide place in
    let rest = options_more mapped class (with_joined mapped class wide place) places in
    omega (arith, one, rest)

-- ---- conditions

conjoined_stands : (schema : Catalog) (sources : List Origin) (es : List Expr) → 1 ≤ length es → AllByRecursion (IsPart schema sources) es → IsFilter schema sources (conjoined es)
conjoined_stands schema sources [] some parts = absurd (omega (arith, some))
conjoined_stands schema sources (e ∷ []) some parts = as_filter schema sources e parts.0.stands
conjoined_stands schema sources (e ∷ d ∷ es) some parts =
    let all : List Expr = e ∷ d ∷ es in
    as_filter schema sources (conjoined all) (and_stands schema sources all (omega arith) (all_stand schema sources all parts) (all_whole schema sources all parts))

-- a source of a declared table, whose conditions are over columns alone
abbrev IsFine : Catalog → Further → Type 0
IsFine schema further = (further.table.0 < length schema.tables) × AllByRecursion (IsSimple schema) further.on

same_tables : (one other : List Origin) (table : TableId) (origin : Origin) → map table_of one ≡ map table_of other → origin.table ≡ table → map table_of (one ++ origin_of table ∷ []) ≡ map table_of (other ++ origin ∷ [])
same_tables one other table origin same is =
    map-append table_of one (origin_of table ∷ []) ∙ ap (λ (tables : List TableId). tables ++ table ∷ []) same ∙ ap (λ (last : TableId). map table_of other ++ last ∷ []) (sym is) ∙ sym (map-append table_of other (origin ∷ []))

tied_renamed : (schema : Catalog) (one other : List Origin) (more : List Further) → map table_of one ≡ map table_of other → AllByRecursion (IsFine schema) more → AreTied schema one more → AreTied schema other more
tied_renamed schema one other [] same fine h = tt
tied_renamed schema one other (further ∷ more) same fine h =
    let next = same_tables one other further.table (origin_of further.table) same refl in (
      h.0,
      parts_renamed schema (one ++ origin_of further.table ∷ []) (other ++ origin_of further.table ∷ []) further.on next fine.0.1 h.1,
      tied_renamed schema (one ++ origin_of further.table ∷ []) (other ++ origin_of further.table ∷ []) more next fine.1 h.2,
    )

-- ---- left joins

joins_grown : (schema : Catalog) (s wide : Select) (more : List Further) → IsGrown schema s wide → AreTied schema (sources_of wide) more → AllByRecursion (IsFine schema) more → length (taken_names schema wide) + length more < 2 ^ 64
    → IsGrown schema s (fold (with_left_join schema) wide more)
joins_grown schema s wide [] grown tied fine few = grown
joins_grown schema s wide (further ∷ more) grown tied fine few =
    let origin : Origin = (left_joined schema wide further).origin in
    let named : List Origin = sources_of wide ++ origin ∷ [] in
    let from : sources_of (with_left_join schema wide further) ≡ named = ap (λ (origins : List Origin). wide.first ∷ origins) (map-append (λ (one : Joined). one.origin) wide.joins (left_joined schema wide further ∷ [])) in
    let same = same_tables (sources_of wide) (sources_of wide) further.table origin refl refl in
    let one = one_more schema wide further in
    let on = conjoined_stands schema named further.on tied.0 (parts_renamed schema (sources_of wide ++ origin_of further.table ∷ []) named further.on same fine.0.1 tied.1) in
    joins_grown schema s (with_left_join schema wide further) more (with_join schema s wide further grown fine.0.0 on (omega (arith, few)))
    (subst (λ (sources : List Origin). AreTied schema sources more) (sym from) (tied_renamed schema (sources_of wide ++ origin_of further.table ∷ []) named more same fine.1 tied.2)) fine.1 (omega (arith, few, one))

-- ---- what an option adds is such

module _ (mapped : Mapped) (class : ClassId) (relation : Relation) (has : HasHierarchies mapped) (related : IsRelated mapped relation) where
  abbrev target : ClassId
  target = relation.target

  abbrev own : List TableId
  own = tables_of mapped target

  abbrev Fine : Further → Type 0
  Fine = IsFine mapped.schema

  ranked_fine : (placement : Placement) (rank : ℕ) (table : TableId) (b : Bool) → table.0 < length mapped.schema.tables → AllByRecursion Fine (if b then [] else keyed_source mapped target placement (rank, table) ∷ [])
  unfolding keyed_source
  ranked_fine placement rank table true less = tt
  ranked_fine placement rank table false less = ((less, equals_simple mapped.schema _ _), tt)

  others_fine : (placement : Placement) (rank : ℕ) (tables : List TableId) → AllByRecursion (λ table. table.0 < length mapped.schema.tables) tables → AllByRecursion Fine (flat_map (ranked_source mapped target placement) (enumerate_from rank tables))
  unfolding ranked_source
  others_fine placement rank [] h = tt
  others_fine placement rank (table ∷ tables) h =
      every_append Fine (if rank == placement.leading then [] else keyed_source mapped target placement (rank, table) ∷ []) (flat_map (ranked_source mapped target placement) (enumerate_from (rank + 1) tables))
      (ranked_fine placement rank table (rank == placement.leading) h.0) (others_fine placement (rank + 1) tables h.1)

  branch_simple : (placement : Placement) → AllByRecursion (IsSimple mapped.schema) (is_of_branch mapped target placement)
  branch_simple placement = by (is_some (class_spec mapped target).table) (discriminator_of mapped target)
    where
      by : (b : Bool) (name : Option (List ℕ)) → AllByRecursion (IsSimple mapped.schema) (if b then [] else names_branch mapped target placement name)
      by true name = tt
      by false None = tt
      by false (Some name) = (in_simple mapped.schema (discriminator_column mapped target placement name) (identities mapped target), tt)

  within_fine : (placement : Placement) (further : Further) → Fine further → Fine (within_branch mapped target placement further)
  within_fine placement further h = by (further.table.0 == (root_table mapped target).0)
    where
      by : (b : Bool) → Fine (if b then record further { on = further.on ++ is_of_branch mapped target placement } else further)
      by true = (h.0, every_append (IsSimple mapped.schema) further.on (is_of_branch mapped target placement) h.1 (branch_simple placement))
      by false = h

  all_within : (placement : Placement) (more : List Further) → AllByRecursion Fine more → AllByRecursion Fine (map (within_branch mapped target placement) more)
  all_within placement [] h = tt
  all_within placement (further ∷ more) h = (within_fine placement further h.0, all_within placement more h.1)

  tied_fine : (count : ℕ) (end : Option TableKey) → relation.far ≡ end → (leading_by mapped relation end).0 < length mapped.schema.tables → AllByRecursion Fine (tied_by mapped class (from_root 0) relation count end)
  tied_fine count None is less = (by relation.many less, tt)
    where
      by : (b : Bool) → (if b then relation.foreign.0 else referred_table mapped relation.foreign).0 < length mapped.schema.tables
          → Fine (if b then referring_source mapped class (from_root 0) relation.foreign count else referred_source mapped relation.foreign (place_of_table mapped class (from_root 0) relation.foreign.0) count)
      by true within = (within, equals_simple mapped.schema _ _)
      by false within = (within, equals_simple mapped.schema _ _)
  tied_fine count (Some far) is less =
      let keys = secondary_of mapped relation far related is in
      ((referring_within mapped relation.foreign relation.class keys.owner, equals_simple mapped.schema _ _), ((less, equals_simple mapped.schema _ _), tt))

  option_fine : (count : ℕ) (lead : (leading_by mapped relation relation.far).0 < length mapped.schema.tables) → AllByRecursion Fine (option_sources mapped class relation count)
  unfolding related_sources
  option_fine count lead =
      let placement : Placement = target_placement mapped relation count in
      all_within placement (tied_by mapped class (from_root 0) relation count relation.far ++ flat_map (ranked_source mapped target placement) (enumerate_from 0 own))
      (every_append Fine (tied_by mapped class (from_root 0) relation count relation.far) (flat_map (ranked_source mapped target placement) (enumerate_from 0 own)) (tied_fine count relation.far refl lead)
      (others_fine placement 0 own (all_from (λ (table : TableId). table.0 < length mapped.schema.tables) own (λ table there. tables_declared mapped target table there))))

-- ---- its columns

typed_columns : (schema : Catalog) (sources : List Origin) (columns : List SourceColumn) (kinds : List Kind) → AreTyped schema sources columns kinds → AllByRecursion (IsColumn schema sources) columns
typed_columns schema sources [] kinds h = tt
typed_columns schema sources (column ∷ columns) [] h = absurd h
typed_columns schema sources (column ∷ columns) (kind ∷ kinds) h = ((kind, h.0), typed_columns schema sources columns kinds h.1)

module _ (mapped : Mapped) (target : ClassId) (placement : Placement) (under : List Origin) (stands : StandsAt mapped target placement under) where
  keys_at : (rank : ℕ) → rank < length (tables_of mapped target) → AllByRecursion (IsColumn mapped.schema under) (key_at_rank mapped target placement rank)
  keys_at rank less =
      let own : List TableId = tables_of mapped target in
      let table : TableId = get_or own rank (root_table mapped target) in
      let here : slice_get own rank ≡ Some table = slice_get-get_or own rank (root_table mapped target) less in
      subst (λ (one : TableId). AllByRecursion (IsColumn mapped.schema under) (columns_at (place_at_rank placement rank) (key_numbers mapped one))) (sym (ap table_or_none here))
      (typed_columns mapped.schema under (columns_at (place_at_rank placement rank) (key_numbers mapped table)) (kinds_of (key_columns (spec_of mapped.schema table)))
      (key_typed mapped under (place_at_rank placement rank) table (stands rank table here)))

  keys_from : (from n : ℕ) → from + n ≤ length (tables_of mapped target) → AllByRecursion (IsColumn mapped.schema under) (flat_map (key_at_rank mapped target placement) (range_with_len from n))
  keys_from from zero most = tt
  keys_from from (suc n) most =
      every_append (IsColumn mapped.schema under) (key_at_rank mapped target placement from) (flat_map (key_at_rank mapped target placement) (range_with_len (from + 1) n)) (keys_at from (omega (arith, most)))
      (keys_from (from + 1) n (omega (arith, most)))

  pub option_there : HasHierarchies mapped → IsClass mapped target → (known : HasTables mapped target) → AllByRecursion (IsColumn mapped.schema under) (option_columns mapped target placement)
  option_there has less known =
      let some = ap (λ (tables : List TableId). length tables) known.first in
      every_append (IsColumn mapped.schema under) (attribute_columns mapped target placement) (further_keys mapped target placement) (attributes_there mapped target has less known placement under stands)
      (keys_from 1 (further_count mapped target) (omega (arith, some)))

-- ---- one option more

option_grown : (mapped : Mapped) (class : ClassId) (s wide : Select) (place : RelNo) → HasHierarchies mapped → AreRelated mapped → IsClass mapped class → place.0 < length (relations_of mapped class) → StandsAt mapped class (from_root 0) (sources_of wide)
    → length (taken_names mapped.schema (with_joined mapped class wide place)) < 2 ^ 64 → IsGrown mapped.schema s wide → IsGrown mapped.schema s (with_joined mapped class wide place)
option_grown mapped class s wide place has relations less inside stands few grown =
    let relation : Relation = relation_of mapped class place in
    let related : IsRelated mapped relation = relations.each class less place.0 no_relation inside in
    let back = has.paired.back class place.0 relation (slice_get-get_or (relations_of mapped class) place.0 no_relation inside) in
    let above : is_at_or_under mapped class relation.class ≡ true = declared_above mapped class relation related back in
    let count : ℕ = suc (length wide.joins) in
    let more : List Further = option_sources mapped class relation count in
    let placement : Placement = target_placement mapped relation count in
    let tied : AreTied mapped.schema (sources_of wide) more =
    subst (λ (n : ℕ). AreTied mapped.schema (sources_of wide) (option_sources mapped class relation n)) (count_sources wide) (option_tied mapped class relation (sources_of wide) has related above stands) in
    let lead = tables_declared mapped relation.target (leading_by mapped relation relation.far) (lead_inside mapped class relation (sources_of wide) has related above stands) in
    let long = all_more mapped.schema wide more in
    let joined = joins_grown mapped.schema s wide more grown tied (option_fine mapped class relation has related count lead) (omega (arith, few, long)) in
    let option = option_of mapped class wide relation in
    let there : StandsAt mapped relation.target placement (sources_of wide ++ option.origins) = target_stands mapped class (from_root 0) relation (sources_of wide) option.origins count related (count_sources wide) option.tables in
    with_columns mapped.schema s (fold (with_left_join mapped.schema) wide more) (option_columns mapped relation.target placement) joined
    (subst (λ (under : List Origin). AllByRecursion (IsColumn mapped.schema under) (option_columns mapped relation.target placement)) (sym option.has_sources)
    (option_there mapped relation.target placement (sources_of wide ++ option.origins) there has related.target (class_tables mapped relation.target has related.target)))

-- ---- all options

module _ (mapped : Mapped) (class : ClassId) (s : Select) (has : HasHierarchies mapped) (relations : AreRelated mapped) (less : IsClass mapped class) (more : List Origin) (begins : sources_of s ≡ map origin_of (tables_of mapped class) ++ more) where
  class_stands : (wide : Select) → IsGrown mapped.schema s wide → StandsAt mapped class (from_root 0) (sources_of wide)
  class_stands wide grown =
      let added : List Origin = origins_of grown.joins in
      subst (StandsAt mapped class (from_root 0))
      (sym (grown_sources mapped.schema s wide grown ∙ ap (λ (sources : List Origin). sources ++ added) begins ∙ append_assoc (map origin_of (tables_of mapped class)) more added))
      (placed_before mapped class has less (class_tables mapped class has less) (more ++ added))

  options_grown : (places : List RelNo) (wide : Select) → AllByRecursion (λ place. place.0 < length (relations_of mapped class)) places → length (taken_names mapped.schema (fold (with_joined mapped class) wide places)) < 2 ^ 64
      → IsGrown mapped.schema s wide → IsGrown mapped.schema s (fold (with_joined mapped class) wide places)
  options_grown [] wide inside few grown = grown
  options_grown (place ∷ places) wide inside few grown =
      let rest = options_more mapped class (with_joined mapped class wide place) places in
      options_grown places (with_joined mapped class wide place) inside.1 few (option_grown mapped class s wide place has relations less inside.0 (class_stands wide grown) (omega (arith, few, rest)) grown)

-- ---- the main select

names_stay : (schema : Catalog) (n m : ℕ) (e : Expr) → exists_names schema (shifted n m e) ≡ exists_names schema e
unfolding exists_names
names_stay schema n m = fold_stays (names_at schema) n m blind
  where
    blind : (x : Expr-F Names) → names_at schema (moved n m x) ≡ names_at schema x
    blind (Expr-F.Column source c) = refl
    blind x = refl

order_names : (schema : Catalog) (n m : ℕ) (order : List (Expr × Bool))
    → flat_map (λ (key : Expr × Bool). exists_names schema key.0) (map (λ (key : Expr × Bool). (shifted n m key.0, key.1)) order) ≡ flat_map (λ (key : Expr × Bool). exists_names schema key.0) order
order_names schema n m [] = refl
order_names schema n m (key ∷ order) =
    ap (λ (names : Names). names ++ flat_map (λ (key : Expr × Bool). exists_names schema key.0) (map (λ (key : Expr × Bool). (shifted n m key.0, key.1)) order)) (names_stay schema n m key.0)
    ∙ ap (λ (names : Names). exists_names schema key.0 ++ names) (order_names schema n m order)

filter_stays : (schema : Catalog) (n m : ℕ) (filter : Option Expr) → filter_names schema (option_map (shifted n m) filter) ≡ filter_names schema filter
filter_stays schema n m None = refl
filter_stays schema n m (Some e) = names_stay schema n m e

shifted_names : (schema : Catalog) (s wide : Select) → wide.filter ≡ s.filter → wide.order ≡ s.order → inner_names schema (with_shifted s wide) ≡ inner_names schema wide
shifted_names schema s wide filter order =
    let n : ℕ = suc (length s.joins) in
    let m : ℕ = length wide.joins - length s.joins in
    ap (λ (names : Names). names ++ flat_map (λ (key : Expr × Bool). exists_names schema key.0) (map (λ (key : Expr × Bool). (shifted n m key.0, key.1)) s.order)) (filter_stays schema n m s.filter ∙ ap (filter_names schema) (sym filter))
    ∙ ap (λ (names : Names). filter_names schema wide.filter ++ names) (order_names schema n m s.order ∙ ap (λ (keys : List (Expr × Bool)). flat_map (λ (key : Expr × Bool). exists_names schema key.0) keys) (sym order))

same_filter : (mapped : Mapped) (class : ClassId) (wide : Select) (places : List RelNo) → ((fold (with_joined mapped class) wide places).filter ≡ wide.filter) × ((fold (with_joined mapped class) wide places).order ≡ wide.order)
same_filter mapped class wide [] = (refl, refl)
same_filter mapped class wide (place ∷ places) =
    let rest = same_filter mapped class (with_joined mapped class wide place) places in
    let joined = left_filter mapped.schema wide (option_sources mapped class (relation_of mapped class place) (suc (length wide.joins))) in
    (rest.0 ∙ joined.0, rest.1 ∙ joined.1)
  where
    left_filter : (schema : Catalog) (one : Select) (more : List Further) → ((fold (with_left_join schema) one more).filter ≡ one.filter) × ((fold (with_left_join schema) one more).order ≡ one.order)
    left_filter schema one [] = (refl, refl)
    left_filter schema one (further ∷ more) = left_filter schema (with_left_join schema one further) more

pub main_is_plain : (mapped : Mapped) (query : ObjectQuery) → HasHierarchies mapped → AreRelated mapped → IsClass mapped query.class → All (λ place. place.0 < length (relations_of mapped query.class)) query.joined
    → ReadsObjects mapped query.class query.select → IsPlainSelect mapped.schema query.select → is_grouped query.select ≡ false → length (taken_names mapped.schema (main_select mapped query)) < 2 ^ 64
    → IsPlainSelect mapped.schema (main_select mapped query)
unfolding main_select
main_is_plain mapped query has relations less inside reads plain single few =
    let schema : Catalog = mapped.schema in
    let s : Select = query.select in
    let wide : Select = fold (with_joined mapped query.class) s query.joined in
    let kept = same_filter mapped query.class s query.joined in
    let one = names_long schema wide in
    let two = names_long schema (with_shifted s wide) in
    let same = ap (λ (names : Names). length names) (shifted_names schema s wide kept.0 kept.1) in
    grown_plain schema s wide (attribute_columns mapped query.class (from_root 0)) reads.items plain single
    (options_grown mapped query.class s has relations less reads.more reads.sources query.joined s (recursion_from_All (λ (place : RelNo). place.0 < length (relations_of mapped query.class)) query.joined inside) (omega (arith, few, one, two, same))
    (grown_itself schema s plain.distinct_names))
