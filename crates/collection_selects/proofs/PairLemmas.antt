-- The selects of the members of collections are plain: those of a many-to-many one join its secondary table.
use Rattle.std.proofs.Common.{◌≡◌, ℕ, ◌<◌, ◌≤◌, Bool, true, false, not, ◌&&◌, ◌||◌, ◌==◌, List, [], ◌∷◌, ◌++◌, map, length, Option, Some, None, is_none, refl, sym, ap, subst, ◌∙◌, arith, append_assoc, append-nil}
use Rattle.std.specs.Prelude.{slice_get}
use Rattle.std.specs.List.{AllByRecursion, list_all}
use Rattle.std.proofs.lemmas.Bool.{and_parts, lt-ltb}
use Rattle.std.proofs.lemmas.List.{map-append}
use Rattle.std.proofs.lemmas.List.Elements.{recursion_from_All}
use Rattle.base_core.proofs.Lists.{every_append, get_last}
use Rattle.base_core.specs.declared.ids.TableId.{TableId}
use Rattle.base_core.specs.declared.value.Kind.{Kind}
use Rattle.base_core.specs.declared.value.Value.{Value}
use Rattle.schema_core.specs.Catalog.{Catalog, IsTable, has_name, key_columns, same_name, spec_of}
use Rattle.schema_core.specs.WellFormed.{is_key}
use Rattle.expr_types.specs.declared.expr.Expr.{Expr}
use Rattle.expr_types.specs.declared.expr.Origin.{Origin}
use Rattle.expr_types.specs.declared.select.Joined.{Joined}
use Rattle.sql_semantics.specs.Plain.{IsPlainSelect, are_distinct, is_declared, name_of, sources_of}
use Rattle.class_types.specs.declared.mapped.Relation.{Relation}
use Rattle.class_layouts.specs.Columns.{columns_in}
use Rattle.class_layouts.specs.Faults.{foreigns_in, maps_name}
use Rattle.class_sides.specs.Keys.{TableKey, foreign_at}
use Rattle.class_sides.specs.Sides.{is_all_keys}
use Rattle.class_mapping.specs.Mapped.{Mapped, layout_of, root_spec, root_table, tables_of}
use Rattle.class_mapping.specs.Related.{IsRelated, has_keys}
use Rattle.class_mapping.specs.Valid.{covers_both, refers_to_class}
use Rattle.class_mapping.proofs.Lists.{all_append, and_four, and_right, none_append, or_left, or_right}
use Rattle.class_mapping.proofs.RelatedKeys.{same_table}
use Rattle.load_columns.specs.declared.placing.SourceColumn.{SourceColumn}
use Rattle.load_columns.specs.Conditions.{equal_columns, has_values}
use Rattle.load_columns.specs.Placing.{attribute_columns, columns_at, foreign_numbers, from_root, key_numbers, place_of_table, rank_of, referred_table}
use Rattle.load_selects.specs.declared.sources.Further.{Further}
use Rattle.load_selects.specs.Branches.{is_of_branch}
use Rattle.load_selects.specs.Sources.{other_tables, referred_place}
use Rattle.load_selects.specs.Selects.{inner_joined, origin_of}
use Rattle.collection_selects.specs.Collections.{members_by, members_select, pair_columns, pair_members, paired_members, secondary_behind}
use Rattle.mapping_laws.specs.Hierarchies.{HasHierarchies, HasTables, kinds_of, name_in}
use Rattle.mapping_laws.proofs.Tables.{tables_declared, turned, unmapped_named}
use Rattle.mapping_laws.proofs.Ties.{class_tables, table_faultless}
use Rattle.collection_selects.proofs.ClassLemmas.{all_tied, declared_by, names_back, placed_before, sources_are, sources_by, tables_back}
use Rattle.collection_selects.proofs.Keys.{IsAt, key_fits, key_some, key_typed}
use Rattle.collection_selects.proofs.MemberLemmas.{RefersTo, foreign_typed, owned_kinds, referred, referred_is, referring_are_plain, referring_within}
use Rattle.collection_selects.proofs.Placed.{attributes_there, branch_parts, rank_finds}
use Rattle.collection_selects.proofs.Plain.{AreTied, IsColumn, IsPart, select_is_plain}
use Rattle.collection_selects.proofs.Typed.{AreTyped, equal_some, equal_stand, fit_kinds, typed_long, values_stand}

not_false : (b : Bool) → not b ≡ true → b ≡ false
not_false true h = absurd cc
not_false false h = refl

-- ---- one source more

abbrev origins_of : List Further → List Origin
origins_of more = map (λ (join : Joined). join.origin) (map inner_joined more)

origins_more : (more : List Further) (last : Further) → origins_of (more ++ last ∷ []) ≡ origins_of more ++ origin_of last.table ∷ []
origins_more [] last = refl
origins_more (further ∷ more) last = ap (λ (origins : List Origin). origin_of further.table ∷ origins) (origins_more more last)

-- a source whose conditions stand under all of them comes last
tied_last : (schema : Catalog) (before under : List Origin) (more : List Further) (last : Further) → under ≡ before ++ origins_of more → AreTied schema before more → 1 ≤ length last.on
    → AllByRecursion (IsPart schema (under ++ origin_of last.table ∷ [])) last.on → AreTied schema before (more ++ last ∷ [])
tied_last schema before under [] last is tied some parts =
    (some, subst (λ (sources : List Origin). AllByRecursion (IsPart schema (sources ++ origin_of last.table ∷ [])) last.on) (is ∙ append-nil before) parts, tt)
tied_last schema before under (further ∷ more) last is tied some parts = (
  tied.0,
  tied.1,
  tied_last schema (before ++ origin_of further.table ∷ []) under more last (is ∙ sym (append_assoc before (origin_of further.table ∷ []) (origins_of more))) tied.2 some parts,
)

abbrev named : List ℕ → List ℕ → Bool
named name other = same_name other name

-- a name that is none of others apart stands behind them
distinct_last : (names : List (List ℕ)) (name : List ℕ) → are_distinct names ≡ true → has_name names name ≡ false → are_distinct (names ++ name ∷ []) ≡ true
distinct_last [] name apart none = refl
distinct_last (first ∷ names) name apart none =
    let parts = and_parts (not (has_name names first)) (are_distinct names) apart in
    let alone : same_name name first ≡ false = turned first name (or_left (same_name first name) (has_name names name) none) in
    let later : has_name (names ++ name ∷ []) first ≡ false =
    none_append (named first) names (name ∷ []) (not_false (has_name names first) parts.0) (ap (λ (b : Bool). b || false) alone) in
    ap (λ (b : Bool). not b && are_distinct (names ++ name ∷ [])) later ∙ distinct_last names name parts.1 (or_right (same_name first name) (has_name names name) none)

-- ---- a relationship with a secondary table

module _ (mapped : Mapped) (relation : Relation) (far : TableKey) (has : HasHierarchies mapped) (related : IsRelated mapped relation) (is : relation.far ≡ Some far) where
  abbrev near : TableKey
  near = relation.foreign

  abbrev own : List TableId
  own = tables_of mapped relation.target

  known : HasTables mapped relation.target
  known = class_tables mapped relation.target has related.target

  covered : covers_both mapped.schema.tables (Some (layout_of mapped relation.class)) (Some (layout_of mapped relation.target)) (near, far) ≡ true
  covered = ap (has_keys mapped relation) (sym is) ∙ related.keys

  abbrev one_table : Bool
  one_table = near.0.0 == far.0.0

  abbrev whole : Bool
  whole = is_all_keys (columns_in mapped.schema.tables near.0) (foreigns_in mapped.schema.tables near.0)

  abbrev to_owner : Bool
  to_owner = refers_to_class mapped.schema.tables (Some (layout_of mapped relation.class)) near

  abbrev to_member : Bool
  to_member = refers_to_class mapped.schema.tables (Some (layout_of mapped relation.target)) far

  same : near.0 ≡ far.0
  same = same_table near.0 far.0 (and_four one_table whole to_owner to_member covered).0

  owner : RefersTo mapped near relation.class
  owner = referred mapped near relation.class (foreign_at mapped.schema.tables near) refl (and_four one_table whole to_owner to_member covered).1

  member : RefersTo mapped far relation.target
  member = referred mapped far relation.target (foreign_at mapped.schema.tables far) refl (and_right (one_table && whole && to_owner) to_member covered)

  free : maps_name mapped.classes.specs (Some (spec_of mapped.schema near.0).name) ≡ false
  free =
      not_false (maps_name mapped.classes.specs (Some (spec_of mapped.schema near.0).name))
      (ap (λ (end : Option TableKey). is_none end || not (maps_name mapped.classes.specs (Some (spec_of mapped.schema near.0).name))) (sym is) ∙ related.unmapped)

  -- ---- the sources: the tables of the target, and the secondary one behind them

  abbrev pub second : Origin
  second = origin_of near.0

  abbrev sources : List Origin
  sources = sources_by own ++ second ∷ []

  abbrev place : ℕ
  place = length own

  behind_at : IsAt sources place near.0
  behind_at =
      ap (λ (tables : List TableId). slice_get tables place)
      (map-append (λ (origin : Origin). origin.table) (sources_by own) (second ∷ []) ∙ ap (λ (tables : List TableId). tables ++ near.0 ∷ []) (tables_back own))
      ∙ get_last own near.0

  abbrev others : List Further
  others = other_tables mapped relation.target (from_root 0)

  abbrev behind : Further
  behind = secondary_behind mapped relation far place

  abbrev columns : List SourceColumn
  columns = attribute_columns mapped relation.target (from_root 0)

  pub pairs_sources : (conditions : List Expr) → sources_of (pair_members mapped relation far conditions) ≡ sources
  pairs_sources conditions =
      ap (λ (origins : List Origin). origin_of (root_table mapped relation.target) ∷ origins) (origins_more others behind)
      ∙ ap (λ (origins : List Origin). origins ++ second ∷ []) (sources_are mapped relation.target has related.target known columns (conditions ++ is_of_branch mapped relation.target (from_root 0)))

  -- ---- what ties the secondary table

  abbrev tied_kinds : List Kind
  tied_kinds = kinds_of (key_columns (spec_of mapped.schema member.table))

  abbrev place_in_target : TableId → ℕ
  place_in_target table = place_of_table mapped relation.target (from_root 0) table

  abbrev key_at : TableId → List SourceColumn
  key_at table = columns_at (place_in_target table) (key_numbers mapped table)

  abbrev end_columns : List SourceColumn
  end_columns = columns_at place (foreign_numbers mapped far)

  member_typed : AreTyped mapped.schema sources (key_at (referred_table mapped far)) tied_kinds
  member_typed =
      subst (λ (table : TableId). AreTyped mapped.schema sources (key_at table) tied_kinds) (sym (referred_is mapped far relation.target member))
      (key_typed mapped sources (place_in_target member.table) member.table
      (placed_before mapped relation.target has related.target known (second ∷ []) (rank_of mapped relation.target member.table) member.table (rank_finds own member.table member.inside)))

  end_typed : AreTyped mapped.schema sources end_columns tied_kinds
  end_typed = foreign_typed mapped sources place far relation.target has member (subst (IsAt sources place) same behind_at)

  kinds_some : 0 < length tied_kinds
  kinds_some = key_some (spec_of mapped.schema member.table).columns (table_faultless mapped member.table has (tables_declared mapped relation.target member.table member.inside)).keyed

  tied_some : 1 ≤ length (equal_columns (key_at (referred_table mapped far)) end_columns)
  tied_some =
      let some = kinds_some in
      let long = typed_long mapped.schema sources (key_at (referred_table mapped far)) tied_kinds member_typed in
      let wide = typed_long mapped.schema sources end_columns tied_kinds end_typed in
      equal_some (key_at (referred_table mapped far)) end_columns (omega (arith, some, long)) (omega (arith, some, wide))

  behind_some : 1 ≤ length behind.on
  unfolding referred_place
  behind_some = tied_some

  behind_parts : AllByRecursion (IsPart mapped.schema sources) behind.on
  unfolding referred_place
  behind_parts = equal_stand mapped.schema sources (key_at (referred_table mapped far)) end_columns tied_kinds member_typed end_typed

  -- ---- the select

  declared_all : list_all (is_declared mapped.schema) sources ≡ true
  declared_all =
      all_append (is_declared mapped.schema) (sources_by own) (second ∷ [])
      (declared_by mapped.schema own (recursion_from_All (IsTable mapped.schema) own known.declared))
      (ap (λ (b : Bool). b && true) (lt-ltb near.0.0 (length mapped.schema.tables) (referring_within mapped near relation.class owner)))

  distinct_all : are_distinct (map (name_of mapped.schema) sources) ≡ true
  distinct_all =
      ap are_distinct (map-append (name_of mapped.schema) (sources_by own) (second ∷ []) ∙ ap (λ (names : List (List ℕ)). names ++ name_in mapped near.0 ∷ []) (names_back mapped own))
      ∙ distinct_last (map (name_in mapped) own) (name_in mapped near.0) known.apart (unmapped_named mapped relation.target (name_in mapped near.0) free)

  key_parts : (key : List Value) → is_key (root_spec mapped relation.class) key ≡ true → AllByRecursion (IsPart mapped.schema sources) (has_values (pair_columns mapped relation place) key)
  key_parts key h =
      let owned = owned_kinds mapped near relation.class (class_tables mapped relation.class has related.class) owner in
      values_stand mapped.schema sources (pair_columns mapped relation place) (kinds_of (key_columns (spec_of mapped.schema owner.table))) key
      (foreign_typed mapped sources place near relation.class has owner behind_at)
      (ap (λ (kinds : List Kind). fit_kinds kinds key) (sym owned) ∙ key_fits mapped (root_table mapped relation.class) key h)

  pairs_are_plain : (key : List Value) → is_key (root_spec mapped relation.class) key ≡ true → IsPlainSelect mapped.schema (paired_members mapped relation far key)
  pairs_are_plain key h =
      let conditions : List Expr = has_values (pair_columns mapped relation place) key in
      let branch : List Expr = is_of_branch mapped relation.target (from_root 0) in
      let placed = placed_before mapped relation.target has related.target known (second ∷ []) in
      let from = sym (pairs_sources conditions) in
      select_is_plain mapped.schema (root_table mapped relation.target) (others ++ behind ∷ []) columns (conditions ++ branch)
      (record {
        declared = subst (λ (under : List Origin). list_all (is_declared mapped.schema) under ≡ true) from declared_all;
        distinct = subst (λ (under : List Origin). are_distinct (map (name_of mapped.schema) under) ≡ true) from distinct_all;
        items = subst (λ (under : List Origin). AllByRecursion (IsColumn mapped.schema under) columns) from (attributes_there mapped relation.target has related.target known (from_root 0) sources placed);
        tied =
            tied_last mapped.schema (origin_of (root_table mapped relation.target) ∷ []) (sources_by own) others behind
            (sym (sources_are mapped relation.target has related.target known columns (conditions ++ branch))) (all_tied mapped relation.target has related.target known) behind_some behind_parts;
        filter =
            subst (λ (under : List Origin). AllByRecursion (IsPart mapped.schema under) (conditions ++ branch)) from
            (every_append (IsPart mapped.schema sources) conditions branch (key_parts key h) (branch_parts mapped relation.target has related.target known (from_root 0) sources placed));
      })

-- ---- the members of a collection

members_by_plain : (mapped : Mapped) (relation : Relation) (key : List Value) (end : Option TableKey) → HasHierarchies mapped → IsRelated mapped relation → relation.many ≡ true → relation.far ≡ end
    → is_key (root_spec mapped relation.class) key ≡ true → IsPlainSelect mapped.schema (members_by mapped relation key end)
members_by_plain mapped relation key None has related many is h = referring_are_plain mapped relation key has related many is h
members_by_plain mapped relation key (Some far) has related many is h = pairs_are_plain mapped relation far has related is key h

pub members_are_plain : (mapped : Mapped) (relation : Relation) (key : List Value) → HasHierarchies mapped → IsRelated mapped relation → relation.many ≡ true → is_key (root_spec mapped relation.class) key ≡ true
    → IsPlainSelect mapped.schema (members_select mapped relation key)
unfolding members_select
members_are_plain mapped relation key has related many h = members_by_plain mapped relation key relation.far has related many refl h
