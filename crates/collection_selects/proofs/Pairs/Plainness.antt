-- The selects of the members of several many-to-many collections are plain.
use Rattle.std.proofs.Common.{◌≡◌, inl, ℕ, ◌+◌, ◌<◌, ◌≤◌, Bool, true, false, not, ◌&&◌, ◌||◌, ◌==◌, List, [], ◌∷◌, ◌++◌, map, length, get_or, Option, Some, None, is_none, refl, sym, ap, subst, ◌∙◌, arith, zero-add}
use Rattle.std.specs.Prelude.{slice_get}
use Rattle.std.specs.List.{All, AllByRecursion, list_all}
use Rattle.std.proofs.lemmas.Bool.{lt-ltb}
use Rattle.std.proofs.lemmas.List.Elements.{recursion_from_All}
use Rattle.base_core.proofs.Lists.{every_append}
use Rattle.base_core.specs.declared.ids.ClassId.{ClassId}
use Rattle.base_core.specs.declared.ids.TableId.{TableId}
use Rattle.base_core.specs.declared.value.Kind.{Kind}
use Rattle.base_core.specs.declared.value.Value.{Value}
use Rattle.schema_core.specs.Catalog.{Catalog, has_name, key_columns, same_name, spec_of}
use Rattle.schema_core.specs.WellFormed.{is_key}
use Rattle.expr_types.specs.declared.expr.Expr.{Expr}
use Rattle.expr_types.specs.declared.expr.Origin.{Origin}
use Rattle.sql_semantics.specs.Plain.{IsPlainSelect, are_distinct, is_declared, name_of, sources_of}
use Rattle.class_types.specs.declared.mapped.Relation.{Relation}
use Rattle.class_layouts.specs.Columns.{columns_in}
use Rattle.class_layouts.specs.Faults.{foreigns_in, maps_name}
use Rattle.class_sides.specs.Keys.{TableKey, foreign_at}
use Rattle.class_sides.specs.Sides.{is_all_keys}
use Rattle.class_mapping.specs.Mapped.{Mapped, layout_of, root_spec, root_table, tables_of}
use Rattle.class_mapping.specs.Related.{IsRelated, has_keys}
use Rattle.class_mapping.specs.Valid.{refers_to_class}
use Rattle.class_mapping.proofs.Having.{Has, has_map, none_of}
use Rattle.class_mapping.proofs.Lists.{and_four, and_right, or_none}
use Rattle.class_mapping.proofs.RelatedKeys.{same_table}
use Rattle.mapping_laws.specs.Hierarchies.{HasHierarchies, HasTables, kinds_of, name_in}
use Rattle.mapping_laws.proofs.Tables.{tables_declared, unmapped_named}
use Rattle.mapping_laws.proofs.Ties.{class_tables, table_faultless}
use Rattle.load_columns.specs.declared.placing.Placement.{Placement}
use Rattle.load_columns.specs.declared.placing.SourceColumn.{SourceColumn}
use Rattle.load_columns.specs.Conditions.{equal_columns, has_one_of}
use Rattle.load_columns.specs.Placing.{attribute_columns, columns_at, foreign_numbers, key_numbers, referred_table}
use Rattle.load_selects.specs.declared.sources.Further.{Further}
use Rattle.load_selects.specs.Branches.{is_of_branch}
use Rattle.load_selects.specs.Selects.{origin_of}
use Rattle.load_selects.specs.Sources.{leading_by, leading_table, led_from, other_tables}
use Rattle.collection_selects.specs.Collections.{batch_by, batch_select, member_sources, pair_columns, paired_batch, pairs_select}
use Rattle.collection_selects.proofs.Keys.{key_fits, key_some, key_typed}
use Rattle.collection_selects.proofs.MemberLemmas.{RefersTo, batches_are_plain, foreign_typed, owned_kinds, referred, referred_is, referring_within}
use Rattle.collection_selects.proofs.Placed.{StandsAt, attributes_there, branch_parts, rank_finds}
use Rattle.collection_selects.proofs.Plain.{AreTied, IsColumn, IsPart, select_is_plain}
use Rattle.collection_selects.proofs.Typed.{AreTyped, equal_some, equal_stand, fit_kinds, one_of_stands, typed_long}
use Rattle.collection_selects.proofs.Pairs.Led.{all_stand, all_tied, behind, declared_behind, distinct_behind, from_behind, joined_behind, lead_alone, names_are, names_behind, none_behind, sources_behind, was_false}

-- ---- columns and names

-- columns of known kinds are there
pub typed_there : (schema : Catalog) (sources : List Origin) (columns : List SourceColumn) (kinds : List Kind) → AreTyped schema sources columns kinds → AllByRecursion (IsColumn schema sources) columns
typed_there schema sources [] kinds h = tt
typed_there schema sources (column ∷ columns) [] h = absurd h
typed_there schema sources (column ∷ columns) (kind ∷ kinds) h = ((kind, h.0), typed_there schema sources columns kinds h.1)

two_more : (one other : List ℕ) (names : List (List ℕ)) → has_name (other ∷ names) one ≡ false → has_name names other ≡ false → are_distinct names ≡ true → are_distinct (one ∷ other ∷ names) ≡ true
two_more one other names first second rest =
    ap (λ (b : Bool). not b && (not (has_name names other) && are_distinct names)) first ∙ ap (λ (b : Bool). not b && are_distinct names) second ∙ rest

-- ---- the keys of a secondary table

-- one refers to the owner's class, the other to the member's, and no class maps their table
pub record IsSecondary (mapped : Mapped) (relation : Relation) (far : TableKey) : Type 0 where
  pub same : relation.foreign.0 ≡ far.0
  pub owner : RefersTo mapped relation.foreign relation.class
  pub member : RefersTo mapped far relation.target
  pub free : maps_name mapped.classes.specs (Some (spec_of mapped.schema relation.foreign.0).name) ≡ false

pub secondary_of : (mapped : Mapped) (relation : Relation) (far : TableKey) → IsRelated mapped relation → relation.far ≡ Some far → IsSecondary mapped relation far
secondary_of mapped relation far related is =
    let tables = mapped.schema.tables in
    let key : TableKey = relation.foreign in
    let all : Bool = is_all_keys (columns_in tables key.0) (foreigns_in tables key.0) in
    let near : Bool = refers_to_class tables (Some (layout_of mapped relation.class)) key in
    let away : Bool = refers_to_class tables (Some (layout_of mapped relation.target)) far in
    let keys : has_keys mapped relation (Some far) ≡ true = ap (has_keys mapped relation) (sym is) ∙ related.keys in
    let parts = and_four (key.0.0 == far.0.0) all near away keys in
    let name : Option (List ℕ) = Some (spec_of mapped.schema key.0).name in
    record {
      same = same_table key.0 far.0 parts.0;
      owner = referred mapped key relation.class (foreign_at tables key) refl parts.1;
      member = referred mapped far relation.target (foreign_at tables far) refl (and_right ((key.0.0 == far.0.0) && all && near) away keys);
      free = was_false (maps_name mapped.classes.specs name) (ap (λ (end : Option TableKey). is_none end || not (maps_name mapped.classes.specs name)) (sym is) ∙ related.unmapped);
    }

module _ (mapped : Mapped) (relation : Relation) (far : TableKey) (has : HasHierarchies mapped) (related : IsRelated mapped relation) (is : relation.far ≡ Some far) (keys : IsSecondary mapped relation far) where
  abbrev target : ClassId
  target = relation.target

  abbrev own : List TableId
  own = tables_of mapped target

  abbrev second : TableId
  second = relation.foreign.0

  abbrev lead : TableId
  lead = leading_table mapped relation

  abbrev pub placement : Placement
  placement = led_from mapped relation 1

  known : HasTables mapped target
  known = class_tables mapped target has related.target

  -- the table that leads is the one to which the far key refers
  lead_is : lead ≡ referred_table mapped far
  lead_is = ap (leading_by mapped relation) is

  lead_member : lead ≡ keys.member.table
  lead_member = lead_is ∙ referred_is mapped far target keys.member

  lead_inside : Has own lead
  lead_inside = subst (Has own) (sym lead_member) keys.member.inside

  pub leads : slice_get own placement.leading ≡ Some lead
  leads = rank_finds own lead lead_inside

  -- ---- the sources

  abbrev others : List Further
  others = other_tables mapped target placement

  abbrev pub origins : List Origin
  origins = origin_of second ∷ sources_behind (member_sources mapped relation far)

  pub origins_are : (conditions : List Expr) → sources_of (pairs_select mapped relation far conditions) ≡ origins
  origins_are conditions = ap (λ (xs : List Origin). origin_of second ∷ xs) (joined_behind (member_sources mapped relation far))

  -- the tables of the target stand where the one that leads stands behind the secondary one
  pub stands : StandsAt mapped target placement origins
  stands = all_stand mapped target placement (origin_of second) (origin_of lead) refl leads

  -- ---- what ties them

  abbrev both : List Origin
  both = origin_of second ∷ origin_of lead ∷ []

  abbrev tied_kinds : List Kind
  tied_kinds = kinds_of (key_columns (spec_of mapped.schema keys.member.table))

  abbrev key_of_lead : List SourceColumn
  key_of_lead = columns_at 1 (key_numbers mapped (referred_table mapped far))

  abbrev far_columns : List SourceColumn
  far_columns = columns_at 0 (foreign_numbers mapped far)

  lead_typed : AreTyped mapped.schema both key_of_lead tied_kinds
  lead_typed =
      subst (λ (table : TableId). AreTyped mapped.schema both key_of_lead (kinds_of (key_columns (spec_of mapped.schema table)))) lead_member
      (subst (λ (table : TableId). AreTyped mapped.schema both (columns_at 1 (key_numbers mapped table)) (kinds_of (key_columns (spec_of mapped.schema lead)))) lead_is (key_typed mapped both 1 lead refl))

  far_typed : AreTyped mapped.schema both far_columns tied_kinds
  far_typed = foreign_typed mapped both 0 far target has keys.member (ap (λ (table : TableId). Some table) keys.same)

  kinds_some : 0 < length tied_kinds
  kinds_some = key_some (spec_of mapped.schema keys.member.table).columns (table_faultless mapped keys.member.table has (tables_declared mapped target keys.member.table keys.member.inside)).keyed

  lead_some : 1 ≤ length (equal_columns key_of_lead far_columns)
  lead_some =
      let some = kinds_some in
      let long = typed_long mapped.schema both key_of_lead tied_kinds lead_typed in
      let wide = typed_long mapped.schema both far_columns tied_kinds far_typed in
      equal_some key_of_lead far_columns (omega (arith, some, long)) (omega (arith, some, wide))

  pub tied : AreTied mapped.schema (origin_of second ∷ []) (member_sources mapped relation far)
  tied = (
    lead_some,
    equal_stand mapped.schema both key_of_lead far_columns tied_kinds lead_typed far_typed,
    all_tied mapped target placement has known origins stands lead leads own 0 both (inl (refl, omega arith)) (λ k table e. ap (slice_get own) (zero-add k) ∙ e) refl,
  )

  -- ---- names

  declared_all : list_all (is_declared mapped.schema) origins ≡ true
  declared_all =
      ap (λ (b : Bool). b && list_all (is_declared mapped.schema) (origin_of lead ∷ sources_behind others)) (lt-ltb second.0 (length mapped.schema.tables) (referring_within mapped relation.foreign relation.class keys.owner))
      ∙ ap (λ (b : Bool). b && list_all (is_declared mapped.schema) (sources_behind others)) (lt-ltb lead.0 (length mapped.schema.tables) (tables_declared mapped target lead lead_inside))
      ∙ declared_behind mapped.schema others (λ further there. tables_declared mapped target further.table (from_behind mapped target placement 0 own further there))

  distinct_all : are_distinct (map (name_of mapped.schema) origins) ≡ true
  distinct_all =
      let names : List (List ℕ) = map (name_in mapped) own in
      let free : has_name names (name_in mapped second) ≡ false = unmapped_named mapped target (name_in mapped second) keys.free in
      let behind_lead : List (List ℕ) = names_behind mapped others in
      ap (λ (more : List (List ℕ)). are_distinct (name_in mapped second ∷ name_in mapped lead ∷ more)) (names_are mapped others)
      ∙ two_more (name_in mapped second) (name_in mapped lead) behind_lead
      (or_none (same_name (name_in mapped lead) (name_in mapped second)) (has_name behind_lead (name_in mapped second))
      (none_of (λ other. same_name other (name_in mapped second)) names (name_in mapped lead) free (has_map (name_in mapped) own lead lead_inside))
      (none_behind mapped target placement 0 own (name_in mapped second) free))
      (lead_alone mapped target placement own 0 placement.leading lead (zero-add placement.leading) leads known.apart)
      (distinct_behind mapped target placement 0 own known.apart)

  -- ---- the owners' keys

  abbrev owner_kinds : List Kind
  owner_kinds = kinds_of (key_columns (spec_of mapped.schema keys.owner.table))

  abbrev owner_columns : List SourceColumn
  owner_columns = pair_columns mapped relation 0

  pub owners_typed : AreTyped mapped.schema origins owner_columns owner_kinds
  owners_typed = foreign_typed mapped origins 0 relation.foreign relation.class has keys.owner refl

  owners_some : 0 < length owner_columns
  owners_some =
      let some = key_some (spec_of mapped.schema keys.owner.table).columns (table_faultless mapped keys.owner.table has (tables_declared mapped relation.class keys.owner.table keys.owner.inside)).keyed in
      let long = typed_long mapped.schema origins owner_columns owner_kinds owners_typed in
      omega (arith, some, long)

  keys_fit : (held : List (List Value)) → All (λ key. is_key (root_spec mapped relation.class) key ≡ true) held → AllByRecursion (λ key. fit_kinds owner_kinds key ≡ true) held
  keys_fit held h =
      let owned = owned_kinds mapped relation.foreign relation.class (class_tables mapped relation.class has related.class) keys.owner in
      recursion_from_All (λ (key : List Value). fit_kinds owner_kinds key ≡ true) held (λ i key less.
      ap (λ (kinds : List Kind). fit_kinds kinds (get_or held i key)) (sym owned) ∙ key_fits mapped (root_table mapped relation.class) (get_or held i key) (h i key less))

  -- ---- the select

  pub pairs_plain : (held : List (List Value)) → 0 < length held → All (λ key. is_key (root_spec mapped relation.class) key ≡ true) held → IsPlainSelect mapped.schema (paired_batch mapped relation far held)
  pairs_plain held some h =
      let conditions : List Expr = has_one_of owner_columns held in
      let branch : List Expr = is_of_branch mapped target placement in
      let columns : List SourceColumn = owner_columns ++ attribute_columns mapped target placement in
      let from = sym (origins_are conditions) in
      select_is_plain mapped.schema second (member_sources mapped relation far) columns (conditions ++ branch)
      (record {
        declared = subst (λ (under : List Origin). list_all (is_declared mapped.schema) under ≡ true) from declared_all;
        distinct = subst (λ (under : List Origin). are_distinct (map (name_of mapped.schema) under) ≡ true) from distinct_all;
        items =
            subst (λ (under : List Origin). AllByRecursion (IsColumn mapped.schema under) columns) from
            (every_append (IsColumn mapped.schema origins) owner_columns (attribute_columns mapped target placement) (typed_there mapped.schema origins owner_columns owner_kinds owners_typed)
            (attributes_there mapped target has related.target known placement origins stands));
        tied = tied;
        filter =
            subst (λ (under : List Origin). AllByRecursion (IsPart mapped.schema under) (conditions ++ branch)) from
            (every_append (IsPart mapped.schema origins) conditions branch (one_of_stands mapped.schema origins owner_columns owner_kinds held owners_some some owners_typed (keys_fit held h))
            (branch_parts mapped target has related.target known placement origins stands));
      })

-- ---- with a secondary table and without

batch_by_plain : (mapped : Mapped) (relation : Relation) (held : List (List Value)) (end : Option TableKey) → relation.far ≡ end → HasHierarchies mapped → IsRelated mapped relation → relation.many ≡ true → 0 < length held
    → All (λ key. is_key (root_spec mapped relation.class) key ≡ true) held → IsPlainSelect mapped.schema (batch_select mapped relation held)
unfolding batch_select
batch_by_plain mapped relation held None is has related many some h = batches_are_plain mapped relation held has related many is some h
batch_by_plain mapped relation held (Some far) is has related many some h =
    subst (λ (end : Option TableKey). IsPlainSelect mapped.schema (batch_by mapped relation held end)) (sym is)
    (pairs_plain mapped relation far has related is (secondary_of mapped relation far related is) held some h)

pub batch_is_plain : (mapped : Mapped) (relation : Relation) (held : List (List Value)) → HasHierarchies mapped → IsRelated mapped relation → relation.many ≡ true → 0 < length held
    → All (λ key. is_key (root_spec mapped relation.class) key ≡ true) held → IsPlainSelect mapped.schema (batch_select mapped relation held)
batch_is_plain mapped relation held has related many some h = batch_by_plain mapped relation held relation.far refl has related many some h
