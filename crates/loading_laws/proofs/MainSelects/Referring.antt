-- The foreign keys of relationships: whose tables have them, and that the columns of two sources agree by one.
use Rattle.std.proofs.Common.{◌≡◌, ℕ, ◌<◌, ◌≤◌, Bool, true, ◌&&◌, List, length, Option, None, refl, sym, ap, subst, ◌∙◌, arith}
use Rattle.std.specs.List.{AllByRecursion, filter_map, list_all}
use Rattle.std.proofs.lemmas.Bool.{and_parts}
use Rattle.std.proofs.lemmas.List.Elements.{filter_map-append}
use Rattle.base_core.specs.declared.ids.ClassId.{ClassId}
use Rattle.base_core.specs.declared.ids.TableId.{TableId}
use Rattle.base_core.specs.declared.value.Kind.{Kind}
use Rattle.schema_core.specs.Catalog.{Catalog, key_columns, spec_of}
use Rattle.schema_core.specs.declared.table.TableSpec.{TableSpec}
use Rattle.expr_types.specs.declared.expr.Origin.{Origin}
use Rattle.class_types.specs.declared.mapped.Relation.{Relation}
use Rattle.class_layouts.specs.Columns.{own_table}
use Rattle.class_layouts.specs.Hierarchy.{line_of}
use Rattle.class_sides.specs.Keys.{TableKey, foreign_at, names_of}
use Rattle.class_sides.specs.Sides.{has_attribute}
use Rattle.class_mapping.specs.Mapped.{Mapped, layout_of, partner_of, tables_of}
use Rattle.class_mapping.specs.Paired.{IsBack, is_at_or_under}
use Rattle.class_mapping.specs.Related.{IsRelated, has_keys, many_side, one_side}
use Rattle.class_mapping.specs.Valid.{is_among, refers_by}
use Rattle.class_mapping.proofs.Having.{Has, has_left}
use Rattle.mapping_laws.specs.Hierarchies.{HasHierarchies, kinds_of}
use Rattle.mapping_laws.proofs.Tables.{tables_declared}
use Rattle.mapping_laws.proofs.Ties.{table_faultless}
use Rattle.load_columns.specs.declared.placing.SourceColumn.{SourceColumn}
use Rattle.load_columns.specs.Placing.{columns_at, foreign_numbers, key_numbers, referred_table}
use Rattle.load_selects.specs.Sources.{refers}
use Rattle.collection_selects.proofs.Keys.{IsAt, key_some, key_typed}
use Rattle.collection_selects.proofs.MemberLemmas.{RefersTo, among_has, foreign_typed, referred, referred_is}
use Rattle.collection_selects.proofs.Plain.{IsPart}
use Rattle.collection_selects.proofs.Typed.{AreTyped, equal_some, equal_stand, typed_long}

-- ---- the class that declares a relationship

-- the tables of a class that another one is at or under are that one's too
pub tables_under : (mapped : Mapped) (class above : ClassId) (table : TableId) → HasHierarchies mapped → is_at_or_under mapped class above ≡ true → Has (tables_of mapped above) table → Has (tables_of mapped class) table
tables_under mapped class above table has under there =
    let nested = has.lines.nested class.0 above under in
    let own : ClassId → Option TableId = λ one. own_table mapped.schema.tables mapped.classes one.0 in
    subst (λ (tables : List TableId). Has tables table) (sym (ap (filter_map own) nested.1 ∙ filter_map-append own (line_of mapped.classes above.0) nested.0))
    (has_left (filter_map own (line_of mapped.classes above.0)) (filter_map own nested.0) table there)

-- a class with a relationship is at or under the one that declares it
pub declared_above : (mapped : Mapped) (class : ClassId) (relation : Relation) → IsRelated mapped relation → IsBack mapped class relation (partner_of mapped relation) → is_at_or_under mapped class relation.class ≡ true
declared_above mapped class relation related back =
    let partners = related.partner.1 in
    let led = subst (IsBack mapped class relation) partners.there back in
    ap (is_at_or_under mapped class) (sym partners.target) ∙ led.1

-- ---- a foreign key without a secondary table

pub record HasKey (mapped : Mapped) (relation : Relation) : Type 0 where
  pub inside : Has (tables_of mapped (many_side relation)) relation.foreign.0
  pub refers : RefersTo mapped relation.foreign (one_side relation)

pub key_of : (mapped : Mapped) (relation : Relation) → has_keys mapped relation None ≡ true → HasKey mapped relation
key_of mapped relation h =
    let tables : List TableSpec = mapped.schema.tables in
    let key : TableKey = relation.foreign in
    let own : List TableId = tables_of mapped (many_side relation) in
    let named : Bool = list_all (has_attribute (layout_of mapped (many_side relation)).attributes key.0) (names_of tables key) in
    let split = and_parts (is_among own key.0 && named) (refers_by tables (tables_of mapped (one_side relation)) (foreign_at tables key)) h in
    record {
      inside = among_has own key.0 (and_parts (is_among own key.0) named split.0).0;
      refers = referred mapped key (one_side relation) (foreign_at tables key) refl split.1;
    }

-- ---- conditions that tie two sources by a foreign key

pub refers_stand : (mapped : Mapped) (sources : List Origin) (key : TableKey) (class : ClassId) (referred referring : ℕ) → HasHierarchies mapped → (to : RefersTo mapped key class)
    → IsAt sources referred (referred_table mapped key) → IsAt sources referring key.0
    → (1 ≤ length (refers mapped key referred referring)) × AllByRecursion (IsPart mapped.schema sources) (refers mapped key referred referring)
refers_stand mapped sources key class referred referring has to there here =
    let schema : Catalog = mapped.schema in
    let kinds : List Kind = kinds_of (key_columns (spec_of schema to.table)) in
    let one : List SourceColumn = columns_at referred (key_numbers mapped (referred_table mapped key)) in
    let other : List SourceColumn = columns_at referring (foreign_numbers mapped key) in
    let first : AreTyped schema sources one kinds =
    subst (λ (table : TableId). AreTyped schema sources one (kinds_of (key_columns (spec_of schema table)))) (referred_is mapped key class to) (key_typed mapped sources referred (referred_table mapped key) there) in
    let second : AreTyped schema sources other kinds = foreign_typed mapped sources referring key class has to here in
    let some : 0 < length kinds = key_some (spec_of schema to.table).columns (table_faultless mapped to.table has (tables_declared mapped class to.table to.inside)).keyed in
    let long = typed_long schema sources one kinds first in
    let wide = typed_long schema sources other kinds second in
    (equal_some one other (omega (arith, some, long)) (omega (arith, some, wide)), equal_stand schema sources one other kinds first second)
