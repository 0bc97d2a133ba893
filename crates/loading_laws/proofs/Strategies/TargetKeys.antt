-- The foreign key of a many-to-one relationship has as many values as the target's key has columns.
use Rattle.std.proofs.Common.{◌≡◌, Bool, true, ◌&&◌, List, [], ◌∷◌, length, map, Some, None, if◌then◌else◌, sym, refl, ap, ◌∙◌}
use Rattle.std.specs.List.{list_all}
use Rattle.std.proofs.lemmas.Bool.{and_parts}
use Rattle.std.proofs.lemmas.List.{length-map}
use Rattle.base_core.specs.declared.ids.AttrNo.{AttrNo}
use Rattle.base_core.specs.declared.ids.TableId.{TableId}
use Rattle.base_core.specs.declared.value.Kind.{Kind}
use Rattle.schema_core.specs.declared.table.TableSpec.{TableSpec}
use Rattle.schema_core.specs.Catalog.{key_columns, spec_of}
use Rattle.class_types.specs.declared.mapped.Relation.{Relation}
use Rattle.class_sides.specs.Keys.{TableKey, foreign_at, names_of}
use Rattle.class_sides.specs.Sides.{has_attribute}
use Rattle.class_mapping.specs.Mapped.{Mapped, attributes_of, layout_of, root_spec, root_table, tables_of}
use Rattle.class_mapping.specs.Related.{has_keys}
use Rattle.class_mapping.specs.Valid.{is_among, joins, refers_by}
use Rattle.mapping_laws.specs.Hierarchies.{kinds_of}
use Rattle.mapping_laws.proofs.Ties.{class_tables}
use Rattle.object_arena.specs.declared.object.Object.{Object}
use Rattle.load_columns.specs.Placing.{column_at, column_named, columns_at, foreign_numbers, from_root, key_numbers, place_at_rank, root_key}
use Rattle.collection_selects.proofs.Keys.{key_typed}
use Rattle.collection_selects.proofs.MemberLemmas.{foreign_typed, owned_kinds, referred}
use Rattle.collection_selects.proofs.Typed.{typed_long}
use Rattle.load_selects.specs.Selects.{origin_of}
use Rattle.load_targets.specs.ForeignKeys.{attr_named, foreign_attrs, foreign_key, value_at as held_at}
use Rattle.loading_laws.specs.Strategies.Ends.{IsManyToOne}

pub target_long : (mapped : Mapped) (relation : Relation) (object : Object) → IsManyToOne mapped relation → length (root_key mapped relation.target (from_root 0)) ≡ length (foreign_key mapped relation object)
unfolding foreign_attrs
target_long mapped relation object one =
    let tables : List TableSpec = mapped.schema.tables in
    let key : TableKey = relation.foreign in
    let own : List TableId = tables_of mapped relation.class in
    let keys : has_keys mapped relation None ≡ true = ap (has_keys mapped relation) (sym one.near) ∙ one.related.keys in
    let joined : joins tables (Some (layout_of mapped relation.class)) (Some (layout_of mapped relation.target)) key ≡ true =
    ap (λ (b : Bool). joins tables (Some (layout_of mapped (if b then relation.target else relation.class))) (Some (layout_of mapped (if b then relation.class else relation.target))) key) (sym one.one) ∙ keys in
    let refers = (and_parts (is_among own key.0 && list_all (has_attribute (layout_of mapped relation.class).attributes key.0) (names_of tables key)) (refers_by tables (tables_of mapped relation.target) (foreign_at tables key)) joined).1 in
    let to = referred mapped key relation.target (foreign_at tables key) refl refers in
    let root : TableId = root_table mapped relation.target in
    let names = names_of tables key in
    let attrs : List AttrNo = map (attr_named (attributes_of mapped object.class) key.0) names in
    let place = place_at_rank (from_root 0) 0 in
    length-map (key_numbers mapped root) (column_at place)
    ∙ sym (length-map (key_numbers mapped root) (column_at 0))
    ∙ typed_long mapped.schema (origin_of root ∷ []) (columns_at 0 (key_numbers mapped root)) (kinds_of (key_columns (root_spec mapped relation.target))) (key_typed mapped (origin_of root ∷ []) 0 root refl)
    ∙ ap (λ (kinds : List Kind). length kinds) (owned_kinds mapped key relation.target (class_tables mapped relation.target one.has one.related.target) to)
    ∙ sym (typed_long mapped.schema (origin_of key.0 ∷ []) (columns_at 0 (foreign_numbers mapped key)) (kinds_of (key_columns (spec_of mapped.schema to.table))) (foreign_typed mapped (origin_of key.0 ∷ []) 0 key relation.target one.has to refl))
    ∙ length-map (foreign_numbers mapped key) (column_at 0)
    ∙ length-map names (column_named mapped key.0)
    ∙ sym (length-map names (attr_named (attributes_of mapped object.class) key.0))
    ∙ sym (length-map attrs (held_at object))
