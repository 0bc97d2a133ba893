-- The main select of a query for objects: its own select with the sources and columns of its joined options.
use Rattle.std.specs.Prelude.{ℕ, suc, ◌-◌, ◌==◌, true, List, [], ◌∷◌, ◌++◌, length, map, fold, Some, if◌then◌else◌}
use Rattle.std.specs.List.{flat_map, range_with_len}
use Rattle.std.specs.Option.{option_map}
use Rattle.base_core.specs.declared.ids.ClassId.{ClassId}
use Rattle.base_core.specs.declared.ids.RelNo.{RelNo}
use Rattle.schema_core.specs.Catalog.{Catalog, spec_of}
use Rattle.expr_types.specs.declared.select.Joined.{Joined}
use Rattle.expr_types.specs.declared.select.ObjectQuery.{ObjectQuery}
use Rattle.expr_types.specs.declared.select.Select.{Select}
use Rattle.class_types.specs.declared.mapped.Relation.{Relation}
use Rattle.class_mapping.specs.Mapped.{Mapped, root_table, tables_of}
use Rattle.object_arena.specs.Fit.{relation_of}
use Rattle.load_columns.specs.declared.placing.Placement.{Placement}
use Rattle.load_columns.specs.declared.placing.SourceColumn.{SourceColumn}
use Rattle.load_selects.specs.declared.sources.Further.{Further}
use Rattle.load_columns.specs.Placing.{attribute_columns, from_root, key_at_rank}
use Rattle.load_columns.specs.Conditions.{conjoined}
use Rattle.load_selects.specs.Branches.{is_of_branch}
use Rattle.load_selects.specs.Sources.{related_sources, target_placement}
use Rattle.load_selects.specs.Selects.{item_of}
use Rattle.alias_names.specs.Names.{free_alias, taken_names}
use Rattle.main_selects.specs.Shifted.{shifted}

-- ---- one joined option

-- a source that is left-joined under an alias of its own
abbrev pub left_joined : Catalog → Select → Further → Joined
left_joined schema s further = record {
  left = true;
  origin = record { table = further.table; alias = Some (free_alias (taken_names schema s) (spec_of schema further.table).name) };
  on = conjoined further.on;
}

abbrev pub with_left_join : Catalog → Select → Further → Select
with_left_join schema s further = record s { joins = s.joins ++ left_joined schema s further ∷ [] }

-- the table of the target's root is joined by the rows of its branch alone
abbrev pub within_branch : Mapped → ClassId → Placement → Further → Further
within_branch mapped class placement further =
    if further.table.0 == (root_table mapped class).0 then record further { on = further.on ++ is_of_branch mapped class placement } else further

-- how many tables a class has behind its root's
abbrev pub further_count : Mapped → ClassId → ℕ
further_count mapped class = length (tables_of mapped class) - 1

-- the keys of those tables
abbrev pub further_keys : Mapped → ClassId → Placement → List SourceColumn
further_keys mapped class placement = flat_map (key_at_rank mapped class placement) (range_with_len 1 (further_count mapped class))

-- what a joined option reads of its target: the attributes, and those keys
abbrev pub option_columns : Mapped → ClassId → Placement → List SourceColumn
option_columns mapped class placement = attribute_columns mapped class placement ++ further_keys mapped class placement

abbrev pub option_sources : Mapped → ClassId → Relation → ℕ → List Further
option_sources mapped class relation sources =
    map (within_branch mapped relation.target (target_placement mapped relation sources)) (related_sources mapped class (from_root 0) relation sources)

-- a select with more items
abbrev pub with_items : Select → List SourceColumn → Select
with_items s columns = record s { items = s.items ++ map item_of columns }

-- a select of a class with one joined option more
abbrev pub with_option : Mapped → ClassId → Select → Relation → Select
with_option mapped class s relation =
    let sources = suc (length s.joins) in
    with_items (fold (with_left_join mapped.schema) s (option_sources mapped class relation sources)) (option_columns mapped relation.target (target_placement mapped relation sources))

-- ---- the query

-- the condition and the order of a select under the sources of a wider one
abbrev pub with_shifted : Select → Select → Select
with_shifted s wide =
    let own = suc (length s.joins) in
    let more = length wide.joins - length s.joins in
    record wide { filter = option_map (shifted own more) s.filter; order = map (λ key. (shifted own more key.0, key.1)) s.order }

abbrev pub with_joined : Mapped → ClassId → Select → RelNo → Select
with_joined mapped class s place = with_option mapped class s (relation_of mapped class place)

-- a query's main select
unfoldable pub main_select : Mapped → ObjectQuery → Select
main_select mapped query = with_shifted query.select (fold (with_joined mapped query.class) query.select query.joined)
