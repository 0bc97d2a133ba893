-- What is judged of a bulk statement once its names are known.
use Rattle.std.specs.Prelude.{not, List, [], ◌++◌}
use Rattle.std.specs.List.{filter_map, list_all}
use Rattle.std.specs.Option.{option_to_list}
use Rattle.base_core.specs.declared.refusal.Refusal.{Refusal}
use Rattle.base_core.specs.declared.refusal.RequestKind.TheVariants.{DuplicateFrom, NotGrouped}
use Rattle.schema_core.specs.Catalog.{Catalog}
use Rattle.expr_types.specs.declared.expr.Expr.{Expr}
use Rattle.expr_types.specs.declared.select.Bulk.{Bulk}
use Rattle.expr_types.specs.declared.select.Bulk.TheVariants.{Insert, Update, Delete}
use Rattle.sql_semantics.specs.Applied.{table_of}
use Rattle.sql_semantics.specs.Plain.{lacks_aggregate, names_apart}
use Rattle.plain_statements.specs.Tested.{names_alone}
use Rattle.script_names.specs.Faults.{fault_if}
use Rattle.statement_kinds.specs.Mismatches.{bulk_mismatches}
use Rattle.statement_kinds.specs.NormalBulk.{normal_bulk}

-- ---- places

-- the expressions in the order of the text
abbrev pub expressions_in : Bulk → List Expr
expressions_in (Insert table columns values) = []
expressions_in (Update table cells filter) = filter_map (λ cell. cell.1) cells ++ option_to_list filter
expressions_in (Delete table filter) = option_to_list filter

-- no aggregate stands in the statement, and no source has the name of one around it
unfoldable pub bulk_place_faults : Catalog → Bulk → List Refusal
bulk_place_faults schema statement =
    fault_if (not (list_all lacks_aggregate (expressions_in statement))) NotGrouped
    ++ fault_if (not (list_all (λ e. names_apart schema e (names_alone schema (table_of statement))) (expressions_in statement))) DuplicateFrom

-- ---- the answer

-- all faults of a bulk statement whose names are known, in the order in which they are told: kinds as it is written, then the places of its normal form
abbrev pub judged_bulk : Catalog → Bulk → List Refusal
judged_bulk schema b = bulk_mismatches schema b ++ bulk_place_faults schema (normal_bulk b)
