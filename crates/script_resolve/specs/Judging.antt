-- What is judged of a select once its names are known: kinds as it is written, and then where the parts of its normal form stand.
use Rattle.std.specs.Prelude.{ℕ, Bool, true, not, ◌&&◌, List, [], ◌∷◌, ◌++◌, length, map}
use Rattle.std.specs.List.{list_all}
use Rattle.std.specs.Option.{option_to_list}
use Rattle.base_core.specs.declared.refusal.Refusal.{Refusal}
use Rattle.base_core.specs.declared.refusal.RequestKind.TheVariants.{DuplicateFrom, NotGrouped}
use Rattle.schema_core.specs.Catalog.{Catalog}
use Rattle.expr_types.specs.declared.expr.Expr.{Expr}
use Rattle.expr_types.specs.declared.select.Joined.{Joined}
use Rattle.expr_types.specs.declared.select.Select.{Select}
use Rattle.expr_types.specs.NormalSelect.{normal_select}
use Rattle.sql_semantics.specs.Plain.{and_having, are_distinct, is_grouped, is_well_grouped, lacks_aggregate, name_of, names_apart, outputs, sources_of}
use Rattle.plain_statements.specs.Tested.{names_of}
use Rattle.script_names.specs.Faults.{fault_if}
use Rattle.statement_kinds.specs.Mismatches.{mismatches}

-- ---- groups

-- what is evaluated for each row before there are groups
abbrev pub before_groups : Select → List Expr
before_groups s = map (λ join. join.on) s.joins ++ option_to_list s.filter ++ s.groups

-- columns and aggregates stand where groups let them
abbrev pub has_parts_in_place : Select → Bool
has_parts_in_place s =
    list_all lacks_aggregate (before_groups s)
    && list_all (is_well_grouped (is_grouped s) s.groups (length (sources_of s))) (and_having s.having (outputs s))

-- ---- names of sources

-- no `exists` in the condition of a join adds a name that stands around it
abbrev pub joins_apart : Catalog → List (List ℕ) → List Joined → Bool
joins_apart schema before [] = true
joins_apart schema before (join ∷ joins) =
    names_apart schema join.on (before ++ name_of schema join.origin ∷ []) && joins_apart schema (before ++ name_of schema join.origin ∷ []) joins

-- what stands under all sources
abbrev pub under_sources : Select → List Expr
under_sources s = option_to_list s.filter ++ s.groups ++ and_having s.having (outputs s)

-- no two sources in one scope have one name
abbrev pub has_names_apart : Catalog → Select → Bool
has_names_apart schema s =
    are_distinct (names_of schema (sources_of s))
    && joins_apart schema (name_of schema s.first ∷ []) s.joins
    && list_all (λ e. names_apart schema e (names_of schema (sources_of s))) (under_sources s)

-- ---- the answer

-- where the parts of a select stand
unfoldable pub place_faults : Catalog → Select → List Refusal
place_faults schema s = fault_if (not (has_parts_in_place s)) NotGrouped ++ fault_if (not (has_names_apart schema s)) DuplicateFrom

-- all faults of a select whose names are known, in the order in which they are told: kinds as it is written, then the places of its normal form
abbrev pub judged_select : Catalog → Select → List Refusal
judged_select schema s = mismatches schema s ++ place_faults schema (normal_select s)
