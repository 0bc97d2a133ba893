-- Names of a select as it is written.
use Rattle.std.specs.Prelude.{List, [], ◌∷◌, ◌++◌, map}
use Rattle.std.specs.List.{flat_map}
use Rattle.std.specs.Option.{option_map}
use Rattle.base_core.specs.declared.refusal.Refusal.{Refusal}
use Rattle.schema_core.specs.Catalog.{Catalog}
use Rattle.expr_types.specs.declared.select.Joined.{Joined}
use Rattle.expr_types.specs.declared.select.Select.{Select}
use Rattle.script_types.specs.declared.expression.SynSource.{SynSource}
use Rattle.script_types.specs.declared.select.SynJoin.{SynJoin}
use Rattle.script_types.specs.declared.select.SynSelect.{SynSelect}
use Rattle.script_names.specs.Faults.{faults_if_given}
use Rattle.script_names.specs.Scopes.{Scope, outer_scope}
use Rattle.script_names.specs.Naming.{faults_in, name_faults, named_expression, named_origin, said_in, source_faults}

-- the sources in order
abbrev pub sources_written : SynSelect → List SynSource
sources_written s = s.first ∷ map (λ join. join.source) s.joins

abbrev pub scope_written : SynSelect → Scope
scope_written s = outer_scope (sources_written s)

-- ---- faults

-- a further source, and its condition in this scope
abbrev pub join_faults : Catalog → Scope → SynJoin → List Refusal
join_faults schema scope join = source_faults schema join.source ++ name_faults schema join.on scope

-- each join under the sources up to its own
abbrev pub joins_faults : Catalog → List SynSource → List SynJoin → List Refusal
joins_faults schema before [] = []
joins_faults schema before (join ∷ joins) = join_faults schema (outer_scope (before ++ join.source ∷ [])) join ++ joins_faults schema (before ++ join.source ∷ []) joins

-- names that stand for nothing and wrong numbers of operands, in reading order, under these sources
abbrev pub faults_under : Catalog → Scope → SynSelect → List Refusal
faults_under schema scope s =
    flat_map (λ item. name_faults schema item.0 scope) s.items
    ++ source_faults schema s.first
    ++ joins_faults schema (s.first ∷ []) s.joins
    ++ faults_if_given (λ e. name_faults schema e scope) s.filter
    ++ faults_in scope (map (name_faults schema) s.groups)
    ++ faults_if_given (λ e. name_faults schema e scope) s.having
    ++ flat_map (λ key. name_faults schema key.0 scope) s.order

unfoldable pub select_name_faults : Catalog → SynSelect → List Refusal
select_name_faults schema s = faults_under schema (scope_written s) s

-- ---- what is said

abbrev pub named_join : Catalog → Scope → SynJoin → Joined
named_join schema scope join = record { left = join.left; origin = named_origin schema join.source; on = named_expression schema join.on scope }

-- the joins, each with its condition under the sources up to its own
abbrev pub named_joins : Catalog → List SynSource → List SynJoin → List Joined
named_joins schema before [] = []
named_joins schema before (join ∷ joins) = named_join schema (outer_scope (before ++ join.source ∷ [])) join ∷ named_joins schema (before ++ join.source ∷ []) joins

abbrev pub named_under : Catalog → Scope → SynSelect → Select
named_under schema scope s = record {
  distinct = s.distinct;
  items = map (λ item. (named_expression schema item.0 scope, item.1)) s.items;
  first = named_origin schema s.first;
  joins = named_joins schema (s.first ∷ []) s.joins;
  filter = option_map (λ e. named_expression schema e scope) s.filter;
  groups = said_in scope (map (named_expression schema) s.groups);
  having = option_map (λ e. named_expression schema e scope) s.having;
  order = map (λ key. (named_expression schema key.0 scope, key.1)) s.order;
  limit = s.limit;
  offset = s.offset;
}

-- the select with numbers for its names, in the form in which it is written
unfoldable pub named_select : Catalog → SynSelect → Select
named_select schema s = named_under schema (scope_written s) s
