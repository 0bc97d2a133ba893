-- What a query for objects as it is written asks for, with numbers in the place of its names, or why it is refused.
use Rattle.std.specs.Prelude.{◌<◌, ℕ, Bool, not, List, ◌++◌, length, map, Option, None, Some, Ok, if◌then◌else◌}
use Rattle.std.specs.List.{All, filter, flat_map}
use Rattle.std.specs.Option.{option_to_list}
use Rattle.base_core.specs.declared.ids.ClassId.{ClassId}
use Rattle.base_core.specs.declared.ids.RelNo.{RelNo}
use Rattle.base_core.specs.declared.refusal.Refusal.{Refusal}
use Rattle.base_core.specs.declared.refusal.Refusal.TheVariants.{InvalidRequestError}
use Rattle.base_core.specs.declared.refusal.RequestKind.TheVariants.{JoinedLimit}
use Rattle.schema_core.specs.Catalog.{same_name}
use Rattle.expr_types.specs.declared.expr.Expr.{Expr}
use Rattle.expr_types.specs.declared.select.ObjectQuery.{ObjectQuery}
use Rattle.expr_types.specs.declared.select.Select.{Select}
use Rattle.expr_types.specs.NormalSelect.{normal_select}
use Rattle.sql_semantics.specs.Checked.{Checked, ◌>>=◌}
use Rattle.class_mapping.specs.Mapped.{Mapped, class_spec, relations_of, root_table}
use Rattle.load_columns.specs.Placing.{attribute_columns, from_root}
use Rattle.load_selects.specs.Branches.{is_of_branch}
use Rattle.load_selects.specs.Selects.{select_of}
use Rattle.script_types.specs.declared.expression.Syn.{Syn}
use Rattle.script_types.specs.declared.select.SynQuery.{SynQuery}
use Rattle.script_names.specs.Faults.{pair_or_refusal, unless}
use Rattle.script_resolve.specs.Refusals.{CanRefuse}
use Rattle.command_names.specs.Attributes.{class_named}
use Rattle.command_names.specs.Terms.{unknown}
use Rattle.query_names.specs.declared.scope.PlacedClass.{PlacedClass}
use Rattle.query_names.specs.declared.scope.QueryScope.{QueryScope}
use Rattle.query_names.specs.declared.sources.QuerySources.{QuerySources}
use Rattle.query_names.specs.Expressions.{expression_said, in_order}
use Rattle.query_names.specs.Judging.{query_faults}
use Rattle.query_names.specs.Sources.{class_alone, relation_named, scope_of, with_joins}

-- ---- the parts, in reading order

abbrev pub filter_said : Mapped → QueryScope → Option Syn → Checked (Option Expr)
filter_said mapped scope None = Ok None
filter_said mapped scope (Some e) = expression_said mapped e scope >>= λ e. Ok (Some e)

-- an expression by which rows are ordered; true for `desc`
abbrev pub key_said : Mapped → QueryScope → Syn × Bool → Checked (Expr × Bool)
key_said mapped scope key = expression_said mapped key.0 scope >>= λ e. Ok (e, key.1)

abbrev pub order_said : Mapped → QueryScope → List (Syn × Bool) → Checked (List (Expr × Bool))
order_said mapped scope keys = in_order (map (key_said mapped scope) keys)

-- a relationship that is loaded with the objects, true for `joined`; it is one of the query's own class
abbrev pub option_said : Mapped → ClassId → Bool × List ℕ × List ℕ → Checked (Bool × RelNo)
option_said mapped class option =
    (if same_name (class_spec mapped class).name option.1 then relation_named mapped class option.2 else unknown option.1) >>= λ place. Ok (option.0, place)

abbrev pub options_said : Mapped → ClassId → List (Bool × List ℕ × List ℕ) → Checked (List (Bool × RelNo))
options_said mapped class options = in_order (map (option_said mapped class) options)

-- a condition, an order and options
abbrev pub Parts : Type 0
Parts = Option Expr × (List (Expr × Bool) × List (Bool × RelNo))

abbrev pub rest_said : Mapped → ClassId → QueryScope → SynQuery → Checked (List (Expr × Bool) × List (Bool × RelNo))
rest_said mapped class scope written = pair_or_refusal (order_said mapped scope written.order) (options_said mapped class written.options)

abbrev pub parts_said : Mapped → ClassId → QueryScope → SynQuery → Checked Parts
parts_said mapped class scope written = pair_or_refusal (filter_said mapped scope written.filter) (rest_said mapped class scope written)

-- ---- the query

-- the condition, and that the rows of each class are of its branch
abbrev pub conditions : Mapped → Option Expr → List PlacedClass → List Expr
conditions mapped filter classes = option_to_list filter ++ flat_map (λ placed. is_of_branch mapped placed.class placed.placement) classes

-- the attributes of the class, from the tables of all classes, where the condition holds
abbrev pub joined_select : Mapped → ClassId → QuerySources → Option Expr → Select
joined_select mapped class sources filter = select_of (root_table mapped class) sources.further (attribute_columns mapped class (from_root 0)) (conditions mapped filter sources.classes)

-- the same in order, and cut
abbrev pub written_select : Mapped → ClassId → QuerySources → SynQuery → Parts → Select
written_select mapped class sources written parts = record (joined_select mapped class sources parts.0) { order = parts.1.0; limit = written.limit; offset = written.offset }

abbrev pub joined_among : List (Bool × RelNo) → List RelNo
joined_among options = map (λ option. option.1) (filter (λ option. option.0) options)

abbrev pub selectin_among : List (Bool × RelNo) → List RelNo
selectin_among options = map (λ option. option.1) (filter (λ option. not option.0) options)

abbrev pub query_of : Mapped → ClassId → QuerySources → SynQuery → Parts → ObjectQuery
query_of mapped class sources written parts = record {
  class = class;
  select = written_select mapped class sources written parts;
  joined = joined_among parts.1.1;
  selectin = selectin_among parts.1.1;
}

abbrev pub named_under : Mapped → SynQuery → ClassId → QuerySources → Checked ObjectQuery
named_under mapped written class sources = parts_said mapped class (scope_of sources) written >>= λ parts. Ok (query_of mapped class sources written parts)

-- the query with numbers for its names, in the form in which it is written, or the first refusal in reading order
abbrev pub named_query : Mapped → SynQuery → Checked ObjectQuery
named_query mapped written = class_named mapped written.class >>= λ class. (with_joins mapped (class_alone mapped class) written.joins >>= named_under mapped written class)

-- ---- the answer

abbrev pub normal_query : ObjectQuery → ObjectQuery
normal_query query = record query { select = normal_select query.select }

-- a query whose names are known: with its select in normal form, or its first fault
abbrev pub judged_query : Mapped → ObjectQuery → Checked ObjectQuery
judged_query mapped query = unless (query_faults mapped query) (normal_query query)

-- the query in numbers, with its select in normal form, or its first fault
unfoldable pub resolved_query : Mapped → SynQuery → Checked ObjectQuery
resolved_query mapped written = named_query mapped written >>= judged_query mapped

-- ---- what is known of it

-- what the names of a query may be refused for, or a limit beside a joined collection
abbrev pub IsOfQueries : Refusal → Type 0
IsOfQueries (InvalidRequestError JoinedLimit) = Unit {0}
IsOfQueries e = CanRefuse e

-- the class has relationships at these places
abbrev pub AreRelations : Mapped → ClassId → List RelNo → Type 0
AreRelations mapped class places = All (λ place. place.0 < length (relations_of mapped class)) places

-- the options of the query are relationships of its class
abbrev pub HasOptions : Mapped → ObjectQuery → Type 0
HasOptions mapped query = AreRelations mapped query.class query.joined × AreRelations mapped query.class query.selectin
