-- What is judged of a query whose names are known: its select as every other, and then what it is cut to.
use Rattle.std.specs.Prelude.{Bool, ◌&&◌, ◌||◌, List, ◌++◌}
use Rattle.std.specs.List.{list_any}
use Rattle.std.specs.Option.{is_some}
use Rattle.base_core.specs.declared.refusal.Refusal.{Refusal}
use Rattle.base_core.specs.declared.refusal.RequestKind.TheVariants.{JoinedLimit}
use Rattle.expr_types.specs.declared.select.ObjectQuery.{ObjectQuery}
use Rattle.expr_types.specs.declared.select.Select.{Select}
use Rattle.class_mapping.specs.Mapped.{Mapped}
use Rattle.object_arena.specs.Fit.{relation_of}
use Rattle.script_names.specs.Faults.{fault_if}
use Rattle.script_resolve.specs.Judging.{judged_select}

abbrev pub joins_many : Mapped → ObjectQuery → Bool
joins_many mapped query = list_any (λ place. (relation_of mapped query.class place).many) query.joined

abbrev pub is_cut : Select → Bool
is_cut select = is_some select.limit || is_some select.offset

-- a limit would cut through the members of a joined collection
abbrev pub limit_faults : Mapped → ObjectQuery → List Refusal
limit_faults mapped query = fault_if (is_cut query.select && joins_many mapped query) JoinedLimit

-- all faults of a query whose names are known, in the order in which they are told
abbrev pub query_faults : Mapped → ObjectQuery → List Refusal
query_faults mapped query = judged_select mapped.schema query.select ++ limit_faults mapped query
