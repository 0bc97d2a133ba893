-- What a select as it is written says, or why it is refused.
use Rattle.std.specs.Prelude.{List, ◌++◌, Result}
use Rattle.base_core.specs.declared.refusal.Refusal.{Refusal}
use Rattle.schema_core.specs.Catalog.{Catalog}
use Rattle.expr_types.specs.declared.select.Select.{Select}
use Rattle.expr_types.specs.NormalSelect.{normal_select}
use Rattle.script_types.specs.declared.select.SynSelect.{SynSelect}
use Rattle.script_names.specs.Faults.{unless}
use Rattle.statement_names.specs.SelectNames.{named_select, select_name_faults}
use Rattle.script_resolve.specs.Judging.{judged_select}

-- all faults of the select, in the order in which they are told: its names, and then what is judged of it in numbers
abbrev pub select_faults : Catalog → SynSelect → List Refusal
select_faults schema s = select_name_faults schema s ++ judged_select schema (named_select schema s)

-- the select in numbers and in normal form, or its first fault
unfoldable pub resolved_select : Catalog → SynSelect → Result Select Refusal
resolved_select schema s = unless (select_faults schema s) (normal_select (named_select schema s))
