-- Which declarations are taken, and which are a mapping.
use Rattle.std.specs.Prelude.{true, length, Option, None, Some, Result, Ok, Err}
use Rattle.base_core.specs.declared.ids.ClassId.{ClassId}
use Rattle.base_core.specs.declared.ids.TableId.{TableId}
use Rattle.base_core.specs.declared.refusal.ArgumentKind.{ArgumentKind}
use Rattle.base_core.specs.declared.refusal.Refusal.{Refusal}
use Rattle.base_core.specs.declared.refusal.Refusal.TheVariants.{ArgumentError}
use Rattle.schema_core.specs.declared.table.TableSpec.{TableSpec}
use Rattle.schema_core.specs.Catalog.{Catalog}
use Rattle.schema_core.specs.Declaration.{declare, with_table as with_one_table}
use Rattle.class_types.specs.Rules.{Rules}
use Rattle.class_types.specs.declared.declared.ClassSpec.{ClassSpec}
use Rattle.class_layouts.specs.Hierarchy as hierarchy
use Rattle.class_layouts.specs.Faults.{class_fault}
use Rattle.class_mapping.specs.Mapped.{Mapped, fault_of}

-- what the schema answers, with the declarations over its tables then
abbrev pub over_tables : Mapped → Result (TableId × Catalog) Refusal → Result (TableId × Mapped) Refusal
over_tables mapped (Ok (table, schema)) = Ok (table, record { schema = schema; classes = mapped.classes })
over_tables mapped (Err e) = Err e

-- the answer to a declaration of a table: the schema's
unfoldable pub declare_table : Mapped → TableSpec → Result (TableId × Mapped) Refusal
declare_table mapped spec = over_tables mapped (declare mapped.schema spec)

-- the declarations with one more table
abbrev pub with_table : Mapped → TableSpec → Mapped
with_table mapped spec = record { schema = with_one_table mapped.schema spec; classes = mapped.classes }

-- the declarations with one more class
abbrev pub with_class : Mapped → ClassSpec → Mapped
with_class mapped spec = record { schema = mapped.schema; classes = hierarchy.with_class mapped.classes spec }

abbrev pub class_unless : Option ArgumentKind → Mapped → ClassSpec → Result (ClassId × Mapped) Refusal
class_unless (Some fault) mapped spec = Err (ArgumentError fault)
class_unless None mapped spec = Ok (record { 0 = length mapped.classes.specs }, with_class mapped spec)

-- the answer to a declaration of a class: the next number with the declarations then, or the first fault
unfoldable pub declare_class : Rules → Mapped → ClassSpec → Result (ClassId × Mapped) Refusal
declare_class rules mapped spec = class_unless (class_fault rules mapped.schema.tables mapped.classes spec) mapped spec

-- the declarations with all checked
abbrev pub configured_mapping : Mapped → Mapped
configured_mapping mapped = record { schema = record { tables = mapped.schema.tables; resolved = true }; classes = mapped.classes }

abbrev pub configured_unless : Option ArgumentKind → Mapped → Result Mapped Refusal
configured_unless (Some fault) mapped = Err (ArgumentError fault)
configured_unless None mapped = Ok (configured_mapping mapped)

-- the answer to the check of all declarations: the mapping, or its first fault
unfoldable pub configure : Mapped → Result Mapped Refusal
configure mapped = configured_unless (fault_of mapped) mapped
