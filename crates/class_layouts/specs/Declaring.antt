-- What becomes of the classes where one more is declared.
use Rattle.std.specs.Prelude.{List, Option, None, Some, Result, Ok, Err}
use Rattle.base_core.specs.declared.refusal.ArgumentKind.{ArgumentKind}
use Rattle.base_core.specs.declared.refusal.Refusal.{Refusal}
use Rattle.base_core.specs.declared.refusal.Refusal.TheVariants.{ArgumentError}
use Rattle.schema_core.specs.declared.table.TableSpec.{TableSpec}
use Rattle.class_types.specs.Rules.{Rules}
use Rattle.class_types.specs.declared.declared.ClassSpec.{ClassSpec}
use Rattle.class_layouts.specs.declared.classes.Classes.{Classes}
use Rattle.class_layouts.specs.Hierarchy.{with_class}
use Rattle.class_layouts.specs.Faults.{class_fault}

abbrev pub declared_unless : Option ArgumentKind → Classes → ClassSpec → Result (Unit {0} × Classes) Refusal
declared_unless (Some fault) classes spec = Err (ArgumentError fault)
declared_unless None classes spec = Ok (tt, with_class classes spec)

-- the answer to a declaration: the classes with one more, or its first fault
abbrev pub declare : Rules → List TableSpec → Classes → ClassSpec → Result (Unit {0} × Classes) Refusal
declare rules tables classes spec = declared_unless (class_fault rules tables classes spec) classes spec
