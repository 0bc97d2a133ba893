-- What a declaration is refused with.
use Rattle.std.proofs.Common.{Option, None, Some, Result, IfErr, subst, sym}
use Rattle.base_core.specs.Answers.{Refuses}
use Rattle.base_core.specs.declared.refusal.ArgumentKind.{ArgumentKind}
use Rattle.base_core.specs.declared.refusal.Refusal.{Refusal}
use Rattle.base_core.specs.declared.refusal.Refusal.TheVariants.{Memory}
use Rattle.schema_core.specs.declared.table.TableSpec.{TableSpec}
use Rattle.schema_core.specs.Declaration.{declare, declared_unless, declaration_fault}
use Rattle.class_types.specs.declared.declared.ClassSpec.{ClassSpec}
use Rattle.class_types.specs.Rules.{Rules}
use Rattle.class_layouts.specs.Faults.{class_fault}
use Rattle.class_mapping.specs.Mapped.{Mapped}
use Rattle.class_mapping.specs.Declaring.{class_unless, declare_class, declare_table, over_tables}
use Rattle.shell_parts.specs.Blocks.{IsOfDeclaring}

-- a refusal that is what is told is of the told kind, or `Memory`
of_told : {A : Type 0} (told : Result A Refusal) → IfErr told IsOfDeclaring → (e : Refusal) → Refuses e told → IsOfDeclaring e
of_told told h Memory r = tt
of_told told h e r = subst (λ t. IfErr t IsOfDeclaring) r h

table_told : (mapped : Mapped) (spec : TableSpec) (fault : Option ArgumentKind) → IfErr (over_tables mapped (declared_unless fault mapped.schema spec)) IsOfDeclaring
table_told mapped spec None = tt
table_told mapped spec (Some fault) = tt

-- a declaration of a table is refused with a fault of its own
pub table_refused : (mapped : Mapped) (spec : TableSpec) (e : Refusal) → Refuses e (declare_table mapped spec) → IsOfDeclaring e
unfolding declare_table declare
table_refused mapped spec e r = of_told (over_tables mapped (declare mapped.schema spec)) (table_told mapped spec (declaration_fault mapped.schema.tables spec)) e r

class_told : (mapped : Mapped) (spec : ClassSpec) (fault : Option ArgumentKind) → IfErr (class_unless fault mapped spec) IsOfDeclaring
class_told mapped spec None = tt
class_told mapped spec (Some fault) = tt

-- a declaration of a class is refused with a fault of its own
pub class_refused : (rules : Rules) (mapped : Mapped) (spec : ClassSpec) (e : Refusal) → Refuses e (declare_class rules mapped spec) → IsOfDeclaring e
unfolding declare_class
class_refused rules mapped spec e r = of_told (declare_class rules mapped spec) (class_told mapped spec (class_fault rules mapped.schema.tables mapped.classes spec)) e r
