-- Blocks of lines: what their lines declare, and what becomes of the declarations at their end.
use Rattle.std.specs.Prelude.{ℕ, false, [], ◌∷◌, ◌++◌, Result, Ok, Err}
use Rattle.base_core.specs.declared.refusal.Refusal.{Refusal}
use Rattle.base_core.specs.declared.refusal.Refusal.TheVariants.{Memory, ArgumentError, NotBuilt}
use Rattle.schema_core.specs.declared.table.TableSpec.{TableSpec}
use Rattle.class_types.specs.declared.declared.ClassSpec.{ClassSpec}
use Rattle.class_types.specs.Rules.{Rules}
use Rattle.class_mapping.specs.Mapped.{Mapped}
use Rattle.class_mapping.specs.Declaring.{declare_class, declare_table}
use Rattle.script_types.specs.declared.command.Command.{Command}
use Rattle.script_types.specs.declared.command.Command.TheVariants as line
use Rattle.script_types.specs.declared.command.Inside.{Inside}
use Rattle.script_types.specs.declared.command.Inside.TheVariants as inside
use Rattle.shell_parts.specs.declared.block.Block.{Block}
use Rattle.shell_parts.specs.declared.block.Declared.{Declared}
use Rattle.shell_parts.specs.declared.block.Declared.TheVariants.{Table, Class}

-- what the head of a block declares, without lines yet; every other line is not built
abbrev pub declared_of : Command → Result Declared Refusal
declared_of (line.TableHead name) = Ok (Table (record { name = name; columns = []; uniques = []; foreigns = [] }))
declared_of (line.ClassHead name base table discriminator identity owned) =
    Ok (Class (record { name = name; base = base; table = table; discriminator = discriminator; identity = identity; owned = owned; relations = []; validators = [] }))
declared_of other = Err NotBuilt

abbrev pub block_over : ℕ → Result Declared Refusal → Result Block Refusal
block_over first (Ok declared) = Ok (record { declared = declared; first = first; skipping = false })
block_over first (Err e) = Err e

-- the block that the head of this number opens
abbrev pub block_of : Command → ℕ → Result Block Refusal
block_of head first = block_over first (declared_of head)

-- the forms of the block's lines
abbrev pub forms_of : Declared → Inside
forms_of (Table spec) = inside.Table
forms_of (Class spec) = inside.Class

-- the table with one more line of its block; a line of another form adds nothing
abbrev pub with_table_line : TableSpec → Command → TableSpec
with_table_line spec (line.ColumnLine column) = record spec { columns = spec.columns ++ column ∷ [] }
with_table_line spec (line.UniqueLine columns) = record spec { uniques = spec.uniques ++ columns ∷ [] }
with_table_line spec (line.ForeignLine foreign) = record spec { foreigns = spec.foreigns ++ foreign ∷ [] }
with_table_line spec other = spec

-- the class with one more line of its block; a line of another form adds nothing
abbrev pub with_class_line : ClassSpec → Command → ClassSpec
with_class_line spec (line.RelationLine relation) = record spec { relations = spec.relations ++ relation ∷ [] }
with_class_line spec (line.ValidateLine attribute hook) = record spec { validators = spec.validators ++ (attribute, hook) ∷ [] }
with_class_line spec other = spec

-- what is declared with one more line
abbrev pub with_line : Declared → Command → Declared
with_line (Table spec) added = Table (with_table_line spec added)
with_line (Class spec) added = Class (with_class_line spec added)

-- an answer without the number that was given
abbrev pub without_number : {A : Type 0} → Result (A × Mapped) Refusal → Result (Unit {0} × Mapped) Refusal
without_number (Ok p) = Ok (tt, p.1)
without_number (Err e) = Err e

-- the answer to what the block declares, where these validators are known
abbrev pub declare : Rules → Declared → Mapped → Result (Unit {0} × Mapped) Refusal
declare rules (Table spec) mapped = without_number (declare_table mapped spec)
declare rules (Class spec) mapped = without_number (declare_class rules mapped spec)

-- a refusal of a declaration, or `Memory`
abbrev pub IsOfDeclaring : Refusal → Type 0
IsOfDeclaring Memory = Unit {0}
IsOfDeclaring (ArgumentError kind) = Unit {0}
IsOfDeclaring e = ⊥
