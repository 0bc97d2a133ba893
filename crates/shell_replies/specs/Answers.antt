-- What is told of a line's answer, byte by byte.
use Rattle.std.specs.Prelude.{ℕ, List, [], ◌++◌, codes}
use Rattle.std.specs.List.{All, flat_map}
use Rattle.base_core.specs.declared.ids.ClassId.{ClassId}
use Rattle.base_core.specs.declared.ids.ObjId.{ObjId}
use Rattle.base_core.specs.declared.ids.TableId.{TableId}
use Rattle.base_core.specs.declared.value.Value.{Value}
use Rattle.schema_core.specs.Catalog.{Catalog, IsTable, spec_of}
use Rattle.class_mapping.specs.Mapped.{Mapped}
use Rattle.object_arena.specs.declared.object.State.{State}
use Rattle.object_arena.specs.declared.object.State.TheVariants.{Transient, Pending, Persistent, Deleted, Detached}
use Rattle.printing.specs.Texts.{bool_text, name_with_number, value_text, with_separators}
use Rattle.shell_parts.specs.declared.names.Bound.{Bound}
use Rattle.shell_parts.specs.declared.names.Bound.TheVariants.{Nothing, Object, Objects, Saved}
use Rattle.command_resolve.specs.declared.answer.Answer.{Answer}
use Rattle.command_resolve.specs.declared.answer.Answer.TheVariants as answer
use Rattle.shell_replies.specs.Naming.{class_name}
use Rattle.shell_replies.specs.Replies.{count_line, rows_text, table_text}

-- an object with its class: the name of the class, `@`, and the number
abbrev pub member_text : Mapped → ObjId × ClassId → List ℕ
member_text mapped member = name_with_number (class_name mapped member.1) member.0

-- what is shown of a thing: `null`, an object, or a list of objects in brackets; a savepoint is not shown
abbrev pub thing_text : Mapped → Bound → List ℕ
thing_text mapped Nothing = codes "null"
thing_text mapped (Object object class) = member_text mapped (object, class)
thing_text mapped (Objects members) = codes "[" ++ with_separators (codes ", ") (member_text mapped) members ++ codes "]"
thing_text mapped (Saved number) = []

abbrev pub state_text : State → List ℕ
state_text Transient = codes "transient"
state_text Pending = codes "pending"
state_text Persistent = codes "persistent"
state_text Deleted = codes "deleted"
state_text Detached = codes "detached"

-- each table with its rows
abbrev pub tables_text : Catalog → List (TableId × List (List Value)) → List ℕ
tables_text schema tables = flat_map (λ table. table_text (spec_of schema table.0) table.1) tables

abbrev pub line_of : List ℕ → List ℕ
line_of text = text ++ codes "\n"

-- what is told of an answer
abbrev pub answer_text : Mapped → Answer → List ℕ
answer_text mapped (answer.Value value) = line_of (value_text value)
answer_text mapped (answer.Thing thing) = line_of (thing_text mapped thing)
answer_text mapped (answer.State state) = line_of (state_text state)
answer_text mapped (answer.Same same) = line_of (bool_text same)
answer_text mapped (answer.Rows rows) = rows_text rows
answer_text mapped (answer.Count count) = count_line count
answer_text mapped (answer.Tables tables) = tables_text mapped.schema tables
answer_text mapped other = []

-- the tables that are told of are declared
abbrev pub CanBeTold : Mapped → Answer → Type 0
CanBeTold mapped (answer.Tables tables) = All (λ table. IsTable mapped.schema table.0) tables
CanBeTold mapped other = Unit {0}
