-- Heads of classes.
use Rattle.std.specs.Prelude.{ℕ, List, [], Option, Some, None}
use Rattle.base_core.specs.declared.value.Value.{Value}
use Rattle.script_types.specs.declared.command.Command.{Command}
use Rattle.script_types.specs.declared.command.Command.TheVariants as c
use Rattle.script_lex.specs.declared.kind.Kind.TheVariants as k
use Rattle.script_laws.specs.Readings.Forms.Form.{Form, ◌>>=◌, ◌>>◌, ◌or◌, says, word, maybe}
use Rattle.script_laws.specs.Readings.Forms.Basics.{name, names, literal}

-- `identity LIT`
abbrev pub identity : Form Value
identity = word k.Identity >> literal

-- `discriminator NAME identity LIT`, or nothing
abbrev pub discriminator : Form (Option (List ℕ × Value))
discriminator = maybe (do word k.Discriminator; column ← name; own ← identity; says (column, own))

-- a class of its own, with its discriminator and its identity where it has them
abbrev pub root : List ℕ → List ℕ → Option (List ℕ × Value) → Command
root class table None = c.ClassHead class None (Some table) None None []
root class table (Some found) = c.ClassHead class None (Some table) (Some found.0) (Some found.1) []

-- `table NAME [discriminator NAME identity LIT]`
abbrev pub root_class : List ℕ → Form Command
root_class class = do
  word k.Table
  table ← name
  found ← discriminator
  says (root class table found)

-- `owns (NAME {, NAME})`, or nothing
abbrev pub owns_list : Form (List (List ℕ))
owns_list = (word k.Owns >> names) or says []

-- `extends NAME [table NAME] identity LIT [owns (NAME {, NAME})]`
abbrev pub extending_class : List ℕ → Form Command
extending_class class = do
  word k.Extends
  base ← name
  table ← maybe (word k.Table >> name)
  own ← identity
  columns ← owns_list
  says (c.ClassHead class (Some base) table None (Some own) columns)

-- `class NAME` and one of these
abbrev pub class_head : Form Command
class_head = do
  word k.Class
  class ← name
  root_class class or extending_class class
