-- Lines outside blocks that bind nothing.
use Rattle.std.specs.Prelude.{ℕ, List}
use Rattle.script_types.specs.declared.command.Command.{Command}
use Rattle.script_types.specs.declared.command.Command.TheVariants as c
use Rattle.base_core.specs.declared.dialect.Dialect.{Dialect}
use Rattle.base_core.specs.declared.dialect.Dialect.TheVariants.{Sqlite, Postgresql, Mysql}
use Rattle.script_types.specs.declared.command.Term.{Term}
use Rattle.script_lex.specs.declared.kind.Kind.TheVariants as k
use Rattle.script_laws.specs.Readings.Forms.Form.{Form, ◌>>=◌, ◌>>◌, ◌<$>◌, ◌or◌, says, word, maybe}
use Rattle.script_laws.specs.Readings.Forms.Basics.{name, value, term}
use Rattle.script_laws.specs.Readings.Forms.Selects.{select}
use Rattle.script_laws.specs.Readings.Forms.Queries.{query}
use Rattle.script_laws.specs.Readings.Forms.Bulk.{bulk}
use Rattle.script_laws.specs.Readings.Forms.ClassHeads.{class_head}
use Rattle.script_laws.specs.Readings.Forms.Bindings.{member, binding_line}

-- one word
abbrev pub bare_line : Form Command
bare_line =
    (word k.Configure >> says c.Configure)
    or (word k.CreateAll >> says c.CreateAll)
    or (word k.DropAll >> says c.DropAll)
    or (word k.Dump >> says c.Dump)
    or (word k.Flush >> says c.Flush)
    or (word k.Close >> says c.Close)

-- one word and TERM
abbrev pub termed_line : Form Command
termed_line =
    (word k.Add >> c.Add <$> term)
    or (word k.Delete >> c.Delete <$> term)
    or (word k.Expunge >> c.Expunge <$> term)
    or (word k.Expire >> c.Expire <$> term)
    or (word k.Refresh >> c.Refresh <$> term)
    or (word k.State >> c.State <$> term)

-- `set TERM.NAME = VALUE`, or `set TERM.NAME = TERM`
abbrev pub set_line : Form Command
set_line = do
  word k.Set
  owner ← member
  word k.Assign
  (c.SetValue owner.0 owner.1 <$> value) or (c.SetTerm owner.0 owner.1 <$> term)

-- `TERM.NAME TERM`
abbrev pub member_and_term : Form ((Term × List ℕ) × Term)
member_and_term = do
  owner ← member
  other ← term
  says (owner, other)

-- `append TERM.NAME TERM`
abbrev pub append_line : Form Command
append_line = do
  word k.Append
  found ← member_and_term
  says (c.Append found.0.0 found.0.1 found.1)

-- `remove TERM.NAME TERM`
abbrev pub remove_line : Form Command
remove_line = do
  word k.Remove
  found ← member_and_term
  says (c.Remove found.0.0 found.0.1 found.1)

-- `show TERM`, or `show TERM.NAME`
abbrev pub show_line : Form Command
show_line = do
  word k.Show
  owner ← term
  (word k.Dot >> c.ShowMember owner <$> name) or says (c.Show owner)

-- `is TERM TERM`
abbrev pub same_line : Form Command
same_line = do
  word k.Is
  first ← term
  second ← term
  says (c.Same first second)

-- what makes changes, or shows them
abbrev pub acting_line : Form Command
acting_line =
    set_line
    or append_line
    or remove_line
    or show_line
    or same_line
    or (word k.Commit >> c.Commit <$> maybe name)
    or (word k.Rollback >> c.Rollback <$> maybe name)
    or termed_line
    or bare_line

-- `sqlite`, `postgresql`, `mysql`
abbrev pub dialect : Form Dialect
dialect =
    (word k.Sqlite >> says Sqlite) or (word k.Postgresql >> says Postgresql) or (word k.Mysql >> says Mysql)

-- what is compiled: `rows SELECT`, `objects OSELECT`, `bulk BULK`, `table NAME`
abbrev pub compilation : ℕ → Dialect → Form Command
compilation most dialect =
    (word k.Rows >> c.CompileRows dialect <$> select most)
    or (word k.Objects >> c.CompileObjects dialect <$> query most)
    or (word k.Bulk >> c.CompileBulk dialect <$> bulk most)
    or (word k.Table >> c.CompileTable dialect <$> name)

-- `compile`, a dialect, and one of these
abbrev pub compile_line : ℕ → Form Command
compile_line most = word k.Compile >> (dialect >>= compilation most)

-- a line that binds nothing, where so many of parentheses, `not` and unary minus may nest in an expression
abbrev pub top_line : ℕ → Form Command
top_line most =
    (word k.Table >> c.TableHead <$> name)
    or class_head
    or (word k.Rows >> c.Rows <$> select most)
    or (word k.Bulk >> c.Bulk <$> bulk most)
    or compile_line most
    or acting_line

-- any line outside blocks
abbrev pub outer_line : ℕ → Form Command
outer_line most = binding_line most or top_line most
