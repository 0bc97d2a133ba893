-- Lines outside every block that bind nothing.
use Rattle.std.specs.Prelude.{ℕ, Bool, true, false, if◌then◌else◌, List, [], ◌∷◌, Option, Some, None, Ok, Err}
use Rattle.script_types.specs.declared.command.Command.{Command}
use Rattle.script_types.specs.declared.command.Command.TheVariants as c
use Rattle.script_lex.specs.declared.kind.Kind.{Kind}
use Rattle.script_lex.specs.declared.kind.Kind.TheVariants as k
use Rattle.script_tokens.specs.Input.{Reader, ◌>>=◌, ◌>>◌, ◌<$>◌, pure, refuse, peek, take_token, eat, expect, clause, sees, comma_list}
use Rattle.script_tokens.specs.Names.{name, names}
use Rattle.std.specs.Prelude.{◌||◌}
use Rattle.base_core.specs.declared.dialect.Dialect.{Dialect}
use Rattle.base_core.specs.declared.dialect.Dialect.TheVariants.{Sqlite, Postgresql, Mysql}
use Rattle.script_types.specs.declared.command.Term.{Term}
use Rattle.script_lex.specs.Lex.{same_kind}
use Rattle.script_tokens.specs.Literals.{value, begins_literal}
use Rattle.script_select.specs.Select.{select}
use Rattle.script_select.specs.Query.{query}
use Rattle.script_select.specs.Bulk.{bulk}
use Rattle.script_read.specs.Terms.{term, member, two, member_and_term}
use Rattle.script_blocks.specs.Classes.{class_head}

-- after `set term.name =`
unfoldable pub set_to : Term → List ℕ → Reader Command
set_to owner called = do
  kind ← peek
  if same_kind kind k.Null || begins_literal kind then c.SetValue owner called <$> value else c.SetTerm owner called <$> term

-- after `set`
unfoldable pub set : Reader Command
set = do
  owner ← member
  expect k.Assign
  set_to owner.0 owner.1

-- after `append`
unfoldable pub append : Reader Command
append = do
  found ← member_and_term
  pure (c.Append found.0.0 found.0.1 found.1)

-- after `remove`
unfoldable pub remove : Reader Command
remove = do
  found ← member_and_term
  pure (c.Remove found.0.0 found.0.1 found.1)

-- after `show`
unfoldable pub show : Reader Command
show = do
  owner ← term
  dotted ← eat k.Dot
  if dotted then c.ShowMember owner <$> name else pure (c.Show owner)

-- after `is`
unfoldable pub same : Reader Command
same = do
  found ← two
  pure (c.Same found.0 found.1)

-- a name, or none where the line ends
unfoldable pub name_if_any : Reader (Option (List ℕ))
name_if_any = λ i. if sees k.LineEnd i then Ok (None, i) else (Some <$> name) i

abbrev pub dialect_by : Kind → Reader Dialect
dialect_by k.Sqlite = take_token >> pure Sqlite
dialect_by k.Postgresql = take_token >> pure Postgresql
dialect_by k.Mysql = take_token >> pure Mysql
dialect_by _ = refuse

unfoldable pub dialect : Reader Dialect
dialect = peek >>= dialect_by

abbrev pub compilation_by : Dialect → Kind → Reader Command
compilation_by d k.Rows = take_token >> c.CompileRows d <$> select
compilation_by d k.Objects = take_token >> c.CompileObjects d <$> query
compilation_by d k.Bulk = take_token >> c.CompileBulk d <$> bulk
compilation_by d k.Table = take_token >> c.CompileTable d <$> name
compilation_by d _ = refuse

-- after `compile` and a dialect
unfoldable pub compilation : Dialect → Reader Command
compilation d = peek >>= compilation_by d

-- after `compile`
unfoldable pub compile : Reader Command
compile = dialect >>= compilation

-- a line of one word
abbrev pub bare_by : Kind → Reader Command
bare_by k.Configure = take_token >> pure c.Configure
bare_by k.CreateAll = take_token >> pure c.CreateAll
bare_by k.DropAll = take_token >> pure c.DropAll
bare_by k.Dump = take_token >> pure c.Dump
bare_by k.Flush = take_token >> pure c.Flush
bare_by k.Close = take_token >> pure c.Close
bare_by _ = refuse

unfoldable pub bare : Reader Command
bare = peek >>= bare_by

-- a line of a word and a term, or of one word
abbrev pub term_command_by : Kind → Reader Command
term_command_by k.Add = take_token >> c.Add <$> term
term_command_by k.Delete = take_token >> c.Delete <$> term
term_command_by k.Expunge = take_token >> c.Expunge <$> term
term_command_by k.Expire = take_token >> c.Expire <$> term
term_command_by k.Refresh = take_token >> c.Refresh <$> term
term_command_by k.State = take_token >> c.State <$> term
term_command_by _ = bare

unfoldable pub term_command : Reader Command
term_command = peek >>= term_command_by

-- lines that change links or show, and those of terms
abbrev pub action_by : Kind → Reader Command
action_by k.Set = take_token >> set
action_by k.Append = take_token >> append
action_by k.Remove = take_token >> remove
action_by k.Show = take_token >> show
action_by k.Is = take_token >> same
action_by k.Commit = take_token >> c.Commit <$> name_if_any
action_by k.Rollback = take_token >> c.Rollback <$> name_if_any
action_by _ = term_command

unfoldable pub action : Reader Command
action = peek >>= action_by

abbrev pub top_by : Kind → Reader Command
top_by k.Table = take_token >> c.TableHead <$> name
top_by k.Class = take_token >> class_head
top_by k.Rows = take_token >> c.Rows <$> select
top_by k.Bulk = take_token >> c.Bulk <$> bulk
top_by k.Compile = take_token >> compile
top_by _ = action

unfoldable pub top : Reader Command
top = peek >>= top_by
