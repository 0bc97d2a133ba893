-- Lines that bind a name.
use Rattle.std.specs.Prelude.{ℕ, Bool, true, false, if◌then◌else◌, List, [], ◌∷◌, Option, Some, None, Ok, Err}
use Rattle.script_types.specs.declared.command.Command.{Command}
use Rattle.script_types.specs.declared.command.Command.TheVariants as c
use Rattle.script_lex.specs.declared.kind.Kind.{Kind}
use Rattle.script_lex.specs.declared.kind.Kind.TheVariants as k
use Rattle.script_tokens.specs.Input.{Reader, ◌>>=◌, ◌>>◌, ◌<$>◌, pure, refuse, peek, take_token, eat, expect, clause, sees, comma_list}
use Rattle.script_tokens.specs.Names.{name, names}
use Rattle.base_core.specs.declared.value.Value.{Value}
use Rattle.script_tokens.specs.Literals.{value, literals}
use Rattle.script_select.specs.Query.{query}
use Rattle.script_read.specs.Terms.{member}

-- `name = value`
unfoldable pub cell : Reader (List ℕ × Value)
cell = do
  attribute ← name
  expect k.Assign
  found ← value
  pure (attribute, found)

unfoldable pub cells : Reader (List (List ℕ × Value))
cells = comma_list cell

-- no cells where the line ends
unfoldable pub cells_if_any : Reader (List (List ℕ × Value))
cells_if_any = λ i. if sees k.LineEnd i then Ok ([], i) else cells i

-- after `name = new`
unfoldable pub new_object : List ℕ → Reader Command
new_object bound = do
  class ← name
  found ← cells_if_any
  pure (c.New bound class found)

-- after `name = get`
unfoldable pub object_by_key : List ℕ → Reader Command
object_by_key bound = do
  class ← name
  expect k.LParen
  key ← literals
  expect k.RParen
  pure (c.Get bound class key)

-- after `name = related`
unfoldable pub related_object : List ℕ → Reader Command
related_object bound = do
  found ← member
  pure (c.Related bound found.0 found.1)

abbrev pub binding_by : List ℕ → Kind → Reader Command
binding_by bound k.New = take_token >> new_object bound
binding_by bound k.Get = take_token >> object_by_key bound
binding_by bound k.Objects = take_token >> c.Objects bound <$> query
binding_by bound k.Related = take_token >> related_object bound
binding_by bound k.BeginNested = take_token >> pure (c.BeginNested bound)
binding_by bound _ = refuse

-- after `name =`
unfoldable pub bound_to : List ℕ → Reader Command
bound_to bound = peek >>= binding_by bound

unfoldable pub binding : Reader Command
binding = do
  bound ← name
  expect k.Assign
  bound_to bound
