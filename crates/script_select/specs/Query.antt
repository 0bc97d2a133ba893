-- Queries for objects.
use Rattle.std.specs.Prelude.{ℕ, zero, suc, Bool, true, false, if◌then◌else◌, List, [], ◌∷◌, ◌++◌, Option, Some, None, Ok}
use Rattle.script_types.specs.declared.select.SynQuery.{SynQuery}
use Rattle.script_lex.specs.declared.kind.Kind.{Kind}
use Rattle.script_lex.specs.declared.kind.Kind.TheVariants as k
use Rattle.script_tokens.specs.Input.{Reader, ◌>>=◌, ◌>>◌, ◌<$>◌, pure, refuse, peek, take_token, eat, expect, clause, turns, comma_list, separated_from}
use Rattle.script_tokens.specs.Many.{many_from}
use Rattle.script_tokens.specs.Names.{name}
use Rattle.script_select.specs.Select.{condition, last_part}

-- `a.b`
unfoldable pub pair : Reader (List ℕ × List ℕ)
pair = do
  first ← name
  expect k.Dot
  second ← name
  pure (first, second)

-- `join a.b join c.d ..`
unfoldable pub joins : Reader (List (List ℕ × List ℕ))
joins = λ i. many_from (clause k.Join pair) (turns i) [] i

abbrev pub manner_by : Kind → Reader Bool
manner_by k.Joined = take_token >> pure true
manner_by k.Selectin = take_token >> pure false
manner_by _ = refuse

-- whether the relationship is loaded by a join
unfoldable pub manner : Reader Bool
manner = peek >>= manner_by

unfoldable pub option : Reader (Bool × List ℕ × List ℕ)
option = do
  joined ← manner
  path ← pair
  pure (joined, path.0, path.1)

unfoldable pub option_list : Reader (List (Bool × List ℕ × List ℕ))
option_list = comma_list option

-- `with ..`, where it comes next
unfoldable pub options : Reader (List (Bool × List ℕ × List ℕ))
options = do
  found ← eat k.With
  if found then option_list else pure []

unfoldable pub query : Reader SynQuery
query = do
  class ← name
  others ← joins
  filter ← condition k.Where
  end ← last_part
  loads ← options
  pure (record { class = class; joins = others; filter = filter; order = end.order; limit = end.limit; offset = end.offset; options = loads })
