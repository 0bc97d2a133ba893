-- Selects.
use Rattle.std.specs.Prelude.{ℕ, zero, suc, Bool, true, false, if◌then◌else◌, List, [], ◌∷◌, ◌++◌, Option, Some, None, Ok}
use Rattle.script_types.specs.declared.expression.Syn.{Syn}
use Rattle.script_types.specs.declared.expression.SynSource.{SynSource}
use Rattle.script_types.specs.declared.select.SynJoin.{SynJoin}
use Rattle.script_types.specs.declared.select.SynSelect.{SynSelect}
use Rattle.script_lex.specs.declared.kind.Kind.{Kind}
use Rattle.script_lex.specs.declared.kind.Kind.TheVariants as k
use Rattle.script_lex.specs.Lex.{same_kind}
use Rattle.script_select.specs.declared.select.Ending.{Ending}
use Rattle.script_select.specs.declared.select.Grouping.{Grouping}
use Rattle.script_tokens.specs.Input.{Reader, ◌>>=◌, ◌>>◌, ◌<$>◌, pure, refuse, peek, take_token, eat, expect, clause, turns, comma_list, separated_from}
use Rattle.script_tokens.specs.Many.{many_from}
use Rattle.script_tokens.specs.Names.{name}
use Rattle.script_tokens.specs.Literals.{int}
use Rattle.script_expr.specs.Expr.{whole, source}

-- `e as name`
unfoldable pub item : Reader (Syn × Option (List ℕ))
item = do
  value ← whole
  called ← clause k.As name
  pure (value, called)

unfoldable pub items : Reader (List (Syn × Option (List ℕ)))
items = comma_list item

-- `desc`, `asc` or neither
unfoldable pub is_descending : Reader Bool
is_descending = do
  found ← eat k.Desc
  if found then pure true else eat k.Asc >> pure false

unfoldable pub order_item : Reader (Syn × Bool)
order_item = do
  value ← whole
  down ← is_descending
  pure (value, down)

unfoldable pub order_items : Reader (List (Syn × Bool))
order_items = comma_list order_item

-- `order by ..`, where there is one
unfoldable pub order : Reader (List (Syn × Bool))
order = do
  found ← eat k.Order
  if found then expect k.By >> order_items else pure []

-- a number after this word, where the word comes next
abbrev pub int_after : Kind → Reader (Option ℕ)
int_after word = clause word int

-- `order by .. limit n offset n`, each where there is one
unfoldable pub last_part : Reader Ending
last_part = do
  keys ← order
  limit ← int_after k.Limit
  offset ← int_after k.Offset
  pure (record { order = keys; limit = limit; offset = offset })

unfoldable pub expressions : Reader (List Syn)
expressions = comma_list whole

-- `group by ..`, where there is one
unfoldable pub groups : Reader (List Syn)
groups = do
  found ← eat k.Group
  if found then expect k.By >> expressions else pure []

-- what a word introduces, where it comes next
unfoldable pub condition : Kind → Reader (Option Syn)
condition word = clause word whole

-- `where e group by .. having e`, each where there is one
unfoldable pub middle_part : Reader Grouping
middle_part = do
  filter ← condition k.Where
  keys ← groups
  having ← condition k.Having
  pure (record { filter = filter; groups = keys; having = having })

-- after `join` or `left join`
unfoldable pub join : Bool → Reader SynJoin
join left = do
  from ← source
  expect k.On
  on ← whole
  pure (record { left = left; source = from; on = on })

-- whether a join comes next, and whether it is a left join
abbrev pub join_by : Kind → Reader (Option Bool)
join_by k.Join = take_token >> pure (Some false)
join_by k.Left = take_token >> expect k.Join >> pure (Some true)
join_by _ = pure None

unfoldable pub begins_join : Reader (Option Bool)
begins_join = peek >>= join_by

abbrev pub joined_by : Option Bool → Reader (Option SynJoin)
joined_by None = pure None
joined_by (Some left) = join left >>= (λ j. pure (Some j))

-- a join, where one comes next
abbrev pub join_if_any : Reader (Option SynJoin)
join_if_any = peek >>= (λ kind. join_by kind >>= joined_by)

unfoldable pub joins : Reader (List SynJoin)
joins = λ i. many_from join_if_any (turns i) [] i

-- a select of its parts
abbrev pub select_of_parts : Bool → List (Syn × Option (List ℕ)) → SynSource → List SynJoin → Grouping → Ending → SynSelect
select_of_parts distinct items first joins part end = record {
  distinct = distinct;
  items = items;
  first = first;
  joins = joins;
  filter = part.filter;
  groups = part.groups;
  having = part.having;
  order = end.order;
  limit = end.limit;
  offset = end.offset;
}

unfoldable pub select : Reader SynSelect
select = do
  distinct ← eat k.Distinct
  shown ← items
  expect k.From
  first ← source
  others ← joins
  part ← middle_part
  end ← last_part
  pure (select_of_parts distinct shown first others part end)
