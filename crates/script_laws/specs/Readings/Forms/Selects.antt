-- Selects.
use Rattle.std.specs.Prelude.{ℕ, Bool, true, false, List, [], Option}
use Rattle.script_types.specs.declared.expression.Syn.{Syn}
use Rattle.script_types.specs.declared.select.SynJoin.{SynJoin}
use Rattle.script_types.specs.declared.select.SynSelect.{SynSelect}
use Rattle.script_lex.specs.declared.kind.Kind.{Kind}
use Rattle.script_lex.specs.declared.kind.Kind.TheVariants as k
use Rattle.script_laws.specs.Readings.Forms.Form.{Form, ◌>>=◌, ◌>>◌, ◌or◌, says, word, maybe, whether, separated_list}
use Rattle.script_laws.specs.Readings.Forms.Basics.{name, int}
use Rattle.script_laws.specs.Readings.Forms.Expressions.{many, source, expression_to}

-- whether it is `desc`: `desc`, `asc`, or neither
abbrev pub is_descending : Form Bool
is_descending = (word k.Desc >> says true) or (whether (word k.Asc) >> says false)

-- a word and INT, or nothing
abbrev pub int_after : Kind → Form (Option ℕ)
int_after kind = maybe (word kind >> int)

-- The number says how many of parentheses, `not` and unary minus may nest in an expression.
module _ (most : ℕ) where
  -- `EXPR [as NAME]`
  abbrev pub item : Form (Syn × Option (List ℕ))
  item = do
    value ← expression_to most
    called ← maybe (word k.As >> name)
    says (value, called)

  -- `[left] join SRC on EXPR`
  abbrev pub join : Form SynJoin
  join = do
    left ← whether (word k.Left)
    word k.Join
    from ← source
    word k.On
    on ← expression_to most
    says (record { left = left; source = from; on = on })

  -- a word and EXPR, or nothing
  abbrev pub condition : Kind → Form (Option Syn)
  condition kind = maybe (word kind >> expression_to most)

  -- `group by EXPR {, EXPR}`, or nothing
  abbrev pub groups : Form (List Syn)
  groups = (word k.Group >> (word k.By >> separated_list k.Comma (expression_to most))) or says []

  -- `EXPR [asc | desc]`
  abbrev pub key : Form (Syn × Bool)
  key = do
    value ← expression_to most
    down ← is_descending
    says (value, down)

  -- ORDER: `order by EXPR [asc | desc] {, EXPR [asc | desc]}`, or nothing
  abbrev pub order : Form (List (Syn × Bool))
  order = (word k.Order >> (word k.By >> separated_list k.Comma key)) or says []

  -- SELECT: `[distinct] EXPR [as NAME] {, EXPR [as NAME]} from SRC {[left] join SRC on EXPR} [where EXPR] [group by EXPR {, EXPR}] [having EXPR] ORDER [limit INT] [offset INT]`
  abbrev pub select : Form SynSelect
  select = do
    distinct ← whether (word k.Distinct)
    items ← separated_list k.Comma item
    word k.From
    first ← source
    joins ← many join
    filter ← condition k.Where
    keys ← groups
    having ← condition k.Having
    ordered ← order
    limit ← int_after k.Limit
    offset ← int_after k.Offset
    says (record {
      distinct = distinct;
      items = items;
      first = first;
      joins = joins;
      filter = filter;
      groups = keys;
      having = having;
      order = ordered;
      limit = limit;
      offset = offset;
    })
