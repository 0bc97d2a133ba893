-- Selects, queries and bulk statements are read as their forms say, where expressions are.
use Rattle.std.proofs.Common.{◌≡◌, ℕ, Bool, true, false, List, [], Option, Some, None, refl, subst}
use Rattle.script_types.specs.declared.select.SynBulk.TheVariants as bulk
use Rattle.script_types.specs.declared.select.SynJoin.{SynJoin}
use Rattle.script_types.specs.declared.expression.Syn.{Syn}
use Rattle.script_types.specs.declared.expression.SynSource.{SynSource}
use Rattle.script_lex.specs.declared.kind.Kind.{Kind}
use Rattle.script_lex.specs.declared.kind.Kind.TheVariants as k
use Rattle.script_tokens.specs.Input.{Input, ◌>>=◌, and_then, kind, next}
use Rattle.script_tokens.specs.Literals.{values}
use Rattle.script_expr.specs.Expr as x
use Rattle.script_select.specs.Select as s
use Rattle.script_select.specs.Query as q
use Rattle.script_select.specs.Bulk as b
use Rattle.script_laws.specs.Readings.Forms.Form.{Form, sequence, says, word, maybe, separated_list, ◌or◌}
use Rattle.script_laws.specs.Readings.Forms.Basics as basic
use Rattle.script_laws.specs.Readings.Forms.Expressions.{many, expression_to, source}
use Rattle.script_laws.specs.Readings.Forms.Selects as form
use Rattle.script_laws.specs.Readings.Forms.Queries as query
use Rattle.script_laws.specs.Readings.Forms.Bulk as statement
use Rattle.script_laws.proofs.Readings.Forms.Taking.{Mode, Out, Whole, Inhabited}
use Rattle.script_laws.proofs.Readings.Forms.Steps.{is_end, budget_none, left_of, right_of, refused_at, some_left}
use Rattle.script_laws.proofs.Readings.Expressions.Steps.{within_at, with_word, without_word}
use Rattle.script_laws.proofs.Readings.Following.{Follows, link, made, token, mapped, instead, listed, introduced, eaten, word_or, one_of, on_kind, behind_word, lead, some_maybe}
use Rattle.script_laws.proofs.Readings.Many.{all_read}
use Rattle.script_laws.proofs.Readings.Terms as terms
use Rattle.script_laws.proofs.Readings.Turns.{two_words_same, select_rest, selected_of, select_flat, query_flat}

module _ (c : Mode) (most : ℕ) (whole : Follows c x.whole (expression_to most)) where
  item : Follows c s.item (form.item most)
  unfolding s.item
  item = link whole (λ value. link (introduced k.As refl terms.named) (λ called. made _))

  items : Follows c s.items (separated_list k.Comma (form.item most))
  unfolding s.items
  items = listed k.Comma refl item

  descending : Follows c s.is_descending form.is_descending
  unfolding s.is_descending
  descending = word_or k.Desc refl (made true) (link (eaten k.Asc refl) (λ _. made false))

  key : Follows c s.order_item (form.key most)
  unfolding s.order_item
  key = link whole (λ value. link descending (λ down. made _))

  order : Follows c s.order (form.order most)
  unfolding s.order s.order_items
  order = word_or k.Order refl (link (token k.By refl) (λ _. listed k.Comma refl key)) (made [])

  groups : Follows c s.groups (form.groups most)
  unfolding s.groups s.expressions
  groups = word_or k.Group refl (link (token k.By refl) (λ _. listed k.Comma refl whole)) (made [])

  condition : (kd : Kind) → is_end kd ≡ false → Follows c (s.condition kd) (form.condition most kd)
  unfolding s.condition
  condition kd not_end = introduced kd not_end whole

  -- ---- joins

  -- a join behind `left`, or where it would stand
  abbrev join_rest : Bool → Form SynJoin
  join_rest left = sequence source (λ from. sequence (word k.On) (λ _. sequence (expression_to most) (λ on. says (record { left = left; source = from; on = on }))))

  joined : (left : Bool) → Follows c (s.join left) (join_rest left)
  unfolding s.join
  joined left = link terms.source (λ from. link (token k.On refl) (λ _. link whole (λ on. made _)))

  join_by : (kd : Kind) (i : Input) → Whole i.ahead → kind i ≡ kd → Out c (maybe (form.join most)) i (and_then (s.join_by kd i) s.joined_by)
  join_by k.Join i whole_line is = one_of (within_at (behind_word k.Join refl (joined false) i whole_line is) (without_word k.Left (λ left. sequence (word k.Join) (λ _. join_rest left))))
  join_by k.Left i whole_line is =
      subst (λ out. Out c (maybe (form.join most)) i out) (two_words_same (next i)) (one_of (within_at (behind_word k.Left refl (link (token k.Join refl) (λ _. joined true)) i whole_line is)
      (with_word k.Left (λ left. sequence (word k.Join) (λ _. join_rest left)))))
  join_by _ i whole_line is = record { kept = record { prefix = []; count = 0; joined = refl; budget = budget_none c i.operators; said = (refl, refl) } }

  turn : Follows c s.join_if_any (maybe (form.join most))
  turn = on_kind (λ kd. s.join_by kd >>= s.joined_by) join_by (some_maybe (form.join most))

  joins : Follows c s.joins (many (form.join most))
  unfolding s.joins
  joins = all_read turn

  -- ---- selects

  int_after : (kd : Kind) → is_end kd ≡ false → Follows c (s.int_after kd) (form.int_after kd)
  int_after kd not_end = introduced kd not_end terms.int

  select_rest_read : (distinct : Bool) (items : List (Syn × Option (List ℕ))) (first : SynSource) (joins : List SynJoin)
      → Follows c (select_rest distinct items first joins) (sequence (form.condition most k.Where) (λ filter. sequence (form.groups most) (λ keys. sequence (form.condition most k.Having) (λ having.
      sequence (form.order most) (λ ordered. sequence (form.int_after k.Limit) (λ limit. sequence (form.int_after k.Offset) (λ offset.
      says (selected_of distinct items first joins filter keys having ordered limit offset))))))))
  select_rest_read distinct shown first others =
      link (condition k.Where refl) (λ filter. link groups (λ keys. link (condition k.Having refl) (λ having. link order (λ ordered.
      link (int_after k.Limit refl) (λ limit. link (int_after k.Offset refl) (λ offset. made _))))))

  pub select : Follows c s.select (form.select most)
  select =
      instead select_flat (link (eaten k.Distinct refl) (λ distinct. link items (λ shown. link (token k.From refl) (λ _. link terms.source (λ first. link joins (λ others.
      select_rest_read distinct shown first others))))))

  -- ---- queries

  pair : Follows c q.pair query.pair
  unfolding q.pair
  pair = link terms.named (λ first. link (token k.Dot refl) (λ _. link terms.named (λ second. made _)))

  pairs : Follows c q.joins (many (sequence (word k.Join) (λ _. query.pair)))
  unfolding q.joins
  pairs = all_read (introduced k.Join refl pair)

  some_manner : Inhabited query.manner
  some_manner = some_left (lead k.Joined (made {c = c} true))

  manner_by : (kd : Kind) (i : Input) → Whole i.ahead → kind i ≡ kd → Out c query.manner i (q.manner_by kd i)
  manner_by k.Joined i whole_line is = left_of (behind_word k.Joined refl (made true) i whole_line is)
  manner_by k.Selectin i whole_line is = right_of (behind_word k.Selectin refl (made false) i whole_line is)
  manner_by _ i whole_line is = refused_at some_manner i

  manner : Follows c q.manner query.manner
  unfolding q.manner
  manner = on_kind q.manner_by manner_by some_manner

  option : Follows c q.option query.option
  unfolding q.option
  option = link manner (λ joined. link pair (λ path. made _))

  options : Follows c q.options query.options
  unfolding q.options q.option_list
  options = word_or k.With refl (listed k.Comma refl option) (made [])

  pub query_read : Follows c q.query (query.query most)
  query_read =
      instead query_flat (link terms.named (λ class. link pairs (λ others. link (condition k.Where refl) (λ filter. link order (λ ordered.
      link (int_after k.Limit refl) (λ limit. link (int_after k.Offset refl) (λ offset. link options (λ loads. made _))))))))

  -- ---- bulk statements

  assigned : Follows c b.null_or_expression ((sequence (word k.Null) (λ _. says None)) or (sequence (expression_to most) (λ e. says (Some e))))
  unfolding b.null_or_expression
  assigned = word_or k.Null refl (made None) (mapped Some whole)

  cell : Follows c b.cell (statement.cell most)
  unfolding b.cell
  cell = link terms.named (λ column. link (token k.Assign refl) (λ _. link assigned (λ found. made _)))

  row : Follows c b.row statement.row
  unfolding b.row values
  row = link (token k.LParen refl) (λ _. link (listed k.Comma refl terms.value) (λ found. link (token k.RParen refl) (λ _. made found)))

  insert : Follows c b.insert (sequence basic.name (λ table. sequence basic.names (λ columns. sequence (word k.Values) (λ _. sequence statement.row (λ found. says (bulk.Insert table columns found))))))
  unfolding b.insert
  insert = link terms.named (λ table. link terms.names (λ columns. link (token k.Values refl) (λ _. link row (λ found. made _))))

  update : Follows c b.update (sequence basic.name (λ table. sequence (word k.Set) (λ _. sequence (separated_list k.Comma (statement.cell most)) (λ cells. sequence (form.condition most k.Where) (λ filter.
      says (bulk.Update table cells filter))))))
  unfolding b.update b.cells
  update = link terms.named (λ table. link (token k.Set refl) (λ _. link (listed k.Comma refl cell) (λ cells. link (condition k.Where refl) (λ filter. made _))))

  delete : Follows c b.delete (sequence basic.name (λ table. sequence (form.condition most k.Where) (λ filter. says (bulk.Delete table filter))))
  unfolding b.delete
  delete = link terms.named (λ table. link (condition k.Where refl) (λ filter. made _))

  some_bulk : Inhabited (statement.bulk most)
  some_bulk = some_left (lead k.Insert insert)

  bulk_by : (kd : Kind) (i : Input) → Whole i.ahead → kind i ≡ kd → Out c (statement.bulk most) i (b.bulk_by kd i)
  bulk_by k.Insert i whole_line is = left_of (behind_word k.Insert refl insert i whole_line is)
  bulk_by k.Update i whole_line is = right_of (left_of (behind_word k.Update refl update i whole_line is))
  bulk_by k.Delete i whole_line is = right_of (right_of (behind_word k.Delete refl delete i whole_line is))
  bulk_by _ i whole_line is = refused_at some_bulk i

  pub bulk_read : Follows c b.bulk (statement.bulk most)
  unfolding b.bulk
  bulk_read = on_kind b.bulk_by bulk_by some_bulk
