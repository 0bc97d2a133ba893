-- Selects, queries and bulk statements are read steadily.
use Rattle.std.proofs.Common.{◌≡◌, ℕ, suc, ◌≤◌, Bool, true, false, if◌then◌else◌, List, [], ◌∷◌, length, Option, Some, None, Ok, refl, ap, sym, arith}
use Rattle.script_types.specs.declared.select.SynJoin.{SynJoin}
use Rattle.script_types.specs.declared.select.SynBulk.TheVariants.{Insert, Update, Delete}
use Rattle.script_lex.specs.declared.kind.Kind.{Kind}
use Rattle.script_lex.specs.declared.kind.Kind.TheVariants as k
use Rattle.script_lex.specs.declared.token.Token.{Token}
use Rattle.script_lex.specs.Lex.{same_kind}
use Rattle.script_tokens.specs.Input.{Input, and_then, ◌>>=◌, pure, expect, clause, sees, after, next, head}
use Rattle.script_tokens.specs.Names.{name}
use Rattle.script_expr.specs.Expr.{whole}
use Rattle.script_select.specs.Select as s
use Rattle.script_select.specs.Query as q
use Rattle.script_select.specs.Bulk as b
use Rattle.script_laws.proofs.Readings.Steady.Settling.{closes, IsSteady}
use Rattle.script_laws.proofs.Readings.Steady.Steps.{IsSteadyAt, both, both_there, made, mapped, on_kind, there, behind, refused, chosen, eaten, expected, introduced}
use Rattle.script_laws.proofs.Readings.Steady.Many.{many_steady}
use Rattle.script_laws.proofs.Readings.Steady.Marked.{none_left, IsBare, Yields, bare_first, listed, value_same, len_same, never_longer, mark_taken, some_none}
use Rattle.script_laws.proofs.Readings.Steady.Reading.{comma_marks, name_steady, name_bare, names_steady, int_steady, values_steady}
use Rattle.script_laws.proofs.Readings.Steady.Expressions.{whole_steady, whole_bare, source_steady}

item_steady : IsSteady s.item
unfolding s.item
item_steady = both whole_steady (λ value. both (introduced k.As refl name_steady) (λ called. made (value, called)))

item_bare : IsBare s.item
unfolding s.item
item_bare = bare_first whole (λ value. clause k.As name >>= (λ called. pure (value, called))) whole_bare

items_steady : IsSteady s.items
unfolding s.items
items_steady = listed k.Comma comma_marks item_steady item_bare []

descending_steady : IsSteady s.is_descending
unfolding s.is_descending
descending_steady = both (eaten k.Desc refl) (λ found. chosen found (made true) (both (eaten k.Asc refl) (λ _. made false)))

order_item_steady : IsSteady s.order_item
unfolding s.order_item
order_item_steady = both whole_steady (λ value. both descending_steady (λ down. made (value, down)))

order_item_bare : IsBare s.order_item
unfolding s.order_item
order_item_bare = bare_first whole (λ value. s.is_descending >>= (λ down. pure (value, down))) whole_bare

order_items_steady : IsSteady s.order_items
unfolding s.order_items
order_items_steady = listed k.Comma comma_marks order_item_steady order_item_bare []

order_steady : IsSteady s.order
unfolding s.order
order_steady = both (eaten k.Order refl) (λ found. chosen found (both (expected k.By refl) (λ _. order_items_steady)) (made []))

last_part_steady : IsSteady s.last_part
unfolding s.last_part
last_part_steady =
    both order_steady (λ keys. both (introduced k.Limit refl int_steady) (λ limit. both (introduced k.Offset refl int_steady) (λ offset.
    made (record { order = keys; limit = limit; offset = offset }))))

expressions_steady : IsSteady s.expressions
unfolding s.expressions
expressions_steady = listed k.Comma comma_marks whole_steady whole_bare []

groups_steady : IsSteady s.groups
unfolding s.groups
groups_steady = both (eaten k.Group refl) (λ found. chosen found (both (expected k.By refl) (λ _. expressions_steady)) (made []))

pub condition_steady : (word : Kind) → closes word ≡ false → IsSteady (s.condition word)
unfolding s.condition
condition_steady word goes = introduced word goes whole_steady

middle_part_steady : IsSteady s.middle_part
unfolding s.middle_part
middle_part_steady =
    both (condition_steady k.Where refl) (λ filter. both groups_steady (λ keys. both (condition_steady k.Having refl) (λ having.
    made (record { filter = filter; groups = keys; having = having }))))

join_steady : (left : Bool) → IsSteady (s.join left)
unfolding s.join
join_steady left = both source_steady (λ from. both (expected k.On refl) (λ _. both whole_steady (λ on. made (record { left = left; source = from; on = on }))))

join_by_steady : (kind : Kind) → IsSteadyAt kind (s.join_by kind)
join_by_steady k.Join = behind k.Join refl (λ _. made (Some false))
join_by_steady k.Left = behind k.Left refl (λ _. both (expected k.Join refl) (λ _. made (Some true)))
join_by_steady _ = there (made None)

-- ---- the joins of a select

joined_steady : (o : Option Bool) → IsSteady (s.joined_by o)
joined_steady None = made None
joined_steady (Some left) = both (join_steady left) (λ j. made (Some j))

join_if_any_steady : IsSteady s.join_if_any
join_if_any_steady = on_kind (λ kd. s.join_by kd >>= s.joined_by) (λ kd. both_there (join_by_steady kd) joined_steady)

join_ended : (o : ℕ) → s.join_if_any (none_left o) ≡ Ok (None, none_left o)
unfolding head
join_ended o = refl

join_takes_by : (kind : Kind) (t : Token) (ts : List Token) (o : ℕ) (join : SynJoin) (m : Input)
    → Yields {A = Option SynJoin} (and_then (s.join_by kind (record { ahead = t ∷ ts; operators = o })) s.joined_by) (Some join) m → length m.ahead ≤ length ts
unfolding next
join_takes_by k.Join t ts o join m e = never_longer (joined_steady (Some false)) (record { ahead = ts; operators = o }) m (Some join) e
join_takes_by k.Left t ts o join m e =
    never_longer (both (both (expected k.Join refl) (λ _. made (Some true))) joined_steady) (record { ahead = ts; operators = o }) m (Some join) e
join_takes_by _ t ts o join m e = absurd (some_none (sym (value_same e)))

join_takes_from : (xs : List Token) (o : ℕ) (join : SynJoin) (m : Input) → Yields {A = Option SynJoin} (s.join_if_any (record { ahead = xs; operators = o })) (Some join) m
    → suc (length m.ahead) ≤ length xs
unfolding head
join_takes_from [] o join m e = absurd (some_none (sym (value_same e)))
join_takes_from (t ∷ ts) o join m e = let less : length m.ahead ≤ length ts = join_takes_by t.kind t ts o join m e in omega arith

joins_steady : IsSteady s.joins
unfolding s.joins
joins_steady = many_steady s.join_if_any join_ended join_if_any_steady (λ i m join e. join_takes_from i.ahead i.operators join m e)

pub select_steady : IsSteady s.select
unfolding s.select
select_steady =
    both (eaten k.Distinct refl) (λ distinct. both items_steady (λ shown. both (expected k.From refl) (λ _. both source_steady (λ first. both joins_steady (λ others.
    both middle_part_steady (λ part. both last_part_steady (λ end. made (s.select_of_parts distinct shown first others part end))))))))

-- ---- queries for objects

pair_steady : IsSteady q.pair
unfolding q.pair
pair_steady = both name_steady (λ first. both (expected k.Dot refl) (λ _. both name_steady (λ second. made (first, second))))

pair_ended : (o : ℕ) → clause k.Join q.pair (none_left o) ≡ Ok (None, none_left o)
unfolding sees after head same_kind
pair_ended o = refl

join_marks : closes k.Join ≡ false
join_marks = refl

pair_takes_by : (i m : Input) (pair : List ℕ × List ℕ) (b : Bool) → sees k.Join i ≡ b
    → Yields {A = Option (List ℕ × List ℕ)} ((if b then (q.pair >>= (λ x. pure (Some x))) else pure None) (after k.Join i)) (Some pair) m → suc (length m.ahead) ≤ length i.ahead
unfolding after
pair_takes_by i m pair false seen e = absurd (some_none (sym (value_same e)))
pair_takes_by i m pair true seen e =
    let went : after k.Join i ≡ next i = ap (λ b. if b then next i else i) seen in
    let less : suc (length (next i).ahead) ≤ length i.ahead = mark_taken k.Join i join_marks seen in
    let same : length (after k.Join i).ahead ≡ length (next i).ahead = len_same went in
    let behind : length m.ahead ≤ length (after k.Join i).ahead = never_longer (both pair_steady (λ x. made (Some x))) (after k.Join i) m (Some pair) e in
    omega arith

query_joins_steady : IsSteady q.joins
unfolding q.joins
query_joins_steady = many_steady (clause k.Join q.pair) pair_ended (introduced k.Join refl pair_steady) (λ i m pair e. pair_takes_by i m pair (sees k.Join i) refl e)

manner_by_steady : (kind : Kind) → IsSteadyAt kind (q.manner_by kind)
manner_by_steady k.Joined = behind k.Joined refl (λ _. made true)
manner_by_steady k.Selectin = behind k.Selectin refl (λ _. made false)
manner_by_steady _ = there refused

manner_steady : IsSteady q.manner
unfolding q.manner
manner_steady = on_kind q.manner_by manner_by_steady

manner_bare : IsBare q.manner
unfolding q.manner head
manner_bare = λ o. refl

option_steady : IsSteady q.option
unfolding q.option
option_steady = both manner_steady (λ joined. both pair_steady (λ path. made (joined, path.0, path.1)))

option_bare : IsBare q.option
unfolding q.option
option_bare = bare_first q.manner (λ joined. q.pair >>= (λ path. pure (joined, path.0, path.1))) manner_bare

option_list_steady : IsSteady q.option_list
unfolding q.option_list
option_list_steady = listed k.Comma comma_marks option_steady option_bare []

options_steady : IsSteady q.options
unfolding q.options
options_steady = both (eaten k.With refl) (λ found. chosen found option_list_steady (made []))

pub query_steady : IsSteady q.query
unfolding q.query
query_steady =
    both name_steady (λ class. both query_joins_steady (λ others. both (condition_steady k.Where refl) (λ filter. both last_part_steady (λ end. both options_steady (λ loads.
    made (record { class = class; joins = others; filter = filter; order = end.order; limit = end.limit; offset = end.offset; options = loads }))))))

-- ---- bulk statements

assigned_steady : IsSteady b.null_or_expression
unfolding b.null_or_expression
assigned_steady = both (eaten k.Null refl) (λ is_null. chosen is_null (made None) (mapped Some whole_steady))

cell_steady : IsSteady b.cell
unfolding b.cell
cell_steady = both name_steady (λ column. both (expected k.Assign refl) (λ _. both assigned_steady (λ value. made (column, value))))

cell_bare : IsBare b.cell
unfolding b.cell
cell_bare = bare_first name (λ column. expect k.Assign >>= (λ _. b.null_or_expression >>= (λ value. pure (column, value)))) name_bare

cells_steady : IsSteady b.cells
unfolding b.cells
cells_steady = listed k.Comma comma_marks cell_steady cell_bare []

row_steady : IsSteady b.row
unfolding b.row
row_steady = both (expected k.LParen refl) (λ _. both values_steady (λ found. both (expected k.RParen refl) (λ _. made found)))

insert_steady : IsSteady b.insert
unfolding b.insert
insert_steady =
    both name_steady (λ table. both names_steady (λ columns. both (expected k.Values refl) (λ _. both row_steady (λ found. made (Insert table columns found)))))

update_steady : IsSteady b.update
unfolding b.update
update_steady =
    both name_steady (λ table. both (expected k.Set refl) (λ _. both cells_steady (λ found. both (condition_steady k.Where refl) (λ filter. made (Update table found filter)))))

delete_steady : IsSteady b.delete
unfolding b.delete
delete_steady = both name_steady (λ table. both (condition_steady k.Where refl) (λ filter. made (Delete table filter)))

bulk_by_steady : (kind : Kind) → IsSteadyAt kind (b.bulk_by kind)
bulk_by_steady k.Insert = behind k.Insert refl (λ _. insert_steady)
bulk_by_steady k.Update = behind k.Update refl (λ _. update_steady)
bulk_by_steady k.Delete = behind k.Delete refl (λ _. delete_steady)
bulk_by_steady _ = there refused

pub bulk_steady : IsSteady b.bulk
unfolding b.bulk
bulk_steady = on_kind b.bulk_by bulk_by_steady
