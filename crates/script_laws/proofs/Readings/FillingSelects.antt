-- What the forms of selects, queries and bulk statements say is read, where that of expressions is.
use Rattle.std.proofs.Common.{◌≡◌, ℕ, Bool, true, false, List, [], ◌∷◌, ◌++◌, Option, Some, None, refl, ap, sym, subst, ◌∙◌, arith}
use Rattle.script_types.specs.declared.select.SynJoin.{SynJoin}
use Rattle.script_types.specs.declared.expression.Syn.{Syn}
use Rattle.script_types.specs.declared.expression.SynSource.{SynSource}
use Rattle.script_lex.specs.declared.kind.Kind.{Kind}
use Rattle.script_lex.specs.declared.kind.Kind.TheVariants as k
use Rattle.script_lex.specs.declared.token.Token.{Token}
use Rattle.script_lex.specs.Lex.{same_kind}
use Rattle.script_tokens.specs.Input.{◌>>=◌, ◌>>◌, and_then, clause, pure, expect, take_token, next, head, first_of}
use Rattle.script_tokens.specs.Literals as literals
use Rattle.script_expr.specs.Expr as x
use Rattle.script_select.specs.Select as s
use Rattle.script_select.specs.Query as q
use Rattle.script_select.specs.Bulk as b
use Rattle.script_laws.specs.Readings.Forms.Form.{Form, Both, sequence, says, word, whether, separated_list, ◌or◌}
use Rattle.script_laws.specs.Readings.Forms.Expressions.{many, expression_to, source}
use Rattle.script_laws.specs.Readings.Forms.Selects as form
use Rattle.script_laws.specs.Readings.Forms.Queries as query
use Rattle.script_laws.specs.Readings.Forms.Bulk as statement
use Rattle.script_laws.proofs.Readings.Forms.Taking.{Mode, Enough}
use Rattle.script_laws.proofs.Readings.Forms.Steps.{budget_none}
use Rattle.script_laws.proofs.Readings.Forms.Filling.{given, given_as, Read, Complete, Opens, Begun, always, both, then_any, less, made, expected, taken, on_word, either, eaten, by_kind_read, mapped_run, word_begun, then_begun, made_opens, word_opens, then_opens, first_opens, whether_opens, either_opens}
use Rattle.script_laws.proofs.Readings.Forms.FillingBasics.{Solid, named, names_read, listed}
use Rattle.script_laws.proofs.Readings.Expressions.FillingSteps.{unlike, opens_less, solid_of, separated_opens}
use Rattle.script_laws.proofs.Readings.Expressions.FillingKinds.{is_name}
use Rattle.script_laws.proofs.Readings.Expressions.FillingLiterals.{ends_source, source_read}
use Rattle.script_laws.proofs.Readings.SomeKinds.{among, all_in, within, first_among, rest_among, not_this, false_true}
use Rattle.script_laws.proofs.Readings.FillingParts.{Stands, instead, mapped, word_or, link, then_stands, done, clause_run, no_clause, clause_stands, list_stands}
use Rattle.script_laws.proofs.Readings.FillingValues as values
use Rattle.script_laws.proofs.Readings.FillingMany.{Turns, many_opens, all_filled}
use Rattle.script_laws.proofs.Readings.Turns.{select_rest, select_flat, query_flat, two_words_same}

-- ---- what may stand behind the parts, to the end of the line

abbrev pub ends : List Kind
ends = k.LineEnd ∷ []

abbrev pub behind_offset : List Kind
behind_offset = k.With ∷ ends

abbrev pub behind_limit : List Kind
behind_limit = k.Offset ∷ behind_offset

abbrev pub behind_order : List Kind
behind_order = k.Limit ∷ behind_limit

abbrev pub behind_having : List Kind
behind_having = k.Order ∷ behind_order

abbrev pub behind_groups : List Kind
behind_groups = k.Having ∷ behind_having

abbrev pub behind_where : List Kind
behind_where = k.Group ∷ behind_groups

abbrev pub behind_joins : List Kind
behind_joins = k.Where ∷ behind_where

abbrev pub behind_source : List Kind
behind_source = k.Join ∷ k.Left ∷ behind_joins

-- what may stand behind an expression
abbrev pub behind_expression : List Kind
behind_expression = k.Comma ∷ k.As ∷ k.From ∷ k.Asc ∷ k.Desc ∷ behind_source

-- what no expression begins with
abbrev pub opening : Kind → Bool
opening k.Null = false
opening k.Distinct = false
opening k.Assign = false
opening k.LineEnd = false
opening _ = true

module _ (mode : Mode) (most : ℕ) (whole : Complete mode (among behind_expression) x.whole (expression_to most)) (begins : Opens (expression_to most) always opening) where
  -- ---- items

  item : (ks : List Kind) → among ks k.As ≡ false → all_in (among behind_expression) (k.As ∷ ks) ≡ true → Complete mode (among ks) s.item (form.item most)
  unfolding s.item
  item ks out all =
      then_stands (less whole (within (k.As ∷ ks) (among behind_expression) all)) (λ value. link (clause_stands k.As ks out (less named (λ y e. refl))) (λ called. done _ (λ y e. e)))

  item_opens : Opens (form.item most) always opening
  item_opens = first_opens begins

  item_solid : Solid (form.item most)
  item_solid = solid_of _ item_opens refl

  items : Complete mode (among (k.From ∷ [])) s.items (separated_list k.Comma (form.item most))
  unfolding s.items among all_in same_kind
  items =
      listed k.Comma (among (k.Comma ∷ k.From ∷ [])) (among (k.From ∷ [])) (item (k.Comma ∷ k.From ∷ []) refl refl) item_solid refl (rest_among k.Comma (k.From ∷ []))
      (unlike (among (k.From ∷ [])) k.Comma refl)

  -- ---- orders and groups

  asc_opens : (ks : List Kind) → Opens (sequence (whether (word k.Asc)) (λ _. says false)) (among ks) (among (k.Asc ∷ ks))
  asc_opens ks = then_opens (among ks) (whether_opens (word_opens k.Asc (first_among k.Asc ks)) (rest_among k.Asc ks)) (λ _. made_opens false (λ y e. e))

  descending : (ks : List Kind) → among (k.Asc ∷ ks) k.Desc ≡ false → among ks k.Asc ≡ false → Stands mode (among ks) s.is_descending form.is_descending (among (k.Desc ∷ k.Asc ∷ ks))
  unfolding s.is_descending
  descending ks no_desc no_asc = record {
    complete = word_or k.Desc (less (made true) (λ y e. refl)) (both (eaten k.Asc (unlike (among ks) k.Asc no_asc)) (λ _. less (made false) (λ y e. refl)) (λ _. made_opens false (λ y e. e)))
        (opens_less (asc_opens ks) (not_this (among (k.Asc ∷ ks)) k.Desc no_desc));
    opens = either_opens (first_opens {h = λ _. says true} (word_opens k.Desc (first_among k.Desc (k.Asc ∷ ks)))) (opens_less (asc_opens ks) (rest_among k.Desc (k.Asc ∷ ks)));
  }

  key : Complete mode (among (k.Comma ∷ behind_order)) s.order_item (form.key most)
  unfolding s.order_item among all_in same_kind
  key =
      then_stands (less whole (within (k.Desc ∷ k.Asc ∷ k.Comma ∷ behind_order) (among behind_expression) refl))
      (λ value. link (descending (k.Comma ∷ behind_order) refl refl) (λ down. done _ (λ y e. e)))

  order : Stands mode (among behind_order) s.order (form.order most) (among behind_having)
  unfolding s.order s.order_items among same_kind
  order =
      list_stands k.Order behind_order [] refl (then_any (expected k.By) (λ _.
      listed k.Comma (among (k.Comma ∷ behind_order)) (among behind_order) key (solid_of _ (first_opens begins) refl) refl (rest_among k.Comma behind_order) (unlike (among behind_order) k.Comma refl)))

  groups : Stands mode (among behind_groups) s.groups (form.groups most) (among behind_where)
  unfolding s.groups s.expressions among all_in same_kind
  groups =
      list_stands k.Group behind_groups [] refl (then_any (expected k.By) (λ _.
      listed k.Comma (among (k.Comma ∷ behind_groups)) (among behind_groups) (less whole (within (k.Comma ∷ behind_groups) (among behind_expression) refl)) (solid_of _ begins refl) refl
      (rest_among k.Comma behind_groups) (unlike (among behind_groups) k.Comma refl)))

  condition : (kd : Kind) (ks : List Kind) → among ks kd ≡ false → all_in (among behind_expression) ks ≡ true → Stands mode (among ks) (s.condition kd) (form.condition most kd) (among (kd ∷ ks))
  unfolding s.condition
  condition kd ks out all = clause_stands kd ks out (less whole (within ks (among behind_expression) all))

  int_after : (kd : Kind) (ks : List Kind) → among ks kd ≡ false → Stands mode (among ks) (s.int_after kd) (form.int_after kd) (among (kd ∷ ks))
  int_after kd ks out = clause_stands kd ks out (less values.int (λ y e. refl))

  -- ---- joins

  abbrev join_rest : Bool → Form SynJoin
  join_rest left = sequence source (λ from. sequence (word k.On) (λ _. sequence (expression_to most) (λ on. says (record { left = left; source = from; on = on }))))

  joined : (left : Bool) → Complete mode (among behind_source) (s.join left) (join_rest left)
  unfolding s.join among all_in same_kind
  joined left =
      both (less source_read (within (k.On ∷ []) ends_source refl)) (λ from. then_any (expected k.On) (λ _. both (less whole (within behind_source (among behind_expression) refl))
      (λ on. less (made _) (λ y e. refl)) (λ on. made_opens _ (λ y e. e)))) (λ from. first_opens (word_opens k.On refl))

  -- the join behind its first token
  behind_first : (kd : Kind) (prefix rest : List Token) (count o : ℕ) (a : SynJoin) → Begun kd prefix → Read mode (s.join_by kd >>= s.joined_by) (prefix ++ rest) rest count o (Some a)
      → Read mode s.join_if_any (prefix ++ rest) rest count o (Some a)
  behind_first kd prefix rest count o a b read =
      subst (λ ts. Read mode s.join_if_any (ts ++ rest) rest count o (Some a)) (sym b.joined)
      (by_kind_read mode (λ y. s.join_by y >>= s.joined_by) kd b.first (b.more ++ rest) rest count o (Some a) b.is
      (subst (λ ts. Read mode (s.join_by kd >>= s.joined_by) (ts ++ rest) rest count o (Some a)) b.joined read))

  plain_join : (prefix rest : List Token) (count o : ℕ) (a : SynJoin) → sequence (word k.Join) (λ _. join_rest false) prefix count a → Enough mode count o
      → among behind_source (first_of rest).kind ≡ true → Read mode s.join_if_any (prefix ++ rest) rest count o (Some a)
  plain_join prefix rest count o a said enough stop =
      let read = mapped_run mode (among behind_source) (take_token >> s.join false) (sequence (word k.Join) (λ _. join_rest false)) Some (then_any (taken k.Join) (λ _. joined false))
      prefix rest count o a said enough stop in
      behind_first k.Join prefix rest count o a (then_begun k.Join (word k.Join) (λ _. join_rest false) (word_begun k.Join) prefix count a said)
      (record { left = read.left; budget = read.budget; is = read.is })

  left_join : (prefix rest : List Token) (count o : ℕ) (a : SynJoin) → sequence (word k.Left) (λ _. sequence (word k.Join) (λ _. join_rest true)) prefix count a → Enough mode count o
      → among behind_source (first_of rest).kind ≡ true → Read mode s.join_if_any (prefix ++ rest) rest count o (Some a)
  left_join prefix rest count o a said enough stop =
      let read = mapped_run mode (among behind_source) (take_token >> (expect k.Join >> s.join true)) (sequence (word k.Left) (λ _. sequence (word k.Join) (λ _. join_rest true))) Some
      (then_any (taken k.Left) (λ _. then_any (expected k.Join) (λ _. joined true))) prefix rest count o a said enough stop in
      behind_first k.Left prefix rest count o a (then_begun k.Left (word k.Left) (λ _. sequence (word k.Join) (λ _. join_rest true)) (word_begun k.Left) prefix count a said)
      (record { left = read.left; budget = read.budget; is = given_as (sym (two_words_same (next (record { ahead = prefix ++ rest; operators = o })))) read.is })

  join_run : (prefix rest : List Token) (count o : ℕ) (a : SynJoin) (left : Bool) → (w : Both (λ ts n. whether (word k.Left) ts n left) (λ ts n. sequence (word k.Join) (λ _. join_rest left) ts n a) prefix count)
      → Enough mode count o → among behind_source (first_of rest).kind ≡ true → Read mode s.join_if_any (prefix ++ rest) rest count o (Some a)
  join_run prefix rest count o a false w enough stop =
      let tokens : w.rest ≡ prefix = sym (w.joined ∙ ap (λ ts. ts ++ w.rest) w.first.0) in
      let counts : w.rest_count ≡ count = omega (arith, w.counted, w.first.1) in
      plain_join prefix rest count o a
      (subst (λ n. sequence (word k.Join) (λ _. join_rest false) prefix n a) counts (subst (λ ts. sequence (word k.Join) (λ _. join_rest false) ts w.rest_count a) tokens w.second)) enough stop
  join_run prefix rest count o a true w enough stop =
      left_join prefix rest count o a
      (tt, record { prefix = w.prefix; rest = w.rest; prefix_count = w.prefix_count; rest_count = w.rest_count; joined = w.joined; counted = w.counted; first = w.first; second = w.second }) enough stop

  no_join : (y : Kind) → among behind_joins y ≡ true → s.join_by y ≡ pure None
  unfolding among same_kind
  no_join k.Join e = absurd (false_true e)
  no_join k.Left e = absurd (false_true e)
  no_join _ e = refl

  no_join_read : (rest : List Token) (o : ℕ) → among behind_joins (first_of rest).kind ≡ true → Read mode s.join_if_any rest rest 0 o None
  unfolding head
  no_join_read rest o stop =
      record { left = o; budget = budget_none mode o; is = given (ap (λ r. and_then (r (record { ahead = rest; operators = o })) s.joined_by) (no_join (first_of rest).kind stop)) }

  join_opens : {t : Kind → Bool} → Opens (form.join most) t (among (k.Join ∷ k.Left ∷ []))
  unfolding among all_in same_kind
  join_opens =
      then_opens (among (k.Join ∷ [])) (whether_opens (word_opens k.Left refl) (within (k.Join ∷ []) (among (k.Join ∷ k.Left ∷ [])) refl)) (λ left. first_opens (word_opens k.Join refl))

  turns : Turns mode (among behind_source) (among behind_joins) s.join_if_any (form.join most)
  unfolding among all_in same_kind
  turns = record {
    item_read = λ prefix rest count o a said enough stop. join_run prefix rest count o a said.0 said.1 enough stop;
    none_read = no_join_read;
    opens = opens_less join_opens (within (k.Join ∷ k.Left ∷ []) (among behind_source) refl);
    solid = solid_of _ join_opens refl;
    within = within behind_joins (among behind_source) refl;
  }

  joins : Stands mode (among behind_joins) s.joins (many (form.join most)) (among behind_source)
  unfolding s.joins
  joins = record { complete = all_filled turns; opens = many_opens turns.opens turns.within }

  -- ---- selects

  parts : (distinct : Bool) (shown : List (Syn × Option (List ℕ))) (first : SynSource) (others : List SynJoin)
      → Stands mode (among ends) (select_rest distinct shown first others) (sequence (form.condition most k.Where) (λ filter. sequence (form.groups most) (λ keys. sequence (form.condition most k.Having) (λ having.
      sequence (form.order most) (λ ordered. sequence (form.int_after k.Limit) (λ limit. sequence (form.int_after k.Offset) (λ offset. says (record {
        distinct = distinct;
        items = shown;
        first = first;
        joins = others;
        filter = filter;
        groups = keys;
        having = having;
        order = ordered;
        limit = limit;
        offset = offset;
      })))))))) (among behind_joins)
  unfolding among all_in same_kind
  parts distinct shown first others =
      link (condition k.Where behind_where refl refl) (λ filter. link groups (λ keys. link (condition k.Having behind_having refl refl) (λ having. link order (λ ordered.
      link (int_after k.Limit behind_limit refl) (λ limit. link (int_after k.Offset behind_offset refl) (λ offset. done _ (rest_among k.With ends)))))))

  pub select_read : Complete mode (among ends) s.select (form.select most)
  unfolding among all_in same_kind
  select_read =
      instead select_flat (both (eaten k.Distinct (unlike opening k.Distinct refl)) (λ distinct. both items (λ shown. then_any (expected k.From) (λ _.
      then_stands (less source_read (within behind_source ends_source refl)) (λ first. link joins (λ others. parts distinct shown first others))))
      (λ shown. first_opens (word_opens k.From refl))) (λ distinct. first_opens (separated_opens k.Comma item_opens)))

  -- ---- queries

  pair : Complete mode always q.pair query.pair
  unfolding q.pair
  pair = then_any named (λ first. then_any (expected k.Dot) (λ _. then_any named (λ second. made _)))

  abbrev behind_pairs : List Kind
  behind_pairs = k.Where ∷ behind_having

  pair_opens : {t : Kind → Bool} → Opens (sequence (word k.Join) (λ _. query.pair)) t (among (k.Join ∷ []))
  unfolding among same_kind
  pair_opens = first_opens (word_opens k.Join refl)

  pair_turns : Turns mode (among (k.Join ∷ behind_pairs)) (among behind_pairs) (clause k.Join q.pair) (sequence (word k.Join) (λ _. query.pair))
  unfolding among all_in same_kind
  pair_turns = record {
    item_read = λ prefix rest count o a said enough stop. clause_run mode always k.Join q.pair query.pair pair prefix rest count o a said enough refl;
    none_read = λ rest o stop. no_clause mode k.Join q.pair rest o (unlike (among behind_pairs) k.Join refl (first_of rest).kind stop);
    opens = opens_less pair_opens (within (k.Join ∷ []) (among (k.Join ∷ behind_pairs)) refl);
    solid = solid_of _ pair_opens refl;
    within = rest_among k.Join behind_pairs;
  }

  pairs : Stands mode (among behind_pairs) q.joins (many (sequence (word k.Join) (λ _. query.pair))) (among (k.Join ∷ behind_pairs))
  unfolding q.joins
  pairs = record { complete = all_filled pair_turns; opens = many_opens pair_turns.opens pair_turns.within }

  manner : Complete mode always q.manner query.manner
  unfolding q.manner
  manner =
      either (on_word q.manner_by k.Joined (then_any (taken k.Joined) (λ _. made true))) (on_word q.manner_by k.Selectin (then_any (taken k.Selectin) (λ _. made false)))

  option : Complete mode always q.option query.option
  unfolding q.option
  option = then_any manner (λ joined. then_any pair (λ path. made _))

  option_opens : Opens query.option always (among (k.Joined ∷ k.Selectin ∷ []))
  unfolding among same_kind
  option_opens = first_opens (either_opens (first_opens (word_opens k.Joined refl)) (first_opens (word_opens k.Selectin refl)))

  options : Stands mode (among ends) q.options query.options (among behind_offset)
  unfolding q.options q.option_list among same_kind
  options =
      list_stands k.With ends [] refl
      (listed k.Comma (among (k.Comma ∷ ends)) (among ends) (less option (λ y e. refl)) (solid_of _ option_opens refl) refl (rest_among k.Comma ends) (unlike (among ends) k.Comma refl))

  pub query_read : Complete mode (among ends) q.query (query.query most)
  unfolding among all_in same_kind
  query_read =
      instead query_flat (then_any named (λ class. (link pairs (λ others. link (condition k.Where behind_having refl refl) (λ filter. link order (λ ordered.
      link (int_after k.Limit behind_limit refl) (λ limit. link (int_after k.Offset behind_offset refl) (λ offset. link options (λ loads. done _ (λ y e. e)))))))).complete))

  -- ---- bulk statements

  abbrev behind_cell : List Kind
  behind_cell = k.Where ∷ ends

  assigned : Complete mode (among (k.Comma ∷ behind_cell)) b.null_or_expression ((sequence (word k.Null) (λ _. says None)) or (sequence (expression_to most) (λ e. says (Some e))))
  unfolding b.null_or_expression among all_in same_kind
  assigned =
      word_or k.Null (less (made None) (λ y e. refl)) (mapped Some (less whole (within (k.Comma ∷ behind_cell) (among behind_expression) refl)))
      (first_opens (opens_less begins (not_this opening k.Null refl)))

  cell : Complete mode (among (k.Comma ∷ behind_cell)) b.cell (statement.cell most)
  unfolding b.cell
  cell = then_any named (λ column. then_any (expected k.Assign) (λ _. both assigned (λ found. less (made _) (λ y e. refl)) (λ found. made_opens _ (λ y e. e))))

  row : Complete mode always b.row statement.row
  unfolding b.row literals.values among same_kind
  row =
      then_any (expected k.LParen) (λ _. both (listed k.Comma always (among (k.RParen ∷ [])) values.value values.value_solid refl (λ y e. refl) (unlike (among (k.RParen ∷ [])) k.Comma refl))
      (λ found. then_any (expected k.RParen) (λ _. made found)) (λ found. first_opens (word_opens k.RParen refl)))

  insert : Complete mode always (take_token >> b.insert) statement.insert
  unfolding b.insert
  insert = then_any (taken k.Insert) (λ _. then_any named (λ table. then_any names_read (λ columns. then_any (expected k.Values) (λ _. then_any row (λ found. made _)))))

  update : Complete mode (among ends) (take_token >> b.update) (statement.update most)
  unfolding b.update b.cells among all_in same_kind
  update =
      then_any (taken k.Update) (λ _. then_any named (λ table. then_any (expected k.Set) (λ _.
      then_stands (listed k.Comma (among (k.Comma ∷ behind_cell)) (among behind_cell) cell (solid_of is_name (first_opens values.name_opens) values.no_name_ends) refl
      (rest_among k.Comma behind_cell) (unlike (among behind_cell) k.Comma refl))
      (λ cells. link (condition k.Where ends refl refl) (λ filter. done _ (λ y e. e))))))

  delete : Complete mode (among ends) (take_token >> b.delete) (statement.delete most)
  unfolding b.delete among all_in same_kind
  delete = then_any (taken k.Delete) (λ _. then_any named (λ table. (link (condition k.Where ends refl refl) (λ filter. done _ (λ y e. e))).complete))

  pub bulk_read : Complete mode (among ends) b.bulk (statement.bulk most)
  unfolding b.bulk
  bulk_read =
      either (on_word b.bulk_by k.Insert (less insert (λ y e. refl))) (either (on_word b.bulk_by k.Update update) (on_word b.bulk_by k.Delete delete))
