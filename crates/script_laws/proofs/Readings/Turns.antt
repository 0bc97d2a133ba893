-- Readers of selects and queries, part by part.
use Rattle.std.proofs.Common.{◌≡◌, ℕ, Bool, true, List, Option, Some, refl, sym, ◌∙◌}
use Rattle.script_types.specs.declared.expression.Syn.{Syn}
use Rattle.script_types.specs.declared.expression.SynSource.{SynSource}
use Rattle.script_types.specs.declared.select.SynJoin.{SynJoin}
use Rattle.script_types.specs.declared.select.SynSelect.{SynSelect}
use Rattle.script_types.specs.declared.select.SynQuery.{SynQuery}
use Rattle.script_lex.specs.declared.kind.Kind.TheVariants as k
use Rattle.script_tokens.specs.Input.{Input, Reader, ◌>>=◌, ◌>>◌, and_then, pure, eat, expect}
use Rattle.script_tokens.specs.Names.{name}
use Rattle.script_expr.specs.Expr.{source}
use Rattle.script_select.specs.Select as s
use Rattle.script_select.specs.Query as q
use Rattle.script_laws.proofs.Readings.Flat.{through, inside}

-- ---- joins

-- the two words before a left join
pub two_words_same : (i : Input) → and_then (and_then (expect k.Join i) (λ _. s.join true)) (λ j. pure (Some j)) ≡ and_then (and_then (expect k.Join i) (λ _. pure (Some true))) s.joined_by
two_words_same i = through (expect k.Join i) _ _ (λ _ j. refl) ∙ sym (through (expect k.Join i) _ _ (λ _ j. refl))

-- ---- the parts of a select

abbrev pub selected_of : Bool → List (Syn × Option (List ℕ)) → SynSource → List SynJoin → Option Syn → List Syn → Option Syn → List (Syn × Bool) → Option ℕ → Option ℕ → SynSelect
selected_of distinct items first joins filter keys having ordered limit offset =
    s.select_of_parts distinct items first joins (record { filter = filter; groups = keys; having = having }) (record { order = ordered; limit = limit; offset = offset })

abbrev pub select_rest : Bool → List (Syn × Option (List ℕ)) → SynSource → List SynJoin → Reader SynSelect
select_rest distinct items first joins = do
  filter ← s.condition k.Where
  keys ← s.groups
  having ← s.condition k.Having
  ordered ← s.order
  limit ← s.int_after k.Limit
  offset ← s.int_after k.Offset
  pure (selected_of distinct items first joins filter keys having ordered limit offset)

abbrev pub flat_select : Reader SynSelect
flat_select = do
  distinct ← eat k.Distinct
  items ← s.items
  expect k.From
  first ← source
  joins ← s.joins
  select_rest distinct items first joins

rest_same : (distinct : Bool) (items : List (Syn × Option (List ℕ))) (first : SynSource) (joins : List SynJoin) (i : Input)
    → and_then (s.middle_part i) (λ part. s.last_part >>= (λ end. pure (s.select_of_parts distinct items first joins part end))) ≡ select_rest distinct items first joins i
unfolding s.middle_part s.last_part
rest_same distinct items first joins i =
    through (s.condition k.Where i) _ _ (λ filter j. through (s.groups j) _ _ (λ keys j. through (s.condition k.Having j) _ _ (λ having j.
    through (s.order j) _ _ (λ ordered j. through (s.int_after k.Limit j) _ _ (λ limit j. through (s.int_after k.Offset j) _ _ (λ offset j. refl))))))

pub select_flat : (i : Input) → flat_select i ≡ s.select i
unfolding s.select
select_flat i =
    inside (eat k.Distinct i) (λ distinct j. inside (s.items j) (λ items j. inside (expect k.From j) (λ _ j. inside (source j) (λ first j. inside (s.joins j) (λ joins j.
    sym (rest_same distinct items first joins j))))))

-- ---- the parts of a query

abbrev pub query_rest : List ℕ → List (List ℕ × List ℕ) → Option Syn → Reader SynQuery
query_rest class joins filter = do
  ordered ← s.order
  limit ← s.int_after k.Limit
  offset ← s.int_after k.Offset
  loads ← q.options
  pure (record { class = class; joins = joins; filter = filter; order = ordered; limit = limit; offset = offset; options = loads })

abbrev pub flat_query : Reader SynQuery
flat_query = do
  class ← name
  joins ← q.joins
  filter ← s.condition k.Where
  query_rest class joins filter

end_same : (class : List ℕ) (joins : List (List ℕ × List ℕ)) (filter : Option Syn) (i : Input)
    → and_then (s.last_part i) (λ end. q.options >>= (λ loads. pure (record { class = class; joins = joins; filter = filter; order = end.order; limit = end.limit; offset = end.offset; options = loads })))
    ≡ query_rest class joins filter i
unfolding s.last_part
end_same class joins filter i =
    through (s.order i) _ _ (λ ordered j. through (s.int_after k.Limit j) _ _ (λ limit j. through (s.int_after k.Offset j) _ _ (λ offset j. refl)))

pub query_flat : (i : Input) → flat_query i ≡ q.query i
unfolding q.query
query_flat i = inside (name i) (λ class j. inside (q.joins j) (λ joins j. inside (s.condition k.Where j) (λ filter j. sym (end_same class joins filter j))))
