-- What is read of a select, lines can say.
use Rattle.std.proofs.Common.{◌≡◌, ℕ, Bool, true, false, ◌&&◌, List, [], ◌∷◌, Option, Some, None, refl}
use Rattle.std.proofs.lemmas.Bool.{and_from}
use Rattle.std.specs.List.{AllByRecursion, list_all}
use Rattle.sql_semantics.specs.Plain.{is_limit}
use Rattle.script_types.specs.declared.expression.Syn.{Syn}
use Rattle.script_types.specs.declared.expression.SynSource.{SynSource}
use Rattle.script_types.specs.declared.select.SynJoin.{SynJoin}
use Rattle.script_types.specs.declared.select.SynSelect.{SynSelect}
use Rattle.script_lex.specs.declared.kind.Kind.{Kind}
use Rattle.script_lex.specs.declared.kind.Kind.TheVariants as k
use Rattle.script_tokens.specs.Input.{turns}
use Rattle.script_select.specs.declared.select.Ending.{Ending}
use Rattle.script_select.specs.declared.select.Grouping.{Grouping}
use Rattle.script_select.specs.Select as s
use Rattle.script_resolve.specs.Sayable.{is_sayable, is_sayable_if_given, is_sayable_select}
use Rattle.sayable_lines.proofs.Yields.{Any, IfAny, Yields, link, made, mapped, chosen, peeked, taken, eaten, expected, introduced, listed, many}
use Rattle.sayable_lines.proofs.Words.{IsSmall, named, counted}
use Rattle.sayable_lines.proofs.Said.{Said}
use Rattle.sayable_lines.proofs.Expressions.{source, whole}

-- ---- parts

abbrev SaidFirst : {B : Type 0} → Syn × B → Type 0
SaidFirst pair = Said pair.0

abbrev SaidJoin : SynJoin → Type 0
SaidJoin join = Said join.on

record SaidGrouping (part : Grouping) : Type 0 where
  filter : IfAny Said part.filter
  groups : AllByRecursion Said part.groups
  having : IfAny Said part.having

record SaidEnding (end : Ending) : Type 0 where
  order : AllByRecursion SaidFirst end.order
  limit : IfAny IsSmall end.limit
  offset : IfAny IsSmall end.offset

item : Yields SaidFirst s.item
unfolding s.item
item = link whole (λ value is. link (introduced k.As named) (λ called _. made (value, called) is))

items : Yields (AllByRecursion SaidFirst) s.items
unfolding s.items
items = listed item

is_descending : Yields Any s.is_descending
unfolding s.is_descending
is_descending = link (eaten k.Desc) (λ found _. chosen found (made true tt) (link (eaten k.Asc) (λ _ _. made false tt)))

order_item : Yields SaidFirst s.order_item
unfolding s.order_item
order_item = link whole (λ value is. link is_descending (λ down _. made (value, down) is))

order_items : Yields (AllByRecursion SaidFirst) s.order_items
unfolding s.order_items
order_items = listed order_item

order : Yields (AllByRecursion SaidFirst) s.order
unfolding s.order
order = link (eaten k.Order) (λ found _. chosen found (link (expected k.By) (λ _ _. order_items)) (made [] tt))

last_part : Yields SaidEnding s.last_part
unfolding s.last_part
last_part =
    link order (λ keys all. link (introduced k.Limit counted) (λ limit small. link (introduced k.Offset counted) (λ offset also.
    made (record { order = keys; limit = limit; offset = offset }) (record { order = all; limit = small; offset = also }))))

expressions : Yields (AllByRecursion Said) s.expressions
unfolding s.expressions
expressions = listed whole

groups : Yields (AllByRecursion Said) s.groups
unfolding s.groups
groups = link (eaten k.Group) (λ found _. chosen found (link (expected k.By) (λ _ _. expressions)) (made [] tt))

pub condition : (word : Kind) → Yields (IfAny Said) (s.condition word)
unfolding s.condition
condition word = introduced word whole

middle_part : Yields SaidGrouping s.middle_part
unfolding s.middle_part
middle_part =
    link (condition k.Where) (λ filter is. link groups (λ keys all. link (condition k.Having) (λ having also.
    made (record { filter = filter; groups = keys; having = having }) (record { filter = is; groups = all; having = also }))))

-- ---- joins

join : (left : Bool) → Yields SaidJoin (s.join left)
unfolding s.join
join left = link source (λ from _. link (expected k.On) (λ _ _. link whole (λ on is. made (record { left = left; source = from; on = on }) is)))

join_by : (kd : Kind) → Yields Any (s.join_by kd)
join_by k.Join = link taken (λ _ _. made (Some false) tt)
join_by k.Left = link (link taken (λ _ _. expected k.Join)) (λ _ _. made (Some true) tt)
join_by _ = made None tt

joined_by : (o : Option Bool) → Yields (IfAny SaidJoin) (s.joined_by o)
joined_by None = made None tt
joined_by (Some left) = mapped Some (join left) (λ j is. is)

join_if_any : Yields (IfAny SaidJoin) s.join_if_any
join_if_any = link peeked (λ kind _. link (join_by kind) (λ o _. joined_by o))

joins : Yields (AllByRecursion SaidJoin) s.joins
unfolding s.joins
joins = record { run = λ i given. (many join_if_any (turns i) [] tt).run i given }

-- ---- the whole

pub each_holds : {A : Type 0} {P : A → Type 0} (test : A → Bool) → ((a : A) → P a → test a ≡ true) → (found : List A) → AllByRecursion P found → list_all test found ≡ true
each_holds test holds [] all = refl
each_holds test holds (a ∷ found) all = and_from (test a) (list_all test found) (holds a all.0) (each_holds test holds found all.1)

pub given_says : (o : Option Syn) → IfAny Said o → is_sayable_if_given o ≡ true
given_says None is = refl
given_says (Some e) is = is.says

small_limit : (o : Option ℕ) → IfAny IsSmall o → is_limit o ≡ true
small_limit None is = refl
small_limit (Some n) is = is

pub record SaidSelect (w : SynSelect) : Type 0 where
  pub says : is_sayable_select w ≡ true

eight : (a b c d e f g h : Bool) → a ≡ true → b ≡ true → c ≡ true → d ≡ true → e ≡ true → f ≡ true → g ≡ true → h ≡ true → (a && b && c && d && e && f && g && h) ≡ true
eight a b c d e f g h one two three four five six seven eighth =
    and_from (a && b && c && d && e && f && g) h (and_from (a && b && c && d && e && f) g (and_from (a && b && c && d && e) f (and_from (a && b && c && d) e (and_from (a && b && c) d
    (and_from (a && b) c (and_from a b one two) three) four) five) six) seven) eighth

of_parts : (distinct : Bool) (shown : List (Syn × Option (List ℕ))) (first : SynSource) (others : List SynJoin) (part : Grouping) (end : Ending)
    → AllByRecursion SaidFirst shown → AllByRecursion SaidJoin others → SaidGrouping part → SaidEnding end → SaidSelect (s.select_of_parts distinct shown first others part end)
of_parts distinct shown first others part end items joins middle last = record {
  says = eight (list_all (λ (p : Syn × Option (List ℕ)). is_sayable p.0) shown) (list_all (λ (j : SynJoin). is_sayable j.on) others) (is_sayable_if_given part.filter)
      (list_all is_sayable part.groups) (is_sayable_if_given part.having) (list_all (λ (p : Syn × Bool). is_sayable p.0) end.order) (is_limit end.limit) (is_limit end.offset)
      (each_holds {P = SaidFirst} (λ (p : Syn × Option (List ℕ)). is_sayable p.0) (λ p is. is.says) shown items)
      (each_holds {P = SaidJoin} (λ (j : SynJoin). is_sayable j.on) (λ j is. is.says) others joins)
      (given_says part.filter middle.filter) (each_holds {P = Said} is_sayable (λ e is. is.says) part.groups middle.groups) (given_says part.having middle.having)
      (each_holds {P = SaidFirst} (λ (p : Syn × Bool). is_sayable p.0) (λ p is. is.says) end.order last.order) (small_limit end.limit last.limit) (small_limit end.offset last.offset);
}

pub select : Yields SaidSelect s.select
unfolding s.select
select =
    link (eaten k.Distinct) (λ distinct _. link items (λ shown all. link (expected k.From) (λ _ _. link source (λ first _. link joins (λ others said.
    link middle_part (λ part middle. link last_part (λ end last. made (s.select_of_parts distinct shown first others part end) (of_parts distinct shown first others part end all said middle last))))))))
