-- A text with its values is one select at most.
use Rattle.std.proofs.Common.{◌≡◌, ℕ, ◌++◌, Bool, true, false, List, [], ◌∷◌, Option, Some, None, codes, refl, sym, ap, subst, ◌∙◌, append_assoc}
use Rattle.std.specs.List.{AllByRecursion}
use Rattle.base_core.specs.declared.value.Value.{Value}
use Rattle.expr_types.specs.declared.select.Statement.TheVariants.{Select as of_select}
use Rattle.base_core.specs.declared.dialect.Dialect.{Dialect}
use Rattle.sql_text.specs.Words.{select_word, join_word}
use Rattle.sql_statements.specs.Texts.{text_of}
use Rattle.script_laws.specs.Texts.Forms.Form.{select_form}
use Rattle.script_laws.specs.Texts.Grammar.Trees.{Sql, Source}
use Rattle.script_laws.specs.Texts.Grammar.Reads.{IsSource, named, aliased, Reads, Either}
use Rattle.script_laws.proofs.Texts.Grammar.Reader.{after, ends_name, stops, signs, tails}
use Rattle.script_laws.proofs.Texts.Grammar.Finding.{ended, either_comma, in_each}
use Rattle.script_laws.proofs.Texts.Grammar.Naming.{Begins}
use Rattle.script_laws.proofs.Texts.Grammar.Found.{starts_any, begins_on, lacks_byte}
use Rattle.script_laws.specs.Texts.Forms.Forms.{JoinForm, SelectForm}
use Rattle.script_laws.specs.Texts.Forms.Clauses.{Items, no_items, one_item, more_items, Series, Item, unnamed, as_name, Order, rising, falling, Joins, no_joins, join, ReadsSelect}
use Rattle.script_laws.proofs.Texts.Forms.Selects.{selects_are_read}
use Rattle.script_laws.specs.Texts.Readings.OneForm.{IsOneSelectForm, SelectTextsTellForms}
use Rattle.script_laws.proofs.Texts.Readings.Agreeing.{Agreeing, IsOne, EndsItems, EndsClause, Lacking, name_one, items_one, clause_one, series_one, behind_clause, behind_series, one_text, cut_word, lacking}
use Rattle.script_laws.proofs.Texts.Readings.Names.{pair_same}
use Rattle.script_laws.proofs.Texts.Readings.Trees.{EndsTree, tree_one, tree_part, tree_begins}
use Rattle.script_laws.proofs.Texts.Readings.Cuts.{cuts_agree, cut_behind}

-- ---- items

pub record EndsItem (q : Dialect) (rest : List ℕ) : Type 0 where
  pub ends : EndsTree q rest
  pub ends_name : ends_name rest ≡ true
  pub no_name : after (codes " AS ") rest ≡ None

as_ends : (q : Dialect) (text : List ℕ) → EndsTree q (codes " AS " ++ text)
unfolding stops signs tails
as_ends q text = in_each (λ d. EndsTree d (codes " AS " ++ text)) refl refl refl q

item_begins : {q : Dialect} {a : List ℕ} {v : List Value} {x : Sql × Option (List ℕ)} → Item q a v x → Begins starts_any a
item_begins (unnamed r) = tree_begins r
item_begins (as_name {b = b} r n) = begins_on (tree_begins r) (codes " AS " ++ b)

item_agree : {q : Dialect} {a b : List ℕ} {v w : List Value} {x y : Sql × Option (List ℕ)} → Item q a v x → Item q b w y → Agreeing (EndsItem q) a b v w x y
item_agree {q} (unnamed r) (unnamed s) rest past left over e f texts values =
    let it = (tree_one q).agree r s rest past left over e.ends f.ends texts values in
    record { same = pair_same it.same refl; rests = it.rests; lefts = it.lefts }
item_agree {q} (unnamed r) (as_name {a = b} {b = d} s m) rest past left over e f texts values =
    let it = (tree_one q).agree r s rest (codes " AS " ++ (d ++ past)) left over e.ends (as_ends q (d ++ past)) (texts ∙ one_text b (codes " AS ") d past) values in
    lacking (codes " AS ") (d ++ past) e.no_name it.rests
item_agree {q} (as_name {a = a} {b = c} r n) (unnamed s) rest past left over e f texts values =
    let it = (tree_one q).agree r s (codes " AS " ++ (c ++ rest)) past left over (as_ends q (c ++ rest)) f.ends (sym (one_text a (codes " AS ") c rest) ∙ texts) values in
    lacking (codes " AS ") (c ++ rest) f.no_name (sym it.rests)
item_agree {q} (as_name {a = a} {b = c} r n) (as_name {a = b} {b = d} s m) rest past left over e f texts values =
    let it = (tree_one q).agree r s (codes " AS " ++ (c ++ rest)) (codes " AS " ++ (d ++ past)) left over (as_ends q (c ++ rest)) (as_ends q (d ++ past))
    (sym (one_text a (codes " AS ") c rest) ∙ (texts ∙ one_text b (codes " AS ") d past)) values in
    let names = name_one n m rest past e.ends_name f.ends_name (cut_word (codes " AS ") it.rests) in
    record { same = pair_same it.same (ap Some names.same); rests = names.rests; lefts = it.lefts }

all_items_one : (q : Dialect) → IsOne (Items (Item q) (codes ", ")) (EndsItems starts_any (codes ", ") (EndsItem q))
all_items_one q =
    items_one (Item q) starts_any (EndsItem q) (record { begins = item_begins; one = record { agree = item_agree } }) (codes ", ")
    (λ text. record { ends = either_comma q text; ends_name = refl; no_name = refl })

-- ---- keys of the order

pub record EndsOrder (q : Dialect) (rest : List ℕ) : Type 0 where
  pub ends : EndsTree q rest
  pub no_fall : after (codes " DESC") rest ≡ None

fall_ends : (q : Dialect) (text : List ℕ) → EndsTree q (codes " DESC" ++ text)
unfolding stops signs tails
fall_ends q text = in_each (λ d. EndsTree d (codes " DESC" ++ text)) refl refl refl q

order_begins : {q : Dialect} {a : List ℕ} {v : List Value} {x : Sql × Bool} → Order q a v x → Begins starts_any a
order_begins (rising r) = tree_begins r
order_begins (falling r) = begins_on (tree_begins r) (codes " DESC")

order_agree : {q : Dialect} {a b : List ℕ} {v w : List Value} {x y : Sql × Bool} → Order q a v x → Order q b w y → Agreeing (EndsOrder q) a b v w x y
order_agree {q} (rising r) (rising s) rest past left over e f texts values =
    let it = (tree_one q).agree r s rest past left over e.ends f.ends texts values in
    record { same = pair_same it.same refl; rests = it.rests; lefts = it.lefts }
order_agree {q} (rising r) (falling {a = b} s) rest past left over e f texts values =
    let it = (tree_one q).agree r s rest (codes " DESC" ++ past) left over e.ends (fall_ends q past) (texts ∙ append_assoc b (codes " DESC") past) values in
    lacking (codes " DESC") past e.no_fall it.rests
order_agree {q} (falling {a = a} r) (rising s) rest past left over e f texts values =
    let it = (tree_one q).agree r s (codes " DESC" ++ rest) past left over (fall_ends q rest) f.ends (sym (append_assoc a (codes " DESC") rest) ∙ texts) values in
    lacking (codes " DESC") rest f.no_fall (sym it.rests)
order_agree {q} (falling {a = a} r) (falling {a = b} s) rest past left over e f texts values =
    let it = (tree_one q).agree r s (codes " DESC" ++ rest) (codes " DESC" ++ past) left over (fall_ends q rest) (fall_ends q past)
    (sym (append_assoc a (codes " DESC") rest) ∙ (texts ∙ append_assoc b (codes " DESC") past)) values in
    record { same = pair_same it.same refl; rests = cut_word (codes " DESC") it.rests; lefts = it.lefts }

-- ---- sources

pub record EndsSource (rest : List ℕ) : Type 0 where
  pub ends_name : ends_name rest ≡ true
  pub no_alias : after (codes " AS ") rest ≡ None

pub record SameSource (x y : Source) (rest past : List ℕ) : Type 0 where
  pub same : x ≡ y
  pub rests : rest ≡ past

source_made : List ℕ → Option (List ℕ) → Source
source_made table alias = record { table = table; alias = alias }

source_one : {q : Dialect} {a b : List ℕ} {x y : Source} → IsSource q a x → IsSource q b y → (rest past : List ℕ) → EndsSource rest → EndsSource past → a ++ rest ≡ b ++ past → SameSource x y rest past
unfolding source_made
source_one (named n) (named m) rest past e f texts =
    let it = name_one n m rest past e.ends_name f.ends_name texts in
    record { same = ap (λ (t : List ℕ). source_made t None) it.same; rests = it.rests }
source_one (named n) (aliased {a = b} {b = d} m o) rest past e f texts =
    let it = name_one n m rest (codes " AS " ++ (d ++ past)) e.ends_name refl (texts ∙ one_text b (codes " AS ") d past) in
    lacking (codes " AS ") (d ++ past) e.no_alias it.rests
source_one (aliased {a = a} {b = c} n p) (named m) rest past e f texts =
    let it = name_one n m (codes " AS " ++ (c ++ rest)) past refl f.ends_name (sym (one_text a (codes " AS ") c rest) ∙ texts) in
    lacking (codes " AS ") (c ++ rest) f.no_alias (sym it.rests)
source_one (aliased {a = a} {b = c} {alias = alias} n p) (aliased {a = b} {b = d} {table = table} m o) rest past e f texts =
    let it = name_one n m (codes " AS " ++ (c ++ rest)) (codes " AS " ++ (d ++ past)) refl refl (sym (one_text a (codes " AS ") c rest) ∙ (texts ∙ one_text b (codes " AS ") d past)) in
    let names = name_one p o rest past e.ends_name f.ends_name (cut_word (codes " AS ") it.rests) in
    record { same = ap (λ (t : List ℕ). source_made t (Some alias)) it.same ∙ ap (λ (n : List ℕ). source_made table (Some n)) names.same; rests = names.rests }

-- ---- joins

-- no clause of a select goes on here
pub record Ends (q : Dialect) (rest : List ℕ) : Type 0 where
  pub ends : EndsTree q rest
  pub ends_name : ends_name rest ≡ true
  pub no_name : after (codes " AS ") rest ≡ None
  pub no_fall : after (codes " DESC") rest ≡ None
  pub no_comma : after (codes ", ") rest ≡ None
  pub no_start : Lacking starts_any rest
  pub no_join : (left : Bool) → after (join_word left) rest ≡ None

join_ends : (q : Dialect) (left : Bool) (text : List ℕ) → EndsTree q (join_word left ++ text)
unfolding stops signs tails
join_ends q false text = in_each (λ d. EndsTree d (codes " JOIN " ++ text)) refl refl refl q
join_ends q true text = in_each (λ d. EndsTree d (codes " LEFT OUTER JOIN " ++ text)) refl refl refl q

join_ends_source : (left : Bool) (text : List ℕ) → EndsSource (join_word left ++ text)
join_ends_source false text = record { ends_name = refl; no_alias = refl }
join_ends_source true text = record { ends_name = refl; no_alias = refl }

-- the text of a join with what is behind it
join_text : (word a b c rest : List ℕ) → ((word ++ (a ++ (codes " ON " ++ b))) ++ c) ++ rest ≡ word ++ (a ++ (codes " ON " ++ (b ++ (c ++ rest))))
join_text word a b c rest =
    append_assoc (word ++ (a ++ (codes " ON " ++ b))) c rest
    ∙ (append_assoc word (a ++ (codes " ON " ++ b)) (c ++ rest) ∙ ap (λ (t : List ℕ). word ++ t) (one_text a (codes " ON ") b (c ++ rest)))

-- what is behind an expression or a source before some joins
behind_joins : {q : Dialect} {a : List ℕ} {v : List Value} {x : List JoinForm} (P : List ℕ → Type 0) → Joins q a v x → (rest : List ℕ) → P rest → ((left : Bool) (text : List ℕ) → P (join_word left ++ text)) → P (a ++ rest)
behind_joins P no_joins rest p w = p
behind_joins P (join {a = a} {b = b} {c = c} left n r js) rest p w = subst P (sym (join_text (join_word left) a b c rest)) (w left (a ++ (codes " ON " ++ (b ++ (c ++ rest)))))

record SameJoin (left other : Bool) (rest past : List ℕ) : Type 0 where
  same : left ≡ other
  rests : rest ≡ past

same_join : (left other : Bool) (rest past : List ℕ) → join_word left ++ rest ≡ join_word other ++ past → SameJoin left other rest past
same_join false false rest past e = record { same = refl; rests = cut_word (codes " JOIN ") e }
same_join false true rest past e = lacking (codes " LEFT OUTER JOIN ") past refl e
same_join true false rest past e = lacking (codes " JOIN ") past refl e
same_join true true rest past e = record { same = refl; rests = cut_word (codes " LEFT OUTER JOIN ") e }

join_made : Bool → Source → Sql → JoinForm
join_made left source x = record { left = left; source = source; on = x }

joins_same : {l m : Bool} {s t : Source} {x y : Sql} {js ks : List JoinForm} → l ≡ m → s ≡ t → x ≡ y → js ≡ ks → join_made l s x ∷ js ≡ join_made m t y ∷ ks
joins_same {l} {m} {s} {t} {x} {y} {js} {ks} e f g h =
    ap (λ (b : Bool). join_made b s x ∷ js) e ∙ (ap (λ (o : Source). join_made m o x ∷ js) f ∙ (ap (λ (z : Sql). join_made m t z ∷ js) g ∙ ap (λ (others : List JoinForm). join_made m t y ∷ others) h))

joins_agree : {q : Dialect} {a b : List ℕ} {v w : List Value} {x y : List JoinForm} → Joins q a v x → Joins q b w y → Agreeing (Ends q) a b v w x y
unfolding join_made
joins_agree no_joins no_joins rest past left over e f texts values = record { same = refl; rests = texts; lefts = values }
joins_agree no_joins (join {a = a} {b = b} {c = c} is_left n r js) rest past left over e f texts values =
    lacking (join_word is_left) (a ++ (codes " ON " ++ (b ++ (c ++ past)))) (e.no_join is_left) (texts ∙ join_text (join_word is_left) a b c past)
joins_agree (join {a = a} {b = b} {c = c} is_left n r js) no_joins rest past left over e f texts values =
    lacking (join_word is_left) (a ++ (codes " ON " ++ (b ++ (c ++ rest)))) (f.no_join is_left) (sym texts ∙ join_text (join_word is_left) a b c rest)
joins_agree {q} (join {a = a} {b = b} {c = c} {v = v} {w = u} is_left n r js) (join {a = d} {b = g} {c = h} {v = w} {w = z} other m s ks) rest past left over e f texts values =
    let words = same_join is_left other (a ++ (codes " ON " ++ (b ++ (c ++ rest)))) (d ++ (codes " ON " ++ (g ++ (h ++ past))))
    (sym (join_text (join_word is_left) a b c rest) ∙ (texts ∙ join_text (join_word other) d g h past)) in
    let sources = source_one n m (codes " ON " ++ (b ++ (c ++ rest))) (codes " ON " ++ (g ++ (h ++ past))) (record { ends_name = refl; no_alias = refl }) (record { ends_name = refl; no_alias = refl }) words.rests in
    let trees = (tree_one q).agree r s (c ++ rest) (h ++ past) (u ++ left) (z ++ over) (behind_joins (EndsTree q) js rest e.ends (join_ends q)) (behind_joins (EndsTree q) ks past f.ends (join_ends q))
    (cut_word (codes " ON ") sources.rests) (sym (append_assoc v u left) ∙ (values ∙ append_assoc w z over)) in
    let others = joins_agree js ks rest past left over e f trees.rests trees.lefts in
    record { same = joins_same words.same sources.same trees.same others.same; rests = others.rests; lefts = others.lefts }

-- ---- what stands behind each clause

nothing_ends : (q : Dialect) → Ends q []
nothing_ends q = record { ends = ended q Either; ends_name = refl; no_name = refl; no_fall = refl; no_comma = refl; no_start = tt; no_join = no_join }
  where
    no_join : (left : Bool) → after (join_word left) [] ≡ None
    no_join false = refl
    no_join true = refl

where_free : (q : Dialect) (text : List ℕ) → Ends q (codes " WHERE " ++ text)
unfolding stops signs tails
where_free q text = record {
  ends = in_each (λ d. EndsTree d (codes " WHERE " ++ text)) refl refl refl q;
  ends_name = refl;
  no_name = refl;
  no_fall = refl;
  no_comma = refl;
  no_start = refl;
  no_join = no_join;
}
  where
    no_join : (left : Bool) → after (join_word left) (codes " WHERE " ++ text) ≡ None
    no_join false = refl
    no_join true = refl

groups_free : (q : Dialect) (text : List ℕ) → Ends q (codes " GROUP BY " ++ text)
unfolding stops signs tails
groups_free q text = record {
  ends = in_each (λ d. EndsTree d (codes " GROUP BY " ++ text)) refl refl refl q;
  ends_name = refl;
  no_name = refl;
  no_fall = refl;
  no_comma = refl;
  no_start = refl;
  no_join = no_join;
}
  where
    no_join : (left : Bool) → after (join_word left) (codes " GROUP BY " ++ text) ≡ None
    no_join false = refl
    no_join true = refl

having_free : (q : Dialect) (text : List ℕ) → Ends q (codes " HAVING " ++ text)
unfolding stops signs tails
having_free q text = record {
  ends = in_each (λ d. EndsTree d (codes " HAVING " ++ text)) refl refl refl q;
  ends_name = refl;
  no_name = refl;
  no_fall = refl;
  no_comma = refl;
  no_start = refl;
  no_join = no_join;
}
  where
    no_join : (left : Bool) → after (join_word left) (codes " HAVING " ++ text) ≡ None
    no_join false = refl
    no_join true = refl

order_free : (q : Dialect) (text : List ℕ) → Ends q (codes " ORDER BY " ++ text)
unfolding stops signs tails
order_free q text = record {
  ends = in_each (λ d. EndsTree d (codes " ORDER BY " ++ text)) refl refl refl q;
  ends_name = refl;
  no_name = refl;
  no_fall = refl;
  no_comma = refl;
  no_start = refl;
  no_join = no_join;
}
  where
    no_join : (left : Bool) → after (join_word left) (codes " ORDER BY " ++ text) ≡ None
    no_join false = refl
    no_join true = refl

cut_free : (q : Dialect) (text : List ℕ) → Ends q (codes " LIMIT " ++ text)
unfolding stops signs tails
cut_free q text = record {
  ends = in_each (λ d. EndsTree d (codes " LIMIT " ++ text)) refl refl refl q;
  ends_name = refl;
  no_name = refl;
  no_fall = refl;
  no_comma = refl;
  no_start = refl;
  no_join = no_join;
}
  where
    no_join : (left : Bool) → after (join_word left) (codes " LIMIT " ++ text) ≡ None
    no_join false = refl
    no_join true = refl

-- what begins with none of these words
abbrev Lacks : Dialect → List (List ℕ) → List ℕ → Type 0
Lacks q ws rest = Ends q rest × AllByRecursion (λ word. after word rest ≡ None) ws

-- ---- selects

-- the parts of a text in a row
five : {A : Type 0} (a b c d e : List A) → a ++ b ++ c ++ d ++ e ≡ a ++ (b ++ (c ++ (d ++ e)))
five a b c d e = append_assoc (a ++ b ++ c) d e ∙ (append_assoc (a ++ b) c (d ++ e) ∙ append_assoc a b (c ++ (d ++ e)))

in_row : (word items source joins a b c d e : List ℕ)
    → (word ++ items) ++ ((codes " FROM " ++ source) ++ joins) ++ (a ++ b ++ c ++ d ++ e) ≡ word ++ (items ++ (codes " FROM " ++ (source ++ (joins ++ (a ++ (b ++ (c ++ (d ++ e))))))))
in_row word items source joins a b c d e =
    append_assoc (word ++ items) ((codes " FROM " ++ source) ++ joins) (a ++ b ++ c ++ d ++ e)
    ∙ (append_assoc word items (((codes " FROM " ++ source) ++ joins) ++ (a ++ b ++ c ++ d ++ e))
    ∙ (ap (λ (t : List ℕ). word ++ (items ++ (codes " FROM " ++ t))) (append_assoc source joins (a ++ b ++ c ++ d ++ e))
    ∙ ap (λ (t : List ℕ). word ++ (items ++ (codes " FROM " ++ (source ++ (joins ++ t))))) (five a b c d e)))

values_in_row : (items joins a b c d e : List Value) → items ++ joins ++ (a ++ b ++ c ++ d ++ e) ≡ items ++ (joins ++ (a ++ (b ++ (c ++ (d ++ e)))))
values_in_row items joins a b c d e = append_assoc items joins (a ++ b ++ c ++ d ++ e) ∙ ap (λ (t : List Value). items ++ (joins ++ t)) (five a b c d e)

-- no item begins with the second word of the longer one
not_distinct : {q : Dialect} {a : List ℕ} {v : List Value} {xs : List (Sql × Option (List ℕ))} → Items (Item q) (codes ", ") a v xs → (text : List ℕ) → after (codes "DISTINCT ") (a ++ (codes " FROM " ++ text)) ≡ None
not_distinct no_items text = refl
not_distinct (one_item r) text = lacks_byte (item_begins r) 68 refl (codes " FROM " ++ text) (codes "ISTINCT ")
not_distinct (more_items {b = b} r rs) text = lacks_byte (begins_on (item_begins r) (codes ", " ++ b)) 68 refl (codes " FROM " ++ text) (codes "ISTINCT ")

same_select : (d e : Bool) (rest past : List ℕ) → after (codes "DISTINCT ") rest ≡ None → after (codes "DISTINCT ") past ≡ None → select_word d ++ rest ≡ select_word e ++ past → SameJoin d e rest past
same_select false false rest past n m e = record { same = refl; rests = cut_word (codes "SELECT ") e }
same_select false true rest past n m e = lacking (codes "DISTINCT ") past n (cut_word (codes "SELECT ") {rest = rest} {past = codes "DISTINCT " ++ past} e)
same_select true false rest past n m e = lacking (codes "DISTINCT ") rest m (cut_word (codes "SELECT ") {rest = past} {past = codes "DISTINCT " ++ rest} (sym e))
same_select true true rest past n m e = record { same = refl; rests = cut_word (codes "SELECT DISTINCT ") e }

from_ends : (q : Dialect) (text : List ℕ) → EndsTree q (codes " FROM " ++ text)
unfolding stops signs tails
from_ends q text = in_each (λ d. EndsTree d (codes " FROM " ++ text)) refl refl refl q

cut_lacks : {q : Dialect} {t : List ℕ} {v : List Value} {x : SelectForm} (r : ReadsSelect q t v x) → Lacks q (codes " ORDER BY " ∷ codes " HAVING " ∷ codes " GROUP BY " ∷ codes " WHERE " ∷ []) r.cut_text
cut_lacks {q} r = cut_behind (Lacks q (codes " ORDER BY " ∷ codes " HAVING " ∷ codes " GROUP BY " ∷ codes " WHERE " ∷ [])) r.cut (nothing_ends q, (refl, (refl, (refl, (refl, tt))))) (λ text. (cut_free q text, (refl, (refl, (refl, (refl, tt))))))

abbrev order_on : {q : Dialect} {t : List ℕ} {v : List Value} {x : SelectForm} → ReadsSelect q t v x → List ℕ
order_on r = r.order_text ++ r.cut_text

order_lacks : {q : Dialect} {t : List ℕ} {v : List Value} {x : SelectForm} (r : ReadsSelect q t v x) → Lacks q (codes " HAVING " ∷ codes " GROUP BY " ∷ codes " WHERE " ∷ []) (order_on r)
order_lacks {q} r =
    behind_series (Lacks q (codes " HAVING " ∷ codes " GROUP BY " ∷ codes " WHERE " ∷ [])) r.order r.cut_text ((cut_lacks r).0, (cut_lacks r).1.1) (λ text. (order_free q text, (refl, (refl, (refl, tt)))))

abbrev having_on : {q : Dialect} {t : List ℕ} {v : List Value} {x : SelectForm} → ReadsSelect q t v x → List ℕ
having_on r = r.having_text ++ order_on r

having_lacks : {q : Dialect} {t : List ℕ} {v : List Value} {x : SelectForm} (r : ReadsSelect q t v x) → Lacks q (codes " GROUP BY " ∷ codes " WHERE " ∷ []) (having_on r)
having_lacks {q} r = behind_clause (Lacks q (codes " GROUP BY " ∷ codes " WHERE " ∷ [])) r.having (order_on r) ((order_lacks r).0, (order_lacks r).1.1) (λ text. (having_free q text, (refl, (refl, tt))))

abbrev groups_on : {q : Dialect} {t : List ℕ} {v : List Value} {x : SelectForm} → ReadsSelect q t v x → List ℕ
groups_on r = r.groups_text ++ having_on r

groups_lacks : {q : Dialect} {t : List ℕ} {v : List Value} {x : SelectForm} (r : ReadsSelect q t v x) → Lacks q (codes " WHERE " ∷ []) (groups_on r)
groups_lacks {q} r = behind_series (Lacks q (codes " WHERE " ∷ [])) r.groups (having_on r) ((having_lacks r).0, (having_lacks r).1.1) (λ text. (groups_free q text, (refl, tt)))

abbrev filter_on : {q : Dialect} {t : List ℕ} {v : List Value} {x : SelectForm} → ReadsSelect q t v x → List ℕ
filter_on r = r.filter_text ++ groups_on r

filter_on_ends : {q : Dialect} {t : List ℕ} {v : List Value} {x : SelectForm} (r : ReadsSelect q t v x) → Ends q (filter_on r)
filter_on_ends {q} r = behind_clause (Ends q) r.filter (groups_on r) (groups_lacks r).0 (where_free q)

-- ---- behind the joins

record SameBack (x y : SelectForm) : Type 0 where
  filters : x.filter ≡ y.filter
  groups : x.groups ≡ y.groups
  havings : x.having ≡ y.having
  orders : x.order ≡ y.order
  limits : x.limit ≡ y.limit
  offsets : x.offset ≡ y.offset

groups_one : (q : Dialect) → IsOne (Series (Reads q Either) (codes " GROUP BY ") (codes ", ")) (EndsClause (codes " GROUP BY ") (EndsItems starts_any (codes ", ") (EndsTree q)))
groups_one q = series_one (Reads q Either) (codes " GROUP BY ") (codes ", ") (EndsItems starts_any (codes ", ") (EndsTree q)) (items_one (Reads q Either) starts_any (EndsTree q) (tree_part q) (codes ", ") (either_comma q))

orders_one : (q : Dialect) → IsOne (Series (Order q) (codes " ORDER BY ") (codes ", ")) (EndsClause (codes " ORDER BY ") (EndsItems starts_any (codes ", ") (EndsOrder q)))
orders_one q =
    series_one (Order q) (codes " ORDER BY ") (codes ", ") (EndsItems starts_any (codes ", ") (EndsOrder q))
    (items_one (Order q) starts_any (EndsOrder q) (record { begins = order_begins; one = record { agree = order_agree } }) (codes ", ") (λ text. record { ends = either_comma q text; no_fall = refl }))

ends_filter : {q : Dialect} {t : List ℕ} {v : List Value} {x : SelectForm} (r : ReadsSelect q t v x) → EndsClause (codes " WHERE ") (EndsTree q) (groups_on r)
ends_filter r = record { ends = (groups_lacks r).0.ends; no_word = (groups_lacks r).1.0 }

ends_groups : {q : Dialect} {t : List ℕ} {v : List Value} {x : SelectForm} (r : ReadsSelect q t v x) → EndsClause (codes " GROUP BY ") (EndsItems starts_any (codes ", ") (EndsTree q)) (having_on r)
ends_groups r = let lacks = having_lacks r in record { ends = record { ends = lacks.0.ends; no_word = lacks.0.no_comma; no_start = lacks.0.no_start }; no_word = lacks.1.0 }

ends_having : {q : Dialect} {t : List ℕ} {v : List Value} {x : SelectForm} (r : ReadsSelect q t v x) → EndsClause (codes " HAVING ") (EndsTree q) (order_on r)
ends_having r = record { ends = (order_lacks r).0.ends; no_word = (order_lacks r).1.0 }

ends_order : {q : Dialect} {t : List ℕ} {v : List Value} {x : SelectForm} (r : ReadsSelect q t v x) → EndsClause (codes " ORDER BY ") (EndsItems starts_any (codes ", ") (EndsOrder q)) r.cut_text
ends_order r =
    let lacks = cut_lacks r in
    record { ends = record { ends = record { ends = lacks.0.ends; no_fall = lacks.0.no_fall }; no_word = lacks.0.no_comma; no_start = lacks.0.no_start }; no_word = lacks.1.0 }

abbrev order_values_on : {q : Dialect} {t : List ℕ} {v : List Value} {x : SelectForm} → ReadsSelect q t v x → List Value
order_values_on r = r.order_values ++ r.cut_values

abbrev having_values_on : {q : Dialect} {t : List ℕ} {v : List Value} {x : SelectForm} → ReadsSelect q t v x → List Value
having_values_on r = r.having_values ++ order_values_on r

abbrev groups_values_on : {q : Dialect} {t : List ℕ} {v : List Value} {x : SelectForm} → ReadsSelect q t v x → List Value
groups_values_on r = r.groups_values ++ having_values_on r

abbrev filter_values_on : {q : Dialect} {t : List ℕ} {v : List Value} {x : SelectForm} → ReadsSelect q t v x → List Value
filter_values_on r = r.filter_values ++ groups_values_on r

back_agrees : (q : Dialect) {t u : List ℕ} {v w : List Value} {x y : SelectForm} (r : ReadsSelect q t v x) (s : ReadsSelect q u w y) → filter_on r ≡ filter_on s → filter_values_on r ≡ filter_values_on s → SameBack x y
back_agrees q r s texts values =
    let filters = (clause_one (Reads q Either) (EndsTree q) (tree_one q) (codes " WHERE ")).agree r.filter s.filter (groups_on r) (groups_on s) (groups_values_on r) (groups_values_on s) (ends_filter r) (ends_filter s) texts values in
    let groups = (groups_one q).agree r.groups s.groups (having_on r) (having_on s) (having_values_on r) (having_values_on s) (ends_groups r) (ends_groups s) filters.rests filters.lefts in
    let havings = (clause_one (Reads q Either) (EndsTree q) (tree_one q) (codes " HAVING ")).agree r.having s.having (order_on r) (order_on s) (order_values_on r) (order_values_on s) (ends_having r) (ends_having s) groups.rests groups.lefts in
    let orders = (orders_one q).agree r.order s.order r.cut_text s.cut_text r.cut_values s.cut_values (ends_order r) (ends_order s) havings.rests havings.lefts in
    let cuts = cuts_agree r.cut s.cut orders.rests orders.lefts in
    record {
      filters = filters.same;
      groups = groups.same;
      havings = havings.same;
      orders = orders.same;
      limits = ap (λ (c : Option Value × Option Value). c.0) cuts;
      offsets = ap (λ (c : Option Value × Option Value). c.1) cuts;
    }

-- ---- up to the joins

abbrev joins_on : {q : Dialect} {t : List ℕ} {v : List Value} {x : SelectForm} → ReadsSelect q t v x → List ℕ
joins_on r = r.joins_text ++ filter_on r

abbrev source_on : {q : Dialect} {t : List ℕ} {v : List Value} {x : SelectForm} → ReadsSelect q t v x → List ℕ
source_on r = r.source_text ++ joins_on r

record SameFront (x y : SelectForm) (rest past : List ℕ) (left over : List Value) : Type 0 where
  distinct : x.distinct ≡ y.distinct
  items : x.items ≡ y.items
  first : x.first ≡ y.first
  joins : x.joins ≡ y.joins
  rests : rest ≡ past
  lefts : left ≡ over

ends_items : (q : Dialect) (text : List ℕ) → EndsItems starts_any (codes ", ") (EndsItem q) (codes " FROM " ++ text)
ends_items q text = record { ends = record { ends = from_ends q text; ends_name = refl; no_name = refl }; no_word = refl; no_start = refl }

ends_source : {q : Dialect} {t : List ℕ} {v : List Value} {x : SelectForm} (r : ReadsSelect q t v x) → EndsSource (joins_on r)
ends_source r =
    let ends = filter_on_ends r in
    behind_joins EndsSource r.joins (filter_on r) (record { ends_name = ends.ends_name; no_alias = ends.no_name }) join_ends_source

text_in_row : {q : Dialect} {t : List ℕ} {v : List Value} {x : SelectForm} (r : ReadsSelect q t v x) → t ≡ select_word x.distinct ++ (r.items_text ++ (codes " FROM " ++ source_on r))
text_in_row {x = x} r =
    r.text_is ∙ in_row (select_word x.distinct) r.items_text r.source_text r.joins_text r.filter_text r.groups_text r.having_text r.order_text r.cut_text

list_in_row : {q : Dialect} {t : List ℕ} {v : List Value} {x : SelectForm} (r : ReadsSelect q t v x) → v ≡ r.items_values ++ (r.joins_values ++ filter_values_on r)
list_in_row r = r.values_are ∙ values_in_row r.items_values r.joins_values r.filter_values r.groups_values r.having_values r.order_values r.cut_values

front_agrees : (q : Dialect) {t : List ℕ} {v : List Value} {x y : SelectForm} (r : ReadsSelect q t v x) (s : ReadsSelect q t v y) → SameFront x y (filter_on r) (filter_on s) (filter_values_on r) (filter_values_on s)
front_agrees q {x = x} {y = y} r s =
    let texts = sym (text_in_row r) ∙ text_in_row s in
    let words = same_select x.distinct y.distinct (r.items_text ++ (codes " FROM " ++ source_on r)) (s.items_text ++ (codes " FROM " ++ source_on s)) (not_distinct r.items (source_on r)) (not_distinct s.items (source_on s)) texts in
    let items = (all_items_one q).agree r.items s.items (codes " FROM " ++ source_on r) (codes " FROM " ++ source_on s) (r.joins_values ++ filter_values_on r) (s.joins_values ++ filter_values_on s)
    (ends_items q (source_on r)) (ends_items q (source_on s)) words.rests (sym (list_in_row r) ∙ list_in_row s) in
    let sources = source_one r.first s.first (joins_on r) (joins_on s) (ends_source r) (ends_source s) (cut_word (codes " FROM ") items.rests) in
    let joins = joins_agree r.joins s.joins (filter_on r) (filter_on s) (filter_values_on r) (filter_values_on s) (filter_on_ends r) (filter_on_ends s) sources.rests items.lefts in
    record {
      distinct = words.same;
      items = items.same;
      first = sources.same;
      joins = joins.same;
      rests = joins.rests;
      lefts = joins.lefts;
    }

-- ---- the whole

made : Bool → List (Sql × Option (List ℕ)) → Source → List JoinForm → Option Sql → List Sql → Option Sql → List (Sql × Bool) → Option Value → Option Value → SelectForm
made distinct items first joins filter groups having order limit offset = record { distinct = distinct; items = items; first = first; joins = joins; filter = filter; groups = groups; having = having; order = order; limit = limit; offset = offset }

form_same : {x y : SelectForm} {rest past : List ℕ} {left over : List Value} → SameFront x y rest past left over → SameBack x y → x ≡ y
unfolding made
form_same {x} {y} f b =
    ap (λ (z : Bool). made z x.items x.first x.joins x.filter x.groups x.having x.order x.limit x.offset) f.distinct
    ∙ (ap (λ (z : List (Sql × Option (List ℕ))). made y.distinct z x.first x.joins x.filter x.groups x.having x.order x.limit x.offset) f.items
    ∙ (ap (λ (z : Source). made y.distinct y.items z x.joins x.filter x.groups x.having x.order x.limit x.offset) f.first
    ∙ (ap (λ (z : List JoinForm). made y.distinct y.items y.first z x.filter x.groups x.having x.order x.limit x.offset) f.joins
    ∙ (ap (λ (z : Option Sql). made y.distinct y.items y.first y.joins z x.groups x.having x.order x.limit x.offset) b.filters
    ∙ (ap (λ (z : List Sql). made y.distinct y.items y.first y.joins y.filter z x.having x.order x.limit x.offset) b.groups
    ∙ (ap (λ (z : Option Sql). made y.distinct y.items y.first y.joins y.filter y.groups z x.order x.limit x.offset) b.havings
    ∙ (ap (λ (z : List (Sql × Bool)). made y.distinct y.items y.first y.joins y.filter y.groups y.having z x.limit x.offset) b.orders
    ∙ (ap (λ (z : Option Value). made y.distinct y.items y.first y.joins y.filter y.groups y.having y.order z x.offset) b.limits
    ∙ (ap (λ (z : Option Value). made y.distinct y.items y.first y.joins y.filter y.groups y.having y.order y.limit z) b.offsets)))))))))

selects_agree : (q : Dialect) {t : List ℕ} {v : List Value} {x y : SelectForm} → ReadsSelect q t v x → ReadsSelect q t v y → x ≡ y
selects_agree q r s =
    let front = front_agrees q r s in
    form_same front (back_agrees q r s front.rests front.lefts)

pub one_select_form : IsOneSelectForm
one_select_form dialect text values x y r s = selects_agree dialect r s

pub select_texts_tell_forms : SelectTextsTellForms
select_texts_tell_forms dialect schema other_schema it other h g texts values =
    one_select_form dialect (text_of dialect schema (of_select it)).text (text_of dialect schema (of_select it)).values (select_form dialect schema it) (select_form dialect other_schema other) (selects_are_read dialect schema it h)
    (subst (λ text. ReadsSelect dialect text (text_of dialect schema (of_select it)).values (select_form dialect other_schema other)) (sym texts)
    (subst (λ u. ReadsSelect dialect (text_of dialect other_schema (of_select other)).text u (select_form dialect other_schema other)) (sym values) (selects_are_read dialect other_schema other g)))
