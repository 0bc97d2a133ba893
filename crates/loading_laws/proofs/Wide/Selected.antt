-- The answer of a select of columns over multiplied rows of its sources.
use Rattle.std.proofs.Common.{◌≡◌, ℕ, ◌<◌, arith, Bool, true, false, if◌then◌else◌, ◌||◌, List, [], ◌∷◌, ◌++◌, length, map, Option, None, Some, Ok, Err, refl, sym, ap, ◌∙◌}
use Rattle.std.specs.Prelude.{is_some, nat_lt}
use Rattle.std.specs.List.{AllByRecursion, flat_map, list_any}
use Rattle.std.proofs.lemmas.List.{map-append}
use Rattle.base_core.specs.declared.value.Value.{Value}
use Rattle.schema_core.specs.Catalog.{Catalog}
use Rattle.expr_types.specs.declared.expr.Expr.{Expr}
use Rattle.expr_types.specs.declared.select.Select.{Select}
use Rattle.expr_types.specs.Level.{has_aggregate}
use Rattle.sql_semantics.specs.Checked.{Checked, ◌>>=◌}
use Rattle.sql_semantics.specs.Eval.{Place, Row, Tables, all_from, column, meaning_of}
use Rattle.sql_semantics.specs.Kinds.{Scope}
use Rattle.sql_semantics.specs.Order.{in_order}
use Rattle.sql_semantics.specs.Plain.{is_grouped, outputs}
use Rattle.sql_semantics.specs.Rows.{Frame, answer, answer_rows, condition, group_bases, groups_having, kept_from, keys_from, mapped_from, of_rows, output, require_created, rows_where, sources, tables_of, values}
use Rattle.sql_semantics.specs.declared.basis.Basis.TheVariants as basis
use Rattle.load_columns.specs.declared.placing.SourceColumn.{SourceColumn}
use Rattle.load_columns.specs.Conditions.{column_of}
use Rattle.load_selects.specs.Selects.{item_of}
use Rattle.loading_laws.proofs.Answers.Totals.{map_twice, values_of_all}
use Rattle.loading_laws.proofs.Answers.Values.{column_value}
use Rattle.loading_laws.specs.Wide.Parts.{cell, cells, place_of, whole}
use Rattle.loading_laws.specs.Wide.Answers.{AreWideIn, left_of}
use Rattle.loading_laws.proofs.Wide.Conditions.{IsColumnIn}
use Rattle.loading_laws.proofs.Wide.Joins.{every_gives}
use Rattle.loading_laws.proofs.Wide.Lefts.{every_flat}
use Rattle.loading_laws.proofs.Wide.Kept.{HasAnswer, Ranks, Tests, shown_all, alike_where, has_then, kept_have, kept_made, kept_multiplied, mapped_have, ranked_multiplied}
use Rattle.loading_laws.proofs.Wide.Ordered.{Keys, in_order_shows, items_in_order, multiplied, order_multiplied, shown}
use Rattle.loading_laws.proofs.Wide.Places.{column_is, frame_of, place_is}
use Rattle.loading_laws.proofs.Wide.Wider.{alike_then, regrouped}

abbrev pub SourceRows : Type 0
SourceRows = List Row

-- ---- lists

made_through : {A B C : Type 0} (f : B → Checked C) (h : A → B) (done : List C) (xs : List A) → mapped_from f done (map h xs) ≡ mapped_from (λ x. f (h x)) done xs
made_through f h done [] = refl
made_through f h done (x ∷ xs) = alike_then (f (h x)) _ _ (λ y. made_through f h (done ++ y ∷ []) xs)

map_flat : {A B C : Type 0} (g : B → C) (f : A → List B) (xs : List A) → map g (flat_map f xs) ≡ flat_map (λ x. map g (f x)) xs
map_flat g f [] = refl
map_flat {C = C} g f (x ∷ xs) = map-append g (f x) (flat_map f xs) ∙ ap (λ (l : List C). map g (f x) ++ l) (map_flat g f xs)

none_some : {A B : Type 0} (bs : List A) → 0 < length bs → AllByRecursion (λ (b : A). ⊥) bs → B
none_some [] some each = absurd (omega (arith, some))
none_some (b ∷ bs) some each = absurd each.0

-- ---- without groups

pub was_neither : (a b : Bool) → (a || b) ≡ false → (a ≡ false) × (b ≡ false)
was_neither true b h = absurd cc
was_neither false b h = (refl, h)

pub is_absent : {A : Type 0} (o : Option A) → is_some o ≡ false → o ≡ None
is_absent None h = refl
is_absent (Some x) h = absurd cc

pub no_having : (s : Select) → is_grouped s ≡ false → s.having ≡ None
no_having s single =
    let first = was_neither (nat_lt 0 (length s.groups) || is_some s.having) (list_any has_aggregate (outputs s)) single in
    is_absent s.having (was_neither (nat_lt 0 (length s.groups)) (is_some s.having) first.0).1

-- ---- rows that pass, with their keys

abbrev pub keys_at : Tables → List (Expr × Bool) → SourceRows → Checked Keys
keys_at tables order rows = keys_from (place_of tables rows) [] order

abbrev pub raw : Keys → SourceRows → Checked (Keys × SourceRows)
raw ks rows = Ok (ks, rows)

abbrev pub passing : Tables → Option Expr → List SourceRows → Checked (List SourceRows)
passing tables None all = Ok all
passing tables (Some e) all = kept_from (λ rows. meaning_of e (place_of tables rows)) [] all

abbrev pub ranked : Tables → Option Expr → List (Expr × Bool) → List SourceRows → Checked (List (Keys × SourceRows))
ranked tables filter order all = passing tables filter all >>= λ kept. mapped_from (λ rows. keys_at tables order rows >>= λ ks. raw ks rows) [] kept

passing_have : (P : SourceRows → Type 0) (tables : Tables) (filter : Option Expr) (all : List SourceRows) → AllByRecursion P all → HasAnswer (AllByRecursion P) (passing tables filter all)
passing_have P tables None all h = h
passing_have P tables (Some e) all h = kept_have P P (λ rows. meaning_of e (place_of tables rows)) (λ rows p is. p) [] all tt h

-- they have what all have
pub ranked_have : (P : SourceRows → Type 0) (tables : Tables) (filter : Option Expr) (order : List (Expr × Bool)) (all : List SourceRows) → AllByRecursion P all
    → HasAnswer (AllByRecursion (λ (item : Keys × SourceRows). P item.1)) (ranked tables filter order all)
ranked_have P tables filter order all h =
    has_then (AllByRecursion P) (AllByRecursion (λ (item : Keys × SourceRows). P item.1)) (passing tables filter all) (λ kept. mapped_from (λ rows. keys_at tables order rows >>= λ ks. raw ks rows) [] kept)
    (passing_have P tables filter all h)
    (λ kept g. mapped_have P (λ (item : Keys × SourceRows). P item.1) (λ rows. keys_at tables order rows >>= λ ks. raw ks rows) (λ rows p. of_keys (keys_at tables order rows) rows p) [] kept tt g)
  where
    of_keys : (told : Checked Keys) (rows : SourceRows) → P rows → HasAnswer (λ (item : Keys × SourceRows). P item.1) (told >>= λ ks. raw ks rows)
    of_keys (Ok ks) rows p = p
    of_keys (Err e) rows p = tt

-- a condition at rows is another at other rows
abbrev pub SameWhere : Tables → Option Expr → SourceRows → Option Expr → SourceRows → Type 0
SameWhere tables None wide None rows = Unit {0}
SameWhere tables (Some d) wide (Some e) rows = meaning_of d (place_of tables wide) ≡ meaning_of e (place_of tables rows)
SameWhere tables d wide e rows = ⊥

-- ---- the answer

module _ (schema : Catalog) (tables : Tables) (s : Select) (scope : Scope) (columns : List SourceColumn) (reads : s.items ≡ map item_of columns) (single : is_grouped s ≡ false)
    (inside : AllByRecursion (IsColumnIn schema scope) columns) where
  abbrev frame : Frame
  frame = frame_of schema tables scope

  shown_cells : (rows : SourceRows) → AreWideIn schema scope rows → (cs : List SourceColumn) → AllByRecursion (IsColumnIn schema scope) cs → map (λ (c : SourceColumn). column (place_of tables rows) c.source c.column.0) cs ≡ cells cs rows
  shown_cells rows wide [] h = refl
  shown_cells rows wide (c ∷ cs) h =
      ap (λ (v : Value). v ∷ map (λ (c : SourceColumn). column (place_of tables rows) c.source c.column.0) cs) (column_is schema scope tables rows c.source c.column wide h.0)
      ∙ ap (λ (l : List Value). cell rows c ∷ l) (shown_cells rows wide cs h.1)

  abbrev with_keys : Keys → Row → Checked (Keys × Row)
  with_keys ks row = Ok (ks, row)

  values_are : (rows : SourceRows) → AreWideIn schema scope rows → values (place_of tables rows) s ≡ Ok (cells columns rows)
  values_are rows wide =
      ap (λ (items : List (Expr × Option (List ℕ))). all_from (place_of tables rows) [] (map (λ (i : Expr × Option (List ℕ)). meaning_of i.0) items)) reads
      ∙ ap (all_from (place_of tables rows) []) (map_twice (λ (i : Expr × Option (List ℕ)). meaning_of i.0) item_of columns)
      ∙ values_of_all (place_of tables rows) (λ (c : SourceColumn). meaning_of (column_of c)) (λ (c : SourceColumn). column (place_of tables rows) c.source c.column.0) (λ c. column_value c.source c.column (place_of tables rows)) [] columns
      ∙ ap Ok (shown_cells rows wide columns inside)

  output_is : (rows : SourceRows) → AreWideIn schema scope rows → output frame s (basis.Row (whole rows)) ≡ (keys_at tables s.order rows >>= λ ks. with_keys ks (cells columns rows))
  output_is rows wide =
      ap (λ (p : Place). values p s >>= λ row. keys_from p [] s.order >>= λ ks. with_keys ks row) (place_is schema tables scope rows wide)
      ∙ ap (λ (told : Checked (List Value)). told >>= λ row. keys_at tables s.order rows >>= λ ks. with_keys ks row) (values_are rows wide)

  abbrev answered : List (Keys × Row) → Checked (List Row)
  answered outs = Ok (answer_rows s outs)

  of_rows_is : (all : List SourceRows) → of_rows frame s (map whole all) ≡ (mapped_from (λ rows. output frame s (basis.Row (whole rows))) [] all >>= answered)
  of_rows_is all =
      ap (λ (b : Bool). (if b then group_bases frame s.groups (map whole all) else Ok (map (λ r. basis.Row r) (map whole all))) >>= λ bs. groups_having frame s.having bs >>= λ left. mapped_from (output frame s) [] left >>= answered) single
      ∙ ap (λ (o : Option Expr). groups_having frame o (map (λ r. basis.Row r) (map whole all)) >>= λ left. mapped_from (output frame s) [] left >>= answered) (no_having s single)
      ∙ ap (λ (told : Checked (List (Keys × Row))). told >>= answered)
      (made_through (output frame s) (λ (r : Row). basis.Row r) [] (map whole all) ∙ made_through (λ (r : Row). output frame s (basis.Row r)) whole [] all)

  module _ (filter : Option Expr) (order : List (Expr × Bool)) (becomes : SourceRows → List SourceRows) (some : (rows : SourceRows) → 0 < length (becomes rows)) where
    -- what rows become has their condition and keys
    pub record IsCarried (rows : SourceRows) : Type 0 where
      pub wide : AllByRecursion (AreWideIn schema scope) (becomes rows)
      pub passes : AllByRecursion (λ more. SameWhere tables s.filter more filter rows) (becomes rows)
      pub ranks : AllByRecursion (λ more. keys_at tables s.order more ≡ keys_at tables order rows) (becomes rows)

    -- ---- those that pass

    abbrev wholes_of : List SourceRows → Checked (List Row)
    wholes_of kept = Ok (map whole (flat_map becomes kept))

    where_is : (d o : Option Expr) (all : List SourceRows) → AllByRecursion (λ rows. AllByRecursion (AreWideIn schema scope) (becomes rows)) all → AllByRecursion (λ rows. AllByRecursion (λ more. SameWhere tables d more o rows) (becomes rows)) all
        → rows_where frame d (map whole (flat_map becomes all)) ≡ (passing tables o all >>= wholes_of)
    where_is None None all wide same = refl
    where_is (Some d) (Some e) all wide same =
        let wide_test : SourceRows → Checked Value = λ rows. meaning_of d (place_of tables rows) in
        let test : SourceRows → Checked Value = λ rows. meaning_of e (place_of tables rows) in
        kept_made whole (condition frame d) wide_test (AreWideIn schema scope) (λ rows w. ap (meaning_of d) (place_is schema tables scope rows w)) [] (flat_map becomes all)
        (every_flat (λ rows. AllByRecursion (AreWideIn schema scope) (becomes rows)) (AreWideIn schema scope) becomes (λ rows h. h) all wide)
        ∙ ap (λ (told : Checked (List SourceRows)). told >>= λ kept. Ok (map whole kept))
        (kept_multiplied becomes test wide_test [] all
        (every_gives (λ rows. AllByRecursion (λ more. wide_test more ≡ test rows) (becomes rows)) (Tests becomes test wide_test) (λ rows h. record { some = some rows; each = h }) all same))
        ∙ regrouped (kept_from test [] all) (λ kept. Ok (flat_map becomes kept)) (λ kept. Ok (map whole kept))
    where_is (Some d) None [] wide same = refl
    where_is (Some d) None (rows ∷ all) wide same = none_some (becomes rows) (some rows) same.0
    where_is None (Some e) [] wide same = refl
    where_is None (Some e) (rows ∷ all) wide same = none_some (becomes rows) (some rows) same.0

    -- ---- what they show, in order

    abbrev rows_of : List SourceRows → List Row
    rows_of all = flat_map (λ rows. map (cells columns) (becomes rows)) all

    abbrev out : SourceRows → Checked (Keys × Row)
    out rows = output frame s (basis.Row (whole rows))

    each_out : (rows : SourceRows) (more : List SourceRows) → AllByRecursion (AreWideIn schema scope) more → AllByRecursion (λ one. keys_at tables s.order one ≡ keys_at tables order rows) more
        → AllByRecursion (λ one. out one ≡ (keys_at tables order rows >>= λ ks. with_keys ks (cells columns one))) more
    each_out rows [] wide same = tt
    each_out rows (one ∷ more) wide same =
        (output_is one wide.0 ∙ ap (λ (told : Checked Keys). told >>= λ ks. with_keys ks (cells columns one)) same.0, each_out rows more wide.1 same.1)

    carried_ranks : (rows : SourceRows) → IsCarried rows → Ranks becomes (keys_at tables order) (cells columns) out rows
    carried_ranks rows h = record { some = some rows; each = each_out rows (becomes rows) h.wide h.ranks }

    under_shown : (ks : Keys) (more : List SourceRows) → map (λ (x : Row). (ks, x)) (map (cells columns) more) ≡ map (shown (cells columns)) (map (λ (one : SourceRows). (ks, one)) more)
    under_shown ks [] = refl
    under_shown ks (one ∷ more) = ap (λ (l : List (Keys × Row)). (ks, cells columns one) ∷ l) (under_shown ks more)

    all_shown : (outs : List (Keys × SourceRows)) → shown_all becomes (cells columns) outs ≡ map (shown (cells columns)) (multiplied becomes some outs)
    all_shown [] = refl
    all_shown (item ∷ outs) =
        ap (λ (l : List (Keys × Row)). l ++ shown_all becomes (cells columns) outs) (under_shown item.0 (becomes item.1))
        ∙ ap (λ (l : List (Keys × Row)). map (shown (cells columns)) (map (λ (one : SourceRows). (item.0, one)) (becomes item.1)) ++ l) (all_shown outs)
        ∙ sym (map-append (shown (cells columns)) (map (λ (one : SourceRows). (item.0, one)) (becomes item.1)) (multiplied becomes some outs))

    ordered : (outs : List (Keys × SourceRows)) → in_order (shown_all becomes (cells columns) outs) ≡ rows_of (items_in_order outs)
    ordered outs =
        ap in_order (all_shown outs) ∙ in_order_shows (cells columns) (multiplied becomes some outs) ∙ ap (map (cells columns)) (order_multiplied becomes some outs)
        ∙ map_flat (cells columns) becomes (items_in_order outs)

    abbrev left_over : List (Keys × SourceRows) → Checked (List Row)
    left_over outs = Ok (left_of s (rows_of (items_in_order outs)))

    abbrev own_keys : SourceRows → Checked (Keys × SourceRows)
    own_keys rows = keys_at tables order rows >>= λ ks. raw ks rows

    outputs_are : (kept : List SourceRows) → AllByRecursion IsCarried kept → of_rows frame s (map whole (flat_map becomes kept)) ≡ (mapped_from own_keys [] kept >>= left_over)
    outputs_are kept h =
        of_rows_is (flat_map becomes kept)
        ∙ ap (λ (told : Checked (List (Keys × Row))). told >>= answered)
        (ranked_multiplied becomes (keys_at tables order) (cells columns) out [] kept (every_gives IsCarried (Ranks becomes (keys_at tables order) (cells columns) out) carried_ranks kept h))
        ∙ regrouped (mapped_from own_keys [] kept) (λ outs. Ok (shown_all becomes (cells columns) outs)) answered
        ∙ alike_then (mapped_from own_keys [] kept) _ _ (λ outs. ap (λ (rows : List Row). let told : Checked (List Row) = Ok (left_of s rows) in told) (ordered outs))

    -- from rows of the sources those that pass, each multiplied, in the order of the rows
    pub rows_multiply : (all : List SourceRows) → AllByRecursion IsCarried all
        → (rows_where frame s.filter (map whole (flat_map becomes all)) >>= of_rows frame s) ≡ (ranked tables filter order all >>= left_over)
    rows_multiply all h =
        ap (λ (told : Checked (List Row)). told >>= of_rows frame s)
        (where_is s.filter filter all (every_gives IsCarried (λ rows. AllByRecursion (AreWideIn schema scope) (becomes rows)) (λ rows c. c.wide) all h)
        (every_gives IsCarried (λ rows. AllByRecursion (λ more. SameWhere tables s.filter more filter rows) (becomes rows)) (λ rows c. c.passes) all h))
        ∙ regrouped (passing tables filter all) wholes_of (of_rows frame s)
        ∙ alike_where (AllByRecursion IsCarried) (passing tables filter all) _ _ (passing_have IsCarried tables filter all h) outputs_are
        ∙ sym (regrouped (passing tables filter all) (mapped_from own_keys []) left_over)

    -- the answer of the select, whose sources are such rows
    pub answer_is : require_created tables (tables_of s) ≡ Ok tt → (told : Checked (List SourceRows)) → sources schema tables s ≡ (told >>= λ all. Ok (frame, map whole (flat_map becomes all))) → HasAnswer (AllByRecursion IsCarried) told
        → answer schema tables s ≡ ((told >>= ranked tables filter order) >>= left_over)
    unfolding answer
    answer_is there told are has =
        ap (λ (q : Checked (Unit {0})). q >>= λ _. sources schema tables s >>= λ from. rows_where from.0 s.filter from.1 >>= of_rows from.0 s) there
        ∙ ap (λ (q : Checked (Frame × List Row)). q >>= λ from. rows_where from.0 s.filter from.1 >>= of_rows from.0 s) are
        ∙ regrouped told (λ all. Ok (frame, map whole (flat_map becomes all))) (λ from. rows_where from.0 s.filter from.1 >>= of_rows from.0 s)
        ∙ alike_where (AllByRecursion IsCarried) told _ _ has rows_multiply
        ∙ sym (regrouped told (ranked tables filter order) left_over)
