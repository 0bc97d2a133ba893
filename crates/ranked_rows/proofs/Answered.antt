-- What is answered to a select of columns, whatever its conditions: what rows of its sources have in them.
use Rattle.std.proofs.Common.{◌≡◌, ℕ, zero, suc, ◌<◌, arith, Bool, true, false, if◌then◌else◌, List, [], ◌∷◌, ◌++◌, drop, length, map, take, Option, None, Some, Ok, Err, IfOk, refl, sym, ap, subst, ◌∙◌}
use Rattle.std.specs.List.{AllByRecursion, flat_map, list_any}
use Rattle.base_core.proofs.Lists.{every_append}
use Rattle.schema_core.specs.Catalog.{Catalog}
use Rattle.expr_types.specs.declared.select.Select.{Select}
use Rattle.sql_semantics.specs.Checked.{Checked, ◌>>=◌}
use Rattle.sql_semantics.specs.Eval.{Row, Tables}
use Rattle.sql_semantics.specs.Kinds.{Scope}
use Rattle.sql_semantics.specs.Order.{same_row}
use Rattle.sql_semantics.specs.Plain.{is_grouped}
use Rattle.sql_semantics.specs.Rows.{answer, cut_off, distinct, firsts_from, require_created, sources, tables_of, within_limit}
use Rattle.sql_semantics.specs.Shapes.{AreRows, scope_of}
use Rattle.load_columns.specs.declared.placing.SourceColumn.{SourceColumn}
use Rattle.load_selects.specs.Selects.{item_of}
use Rattle.loading_laws.specs.Wide.Parts.{cells, whole}
use Rattle.loading_laws.specs.Wide.Answers.{AreOfSources, left_of}
use Rattle.loading_laws.proofs.Wide.Blocks.{answered_created}
use Rattle.loading_laws.proofs.Wide.Conditions.{IsColumnIn}
use Rattle.loading_laws.proofs.Wide.Joins.{IsMade, all_made, every_gives, every_map, first_made, join_all, of_first, sources_are}
use Rattle.loading_laws.proofs.Wide.Kept.{HasAnswer, has_then}
use Rattle.loading_laws.proofs.Wide.Lefts.{flat_alone}
use Rattle.loading_laws.proofs.Wide.Main.{flat_singles, rows_wide, where_itself}
use Rattle.loading_laws.proofs.Wide.Ordered.{Keys, items_in_order, order_has}
use Rattle.loading_laws.proofs.Wide.Places.{frame_of}
use Rattle.loading_laws.proofs.Wide.Selected.{IsCarried, SourceRows, answer_is, ranked, ranked_have}
use Rattle.loading_laws.proofs.Wide.Wider.{HasWideRows, alike_then}

-- ---- what is left of rows

module _ (P : Row → Type 0) where
  after_some : (n : ℕ) (rows : List Row) → AllByRecursion P rows → AllByRecursion P (drop n rows)
  after_some zero rows h = h
  after_some (suc n) [] h = tt
  after_some (suc n) (row ∷ rows) h = after_some n rows h.1

  first_some : (n : ℕ) (rows : List Row) → AllByRecursion P rows → AllByRecursion P (take n rows)
  first_some zero rows h = tt
  first_some (suc n) [] h = tt
  first_some (suc n) (row ∷ rows) h = (h.0, first_some n rows h.1)

  of_page : (limit offset : Option ℕ) (rows : List Row) → AllByRecursion P rows → AllByRecursion P (within_limit limit (cut_off offset rows))
  of_page None None rows h = h
  of_page None (Some n) rows h = after_some n rows h
  of_page (Some m) None rows h = first_some m rows h
  of_page (Some m) (Some n) rows h = first_some m (drop n rows) (after_some n rows h)

  one_more : (b : Bool) (done : List Row) (row : Row) → AllByRecursion P done → P row → AllByRecursion P (if b then done else (done ++ row ∷ []))
  one_more true done row h p = h
  one_more false done row h p = every_append P done (row ∷ []) h (p, tt)

  of_firsts : (done rows : List Row) → AllByRecursion P done → AllByRecursion P rows → AllByRecursion P (firsts_from done rows)
  of_firsts done [] h g = h
  of_firsts done (row ∷ rows) h g = of_firsts (if list_any (same_row row) done then done else (done ++ row ∷ [])) rows (one_more (list_any (same_row row) done) done row h g.0) g.1

  of_distinct : (b : Bool) (rows : List Row) → AllByRecursion P rows → AllByRecursion P (distinct b rows)
  of_distinct true rows h = of_firsts [] rows tt h
  of_distinct false rows h = h

  -- what all rows have, those that `distinct`, offset and limit leave have too
  pub left_have : (s : Select) (rows : List Row) → AllByRecursion P rows → AllByRecursion P (left_of s rows)
  left_have s rows h = of_page s.limit s.offset (distinct s.distinct rows) (of_distinct s.distinct rows h)

-- ---- a select of columns without groups

module _ (schema : Catalog) (tables : Tables) (held : AreRows schema tables) (s : Select) (columns : List SourceColumn) (reads : s.items ≡ map item_of columns) (single : is_grouped s ≡ false)
    (inside : AllByRecursion (IsColumnIn schema (scope_of s)) columns) where
  abbrev scope : Scope
  scope = scope_of s

  wide_rows : HasWideRows schema tables
  wide_rows = rows_wide schema tables held

  abbrev Made : SourceRows → Type 0
  Made = IsMade schema tables wide_rows s.first s.joins

  abbrev told : Checked (List SourceRows)
  told = join_all schema tables s.joins (of_first schema tables wide_rows s.first)

  told_made : HasAnswer (AllByRecursion Made) told
  told_made = all_made schema tables wide_rows s.first [] s.joins (of_first schema tables wide_rows s.first) (first_made schema tables wide_rows s.first)

  abbrev alone : SourceRows → List SourceRows
  alone rows = rows ∷ []

  one_some : (rows : SourceRows) → 0 < length (alone rows)
  one_some rows = omega arith

  from_sources : sources schema tables s ≡ (told >>= λ all. Ok (frame_of schema tables scope, map whole (flat_map alone all)))
  from_sources = sources_are schema tables wide_rows s ∙ alike_then told _ _ (λ all. ap (λ (l : List SourceRows). Ok (frame_of schema tables scope, map whole l)) (sym (flat_alone all)))

  abbrev Carried : SourceRows → Type 0
  Carried = IsCarried schema tables s scope columns reads single inside s.filter s.order alone one_some

  carried : HasAnswer (AllByRecursion Carried) told
  carried =
      has_of told (λ rows made. record { wide = (made.wide, tt); passes = (where_itself tables s.filter rows, tt); ranks = (refl, tt) }) told_made
    where
      has_of : (q : Checked (List SourceRows)) → ((rows : SourceRows) → Made rows → Carried rows) → HasAnswer (AllByRecursion Made) q → HasAnswer (AllByRecursion Carried) q
      has_of (Ok all) gives has = every_gives Made Carried gives all has
      has_of (Err e) gives has = tt

  abbrev kept : Checked (List (Keys × SourceRows))
  kept = told >>= ranked tables s.filter s.order

  kept_made : HasAnswer (AllByRecursion (λ (item : Keys × SourceRows). Made item.1)) kept
  kept_made =
      has_then (AllByRecursion Made) (AllByRecursion (λ (item : Keys × SourceRows). Made item.1)) told (ranked tables s.filter s.order) told_made
      (λ all has. ranked_have Made tables s.filter s.order all has)

  abbrev last : List (Keys × SourceRows) → Checked (List Row)
  last outs = Ok (left_of s (flat_map (λ rows. map (cells columns) (alone rows)) (items_in_order outs)))

  answered : require_created tables (tables_of s) ≡ Ok tt → answer schema tables s ≡ (kept >>= last)
  answered created = answer_is schema tables s scope columns reads single inside s.filter s.order alone one_some created told from_sources carried

  -- what the columns have at rows of the sources, all rows have that are answered
  pub answered_have : (P : Row → Type 0) → ((rows : SourceRows) → AreOfSources schema tables s rows → P (cells columns rows)) → IfOk (answer schema tables s) (AllByRecursion P)
  answered_have P gives = by (answer schema tables s) refl
    where
      of_kept : (q : Checked (List (Keys × SourceRows))) → HasAnswer (AllByRecursion (λ (item : Keys × SourceRows). Made item.1)) q → IfOk (q >>= last) (AllByRecursion P)
      of_kept (Ok outs) has =
          let from : List SourceRows = items_in_order outs in
          let made : AllByRecursion Made from = order_has Made outs has in
          subst (AllByRecursion P) (ap (left_of s) (sym (flat_singles (cells columns) from)))
          (left_have P s (map (cells columns) from) (every_map Made P (cells columns) (λ rows one. gives rows (record { wide = one.wide; together = one.together })) from made))
      of_kept (Err e) has = tt

      by : (r : Checked (List Row)) → answer schema tables s ≡ r → IfOk r (AllByRecursion P)
      by (Ok rows) is =
          subst (λ (r : Checked (List Row)). IfOk r (AllByRecursion P)) (sym (answered (answered_created schema tables s rows is)) ∙ is) (of_kept kept kept_made)
      by (Err e) is = tt
