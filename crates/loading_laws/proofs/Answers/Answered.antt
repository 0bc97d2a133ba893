-- The answer of a select of columns that neither groups, orders nor cuts: what stands in its columns, of the rows that pass.
use Rattle.std.proofs.Common.{◌≡◌, ℕ, suc, ◌<◌, arith, Bool, false, ◌||◌, List, [], ◌∷◌, ◌++◌, map, filter, None, Ok, Err, if◌then◌else◌, refl, sym, ap, ◌∙◌, append_assoc, append-nil}
use Rattle.std.specs.List.{AllByRecursion, list_any}
use Rattle.std.specs.declared.cmp.Ordering.{Ordering}
use Rattle.std.specs.declared.cmp.Ordering.TheVariants.{Greater}
use Rattle.std.specs.Ordering.{match_ordering, nat_cmp, ordering_then}
use Rattle.std.specs.Cmp.{nat_cmp_is}
use Rattle.std.specs.Cmp.Lexicographic.{slice_cmp}
use Rattle.std.specs.BTreeMap.{insert_entry}
use Rattle.base_core.specs.declared.ids.TableId.{TableId}
use Rattle.base_core.specs.declared.value.Value.{Value}
use Rattle.schema_core.specs.Catalog.{Catalog}
use Rattle.expr_types.specs.declared.expr.Expr.{Expr}
use Rattle.expr_types.specs.declared.expr.Expr.TheVariants as expr
use Rattle.expr_types.specs.declared.select.Select.{Select}
use Rattle.expr_types.specs.Level.{has_aggregate}
use Rattle.sql_semantics.specs.Plain.{is_grouped}
use Rattle.sql_semantics.specs.Checked.{Checked, ◌>>=◌}
use Rattle.sql_semantics.specs.Eval.{Row, Tables, all_from, meaning_of}
use Rattle.sql_semantics.specs.declared.basis.Basis.TheVariants as basis
use Rattle.sql_semantics.specs.declared.sort_key.SortKey.{SortKey}
use Rattle.sql_semantics.specs.Order.{Rank, in_order, key_cmp, rank_cmp, ranked_from}
use Rattle.sql_semantics.specs.Rows.{Frame, answer, answer_rows, at, groups_having, keys_from, mapped_from, of_rows, output, require_created, rows_where, sources, tables_of}
use Rattle.load_columns.specs.declared.placing.SourceColumn.{SourceColumn}
use Rattle.collection_selects.proofs.Standing.{lacks_column}
use Rattle.load_selects.specs.declared.sources.Further.{Further}
use Rattle.load_selects.specs.Selects.{item_of, select_of}
use Rattle.loading_laws.specs.Answers.Answers.{value_at, values_at}
use Rattle.loading_laws.proofs.Answers.Totals.{map_twice, mapped_over, values_of_all}
use Rattle.loading_laws.proofs.Answers.Values.{column_value}
use Rattle.loading_laws.proofs.Answers.Conditions.{AreTests, rows_of_tests}

-- ---- without order keys rows come as they are

abbrev Entry : Type 0
Entry = Rank × List Value

abbrev Placed : ℕ → Entry → Type 0
Placed n e = (e.0.0 ≡ []) × (e.0.1 < n)

above : (n : ℕ) (e : Entry) → Placed n e → rank_cmp ([], n) e.0 ≡ Greater
above n e h = ap (λ (ks : List SortKey). ordering_then (slice_cmp key_cmp [] ks) (nat_cmp n e.0.1)) h.0 ∙ sym (nat_cmp_is n e.0.1 Greater h.1)

put_last : (n : ℕ) (x : List Value) (done : List Entry) → AllByRecursion (Placed n) done → insert_entry rank_cmp done ([], n) x ≡ done ++ (([], n), x) ∷ []
put_last n x [] h = refl
put_last n x (e ∷ es) h =
    ap (λ (o : Ordering). match_ordering o ((([], n), x) ∷ e ∷ es) ((e.0, x) ∷ es) (e ∷ insert_entry rank_cmp es ([], n) x)) (above n e h.0) ∙ ap (λ (l : List Entry). e ∷ l) (put_last n x es h.1)

placed_more : (n : ℕ) (x : List Value) (es : List Entry) → AllByRecursion (Placed n) es → AllByRecursion (Placed (suc n)) (es ++ (([], n), x) ∷ [])
placed_more n x [] h = ((refl, omega arith), tt)
placed_more n x (e ∷ es) h = ((h.0.0, let less : e.0.1 < n = h.0.1 in omega arith), placed_more n x es h.1)

rows_append : (xs ys : List Entry) → map (λ (e : Entry). e.1) (xs ++ ys) ≡ map (λ (e : Entry). e.1) xs ++ map (λ (e : Entry). e.1) ys
rows_append [] ys = refl
rows_append (x ∷ xs) ys = ap (λ (l : List (List Value)). x.1 ∷ l) (rows_append xs ys)

ranked_last : {X : Type 0} (g : X → List Value) (done : List Entry) (n : ℕ) (xs : List X) → AllByRecursion (Placed n) done
    → map (λ (e : Entry). e.1) (ranked_from done n (map (λ x. ([], g x)) xs)) ≡ map (λ (e : Entry). e.1) done ++ map g xs
ranked_last g done n [] h = sym (append-nil (map (λ (e : Entry). e.1) done))
ranked_last g done n (x ∷ xs) h =
    ap (λ (d : List Entry). map (λ (e : Entry). e.1) (ranked_from d (suc n) (map (λ x. ([], g x)) xs))) (put_last n (g x) done h)
    ∙ ranked_last g (done ++ (([], n), g x) ∷ []) (suc n) xs (placed_more n (g x) done h)
    ∙ ap (λ (l : List (List Value)). l ++ map g xs) (rows_append done ((([], n), g x) ∷ []))
    ∙ append_assoc (map (λ (e : Entry). e.1) done) (g x ∷ []) (map g xs)

as_they_come : {X : Type 0} (g : X → List Value) (xs : List X) → in_order (map (λ x. ([], g x)) xs) ≡ map g xs
unfolding in_order
as_they_come g xs = ranked_last g [] 0 xs tt

-- ---- a select of columns

no_aggregates : (items : List SourceColumn) → list_any has_aggregate (map (λ i. i.0) (map item_of items) ++ []) ≡ false
no_aggregates [] = refl
no_aggregates (c ∷ items) = ap (λ b. b || list_any has_aggregate (map (λ i. i.0) (map item_of items) ++ [])) (lacks_column c.source c.column) ∙ no_aggregates items

module _ (first : TableId) (further : List Further) (items : List SourceColumn) (conditions : List Expr) where
  abbrev whole : Select
  whole = select_of first further items conditions

  ungrouped : is_grouped whole ≡ false
  ungrouped = no_aggregates items

  output_is : (f : Frame) (r : Row) → output f whole (basis.Row r) ≡ Ok ([], values_at f items r)
  output_is f r =
      ap (λ (v : Checked (List Value)). v >>= λ row. keys_from (at f r) [] [] >>= λ keys. Ok (keys, row))
      (ap (all_from (at f r) []) (map_twice (λ i. meaning_of i.0) item_of items)
      ∙ values_of_all (at f r) (λ (c : SourceColumn). meaning_of (expr.Column c.source c.column)) (value_at f r) (λ c. column_value c.source c.column (at f r)) [] items)

  of_rows_is : (f : Frame) (rows : List Row) → of_rows f whole rows ≡ Ok (map (values_at f items) rows)
  of_rows_is f rows =
      ap (λ (b : Bool). (if b then Ok (basis.Group rows ∷ []) else Ok (map (λ r. basis.Row r) rows)) >>= λ all. groups_having f None all >>= λ left. mapped_from (output f whole) [] left >>= λ outs. Ok (answer_rows whole outs)) ungrouped
      ∙ ap (λ r. r >>= λ outs. Ok (answer_rows whole outs)) (mapped_over (output f whole) (λ r. basis.Row r) (λ r. ([], values_at f items r)) (output_is f) [] rows)
      ∙ ap Ok (as_they_come (values_at f items) rows)

  answer_by : (schema : Catalog) (tables : Tables) (holds : Frame → Row → Bool) → ((f : Frame) → AreTests f conditions (holds f)) → (made : Checked (Unit {0})) (from : Checked (Frame × List Row)) (rows : List Row)
      → (made >>= λ _. from >>= λ found. rows_where found.0 whole.filter found.1 >>= λ left. of_rows found.0 whole left) ≡ Ok rows
      → (found : Frame × List Row) × (from ≡ Ok found) × (rows ≡ map (values_at found.0 items) (filter (holds found.0) found.1))
  answer_by schema tables holds tests (Err e) from rows is = absurd cc
  answer_by schema tables holds tests (Ok u) (Err e) rows is = absurd cc
  answer_by schema tables holds tests (Ok u) (Ok found) rows is = (
    found,
    refl,
    same_rows rows (map (values_at found.0 items) (filter (holds found.0) found.1))
        (sym is ∙ ap (λ (r : Checked (List Row)). r >>= λ left. of_rows found.0 whole left) (rows_of_tests found.0 conditions (holds found.0) found.1 (tests found.0))
        ∙ of_rows_is found.0 (filter (holds found.0) found.1)),
  )
    where
      same_rows : (xs ys : List Row) → ◌≡◌ {A = Checked (List Row)} (Ok xs) (Ok ys) → xs ≡ ys
      same_rows xs ys e = cc

  -- what is answered, over the joined rows
  pub answer_is : (schema : Catalog) (tables : Tables) (holds : Frame → Row → Bool) → ((f : Frame) → AreTests f conditions (holds f)) → (rows : List Row) → answer schema tables whole ≡ Ok rows
      → (found : Frame × List Row) × (sources schema tables whole ≡ Ok found) × (rows ≡ map (values_at found.0 items) (filter (holds found.0) found.1))
  unfolding answer
  answer_is schema tables holds tests rows is = answer_by schema tables holds tests (require_created tables (tables_of whole)) (sources schema tables whole) rows is
