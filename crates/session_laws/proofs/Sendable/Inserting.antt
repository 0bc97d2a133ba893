-- Each run of new rows that fit is an INSERT that can be sent.
use Rattle.std.proofs.Common.{◌≡◌, ℕ, ◌-◌, ◌*◌, ◌<◌, ◌≤◌, suc, Bool, true, false, cond, not, ◌&&◌, ◌||◌, ◌==◌, List, [], ◌∷◌, ◌++◌, length, map, Ok, refl, sym, ap, ◌∙◌, subst, append_assoc, length-append, arith}
use Rattle.std.specs.Prelude.{if◌then◌else◌, nat_eq, nat_lt}
use Rattle.std.specs.List.{AllByRecursion, list_all, list_any}
use Rattle.std.specs.Cmp.Lexicographic.{pointwise}
use Rattle.std.proofs.lemmas.Bool.{and_from, and_parts, or_left, or_right}
use Rattle.std.proofs.lemmas.Bool.Decides.{nat_tests}
use Rattle.base_core.specs.declared.ids.TableId.{TableId}
use Rattle.base_core.specs.declared.value.Value.{Value}
use Rattle.base_core.specs.declared.value.Value.TheVariants.{Null}
use Rattle.schema_core.specs.declared.changes.Planned.{Planned}
use Rattle.schema_core.specs.declared.changes.RowCell.{RowCell}
use Rattle.schema_core.specs.declared.changes.RowCell.TheVariants.{Given}
use Rattle.schema_core.specs.declared.changes.RowChanges.{RowChanges}
use Rattle.schema_core.specs.declared.table.ColumnSpec.{ColumnSpec}
use Rattle.schema_core.specs.declared.table.TableSpec.{TableSpec}
use Rattle.schema_core.specs.Apply.{wants_key}
use Rattle.schema_core.specs.Catalog.{Catalog, has_generated_key, spec_of}
use Rattle.schema_core.specs.Tables.{Tables, has_null, is_null, key_cells}
use Rattle.schema_core.specs.WellFormed.{AreKeysOf, is_key, is_row, may_hold}
use Rattle.schema_core.proofs.NewKeys.{keys_for}
use Rattle.table_laws.proofs.Entries.{all_both, none_any}
use Rattle.schema_core.specs.WellFormedTest.{are_alike, are_new_rows, are_some, are_wide_enough, is_well_formed}
use Rattle.schema_core.proofs.WellFormedTests.{formed}
use Rattle.flush_order.specs.Cells.{cells_cleared, first_cells, is_late, key_parts, new_at, no_row, table_at}
use Rattle.flush_order.specs.Refers.{new_refers}
use Rattle.flush_order.specs.Orders.{insert_order}
use Rattle.flush_plan.specs.Flushing.{Keys, Sofar, row_sent, send, statement_sent, value_of_cell, with_keys}
use Rattle.flush_writes.specs.Writes.{insert_run}
use Rattle.flush_writes.specs.Runs.{goes_with, is_nothing, joins, leaves_key, nonempty_run, runs, runs_from, width}
use Rattle.plan_statements.specs.Known.{is_of_rows, is_place_of, is_sendable}
use Rattle.session_laws.specs.Plans.Laws.{before}
use Rattle.session_laws.proofs.Plans.Accepted.{sent_of}
use Rattle.session_laws.proofs.Plans.Items.{all_at, append_none, member_all}
use Rattle.session_laws.proofs.Plans.RunsWhole.{all_rows, runs_whole}
use Rattle.session_laws.specs.Sendable.{HasFitRows, HoldWhenSent, IsFitNew, cell_fits}
use Rattle.session_laws.proofs.Sendable.Parts.{IsKnown, IsReady, cell_put, known_more, known_now, ready_of}
use Rattle.session_laws.proofs.Sendable.Turns.{AreBehind, NamesOnly, in_turn, runs_behind}

-- ---- the cells of a row

one_part : (b : Bool) (value : Value) (cell : RowCell) (values : List Value) (cells : List RowCell) → is_null value ≡ is_nothing cell → has_null values ≡ list_any is_nothing cells → has_null (cond b (value ∷ values) values) ≡ list_any is_nothing (cond b (cell ∷ cells) cells)
one_part true value cell values cells same rest = λ i. same i || rest i
one_part false value cell values cells same rest = rest

module _ (schema : Catalog) (changes : RowChanges) where
  cond_fits : (b : Bool) (column : ColumnSpec) (cell : RowCell) → cell_fits schema changes column cell ≡ true → cell_fits schema changes column (cond b (Given Null) cell) ≡ true
  cond_fits true column cell fits = refl
  cond_fits false column cell fits = fits

  pub cleared_fit : (test : ColumnSpec → Bool) (columns : List ColumnSpec) (cells : List RowCell) → pointwise (cell_fits schema changes) columns cells ≡ true → pointwise (cell_fits schema changes) columns (cells_cleared test (Given Null) columns cells) ≡ true
  cleared_fit test [] [] fit = refl
  cleared_fit test [] (cell ∷ cells) fit = absurd cc
  cleared_fit test (column ∷ columns) [] fit = absurd cc
  cleared_fit test (column ∷ columns) (cell ∷ cells) fit =
      let both = and_parts (cell_fits schema changes column cell) (pointwise (cell_fits schema changes) columns cells) fit in
      and_from (cell_fits schema changes column (cond (test column) (Given Null) cell)) (pointwise (cell_fits schema changes) columns (cells_cleared test (Given Null) columns cells)) (cond_fits (test column) column cell both.0) (cleared_fit test columns cells both.1)

  values_fit : (keys : Keys) (columns : List ColumnSpec) (cells : List RowCell) → pointwise (cell_fits schema changes) columns cells ≡ true → AllByRecursion (IsReady schema changes keys) cells → pointwise may_hold columns (map (value_of_cell keys) cells) ≡ true
  values_fit keys [] [] fit ready = refl
  values_fit keys [] (cell ∷ cells) fit ready = absurd cc
  values_fit keys (column ∷ columns) [] fit ready = absurd cc
  values_fit keys (column ∷ columns) (cell ∷ cells) fit ready =
      let both = and_parts (cell_fits schema changes column cell) (pointwise (cell_fits schema changes) columns cells) fit in
      and_from (may_hold column (value_of_cell keys cell)) (pointwise may_hold columns (map (value_of_cell keys) cells)) (cell_put schema changes keys column cell both.0 ready.0).0 (values_fit keys columns cells both.1 ready.1)

  -- the key is left open where the row leaves it open
  parts_left : (keys : Keys) (columns : List ColumnSpec) (cells : List RowCell) → pointwise (cell_fits schema changes) columns cells ≡ true → AllByRecursion (IsReady schema changes keys) cells → has_null (key_cells columns (map (value_of_cell keys) cells)) ≡ list_any is_nothing (key_parts columns cells)
  parts_left keys [] cells fit ready = refl
  parts_left keys (column ∷ columns) [] fit ready = refl
  parts_left keys (column ∷ columns) (cell ∷ cells) fit ready =
      let both = and_parts (cell_fits schema changes column cell) (pointwise (cell_fits schema changes) columns cells) fit in
      one_part column.key (value_of_cell keys cell) cell (key_cells columns (map (value_of_cell keys) cells)) (key_parts columns cells) (cell_put schema changes keys column cell both.0 ready.0).1 (parts_left keys columns cells both.1 ready.1)

-- ---- rows that one INSERT writes

every : {A : Type 0} (test : A → Bool) (xs : List A) → AllByRecursion (λ x. test x ≡ true) xs → list_all test xs ≡ true
every test [] all = refl
every test (x ∷ xs) all = and_from (test x) (list_all test xs) all.0 (every test xs all.1)

alike : (spec : TableSpec) (wants : Bool) (rows : List (List Value)) → AllByRecursion (λ (row : List Value). wants_key spec row ≡ wants) rows → are_alike spec rows ≡ true
alike spec true rows all = or_left (list_all (wants_key spec) rows) (not (list_any (wants_key spec) rows)) (every (wants_key spec) rows all)
alike spec false rows all = or_right (list_all (wants_key spec) rows) (not (list_any (wants_key spec) rows)) (ap not (none_any (wants_key spec) rows all))

-- where the key is left open and there is more than one row, there is another column
wide : (spec : TableSpec) (wants : Bool) (rows : List (List Value)) → AllByRecursion (λ (row : List Value). wants_key spec row ≡ wants) rows → (1 < length rows → 0 < length spec.columns - cond wants 1 0) → 0 < length rows → are_wide_enough spec rows ≡ true
wide spec false rows all broad some = or_right (not (length spec.columns == 1)) (not (list_any (wants_key spec) rows) || (length rows == 1)) (or_left (not (list_any (wants_key spec) rows)) (length rows == 1) (ap not (none_any (wants_key spec) rows all)))
wide spec true (row ∷ []) all broad some = or_right (not (length spec.columns == 1)) (not (list_any (wants_key spec) (row ∷ [])) || true) (or_right (not (list_any (wants_key spec) (row ∷ []))) true refl)
wide spec true (row ∷ other ∷ rows) all broad some =
    let more : 0 < length spec.columns - 1 = broad (omega arith) in
    let apart : (length spec.columns == 1) ≡ false = grind (arith, nat_tests) in
    or_left (not (length spec.columns == 1)) (not (list_any (wants_key spec) (row ∷ other ∷ rows)) || (length (row ∷ other ∷ rows) == 1)) (ap not apart)
wide spec true [] all broad some = absurd (omega (arith, some))

some_few : (n : ℕ) → 0 < n → n ≤ 1000 → are_some n ≡ true
some_few n some few = grind (arith, nat_tests)

module _ (schema : Catalog) (changes : RowChanges) (fit : HasFitRows schema changes) where
  abbrev spec_at : ℕ → TableSpec
  spec_at place = spec_of schema (table_at changes place)

  pub first_fit : (place : ℕ) → place < length changes.fresh → pointwise (cell_fits schema changes) (spec_at place).columns (first_cells schema changes place) ≡ true
  first_fit place less = cleared_fit schema changes (is_late schema changes (table_at changes place)) (spec_at place).columns (new_at changes place).cells (all_at (IsFitNew schema changes) changes.fresh place no_row fit.fresh less).1

  -- the rows whose keys a new row names are known
  abbrev pub AreReady : Keys → ℕ → Type 0
  AreReady keys place = AllByRecursion (IsReady schema changes keys) (first_cells schema changes place)

  row_fits : (keys : Keys) (place : ℕ) → place < length changes.fresh → AreReady keys place → is_row (spec_at place) (row_sent schema changes keys place) ≡ true
  row_fits keys place less ready = values_fit schema changes keys (spec_at place).columns (first_cells schema changes place) (first_fit place less) ready

  row_wants : (keys : Keys) (place : ℕ) → place < length changes.fresh → AreReady keys place → wants_key (spec_at place) (row_sent schema changes keys place) ≡ leaves_key schema changes place
  row_wants keys place less ready = ap (λ (b : Bool). has_generated_key (spec_at place) && b) (parts_left schema changes keys (spec_at place).columns (first_cells schema changes place) (first_fit place less) ready)

  -- ---- runs

  -- a row that goes with those of a table that leave the key wants, or do not
  record IsAlike (table : TableId) (wants : Bool) (place : ℕ) : Type 0 where
    within : place < length changes.fresh
    at : table_at changes place ≡ table
    leaves : leaves_key schema changes place ≡ wants

  record IsFitRun (table : TableId) (wants : Bool) (run : List ℕ) : Type 0 where
    alike : AllByRecursion (IsAlike table wants) run
    few : length run ≤ 1000
    broad : 1 < length run → 0 < length (spec_of schema table).columns - cond wants 1 0

  abbrev IsRun : List ℕ → Type 0
  IsRun [] = Unit {0}
  IsRun (place ∷ places) = IsFitRun (table_at changes place) (leaves_key schema changes place) (place ∷ places)

  all_more : {A : Type 0} (P : A → Type 0) (xs : List A) (x : A) → AllByRecursion P xs → P x → AllByRecursion P (xs ++ x ∷ [])
  all_more P [] x all one = (one, tt)
  all_more P (y ∷ xs) x all one = (all.0, all_more P xs x all.1 one)

  alone : (place : ℕ) → place < length changes.fresh → IsRun (place ∷ [])
  alone place less = record { alike = (record { within = less; at = refl; leaves = refl }, tt); few = omega arith; broad = λ more. absurd (omega (arith, more)) }

  same_open : (a b : Bool) → cond a b (not b) ≡ true → b ≡ a
  same_open true true h = refl
  same_open true false h = absurd cc
  same_open false true h = absurd cc
  same_open false false h = refl

  same_table : (one other : TableId) → nat_eq one.0 other.0 ≡ true → other ≡ one
  same_table one other h = let same : other.0 ≡ one.0 = grind (arith, nat_tests) in ap (λ (n : ℕ). let table : TableId = record { 0 = n } in table) same

  less_is : (n m : ℕ) → nat_lt n m ≡ true → n < m
  less_is n m h = grind (arith, nat_tests)

  joined : (first : ℕ) (run : List ℕ) (place : ℕ) → IsRun (first ∷ run) → place < length changes.fresh → joins schema changes (first ∷ run) place ≡ true → IsRun (first ∷ run ++ place ∷ [])
  joined first run place is less together =
      let table : TableId = table_at changes first in
      let wants : Bool = leaves_key schema changes first in
      let short : Bool = nat_lt (length (first ∷ run)) 1000 in
      let broad : Bool = nat_lt 0 (width schema changes place) in
      let narrow : Bool = not (nat_lt 32700 (suc (length (first ∷ run)) * width schema changes place)) in
      let all = and_parts (short && broad && narrow) (list_all (goes_with schema changes place) (first ∷ run)) together in
      let some = and_parts short broad (and_parts (short && broad) narrow all.0).0 in
      let goes = and_parts (goes_with schema changes place first) (list_all (goes_with schema changes place) run) all.1 in
      let as_wide : Bool = cond wants (leaves_key schema changes place) (not (leaves_key schema changes place)) in
      let same = and_parts (nat_eq table.0 (table_at changes place).0) as_wide (and_parts (nat_eq table.0 (table_at changes place).0 && as_wide) (not (new_refers schema changes place first)) goes.0).0 in
      let at : table_at changes place ≡ table = same_table table (table_at changes place) same.0 in
      let leaves : leaves_key schema changes place ≡ wants = same_open wants (leaves_key schema changes place) same.1 in
      let less_one : length (first ∷ run) < 1000 = less_is (length (first ∷ run)) 1000 some.0 in
      let wide_one : 0 < width schema changes place = less_is 0 (width schema changes place) some.1 in
      record {
        alike = all_more (IsAlike table wants) (first ∷ run) place is.alike (record { within = less; at = at; leaves = leaves });
        few = omega (arith, less_one, length-append (first ∷ run) (place ∷ []));
        broad = λ more. subst (λ (t : TableId). 0 < length (spec_of schema t).columns - cond wants 1 0) at (subst (λ (b : Bool). 0 < length (spec_at place).columns - cond b 1 0) leaves wide_one);
      }

  all_append : {A : Type 0} (P : A → Type 0) (xs ys : List A) → AllByRecursion P xs → AllByRecursion P ys → AllByRecursion P (xs ++ ys)
  all_append P [] ys all more = more
  all_append P (x ∷ xs) ys all more = (all.0, all_append P xs ys all.1 more)

  -- no run is empty
  abbrev IsSomeRun : List ℕ → Type 0
  IsSomeRun run = (0 < length run) × IsRun run

  ended : (run : List ℕ) → IsRun run → AllByRecursion IsSomeRun (nonempty_run run)
  ended [] is = tt
  ended (place ∷ places) is = ((omega arith, is), tt)

  -- whether the row joins the run or not
  next_fits : (b : Bool) (first : ℕ) (run : List ℕ) (place : ℕ) (places : List ℕ) → joins schema changes (first ∷ run) place ≡ b → IsRun (first ∷ run) → (joins schema changes (first ∷ run) place ≡ true → AllByRecursion IsSomeRun (runs_from schema changes (first ∷ run ++ place ∷ []) places))
      → AllByRecursion IsSomeRun (runs_from schema changes (place ∷ []) places)
      → AllByRecursion IsSomeRun (if b then runs_from schema changes (first ∷ run ++ place ∷ []) places else nonempty_run (first ∷ run) ++ runs_from schema changes (place ∷ []) places)
  next_fits true first run place places at is more others = more at
  next_fits false first run place places at is more others = all_append IsSomeRun (nonempty_run (first ∷ run)) (runs_from schema changes (place ∷ []) places) (ended (first ∷ run) is) others

  either_way : (b : Bool) (found : List (List ℕ)) → AllByRecursion IsSomeRun found → AllByRecursion IsSomeRun (if b then found else found)
  either_way true found all = all
  either_way false found all = all

  runs_fit : (order run : List ℕ) → AllByRecursion (λ place. place < length changes.fresh) order → IsRun run → AllByRecursion IsSomeRun (runs_from schema changes run order)
  runs_fit [] run within is = ended run is
  runs_fit (place ∷ places) [] within is = either_way (joins schema changes [] place) (runs_from schema changes (place ∷ []) places) (runs_fit places (place ∷ []) within.1 (alone place within.0))
  runs_fit (place ∷ places) (first ∷ run) within is =
      next_fits (joins schema changes (first ∷ run) place) first run place places refl is (λ at. runs_fit places (first ∷ run ++ place ∷ []) within.1 (joined first run place is within.0 at)) (runs_fit places (place ∷ []) within.1 (alone place within.0))

  -- ---- the INSERT of a run

  each_map : {A B : Type 0} (P : A → Type 0) (Q : B → Type 0) (f : A → B) (xs : List A) → ((x : A) → P x → Q (f x)) → AllByRecursion P xs → AllByRecursion Q (map f xs)
  each_map P Q f [] step all = tt
  each_map P Q f (x ∷ xs) step all = (step x all.0, each_map P Q f xs step all.1)

  each_of : {A : Type 0} (P Q : A → Type 0) (xs : List A) → ((x : A) → P x → Q x) → AllByRecursion P xs → AllByRecursion Q xs
  each_of P Q [] step all = tt
  each_of P Q (x ∷ xs) step all = (step x all.0, each_of P Q xs step all.1)

  mapped_long : {A B : Type 0} (f : A → B) (xs : List A) → length (map f xs) ≡ length xs
  mapped_long f [] = refl
  mapped_long f (x ∷ xs) = ap suc (mapped_long f xs)

  rows_new : (keys : Keys) (table : TableId) (wants : Bool) (run : List ℕ) → 0 < length run → IsFitRun table wants run → AllByRecursion (AreReady keys) run → are_new_rows (spec_of schema table) (map (row_sent schema changes keys) run) ≡ true
  rows_new keys table wants run some is ready =
      let spec : TableSpec = spec_of schema table in
      let rows : List (List Value) = map (row_sent schema changes keys) run in
      let long : length rows ≡ length run = mapped_long (row_sent schema changes keys) run in
      let each : AllByRecursion (λ place. IsAlike table wants place × AreReady keys place) run = all_both (IsAlike table wants) (AreReady keys) (λ place. IsAlike table wants place × AreReady keys place) (λ place it known. (it, known)) run is.alike ready in
      let wanting : AllByRecursion (λ (row : List Value). wants_key spec row ≡ wants) rows =
      each_map (λ place. IsAlike table wants place × AreReady keys place) (λ (row : List Value). wants_key spec row ≡ wants) (row_sent schema changes keys) run
      (λ place it. ap (λ (t : TableId). wants_key (spec_of schema t) (row_sent schema changes keys place)) (sym it.0.at) ∙ row_wants keys place it.0.within it.1 ∙ it.0.leaves) each in
      let fits : AllByRecursion (λ (row : List Value). is_row spec row ≡ true) rows =
      each_map (λ place. IsAlike table wants place × AreReady keys place) (λ (row : List Value). is_row spec row ≡ true) (row_sent schema changes keys) run
      (λ place it. ap (λ (t : TableId). is_row (spec_of schema t) (row_sent schema changes keys place)) (sym it.0.at) ∙ row_fits keys place it.0.within it.1) each in
      and_from (are_some (length rows)) (list_all (is_row spec) rows && (are_alike spec rows && are_wide_enough spec rows)) (some_few (length rows) (omega (arith, long, some)) (omega (arith, long, is.few)))
      (and_from (list_all (is_row spec) rows) (are_alike spec rows && are_wide_enough spec rows) (every (is_row spec) rows fits)
      (and_from (are_alike spec rows) (are_wide_enough spec rows) (alike spec wants rows wanting) (wide spec wants rows wanting (λ more. is.broad (omega (arith, more, long))) (omega (arith, long, some)))))

  is_placed : (table : TableId) (place : ℕ) → place < length changes.fresh → table_at changes place ≡ table → is_place_of changes table place ≡ true
  is_placed table place less at =
      let number : (table_at changes place).0 ≡ table.0 = ap (λ (t : TableId). t.0) at in
      and_from (nat_lt place (length changes.fresh)) (nat_eq (table_at changes place).0 table.0) (grind (arith, nat_tests)) (grind (arith, nat_tests))

  run_sendable : (keys : Keys) (run : List ℕ) → IsSomeRun run → AllByRecursion (AreReady keys) run → is_sendable schema changes keys (insert_run changes run) ≡ true
  run_sendable keys [] is ready = absurd (omega (arith, is.0))
  run_sendable keys (place ∷ places) is ready =
      let table : TableId = table_at changes place in
      let wants : Bool = leaves_key schema changes place in
      let declared : table.0 < length schema.tables = (all_at (IsFitNew schema changes) changes.fresh place no_row fit.fresh is.1.alike.0.within).0 in
      let there : nat_lt table.0 (length schema.tables) ≡ true = grind (arith, nat_tests) in
      let placed : AllByRecursion (λ other. is_place_of changes table other ≡ true) (place ∷ places) =
      each_of (IsAlike table wants) (λ other. is_place_of changes table other ≡ true) (place ∷ places) (λ other it. is_placed table other it.within it.at) is.1.alike in
      and_from (nat_lt table.0 (length schema.tables) && list_all (is_place_of changes table) (place ∷ places))
      (nat_lt table.0 (length schema.tables) && are_new_rows (spec_of schema table) (map (row_sent schema changes keys) (place ∷ places)))
      (and_from (nat_lt table.0 (length schema.tables)) (list_all (is_place_of changes table) (place ∷ places)) there (every (is_place_of changes table) (place ∷ places) placed))
      (and_from (nat_lt table.0 (length schema.tables)) (are_new_rows (spec_of schema table) (map (row_sent schema changes keys) (place ∷ places))) there (rows_new keys table wants (place ∷ places) is.0 is.1 ready))

  -- ---- what is known once a run is sent

  -- the keys of a run that is sent are known later, and those that were known
  keys_put : (spec : TableSpec) (run : List ℕ) (rows answered : List (List Value)) (keys : Keys) (known : List ℕ) → AllByRecursion (λ place. spec_at place ≡ spec) run → length rows ≡ length run → AreKeysOf spec rows answered → AllByRecursion (IsKnown schema changes keys) known
      → AllByRecursion (IsKnown schema changes (with_keys keys run answered)) (known ++ run)
  keys_put spec [] rows answered keys known same long are was = subst (AllByRecursion (IsKnown schema changes keys)) (sym (append_none known)) was
  keys_put spec (place ∷ places) [] answered keys known same long are was = absurd (omega (arith, long))
  keys_put spec (place ∷ places) (row ∷ rows) [] keys known same long are was = absurd are
  keys_put spec (place ∷ places) (row ∷ rows) (key ∷ answered) keys known same long are was =
      let own : is_key (spec_at place) key ≡ true = ap (λ (s : TableSpec). is_key s key) same.0 ∙ are.0 in
      let later : AllByRecursion (IsKnown schema changes ((place, key) ∷ keys)) (known ++ place ∷ []) =
      all_more (IsKnown schema changes ((place, key) ∷ keys)) known place (each_of (IsKnown schema changes keys) (IsKnown schema changes ((place, key) ∷ keys)) known (λ q it. known_more schema changes keys place q key own it) was)
      (known_now schema changes keys place key own) in
      subst (AllByRecursion (IsKnown schema changes (with_keys keys (place ∷ places) (key ∷ answered)))) (append_assoc known (place ∷ []) places)
      (keys_put spec places rows answered ((place, key) ∷ keys) (known ++ place ∷ []) same.1 (omega (arith, long)) are.2 later)

  run_sent : (sofar next : Sofar) (run known : List ℕ) → IsSomeRun run → AllByRecursion (AreReady sofar.keys) run → AllByRecursion (IsKnown schema changes sofar.keys) known → send schema changes sofar (insert_run changes run) ≡ Ok next
      → AllByRecursion (IsKnown schema changes next.keys) (known ++ run)
  run_sent sofar next [] known is ready was sent = absurd (omega (arith, is.0))
  run_sent sofar next (place ∷ places) known is ready was sent =
      let run : List ℕ = place ∷ places in
      let planned : Planned = insert_run changes run in
      let one = sent_of schema changes sofar next planned sent in
      let fits : is_well_formed schema (statement_sent schema changes sofar.keys planned) ≡ true = (and_parts (is_of_rows schema changes planned) (is_well_formed schema (statement_sent schema changes sofar.keys planned)) (run_sendable sofar.keys run is ready)).1 in
      let are : AreKeysOf (spec_at place) (map (row_sent schema changes sofar.keys) run) one.answer.0 =
      keys_for schema sofar.tables (statement_sent schema changes sofar.keys planned) one.answer.0 one.answer.1 one.done (formed schema (statement_sent schema changes sofar.keys planned) fits) in
      let same : AllByRecursion (λ other. spec_at other ≡ spec_at place) run = each_of (IsAlike (table_at changes place) (leaves_key schema changes place)) (λ other. spec_at other ≡ spec_at place) run (λ other it. ap (spec_of schema) it.at) is.1.alike in
      subst (λ (s : Sofar). AllByRecursion (IsKnown schema changes s.keys) (known ++ run)) (sym one.is)
      (keys_put (spec_at place) run (map (row_sent schema changes sofar.keys) run) one.answer.0 sofar.keys known same (mapped_long (row_sent schema changes sofar.keys) run) are was)

  -- ---- all runs

  abbrev pub IsSent : Sofar → Planned → Type 0
  IsSent sofar planned = is_sendable schema changes sofar.keys planned ≡ true

  ready_run : (keys : Keys) (known run : List ℕ) → AllByRecursion (IsKnown schema changes keys) known → AllByRecursion (NamesOnly schema changes known) run → AllByRecursion (AreReady keys) run
  ready_run keys known run are names =
      each_of (NamesOnly schema changes known) (AreReady keys) run (λ place only. ready_of schema changes keys (first_cells schema changes place) (λ q named. member_all (IsKnown schema changes keys) known q are (only q named))) names

  -- a run is sent, and later what is behind the runs
  inserts_hold : (known : List ℕ) (runs : List (List ℕ)) (sofar : Sofar) (more : List Planned) → AllByRecursion IsSomeRun runs → AreBehind schema changes known runs → AllByRecursion (IsKnown schema changes sofar.keys) known
      → ((end : Sofar) → AllByRecursion (IsKnown schema changes end.keys) (known ++ all_rows runs) → HoldWhenSent IsSent schema changes end more)
      → HoldWhenSent IsSent schema changes sofar (map (insert_run changes) runs ++ more)
  inserts_hold known [] sofar more are behind was later = later sofar (subst (AllByRecursion (IsKnown schema changes sofar.keys)) (sym (append_none known)) was)
  inserts_hold known (run ∷ runs) sofar more are behind was later =
      let ready : AllByRecursion (AreReady sofar.keys) run = ready_run sofar.keys known run was behind.0 in (
        run_sendable sofar.keys run are.0 ready,
        λ next sent. inserts_hold (known ++ run) runs next more are.1 behind.1 (run_sent sofar next run known are.0 ready was sent)
            (λ end all. later end (subst (AllByRecursion (IsKnown schema changes end.keys)) (append_assoc known run (all_rows runs)) all)),
      )

  pub inserts_first : (order : List ℕ) (tables : Tables) (more : List Planned) → insert_order schema changes ≡ Ok order → AllByRecursion (λ place. place < length changes.fresh) order
      → ((end : Sofar) → AllByRecursion (IsKnown schema changes end.keys) order → HoldWhenSent IsSent schema changes end more)
      → HoldWhenSent IsSent schema changes (before tables) (map (insert_run changes) (runs schema changes order) ++ more)
  inserts_first order tables more ordered within later =
      inserts_hold [] (runs schema changes order) (before tables) more (runs_fit order [] within tt) (runs_behind schema changes order (in_turn schema changes order ordered first_fit within)) tt
      (λ end all. later end (subst (AllByRecursion (IsKnown schema changes end.keys)) (runs_whole schema changes order) all))
