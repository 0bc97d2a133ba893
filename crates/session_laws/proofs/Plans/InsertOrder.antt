-- Each new row names none that is left after it, under completeness's premises.
use Rattle.std.proofs.Common.{◌≡◌, ◌⊎◌, inl, inr, ℕ, ◌<◌, ◌≤◌, Bool, true, false, cond, ◌&&◌, ◌||◌, eqb, List, [], ◌∷◌, ◌++◌, map, length, take, Some, refl, sym, ap, ◌∙◌, subst, append_assoc, arith}
use Rattle.std.proofs.lemmas.Bool.{cases_lt, eq-eqb, eqb-true}
use Rattle.std.proofs.lemmas.List.Folds.{list_any-append}
use Rattle.std.specs.Prelude.{slice_index_or}
use Rattle.std.specs.List.{AllByRecursion, IsDistinct, list_all, list_any, slice_get}
use Rattle.base_core.specs.declared.value.Value.{Value}
use Rattle.base_core.specs.declared.value.Value.TheVariants.{Null}
use Rattle.schema_core.specs.declared.changes.NewRow.{NewRow}
use Rattle.schema_core.specs.declared.changes.RowCell.{RowCell}
use Rattle.schema_core.specs.declared.changes.RowCell.TheVariants.{Given, KeyOf}
use Rattle.schema_core.specs.declared.changes.RowChanges.{RowChanges}
use Rattle.schema_core.specs.declared.table.ColumnSpec.{ColumnSpec}
use Rattle.schema_core.specs.declared.table.ForeignSpec.{ForeignSpec}
use Rattle.schema_core.specs.Catalog.{Catalog, same_name, spec_of}
use Rattle.schema_core.specs.Tables.{Tables, cells_of, has_null, key_of, given_value}
use Rattle.base_core.proofs.Lists.{get_beyond}
use Rattle.base_core.proofs.Tests.{or_then}
use Rattle.table_laws.proofs.Entries.{all_map, any_none, none_any}
use Rattle.flush_order.proofs.ReadyLemmas.{cleared_none, parts_none}
use Rattle.flush_order.specs.Cells.{cells_cleared, first_cells, is_late, key_parts, known_row, late_name, new_at, no_row, table_at}
use Rattle.row_order.specs.Places.{IsOrder, is_among, next_place}
use Rattle.flush_order.specs.Refers.{comes_from, names, new_refers, refers_to}
use Rattle.flush_order.specs.Sorted.{Place}
use Rattle.flush_plan.specs.Flushing.{Keys, Sofar, key_of_new, value_of_cell}
use Rattle.schema_core.specs.Apply.{with_cells, with_own_key}
use Rattle.schema_core.proofs.Names.{same_names}
use Rattle.flush_plan.specs.Stating.{guess, guesses, is_open, old_row, place_of_new, put_cells, row_at, written_rows}
use Rattle.session_laws.specs.Plans.Laws.{AreLoose, IsOneKind, before, cell_named, cells_named}
use Rattle.session_laws.proofs.Plans.Between.{early_part}
use Rattle.session_laws.proofs.Plans.Blend.{Long, blend_late, nulls, nulls_are_long, nulls_null, test}
use Rattle.session_laws.proofs.Plans.Complete.{IsStated, found_placed, leads, new_long, news, once, stands, told_long, within}
use Rattle.session_laws.proofs.Plans.Drawing.{LongCells, foreign_drawn, key_drawn, long_cleared, loose_cleared}
use Rattle.session_laws.proofs.Plans.Inserting.{InOrder, NamesNot}
use Rattle.session_laws.proofs.Plans.Items.{all_at}
use Rattle.session_laws.proofs.Plans.Newness.{any_among, or_none}
use Rattle.session_laws.proofs.Plans.Ordering.{waits_not}
use Rattle.session_laws.proofs.Plans.Orders.{order_is}
use Rattle.session_laws.proofs.Plans.Placing.{Placed, keys_kept}
use Rattle.session_laws.proofs.Plans.Referring.{AllDrawn, Drawn, all_named, names_not}
use Rattle.session_laws.proofs.Plans.Facts.{bool_cases, or_false, same_some, true_false}

-- ---- lists

pub take_prefix : {A : Type 0} (xs ys : List A) → take (length xs) (xs ++ ys) ≡ xs
take_prefix [] ys = refl
take_prefix (x ∷ xs) ys = ap (λ zs. x ∷ zs) (take_prefix xs ys)

pub get_seam : {A : Type 0} (xs : List A) (y : A) (ys : List A) → slice_get (xs ++ y ∷ ys) (length xs) ≡ Some y
get_seam [] y ys = refl
get_seam (x ∷ xs) y ys = get_seam xs y ys

pub length_seam : {A : Type 0} (xs : List A) (y : A) (ys : List A) → length xs < length (xs ++ y ∷ ys)
length_seam [] y ys = omega arith
length_seam (x ∷ xs) y ys = let h = length_seam xs y ys in omega arith

pub out_before : (ahead rest : List ℕ) (q : ℕ) → IsDistinct eqb (ahead ++ rest) → is_among rest q ≡ true → is_among ahead q ≡ false
unfolding IsDistinct
out_before [] rest q apart among = refl
out_before (x ∷ ahead) rest q apart among =
    or_none (eqb q x) (is_among ahead q)
    (first (eqb q x) refl)
    (out_before ahead rest q apart.1 among)
  where
    first : (b : Bool) → eqb q x ≡ b → b ≡ false
    first true e =
        let none : is_among (ahead ++ rest) x ≡ false = none_any (eqb x) (ahead ++ rest) apart.0 in
        let later : is_among rest x ≡ false = (or_false (is_among ahead x) (is_among rest x) (sym (list_any-append (eqb x) ahead rest) ∙ none)).1 in
        absurd (true_false (sym among ∙ ap (is_among rest) (eqb-true q x e) ∙ later))
    first false e = refl

-- ---- cells

long_cells : (cs : List ColumnSpec) (cells : List RowCell) → Long cs (map given_value cells) → LongCells cs cells
long_cells [] [] l = tt
long_cells [] (cell ∷ cells) l = absurd l
long_cells (c ∷ cs) [] l = absurd l
long_cells (c ∷ cs) (cell ∷ cells) l = long_cells cs cells l

cons_nil : (x : RowCell) (xs : List RowCell) → x ∷ xs ≡ [] → ⊥
cons_nil x xs f = cc

some_step : (b : Bool) (cell : RowCell) (parts : List RowCell) (more : Bool) → (more ≡ true → parts ≡ [] → ⊥) → (b || more) ≡ true → cond b (cell ∷ parts) parts ≡ [] → ⊥
some_step true cell parts more later k f = cons_nil cell parts f
some_step false cell parts more later k f = later k f

parts_some : (cs : List ColumnSpec) (cells : List RowCell) → LongCells cs cells → list_any (λ c. c.key) cs ≡ true → key_parts cs cells ≡ [] → ⊥
parts_some [] cells l keyed e = true_false (sym keyed)
parts_some (c ∷ cs) [] l keyed e = absurd l
parts_some (c ∷ cs) (cell ∷ cells) l keyed e = some_step c.key cell (key_parts cs cells) (list_any (λ d. d.key) cs) (parts_some cs cells l) keyed e

named_step : (s : Bool) (late : List ℕ → Bool) (c : ColumnSpec) (name : List ℕ) (cell other : RowCell) → same_name c.name name ≡ s → cond s (cond (late c.name) (Given Null) cell) (cond (late name) (Given Null) other) ≡ cond (late name) (Given Null) (cond s cell other)
named_step true late c name cell other e = ap (λ n. cond (late n) (Given Null) cell) (same_names c.name name e)
named_step false late c name cell other e = refl

both_given : (b : Bool) → Given Null ≡ cond b (Given Null) (Given Null)
both_given true = refl
both_given false = refl

named_cleared : (late : List ℕ → Bool) (cs : List ColumnSpec) (cells : List RowCell) (name : List ℕ) → cell_named cs (cells_cleared (test late) (Given Null) cs cells) name ≡ cond (late name) (Given Null) (cell_named cs cells name)
named_cleared late [] cells name = both_given (late name)
named_cleared late (c ∷ cs) [] name = both_given (late name)
named_cleared late (c ∷ cs) (cell ∷ cells) name =
    ap (cond (same_name c.name name) (cond (late c.name) (Given Null) cell)) (named_cleared late cs cells name)
    ∙ named_step (same_name c.name name) late c name cell (cell_named cs cells name) refl

-- where none of the columns is late nothing is cleared
early_named : (late : List ℕ → Bool) (cs : List ColumnSpec) (cells : List RowCell) (names : List (List ℕ)) → list_any late names ≡ false → map (cell_named cs (cells_cleared (test late) (Given Null) cs cells)) names ≡ map (cell_named cs cells) names
early_named late cs cells [] e = refl
early_named late cs cells (name ∷ names) e =
    let both = or_false (late name) (list_any late names) e in
    λ i. (named_cleared late cs cells name ∙ ap (λ b. cond b (Given Null) (cell_named cs cells name)) both.0) i ∷ early_named late cs cells names both.1 i

-- cells that come from rows whose keys are known already
kept_cells : (one other : Keys) (cells : List RowCell) → ((q : ℕ) → (key_of_new one q ≡ key_of_new other q) ⊎ (list_any (comes_from q) cells ≡ false)) → map (value_of_cell one) cells ≡ map (value_of_cell other) cells
kept_cells one other [] kept = refl
kept_cells one other (Given value ∷ cells) kept = ap (λ vs. value ∷ vs) (kept_cells one other cells kept)
kept_cells one other (KeyOf place part ∷ cells) kept =
    λ i. here i ∷ kept_cells one other cells (λ q. later q (kept q)) i
  where
    here : value_of_cell one (KeyOf place part) ≡ value_of_cell other (KeyOf place part)
    here = elim (kept place) [
      | inl same ↦ ap (λ key. slice_index_or key part Null) same
      | inr none ↦ absurd (true_false (sym (ap (λ b. b || list_any (comes_from place) cells) (eq-eqb place place refl)) ∙ none))
    ]

    later : (q : ℕ) → (key_of_new one q ≡ key_of_new other q) ⊎ ((eqb place q || list_any (comes_from q) cells) ≡ false) → (key_of_new one q ≡ key_of_new other q) ⊎ (list_any (comes_from q) cells ≡ false)
    later q (inl same) = inl same
    later q (inr none) = inr (or_false (eqb place q) (list_any (comes_from q) cells) none).1

drawn_nil : (keys : Keys) (parts : List RowCell) (key : List Value) → key ≡ [] → Drawn keys parts key → parts ≡ []
drawn_nil keys [] key e d = refl
drawn_nil keys (cell ∷ parts) [] e d = absurd d
drawn_nil keys (cell ∷ parts) (v ∷ key) e d = absurd (value_nil v key e)
  where
    value_nil : (x : Value) (xs : List Value) → x ∷ xs ≡ [] → ⊥
    value_nil x xs f = cc

all_zip : {A : Type 0} (P Q : A → Type 0) (xs : List A) → AllByRecursion P xs → AllByRecursion Q xs → AllByRecursion (λ x. P x × Q x) xs
all_zip P Q [] p q = tt
all_zip P Q (x ∷ xs) p q = ((p.0, q.0), all_zip P Q xs p.1 q.1)

module _ (schema : Catalog) (old : Tables) (changes : RowChanges) (order : List ℕ) (placed : Sofar) (after : Tables) (told : IsStated schema old changes order placed after) where
  abbrev columns_at : ℕ → List ColumnSpec
  columns_at place = (spec_of schema (table_at changes place)).columns

  abbrev raw : ℕ → List RowCell
  raw place = (new_at changes place).cells

  abbrev late_at : ℕ → List ℕ → Bool
  late_at place = late_name schema changes (table_at changes place)

  pub is_order : IsOrder (new_refers schema changes) (length changes.fresh) order
  is_order = order_is (new_refers schema changes) (length changes.fresh) order told.ordered

  next_at : (ahead rest : List ℕ) (place : ℕ) → order ≡ ahead ++ place ∷ rest → next_place (new_refers schema changes) (length changes.fresh) ahead ≡ Some place
  next_at ahead rest place split =
      let h : length ahead < length order = subst (λ xs. length ahead < length xs) (sym split) (length_seam ahead place rest) in
      ap (next_place (new_refers schema changes) (length changes.fresh)) (sym (ap (take (length ahead)) split ∙ take_prefix ahead (place ∷ rest)))
      ∙ is_order.next (length ahead) h
      ∙ ap (λ xs. slice_get xs (length ahead)) split ∙ get_seam ahead place rest

  among_split : (ahead rest : List ℕ) (q : ℕ) → order ≡ ahead ++ rest → is_among rest q ≡ true → is_among order q ≡ true
  among_split ahead rest q split among = ap (λ xs. is_among xs q) split ∙ list_any-append (eqb q) ahead rest ∙ or_then (is_among ahead q) (is_among rest q) among

  -- no row refers to one that is left after it, nor to itself
  pub refers_not : (ahead rest : List ℕ) (place other : ℕ) → order ≡ ahead ++ place ∷ rest → is_among (place ∷ rest) other ≡ true → new_refers schema changes place other ≡ false
  refers_not ahead rest place other split among =
      waits_not (new_refers schema changes) (length changes.fresh) ahead place other (next_at ahead rest place split)
      (within schema old changes order placed after told other (among_split ahead (place ∷ rest) other split among))
      (out_before ahead (place ∷ rest) other (subst (IsDistinct eqb) split (once schema old changes order placed after told)) among)

  part_not : (ahead rest : List ℕ) (place other : ℕ) → order ≡ ahead ++ place ∷ rest → is_among (place ∷ rest) other ≡ true → list_any (comes_from other) (first_cells schema changes place) ≡ false
  part_not ahead rest place other split among =
      (or_false (list_any (comes_from other) (first_cells schema changes place))
      (refers_to schema (known_row schema changes place) (table_at changes place) (table_at changes other) (key_of (spec_of schema (table_at changes other)) (known_row schema changes other)))
      (refers_not ahead rest place other split among)).0

  value_not : (ahead rest : List ℕ) (place other : ℕ) → order ≡ ahead ++ place ∷ rest → is_among (place ∷ rest) other ≡ true → refers_to schema (known_row schema changes place) (table_at changes place) (table_at changes other) (key_of (spec_of schema (table_at changes other)) (known_row schema changes other)) ≡ false
  value_not ahead rest place other split among =
      (or_false (list_any (comes_from other) (first_cells schema changes place))
      (refers_to schema (known_row schema changes place) (table_at changes place) (table_at changes other) (key_of (spec_of schema (table_at changes other)) (known_row schema changes other)))
      (refers_not ahead rest place other split among)).1

  -- the row that was placed, in terms of the keys as they are at the end
  pub last_draws : (place : ℕ) (found : Placed schema changes order placed place) → with_own_key (spec_of schema (table_at changes place)) found.step.rows (map (value_of_cell placed.keys) (first_cells schema changes place)) ≡ Some found.step.row
  last_draws place found =
      ap (with_own_key (spec_of schema (table_at changes place)) found.step.rows)
      (kept_cells placed.keys found.sofar.keys (first_cells schema changes place)
      (λ q. elim (bool_cases (is_among (place ∷ found.later) q)) [
        | inl left ↦ inr (part_not found.before found.later place q found.split left)
        | inr out ↦ inl (keys_kept schema changes (place ∷ found.later) found.sofar placed q found.leads out)
      ]))
      ∙ found.step.draws

  its_cells : (place : ℕ) → is_among order place ≡ true → LongCells (columns_at place) (raw place)
  its_cells place among = long_cells (columns_at place) (raw place) (new_long schema old changes order placed after told place among)

  pub all_drawn : AllDrawn schema changes placed.keys
  all_drawn place =
      elim (bool_cases (is_among order place)) [
        | inl among ↦
            let found = found_placed schema old changes order placed after told place among in
            subst (Drawn placed.keys (key_parts (columns_at place) (first_cells schema changes place))) (ap (λ q. q.1) found.key)
            (key_drawn (spec_of schema (table_at changes place)) found.step.rows placed.keys (first_cells schema changes place) found.step.row
            (long_cleared (is_late schema changes (table_at changes place)) (columns_at place) (raw place) (its_cells place among))
            (loose_cleared (spec_of schema (table_at changes place)).foreigns (is_late schema changes (table_at changes place)) (columns_at place) (raw place)
            (all_at (λ (row : NewRow). AreLoose (spec_of schema row.name.table).foreigns (spec_of schema row.name.table).columns row.cells) changes.fresh place no_row told.projected.new_loose (within schema old changes order placed after told place among)))
            (last_draws place found))
        | inr out ↦
            let past : length changes.fresh ≤ place = elim (cases_lt place (length changes.fresh)) [
              | inl inside ↦ absurd (true_false (sym (is_order.each place inside) ∙ out))
              | inr beyond ↦ beyond
            ] in
            let row : new_at changes place ≡ no_row = get_beyond changes.fresh place no_row past in
            let parts : key_parts (columns_at place) (first_cells schema changes place) ≡ [] =
            ap (λ (r : NewRow). key_parts (spec_of schema r.name.table).columns (cells_cleared (is_late schema changes r.name.table) (Given Null) (spec_of schema r.name.table).columns r.cells)) row
            ∙ ap (key_parts (spec_of schema no_row.name.table).columns) (cleared_none (is_late schema changes no_row.name.table) (Given Null) (spec_of schema no_row.name.table).columns)
            ∙ parts_none (spec_of schema no_row.name.table).columns in
            let key : key_of_new placed.keys place ≡ [] = keys_kept schema changes order (before old) placed place (leads schema old changes order placed after told) out in
            subst (λ ps. Drawn placed.keys ps (key_of_new placed.keys place)) (sym parts) (subst (Drawn placed.keys []) (sym key) tt)
      ]

  some_key : (other : ℕ) → is_among order other ≡ true → key_of_new placed.keys other ≡ [] → ⊥
  some_key other among none =
      parts_some (columns_at other) (first_cells schema changes other)
      (long_cleared (is_late schema changes (table_at changes other)) (columns_at other) (raw other) (its_cells other among))
      (all_at (λ (row : NewRow). list_any (λ column. column.key) (spec_of schema row.name.table).columns ≡ true) changes.fresh other no_row told.projected.new_keyed (within schema old changes order placed after told other among))
      (drawn_nil placed.keys (key_parts (columns_at other) (first_cells schema changes other)) (key_of_new placed.keys other) none (all_drawn other))

  -- what is known of each foreign key of a new row
  abbrev Known : ℕ → ℕ → List Value → ForeignSpec → Type 0
  Known place other row foreign =
      (cells_of (spec_of schema (table_at changes place)) row foreign.columns ≡ map (value_of_cell placed.keys) (map (cell_named (columns_at place) (first_cells schema changes place)) foreign.columns))
      × ((IsOneKind schema changes foreign (cells_named schema (table_at changes place) (raw place) foreign.columns))
      × (((list_all (late_at place) foreign.columns ≡ true) ⊎ (list_any (late_at place) foreign.columns ≡ false))
      × ((names schema (known_row schema changes place) (table_at changes place) (table_at changes other) (key_of (spec_of schema (table_at changes other)) (known_row schema changes other)) foreign ≡ false)
      × (list_any (λ p. is_open schema changes p && names schema (map given_value (raw place)) (table_at changes place) (table_at changes p) (key_of_new placed.keys p) foreign) order ≡ false))))

  its_place : ℕ → Place
  its_place = place_of_new changes placed.keys

  late_not : (place other : ℕ) (written : List Value) (foreign : ForeignSpec) → is_among order other ≡ true → Long (columns_at place) written → list_all (late_at place) foreign.columns ≡ true → has_null (cells_of (spec_of schema (table_at changes place)) (early_part schema changes (place_of_new changes placed.keys place) written) foreign.columns) ≡ false → cells_of (spec_of schema (table_at changes place)) (early_part schema changes (place_of_new changes placed.keys place) written) foreign.columns ≡ key_of_new placed.keys other → ⊥
  late_not place other written foreign among long whole none same =
      let cells : cells_of (spec_of schema (table_at changes place)) (early_part schema changes (place_of_new changes placed.keys place) written) foreign.columns ≡ cells_of (spec_of schema (table_at changes place)) (nulls (columns_at place)) foreign.columns =
      blend_late (late_at place) (columns_at place) written (nulls (columns_at place)) foreign.columns long (nulls_are_long (columns_at place)) whole in
      elim (nulls_null (columns_at place) foreign.columns) [
        | inl empty ↦ some_key other among (sym same ∙ cells ∙ ap (cells_of (spec_of schema (table_at changes place)) (nulls (columns_at place))) empty)
        | inr null ↦ true_false (sym (ap has_null cells ∙ null) ∙ none)
      ]

  by_kind : (ahead rest : List ℕ) (place other : ℕ) (row written : List Value) (foreign : ForeignSpec) → order ≡ ahead ++ place ∷ rest → is_among (place ∷ rest) other ≡ true → row ≡ early_part schema changes (place_of_new changes placed.keys place) written → Long (columns_at place) written → Known place other row foreign → NamesNot schema changes old after placed (place_of_new changes placed.keys other) (place_of_new changes placed.keys place) written foreign
  by_kind ahead rest place other row written foreign split left is long (cells, (kind, (inl whole, (value, guessed)))) target none same =
      late_not place other written foreign (among_split ahead (place ∷ rest) other split left) long whole none same
  by_kind ahead rest place other row written foreign split left is long (cells, (kind, (inr early, (value, guessed)))) target none same =
      let among : is_among order other ≡ true = among_split ahead (place ∷ rest) other split left in
      let named : cells_named schema (table_at changes place) (first_cells schema changes place) foreign.columns ≡ cells_named schema (table_at changes place) (raw place) foreign.columns = early_named (late_at place) (columns_at place) (raw place) foreign.columns early in
      names_not schema changes placed.keys all_drawn place other row (map given_value (raw place)) foreign
      (record {
        cells = cells;
        kind = subst (IsOneKind schema changes foreign) (sym named) kind;
        guess_cells = all_named given_value refl (columns_at place) (raw place) foreign.columns ∙ ap (map given_value) (sym named);
        no_guess = any_among (λ p. is_open schema changes p && names schema (map given_value (raw place)) (table_at changes place) (table_at changes p) (key_of_new placed.keys p) foreign) order other guessed among;
        no_value = value;
        no_part = part_not ahead rest place other split left;
        some_key = some_key other among;
        one_key = λ q inside table key. (news schema old changes order placed after told).apart q other (is_order.each q inside) among (λ i. (table i, key i));
      })
      target
      (ap (λ r. has_null (cells_of (spec_of schema (table_at changes place)) r foreign.columns)) is ∙ none)
      (ap (λ r. cells_of (spec_of schema (table_at changes place)) r foreign.columns) is ∙ same)

  module _ (no_guess : guess schema old changes order placed.keys ≡ false) where
    no_guesses : (place : ℕ) → is_among order place ≡ true → guesses schema changes order placed.keys (table_at changes place) (map given_value (raw place)) ≡ false
    unfolding guess
    no_guesses place among =
        any_among (λ p. guesses schema changes order placed.keys (table_at changes p) (map given_value (raw p))) order place
        (or_false (list_any (λ p. guesses schema changes order placed.keys (table_at changes p) (map given_value (raw p))) order)
        (list_any (λ row. guesses schema changes order placed.keys row.name.table (with_cells (old_row old row) (put_cells given_value row.cells))) (written_rows changes))
        no_guess).0
        among

    names_none : (ahead rest : List ℕ) (place other : ℕ) (written : List Value) → order ≡ ahead ++ place ∷ rest → is_among (place ∷ rest) other ≡ true → row_at after (place_of_new changes placed.keys place) ≡ Some written → AllByRecursion (NamesNot schema changes old after placed (place_of_new changes placed.keys other) (place_of_new changes placed.keys place) written) (spec_of schema (table_at changes place)).foreigns
    names_none ahead rest place other written split left at =
        let here : is_among order place ≡ true = among_split ahead (place ∷ rest) place split (ap (λ b. b || is_among rest place) (eq-eqb place place refl)) in
        let found = found_placed schema old changes order placed after told place here in
        let stood = stands schema old changes order placed after told place found.step.row here found.stands in
        let same : stood.0 ≡ written = same_some stood.0 written (sym stood.1 ∙ at) in
        let foreigns : List ForeignSpec = (spec_of schema (table_at changes place)).foreigns in
        all_map (Known place other found.step.row) (NamesNot schema changes old after placed (place_of_new changes placed.keys other) (place_of_new changes placed.keys place) written)
        (λ foreign known. by_kind ahead rest place other found.step.row written foreign
        split left (stood.2 ∙ ap (early_part schema changes (place_of_new changes placed.keys place)) same)
        (told_long schema old changes order placed after told (place_of_new changes placed.keys place) written (inr at)) known)
        foreigns
        (all_zip
        (λ foreign. cells_of (spec_of schema (table_at changes place)) found.step.row foreign.columns ≡ map (value_of_cell placed.keys) (map (cell_named (columns_at place) (first_cells schema changes place)) foreign.columns))
        (λ foreign. (IsOneKind schema changes foreign (cells_named schema (table_at changes place) (raw place) foreign.columns))
        × (((list_all (late_at place) foreign.columns ≡ true) ⊎ (list_any (late_at place) foreign.columns ≡ false))
        × ((names schema (known_row schema changes place) (table_at changes place) (table_at changes other) (key_of (spec_of schema (table_at changes other)) (known_row schema changes other)) foreign ≡ false)
        × (list_any (λ p. is_open schema changes p && names schema (map given_value (raw place)) (table_at changes place) (table_at changes p) (key_of_new placed.keys p) foreign) order ≡ false))))
        foreigns
        (foreign_drawn (spec_of schema (table_at changes place)) found.step.rows placed.keys (first_cells schema changes place) found.step.row foreigns (λ c free. free) (last_draws place found))
        (all_zip (λ foreign. IsOneKind schema changes foreign (cells_named schema (table_at changes place) (raw place) foreign.columns))
        (λ foreign. ((list_all (late_at place) foreign.columns ≡ true) ⊎ (list_any (late_at place) foreign.columns ≡ false))
        × ((names schema (known_row schema changes place) (table_at changes place) (table_at changes other) (key_of (spec_of schema (table_at changes other)) (known_row schema changes other)) foreign ≡ false)
        × (list_any (λ p. is_open schema changes p && names schema (map given_value (raw place)) (table_at changes place) (table_at changes p) (key_of_new placed.keys p) foreign) order ≡ false)))
        foreigns
        (all_at (λ (row : NewRow). AllByRecursion (λ foreign. IsOneKind schema changes foreign (cells_named schema row.name.table row.cells foreign.columns)) (spec_of schema row.name.table).foreigns) changes.fresh place no_row told.projected.new_foreigns (within schema old changes order placed after told place here))
        (all_zip (λ foreign. (list_all (late_at place) foreign.columns ≡ true) ⊎ (list_any (late_at place) foreign.columns ≡ false))
        (λ foreign. (names schema (known_row schema changes place) (table_at changes place) (table_at changes other) (key_of (spec_of schema (table_at changes other)) (known_row schema changes other)) foreign ≡ false)
        × (list_any (λ p. is_open schema changes p && names schema (map given_value (raw place)) (table_at changes place) (table_at changes p) (key_of_new placed.keys p) foreign) order ≡ false))
        foreigns (told.projected.fit.foreigns (table_at changes place))
        (all_zip (λ foreign. names schema (known_row schema changes place) (table_at changes place) (table_at changes other) (key_of (spec_of schema (table_at changes other)) (known_row schema changes other)) foreign ≡ false)
        (λ foreign. list_any (λ p. is_open schema changes p && names schema (map given_value (raw place)) (table_at changes place) (table_at changes p) (key_of_new placed.keys p) foreign) order ≡ false)
        foreigns
        (any_none (names schema (known_row schema changes place) (table_at changes place) (table_at changes other) (key_of (spec_of schema (table_at changes other)) (known_row schema changes other))) foreigns (value_not ahead rest place other split left))
        (any_none (λ foreign. list_any (λ p. is_open schema changes p && names schema (map given_value (raw place)) (table_at changes place) (table_at changes p) (key_of_new placed.keys p) foreign) order) foreigns (no_guesses place here))))))

    in_order : (ahead rest : List ℕ) → order ≡ ahead ++ rest → InOrder schema changes old after placed rest
    in_order ahead [] split = tt
    in_order ahead (place ∷ rest) split = (
      λ row other at left. names_none ahead rest place other row split left at,
      in_order (ahead ++ place ∷ []) rest (split ∙ sym (append_assoc ahead (place ∷ []) rest)),
    )

    pub news_ordered : InOrder schema changes old after placed order
    news_ordered = in_order [] order refl
