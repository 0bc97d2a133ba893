-- What a cell that is a part of the key of a new row comes to, once keys are drawn, also where rows were switched.
use Rattle.std.proofs.Common.{◌≡◌, ◌⊎◌, inl, inr, ℕ, zero, suc, ◌+◌, ◌<◌, ◌≤◌, Bool, true, false, cond, if◌then◌else◌, List, [], ◌∷◌, length, map, get_or, Option, None, Some, is_some, refl, sym, subst, ap, ◌∙◌, arith}
use Rattle.std.specs.Prelude.{slice_get}
use Rattle.std.specs.List.{AllByRecursion, cons_option, enumerate_from, filter_map}
use Rattle.std.proofs.lemmas.Bool.{cases_lt}
use Rattle.std.proofs.lemmas.List.{ext_get_or, length-map}
use Rattle.std.proofs.lemmas.List.Elements.{All-from_recursion, All-get_or}
use Rattle.std.proofs.lemmas.Option.{get_or_from_slice_get, same_Some, slice_get-get_or, slice_get_within}
use Rattle.base_core.proofs.Lists.{get_beyond}
use Rattle.base_core.specs.declared.value.Value.{Value}
use Rattle.base_core.specs.declared.value.Value.TheVariants.{Null}
use Rattle.schema_core.specs.declared.changes.NewRow.{NewRow}
use Rattle.schema_core.specs.declared.changes.RowCell.{RowCell}
use Rattle.schema_core.specs.declared.changes.RowCell.TheVariants.{Given, KeyOf}
use Rattle.schema_core.specs.declared.changes.RowChanges.{RowChanges}
use Rattle.schema_core.specs.declared.table.ColumnSpec.{ColumnSpec}
use Rattle.schema_core.specs.Catalog.{Catalog, key_columns, spec_of}
use Rattle.schema_core.specs.Tables.{has_null, is_null}
use Rattle.class_mapping.specs.Mapped.{Mapped}
use Rattle.class_mapping.proofs.Lists.{or_left, or_right}
use Rattle.object_arena.specs.Graph.{Graph}
use Rattle.flush_order.specs.Cells.{cells_cleared, first_cells, is_late, key_parts, known_value, new_at, no_row, part_at, table_at}
use Rattle.flush_plan.specs.Flushing.{Keys, key_of_new, value_of_cell}
use Rattle.row_partners.specs.Partners.{known_key, partners}
use Rattle.row_switches.specs.Switch.{cell_after_switch, numbers_from, row_staying, rows_staying, with_switches}
use Rattle.row_partners.specs.Partners as switching
use Rattle.row_switches.specs.Switch as switch
use Rattle.row_partners.proofs.PartnerSteps.{partner_at, partners_length}
use Rattle.session_laws.proofs.Plans.Facts.{true_false}
use Rattle.session_laws.proofs.Plans.Referring.{AllDrawn, Drawn, key_map}
use Rattle.session_laws.specs.Projects.{IsWhole}
use Rattle.session_laws.proofs.Projects.Passing.{false_none}
use Rattle.session_laws.proofs.Graphs.LinkKinds.{parts_long}

-- ---- which rows stay, and at which number

-- an item without a partner is kept; before it as many are kept as its number says
module _ {A B : Type 0} (f : ℕ × A → Option B) (make : A → B) where
  abbrev FollowsPartners : ℕ → List (Option ℕ) → List A → Type 0
  FollowsPartners n found xs = (i : ℕ) (x : A) → i < length xs → f (n + i, x) ≡ (if is_some (get_or found i None) then None else Some (make x))

  abbrev kept_from : ℕ → List A → List B
  kept_from n xs = filter_map f (enumerate_from n xs)

  rest_follows : (n : ℕ) (one : Option ℕ) (found : List (Option ℕ)) (x : A) (xs : List A) → FollowsPartners n (one ∷ found) (x ∷ xs) → FollowsPartners (n + 1) found xs
  rest_follows n one found x xs follows i y less = let next : n + 1 + i ≡ n + suc i = omega arith in ap (λ (k : ℕ). f (k, y)) next ∙ follows (suc i) y (omega (arith, less))

  first_follows : (n : ℕ) (one : Option ℕ) (found : List (Option ℕ)) (x : A) (xs : List A) → FollowsPartners n (one ∷ found) (x ∷ xs) → f (n, x) ≡ (if is_some one then None else Some (make x))
  first_follows n one found x xs follows = let here : n ≡ n + 0 = omega arith in ap (λ (k : ℕ). f (k, x)) here ∙ follows 0 x (omega arith)

  kept_at : (n count : ℕ) (found : List (Option ℕ)) (xs : List A) → length found ≡ length xs → FollowsPartners n found xs → (i d : ℕ) (x : A) → slice_get xs i ≡ Some x → get_or found i None ≡ None
      → (k : ℕ) × (get_or (numbers_from count found) i d ≡ count + k) × (slice_get (kept_from n xs) k ≡ Some (make x))
  kept_at n count found [] long follows i d x at none = absurd cc
  kept_at n count [] (y ∷ xs) long follows i d x at none = absurd (omega (arith, long))
  kept_at n count (None ∷ found) (y ∷ xs) long follows zero d x at none =
      (0, omega arith, ap (λ (o : Option B). slice_get (cons_option o (kept_from (n + 1) xs)) 0) (first_follows n None found y xs follows) ∙ ap (λ (z : A). Some (make z)) (same_Some y x at))
  kept_at n count (Some gone ∷ found) (y ∷ xs) long follows zero d x at none = absurd cc
  kept_at n count (None ∷ found) (y ∷ xs) long follows (suc i) d x at none =
      let more = kept_at (n + 1) (count + 1) found xs (omega (arith, long)) (rest_follows n None found y xs follows) i d x at none in
      (suc more.0, omega (arith, more.1), ap (λ (o : Option B). slice_get (cons_option o (kept_from (n + 1) xs)) (suc more.0)) (first_follows n None found y xs follows) ∙ more.2)
  kept_at n count (Some gone ∷ found) (y ∷ xs) long follows (suc i) d x at none =
      let more = kept_at (n + 1) count found xs (omega (arith, long)) (rest_follows n (Some gone) found y xs follows) i d x at none in
      (more.0, more.1, ap (λ (o : Option B). slice_get (cons_option o (kept_from (n + 1) xs)) more.0) (first_follows n (Some gone) found y xs follows) ∙ more.2)

  -- and each that is kept is such an item
  record IsKeptOf (found : List (Option ℕ)) (xs : List A) (count k : ℕ) (y : B) : Type 0 where
    place : ℕ
    item : A
    at : slice_get xs place ≡ Some item
    none : get_or found place None ≡ None
    number : (d : ℕ) → get_or (numbers_from count found) place d ≡ count + k
    is : make item ≡ y

  kept_back : (n count : ℕ) (found : List (Option ℕ)) (xs : List A) → length found ≡ length xs → FollowsPartners n found xs → (k : ℕ) (y : B) → slice_get (kept_from n xs) k ≡ Some y → IsKeptOf found xs count k y
  kept_back n count found [] long follows k y at = absurd cc
  kept_back n count [] (x ∷ xs) long follows k y at = absurd (omega (arith, long))
  kept_back n count (Some gone ∷ found) (x ∷ xs) long follows k y at =
      let more = kept_back (n + 1) count found xs (omega (arith, long)) (rest_follows n (Some gone) found x xs follows) k y (sym (ap (λ (o : Option B). slice_get (cons_option o (kept_from (n + 1) xs)) k) (first_follows n (Some gone) found x xs follows)) ∙ at) in
      record { place = suc more.place; item = more.item; at = more.at; none = more.none; number = more.number; is = more.is }
  kept_back n count (None ∷ found) (x ∷ xs) long follows k y at =
      by k (sym (ap (λ (o : Option B). slice_get (cons_option o (kept_from (n + 1) xs)) k) (first_follows n None found x xs follows)) ∙ at) (λ j there. kept_back (n + 1) (count + 1) found xs (omega (arith, long)) (rest_follows n None found x xs follows) j y there)
    where
      by : (k : ℕ) → slice_get (make x ∷ filter_map f (enumerate_from (n + 1) xs)) k ≡ Some y → ((j : ℕ) → slice_get (filter_map f (enumerate_from (n + 1) xs)) j ≡ Some y → IsKeptOf found xs (count + 1) j y) → IsKeptOf (None ∷ found) (x ∷ xs) count k y
      by zero at later = record { place = 0; item = x; at = refl; none = refl; number = λ d. omega arith; is = same_Some (make x) y at }
      by (suc j) at later =
          let more = later j at in
          record { place = suc more.place; item = more.item; at = more.at; none = more.none; number = λ d. let e = more.number d in omega (arith, e); is = more.is }

-- ---- parts of keys

cleared_map : (g : RowCell → RowCell) (t : ColumnSpec → Bool) (cs : List ColumnSpec) (cells : List RowCell) → g (Given Null) ≡ Given Null → cells_cleared t (Given Null) cs (map g cells) ≡ map g (cells_cleared t (Given Null) cs cells)
cleared_map g t [] [] none = refl
cleared_map g t [] (cell ∷ cells) none = refl
cleared_map g t (c ∷ cs) [] none = refl
cleared_map g t (c ∷ cs) (cell ∷ cells) none = (λ i. step (t c) i ∷ cleared_map g t cs cells none i)
  where
    step : (b : Bool) → cond b (Given Null) (g cell) ≡ g (cond b (Given Null) cell)
    step true = sym none
    step false = refl

parts_map : (g : RowCell → RowCell) (cs : List ColumnSpec) (cells : List RowCell) → key_parts cs (map g cells) ≡ map g (key_parts cs cells)
parts_map g [] cells = refl
parts_map g (c ∷ cs) [] = refl
parts_map g (c ∷ cs) (cell ∷ cells) = step c.key (key_parts cs (map g cells)) (key_parts cs cells) (parts_map g cs cells)
  where
    step : (b : Bool) (xs ys : List RowCell) → xs ≡ map g ys → cond b (g cell ∷ xs) xs ≡ map g (cond b (cell ∷ ys) ys)
    step true xs ys e = λ i. g cell ∷ e i
    step false xs ys e = e

drawn_long : (keys : Keys) (parts : List RowCell) (key : List Value) → Drawn keys parts key → length key ≡ length parts
drawn_long keys [] [] d = refl
drawn_long keys [] (v ∷ key) d = absurd d
drawn_long keys (part ∷ parts) [] d = absurd d
drawn_long keys (part ∷ parts) (v ∷ key) d = ap suc (drawn_long keys parts key d.1)

drawn_part : (keys : Keys) (parts : List RowCell) (key : List Value) (i : ℕ) → Drawn keys parts key → (get_or key i Null ≡ value_of_cell keys (get_or parts i (Given Null))) ⊎ (get_or parts i (Given Null) ≡ Given Null)
drawn_part keys [] [] i d = inr refl
drawn_part keys [] (v ∷ key) i d = absurd d
drawn_part keys (part ∷ parts) [] i d = absurd d
drawn_part keys (part ∷ parts) (v ∷ key) zero d = d.0
drawn_part keys (part ∷ parts) (v ∷ key) (suc i) d = drawn_part keys parts key i d.1

-- what is known going back over some rows is known going back over more
known_more : (schema : Catalog) (changes : RowChanges) (a b : ℕ) (cell : RowCell) → a ≤ b → (known_value schema changes a cell ≡ Null) ⊎ (known_value schema changes b cell ≡ known_value schema changes a cell)
known_more schema changes a b (Given value) less = inr refl
known_more schema changes zero b (KeyOf place part) less = inl refl
known_more schema changes (suc a) zero (KeyOf place part) less = absurd (omega (arith, less))
known_more schema changes (suc a) (suc b) (KeyOf place part) less = known_more schema changes a b (part_at schema changes place part) (omega (arith, less))

module _ (mapped : Mapped) (graph : Graph) (first : RowChanges) (whole : AllByRecursion (IsWhole mapped.schema) first.fresh) (keys : Keys) (drawn : AllDrawn mapped.schema (with_switches mapped graph first) keys) where
  abbrev schema : Catalog
  schema = mapped.schema

  abbrev found : List (Option ℕ)
  found = partners mapped.schema first

  abbrev rest : RowChanges
  rest = with_switches mapped graph first

  abbrev after : RowCell → RowCell
  after = cell_after_switch mapped.schema first (partners mapped.schema first)

  abbrev pub number : ℕ → ℕ
  number q = get_or (numbers_from 0 (partners mapped.schema first)) q q

  -- what a cell comes to
  abbrev pub value_in : RowCell → Value
  value_in cell = value_of_cell keys (cell_after_switch mapped.schema first (partners mapped.schema first) cell)

  abbrev pub key_by : Option ℕ → ℕ → List Value
  key_by (Some gone) q = known_key mapped.schema first q
  key_by None q = key_of_new keys (number q)

  -- the key of a new row, switched or not
  abbrev pub row_key : ℕ → List Value
  row_key q = key_by (get_or (partners mapped.schema first) q None) q

  pub key_part_is : (q part : ℕ) → value_in (KeyOf q part) ≡ get_or (row_key q) part Null
  key_part_is q part = by (get_or (partners mapped.schema first) q None) refl
    where
      by : (o : Option ℕ) → get_or (partners mapped.schema first) q None ≡ o → value_of_cell keys (switch.key_cell mapped.schema first (partners mapped.schema first) q part o) ≡ get_or (key_by o q) part Null
      by (Some gone) e = refl
      by None e = refl

  follows : FollowsPartners (row_staying mapped.schema first (partners mapped.schema first)) (λ (row : NewRow). record { name = row.name; cells = map after row.cells }) 0 (partners mapped.schema first) first.fresh
  follows i x less = let place : 0 + i ≡ i = omega arith in ap (λ (k : ℕ). row_staying mapped.schema first (partners mapped.schema first) (k, x)) place

  -- a row that is not switched
  pub stays_at : (q : ℕ) → q < length first.fresh → get_or (partners mapped.schema first) q None ≡ None → slice_get (with_switches mapped graph first).fresh (number q) ≡ Some (record { name = (new_at first q).name; cells = map after (new_at first q).cells })
  stays_at q less none =
      let kept = kept_at (row_staying mapped.schema first (partners mapped.schema first)) (λ (row : NewRow). record { name = row.name; cells = map after row.cells }) 0 0 (partners mapped.schema first) first.fresh (partners_length mapped.schema first) follows q q (new_at first q)
      (slice_get-get_or first.fresh q no_row less) none in
      let same : number q ≡ kept.0 = omega (arith, kept.1) in
      ap (slice_get (rows_staying mapped.schema first (partners mapped.schema first))) same ∙ kept.2

  pub stays_from : (k : ℕ) (row : NewRow) → slice_get (with_switches mapped graph first).fresh k ≡ Some row
      → (q : ℕ) × (q < length first.fresh) × (get_or (partners mapped.schema first) q None ≡ None) × (number q ≡ k) × (row.name ≡ (new_at first q).name)
  stays_from k row at =
      let kept = kept_back (row_staying mapped.schema first (partners mapped.schema first)) (λ (row : NewRow). record { name = row.name; cells = map after row.cells }) 0 0 (partners mapped.schema first) first.fresh (partners_length mapped.schema first) follows k row at in (
        kept.place,
        slice_get_within first.fresh kept.place kept.item kept.at,
        kept.none,
        (let e = kept.number kept.place in omega (arith, e)),
        sym (ap (λ (r : NewRow). r.name) kept.is) ∙ sym (ap (λ (r : NewRow). r.name) (get_or_from_slice_get first.fresh kept.place kept.item no_row kept.at)),
      )

  abbrev columns_of : ℕ → List ColumnSpec
  columns_of q = (spec_of mapped.schema (table_at first q)).columns

  abbrev pub parts_of : ℕ → List RowCell
  parts_of q = key_parts (spec_of mapped.schema (table_at first q)).columns (first_cells mapped.schema first q)

  long_parts : (q : ℕ) → q < length first.fresh → length (parts_of q) ≡ length (key_columns (spec_of mapped.schema (table_at first q)))
  long_parts q less = parts_long (is_late mapped.schema first (table_at first q)) (columns_of q) (new_at first q).cells (All-get_or (IsWhole mapped.schema) first.fresh q no_row less (All-from_recursion (IsWhole mapped.schema) first.fresh whole))

  drawn_at : (q : ℕ) → q < length first.fresh → get_or (partners mapped.schema first) q None ≡ None → Drawn keys (map after (parts_of q)) (key_of_new keys (number q))
  drawn_at q less none =
      let own : NewRow = record { name = (new_at first q).name; cells = map after (new_at first q).cells } in
      let row : new_at rest (number q) ≡ own = get_or_from_slice_get rest.fresh (number q) own no_row (stays_at q less none) in
      subst (λ (cells : List RowCell). Drawn keys cells (key_of_new keys (number q)))
      (ap (λ (r : NewRow). key_parts (spec_of mapped.schema r.name.table).columns (cells_cleared (is_late mapped.schema first r.name.table) (Given Null) (spec_of mapped.schema r.name.table).columns r.cells)) row
      ∙ ap (key_parts (columns_of q)) (cleared_map after (is_late mapped.schema first (table_at first q)) (columns_of q) (new_at first q).cells refl)
      ∙ parts_map after (columns_of q) (first_cells mapped.schema first q))
      (drawn (number q))

  known_is : (q : ℕ) → known_key mapped.schema first q ≡ map (known_value mapped.schema first (length first.fresh)) (parts_of q)
  known_is q = key_map (known_value mapped.schema first (length first.fresh)) (columns_of q) (first_cells mapped.schema first q)

  known_part : (q part : ℕ) → get_or (known_key mapped.schema first q) part Null ≡ known_value mapped.schema first (length first.fresh) (part_at mapped.schema first q part)
  known_part q part =
      ap (λ (key : List Value). get_or key part Null) (known_is q)
      ∙ mapped_or (known_value mapped.schema first (length first.fresh)) (parts_of q) part (Given Null)
    where
      mapped_or : (g : RowCell → Value) (xs : List RowCell) (i : ℕ) (d : RowCell) → get_or (map g xs) i (g d) ≡ g (get_or xs i d)
      mapped_or g [] i d = refl
      mapped_or g (x ∷ xs) zero d = refl
      mapped_or g (x ∷ xs) (suc i) d = mapped_or g xs i d

  pub row_key_long : (q : ℕ) → q < length first.fresh → length (row_key q) ≡ length (key_columns (spec_of mapped.schema (table_at first q)))
  row_key_long q less = by (get_or (partners mapped.schema first) q None) refl
    where
      by : (o : Option ℕ) → get_or (partners mapped.schema first) q None ≡ o → length (key_by o q) ≡ length (key_columns (spec_of mapped.schema (table_at first q)))
      by (Some gone) e = ap (λ (key : List Value). length key) (known_is q) ∙ length-map (parts_of q) (known_value mapped.schema first (length first.fresh)) ∙ long_parts q less
      by None e = drawn_long keys (map after (parts_of q)) (key_of_new keys (number q)) (drawn_at q less e) ∙ length-map (parts_of q) after ∙ long_parts q less

  -- what is known of a cell before keys are drawn is what it comes to
  pub known_comes : (steps : ℕ) (cell : RowCell) → steps ≤ length first.fresh → (known_value mapped.schema first steps cell ≡ Null) ⊎ (value_in cell ≡ known_value mapped.schema first steps cell)
  known_comes steps (Given value) few = inr refl
  known_comes zero (KeyOf q part) few = inl refl
  known_comes (suc steps) (KeyOf q part) few =
      by (get_or (partners mapped.schema first) q None) refl (cases_lt q (length first.fresh)) (known_comes steps (part_at mapped.schema first q part) (omega (arith, few)))
      (known_more mapped.schema first steps (length first.fresh) (part_at mapped.schema first q part) (omega (arith, few)))
    where
      Known : Type 0
      Known = (known_value mapped.schema first steps (part_at mapped.schema first q part) ≡ Null) ⊎ (value_in (KeyOf q part) ≡ known_value mapped.schema first steps (part_at mapped.schema first q part))

      after_null : (cell : RowCell) → after cell ≡ Given Null → value_in cell ≡ Null
      after_null cell e = ap (value_of_cell keys) e

      after_part : (i : ℕ) (parts : List RowCell) → get_or (map after parts) i (Given Null) ≡ after (get_or parts i (Given Null))
      after_part i [] = refl
      after_part zero (part ∷ parts) = refl
      after_part (suc i) (part ∷ parts) = after_part i parts

      by : (o : Option ℕ) → get_or (partners mapped.schema first) q None ≡ o → (q < length first.fresh) ⊎ (length first.fresh ≤ q)
          → (known_value mapped.schema first steps (part_at mapped.schema first q part) ≡ Null) ⊎ (value_in (part_at mapped.schema first q part) ≡ known_value mapped.schema first steps (part_at mapped.schema first q part))
          → (known_value mapped.schema first steps (part_at mapped.schema first q part) ≡ Null) ⊎ (known_value mapped.schema first (length first.fresh) (part_at mapped.schema first q part) ≡ known_value mapped.schema first steps (part_at mapped.schema first q part))
          → (known_value mapped.schema first steps (part_at mapped.schema first q part) ≡ Null) ⊎ (value_in (KeyOf q part) ≡ known_value mapped.schema first steps (part_at mapped.schema first q part))
      by o e within (inl none) more = inl none
      by o e within (inr is) (inl none) = inl none
      by (Some gone) e within (inr is) (inr more) = inr (key_part_is q part ∙ ap (λ (o : Option ℕ). get_or (key_by o q) part Null) e ∙ known_part q part ∙ more)
      by None e (inr past) (inr is) (inr more) =
          inl (ap (λ (row : NewRow). known_value mapped.schema first steps (get_or (key_parts (spec_of mapped.schema row.name.table).columns (cells_cleared (is_late mapped.schema first row.name.table) (Given Null) (spec_of mapped.schema row.name.table).columns row.cells)) part (Given Null))) (get_beyond first.fresh q no_row past)
          ∙ nothing (spec_of mapped.schema no_row.name.table).columns (is_late mapped.schema first no_row.name.table))
        where
          nothing : (cs : List ColumnSpec) (t : ColumnSpec → Bool) → known_value mapped.schema first steps (get_or (key_parts cs (cells_cleared t (Given Null) cs [])) part (Given Null)) ≡ Null
          nothing [] t = refl
          nothing (c ∷ cs) t = refl
      by None e (inl less) (inr is) (inr more) =
          elim (drawn_part keys (map after (parts_of q)) (key_of_new keys (number q)) part (drawn_at q less e)) [
            | inl same ↦ inr (key_part_is q part ∙ ap (λ (o : Option ℕ). get_or (key_by o q) part Null) e ∙ same ∙ ap (value_of_cell keys) (after_part part (parts_of q)) ∙ is)
            | inr none ↦ inl (sym is ∙ after_null (part_at mapped.schema first q part) (sym (after_part part (parts_of q)) ∙ none))
          ]

  -- ---- rows whose keys are those of the rows before them

  null_part : (key : List Value) (i : ℕ) → has_null key ≡ false → i < length key → is_null (get_or key i Null) ≡ false
  null_part [] i none less = absurd (omega (arith, less))
  null_part (v ∷ key) zero none less = or_left (is_null v) (has_null key) none
  null_part (v ∷ key) (suc i) none less = null_part key i (or_right (is_null v) (has_null key) none) (omega (arith, less))

  -- a switched row's key is wholly known
  pub whole_key : (q gone : ℕ) → q < length first.fresh → get_or (partners mapped.schema first) q None ≡ Some gone → has_null (known_key mapped.schema first q) ≡ false
  whole_key q gone less e = false_none (has_null (known_key mapped.schema first q)) (switching.gone_unless_taken mapped.schema first (switching.place_of_new mapped.schema first q) q) gone (sym (partner_at mapped.schema first q None less) ∙ e)

  pub same_key : (q p : ℕ) → q < length first.fresh → p < length first.fresh → length (key_columns (spec_of mapped.schema (table_at first q))) ≡ length (key_columns (spec_of mapped.schema (table_at first p)))
      → ((i : ℕ) → i < length (key_columns (spec_of mapped.schema (table_at first q))) → part_at mapped.schema first q i ≡ KeyOf p i) → row_key q ≡ row_key p
  same_key q p less before alike parts =
      ext_get_or Null (row_key q) (row_key p) (row_key_long q less ∙ alike ∙ sym (row_key_long p before))
      (λ i inside. by i (omega (arith, inside, row_key_long q less)) (get_or (partners mapped.schema first) q None) refl)
    where
      by : (i : ℕ) → i < length (key_columns (spec_of mapped.schema (table_at first q))) → (o : Option ℕ) → get_or (partners mapped.schema first) q None ≡ o → get_or (row_key q) i Null ≡ get_or (row_key p) i Null
      by i inside (Some gone) e =
          let known : known_value mapped.schema first (length first.fresh) (KeyOf p i) ≡ get_or (known_key mapped.schema first q) i Null = ap (known_value mapped.schema first (length first.fresh)) (sym (parts i inside)) ∙ sym (known_part q i) in
          let some : is_null (get_or (known_key mapped.schema first q) i Null) ≡ false =
          null_part (known_key mapped.schema first q) i (whole_key q gone less e) (omega (arith, inside, ap (λ (o : Option ℕ). length (key_by o q)) e, row_key_long q less)) in
          ap (λ (o : Option ℕ). get_or (key_by o q) i Null) e ∙ sym known
          ∙ elim (known_comes (length first.fresh) (KeyOf p i) (omega arith)) [
            | inl none ↦ absurd (true_false (sym (ap is_null (sym known ∙ none)) ∙ some))
            | inr is ↦ sym is ∙ key_part_is p i
          ]
      by i inside None e =
          ap (λ (o : Option ℕ). get_or (key_by o q) i Null) e
          ∙ elim (drawn_part keys (map after (parts_of q)) (key_of_new keys (number q)) i (drawn_at q less e)) [
            | inl same ↦ same ∙ ap (value_of_cell keys) (mapped_part i (parts_of q) ∙ ap after (parts i inside)) ∙ key_part_is p i
            | inr none ↦ given_null i inside (get_or (partners mapped.schema first) p None) refl (sym (mapped_part i (parts_of q) ∙ ap after (parts i inside)) ∙ none)
          ]
        where
          mapped_part : (i : ℕ) (parts : List RowCell) → get_or (map after parts) i (Given Null) ≡ after (get_or parts i (Given Null))
          mapped_part i [] = refl
          mapped_part zero (part ∷ parts) = refl
          mapped_part (suc i) (part ∷ parts) = mapped_part i parts

          given_null : {X : Type 0} (i : ℕ) → i < length (key_columns (spec_of mapped.schema (table_at first q))) → (o : Option ℕ) → get_or (partners mapped.schema first) p None ≡ o → after (KeyOf p i) ≡ Given Null → X
          given_null i inside (Some gone) f none =
              let value : get_or (known_key mapped.schema first p) i Null ≡ Null = sym (ap (λ (o : Option ℕ). get_or (key_by o p) i Null) f) ∙ sym (key_part_is p i) ∙ ap (value_of_cell keys) none in
              absurd (true_false (sym (ap is_null value) ∙ null_part (known_key mapped.schema first p) i (whole_key p gone before f) (omega (arith, inside, alike, ap (λ (o : Option ℕ). length (key_by o p)) f, row_key_long p before))))
          given_null i inside None f none = absurd (let e : KeyOf (number p) i ≡ Given Null = sym (ap (switch.key_cell mapped.schema first (partners mapped.schema first) p i) f) ∙ none in cc)
