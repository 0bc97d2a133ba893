-- The sources of a select, as a row of each.
use Rattle.std.proofs.Common.{◌≡◌, inl, inr, ℕ, suc, ◌+◌, arith, Bool, true, false, List, [], ◌∷◌, ◌++◌, length, map, Ok, Err, refl, sym, ap, subst, ◌∙◌, append_assoc, append-nil}
use Rattle.std.specs.List.{AllByRecursion, Contains}
use Rattle.std.proofs.lemmas.List.{length-replicate, map-append}
use Rattle.base_core.specs.declared.ids.TableId.{TableId}
use Rattle.base_core.specs.declared.value.Value.{Value}
use Rattle.base_core.specs.declared.value.Value.TheVariants as value
use Rattle.base_core.proofs.Lists.{every_append}
use Rattle.schema_core.specs.Catalog.{Catalog}
use Rattle.expr_types.specs.declared.expr.Origin.{Origin}
use Rattle.expr_types.specs.declared.select.Joined.{Joined}
use Rattle.expr_types.specs.declared.select.Select.{Select}
use Rattle.sql_semantics.specs.Checked.{Checked, ◌>>=◌}
use Rattle.sql_semantics.specs.Eval.{Row, Tables, meaning_of, rows_in}
use Rattle.sql_semantics.specs.Kinds.{Scope}
use Rattle.sql_semantics.specs.Rows.{Frame, condition, each_from, joined_all, joined_row, kept_from, nulls, or_nulls, rows_of_join, sources, wider, width}
use Rattle.sql_semantics.specs.Shapes.{scope_of}
use Rattle.loading_laws.specs.Wide.Parts.{is_true, place_of, whole}
use Rattle.loading_laws.specs.Wide.Answers.{AreBehind, AreWideIn, IsBehind, StandTogether, table_width}
use Rattle.loading_laws.proofs.Wide.Kept.{HasAnswer, has_then, kept_have, kept_made}
use Rattle.loading_laws.proofs.Wide.Places.{end_more, frame_more, frame_of, place_is, scope_end, whole_behind, wide_more}
use Rattle.loading_laws.proofs.Wide.Wider.{HasWideRows, alike_then, regrouped}

-- ---- lists

pub every_map : {A B : Type 0} (P : A → Type 0) (Q : B → Type 0) (f : A → B) → ((x : A) → P x → Q (f x)) → (xs : List A) → AllByRecursion P xs → AllByRecursion Q (map f xs)
every_map P Q f gives [] h = tt
every_map P Q f gives (x ∷ xs) h = (gives x h.0, every_map P Q f gives xs h.1)

pub every_gives : {A : Type 0} (P Q : A → Type 0) → ((x : A) → P x → Q x) → (xs : List A) → AllByRecursion P xs → AllByRecursion Q xs
every_gives P Q gives [] h = tt
every_gives P Q gives (x ∷ xs) h = (gives x h.0, every_gives P Q gives xs h.1)

contained_more : {A : Type 0} (y : A) (xs : List A) (x : A) → Contains xs x → Contains (y ∷ xs) x
contained_more y xs x h = (suc h.0, let less = h.1 in omega (arith, less), h.2)

-- what all have they have as elements of the list
all_contained : {A : Type 0} (P : A → Type 0) (xs : List A) → AllByRecursion P xs → AllByRecursion (λ x. Contains xs x × P x) xs
all_contained P [] h = tt
all_contained P (x ∷ xs) h = (((0, omega arith, refl), h.0), every_gives (λ y. Contains xs y × P y) (λ y. Contains (x ∷ xs) y × P y) (λ y g. (contained_more x xs y g.0, g.1)) xs (all_contained P xs h.1))

-- ---- rows of sources

abbrev pub tables_of_joins : List Joined → Scope
tables_of_joins joins = map (λ (origin : Origin). origin.table) (map (λ (join : Joined). join.origin) joins)

-- with each row of a joined table for which the condition is true, or with NULLs
abbrev pub or_nulls_behind : Bool → List Row → ℕ → List (List Row) → List (List Row)
or_nulls_behind true rows n [] = (rows ++ nulls n ∷ []) ∷ []
or_nulls_behind left rows n more = more

module _ (schema : Catalog) (tables : Tables) where
  abbrev pub join_rows : Joined → List Row → Checked (List (List Row))
  join_rows join rows =
      kept_from (λ (all : List Row). meaning_of join.on (place_of tables all)) [] (map (λ (row : Row). rows ++ row ∷ []) (rows_in tables join.origin.table.0))
      >>= λ more. Ok (or_nulls_behind join.left rows (width schema join.origin) more)

  abbrev pub join_all : List Joined → List (List Row) → Checked (List (List Row))
  join_all [] all = Ok all
  join_all (join ∷ joins) all = each_from (join_rows join) [] all >>= λ more. join_all joins more

  pub join_append : (joins more : List Joined) (all : List (List Row)) → join_all (joins ++ more) all ≡ (join_all joins all >>= λ now. join_all more now)
  join_append [] more all = refl
  join_append (join ∷ joins) more all =
      alike_then (each_from (join_rows join) [] all) _ _ (λ now. join_append joins more now) ∙ sym (regrouped (each_from (join_rows join) [] all) (join_all joins) (join_all more))

  -- ---- what they have

  module _ (wide_rows : HasWideRows schema tables) (first : Origin) where
    abbrev pub scope_with : List Joined → Scope
    scope_with joins = first.table ∷ tables_of_joins joins

    -- what the rows of these joins are
    pub record IsMade (joins : List Joined) (rows : List Row) : Type 0 where
      pub wide : AreWideIn schema (scope_with joins) rows
      pub together : StandTogether schema tables first joins rows

    pub scope_more : (joins : List Joined) (join : Joined) → scope_with (joins ++ join ∷ []) ≡ scope_with joins ++ join.origin.table ∷ []
    scope_more joins join =
        ap (λ (origins : List Origin). first.table ∷ map (λ (origin : Origin). origin.table) origins) (map-append (λ (one : Joined). one.origin) joins (join ∷ []))
        ∙ ap (λ (scope : Scope). first.table ∷ scope) (map-append (λ (origin : Origin). origin.table) (map (λ (one : Joined). one.origin) joins) (join.origin ∷ []))

    behind_more : (rows : List Row) (joins : List Joined) (more : List Row) (join : Joined) (row : Row) → AreBehind schema tables rows joins more → IsBehind schema tables (rows ++ more) join row
        → AreBehind schema tables rows (joins ++ join ∷ []) (more ++ row ∷ [])
    behind_more rows [] [] join row h g = (subst (λ (all : List Row). IsBehind schema tables all join row) (append-nil rows) g, tt)
    behind_more rows [] (x ∷ more) join row h g = absurd h
    behind_more rows (j ∷ joins) [] join row h g = absurd h
    behind_more rows (j ∷ joins) (x ∷ more) join row h g =
        (h.0, behind_more (rows ++ x ∷ []) joins more join row h.1 (subst (λ (all : List Row). IsBehind schema tables all join row) (sym (append_assoc rows (x ∷ []) more)) g))

    together_more : (joins : List Joined) (rows : List Row) (join : Joined) (row : Row) → StandTogether schema tables first joins rows → IsBehind schema tables rows join row → StandTogether schema tables first (joins ++ join ∷ []) (rows ++ row ∷ [])
    together_more joins [] join row h g = absurd h
    together_more joins (x ∷ rows) join row h g = (h.0, behind_more (x ∷ []) joins rows join row h.1 g)

    made_more : (joins : List Joined) (rows : List Row) (join : Joined) (row : Row) → IsMade joins rows → length row ≡ table_width schema join.origin.table → IsBehind schema tables rows join row → IsMade (joins ++ join ∷ []) (rows ++ row ∷ [])
    made_more joins rows join row made long behind = record {
      wide = subst (λ (scope : Scope). AreWideIn schema scope (rows ++ row ∷ [])) (sym (scope_more joins join)) (wide_more schema (scope_with joins) rows join.origin.table row made.wide long);
      together = together_more joins rows join row made.together behind;
    }

    abbrev IsOfTable : TableId → Row → Type 0
    IsOfTable table row = Contains (rows_in tables table.0) row × (length row ≡ table_width schema table)

    all_of_table : (table : TableId) → AllByRecursion (IsOfTable table) (rows_in tables table.0)
    all_of_table table = all_contained (λ (row : Row). length row ≡ table_width schema table) (rows_in tables table.0) (wide_rows table)

    -- a row of the table behind the others
    pub record IsTried (rows : List Row) (table : TableId) (all : List Row) : Type 0 where
      pub row : Row
      pub is : all ≡ rows ++ row ∷ []
      pub of : IsOfTable table row

    or_nulls_made : (joins : List Joined) (rows : List Row) (join : Joined) → IsMade joins rows → (left : Bool) → join.left ≡ left → (more : List (List Row)) → AllByRecursion (IsMade (joins ++ join ∷ [])) more
        → AllByRecursion (IsMade (joins ++ join ∷ [])) (or_nulls_behind left rows (width schema join.origin) more)
    or_nulls_made joins rows join made true is [] h =
        (made_more joins rows join (nulls (width schema join.origin)) made (length-replicate (width schema join.origin) value.Null) (inr (is, refl)), tt)
    or_nulls_made joins rows join made true is (x ∷ more) h = h
    or_nulls_made joins rows join made false is [] h = h
    or_nulls_made joins rows join made false is (x ∷ more) h = h

    row_made : (joins : List Joined) (join : Joined) (rows : List Row) → IsMade joins rows → HasAnswer (AllByRecursion (IsMade (joins ++ join ∷ []))) (join_rows join rows)
    row_made joins join rows made =
        let table : TableId = join.origin.table in
        let now : List Row → Type 0 = IsMade (joins ++ join ∷ []) in
        let test : List Row → Checked Value = λ all. meaning_of join.on (place_of tables all) in
        has_then (AllByRecursion now) (AllByRecursion now) (kept_from test [] (map (λ (row : Row). rows ++ row ∷ []) (rows_in tables table.0))) (λ more. Ok (or_nulls_behind join.left rows (width schema join.origin) more))
        (kept_have (IsTried rows table) now test
        (λ all tried holds.
        subst now (sym tried.is) (made_more joins rows join tried.row made tried.of.1 (inl (tried.of.0, ap (λ (one : List Row). is_true (test one)) (sym tried.is) ∙ holds))))
        [] (map (λ (row : Row). rows ++ row ∷ []) (rows_in tables table.0)) tt
        (every_map (IsOfTable table) (IsTried rows table) (λ (row : Row). rows ++ row ∷ []) (λ row of. record { row = row; is = refl; of = of }) (rows_in tables table.0) (all_of_table table)))
        (λ more h. or_nulls_made joins rows join made join.left refl more h)

    each_made : (joins : List Joined) (join : Joined) (done all : List (List Row)) → AllByRecursion (IsMade (joins ++ join ∷ [])) done → AllByRecursion (IsMade joins) all
        → HasAnswer (AllByRecursion (IsMade (joins ++ join ∷ []))) (each_from (join_rows join) done all)
    each_made joins join done [] h g = h
    each_made joins join done (rows ∷ all) h g =
        let now : List (List Row) → Type 0 = AllByRecursion (IsMade (joins ++ join ∷ [])) in
        has_then now now (join_rows join rows) (λ more. each_from (join_rows join) (done ++ more) all) (row_made joins join rows g.0)
        (λ more k. each_made joins join (done ++ more) all (every_append (IsMade (joins ++ join ∷ [])) done more h k) g.1)

    pub all_made : (joins more : List Joined) (all : List (List Row)) → AllByRecursion (IsMade joins) all → HasAnswer (AllByRecursion (IsMade (joins ++ more))) (join_all more all)
    all_made joins [] all h = subst (λ (js : List Joined). AllByRecursion (IsMade js) all) (sym (append-nil joins)) h
    all_made joins (join ∷ more) all h =
        has_then (AllByRecursion (IsMade (joins ++ join ∷ []))) (AllByRecursion (IsMade (joins ++ join ∷ more))) (each_from (join_rows join) [] all) (join_all more) (each_made joins join [] all tt h)
        (λ now g. subst (λ (js : List Joined). HasAnswer (AllByRecursion (IsMade js)) (join_all more now)) (append_assoc joins (join ∷ []) more) (all_made (joins ++ join ∷ []) more now g))

    -- ---- the evaluator's rows are these, one after another

    abbrev frame : List Joined → Frame
    frame joins = frame_of schema tables (scope_with joins)

    abbrev wholes : List (List Row) → Checked (List Row)
    wholes more = Ok (map whole more)

    tried_whole : (rows : List Row) (xs : List Row) → map (λ (row : Row). whole rows ++ row) xs ≡ map whole (map (λ (row : Row). rows ++ row ∷ []) xs)
    tried_whole rows [] = refl
    tried_whole rows (x ∷ xs) = ap (λ (r : Row). r ∷ map (λ (row : Row). whole rows ++ row) xs) (whole_behind rows x) ∙ ap (λ (l : List Row). whole (rows ++ x ∷ []) ∷ l) (tried_whole rows xs)

    nulls_whole : (left : Bool) (rows : List Row) (n : ℕ) (more : List (List Row)) → or_nulls left (whole rows) n (map whole more) ≡ map whole (or_nulls_behind left rows n more)
    nulls_whole true rows n [] = ap (λ (r : Row). r ∷ []) (whole_behind rows (nulls n))
    nulls_whole true rows n (x ∷ more) = refl
    nulls_whole false rows n [] = refl
    nulls_whole false rows n (x ∷ more) = refl

    row_whole : (joins : List Joined) (join : Joined) (rows : List Row) → AreWideIn schema (scope_with joins) rows
        → joined_row (frame (joins ++ join ∷ [])) join (width schema join.origin) (whole rows) ≡ (join_rows join rows >>= wholes)
    row_whole joins join rows wide =
        let scope : Scope = scope_with (joins ++ join ∷ []) in
        let xs : List Row = rows_in tables join.origin.table.0 in
        let m : ℕ = width schema join.origin in
        let test : List Row → Checked Value = λ all. meaning_of join.on (place_of tables all) in
        let tried : List (List Row) = map (λ (row : Row). rows ++ row ∷ []) xs in
        let all_wide : AllByRecursion (AreWideIn schema scope) tried =
        every_map (λ (row : Row). length row ≡ table_width schema join.origin.table) (AreWideIn schema scope) (λ (row : Row). rows ++ row ∷ [])
        (λ row long. subst (λ (one : Scope). AreWideIn schema one (rows ++ row ∷ [])) (sym (scope_more joins join)) (wide_more schema (scope_with joins) rows join.origin.table row wide long)) xs (wide_rows join.origin.table) in
        ap (λ (l : List Row). kept_from (condition (frame (joins ++ join ∷ [])) join.on) [] l >>= λ ws. Ok (or_nulls join.left (whole rows) m ws)) (tried_whole rows xs)
        ∙ ap (λ (told : Checked (List Row)). told >>= λ ws. Ok (or_nulls join.left (whole rows) m ws))
        (kept_made whole (condition (frame (joins ++ join ∷ [])) join.on) test (AreWideIn schema scope) (λ all w. ap (meaning_of join.on) (place_is schema tables scope all w)) [] tried all_wide)
        ∙ regrouped (kept_from test [] tried) (λ kept. Ok (map whole kept)) (λ ws. Ok (or_nulls join.left (whole rows) m ws))
        ∙ alike_then (kept_from test [] tried) _ _ (λ kept. ap Ok (nulls_whole join.left rows m kept))
        ∙ sym (regrouped (kept_from test [] tried) (λ more. Ok (or_nulls_behind join.left rows m more)) (λ more. Ok (map whole more)))

    each_whole : (joins : List Joined) (join : Joined) (done all : List (List Row)) → AllByRecursion (IsMade joins) all
        → each_from (joined_row (frame (joins ++ join ∷ [])) join (width schema join.origin)) (map whole done) (map whole all) ≡ (each_from (join_rows join) done all >>= wholes)
    each_whole joins join done [] h = refl
    each_whole joins join done (rows ∷ all) h =
        let f : Row → Checked (List Row) = joined_row (frame (joins ++ join ∷ [])) join (width schema join.origin) in
        ap (λ (told : Checked (List Row)). told >>= λ ys. each_from f (map whole done ++ ys) (map whole all)) (row_whole joins join rows h.0.wide)
        ∙ regrouped (join_rows join rows) (λ more. Ok (map whole more)) (λ ys. each_from f (map whole done ++ ys) (map whole all))
        ∙ alike_then (join_rows join rows) _ _ (λ more. ap (λ (l : List Row). each_from f l (map whole all)) (sym (map-append whole done more)) ∙ each_whole joins join (done ++ more) all h.1)
        ∙ sym (regrouped (join_rows join rows) (λ more. each_from (join_rows join) (done ++ more) all) (λ more. Ok (map whole more)))

    abbrev framed : List Joined → List (List Row) → Checked (Frame × List Row)
    framed joins more = Ok (frame joins, map whole more)

    -- what the further joins make of what the first one leaves
    goes : (joins : List Joined) (join : Joined) (more : List Joined) (told : Checked (List (List Row))) → HasAnswer (AllByRecursion (IsMade (joins ++ join ∷ []))) told
        → ((rows : List (List Row)) → AllByRecursion (IsMade (joins ++ join ∷ [])) rows
        → joined_all schema (frame (joins ++ join ∷ [])) (scope_end schema 0 (scope_with (joins ++ join ∷ []))) more (map whole rows) ≡ (join_all more rows >>= framed ((joins ++ join ∷ []) ++ more)))
        → ((told >>= wholes) >>= λ rows. joined_all schema (frame (joins ++ join ∷ [])) (scope_end schema 0 (scope_with (joins ++ join ∷ []))) more rows) ≡ ((told >>= λ rows. join_all more rows) >>= framed (joins ++ join ∷ more))
    goes joins join more (Ok rows) has rest = rest rows has ∙ ap (λ (js : List Joined). join_all more rows >>= framed js) (append_assoc joins (join ∷ []) more)
    goes joins join more (Err e) has rest = refl

    pub all_whole : (joins more : List Joined) (all : List (List Row)) → AllByRecursion (IsMade joins) all
        → joined_all schema (frame joins) (scope_end schema 0 (scope_with joins)) more (map whole all) ≡ (join_all more all >>= framed (joins ++ more))
    all_whole joins [] all h = ap (λ (js : List Joined). framed js all) (sym (append-nil joins))
    all_whole joins (join ∷ more) all h =
        let m : ℕ = width schema join.origin in
        let now : List Joined = joins ++ join ∷ [] in
        let told : Checked (List (List Row)) = each_from (join_rows join) [] all in
        let frames : wider (frame joins) (scope_end schema 0 (scope_with joins)) ≡ frame now =
        frame_more schema tables (scope_with joins) join.origin.table ∙ ap (frame_of schema tables) (sym (scope_more joins join)) in
        let ends : scope_end schema 0 (scope_with joins) + m ≡ scope_end schema 0 (scope_with now) =
        sym (ap (scope_end schema 0) (scope_more joins join) ∙ end_more schema 0 (scope_with joins) join.origin.table) in
        ap (λ (f : Frame). rows_of_join schema f join (map whole all) >>= λ rows. joined_all schema f (scope_end schema 0 (scope_with joins) + m) more rows) frames
        ∙ ap (λ (n : ℕ). rows_of_join schema (frame now) join (map whole all) >>= λ rows. joined_all schema (frame now) n more rows) ends
        ∙ ap (λ (q : Checked (List Row)). q >>= λ rows. joined_all schema (frame now) (scope_end schema 0 (scope_with now)) more rows) (each_whole joins join [] all h)
        ∙ goes joins join more told (each_made joins join [] all tt h) (all_whole now more)

    -- ---- a select

    first_rows : (rows : List Row) → rows ≡ map whole (map (λ (row : Row). row ∷ []) rows)
    first_rows [] = refl
    first_rows (row ∷ rows) = ap (λ (r : Row). r ∷ rows) (sym (append-nil row)) ∙ ap (λ (l : List Row). (row ++ []) ∷ l) (first_rows rows)

    -- the rows of the first source alone
    abbrev pub of_first : List (List Row)
    of_first = map (λ (row : Row). row ∷ []) (rows_in tables first.table.0)

    pub first_made : AllByRecursion (IsMade []) of_first
    first_made = every_map (IsOfTable first.table) (IsMade []) (λ (row : Row). row ∷ []) (λ row of. record { wide = (of.1, tt); together = (of.0, tt) }) (rows_in tables first.table.0) (all_of_table first.table)

  pub sources_are : (wide_rows : HasWideRows schema tables) (s : Select)
      → sources schema tables s ≡ (join_all s.joins (of_first wide_rows s.first) >>= λ now. Ok (frame_of schema tables (scope_of s), map whole now))
  unfolding sources
  sources_are wide_rows s =
      let e : width schema s.first ≡ scope_end schema 0 (s.first.table ∷ []) = omega arith in
      ap (λ (n : ℕ). joined_all schema (frame_of schema tables (s.first.table ∷ [])) n s.joins (rows_in tables s.first.table.0)) e
      ∙ ap (joined_all schema (frame_of schema tables (s.first.table ∷ [])) (scope_end schema 0 (s.first.table ∷ [])) s.joins) (first_rows wide_rows s.first (rows_in tables s.first.table.0))
      ∙ all_whole wide_rows s.first [] s.joins (of_first wide_rows s.first) (first_made wide_rows s.first)
