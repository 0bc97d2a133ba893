-- Left joins whose conditions refuse nothing multiply each row in its place.
use Rattle.std.proofs.Common.{◌≡◌, ℕ, ◌+◌, ◌<◌, arith, Bool, true, false, if◌then◌else◌, List, [], ◌∷◌, ◌++◌, length, map, filter, Ok, refl, sym, ap, subst, ◌∙◌, append_assoc, append-nil, length-append}
use Rattle.std.specs.List.{AllByRecursion, flat_map}
use Rattle.std.proofs.lemmas.List.{length-map, length-replicate, map-append}
use Rattle.std.proofs.lemmas.List.Concat.{flat_map-append}
use Rattle.base_core.proofs.Lists.{every_append}
use Rattle.base_core.specs.declared.ids.TableId.{TableId}
use Rattle.base_core.specs.declared.value.Value.TheVariants as value
use Rattle.schema_core.specs.Catalog.{Catalog, spec_of}
use Rattle.expr_types.specs.declared.expr.Expr.{Expr}
use Rattle.expr_types.specs.declared.select.Joined.{Joined}
use Rattle.sql_semantics.specs.Checked.{Checked, ◌>>=◌}
use Rattle.sql_semantics.specs.Eval.{Row, Tables, meaning_of, rows_in}
use Rattle.sql_semantics.specs.Kinds.{Scope}
use Rattle.sql_semantics.specs.Rows.{each_from, kept_from}
use Rattle.load_columns.specs.Conditions.{conjoined}
use Rattle.load_selects.specs.declared.sources.Further.{Further}
use Rattle.loading_laws.proofs.Answers.Totals.{filter_map, kept_where, map_twice}
use Rattle.loading_laws.specs.Wide.Parts.{all_hold, place_of}
use Rattle.loading_laws.specs.Wide.Partners.{or_null_row, partners, rows_behind}
use Rattle.loading_laws.specs.Wide.Answers.{AreWideIn, table_width}
use Rattle.loading_laws.proofs.Wide.Conditions.{IsTotal, conjoined_tests}
use Rattle.loading_laws.proofs.Wide.Joins.{every_map, join_all, join_rows, or_nulls_behind, tables_of_joins}
use Rattle.loading_laws.proofs.Wide.Places.{wide_more}
use Rattle.loading_laws.proofs.Wide.Wider.{HasWideRows}

-- ---- lists

pub flat_twice : {A B C : Type 0} (g : B → List C) (h : A → List B) (xs : List A) → flat_map g (flat_map h xs) ≡ flat_map (λ x. flat_map g (h x)) xs
flat_twice g h [] = refl
flat_twice {C = C} g h (x ∷ xs) = flat_map-append g (h x) (flat_map h xs) ∙ ap (λ (l : List C). flat_map g (h x) ++ l) (flat_twice g h xs)

pub flat_alike : {A B : Type 0} (f g : A → List B) → ((x : A) → f x ≡ g x) → (xs : List A) → flat_map f xs ≡ flat_map g xs
flat_alike f g same [] = refl
flat_alike {B = B} f g same (x ∷ xs) = ap (λ (l : List B). l ++ flat_map f xs) (same x) ∙ ap (λ (l : List B). g x ++ l) (flat_alike f g same xs)

pub map_alike : {A B : Type 0} (f g : A → B) → ((x : A) → f x ≡ g x) → (xs : List A) → map f xs ≡ map g xs
map_alike f g same [] = refl
map_alike {B = B} f g same (x ∷ xs) = ap (λ (y : B). y ∷ map f xs) (same x) ∙ ap (λ (l : List B). g x ∷ l) (map_alike f g same xs)

pub flat_alone : {A : Type 0} (xs : List A) → flat_map (λ x. x ∷ []) xs ≡ xs
flat_alone [] = refl
flat_alone {A = A} (x ∷ xs) = ap (λ (l : List A). x ∷ l) (flat_alone xs)

each_total : {A B : Type 0} (f : A → Checked (List B)) (g : A → List B) → ((x : A) → f x ≡ Ok (g x)) → (done : List B) (xs : List A) → each_from f done xs ≡ Ok (done ++ flat_map g xs)
each_total f g told done [] = ap Ok (sym (append-nil done))
each_total f g told done (x ∷ xs) =
    ap (λ r. r >>= λ ys. each_from f (done ++ ys) xs) (told x) ∙ each_total f g told (done ++ g x) xs ∙ ap Ok (append_assoc done (g x) (flat_map g xs))

some_flat : {A B : Type 0} (f : A → List B) → ((x : A) → 0 < length (f x)) → (xs : List A) → 0 < length xs → 0 < length (flat_map f xs)
some_flat f some [] h = absurd (omega (arith, h))
some_flat f some (x ∷ xs) h = let a = some x in omega (arith, a, length-append (f x) (flat_map f xs))

pub every_flat : {A B : Type 0} (P : A → Type 0) (Q : B → Type 0) (f : A → List B) → ((x : A) → P x → AllByRecursion Q (f x)) → (xs : List A) → AllByRecursion P xs → AllByRecursion Q (flat_map f xs)
every_flat P Q f gives [] h = tt
every_flat P Q f gives (x ∷ xs) h = every_append Q (f x) (flat_map f xs) (gives x h.0) (every_flat P Q f gives xs h.1)

every_kept : {A : Type 0} (P : A → Type 0) (test : A → Bool) (xs : List A) → AllByRecursion P xs → AllByRecursion P (filter test xs)
every_kept P test [] h = tt
every_kept {A = A} P test (x ∷ xs) h = by (test x) (filter test xs) (every_kept P test xs h.1)
  where
    by : (b : Bool) (kept : List A) → AllByRecursion P kept → AllByRecursion P (if b then x ∷ kept else kept)
    by true kept g = (h.0, g)
    by false kept g = g

-- ---- sources of left joins

-- each join is a left one of its source's table, where all the source's conditions hold
pub record IsLeft (join : Joined) (further : Further) : Type 0 where
  pub left : join.left ≡ true
  pub table : join.origin.table ≡ further.table
  pub on : join.on ≡ conjoined further.on

abbrev pub AreLeft : List Joined → List Further → Type 0
AreLeft [] [] = Unit {0}
AreLeft (join ∷ joins) (further ∷ more) = IsLeft join further × AreLeft joins more
AreLeft joins more = ⊥

abbrev pub AreTotal : List Further → Type 0
AreTotal more = AllByRecursion (λ further. AllByRecursion IsTotal further.on) more

pub left_tables : (joins : List Joined) (more : List Further) → AreLeft joins more → tables_of_joins joins ≡ map (λ further. further.table) more
left_tables [] [] h = refl
left_tables [] (further ∷ more) h = absurd h
left_tables (join ∷ joins) [] h = absurd h
left_tables (join ∷ joins) (further ∷ more) h = ap (λ (t : TableId). t ∷ tables_of_joins joins) h.0.table ∙ ap (λ (l : Scope). further.table ∷ l) (left_tables joins more h.1)

module _ (schema : Catalog) (tables : Tables) where
  -- rows with those of further sources behind them
  abbrev pub with_partners : List Further → List Row → List (List Row)
  with_partners more rows = map (λ others. rows ++ others) (partners schema tables more rows)

  abbrev one_more : Further → List Row → List (List Row)
  one_more further rows = map (λ row. rows ++ row ∷ []) (rows_behind schema tables further rows)

  nulls_or : (rows : List Row) (n : ℕ) (xs : List Row) → or_nulls_behind true rows n (map (λ (row : Row). rows ++ row ∷ []) xs) ≡ map (λ (row : Row). rows ++ row ∷ []) (or_null_row n xs)
  nulls_or rows n [] = refl
  nulls_or rows n (x ∷ xs) = refl

  abbrev nulls_joined : Bool → List Row → ℕ → List (List Row) → Checked (List (List Row))
  nulls_joined left rows n more = Ok (or_nulls_behind left rows n more)

  left_row : (join : Joined) (further : Further) → IsLeft join further → AllByRecursion IsTotal further.on → (rows : List Row) → join_rows schema tables join rows ≡ Ok (one_more further rows)
  left_row join further is total rows =
      let n : TableId → ℕ = λ table. length (spec_of schema table).columns in
      let tried : TableId → List (List Row) = λ table. map (λ (row : Row). rows ++ row ∷ []) (rows_in tables table.0) in
      let test : Expr → List Row → Checked _ = λ e all. meaning_of e (place_of tables all) in
      let holds : List Row → Bool = all_hold tables further.on in
      ap (λ (e : Expr). kept_from (test e) [] (tried join.origin.table) >>= nulls_joined join.left rows (n join.origin.table)) is.on
      ∙ ap (λ (t : TableId). kept_from (test (conjoined further.on)) [] (tried t) >>= nulls_joined join.left rows (n t)) is.table
      ∙ ap (λ (b : Bool). kept_from (test (conjoined further.on)) [] (tried further.table) >>= nulls_joined b rows (n further.table)) is.left
      ∙ ap (λ told. told >>= nulls_joined true rows (n further.table)) (kept_where (test (conjoined further.on)) holds (conjoined_tests tables further.on total) [] (tried further.table))
      ∙ ap (λ l. nulls_joined true rows (n further.table) l) (filter_map holds (λ (row : Row). rows ++ row ∷ []) (rows_in tables further.table.0))
      ∙ ap Ok (nulls_or rows (n further.table) (filter (λ (row : Row). holds (rows ++ row ∷ [])) (rows_in tables further.table.0)))

  -- what the sources behind a source put behind its rows
  partners_behind : (more : List Further) (rows : List Row) (xs : List Row)
      → flat_map (with_partners more) (map (λ (row : Row). rows ++ row ∷ []) xs) ≡ map (λ others. rows ++ others) (flat_map (λ row. map (λ others. row ∷ others) (partners schema tables more (rows ++ row ∷ []))) xs)
  partners_behind more rows [] = refl
  partners_behind more rows (x ∷ xs) =
      let all : List (List Row) = partners schema tables more (rows ++ x ∷ []) in
      ap (λ (l : List (List Row)). l ++ flat_map (with_partners more) (map (λ (row : Row). rows ++ row ∷ []) xs))
      (map_alike (λ (others : List Row). (rows ++ x ∷ []) ++ others) (λ (others : List Row). rows ++ x ∷ others) (λ others. append_assoc rows (x ∷ []) others) all
      ∙ sym (map_twice (λ (others : List Row). rows ++ others) (λ (others : List Row). x ∷ others) all))
      ∙ ap (λ (l : List (List Row)). map (λ (others : List Row). rows ++ others) (map (λ (others : List Row). x ∷ others) all) ++ l) (partners_behind more rows xs)
      ∙ sym (map-append (λ (others : List Row). rows ++ others) (map (λ (others : List Row). x ∷ others) all) (flat_map (λ row. map (λ others. row ∷ others) (partners schema tables more (rows ++ row ∷ []))) xs))

  none_behind : (all : List (List Row)) → all ≡ flat_map (with_partners []) all
  none_behind [] = refl
  none_behind (rows ∷ all) = ap (λ (r : List Row). r ∷ all) (sym (append-nil rows)) ∙ ap (λ (l : List (List Row)). (rows ++ []) ∷ l) (none_behind all)

  pub lefts_multiply : (joins : List Joined) (more : List Further) → AreLeft joins more → AreTotal more → (all : List (List Row)) → join_all schema tables joins all ≡ Ok (flat_map (with_partners more) all)
  lefts_multiply [] [] h total all = ap Ok (none_behind all)
  lefts_multiply [] (further ∷ more) h total all = absurd h
  lefts_multiply (join ∷ joins) [] h total all = absurd h
  lefts_multiply (join ∷ joins) (further ∷ more) h total all =
      ap (λ told. told >>= λ now. join_all schema tables joins now) (each_total (join_rows schema tables join) (one_more further) (left_row join further h.0 total.0) [] all)
      ∙ lefts_multiply joins more h.1 total.1 (flat_map (one_more further) all)
      ∙ ap Ok (flat_twice (with_partners more) (one_more further) all
      ∙ flat_alike (λ rows. flat_map (with_partners more) (one_more further rows)) (with_partners (further ∷ more)) (λ rows. partners_behind more rows (rows_behind schema tables further rows)) all)

  -- ---- what partners are

  some_or_null : (n : ℕ) (xs : List Row) → 0 < length (or_null_row n xs)
  some_or_null n [] = omega arith
  some_or_null n (x ∷ xs) = omega arith

  -- there is one at least
  pub partners_some : (more : List Further) (rows : List Row) → 0 < length (partners schema tables more rows)
  partners_some [] rows = omega arith
  partners_some (further ∷ more) rows =
      some_flat (λ row. map (λ others. row ∷ others) (partners schema tables more (rows ++ row ∷ [])))
      (λ row. let some = partners_some more (rows ++ row ∷ []) in omega (arith, some, length-map (partners schema tables more (rows ++ row ∷ [])) (λ (others : List Row). row ∷ others)))
      (rows_behind schema tables further rows) (some_or_null (length (spec_of schema further.table).columns) (filter (λ row. all_hold tables further.on (rows ++ row ∷ [])) (rows_in tables further.table.0)))

  pub all_some : (more : List Further) (rows : List Row) → 0 < length (with_partners more rows)
  all_some more rows = let some = partners_some more rows in omega (arith, some, length-map (partners schema tables more rows) (λ (others : List Row). rows ++ others))

  -- the partners for several sources are those for the first ones, each with those for the others behind it
  pub partners_append : (more others : List Further) (rows : List Row)
      → partners schema tables (more ++ others) rows ≡ flat_map (λ now. map (λ rest. now ++ rest) (partners schema tables others (rows ++ now))) (partners schema tables more rows)
  partners_append [] others rows =
      ap (partners schema tables others) (sym (append-nil rows)) ∙ sym (same_map (partners schema tables others (rows ++ [])))
    where
      same_map : (all : List (List Row)) → map (λ (rest : List Row). [] ++ rest) all ++ [] ≡ all
      same_map [] = refl
      same_map (x ∷ all) = ap (λ (l : List (List Row)). x ∷ l) (same_map all)
  partners_append (further ∷ more) others rows =
      let behind : List Row → List (List Row) = λ now. map (λ rest. now ++ rest) (partners schema tables others (rows ++ now)) in
      flat_alike (λ row. map (λ rest. row ∷ rest) (partners schema tables (more ++ others) (rows ++ row ∷ []))) (λ row. flat_map behind (map (λ rest. row ∷ rest) (partners schema tables more (rows ++ row ∷ []))))
      (λ row. ap (map (λ rest. row ∷ rest)) (partners_append more others (rows ++ row ∷ [])) ∙ in_front row (partners schema tables more (rows ++ row ∷ [])))
      (rows_behind schema tables further rows)
      ∙ sym (flat_twice behind (λ row. map (λ rest. row ∷ rest) (partners schema tables more (rows ++ row ∷ []))) (rows_behind schema tables further rows))
    where
      in_front : (row : Row) (all : List (List Row))
          → map (λ (rest : List Row). row ∷ rest) (flat_map (λ now. map (λ rest. now ++ rest) (partners schema tables others ((rows ++ row ∷ []) ++ now))) all)
          ≡ flat_map (λ now. map (λ rest. now ++ rest) (partners schema tables others (rows ++ now))) (map (λ (rest : List Row). row ∷ rest) all)
      in_front row [] = refl
      in_front row (now ∷ all) =
          let here : List (List Row) = partners schema tables others ((rows ++ row ∷ []) ++ now) in
          map-append (λ (rest : List Row). row ∷ rest) (map (λ rest. now ++ rest) here) (flat_map (λ now. map (λ rest. now ++ rest) (partners schema tables others ((rows ++ row ∷ []) ++ now))) all)
          ∙ ap (λ (l : List (List Row)). l ++ map (λ (rest : List Row). row ∷ rest) (flat_map (λ now. map (λ rest. now ++ rest) (partners schema tables others ((rows ++ row ∷ []) ++ now))) all))
          (map_twice (λ (rest : List Row). row ∷ rest) (λ (rest : List Row). now ++ rest) here
          ∙ ap (λ (l : List Row). map (λ (rest : List Row). row ∷ (now ++ rest)) (partners schema tables others l)) (append_assoc rows (row ∷ []) now))
          ∙ ap (λ (l : List (List Row)). map (λ (rest : List Row). row ∷ (now ++ rest)) (partners schema tables others (rows ++ row ∷ now)) ++ l) (in_front row all)

  -- ---- they are as wide as their tables

  module _ (wide_rows : HasWideRows schema tables) where
    -- such rows, and so many
    pub record AreBehindWide (scope : Scope) (more : List Further) (rows others : List Row) : Type 0 where
      pub wide : AreWideIn schema (scope ++ map (λ further. further.table) more) (rows ++ others)
      pub long : length others ≡ length more

    behind_wide : (further : Further) (rows : List Row) → AllByRecursion (λ row. length row ≡ table_width schema further.table) (rows_behind schema tables further rows)
    behind_wide further rows = by (filter test (rows_in tables further.table.0)) (every_kept (λ row. length row ≡ n) test (rows_in tables further.table.0) (wide_rows further.table))
      where
        n : ℕ
        n = table_width schema further.table

        test : Row → Bool
        test row = all_hold tables further.on (rows ++ row ∷ [])

        by : (kept : List Row) → AllByRecursion (λ row. length row ≡ n) kept → AllByRecursion (λ row. length row ≡ n) (or_null_row n kept)
        by [] h = (length-replicate n value.Null, tt)
        by (x ∷ kept) h = h

    longer : (x : Row) (others : List Row) (further : Further) (more : List Further) → length others ≡ length more → length (x ∷ others) ≡ length (further ∷ more)
    longer x others further more e = omega (arith, e)

    pub partners_wide : (more : List Further) (scope : Scope) (rows : List Row) → AreWideIn schema scope rows → AllByRecursion (AreBehindWide scope more rows) (partners schema tables more rows)
    partners_wide [] scope rows wide = (record { wide = subst (AreWideIn schema (scope ++ [])) (sym (append-nil rows)) (subst (λ (s : Scope). AreWideIn schema s rows) (sym (append-nil scope)) wide); long = refl }, tt)
    partners_wide (further ∷ more) scope rows wide =
        let behind : Scope = map (λ (one : Further). one.table) more in
        every_flat (λ row. length row ≡ table_width schema further.table) (AreBehindWide scope (further ∷ more) rows) (λ row. map (λ others. row ∷ others) (partners schema tables more (rows ++ row ∷ [])))
        (λ row long.
        every_map (AreBehindWide (scope ++ further.table ∷ []) more (rows ++ row ∷ [])) (AreBehindWide scope (further ∷ more) rows) (λ others. row ∷ others)
        (λ others h. record {
          wide = subst (λ (s : Scope). AreWideIn schema s (rows ++ row ∷ others)) (append_assoc scope (further.table ∷ []) behind) (subst (AreWideIn schema ((scope ++ further.table ∷ []) ++ behind)) (append_assoc rows (row ∷ []) others) h.wide);
          long = longer row others further more h.long;
        })
        (partners schema tables more (rows ++ row ∷ []))
        (partners_wide more (scope ++ further.table ∷ []) (rows ++ row ∷ []) (wide_more schema scope rows further.table row wide long)))
        (rows_behind schema tables further rows) (behind_wide further rows)
