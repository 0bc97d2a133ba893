-- Where a query leaves out rows of its own sources alone, each answered row of the own select stands in the main select's answer as its joined rows.
use Rattle.std.proofs.Common.{◌≡◌, ◌⊎◌, inl, inr, ℕ, zero, suc, ◌<◌, arith, Bool, false, List, [], ◌∷◌, ◌++◌, drop, length, map, take, Option, None, Some, Ok, Err, refl, sym, ap, subst, ◌∙◌}
use Rattle.std.specs.List.{AllByRecursion, flat_map}
use Rattle.std.proofs.lemmas.List.{drop-map, length-map, take-map}
use Rattle.schema_core.specs.Catalog.{Catalog}
use Rattle.expr_types.specs.declared.select.ObjectQuery.{ObjectQuery}
use Rattle.expr_types.specs.declared.select.Select.{Select}
use Rattle.sql_semantics.specs.Checked.{Checked, ◌>>=◌}
use Rattle.sql_semantics.specs.Eval.{Row, Tables}
use Rattle.sql_semantics.specs.Plain.{sources_of}
use Rattle.sql_semantics.specs.Rows.{answer, cut_off, distinct, first_row, page_of, require_created, tables_of, within_limit}
use Rattle.class_mapping.specs.Mapped.{Mapped, attributes_of}
use Rattle.load_columns.specs.Placing.{attribute_column, from_root}
use Rattle.main_selects.specs.MainSelect.{main_select}
use Rattle.loading_laws.specs.Wide.Parts.{cell, cells}
use Rattle.loading_laws.specs.Wide.Answers.{AreAnswered, AreBlocks, AreInBlocks, AreOfSources, CanBeJoined, CutsOwners, HasOnePartner, joined_row, joined_rows, left_of, options_sources, own_columns, query_partners}
use Rattle.loading_laws.proofs.Wide.Joins.{every_map}
use Rattle.loading_laws.proofs.Wide.Lefts.{partners_some}
use Rattle.loading_laws.proofs.Wide.Main.{flat_singles, flat_where, main_multiplies, of_plain}

-- ---- what is left of lists

module _ {A : Type 0} where
  abbrev off : Option ℕ → List A → List A
  off None xs = xs
  off (Some n) xs = drop n xs

  abbrev within : Option ℕ → List A → List A
  within None xs = xs
  within (Some n) xs = take n xs

  off_map : (f : A → Row) (offset : Option ℕ) (xs : List A) → cut_off offset (map f xs) ≡ map f (off offset xs)
  off_map f None xs = refl
  off_map f (Some n) xs = drop-map f n xs

  within_map : (f : A → Row) (limit : Option ℕ) (xs : List A) → within_limit limit (map f xs) ≡ map f (within limit xs)
  within_map f None xs = refl
  within_map f (Some n) xs = take-map f n xs

  taken_have : (P : A → Type 0) (n : ℕ) (xs : List A) → AllByRecursion P xs → AllByRecursion P (take n xs)
  taken_have P zero xs h = tt
  taken_have P (suc n) [] h = tt
  taken_have P (suc n) (x ∷ xs) h = (h.0, taken_have P n xs h.1)

  dropped_have : (P : A → Type 0) (n : ℕ) (xs : List A) → AllByRecursion P xs → AllByRecursion P (drop n xs)
  dropped_have P zero xs h = h
  dropped_have P (suc n) [] h = tt
  dropped_have P (suc n) (x ∷ xs) h = dropped_have P n xs h.1

  page_has : (P : A → Type 0) (limit offset : Option ℕ) (xs : List A) → AllByRecursion P xs → AllByRecursion P (within limit (off offset xs))
  page_has P None None xs h = h
  page_has P None (Some n) xs h = dropped_have P n xs h
  page_has P (Some m) None xs h = taken_have P m xs h
  page_has P (Some m) (Some n) xs h = taken_have P m (drop n xs) (dropped_have P n xs h)

-- ---- joined rows

module _ (mapped : Mapped) (tables : Tables) (query : ObjectQuery) where
  abbrev s : Select
  s = query.select

  abbrev own : List Row → Row
  own = cells (own_columns mapped query)

  abbrev joined : List Row → List Row
  joined = joined_rows mapped tables query

  -- there is one at least, and each begins with what the rows have of the class
  pub joined_some : (rows : List Row) → 0 < length (joined rows)
  joined_some rows =
      let some = partners_some mapped.schema tables (options_sources mapped query.class (length (sources_of s)) query.joined) rows in
      omega (arith, some, length-map (query_partners mapped tables query rows) (joined_row mapped query rows))

  front : (xs ys : Row) (n : ℕ) → length xs ≡ n → take n (xs ++ ys) ≡ xs
  front [] ys zero e = refl
  front [] ys (suc n) e = absurd cc
  front (x ∷ xs) ys zero e = absurd cc
  front (x ∷ xs) ys (suc n) e = ap (λ (l : Row). x ∷ l) (front xs ys n (omega (arith, e)))

  pub joined_own : (rows : List Row) → AllByRecursion (λ one. take (length (attributes_of mapped query.class)) one ≡ own rows) (joined rows)
  joined_own rows =
      every_map (λ more. Unit {0}) (λ one. take (length (attributes_of mapped query.class)) one ≡ own rows) (joined_row mapped query rows)
      (λ more t. front (own rows) _ (length (attributes_of mapped query.class))
      (length-map (own_columns mapped query) (cell rows) ∙ length-map (attributes_of mapped query.class) (attribute_column mapped query.class (from_root 0))))
      (query_partners mapped tables query rows) (each (query_partners mapped tables query rows))
    where
      each : (xs : List (List Row)) → AllByRecursion (λ x. Unit {0}) xs
      each [] = tt
      each (x ∷ xs) = (tt, each xs)

  -- ---- blocks

  left_page : s.distinct ≡ false → (rows : List Row) → left_of s rows ≡ page_of s rows
  left_page is rows = ap (λ (b : Bool). page_of s (distinct b rows)) is

  whole_page : s.limit ≡ None → s.offset ≡ None → (rows : List Row) → page_of s rows ≡ rows
  whole_page limit offset rows = ap (λ (o : Option ℕ). within_limit o (cut_off s.offset rows)) limit ∙ ap (λ (o : Option ℕ). cut_off o rows) offset

  page_map : {A : Type 0} (f : A → Row) (xs : List A) → page_of s (map f xs) ≡ map f (within s.limit (off s.offset xs))
  page_map f xs = ap (within_limit s.limit) (off_map f s.offset xs) ∙ within_map f s.limit (off s.offset xs)

  alone : (xs : List Row) → length xs ≡ 1 → xs ≡ first_row xs ∷ []
  alone [] e = absurd (omega (arith, e))
  alone (x ∷ []) e = refl
  alone (x ∷ y ∷ xs) e = absurd (omega (arith, e))

  abbrev first_joined : List Row → Row
  first_joined rows = first_row (joined rows)

  abbrev Sourced : List Row → Type 0
  Sourced = AreOfSources mapped.schema tables s

  one_joined : HasOnePartner mapped tables query → (rows : List Row) → Sourced rows → joined rows ≡ first_joined rows ∷ []
  one_joined one rows of = alone (joined rows) (length-map (query_partners mapped tables query rows) (joined_row mapped query rows) ∙ one rows of)

  one_each : HasOnePartner mapped tables query → (from : List (List Row)) → AllByRecursion Sourced from → flat_map joined from ≡ map first_joined from
  one_each one from all = flat_where Sourced joined (λ rows. first_joined rows ∷ []) (one_joined one) from all ∙ flat_singles first_joined from

  in_blocks : CutsOwners mapped tables query → (told other : Checked (List Row)) → AreAnswered mapped tables query told other → AreInBlocks mapped tables query told other
  in_blocks cuts (Ok owners) (Ok rows) h = by cuts.cut
    where
      by : ((s.limit ≡ None) × (s.offset ≡ None)) ⊎ HasOnePartner mapped tables query → AreInBlocks mapped tables query (Ok owners) (Ok rows)
      by (inl none) =
          let all : (l : List Row) → left_of s l ≡ l = λ l. left_page cuts.not_distinct l ∙ whole_page none.0 none.1 l in
          record { from = h.from; sourced = h.sourced; owners_are = h.owners_are ∙ all (map own h.from); joined_are = h.joined_are ∙ all (flat_map joined h.from) }
      by (inr one) =
          let kept : List (List Row) = within s.limit (off s.offset h.from) in
          let has : AllByRecursion Sourced kept = page_has Sourced s.limit s.offset h.from h.sourced in
          record {
            from = kept;
            sourced = has;
            owners_are = h.owners_are ∙ left_page cuts.not_distinct (map own h.from) ∙ page_map own h.from;
            joined_are =
                h.joined_are ∙ left_page cuts.not_distinct (flat_map joined h.from) ∙ ap (page_of s) (one_each one h.from h.sourced) ∙ page_map first_joined h.from ∙ sym (one_each one kept has);
          }
  in_blocks cuts (Ok owners) (Err e) h = absurd h
  in_blocks cuts (Err e) (Ok rows) h = absurd h
  in_blocks cuts (Err e) (Err d) h = h

  pub main_in_blocks : CanBeJoined mapped tables query → CutsOwners mapped tables query → AreInBlocks mapped tables query (answer mapped.schema tables query.select) (answer mapped.schema tables (main_select mapped query))
  main_in_blocks can cuts = in_blocks cuts (answer mapped.schema tables query.select) (answer mapped.schema tables (main_select mapped query)) (main_multiplies mapped tables query (of_plain mapped tables query can))

  -- of two answers
  pub blocks_of : CanBeJoined mapped tables query → CutsOwners mapped tables query → (plain rows : List Row) → answer mapped.schema tables query.select ≡ Ok plain → answer mapped.schema tables (main_select mapped query) ≡ Ok rows
      → AreBlocks mapped tables query plain rows
  blocks_of can cuts plain rows one other =
      subst (λ (told : Checked (List Row)). AreInBlocks mapped tables query (Ok plain) told) other
      (subst (λ (told : Checked (List Row)). AreInBlocks mapped tables query told (answer mapped.schema tables (main_select mapped query))) one (main_in_blocks can cuts))

-- where a select answers, all its tables are created
pub answered_created : (schema : Catalog) (tables : Tables) (select : Select) (rows : List Row) → answer schema tables select ≡ Ok rows → require_created tables (tables_of select) ≡ Ok tt
unfolding answer
answered_created schema tables select rows e = by (require_created tables (tables_of select)) _ e
  where
    by : (told : Checked (Unit {0})) (more : Unit {0} → Checked (List Row)) → (told >>= more) ≡ Ok rows → told ≡ Ok tt
    by (Ok one) more h = refl
    by (Err d) more h = absurd cc
