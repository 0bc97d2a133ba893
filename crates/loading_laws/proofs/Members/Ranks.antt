-- Choices of a row of each table of a class, by the ranks of the tables, wherever these stand among the sources.
use Rattle.std.proofs.Common.{◌≡◌, ◌⊎◌, inl, inr, ℕ, zero, suc, ◌+◌, ◌-◌, ◌<◌, ◌≤◌, ◌==◌, nat_lt, Bool, true, false, not, ◌&&◌, ◌||◌, List, [], ◌∷◌, ◌++◌, get_or, length, map, Option, None, Some, if◌then◌else◌, is_some, refl, sym, ap, subst, ◌∙◌, arith}
use Rattle.std.specs.Prelude.{slice_get}
use Rattle.std.specs.List.{AllByRecursion, enumerate_from, flat_map, list_all, list_any}
use Rattle.std.specs.Ordering.{is_eq}
use Rattle.std.specs.declared.cmp.Ordering.{Ordering}
use Rattle.std.specs.declared.cmp.Ordering.TheVariants.{Less, Equal, Greater}
use Rattle.std.proofs.lemmas.Bool.{and_parts, eq-eqb, eqb-false, eqb-true, le-ltb, lt-ltb, ne_eqb}
use Rattle.std.proofs.lemmas.List.{length-map, map-append}
use Rattle.std.proofs.lemmas.Option.{same_Some, slice_get-get_or, slice_get_within}
use Rattle.base_core.specs.declared.ids.ClassId.{ClassId}
use Rattle.base_core.specs.declared.ids.ColumnNo.{ColumnNo}
use Rattle.base_core.specs.declared.ids.TableId.{TableId}
use Rattle.base_core.specs.declared.value.Kind.{Kind}
use Rattle.base_core.specs.declared.value.Value.{Value}
use Rattle.base_core.specs.Order.{same_value, values_cmp}
use Rattle.base_core.proofs.Exact.{exact_values}
use Rattle.schema_core.specs.Catalog.{key_columns, spec_of}
use Rattle.schema_core.specs.Tables.{has_null, is_null, same_values}
use Rattle.expr_types.specs.declared.expr.Expr.{Expr}
use Rattle.expr_types.specs.declared.expr.Expr.TheVariants as expr
use Rattle.sql_semantics.specs.Plain.{fits, is_given}
use Rattle.sql_semantics.proofs.Equations.{fits-InList}
use Rattle.sql_semantics.specs.Eval.{Row, Tables, item_or_null, rows_in}
use Rattle.sql_semantics.specs.Rows.{Frame}
use Rattle.class_types.specs.declared.mapped.Attribute.{Attribute}
use Rattle.class_mapping.specs.Mapped.{Mapped, attributes_of, class_spec, no_table_id, root_spec, table_or_none, tables_of}
use Rattle.class_mapping.proofs.Having.{Has}
use Rattle.object_arena.proofs.GraphLemmas.{same_equiv}
use Rattle.mapping_laws.specs.Hierarchies.{HasTables, kinds_of}
use Rattle.load_columns.specs.declared.placing.Placement.{Placement}
use Rattle.load_columns.specs.declared.placing.SourceColumn.{SourceColumn}
use Rattle.load_columns.specs.Conditions.{is_in}
use Rattle.load_columns.specs.Placing.{attribute_column, attribute_columns, column_at, columns_at, from_root, key_at_rank, key_numbers, place_at_rank, rank_of, table_at_rank}
use Rattle.collection_selects.proofs.ClassLemmas.{rank_is}
use Rattle.collection_selects.proofs.Keys.{key_typed}
use Rattle.collection_selects.proofs.MemberLemmas.{kinds_along}
use Rattle.collection_selects.proofs.Typed.{typed_long}
use Rattle.load_selects.specs.declared.sources.Further.{Further}
use Rattle.load_selects.specs.Branches.{discriminator_column, discriminator_of, identities, is_of_branch, names_branch}
use Rattle.load_selects.specs.Selects.{origin_of}
use Rattle.load_selects.specs.Sources.{keyed_source, rank_tied, ranked_source}
use Rattle.loading_laws.specs.Answers.Answers.{value_at}
use Rattle.loading_laws.specs.Answers.Equal.{are_equal, equals_key}
use Rattle.loading_laws.proofs.Answers.Conditions.{AreTests, in_one, no_tests, one_test}
use Rattle.loading_laws.proofs.Answers.Totals.{map_twice}
use Rattle.loading_laws.proofs.Answers.Values.{equals_known}
use Rattle.loading_laws.proofs.Members.Choices.{Choice, EachPlaced, Fit, IsInside, Meet, Tie, are_tied, chosen, column_inside, joined_where}

-- ---- keys that are equal as SQL sees it

is_equal : (r : Ordering) → is_eq r ≡ true → r ≡ Equal
is_equal Less e = absurd cc
is_equal Equal e = refl
is_equal Greater e = absurd cc

-- values that are the same are equal
pub same_equal : (one other : List Value) → same_values one other ≡ true → one ≡ other
same_equal one other same = exact_values one other (is_equal (values_cmp one other) same)

not_true : (b : Bool) → not b ≡ true → b ≡ false
not_true true e = absurd cc
not_true false e = refl

known_by : (one other : List Value) → length one ≡ length other → equals_key one other ≡ true → has_null other ≡ false
known_by [] [] long h = refl
known_by [] (y ∷ other) long h = absurd cc
known_by (x ∷ one) [] long h = absurd cc
known_by (x ∷ one) (y ∷ other) long h =
    let both = and_parts (are_equal (x, y)) (equals_key one other) h in
    let second = and_parts (not (is_null x)) (not (is_null y) && same_value x y) both.0 in
    let known = not_true (is_null y) (and_parts (not (is_null y)) (same_value x y) second.1).0 in
    ap (λ (b : Bool). b || has_null other) known ∙ known_by one other (omega (arith, long)) both.1

-- keys of one width that are equal are the same, and none of their values is NULL
pub record IsOneKey (one other : List Value) : Type 0 where
  pub same : one ≡ other
  pub known : has_null other ≡ false

pub equal_both : (one other : List Value) → length one ≡ length other → equals_key one other ≡ true → IsOneKey one other
equal_both one other long h =
    let known = known_by one other long h in record { same = same_equal one other (sym (equals_known one other long known) ∙ h); known = known }

-- a key without a NULL equals itself
pub equal_itself : (one other : List Value) → one ≡ other → has_null other ≡ false → equals_key one other ≡ true
equal_itself one other same known = ap (λ (key : List Value). equals_key key other) same ∙ equals_known other other refl known ∙ same_equiv.refl other

-- ---- ties by rank

module _ (mapped : Mapped) (class : ClassId) where
  abbrev own : List TableId
  own = tables_of mapped class

  module _ (placement : Placement) where
    abbrev pub tie_at : ℕ × TableId → Tie
    tie_at ranked = record { table = ranked.1; ones = key_at_rank mapped class placement (ranked.0 - 1); others = key_at_rank mapped class placement (rank_tied placement ranked.0) }

    abbrev ranked_tie : ℕ × TableId → List Tie
    ranked_tie ranked = if ranked.0 == placement.leading then [] else tie_at ranked ∷ []

    abbrev pub ties_behind : ℕ → List TableId → List Tie
    ties_behind rank tables = flat_map ranked_tie (enumerate_from rank tables)

    one_source : (ranked : ℕ × TableId) (b : Bool) → (if b then [] else keyed_source mapped class placement ranked ∷ []) ≡ map joined_where (if b then [] else tie_at ranked ∷ [])
    unfolding keyed_source
    one_source ranked true = refl
    one_source ranked false = refl

    -- the sources of the tables but the one that leads
    pub sources_tied : (rank : ℕ) (tables : List TableId) → flat_map (ranked_source mapped class placement) (enumerate_from rank tables) ≡ map joined_where (ties_behind rank tables)
    unfolding ranked_source
    sources_tied rank [] = refl
    sources_tied rank (table ∷ tables) =
        ap (λ (first : List Further). first ++ flat_map (ranked_source mapped class placement) (enumerate_from (rank + 1) tables)) (one_source (rank, table) (rank == placement.leading))
        ∙ ap (λ (more : List Further). map joined_where (ranked_tie (rank, table)) ++ more) (sources_tied (rank + 1) tables)
        ∙ sym (map-append joined_where (ranked_tie (rank, table)) (ties_behind (rank + 1) tables))

    -- so many sources stand before the table of a rank: the one that leads is among them
    abbrev pub Before : ℕ → ℕ → Type 0
    Before rank count = ((count ≡ placement.first + 1 + rank) × (rank ≤ placement.leading)) ⊎ ((count ≡ placement.first + rank) × (placement.leading < rank))

    before_lead : (rank count : ℕ) → rank ≡ placement.leading → Before rank count → Before (rank + 1) count
    before_lead rank count same (inl c) = inr (omega (arith, c.0), omega (arith, same))
    before_lead rank count same (inr c) = absurd (omega (arith, same, c.1))

    before_more : (rank count : ℕ) → ((rank ≡ placement.leading) → ⊥) → Before rank count → Before (rank + 1) (count + 1)
    before_more rank count apart (inl c) = inl (omega (arith, c.0), omega (arith, c.1, apart))
    before_more rank count apart (inr c) = inr (omega (arith, c.0), omega (arith, c.1))

    pub lead_place : (rank : ℕ) → rank ≡ placement.leading → place_at_rank placement rank ≡ placement.first
    lead_place rank same =
        ap (λ (b : Bool). if b then placement.first else if nat_lt rank placement.leading then (placement.first + 1 + rank) else (placement.first + rank)) (eq-eqb rank placement.leading same)

    pub low_place : (rank : ℕ) → rank < placement.leading → place_at_rank placement rank ≡ placement.first + 1 + rank
    low_place rank less =
        ap (λ (b : Bool). if b then placement.first else if nat_lt rank placement.leading then (placement.first + 1 + rank) else (placement.first + rank)) (ne_eqb rank placement.leading (λ same. omega (arith, same, less)))
        ∙ ap (λ (b : Bool). if b then (placement.first + 1 + rank) else (placement.first + rank)) (lt-ltb rank placement.leading less)

    pub high_place : (rank : ℕ) → placement.leading < rank → place_at_rank placement rank ≡ placement.first + rank
    high_place rank more =
        ap (λ (b : Bool). if b then placement.first else if nat_lt rank placement.leading then (placement.first + 1 + rank) else (placement.first + rank)) (ne_eqb rank placement.leading (λ same. omega (arith, same, more)))
        ∙ ap (λ (b : Bool). if b then (placement.first + 1 + rank) else (placement.first + rank)) (le-ltb rank placement.leading (omega (arith, more)))

    place_is : (rank count : ℕ) → ((rank ≡ placement.leading) → ⊥) → Before rank count → place_at_rank placement rank ≡ count
    place_is rank count apart (inl c) = low_place rank (omega (arith, c.1, apart)) ∙ sym c.0
    place_is rank count apart (inr c) = high_place rank c.1 ∙ sym c.0

    -- what holds of the tie of each rank but the one that leads, and of its place
    abbrev pub EachRanked : (ℕ → Tie → Type 0) → ℕ → List TableId → Type 0
    EachRanked P rank found = (k : ℕ) (table : TableId) → slice_get found k ≡ Some table → ((rank + k ≡ placement.leading) → ⊥) → P (place_at_rank placement (rank + k)) (tie_at (rank + k, table))

    -- the tables of these ranks give rows, and their keys are tied
    abbrev pub OthersMeet : Tables → Choice → ℕ → List TableId → Type 0
    OthersMeet tables rows rank found = EachRanked (Meet tables rows) rank found

    module _ (P : ℕ → Tie → Type 0) where
      -- what holds at a rank
      abbrev Ranked : ℕ → TableId → Type 0
      Ranked rank table = P (place_at_rank placement rank) (tie_at (rank, table))

      -- from the sources in order to the ranks
      from_by : (rank count : ℕ) (first : TableId) (found : List TableId) (b : Bool) → (rank == placement.leading) ≡ b → Before rank count
          → EachPlaced P count ((if b then [] else tie_at (rank, first) ∷ []) ++ ties_behind (rank + 1) found)
          → ((next : ℕ) → Before (rank + 1) next → EachPlaced P next (ties_behind (rank + 1) found) → EachRanked P (rank + 1) found) → EachRanked P rank (first ∷ found)
      from_by rank count first found true e before each later zero table here apart = let same = eqb-true rank placement.leading e in absurd (apart (omega (arith, same)))
      from_by rank count first found true e before each later (suc k) table here apart =
          let same : rank + 1 + k ≡ rank + suc k = omega arith in
          subst (λ (r : ℕ). Ranked r table) same (later count (before_lead rank count (eqb-true rank placement.leading e) before) each k table here (λ leads. apart (omega (arith, leads))))
      from_by rank count first found false e before each later zero table here apart =
          let one : first ≡ table = same_Some first table here in
          let same : rank ≡ rank + 0 = omega arith in
          let place : place_at_rank placement rank ≡ count = place_is rank count (eqb-false rank placement.leading e) before in
          subst (λ (r : ℕ). Ranked r table) same (subst (λ (t : TableId). Ranked rank t) one (subst (λ (p : ℕ). P p (tie_at (rank, first))) (sym place) each.0))
      from_by rank count first found false e before each later (suc k) table here apart =
          let same : rank + 1 + k ≡ rank + suc k = omega arith in
          subst (λ (r : ℕ). Ranked r table) same (later (count + 1) (before_more rank count (eqb-false rank placement.leading e) before) each.1 k table here (λ leads. apart (omega (arith, leads))))

      pub from_places : (found : List TableId) (rank count : ℕ) → Before rank count → EachPlaced P count (ties_behind rank found) → EachRanked P rank found
      from_places [] rank count before each k table here apart = absurd cc
      from_places (first ∷ found) rank count before each k table here apart =
          from_by rank count first found (rank == placement.leading) refl before each (λ next more rest j other there alone. from_places found (rank + 1) next more rest j other there alone) k table here apart

      -- and back
      to_by : (rank count : ℕ) (first : TableId) (found : List TableId) (b : Bool) → (rank == placement.leading) ≡ b → Before rank count → EachRanked P rank (first ∷ found)
          → ((next : ℕ) → Before (rank + 1) next → EachPlaced P next (ties_behind (rank + 1) found)) → EachPlaced P count ((if b then [] else tie_at (rank, first) ∷ []) ++ ties_behind (rank + 1) found)
      to_by rank count first found true e before each later = later count (before_lead rank count (eqb-true rank placement.leading e) before)
      to_by rank count first found false e before each later =
          let apart = eqb-false rank placement.leading e in
          let same : rank + 0 ≡ rank = omega arith in
          let here : Ranked rank first = subst (λ (r : ℕ). Ranked r first) same (each 0 first refl (λ leads. apart (omega (arith, leads)))) in
          let place : place_at_rank placement rank ≡ count = place_is rank count apart before in
          (subst (λ (p : ℕ). P p (tie_at (rank, first))) place here, later (count + 1) (before_more rank count apart before))

      pub to_places : (found : List TableId) (rank count : ℕ) → Before rank count → EachRanked P rank found → EachPlaced P count (ties_behind rank found)
      to_places [] rank count before each = tt
      to_places (first ∷ found) rank count before each =
          to_by rank count first found (rank == placement.leading) refl before each (λ next more.
          to_places found (rank + 1) next more (λ k table here apart.
          let same : rank + suc k ≡ rank + 1 + k = omega arith in
          subst (λ (r : ℕ). Ranked r table) same (each (suc k) table here (λ leads. apart (omega (arith, leads))))))

    -- how many sources stand before what is behind them all
    count_by : (rank count : ℕ) (first : TableId) (found : List TableId) (b : Bool) → (rank == placement.leading) ≡ b → Before rank count
        → ((next : ℕ) → Before (rank + 1) next → Before (rank + 1 + length found) (next + length (ties_behind (rank + 1) found)))
        → Before (rank + suc (length found)) (count + length ((if b then [] else tie_at (rank, first) ∷ []) ++ ties_behind (rank + 1) found))
    count_by rank count first found true e before later =
        let same : rank + 1 + length found ≡ rank + suc (length found) = omega arith in
        subst (λ (r : ℕ). Before r (count + length (ties_behind (rank + 1) found))) same (later count (before_lead rank count (eqb-true rank placement.leading e) before))
    count_by rank count first found false e before later =
        let same : rank + 1 + length found ≡ rank + suc (length found) = omega arith in
        let more : count + 1 + length (ties_behind (rank + 1) found) ≡ count + suc (length (ties_behind (rank + 1) found)) = omega arith in
        subst (λ (r : ℕ). Before r (count + suc (length (ties_behind (rank + 1) found)))) same
        (subst (Before (rank + 1 + length found)) more (later (count + 1) (before_more rank count (eqb-false rank placement.leading e) before)))

    pub count_behind : (found : List TableId) (rank count : ℕ) → Before rank count → Before (rank + length found) (count + length (ties_behind rank found))
    count_behind [] rank count before =
        let same : rank ≡ rank + 0 = omega arith in
        let more : count ≡ count + 0 = omega arith in
        subst (λ (r : ℕ). Before r (count + 0)) same (subst (Before rank) more before)
    count_behind (first ∷ found) rank count before = count_by rank count first found (rank == placement.leading) refl before (λ next more. count_behind found (rank + 1) next more)

  -- ---- a choice by ranks

  -- the key of the table of a rank
  abbrev pub key_in : Choice → ℕ → List Value
  key_in rows rank = map (λ (number : ColumnNo). item_or_null (slice_get (rows rank) number.0)) (key_numbers mapped (table_at_rank mapped class rank))

  -- a choice whose row for a rank is at the table's place has the key in the key's columns
  pub key_chosen : (placement : Placement) (rows ranks : Choice) (rank : ℕ) → rows (place_at_rank placement rank) ≡ ranks rank → map (chosen rows) (key_at_rank mapped class placement rank) ≡ key_in ranks rank
  key_chosen placement rows ranks rank same =
      map_twice (chosen rows) (column_at (place_at_rank placement rank)) (key_numbers mapped (table_at_rank mapped class rank))
      ∙ ap (λ (row : Row). map (λ (number : ColumnNo). item_or_null (slice_get row number.0)) (key_numbers mapped (table_at_rank mapped class rank))) same

  -- one row of each table of the class, all under one key
  pub record AreRanked (tables : Tables) (ranks : Choice) (key : List Value) : Type 0 where
    pub rows : (rank : ℕ) (table : TableId) → slice_get own rank ≡ Some table → Has (rows_in tables table.0) (ranks rank)
    pub keys : (rank : ℕ) (table : TableId) → slice_get own rank ≡ Some table → key_in ranks rank ≡ key

  -- wherever the tables stand they are tied then
  pub ranks_meet : (placement : Placement) (tables : Tables) (rows ranks : Choice) (key : List Value) (lead : TableId) → slice_get own placement.leading ≡ Some lead → has_null key ≡ false → AreRanked tables ranks key
      → ((rank : ℕ) (table : TableId) → slice_get own rank ≡ Some table → rows (place_at_rank placement rank) ≡ ranks rank) → OthersMeet placement tables rows 0 own
  ranks_meet placement tables rows ranks key lead leads known ranked at k table here apart =
      let first : 0 + k ≡ k = omega arith in
      subst (λ (r : ℕ). Meet tables rows (place_at_rank placement r) (tie_at placement (r, table))) (sym first)
      (subst (Has (rows_in tables table.0)) (sym (at k table here)) (ranked.rows k table here), tied k table here)
    where
      key_there : (rank : ℕ) (found : TableId) → slice_get own rank ≡ Some found → map (chosen rows) (key_at_rank mapped class placement rank) ≡ key
      key_there rank found there = key_chosen placement rows ranks rank (at rank found there) ∙ ranked.keys rank found there

      before_it : (rank : ℕ) (found : TableId) → slice_get own rank ≡ Some found → (parent : TableId) × (slice_get own (rank - 1) ≡ Some parent)
      before_it rank found there =
          let less = slice_get_within own rank found there in
          (get_or own (rank - 1) no_table_id, slice_get-get_or own (rank - 1) no_table_id (omega (arith, less)))

      tied_rank : (rank : ℕ) (b : Bool) (found : TableId) → slice_get own rank ≡ Some found → (other : TableId) × (slice_get own (if b then placement.leading else rank) ≡ Some other)
      tied_rank rank true found there = (lead, leads)
      tied_rank rank false found there = (found, there)

      tied : (rank : ℕ) (found : TableId) → slice_get own rank ≡ Some found → are_tied rows (tie_at placement (rank, found)) ≡ true
      tied rank found there =
          let parent = before_it rank found there in
          let other = tied_rank rank (rank == 0) found there in
          let one : map (chosen rows) (key_at_rank mapped class placement (rank - 1)) ≡ key = key_there (rank - 1) parent.0 parent.1 in
          let second : map (chosen rows) (key_at_rank mapped class placement (rank_tied placement rank)) ≡ key = key_there (rank_tied placement rank) other.0 other.1 in
          equal_itself (map (chosen rows) (key_at_rank mapped class placement (rank - 1))) (map (chosen rows) (key_at_rank mapped class placement (rank_tied placement rank))) (one ∙ sym second) (ap has_null second ∙ known)

  -- ---- the columns of attributes, and the branch

  pub attributes_chosen : (placement : Placement) (rows ranks : Choice) → ((rank : ℕ) (table : TableId) → slice_get own rank ≡ Some table → rows (place_at_rank placement rank) ≡ ranks rank)
      → ((table : TableId) → (attribute : Attribute) → Has (attributes_of mapped class) attribute → attribute.table ≡ table → slice_get own (rank_of mapped class table) ≡ Some table)
      → map (chosen rows) (attribute_columns mapped class placement) ≡ map (chosen ranks) (attribute_columns mapped class (from_root 0))
  attributes_chosen placement rows ranks at inside = each (attributes_of mapped class) (λ a there. there)
    where
      each : (attributes : List Attribute) → ((a : Attribute) → Has attributes a → Has (attributes_of mapped class) a) → map (chosen rows) (map (attribute_column mapped class placement) attributes) ≡ map (chosen ranks) (map (attribute_column mapped class (from_root 0)) attributes)
      each [] there = refl
      each (attribute ∷ attributes) there =
          let rank : ℕ = rank_of mapped class attribute.table in
          let c : ℕ = attribute.column.0 in
          let here : rows (place_at_rank placement rank) ≡ ranks (place_at_rank (from_root 0) rank) = at rank attribute.table (inside attribute.table attribute (there attribute (inl refl)) refl) ∙ ap ranks (sym (rank_is rank)) in
          ap (λ (row : Row). item_or_null (slice_get row c) ∷ map (chosen rows) (map (attribute_column mapped class placement) attributes)) here
          ∙ ap (λ (rest : List Value). item_or_null (slice_get (ranks (place_at_rank (from_root 0) rank)) c) ∷ rest) (each attributes (λ a h. there a (inr h)))

  abbrev pub names_test : Placement → (SourceColumn → Value) → Option (List ℕ) → Bool
  names_test placement v None = true
  names_test placement v (Some name) = list_any (λ x. are_equal (v (discriminator_column mapped class placement name), x)) (identities mapped class) && true

  -- what is in the columns is of the class's branch
  abbrev pub branch_test : Placement → (SourceColumn → Value) → Bool
  branch_test placement v = if is_some (class_spec mapped class).table then true else names_test placement v (discriminator_of mapped class)

  names_tests : (placement : Placement) (f : Frame) (name : Option (List ℕ)) → AreTests f (names_branch mapped class placement name) (λ row. names_test placement (value_at f row) name)
  names_tests placement f None = no_tests f
  names_tests placement f (Some name) =
      let place : SourceColumn = discriminator_column mapped class placement name in
      let values : List Value = identities mapped class in
      one_test f (is_in place values) [] (λ row. list_any (λ x. are_equal (value_at f row place, x)) values) (λ row. true) (in_one f place values) (no_tests f)

  branch_tests_by : (placement : Placement) (f : Frame) (b : Bool)
      → AreTests f (if b then [] else names_branch mapped class placement (discriminator_of mapped class)) (λ row. if b then true else names_test placement (value_at f row) (discriminator_of mapped class))
  branch_tests_by placement f true = no_tests f
  branch_tests_by placement f false = names_tests placement f (discriminator_of mapped class)

  pub branch_tests : (placement : Placement) (f : Frame) → AreTests f (is_of_branch mapped class placement) (λ row. branch_test placement (value_at f row))
  branch_tests placement f = branch_tests_by placement f (is_some (class_spec mapped class).table)

  -- it is the same where the discriminator has the same
  names_alike : (one other : Placement) (u v : SourceColumn → Value) (name : Option (List ℕ)) → ((n : List ℕ) → name ≡ Some n → u (discriminator_column mapped class one n) ≡ v (discriminator_column mapped class other n))
      → names_test one u name ≡ names_test other v name
  names_alike one other u v None same = refl
  names_alike one other u v (Some n) same = ap (λ (value : Value). list_any (λ x. are_equal (value, x)) (identities mapped class) && true) (same n refl)

  pub branch_alike : (one other : Placement) (u v : SourceColumn → Value)
      → (is_some (class_spec mapped class).table ≡ false → (n : List ℕ) → discriminator_of mapped class ≡ Some n → u (discriminator_column mapped class one n) ≡ v (discriminator_column mapped class other n)) → branch_test one u ≡ branch_test other v
  branch_alike one other u v same = by (is_some (class_spec mapped class).table) refl
    where
      by : (b : Bool) → is_some (class_spec mapped class).table ≡ b → (if b then true else names_test one u (discriminator_of mapped class)) ≡ (if b then true else names_test other v (discriminator_of mapped class))
      by true e = refl
      by false e = names_alike one other u v (discriminator_of mapped class) (same e)

  -- the discriminator is a column of the sources where the condition on it fits
  pub branch_inside : (placement : Placement) (under : List TableId) → AllByRecursion (Fit mapped.schema under) (is_of_branch mapped class placement) → is_some (class_spec mapped class).table ≡ false → (n : List ℕ) → discriminator_of mapped class ≡ Some n
      → IsInside mapped.schema under (discriminator_column mapped class placement n)
  branch_inside placement under fit bare n named =
      let place : SourceColumn = discriminator_column mapped class placement n in
      let column : Expr = expr.Column place.source place.column in
      let open_fit : AllByRecursion (Fit mapped.schema under) (names_branch mapped class placement (discriminator_of mapped class)) =
      subst (λ (b : Bool). AllByRecursion (Fit mapped.schema under) (if b then [] else names_branch mapped class placement (discriminator_of mapped class))) bare fit in
      let one = subst (λ (name : Option (List ℕ)). AllByRecursion (Fit mapped.schema under) (names_branch mapped class placement name)) named open_fit in
      let given : Bool = list_all is_given (identities mapped class) in
      let both = and_parts given (fits mapped.schema column under && true) (sym (fits-InList mapped.schema under false column (identities mapped class)) ∙ one.0) in
      column_inside mapped.schema under place (and_parts (fits mapped.schema column under) true both.1).0

-- ---- the width of keys

-- the keys of all tables of a class are as wide as the root's
pub key_long : (mapped : Mapped) (class : ClassId) (known : HasTables mapped class) (rank : ℕ) (table : TableId) → slice_get (tables_of mapped class) rank ≡ Some table
    → length (key_numbers mapped (table_at_rank mapped class rank)) ≡ length (kinds_of (key_columns (root_spec mapped class)))
key_long mapped class known rank table here =
    let kinds : List Kind = kinds_of (key_columns (spec_of mapped.schema table)) in
    ap (λ (found : Option TableId). length (key_numbers mapped (table_or_none found))) here
    ∙ sym (length-map (key_numbers mapped table) (column_at 0))
    ∙ typed_long mapped.schema (origin_of table ∷ []) (columns_at 0 (key_numbers mapped table)) kinds (key_typed mapped (origin_of table ∷ []) 0 table refl)
    ∙ ap (λ (ks : List Kind). length ks) (sym (kinds_along mapped class known rank table here))
