-- The tables of a relationship's target stand among the sources of a select where its placement says.
use Rattle.std.proofs.Common.{◌≡◌, ℕ, zero, suc, ◌+◌, ◌<◌, ◌≤◌, Bool, true, false, ◌&&◌, ◌==◌, nat_lt, List, [], ◌∷◌, ◌++◌, map, length, Option, Some, None, refl, sym, ap, subst, ◌∙◌, if◌then◌else◌, arith, append_assoc, length-append}
use Rattle.std.specs.Prelude.{slice_get}
use Rattle.std.specs.List.{enumerate_from, flat_map, list_all}
use Rattle.std.proofs.lemmas.Bool.{and_parts, eqb-false, eqb-true, ltb-false, ltb-true, ne_eqb}
use Rattle.std.proofs.lemmas.List.{length-map, map-append}
use Rattle.base_core.proofs.Lists.{get_after}
use Rattle.base_core.specs.declared.ids.ClassId.{ClassId}
use Rattle.base_core.specs.declared.ids.TableId.{TableId}
use Rattle.schema_core.specs.declared.table.TableSpec.{TableSpec}
use Rattle.expr_types.specs.declared.expr.Origin.{Origin}
use Rattle.class_types.specs.declared.mapped.Relation.{Relation}
use Rattle.class_layouts.specs.Columns.{columns_in}
use Rattle.class_layouts.specs.Faults.{foreigns_in}
use Rattle.class_sides.specs.Keys.{TableKey, foreign_at, names_of}
use Rattle.class_sides.specs.Sides.{has_attribute, is_all_keys}
use Rattle.class_mapping.specs.Mapped.{Mapped, layout_of, tables_of}
use Rattle.class_mapping.specs.Related.{IsRelated, has_keys}
use Rattle.class_mapping.specs.Valid.{is_among, joins, refers_by, refers_to_class}
use Rattle.class_mapping.proofs.Having.{Has}
use Rattle.class_mapping.proofs.Lists.{and_right}
use Rattle.load_columns.specs.declared.placing.Placement.{Placement}
use Rattle.load_columns.specs.Placing.{place_at_rank, place_of_table, rank_of, referred_table}
use Rattle.load_selects.specs.declared.sources.Further.{Further}
use Rattle.load_selects.specs.Sources.{first_behind, keyed_source, leading_by, leading_table, other_tables, ranked_source, referred_source, referring_source, related_sources, target_placement, tied_by}
use Rattle.collection_selects.proofs.MemberLemmas.{among_has, referred, referred_is}
use Rattle.collection_selects.proofs.Placed.{StandsAt, rank_finds}
use Rattle.joined_rows.proofs.Widening.{joined_table, table_of}

apart_below : (a b : ℕ) → a ≤ b → ((a ≡ b) → ⊥) → a < b
apart_below a b h other = by (nat_lt a b) refl
  where
    by : (t : Bool) → nat_lt a b ≡ t → a < b
    by true is = ltb-true a b is
    by false is = let above = ltb-false a b is in absurd (other (omega (arith, h, above)))

-- ---- the tables of a class but the one that leads

module _ (mapped : Mapped) (class : ClassId) (placement : Placement) where
  -- from a rank on
  abbrev pub others_from : ℕ → List TableId → List TableId
  others_from rank tables = map joined_table (flat_map (ranked_source mapped class placement) (enumerate_from rank tables))

  one_kept : (rank : ℕ) (table : TableId) → (rank == placement.leading) ≡ false → map joined_table (ranked_source mapped class placement (rank, table)) ≡ table ∷ []
  unfolding ranked_source keyed_source
  one_kept rank table e = ap (λ (b : Bool). map joined_table (if b then [] else keyed_source mapped class placement (rank, table) ∷ [])) e

  one_left : (rank : ℕ) (table : TableId) → (rank == placement.leading) ≡ true → map joined_table (ranked_source mapped class placement (rank, table)) ≡ []
  unfolding ranked_source
  one_left rank table e = ap (λ (b : Bool). map joined_table (if b then [] else keyed_source mapped class placement (rank, table) ∷ [])) e

  next_by : (rank : ℕ) (table : TableId) (tables head : List TableId) → map joined_table (ranked_source mapped class placement (rank, table)) ≡ head → others_from rank (table ∷ tables) ≡ head ++ others_from (rank + 1) tables
  next_by rank table tables head e =
      map-append joined_table (ranked_source mapped class placement (rank, table)) (flat_map (ranked_source mapped class placement) (enumerate_from (rank + 1) tables))
      ∙ ap (λ (xs : List TableId). xs ++ others_from (rank + 1) tables) e

  kept_first : (rank : ℕ) (table : TableId) (tables : List TableId) → (rank == placement.leading) ≡ false → others_from rank (table ∷ tables) ≡ table ∷ others_from (rank + 1) tables
  kept_first rank table tables e = next_by rank table tables (table ∷ []) (one_kept rank table e)

  -- behind the one that leads all of them
  all_behind : (rank : ℕ) (tables : List TableId) → placement.leading < rank → others_from rank tables ≡ tables
  all_behind rank [] h = refl
  all_behind rank (table ∷ tables) h =
      let apart : (rank == placement.leading) ≡ false = ne_eqb rank placement.leading (λ e. omega (arith, h, e)) in
      kept_first rank table tables apart ∙ ap (λ (xs : List TableId). table ∷ xs) (all_behind (rank + 1) tables (omega (arith, h)))

  -- one before it stands at its place
  one_before : (rank : ℕ) (tables : List TableId) (k : ℕ) (table : TableId) → rank + k < placement.leading → slice_get tables k ≡ Some table → slice_get (others_from rank tables) k ≡ Some table
  one_before rank [] k table h e = absurd cc
  one_before rank (first ∷ tables) zero table h e =
      ap (λ (xs : List TableId). slice_get xs 0) (kept_first rank first tables (ne_eqb rank placement.leading (λ same. omega (arith, h, same)))) ∙ e
  one_before rank (first ∷ tables) (suc k) table h e =
      ap (λ (xs : List TableId). slice_get xs (suc k)) (kept_first rank first tables (ne_eqb rank placement.leading (λ same. omega (arith, h, same))))
      ∙ one_before (rank + 1) tables k table (omega (arith, h)) e

  -- one behind it stands a place before its own
  one_behind : (rank : ℕ) (tables : List TableId) (k : ℕ) (table : TableId) → rank ≤ placement.leading → placement.leading < rank + suc k → slice_get tables (suc k) ≡ Some table
      → slice_get (others_from rank tables) k ≡ Some table
  one_behind rank [] k table low high e = absurd cc
  one_behind rank (first ∷ tables) k table low high e = by (rank == placement.leading) refl k high e (λ j. one_behind (rank + 1) tables j table)
    where
      by : (b : Bool) → (rank == placement.leading) ≡ b → (k : ℕ) → placement.leading < rank + suc k → slice_get tables k ≡ Some table
          → ((j : ℕ) → rank + 1 ≤ placement.leading → placement.leading < rank + 1 + suc j → slice_get tables (suc j) ≡ Some table → slice_get (others_from (rank + 1) tables) j ≡ Some table)
          → slice_get (others_from rank (first ∷ tables)) k ≡ Some table
      by true is k high e later =
          let same : rank ≡ placement.leading = eqb-true rank placement.leading is in
          ap (λ (xs : List TableId). slice_get xs k) (next_by rank first tables [] (one_left rank first is) ∙ all_behind (rank + 1) tables (omega (arith, same))) ∙ e
      by false is zero high e later =
          absurd (eqb-false rank placement.leading is (omega (arith, low, high)))
      by false is (suc j) high e later =
          let less : rank < placement.leading = apart_below rank placement.leading low (eqb-false rank placement.leading is) in
          ap (λ (xs : List TableId). slice_get xs (suc j)) (kept_first rank first tables is) ∙ later j (omega (arith, less)) (omega (arith, high)) e

  -- ---- all of them

  -- behind so many sources, first the table that leads
  led : (ahead : List TableId) (lead : TableId) → length ahead ≡ placement.first → slice_get (tables_of mapped class) placement.leading ≡ Some lead
      → (rank : ℕ) (table : TableId) → slice_get (tables_of mapped class) rank ≡ Some table
      → slice_get (ahead ++ lead ∷ others_from 0 (tables_of mapped class)) (place_at_rank placement rank) ≡ Some table
  led ahead lead long first rank table e = by (rank == placement.leading) refl
    where
      all : List TableId
      all = lead ∷ others_from 0 (tables_of mapped class)

      at : (place k : ℕ) → place ≡ length ahead + k → slice_get all k ≡ Some table → slice_get (ahead ++ all) place ≡ Some table
      at place k is found = ap (slice_get (ahead ++ all)) is ∙ get_after ahead all k ∙ found

      higher : (rank : ℕ) → slice_get (tables_of mapped class) rank ≡ Some table → placement.leading < rank → slice_get (ahead ++ all) (placement.first + rank) ≡ Some table
      higher zero e h = absurd (omega (arith, h))
      higher (suc k) e h =
          let none : 0 ≤ placement.leading = omega arith in
          let high : placement.leading < 0 + suc k = omega (arith, h) in
          at (placement.first + suc k) (suc k) (omega (arith, long)) (one_behind 0 (tables_of mapped class) k table none high e)

      apart : (b : Bool) → nat_lt rank placement.leading ≡ b → ((rank ≡ placement.leading) → ⊥)
          → slice_get (ahead ++ all) (if b then (placement.first + 1 + rank) else (placement.first + rank)) ≡ Some table
      apart true is other =
          let less : rank < placement.leading = ltb-true rank placement.leading is in
          let low : 0 + rank < placement.leading = omega (arith, less) in
          at (placement.first + 1 + rank) (suc rank) (omega (arith, long)) (one_before 0 (tables_of mapped class) rank table low e)
      apart false is other =
          let above : placement.leading ≤ rank = ltb-false rank placement.leading is in
          higher rank e (apart_below placement.leading rank above (λ same. other (sym same)))

      by : (b : Bool) → (rank == placement.leading) ≡ b → slice_get (ahead ++ all) (place_at_rank placement rank) ≡ Some table
      by true is =
          let same : rank ≡ placement.leading = eqb-true rank placement.leading is in
          ap (λ (b : Bool). slice_get (ahead ++ all) (if b then placement.first else if nat_lt rank placement.leading then (placement.first + 1 + rank) else (placement.first + rank))) is
          ∙ at placement.first 0 (omega (arith, long)) (sym first ∙ ap (slice_get (tables_of mapped class)) (sym same) ∙ e)
      by false is =
          ap (λ (b : Bool). slice_get (ahead ++ all) (if b then placement.first else if nat_lt rank placement.leading then (placement.first + 1 + rank) else (placement.first + rank))) is
          ∙ apart (nat_lt rank placement.leading) refl (eqb-false rank placement.leading is)

-- ---- the table that a relationship ties

-- a secondary table goes before it
abbrev secondary_by : Relation → Option TableKey → List TableId
secondary_by relation None = []
secondary_by relation (Some far) = relation.foreign.0 ∷ []

many_or_one : (b : Bool) (one other : Further) → map joined_table ((if b then one else other) ∷ []) ≡ (if b then one.table else other.table) ∷ []
many_or_one true one other = refl
many_or_one false one other = refl

tied_tables : (mapped : Mapped) (owner : ClassId) (placement : Placement) (relation : Relation) (sources : ℕ) (end : Option TableKey)
    → map joined_table (tied_by mapped owner placement relation sources end) ≡ secondary_by relation end ++ leading_by mapped relation end ∷ []
tied_tables mapped owner placement relation sources None =
    many_or_one relation.many (referring_source mapped owner placement relation.foreign sources) (referred_source mapped relation.foreign (place_of_table mapped owner placement relation.foreign.0) sources)
tied_tables mapped owner placement relation sources (Some far) = refl

place_behind : (relation : Relation) (before : List TableId) (sources : ℕ) (end : Option TableKey) → length before ≡ sources → length (before ++ secondary_by relation end) ≡ first_behind sources end
place_behind relation before sources None is = let long : length (before ++ []) ≡ length before + 0 = length-append before [] in omega (arith, long, is)
place_behind relation before sources (Some far) is = let long : length (before ++ relation.foreign.0 ∷ []) ≡ length before + 1 = length-append before (relation.foreign.0 ∷ []) in omega (arith, long, is)

-- it is one of the target's
many_inside : (mapped : Mapped) (relation : Relation) (b : Bool)
    → joins mapped.schema.tables (Some (layout_of mapped (if b then relation.target else relation.class))) (Some (layout_of mapped (if b then relation.class else relation.target))) relation.foreign ≡ true
    → Has (tables_of mapped relation.target) (if b then relation.foreign.0 else referred_table mapped relation.foreign)
many_inside mapped relation true h =
    let tables : List TableSpec = mapped.schema.tables in
    let key : TableKey = relation.foreign in
    let own : List TableId = tables_of mapped relation.target in
    let named : Bool = list_all (has_attribute (layout_of mapped relation.target).attributes key.0) (names_of tables key) in
    let split = and_parts (is_among own key.0 && named) (refers_by tables (tables_of mapped relation.class) (foreign_at tables key)) h in
    among_has own key.0 (and_parts (is_among own key.0) named split.0).0
many_inside mapped relation false h =
    let tables : List TableSpec = mapped.schema.tables in
    let key : TableKey = relation.foreign in
    let own : List TableId = tables_of mapped relation.class in
    let named : Bool = list_all (has_attribute (layout_of mapped relation.class).attributes key.0) (names_of tables key) in
    let split = and_parts (is_among own key.0 && named) (refers_by tables (tables_of mapped relation.target) (foreign_at tables key)) h in
    let to = referred mapped key relation.target (foreign_at tables key) refl split.1 in
    subst (Has (tables_of mapped relation.target)) (sym (referred_is mapped key relation.target to)) to.inside

lead_inside : (mapped : Mapped) (relation : Relation) (end : Option TableKey) → has_keys mapped relation end ≡ true → Has (tables_of mapped relation.target) (leading_by mapped relation end)
lead_inside mapped relation None h = many_inside mapped relation relation.many h
lead_inside mapped relation (Some far) h =
    let tables : List TableSpec = mapped.schema.tables in
    let near : TableKey = relation.foreign in
    let whole : Bool = is_all_keys (columns_in tables near.0) (foreigns_in tables near.0) in
    let to_owner : Bool = refers_to_class tables (Some (layout_of mapped relation.class)) near in
    let to_member : Bool = refers_to_class tables (Some (layout_of mapped relation.target)) far in
    let to = referred mapped far relation.target (foreign_at tables far) refl (and_right ((near.0.0 == far.0.0) && whole && to_owner) to_member h) in
    subst (Has (tables_of mapped relation.target)) (sym (referred_is mapped far relation.target to)) to.inside

-- ---- the target

related_tables : (mapped : Mapped) (owner : ClassId) (placement : Placement) (relation : Relation) (sources : ℕ) → map joined_table (related_sources mapped owner placement relation sources)
    ≡ secondary_by relation relation.far ++ leading_table mapped relation ∷ others_from mapped relation.target (target_placement mapped relation sources) 0 (tables_of mapped relation.target)
unfolding related_sources
related_tables mapped owner placement relation sources =
    let others : List TableId = others_from mapped relation.target (target_placement mapped relation sources) 0 (tables_of mapped relation.target) in
    map-append joined_table (tied_by mapped owner placement relation sources relation.far) (other_tables mapped relation.target (target_placement mapped relation sources))
    ∙ ap (λ (xs : List TableId). xs ++ others) (tied_tables mapped owner placement relation sources relation.far)
    ∙ append_assoc (secondary_by relation relation.far) (leading_table mapped relation ∷ []) others

-- behind sources to which the tables of a relationship were added, those of the target stand where its placement says
pub target_stands : (mapped : Mapped) (owner : ClassId) (placement : Placement) (relation : Relation) (before origins : List Origin) (sources : ℕ) → IsRelated mapped relation → length before ≡ sources
    → map table_of origins ≡ map joined_table (related_sources mapped owner placement relation sources)
    → StandsAt mapped relation.target (target_placement mapped relation sources) (before ++ origins)
target_stands mapped owner placement relation before origins sources related counted is = λ rank table e.
    let own : List TableId = tables_of mapped relation.target in
    let lead : TableId = leading_table mapped relation in
    let others : List TableId = others_from mapped relation.target (target_placement mapped relation sources) 0 own in
    let ahead : List TableId = map table_of before ++ secondary_by relation relation.far in
    let long : length (map table_of before) ≡ sources = length-map before table_of ∙ counted in
    let first : slice_get own (rank_of mapped relation.target lead) ≡ Some lead = rank_finds own lead (lead_inside mapped relation relation.far related.keys) in
    let place : ℕ = place_at_rank (target_placement mapped relation sources) rank in
    ap (λ (tables : List TableId). slice_get tables place)
    (map-append table_of before origins ∙ ap (λ (tables : List TableId). map table_of before ++ tables) (is ∙ related_tables mapped owner placement relation sources)
    ∙ sym (append_assoc (map table_of before) (secondary_by relation relation.far) (lead ∷ others)))
    ∙ led mapped relation.target (target_placement mapped relation sources) ahead lead (place_behind relation (map table_of before) sources relation.far long) first rank table e
