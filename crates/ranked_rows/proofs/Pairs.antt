-- What is answered to the select of the members of several collections: behind the owner's key, where there is a secondary table, rows of
-- the target.
use Rattle.std.proofs.Common.{◌≡◌, ◌⊎◌, inl, ◌+◌, ◌<◌, ◌≤◌, List, [], ◌∷◌, ◌++◌, drop, length, map, Option, None, Some, Ok, Err, IfOk, refl, sym, ap, subst, ◌∙◌, append-nil, arith}
use Rattle.std.specs.Prelude.{slice_get}
use Rattle.std.specs.List.{AllByRecursion}
use Rattle.std.proofs.lemmas.List.{length-map, map-append}
use Rattle.base_core.proofs.Lists.{every_append}
use Rattle.base_core.specs.declared.ids.ClassId.{ClassId}
use Rattle.base_core.specs.declared.ids.TableId.{TableId}
use Rattle.base_core.specs.declared.value.Value.{Value}
use Rattle.schema_core.specs.Catalog.{key_columns, spec_of}
use Rattle.schema_core.specs.Tables as held
use Rattle.expr_types.specs.declared.expr.Expr.{Expr}
use Rattle.expr_types.specs.declared.expr.Origin.{Origin}
use Rattle.expr_types.specs.declared.select.Joined.{Joined}
use Rattle.expr_types.specs.declared.select.Select.{Select}
use Rattle.sql_semantics.specs.Checked.{Checked}
use Rattle.sql_semantics.specs.Created.{bare}
use Rattle.sql_semantics.specs.Eval.{Row, Tables, rows_in}
use Rattle.sql_semantics.specs.Plain.{sources_of}
use Rattle.sql_semantics.specs.Rows.{answer}
use Rattle.class_types.specs.declared.mapped.Relation.{Relation}
use Rattle.class_sides.specs.Keys.{TableKey}
use Rattle.class_mapping.specs.Mapped.{IsClass, Mapped, tables_of}
use Rattle.class_mapping.specs.Related.{IsRelated}
use Rattle.class_mapping.proofs.Having.{Has}
use Rattle.mapping_laws.specs.Hierarchies.{HasHierarchies, HasTables, kinds_of}
use Rattle.mapping_laws.proofs.Ties.{class_tables}
use Rattle.load_columns.specs.declared.placing.Placement.{Placement}
use Rattle.load_columns.specs.declared.placing.SourceColumn.{SourceColumn}
use Rattle.load_columns.specs.Conditions.{has_one_of}
use Rattle.load_columns.specs.Placing.{attribute_columns, column_at, columns_at, foreign_numbers, from_root, key_numbers, place_at_rank, referred_table}
use Rattle.load_selects.specs.declared.sources.Further.{Further}
use Rattle.load_selects.specs.Branches.{is_of_branch}
use Rattle.load_selects.specs.Selects.{inner_joined, origin_of}
use Rattle.load_selects.specs.Sources.{leading_table, led_from}
use Rattle.load_batches.specs.Batches.{target_values}
use Rattle.collection_selects.specs.Collections.{batch_by, batch_select, member_sources, owner_columns, pair_columns, pairs_select}
use Rattle.collection_selects.specs.Pairs.{owner_width, owner_width_by}
use Rattle.collection_selects.proofs.Placed.{attributes_there}
use Rattle.collection_selects.proofs.Plain.{AreTied, IsColumn}
use Rattle.collection_selects.proofs.Pairs.Plainness.{IsSecondary, leads, origins, origins_are, owners_typed, secondary_of, stands, tied, typed_there}
use Rattle.table_laws.specs.Legality.{AreSound}
use Rattle.loading_laws.specs.Wide.Answers.{AreBehind, AreOfSources}
use Rattle.loading_laws.specs.Wide.Parts.{cell, cells}
use Rattle.loading_laws.proofs.Members.Choices.{Choice, EachPlaced, Meet, Tie, chosen, joined_where, wide_row}
use Rattle.loading_laws.proofs.Members.Owned.{attribute_ranked, behind_ranked}
use Rattle.loading_laws.proofs.Members.Paired.{cut_front}
use Rattle.loading_laws.proofs.Members.Ranks.{AreRanked, attributes_chosen, from_places, key_in, sources_tied, ties_behind}
use Rattle.loading_laws.proofs.TiedRows.Behind.{cells_chosen, row_at}
use Rattle.loading_laws.proofs.TiedRows.Joined.{contained_has, joins_meet}
use Rattle.load_steps.specs.Based.{IsRowOfTables}
use Rattle.ranked_rows.proofs.Answered.{answered_have}
use Rattle.ranked_rows.proofs.Choices.{held_rows, is_table_row, under_own}
use Rattle.ranked_rows.proofs.Classes.{class_answered, columns_inside, is_single}

module _ (mapped : Mapped) (tables : held.Tables) (sound : AreSound mapped.schema tables) (has : HasHierarchies mapped) (relation : Relation) (related : IsRelated mapped relation) where
  abbrev class : ClassId
  class = relation.target

  abbrev less : IsClass mapped class
  less = related.target

  abbrev IsMember : Row → Type 0
  IsMember row = IsRowOfTables mapped tables class (target_values mapped relation row)

  abbrev AreAnswered : Select → Type 0
  AreAnswered s = IfOk (answer mapped.schema (bare tables) s) (AllByRecursion IsMember)

  known : HasTables mapped class
  known = class_tables mapped class has less

  -- ---- without a secondary table

  module _ (near : relation.far ≡ None) where
    is_whole : (row : Row) → target_values mapped relation row ≡ row
    is_whole row = ap (λ (far : Option TableKey). drop (owner_width_by mapped relation far) row) near

    every_member : (rows : List Row) → AllByRecursion (IsRowOfTables mapped tables class) rows → AllByRecursion IsMember rows
    every_member [] h = tt
    every_member (row ∷ rows) h = (subst (IsRowOfTables mapped tables class) (sym (is_whole row)) h.0, every_member rows h.1)

    each_member : (r : Checked (List Row)) → IfOk r (AllByRecursion (IsRowOfTables mapped tables class)) → IfOk r (AllByRecursion IsMember)
    each_member (Ok rows) h = every_member rows h
    each_member (Err e) h = tt

    of_batch : (keys : List (List Value)) → AreAnswered (batch_by mapped relation keys None)
    of_batch keys =
        each_member (answer mapped.schema (bare tables) (batch_by mapped relation keys None)) (class_answered mapped tables sound has class less (has_one_of (owner_columns mapped relation) keys))

  -- ---- with one

  module _ (far : TableKey) (over : relation.far ≡ Some far) where
    keys_of : IsSecondary mapped relation far
    keys_of = secondary_of mapped relation far related over

    abbrev second : TableId
    second = relation.foreign.0

    abbrev lead : TableId
    lead = leading_table mapped relation

    abbrev behind : Placement
    behind = led_from mapped relation 1

    abbrev own : List TableId
    own = tables_of mapped class

    abbrev near_columns : List SourceColumn
    near_columns = pair_columns mapped relation 0

    abbrev columns : List SourceColumn
    columns = near_columns ++ attribute_columns mapped class behind

    lead_there : slice_get own behind.leading ≡ Some lead
    lead_there = leads mapped relation far has related over keys_of

    abbrev lead_tie : Tie
    lead_tie = record { table = lead; ones = columns_at 1 (key_numbers mapped (referred_table mapped far)); others = columns_at 0 (foreign_numbers mapped far) }

    abbrev ties : List Tie
    ties = lead_tie ∷ ties_behind mapped class behind 0 own

    members_tied : member_sources mapped relation far ≡ map joined_where ties
    members_tied = ap (λ (more : List Further). joined_where lead_tie ∷ more) (sources_tied mapped class behind 0 own)

    all_tied : AreTied mapped.schema (origin_of second ∷ []) (map joined_where ties)
    all_tied = subst (AreTied mapped.schema (origin_of second ∷ [])) members_tied (tied mapped relation far has related over keys_of)

    -- the rows of the target's tables among those of the sources
    module _ (pair : Row) (others : List Row) (head : Has (rows_in (bare tables) second.0) pair) (joined : AreBehind mapped.schema (bare tables) (pair ∷ []) (map inner_joined (member_sources mapped relation far)) others) where
      abbrev choice : Choice
      choice = row_at (pair ∷ others)

      abbrev by_rank : Choice
      by_rank = λ rank. choice (place_at_rank behind rank)

      abbrev key : List Value
      key = key_in mapped class by_rank behind.leading

      joined_so : AreBehind mapped.schema (bare tables) (pair ∷ []) (map inner_joined (map joined_where ties) ++ []) others
      joined_so =
          subst (λ (joins : List Joined). AreBehind mapped.schema (bare tables) (pair ∷ []) joins others) (sym (append-nil (map inner_joined (map joined_where ties))))
          (subst (λ (further : List Further). AreBehind mapped.schema (bare tables) (pair ∷ []) (map inner_joined further) others) members_tied joined)

      meets : EachPlaced (Meet (bare tables) choice) 1 ties
      meets = joins_meet mapped class (bare tables) (held_rows mapped tables sound) ties (origin_of second ∷ []) (pair ∷ []) others [] all_tied (wide_row mapped.schema (bare tables) second pair (held_rows mapped tables sound) head, tt) joined_so

      before : ((2 ≡ 1 + 1 + 0) × (0 ≤ behind.leading)) ⊎ ((2 ≡ 1 + 0) × (behind.leading < 0))
      before = inl (omega arith, omega arith)

      all_ranked : AreRanked mapped class (bare tables) by_rank key
      all_ranked = behind_ranked mapped class known behind lead lead_there (bare tables) choice meets.0.0 (from_places mapped class behind (Meet (bare tables) choice) own 0 2 before meets.1)

      abbrev front : Row
      front = map (cell (pair ∷ others)) near_columns

      abbrev values : Row
      values = map (chosen by_rank) (attribute_columns mapped class (from_root 0))

      values_are : cells columns (pair ∷ others) ≡ front ++ values
      values_are =
          map-append (cell (pair ∷ others)) near_columns (attribute_columns mapped class behind)
          ∙ ap (λ (rest : Row). front ++ rest)
          (cells_chosen (pair ∷ others) (attribute_columns mapped class behind) ∙ attributes_chosen mapped class behind choice by_rank (λ rank table here. refl) (attribute_ranked mapped class))

      front_long : length front ≡ owner_width mapped relation
      front_long =
          length-map near_columns (cell (pair ∷ others)) ∙ length-map (foreign_numbers mapped relation.foreign) (column_at 0) ∙ sym (ap (owner_width_by mapped relation) over)

      is_member : IsMember (cells columns (pair ∷ others))
      is_member =
          let target : target_values mapped relation (cells columns (pair ∷ others)) ≡ values ++ [] =
          ap (target_values mapped relation) values_are ∙ (cut_front front values (owner_width mapped relation) front_long).1 ∙ sym (append-nil values) in
          subst (IsRowOfTables mapped tables class) (sym target) (is_table_row mapped tables sound has class less (values ++ []) (under_own mapped class (bare tables) has known by_rank key [] all_ranked))

    sourced_member : (conditions : List Expr) (rows : List Row) → AreOfSources mapped.schema (bare tables) (pairs_select mapped relation far conditions) rows → IsMember (cells columns rows)
    sourced_member conditions [] sourced = absurd sourced.together
    sourced_member conditions (pair ∷ others) sourced = is_member pair others (contained_has (rows_in (bare tables) second.0) pair sourced.together.0) sourced.together.1

    -- the columns are those of the sources
    within : (conditions : List Expr) → AllByRecursion (IsColumn mapped.schema (sources_of (pairs_select mapped relation far conditions))) columns
    within conditions =
        let from : List Origin = origins mapped relation far has related over keys_of in
        subst (λ (under : List Origin). AllByRecursion (IsColumn mapped.schema under) columns) (sym (origins_are mapped relation far has related over keys_of conditions))
        (every_append (IsColumn mapped.schema from) near_columns (attribute_columns mapped class behind)
        (typed_there mapped.schema from near_columns (kinds_of (key_columns (spec_of mapped.schema keys_of.owner.table))) (owners_typed mapped relation far has related over keys_of))
        (attributes_there mapped class has less known behind from (stands mapped relation far has related over keys_of)))

    pairs_answered : (conditions : List Expr) → AreAnswered (pairs_select mapped relation far conditions)
    pairs_answered conditions =
        answered_have mapped.schema (bare tables) (held_rows mapped tables sound) (pairs_select mapped relation far conditions) columns refl (is_single second (member_sources mapped relation far) columns (conditions ++ is_of_branch mapped class behind))
        (columns_inside mapped.schema (sources_of (pairs_select mapped relation far conditions)) columns (within conditions)) IsMember (sourced_member conditions)

  -- ---- both

  pub batches : (keys : List (List Value)) → AreAnswered (batch_select mapped relation keys)
  unfolding batch_select
  batches keys = by relation.far refl
    where
      by : (end : Option TableKey) → relation.far ≡ end → AreAnswered (batch_by mapped relation keys end)
      by None is = of_batch is keys
      by (Some far) is = pairs_answered far is (has_one_of (pair_columns mapped relation 0) keys)
