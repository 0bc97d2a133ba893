-- What the rows of a query's main select have of its class and of each joined option: rows of the class, and of the option's target.
use Rattle.std.proofs.Common.{◌≡◌, ◌⊎◌, inl, inr, ℕ, ◌+◌, ◌<◌, true, List, [], ◌∷◌, ◌++◌, length, map, take, Ok, Err, IfOk, refl, sym, ap, subst, ◌∙◌}
use Rattle.std.specs.List.{AllByRecursion, flat_map}
use Rattle.std.proofs.lemmas.Bool.{and_parts}
use Rattle.std.proofs.lemmas.List.{length-map}
use Rattle.std.proofs.lemmas.List.Elements.{recursion_from_All}
use Rattle.base_core.specs.declared.ids.ClassId.{ClassId}
use Rattle.base_core.specs.declared.ids.RelNo.{RelNo}
use Rattle.schema_core.specs.Tables as held
use Rattle.expr_types.specs.declared.expr.Origin.{Origin}
use Rattle.expr_types.specs.declared.select.ObjectQuery.{ObjectQuery}
use Rattle.expr_types.specs.declared.select.Select.{Select}
use Rattle.sql_semantics.specs.Checked.{Checked}
use Rattle.sql_semantics.specs.Created.{bare}
use Rattle.sql_semantics.specs.Eval.{Row, Tables}
use Rattle.sql_semantics.specs.Plain.{sources_of}
use Rattle.sql_semantics.specs.Rows.{answer}
use Rattle.sql_semantics.specs.Shapes.{AreLegalRows, AreRows}
use Rattle.class_types.specs.declared.mapped.Relation.{Relation}
use Rattle.class_mapping.specs.Mapped.{IsClass, Mapped, attributes_of, relations_of}
use Rattle.class_mapping.specs.Related.{AreRelated}
use Rattle.class_mapping.proofs.Having.{Has, all_from, from_map}
use Rattle.mapping_laws.specs.Hierarchies.{HasHierarchies}
use Rattle.mapping_laws.proofs.Ties.{class_tables}
use Rattle.object_arena.specs.Fit.{relation_of}
use Rattle.load_columns.specs.declared.placing.Placement.{Placement}
use Rattle.load_columns.specs.declared.placing.SourceColumn.{SourceColumn}
use Rattle.load_columns.specs.Placing.{attribute_column, attribute_columns, from_root}
use Rattle.load_selects.specs.Sources.{target_placement}
use Rattle.load_filling.specs.Rows.{row_key, value_in}
use Rattle.load_targets.specs.ForeignKeys.{foreign_attrs}
use Rattle.main_selects.specs.MainSelect.{further_keys, main_select, option_sources}
use Rattle.joined_rows.specs.declared.parts.Part.{Part}
use Rattle.joined_rows.specs.Parts.{part_at, parts_from, parts_of, values_from, width_of}
use Rattle.joined_rows.specs.Taking.{are_given, has_target}
use Rattle.table_laws.specs.Legality.{AreSound}
use Rattle.load_steps.specs.Rows.{IsJoinedOf}
use Rattle.loading_laws.specs.TiedRows.{KeyReader}
use Rattle.loading_laws.specs.Wide.Answers.{AreAnswered, AreOfSources, joined_row, joined_rows, options_columns, options_sources, own_columns, query_partners}
use Rattle.loading_laws.specs.Wide.Parts.{cell, cells}
use Rattle.loading_laws.specs.Wide.Partners.{partners}
use Rattle.loading_laws.proofs.Loading.Inherited.{reads_keys}
use Rattle.loading_laws.proofs.Members.Choices.{Choice, chosen, every_has}
use Rattle.loading_laws.proofs.Members.Ranks.{key_in}
use Rattle.loading_laws.proofs.TiedRows.Behind.{row_at}
use Rattle.loading_laws.proofs.TiedRows.Joined.{owner_there, stands_first}
use Rattle.loading_laws.proofs.TiedRows.Options.{behind, behind_long, columns, first_more, next_owner, option_at, out_is, out_next, part_target, part_values, prefix_long, split}
use Rattle.loading_laws.proofs.TiedRows.Owners.{IsOwner, StandsFirst}
use Rattle.loading_laws.proofs.TiedRows.Partnered.{member_at, member_ranked, target_there}
use Rattle.loading_laws.proofs.TiedRows.Ranked.{HasTarget, IsOption, by_rank}
use Rattle.loading_laws.proofs.Wide.Blocks.{answered_created, joined_own}
use Rattle.loading_laws.proofs.Wide.Lefts.{every_flat}
use Rattle.loading_laws.proofs.Wide.Main.{HasColumns, main_multiplies}
use Rattle.load_steps.specs.Based.{IsRowOfTables}
use Rattle.known_queries.specs.Known.{ReadsJoined}
use Rattle.ranked_rows.proofs.Answered.{left_have}
use Rattle.ranked_rows.proofs.Choices.{all_legal, held_rows, is_table_row, under_own}
use Rattle.ranked_rows.proofs.Classes.{sourced_row}
use Rattle.ranked_rows.proofs.Columns.{main_inside, own_inside}

-- what a row has of a foreign key
abbrev read : Mapped → KeyReader
read mapped class relation row = map (value_in row) (foreign_attrs mapped class relation)

-- ---- the option at a place

module _ (mapped : Mapped) (tables : held.Tables) (sound : AreSound mapped.schema tables) (has : HasHierarchies mapped) (related : AreRelated mapped) (class : ClassId) (own : Row) where
  abbrev listed : Tables
  listed = bare tables

  held_are : AreRows mapped.schema listed
  held_are = held_rows mapped tables sound

  legal_are : AreLegalRows mapped.schema listed
  legal_are = all_legal mapped tables sound

  abbrev IsPlace : RelNo → Type 0
  IsPlace place = place.0 < length (relations_of mapped class)

  -- what options read behind others
  abbrev read_all : List RelNo → ℕ → List Row → Row → Row
  read_all places count rows prefix = prefix ++ cells (options_columns mapped class count places) rows

  abbrev AreBehind : List RelNo → ℕ → List Row → List Row → Type 0
  AreBehind places count rows more = Has (partners mapped.schema listed (options_sources mapped class count places) rows) more

  module _ (place : RelNo) (inside : IsPlace place) (places : List RelNo) (first : List Origin) (rows : List Row) (n : ℕ) (at_first : StandsFirst mapped class first) (owner : IsOwner mapped class first listed own rows) where
    abbrev relation : Relation
    relation = relation_of mapped class place

    abbrev target : ClassId
    target = relation.target

    abbrev placement : Placement
    placement = target_placement mapped relation (length first)

    abbrev part_here : Part
    part_here = part_at mapped class place n

    abbrev next : ℕ
    next = length first + length (option_sources mapped class relation (length first))

    abbrev IsPartner : List Row → Type 0
    IsPartner now = Has (partners mapped.schema listed (option_sources mapped class relation (length first)) rows) now

    option : IsOption mapped class relation first
    option = option_at mapped (read mapped) class listed own related held_are legal_are (reads_keys mapped has) place inside first at_first

    abbrev attributes : List SourceColumn
    attributes = attribute_columns mapped target placement

    abbrev keys : List SourceColumn
    keys = further_keys mapped target placement

    -- a row of the option's target stands where the keys are given
    head_held : (now : List Row) → IsPartner now → (prefix : Row) → length prefix ≡ n → (others : List Row) → has_target mapped part_here (read_all (place ∷ places) (length first) (rows ++ (now ++ others)) prefix) ≡ true
        → IsRowOfTables mapped tables target (values_from part_here (read_all (place ∷ places) (length first) (rows ++ (now ++ others)) prefix))
    head_held now there prefix long others =
        let rest : Row = cells (options_columns mapped class next places) ((rows ++ now) ++ others) in
        subst (λ (out : Row). has_target mapped part_here out ≡ true → IsRowOfTables mapped tables target (values_from part_here out))
        (sym (out_is mapped (read mapped) class listed own related held_are legal_are (reads_keys mapped has) place inside places first rows n at_first owner now there prefix others)) (λ passes.
        let given = sym (part_target mapped class relation first listed option held_are rows owner.wide now there place n prefix rest long others) ∙ passes in
        let parts = and_parts (are_given (row_key mapped target (member_at mapped class relation first listed option held_are (rows ++ now)))) (are_given (cells keys (rows ++ now))) given in
        let choice : Choice = row_at (rows ++ now) in
        let ranks : Choice = by_rank mapped class relation first listed option choice in
        let there_is : HasTarget mapped class relation first listed option choice = target_there mapped class relation first listed option held_are rows owner.wide now there parts in
        let less : IsClass mapped target = option.related.target in
        let behind_it : Row = cells keys (rows ++ now) ++ rest in
        let values : Row = map (chosen ranks) (attribute_columns mapped target (from_root 0)) in
        let is = part_values mapped class relation first listed option held_are rows owner.wide now there place n prefix rest long others
        ∙ ap (λ (front : Row). front ++ behind_it) (member_ranked mapped class relation first listed option held_are rows owner.wide now) in
        subst (IsRowOfTables mapped tables target) (sym is)
        (is_table_row mapped tables sound has target less (values ++ behind_it)
        (under_own mapped target listed has (class_tables mapped target has less) ranks (key_in mapped target ranks placement.leading) behind_it there_is.ranked)))

  -- ---- each option among others

  pub parts_held : (places : List RelNo) → AllByRecursion IsPlace places → (first : List Origin) (rows : List Row) (n : ℕ) → StandsFirst mapped class first → IsOwner mapped class first listed own rows
      → (part : Part) → Has (parts_from mapped class n places) part → (prefix : Row) → length prefix ≡ n → (more : List Row) → AreBehind places (length first) rows more
      → has_target mapped part (read_all places (length first) (rows ++ more) prefix) ≡ true → IsRowOfTables mapped tables part.target (values_from part (read_all places (length first) (rows ++ more) prefix))
  parts_held [] inside first rows n at_first owner part there prefix long more among passes = absurd there
  parts_held (place ∷ places) inside first rows n at_first owner part there prefix long more among passes =
      subst (λ (found : List Row). Holds found) one.2.2
      (by there (λ later passes_it.
      let read_now : Row = cells (columns mapped (read mapped) class listed own related held_are legal_are (reads_keys mapped has) place inside.0 places first rows n at_first owner) ((rows ++ now) ++ others) in
      let out = out_next mapped (read mapped) class listed own related held_are legal_are (reads_keys mapped has) place inside.0 places first rows n at_first owner now one.1 prefix others in
      let next_is = behind_long mapped (read mapped) class listed own related held_are legal_are (reads_keys mapped has) place inside.0 places first rows n at_first owner in
      subst (λ (row : Row). IsRowOfTables mapped tables part.target (values_from part row)) (sym out)
      (parts_held places inside.1 (behind mapped (read mapped) class listed own related held_are legal_are (reads_keys mapped has) place inside.0 places first rows n at_first owner) (rows ++ now) (part_at mapped class place n).end
      (first_more mapped (read mapped) class listed own related held_are legal_are (reads_keys mapped has) first _ at_first)
      (next_owner mapped (read mapped) class listed own related held_are legal_are (reads_keys mapped has) place inside.0 places first rows n at_first owner now one.1) part later (prefix ++ read_now)
      (prefix_long mapped (read mapped) class listed own related held_are legal_are (reads_keys mapped has) place inside.0 places first rows n at_first owner now one.1 prefix ((rows ++ now) ++ others) long) others
      (subst (λ (count : ℕ). AreBehind places count (rows ++ now) others) (sym next_is) one.2.1)
      (ap (has_target mapped part) (sym out) ∙ passes_it)))) passes
    where
      Holds : List Row → Type 0
      Holds found =
          has_target mapped part (read_all (place ∷ places) (length first) (rows ++ found) prefix) ≡ true → IsRowOfTables mapped tables part.target (values_from part (read_all (place ∷ places) (length first) (rows ++ found) prefix))

      one : (now : List Row) × Has (partners mapped.schema listed (option_sources mapped class (relation_of mapped class place) (length first)) rows) now
          × ((others : List Row) × AreBehind places (length first + length (option_sources mapped class (relation_of mapped class place) (length first))) (rows ++ now) others × (now ++ others ≡ more))
      one = split mapped (read mapped) class listed own related held_are legal_are (reads_keys mapped has) place inside.0 places first rows n at_first owner more among

      now : List Row
      now = one.0

      others : List Row
      others = one.2.0

      by : (part_at mapped class place n ≡ part) ⊎ Has (parts_from mapped class (part_at mapped class place n).end places) part → (Has (parts_from mapped class (part_at mapped class place n).end places) part → Holds (now ++ others)) → Holds (now ++ others)
      by (inr later) tail = tail later
      by (inl e) tail =
          subst (λ (found : Part). has_target mapped found (read_all (place ∷ places) (length first) (rows ++ (now ++ others)) prefix) ≡ true → IsRowOfTables mapped tables found.target (values_from found (read_all (place ∷ places) (length first) (rows ++ (now ++ others)) prefix))) e
          (head_held place inside.0 places first rows n at_first owner now one.1 prefix long others)

-- ---- a query

module _ (mapped : Mapped) (tables : held.Tables) (sound : AreSound mapped.schema tables) (has : HasHierarchies mapped) (related : AreRelated mapped) (query : ObjectQuery) (is : ReadsJoined mapped query) where
  abbrev class_of_query : ClassId
  class_of_query = query.class

  abbrev s : Select
  s = query.select

  abbrev parts : List Part
  parts = parts_of mapped query.class query.joined

  abbrev IsJoined : Row → Type 0
  IsJoined row = IsJoinedOf mapped (IsRowOfTables mapped tables) query.class parts row

  -- the rows that come of rows of its own sources
  rows_joined : (rows : List Row) → AreOfSources mapped.schema (bare tables) s rows → AllByRecursion IsJoined (joined_rows mapped (bare tables) query rows)
  unfolding parts_of
  rows_joined rows sourced =
      let own : Row = cells (own_columns mapped query) rows in
      let held = held_rows mapped tables sound in
      let legal = all_legal mapped tables sound in
      let places = recursion_from_All (λ (place : RelNo). place.0 < length (relations_of mapped query.class)) query.joined is.places in
      let first = stands_first mapped query.class (bare tables) s has is.own.class held legal is.own.begins in
      let owner = owner_there mapped query.class (bare tables) s has is.own.class held legal is.own.begins rows sourced in
      let long : length own ≡ width_of mapped query.class = length-map (own_columns mapped query) (cell rows) ∙ length-map (attributes_of mapped query.class) (attribute_column mapped query.class (from_root 0)) in
      let begin = joined_own mapped (bare tables) query rows in
      all_from IsJoined (joined_rows mapped (bare tables) query rows) (λ row there.
      let made = from_map (joined_row mapped query rows) (query_partners mapped (bare tables) query rows) row there in
      record {
        own =
            subst (IsRowOfTables mapped tables query.class) (sym (every_has (λ (one : Row). take (length (attributes_of mapped query.class)) one ≡ own) (joined_rows mapped (bare tables) query rows) row begin there))
            (sourced_row mapped tables sound has query.class is.own.class s is.own.begins rows sourced);
        options =
            all_from (λ (part : Part). has_target mapped part row ≡ true → IsRowOfTables mapped tables part.target (values_from part row)) (parts_of mapped query.class query.joined) (λ part among.
            subst (λ (one : Row). has_target mapped part one ≡ true → IsRowOfTables mapped tables part.target (values_from part one)) made.2
            (parts_held mapped tables sound has related query.class own query.joined places (sources_of s) rows (width_of mapped query.class) first owner part among own long made.0 made.1));
      })

  -- what is answered to its main select
  pub joined_answered : IfOk (answer mapped.schema (bare tables) (main_select mapped query)) (AllByRecursion IsJoined)
  joined_answered = by (answer mapped.schema (bare tables) (main_select mapped query)) refl
    where
      of_both : (rows : List Row) (q : Checked (List Row)) → AreAnswered mapped (bare tables) query q (Ok rows) → AllByRecursion IsJoined rows
      of_both rows (Ok owners) both =
          subst (AllByRecursion IsJoined) (sym both.joined_are)
          (left_have IsJoined s (flat_map (joined_rows mapped (bare tables) query) both.from)
          (every_flat (AreOfSources mapped.schema (bare tables) s) IsJoined (joined_rows mapped (bare tables) query) rows_joined both.from both.sourced))
      of_both rows (Err e) both = absurd both

      by : (r : Checked (List Row)) → answer mapped.schema (bare tables) (main_select mapped query) ≡ r → IfOk r (AllByRecursion IsJoined)
      by (Ok rows) told =
          let first = stands_first mapped query.class (bare tables) s has is.own.class (held_rows mapped tables sound) (all_legal mapped tables sound) is.own.begins in
          let can : HasColumns mapped (bare tables) query = record {
            reads = is.own.reads;
            single = is.own.single;
            own = own_inside mapped query has related is first.stands;
            finds = is.finds;
            main = main_inside mapped query has related is first.stands;
            held = held_rows mapped tables sound;
            created = answered_created mapped.schema (bare tables) (main_select mapped query) rows told;
          } in
          of_both rows (answer mapped.schema (bare tables) s) (subst (λ (r : Checked (List Row)). AreAnswered mapped (bare tables) query (answer mapped.schema (bare tables) s) r) told (main_multiplies mapped (bare tables) query can))
      by (Err e) told = tt
