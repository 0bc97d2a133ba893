-- The partners of an owner's rows behind an option: those that have a target have a row of it, and each row that is tied has one.
use Rattle.std.proofs.Common.{◌≡◌, ◌⊎◌, inl, inr, ℕ, ◌+◌, ◌-◌, ◌<◌, ◌≤◌, ◌==◌, nat_lt, Bool, true, false, List, ◌++◌, length, map, Some, refl, sym, ap, subst, ◌∙◌, arith}
use Rattle.std.specs.Prelude.{slice_get}
use Rattle.std.proofs.lemmas.Bool.{eqb-false, eqb-true, ltb-false, ltb-true}
use Rattle.std.proofs.lemmas.List.{length-append, length-map}
use Rattle.std.proofs.lemmas.Option.{slice_get_within}
use Rattle.base_core.specs.declared.ids.ClassId.{ClassId}
use Rattle.base_core.specs.declared.ids.TableId.{TableId}
use Rattle.base_core.specs.declared.value.Value.{Value}
use Rattle.schema_core.specs.Tables.{has_null}
use Rattle.expr_types.specs.declared.expr.Origin.{Origin}
use Rattle.sql_semantics.specs.Eval.{Row, Tables}
use Rattle.sql_semantics.specs.Shapes.{AreRows}
use Rattle.class_types.specs.declared.mapped.Relation.{Relation}
use Rattle.class_mapping.specs.Mapped.{Mapped, tables_of}
use Rattle.class_mapping.proofs.Having.{Has}
use Rattle.load_columns.specs.declared.placing.Placement.{Placement}
use Rattle.load_columns.specs.Placing.{attribute_columns, from_root, place_at_rank}
use Rattle.load_selects.specs.declared.sources.Further.{Further}
use Rattle.load_selects.specs.Sources.{leading_table, target_placement}
use Rattle.load_filling.specs.Rows.{row_key}
use Rattle.main_selects.specs.MainSelect.{further_keys, option_sources}
use Rattle.joined_rows.proofs.Widening.{table_of}
use Rattle.loading_laws.proofs.MainSelects.Tied.{option_tied}
use Rattle.joined_rows.specs.Taking.{are_given}
use Rattle.loading_laws.specs.Answers.Equal.{equals_key}
use Rattle.loading_laws.proofs.Members.Choices.{Choice, EachPlaced, Tie, chosen}
use Rattle.loading_laws.proofs.Members.Owned.{own_test}
use Rattle.loading_laws.proofs.Members.Ranks.{AreRanked, count_behind, high_place, key_in, lead_place, low_place}
use Rattle.loading_laws.specs.Wide.Parts.{cell}
use Rattle.loading_laws.specs.Wide.Partners.{partners}
use Rattle.loading_laws.specs.Wide.Answers.{AreWideIn}
use Rattle.loading_laws.proofs.Wide.Places.{wide_long}
use Rattle.loading_laws.proofs.TiedRows.Behind.{AreAlike, AreFit, Met, MetOrNull, cells_chosen, partner_placed, placed_partner, row_at, taken, test_at}
use Rattle.loading_laws.proofs.TiedRows.Ranked.{AreKnown, HasTarget, IsOption, attributes_read, by_rank, keys_known, known_keys, leads, target_of, target_placed}
use Rattle.loading_laws.proofs.TiedRows.Sources.{first_ties, lead_tie, option_fits, option_ties, other_ties, others_before, second_ties, sources_are}

module _ (mapped : Mapped) (class : ClassId) (relation : Relation) (first : List Origin) (tables : Tables) (option : IsOption mapped class relation first) (held : AreRows mapped.schema tables) where
  abbrev count : ℕ
  count = length first

  abbrev target : ClassId
  target = relation.target

  abbrev own : List TableId
  own = tables_of mapped target

  abbrev placement : Placement
  placement = target_placement mapped relation count

  abbrev more : List Further
  more = option_sources mapped class relation count

  abbrev ties : List Tie
  ties = option_ties mapped class relation count

  abbrev IsMet : Choice → ℕ → Tie → Type 0
  IsMet choice = Met mapped target placement tables choice

  fits : AreFit mapped target placement (map table_of first) ties
  fits = option_fits mapped class relation count first (option_tied mapped class relation first option.has option.related option.above option.stands)

  -- what rows with a partner have of the target
  abbrev pub member_at : List Row → Row
  member_at rows = map (cell rows) (attribute_columns mapped target placement)

  -- they have one: none of the keys is NULL
  abbrev pub HasMember : List Row → Type 0
  HasMember rows = (are_given (row_key mapped target (member_at rows)) ≡ true) × (are_given (map (cell rows) (further_keys mapped target placement)) ≡ true)

  member_read : (rows : List Row) (ranks : Choice) → ((rank : ℕ) (table : TableId) → slice_get own rank ≡ Some table → row_at rows (place_at_rank placement rank) ≡ ranks rank)
      → member_at rows ≡ map (chosen ranks) (attribute_columns mapped target (from_root 0))
  member_read rows ranks at = cells_chosen rows (attribute_columns mapped target placement) ∙ attributes_read mapped class relation first tables option (row_at rows) ranks at

  module _ (rows : List Row) (wide : AreWideIn mapped.schema (map table_of first) rows) where
    long : length rows ≡ count
    long = wide_long mapped.schema (map table_of first) rows wide ∙ length-map first table_of

    -- ---- from partners to rows

    pub partner_wide : (now : List Row) → Has (partners mapped.schema tables more rows) now → AreWideIn mapped.schema (map table_of first ++ map (λ (tie : Tie). tie.table) ties) (rows ++ now)
    partner_wide now there =
        (partner_placed mapped target placement tables held ties (map table_of first) rows now wide fits (subst (λ (found : List Further). Has (partners mapped.schema tables found rows) now) (sources_are mapped class relation count) there)).1

    -- a partner with a target is a row of each of its tables under one key
    pub target_there : (now : List Row) → Has (partners mapped.schema tables more rows) now → HasMember (rows ++ now) → HasTarget mapped class relation first tables option (row_at (rows ++ now))
    target_there now there given =
        let choice : Choice = row_at (rows ++ now) in
        let placed = partner_placed mapped target placement tables held ties (map table_of first) rows now wide fits (subst (λ (found : List Further). Has (partners mapped.schema tables found rows) now) (sources_are mapped class relation count) there) in
        target_of mapped class relation first tables option choice (subst (λ (n : ℕ). EachPlaced (MetOrNull mapped target placement tables choice) n ties) long placed.0)
        (keys_known mapped class relation first tables option choice (ap (λ (values : Row). are_given (row_key mapped target values)) (sym (cells_chosen (rows ++ now) (attribute_columns mapped target placement))) ∙ given.0)
        (ap are_given (sym (cells_chosen (rows ++ now) (further_keys mapped target placement))) ∙ given.1))

    -- and what it has of the target is that row
    pub member_ranked : (now : List Row) → member_at (rows ++ now) ≡ map (chosen (by_rank mapped class relation first tables option (row_at (rows ++ now)))) (attribute_columns mapped target (from_root 0))
    member_ranked now = member_read (rows ++ now) (by_rank mapped class relation first tables option (row_at (rows ++ now))) (λ rank table here. refl)

    -- ---- from rows to partners

    -- each table of the target stands among the option's sources
    pub place_below : (rank : ℕ) (table : TableId) → slice_get own rank ≡ Some table → place_at_rank placement rank < count + length ties
    place_below rank table here =
        let sum = length-append (first_ties mapped class relation count) (other_ties mapped class relation count) in
        let less = slice_get_within own rank table here in
        let lead_less = slice_get_within own placement.leading (leading_table mapped relation) (leads mapped class relation first tables option) in
        by (rank == placement.leading) (nat_lt rank placement.leading) refl refl (end_by less lead_less sum (count_behind mapped target placement own 0 (count + length (first_ties mapped class relation count)) (others_before mapped class relation count))) less
      where
        end_by : rank < length own → placement.leading < length own → length ties ≡ length (first_ties mapped class relation count) + length (other_ties mapped class relation count)
            → ((count + length (first_ties mapped class relation count) + length (other_ties mapped class relation count) ≡ placement.first + 1 + (0 + length own)) × (0 + length own ≤ placement.leading))
            ⊎ ((count + length (first_ties mapped class relation count) + length (other_ties mapped class relation count) ≡ placement.first + (0 + length own)) × (placement.leading < 0 + length own))
            → count + length ties ≡ placement.first + length own
        end_by less lead_less sum (inl c) = absurd (let never = c.1 in omega (arith, never, lead_less))
        end_by less lead_less sum (inr c) = let e = c.0 in omega (arith, e, sum)

        by : (b c : Bool) → (rank == placement.leading) ≡ b → nat_lt rank placement.leading ≡ c → count + length ties ≡ placement.first + length own → rank < length own → place_at_rank placement rank < count + length ties
        by true c p q end less = let e = lead_place mapped target placement rank (eqb-true rank placement.leading p) in omega (arith, e, end, less)
        by false true p q end less =
            let e = low_place mapped target placement rank (ltb-true rank placement.leading q) in
            let low = ltb-true rank placement.leading q in
            let lead_less = slice_get_within own placement.leading (leading_table mapped relation) (leads mapped class relation first tables option) in
            omega (arith, e, end, low, lead_less)
        by false false p q end less =
            let apart = eqb-false rank placement.leading p in
            let most = ltb-false rank placement.leading q in
            let e = high_place mapped target placement rank (omega (arith, apart, most)) in
            omega (arith, e, end, less)

    -- a partner that has a row of the target
    pub record IsFound (row : Row) : Type 0 where
      pub now : List Row
      pub there : Has (partners mapped.schema tables more rows) now
      pub is : member_at (rows ++ now) ≡ row
      pub has : HasMember (rows ++ now)

    -- a choice of a row of each table under one key, tied to the owner's, is one
    pub row_found : (choice ranks : Choice) (key : List Value) → AreRanked mapped target tables ranks key → has_null key ≡ false → own_test mapped target (chosen ranks) ≡ true
        → ((rank : ℕ) (table : TableId) → slice_get own rank ≡ Some table → choice (place_at_rank placement rank) ≡ ranks rank) → AreAlike (length rows) (row_at rows) choice
        → ((branch : (table : TableId) → test_at mapped target placement (chosen choice) table ≡ true) → EachPlaced (IsMet choice) count (second_ties mapped class relation count relation.far))
        → equals_key (map (chosen choice) (lead_tie mapped class relation count relation.far).ones) (map (chosen choice) (lead_tie mapped class relation count relation.far).others) ≡ true
        → IsFound (map (chosen ranks) (attribute_columns mapped target (from_root 0)))
    row_found choice ranks key ranked given passes at alike second tied =
        let placed = target_placed mapped class relation first tables option choice ranks key ranked given passes at second tied in
        let met : EachPlaced (IsMet choice) (length rows) ties = subst (λ (n : ℕ). EachPlaced (IsMet choice) n ties) (sym long) placed in
        let found = placed_partner mapped target placement tables held choice ties (map table_of first) rows wide fits alike met in
        let now : List Row = taken mapped target placement choice (length rows) (length ties) in
        let at_now : (rank : ℕ) (table : TableId) → slice_get own rank ≡ Some table → row_at (rows ++ now) (place_at_rank placement rank) ≡ ranks rank = λ rank table here.
        let below = place_below rank table here in
        let counted = long in
        found.1 (place_at_rank placement rank) (omega (arith, below, counted)) ∙ at rank table here in
        let key_of : Row → ℕ → List Value = λ row rank. key_in mapped target (λ k. row) rank in
        let are_known : AreKnown mapped class relation first tables option (row_at (rows ++ now)) = λ rank table here.
        ap (λ (row : Row). has_null (key_of row rank)) (at_now rank table here) ∙ ap has_null (ranked.keys rank table here) ∙ given in
        let keys = known_keys mapped class relation first tables option (row_at (rows ++ now)) are_known in
        record {
          now = now;
          there = subst (λ (found : List Further). Has (partners mapped.schema tables found rows) now) (sym (sources_are mapped class relation count)) found.0;
          is = member_read (rows ++ now) ranks at_now;
          has = (
            ap (λ (values : Row). are_given (row_key mapped target values)) (cells_chosen (rows ++ now) (attribute_columns mapped target placement)) ∙ keys.0,
            ap are_given (cells_chosen (rows ++ now) (further_keys mapped target placement)) ∙ keys.1,
          );
        }
