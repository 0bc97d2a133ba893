-- What an option's partners have of its target are the rows to which the owner's row is tied, for each kind of relationship.
use Rattle.std.proofs.Common.{◌≡◌, inl, inr, ℕ, ◌+◌, Bool, true, false, ◌&&◌, List, [], ◌∷◌, ◌++◌, length, map, Option, None, Some, if◌then◌else◌, refl, sym, ap, subst, ◌∙◌, arith}
use Rattle.std.specs.Prelude.{slice_get}
use Rattle.std.proofs.lemmas.Bool.{and_parts}
use Rattle.std.proofs.lemmas.List.{length-map}
use Rattle.base_core.specs.declared.ids.ClassId.{ClassId}
use Rattle.base_core.specs.declared.ids.ColumnNo.{ColumnNo}
use Rattle.base_core.specs.declared.ids.TableId.{TableId}
use Rattle.base_core.specs.declared.value.Value.{Value}
use Rattle.schema_core.specs.Catalog.{key_columns}
use Rattle.schema_core.specs.Tables.{has_null, same_values}
use Rattle.expr_types.specs.declared.expr.Origin.{Origin}
use Rattle.sql_semantics.specs.Eval.{Row, Tables, item_or_null, rows_in}
use Rattle.sql_semantics.specs.Shapes.{AreLegalRows, AreRows}
use Rattle.class_types.specs.declared.mapped.Relation.{Relation}
use Rattle.class_sides.specs.Keys.{TableKey}
use Rattle.class_mapping.specs.Mapped.{Mapped, root_spec, root_table, tables_of}
use Rattle.class_mapping.specs.Paired.{is_at_or_under}
use Rattle.class_mapping.specs.Related.{has_keys, many_side}
use Rattle.class_mapping.proofs.Having.{Has, from_filter, has_filter}
use Rattle.object_arena.proofs.GraphLemmas.{same_equiv}
use Rattle.mapping_laws.specs.Hierarchies.{HasTables, kinds_of}
use Rattle.load_columns.specs.declared.placing.Placement.{Placement}
use Rattle.load_columns.specs.declared.placing.SourceColumn.{SourceColumn}
use Rattle.load_columns.specs.Placing.{attribute_columns, columns_at, foreign_numbers, from_root, place_at_rank, place_of_table, rank_of, referred_table}
use Rattle.load_selects.specs.Sources.{first_behind, leading_by, leading_table, target_placement}
use Rattle.load_filling.specs.Rows.{row_key}
use Rattle.collection_selects.proofs.ClassLemmas.{rank_is}
use Rattle.collection_selects.proofs.MemberLemmas.{RefersTo}
use Rattle.collection_selects.proofs.Placed.{branch_under}
use Rattle.main_selects.specs.MainSelect.{option_sources}
use Rattle.loading_laws.proofs.MainSelects.Referring.{HasKey, key_of, tables_under}
use Rattle.collection_selects.proofs.Pairs.Plainness.{IsSecondary, secondary_of}
use Rattle.loading_laws.specs.Answers.Answers.{AreRowsOf}
use Rattle.loading_laws.specs.Answers.Equal.{equals_key}
use Rattle.loading_laws.specs.Members.{IsPaired, cells_of, paired_rows}
use Rattle.loading_laws.proofs.Members.Choices.{Choice, EachPlaced, Tie, chosen}
use Rattle.loading_laws.proofs.Members.Owned.{AreHeld, IsOwn, foreign_long, lead_key, numbers_chosen, own_ranked, own_row, rank_long, root_there, row_key_is, row_own, turned, turned_at, turned_before}
use Rattle.loading_laws.proofs.Members.Paired.{is_paired_row, led_to_row}
use Rattle.loading_laws.proofs.Members.Ranks.{AreRanked, equal_both, equal_itself, key_in, lead_place, same_equal}
use Rattle.loading_laws.specs.Wide.Partners.{partners}
use Rattle.loading_laws.proofs.Wide.Places.{wide_long}
use Rattle.joined_rows.proofs.Widening.{table_of}
use Rattle.loading_laws.specs.TiedRows.{KeyReader, ReadsKeys, tied_rows}
use Rattle.loading_laws.proofs.TiedRows.Behind.{AreAlike, Met, MetOrNull, first_alike, is_met, next_row, row_at, test_at}
use Rattle.loading_laws.proofs.TiedRows.Owners.{IsOwner, StandsFirst, legal_rank, owner_foreign, owner_key}
use Rattle.loading_laws.proofs.TiedRows.Partnered.{HasMember, IsFound, member_at, member_ranked, row_found, target_there}
use Rattle.loading_laws.proofs.TiedRows.Ranked.{HasTarget, IsOption, by_rank, keys_some, known, leads, not_both, null_values}
use Rattle.loading_laws.proofs.TiedRows.Sources.{lead_tie, referred_tie, referring_tie, second_ties}

-- an option of a class behind an owner's rows, over tables with legal rows, in which the rows of the target are these
pub record IsBehindOwner (mapped : Mapped) (read : KeyReader) (class : ClassId) (relation : Relation) (first : List Origin) (tables : Tables) (all : List Row) (own : Row) (rows : List Row) : Type 0 where
  pub option : IsOption mapped class relation first
  pub at_first : StandsFirst mapped class first
  pub owner : IsOwner mapped class first tables own rows
  pub held : AreRows mapped.schema tables
  pub legal : AreLegalRows mapped.schema tables
  pub answered : AreRowsOf mapped relation.target tables all
  pub reads : ReadsKeys mapped read
  pub opposite : (far : TableKey) → relation.far ≡ Some far → relation.many ≡ true

module _ (mapped : Mapped) (read : KeyReader) (class : ClassId) (relation : Relation) (first : List Origin) (tables : Tables) (all : List Row) (own : Row) (rows : List Row) (stage : IsBehindOwner mapped read class relation first tables all own rows) where
  abbrev count : ℕ
  count = length first

  abbrev target : ClassId
  target = relation.target

  abbrev own_tables : List TableId
  own_tables = tables_of mapped target

  abbrev placement : Placement
  placement = target_placement mapped relation count

  abbrev lead : TableId
  lead = leading_table mapped relation

  abbrev items : List SourceColumn
  items = attribute_columns mapped target (from_root 0)

  abbrev owner_row_key : List Value
  owner_row_key = row_key mapped class own

  abbrev one_lead : Tie
  one_lead = lead_tie mapped class relation count relation.far

  abbrev Partners : List Row → Type 0
  Partners now = Has (partners mapped.schema tables (option_sources mapped class relation count) rows) now

  abbrev Member : List Row → Type 0
  Member now = HasMember mapped class relation first tables stage.option stage.held (rows ++ now)

  abbrev member : List Row → Row
  member now = member_at mapped class relation first tables stage.option stage.held (rows ++ now)

  abbrev Found : Row → Type 0
  Found row = IsFound mapped class relation first tables stage.option stage.held rows stage.owner.wide row

  target_known : HasTables mapped target
  target_known = known mapped class relation first tables stage.option

  lead_there : slice_get own_tables placement.leading ≡ Some lead
  lead_there = leads mapped class relation first tables stage.option

  root_first : slice_get own_tables 0 ≡ Some (root_table mapped target)
  root_first = root_there mapped target target_known

  here : AreHeld mapped target tables all
  here = record { has = stage.option.has; is = stage.option.related.target; held = stage.held; rows = stage.answered }

  long : length rows ≡ count
  long = wide_long mapped.schema (map table_of first) rows stage.owner.wide ∙ length-map first table_of

  -- a key without a secondary table that refers to the class that declares the relationship refers to the class
  to_class : (key : TableKey) → RefersTo mapped key relation.class → RefersTo mapped key class
  to_class key to = record { foreign = to.foreign; is = to.is; table = to.table; inside = tables_under mapped class relation.class to.table stage.option.has stage.option.above to.inside; target = to.target }

  -- the row's key is as wide
  key_wide : (key : TableKey) → RefersTo mapped key relation.class → length owner_row_key ≡ length (foreign_numbers mapped key)
  key_wide key to =
      let class_known : HasTables mapped class = stage.at_first.known in
      let root_at = root_there mapped class class_known in
      ap (λ (values : List Value). length values) (sym (stage.owner.ranked.keys 0 (root_table mapped class) root_at)) ∙ rank_long mapped class class_known (row_at rows) 0 (root_table mapped class) root_at
      ∙ sym (foreign_long mapped key class stage.option.has class_known (to_class key to))

  numbers_long : (choice : Choice) (place : ℕ) (numbers : List ColumnNo) → length (map (chosen choice) (columns_at place numbers)) ≡ length numbers
  numbers_long choice place numbers = length-map (columns_at place numbers) (chosen choice) ∙ length-map numbers (λ (number : ColumnNo). let column : SourceColumn = record { source = place; column = number } in column)

  -- ---- partners with a target

  module _ (now : List Row) (there : Partners now) (has : Member now) where
    abbrev choice : Choice
    choice = row_at (rows ++ now)

    abbrev ranks : Choice
    ranks = by_rank mapped class relation first tables stage.option choice

    there_is : HasTarget mapped class relation first tables stage.option choice
    there_is = target_there mapped class relation first tables stage.option stage.held rows stage.owner.wide now there has

    is_row : member now ≡ map (chosen ranks) items
    is_row = member_ranked mapped class relation first tables stage.option stage.held rows stage.owner.wide now

    own_there : Has all (map (chosen ranks) items)
    own_there = own_row mapped target tables all here ranks there_is.is_own

    before_alike : AreAlike (length rows) choice (row_at rows)
    before_alike = first_alike rows now

    lead_at : choice placement.first ≡ ranks placement.leading
    lead_at = sym (ap choice (lead_place mapped target placement placement.leading refl))

    -- the columns of the tie that leads
    tied_by : (tie : Tie) → one_lead ≡ tie → equals_key (map (chosen choice) tie.ones) (map (chosen choice) tie.others) ≡ true
    tied_by tie is =
        (and_parts (equals_key (map (chosen choice) tie.ones) (map (chosen choice) tie.others)) (test_at mapped target placement (chosen choice) tie.table)
        (subst (λ (one : Tie). is_met mapped target placement (chosen choice) one ≡ true) is there_is.lead_met.1)).0

    row_key_read : row_key mapped target (map (chosen ranks) items) ≡ key_in mapped target ranks placement.leading
    row_key_read = row_key_is mapped target target_known stage.option.has ranks ∙ there_is.ranked.keys 0 (root_table mapped target) root_first

  -- ---- rows of the target

  module _ (ranks : Choice) (is_own : IsOwn mapped target tables ranks) where
    abbrev rank_key : List Value
    rank_key = key_in mapped target ranks 0

    ranked : AreRanked mapped target tables ranks rank_key
    ranked = own_ranked mapped target target_known tables ranks is_own.head is_own.meets rank_key refl

    given : has_null rank_key ≡ false
    given = legal_rank mapped tables stage.legal target ranks 0 (root_table mapped target) root_first is_own.head

    module _ (before : Choice) where
      abbrev turned_to : Choice
      turned_to = turned before ranks placement.leading placement.first

      turned_ranks : (rank : ℕ) (table : TableId) → slice_get own_tables rank ≡ Some table → turned_to (place_at_rank placement rank) ≡ ranks rank
      turned_ranks rank table at = turned_at before ranks placement.leading placement.first mapped target rank

      turned_lead : turned_to placement.first ≡ ranks placement.leading
      turned_lead = ap turned_to (sym (lead_place mapped target placement placement.leading refl)) ∙ turned_ranks placement.leading lead lead_there

      found_by : (tie : Tie) → one_lead ≡ tie → AreAlike (length rows) (row_at rows) turned_to
          → ((branch : (table : TableId) → test_at mapped target placement (chosen turned_to) table ≡ true) → EachPlaced (Met mapped target placement tables turned_to) count (second_ties mapped class relation count relation.far))
          → equals_key (map (chosen turned_to) tie.ones) (map (chosen turned_to) tie.others) ≡ true → Found (map (chosen ranks) items)
      found_by tie is alike second tied =
          row_found mapped class relation first tables stage.option stage.held rows stage.owner.wide turned_to ranks rank_key ranked given is_own.passes turned_ranks alike second
          (subst (λ (one : Tie). equals_key (map (chosen turned_to) one.ones) (map (chosen turned_to) one.others) ≡ true) (sym is) tied)

  found_as : (row : Row) (by_ranks : Choice) → row ≡ map (chosen by_ranks) items → Found (map (chosen by_ranks) items) → Found row
  found_as row by_ranks is found = subst Found (sym is) found

  -- where the option adds no secondary table, the places before its tables are those of the owner's rows
  row_alike : (ranks : Choice) → placement.first ≡ count → AreAlike (length rows) (row_at rows) (turned (row_at rows) ranks placement.leading placement.first)
  row_alike ranks is k less = let counted = long in sym (turned_before (row_at rows) ranks placement.leading placement.first k (omega (arith, less, counted, is)))

  -- ---- one-to-many: the rows that refer to the owner's key

  module _ (near : relation.far ≡ None) (many : relation.many ≡ true) where
    abbrev referring : Tie
    referring = referring_tie mapped class relation count relation.foreign count

    referring_lead : one_lead ≡ referring
    referring_lead =
        ap (lead_tie mapped class relation count) near
        ∙ ap (λ (b : Bool). if b then referring else referred_tie mapped class relation count relation.foreign (place_of_table mapped class (from_root 0) relation.foreign.0) count) many

    near_first : placement.first ≡ count
    near_first = ap (first_behind count) near

    has_key : HasKey mapped relation
    has_key = key_of mapped relation (ap (has_keys mapped relation) (sym near) ∙ stage.option.related.keys)

    to_owner : RefersTo mapped relation.foreign relation.class
    to_owner = subst (RefersTo mapped relation.foreign) (ap (λ (b : Bool). if b then relation.class else target) many) has_key.refers

    -- what the table with the foreign key has in it is read of the target's row
    referring_read : (choice ranks : Choice) → choice placement.first ≡ ranks placement.leading → map (chosen choice) referring.others ≡ read target relation (map (chosen ranks) items)
    referring_read choice ranks at =
        let place : ℕ = place_of_table mapped target (from_root 0) relation.foreign.0 in
        let leading_is : lead ≡ relation.foreign.0 = ap (leading_by mapped relation) near ∙ ap (λ (b : Bool). if b then relation.foreign.0 else referred_table mapped relation.foreign) many in
        let rank : place ≡ placement.leading = rank_is (rank_of mapped target relation.foreign.0) ∙ ap (rank_of mapped target) (sym leading_is) in
        let under : is_at_or_under mapped target (many_side relation) ≡ true =
        ap (λ (b : Bool). is_at_or_under mapped target (if b then target else relation.class)) many ∙ branch_under mapped target stage.option.has stage.option.related.target target_known target (inl refl) in
        numbers_chosen choice count (ranks placement.leading) (foreign_numbers mapped relation.foreign) (ap choice (sym near_first) ∙ at)
        ∙ sym (numbers_chosen ranks place (ranks placement.leading) (foreign_numbers mapped relation.foreign) (ap ranks rank))
        ∙ sym (stage.reads target relation (chosen ranks) stage.option.related.target stage.option.related under near)

    referring_member : (now : List Row) → Partners now → Member now → Has (tied_rows mapped read class relation tables all own true None) (member now)
    referring_member now there has =
        let c : Choice = choice now there has in
        let row : Row = map (chosen (ranks now there has)) items in
        let owned = owner_key mapped class first stage.at_first tables own rows stage.owner relation.class stage.option.above c (before_alike now there has) relation.foreign to_owner in
        let told = referring_read c (ranks now there has) (lead_at now there has) in
        let tied : equals_key owner_row_key (read target relation row) ≡ true =
        sym (ap (λ (k : List Value). equals_key k (map (chosen c) referring.others)) owned ∙ ap (equals_key owner_row_key) told) ∙ tied_by now there has referring referring_lead in
        let wide : length owner_row_key ≡ length (read target relation row) = key_wide relation.foreign to_owner ∙ sym (ap (λ (values : List Value). length values) (sym told) ∙ numbers_long c count (foreign_numbers mapped relation.foreign)) in
        let same = equal_both owner_row_key (read target relation row) wide tied in
        subst (Has (tied_rows mapped read class relation tables all own true None)) (sym (is_row now there has))
        (has_filter (λ (other : Row). same_values (read target relation other) owner_row_key) all row (own_there now there has) (ap (same_values (read target relation row)) same.same ∙ same_equiv.refl (read target relation row)))

    member_referring : (row : Row) → Has (tied_rows mapped read class relation tables all own true None) row → Found row
    member_referring row among =
        let kept = from_filter (λ (other : Row). same_values (read target relation other) owner_row_key) all row among in
        let one = row_own mapped target tables all here row kept.0 in
        let ranks : Choice = one.0 in
        let c : Choice = turned (row_at rows) ranks placement.leading placement.first in
        let alike = row_alike ranks near_first in
        let owned : map (chosen c) referring.ones ≡ owner_row_key = owner_key mapped class first stage.at_first tables own rows stage.owner relation.class stage.option.above c (λ k less. sym (alike k less)) relation.foreign to_owner in
        let told : map (chosen c) referring.others ≡ owner_row_key =
        referring_read c ranks (turned_lead ranks one.1 (row_at rows)) ∙ ap (read target relation) (sym one.2) ∙ same_equal (read target relation row) owner_row_key kept.1 in
        found_as row ranks one.2
        (found_by ranks one.1 (row_at rows) referring referring_lead alike (λ branch. subst (λ (end : Option TableKey). EachPlaced (Met mapped target placement tables c) count (second_ties mapped class relation count end)) (sym near) tt)
        (equal_itself (map (chosen c) referring.ones) (map (chosen c) referring.others) (owned ∙ sym told) (ap has_null told ∙ stage.owner.given)))

  -- ---- many-to-one: the row to which the owner's foreign key refers

  module _ (near : relation.far ≡ None) (one_side : relation.many ≡ false) where
    abbrev referred : Tie
    referred = referred_tie mapped class relation count relation.foreign (place_of_table mapped class (from_root 0) relation.foreign.0) count

    referred_lead : one_lead ≡ referred
    referred_lead =
        ap (lead_tie mapped class relation count) near ∙ ap (λ (b : Bool). if b then referring_tie mapped class relation count relation.foreign count else referred) one_side

    one_first : placement.first ≡ count
    one_first = ap (first_behind count) near

    one_key : HasKey mapped relation
    one_key = key_of mapped relation (ap (has_keys mapped relation) (sym near) ∙ stage.option.related.keys)

    to_target : RefersTo mapped relation.foreign target
    to_target = subst (RefersTo mapped relation.foreign) (ap (λ (b : Bool). if b then relation.class else target) one_side) one_key.refers

    own_side : many_side relation ≡ relation.class
    own_side = ap (λ (b : Bool). if b then target else relation.class) one_side

    owner_reads : (choice : Choice) → AreAlike (length rows) choice (row_at rows) → map (chosen choice) referred.others ≡ read class relation own
    owner_reads choice alike =
        owner_foreign mapped class first stage.at_first tables own rows stage.owner relation.class stage.option.above choice alike read stage.reads relation stage.option.related own_side near
        (subst (λ (one : ClassId). Has (tables_of mapped one) relation.foreign.0) own_side one_key.inside)

    referred_read : (choice ranks : Choice) → choice placement.first ≡ ranks placement.leading → map (chosen choice) referred.ones ≡ key_in mapped target ranks placement.leading
    referred_read choice ranks at =
        let leading_is : lead ≡ referred_table mapped relation.foreign = ap (leading_by mapped relation) near ∙ ap (λ (b : Bool). if b then relation.foreign.0 else referred_table mapped relation.foreign) one_side in
        lead_key mapped target placement.leading (referred_table mapped relation.foreign) (lead_there ∙ ap (λ (table : TableId). Some table) leading_is) choice ranks count (ap choice (sym one_first) ∙ at)

    referred_member : (now : List Row) → Partners now → Member now → Has (tied_rows mapped read class relation tables all own false None) (member now)
    referred_member now there has =
        let c : Choice = choice now there has in
        let ranks_now : Choice = ranks now there has in
        let row : Row = map (chosen ranks_now) items in
        let key : List Value = key_in mapped target ranks_now placement.leading in
        let told = referred_read c ranks_now (lead_at now there has) in
        let owned = owner_reads c (before_alike now there has) in
        let tied : equals_key key (read class relation own) ≡ true =
        sym (ap (λ (k : List Value). equals_key k (map (chosen c) referred.others)) told ∙ ap (equals_key key) owned) ∙ tied_by now there has referred referred_lead in
        let wide : length key ≡ length (read class relation own) =
        rank_long mapped target target_known ranks_now placement.leading lead lead_there ∙ sym (foreign_long mapped relation.foreign target stage.option.has target_known to_target)
        ∙ sym (ap (λ (values : List Value). length values) (sym owned) ∙ numbers_long c (place_of_table mapped class (from_root 0) relation.foreign.0) (foreign_numbers mapped relation.foreign)) in
        let same = equal_both key (read class relation own) wide tied in
        let row_is : row_key mapped target row ≡ read class relation own = row_key_read now there has ∙ same.same in
        subst (Has (tied_rows mapped read class relation tables all own false None)) (sym (is_row now there has))
        (has_filter (λ (other : Row). same_values (row_key mapped target other) (read class relation own)) all row (own_there now there has)
        (ap (λ (k : List Value). same_values k (read class relation own)) row_is ∙ same_equiv.refl (read class relation own)))

    member_referred : (row : Row) → Has (tied_rows mapped read class relation tables all own false None) row → Found row
    member_referred row among =
        let kept = from_filter (λ (other : Row). same_values (row_key mapped target other) (read class relation own)) all row among in
        let one = row_own mapped target tables all here row kept.0 in
        let ranks : Choice = one.0 in
        let c : Choice = turned (row_at rows) ranks placement.leading placement.first in
        let alike = row_alike ranks one_first in
        let key : List Value = rank_key ranks one.1 in
        let row_is : row_key mapped target row ≡ key = ap (row_key mapped target) one.2 ∙ row_key_is mapped target target_known stage.option.has ranks in
        let told : map (chosen c) referred.ones ≡ key = referred_read c ranks (turned_lead ranks one.1 (row_at rows)) ∙ (ranked ranks one.1).keys placement.leading lead lead_there in
        let owned : map (chosen c) referred.others ≡ key = owner_reads c (λ k less. sym (alike k less)) ∙ sym (same_equal (row_key mapped target row) (read class relation own) kept.1) ∙ row_is in
        found_as row ranks one.2
        (found_by ranks one.1 (row_at rows) referred referred_lead alike (λ branch. subst (λ (end : Option TableKey). EachPlaced (Met mapped target placement tables c) count (second_ties mapped class relation count end)) (sym near) tt)
        (equal_itself (map (chosen c) referred.ones) (map (chosen c) referred.others) (told ∙ sym owned) (ap has_null owned ∙ given ranks one.1)))

  -- ---- many-to-many: the rows to which pairs lead from the owner's key

  module _ (far : TableKey) (over : relation.far ≡ Some far) where
    abbrev pairs : List Row
    pairs = rows_in tables relation.foreign.0.0

    abbrev second : Tie
    second = referring_tie mapped class relation count relation.foreign count

    abbrev led : Tie
    led = referred_tie mapped class relation count far count (count + 1)

    paired : IsPaired mapped relation far tables all
    paired = record { has = stage.option.has; related = stage.option.related; many = stage.opposite far over; far_is = over; held = stage.held; rows = stage.answered }

    keys : IsSecondary mapped relation far
    keys = secondary_of mapped relation far stage.option.related over

    led_lead : one_lead ≡ led
    led_lead = ap (lead_tie mapped class relation count) over

    second_first : placement.first ≡ count + 1
    second_first = ap (first_behind count) over

    led_read : (choice ranks : Choice) → choice placement.first ≡ ranks placement.leading → map (chosen choice) led.ones ≡ key_in mapped target ranks placement.leading
    led_read choice ranks at =
        lead_key mapped target placement.leading (referred_table mapped far) (lead_there ∙ ap (λ (table : TableId). Some table) (ap (leading_by mapped relation) over)) choice ranks (count + 1) (ap choice (sym second_first) ∙ at)

    cells_wide : (key : TableKey) (pair : Row) → length (cells_of mapped key pair) ≡ length (foreign_numbers mapped key)
    cells_wide key pair = length-map (foreign_numbers mapped key) (λ (number : ColumnNo). item_or_null (slice_get pair number.0))

    led_member : (now : List Row) → Partners now → Member now → Has (tied_rows mapped read class relation tables all own true (Some far)) (member now)
    led_member now there has = by (subst (λ (end : Option TableKey). EachPlaced (MetOrNull mapped target placement tables c) count (second_ties mapped class relation count end)) over (there_is now there has).second).0
      where
        c : Choice
        c = choice now there has

        ranks_now : Choice
        ranks_now = ranks now there has

        pair : Row
        pair = c count

        key : List Value
        key = key_in mapped target ranks_now placement.leading

        far_is : map (chosen c) led.others ≡ cells_of mapped far pair
        far_is = numbers_chosen c count pair (foreign_numbers mapped far) refl

        tied : equals_key key (cells_of mapped far pair) ≡ true
        tied = sym (ap (λ (k : List Value). equals_key k (map (chosen c) led.others)) (led_read c ranks_now (lead_at now there has)) ∙ ap (equals_key key) far_is) ∙ tied_by now there has led led_lead

        far_long : length (foreign_numbers mapped far) ≡ length (kinds_of (key_columns (root_spec mapped target)))
        far_long = foreign_long mapped far target stage.option.has target_known keys.member

        same : (key ≡ cells_of mapped far pair) × (has_null (cells_of mapped far pair) ≡ false)
        same =
            let both = equal_both key (cells_of mapped far pair) (rank_long mapped target target_known ranks_now placement.leading lead lead_there ∙ sym (cells_wide far pair ∙ far_long)) tied in
            (both.same, both.known)

        by : MetOrNull mapped target placement tables c count second → Has (tied_rows mapped read class relation tables all own true (Some far)) (member now)
        by (inr none) =
            let wide = far_long in
            let some = keys_some mapped class relation first tables stage.option in
            not_both (has_null (cells_of mapped far pair)) (null_values pair _ (foreign_numbers mapped far) none (omega (arith, wide, some))) same.1
        by (inl met) =
            let near_is : map (chosen c) second.others ≡ cells_of mapped relation.foreign pair = numbers_chosen c count pair (foreign_numbers mapped relation.foreign) refl in
            let owned = owner_key mapped class first stage.at_first tables own rows stage.owner relation.class stage.option.above c (before_alike now there has) relation.foreign keys.owner in
            let referring : equals_key owner_row_key (cells_of mapped relation.foreign pair) ≡ true =
            sym (ap (λ (k : List Value). equals_key k (map (chosen c) second.others)) owned ∙ ap (equals_key owner_row_key) near_is)
            ∙ (and_parts (equals_key (map (chosen c) second.ones) (map (chosen c) second.others)) (test_at mapped target placement (chosen c) second.table) met.1).0 in
            let near = equal_both owner_row_key (cells_of mapped relation.foreign pair) (key_wide relation.foreign keys.owner ∙ sym (cells_wide relation.foreign pair)) referring in
            subst (Has (paired_rows mapped relation far all pairs owner_row_key)) (sym (is_row now there has))
            (is_paired_row mapped relation far tables all paired owner_row_key ranks_now pair (there_is now there has).is_own met.0
            (equal_itself (cells_of mapped relation.foreign pair) owner_row_key (sym near.same) stage.owner.given)
            ((there_is now there has).ranked.keys 0 (root_table mapped target) root_first ∙ same.0) same.1)

    member_led : (row : Row) → Has (tied_rows mapped read class relation tables all own true (Some far)) row → Found row
    member_led row among =
        let led_to = led_to_row mapped relation far tables all paired owner_row_key row among in
        let pair : Row = led_to.pair in
        let ranks : Choice = led_to.ranks in
        let before : Choice = row_at (rows ++ pair ∷ []) in
        let c : Choice = turned before ranks placement.leading placement.first in
        let counted = long in
        let first_is = second_first in
        let at_pair : c count ≡ pair = turned_before before ranks placement.leading placement.first count (omega (arith, first_is)) ∙ ap before (sym counted) ∙ next_row rows pair [] in
        let alike : AreAlike (length rows) (row_at rows) c = λ k less.
        sym (turned_before before ranks placement.leading placement.first k (omega (arith, less, counted, first_is)) ∙ first_alike rows (pair ∷ []) k less) in
        let owned : map (chosen c) second.ones ≡ owner_row_key = owner_key mapped class first stage.at_first tables own rows stage.owner relation.class stage.option.above c (λ k less. sym (alike k less)) relation.foreign keys.owner in
        let near_is : map (chosen c) second.others ≡ cells_of mapped relation.foreign pair = numbers_chosen c count pair (foreign_numbers mapped relation.foreign) at_pair in
        let near = equal_both (cells_of mapped relation.foreign pair) owner_row_key (cells_wide relation.foreign pair ∙ sym (key_wide relation.foreign keys.owner)) led_to.near in
        let second_tied : equals_key (map (chosen c) second.ones) (map (chosen c) second.others) ≡ true =
        equal_itself (map (chosen c) second.ones) (map (chosen c) second.others) (owned ∙ sym near.same ∙ sym near_is) (ap has_null (near_is ∙ near.same) ∙ stage.owner.given) in
        let key_is = led_to.ranked.keys placement.leading lead lead_there in
        let lead_is : map (chosen c) led.ones ≡ cells_of mapped far pair = led_read c ranks (turned_lead ranks led_to.is_own before) ∙ key_is in
        let far_is : map (chosen c) led.others ≡ cells_of mapped far pair = numbers_chosen c count pair (foreign_numbers mapped far) at_pair in
        found_as row ranks led_to.is
        (found_by ranks led_to.is_own before led led_lead alike
        (λ branch. subst (λ (end : Option TableKey). EachPlaced (Met mapped target placement tables c) count (second_ties mapped class relation count end)) (sym over)
        ((subst (Has pairs) (sym at_pair) led_to.there, ap (λ (b : Bool). b && test_at mapped target placement (chosen c) second.table) second_tied ∙ branch second.table), tt))
        (equal_itself (map (chosen c) led.ones) (map (chosen c) led.others) (lead_is ∙ sym far_is) (ap has_null far_is ∙ led_to.given)))

  -- ---- every kind

  pub member_tied : (now : List Row) → Partners now → Member now → Has (tied_rows mapped read class relation tables all own relation.many relation.far) (member now)
  member_tied now there has = by relation.many relation.far refl refl
    where
      by : (b : Bool) (end : Option TableKey) → relation.many ≡ b → relation.far ≡ end → Has (tied_rows mapped read class relation tables all own b end) (member now)
      by true None many far = referring_member far many now there has
      by false None many far = referred_member far many now there has
      by true (Some key) many far = led_member key far now there has
      by false (Some key) many far = absurd (not_both relation.many (stage.opposite key far) many)

  pub tied_member : (row : Row) → Has (tied_rows mapped read class relation tables all own relation.many relation.far) row → Found row
  tied_member row among = by relation.many relation.far refl refl among
    where
      by : (b : Bool) (end : Option TableKey) → relation.many ≡ b → relation.far ≡ end → Has (tied_rows mapped read class relation tables all own b end) row → Found row
      by true None many far h = member_referring far many row h
      by false None many far h = member_referred far many row h
      by true (Some key) many far h = member_led key far row h
      by false (Some key) many far h = absurd (not_both relation.many (stage.opposite key far) many)
