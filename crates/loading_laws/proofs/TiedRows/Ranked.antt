-- What the partners of an option are: those that have a target are a row of each of its tables, all under one key.
use Rattle.std.proofs.Common.{◌≡◌, ◌⊎◌, inl, inr, ℕ, zero, suc, ◌+◌, ◌-◌, ◌<◌, ◌==◌, Bool, true, false, not, ◌&&◌, ◌||◌, List, [], ◌∷◌, ◌++◌, get_or, length, map, Some, if◌then◌else◌, refl, sym, ap, subst, ◌∙◌, arith}
use Rattle.std.specs.Prelude.{slice_get}
use Rattle.std.specs.List.{flat_map, range_with_len}
use Rattle.std.proofs.lemmas.Bool.{and_parts, eq-eqb, eqb-false, eqb-true}
use Rattle.std.proofs.lemmas.List.{map-append}
use Rattle.std.proofs.lemmas.List.Folds.{list_all-append}
use Rattle.std.proofs.lemmas.Option.{same_Some, slice_get-get_or, slice_get_within}
use Rattle.base_core.specs.declared.ids.ClassId.{ClassId}
use Rattle.base_core.specs.declared.ids.ColumnNo.{ColumnNo}
use Rattle.base_core.specs.declared.ids.TableId.{TableId}
use Rattle.base_core.specs.declared.value.Value.{Value}
use Rattle.base_core.specs.declared.value.Value.TheVariants as value
use Rattle.schema_core.specs.Catalog.{key_columns}
use Rattle.schema_core.specs.Tables.{has_null, is_null}
use Rattle.expr_types.specs.declared.expr.Origin.{Origin}
use Rattle.sql_semantics.specs.Eval.{Row, Tables, item_or_null, rows_in}
use Rattle.sql_semantics.specs.Rows.{nulls}
use Rattle.class_types.specs.declared.mapped.Relation.{Relation}
use Rattle.class_mapping.specs.Mapped.{Mapped, no_table_id, root_spec, root_table, tables_of}
use Rattle.class_mapping.specs.Paired.{is_at_or_under}
use Rattle.class_mapping.specs.Related.{IsRelated}
use Rattle.class_mapping.proofs.Having.{Has, has_at}
use Rattle.mapping_laws.specs.Hierarchies.{HasHierarchies, HasTables, kinds_of}
use Rattle.mapping_laws.proofs.Tables.{tables_declared}
use Rattle.mapping_laws.proofs.Ties.{class_tables, table_faultless}
use Rattle.load_columns.specs.declared.placing.Placement.{Placement}
use Rattle.load_columns.specs.declared.placing.SourceColumn.{SourceColumn}
use Rattle.load_columns.specs.Placing.{attribute_columns, from_root, key_at_rank, key_numbers, place_at_rank, table_at_rank}
use Rattle.load_selects.specs.Branches.{discriminator_column}
use Rattle.load_selects.specs.Sources.{leading_table, target_placement}
use Rattle.load_filling.specs.Rows.{row_key}
use Rattle.collection_selects.proofs.ClassLemmas.{rank_is}
use Rattle.collection_selects.proofs.Keys.{key_some}
use Rattle.collection_selects.proofs.Placed.{StandsAt, rank_finds}
use Rattle.main_selects.specs.MainSelect.{further_count, further_keys}
use Rattle.loading_laws.proofs.MainSelects.Tied.{lead_inside}
use Rattle.joined_rows.specs.Taking.{are_given}
use Rattle.loading_laws.specs.Answers.Equal.{equals_key}
use Rattle.loading_laws.proofs.Members.Choices.{Choice, EachPlaced, Tie, chosen, placed_join, placed_split}
use Rattle.loading_laws.proofs.Members.Owned.{IsOwn, attribute_ranked, behind_ranked, own_test, ranked_own, root_there, row_key_is}
use Rattle.loading_laws.proofs.Members.Ranks.{AreRanked, EachRanked, OthersMeet, attributes_chosen, branch_alike, branch_test, from_places, key_chosen, key_in, key_long, lead_place, ranks_meet, tie_at, to_places}
use Rattle.loading_laws.proofs.TiedRows.Behind.{Met, MetOrNull, test_at}
use Rattle.loading_laws.proofs.TiedRows.Sources.{first_ties, lead_behind, lead_table, lead_tie, option_ties, other_ties, others_before, second_ties}

-- ---- values that are given

are_known : (values : List Value) → are_given values ≡ true → has_null values ≡ false
are_known [] h = refl
are_known (v ∷ values) h =
    let both = and_parts (not (is_null v)) (are_given values) h in
    ap (λ (b : Bool). b || has_null values) (turned_false (is_null v) both.0) ∙ are_known values both.1
  where
    turned_false : (b : Bool) → not b ≡ true → b ≡ false
    turned_false true e = absurd cc
    turned_false false e = refl

known_given : (values : List Value) → has_null values ≡ false → are_given values ≡ true
known_given [] h = refl
known_given (v ∷ values) h = by (is_null v) refl (known_given values)
  where
    by : (b : Bool) → is_null v ≡ b → (has_null values ≡ false → are_given values ≡ true) → (not (is_null v) && are_given values) ≡ true
    by true e more = absurd (let never = sym (ap (λ (b : Bool). b || has_null values) e) ∙ h in cc)
    by false e more = ap (λ (b : Bool). not b && are_given values) e ∙ more (sym (ap (λ (b : Bool). b || has_null values) e) ∙ h)

-- a part of values that are given
given_part : {A : Type 0} (v : SourceColumn → Value) (f : A → List SourceColumn) (xs : List A) (x : A) → Has xs x → are_given (map v (flat_map f xs)) ≡ true → are_given (map v (f x)) ≡ true
given_part v f [] x there h = absurd there
given_part {A = A} v f (y ∷ xs) x there h =
    let joined : are_given (map v (f y) ++ map v (flat_map f xs)) ≡ true = ap are_given (sym (map-append v (f y) (flat_map f xs))) ∙ h in
    let both = and_parts (are_given (map v (f y))) (are_given (map v (flat_map f xs))) (sym (list_all-append (λ (one : Value). not (is_null one)) (map v (f y)) (map v (flat_map f xs))) ∙ joined) in
    by there both.0 (λ more. given_part v f xs x more both.1)
  where
    by : (y ≡ x) ⊎ Has xs x → are_given (map v (f y)) ≡ true → (Has xs x → are_given (map v (f x)) ≡ true) → are_given (map v (f x)) ≡ true
    by (inl e) one rest = subst (λ (z : A). are_given (map v (f z)) ≡ true) e one
    by (inr more) one rest = rest more

range_has : (from n k : ℕ) → k < n → Has (range_with_len from n) (from + k)
range_has from zero k less = absurd (omega (arith, less))
range_has from (suc n) zero less = inl (omega arith)
range_has from (suc n) (suc k) less = let same : from + 1 + k ≡ from + suc k = omega arith in inr (subst (Has (range_with_len (from + 1) n)) same (range_has (from + 1) n k (omega (arith, less))))

all_given : (v : SourceColumn → Value) (f : ℕ → List SourceColumn) (from n : ℕ) → ((k : ℕ) → k < n → are_given (map v (f (from + k))) ≡ true) → are_given (map v (flat_map f (range_with_len from n))) ≡ true
all_given v f from zero each = refl
all_given v f from (suc n) each =
    let here : from + 0 ≡ from = omega arith in
    let rest = all_given v f (from + 1) n (λ k less. let same : from + suc k ≡ from + 1 + k = omega arith in subst (λ (m : ℕ). are_given (map v (f m)) ≡ true) same (each (suc k) (omega (arith, less)))) in
    ap are_given (map-append v (f from) (flat_map f (range_with_len (from + 1) n)))
    ∙ list_all-append (λ (one : Value). not (is_null one)) (map v (f from)) (map v (flat_map f (range_with_len (from + 1) n)))
    ∙ ap (λ (b : Bool). b && are_given (map v (flat_map f (range_with_len (from + 1) n)))) (subst (λ (m : ℕ). are_given (map v (f m)) ≡ true) here (each 0 (omega arith))) ∙ rest

-- ---- rows of NULLs

null_at : (n k : ℕ) → item_or_null (slice_get (nulls n) k) ≡ value.Null
null_at zero k = refl
null_at (suc n) zero = refl
null_at (suc n) (suc k) = null_at n k

-- some values of such a row
pub null_values : (row : Row) (n : ℕ) (numbers : List ColumnNo) → row ≡ nulls n → 0 < length numbers → has_null (map (λ (number : ColumnNo). item_or_null (slice_get row number.0)) numbers) ≡ true
null_values row n [] is some = absurd (omega (arith, some))
null_values row n (number ∷ numbers) is some =
    ap (λ (v : Value). is_null v || has_null (map (λ (one : ColumnNo). item_or_null (slice_get row one.0)) numbers)) (ap (λ (r : Row). item_or_null (slice_get r number.0)) is ∙ null_at n number.0)

pub not_both : {A : Type 0} (b : Bool) → b ≡ true → b ≡ false → A
not_both true p q = absurd cc
not_both false p q = absurd cc

-- ---- the partners of an option

-- an option of a class whose tables stand first among sources
pub record IsOption (mapped : Mapped) (class : ClassId) (relation : Relation) (first : List Origin) : Type 0 where
  pub has : HasHierarchies mapped
  pub related : IsRelated mapped relation
  pub above : is_at_or_under mapped class relation.class ≡ true
  pub stands : StandsAt mapped class (from_root 0) first

module _ (mapped : Mapped) (class : ClassId) (relation : Relation) (first : List Origin) (tables : Tables) (option : IsOption mapped class relation first) where
  abbrev target : ClassId
  target = relation.target

  abbrev lead : TableId
  lead = leading_table mapped relation

  abbrev own : List TableId
  own = tables_of mapped target

  abbrev count : ℕ
  count = length first

  abbrev pub placement : Placement
  placement = target_placement mapped relation count

  abbrev root : TableId
  root = root_table mapped target

  -- the row of each rank
  abbrev pub by_rank : Choice → Choice
  by_rank choice = λ rank. choice (place_at_rank placement rank)

  pub known : HasTables mapped target
  known = class_tables mapped target option.has option.related.target

  pub leads : slice_get own placement.leading ≡ Some lead
  leads = rank_finds own lead (lead_inside mapped class relation first option.has option.related option.above option.stands)

  abbrev Joined : Choice → ℕ → Tie → Type 0
  Joined choice = MetOrNull mapped target placement tables choice

  abbrev IsMet : Choice → ℕ → Tie → Type 0
  IsMet choice = Met mapped target placement tables choice

  abbrev lead_one : Tie
  lead_one = lead_tie mapped class relation count relation.far

  abbrev seconds : List Tie
  seconds = second_ties mapped class relation count relation.far

  abbrev firsts : List Tie
  firsts = first_ties mapped class relation count

  abbrev others : List Tie
  others = other_ties mapped class relation count

  -- ---- keys

  pub keys_some : 0 < length (kinds_of (key_columns (root_spec mapped target)))
  keys_some = key_some (root_spec mapped target).columns (table_faultless mapped root option.has (tables_declared mapped target root (has_at own 0 root (root_there mapped target known)))).keyed

  null_key : (choice : Choice) (rank : ℕ) (table : TableId) (n : ℕ) → slice_get own rank ≡ Some table → choice (place_at_rank placement rank) ≡ nulls n → has_null (key_in mapped target (by_rank choice) rank) ≡ true
  null_key choice rank table n here is =
      let long = key_long mapped target known rank table here in
      let some = keys_some in
      null_values (choice (place_at_rank placement rank)) n (key_numbers mapped (table_at_rank mapped target rank)) is (omega (arith, long, some))

  -- the keys of all tables are known
  abbrev pub AreKnown : Choice → Type 0
  AreKnown choice = (rank : ℕ) (table : TableId) → slice_get own rank ≡ Some table → has_null (key_in mapped target (by_rank choice) rank) ≡ false

  met_by : (choice : Choice) (place : ℕ) (tie : Tie) → Joined choice place tie → ((n : ℕ) → choice place ≡ nulls n → ⊥) → IsMet choice place tie
  met_by choice place tie (inl met) none = met
  met_by choice place tie (inr e) none = absurd (none _ e)

  tested : (choice : Choice) (table : TableId) → table ≡ root → test_at mapped target placement (chosen choice) table ≡ true → branch_test mapped target placement (chosen choice) ≡ true
  tested choice table same h =
      let at_root : test_at mapped target placement (chosen choice) root ≡ true = subst (λ (t : TableId). test_at mapped target placement (chosen choice) t ≡ true) same h in
      sym (ap (λ (b : Bool). if b then branch_test mapped target placement (chosen choice) else true) (eq-eqb root.0 root.0 refl)) ∙ at_root

  -- a row of each table of the target under one key, of its branch, and the row to which the table that leads is tied
  pub record HasTarget (choice : Choice) : Type 0 where
    pub lead_met : IsMet choice placement.first lead_one
    pub second : EachPlaced (Joined choice) count seconds
    pub ranked : AreRanked mapped target tables (by_rank choice) (key_in mapped target (by_rank choice) placement.leading)
    pub given : has_null (key_in mapped target (by_rank choice) placement.leading) ≡ false
    pub is_own : IsOwn mapped target tables (by_rank choice)

  -- ---- from partners to rows

  module _ (choice : Choice) (each : EachPlaced (Joined choice) count (option_ties mapped class relation count)) (given : AreKnown choice) where
    parts : EachPlaced (Joined choice) count firsts × EachPlaced (Joined choice) (count + length firsts) others
    parts = placed_split (Joined choice) count firsts others each

    lead_parts : EachPlaced (Joined choice) count seconds × EachPlaced (Joined choice) (count + length seconds) (lead_one ∷ [])
    lead_parts = placed_split (Joined choice) count seconds (lead_one ∷ []) parts.0

    -- the row of a rank is none of NULLs
    none_at : (rank : ℕ) (table : TableId) → slice_get own rank ≡ Some table → (n : ℕ) → choice (place_at_rank placement rank) ≡ nulls n → ⊥
    none_at rank table here n e = not_both (has_null (key_in mapped target (by_rank choice) rank)) (null_key choice rank table n here e) (given rank table here)

    lead_is_met : IsMet choice placement.first lead_one
    lead_is_met =
        met_by choice placement.first lead_one (subst (λ (place : ℕ). Joined choice place lead_one) (lead_behind mapped class relation count relation.far) lead_parts.1.0)
        (λ n e. none_at placement.leading lead leads n (ap choice (lead_place mapped target placement placement.leading refl) ∙ e))

    others_met : EachRanked mapped target placement (IsMet choice) 0 own
    others_met k table here apart =
        let same : 0 + k ≡ k = omega arith in
        let joined = from_places mapped target placement (Joined choice) own 0 (count + length firsts) (others_before mapped class relation count) parts.1 in
        met_by choice (place_at_rank placement (0 + k)) (tie_at mapped target placement (0 + k, table)) (joined k table here apart) (λ n e. none_at k table here n (ap (λ (r : ℕ). choice (place_at_rank placement r)) (sym same) ∙ e))

    meet : OthersMeet mapped target placement tables choice 0 own
    meet k table here apart =
        let met = others_met k table here apart in
        let tie : Tie = tie_at mapped target placement (0 + k, table) in
        (met.0, (and_parts (equals_key (map (chosen choice) tie.ones) (map (chosen choice) tie.others)) (test_at mapped target placement (chosen choice) tie.table) met.1).0)

    lead_row : Has (rows_in tables lead.0) (choice placement.first)
    lead_row = subst (λ (table : TableId). Has (rows_in tables table.0) (choice placement.first)) (lead_table mapped class relation count relation.far) lead_is_met.0

    in_branch : (b : Bool) → (0 == placement.leading) ≡ b → branch_test mapped target placement (chosen choice) ≡ true
    in_branch true e =
        let zero_leads : 0 ≡ placement.leading = eqb-true 0 placement.leading e in
        let is_root : lead ≡ root = same_Some lead root (sym leads ∙ ap (slice_get own) (sym zero_leads) ∙ root_there mapped target known) in
        tested choice lead_one.table (lead_table mapped class relation count relation.far ∙ is_root)
        (and_parts (equals_key (map (chosen choice) lead_one.ones) (map (chosen choice) lead_one.others)) (test_at mapped target placement (chosen choice) lead_one.table) lead_is_met.1).1
    in_branch false e =
        let met = others_met 0 root (root_there mapped target known) (λ same. eqb-false 0 placement.leading e (omega (arith, same))) in
        let tie : Tie = tie_at mapped target placement (0 + 0, root) in
        tested choice root refl (and_parts (equals_key (map (chosen choice) tie.ones) (map (chosen choice) tie.others)) (test_at mapped target placement (chosen choice) tie.table) met.1).1

    pub target_of : HasTarget choice
    target_of =
        let ranks : Choice = by_rank choice in
        let ranked = behind_ranked mapped target known placement lead leads tables choice lead_row meet in
        let key_given : has_null (key_in mapped target ranks placement.leading) ≡ false = given placement.leading lead leads in
        let passes : own_test mapped target (chosen ranks) ≡ true =
        branch_alike mapped target (from_root 0) placement (chosen ranks) (chosen choice)
        (λ bare n named. ap (λ (r : Row). item_or_null (slice_get r (discriminator_column mapped target placement n).column.0)) (ap ranks (rank_is 0))) ∙ in_branch (0 == placement.leading) refl in
        record {
          lead_met = lead_is_met;
          second = lead_parts.0;
          ranked = ranked;
          given = key_given;
          is_own = ranked_own mapped target known tables ranks (key_in mapped target ranks placement.leading) ranked key_given passes;
        }

  -- ---- from rows to partners

  -- where the first ties are met, and the others are a row of each table under one key, all are met
  pub target_placed : (choice ranks : Choice) (key : List Value) → AreRanked mapped target tables ranks key → has_null key ≡ false → own_test mapped target (chosen ranks) ≡ true
      → ((rank : ℕ) (table : TableId) → slice_get own rank ≡ Some table → choice (place_at_rank placement rank) ≡ ranks rank)
      → ((branch : (table : TableId) → test_at mapped target placement (chosen choice) table ≡ true) → EachPlaced (IsMet choice) count seconds)
      → equals_key (map (chosen choice) lead_one.ones) (map (chosen choice) lead_one.others) ≡ true → EachPlaced (IsMet choice) count (option_ties mapped class relation count)
  target_placed choice ranks key ranked given passes at second tied =
      let in_it : branch_test mapped target placement (chosen choice) ≡ true =
      branch_alike mapped target placement (from_root 0) (chosen choice) (chosen ranks)
      (λ bare n named. ap (λ (r : Row). item_or_null (slice_get r (discriminator_column mapped target placement n).column.0)) (at 0 root (root_there mapped target known) ∙ ap ranks (sym (rank_is 0)))) ∙ passes in
      let all_tested : (table : TableId) → test_at mapped target placement (chosen choice) table ≡ true = λ table. by (table.0 == root.0) in_it in
      let lead_at : choice placement.first ≡ ranks placement.leading = ap choice (sym (lead_place mapped target placement placement.leading refl)) ∙ at placement.leading lead leads in
      let lead_row : Has (rows_in tables lead_one.table.0) (choice placement.first) =
      subst (Has (rows_in tables lead_one.table.0)) (sym lead_at)
      (subst (λ (table : TableId). Has (rows_in tables table.0) (ranks placement.leading)) (sym (lead_table mapped class relation count relation.far)) (ranked.rows placement.leading lead leads)) in
      let lead_met : IsMet choice placement.first lead_one = (lead_row, ap (λ (b : Bool). b && test_at mapped target placement (chosen choice) lead_one.table) tied ∙ all_tested lead_one.table) in
      let met_others = ranks_meet mapped target placement tables choice ranks key lead leads given ranked at in
      placed_join (IsMet choice) count firsts others
      (placed_join (IsMet choice) count seconds (lead_one ∷ []) (second all_tested) (subst (λ (place : ℕ). IsMet choice place lead_one) (sym (lead_behind mapped class relation count relation.far)) lead_met, tt))
      (to_places mapped target placement (IsMet choice) own 0 (count + length firsts) (others_before mapped class relation count) (λ k table here apart.
      let one = met_others k table here apart in
      (one.0, ap (λ (b : Bool). b && test_at mapped target placement (chosen choice) table) one.1 ∙ all_tested table)))
    where
      by : (b : Bool) → branch_test mapped target placement (chosen choice) ≡ true → (if b then branch_test mapped target placement (chosen choice) else true) ≡ true
      by true e = e
      by false e = refl

  -- ---- what the option reads

  -- the attributes are those of the rows of the ranks
  pub attributes_read : (choice ranks : Choice) → ((rank : ℕ) (table : TableId) → slice_get own rank ≡ Some table → choice (place_at_rank placement rank) ≡ ranks rank)
      → map (chosen choice) (attribute_columns mapped target placement) ≡ map (chosen ranks) (attribute_columns mapped target (from_root 0))
  attributes_read choice ranks at = attributes_chosen mapped target placement choice ranks at (attribute_ranked mapped target)

  abbrev read_key : Choice → List Value
  read_key choice = row_key mapped target (map (chosen choice) (attribute_columns mapped target placement))

  root_read : (choice : Choice) → read_key choice ≡ key_in mapped target (by_rank choice) 0
  root_read choice = ap (row_key mapped target) (attributes_read choice (by_rank choice) (λ rank table here. refl)) ∙ row_key_is mapped target known option.has (by_rank choice)

  -- where the keys that are read are given, all keys are known
  pub keys_known : (choice : Choice) → are_given (read_key choice) ≡ true → are_given (map (chosen choice) (further_keys mapped target placement)) ≡ true → AreKnown choice
  keys_known choice first_given given zero table here = ap has_null (sym (root_read choice)) ∙ are_known (read_key choice) first_given
  keys_known choice first_given given (suc k) table here =
      let less = slice_get_within own (suc k) table here in
      let within : Has (range_with_len 1 (further_count mapped target)) (1 + k) = range_has 1 (further_count mapped target) k (omega (arith, less)) in
      let same : 1 + k ≡ suc k = omega arith in
      let one = given_part (chosen choice) (key_at_rank mapped target placement) (range_with_len 1 (further_count mapped target)) (suc k) (subst (Has (range_with_len 1 (further_count mapped target))) same within) given in
      ap has_null (sym (key_chosen mapped target placement choice (by_rank choice) (suc k) refl)) ∙ are_known (map (chosen choice) (key_at_rank mapped target placement (suc k))) one

  pub known_keys : (choice : Choice) → AreKnown choice → (are_given (read_key choice) ≡ true) × (are_given (map (chosen choice) (further_keys mapped target placement)) ≡ true)
  known_keys choice given = (
    known_given (read_key choice) (ap has_null (root_read choice) ∙ given 0 root (root_there mapped target known)),
    all_given (chosen choice) (key_at_rank mapped target placement) 1 (further_count mapped target)
        (λ k less.
        let table : TableId = get_or own (1 + k) no_table_id in
        let here : slice_get own (1 + k) ≡ Some table = slice_get-get_or own (1 + k) no_table_id (omega (arith, less)) in
        known_given (map (chosen choice) (key_at_rank mapped target placement (1 + k))) (ap has_null (key_chosen mapped target placement choice (by_rank choice) (1 + k) refl) ∙ given (1 + k) table here)),
  )
