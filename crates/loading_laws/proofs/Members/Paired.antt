-- What is answered to the selects of the members of many-to-many collections: the rows of the target to which the owners' pairs lead.
use Rattle.std.proofs.Common.{◌≡◌, ◌⊎◌, inl, inr, ℕ, ◌+◌, ◌-◌, ◌<◌, ◌≤◌, Bool, true, false, ◌&&◌, List, [], ◌∷◌, ◌++◌, drop, filter, length, map, Some, Ok, refl, sym, ap, subst, ◌∙◌, arith, append_assoc}
use Rattle.std.specs.Prelude.{slice_get}
use Rattle.std.specs.List.{All, AllByRecursion, list_any, range_with_len}
use Rattle.std.proofs.lemmas.Bool.{and_parts}
use Rattle.std.proofs.lemmas.List.{length-append, length-map, map-append}
use Rattle.std.proofs.lemmas.List.Elements.{recursion_from_All}
use Rattle.std.proofs.lemmas.Option.{slice_get_within}
use Rattle.base_core.specs.declared.ids.ClassId.{ClassId}
use Rattle.base_core.specs.declared.ids.ColumnNo.{ColumnNo}
use Rattle.base_core.specs.declared.ids.TableId.{TableId}
use Rattle.base_core.specs.declared.value.Value.{Value}
use Rattle.base_core.proofs.Lists.{get_after}
use Rattle.schema_core.specs.Catalog.{key_columns}
use Rattle.schema_core.specs.Tables.{has_null, same_values, value_or_null}
use Rattle.schema_core.specs.WellFormed.{is_key}
use Rattle.expr_types.specs.declared.expr.Expr.{Expr}
use Rattle.expr_types.specs.declared.expr.Expr.TheVariants as expr
use Rattle.expr_types.specs.declared.expr.CompareOp.TheVariants as op
use Rattle.expr_types.specs.declared.select.Select.{Select}
use Rattle.sql_semantics.specs.Eval.{Row, Tables, item_or_null, rows_in}
use Rattle.sql_semantics.specs.Plain.{IsPlainSelect, fits}
use Rattle.sql_semantics.specs.Rows.{answer}
use Rattle.sql_semantics.proofs.Equations.{fits-Compare}
use Rattle.class_types.specs.declared.mapped.Relation.{Relation}
use Rattle.class_sides.specs.Keys.{TableKey}
use Rattle.class_mapping.specs.Mapped.{Mapped, root_spec, root_table, tables_of}
use Rattle.class_mapping.proofs.Having.{Has, any_has, from_filter, from_map, has_filter, has_map, some_of}
use Rattle.object_arena.proofs.GraphLemmas.{same_equiv}
use Rattle.mapping_laws.specs.Hierarchies.{HasTables, kinds_of}
use Rattle.mapping_laws.proofs.Ties.{class_tables}
use Rattle.load_columns.specs.declared.placing.Placement.{Placement}
use Rattle.load_columns.specs.declared.placing.SourceColumn.{SourceColumn}
use Rattle.load_columns.specs.Conditions.{column_of, has_one_of, has_values}
use Rattle.load_columns.specs.Placing.{attribute_columns, column_at, columns_at, foreign_numbers, from_root, key_numbers, place_at_rank, place_of_table, rank_of, referred_table}
use Rattle.collection_selects.proofs.ClassLemmas.{rank_is}
use Rattle.collection_selects.proofs.Keys.{key_fits}
use Rattle.collection_selects.proofs.MemberLemmas.{referred_is}
use Rattle.collection_selects.proofs.PairLemmas.{members_are_plain}
use Rattle.collection_selects.proofs.Placed.{rank_finds}
use Rattle.collection_selects.proofs.Standing.{is_of}
use Rattle.load_selects.specs.declared.sources.Further.{Further}
use Rattle.load_selects.specs.Branches.{discriminator_column, is_of_branch}
use Rattle.load_selects.specs.Selects.{select_of}
use Rattle.load_selects.specs.Sources.{leading_by, other_tables, referred_place, refers}
use Rattle.load_filling.specs.Rows.{row_key}
use Rattle.collection_selects.specs.Collections.{batch_by, batch_select, members_by, members_select, pair_columns, secondary_behind}
use Rattle.collection_selects.specs.Pairs.{owner_width, owner_width_by}
use Rattle.collection_selects.proofs.Pairs.Plainness.{IsSecondary, batch_is_plain, secondary_of}
use Rattle.loading_laws.specs.Answers.Answers.{value_at}
use Rattle.loading_laws.specs.Answers.Equal.{are_equal, equals_key}
use Rattle.loading_laws.proofs.Answers.Conditions.{AreLong, equals_some, key_tests, keys_tests}
use Rattle.loading_laws.specs.Members.{HaveSame, IsPaired, cells_of, first_values, is_pair_of, paired_rows, rows_under}
use Rattle.loading_laws.proofs.Members.Choices.{placed_join, placed_split, Choice, Fit, HasInside, IsChoice, IsInside, IsLocal, Meet, Meets, Tie, all_inside, are_tied, choice_row, chosen, chosen_row, column_inside, every_has, inside_of, joined_where, pointwise_long, put_elsewhere, put_there, with_row}
use Rattle.loading_laws.proofs.Members.Ranks.{AreRanked, OthersMeet, attributes_chosen, branch_alike, branch_test, branch_tests, count_behind, equal_both, equal_itself, from_places, key_in, lead_place, ranks_meet, same_equal, sources_tied, ties_behind, to_places}
use Rattle.loading_laws.proofs.Members.Owned.{foreign_long, numbers_chosen, turned, turned_at, AreHeld, IsOwn, attribute_ranked, behind_ranked, branch_local, lead_key, others_tied, own_before, own_ranked, own_row, own_test, own_ties, rank_long, ranked_own, root_there, row_key_is, row_own}

-- ---- lists

pub split_every : {A : Type 0} (P : A → Type 0) (xs ys : List A) → AllByRecursion P (xs ++ ys) → AllByRecursion P xs × AllByRecursion P ys
split_every P [] ys all = (tt, all)
split_every P (x ∷ xs) ys all = let rest = split_every P xs ys all.1 in ((all.0, rest.0), rest.1)

first_from : (before xs ys : Row) (n : ℕ) → length before ≡ n → map (λ (place : ℕ). value_or_null (slice_get (before ++ (xs ++ ys)) place)) (range_with_len n (length xs)) ≡ xs
first_from before [] ys n long = refl
first_from before (x ∷ xs) ys n long =
    let at : n ≡ length before + 0 = omega (arith, long) in
    let more : length (before ++ x ∷ []) ≡ n + 1 = length-append before (x ∷ []) ∙ ap (λ (k : ℕ). k + 1) long in
    ap (λ (v : Value). v ∷ map (λ (place : ℕ). value_or_null (slice_get (before ++ (x ∷ (xs ++ ys))) place)) (range_with_len (n + 1) (length xs)))
    (ap (λ (place : ℕ). value_or_null (slice_get (before ++ (x ∷ (xs ++ ys))) place)) at ∙ ap value_or_null (get_after before (x ∷ (xs ++ ys)) 0))
    ∙ ap (λ (vs : List Value). x ∷ vs)
    (ap (λ (row : Row). map (λ (place : ℕ). value_or_null (slice_get row place)) (range_with_len (n + 1) (length xs))) (sym (append_assoc before (x ∷ []) (xs ++ ys))) ∙ first_from (before ++ x ∷ []) xs ys (n + 1) more)

drop_front : (xs ys : Row) → drop (length xs) (xs ++ ys) ≡ ys
drop_front [] ys = refl
drop_front (x ∷ xs) ys = drop_front xs ys

pub cut_front : (xs ys : Row) (n : ℕ) → length xs ≡ n → (first_values n (xs ++ ys) ≡ xs) × (drop n (xs ++ ys) ≡ ys)
cut_front xs ys n long = (ap (λ (k : ℕ). first_values k (xs ++ ys)) (sym long) ∙ first_from [] xs ys 0 refl, ap (λ (k : ℕ). drop k (xs ++ ys)) (sym long) ∙ drop_front xs ys)

-- lists of which each has the other's rows
pub have_same : (one other : List Row) → ((row : Row) → Has one row → Has other row) → ((row : Row) → Has other row → Has one row) → HaveSame one other
have_same one other there back = λ row. by row (list_any (same_values row) one) (list_any (same_values row) other) refl refl
  where
    within : (xs ys : List Row) → ((row : Row) → Has xs row → Has ys row) → (row : Row) → list_any (same_values row) xs ≡ true → list_any (same_values row) ys ≡ true
    within xs ys so row h = let found = some_of (same_values row) xs h in any_has (same_values row) ys found.0 (so found.0 found.1) found.2

    by : (row : Row) (a b : Bool) → list_any (same_values row) one ≡ a → list_any (same_values row) other ≡ b → list_any (same_values row) one ≡ list_any (same_values row) other
    by row true b p q = p ∙ sym (within one other there row p)
    by row false true p q = absurd (let never = sym p ∙ within other one back row q in cc)
    by row false false p q = p ∙ sym q

-- the condition that columns hold a key looks at these columns
pub values_local : (mapped : Mapped) (scope : List TableId) (u v : SourceColumn → Value) (columns : List SourceColumn) (key : List Value) → ((column : SourceColumn) → IsInside mapped.schema scope column → u column ≡ v column)
    → AllByRecursion (Fit mapped.schema scope) (has_values columns key) → equals_key (map u columns) key ≡ equals_key (map v columns) key
values_local mapped scope u v [] key same fit = refl
values_local mapped scope u v (column ∷ columns) [] same fit = refl
values_local mapped scope u v (column ∷ columns) (x ∷ key) same fit =
    let one : Bool = fits mapped.schema (column_of column) scope in
    let both = and_parts one (fits mapped.schema (expr.Lit x) scope && true) (sym (fits-Compare mapped.schema scope op.Equal (column_of column) (expr.Lit x)) ∙ fit.0) in
    ap (λ (y : Value). are_equal (y, x) && equals_key (map u columns) key) (same column (column_inside mapped.schema scope column both.0))
    ∙ ap (λ (b : Bool). are_equal (v column, x) && b) (values_local mapped scope u v columns key same fit.1)

-- ---- a relationship over a secondary table

module _ (mapped : Mapped) (relation : Relation) (far : TableKey) (tables : Tables) (all : List Row) (paired : IsPaired mapped relation far tables all) where
  abbrev class : ClassId
  class = relation.target

  abbrev own : List TableId
  own = tables_of mapped class

  abbrev root : TableId
  root = root_table mapped class

  abbrev second : TableId
  second = relation.foreign.0

  abbrev pairs : List Row
  pairs = rows_in tables second.0

  abbrev led_to : TableId
  led_to = referred_table mapped far

  abbrev lead : ℕ
  lead = rank_of mapped class led_to

  abbrev plain : Placement
  plain = from_root 0

  abbrev items : List SourceColumn
  items = attribute_columns mapped class plain

  known : HasTables mapped class
  known = class_tables mapped class paired.has paired.related.target

  keys : IsSecondary mapped relation far
  keys = secondary_of mapped relation far paired.related paired.far_is

  leads : slice_get own lead ≡ Some led_to
  leads = rank_finds own led_to (subst (Has own) (sym (referred_is mapped far class keys.member)) keys.member.inside)

  -- ---- widths

  abbrev wide_key : ℕ
  wide_key = length (kinds_of (key_columns (root_spec mapped class)))

  abbrev cells_far : Row → List Value
  cells_far pair = cells_of mapped far pair

  abbrev cells_near : Row → List Value
  cells_near pair = cells_of mapped relation.foreign pair

  -- the keys of a rank and of a pair are of one width
  pub cells_long : (pair : Row) → length (cells_far pair) ≡ wide_key
  cells_long pair = length-map (foreign_numbers mapped far) (λ (number : ColumnNo). item_or_null (slice_get pair number.0)) ∙ foreign_long mapped far class paired.has known keys.member

  owner_key_long : (key : List Value) → is_key (root_spec mapped relation.class) key ≡ true → length key ≡ length (foreign_numbers mapped relation.foreign)
  owner_key_long key h =
      pointwise_long is_of (kinds_of (key_columns (root_spec mapped relation.class))) key (key_fits mapped (root_table mapped relation.class) key h)
      ∙ sym (foreign_long mapped relation.foreign relation.class paired.has (class_tables mapped relation.class paired.has paired.related.class) keys.owner)

  near_long : (pair : Row) → length (cells_near pair) ≡ length (foreign_numbers mapped relation.foreign)
  near_long pair = length-map (foreign_numbers mapped relation.foreign) (λ (number : ColumnNo). item_or_null (slice_get pair number.0))

  -- ---- the rows of the target alone

  stage : AreHeld mapped class tables all
  stage = record { has = paired.has; is = paired.related.target; held = paired.held; rows = paired.rows }

  abbrev own_branch : List Expr
  own_branch = is_of_branch mapped class plain

  abbrev target_ties : List Tie
  target_ties = own_ties mapped class

  abbrev target_test : (SourceColumn → Value) → Bool
  target_test v = own_test mapped class v

  -- a row of the target to which a pair leads
  pub is_paired_row : (key : List Value) (ranks : Choice) (pair : Row) → IsOwn mapped class tables ranks → Has pairs pair → equals_key (cells_near pair) key ≡ true → key_in mapped class ranks 0 ≡ cells_far pair → has_null (cells_far pair) ≡ false
      → Has (paired_rows mapped relation far all pairs key) (map (chosen ranks) items)
  is_paired_row key ranks pair one there near same given =
      let row : Row = map (chosen ranks) items in
      let leads_there : is_pair_of mapped relation far key row pair ≡ true =
      ap (λ (b : Bool). b && equals_key (cells_far pair) (row_key mapped class row)) near
      ∙ equal_itself (cells_far pair) (row_key mapped class row) (sym (row_key_is mapped class known paired.has ranks ∙ same)) (ap has_null (row_key_is mapped class known paired.has ranks ∙ same) ∙ given) in
      has_filter (λ r. list_any (is_pair_of mapped relation far key r) pairs) all row (own_row mapped class tables all stage ranks one) (any_has (is_pair_of mapped relation far key row) pairs pair there leads_there)

  -- and what is known of each such row
  pub record IsLedTo (key : List Value) (row : Row) : Type 0 where
    pub ranks : Choice
    pub is_own : IsOwn mapped class tables ranks
    pub is : row ≡ map (chosen ranks) items
    pub pair : Row
    pub there : Has pairs pair
    pub near : equals_key (cells_near pair) key ≡ true
    pub ranked : AreRanked mapped class tables ranks (cells_far pair)
    pub given : has_null (cells_far pair) ≡ false

  pub led_to_row : (key : List Value) (row : Row) → Has (paired_rows mapped relation far all pairs key) row → IsLedTo key row
  led_to_row key row among =
      let kept = from_filter (λ r. list_any (is_pair_of mapped relation far key r) pairs) all row among in
      let found = some_of (is_pair_of mapped relation far key row) pairs kept.1 in
      let one = row_own mapped class tables all stage row kept.0 in
      let both = and_parts (equals_key (cells_near found.0) key) (equals_key (cells_far found.0) (row_key mapped class row)) found.2 in
      let root_key_is : row_key mapped class row ≡ key_in mapped class one.0 0 = ap (row_key mapped class) one.2 ∙ row_key_is mapped class known paired.has one.0 in
      let same = equal_both (cells_far found.0) (key_in mapped class one.0 0) (cells_long found.0 ∙ sym (rank_long mapped class known one.0 0 root (root_there mapped class known))) (ap (equals_key (cells_far found.0)) (sym root_key_is) ∙ both.1) in
      record {
        ranks = one.0;
        is_own = one.1;
        is = one.2;
        pair = found.0;
        there = found.1;
        near = both.0;
        ranked = own_ranked mapped class known tables one.0 one.1.head one.1.meets (cells_far found.0) (sym same.same);
        given = ap has_null same.same ∙ same.known;
      }

  -- ---- the members of one owner

  abbrev last : ℕ
  last = length own

  abbrev pair_tie : Tie
  pair_tie = record { table = second; ones = columns_at (place_of_table mapped class plain led_to) (key_numbers mapped led_to); others = columns_at last (foreign_numbers mapped far) }

  abbrev member_ties : List Tie
  member_ties = target_ties ++ pair_tie ∷ []

  abbrev near_columns : ℕ → List SourceColumn
  near_columns place = pair_columns mapped relation place

  last_place : 1 + length target_ties ≡ last
  last_place = by (length own) (length target_ties) refl (count_behind mapped class plain own 0 1 (own_before mapped class))
    where
      some : 0 < length own
      some = slice_get_within own 0 root (root_there mapped class known)

      by : (n m : ℕ) → length own ≡ n → ((1 + m ≡ 0 + 1 + (0 + length own)) × (0 + length own ≤ 0)) ⊎ ((1 + m ≡ 0 + (0 + length own)) × (0 < 0 + length own)) → 1 + m ≡ n
      by n m long (inl c) = absurd (omega (arith, some, c.1))
      by n m long (inr c) = omega (arith, c.0, long)

  further_tied : other_tables mapped class plain ++ secondary_behind mapped relation far last ∷ [] ≡ map joined_where member_ties
  unfolding referred_place
  further_tied = ap (λ (further : List Further). further ++ secondary_behind mapped relation far last ∷ []) (others_tied mapped class) ∙ sym (map-append joined_where target_ties (pair_tie ∷ []))

  abbrev member_conditions : List Value → List Expr
  member_conditions key = has_values (near_columns last) key ++ own_branch

  abbrev member_test : List Value → (SourceColumn → Value) → Bool
  member_test key v = equals_key (map v (near_columns last)) key && target_test v

  abbrev member_select : List Value → Select
  member_select key = select_of root (map joined_where member_ties) items (member_conditions key)

  members_are : (key : List Value) → members_select mapped relation key ≡ member_select key
  unfolding members_select
  members_are key = ap (members_by mapped relation key) paired.far_is ∙ ap (λ (further : List Further). select_of root further items (member_conditions key)) further_tied

  module _ (key : List Value) (keyed : is_key (root_spec mapped relation.class) key ≡ true) where
    member_inside : HasInside mapped.schema root member_ties items (member_conditions key)
    member_inside =
        inside_of mapped.schema root member_ties items (member_conditions key) (subst (IsPlainSelect mapped.schema) (members_are key) (members_are_plain mapped relation key paired.has paired.related paired.many keyed))

    abbrev member_scope : List TableId
    member_scope = root ∷ map (λ (tie : Tie). tie.table) member_ties

    member_local : IsLocal mapped.schema member_scope (member_conditions key) (member_test key)
    member_local =
        let fit = split_every (Fit mapped.schema member_scope) (has_values (near_columns last) key) own_branch member_inside.conditions_in in
        record {
          tests = λ f. key_tests f (near_columns last) key own_branch (λ row. target_test (value_at f row)) (branch_tests mapped class plain f);
          local = λ u v same.
              ap (λ (b : Bool). b && target_test u) (values_local mapped member_scope u v (near_columns last) key same fit.0)
              ∙ ap (λ (b : Bool). equals_key (map v (near_columns last)) key && b) (branch_local mapped class plain member_scope fit.1 u v same);
        }

    module _ (rows : List Row) (answered : answer mapped.schema tables (member_select key) ≡ Ok rows) where
      -- an answered row is one to which a pair leads
      member_led : (row : Row) → Has rows row → Has (paired_rows mapped relation far all pairs key) row
      member_led row there =
          let one =
          chosen_row mapped.schema tables root member_ties items (member_conditions key) (member_test key) paired.held member_inside.ties_in member_inside.items_in member_local rows answered row there in
          let choice : Choice = one.0 in
          let split = placed_split (Meet tables choice) 1 target_ties (pair_tie ∷ []) one.1.meets in
          let pair : Row = choice last in
          let pair_there : Has pairs pair = subst (λ (p : ℕ). Has pairs (choice p)) last_place split.1.0.0 in
          let tests = and_parts (equals_key (map (chosen choice) (near_columns last)) key) (target_test (chosen choice)) one.1.passes in
          let lead_is : map (chosen choice) pair_tie.ones ≡ key_in mapped class choice lead = lead_key mapped class lead led_to leads choice choice (place_of_table mapped class plain led_to) (ap choice (rank_is lead)) in
          let far_is : map (chosen choice) pair_tie.others ≡ cells_far pair = numbers_chosen choice last pair (foreign_numbers mapped far) refl in
          let tied : equals_key (key_in mapped class choice lead) (cells_far pair) ≡ true =
          sym (ap (λ (k : List Value). equals_key k (map (chosen choice) pair_tie.others)) lead_is ∙ ap (equals_key (key_in mapped class choice lead)) far_is) ∙ split.1.0.1 in
          let same = equal_both (key_in mapped class choice lead) (cells_far pair) (rank_long mapped class known choice lead led_to leads ∙ sym (cells_long pair)) tied in
          let own_one : IsOwn mapped class tables choice = record { head = one.1.head; meets = split.0; passes = tests.1 } in
          subst (Has (paired_rows mapped relation far all pairs key)) (sym one.2)
          (is_paired_row key choice pair own_one pair_there (ap (λ (k : List Value). equals_key k key) (sym (numbers_chosen choice last pair (foreign_numbers mapped relation.foreign) refl)) ∙ tests.0)
          (sym ((own_ranked mapped class known tables choice one.1.head split.0 (key_in mapped class choice 0) refl).keys lead led_to leads) ∙ same.same) same.known)

      -- and each such row is answered
      led_member : (row : Row) → Has (paired_rows mapped relation far all pairs key) row → Has rows row
      led_member row among =
          let led = led_to_row key row among in
          let choice : Choice = with_row led.ranks last led.pair in
          let put : choice last ≡ led.pair = put_there led.ranks last led.pair in
          let below : (rank : ℕ) → rank < last → choice rank ≡ led.ranks rank = put_elsewhere led.ranks last led.pair in
          let at : (rank : ℕ) (table : TableId) → slice_get own rank ≡ Some table → choice (place_at_rank plain rank) ≡ led.ranks rank = λ rank table here. ap choice (rank_is rank) ∙ below rank (slice_get_within own rank table here) in
          let meets_own = to_places mapped class plain (Meet tables choice) own 0 1 (own_before mapped class) (ranks_meet mapped class plain tables choice led.ranks (cells_far led.pair) root (root_there mapped class known) led.given led.ranked at) in
          let lead_is : map (chosen choice) pair_tie.ones ≡ cells_far led.pair =
          lead_key mapped class lead led_to leads choice led.ranks (place_of_table mapped class plain led_to) (at lead led_to leads) ∙ led.ranked.keys lead led_to leads in
          let far_is : map (chosen choice) pair_tie.others ≡ cells_far led.pair = numbers_chosen choice last led.pair (foreign_numbers mapped far) put in
          let tied : are_tied choice pair_tie ≡ true = equal_itself (map (chosen choice) pair_tie.ones) (map (chosen choice) pair_tie.others) (lead_is ∙ sym far_is) (ap has_null far_is ∙ led.given) in
          let pair_meets : Meets tables choice (1 + length target_ties) (pair_tie ∷ []) =
          subst (λ (p : ℕ). Meets tables choice p (pair_tie ∷ [])) (sym last_place) ((subst (Has pairs) (sym put) led.there, tied), tt) in
          let branch : target_test (chosen choice) ≡ true =
          branch_alike mapped class plain plain (chosen choice) (chosen led.ranks)
          (λ bare n named. ap (λ (r : Row). item_or_null (slice_get r (discriminator_column mapped class plain n).column.0)) (at 0 root (root_there mapped class known) ∙ ap led.ranks (sym (rank_is 0)))) ∙ led.is_own.passes in
          let near : equals_key (map (chosen choice) (near_columns last)) key ≡ true = ap (λ (k : List Value). equals_key k key) (numbers_chosen choice last led.pair (foreign_numbers mapped relation.foreign) put) ∙ led.near in
          let one : IsChoice tables root member_ties (member_test key) choice = record {
            head = subst (Has (rows_in tables root.0)) (sym (below 0 (slice_get_within own 0 root (root_there mapped class known)))) led.is_own.head;
            meets = placed_join (Meet tables choice) 1 target_ties (pair_tie ∷ []) meets_own pair_meets;
            passes = ap (λ (b : Bool). b && target_test (chosen choice)) near ∙ branch;
          } in
          subst (Has rows) (attributes_chosen mapped class plain choice led.ranks at (attribute_ranked mapped class) ∙ sym led.is)
          (choice_row mapped.schema tables root member_ties items (member_conditions key) (member_test key) paired.held member_inside.ties_in member_inside.items_in member_local rows answered choice one)

  pub members_paired : (key : List Value) (rows : List Row) → is_key (root_spec mapped relation.class) key ≡ true → answer mapped.schema tables (members_select mapped relation key) ≡ Ok rows
      → HaveSame rows (paired_rows mapped relation far all pairs key)
  members_paired key rows keyed answered =
      let same : answer mapped.schema tables (member_select key) ≡ Ok rows = ap (answer mapped.schema tables) (sym (members_are key)) ∙ answered in
      have_same rows (paired_rows mapped relation far all pairs key) (member_led key keyed rows same) (led_member key keyed rows same)

  -- ---- the members of several owners

  abbrev behind : Placement
  behind = record { leading = lead; first = 1 }

  abbrev lead_tie : Tie
  lead_tie = record { table = led_to; ones = columns_at 1 (key_numbers mapped led_to); others = columns_at 0 (foreign_numbers mapped far) }

  abbrev batch_ties : List Tie
  batch_ties = lead_tie ∷ ties_behind mapped class behind 0 own

  abbrev batch_items : List SourceColumn
  batch_items = near_columns 0 ++ attribute_columns mapped class behind

  abbrev batch_branch : List Expr
  batch_branch = is_of_branch mapped class behind

  abbrev batch_conditions : List (List Value) → List Expr
  batch_conditions held = has_one_of (near_columns 0) held ++ batch_branch

  abbrev batch_test : List (List Value) → (SourceColumn → Value) → Bool
  batch_test held v = equals_some held (map v (near_columns 0)) && branch_test mapped class behind v

  abbrev batch_plain : List (List Value) → Select
  batch_plain held = select_of second (map joined_where batch_ties) batch_items (batch_conditions held)

  -- the select with another table that leads
  abbrev led_by : List (List Value) → TableId → Select
  led_by held table =
      select_of second (record { table = table; on = refers mapped far 1 0 } ∷ other_tables mapped class (record { leading = rank_of mapped class table; first = 1 }))
      (near_columns 0 ++ attribute_columns mapped class (record { leading = rank_of mapped class table; first = 1 }))
      (has_one_of (near_columns 0) held ++ is_of_branch mapped class (record { leading = rank_of mapped class table; first = 1 }))

  batch_is : (held : List (List Value)) → batch_select mapped relation held ≡ batch_plain held
  unfolding batch_select
  batch_is held =
      ap (batch_by mapped relation held) paired.far_is
      ∙ ap (led_by held) (ap (leading_by mapped relation) paired.far_is)
      ∙ ap (λ (further : List Further). select_of second (record { table = led_to; on = refers mapped far 1 0 } ∷ further) batch_items (batch_conditions held)) (sources_tied mapped class behind 0 own)

  abbrev width : ℕ
  width = owner_width mapped relation

  width_is : width ≡ length (foreign_numbers mapped relation.foreign)
  width_is = ap (owner_width_by mapped relation) paired.far_is

  -- the row of a choice: the pair's key of the owner, and the row of the target
  batch_row : (choice ranks : Choice) → ((rank : ℕ) (table : TableId) → slice_get own rank ≡ Some table → choice (place_at_rank behind rank) ≡ ranks rank) → map (chosen choice) batch_items ≡ cells_near (choice 0) ++ map (chosen ranks) items
  batch_row choice ranks at =
      map-append (chosen choice) (near_columns 0) (attribute_columns mapped class behind)
      ∙ ap (λ (front : List Value). front ++ map (chosen choice) (attribute_columns mapped class behind)) (numbers_chosen choice 0 (choice 0) (foreign_numbers mapped relation.foreign) refl)
      ∙ ap (λ (rest : List Value). cells_near (choice 0) ++ rest) (attributes_chosen mapped class behind choice ranks at (attribute_ranked mapped class))

  behind_before : ((2 ≡ 1 + 1 + 0) × (0 ≤ lead)) ⊎ ((2 ≡ 1 + 0) × (lead < 0))
  behind_before = inl (omega arith, omega arith)

  -- the choice of the target's rows in one of the batch
  module _ (choice : Choice) (lead_row : Has (rows_in tables led_to.0) (choice 1)) (lead_tied : are_tied choice lead_tie ≡ true) (meets : Meets tables choice 2 (ties_behind mapped class behind 0 own)) where
    abbrev by_rank : Choice
    by_rank = λ rank. choice (place_at_rank behind rank)

    others_behind : OthersMeet mapped class behind tables choice 0 own
    others_behind = from_places mapped class behind (Meet tables choice) own 0 2 behind_before meets

    abbrev far_cells : List Value
    far_cells = cells_far (choice 0)

    lead_one : (key_in mapped class by_rank lead ≡ far_cells) × (has_null far_cells ≡ false)
    lead_one =
        let at : choice 1 ≡ by_rank lead = ap choice (sym (lead_place mapped class behind lead refl)) in
        let one : map (chosen choice) lead_tie.ones ≡ key_in mapped class by_rank lead = lead_key mapped class lead led_to leads choice by_rank 1 at in
        let other : map (chosen choice) lead_tie.others ≡ far_cells = numbers_chosen choice 0 (choice 0) (foreign_numbers mapped far) refl in
        let tied : equals_key (key_in mapped class by_rank lead) far_cells ≡ true =
        sym (ap (λ (k : List Value). equals_key k (map (chosen choice) lead_tie.others)) one ∙ ap (equals_key (key_in mapped class by_rank lead)) other) ∙ lead_tied in
        let same = equal_both (key_in mapped class by_rank lead) far_cells (rank_long mapped class known by_rank lead led_to leads ∙ sym (cells_long (choice 0))) tied in
        (same.same, same.known)

    far_ranked : AreRanked mapped class tables by_rank far_cells
    far_ranked =
        subst (AreRanked mapped class tables by_rank) lead_one.0
        (behind_ranked mapped class known behind led_to leads tables choice lead_row others_behind)

    behind_own : branch_test mapped class behind (chosen choice) ≡ true → IsOwn mapped class tables by_rank
    behind_own passes =
        ranked_own mapped class known tables by_rank far_cells far_ranked lead_one.1
        (branch_alike mapped class plain behind (chosen by_rank) (chosen choice)
        (λ bare n named. ap (λ (r : Row). item_or_null (slice_get r (discriminator_column mapped class behind n).column.0)) (ap by_rank (rank_is 0))) ∙ passes)

  module _ (held : List (List Value)) (some : 0 < length held) (keyed : All (λ one. is_key (root_spec mapped relation.class) one ≡ true) held) where
    each_keyed : AllByRecursion (λ one. is_key (root_spec mapped relation.class) one ≡ true) held
    each_keyed = recursion_from_All (λ one. is_key (root_spec mapped relation.class) one ≡ true) held keyed

    held_long : (key : List Value) → Has held key → length key ≡ length (foreign_numbers mapped relation.foreign)
    held_long key there = owner_key_long key (every_has (λ one. is_key (root_spec mapped relation.class) one ≡ true) held key each_keyed there)

    all_long : (more : List (List Value)) → ((key : List Value) → Has more key → length key ≡ length (foreign_numbers mapped relation.foreign)) → AreLong (near_columns 0) more
    all_long [] long = tt
    all_long (key ∷ more) long = (length-map (foreign_numbers mapped relation.foreign) (column_at 0) ∙ sym (long key (inl refl)), all_long more (λ k there. long k (inr there)))

    batch_inside : HasInside mapped.schema second batch_ties batch_items (batch_conditions held)
    batch_inside =
        inside_of mapped.schema second batch_ties batch_items (batch_conditions held)
        (subst (IsPlainSelect mapped.schema) (batch_is held) (batch_is_plain mapped relation held paired.has paired.related paired.many some keyed))

    abbrev batch_scope : List TableId
    batch_scope = second ∷ map (λ (tie : Tie). tie.table) batch_ties

    batch_local : IsLocal mapped.schema batch_scope (batch_conditions held) (batch_test held)
    batch_local =
        let fit = split_every (Fit mapped.schema batch_scope) (has_one_of (near_columns 0) held) batch_branch batch_inside.conditions_in in
        let near = split_every (IsInside mapped.schema batch_scope) (near_columns 0) (attribute_columns mapped class behind) batch_inside.items_in in
        record {
          tests = λ f. keys_tests f (near_columns 0) held batch_branch (λ row. branch_test mapped class behind (value_at f row)) (all_long held held_long) (branch_tests mapped class behind f);
          local = λ u v same.
              ap (λ (values : List Value). equals_some held values && branch_test mapped class behind u) (all_inside mapped.schema batch_scope u v (near_columns 0) same near.0)
              ∙ ap (λ (b : Bool). equals_some held (map v (near_columns 0)) && b) (branch_local mapped class behind batch_scope fit.1 u v same);
        }

    module _ (key : List Value) (among : list_any (same_values key) held ≡ true) (rows : List Row) (answered : answer mapped.schema tables (batch_plain held) ≡ Ok rows) where
      -- a row under the key is one to which a pair leads
      batch_led : (row : Row) → Has (rows_under mapped relation rows key) row → Has (paired_rows mapped relation far all pairs key) row
      batch_led row there =
          let from = from_map (drop width) (filter (λ r. same_values (first_values width r) key) rows) row there in
          let kept = from_filter (λ r. same_values (first_values width r) key) rows from.0 from.1 in
          let one =
          chosen_row mapped.schema tables second batch_ties batch_items (batch_conditions held) (batch_test held) paired.held batch_inside.ties_in batch_inside.items_in batch_local rows answered from.0 kept.0 in
          let choice : Choice = one.0 in
          let first = one.1.meets.0 in
          let ranks : Choice = λ rank. choice (place_at_rank behind rank) in
          let tests = and_parts (equals_some held (map (chosen choice) (near_columns 0))) (branch_test mapped class behind (chosen choice)) one.1.passes in
          let pair : Row = choice 0 in
          let cut = cut_front (cells_near pair) (map (chosen ranks) items) width (near_long pair ∙ sym width_is) in
          let whole : from.0 ≡ cells_near pair ++ map (chosen ranks) items = one.2 ∙ batch_row choice ranks (λ rank table here. refl) in
          let front : first_values width from.0 ≡ cells_near pair = ap (first_values width) whole ∙ cut.0 in
          let owner : cells_near pair ≡ key = same_equal (cells_near pair) key (ap (λ (k : List Value). same_values k key) (sym front) ∙ kept.1) in
          let behind_it : row ≡ map (chosen ranks) items = sym from.2 ∙ ap (drop width) whole ∙ cut.1 in
          let near : map (chosen choice) (near_columns 0) ≡ cells_near pair = numbers_chosen choice 0 pair (foreign_numbers mapped relation.foreign) refl in
          let found = some_of (equals_key (cells_near pair)) held (ap (equals_some held) (sym near) ∙ tests.0) in
          let same = equal_both (cells_near pair) found.0 (near_long pair ∙ sym (held_long found.0 found.1)) found.2 in
          let given : has_null key ≡ false = ap has_null (sym owner ∙ same.same) ∙ same.known in
          let led = lead_one choice first.0 first.1 one.1.meets.1 in
          subst (Has (paired_rows mapped relation far all pairs key)) (sym behind_it)
          (is_paired_row key ranks pair (behind_own choice first.0 first.1 one.1.meets.1 tests.1) one.1.head (equal_itself (cells_near pair) key owner given) ((far_ranked choice first.0 first.1 one.1.meets.1).keys 0 root (root_there mapped class known)) led.1)

      -- and each such row stands under the key
      led_batch : (row : Row) → Has (paired_rows mapped relation far all pairs key) row → Has (rows_under mapped relation rows key) row
      led_batch row there =
          let led = led_to_row key row there in
          let choice : Choice = turned (λ k. led.pair) led.ranks lead 1 in
          let at : (rank : ℕ) (table : TableId) → slice_get own rank ≡ Some table → choice (place_at_rank behind rank) ≡ led.ranks rank = λ rank table here. turned_at (λ k. led.pair) led.ranks lead 1 mapped class rank in
          let lead_is : map (chosen choice) lead_tie.ones ≡ cells_far led.pair = lead_key mapped class lead led_to leads choice led.ranks 1 refl ∙ led.ranked.keys lead led_to leads in
          let far_is : map (chosen choice) lead_tie.others ≡ cells_far led.pair = numbers_chosen choice 0 led.pair (foreign_numbers mapped far) refl in
          let tied : are_tied choice lead_tie ≡ true = equal_itself (map (chosen choice) lead_tie.ones) (map (chosen choice) lead_tie.others) (lead_is ∙ sym far_is) (ap has_null far_is ∙ led.given) in
          let others = to_places mapped class behind (Meet tables choice) own 0 2 behind_before (ranks_meet mapped class behind tables choice led.ranks (cells_far led.pair) led_to leads led.given led.ranked at) in
          let found = some_of (same_values key) held among in
          let key_is : key ≡ found.0 = same_equal key found.0 found.2 in
          let long : length key ≡ length (foreign_numbers mapped relation.foreign) = ap (λ (k : List Value). length k) key_is ∙ held_long found.0 found.1 in
          let owner = equal_both (cells_near led.pair) key (near_long led.pair ∙ sym long) led.near in
          let near : map (chosen choice) (near_columns 0) ≡ cells_near led.pair = numbers_chosen choice 0 led.pair (foreign_numbers mapped relation.foreign) refl in
          let held_one : equals_some held (map (chosen choice) (near_columns 0)) ≡ true =
          ap (equals_some held) near ∙ any_has (equals_key (cells_near led.pair)) held found.0 found.1 (subst (λ (k : List Value). equals_key (cells_near led.pair) k ≡ true) key_is led.near) in
          let branch : branch_test mapped class behind (chosen choice) ≡ true =
          branch_alike mapped class behind plain (chosen choice) (chosen led.ranks)
          (λ bare n named. ap (λ (r : Row). item_or_null (slice_get r (discriminator_column mapped class plain n).column.0)) (at 0 root (root_there mapped class known) ∙ ap led.ranks (sym (rank_is 0)))) ∙ led.is_own.passes in
          let one : IsChoice tables second batch_ties (batch_test held) choice = record {
            head = led.there;
            meets = ((led.ranked.rows lead led_to leads, tied), others);
            passes = ap (λ (b : Bool). b && branch_test mapped class behind (chosen choice)) held_one ∙ branch;
          } in
          let whole : map (chosen choice) batch_items ≡ cells_near led.pair ++ map (chosen led.ranks) items = batch_row choice led.ranks at in
          let cut = cut_front (cells_near led.pair) (map (chosen led.ranks) items) width (near_long led.pair ∙ sym width_is) in
          let in_rows : Has rows (cells_near led.pair ++ map (chosen led.ranks) items) =
          subst (Has rows) whole (choice_row mapped.schema tables second batch_ties batch_items (batch_conditions held) (batch_test held) paired.held batch_inside.ties_in batch_inside.items_in batch_local rows answered choice one) in
          let passes_key : same_values (first_values width (cells_near led.pair ++ map (chosen led.ranks) items)) key ≡ true =
          ap (λ (k : List Value). same_values k key) (cut.0 ∙ owner.same) ∙ same_equiv.refl key in
          subst (Has (rows_under mapped relation rows key)) (cut.1 ∙ sym led.is)
          (has_map (drop width) (filter (λ r. same_values (first_values width r) key) rows) (cells_near led.pair ++ map (chosen led.ranks) items)
          (has_filter (λ r. same_values (first_values width r) key) rows (cells_near led.pair ++ map (chosen led.ranks) items) in_rows passes_key))

  some_held : (held : List (List Value)) (key : List Value) → list_any (same_values key) held ≡ true → 0 < length held
  some_held [] key h = absurd cc
  some_held (one ∷ held) key h = omega arith

  pub batch_paired : (held : List (List Value)) (key : List Value) (rows : List Row) → All (λ one. is_key (root_spec mapped relation.class) one ≡ true) held → list_any (same_values key) held ≡ true
      → answer mapped.schema tables (batch_select mapped relation held) ≡ Ok rows → HaveSame (rows_under mapped relation rows key) (paired_rows mapped relation far all pairs key)
  batch_paired held key rows keyed among answered =
      let same : answer mapped.schema tables (batch_plain held) ≡ Ok rows = ap (answer mapped.schema tables) (sym (batch_is held)) ∙ answered in
      have_same (rows_under mapped relation rows key) (paired_rows mapped relation far all pairs key) (batch_led held (some_held held key among) keyed key among rows same) (led_batch held (some_held held key among) keyed key among rows same)
