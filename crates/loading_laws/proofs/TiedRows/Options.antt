-- Several joined options: each gives its rows of a main select what it gives alone, behind whatever the others put before and after it.
use Rattle.std.proofs.Common.{◌≡◌, ◌⊎◌, inl, inr, ℕ, zero, suc, ◌+◌, ◌-◌, ◌<◌, Bool, true, ◌&&◌, List, [], ◌∷◌, ◌++◌, drop, filter, take, length, map, Option, Some, is_some, if◌then◌else◌, refl, sym, ap, subst, ◌∙◌, arith, append_assoc}
use Rattle.std.specs.Prelude.{slice_get}
use Rattle.std.specs.List.{AllByRecursion, enumerate_from, range_with_len}
use Rattle.std.specs.Option.{option_and_then}
use Rattle.std.proofs.lemmas.Bool.{and_parts}
use Rattle.std.proofs.lemmas.List.{length-append, length-map, map-append}
use Rattle.std.proofs.lemmas.Option.{slice_get-get_or, slice_get_within}
use Rattle.base_core.specs.declared.ids.AttrNo.{AttrNo}
use Rattle.base_core.specs.declared.ids.ClassId.{ClassId}
use Rattle.base_core.specs.declared.ids.RelNo.{RelNo}
use Rattle.base_core.specs.declared.ids.TableId.{TableId}
use Rattle.base_core.specs.declared.value.Value.{Value}
use Rattle.base_core.proofs.Lists.{get_before}
use Rattle.schema_core.specs.Tables.{value_or_null}
use Rattle.expr_types.specs.declared.expr.Origin.{Origin}
use Rattle.sql_semantics.specs.Eval.{Row, Tables, item_or_null}
use Rattle.sql_semantics.specs.Kinds.{Scope}
use Rattle.sql_semantics.specs.Shapes.{AreLegalRows, AreRows}
use Rattle.class_types.specs.declared.mapped.Attribute.{Attribute}
use Rattle.class_types.specs.declared.mapped.Relation.{Relation}
use Rattle.class_layouts.specs.Columns.{attr_at, is_key}
use Rattle.class_sides.specs.Keys.{TableKey}
use Rattle.class_sides.specs.Pairs.{differ}
use Rattle.class_mapping.specs.Mapped.{Mapped, attributes_of, key_attributes, no_table_id, relations_of, tables_of}
use Rattle.class_mapping.specs.Paired.{IsBack}
use Rattle.class_mapping.specs.Related.{AreRelated, IsRelated}
use Rattle.class_mapping.proofs.Having.{Has, from_filter, from_flat, from_map, from_numbered, has_flat, has_map}
use Rattle.object_arena.specs.Fit.{no_relation, relation_of}
use Rattle.load_columns.specs.declared.placing.Placement.{Placement}
use Rattle.load_columns.specs.declared.placing.SourceColumn.{SourceColumn}
use Rattle.load_columns.specs.Placing.{attribute_column, attribute_columns, column_at, from_root, key_at_rank, key_numbers, place_at_rank, rank_of, table_at_rank}
use Rattle.load_selects.specs.declared.sources.Further.{Further}
use Rattle.load_selects.specs.Selects.{origin_of}
use Rattle.load_selects.specs.Sources.{target_placement}
use Rattle.load_filling.specs.Rows.{row_key, value_in}
use Rattle.collection_selects.proofs.Placed.{at_more}
use Rattle.main_selects.specs.MainSelect.{further_count, further_keys, option_columns, option_sources}
use Rattle.joined_rows.specs.declared.parts.Part.{Part}
use Rattle.joined_rows.specs.Parts.{option_width, own_values, part_at, part_from, parts_from, values_from, width_of}
use Rattle.joined_rows.proofs.Widening.{columns_alike, table_of}
use Rattle.loading_laws.proofs.MainSelects.Referring.{declared_above}
use Rattle.joined_rows.specs.Taking.{are_given, has_target}
use Rattle.loading_laws.specs.Answers.Answers.{AreRowsOf}
use Rattle.loading_laws.proofs.Members.Choices.{Tie}
use Rattle.loading_laws.proofs.Members.Owned.{attribute_ranked}
use Rattle.loading_laws.specs.Wide.Parts.{cell, cells}
use Rattle.loading_laws.specs.Wide.Partners.{partners}
use Rattle.loading_laws.specs.Wide.Answers.{AreWideIn, options_columns, options_sources}
use Rattle.loading_laws.proofs.Wide.Lefts.{partners_append, partners_some}
use Rattle.loading_laws.proofs.Wide.Places.{wide_long}
use Rattle.loading_laws.specs.TiedRows.{KeyReader, ReadsKeys, tied_at}
use Rattle.loading_laws.proofs.TiedRows.Behind.{left_source}
use Rattle.loading_laws.proofs.TiedRows.EachKind.{IsBehindOwner, member_tied, tied_member}
use Rattle.loading_laws.proofs.TiedRows.Owners.{IsOwner, StandsFirst, owner_more}
use Rattle.loading_laws.proofs.TiedRows.Partnered.{member_at, partner_wide, place_below}
use Rattle.loading_laws.proofs.TiedRows.Ranked.{IsOption}
use Rattle.loading_laws.proofs.TiedRows.Sources.{option_ties, sources_are}

-- ---- lists

drop_first : (xs ys : Row) (n : ℕ) → length xs ≡ n → drop n (xs ++ ys) ≡ ys
drop_first xs ys n long = ap (λ (k : ℕ). drop k (xs ++ ys)) (sym long) ∙ by xs
  where
    by : (zs : Row) → drop (length zs) (zs ++ ys) ≡ ys
    by [] = refl
    by (z ∷ zs) = by zs

take_first : (xs ys : Row) (n : ℕ) → length xs ≡ n → take n (xs ++ ys) ≡ xs
take_first xs ys n long = ap (λ (k : ℕ). take k (xs ++ ys)) (sym long) ∙ by xs
  where
    by : (zs : Row) → take (length zs) (zs ++ ys) ≡ zs
    by [] = refl
    by (z ∷ zs) = ap (λ (rest : Row). z ∷ rest) (by zs)

some_has : {A : Type 0} (xs : List A) → 0 < length xs → (x : A) × Has xs x
some_has [] some = absurd (omega (arith, some))
some_has (x ∷ xs) some = (x, inl refl)

from_range : (from n r : ℕ) → Has (range_with_len from n) r → (k : ℕ) × (r ≡ from + k) × (k < n)
from_range from zero r there = absurd there
from_range from (suc n) r (inl e) = (0, omega (arith, e), omega arith)
from_range from (suc n) r (inr more) = let rest = from_range (from + 1) n r more in let e = rest.1 in let less = rest.2 in (suc rest.0, omega (arith, e), omega (arith, less))

-- ---- columns of the first sources

cell_first : (base others : List Row) (column : SourceColumn) → column.source < length base → cell (base ++ others) column ≡ cell base column
cell_first base others column less = ap (λ (found : Option Row). item_or_null (option_and_then (λ (row : Row). slice_get row column.column.0) found)) (get_before base others column.source less)

cells_first : (base others : List Row) (columns : List SourceColumn) → ((column : SourceColumn) → Has columns column → column.source < length base) → cells columns (base ++ others) ≡ cells columns base
cells_first base others [] below = refl
cells_first base others (column ∷ columns) below =
    ap (λ (v : Value). v ∷ cells columns (base ++ others)) (cell_first base others column (below column (inl refl)))
    ∙ ap (λ (vs : Row). cell base column ∷ vs) (cells_first base others columns (λ one there. below one (inr there)))

values_first : (values rest : Row) (attrs : List AttrNo) → ((attr : AttrNo) → Has attrs attr → attr.0 < length values) → map (value_in (values ++ rest)) attrs ≡ map (value_in values) attrs
values_first values rest [] within = refl
values_first values rest (attr ∷ attrs) within =
    ap (λ (v : Value). v ∷ map (value_in (values ++ rest)) attrs) (ap value_or_null (get_before values rest attr.0 (within attr (inl refl))))
    ∙ ap (λ (vs : List Value). value_in values attr ∷ vs) (values_first values rest attrs (λ one there. within one (inr there)))

-- the key of a row of a class looks at the class's attributes alone
pub row_key_first : (mapped : Mapped) (class : ClassId) (values rest : Row) → length values ≡ width_of mapped class → row_key mapped class (values ++ rest) ≡ row_key mapped class values
row_key_first mapped class values rest long =
    values_first values rest (key_attributes mapped class) (λ attr there.
    let keyed : List (ℕ × Attribute) = filter (λ (one : ℕ × Attribute). is_key mapped.schema.tables one.1) (enumerate_from 0 (attributes_of mapped class)) in
    let from = from_map attr_at keyed attr there in
    let kept = from_filter (λ (one : ℕ × Attribute). is_key mapped.schema.tables one.1) (enumerate_from 0 (attributes_of mapped class)) from.0 from.1 in
    let numbered = from_numbered 0 (attributes_of mapped class) from.0 kept.0 in
    let less = slice_get_within (attributes_of mapped class) numbered.0 from.0.1 numbered.2 in
    let place = numbered.1 in
    subst (λ (one : AttrNo). one.0 < length values) from.2 (omega (arith, less, place, long)))

-- ---- one option among others

module _ (mapped : Mapped) (class : ClassId) (relation : Relation) (first : List Origin) (tables : Tables) (option : IsOption mapped class relation first) (held : AreRows mapped.schema tables) (rows : List Row) (wide : AreWideIn mapped.schema (map table_of first) rows) where
  abbrev count : ℕ
  count = length first

  abbrev target : ClassId
  target = relation.target

  abbrev placement : Placement
  placement = target_placement mapped relation count

  abbrev adding : List Further
  adding = option_sources mapped class relation count

  abbrev attributes : List SourceColumn
  attributes = attribute_columns mapped target placement

  abbrev keys : List SourceColumn
  keys = further_keys mapped target placement

  -- the tables that it adds
  abbrev pub added : List Origin
  added = map (λ (tie : Tie). origin_of tie.table) (option_ties mapped class relation count)

  added_tables : (ties : List Tie) → map table_of (map (λ (tie : Tie). origin_of tie.table) ties) ≡ map (λ (tie : Tie). tie.table) ties
  added_tables [] = refl
  added_tables (tie ∷ ties) = ap (λ (found : List TableId). tie.table ∷ found) (added_tables ties)

  pub added_long : length adding ≡ length (option_ties mapped class relation count)
  added_long = ap (λ (found : List Further). length found) (sources_are mapped class relation count) ∙ length-map (option_ties mapped class relation count) (left_source mapped target placement)

  pub first_long : length (first ++ added) ≡ count + length adding
  first_long =
      let all = length-append first added in
      let ties = length-map (option_ties mapped class relation count) (λ (tie : Tie). origin_of tie.table) in
      let sources = added_long in
      omega (arith, all, ties, sources)

  module _ (now : List Row) (there : Has (partners mapped.schema tables adding rows) now) where
    pub wide_more : AreWideIn mapped.schema (map table_of (first ++ added)) (rows ++ now)
    wide_more =
        subst (λ (scope : Scope). AreWideIn mapped.schema scope (rows ++ now))
        (sym (map-append table_of first added ∙ ap (λ (found : List TableId). map table_of first ++ found) (added_tables (option_ties mapped class relation count))))
        (partner_wide mapped class relation first tables option held rows wide now there)

    rows_long : length (rows ++ now) ≡ count + length adding
    rows_long = wide_long mapped.schema (map table_of (first ++ added)) (rows ++ now) wide_more ∙ length-map (first ++ added) table_of ∙ first_long

    below : (rank : ℕ) (table : TableId) → slice_get (tables_of mapped target) rank ≡ Some table → place_at_rank placement rank < length (rows ++ now)
    below rank table here =
        let less = place_below mapped class relation first tables option held rows wide rank table here in
        let long = rows_long in
        let sources = added_long in
        omega (arith, less, long, sources)

    attribute_below : (column : SourceColumn) → Has attributes column → column.source < length (rows ++ now)
    attribute_below column among =
        let from = from_map (attribute_column mapped target placement) (attributes_of mapped target) column among in
        subst (λ (one : SourceColumn). one.source < length (rows ++ now)) from.2 (below (rank_of mapped target from.0.table) from.0.table (attribute_ranked mapped target from.0.table from.0 from.1 refl))

    key_below : (column : SourceColumn) → Has keys column → column.source < length (rows ++ now)
    key_below column among =
        let from = from_flat (key_at_rank mapped target placement) (range_with_len 1 (further_count mapped target)) column among in
        let rank = from_range 1 (further_count mapped target) from.0 from.1 in
        let at = from_map (column_at (place_at_rank placement from.0)) (key_numbers mapped (table_at_rank mapped target from.0)) column from.2 in
        let is = rank.1 in
        let less = rank.2 in
        subst (λ (one : SourceColumn). one.source < length (rows ++ now)) at.2
        (below from.0 _ (slice_get-get_or (tables_of mapped target) from.0 no_table_id (omega (arith, is, less))))

    -- what stands behind its sources leaves what it reads
    attributes_stay : (others : List Row) → cells attributes ((rows ++ now) ++ others) ≡ cells attributes (rows ++ now)
    attributes_stay others = cells_first (rows ++ now) others attributes attribute_below

    keys_stay : (others : List Row) → cells keys ((rows ++ now) ++ others) ≡ cells keys (rows ++ now)
    keys_stay others = cells_first (rows ++ now) others keys key_below

    -- ---- its part of a row

    module _ (place : RelNo) (n : ℕ) (prefix rest : Row) (long : length prefix ≡ n) (others : List Row) where
      abbrev own_part : Part
      own_part = part_from mapped place relation n

      abbrev read_here : Row
      read_here = cells (option_columns mapped target placement) ((rows ++ now) ++ others)

      abbrev out : Row
      out = prefix ++ (read_here ++ rest)

      read_parts : read_here ≡ cells attributes (rows ++ now) ++ cells keys (rows ++ now)
      read_parts =
          map-append (cell ((rows ++ now) ++ others)) attributes keys ∙ ap (λ (front : Row). front ++ cells keys ((rows ++ now) ++ others)) (attributes_stay others)
          ∙ ap (λ (back : Row). cells attributes (rows ++ now) ++ back) (keys_stay others)

      out_parts : out ≡ prefix ++ (cells attributes (rows ++ now) ++ (cells keys (rows ++ now) ++ rest))
      out_parts = ap (λ (front : Row). prefix ++ (front ++ rest)) read_parts ∙ ap (λ (back : Row). prefix ++ back) (append_assoc (cells attributes (rows ++ now)) (cells keys (rows ++ now)) rest)

      attributes_wide : length (cells attributes (rows ++ now)) ≡ width_of mapped target
      attributes_wide = length-map attributes (cell (rows ++ now)) ∙ length-map (attributes_of mapped target) (attribute_column mapped target placement)

      -- the values from its place on
      pub part_values : drop n out ≡ cells attributes (rows ++ now) ++ (cells keys (rows ++ now) ++ rest)
      part_values = ap (drop n) out_parts ∙ drop_first prefix (cells attributes (rows ++ now) ++ (cells keys (rows ++ now) ++ rest)) n long

      pub part_own : take (width_of mapped target) (drop n out) ≡ member_at mapped class relation first tables option held (rows ++ now)
      part_own = ap (take (width_of mapped target)) part_values ∙ take_first (cells attributes (rows ++ now)) (cells keys (rows ++ now) ++ rest) (width_of mapped target) attributes_wide

      keys_wide : option_width mapped target - width_of mapped target ≡ length (cells keys (rows ++ now))
      keys_wide =
          let alike = columns_alike mapped target (from_root 0) placement in
          let both = length-append attributes keys in
          let wide_attributes = length-map (attributes_of mapped target) (attribute_column mapped target placement) in
          let wide_keys = length-map keys (cell (rows ++ now)) in
          omega (arith, alike, both, wide_attributes, wide_keys)

      part_keys : take (n + option_width mapped target - (n + width_of mapped target)) (drop (n + width_of mapped target) out) ≡ cells keys (rows ++ now)
      part_keys =
          let count_keys : n + option_width mapped target - (n + width_of mapped target) ≡ length (cells keys (rows ++ now)) = let w = keys_wide in omega (arith, w) in
          let front : Row = prefix ++ cells attributes (rows ++ now) in
          let front_long : length front ≡ n + width_of mapped target = let both = length-append prefix (cells attributes (rows ++ now)) in let w = attributes_wide in omega (arith, both, w, long) in
          let split : out ≡ front ++ (cells keys (rows ++ now) ++ rest) = out_parts ∙ sym (append_assoc prefix (cells attributes (rows ++ now)) (cells keys (rows ++ now) ++ rest)) in
          ap (λ (k : ℕ). take k (drop (n + width_of mapped target) out)) count_keys
          ∙ ap (take (length (cells keys (rows ++ now)))) (ap (drop (n + width_of mapped target)) split ∙ drop_first front (cells keys (rows ++ now) ++ rest) (n + width_of mapped target) front_long)
          ∙ take_first (cells keys (rows ++ now)) rest (length (cells keys (rows ++ now))) refl

      -- the key that it has is that of its own values
      pub part_target : has_target mapped own_part out ≡ (are_given (row_key mapped target (member_at mapped class relation first tables option held (rows ++ now))) && are_given (cells keys (rows ++ now)))
      part_target =
          let key_is : row_key mapped target (drop n out) ≡ row_key mapped target (cells attributes (rows ++ now)) =
          ap (row_key mapped target) part_values ∙ row_key_first mapped target (cells attributes (rows ++ now)) (cells keys (rows ++ now) ++ rest) attributes_wide in
          ap (λ (k : List Value). are_given k && are_given (take (n + option_width mapped target - (n + width_of mapped target)) (drop (n + width_of mapped target) out))) key_is
          ∙ ap (λ (k : List Value). are_given (row_key mapped target (cells attributes (rows ++ now))) && are_given k) part_keys

-- ---- several options

module _ (mapped : Mapped) (read : KeyReader) (class : ClassId) (tables : Tables) (own : Row) (related : AreRelated mapped) (held : AreRows mapped.schema tables) (legal : AreLegalRows mapped.schema tables) (reads : ReadsKeys mapped read) where
  abbrev IsPlace : RelNo → Type 0
  IsPlace place = place.0 < length (relations_of mapped class)

  relation_there : (place : RelNo) → IsPlace place → slice_get (relations_of mapped class) place.0 ≡ Some (relation_of mapped class place)
  relation_there place inside = slice_get-get_or (relations_of mapped class) place.0 no_relation inside

  pub option_at : (place : RelNo) → IsPlace place → (first : List Origin) → StandsFirst mapped class first → IsOption mapped class (relation_of mapped class place) first
  option_at place inside first at_first =
      let one : IsRelated mapped (relation_of mapped class place) = related.each class at_first.is place.0 no_relation inside in
      record {
        has = at_first.has;
        related = one;
        above = declared_above mapped class (relation_of mapped class place) one (at_first.has.paired.back class place.0 (relation_of mapped class place) (relation_there place inside));
        stands = at_first.stands;
      }

  -- a relationship over a secondary table is many
  many_over : (place : RelNo) → IsPlace place → (first : List Origin) → StandsFirst mapped class first → (far : TableKey) → (relation_of mapped class place).far ≡ Some far → (relation_of mapped class place).many ≡ true
  many_over place inside first at_first far over =
      let relation : Relation = relation_of mapped class place in
      let partner = (related.each class at_first.is place.0 no_relation inside).partner in
      let back = subst (IsBack mapped class relation) partner.1.there (at_first.has.paired.back class place.0 relation (relation_there place inside)) in
      (and_parts relation.many partner.0.many (sym (ap (λ (end : Option TableKey). if is_some end then relation.many && partner.0.many else differ relation.many partner.0.many) over) ∙ back.0)).0

  behind_owner : (place : RelNo) → IsPlace place → (first : List Origin) (rows : List Row) → StandsFirst mapped class first → IsOwner mapped class first tables own rows → (all : List Row) → AreRowsOf mapped (relation_of mapped class place).target tables all
      → IsBehindOwner mapped read class (relation_of mapped class place) first tables all own rows
  behind_owner place inside first rows at_first owner all answered = record {
    option = option_at place inside first at_first;
    at_first = at_first;
    owner = owner;
    held = held;
    legal = legal;
    answered = answered;
    reads = reads;
    opposite = many_over place inside first at_first;
  }

  -- further sources behind leave the class's tables first
  pub first_more : (first added : List Origin) → StandsFirst mapped class first → StandsFirst mapped class (first ++ added)
  first_more first added at_first = record {
    has = at_first.has;
    is = at_first.is;
    known = at_first.known;
    stands = λ rank table here. at_more first added (place_at_rank (from_root 0) rank) table (at_first.stands rank table here);
  }

  -- a row of the target to which the row of the class is tied
  abbrev IsTied : Part → List Row → Row → Type 0
  IsTied part all out = Has (tied_at mapped read class part tables all own) (own_values mapped part.target (values_from part out))

  -- what the options read behind others
  abbrev pub read_all : List RelNo → ℕ → List Row → Row → Row
  read_all places count rows prefix = prefix ++ cells (options_columns mapped class count places) rows

  abbrev pub AreBehind : List RelNo → ℕ → List Row → List Row → Type 0
  AreBehind places count rows more = Has (partners mapped.schema tables (options_sources mapped class count places) rows) more

  -- the row of one option and of those behind it
  module _ (place : RelNo) (inside : IsPlace place) (places : List RelNo) (first : List Origin) (rows : List Row) (n : ℕ) (at_first : StandsFirst mapped class first) (owner : IsOwner mapped class first tables own rows) where
    abbrev relation : Relation
    relation = relation_of mapped class place

    abbrev sources : List Further
    sources = option_sources mapped class relation (length first)

    abbrev pub columns : List SourceColumn
    columns = option_columns mapped relation.target (target_placement mapped relation (length first))

    abbrev next : ℕ
    next = length first + length sources

    pub option : IsOption mapped class relation first
    option = option_at place inside first at_first

    abbrev pub behind : List Origin
    behind = first ++ added mapped class relation first tables option held rows owner.wide

    pub behind_long : length behind ≡ next
    behind_long = first_long mapped class relation first tables option held rows owner.wide

    module _ (now : List Row) (there : Has (partners mapped.schema tables sources rows) now) where
      pub next_owner : IsOwner mapped class behind tables own (rows ++ now)
      next_owner = owner_more mapped class first at_first tables own rows now (added mapped class relation first tables option held rows owner.wide) owner (wide_more mapped class relation first tables option held rows owner.wide now there)

      -- the rows of this option and of those behind it
      pub out_is : (prefix : Row) (others : List Row) → read_all (place ∷ places) (length first) (rows ++ (now ++ others)) prefix
          ≡ prefix ++ (cells columns ((rows ++ now) ++ others) ++ cells (options_columns mapped class next places) ((rows ++ now) ++ others))
      out_is prefix others =
          ap (λ (all : List Row). read_all (place ∷ places) (length first) all prefix) (sym (append_assoc rows now others))
          ∙ ap (λ (row : Row). prefix ++ row) (map-append (cell ((rows ++ now) ++ others)) columns (options_columns mapped class next places))

      pub out_next : (prefix : Row) (others : List Row)
          → read_all (place ∷ places) (length first) (rows ++ (now ++ others)) prefix ≡ read_all places (length behind) ((rows ++ now) ++ others) (prefix ++ cells columns ((rows ++ now) ++ others))
      out_next prefix others =
          out_is prefix others ∙ sym (append_assoc prefix (cells columns ((rows ++ now) ++ others)) (cells (options_columns mapped class next places) ((rows ++ now) ++ others)))
          ∙ ap (λ (count : ℕ). read_all places count ((rows ++ now) ++ others) (prefix ++ cells columns ((rows ++ now) ++ others))) (sym behind_long)

      pub prefix_long : (prefix : Row) (all : List Row) → length prefix ≡ n → length (prefix ++ cells columns all) ≡ n + option_width mapped relation.target
      prefix_long prefix all long =
          let both = length-append prefix (cells columns all) in
          let read_long = length-map columns (cell all) in
          let alike = columns_alike mapped relation.target (target_placement mapped relation (length first)) (from_root 0) in
          omega (arith, both, read_long, alike, long)

      -- this option's own part
      head_tied : (all : List Row) → AreRowsOf mapped relation.target tables all → (prefix : Row) → length prefix ≡ n → (others : List Row)
          → has_target mapped (part_at mapped class place n) (read_all (place ∷ places) (length first) (rows ++ (now ++ others)) prefix) ≡ true
          → IsTied (part_at mapped class place n) all (read_all (place ∷ places) (length first) (rows ++ (now ++ others)) prefix)
      head_tied all answered prefix long others =
          let rest : Row = cells (options_columns mapped class next places) ((rows ++ now) ++ others) in
          subst (λ (out : Row). has_target mapped (part_at mapped class place n) out ≡ true → IsTied (part_at mapped class place n) all out) (sym (out_is prefix others)) (λ passes.
          let given = sym (part_target mapped class relation first tables option held rows owner.wide now there place n prefix rest long others) ∙ passes in
          let parts = and_parts (are_given (row_key mapped relation.target (member_at mapped class relation first tables option held (rows ++ now)))) (are_given (cells (further_keys mapped relation.target (target_placement mapped relation (length first))) (rows ++ now))) given in
          let tied = member_tied mapped read class relation first tables all own rows (behind_owner place inside first rows at_first owner all answered) now there parts in
          subst (Has (tied_at mapped read class (part_at mapped class place n) tables all own)) (sym (part_own mapped class relation first tables option held rows owner.wide now there place n prefix rest long others)) tied)

    -- the partners of this option, and those behind each
    pub split : (more : List Row) → AreBehind (place ∷ places) (length first) rows more
        → (now : List Row) × Has (partners mapped.schema tables sources rows) now × ((others : List Row) × AreBehind places next (rows ++ now) others × (now ++ others ≡ more))
    split more there =
        let all = partners_append mapped.schema tables sources (options_sources mapped class next places) rows in
        let from = from_flat (λ (now : List Row). map (λ (others : List Row). now ++ others) (partners mapped.schema tables (options_sources mapped class next places) (rows ++ now))) (partners mapped.schema tables sources rows) more
        (subst (λ (found : List (List Row)). Has found more) all there) in
        let made = from_map (λ (others : List Row). from.0 ++ others) (partners mapped.schema tables (options_sources mapped class next places) (rows ++ from.0)) more from.2 in
        (from.0, from.1, (made.0, made.1, made.2))

    joined : (now others : List Row) → Has (partners mapped.schema tables sources rows) now → AreBehind places next (rows ++ now) others → AreBehind (place ∷ places) (length first) rows (now ++ others)
    joined now others one more =
        subst (λ (found : List (List Row)). Has found (now ++ others)) (sym (partners_append mapped.schema tables sources (options_sources mapped class next places) rows))
        (has_flat (λ (found : List Row). map (λ (rest : List Row). found ++ rest) (partners mapped.schema tables (options_sources mapped class next places) (rows ++ found))) (partners mapped.schema tables sources rows) now (now ++ others) one
        (has_map (λ (rest : List Row). now ++ rest) (partners mapped.schema tables (options_sources mapped class next places) (rows ++ now)) others more))

  -- of the rows that come of an owner's those that have a target of a part have a row to which it is tied
  pub parts_tied : (places : List RelNo) → AllByRecursion IsPlace places → (first : List Origin) (rows : List Row) (n : ℕ) → StandsFirst mapped class first → IsOwner mapped class first tables own rows
      → (part : Part) → Has (parts_from mapped class n places) part → (all : List Row) → AreRowsOf mapped part.target tables all → (prefix : Row) → length prefix ≡ n → (more : List Row) → AreBehind places (length first) rows more
      → has_target mapped part (read_all places (length first) (rows ++ more) prefix) ≡ true → IsTied part all (read_all places (length first) (rows ++ more) prefix)
  parts_tied [] inside first rows n at_first owner part there all answered prefix long more among passes = absurd there
  parts_tied (place ∷ places) inside first rows n at_first owner part there all answered prefix long more among passes =
      let one = split place inside.0 places first rows n at_first owner more among in
      let now : List Row = one.0 in
      let others : List Row = one.2.0 in
      subst (λ (found : List Row). has_target mapped part (read_all (place ∷ places) (length first) (rows ++ found) prefix) ≡ true → IsTied part all (read_all (place ∷ places) (length first) (rows ++ found) prefix)) one.2.2
      (by there (λ later passes_it.
      let next_is = behind_long place inside.0 places first rows n at_first owner in
      subst (IsTied part all) (sym (out_next place inside.0 places first rows n at_first owner now one.1 prefix others))
      (parts_tied places inside.1 (behind place inside.0 places first rows n at_first owner) (rows ++ now) (part_at mapped class place n).end (first_more first _ at_first)
      (next_owner place inside.0 places first rows n at_first owner now one.1) part later all answered (prefix ++ cells (columns place inside.0 places first rows n at_first owner) ((rows ++ now) ++ others))
      (prefix_long place inside.0 places first rows n at_first owner now one.1 prefix ((rows ++ now) ++ others) long) others
      (subst (λ (count : ℕ). AreBehind places count (rows ++ now) others) (sym next_is) one.2.1)
      (ap (has_target mapped part) (sym (out_next place inside.0 places first rows n at_first owner now one.1 prefix others)) ∙ passes_it)))) passes
    where
      by : (part_at mapped class place n ≡ part) ⊎ Has (parts_from mapped class (part_at mapped class place n).end places) part → (Has (parts_from mapped class (part_at mapped class place n).end places) part
          → has_target mapped part (read_all (place ∷ places) (length first) (rows ++ ((split place inside.0 places first rows n at_first owner more among).0 ++ (split place inside.0 places first rows n at_first owner more among).2.0)) prefix) ≡ true
          → IsTied part all (read_all (place ∷ places) (length first) (rows ++ ((split place inside.0 places first rows n at_first owner more among).0 ++ (split place inside.0 places first rows n at_first owner more among).2.0)) prefix))
          → has_target mapped part (read_all (place ∷ places) (length first) (rows ++ ((split place inside.0 places first rows n at_first owner more among).0 ++ (split place inside.0 places first rows n at_first owner more among).2.0)) prefix) ≡ true
          → IsTied part all (read_all (place ∷ places) (length first) (rows ++ ((split place inside.0 places first rows n at_first owner more among).0 ++ (split place inside.0 places first rows n at_first owner more among).2.0)) prefix)
      by (inr later) tail passes_it = tail later passes_it
      by (inl e) tail passes_it =
          let found = split place inside.0 places first rows n at_first owner more among in
          subst (λ (one : Part). AreRowsOf mapped one.target tables all → has_target mapped one (read_all (place ∷ places) (length first) (rows ++ (found.0 ++ found.2.0)) prefix) ≡ true → IsTied one all (read_all (place ∷ places) (length first) (rows ++ (found.0 ++ found.2.0)) prefix)) e
          (λ told. head_tied place inside.0 places first rows n at_first owner found.0 found.1 all told prefix long found.2.0) answered passes_it

  -- a row that comes of an owner's and has this row of a part's target
  pub record IsJoinedTo (places : List RelNo) (first : List Origin) (rows : List Row) (part : Part) (prefix row : Row) : Type 0 where
    pub more : List Row
    pub there : AreBehind places (length first) rows more
    pub has : has_target mapped part (read_all places (length first) (rows ++ more) prefix) ≡ true
    pub is : own_values mapped part.target (values_from part (read_all places (length first) (rows ++ more) prefix)) ≡ row

  -- and each row to which it is tied is among what they have
  pub tied_parts : (places : List RelNo) → AllByRecursion IsPlace places → (first : List Origin) (rows : List Row) (n : ℕ) → StandsFirst mapped class first → IsOwner mapped class first tables own rows
      → (part : Part) → Has (parts_from mapped class n places) part → (all : List Row) → AreRowsOf mapped part.target tables all → (prefix : Row) → length prefix ≡ n → (row : Row) → Has (tied_at mapped read class part tables all own) row
      → IsJoinedTo places first rows part prefix row
  tied_parts [] inside first rows n at_first owner part there all answered prefix long row among = absurd there
  tied_parts (place ∷ places) inside first rows n at_first owner part (inl e) all answered prefix long row among =
      subst (λ (one : Part). AreRowsOf mapped one.target tables all → Has (tied_at mapped read class one tables all own) row → IsJoinedTo (place ∷ places) first rows one prefix row) e (λ told tied.
      let relation_here : Relation = relation_of mapped class place in
      let option_here = option place inside.0 places first rows n at_first owner in
      let found = tied_member mapped read class relation_here first tables all own rows (behind_owner place inside.0 first rows at_first owner all told) row tied in
      let now : List Row = found.now in
      let count : ℕ = length first + length (option_sources mapped class relation_here (length first)) in
      let one = some_has (partners mapped.schema tables (options_sources mapped class count places) (rows ++ now)) (partners_some mapped.schema tables (options_sources mapped class count places) (rows ++ now)) in
      let others : List Row = one.0 in
      let rest : Row = cells (options_columns mapped class count places) ((rows ++ now) ++ others) in
      let out = out_is place inside.0 places first rows n at_first owner now found.there prefix others in
      record {
        more = now ++ others;
        there = joined place inside.0 places first rows n at_first owner now others found.there one.1;
        has =
            ap (has_target mapped (part_at mapped class place n)) out ∙ part_target mapped class relation_here first tables option_here held rows owner.wide now found.there place n prefix rest long others
            ∙ ap (λ (b : Bool). b && are_given (cells (further_keys mapped relation_here.target (target_placement mapped relation_here (length first))) (rows ++ now))) found.has.0 ∙ found.has.1;
        is = ap (λ (o : Row). own_values mapped relation_here.target (drop n o)) out ∙ part_own mapped class relation_here first tables option_here held rows owner.wide now found.there place n prefix rest long others ∙ found.is;
      }) answered among
  tied_parts (place ∷ places) inside first rows n at_first owner part (inr later) all answered prefix long row among =
      let relation_here : Relation = relation_of mapped class place in
      let option_here = option place inside.0 places first rows n at_first owner in
      let one = some_has (partners mapped.schema tables (option_sources mapped class relation_here (length first)) rows) (partners_some mapped.schema tables (option_sources mapped class relation_here (length first)) rows) in
      let now : List Row = one.0 in
      let read_now : Row = cells (attribute_columns mapped relation_here.target (target_placement mapped relation_here (length first))) (rows ++ now) ++ cells (further_keys mapped relation_here.target (target_placement mapped relation_here (length first))) (rows ++ now) in
      let read_is : (others : List Row) → cells (columns place inside.0 places first rows n at_first owner) ((rows ++ now) ++ others) ≡ read_now = λ others.
      read_parts mapped class relation_here first tables option_here held rows owner.wide now one.1 place n prefix [] long others in
      let next_long : length (prefix ++ read_now) ≡ (part_at mapped class place n).end =
      ap (λ (found : Row). length (prefix ++ found)) (sym (read_is [])) ∙ prefix_long place inside.0 places first rows n at_first owner now one.1 prefix ((rows ++ now) ++ []) long in
      let next_is = behind_long place inside.0 places first rows n at_first owner in
      let found =
      tied_parts places inside.1 (behind place inside.0 places first rows n at_first owner) (rows ++ now) (part_at mapped class place n).end (first_more first _ at_first) (next_owner place inside.0 places first rows n at_first owner now one.1) part later all answered
      (prefix ++ read_now) next_long row among in
      let out : read_all (place ∷ places) (length first) (rows ++ (now ++ found.more)) prefix ≡ read_all places (length (behind place inside.0 places first rows n at_first owner)) ((rows ++ now) ++ found.more) (prefix ++ read_now) =
      out_next place inside.0 places first rows n at_first owner now one.1 prefix found.more
      ∙ ap (λ (front : Row). read_all places (length (behind place inside.0 places first rows n at_first owner)) ((rows ++ now) ++ found.more) (prefix ++ front)) (read_is found.more) in
      record {
        more = now ++ found.more;
        there = joined place inside.0 places first rows n at_first owner now found.more one.1 (subst (λ (count : ℕ). AreBehind places count (rows ++ now) found.more) next_is found.there);
        has = ap (has_target mapped part) out ∙ found.has;
        is = ap (λ (o : Row). own_values mapped part.target (values_from part o)) out ∙ found.is;
      }
