-- What a query's main select answers comes in blocks, one for each row of its own select, that have the keys of the rows to which the
-- options lead.
use Rattle.std.proofs.Common.{◌≡◌, inl, inr, ℕ, zero, suc, ◌<◌, Bool, true, false, List, [], ◌∷◌, ◌++◌, filter, length, map, take, Option, None, Some, refl, sym, ap, subst, ◌∙◌, arith}
use Rattle.std.specs.Prelude.{slice_get}
use Rattle.std.specs.List.{AllByRecursion, enumerate_from, flat_map}
use Rattle.std.proofs.lemmas.Option.{slice_get_within}
use Rattle.base_core.specs.declared.ids.AttrNo.{AttrNo}
use Rattle.base_core.specs.declared.ids.ClassId.{ClassId}
use Rattle.base_core.specs.declared.value.Value.{Value}
use Rattle.schema_core.specs.Tables.{value_or_null}
use Rattle.expr_types.specs.declared.select.ObjectQuery.{ObjectQuery}
use Rattle.sql_semantics.specs.Eval.{Row, Tables}
use Rattle.class_types.specs.declared.mapped.Attribute.{Attribute}
use Rattle.class_types.specs.declared.mapped.Relation.{Relation}
use Rattle.class_layouts.specs.Columns.{attr_at, is_key}
use Rattle.class_sides.specs.Keys.{TableKey}
use Rattle.class_mapping.specs.Mapped.{IsClass, Mapped, attributes_of, key_attributes}
use Rattle.class_mapping.proofs.Having.{Has, from_filter, from_map, from_numbered}
use Rattle.object_arena.specs.Fit.{is_empty, relation_of}
use Rattle.load_filling.specs.Rows.{row_key, value_in}
use Rattle.joined_rows.specs.declared.parts.Part.{Part}
use Rattle.joined_rows.specs.Parts.{own_values, parts_of, values_from, width_of}
use Rattle.joined_rows.specs.Taking.{has_target}
use Rattle.load_targets.specs.ForeignKeys.{foreign_attrs}
use Rattle.loading_laws.specs.Answers.Answers.{AreRowsOf}
use Rattle.loading_laws.proofs.Answers.Totals.{map_twice}
use Rattle.loading_laws.specs.Members.{HaveSame}
use Rattle.loading_laws.specs.Wide.Parts.{cells}
use Rattle.loading_laws.specs.Wide.Answers.{AreBlocks, AreOfSources, joined_rows, own_columns}
use Rattle.loading_laws.proofs.Wide.Blocks.{joined_own, joined_some}
use Rattle.loading_laws.specs.TiedRows as option
use Rattle.loading_laws.proofs.Strategies.SameKeys.{row_within}
use Rattle.loading_laws.specs.Joined.Blocks.{AreJoined, HaveSameKeys, HaveTied, IsBlock, member_keys, tied_by, tied_rows}
use Rattle.loading_laws.proofs.Joined.Answered.{both_ways}
use Rattle.loading_laws.proofs.Joined.Given.{among_has, has_among}
use Rattle.loading_laws.proofs.Joined.Objects.{targets_of}

abbrev Block : Type 0
Block = Row × List Row

-- ---- the key in a row that is cut to the class's width

get_take : {A : Type 0} (n i : ℕ) (xs : List A) → i < n → slice_get (take n xs) i ≡ slice_get xs i
get_take zero i xs less = absurd (omega (arith, less))
get_take (suc n) i [] less = refl
get_take (suc n) zero (x ∷ xs) less = refl
get_take (suc n) (suc i) (x ∷ xs) less = get_take n i xs (omega (arith, less))

map_each : {A B : Type 0} (f g : A → B) (xs : List A) → ((x : A) → Has xs x → f x ≡ g x) → map f xs ≡ map g xs
map_each f g [] same = refl
map_each f g (x ∷ xs) same = ap (λ y. y ∷ map f xs) (same x (inl refl)) ∙ ap (λ ys. g x ∷ ys) (map_each f g xs (λ y there. same y (inr there)))

key_within : (mapped : Mapped) (class : ClassId) (attr : AttrNo) → Has (key_attributes mapped class) attr → attr.0 < width_of mapped class
key_within mapped class attr there =
    let attributes : List Attribute = attributes_of mapped class in
    let test : ℕ × Attribute → Bool = λ placed. is_key mapped.schema.tables placed.1 in
    let from = from_map attr_at (filter test (enumerate_from 0 attributes)) attr there in
    let kept = from_filter test (enumerate_from 0 attributes) from.0 from.1 in
    let at = from_numbered 0 attributes from.0 kept.0 in
    let less = slice_get_within attributes at.0 from.0.1 at.2 in
    let number : from.0.0 ≡ attr.0 = ap (λ (a : AttrNo). a.0) from.2 in
    let place = at.1 in
    omega (arith, less, number, place)

own_key : (mapped : Mapped) (class : ClassId) (values : Row) → row_key mapped class (own_values mapped class values) ≡ row_key mapped class values
own_key mapped class values =
    map_each (value_in (own_values mapped class values)) (value_in values) (key_attributes mapped class)
    (λ attr there. ap (λ (o : Option Value). value_or_null o) (get_take (width_of mapped class) attr.0 values (key_within mapped class attr there)))

-- ---- what an option gives

-- how the foreign key of a relationship is read of a row of a class
abbrev pub read_key : Mapped → option.KeyReader
read_key mapped class relation row = map (value_in row) (foreign_attrs mapped class relation)

same_tied : (mapped : Mapped) (class : ClassId) (relation : Relation) (tables : Tables) (all : List Row) (row : Row) (many : Bool) (far : Option TableKey)
    → option.tied_rows mapped (read_key mapped) class relation tables all row many far ≡ tied_by mapped class relation tables all row many far
same_tied mapped class relation tables all row true None = refl
same_tied mapped class relation tables all row true (Some far) = refl
same_tied mapped class relation tables all row false None = refl
same_tied mapped class relation tables all row false (Some far) = refl

module _ (mapped : Mapped) (query : ObjectQuery) (tables : Tables) (rows_of : ClassId → List Row) (are : (class : ClassId) → IsClass mapped class → AreRowsOf mapped class tables (rows_of class)) where
  abbrev class : ClassId
  class = query.class

  abbrev own : List Row → Row
  own rows = cells (own_columns mapped query) rows

  abbrev joined_of : List Row → List Row
  joined_of rows = joined_rows mapped tables query rows

  member_is : (part : Part) (rows : List Row) → map (row_key mapped part.target) (option.members_in mapped part rows) ≡ member_keys mapped part rows
  member_is part rows =
      map_twice (row_key mapped part.target) (λ row. own_values mapped part.target (values_from part row)) (filter (has_target mapped part) rows)
      ∙ map_each (λ row. row_key mapped part.target (own_values mapped part.target (values_from part row))) (λ row. row_key mapped part.target (values_from part row)) (filter (has_target mapped part) rows)
      (λ row there. own_key mapped part.target (values_from part row))

  -- the members of a part have the keys of the rows to which the class's row is tied
  part_tied : (row : Row) (rows : List Row) (part : Part) → IsClass mapped part.target → option.GivesTied mapped (read_key mapped) class tables row rows part → HaveTied mapped class tables row rows part
  part_tied row rows part declared gives =
      let all : List Row = rows_of part.target in
      let relation : Relation = relation_of mapped class part.place in
      let members : List Row = option.members_in mapped part rows in
      let tied : List Row = tied_rows mapped class relation tables all row in
      let same : HaveSame members tied =
      subst (HaveSame members) (same_tied mapped class relation tables all row relation.many relation.far) (gives all (are part.target declared)) in
      let key : Row → List Value = row_key mapped part.target in
      record {
        all = all;
        are = are part.target declared;
        same =
            subst (λ (keys : List (List Value)). HaveSameKeys keys (map key tied)) (member_is part rows)
            (λ k. both_ways _ _ (λ there. has_among (map key tied) k (row_within key members tied same k (among_has (map key members) k there)))
            (λ there. has_among (map key members) k (row_within key tied members (λ r. sym (same r)) k (among_has (map key tied) k there))));
      }

  parts_tied : (row : Row) (rows : List Row) (parts : List Part) → AllByRecursion (λ part. IsClass mapped part.target) parts → AllByRecursion (option.GivesTied mapped (read_key mapped) class tables row rows) parts
      → AllByRecursion (HaveTied mapped class tables row rows) parts
  parts_tied row rows [] declared gives = tt
  parts_tied row rows (part ∷ parts) declared gives = (part_tied row rows part declared.0 gives.0, parts_tied row rows parts declared.1 gives.1)

  not_empty : (rows : List Row) → 0 < length rows → is_empty rows ≡ false
  not_empty [] some = absurd (omega (arith, some))
  not_empty (row ∷ rows) some = refl

  abbrev block_of : List Row → Block
  block_of rows = (own rows, joined_of rows)

  module _ (options : option.HasOptions mapped (read_key mapped) query tables) (law : option.OptionsGiveTied) where
    blocks_of : (from : List (List Row)) → AllByRecursion (AreOfSources mapped.schema tables query.select) from → AllByRecursion (IsBlock mapped class tables (parts_of mapped class query.joined)) (map block_of from)
    blocks_of [] sourced = tt
    blocks_of (rows ∷ from) sourced = (
      record {
        some = not_empty (joined_of rows) (joined_some mapped tables query rows);
        own = joined_own mapped tables query rows;
        options =
            parts_tied (own rows) (joined_of rows) (parts_of mapped class query.joined) (targets_of mapped class query.joined options.related options.class options.places)
            (law mapped (read_key mapped) query tables rows options sourced.0);
      },
      blocks_of from sourced.1,
    )

    heads_are : (from : List (List Row)) → map own from ≡ map (λ (block : Block). block.0) (map block_of from)
    heads_are [] = refl
    heads_are (rows ∷ from) = ap (λ rs. own rows ∷ rs) (heads_are from)

    rests_are : (from : List (List Row)) → flat_map joined_of from ≡ flat_map (λ (block : Block). block.1) (map block_of from)
    rests_are [] = refl
    rests_are (rows ∷ from) = ap (λ rs. joined_of rows ++ rs) (rests_are from)

    -- the answers of both selects
    pub are_joined : (plain joined : List Row) → AreBlocks mapped tables query plain joined → AreJoined mapped query tables plain joined
    are_joined plain joined answers = record {
      blocks = map block_of answers.from;
      plain_is = answers.owners_are ∙ heads_are answers.from;
      joined_is = answers.joined_are ∙ rests_are answers.from;
      each = blocks_of answers.from answers.sourced;
    }
