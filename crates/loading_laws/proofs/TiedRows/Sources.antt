-- The sources of a joined option are ties: a secondary table where there is one, the target's table that leads, and its others.
use Rattle.std.proofs.Common.{◌≡◌, ◌⊎◌, inl, ℕ, ◌+◌, ◌<◌, ◌≤◌, ◌==◌, Bool, true, false, List, [], ◌∷◌, ◌++◌, length, map, Option, None, Some, if◌then◌else◌, refl, sym, ap, subst, ◌∙◌, arith, append-nil}
use Rattle.std.specs.List.{AllByRecursion}
use Rattle.std.proofs.lemmas.List.{length-append, map-append}
use Rattle.base_core.specs.declared.ids.ClassId.{ClassId}
use Rattle.expr_types.specs.declared.expr.Expr.{Expr}
use Rattle.expr_types.specs.declared.expr.Origin.{Origin}
use Rattle.sql_semantics.specs.Kinds.{Scope}
use Rattle.class_types.specs.declared.mapped.Relation.{Relation}
use Rattle.class_sides.specs.Keys.{TableKey}
use Rattle.class_mapping.specs.Mapped.{Mapped, root_table, tables_of}
use Rattle.load_columns.specs.declared.placing.Placement.{Placement}
use Rattle.load_columns.specs.Conditions.{equal_columns}
use Rattle.load_columns.specs.Placing.{columns_at, foreign_numbers, from_root, key_numbers, place_of_table, referred_table}
use Rattle.load_selects.specs.declared.sources.Further.{Further}
use Rattle.load_selects.specs.Branches.{is_of_branch}
use Rattle.load_selects.specs.Selects.{origin_of}
use Rattle.load_selects.specs.Sources.{first_behind, leading_by, other_tables, referred_place, referred_source, referring_source, related_sources, target_placement, tied_by}
use Rattle.collection_selects.proofs.Plain.{AreTied, IsPart}
use Rattle.main_selects.specs.MainSelect.{option_sources, within_branch}
use Rattle.joined_rows.proofs.Widening.{table_of}
use Rattle.loading_laws.proofs.Members.Choices.{Fit, Tie, joined_where}
use Rattle.loading_laws.proofs.Members.Ranks.{sources_tied, ties_behind}
use Rattle.loading_laws.proofs.TiedRows.Behind.{AreFit, left_source}

-- ---- ties within the target's branch

module _ (mapped : Mapped) (class : ClassId) (placement : Placement) where
  within_is : (tie : Tie) → within_branch mapped class placement (joined_where tie) ≡ left_source mapped class placement tie
  within_is tie = by (tie.table.0 == (root_table mapped class).0)
    where
      by : (b : Bool) → (if b then record (joined_where tie) { on = equal_columns tie.ones tie.others ++ is_of_branch mapped class placement } else joined_where tie)
          ≡ record { table = tie.table; on = equal_columns tie.ones tie.others ++ (if b then is_of_branch mapped class placement else []) }
      by true = refl
      by false = ap (λ (on : List Expr). let further : Further = record { table = tie.table; on = on } in further) (sym (append-nil (equal_columns tie.ones tie.others)))

  all_within : (ties : List Tie) → map (within_branch mapped class placement) (map joined_where ties) ≡ map (left_source mapped class placement) ties
  all_within [] = refl
  all_within (tie ∷ ties) =
      ap (λ (one : Further). one ∷ map (within_branch mapped class placement) (map joined_where ties)) (within_is tie)
      ∙ ap (λ (more : List Further). left_source mapped class placement tie ∷ more) (all_within ties)

  -- the conditions fit the sources
  pub parts_fit : (sources : List Origin) (scope : Scope) (es : List Expr) → map table_of sources ≡ scope → AllByRecursion (IsPart mapped.schema sources) es → AllByRecursion (Fit mapped.schema scope) es
  parts_fit sources scope [] same parts = tt
  parts_fit sources scope (e ∷ es) same parts = (subst (λ (s : Scope). Fit mapped.schema s e) same parts.0.stands.fitting, parts_fit sources scope es same parts.1)

  ties_fit : (before : List Origin) (scope : Scope) (ties : List Tie) → map table_of before ≡ scope → AreTied mapped.schema before (map (left_source mapped class placement) ties) → AreFit mapped class placement scope ties
  ties_fit before scope [] same tied = tt
  ties_fit before scope (tie ∷ ties) same tied =
      let more : map table_of (before ++ origin_of tie.table ∷ []) ≡ scope ++ tie.table ∷ [] = map-append table_of before (origin_of tie.table ∷ []) ∙ ap (λ (s : Scope). s ++ tie.table ∷ []) same in
      (parts_fit (before ++ origin_of tie.table ∷ []) (scope ++ tie.table ∷ []) (left_source mapped class placement tie).on more tied.1, ties_fit (before ++ origin_of tie.table ∷ []) (scope ++ tie.table ∷ []) ties more tied.2)

-- ---- those of an option

module _ (mapped : Mapped) (class : ClassId) (relation : Relation) (count : ℕ) where
  abbrev target : ClassId
  target = relation.target

  abbrev placement : Placement
  placement = target_placement mapped relation count

  -- a table with a foreign key to the class, at a place behind the others
  abbrev pub referring_tie : TableKey → ℕ → Tie
  referring_tie key place = record {
    table = key.0;
    ones = columns_at (referred_place mapped class (from_root 0) key) (key_numbers mapped (referred_table mapped key));
    others = columns_at place (foreign_numbers mapped key);
  }

  -- a table to which one of the others refers
  abbrev pub referred_tie : TableKey → ℕ → ℕ → Tie
  referred_tie key referring place = record {
    table = referred_table mapped key;
    ones = columns_at place (key_numbers mapped (referred_table mapped key));
    others = columns_at referring (foreign_numbers mapped key);
  }

  abbrev near_tie : Bool → Tie
  near_tie many = if many then referring_tie relation.foreign count else referred_tie relation.foreign (place_of_table mapped class (from_root 0) relation.foreign.0) count

  -- that of a secondary table, and that of the table that leads
  abbrev pub second_ties : Option TableKey → List Tie
  second_ties None = []
  second_ties (Some far) = referring_tie relation.foreign count ∷ []

  abbrev pub lead_tie : Option TableKey → Tie
  lead_tie None = near_tie relation.many
  lead_tie (Some far) = referred_tie far count (count + 1)

  abbrev pub other_ties : List Tie
  other_ties = ties_behind mapped target placement 0 (tables_of mapped target)

  abbrev pub first_ties : List Tie
  first_ties = second_ties relation.far ++ lead_tie relation.far ∷ []

  abbrev pub option_ties : List Tie
  option_ties = first_ties ++ other_ties

  tied_is : (end : Option TableKey) → tied_by mapped class (from_root 0) relation count end ≡ map joined_where (second_ties end ++ lead_tie end ∷ [])
  tied_is None = by relation.many
    where
      by : (b : Bool)
          → (if b then referring_source mapped class (from_root 0) relation.foreign count else referred_source mapped relation.foreign (place_of_table mapped class (from_root 0) relation.foreign.0) count) ∷ [] ≡ map joined_where (near_tie b ∷ [])
      by true = refl
      by false = refl
  tied_is (Some far) = refl

  related_are : related_sources mapped class (from_root 0) relation count ≡ map joined_where option_ties
  unfolding related_sources
  related_are =
      ap (λ (first : List Further). first ++ other_tables mapped target placement) (tied_is relation.far)
      ∙ ap (λ (more : List Further). map joined_where first_ties ++ more) (sources_tied mapped target placement 0 (tables_of mapped target)) ∙ sym (map-append joined_where first_ties other_ties)

  pub sources_are : option_sources mapped class relation count ≡ map (left_source mapped target placement) option_ties
  sources_are = ap (map (within_branch mapped target placement)) related_are ∙ all_within mapped target placement option_ties

  -- its table is the target's that leads
  pub lead_table : (end : Option TableKey) → (lead_tie end).table ≡ leading_by mapped relation end
  lead_table None = by relation.many
    where
      by : (b : Bool) → (near_tie b).table ≡ (if b then relation.foreign.0 else referred_table mapped relation.foreign)
      by true = refl
      by false = refl
  lead_table (Some far) = refl

  -- and stands where the placement says
  pub lead_behind : (end : Option TableKey) → count + length (second_ties end) ≡ first_behind count end
  lead_behind None = omega arith
  lead_behind (Some far) = refl

  pub others_before : ((count + length first_ties ≡ placement.first + 1 + 0) × (0 ≤ placement.leading)) ⊎ ((count + length first_ties ≡ placement.first + 0) × (placement.leading < 0))
  others_before =
      let long = length-append (second_ties relation.far) (lead_tie relation.far ∷ []) in
      let at = lead_behind relation.far in
      inl (omega (arith, long, at), omega arith)

  -- their conditions look at the sources before them and their own
  pub option_fits : (first : List Origin) → AreTied mapped.schema first (option_sources mapped class relation count) → AreFit mapped target placement (map table_of first) option_ties
  option_fits first tied = ties_fit mapped target placement first (map table_of first) option_ties refl (subst (AreTied mapped.schema first) sources_are tied)
