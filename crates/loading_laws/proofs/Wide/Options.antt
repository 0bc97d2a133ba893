-- The conditions of the sources of joined options refuse nothing.
use Rattle.std.proofs.Common.{ℕ, ◌+◌, Bool, true, false, ◌==◌, List, [], ◌∷◌, ◌++◌, length, map, Option, None, Some, is_some, if◌then◌else◌}
use Rattle.std.specs.List.{AllByRecursion, enumerate_from, flat_map}
use Rattle.base_core.proofs.Lists.{every_append}
use Rattle.base_core.specs.declared.ids.ClassId.{ClassId}
use Rattle.base_core.specs.declared.ids.RelNo.{RelNo}
use Rattle.base_core.specs.declared.ids.TableId.{TableId}
use Rattle.class_types.specs.declared.mapped.Relation.{Relation}
use Rattle.class_sides.specs.Keys.{TableKey}
use Rattle.class_mapping.specs.Mapped.{Mapped, class_spec, root_table, tables_of}
use Rattle.object_arena.specs.Fit.{relation_of}
use Rattle.load_columns.specs.declared.placing.Placement.{Placement}
use Rattle.load_columns.specs.Placing.{from_root, place_of_table}
use Rattle.load_selects.specs.declared.sources.Further.{Further}
use Rattle.load_selects.specs.Branches.{discriminator_column, discriminator_of, identities, is_of_branch, names_branch}
use Rattle.load_selects.specs.Sources.{keyed_source, other_tables, ranked_source, referred_source, referring_source, related_sources, target_placement, tied_by}
use Rattle.main_selects.specs.MainSelect.{option_sources, within_branch}
use Rattle.loading_laws.specs.Wide.Answers.{options_sources}
use Rattle.loading_laws.proofs.Wide.Conditions.{IsTotal, equalities_total, in_total}
use Rattle.loading_laws.proofs.Wide.Lefts.{AreTotal}

abbrev Fine : Further → Type 0
Fine further = AllByRecursion IsTotal further.on

module _ (mapped : Mapped) (target : ClassId) (placement : Placement) where
  branch_total : AllByRecursion IsTotal (is_of_branch mapped target placement)
  branch_total = by (is_some (class_spec mapped target).table) (discriminator_of mapped target)
    where
      by : (b : Bool) (name : Option (List ℕ)) → AllByRecursion IsTotal (if b then [] else names_branch mapped target placement name)
      by true name = tt
      by false None = tt
      by false (Some name) = (in_total (discriminator_column mapped target placement name) (identities mapped target), tt)

  within_total : (further : Further) → Fine further → Fine (within_branch mapped target placement further)
  within_total further h = by (further.table.0 == (root_table mapped target).0)
    where
      by : (b : Bool) → Fine (if b then record further { on = further.on ++ is_of_branch mapped target placement } else further)
      by true = every_append IsTotal further.on (is_of_branch mapped target placement) h branch_total
      by false = h

  all_within : (more : List Further) → AreTotal more → AreTotal (map (within_branch mapped target placement) more)
  all_within [] h = tt
  all_within (further ∷ more) h = (within_total further h.0, all_within more h.1)

  ranked_total : (rank : ℕ) (table : TableId) (b : Bool) → AreTotal (if b then [] else keyed_source mapped target placement (rank, table) ∷ [])
  unfolding keyed_source
  ranked_total rank table true = tt
  ranked_total rank table false = (equalities_total _ _, tt)

  others_total : (rank : ℕ) (tables : List TableId) → AreTotal (flat_map (ranked_source mapped target placement) (enumerate_from rank tables))
  unfolding ranked_source
  others_total rank [] = tt
  others_total rank (table ∷ tables) =
      every_append Fine (if rank == placement.leading then [] else keyed_source mapped target placement (rank, table) ∷ []) (flat_map (ranked_source mapped target placement) (enumerate_from (rank + 1) tables))
      (ranked_total rank table (rank == placement.leading)) (others_total (rank + 1) tables)

module _ (mapped : Mapped) (class : ClassId) where
  tied_total : (relation : Relation) (count : ℕ) (end : Option TableKey) → AreTotal (tied_by mapped class (from_root 0) relation count end)
  tied_total relation count None = (by relation.many, tt)
    where
      by : (b : Bool) → Fine (if b then referring_source mapped class (from_root 0) relation.foreign count else referred_source mapped relation.foreign (place_of_table mapped class (from_root 0) relation.foreign.0) count)
      by true = equalities_total _ _
      by false = equalities_total _ _
  tied_total relation count (Some far) = (equalities_total _ _, (equalities_total _ _, tt))

  related_total : (relation : Relation) (count : ℕ) → AreTotal (related_sources mapped class (from_root 0) relation count)
  unfolding related_sources
  related_total relation count =
      every_append Fine (tied_by mapped class (from_root 0) relation count relation.far) (other_tables mapped relation.target (target_placement mapped relation count))
      (tied_total relation count relation.far) (others_total mapped relation.target (target_placement mapped relation count) 0 (tables_of mapped relation.target))

  option_total : (relation : Relation) (count : ℕ) → AreTotal (option_sources mapped class relation count)
  option_total relation count = all_within mapped relation.target (target_placement mapped relation count) (related_sources mapped class (from_root 0) relation count) (related_total relation count)

  pub options_total : (count : ℕ) (places : List RelNo) → AreTotal (options_sources mapped class count places)
  options_total count [] = tt
  options_total count (place ∷ places) =
      let more : List Further = option_sources mapped class (relation_of mapped class place) count in
      every_append Fine more (options_sources mapped class (count + length more) places) (option_total (relation_of mapped class place) count) (options_total (count + length more) places)
