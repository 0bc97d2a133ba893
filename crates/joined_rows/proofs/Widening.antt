-- Selects with further items and sources behind those of others, and what a joined option adds.
use Rattle.std.proofs.Common.{◌≡◌, ℕ, suc, ◌+◌, Bool, true, false, ◌==◌, List, [], ◌∷◌, ◌++◌, map, fold, length, Option, refl, sym, ap, ◌∙◌, if◌then◌else◌, append_assoc, append-nil, length-append}
use Rattle.std.specs.List.{flat_map, range_with_len}
use Rattle.std.proofs.lemmas.List.{length-map, map-append}
use Rattle.base_core.specs.declared.ids.ClassId.{ClassId}
use Rattle.base_core.specs.declared.ids.RelNo.{RelNo}
use Rattle.base_core.specs.declared.ids.TableId.{TableId}
use Rattle.schema_core.specs.Catalog.{Catalog}
use Rattle.expr_types.specs.declared.expr.Expr.{Expr}
use Rattle.expr_types.specs.declared.expr.Origin.{Origin}
use Rattle.expr_types.specs.declared.select.Joined.{Joined}
use Rattle.expr_types.specs.declared.select.Select.{Select}
use Rattle.sql_semantics.specs.Plain.{sources_of}
use Rattle.class_types.specs.declared.mapped.Attribute.{Attribute}
use Rattle.class_types.specs.declared.mapped.Relation.{Relation}
use Rattle.class_mapping.specs.Mapped.{Mapped, attributes_of, root_table}
use Rattle.object_arena.specs.Fit.{relation_of}
use Rattle.load_columns.specs.declared.placing.Placement.{Placement}
use Rattle.load_columns.specs.Placing.{attribute_column, attribute_columns, column_at, from_root, key_at_rank, key_numbers, place_at_rank, table_at_rank}
use Rattle.load_selects.specs.declared.sources.Further.{Further}
use Rattle.load_selects.specs.Branches.{is_of_branch}
use Rattle.load_selects.specs.Selects.{item_of}
use Rattle.load_selects.specs.Sources.{related_sources, target_placement}
use Rattle.main_selects.specs.MainSelect.{further_count, further_keys, left_joined, option_columns, option_sources, with_joined, with_left_join, with_option, within_branch}

abbrev pub Items : Type 0
Items = List (Expr × Option (List ℕ))

abbrev pub table_of : Origin → TableId
table_of origin = origin.table

abbrev pub joined_table : Further → TableId
joined_table further = further.table

-- ---- further items and sources

-- a select that has further items and sources behind those of another
pub record Widens (s wide : Select) : Type 0 where
  pub items : Items
  pub sources : List Origin
  pub has_items : wide.items ≡ s.items ++ items
  pub has_sources : sources_of wide ≡ sources_of s ++ sources

pub widens_itself : (s : Select) → Widens s s
widens_itself s = record { items = []; sources = []; has_items = sym (append-nil s.items); has_sources = sym (append-nil (sources_of s)) }

pub widens_then : (s mid wide : Select) → Widens s mid → Widens mid wide → Widens s wide
widens_then s mid wide one other = record {
  items = one.items ++ other.items;
  sources = one.sources ++ other.sources;
  has_items = other.has_items ∙ ap (λ (xs : Items). xs ++ other.items) one.has_items ∙ append_assoc s.items one.items other.items;
  has_sources = other.has_sources ∙ ap (λ (xs : List Origin). xs ++ other.sources) one.has_sources ∙ append_assoc (sources_of s) one.sources other.sources;
}

pub count_sources : (s : Select) → length (sources_of s) ≡ suc (length s.joins)
count_sources s = ap suc (length-map s.joins (λ (join : Joined). join.origin))

-- ---- left joins

-- a select with further tables behind its sources
pub record Joins (s wide : Select) (further : List Further) : Type 0 where
  pub origins : List Origin
  pub same_items : wide.items ≡ s.items
  pub has_sources : sources_of wide ≡ sources_of s ++ origins
  pub tables : map table_of origins ≡ map joined_table further

one_joined : (schema : Catalog) (s : Select) (further : Further) → sources_of (with_left_join schema s further) ≡ sources_of s ++ (left_joined schema s further).origin ∷ []
one_joined schema s further = ap (λ (xs : List Origin). s.first ∷ xs) (map-append (λ (join : Joined). join.origin) s.joins (left_joined schema s further ∷ []))

all_joined : (schema : Catalog) (s : Select) (further : List Further) → Joins s (fold (with_left_join schema) s further) further
all_joined schema s [] = record { origins = []; same_items = refl; has_sources = sym (append-nil (sources_of s)); tables = refl }
all_joined schema s (one ∷ further) =
    let later = all_joined schema (with_left_join schema s one) further in
    let first : Origin = (left_joined schema s one).origin in
    record {
      origins = first ∷ later.origins;
      same_items = later.same_items;
      has_sources =
          later.has_sources ∙ ap (λ (xs : List Origin). xs ++ later.origins) (one_joined schema s one) ∙ append_assoc (sources_of s) (first ∷ []) later.origins;
      tables = ap (λ (xs : List TableId). one.table ∷ xs) later.tables;
    }

table_kept : (further : Further) (on : List Expr) (b : Bool) → (if b then record further { on = on } else further).table ≡ further.table
table_kept further on true = refl
table_kept further on false = refl

branch_tables : (mapped : Mapped) (class : ClassId) (placement : Placement) (further : List Further) → map joined_table (map (within_branch mapped class placement) further) ≡ map joined_table further
branch_tables mapped class placement [] = refl
branch_tables mapped class placement (one ∷ further) =
    ap (λ (table : TableId). table ∷ map joined_table (map (within_branch mapped class placement) further))
    (table_kept one (one.on ++ is_of_branch mapped class placement) (one.table.0 == (root_table mapped class).0))
    ∙ ap (λ (xs : List TableId). one.table ∷ xs) (branch_tables mapped class placement further)

-- ---- one joined option more

abbrev pub placed_in : Mapped → Select → Relation → Placement
placed_in mapped s relation = target_placement mapped relation (suc (length s.joins))

pub record IsOption (mapped : Mapped) (class : ClassId) (s : Select) (relation : Relation) (wide : Select) : Type 0 where
  pub origins : List Origin
  pub has_items : wide.items ≡ s.items ++ map item_of (option_columns mapped relation.target (placed_in mapped s relation))
  pub has_sources : sources_of wide ≡ sources_of s ++ origins
  pub tables : map table_of origins ≡ map joined_table (related_sources mapped class (from_root 0) relation (suc (length s.joins)))

pub option_of : (mapped : Mapped) (class : ClassId) (s : Select) (relation : Relation) → IsOption mapped class s relation (with_option mapped class s relation)
option_of mapped class s relation =
    let count : ℕ = suc (length s.joins) in
    let joins = all_joined mapped.schema s (option_sources mapped class relation count) in
    record {
      origins = joins.origins;
      has_items = ap (λ (xs : Items). xs ++ map item_of (option_columns mapped relation.target (placed_in mapped s relation))) joins.same_items;
      has_sources = joins.has_sources;
      tables = joins.tables ∙ branch_tables mapped relation.target (placed_in mapped s relation) (related_sources mapped class (from_root 0) relation count);
    }

option_widens : (mapped : Mapped) (class : ClassId) (s : Select) (relation : Relation) → Widens s (with_option mapped class s relation)
option_widens mapped class s relation =
    let option = option_of mapped class s relation in
    record {
      items = map item_of (option_columns mapped relation.target (placed_in mapped s relation));
      sources = option.origins;
      has_items = option.has_items;
      has_sources = option.has_sources;
    }

pub options_widen : (mapped : Mapped) (class : ClassId) (s : Select) (places : List RelNo) → Widens s (fold (with_joined mapped class) s places)
options_widen mapped class s [] = widens_itself s
options_widen mapped class s (place ∷ places) =
    let next : Select = with_joined mapped class s place in
    widens_then s next (fold (with_joined mapped class) next places) (option_widens mapped class s (relation_of mapped class place)) (options_widen mapped class next places)

-- ---- how many columns an option reads

ranks_alike : (mapped : Mapped) (class : ClassId) (one other : Placement) (ranks : List ℕ) → length (flat_map (key_at_rank mapped class one) ranks) ≡ length (flat_map (key_at_rank mapped class other) ranks)
ranks_alike mapped class one other [] = refl
ranks_alike mapped class one other (rank ∷ ranks) =
    let numbers = key_numbers mapped (table_at_rank mapped class rank) in
    let later : Placement → ℕ = λ placement. length (flat_map (key_at_rank mapped class placement) ranks) in
    length-append (key_at_rank mapped class one rank) (flat_map (key_at_rank mapped class one) ranks)
    ∙ ap (λ (n : ℕ). n + later one) (length-map numbers (column_at (place_at_rank one rank)) ∙ sym (length-map numbers (column_at (place_at_rank other rank))))
    ∙ ap (λ (n : ℕ). length (key_at_rank mapped class other rank) + n) (ranks_alike mapped class one other ranks)
    ∙ sym (length-append (key_at_rank mapped class other rank) (flat_map (key_at_rank mapped class other) ranks))

-- they are as many wherever the tables stand
pub columns_alike : (mapped : Mapped) (class : ClassId) (one other : Placement) → length (option_columns mapped class one) ≡ length (option_columns mapped class other)
columns_alike mapped class one other =
    let attributes : List Attribute = attributes_of mapped class in
    length-append (attribute_columns mapped class one) (further_keys mapped class one)
    ∙ ap (λ (n : ℕ). n + length (further_keys mapped class one)) (length-map attributes (attribute_column mapped class one) ∙ sym (length-map attributes (attribute_column mapped class other)))
    ∙ ap (λ (n : ℕ). length (attribute_columns mapped class other) + n) (ranks_alike mapped class one other (range_with_len 1 (further_count mapped class)))
    ∙ sym (length-append (attribute_columns mapped class other) (further_keys mapped class other))
