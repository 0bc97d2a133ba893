-- The sources of a select: the tables of a class, and those to which a relationship leads.
use Rattle.std.specs.Prelude.{ℕ, ◌+◌, ◌-◌, ◌==◌, List, [], ◌∷◌, ◌++◌, Option, None, Some, if◌then◌else◌}
use Rattle.std.specs.List.{enumerate_from, flat_map}
use Rattle.base_core.specs.declared.ids.ClassId.{ClassId}
use Rattle.base_core.specs.declared.ids.TableId.{TableId}
use Rattle.expr_types.specs.declared.expr.Expr.{Expr}
use Rattle.class_types.specs.declared.mapped.Relation.{Relation}
use Rattle.class_sides.specs.Keys.{TableKey}
use Rattle.class_mapping.specs.Mapped.{Mapped, tables_of}
use Rattle.load_columns.specs.declared.placing.Placement.{Placement}
use Rattle.load_selects.specs.declared.sources.Further.{Further}
use Rattle.load_columns.specs.Placing.{columns_at, foreign_numbers, key_at_rank, key_numbers, place_of_table, rank_of, referred_table}
use Rattle.load_columns.specs.Conditions.{equal_columns}

-- ---- the tables of one class

-- which rank's key the key of a table that does not lead equals: that of the table before it, which is nearer to the root; and the
-- root's that of the table that leads
abbrev pub rank_tied : Placement → ℕ → ℕ
rank_tied placement rank = if rank == 0 then placement.leading else rank

unfoldable pub keyed_source : Mapped → ClassId → Placement → ℕ × TableId → Further
keyed_source mapped class placement ranked = record {
  table = ranked.1;
  on = equal_columns (key_at_rank mapped class placement (ranked.0 - 1)) (key_at_rank mapped class placement (rank_tied placement ranked.0));
}

-- the table of a rank, unless it leads
unfoldable pub ranked_source : Mapped → ClassId → Placement → ℕ × TableId → List Further
ranked_source mapped class placement ranked = if ranked.0 == placement.leading then [] else keyed_source mapped class placement ranked ∷ []

-- the tables of a class but the one that leads, from the root's on
abbrev pub other_tables : Mapped → ClassId → Placement → List Further
other_tables mapped class placement = flat_map (ranked_source mapped class placement) (enumerate_from 0 (tables_of mapped class))

-- ---- the target of a relationship

-- the key to which a foreign key refers is that of the one source, and its columns are those of the other
abbrev pub refers : Mapped → TableKey → ℕ → ℕ → List Expr
refers mapped key referred referring =
    equal_columns (columns_at referred (key_numbers mapped (referred_table mapped key))) (columns_at referring (foreign_numbers mapped key))

abbrev pub leading_by : Mapped → Relation → Option TableKey → TableId
leading_by mapped relation None = if relation.many then relation.foreign.0 else referred_table mapped relation.foreign
leading_by mapped relation (Some far) = referred_table mapped far

-- the table of the target that the relationship ties
abbrev pub leading_table : Mapped → Relation → TableId
leading_table mapped relation = leading_by mapped relation relation.far

-- the table of the target that is tied stands at a place, and the others behind it
abbrev pub led_from : Mapped → Relation → ℕ → Placement
led_from mapped relation first = record { leading = rank_of mapped relation.target (leading_table mapped relation); first = first }

abbrev pub first_behind : ℕ → Option TableKey → ℕ
first_behind sources None = sources
first_behind sources (Some far) = sources + 1

-- where the tables of the target stand behind so many sources: a secondary table goes before them
abbrev pub target_placement : Mapped → Relation → ℕ → Placement
target_placement mapped relation sources = led_from mapped relation (first_behind sources relation.far)

-- the place of the class's table to which a foreign key refers
unfoldable pub referred_place : Mapped → ClassId → Placement → TableKey → ℕ
referred_place mapped class placement key = place_of_table mapped class placement (referred_table mapped key)

-- a secondary table, or the one of the target that has the foreign key, refers to the owner
abbrev pub referring_source : Mapped → ClassId → Placement → TableKey → ℕ → Further
referring_source mapped class placement key place = record {
  table = key.0;
  on = refers mapped key (referred_place mapped class placement key) place;
}

-- the table to which the source at a place refers
abbrev pub referred_source : Mapped → TableKey → ℕ → ℕ → Further
referred_source mapped key referring place = record { table = referred_table mapped key; on = refers mapped key place referring }

-- the table of the target, where there is no secondary table
abbrev pub tied_source : Mapped → ClassId → Placement → Relation → ℕ → Further
tied_source mapped class placement relation sources =
    if relation.many then referring_source mapped class placement relation.foreign sources
    else referred_source mapped relation.foreign (place_of_table mapped class placement relation.foreign.0) sources

abbrev pub tied_by : Mapped → ClassId → Placement → Relation → ℕ → Option TableKey → List Further
tied_by mapped class placement relation sources None = tied_source mapped class placement relation sources ∷ []
tied_by mapped class placement relation sources (Some far) =
    referring_source mapped class placement relation.foreign sources ∷ referred_source mapped far sources (sources + 1) ∷ []

-- what a relationship of a class, whose tables stand so, adds behind so many sources: a secondary table where there is one, the
-- target's table that is tied, and the others
unfoldable pub related_sources : Mapped → ClassId → Placement → Relation → ℕ → List Further
related_sources mapped class placement relation sources =
    tied_by mapped class placement relation sources relation.far ++ other_tables mapped relation.target (target_placement mapped relation sources)
