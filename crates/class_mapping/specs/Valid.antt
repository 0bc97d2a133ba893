-- What the relationships and hierarchies of a configured mapping have, for the layers above.
use Rattle.std.specs.Prelude.{◌≡◌, ℕ, Bool, true, false, not, ◌&&◌, ◌||◌, List, length, nat_lt, slice_get, ◌==◌, Option, None, Some, is_some, if◌then◌else◌}
use Rattle.std.specs.List.{enumerate_from, list_all, list_any}
use Rattle.base_core.specs.declared.ids.TableId.{TableId}
use Rattle.schema_core.specs.declared.table.ForeignSpec.{ForeignSpec}
use Rattle.schema_core.specs.declared.table.TableSpec.{TableSpec}
use Rattle.schema_core.specs.Declaration.{has_targets, some_two}
use Rattle.class_types.specs.declared.declared.ClassSpec.{ClassSpec}
use Rattle.class_layouts.specs.declared.classes.Classes.{Classes}
use Rattle.class_layouts.specs.declared.layout.Layout.{Layout}
use Rattle.class_layouts.specs.Hierarchy.{line_of}
use Rattle.class_layouts.specs.Columns.{columns_in, is_table, named_table}
use Rattle.class_layouts.specs.Faults.{foreigns_in, is_bad_cascade}
use Rattle.class_blocks.specs.declared.side.Side.{Side}
use Rattle.class_sides.specs.Keys.{TableKey, foreign_at, is_tied, names_of, refers_into}
use Rattle.class_sides.specs.Sides.{Ends, has_attribute, is_all_keys, layout_at}
use Rattle.class_sides.specs.Pairs.{differs, is_partner, is_plain, join_of, overlaps}
use Rattle.class_faults.specs.Faults.{misses_delete, owns_rightly, posts_badly}

-- ---- the keys of pairs

abbrev pub is_among : List TableId → TableId → Bool
is_among found table = list_any (λ other. other.0 == table.0) found

-- a foreign key that is there refers to one of the tables
abbrev pub refers_by : List TableSpec → List TableId → Option ForeignSpec → Bool
refers_by tables found None = false
refers_by tables found (Some foreign) = refers_into tables foreign found

-- the foreign key is of a table of the many side, its columns are attributes there, and it refers to a table of the one side
abbrev pub joins : List TableSpec → Option Layout → Option Layout → TableKey → Bool
joins tables (Some many) (Some one) key =
    is_among many.tables key.0
    && list_all (has_attribute many.attributes key.0) (names_of tables key)
    && refers_by tables one.tables (foreign_at tables key)
joins tables many one key = false

-- it is such a key for a side, which is the many side's class or the one's
abbrev pub joins_ends : List TableSpec → List Layout → Side → TableKey → Bool
joins_ends tables layouts side key =
    let own = layout_at layouts (Some side.class) in
    let target = layout_at layouts side.target in
    if side.spec.many then joins tables target own key else joins tables own target key

abbrev pub holds_of : {A : Type 0} → (A → Bool) → Option A → Bool
holds_of test None = false
holds_of test (Some found) = test found

-- a side without a secondary table has such a key
abbrev pub is_joined : List TableSpec → Classes → List Layout → List Side → Side → Bool
is_joined tables classes layouts sides side =
    not (is_plain side) || holds_of (joins_ends tables layouts side) (join_of tables classes sides side)

abbrev pub refers_to_class : List TableSpec → Option Layout → TableKey → Bool
refers_to_class tables None key = false
refers_to_class tables (Some layout) key = refers_by tables layout.tables (foreign_at tables key)

-- two keys of one table are all its columns and its whole key, the first to the near class, the second to the far one
abbrev pub covers_both : List TableSpec → Option Layout → Option Layout → Ends → Bool
covers_both tables near far ends =
    (ends.0.0.0 == ends.1.0.0)
    && is_all_keys (columns_in tables ends.0.0) (foreigns_in tables ends.0.0)
    && refers_to_class tables near ends.0
    && refers_to_class tables far ends.1

-- so are the keys of a side's secondary table, the one that it names: the first to the side's class, the second to the target
abbrev pub covers : List TableSpec → List Layout → Side → Ends → Bool
covers tables layouts side ends =
    is_table (named_table tables side.spec.secondary) ends.0.0
    && covers_both tables (layout_at layouts (Some side.class)) (layout_at layouts side.target) ends

-- a side with a secondary table has such keys
abbrev pub is_covered : List TableSpec → List Layout → Side → Bool
is_covered tables layouts side = is_plain side || holds_of (covers tables layouts side) side.ends

-- ---- partners and hierarchies

-- a side's partner is declared and names it back, or is made as a backref
abbrev pub is_paired : List Side → Side → Bool
is_paired sides side = side.spec.backref || list_any (is_partner side) sides

abbrev pub is_tied_in : List TableSpec → Option Layout → Bool
is_tied_in tables None = true
is_tied_in tables (Some layout) = list_all (is_tied tables layout.tables) (enumerate_from 0 layout.tables)

-- a class is at most 16 deep, and the key of each of its tables refers to the table before
abbrev pub extends_rightly : List TableSpec → Classes → List Layout → ℕ × ClassSpec → Bool
extends_rightly tables classes layouts placed =
    not (nat_lt 16 (length (line_of classes placed.0))) && is_tied_in tables (slice_get layouts placed.0)

-- the columns that a class owns are of the table in which it lives, no other class owns them, and none is of the key
abbrev pub owns_freely : List TableSpec → Classes → ℕ × ClassSpec → Bool
owns_freely tables classes placed = list_all (owns_rightly tables classes placed.0) placed.1.owned

-- What holds of all declarations of a configured mapping. Each foreign key has its target.
pub record IsValid (tables : List TableSpec) (classes : Classes) (layouts : List Layout) (sides : List Side) : Type 0 where
  pub targets : has_targets tables ≡ true
  -- each relationship leads to a declared class
  pub led : list_all (λ side. is_some side.target) sides ≡ true
  -- a joined class's key refers to its parent's table
  pub tied : list_all (extends_rightly tables classes layouts) (enumerate_from 0 classes.specs) ≡ true
  -- a class owns columns that are free
  pub owned : list_all (owns_freely tables classes) (enumerate_from 0 classes.specs) ≡ true
  -- without a secondary table, a foreign key of the many side refers to the one side
  pub joined : list_all (is_joined tables classes layouts sides) sides ≡ true
  -- a secondary table is behind collections alone
  pub collections : list_all (λ side. is_plain side || side.spec.many) sides ≡ true
  -- a secondary table's two keys are its whole key, one to each side
  pub covered : list_all (is_covered tables layouts) sides ≡ true
  -- a foreign key or a secondary table serves one pair
  pub apart : some_two (overlaps tables classes sides) sides ≡ false
  -- partners name each other back
  pub paired : list_all (is_paired sides) sides ≡ true
  -- the name of a backref is taken nowhere at its target or below
  pub differing : list_any (differs classes layouts sides) sides ≡ false
  -- delete-orphan is at one-to-many alone, with delete
  pub orphans : list_any (λ side. is_bad_cascade side.spec) sides ≡ false
  -- a foreign key with a key column has a many side with delete and delete-orphan
  pub keys : list_any (misses_delete tables classes sides) sides ≡ false
  -- a foreign key that is written late takes NULL, and is in no unique constraint
  pub posts : list_any (posts_badly tables classes sides) sides ≡ false
