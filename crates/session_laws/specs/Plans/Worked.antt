-- Plans of small changes, worked by hand.
use Rattle.std.specs.Prelude.{ℕ, pos, true, false, List, [], ◌∷◌, map, codes}
use Rattle.std.specs.List.{enumerate_from}
use Rattle.base_core.specs.declared.ids.ColumnNo.{ColumnNo}
use Rattle.base_core.specs.declared.ids.TableId.{TableId}
use Rattle.base_core.specs.declared.refusal.Refusal.{Refusal}
use Rattle.base_core.specs.declared.refusal.Refusal.TheVariants.{CircularDependencyError}
use Rattle.base_core.specs.declared.refusal.RowName.{RowName}
use Rattle.base_core.specs.declared.value.Value.{Value}
use Rattle.base_core.specs.declared.value.Value.TheVariants as value
use Rattle.schema_core.specs.declared.changes.Planned.{Planned}
use Rattle.schema_core.specs.declared.changes.Planned.TheVariants.{Insert, Update, Remove}
use Rattle.schema_core.specs.declared.changes.RowCell.{RowCell}
use Rattle.schema_core.specs.declared.changes.RowCell.TheVariants.{Given, KeyOf}
use Rattle.schema_core.specs.declared.changes.ChangedRow.{ChangedRow}
use Rattle.schema_core.specs.declared.changes.NewRow.{NewRow}
use Rattle.schema_core.specs.declared.changes.GoneRow.{GoneRow}
use Rattle.schema_core.specs.declared.changes.RowChanges.{RowChanges}
use Rattle.schema_core.specs.declared.table.ColumnKind.TheVariants as kind
use Rattle.schema_core.specs.declared.table.TableSpec.{TableSpec}
use Rattle.schema_core.specs.Catalog.{Catalog}
use Rattle.schema_core.specs.Tables.{Tables}
use Rattle.flush_plan.specs.Flushing.{Keys}

-- widgets: a generated key, a name that is NOT NULL, and the favourite entry, which is written after all rows
abbrev pub widgets : TableSpec
widgets = record {
  name = codes "widgets";
  columns =
      record { name = codes "id"; kind = kind.Integer; key = true; not_null = false }
      ∷ record { name = codes "name"; kind = kind.Text; key = false; not_null = true }
      ∷ record { name = codes "fav"; kind = kind.Integer; key = false; not_null = false }
      ∷ [];
  uniques = [];
  foreigns = record { columns = codes "fav" ∷ []; target = codes "entries" } ∷ [];
}

-- entries: a generated key, and a widget
abbrev pub entries : TableSpec
entries = record {
  name = codes "entries";
  columns =
      record { name = codes "id"; kind = kind.Integer; key = true; not_null = false }
      ∷ record { name = codes "widget"; kind = kind.Integer; key = false; not_null = false }
      ∷ [];
  uniques = [];
  foreigns = record { columns = codes "widget" ∷ []; target = codes "widgets" } ∷ [];
}

-- a node that refers to a node
abbrev pub nodes : TableSpec
nodes = record {
  name = codes "nodes";
  columns =
      record { name = codes "id"; kind = kind.Integer; key = true; not_null = false }
      ∷ record { name = codes "next"; kind = kind.Integer; key = false; not_null = false }
      ∷ [];
  uniques = [];
  foreigns = record { columns = codes "next" ∷ []; target = codes "nodes" } ∷ [];
}

abbrev pub schema : Catalog
schema = record { tables = widgets ∷ entries ∷ nodes ∷ []; resolved = true }

abbrev pub table_numbered : ℕ → TableId
table_numbered number = record { 0 = number }

abbrev pub of_widgets : TableId
of_widgets = table_numbered 0

abbrev pub of_entries : TableId
of_entries = table_numbered 1

abbrev pub of_nodes : TableId
of_nodes = table_numbered 2

abbrev pub int : ℕ → Value
int n = value.Int (pos n)

abbrev pub new_widget : RowCell → RowCell → NewRow
new_widget id fav = record { name = record { table = of_widgets; object = record { 0 = 1 } }; cells = id ∷ Given (value.Text (codes "w")) ∷ fav ∷ [] }

abbrev pub new_entry : RowCell → RowCell → NewRow
new_entry id widget = record { name = record { table = of_entries; object = record { 0 = 2 } }; cells = id ∷ widget ∷ [] }

abbrev pub of_new : List NewRow → List (TableId × ℕ) → RowChanges
of_new fresh post = record { fresh = fresh; changed = []; gone = []; post = post; warnings = [] }

abbrev pub cell_of_null : RowCell
cell_of_null = Given value.Null

-- a widget and its entry, each with a link to the other
abbrev pub both_new : List (TableId × ℕ) → RowChanges
both_new post = of_new (new_widget cell_of_null (KeyOf 1 0) ∷ new_entry cell_of_null (KeyOf 0 0) ∷ []) post

abbrev pub late : List (TableId × ℕ)
late = (of_widgets, 0) ∷ []

-- an entry before the widget that its values name
abbrev pub by_value : RowChanges
by_value = of_new (new_entry cell_of_null (Given (int 5)) ∷ new_widget (Given (int 5)) cell_of_null ∷ []) []

abbrev pub no_rows : Tables
no_rows = (of_widgets, []) ∷ (of_entries, []) ∷ []

abbrev pub both_rows : Value → Tables
both_rows fav = (of_widgets, (int 1 ∷ [], int 1 ∷ value.Text (codes "w") ∷ fav ∷ []) ∷ []) ∷ (of_entries, (int 1 ∷ [], int 1 ∷ int 1 ∷ []) ∷ []) ∷ []

abbrev pub gone_widget : GoneRow
gone_widget = record { name = record { table = of_widgets; object = record { 0 = 1 } }; base = int 1 ∷ value.Text (codes "w") ∷ int 1 ∷ [] }

abbrev pub gone_entry : GoneRow
gone_entry = record { name = record { table = of_entries; object = record { 0 = 2 } }; base = int 1 ∷ int 1 ∷ [] }

abbrev pub both_gone : List (TableId × ℕ) → RowChanges
both_gone post = record { fresh = []; changed = []; gone = gone_widget ∷ gone_entry ∷ []; post = post; warnings = [] }

abbrev pub value_rows : Tables
value_rows = (of_widgets, (int 5 ∷ [], int 5 ∷ value.Text (codes "w") ∷ value.Null ∷ []) ∷ []) ∷ (of_entries, (int 1 ∷ [], int 1 ∷ int 5 ∷ []) ∷ []) ∷ []

-- ---- nodes

abbrev pub node_name : ℕ → RowName
node_name object = record { table = of_nodes; object = record { 0 = object } }

abbrev pub new_node : ℕ → RowCell → RowCell → NewRow
new_node object id next = record { name = node_name object; cells = id ∷ next ∷ [] }

-- new nodes, of which each refers to the new node of the next place, or to none
abbrev pub new_nodes : List RowCell → List (TableId × ℕ) → RowChanges
new_nodes nexts post = of_new (map (λ node. new_node node.0 cell_of_null node.1) (enumerate_from 0 nexts)) post

abbrev pub to_new : ℕ → RowCell
to_new place = KeyOf place 0

abbrev pub late_next : List (TableId × ℕ)
late_next = (of_nodes, 0) ∷ []

-- new nodes with these keys, which refer to none
abbrev pub keyed_nodes : List RowCell → RowChanges
keyed_nodes keys = of_new (map (λ node. new_node node.0 node.1 cell_of_null) (enumerate_from 0 keys)) []

abbrev pub gone_node : ℕ → Value → GoneRow
gone_node key next = record { name = node_name key; base = int key ∷ next ∷ [] }

abbrev pub gone_nodes : List GoneRow → RowChanges
gone_nodes gone = record { fresh = []; changed = []; gone = gone; post = []; warnings = [] }

abbrev pub changed_node : ℕ → List (ColumnNo × RowCell) → ChangedRow
changed_node key cells = record { name = node_name key; key = int key ∷ []; cells = cells }

abbrev pub changed_nodes : List ChangedRow → List (TableId × ℕ) → RowChanges
changed_nodes changed post = record { fresh = []; changed = changed; gone = []; post = post; warnings = [] }

abbrev pub next_is : RowCell → List (ColumnNo × RowCell)
next_is cell = (record { 0 = 1 }, cell) ∷ []

-- node 1 is to refer to a new node, as this does to itself, and node 2, which refers to node 1, is deleted; all that is written last
abbrev pub mixed_changes : RowChanges
mixed_changes = record {
  fresh = new_node 3 cell_of_null (to_new 0) ∷ [];
  changed = changed_node 1 (next_is (to_new 0)) ∷ [];
  gone = gone_node 2 (int 1) ∷ [];
  post = late_next;
  warnings = [];
}

abbrev pub node_row : ℕ → Value → List Value × List Value
node_row key next = (int key ∷ [], int key ∷ next ∷ [])

abbrev pub mixed_old : Tables
mixed_old = (of_nodes, node_row 1 value.Null ∷ node_row 2 (int 1) ∷ []) ∷ []

abbrev pub mixed_rows : Tables
mixed_rows = (of_nodes, node_row 1 (int 3) ∷ node_row 3 (int 3) ∷ []) ∷ []

abbrev pub put_nodes : List ℕ → Planned
put_nodes places = Insert of_nodes places

abbrev pub remove_node : ℕ → Planned
remove_node key = Remove of_nodes (int key ∷ [])

abbrev pub change_node : RowCell → RowCell → Planned
change_node key next = Update of_nodes (key ∷ []) (next_is next)

abbrev pub mixed_keys : Keys
mixed_keys = (0, int 3 ∷ []) ∷ []

abbrev pub mixed_plan : List Planned
mixed_plan = put_nodes (0 ∷ []) ∷ change_node (to_new 0) (to_new 0) ∷ change_node (Given (int 1)) (to_new 0) ∷ change_node (Given (int 2)) cell_of_null ∷ remove_node 2 ∷ []

-- the refusal of a cycle of nodes
abbrev pub cycle_of : List ℕ → Refusal
cycle_of objects = CircularDependencyError (map node_name objects)

-- ---- what is planned of widgets and entries

abbrev pub widget_name : RowName
widget_name = record { table = of_widgets; object = record { 0 = 1 } }

abbrev pub entry_name : RowName
entry_name = record { table = of_entries; object = record { 0 = 2 } }

abbrev pub new_cycle : Refusal
new_cycle = CircularDependencyError (widget_name ∷ entry_name ∷ [])

abbrev pub gone_cycle : Refusal
gone_cycle = CircularDependencyError (gone_widget.name ∷ gone_entry.name ∷ [])

abbrev pub favourite_is : RowCell → List (ColumnNo × RowCell)
favourite_is cell = (record { 0 = 2 }, cell) ∷ []

abbrev pub late_plan : List Planned
late_plan = Insert of_widgets (0 ∷ []) ∷ Insert of_entries (1 ∷ []) ∷ Update of_widgets (to_new 0 ∷ []) (favourite_is (to_new 1)) ∷ []

abbrev pub entry_by_value : List Planned
entry_by_value = Insert of_widgets (1 ∷ []) ∷ Insert of_entries (0 ∷ []) ∷ []

abbrev pub removes_cleared : List Planned
removes_cleared = Update of_widgets (Given (int 1) ∷ []) (favourite_is cell_of_null) ∷ Remove of_entries (int 1 ∷ []) ∷ Remove of_widgets (int 1 ∷ []) ∷ []

-- an entry and a widget without links
abbrev pub entry_then_widget : RowChanges
entry_then_widget = of_new (new_entry cell_of_null cell_of_null ∷ new_widget cell_of_null cell_of_null ∷ []) []

abbrev pub two_tables : List Planned
two_tables = Insert of_entries (0 ∷ []) ∷ Insert of_widgets (1 ∷ []) ∷ []

abbrev pub both_keys : Keys
both_keys = (1, int 1 ∷ []) ∷ (0, int 1 ∷ []) ∷ []
