-- Statements on rows of two small tables, worked by hand.
use Rattle.std.specs.Prelude.{◌≡◌, ℕ, pos, true, false, List, [], ◌∷◌, codes}
use Rattle.base_core.specs.declared.ids.TableId.{TableId}
use Rattle.base_core.specs.declared.value.Value.{Value}
use Rattle.base_core.specs.declared.value.Value.TheVariants as value
use Rattle.schema_core.specs.declared.statement.RowStmt.{RowStmt}
use Rattle.schema_core.specs.declared.statement.RowStmt.TheVariants as statement
use Rattle.schema_core.specs.declared.table.ColumnKind.TheVariants as kind
use Rattle.schema_core.specs.declared.table.TableSpec.{TableSpec}
use Rattle.schema_core.specs.Apply.{Outcome, apply}
use Rattle.schema_core.specs.Catalog.{Catalog}
use Rattle.schema_core.specs.Tables.{Rows, Tables}

-- nodes: a generated key, a tag that is NOT NULL, and the next node; tag and next are unique together
abbrev pub nodes : TableSpec
nodes = record {
  name = codes "nodes";
  columns =
      record { name = codes "id"; kind = kind.Integer; key = true; not_null = false }
      ∷ record { name = codes "tag"; kind = kind.Text; key = false; not_null = true }
      ∷ record { name = codes "next"; kind = kind.Integer; key = false; not_null = false }
      ∷ [];
  uniques = (codes "tag" ∷ codes "next" ∷ []) ∷ [];
  foreigns = record { columns = codes "next" ∷ []; target = codes "nodes" } ∷ [];
}

-- places: a key of an integer and a text, and a node
abbrev pub places : TableSpec
places = record {
  name = codes "places";
  columns =
      record { name = codes "row"; kind = kind.Integer; key = true; not_null = false }
      ∷ record { name = codes "side"; kind = kind.Text; key = true; not_null = false }
      ∷ record { name = codes "node"; kind = kind.Integer; key = false; not_null = false }
      ∷ [];
  uniques = [];
  foreigns = record { columns = codes "node" ∷ []; target = codes "nodes" } ∷ [];
}

abbrev pub schema : Catalog
schema = record { tables = nodes ∷ places ∷ []; resolved = true }

abbrev pub nodes_id : TableId
nodes_id = record { 0 = 0 }

abbrev pub places_id : TableId
places_id = record { 0 = 1 }

abbrev pub int : ℕ → Value
int n = value.Int (pos n)

-- a node's row: its key, its tag, and the next node
abbrev pub node : Value → List ℕ → Value → List Value
node id tag next = id ∷ value.Text tag ∷ next ∷ []

-- a node as it stands in its table
abbrev pub node_entry : ℕ → List ℕ → Value → List Value × List Value
node_entry id tag next = (int id ∷ [], node (int id) tag next)

abbrev pub place_entry : ℕ → List ℕ → ℕ → List Value × List Value
place_entry row side to = (int row ∷ value.Text side ∷ [], int row ∷ value.Text side ∷ int to ∷ [])

-- both tables with these rows
abbrev pub both : Rows → Rows → Tables
both of_nodes of_places = (nodes_id, of_nodes) ∷ (places_id, of_places) ∷ []

abbrev pub insert_node : Value → List ℕ → Value → RowStmt
insert_node id tag next = statement.Insert nodes_id (node id tag next ∷ [])

abbrev pub insert_nodes : List (List Value) → RowStmt
insert_nodes rows = statement.Insert nodes_id rows

abbrev pub insert_place : ℕ → List ℕ → ℕ → RowStmt
insert_place row side to = statement.Insert places_id ((place_entry row side to).1 ∷ [])

abbrev pub delete_node : ℕ → RowStmt
delete_node id = statement.Delete nodes_id (int id ∷ [])

-- the third cell of a node is written
abbrev pub point_node : ℕ → Value → RowStmt
point_node id next = statement.Update nodes_id (int id ∷ []) ((record { 0 = 2 }, next) ∷ [])

-- on these rows the statement has this outcome
abbrev pub Gives : Tables → RowStmt → Outcome → Type 0
Gives tables sent outcome = apply schema tables sent ≡ outcome

abbrev pub tables_at_last_key : Tables
tables_at_last_key = both (node_entry 9223372036854775807 (codes "z") value.Null ∷ []) []
