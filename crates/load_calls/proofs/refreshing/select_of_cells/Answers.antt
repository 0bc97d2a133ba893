use Rattle.std.proofs.Common.{List}
use Rattle.std.specs.List.{AllByRecursion}
use Rattle.base_core.specs.declared.value.Value.{Value}
use Rattle.class_mapping.specs.Configured.{IsConfigured}
use Rattle.object_arena.specs.Graph.{object_at}
use Rattle.sql_semantics.specs.Plain.{IsPlainSelect}
use Rattle.sql_semantics.specs.Shapes.{AreOfItems}
use Rattle.collection_selects.specs.Rows.{AreCellsOf}
use Rattle.load_calls.proofs.ReadLemmas.{told_of}
use Rattle.load_calls.proofs.RefreshLemmas.{cells_plain, cells_told, select_is}
use Rattle.load_calls.proofs.refreshing.select_of_cells.Goals as goal

pub returns-clause-select : goal.returns-clause-select
returns-clause-select c =
    select_is c.args.mapping.now c.args.arena.now c.args.object c.args.attrs.now c.in_ok-key.key c.object.result.now c.cells_select.result c.object.ensures.is c.in_ok-key.ensures c.cells_select.ensures

pub returns-clause-plain : goal.returns-clause-plain
returns-clause-plain c = told_of (IsConfigured c.args.mapping.now) (IsPlainSelect c.args.mapping.now.schema) c.cells_select.result (λ configured.
    cells_plain c.args.mapping.now c.args.arena.now c.args.object c.args.attrs.now c.in_ok-key.key c.object.result.now c.cells_select.result configured.hierarchies
    (c.object.ensures.fits c.args.mapping.now c.requires.fit) c.object.ensures.is c.requires.persistent c.object.ensures.identified c.in_ok-key.ensures c.requires.attrs c.cells_select.ensures)

pub returns-clause-cells : goal.returns-clause-cells
returns-clause-cells c =
    told_of (IsConfigured c.args.mapping.now)
    (λ s. (rows : List (List Value)) → AreOfItems c.args.mapping.now.schema s rows → AllByRecursion (AreCellsOf c.args.mapping.now (object_at c.args.arena.now c.args.object).class c.args.attrs.now) rows) c.cells_select.result (λ configured.
    cells_told c.args.mapping.now c.args.arena.now c.args.object c.args.attrs.now c.object.result.now c.cells_select.result configured.hierarchies
    (c.object.ensures.fits c.args.mapping.now c.requires.fit) c.object.ensures.is c.requires.attrs (returns-clause-select c))
