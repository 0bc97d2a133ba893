use Rattle.std.proofs.Common.{◌∙◌, refl, arith}
use Rattle.load_preparing.proofs.CellLemmas.{all_reread, cells_there, next_reread, none_reread, object_before, there_still}
use Rattle.load_preparing.proofs.cells.reread_cells.Goals as goal

pub loop-number-init : goal.loop-number-init
loop-number-init c = record { put = none_reread c.args.arena.now c.args.object; fits = λ mapped fit. fit; classes = refl }

pub reread_cell-requires-clause-object : goal.reread_cell-requires-clause-object
reread_cell-requires-clause-object c = there_still c.args.arena.now c.loop-number.arena c.args.object (object_before c.args.arena.now c.args.object c.loop-number.number) c.loop-number.invariant.put c.requires.object

pub reread_cell-requires-clause-attr : goal.reread_cell-requires-clause-attr
reread_cell-requires-clause-attr c =
    let there = cells_there c.args.arena.now c.loop-number.arena c.args.object c.loop-number.number c.requires.object c.loop-number.invariant.put in
    omega (arith, there, c.requires.count, c.loop-number-test.true)

pub loop-number-preserved : goal.loop-number-preserved
loop-number-preserved c = record {
  put =
      next_reread c.args.arena.now c.loop-number.arena c.reread_cell.new.arena c.args.object (record { 0 = c.loop-number.number }) c.loop-number.number c.requires.object (omega (arith, c.requires.count, c.loop-number-test.true)) refl
      c.loop-number.invariant.put c.reread_cell.ensures.put;
  fits = λ mapped fit. c.reread_cell.ensures.fits mapped (c.loop-number.invariant.fits mapped fit);
  classes = c.reread_cell.ensures.classes ∙ c.loop-number.invariant.classes;
}

pub returns-clause-put : goal.returns-clause-put
returns-clause-put c = all_reread c.args.arena.now c.loop-number.arena c.args.object c.loop-number.number (omega (arith, c.requires.count, c.loop-number-test.false)) c.loop-number.invariant.put
