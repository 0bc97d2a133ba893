use Rattle.std.proofs.Common.{ℕ, ◌<◌, ◌≤◌, ◌∙◌, length, refl, subst}
use Rattle.object_arena.specs.Graph.{object_at}
use Rattle.load_filling.proofs.FilledLemmas.{all_filled, cell_there, filled_in_part, next_filled, next_keeps, none_filled, object_there}
use Rattle.load_filling.proofs.cells.fill.Goals as goal

pub loop-place-init : goal.loop-place-init
loop-place-init c = record { graph = none_filled c.args.arena.now c.args.object c.args.found.now; keeps = record { fits = λ mapped given fit. fit; classes = refl } }

pub fill_cell-requires-clause-object : goal.fill_cell-requires-clause-object
fill_cell-requires-clause-object c = object_there c.args.arena.now c.loop-place.arena c.args.object c.args.found.now c.loop-place.place c.loop-place.invariant.graph c.requires

pub fill_cell-requires-clause-attr : goal.fill_cell-requires-clause-attr
fill_cell-requires-clause-attr c =
    let less : c.loop-place.place < length (object_at c.args.arena.now c.args.object).cells = subst (λ (n : ℕ). c.loop-place.place < n) c.cell_count-count.ensures c.loop-place-test.true in
    cell_there c.args.arena.now c.loop-place.arena c.args.object c.args.found.now c.loop-place.place (record { 0 = c.in_ok-number.number }) c.loop-place.invariant.graph c.requires less c.in_ok-number.ensures

pub loop-place-preserved : goal.loop-place-preserved
loop-place-preserved c =
    let less : c.loop-place.place < length (object_at c.args.arena.now c.args.object).cells = subst (λ (n : ℕ). c.loop-place.place < n) c.cell_count-count.ensures c.loop-place-test.true in
    record {
      graph =
          next_filled c.args.arena.now c.loop-place.arena c.fill_cell.new.arena c.args.object c.args.found.now c.loop-place.place (record { 0 = c.in_ok-number.number }) c.loop-place.invariant.graph c.requires less
          c.in_ok-number.ensures c.in_ok-fill_cell.ensures.filled;
      keeps =
          next_keeps c.args.arena.now c.loop-place.arena c.fill_cell.new.arena c.args.object c.args.found.now c.loop-place.place c.loop-place.invariant.graph c.requires c.loop-place.invariant.keeps
          c.in_ok-fill_cell.ensures.keeps;
    }

pub returns-clause-filled : goal.returns-clause-filled
returns-clause-filled c =
    let most : length (object_at c.args.arena.now c.args.object).cells ≤ c.loop-place.place = subst (λ (n : ℕ). n ≤ c.loop-place.place) c.cell_count-count.ensures c.loop-place-test.false in
    c.loop-place.invariant.graph ∙ all_filled c.args.arena.now c.args.object c.args.found.now c.loop-place.place most
