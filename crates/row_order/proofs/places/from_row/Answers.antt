use Rattle.std.proofs.Common.{get_or, refl, sym, ◌∙◌}
use Rattle.std.proofs.lemmas.Bool.{ne_eqb}
use Rattle.row_order.proofs.Ranges.{from_end, from_passed}
use Rattle.row_order.proofs.places.from_row.Goals as goal

pub loop-place-init : goal.loop-place-init
loop-place-init c = refl

pub loop-place-preserved : goal.loop-place-preserved
loop-place-preserved c =
    let path = c.args.path.now in
    let place = c.loop-place.place in
    from_passed c.args.row path place 0 c.loop-place-test.true (ne_eqb c.args.row (get_or path place 0) c.if-row-first.false) ∙ c.loop-place.invariant

pub returns : goal.returns
returns c = c.new.ensures.items ∙ sym (from_end c.args.row c.args.path.now c.loop-place.place c.loop-place-test.false) ∙ c.loop-place.invariant
