use Rattle.std.proofs.Common.{◌<◌, false, length, sym, ◌∙◌, arith}
use Rattle.std.proofs.lemmas.List.{get_or_read}
use Rattle.cascades.proofs.ClosureLemmas.{above_marked}
use Rattle.cascades.proofs.marks.Marks.into_set.Goals as goal

pub push-requires : goal.push-requires
push-requires c =
    let less : c.loop-number.number < length c.args.self.marks.items = omega (arith, c.loop-number-test.true, c.len-number-end.ensures) in
    above_marked c.args.self.marks.items c.loop-number.number c.loop-number.set less
    (sym (get_or_read c.args.self.marks.items c.loop-number.number c.index.result.now less c.index.ensures false) ∙ c.if-index.true) c.loop-number.invariant
