use Rattle.std.proofs.Common.{◌≡◌, false, sym, ◌∙◌, arith}
use Rattle.std.proofs.lemmas.List.{get_or_read}
use Rattle.cascades.specs.Walks.{is_marked}
use Rattle.cascades.proofs.WalkLemmas.{comes_first, one_less, puts_mark}
use Rattle.cascades.proofs.marks.Marks.come_to.Goals as goal

pub returns-clause-ok : goal.returns-clause-ok
returns-clause-ok c =
    comes_first (is_marked c.args.self.now.marks.items) _ c.args.self.now.waiting.items c.push.new.self.items c.args.object (puts_mark c.args.self.now.marks.items c.args.object.0 c.requires) c.in_ok-push.ensures.items

pub returns-clause-count : goal.returns-clause-count
returns-clause-count c =
    let absent : is_marked c.args.self.now.marks.items c.args.object.0 ≡ false = sym (get_or_read c.args.self.now.marks.items c.args.object.0 c.index.result.now c.requires c.index.ensures false) ∙ c.if-index.false in
    let less = one_less c.args.self.now.marks.items c.args.object.0 c.requires absent in
    omega (arith, less, c.in_ok-push.ensures.len)
