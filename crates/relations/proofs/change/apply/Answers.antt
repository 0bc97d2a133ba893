use Rattle.std.proofs.Common.{◌∙◌}
use Rattle.relations.proofs.ChangeLemmas.{fits_later}
use Rattle.relations.proofs.change.apply.Goals as goal

pub returns-clause-keeps : goal.returns-clause-keeps
returns-clause-keeps c = λ mapped good fit.
    let one = c.orphan_in.ensures.classes in
    let two = c.put_in.ensures.classes ∙ one in
    let three = c.put_in-2.ensures.classes ∙ two in
    c.put_in-3.ensures.keeps mapped (fits_later mapped c.args.arena.now c.put_in-2.new.arena c.args.change.own three c.requires.placed.own good.own)
    (c.put_in-2.ensures.keeps mapped (fits_later mapped c.args.arena.now c.put_in.new.arena c.args.change.joined two c.requires.placed.joined good.joined)
    (c.put_in.ensures.keeps mapped (fits_later mapped c.args.arena.now c.orphan_in.new.arena c.args.change.left one c.requires.placed.left good.left)
    (c.orphan_in.ensures.keeps mapped fit)))
