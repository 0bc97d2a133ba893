use Rattle.std.proofs.Common.{◌∙◌}
use Rattle.session_parts.proofs.ObjectLemmas.{on_ok}
use Rattle.session_objects.proofs.Acting.{taken_is}
use Rattle.session_objects.proofs.joining.take_one.Goals as goal

pub returns-clause-ok : goal.returns-clause-ok
returns-clause-ok c =
    on_ok c.step.result
    (λ stepped. stepped ∙ taken_is c.args.session.now c.draw_number-number.new.session c.args.object c.draw_number-number.result c.draw_number-number.ensures.drawn c.draw_number-number.ensures.number)
    c.step.ensures.ok
