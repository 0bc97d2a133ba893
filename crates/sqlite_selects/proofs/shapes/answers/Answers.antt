-- Rows that were tested have the shape of their select.
use Rattle.std.proofs.Common.{◌≡◌, true, ap, sym, subst, List, ◌∙◌}
use Rattle.expr_typing.specs.declared.shapes.ItemShape.{ItemShape}
use Rattle.expr_typing.specs.ItemShapes.{AreAnswers, all_fit}
use Rattle.expr_typing.proofs.Items.{rows_answer}
use Rattle.sqlite_selects.proofs.shapes.answers.Goals as goal

pub returns : goal.returns
returns c =
    subst (AreAnswers c.args.schema.now c.args.select.now) c.as_slice.ensures
    (rows_answer c.args.schema.now c.args.select.now c.as_slice.result.now (ap (λ (shapes : List ItemShape). all_fit shapes c.as_slice.result.now) (sym c.requires) ∙ sym c.if-not-all_fit.ensures))
