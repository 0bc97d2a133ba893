use Rattle.std.proofs.Common.{◌≡◌, List, [], ◌∷◌, ◌<◌, length, map, refl, sym, ap, ◌∙◌, subst, arith}
use Rattle.expr_types.specs.declared.expr.Expr.{Expr}
use Rattle.sql_expressions.specs.Laid.{laid, call_pieces}
use Rattle.sql_text.specs.Pages.{WroteOn}
use Rattle.sql_text.specs.Written.{Piece}
use Rattle.sql_expressions.proofs.Lists.{no_parts, laid_call}
use Rattle.sql_text.proofs.Pages.{dropped}
use Rattle.sql_expressions.proofs.Operands.{part_next}
use Rattle.sql_expressions.proofs.emit.+emits.Goals as goal

none_in : (es : List Expr) → length es ≡ 0 → es ≡ []
none_in [] none = refl
none_in (e ∷ es) none = absurd (omega arith)

pub parts-returns-in_default : goal.parts-returns-in_default
parts-returns-in_default t c whole = sym (no_parts c.args.page.now c.args.least c.args.word.now c.args.page.now.written.dialect c.args.schema.now c.args.operands.now c.args.scope.now (none_in c.args.operands.now c.in_default.ensures.cases))

pub expression-returns-in-Call : goal.expression-returns-in-Call
expression-returns-in-Call t c =
    let P : List Piece → Type 0 = λ ps. WroteOn ps c.args.page.now c.call.new.page in
    let whole = ap (λ e. (laid c.args.page.now.written.dialect c.args.schema.now e).pieces c.args.scope.now c.args.base.now) c.in-Call.is ∙ ap (λ l. l.pieces c.args.scope.now c.args.base.now) (laid_call c.args.page.now.written.dialect c.args.schema.now c.in-Call.function c.in-Call.operands) in
    let told = subst (λ (es : List Expr). P (call_pieces c.in-Call.function (map (laid c.args.page.now.written.dialect c.args.schema.now) es) c.args.scope.now)) c.as_slice-in-Call.ensures c.call.ensures in
    subst P (sym whole) told

pub more_parts-loop-operand-preserved : goal.more_parts-loop-operand-preserved
more_parts-loop-operand-preserved t c =
    let less : c.loop-operand.operand-index < length c.args.operands.now = omega arith in
    part_next c.args.least c.args.scope.now c.args.schema.now c.args.word.now c.args.page.now c.loop-operand.page c.put_words.new.self c.part.new.page c.operand-item.result _ _ c.args.operands.now (dropped c.args.operands.now c.loop-operand.operand-index c.operand-item.result less c.operand-item.is) c.loop-operand.invariant c.put_words.ensures c.part.ensures
