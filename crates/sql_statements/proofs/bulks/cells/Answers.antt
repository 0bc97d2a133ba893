use Rattle.std.proofs.Common.{ℕ, ◌<◌, List, [], ◌∷◌, length, drop, refl, sym, ◌∙◌, arith, subst}
use Rattle.sql_text.specs.Pages.{WroteOn}
use Rattle.sql_text.specs.Written.{value}
use Rattle.sql_text.proofs.Pages.{dropped}
use Rattle.sql_statements.proofs.Lists.{cell_next, no_columns}
use Rattle.sql_statements.proofs.bulks.cells.Goals as goal

pub returns-in_default : goal.returns-in_default
returns-in_default c whole = sym (no_columns c.args.schema.now c.args.table c.loop-value.word.now c.loop-value.rest.now (drop c.loop-value.value-index c.args.values.now) c.loop-value.page c.in_default.ensures.cases) ∙ c.loop-value.invariant.1 whole

pub loop-value-preserved : goal.loop-value-preserved
unfolding lib.Utf8.encode
loop-value-preserved c =
    let less : c.loop-value.value-index < length c.args.values.now = omega arith in
    let marked = subst (λ (base : List ℕ). WroteOn (value base c.value-item.result ∷ []) c.put_words.new.self c.put_mark.new.self) c.column_name.ensures c.put_mark.ensures in
    ((44 ∷ 32 ∷ [], (refl, refl)), cell_next c.args.schema.now c.args.table c.loop-value.word.now c.in-Some.column.now c.value-item.result c.in-Some.more.now c.loop-value.rest.now _ _ c.loop-value.page c.put_words.new.self c.put_mark.new.self _ c.in-Some.ensures.cases.0 (dropped c.args.values.now c.loop-value.value-index c.value-item.result less c.value-item.is) c.loop-value.invariant.1 c.put_words.ensures marked)
