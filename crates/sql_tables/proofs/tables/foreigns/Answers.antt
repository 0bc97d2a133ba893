use Rattle.std.proofs.Common.{◌≡◌, ◌<◌, ◌==◌, false, length, sym, ◌∙◌, arith}
use Rattle.std.specs.List.{list_any}
use Rattle.sql_text.proofs.Pages.{dropped}
use Rattle.sql_tables.proofs.Lists.{foreign_next}
use Rattle.sql_tables.proofs.tables.foreigns.Goals as goal

pub loop-number-preserved : goal.loop-number-preserved
loop-number-preserved c =
    let less : c.loop-number.number < length c.args.foreigns.now = omega arith in
    let here : list_any (λ other. other == c.loop-number.number) c.args.later.now ≡ false = sym c.comes_later.ensures ∙ c.if-comes_later.false in
    foreign_next c.args.schema.now c.args.later.now c.loop-number.number c.index-foreigns-number.result _ _ c.loop-number.page c.put_words.new.self c.foreign.new.page _ (dropped c.args.foreigns.now c.loop-number.number c.index-foreigns-number.result less c.index-foreigns-number.is) here c.loop-number.invariant c.put_words.ensures c.foreign.ensures
