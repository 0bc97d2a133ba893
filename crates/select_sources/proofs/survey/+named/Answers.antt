use Rattle.std.proofs.Common.{◌≡◌, ◌++◌, map, ap, subst, ◌∙◌}
use Rattle.std.proofs.lemmas.Result.{on_ok_weaker}
use Rattle.std.specs.Result.{OnOk}
use Rattle.sql_semantics.specs.Rows as spec
use Rattle.select_sources.proofs.Surveys.{between_found, exists_found, named_in_end, named_more}
use Rattle.select_sources.proofs.survey.+named.Goals as goal

pub named-returns-in_ok-push-in-Exists : goal.named-returns-in_ok-push-in-Exists
named-returns-in_ok-push-in-Exists t c =
    on_ok_weaker c.named-in-Exists.result
    (exists_found c.in-Exists.field-0 c.in-Exists.origin c.args.e.now c.in-Exists.condition c.args.found.now.items c.push.new.self.items c.named-in-Exists.new.found.items c.in-Exists.is c.in_ok-push-in-Exists.ensures.items)
    (subst (λ e. OnOk c.named-in-Exists.result (c.named-in-Exists.new.found.items ≡ c.push.new.self.items ++ spec.exists_tables e)) c.get-in-Exists.ensures c.named-in-Exists.ensures)

pub named-returns-in_ok-named-in-Between-2 : goal.named-returns-in_ok-named-in-Between-2
named-returns-in_ok-named-in-Between-2 t c =
    on_ok_weaker c.named-in-Between-2.result
    (between_found c.in-Between.field-0 c.args.e.now c.in-Between.a c.in-Between.low c.in-Between.high c.args.found.now.items c.named.new.found.items c.named-in-Between.new.found.items c.named-in-Between-2.new.found.items c.in-Between.is
    (c.in_ok-named-in-Between.ensures ∙ ap (λ e. c.args.found.now.items ++ spec.exists_tables e) c.get.ensures)
    (c.in_ok-named-in-Between-2.ensures ∙ ap (λ e. c.named.new.found.items ++ spec.exists_tables e) c.get-in-Between.ensures))
    (subst (λ e. OnOk c.named-in-Between-2.result (c.named-in-Between-2.new.found.items ≡ c.named-in-Between.new.found.items ++ spec.exists_tables e)) c.get-in-Between-2.ensures c.named-in-Between-2.ensures)

pub named_all-loop-part-preserved : goal.named_all-loop-part-preserved
named_all-loop-part-preserved t c =
    named_more spec.exists_tables c.as_slice-part-items.result.now c.loop-part.part-index c.part-item.result c.loop-part.found.items c.named.new.found.items (c.args.found.now.items ++ spec.flat (map spec.exists_tables c.args.parts.now))
    c.loop-part-test.true c.part-item.is c.in_ok-named.ensures c.loop-part.invariant

pub named_all-returns : goal.named_all-returns
named_all-returns t c =
    named_in_end spec.exists_tables c.as_slice-part-items.result.now c.loop-part.part-index c.loop-part.found.items (c.args.found.now.items ++ spec.flat (map spec.exists_tables c.args.parts.now)) c.loop-part-test.false c.loop-part.invariant
