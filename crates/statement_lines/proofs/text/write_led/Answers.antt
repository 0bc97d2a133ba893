use Rattle.std.proofs.Common.{rules, refl, ap, ◌∙◌, get_or, ◌≡◌, ◌++◌, ◌<◌, ◌≤◌, ℕ, List, take, length, codes, sym, subst, arith}
use Rattle.std.specs.List.{zip}
use Rattle.std.specs.Fmt.{HasWritten}
use Rattle.std.proofs.Output.{has_written_append}
use Rattle.base_core.specs.declared.value.Value.{Value}
use Rattle.printing.specs.Texts.{with_leading_separators}
use Rattle.statement_lines.specs.StatementLines.{named_value}
use Rattle.statement_lines.proofs.Marks.{written_more, zip_first_ends, zip_second_ends}
use Rattle.statement_lines.proofs.text.write_led.Goals as goal

pub loop-place-preserved : goal.loop-place-preserved
loop-place-preserved g c plain =
    let so_far = c.loop-place.invariant plain in
    let comma = c.in_ok-write_str.ensures.writes so_far.plain refl in
    let value = c.in_ok-write_named_value.ensures comma.plain refl in
    let both = has_written_append _ _ _ _ _ _ so_far (has_written_append _ _ _ _ _ _ comma value) in
    let name_is : c.index-names-place.result ≡ get_or c.args.names.now c.loop-place.place c.index-names-place.result = search rules in
    let value_is : c.index-values-place.result ≡ get_or c.args.values.now c.loop-place.place c.index-values-place.result = search rules in
    let pair_is = ap (λ (n : List ℕ). (n, c.index-values-place.result)) name_is ∙ ap (λ (v : Value). (get_or c.args.names.now c.loop-place.place c.index-names-place.result, v)) value_is in
    let more = written_more (λ p. codes ", " ++ named_value p) c.args.names.now c.args.values.now c.loop-place.place c.index-names-place.result c.index-values-place.result (omega (arith, c.loop-place-test.true)) (omega (arith, c.if-place-values.true)) in
    subst (λ (text : List ℕ). HasWritten g.W.Write.write_str_gives c.args.f.now text c.write_named_value.new.f)
    (ap (λ (p : List ℕ × Value). with_leading_separators (codes ", ") named_value (take c.loop-place.place (zip c.args.names.now c.args.values.now)) ++ (codes ", " ++ named_value p)) pair_is ∙ sym more) both

pub returns-else-place-values : goal.returns-else-place-values
returns-else-place-values g c plain is =
    subst (λ (pairs : List (List ℕ × Value)). HasWritten g.W.Write.write_str_gives c.args.f.now (with_leading_separators (codes ", ") named_value pairs) c.loop-place.f)
    (zip_second_ends c.args.names.now c.args.values.now c.loop-place.place (omega (arith, c.if-place-values.false))) (c.loop-place.invariant plain)

pub returns-after-loop-place : goal.returns-after-loop-place
returns-after-loop-place g c plain is =
    subst (λ (pairs : List (List ℕ × Value)). HasWritten g.W.Write.write_str_gives c.args.f.now (with_leading_separators (codes ", ") named_value pairs) c.loop-place.f)
    (zip_first_ends c.args.names.now c.args.values.now c.loop-place.place (omega (arith, c.loop-place-test.false))) (c.loop-place.invariant plain)
