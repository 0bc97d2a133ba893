use Rattle.std.proofs.Common.{ℕ, ◌<◌, ◌∙◌, length, subst, sym}
use Rattle.std.specs.Option.{option_copied}
use Rattle.load_selects.specs.Branches.{class_numbered, is_under}
use Rattle.load_filling.specs.Rows.{has_identity}
use Rattle.load_filling.proofs.FoundLemmas.{found_later}
use Rattle.load_filling.proofs.rows.found_under.Goals as goal

pub loop-number-preserved : goal.loop-number-preserved
loop-number-preserved c =
    let less : c.loop-number.number < length c.args.mapping.now.classes.specs = subst (λ (n : ℕ). c.loop-number.number < n) c.count-number-end.ensures c.loop-number-test.true in
    sym
    (found_later (is_under c.args.mapping.now c.args.class) (has_identity c.args.mapping.now (option_copied c.args.found)) class_numbered c.loop-number.number
    (length c.args.mapping.now.classes.specs) less (sym c.is_named.ensures ∙ c.if-is_named.false))
    ∙ c.loop-number.invariant
