-- No row stands outside the range.
use Rattle.std.proofs.Common.{◌≡◌, true, List, Option, ap, subst, ◌∙◌}
use Rattle.base_core.specs.declared.value.Value.{Value}
use Rattle.table_rows.specs.Rows.{Places, is_bound, last_key, rows_present}
use Rattle.table_rows.proofs.Bounds.{all_between, within_present}
use Rattle.table_rows.proofs.rows.last_within.Goals as goal

pub returns-in-Some : goal.returns-in-Some
returns-in-Some c =
    c.last_full.ensures ∙ ap (λ (places : Places). last_key (rows_present places)) (c.range.ensures.between tt)
    ∙ ap last_key (within_present c.in-Some.bound c.args.rows.now.entries (subst (λ (bound : Option (List Value)). is_bound bound (rows_present c.args.rows.now.entries) ≡ true) c.in-Some.is c.requires))

pub returns-in-None : goal.returns-in-None
returns-in-None c = c.last_full-in-None.ensures ∙ ap (λ (places : Places). last_key (rows_present places)) (c.range-in-None.ensures.between tt ∙ all_between c.args.rows.now.entries)
