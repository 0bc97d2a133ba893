use Rattle.std.proofs.Common.{◌∷◌, [], subst}
use Rattle.std.specs.List.{flat_map}
use Rattle.script_names.specs.Faults.{TellsFirst}
use Rattle.statement_kinds.specs.Mismatches.{join_mismatches, mismatch}
use Rattle.statement_kinds.proofs.Firsts.{both_told}
use Rattle.statement_kinds.proofs.kinds.judge_under.Goals as goal

pub returns : goal.returns
returns c =
    let items = subst (λ xs. TellsFirst (flat_map (λ item. mismatch c.args.schema.now c.args.scope.now item.0) xs) c.judge_pairs.result) c.as_slice.ensures c.judge_pairs.ensures in
    let joins = subst (λ xs. TellsFirst (join_mismatches c.args.schema.now (c.args.s.now.first.table ∷ []) xs) c.judge_joins.result) c.as_slice-2.ensures c.judge_joins.ensures in
    let groups = subst (λ xs. TellsFirst (flat_map (mismatch c.args.schema.now c.args.scope.now) xs) c.judge_groups.result) c.as_slice-3.ensures c.judge_groups.ensures in
    let order = subst (λ xs. TellsFirst (flat_map (λ key. mismatch c.args.schema.now c.args.scope.now key.0) xs) c.judge_pairs-2.result) c.as_slice-4.ensures c.judge_pairs-2.ensures in
    let one = both_told c.judge_pairs.result c.judge_joins.result c.both.result _ _ c.both.ensures items joins in
    let two = both_told c.both.result c.judge_if_given.result c.both-2.result _ _ c.both-2.ensures one c.judge_if_given.ensures in
    let three = both_told c.both-2.result c.judge_groups.result c.both-3.result _ _ c.both-3.ensures two groups in
    let four = both_told c.both-3.result c.judge_if_given-2.result c.both-4.result _ _ c.both-4.ensures three c.judge_if_given-2.ensures in
    both_told c.both-4.result c.judge_pairs-2.result c.both-5.result _ _ c.both-5.ensures four order
