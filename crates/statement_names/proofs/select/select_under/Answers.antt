use Rattle.std.proofs.Common.{◌≡◌, ◌∷◌, [], map, Result, ap, sym, subst, ◌∙◌}
use Rattle.base_core.specs.declared.refusal.Refusal.{Refusal}
use Rattle.std.proofs.lemmas.Result.{IfOk-at_ok}
use Rattle.std.specs.List.{flat_map}
use Rattle.script_names.specs.Faults.{TellsFirst, pair_or_refusal}
use Rattle.script_names.specs.Naming.{faults_in, name_faults, named_expression, said_in}
use Rattle.statement_names.specs.SelectNames.{faults_under, joins_faults, named_joins}
use Rattle.script_names.proofs.Firsts.{passed_on}
use Rattle.statement_names.proofs.Joins.{select_is, select_told}
use Rattle.statement_names.proofs.select.select_under.Goals as goal

-- pairs of pairs
nest : {A B C D E F G : Type 0} (a : Result A Refusal) (b : Result B Refusal) (c : Result C Refusal) (d : Result D Refusal) (e : Result E Refusal) (f : Result F Refusal) (g : Result G Refusal)
    (one : Result (F × G) Refusal) (two : Result (E × (F × G)) Refusal) (three : Result (D × (E × (F × G))) Refusal) (four : Result (C × (D × (E × (F × G)))) Refusal) (five : Result (B × (C × (D × (E × (F × G))))) Refusal)
    → one ≡ pair_or_refusal f g → two ≡ pair_or_refusal e one → three ≡ pair_or_refusal d two → four ≡ pair_or_refusal c three → five ≡ pair_or_refusal b four
    → pair_or_refusal a five ≡ pair_or_refusal a (pair_or_refusal b (pair_or_refusal c (pair_or_refusal d (pair_or_refusal e (pair_or_refusal f g)))))
nest a b c d e f g one two three four five h1 h2 h3 h4 h5 =
    λ i. pair_or_refusal a ((h5 ∙ (λ j. pair_or_refusal b ((h4 ∙ (λ k. pair_or_refusal c ((h3 ∙ (λ l. pair_or_refusal d ((h2 ∙ (λ m. pair_or_refusal e (h1 m))) l))) k))) j))) i)

pub returns-in_err-items-clause-told : goal.returns-in_err-items-clause-told
returns-in_err-items-clause-told c =
    let items = subst (λ xs. TellsFirst (flat_map (λ item. name_faults c.args.schema.now item.0 c.args.scope.now) xs) c.pairs_named.result) c.as_slice.ensures c.pairs_named.ensures.told in
    let joins = subst (λ xs. TellsFirst (joins_faults c.args.schema.now (c.args.s.now.first ∷ []) xs) c.joins_named.result) c.as_slice-2.ensures c.joins_named.ensures.told in
    let groups = subst (λ xs. TellsFirst (faults_in c.args.scope.now (map (name_faults c.args.schema.now) xs)) c.expressions_named.result) c.as_slice-3.ensures c.expressions_named.ensures.told in
    let order = subst (λ xs. TellsFirst (flat_map (λ key. name_faults c.args.schema.now key.0 c.args.scope.now) xs) c.pairs_named-2.result) c.as_slice-4.ensures c.pairs_named-2.ensures.told in
    let whole = select_told c.args.schema.now c.args.scope.now c.args.s.now c.pairs_named.result c.origin_named.result c.joins_named.result c.named_if_given.result c.expressions_named.result c.named_if_given-2.result c.pairs_named-2.result
    items c.origin_named.ensures.told joins c.named_if_given.ensures.told groups c.named_if_given-2.ensures.told order in
    let nested = nest c.pairs_named.result c.origin_named.result c.joins_named.result c.named_if_given.result c.expressions_named.result c.named_if_given-2.result c.pairs_named-2.result _ _ _ _ _ c.pair.ensures.told c.pair-2.ensures.told c.pair-3.ensures.told c.pair-4.ensures.told c.pair-5.ensures.told in
    passed_on c.from_residual.result c.in_err-items.field-0.0 (faults_under c.args.schema.now c.args.scope.now c.args.s.now) c.from_residual.ensures.1
    (subst (TellsFirst (faults_under c.args.schema.now c.args.scope.now c.args.s.now)) (sym (c.in_err-items.ensures.told ∙ nested)) whole)

pub returns-clause-told : goal.returns-clause-told
returns-clause-told c =
    let items = subst (λ xs. TellsFirst (flat_map (λ item. name_faults c.args.schema.now item.0 c.args.scope.now) xs) c.pairs_named.result) c.as_slice.ensures c.pairs_named.ensures.told in
    let joins = subst (λ xs. TellsFirst (joins_faults c.args.schema.now (c.args.s.now.first ∷ []) xs) c.joins_named.result) c.as_slice-2.ensures c.joins_named.ensures.told in
    let groups = subst (λ xs. TellsFirst (faults_in c.args.scope.now (map (name_faults c.args.schema.now) xs)) c.expressions_named.result) c.as_slice-3.ensures c.expressions_named.ensures.told in
    let order = subst (λ xs. TellsFirst (flat_map (λ key. name_faults c.args.schema.now key.0 c.args.scope.now) xs) c.pairs_named-2.result) c.as_slice-4.ensures c.pairs_named-2.ensures.told in
    let whole = select_told c.args.schema.now c.args.scope.now c.args.s.now c.pairs_named.result c.origin_named.result c.joins_named.result c.named_if_given.result c.expressions_named.result c.named_if_given-2.result c.pairs_named-2.result
    items c.origin_named.ensures.told joins c.named_if_given.ensures.told groups c.named_if_given-2.ensures.told order in
    let nested = nest c.pairs_named.result c.origin_named.result c.joins_named.result c.named_if_given.result c.expressions_named.result c.named_if_given-2.result c.pairs_named-2.result _ _ _ _ _ c.pair.ensures.told c.pair-2.ensures.told c.pair-3.ensures.told c.pair-4.ensures.told c.pair-5.ensures.told in
    subst (TellsFirst (faults_under c.args.schema.now c.args.scope.now c.args.s.now)) (sym (c.in_ok-items.ensures.told ∙ nested)) whole

pub returns-clause-value : goal.returns-clause-value
returns-clause-value c =
    let one = c.in_ok-items.ensures.values in
    let two = IfOk-at_ok _ one.1 c.pair-5.ensures.values in
    let three = IfOk-at_ok _ two.1 c.pair-4.ensures.values in
    let four = IfOk-at_ok _ three.1 c.pair-3.ensures.values in
    let five = IfOk-at_ok _ four.1 c.pair-2.ensures.values in
    let six = IfOk-at_ok _ five.1 c.pair.ensures.values in
    select_is c.args.schema.now c.args.scope.now c.args.s.now c.in_ok-items.items c.in_ok-items.first c.in_ok-items.joins c.in_ok-items.filter c.in_ok-items.groups c.in_ok-items.having c.in_ok-items.order
    (IfOk-at_ok _ one.0 c.pairs_named.ensures.value ∙ ap (map (λ item. (named_expression c.args.schema.now item.0 c.args.scope.now, item.1))) c.as_slice.ensures)
    (IfOk-at_ok _ two.0 c.origin_named.ensures.value)
    (IfOk-at_ok _ three.0 c.joins_named.ensures.value ∙ ap (named_joins c.args.schema.now (c.args.s.now.first ∷ [])) c.as_slice-2.ensures)
    (IfOk-at_ok _ four.0 c.named_if_given.ensures.value)
    (IfOk-at_ok _ five.0 c.expressions_named.ensures.value ∙ ap (λ xs. said_in c.args.scope.now (map (named_expression c.args.schema.now) xs)) c.as_slice-3.ensures)
    (IfOk-at_ok _ six.0 c.named_if_given-2.ensures.value)
    (IfOk-at_ok _ six.1 c.pairs_named-2.ensures.value ∙ ap (map (λ key. (named_expression c.args.schema.now key.0 c.args.scope.now, key.1))) c.as_slice-4.ensures)
