use Rattle.expr_eval.proofs.Operands.{told_as}
use Rattle.sql_semantics.proofs.Equations.{evaluated-Compare, evaluated-IsNull, evaluated-And, evaluated-Or, evaluated-Not, evaluated-Arith, evaluated-Neg, evaluated-Concat, evaluated-Like, evaluated-Ilike, evaluated-InList, evaluated-Between, evaluated-Distinct, evaluated-Call, evaluated-Exists}
use Rattle.expr_eval.proofs.evaluate.+eval.Goals as goal

pub value_in-returns-in-Compare : goal.value_in-returns-in-Compare
value_in-returns-in-Compare t c = told_as _ _ _ _ _ c.in-Compare.is (evaluated-Compare _ _ _) c.comparison.ensures

pub value_in-returns-in-IsNull : goal.value_in-returns-in-IsNull
value_in-returns-in-IsNull t c = told_as _ _ _ _ _ c.in-IsNull.is (evaluated-IsNull _ _) c.null_test.ensures

pub value_in-returns-in-And : goal.value_in-returns-in-And
value_in-returns-in-And t c = told_as _ _ _ _ _ c.in-And.is (evaluated-And _) c.conjunction.ensures

pub value_in-returns-in-Or : goal.value_in-returns-in-Or
value_in-returns-in-Or t c = told_as _ _ _ _ _ c.in-Or.is (evaluated-Or _) c.disjunction.ensures

pub value_in-returns-in-Not : goal.value_in-returns-in-Not
value_in-returns-in-Not t c = told_as _ _ _ _ _ c.in-Not.is (evaluated-Not _) c.opposite.ensures

pub value_in-returns-in-Arith : goal.value_in-returns-in-Arith
value_in-returns-in-Arith t c = told_as _ _ _ _ _ c.in-Arith.is (evaluated-Arith _ _ _) c.calculation.ensures

pub value_in-returns-in-Neg : goal.value_in-returns-in-Neg
value_in-returns-in-Neg t c = told_as _ _ _ _ _ c.in-Neg.is (evaluated-Neg _) c.minus.ensures

pub value_in-returns-in-Concat : goal.value_in-returns-in-Concat
value_in-returns-in-Concat t c = told_as _ _ _ _ _ c.in-Concat.is (evaluated-Concat _ _) c.concatenation.ensures

pub value_in-returns-in-Like : goal.value_in-returns-in-Like
value_in-returns-in-Like t c = told_as _ _ _ _ _ c.in-Like.is (evaluated-Like _ _ _) c.likeness.ensures

pub value_in-returns-in-Ilike : goal.value_in-returns-in-Ilike
value_in-returns-in-Ilike t c = told_as _ _ _ _ _ c.in-Ilike.is (evaluated-Ilike _ _ _) c.likeness-in-Ilike.ensures

pub value_in-returns-in-InList : goal.value_in-returns-in-InList
value_in-returns-in-InList t c = told_as _ _ _ _ _ c.in-InList.is (evaluated-InList _ _ _) c.membership.ensures

pub value_in-returns-in-Between : goal.value_in-returns-in-Between
value_in-returns-in-Between t c = told_as _ _ _ _ _ c.in-Between.is (evaluated-Between _ _ _ _) c.range_test.ensures

pub value_in-returns-in-Distinct : goal.value_in-returns-in-Distinct
value_in-returns-in-Distinct t c = told_as _ _ _ _ _ c.in-Distinct.is (evaluated-Distinct _ _ _) c.difference.ensures

pub value_in-returns-in-Call : goal.value_in-returns-in-Call
value_in-returns-in-Call t c = told_as _ _ _ _ _ c.in-Call.is (evaluated-Call _ _) c.called.ensures

pub value_in-returns-in-Exists : goal.value_in-returns-in-Exists
value_in-returns-in-Exists t c = told_as _ _ _ _ _ c.in-Exists.is (evaluated-Exists _ _ _) c.existence.ensures
