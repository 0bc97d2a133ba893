-- The kinds with which expressions begin, and those before which they end.
use Rattle.std.proofs.Common.{◌≡◌, Bool, true, false, not, if◌then◌else◌, Some, None, refl}
use Rattle.script_lex.specs.declared.kind.Kind.{Kind}
use Rattle.script_lex.specs.declared.kind.Kind.TheVariants as k
use Rattle.script_tokens.specs.Names.{is_no_name}
use Rattle.script_tokens.specs.Literals.{begins_literal}
use Rattle.script_expr.specs.declared.expression.Joint.{Joint}
use Rattle.script_expr.specs.declared.expression.Test.TheVariants as test
use Rattle.script_expr.specs.Expr.{product_joint, sum_joint, test_kind}
use Rattle.script_laws.proofs.Readings.Forms.Options.{none_same}
use Rattle.script_laws.proofs.Readings.Forms.FillingBasics.{closes}

false_true : false ≡ true → ⊥
false_true e = cc

-- ---- how expressions begin

-- the kinds that a name may have
abbrev pub is_name : Kind → Bool
is_name kind = not (is_no_name kind)

abbrev pub begins_atom : Kind → Bool
begins_atom k.LParen = true
begins_atom k.Exists = true
begins_atom kind = if begins_literal kind then true else is_name kind

abbrev pub begins_sum : Kind → Bool
begins_sum k.Minus = true
begins_sum kind = begins_atom kind

abbrev pub begins_expression : Kind → Bool
begins_expression k.Not = true
begins_expression kind = begins_sum kind

pub literal_begins_atom : (y : Kind) → begins_literal y ≡ true → begins_atom y ≡ true
literal_begins_atom k.Number e = refl
literal_begins_atom k.Signed e = refl
literal_begins_atom k.TextLiteral e = refl
literal_begins_atom k.BytesLiteral e = refl
literal_begins_atom k.True e = refl
literal_begins_atom k.False e = refl
literal_begins_atom _ e = absurd (false_true e)

pub name_begins_atom : (y : Kind) → is_name y ≡ true → begins_atom y ≡ true
name_begins_atom k.LParen e = refl
name_begins_atom k.Exists e = refl
name_begins_atom k.Number e = refl
name_begins_atom k.Signed e = refl
name_begins_atom k.TextLiteral e = refl
name_begins_atom k.BytesLiteral e = refl
name_begins_atom k.True e = refl
name_begins_atom k.False e = refl
name_begins_atom _ e = e

pub atom_begins_sum : (y : Kind) → begins_atom y ≡ true → begins_sum y ≡ true
atom_begins_sum k.Minus e = refl
atom_begins_sum _ e = e

pub sum_begins_expression : (y : Kind) → begins_sum y ≡ true → begins_expression y ≡ true
sum_begins_expression k.Not e = refl
sum_begins_expression _ e = e

-- ---- what does not go on with one

abbrev pub ends_product : Kind → Bool
ends_product k.Star = false
ends_product _ = true

abbrev pub ends_sum : Kind → Bool
ends_sum k.Plus = false
ends_sum k.Minus = false
ends_sum k.Signed = false
ends_sum k.Concat = false
ends_sum kind = ends_product kind

abbrev pub ends_comparison : Kind → Bool
ends_comparison k.Equal = false
ends_comparison k.NotEqual = false
ends_comparison k.Less = false
ends_comparison k.LessEqual = false
ends_comparison k.Greater = false
ends_comparison k.GreaterEqual = false
ends_comparison k.Is = false
ends_comparison k.Not = false
ends_comparison k.Like = false
ends_comparison k.Ilike = false
ends_comparison k.Between = false
ends_comparison k.In = false
ends_comparison kind = ends_sum kind

abbrev pub ends_conjunction : Kind → Bool
ends_conjunction k.And = false
ends_conjunction kind = ends_comparison kind

-- behind an expression none of these goes on with it
abbrev pub ends_expression : Kind → Bool
ends_expression k.Or = false
ends_expression kind = ends_conjunction kind

pub sum_ends_product : (y : Kind) → ends_sum y ≡ true → ends_product y ≡ true
sum_ends_product k.Plus e = refl
sum_ends_product k.Minus e = refl
sum_ends_product k.Signed e = refl
sum_ends_product k.Concat e = refl
sum_ends_product _ e = e

pub comparison_ends_sum : (y : Kind) → ends_comparison y ≡ true → ends_sum y ≡ true
comparison_ends_sum k.Equal e = refl
comparison_ends_sum k.NotEqual e = refl
comparison_ends_sum k.Less e = refl
comparison_ends_sum k.LessEqual e = refl
comparison_ends_sum k.Greater e = refl
comparison_ends_sum k.GreaterEqual e = refl
comparison_ends_sum k.Is e = refl
comparison_ends_sum k.Not e = refl
comparison_ends_sum k.Like e = refl
comparison_ends_sum k.Ilike e = refl
comparison_ends_sum k.Between e = refl
comparison_ends_sum k.In e = refl
comparison_ends_sum _ e = e

pub conjunction_ends_comparison : (y : Kind) → ends_conjunction y ≡ true → ends_comparison y ≡ true
conjunction_ends_comparison k.And e = refl
conjunction_ends_comparison _ e = e

pub expression_ends_conjunction : (y : Kind) → ends_expression y ≡ true → ends_conjunction y ≡ true
expression_ends_conjunction k.Or e = refl
expression_ends_conjunction _ e = e

pub closes_ends_expression : (y : Kind) → closes y ≡ true → ends_expression y ≡ true
closes_ends_expression k.RParen e = refl
closes_ends_expression _ e = absurd (false_true e)

-- ---- what the readers make of a kind

pub ends_product_joint : (y : Kind) → ends_product y ≡ true → product_joint y ≡ None
ends_product_joint k.Star e = absurd (false_true e)
ends_product_joint _ e = refl

pub ends_sum_joint : (y : Kind) → ends_sum y ≡ true → sum_joint y ≡ None
ends_sum_joint k.Plus e = absurd (false_true e)
ends_sum_joint k.Minus e = absurd (false_true e)
ends_sum_joint k.Signed e = absurd (false_true e)
ends_sum_joint k.Concat e = absurd (false_true e)
ends_sum_joint _ e = refl

pub sum_joint_ends_product : (y : Kind) (j : Joint) → sum_joint y ≡ Some j → ends_product y ≡ true
sum_joint_ends_product k.Star j e = absurd (none_same e)
sum_joint_ends_product _ j e = refl

pub ends_comparison_test : (y : Kind) → ends_comparison y ≡ true → test_kind y ≡ test.Absent
ends_comparison_test k.Equal e = absurd (false_true e)
ends_comparison_test k.NotEqual e = absurd (false_true e)
ends_comparison_test k.Less e = absurd (false_true e)
ends_comparison_test k.LessEqual e = absurd (false_true e)
ends_comparison_test k.Greater e = absurd (false_true e)
ends_comparison_test k.GreaterEqual e = absurd (false_true e)
ends_comparison_test k.Is e = absurd (false_true e)
ends_comparison_test k.Not e = absurd (false_true e)
ends_comparison_test k.Like e = absurd (false_true e)
ends_comparison_test k.Ilike e = absurd (false_true e)
ends_comparison_test k.Between e = absurd (false_true e)
ends_comparison_test k.In e = absurd (false_true e)
ends_comparison_test _ e = refl
