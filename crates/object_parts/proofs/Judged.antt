-- A validator that takes a value's kind takes the value.
use Rattle.std.proofs.Common.{◌≡◌, ℕ, true, List, Option, None, Some, refl, sym, subst}
use Rattle.base_core.specs.declared.value.Kind.{Kind}
use Rattle.base_core.specs.declared.value.Kind.TheVariants as kinds
use Rattle.base_core.specs.declared.value.Value.{Value}
use Rattle.schema_core.specs.Catalog.{same_kind}
use Rattle.schema_core.specs.Tables.{kind_of_value}
use Rattle.class_types.specs.Rules.{Rules, Takes, kind_of}
use Rattle.object_parts.specs.Validators.{takes_kind}

-- a validator that takes a kind is of it
same : (a b : Kind) → same_kind a b ≡ true → Some a ≡ Some b
same kinds.Integer kinds.Integer h = refl
same kinds.Text kinds.Text h = refl
same kinds.Boolean kinds.Boolean h = refl
same kinds.Bytes kinds.Bytes h = refl
same a b h = absurd cc

takes_its_own : (wanted : Option Kind) (kind : Kind) → takes_kind wanted kind ≡ true → wanted ≡ Some kind
takes_its_own None kind h = absurd cc
takes_its_own (Some wanted) kind h = same wanted kind h

pub takes_value : (rules : Rules) (hook : List ℕ) (value : Value) (kind : Kind) → kind_of_value value ≡ Some kind → takes_kind (kind_of rules hook) kind ≡ true → Takes rules hook (kind_of_value value)
takes_value rules hook value kind is takes = subst (Takes rules hook) (sym is) (takes_its_own (kind_of rules hook) kind takes)
