-- The operands of a level, each changed by a function.
use Rattle.std.proofs.Common.{◌≡◌, map, refl}
use Rattle.script_types.specs.declared.expression.Syn.TheOpen.{Syn-F}
use Rattle.script_types.specs.declared.expression.Syn.TheFolds.{map-Syn}
use Rattle.script_names.specs.Parts.{operands}

pub operands_map : {A B : Type 0} (f : A → B) (x : Syn-F A) → operands (map-Syn A B f x) ≡ map f (operands x)
operands_map f (Syn-F.Lit v) = refl
operands_map f (Syn-F.Path s c) = refl
operands_map f Syn-F.CountAll = refl
operands_map f (Syn-F.Call g es) = refl
operands_map f (Syn-F.Exists s a) = refl
operands_map f (Syn-F.Compare op a b) = refl
operands_map f (Syn-F.IsNull n a) = refl
operands_map f (Syn-F.Like n a b) = refl
operands_map f (Syn-F.Ilike n a b) = refl
operands_map f (Syn-F.InList n a vs) = refl
operands_map f (Syn-F.Between n a low high) = refl
operands_map f (Syn-F.Distinct n a b) = refl
operands_map f (Syn-F.And es) = refl
operands_map f (Syn-F.Or es) = refl
operands_map f (Syn-F.Not a) = refl
operands_map f (Syn-F.Arith op a b) = refl
operands_map f (Syn-F.Concat a b) = refl
operands_map f (Syn-F.Neg a) = refl
