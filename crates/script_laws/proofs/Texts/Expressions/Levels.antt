-- Texts of a level or a tighter one.
use Rattle.std.proofs.Common.{ℕ, ◌≤◌, List, arith}
use Rattle.base_core.specs.declared.value.Value.{Value}
use Rattle.base_core.specs.declared.dialect.Dialect.{Dialect}
use Rattle.script_laws.specs.Texts.Grammar.Trees.{Sql}
use Rattle.script_laws.specs.Texts.Grammar.Reads.{Reads, as_tighter, Level, Either, Both, Opposite, Tested, Added, Multiplied, Signed, Operand}

abbrev pub rank : Level → ℕ
rank Either = 1
rank Both = 2
rank Opposite = 3
rank Tested = 4
rank Added = 5
rank Multiplied = 6
rank Signed = 7
rank Operand = 8

-- read as a tree at a level of this number or more
pub record At (q : Dialect) (n : ℕ) (t : List ℕ) (v : List Value) (x : Sql) : Type 0 where
  pub level : Level
  pub tight : n ≤ rank level
  pub reads : Reads q level t v x

some_rank : (l : Level) → 1 ≤ rank l
some_rank Either = omega arith
some_rank Both = omega arith
some_rank Opposite = omega arith
some_rank Tested = omega arith
some_rank Added = omega arith
some_rank Multiplied = omega arith
some_rank Signed = omega arith
some_rank Operand = omega arith

module _ {q : Dialect} {t : List ℕ} {v : List Value} {x : Sql} where
  operand_by : (l : Level) → 8 ≤ rank l → Reads q l t v x → Reads q Operand t v x
  operand_by Operand h r = r
  operand_by _ h r = absurd (omega (arith, h))

  signed_by : (l : Level) → 7 ≤ rank l → Reads q l t v x → Reads q Signed t v x
  signed_by Signed h r = r
  signed_by l h r = as_tighter (operand_by l (omega (arith, h)) r)

  multiplied_by : (l : Level) → 6 ≤ rank l → Reads q l t v x → Reads q Multiplied t v x
  multiplied_by Multiplied h r = r
  multiplied_by l h r = as_tighter (signed_by l (omega (arith, h)) r)

  added_by : (l : Level) → 5 ≤ rank l → Reads q l t v x → Reads q Added t v x
  added_by Added h r = r
  added_by l h r = as_tighter (multiplied_by l (omega (arith, h)) r)

  tested_by : (l : Level) → 4 ≤ rank l → Reads q l t v x → Reads q Tested t v x
  tested_by Tested h r = r
  tested_by l h r = as_tighter (added_by l (omega (arith, h)) r)

  opposite_by : (l : Level) → 3 ≤ rank l → Reads q l t v x → Reads q Opposite t v x
  opposite_by Opposite h r = r
  opposite_by l h r = as_tighter (tested_by l (omega (arith, h)) r)

  both_by : (l : Level) → 2 ≤ rank l → Reads q l t v x → Reads q Both t v x
  both_by Both h r = r
  both_by l h r = as_tighter (opposite_by l (omega (arith, h)) r)

  either_by : (l : Level) → 1 ≤ rank l → Reads q l t v x → Reads q Either t v x
  either_by Either h r = r
  either_by l h r = as_tighter (both_by l (omega (arith, h)) r)

  pub to_operand : At q 8 t v x → Reads q Operand t v x
  to_operand a = operand_by a.level a.tight a.reads

  pub to_signed : At q 7 t v x → Reads q Signed t v x
  to_signed a = signed_by a.level a.tight a.reads

  pub to_multiplied : At q 6 t v x → Reads q Multiplied t v x
  to_multiplied a = multiplied_by a.level a.tight a.reads

  pub to_added : At q 5 t v x → Reads q Added t v x
  to_added a = added_by a.level a.tight a.reads

  pub to_opposite : At q 3 t v x → Reads q Opposite t v x
  to_opposite a = opposite_by a.level a.tight a.reads

  pub to_both : At q 2 t v x → Reads q Both t v x
  to_both a = both_by a.level a.tight a.reads

  pub to_either : (n : ℕ) → At q n t v x → Reads q Either t v x
  to_either n a = either_by a.level (some_rank a.level) a.reads

  pub here : (l : Level) → Reads q l t v x → At q (rank l) t v x
  here l r = record { level = l; tight = omega arith; reads = r }

  pub at_least : (n m : ℕ) → n ≤ m → At q m t v x → At q n t v x
  at_least n m h a = record { level = a.level; tight = omega (arith, h, a.tight); reads = a.reads }
