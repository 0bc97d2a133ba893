-- Heads of classes are read as their forms say.
use Rattle.std.proofs.Common.{◌≡◌, ℕ, List, [], Option, Some, None, refl}
use Rattle.base_core.specs.declared.value.Value.{Value}
use Rattle.script_types.specs.declared.command.Command.TheVariants as command
use Rattle.script_lex.specs.declared.kind.Kind.{Kind}
use Rattle.script_lex.specs.declared.kind.Kind.TheVariants as k
use Rattle.script_tokens.specs.Input.{Input, Reader, ◌>>=◌, pure, clause, kind}
use Rattle.script_tokens.specs.Names.{name}
use Rattle.script_blocks.specs.Classes as r
use Rattle.script_laws.specs.Readings.Forms.Form.{sequence, says, word, maybe, ◌or◌}
use Rattle.script_laws.specs.Readings.Forms.Basics as basic
use Rattle.script_laws.specs.Readings.Forms.ClassHeads as form
use Rattle.script_laws.proofs.Readings.Forms.Taking.{Mode, Plain, Out, Whole, Inhabited}
use Rattle.script_laws.proofs.Readings.Forms.Steps.{left_of, right_of, refused_at, some_left}
use Rattle.script_laws.proofs.Readings.Flat.{through, clause_same}
use Rattle.script_laws.proofs.Readings.Following.{Follows, link, made, token, instead, introduced, word_or, on_kind, behind_word, lead}
use Rattle.script_laws.proofs.Readings.Terms.{named, names, literal}

identity : {c : Mode} → Follows c r.identity form.identity
unfolding r.identity
identity = link (token k.Identity refl) (λ _. literal)

-- a column and an identity, behind `discriminator`
abbrev pub column_and_own : Reader (List ℕ × Value)
column_and_own = do
  column ← name
  own ← r.identity
  pure (column, own)

pub discriminated_same : (i : Input) → clause k.Discriminator column_and_own i ≡ r.discriminator_if_any i
unfolding r.discriminator_if_any
discriminated_same i =
    clause_same k.Discriminator column_and_own (name >>= (λ column. r.identity >>= (λ own. pure (Some (column, own))))) (λ j.
    through (name j) (λ column. r.identity >>= (λ own. pure (column, own))) (λ x. pure (Some x)) (λ column m.
    through (r.identity m) (λ own. pure (column, own)) (λ x. pure (Some x)) (λ own o. refl))) i

discriminated : {c : Mode} → Follows c r.discriminator_if_any form.discriminator
discriminated = instead discriminated_same (introduced k.Discriminator refl (link named (λ column. link identity (λ own. made _))))

root_made : {c : Mode} (class table : List ℕ) (found : Option (List ℕ × Value)) → Follows c (pure (r.root_head class table found)) (says (form.root class table found))
root_made class table None = made (command.ClassHead class None (Some table) None None [])
root_made class table (Some p) = made (command.ClassHead class None (Some table) (Some p.0) (Some p.1) [])

root : {c : Mode} (class : List ℕ) → Follows c (r.root_class class) (sequence basic.name (λ table. sequence form.discriminator (λ found. says (form.root class table found))))
unfolding r.root_class
root class = link named (λ table. link discriminated (λ found. root_made class table found))

extending : {c : Mode} (class : List ℕ) → Follows c (r.extending_class class) (sequence basic.name (λ base. sequence (maybe (sequence (word k.Table) (λ _. basic.name))) (λ table. sequence form.identity (λ own.
    sequence form.owns_list (λ columns. says (command.ClassHead class (Some base) table None (Some own) columns))))))
unfolding r.extending_class
extending class = link named (λ base. link (introduced k.Table refl named) (λ table. link identity (λ own. link (word_or k.Owns refl names (made [])) (λ columns. made _))))

some_kind : (class : List ℕ) → Inhabited (form.root_class class or form.extending_class class)
some_kind class = some_left (lead k.Table (root {c = Plain} class))

head_by : {c : Mode} (class : List ℕ) (kd : Kind) (i : Input) → Whole i.ahead → kind i ≡ kd → Out c (form.root_class class or form.extending_class class) i (r.class_head_by class kd i)
head_by class k.Table i whole is = left_of (behind_word k.Table refl (root class) i whole is)
head_by class k.Extends i whole is = right_of (behind_word k.Extends refl (extending class) i whole is)
head_by class _ i whole is = refused_at (some_kind class) i

-- behind `class`
pub class_head : {c : Mode} → Follows c r.class_head (sequence basic.name (λ class. form.root_class class or form.extending_class class))
unfolding r.class_head
class_head = link named (λ class. on_kind (r.class_head_by class) (head_by class) (some_kind class))
