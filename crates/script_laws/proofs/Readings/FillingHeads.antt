-- What the forms of heads of classes say is read.
use Rattle.std.proofs.Common.{ℕ, List, [], ◌∷◌, Option, Some, None, refl}
use Rattle.base_core.specs.declared.value.Value.{Value}
use Rattle.script_types.specs.declared.command.Command.TheVariants as command
use Rattle.script_lex.specs.declared.kind.Kind.TheVariants as k
use Rattle.script_lex.specs.Lex.{same_kind}
use Rattle.script_tokens.specs.Input.{◌>>=◌, ◌>>◌, pure, take_token}
use Rattle.script_blocks.specs.Classes as r
use Rattle.script_laws.specs.Readings.Forms.Form.{sequence, says, ◌or◌}
use Rattle.script_laws.specs.Readings.Forms.Basics as basic
use Rattle.script_laws.specs.Readings.Forms.ClassHeads as form
use Rattle.script_laws.proofs.Readings.Forms.Taking.{Mode}
use Rattle.script_laws.proofs.Readings.Forms.Filling.{Complete, always, both, then_any, less, made, expected, taken, on_word, either, introduced, word_opens, first_opens}
use Rattle.script_laws.proofs.Readings.Forms.FillingBasics.{named, names_read}
use Rattle.script_laws.proofs.Readings.Expressions.FillingSteps.{unlike}
use Rattle.script_laws.proofs.Readings.Expressions.FillingLiterals.{literal_read}
use Rattle.script_laws.proofs.Readings.SomeKinds.{among}
use Rattle.script_laws.proofs.Readings.FillingParts.{Stands, instead, link, done, clause_stands, list_stands}
use Rattle.script_laws.proofs.Readings.FillingSelects.{ends}
use Rattle.script_laws.proofs.Readings.Heads.{discriminated_same}

identity : {mode : Mode} → Complete mode always r.identity form.identity
unfolding r.identity
identity = then_any (expected k.Identity) (λ _. literal_read)

discriminated : {mode : Mode} → Stands mode (among ends) r.discriminator_if_any form.discriminator (among (k.Discriminator ∷ ends))
unfolding among same_kind
discriminated =
    let one = clause_stands k.Discriminator ends refl (less (then_any named (λ column. then_any identity (λ own. made (column, own)))) (λ y e. refl)) in
    record { complete = instead discriminated_same one.complete; opens = one.opens }

root_made : {mode : Mode} (class table : List ℕ) (found : Option (List ℕ × Value)) → Stands mode (among ends) (pure (r.root_head class table found)) (says (form.root class table found)) (among ends)
root_made class table None = done (command.ClassHead class None (Some table) None None []) (λ y e. e)
root_made class table (Some p) = done (command.ClassHead class None (Some table) (Some p.0) (Some p.1) []) (λ y e. e)

root : {mode : Mode} (class : List ℕ) → Complete mode (among ends) (take_token >> r.root_class class) (form.root_class class)
unfolding r.root_class
root class = then_any (taken k.Table) (λ _. then_any named (λ table. (link discriminated (λ found. root_made class table found)).complete))

-- behind the name of a base
own : {mode : Mode} (class base : List ℕ) (table : Option (List ℕ)) → Complete mode (among ends) (r.identity >>= (λ own. r.names_after k.Owns >>= (λ columns. pure (command.ClassHead class (Some base) table None (Some own) columns))))
    (sequence form.identity (λ own. sequence form.owns_list (λ columns. says (command.ClassHead class (Some base) table None (Some own) columns))))
unfolding among same_kind
own class base table = then_any identity (λ own. (link (list_stands k.Owns ends [] refl (less names_read (λ y e. refl))) (λ columns. done _ (λ y e. e))).complete)

extending : {mode : Mode} (class : List ℕ) → Complete mode (among ends) (take_token >> r.extending_class class) (form.extending_class class)
unfolding r.extending_class among same_kind
extending class =
    then_any (taken k.Extends) (λ _. then_any named (λ base. both (introduced k.Table (less named (λ y e. refl)) (unlike (among (k.Identity ∷ [])) k.Table refl)) (own class base)
    (λ table. first_opens (first_opens (word_opens k.Identity refl)))))

pub class_head : {mode : Mode} → Complete mode (among ends) r.class_head (sequence basic.name (λ class. form.root_class class or form.extending_class class))
unfolding r.class_head
class_head =
    then_any named (λ class. either (on_word (r.class_head_by class) k.Table (root class)) (on_word (r.class_head_by class) k.Extends (extending class)))
