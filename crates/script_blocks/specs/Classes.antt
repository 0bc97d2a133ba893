-- Heads of classes, and lines of the block of a class.
use Rattle.std.specs.Prelude.{ℕ, Bool, true, false, if◌then◌else◌, List, [], ◌∷◌, Option, Some, None, Ok, Err}
use Rattle.script_types.specs.declared.command.Command.{Command}
use Rattle.script_types.specs.declared.command.Command.TheVariants as c
use Rattle.script_lex.specs.declared.kind.Kind.{Kind}
use Rattle.script_lex.specs.declared.kind.Kind.TheVariants as k
use Rattle.script_tokens.specs.Input.{Reader, ◌>>=◌, ◌>>◌, ◌<$>◌, pure, refuse, peek, take_token, eat, expect, clause, sees, comma_list}
use Rattle.script_tokens.specs.Names.{name, names}
use Rattle.std.specs.Prelude.{zero, suc, not}
use Rattle.base_core.specs.declared.value.Value.{Value}
use Rattle.class_types.specs.declared.declared.Cascade.{Cascade}
use Rattle.std.specs.Prelude.{◌||◌}
use Rattle.script_tokens.specs.Input.{Input, turns, next}
use Rattle.script_tokens.specs.Literals.{literal}

-- names in parentheses after this word, or none where it does not come next
abbrev pub names_after : Kind → Reader (List (List ℕ))
names_after word = do
  found ← eat word
  if found then names else pure []

-- the name after this word, or none where it does not come next
abbrev pub name_after : Kind → Reader (Option (List ℕ))
name_after word = clause word name

-- `identity literal`
unfoldable pub identity : Reader Value
identity = expect k.Identity >> literal

-- `discriminator name identity literal`, where it comes next
unfoldable pub discriminator_if_any : Reader (Option (List ℕ × Value))
discriminator_if_any = do
  found ← eat k.Discriminator
  if found then (do column ← name; own ← identity; pure (Some (column, own))) else pure None

abbrev pub root_head : List ℕ → List ℕ → Option (List ℕ × Value) → Command
root_head class table None = c.ClassHead class None (Some table) None None []
root_head class table (Some p) = c.ClassHead class None (Some table) (Some p.0) (Some p.1) []

-- after `class name table`
unfoldable pub root_class : List ℕ → Reader Command
root_class class = do
  table ← name
  column ← discriminator_if_any
  pure (root_head class table column)

-- after `class name extends`
unfoldable pub extending_class : List ℕ → Reader Command
extending_class class = do
  base ← name
  table ← name_after k.Table
  own ← identity
  owned ← names_after k.Owns
  pure (c.ClassHead class (Some base) table None (Some own) owned)

abbrev pub class_head_by : List ℕ → Kind → Reader Command
class_head_by class k.Table = take_token >> root_class class
class_head_by class k.Extends = take_token >> extending_class class
class_head_by class _ = refuse

-- after `class`
unfoldable pub class_head : Reader Command
class_head = do
  class ← name
  kind ← peek
  class_head_by class kind

-- `-`, also directly before a digit
abbrev pub sees_dash : Input → Bool
sees_dash i = sees k.Minus i || sees k.Signed i

unfoldable pub eat_dash : Reader Bool
eat_dash = λ i. Ok (sees_dash i, if sees_dash i then next i else i)

unfoldable pub dash : Reader (Unit {0})
dash = λ i. if sees_dash i then Ok (tt, next i) else refuse i

-- `-` and this word
abbrev pub dash_and_word : Kind → Reader (Unit {0})
dash_and_word word = dash >> expect word

-- after `delete`: `delete` or `delete-orphan`
abbrev pub after_delete : Cascade → Reader Cascade
after_delete so_far = do
  found ← eat_dash
  if found then expect k.Orphan >> pure (record so_far { delete_orphan = true }) else pure (record so_far { delete = true })

-- what one word of a cascade adds to it
abbrev pub cascade_by : Cascade → Kind → Reader Cascade
cascade_by so_far k.Save = take_token >> dash_and_word k.Update >> pure (record so_far { save_update = true })
cascade_by so_far k.Merge = take_token >> pure (record so_far { merge = true })
cascade_by so_far k.Refresh = take_token >> dash_and_word k.Expire >> pure (record so_far { refresh_expire = true })
cascade_by so_far k.Expunge = take_token >> pure (record so_far { expunge = true })
cascade_by so_far k.Delete = take_token >> after_delete so_far
cascade_by so_far k.All = take_token >> pure (record so_far { save_update = true; merge = true; refresh_expire = true; expunge = true; delete = true })
cascade_by so_far k.NoneWord = take_token >> pure so_far
cascade_by so_far _ = refuse

unfoldable pub cascade_word : Cascade → Reader Cascade
cascade_word so_far = peek >>= cascade_by so_far

unfoldable pub cascade_from : ℕ → Cascade → Reader Cascade
cascade_from zero so_far = refuse
cascade_from (suc n) so_far = do
  longer ← cascade_word so_far
  more ← eat k.Comma
  if more then cascade_from n longer else pure longer

-- words of a cascade with commas between
unfoldable pub cascade : Reader Cascade
cascade = λ i.
    cascade_from (turns i)
    (record { save_update = false; merge = false; refresh_expire = false; expunge = false; delete = false; delete_orphan = false }) i

unfoldable pub cascade_if_any : Reader (Option Cascade)
cascade_if_any = clause k.Cascade cascade

abbrev pub back_by : Kind → Reader Bool
back_by k.Back = take_token >> pure false
back_by k.Backref = take_token >> pure true
back_by _ = refuse

-- whether the partner is made by this line
unfoldable pub back : Reader Bool
back = peek >>= back_by

-- `secondary name`, which only `many` may have
unfoldable pub secondary : Bool → Reader (Option (List ℕ))
secondary many = if many then name_after k.Secondary else pure None

-- `post_update`, which only `one` may have
unfoldable pub post_update : Bool → Reader Bool
post_update many = if many then pure false else eat k.PostUpdate

-- after `one` or `many`: the relationship's name, its target, its secondary table, whether the partner is made, and the partner
unfoldable pub sides : Bool → Reader (List ℕ × List ℕ × Option (List ℕ) × Bool × List ℕ)
sides many = do
  called ← name
  target ← name
  through ← secondary many
  backref ← back
  partner ← name
  pure (called, target, through, backref, partner)

-- after `one` or `many`
unfoldable pub relation : Bool → Reader Command
relation many = do
  found ← sides many
  using ← names_after k.Using
  cascade ← cascade_if_any
  post ← post_update many
  pure (c.RelationLine (record {
    many = many;
    name = found.0;
    target = found.1;
    secondary = found.2;
    partner = found.4;
    backref = found.3;
    using = using;
    cascade = cascade;
    post_update = post;
  }))

-- after `validate`
unfoldable pub validate : Reader Command
validate = do
  attribute ← name
  expect k.With
  hook ← name
  pure (c.ValidateLine attribute hook)

abbrev pub class_line_by : Kind → Reader Command
class_line_by k.End = take_token >> pure c.End
class_line_by k.Validate = take_token >> validate
class_line_by k.One = take_token >> relation false
class_line_by k.Many = take_token >> relation true
class_line_by _ = refuse

unfoldable pub class_line : Reader Command
class_line = peek >>= class_line_by
