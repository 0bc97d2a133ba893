-- Lines of the block of a class.
use Rattle.std.specs.Prelude.{ℕ, Bool, true, false, ◌||◌, List, [], ◌∷◌, Option, None}
use Rattle.class_types.specs.declared.declared.Cascade.{Cascade}
use Rattle.script_types.specs.declared.command.Command.{Command}
use Rattle.script_types.specs.declared.command.Command.TheVariants as c
use Rattle.script_lex.specs.declared.kind.Kind.TheVariants as k
use Rattle.script_laws.specs.Readings.Forms.Form.{Form, ◌>>=◌, ◌>>◌, ◌<$>◌, ◌or◌, says, word, maybe, whether, separated_list}
use Rattle.script_laws.specs.Readings.Forms.Basics.{name, names}
use Rattle.script_laws.specs.Readings.Forms.TableLines.{end_line}

-- whether the partner is made by this line
abbrev pub back : Form Bool
back = (word k.Back >> says false) or (word k.Backref >> says true)

-- `using (NAME {, NAME})`, or nothing
abbrev pub using_list : Form (List (List ℕ))
using_list = (word k.Using >> names) or says []

abbrev pub none : Cascade
none = record { save_update = false; merge = false; refresh_expire = false; expunge = false; delete = false; delete_orphan = false }

-- `-`, also directly before a digit
abbrev pub dash : Form (Unit {0})
dash = word k.Minus or word k.Signed

-- C: what a word of a cascade stands for
abbrev pub cascade_word : Form Cascade
cascade_word =
    (word k.Save >> (dash >> word k.Update) >> says (record none { save_update = true }))
    or (word k.Merge >> says (record none { merge = true }))
    or (word k.Refresh >> (dash >> word k.Expire) >> says (record none { refresh_expire = true }))
    or (word k.Expunge >> says (record none { expunge = true }))
    or (word k.Delete >> says (record none { delete = true }))
    or (word k.Delete >> (dash >> word k.Orphan) >> says (record none { delete_orphan = true }))
    or (word k.All >> says (record { save_update = true; merge = true; refresh_expire = true; expunge = true; delete = true; delete_orphan = false }))
    or (word k.NoneWord >> says none)

-- what either of two has
abbrev pub cascade_union : Cascade → Cascade → Cascade
cascade_union a b = record {
  save_update = a.save_update || b.save_update;
  merge = a.merge || b.merge;
  refresh_expire = a.refresh_expire || b.refresh_expire;
  expunge = a.expunge || b.expunge;
  delete = a.delete || b.delete;
  delete_orphan = a.delete_orphan || b.delete_orphan;
}

-- what any of them has, beside what was so far
abbrev pub all_of : Cascade → List Cascade → Cascade
all_of so_far [] = so_far
all_of so_far (word ∷ words) = all_of (cascade_union word so_far) words

-- `cascade C {, C}`, or nothing
abbrev pub cascade : Form (Option Cascade)
cascade = maybe (word k.Cascade >> all_of none <$> separated_list k.Comma cascade_word)

-- what a relationship joins: its name, its target, its secondary table, whether the partner is made, and the partner
abbrev pub sides : Form (Option (List ℕ)) → Form (List ℕ × List ℕ × Option (List ℕ) × Bool × List ℕ)
sides secondary = do
  called ← name
  target ← name
  through ← secondary
  made ← back
  partner ← name
  says (called, target, through, made, partner)

abbrev pub relation : Bool → Form (Option (List ℕ)) → Form Bool → Form Command
relation many secondary post_update = do
  found ← sides secondary
  columns ← using_list
  words ← cascade
  post ← post_update
  says (c.RelationLine (record {
    many = many;
    name = found.0;
    target = found.1;
    secondary = found.2;
    partner = found.4;
    backref = found.3;
    using = columns;
    cascade = words;
    post_update = post;
  }))

-- `one NAME NAME PARTNER [using (NAME {, NAME})] [cascade C {, C}] [post_update]`, with PARTNER: `back NAME` or `backref NAME`
abbrev pub one_line : Form Command
one_line = word k.One >> relation false (says None) (whether (word k.PostUpdate))

-- `many NAME NAME [secondary NAME] PARTNER [using (NAME {, NAME})] [cascade C {, C}]`
abbrev pub many_line : Form Command
many_line = word k.Many >> relation true (maybe (word k.Secondary >> name)) (says false)

-- `validate NAME with NAME`
abbrev pub validate_line : Form Command
validate_line = do
  word k.Validate
  attribute ← name
  word k.With
  hook ← name
  says (c.ValidateLine attribute hook)

abbrev pub class_line : Form Command
class_line = one_line or many_line or validate_line or end_line
