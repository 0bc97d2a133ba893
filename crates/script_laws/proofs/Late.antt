-- No line of a class's block says of a collection that its foreign key is written late, so no declared class does.
use Rattle.std.proofs.Common.{◌≡◌, ℕ, Bool, true, false, not, ◌&&◌, List, [], ◌∷◌, Option, None, Some, Result, Ok, Err, refl, sym, ◌∙◌, subst}
use Rattle.std.specs.Prelude.{if◌then◌else◌}
use Rattle.std.specs.List.{list_all}
use Rattle.std.proofs.lemmas.Bool.{and_from}
use Rattle.std.proofs.lemmas.List.Folds.{list_all-append}
use Rattle.base_core.specs.declared.refusal.Refusal.{Refusal}
use Rattle.schema_core.specs.declared.table.TableSpec.{TableSpec}
use Rattle.class_types.specs.declared.declared.ClassSpec.{ClassSpec}
use Rattle.session_laws.specs.Configured.{has_late_links, is_late_by_link}
use Rattle.keeper_core.specs.Programs.{Run, quiet}
use Rattle.script_lex.specs.declared.kind.Kind.{Kind}
use Rattle.script_lex.specs.declared.kind.Kind.TheVariants as k
use Rattle.script_lex.specs.Lex.{is_ignored, tokens}
use Rattle.script_tokens.specs.Input.{Input, Outcome, Reader, and_then, expect, kind, next, refuse, sees, start_of}
use Rattle.script_tokens.specs.Names.{name}
use Rattle.script_types.specs.declared.command.Command.{Command}
use Rattle.script_types.specs.declared.command.Command.TheVariants as line
use Rattle.script_types.specs.declared.command.Inside.TheVariants.{Class}
use Rattle.script_blocks.specs.Classes.{cascade_if_any, class_line, class_line_by, names_after, post_update, relation, sides, validate}
use Rattle.script_read.specs.Line as reading
use Rattle.shell_parts.specs.declared.block.Block.{Block}
use Rattle.shell_parts.specs.declared.block.Declared.{Declared}
use Rattle.shell_parts.specs.declared.block.Declared.TheVariants as declared
use Rattle.shell_parts.specs.Blocks.{block_of, block_over, declared_of, forms_of, with_class_line, with_line}
use Rattle.shell_lines.specs.declared.desk.Said.{Said}
use Rattle.shell_lines.specs.declared.desk.Said.TheVariants.{Nothing, Configure, Declare, Compile, Do}
use Rattle.shell_lines.specs.Lines.{is_compiled, is_end}
use Rattle.shell_lines.specs.Desk.{DeskState, done_if, done_of, ends_block, is_configure, is_head, is_skip, is_skipped, next_line, opened, place_of, said_at, said_line, said_read, skip_block, unless_end, with_block, with_line_taken, with_skipping}
use Rattle.script_laws.specs.Scripts.{IsLateBlock, IsLateDeclared}

-- ---- a line of a class's block

-- what a line says of a relationship is not that a collection's foreign key is written late
abbrev IsLateLine : Command → Type 0
IsLateLine (line.RelationLine relation) = is_late_by_link relation ≡ true
IsLateLine command = Unit {0}

abbrev WasLate : Outcome Command → Type 0
WasLate (Ok p) = IsLateLine p.0
WasLate (Err e) = Unit {0}

-- whatever the tokens are
record ReadsLate (r : Reader Command) : Type 0 where
  read : (i : Input) → WasLate (r i)

next_late : {A : Type 0} (out : Outcome A) (more : A → Reader Command) → ((a : A) → ReadsLate (more a)) → WasLate (and_then out more)
next_late (Ok p) more late = (late p.0).read p.1
next_late (Err e) more late = tt

then_late : {A : Type 0} (r : Reader A) (more : A → Reader Command) → ((a : A) → ReadsLate (more a)) → ReadsLate (λ i. and_then (r i) more)
then_late r more late = record { read = λ i. next_late (r i) more late }

no_many : (post : Bool) → not (post && false) ≡ true
no_many true = refl
no_many false = refl

relation_late : (many : Bool) → ReadsLate (relation many)
unfolding relation post_update
relation_late true = then_late (sides true) _ (λ found. then_late (names_after k.Using) _ (λ using. then_late cascade_if_any _ (λ cascade. record { read = λ i. refl })))
relation_late false = then_late (sides false) _ (λ found. then_late (names_after k.Using) _ (λ using. then_late cascade_if_any _ (λ cascade. record { read = λ i. no_many (sees k.PostUpdate i) })))

validate_late : ReadsLate validate
unfolding validate
validate_late = then_late name _ (λ attribute. then_late (expect k.With) _ (λ u. then_late name _ (λ hook. record { read = λ i. tt })))

kind_late : (first : Kind) → ReadsLate (class_line_by first)
kind_late k.End = record { read = λ i. tt }
kind_late k.Validate = record { read = λ i. validate_late.read (next i) }
kind_late k.One = record { read = λ i. (relation_late false).read (next i) }
kind_late k.Many = record { read = λ i. (relation_late true).read (next i) }
kind_late _ = record { read = λ i. tt }

line_late : (i : Input) → WasLate (class_line i)
unfolding class_line
line_late i = (kind_late (kind i)).read i

ended_late : (out : Outcome Command) → WasLate out → WasLate (and_then out reading.ends)
unfolding reading.ends
ended_late (Ok p) late = by (sees k.LineEnd p.1)
  where
    by : (b : Bool) → WasLate (if b then Ok (p.0, p.1) else refuse p.1)
    by true = late
    by false = tt
ended_late (Err e) late = tt

answer_late : (ignored : Bool) (number : ℕ) (out : Outcome Command) (command : Command) → WasLate out → (let r : Result Command Refusal = if ignored then Ok line.Skip else reading.answer_of number out in r ≡ Ok command) → IsLateLine command
answer_late true number out command late is = subst IsLateLine (let same : line.Skip ≡ command = cc in same) tt
answer_late false number (Ok p) command late is = subst IsLateLine (let same : p.0 ≡ command = cc in same) late
answer_late false number (Err e) command late is = absurd cc

read_late : (bytes : List ℕ) (number : ℕ) (command : Command) → reading.line bytes number Class ≡ Ok command → IsLateLine command
unfolding reading.line reading.line_of
read_late bytes number command is =
    let i : Input = start_of (tokens bytes) in answer_late (is_ignored bytes) number (and_then (class_line i) reading.ends) command (ended_late (class_line i) (line_late i)) is

-- ---- the block that is open

class_more : (spec : ClassSpec) (command : Command) → has_late_links spec ≡ true → IsLateLine command → has_late_links (with_class_line spec command) ≡ true
class_more spec (line.RelationLine relation) late one =
    list_all-append is_late_by_link spec.relations (relation ∷ []) ∙ and_from (list_all is_late_by_link spec.relations) (list_all is_late_by_link (relation ∷ [])) late (and_from (is_late_by_link relation) true one refl)
class_more spec (line.ValidateLine attribute hook) late one = late
class_more spec _ late one = late

block_more : (what : Declared) (bytes : List ℕ) (number : ℕ) (command : Command) → reading.line bytes number (forms_of what) ≡ Ok command → IsLateDeclared what → IsLateDeclared (with_line what command)
block_more (declared.Table spec) bytes number command is late = tt
block_more (declared.Class spec) bytes number command is late = class_more spec command late (read_late bytes number command is)

head_late : (command : Command) (what : Declared) → declared_of command ≡ Ok what → IsLateDeclared what
head_late (line.TableHead name) what is =
    let spec : TableSpec = record { name = name; columns = []; uniques = []; foreigns = [] } in subst IsLateDeclared (let same : declared.Table spec ≡ what = cc in same) tt
head_late (line.ClassHead name base table discriminator identity owned) what is =
    let spec : ClassSpec = record { name = name; base = base; table = table; discriminator = discriminator; identity = identity; owned = owned; relations = []; validators = [] } in
    subst IsLateDeclared (let same : declared.Class spec ≡ what = cc in same) refl
head_late _ what is = absurd cc

begun_late : (first : ℕ) (r : Result Declared Refusal) (block : Block) → ((what : Declared) → r ≡ Ok what → IsLateDeclared what) → block_over first r ≡ Ok block → IsLateDeclared block.declared
begun_late first (Ok what) block late is = subst (λ (b : Block). IsLateDeclared b.declared) (let same : (let b : Block = record { declared = what; first = first; skipping = false } in b ≡ block) = cc in same) (late what refl)
begun_late first (Err e) block late is = absurd cc

-- ---- what a line comes to

abbrev pub IsLateSaid : Said → Type 0
IsLateSaid (Declare block) = IsLateDeclared block.declared
IsLateSaid said = Unit {0}

pub record IsLateRun (run : Run DeskState Said) : Type 0 where
  pub block : IsLateBlock run.after.block
  pub told : (said : Said) → run.answer ≡ Ok said → IsLateSaid said

says_late : (one said : Said) → IsLateSaid one → (let r : Result Said Refusal = Ok one in r ≡ Ok said) → IsLateSaid said
says_late one said late is = subst IsLateSaid (let same : one ≡ said = cc in same) late

quiet_late : (one : Said) (desk : DeskState) → IsLateBlock desk.block → IsLateSaid one → IsLateRun (quiet (Ok one) desk)
quiet_late one desk block late = record { block = block; told = λ said is. says_late one said late is }

refused_late : (e : Refusal) (desk : DeskState) → IsLateBlock desk.block → IsLateRun (quiet (Err e) desk)
refused_late e desk block = record { block = block; told = λ said is. absurd cc }

opened_late : (r : Result Block Refusal) (desk : DeskState) → IsLateBlock desk.block → ((block : Block) → r ≡ Ok block → IsLateDeclared block.declared) → IsLateRun (opened r desk)
opened_late (Ok block) desk before late = quiet_late Nothing (with_block (Some block) desk) (late block refl) tt
opened_late (Err e) desk before late = refused_late e desk before

done_late : (compiled : Bool) (command : Command) (desk : DeskState) → IsLateBlock desk.block → IsLateRun (quiet (Ok (done_if compiled command)) desk)
done_late true command desk before = quiet_late (Compile command) desk before tt
done_late false command desk before = quiet_late (Do command) desk before tt

outside_late : (skip head configures : Bool) (command : Command) (desk : DeskState) → IsLateBlock desk.block
    → IsLateRun (if skip then quiet (Ok Nothing) desk else if head then opened (block_of command desk.line) desk else if configures then quiet (Ok Configure) desk else quiet (Ok (done_of command)) desk)
outside_late true head configures command desk before = quiet_late Nothing desk before tt
outside_late false true configures command desk before = opened_late (block_of command desk.line) desk before (λ block is. begun_late desk.line (declared_of command) block (head_late command) is)
outside_late false false true command desk before = quiet_late Configure desk before tt
outside_late false false false command desk before = done_late (is_compiled command) command desk before

inside_late : (ends : Bool) (block : Block) (command : Command) (desk : DeskState) → IsLateDeclared block.declared → IsLateDeclared (with_line block.declared command)
    → IsLateRun (if ends then quiet (Ok (Declare block)) (with_block None desk) else quiet (Ok Nothing) (with_block (Some (with_line_taken command block)) desk))
inside_late true block command desk late more = quiet_late (Declare block) (with_block None desk) tt late
inside_late false block command desk late more = quiet_late Nothing (with_block (Some (with_line_taken command block)) desk) more tt

skipped_late : (block : Option Block) → IsLateBlock block → IsLateBlock (with_skipping block)
skipped_late None late = tt
skipped_late (Some block) late = late

unless_late : (ends : Bool) (desk : DeskState) → IsLateBlock desk.block → IsLateBlock (unless_end ends desk).block
unless_late false desk late = late
unless_late true desk late = tt

at_late : (block : Option Block) (bytes : List ℕ) (command : Command) (desk : DeskState) → desk.block ≡ block → reading.line bytes desk.line (place_of block) ≡ Ok command → IsLateBlock block → IsLateRun (said_at block command desk)
at_late None bytes command desk at is late = outside_late (is_skip command) (is_head command) (is_configure command) command desk (subst IsLateBlock (sym at) tt)
at_late (Some block) bytes command desk at is late = inside_late (ends_block command) block command desk late (block_more block.declared bytes desk.line command is late)

read_by : (r : Result Command Refusal) (bytes : List ℕ) (desk : DeskState) → reading.line bytes desk.line (place_of desk.block) ≡ r → IsLateBlock desk.block → IsLateRun (said_read r desk)
read_by (Ok command) bytes desk is late = at_late desk.block bytes command desk refl is late
read_by (Err e) bytes desk is late = refused_late e (skip_block desk) (skipped_late desk.block late)

now_late : (skipped : Bool) (bytes : List ℕ) (desk : DeskState) → IsLateBlock desk.block
    → IsLateRun (if skipped then quiet (Ok Nothing) (unless_end (is_end bytes) desk) else said_read (reading.line bytes desk.line (place_of desk.block)) desk)
now_late true bytes desk late = quiet_late Nothing (unless_end (is_end bytes) desk) (unless_late (is_end bytes) desk late) tt
now_late false bytes desk late = read_by (reading.line bytes desk.line (place_of desk.block)) bytes desk refl late

-- the block that is open goes on to say it of no collection, and so does one that is to be declared
pub said_late : (bytes : List ℕ) (desk : DeskState) → IsLateBlock desk.block → IsLateRun (said_line bytes desk)
unfolding said_line
said_late bytes desk late = now_late (is_skipped desk.block) bytes (next_line desk) late
