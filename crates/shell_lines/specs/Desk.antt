-- What a line of a script comes to before the session is asked: which line it is, the block that is open, and what is to be done.
use Rattle.std.specs.Prelude.{ℕ, ◌+◌, ◌-◌, ◌^◌, min, Bool, true, false, List, Option, None, Some, Result, Ok, Err, if◌then◌else◌}
use Rattle.base_core.specs.declared.refusal.Refusal.{Refusal}
use Rattle.script_types.specs.declared.command.Command.{Command}
use Rattle.script_types.specs.declared.command.Command.TheVariants as line
use Rattle.script_types.specs.declared.command.Inside.{Inside}
use Rattle.script_types.specs.declared.command.Inside.TheVariants as inside
use Rattle.script_read.specs.Line.{line as said_by}
use Rattle.keeper_core.specs.Programs.{Run, quiet}
use Rattle.sayable_lines.specs.Sayable.{IsSayable}
use Rattle.shell_parts.specs.declared.block.Block.{Block}
use Rattle.shell_parts.specs.Blocks.{block_of, forms_of, with_line}
use Rattle.shell_lines.specs.declared.desk.Said.{Said}
use Rattle.shell_lines.specs.declared.desk.Said.TheVariants.{Nothing, Configure, Declare, Compile, Do}
use Rattle.shell_lines.specs.Lines.{is_compiled, is_end}

-- the block that is open, the number of the last line, and whether some command was refused
pub record DeskState : Type 0 where
  pub block : Option Block
  pub line : ℕ
  pub refused : Bool

-- before the first line
abbrev pub new_desk : DeskState
new_desk = record { block = None; line = 0; refused = false }

abbrev pub with_block : Option Block → DeskState → DeskState
with_block block desk = record desk { block = block }

-- one line more
abbrev pub next_line : DeskState → DeskState
next_line desk = record desk { line = min (desk.line + 1) (2 ^ 32 - 1) }

abbrev pub with_refused : DeskState → DeskState
with_refused desk = record desk { refused = true }

-- ---- a line outside blocks

abbrev pub opened : Result Block Refusal → DeskState → Run DeskState Said
opened (Ok block) desk = quiet (Ok Nothing) (with_block (Some block) desk)
opened (Err e) desk = quiet (Err e) desk

abbrev pub done_if : Bool → Command → Said
done_if true command = Compile command
done_if false command = Do command

-- a line that only compiles is to be compiled, and any other is to be done
abbrev pub done_of : Command → Said
done_of command = done_if (is_compiled command) command

-- a blank line or a comment
abbrev pub is_skip : Command → Bool
is_skip line.Skip = true
is_skip command = false

-- the line opens a block
abbrev pub is_head : Command → Bool
is_head (line.TableHead name) = true
is_head (line.ClassHead name base table discriminator identity owned) = true
is_head command = false

abbrev pub is_configure : Command → Bool
is_configure line.Configure = true
is_configure command = false

-- a head opens a block; most other lines are to be done
abbrev pub said_outside : Command → DeskState → Run DeskState Said
said_outside command desk =
    if is_skip command then quiet (Ok Nothing) desk
    else if is_head command then opened (block_of command desk.line) desk
    else if is_configure command then quiet (Ok Configure) desk
    else quiet (Ok (done_of command)) desk

-- ---- a line of a block

abbrev pub with_line_taken : Command → Block → Block
with_line_taken command block = record block { declared = with_line block.declared command }

-- the line ends the block
abbrev pub ends_block : Command → Bool
ends_block line.End = true
ends_block command = false

-- the block ends, or goes on with the line
abbrev pub said_inside : Command → Block → DeskState → Run DeskState Said
said_inside command block desk =
    if ends_block command then quiet (Ok (Declare block)) (with_block None desk)
    else quiet (Ok Nothing) (with_block (Some (with_line_taken command block)) desk)

-- ---- a line in its place

abbrev pub said_at : Option Block → Command → DeskState → Run DeskState Said
said_at None command desk = said_outside command desk
said_at (Some block) command desk = said_inside command block desk

-- the lines of the block are skipped from here on
abbrev pub with_skipping : Option Block → Option Block
with_skipping None = None
with_skipping (Some block) = Some (record block { skipping = true })

abbrev pub skip_block : DeskState → DeskState
skip_block desk = with_block (with_skipping desk.block) desk

-- what was read; in a block the lines behind one that can not be read are skipped
abbrev pub said_read : Result Command Refusal → DeskState → Run DeskState Said
said_read (Ok command) desk = said_at desk.block command desk
said_read (Err e) desk = quiet (Err e) (skip_block desk)

-- against which forms the line is read
abbrev pub place_of : Option Block → Inside
place_of None = inside.Top
place_of (Some block) = forms_of block.declared

abbrev pub is_skipped : Option Block → Bool
is_skipped None = false
is_skipped (Some block) = block.skipping

-- among skipped lines only the end of the block counts
abbrev pub unless_end : Bool → DeskState → DeskState
unless_end false desk = desk
unless_end true desk = with_block None desk

abbrev pub said_now : List ℕ → DeskState → Run DeskState Said
said_now bytes desk =
    if is_skipped desk.block then quiet (Ok Nothing) (unless_end (is_end bytes) desk)
    else said_read (said_by bytes desk.line (place_of desk.block)) desk

-- what the next line comes to
unfoldable pub said_line : List ℕ → DeskState → Run DeskState Said
said_line bytes desk = said_now bytes (next_line desk)

-- ---- what is to be done

-- the line's select or bulk statement, where it has one, is one that lines can say
abbrev pub CanBeDone : Said → Type 0
CanBeDone (Compile command) = IsSayable command
CanBeDone (Do command) = IsSayable command
CanBeDone said = Unit {0}
