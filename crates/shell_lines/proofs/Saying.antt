-- What a line comes to, as a run that sends nothing.
use Rattle.std.proofs.Common.{◌≡◌, ℕ, Bool, true, false, if◌then◌else◌, List, Option, None, Some, Result, Ok, Err, IsErrAnd, refl, sym, ap, ◌∙◌, subst}
use Rattle.base_core.specs.Answers.{Gives}
use Rattle.base_core.specs.declared.refusal.Refusal.{Refusal}
use Rattle.base_core.specs.declared.refusal.Refusal.TheVariants.{Memory, NotBuilt, ScriptError}
use Rattle.keeper_core.specs.Programs.{Run, quiet}
use Rattle.keeper_core.specs.Alone.{IsOwn, IsQuiet}
use Rattle.script_types.specs.declared.command.Command.{Command}
use Rattle.script_types.specs.declared.command.Command.TheVariants.{TableHead, ClassHead}
use Rattle.script_read.specs.Line.{IsOfReading, line as said_by}
use Rattle.shell_parts.specs.declared.block.Block.{Block}
use Rattle.shell_parts.specs.Blocks.{block_of}
use Rattle.shell_lines.specs.declared.desk.Said.{Said}
use Rattle.shell_lines.specs.declared.desk.Said.TheVariants.{Nothing, Configure, Declare}
use Rattle.shell_lines.specs.Lines.{is_end}
use Rattle.shell_lines.specs.Desk.{DeskState, done_of, ends_block, is_configure, is_head, is_skip, is_skipped, next_line, opened, place_of, said_at, said_inside, said_line, said_now, said_outside, said_read, skip_block, unless_end, with_block, with_line_taken, with_skipping}

-- the line came to this
abbrev pub Says : Run DeskState Said → Result Said Refusal → DeskState → Type 0
Says run r now = IsQuiet (λ (said : Said). said) run r now

says_here : (run other : Run DeskState Said) (r : Result Said Refusal) (now : DeskState) → other ≡ run → Says run r now → Says other r now
says_here run other r now is p = subst (λ (m : Run DeskState Said). Says m r now) (sym is) p

says_err : (run : Run DeskState Said) (e : Refusal) (now : DeskState) → IsOwn e → run ≡ quiet (Err e) now → Says run (Err e) now
says_err run Memory now own is = tt
says_err run e now own is = (is, own)

-- ---- the next line

-- it is skipped
pub line_skipped : (bytes : List ℕ) (own mid now : DeskState) → mid ≡ next_line own → is_skipped mid.block ≡ true → now ≡ unless_end (is_end bytes) mid → Says (said_line bytes own) (Ok Nothing) now
unfolding said_line
line_skipped bytes own mid now is skipped end =
    ap (said_now bytes) (sym is)
    ∙ ap (λ (b : Bool). if b then quiet (Ok Nothing) (unless_end (is_end bytes) mid) else said_read (said_by bytes mid.line (place_of mid.block)) mid) skipped
    ∙ ap (λ (s : DeskState). quiet (Ok Nothing) s) (sym end)

-- it is read
pub line_read : (bytes : List ℕ) (own mid now : DeskState) (r : Result Said Refusal) → mid ≡ next_line own → is_skipped mid.block ≡ false → Says (said_read (said_by bytes mid.line (place_of mid.block)) mid) r now → Says (said_line bytes own) r now
unfolding said_line
line_read bytes own mid now r is read p =
    says_here (said_read (said_by bytes mid.line (place_of mid.block)) mid) (said_line bytes own) r now
    (ap (said_now bytes) (sym is) ∙ ap (λ (b : Bool). if b then quiet (Ok Nothing) (unless_end (is_end bytes) mid) else said_read (said_by bytes mid.line (place_of mid.block)) mid) read)
    p

pub ruleset saying = (line_skipped, line_read)

-- ---- what was read

-- a line of the language
pub read_ok : (told : Result Command Refusal) (own now : DeskState) (command : Command) (r : Result Said Refusal) → Gives (λ (command : Command). command) (Ok command) told → Says (said_at own.block command own) r now → Says (said_read told own) r now
read_ok told own now command r p q = says_here (said_at own.block command own) (said_read told own) r now (ap (λ (t : Result Command Refusal). said_read t own) p) q

-- a fault, or memory ran out
pub read_err : (told : Result Command Refusal) (own now : DeskState) (e : Refusal) → Gives (λ (command : Command). command) (Err e) told → IsOfReading e → now ≡ skip_block own → Says (said_read told own) (Err e) now
read_err told own now Memory p cause is = tt
read_err told own now (ScriptError line column) p cause is =
    (ap (λ (t : Result Command Refusal). said_read t own) p ∙ ap (λ (s : DeskState). quiet (Err (ScriptError line column)) s) (sym is), (refl, refl))
read_err told own now e p cause is = absurd cause

pub ruleset reading = (read_ok, read_err)

-- the lines of the block are skipped
pub skips : {own now : DeskState} {block skipped : Block} → own.block ≡ Some block → skipped ≡ record block { skipping = true } → now ≡ with_block (Some skipped) own → now ≡ skip_block own
skips {own = own} some is next = next ∙ ap (λ (b : Block). with_block (Some b) own) is ∙ ap (λ (b : Option Block). with_block (with_skipping b) own) (sym some)

pub skips_none : {own now : DeskState} → own.block ≡ None → now ≡ own → now ≡ skip_block own
skips_none {own = own} none is = is ∙ ap (λ (b : Option Block). with_block b own) none ∙ ap (λ (b : Option Block). with_block (with_skipping b) own) (sym none)

pub ruleset skipping = (skips, skips_none)

-- ---- a line in its place

pub at_outside : (command : Command) (own mid now : DeskState) (r : Result Said Refusal) → own.block ≡ None → mid ≡ with_block None own → Says (said_outside command mid) r now → Says (said_at own.block command own) r now
at_outside command own mid now r outside is p =
    let here : mid ≡ own = is ∙ ap (λ (block : Option Block). with_block block own) (sym outside) in
    says_here (said_outside command mid) (said_at own.block command own) r now
    (ap (λ (block : Option Block). said_at block command own) outside ∙ ap (said_outside command) (sym here)) p

pub at_inside : (command : Command) (own mid now : DeskState) (block : Block) (r : Result Said Refusal) → own.block ≡ Some block → mid ≡ with_block None own → Says (said_inside command block mid) r now → Says (said_at own.block command own) r now
at_inside command own mid now block r inside is p =
    says_here (said_inside command block mid) (said_at own.block command own) r now
    (ap (λ (block : Option Block). said_at block command own) inside ∙ ap (said_inside command block) (sym is)) p

pub ruleset placing = (at_outside, at_inside)

-- ---- a line of a block

-- it ends the block
pub ends : (command : Command) (block : Block) (own : DeskState) → ends_block command ≡ true → own.block ≡ None → Says (said_inside command block own) (Ok (Declare block)) own
ends command block own end none =
    ap (λ (b : Bool). if b then quiet (Ok (Declare block)) (with_block None own) else quiet (Ok Nothing) (with_block (Some (with_line_taken command block)) own)) end
    ∙ ap (λ (b : Option Block). quiet (Ok (Declare block)) (with_block b own)) (sym none)

-- the block goes on
pub goes_on : (command : Command) (block : Block) (own now : DeskState) (taken : Block) → ends_block command ≡ false → taken ≡ with_line_taken command block → now ≡ with_block (Some taken) own → Says (said_inside command block own) (Ok Nothing) now
goes_on command block own now taken end is next =
    ap (λ (b : Bool). if b then quiet (Ok (Declare block)) (with_block None own) else quiet (Ok Nothing) (with_block (Some (with_line_taken command block)) own)) end
    ∙ ap (λ (b : Block). quiet (Ok Nothing) (with_block (Some b) own)) (sym is) ∙ ap (λ (s : DeskState). quiet (Ok Nothing) s) (sym next)

-- memory ran out
pub says_lost : (run : Run DeskState Said) (e : Refusal) (now : DeskState) → e ≡ Memory → Says run (Err e) now
says_lost run e now is = subst (λ (d : Refusal). Says run (Err d) now) (sym is) tt

pub ruleset inside = (ends, goes_on, says_lost)

-- ---- a line outside blocks

abbrev outside_by : Bool → Bool → Bool → Command → DeskState → Run DeskState Said
outside_by skip head configure command desk =
    if skip then quiet (Ok Nothing) desk
    else if head then opened (block_of command desk.line) desk
    else if configure then quiet (Ok Configure) desk
    else quiet (Ok (done_of command)) desk

pub says_skip : (command : Command) (own : DeskState) → is_skip command ≡ true → Says (said_outside command own) (Ok Nothing) own
says_skip command own skip = ap (λ (b : Bool). outside_by b (is_head command) (is_configure command) command own) skip

pub says_head : (command : Command) (own now : DeskState) (r : Result Said Refusal) → is_skip command ≡ false → is_head command ≡ true → Says (opened (block_of command own.line) own) r now → Says (said_outside command own) r now
says_head command own now r skip head p =
    says_here (opened (block_of command own.line) own) (said_outside command own) r now
    (ap (λ (b : Bool). outside_by b (is_head command) (is_configure command) command own) skip ∙ ap (λ (b : Bool). outside_by false b (is_configure command) command own) head) p

pub says_configure : (command : Command) (own : DeskState) → is_skip command ≡ false → is_head command ≡ false → is_configure command ≡ true → Says (said_outside command own) (Ok Configure) own
says_configure command own skip head configure =
    ap (λ (b : Bool). outside_by b (is_head command) (is_configure command) command own) skip ∙ ap (λ (b : Bool). outside_by false b (is_configure command) command own) head
    ∙ ap (λ (b : Bool). outside_by false false b command own) configure

pub says_done : (command : Command) (own : DeskState) (said : Said) → is_skip command ≡ false → is_head command ≡ false → is_configure command ≡ false → said ≡ done_of command → Says (said_outside command own) (Ok said) own
says_done command own said skip head configure is =
    ap (λ (b : Bool). outside_by b (is_head command) (is_configure command) command own) skip ∙ ap (λ (b : Bool). outside_by false b (is_configure command) command own) head
    ∙ ap (λ (b : Bool). outside_by false false b command own) configure ∙ ap (λ (s : Said). quiet (Ok s) own) (sym is)

pub ruleset outside = (says_skip, says_head, says_configure, says_done)

-- ---- a block is opened

block_refused : (head : Command) (first : ℕ) (e : Refusal) → block_of head first ≡ Err e → e ≡ NotBuilt
block_refused (TableHead name) first e is = cc
block_refused (ClassHead name base table discriminator identity owned) first e is = cc
block_refused head first e is = cc

pub opens : (head : Command) (own now : DeskState) (block : Block) → Ok block ≡ block_of head own.line → now ≡ with_block (Some block) own → Says (opened (block_of head own.line) own) (Ok Nothing) now
opens head own now block is next = ap (λ (b : Result Block Refusal). opened b own) (sym is) ∙ ap (λ (s : DeskState). quiet (Ok Nothing) s) (sym next)

err_opened : (head : Command) (first : ℕ) (own : DeskState) (e : Refusal) → first ≡ own.line → Err e ≡ block_of head first → Says (opened (block_of head own.line) own) (Err e) own
err_opened head first own e here is =
    says_err (opened (block_of head own.line) own) e own (subst IsOwn (sym (block_refused head first e (sym is))) (refl, refl))
    (ap (λ (n : ℕ). opened (block_of head n) own) (sym here) ∙ ap (λ (b : Result Block Refusal). opened b own) (sym is))

-- the line is no head
pub opens_not : (head : Command) (first : ℕ) (own : DeskState) (e : Refusal) (r : Result Said Refusal) → IsErrAnd r (λ d. d ≡ e) → first ≡ own.line → Err e ≡ block_of head first → Says (opened (block_of head own.line) own) r own
opens_not head first own e (Ok said) same here is = absurd same
opens_not head first own e (Err d) same here is = subst (λ (c : Refusal). Says (opened (block_of head own.line) own) (Err c) own) (sym same) (err_opened head first own e here is)

pub ruleset opening = (opens)
