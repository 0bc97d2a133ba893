-- What is read of a line, lines can say.
use Rattle.std.proofs.Common.{◌≡◌, ℕ, Bool, true, false, ◌||◌, if◌then◌else◌, List, Option, Some, None, Result, Ok, Err, subst}
use Rattle.std.specs.Prelude.{IfOk}
use Rattle.base_core.specs.Answers.{Gives}
use Rattle.base_core.specs.declared.refusal.Refusal.{Refusal}
use Rattle.base_core.specs.declared.value.Value.{Value}
use Rattle.script_types.specs.declared.command.Command.{Command}
use Rattle.script_types.specs.declared.command.Command.TheVariants as c
use Rattle.base_core.specs.declared.dialect.Dialect.{Dialect}
use Rattle.base_core.specs.declared.dialect.Dialect.TheVariants.{Sqlite, Postgresql, Mysql}
use Rattle.script_types.specs.declared.command.Inside.{Inside}
use Rattle.script_types.specs.declared.command.Inside.TheVariants.{Top, Table, Class}
use Rattle.script_types.specs.declared.command.Term.{Term}
use Rattle.script_lex.specs.declared.kind.Kind.{Kind}
use Rattle.script_lex.specs.declared.kind.Kind.TheVariants as k
use Rattle.script_lex.specs.Lex.{is_ignored, same_kind, tokens}
use Rattle.script_tokens.specs.Input.{Input, Outcome, Reader, ◌>>=◌, and_then, pure, refuse, peek, take_token, eat, expect, sees, second_kind, start_of}
use Rattle.script_tokens.specs.Names.{name, names}
use Rattle.script_tokens.specs.Literals.{begins_literal, literals, value}
use Rattle.script_select.specs.Query.{query}
use Rattle.script_blocks.specs.Blocks as blocks
use Rattle.script_blocks.specs.Classes as classes
use Rattle.script_read.specs.Terms.{member, member_and_term, term, two}
use Rattle.script_read.specs.Bindings as bindings
use Rattle.script_read.specs.Top as top
use Rattle.script_read.specs.Line as line
use Rattle.sayable_lines.specs.Sayable.{IsSayable}
use Rattle.sayable_lines.proofs.Given.{AreGiven, tokens_given}
use Rattle.sayable_lines.proofs.Yields.{Any, Kept, Yields, link, made, refused, mapped, peeked, taken}
use Rattle.sayable_lines.proofs.Selects.{select}
use Rattle.sayable_lines.proofs.Bulks.{bulk}

abbrev Held : {A : Type 0} → (A → Type 0) → Outcome A → Type 0
Held P (Ok p) = P p.0
Held P (Err e) = Unit {0}

-- ---- lines without selects and bulk statements

-- what is read of any tokens has the property
record Frees {A : Type 0} (P : A → Type 0) (r : Reader A) : Type 0 where
  run : (i : Input) → Held P (r i)

past_out : {A B : Type 0} (Q : B → Type 0) (f : A → Reader B) → ((a : A) → Frees Q (f a)) → (out : Outcome A) → Held Q (and_then out f)
past_out Q f more (Ok p) = (more p.0).run p.1
past_out Q f more (Err e) = tt

past : {A B : Type 0} {Q : B → Type 0} (r : Reader A) {f : A → Reader B} → ((a : A) → Frees Q (f a)) → Frees Q (r >>= f)
past {Q = Q} r {f = f} more = record { run = λ i. past_out Q f more (r i) }

says : {A : Type 0} {P : A → Type 0} (a : A) → P a → Frees P (pure a)
says a is = record { run = λ i. is }

stops : {A : Type 0} {P : A → Type 0} → Frees P refuse
stops = record { run = λ i. tt }

gives : {A B : Type 0} {Q : B → Type 0} (r : Reader A) (f : A → B) → ((a : A) → Q (f a)) → Frees Q (r >>= (λ x. pure (f x)))
gives r f is = past r (λ a. says (f a) (is a))

either : {A : Type 0} {P : A → Type 0} {p q : Reader A} (b : Bool) → Frees P p → Frees P q → Frees P (if b then p else q)
either true first other = first
either false first other = other

-- ---- bindings

new_object : (bound : List ℕ) → Frees IsSayable (bindings.new_object bound)
unfolding bindings.new_object
new_object bound = past name (λ class. past bindings.cells_if_any (λ found. says (c.New bound class found) tt))

object_by_key : (bound : List ℕ) → Frees IsSayable (bindings.object_by_key bound)
unfolding bindings.object_by_key
object_by_key bound = past name (λ class. past (expect k.LParen) (λ _. past literals (λ key. past (expect k.RParen) (λ _. says (c.Get bound class key) tt))))

related_object : (bound : List ℕ) → Frees IsSayable (bindings.related_object bound)
unfolding bindings.related_object
related_object bound = past member (λ found. says (c.Related bound found.0 found.1) tt)

binding_by : (bound : List ℕ) (kd : Kind) → Frees IsSayable (bindings.binding_by bound kd)
binding_by bound k.New = past take_token (λ _. new_object bound)
binding_by bound k.Get = past take_token (λ _. object_by_key bound)
binding_by bound k.Objects = past take_token (λ _. gives query (c.Objects bound) (λ q. tt))
binding_by bound k.Related = past take_token (λ _. related_object bound)
binding_by bound k.BeginNested = past take_token (λ _. says (c.BeginNested bound) tt)
binding_by bound _ = stops

bound_to : (bound : List ℕ) → Frees IsSayable (bindings.bound_to bound)
unfolding bindings.bound_to
bound_to bound = past peek (λ kind. binding_by bound kind)

binding : Frees IsSayable bindings.binding
unfolding bindings.binding
binding = past name (λ bound. past (expect k.Assign) (λ _. bound_to bound))

-- ---- lines of the blocks

column : Frees IsSayable blocks.column
unfolding blocks.column
column =
    past name (λ called. past blocks.column_kind (λ type. past (blocks.both_words k.Primary k.Key) (λ key. past (blocks.both_words k.Not k.Null) (λ not_null.
    says (c.ColumnLine (record { name = called; kind = type; key = key; not_null = not_null })) tt))))

foreign : Frees IsSayable blocks.foreign
unfolding blocks.foreign
foreign =
    past (expect k.Key) (λ _. past names (λ columns. past (expect k.References) (λ _. past name (λ target.
    says (c.ForeignLine (record { columns = columns; target = target })) tt))))

table_line_by : (kd : Kind) → Frees IsSayable (blocks.table_line_by kd)
table_line_by k.End = past take_token (λ _. says c.End tt)
table_line_by k.Unique = past take_token (λ _. gives names c.UniqueLine (λ found. tt))
table_line_by k.Foreign = past take_token (λ _. foreign)
table_line_by _ = column

table_line : Frees IsSayable blocks.table_line
unfolding blocks.table_line
table_line = past peek (λ kind. table_line_by kind)

root_head : (class table : List ℕ) (found : Option (List ℕ × Value)) → IsSayable (classes.root_head class table found)
root_head class table None = tt
root_head class table (Some p) = tt

root_class : (class : List ℕ) → Frees IsSayable (classes.root_class class)
unfolding classes.root_class
root_class class = past name (λ table. past classes.discriminator_if_any (λ found. says (classes.root_head class table found) (root_head class table found)))

extending_class : (class : List ℕ) → Frees IsSayable (classes.extending_class class)
unfolding classes.extending_class
extending_class class =
    past name (λ base. past (classes.name_after k.Table) (λ table. past classes.identity (λ own. past (classes.names_after k.Owns) (λ owned.
    says (c.ClassHead class (Some base) table None (Some own) owned) tt))))

class_head_by : (class : List ℕ) (kd : Kind) → Frees IsSayable (classes.class_head_by class kd)
class_head_by class k.Table = past take_token (λ _. root_class class)
class_head_by class k.Extends = past take_token (λ _. extending_class class)
class_head_by class _ = stops

class_head : Frees IsSayable classes.class_head
unfolding classes.class_head
class_head = past name (λ class. past peek (λ kind. class_head_by class kind))

relation : (many : Bool) → Frees IsSayable (classes.relation many)
unfolding classes.relation
relation many =
    past (classes.sides many) (λ found. past (classes.names_after k.Using) (λ using. past classes.cascade_if_any (λ cascade. past (classes.post_update many) (λ post.
    says _ tt))))

validate : Frees IsSayable classes.validate
unfolding classes.validate
validate = past name (λ attribute. past (expect k.With) (λ _. past name (λ hook. says (c.ValidateLine attribute hook) tt)))

class_line_by : (kd : Kind) → Frees IsSayable (classes.class_line_by kd)
class_line_by k.End = past take_token (λ _. says c.End tt)
class_line_by k.Validate = past take_token (λ _. validate)
class_line_by k.One = past take_token (λ _. relation false)
class_line_by k.Many = past take_token (λ _. relation true)
class_line_by _ = stops

class_line : Frees IsSayable classes.class_line
unfolding classes.class_line
class_line = past peek (λ kind. class_line_by kind)

-- ---- lines of actions

set_to : (owner : Term) (called : List ℕ) → Frees IsSayable (top.set_to owner called)
unfolding top.set_to
set_to owner called =
    past peek (λ kind. either (same_kind kind k.Null || begins_literal kind) (gives value (c.SetValue owner called) (λ found. tt)) (gives term (c.SetTerm owner called) (λ found. tt)))

set : Frees IsSayable top.set
unfolding top.set
set = past member (λ owner. past (expect k.Assign) (λ _. set_to owner.0 owner.1))

append : Frees IsSayable top.append
unfolding top.append
append = past member_and_term (λ found. says (c.Append found.0.0 found.0.1 found.1) tt)

remove : Frees IsSayable top.remove
unfolding top.remove
remove = past member_and_term (λ found. says (c.Remove found.0.0 found.0.1 found.1) tt)

show : Frees IsSayable top.show
unfolding top.show
show = past term (λ owner. past (eat k.Dot) (λ dotted. either dotted (gives name (c.ShowMember owner) (λ called. tt)) (says (c.Show owner) tt)))

same : Frees IsSayable top.same
unfolding top.same
same = past two (λ found. says (c.Same found.0 found.1) tt)

bare_by : (kd : Kind) → Frees IsSayable (top.bare_by kd)
bare_by k.Configure = past take_token (λ _. says c.Configure tt)
bare_by k.CreateAll = past take_token (λ _. says c.CreateAll tt)
bare_by k.DropAll = past take_token (λ _. says c.DropAll tt)
bare_by k.Dump = past take_token (λ _. says c.Dump tt)
bare_by k.Flush = past take_token (λ _. says c.Flush tt)
bare_by k.Close = past take_token (λ _. says c.Close tt)
bare_by _ = stops

bare : Frees IsSayable top.bare
unfolding top.bare
bare = past peek (λ kind. bare_by kind)

term_command_by : (kd : Kind) → Frees IsSayable (top.term_command_by kd)
term_command_by k.Add = past take_token (λ _. gives term c.Add (λ found. tt))
term_command_by k.Delete = past take_token (λ _. gives term c.Delete (λ found. tt))
term_command_by k.Expunge = past take_token (λ _. gives term c.Expunge (λ found. tt))
term_command_by k.Expire = past take_token (λ _. gives term c.Expire (λ found. tt))
term_command_by k.Refresh = past take_token (λ _. gives term c.Refresh (λ found. tt))
term_command_by k.State = past take_token (λ _. gives term c.State (λ found. tt))
term_command_by _ = bare

term_command : Frees IsSayable top.term_command
unfolding top.term_command
term_command = past peek (λ kind. term_command_by kind)

action_by : (kd : Kind) → Frees IsSayable (top.action_by kd)
action_by k.Set = past take_token (λ _. set)
action_by k.Append = past take_token (λ _. append)
action_by k.Remove = past take_token (λ _. remove)
action_by k.Show = past take_token (λ _. show)
action_by k.Is = past take_token (λ _. same)
action_by k.Commit = past take_token (λ _. gives top.name_if_any c.Commit (λ found. tt))
action_by k.Rollback = past take_token (λ _. gives top.name_if_any c.Rollback (λ found. tt))
action_by _ = term_command

action : Frees IsSayable top.action
unfolding top.action
action = past peek (λ kind. action_by kind)

-- ---- all lines

-- what is read of tokens of which none holds NULL
record Says (r : Reader Command) : Type 0 where
  run : (i : Input) → AreGiven i.ahead → Held IsSayable (r i)

held : (out : Outcome Command) → Kept IsSayable out → Held IsSayable out
held (Ok p) kept = kept.0
held (Err e) kept = tt

yielded : {r : Reader Command} → Yields IsSayable r → Says r
yielded {r = r} one = record { run = λ i given. held (r i) (one.run i given) }

freely : {r : Reader Command} → Frees IsSayable r → Says r
freely free = record { run = λ i given. free.run i }

behind_out : {A : Type 0} (P : A → Type 0) (f : A → Reader Command) → ((a : A) → Says (f a)) → (out : Outcome A) → Kept P out → Held IsSayable (and_then out f)
behind_out P f more (Ok p) kept = (more p.0).run p.1 kept.1
behind_out P f more (Err e) kept = tt

behind : {A : Type 0} {P : A → Type 0} {r : Reader A} {f : A → Reader Command} → Yields P r → ((a : A) → Says (f a)) → Says (r >>= f)
behind {P = P} {r = r} {f = f} one more = record { run = λ i given. behind_out P f more (r i) (one.run i given) }

dialect_by : (kd : Kind) → Yields Any (top.dialect_by kd)
dialect_by k.Sqlite = link taken (λ _ _. made Sqlite tt)
dialect_by k.Postgresql = link taken (λ _ _. made Postgresql tt)
dialect_by k.Mysql = link taken (λ _ _. made Mysql tt)
dialect_by _ = refused

dialect : Yields Any top.dialect
unfolding top.dialect
dialect = link peeked (λ kind _. dialect_by kind)

compilation_by : (d : Dialect) (kd : Kind) → Says (top.compilation_by d kd)
compilation_by d k.Rows = behind taken (λ _. yielded (mapped {Q = IsSayable} (c.CompileRows d) select (λ s said. said.says)))
compilation_by d k.Objects = freely (past take_token (λ _. gives query (c.CompileObjects d) (λ q. tt)))
compilation_by d k.Bulk = behind taken (λ _. yielded (mapped {Q = IsSayable} (c.CompileBulk d) bulk (λ b said. said.says)))
compilation_by d k.Table = freely (past take_token (λ _. gives name (c.CompileTable d) (λ called. tt)))
compilation_by d _ = freely stops

compilation : (d : Dialect) → Says (top.compilation d)
unfolding top.compilation
compilation d = behind peeked (λ kind. compilation_by d kind)

compile : Says top.compile
unfolding top.compile
compile = behind dialect compilation

top_by : (kd : Kind) → Says (top.top_by kd)
top_by k.Table = freely (past take_token (λ _. gives name c.TableHead (λ called. tt)))
top_by k.Class = freely (past take_token (λ _. class_head))
top_by k.Rows = behind taken (λ _. yielded (mapped {Q = IsSayable} c.Rows select (λ s said. said.says)))
top_by k.Bulk = behind taken (λ _. yielded (mapped {Q = IsSayable} c.Bulk bulk (λ b said. said.says)))
top_by k.Compile = behind taken (λ _. compile)
top_by _ = freely action

top_line : Says top.top
unfolding top.top
top_line = behind peeked (λ kind. top_by kind)

outer_by : (b : Bool) (i : Input) → AreGiven i.ahead → Held IsSayable (if b then bindings.binding i else top.top i)
outer_by true i given = binding.run i
outer_by false i given = top_line.run i given

command_by : (inside : Inside) → Says (line.command_by inside)
unfolding line.outer
command_by Top = record { run = λ i given. outer_by (same_kind (second_kind i) k.Assign) i given }
command_by Table = freely table_line
command_by Class = freely class_line

ends_by : (command : Command) (i : Input) → IsSayable command → (b : Bool) → Held {A = Command} IsSayable (if b then Ok (command, i) else refuse i)
ends_by command i is true = is
ends_by command i is false = tt

ended : (out : Outcome Command) → Held IsSayable out → Held IsSayable (and_then out line.ends)
unfolding line.ends
ended (Ok p) is = ends_by p.0 p.1 is (sees k.LineEnd p.1)
ended (Err e) is = tt

answered : (number : ℕ) (out : Outcome Command) → Held IsSayable out → IfOk (line.answer_of number out) IsSayable
answered number (Ok p) is = is
answered number (Err e) is = tt

line_by : (b : Bool) (number : ℕ) (out : Outcome Command) → Held IsSayable out → IfOk (if b then Ok c.Skip else line.answer_of number out) IsSayable
line_by true number out is = tt
line_by false number out is = answered number out is

pub line_is_sayable : (bytes : List ℕ) (number : ℕ) (inside : Inside) → IfOk (line.line bytes number inside) IsSayable
unfolding line.line line.line_of
line_is_sayable bytes number inside =
    let i = start_of (tokens bytes) in
    line_by (is_ignored bytes) number (and_then (line.command_by inside i) line.ends)
    (ended (line.command_by inside i) ((command_by inside).run i (tokens_given bytes)))

-- of the command that is read of a line
pub read_is_sayable : (bytes : List ℕ) (number : ℕ) (inside : Inside) (command : Command) → line.line bytes number inside ≡ Ok command → IsSayable command
read_is_sayable bytes number inside command e = subst (λ (r : Result Command Refusal). IfOk r IsSayable) e (line_is_sayable bytes number inside)

-- of what a call gives
pub given_is_sayable : (bytes : List ℕ) (number : ℕ) (inside : Inside) (r : Result Command Refusal) → Gives (λ (command : Command). command) r (line.line bytes number inside) → IfOk r IsSayable
given_is_sayable bytes number inside (Ok command) e = read_is_sayable bytes number inside command e
given_is_sayable bytes number inside (Err e) told = tt

pub ruleset reading = (given_is_sayable)
