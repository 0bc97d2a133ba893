-- Lines are read steadily.
use Rattle.std.proofs.Common.{◌≡◌, ℕ, ◌||◌, Bool, true, false, if◌then◌else◌, List, [], Some, None, Ok, refl, ap, sym, ◌∙◌}
use Rattle.schema_core.specs.declared.table.ColumnKind.TheVariants as column
use Rattle.class_types.specs.declared.declared.Cascade.{Cascade}
use Rattle.script_types.specs.declared.command.Command.{Command}
use Rattle.script_types.specs.declared.command.Command.TheVariants as c
use Rattle.base_core.specs.declared.dialect.Dialect.{Dialect}
use Rattle.base_core.specs.declared.dialect.Dialect.TheVariants.{Sqlite, Postgresql, Mysql}
use Rattle.script_types.specs.declared.command.Term.{Term}
use Rattle.script_lex.specs.declared.kind.Kind.{Kind}
use Rattle.script_lex.specs.declared.kind.Kind.TheVariants as k
use Rattle.script_lex.specs.declared.token.Content.{Content}
use Rattle.script_lex.specs.Lex.{same_kind}
use Rattle.script_tokens.specs.Input.{Reader, ◌>>=◌, ◌<$>◌, pure, refuse, expect, sees, next, head}
use Rattle.script_tokens.specs.Names.{name}
use Rattle.script_tokens.specs.Literals.{begins_literal, int_by, value}
use Rattle.script_read.specs.Terms as t
use Rattle.script_blocks.specs.Blocks as b
use Rattle.script_blocks.specs.Classes as l
use Rattle.script_read.specs.Bindings as n
use Rattle.script_read.specs.Top as o
use Rattle.script_read.specs.Line.{ends}
use Rattle.script_laws.proofs.Readings.Steady.Settling.{closes, IsSteady}
use Rattle.script_laws.proofs.Readings.Steady.Steps.{IsSteadyAt, both, both_there, made, mapped, on_head, on_token, on_kind, there, behind, refused, chosen, chosen_at, eaten_by, eaten, expected_by, expected, introduced, false_true}
use Rattle.script_laws.proofs.Readings.Steady.Marked.{IsBare, bare_first, listed, marked, some_none}
use Rattle.script_laws.proofs.Readings.Steady.Reading.{comma_marks, name_steady, name_bare, names_steady, int_steady, literal_steady, literals_steady, value_steady, int_at}
use Rattle.script_laws.proofs.Readings.Steady.Selects.{select_steady, query_steady, bulk_steady}

-- ---- terms

index_steady : IsSteady t.index
unfolding t.index
index_steady = both (eaten k.LBracket refl) (λ found. chosen found (both int_steady (λ n. both (expected k.RBracket refl) (λ _. made (Some n)))) (made None))

term_steady : IsSteady t.term
unfolding t.term
term_steady = both name_steady (λ called. both index_steady (λ place. made (record { name = called; index = place })))

member_steady : IsSteady t.member
unfolding t.member
member_steady = both term_steady (λ owner. both (expected k.Dot refl) (λ _. both name_steady (λ called. made (owner, called))))

two_steady : IsSteady t.two
unfolding t.two
two_steady = both term_steady (λ first. both term_steady (λ second. made (first, second)))

linked_steady : IsSteady t.member_and_term
unfolding t.member_and_term
linked_steady = both member_steady (λ owner. both term_steady (λ other. made (owner, other)))

-- ---- the block of a table

length_goes : (kd : Kind) (content : Content) (n : ℕ) → b.length_in kd content ≡ Some n → closes kd ≡ false
length_goes k.LineEnd content n e = absurd (some_none (sym e))
length_goes k.Bad content n e = absurd (some_none (sym e))
length_goes _ content n e = refl

text_length_steady : IsSteady b.text_length
unfolding b.text_length head
text_length_steady =
    on_token (λ t. int_by (b.length_in t.kind t.content))
    (λ t i is. int_at i (b.length_in t.kind t.content) (λ n e. ap (λ u. closes u.kind) is ∙ length_goes t.kind t.content n e))

length_if_any_steady : IsSteady b.length_if_any
unfolding b.length_if_any
length_if_any_steady = both (eaten k.LParen refl) (λ found. chosen found (both text_length_steady (λ n. both (expected k.RParen refl) (λ _. made (Some n)))) (made None))

column_kind_by_steady : (kind : Kind) → IsSteadyAt kind (b.column_kind_by kind)
column_kind_by_steady k.Integer = behind k.Integer refl (λ _. made column.Integer)
column_kind_by_steady k.Varchar = behind k.Varchar refl (λ _. mapped column.Varchar length_if_any_steady)
column_kind_by_steady k.Text = behind k.Text refl (λ _. made column.Text)
column_kind_by_steady k.Boolean = behind k.Boolean refl (λ _. made column.Boolean)
column_kind_by_steady k.Bytes = behind k.Bytes refl (λ _. made column.Bytes)
column_kind_by_steady _ = there refused

column_kind_steady : IsSteady b.column_kind
unfolding b.column_kind
column_kind_steady = on_kind b.column_kind_by column_kind_by_steady

both_words_steady : (first second : Kind) → closes first ≡ false → closes second ≡ false → IsSteady (b.both_words first second)
both_words_steady first second one two = both (eaten first one) (λ found. chosen found (both (expected second two) (λ _. made true)) (made false))

column_steady : IsSteady b.column
unfolding b.column
column_steady =
    both name_steady (λ called. both column_kind_steady (λ type. both (both_words_steady k.Primary k.Key refl refl) (λ key. both (both_words_steady k.Not k.Null refl refl) (λ not_null.
    made (c.ColumnLine (record { name = called; kind = type; key = key; not_null = not_null }))))))

foreign_steady : IsSteady b.foreign
unfolding b.foreign
foreign_steady =
    both (expected k.Key refl) (λ _. both names_steady (λ columns. both (expected k.References refl) (λ _. both name_steady (λ target.
    made (c.ForeignLine (record { columns = columns; target = target }))))))

table_line_by_steady : (kind : Kind) → IsSteadyAt kind (b.table_line_by kind)
table_line_by_steady k.End = behind k.End refl (λ _. made c.End)
table_line_by_steady k.Unique = behind k.Unique refl (λ _. mapped c.UniqueLine names_steady)
table_line_by_steady k.Foreign = behind k.Foreign refl (λ _. foreign_steady)
table_line_by_steady _ = there column_steady

pub table_line_steady : IsSteady b.table_line
unfolding b.table_line
table_line_steady = on_kind b.table_line_by table_line_by_steady

-- ---- classes

names_after_steady : (word : Kind) → closes word ≡ false → IsSteady (l.names_after word)
names_after_steady word goes = both (eaten word goes) (λ found. chosen found names_steady (made []))

name_after_steady : (word : Kind) → closes word ≡ false → IsSteady (l.name_after word)
name_after_steady word goes = introduced word goes name_steady

identity_steady : IsSteady l.identity
unfolding l.identity
identity_steady = both (expected k.Identity refl) (λ _. literal_steady)

discriminated_steady : IsSteady l.discriminator_if_any
unfolding l.discriminator_if_any
discriminated_steady =
    both (eaten k.Discriminator refl) (λ found. chosen found (both name_steady (λ column. both identity_steady (λ own. made (Some (column, own))))) (made None))

root_class_steady : (class : List ℕ) → IsSteady (l.root_class class)
unfolding l.root_class
root_class_steady class = both name_steady (λ table. both discriminated_steady (λ column. made (l.root_head class table column)))

extending_class_steady : (class : List ℕ) → IsSteady (l.extending_class class)
unfolding l.extending_class
extending_class_steady class =
    both name_steady (λ base. both (name_after_steady k.Table refl) (λ table. both identity_steady (λ own. both (names_after_steady k.Owns refl) (λ owned.
    made (c.ClassHead class (Some base) table None (Some own) owned)))))

class_head_by_steady : (class : List ℕ) (kind : Kind) → IsSteadyAt kind (l.class_head_by class kind)
class_head_by_steady class k.Table = behind k.Table refl (λ _. root_class_steady class)
class_head_by_steady class k.Extends = behind k.Extends refl (λ _. extending_class_steady class)
class_head_by_steady class _ = there refused

class_head_steady : IsSteady l.class_head
unfolding l.class_head
class_head_steady = both name_steady (λ class. on_kind (l.class_head_by class) (class_head_by_steady class))

dash_goes : (kd : Kind) → (same_kind kd k.Minus || same_kind kd k.Signed) ≡ true → closes kd ≡ false
unfolding same_kind
dash_goes k.LineEnd e = absurd (false_true e)
dash_goes k.Bad e = absurd (false_true e)
dash_goes _ e = refl

dash_steady : IsSteady l.dash
unfolding l.dash sees head
dash_steady =
    on_token (λ t i. if same_kind t.kind k.Minus || same_kind t.kind k.Signed then Ok (tt {0}, next i) else refuse i)
    (λ t i is. expected_by i (same_kind t.kind k.Minus || same_kind t.kind k.Signed) (λ seen. ap (λ u. closes u.kind) is ∙ dash_goes t.kind seen))

eat_dash_steady : IsSteady l.eat_dash
unfolding l.eat_dash sees head
eat_dash_steady =
    on_token (λ t i. Ok (same_kind t.kind k.Minus || same_kind t.kind k.Signed, if same_kind t.kind k.Minus || same_kind t.kind k.Signed then next i else i))
    (λ t i is. eaten_by i (same_kind t.kind k.Minus || same_kind t.kind k.Signed) (λ seen. ap (λ u. closes u.kind) is ∙ dash_goes t.kind seen))

dashed_steady : (word : Kind) → closes word ≡ false → IsSteady (l.dash_and_word word)
dashed_steady word goes = both dash_steady (λ _. expected word goes)

deleting_steady : (so_far : Cascade) → IsSteady (l.after_delete so_far)
deleting_steady so_far = both eat_dash_steady (λ found. chosen found (both (expected k.Orphan refl) (λ _. made (record so_far { delete_orphan = true }))) (made (record so_far { delete = true })))

cascade_by_steady : (so_far : Cascade) (kind : Kind) → IsSteadyAt kind (l.cascade_by so_far kind)
cascade_by_steady so_far k.Save = both_there (behind k.Save refl (λ _. dashed_steady k.Update refl)) (λ _. made (record so_far { save_update = true }))
cascade_by_steady so_far k.Merge = behind k.Merge refl (λ _. made (record so_far { merge = true }))
cascade_by_steady so_far k.Refresh = both_there (behind k.Refresh refl (λ _. dashed_steady k.Expire refl)) (λ _. made (record so_far { refresh_expire = true }))
cascade_by_steady so_far k.Expunge = behind k.Expunge refl (λ _. made (record so_far { expunge = true }))
cascade_by_steady so_far k.Delete = behind k.Delete refl (λ _. deleting_steady so_far)
cascade_by_steady so_far k.All = behind k.All refl (λ _. made (record so_far { save_update = true; merge = true; refresh_expire = true; expunge = true; delete = true }))
cascade_by_steady so_far k.NoneWord = behind k.NoneWord refl (λ _. made so_far)
cascade_by_steady so_far _ = there refused

cascade_word_steady : (so_far : Cascade) → IsSteady (l.cascade_word so_far)
unfolding l.cascade_word
cascade_word_steady so_far = on_kind (l.cascade_by so_far) (cascade_by_steady so_far)

cascade_word_bare : (so_far : Cascade) → IsBare (l.cascade_word so_far)
unfolding l.cascade_word head
cascade_word_bare so_far = λ o. refl

cascade_steady : IsSteady l.cascade
unfolding l.cascade l.cascade_from
cascade_steady = marked k.Comma l.cascade_word (λ s x. x) l.cascade_from (λ s i. refl) (λ n s i. refl) comma_marks cascade_word_steady cascade_word_bare _

cascade_if_any_steady : IsSteady l.cascade_if_any
unfolding l.cascade_if_any
cascade_if_any_steady = introduced k.Cascade refl cascade_steady

back_by_steady : (kind : Kind) → IsSteadyAt kind (l.back_by kind)
back_by_steady k.Back = behind k.Back refl (λ _. made false)
back_by_steady k.Backref = behind k.Backref refl (λ _. made true)
back_by_steady _ = there refused

back_steady : IsSteady l.back
unfolding l.back
back_steady = on_kind l.back_by back_by_steady

secondary_steady : (many : Bool) → IsSteady (l.secondary many)
unfolding l.secondary
secondary_steady many = chosen many (name_after_steady k.Secondary refl) (made None)

post_update_steady : (many : Bool) → IsSteady (l.post_update many)
unfolding l.post_update
post_update_steady many = chosen many (made false) (eaten k.PostUpdate refl)

sides_steady : (many : Bool) → IsSteady (l.sides many)
unfolding l.sides
sides_steady many =
    both name_steady (λ called. both name_steady (λ target. both (secondary_steady many) (λ through. both back_steady (λ backref. both name_steady (λ partner.
    made (called, target, through, backref, partner))))))

relation_steady : (many : Bool) → IsSteady (l.relation many)
unfolding l.relation
relation_steady many =
    both (sides_steady many) (λ found. both (names_after_steady k.Using refl) (λ using. both cascade_if_any_steady (λ cascade. both (post_update_steady many) (λ post.
    made _))))

validate_steady : IsSteady l.validate
unfolding l.validate
validate_steady = both name_steady (λ attribute. both (expected k.With refl) (λ _. both name_steady (λ hook. made (c.ValidateLine attribute hook))))

class_line_by_steady : (kind : Kind) → IsSteadyAt kind (l.class_line_by kind)
class_line_by_steady k.End = behind k.End refl (λ _. made c.End)
class_line_by_steady k.Validate = behind k.Validate refl (λ _. validate_steady)
class_line_by_steady k.One = behind k.One refl (λ _. relation_steady false)
class_line_by_steady k.Many = behind k.Many refl (λ _. relation_steady true)
class_line_by_steady _ = there refused

pub class_line_steady : IsSteady l.class_line
unfolding l.class_line
class_line_steady = on_kind l.class_line_by class_line_by_steady

-- ---- bindings

cell_steady : IsSteady n.cell
unfolding n.cell
cell_steady = both name_steady (λ attribute. both (expected k.Assign refl) (λ _. both value_steady (λ found. made (attribute, found))))

cell_bare : IsBare n.cell
unfolding n.cell
cell_bare = bare_first name (λ attribute. expect k.Assign >>= (λ _. value >>= (λ found. pure (attribute, found)))) name_bare

cells_steady : IsSteady n.cells
unfolding n.cells
cells_steady = listed k.Comma comma_marks cell_steady cell_bare []

ended_or : {A : Type 0} (a : A) (p : Reader A) → IsSteady p → IsSteady (λ i. if sees k.LineEnd i then Ok (a, i) else p i)
unfolding sees head
ended_or a p sp =
    on_head (λ t i. if same_kind t.kind k.LineEnd then Ok (a, i) else p i) (λ t. chosen_at (pure a) p (same_kind t.kind k.LineEnd) (made a) sp)

cells_if_any_steady : IsSteady n.cells_if_any
unfolding n.cells_if_any
cells_if_any_steady = ended_or [] n.cells cells_steady

made_steady : (bound : List ℕ) → IsSteady (n.new_object bound)
unfolding n.new_object
made_steady bound = both name_steady (λ class. both cells_if_any_steady (λ found. made (c.New bound class found)))

got_steady : (bound : List ℕ) → IsSteady (n.object_by_key bound)
unfolding n.object_by_key
got_steady bound =
    both name_steady (λ class. both (expected k.LParen refl) (λ _. both literals_steady (λ key. both (expected k.RParen refl) (λ _. made (c.Get bound class key)))))

related_steady : (bound : List ℕ) → IsSteady (n.related_object bound)
unfolding n.related_object
related_steady bound = both member_steady (λ found. made (c.Related bound found.0 found.1))

binding_by_steady : (bound : List ℕ) (kind : Kind) → IsSteadyAt kind (n.binding_by bound kind)
binding_by_steady bound k.New = behind k.New refl (λ _. made_steady bound)
binding_by_steady bound k.Get = behind k.Get refl (λ _. got_steady bound)
binding_by_steady bound k.Objects = behind k.Objects refl (λ _. mapped (c.Objects bound) query_steady)
binding_by_steady bound k.Related = behind k.Related refl (λ _. related_steady bound)
binding_by_steady bound k.BeginNested = behind k.BeginNested refl (λ _. made (c.BeginNested bound))
binding_by_steady bound _ = there refused

bound_to_steady : (bound : List ℕ) → IsSteady (n.bound_to bound)
unfolding n.bound_to
bound_to_steady bound = on_kind (n.binding_by bound) (binding_by_steady bound)

pub binding_steady : IsSteady n.binding
unfolding n.binding
binding_steady = both name_steady (λ bound. both (expected k.Assign refl) (λ _. bound_to_steady bound))

-- ---- the other lines outside every block

set_to_steady : (owner : Term) (called : List ℕ) → IsSteady (o.set_to owner called)
unfolding o.set_to
set_to_steady owner called =
    on_kind (λ kind. if same_kind kind k.Null || begins_literal kind then (c.SetValue owner called <$> value) else (c.SetTerm owner called <$> t.term))
    (λ kind. there (chosen (same_kind kind k.Null || begins_literal kind) (mapped (c.SetValue owner called) value_steady) (mapped (c.SetTerm owner called) term_steady)))

set_steady : IsSteady o.set
unfolding o.set
set_steady = both member_steady (λ owner. both (expected k.Assign refl) (λ _. set_to_steady owner.0 owner.1))

append_steady : IsSteady o.append
unfolding o.append
append_steady = both linked_steady (λ found. made (c.Append found.0.0 found.0.1 found.1))

remove_steady : IsSteady o.remove
unfolding o.remove
remove_steady = both linked_steady (λ found. made (c.Remove found.0.0 found.0.1 found.1))

show_steady : IsSteady o.show
unfolding o.show
show_steady = both term_steady (λ owner. both (eaten k.Dot refl) (λ dotted. chosen dotted (mapped (c.ShowMember owner) name_steady) (made (c.Show owner))))

same_steady : IsSteady o.same
unfolding o.same
same_steady = both two_steady (λ found. made (c.Same found.0 found.1))

name_if_any_steady : IsSteady o.name_if_any
unfolding o.name_if_any
name_if_any_steady = ended_or None (Some <$> name) (mapped Some name_steady)

dialect_by_steady : (kind : Kind) → IsSteadyAt kind (o.dialect_by kind)
dialect_by_steady k.Sqlite = behind k.Sqlite refl (λ _. made Sqlite)
dialect_by_steady k.Postgresql = behind k.Postgresql refl (λ _. made Postgresql)
dialect_by_steady k.Mysql = behind k.Mysql refl (λ _. made Mysql)
dialect_by_steady _ = there refused

dialect_steady : IsSteady o.dialect
unfolding o.dialect
dialect_steady = on_kind o.dialect_by dialect_by_steady

compiled_by_steady : (d : Dialect) (kind : Kind) → IsSteadyAt kind (o.compilation_by d kind)
compiled_by_steady d k.Rows = behind k.Rows refl (λ _. mapped (c.CompileRows d) select_steady)
compiled_by_steady d k.Objects = behind k.Objects refl (λ _. mapped (c.CompileObjects d) query_steady)
compiled_by_steady d k.Bulk = behind k.Bulk refl (λ _. mapped (c.CompileBulk d) bulk_steady)
compiled_by_steady d k.Table = behind k.Table refl (λ _. mapped (c.CompileTable d) name_steady)
compiled_by_steady d _ = there refused

compiled_steady : (d : Dialect) → IsSteady (o.compilation d)
unfolding o.compilation
compiled_steady d = on_kind (o.compilation_by d) (compiled_by_steady d)

compile_steady : IsSteady o.compile
unfolding o.compile
compile_steady = both dialect_steady compiled_steady

bare_by_steady : (kind : Kind) → IsSteadyAt kind (o.bare_by kind)
bare_by_steady k.Configure = behind k.Configure refl (λ _. made c.Configure)
bare_by_steady k.CreateAll = behind k.CreateAll refl (λ _. made c.CreateAll)
bare_by_steady k.DropAll = behind k.DropAll refl (λ _. made c.DropAll)
bare_by_steady k.Dump = behind k.Dump refl (λ _. made c.Dump)
bare_by_steady k.Flush = behind k.Flush refl (λ _. made c.Flush)
bare_by_steady k.Close = behind k.Close refl (λ _. made c.Close)
bare_by_steady _ = there refused

bare_steady : IsSteady o.bare
unfolding o.bare
bare_steady = on_kind o.bare_by bare_by_steady

termed_by_steady : (kind : Kind) → IsSteadyAt kind (o.term_command_by kind)
termed_by_steady k.Add = behind k.Add refl (λ _. mapped c.Add term_steady)
termed_by_steady k.Delete = behind k.Delete refl (λ _. mapped c.Delete term_steady)
termed_by_steady k.Expunge = behind k.Expunge refl (λ _. mapped c.Expunge term_steady)
termed_by_steady k.Expire = behind k.Expire refl (λ _. mapped c.Expire term_steady)
termed_by_steady k.Refresh = behind k.Refresh refl (λ _. mapped c.Refresh term_steady)
termed_by_steady k.State = behind k.State refl (λ _. mapped c.State term_steady)
termed_by_steady _ = there bare_steady

termed_steady : IsSteady o.term_command
unfolding o.term_command
termed_steady = on_kind o.term_command_by termed_by_steady

acting_by_steady : (kind : Kind) → IsSteadyAt kind (o.action_by kind)
acting_by_steady k.Set = behind k.Set refl (λ _. set_steady)
acting_by_steady k.Append = behind k.Append refl (λ _. append_steady)
acting_by_steady k.Remove = behind k.Remove refl (λ _. remove_steady)
acting_by_steady k.Show = behind k.Show refl (λ _. show_steady)
acting_by_steady k.Is = behind k.Is refl (λ _. same_steady)
acting_by_steady k.Commit = behind k.Commit refl (λ _. mapped c.Commit name_if_any_steady)
acting_by_steady k.Rollback = behind k.Rollback refl (λ _. mapped c.Rollback name_if_any_steady)
acting_by_steady _ = there termed_steady

acting_steady : IsSteady o.action
unfolding o.action
acting_steady = on_kind o.action_by acting_by_steady

top_by_steady : (kind : Kind) → IsSteadyAt kind (o.top_by kind)
top_by_steady k.Table = behind k.Table refl (λ _. mapped c.TableHead name_steady)
top_by_steady k.Class = behind k.Class refl (λ _. class_head_steady)
top_by_steady k.Rows = behind k.Rows refl (λ _. mapped c.Rows select_steady)
top_by_steady k.Bulk = behind k.Bulk refl (λ _. mapped c.Bulk bulk_steady)
top_by_steady k.Compile = behind k.Compile refl (λ _. compile_steady)
top_by_steady _ = there acting_steady

pub top_steady : IsSteady o.top
unfolding o.top
top_steady = on_kind o.top_by top_by_steady

pub ends_steady : (command : Command) → IsSteady (ends command)
unfolding ends
ends_steady command = ended_or command refuse refused
