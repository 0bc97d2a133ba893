-- Lines outside blocks are read as their forms say, where expressions are.
use Rattle.std.proofs.Common.{◌≡◌, ℕ, ◌||◌, List, [], None, refl, sym, inr}
use Rattle.script_types.specs.declared.command.Command.TheVariants as c
use Rattle.base_core.specs.declared.dialect.Dialect.{Dialect}
use Rattle.base_core.specs.declared.dialect.Dialect.TheVariants.{Sqlite, Postgresql, Mysql}
use Rattle.script_types.specs.declared.command.Term.{Term}
use Rattle.script_lex.specs.declared.kind.Kind.{Kind}
use Rattle.script_lex.specs.declared.kind.Kind.TheVariants as k
use Rattle.script_lex.specs.Lex.{same_kind}
use Rattle.script_tokens.specs.Input.{Input, ◌>>=◌, and_then, pure, kind}
use Rattle.script_tokens.specs.Literals.{literals, begins_literal}
use Rattle.script_expr.specs.Expr.{whole}
use Rattle.script_read.specs.Terms as R
use Rattle.script_read.specs.Bindings as b
use Rattle.script_read.specs.Top as r
use Rattle.script_laws.specs.Readings.Forms.Form.{sequence, says, word, maybe, separated_list, ◌or◌}
use Rattle.script_laws.specs.Readings.Forms.Basics as basic
use Rattle.script_laws.specs.Readings.Forms.Expressions.{expression_to}
use Rattle.script_laws.specs.Readings.Forms.Bindings as bindings
use Rattle.script_laws.specs.Readings.Forms.TopLines as form
use Rattle.script_laws.proofs.Readings.Forms.Taking.{Mode, Plain, Out, Whole, Inhabited}
use Rattle.script_laws.proofs.Readings.Forms.Steps.{left_of, right_of, refused_at, some_left}
use Rattle.script_laws.proofs.Readings.Following.{Follows, link, made, token, mapped, listed, instead, word_or, decided, unless_end, of_first, perhaps, on_kind, behind_word, at, lead}
use Rattle.script_laws.proofs.Readings.Terms.{named, literal, value, term, member, linked, cell}
use Rattle.script_laws.proofs.Readings.Flat.{through}
use Rattle.script_laws.proofs.Readings.Heads.{class_head}
use Rattle.script_laws.proofs.Readings.Selects.{select, query_read, bulk_read}

-- ---- the parts without expressions

pub same_flat : (i : Input) → and_then (R.term i) (λ first. R.term >>= (λ second. pure (c.Same first second))) ≡ r.same i
unfolding r.same R.two
same_flat i = sym (through (R.term i) _ _ (λ first j. through (R.term j) _ _ (λ second l. refl)))

some_bare : Inhabited form.bare_line
some_bare = some_left (lead k.Configure (made {c = Plain} c.Configure))

some_termed : Inhabited form.termed_line
some_termed = some_left (lead k.Add (mapped c.Add (term {c = Plain})))

some_dialect : Inhabited form.dialect
some_dialect = some_left (lead k.Sqlite (made {c = Plain} Sqlite))

module _ {m : Mode} where
  made_new : (bound : List ℕ) → Follows m (b.new_object bound) (sequence basic.name (λ class. sequence (separated_list k.Comma bindings.cell or says []) (λ cells. says (c.New bound class cells))))
  unfolding b.new_object b.cells_if_any b.cells
  made_new bound = link named (λ class. link (unless_end [] (of_first (listed k.Comma refl cell)) (inr (refl, refl, refl))) (λ cells. made _))

  got : (bound : List ℕ) → Follows m (b.object_by_key bound) (sequence basic.name (λ class. sequence (word k.LParen) (λ _. sequence (separated_list k.Comma basic.literal) (λ key. sequence (word k.RParen) (λ _. says (c.Get bound class key))))))
  unfolding b.object_by_key literals
  got bound = link named (λ class. link (token k.LParen refl) (λ _. link (listed k.Comma refl literal) (λ key. link (token k.RParen refl) (λ _. made _))))

  related : (bound : List ℕ) → Follows m (b.related_object bound) (sequence bindings.member (λ found. says (c.Related bound found.0 found.1)))
  unfolding b.related_object
  related bound = link member (λ found. made _)

  set_to : (owner : Term) (called : List ℕ) → Follows m (r.set_to owner called) ((sequence basic.value (λ v. says (c.SetValue owner called v))) or (sequence basic.term (λ t. says (c.SetTerm owner called t))))
  unfolding r.set_to
  set_to owner called = decided (λ kd. same_kind kd k.Null || begins_literal kd) (mapped (c.SetValue owner called) value) (mapped (c.SetTerm owner called) term)

  set : Follows m r.set (sequence bindings.member (λ owner. sequence (word k.Assign) (λ _. (sequence basic.value (λ v. says (c.SetValue owner.0 owner.1 v))) or (sequence basic.term (λ t. says (c.SetTerm owner.0 owner.1 t))))))
  unfolding r.set
  set = link member (λ owner. link (token k.Assign refl) (λ _. set_to owner.0 owner.1))

  append : Follows m r.append (sequence form.member_and_term (λ found. says (c.Append found.0.0 found.0.1 found.1)))
  unfolding r.append
  append = link linked (λ found. made _)

  remove : Follows m r.remove (sequence form.member_and_term (λ found. says (c.Remove found.0.0 found.0.1 found.1)))
  unfolding r.remove
  remove = link linked (λ found. made _)

  show : Follows m r.show (sequence basic.term (λ owner. (sequence (word k.Dot) (λ _. sequence basic.name (λ called. says (c.ShowMember owner called)))) or says (c.Show owner)))
  unfolding r.show
  show = link term (λ owner. word_or k.Dot refl (mapped (c.ShowMember owner) named) (made (c.Show owner)))

  same_two : Follows m r.same (sequence basic.term (λ first. sequence basic.term (λ second. says (c.Same first second))))
  same_two = instead same_flat (link term (λ first. link term (λ second. made _)))

  name_if_any : Follows m r.name_if_any (maybe basic.name)
  unfolding r.name_if_any
  name_if_any = unless_end None (perhaps named) (refl, refl)

  -- ---- lines of one word, and of a word and a term

  bare_by : (kd : Kind) (i : Input) → Whole i.ahead → kind i ≡ kd → Out m form.bare_line i (r.bare_by kd i)
  bare_by k.Configure i line is = left_of (behind_word k.Configure refl (made c.Configure) i line is)
  bare_by k.CreateAll i line is = right_of (left_of (behind_word k.CreateAll refl (made c.CreateAll) i line is))
  bare_by k.DropAll i line is = right_of (right_of (left_of (behind_word k.DropAll refl (made c.DropAll) i line is)))
  bare_by k.Dump i line is = right_of (right_of (right_of (left_of (behind_word k.Dump refl (made c.Dump) i line is))))
  bare_by k.Flush i line is = right_of (right_of (right_of (right_of (left_of (behind_word k.Flush refl (made c.Flush) i line is)))))
  bare_by k.Close i line is = right_of (right_of (right_of (right_of (right_of (behind_word k.Close refl (made c.Close) i line is)))))
  bare_by _ i line is = refused_at some_bare i

  bare : Follows m r.bare form.bare_line
  unfolding r.bare
  bare = on_kind r.bare_by bare_by some_bare

  termed_by : (kd : Kind) (i : Input) → Whole i.ahead → kind i ≡ kd → Out m (form.termed_line or form.bare_line) i (r.term_command_by kd i)
  termed_by k.Add i line is = left_of (left_of (behind_word k.Add refl (mapped c.Add term) i line is))
  termed_by k.Delete i line is = left_of (right_of (left_of (behind_word k.Delete refl (mapped c.Delete term) i line is)))
  termed_by k.Expunge i line is = left_of (right_of (right_of (left_of (behind_word k.Expunge refl (mapped c.Expunge term) i line is))))
  termed_by k.Expire i line is = left_of (right_of (right_of (right_of (left_of (behind_word k.Expire refl (mapped c.Expire term) i line is)))))
  termed_by k.Refresh i line is = left_of (right_of (right_of (right_of (right_of (left_of (behind_word k.Refresh refl (mapped c.Refresh term) i line is))))))
  termed_by k.State i line is = left_of (right_of (right_of (right_of (right_of (right_of (behind_word k.State refl (mapped c.State term) i line is))))))
  termed_by _ i line is = right_of (at bare i line)

  termed : Follows m r.term_command (form.termed_line or form.bare_line)
  unfolding r.term_command
  termed = on_kind r.term_command_by termed_by (some_left some_termed)

  -- ---- lines that act

  acting_by : (kd : Kind) (i : Input) → Whole i.ahead → kind i ≡ kd → Out m form.acting_line i (r.action_by kd i)
  acting_by k.Set i line is = left_of (behind_word k.Set refl set i line is)
  acting_by k.Append i line is = right_of (left_of (behind_word k.Append refl append i line is))
  acting_by k.Remove i line is = right_of (right_of (left_of (behind_word k.Remove refl remove i line is)))
  acting_by k.Show i line is = right_of (right_of (right_of (left_of (behind_word k.Show refl show i line is))))
  acting_by k.Is i line is = right_of (right_of (right_of (right_of (left_of (behind_word k.Is refl same_two i line is)))))
  acting_by k.Commit i line is = right_of (right_of (right_of (right_of (right_of (left_of (behind_word k.Commit refl (mapped c.Commit name_if_any) i line is))))))
  acting_by k.Rollback i line is = right_of (right_of (right_of (right_of (right_of (right_of (left_of (behind_word k.Rollback refl (mapped c.Rollback name_if_any) i line is)))))))
  acting_by _ i line is = right_of (right_of (right_of (right_of (right_of (right_of (right_of (at termed i line)))))))

  acting : Follows m r.action form.acting_line
  unfolding r.action
  acting = on_kind r.action_by acting_by (some_left (lead k.Set set))

  -- ---- dialects

  dialect_by : (kd : Kind) (i : Input) → Whole i.ahead → kind i ≡ kd → Out m form.dialect i (r.dialect_by kd i)
  dialect_by k.Sqlite i line is = left_of (behind_word k.Sqlite refl (made Sqlite) i line is)
  dialect_by k.Postgresql i line is = right_of (left_of (behind_word k.Postgresql refl (made Postgresql) i line is))
  dialect_by k.Mysql i line is = right_of (right_of (behind_word k.Mysql refl (made Mysql) i line is))
  dialect_by _ i line is = refused_at some_dialect i

  dialect : Follows m r.dialect form.dialect
  unfolding r.dialect
  dialect = on_kind r.dialect_by dialect_by some_dialect

-- ---- the lines

module _ (m : Mode) (most : ℕ) (expressions : Follows m whole (expression_to most)) where
  binding_by : (bound : List ℕ) (kd : Kind) (i : Input) → Whole i.ahead → kind i ≡ kd
      → Out m (bindings.bound_to most bound) i (b.binding_by bound kd i)
  binding_by bound k.New i line is = left_of (behind_word k.New refl (made_new bound) i line is)
  binding_by bound k.Get i line is = right_of (left_of (behind_word k.Get refl (got bound) i line is))
  binding_by bound k.Objects i line is = right_of (right_of (left_of (behind_word k.Objects refl (mapped (c.Objects bound) (query_read m most expressions)) i line is)))
  binding_by bound k.Related i line is = right_of (right_of (right_of (left_of (behind_word k.Related refl (related bound) i line is))))
  binding_by bound k.BeginNested i line is = right_of (right_of (right_of (right_of (behind_word k.BeginNested refl (made (c.BeginNested bound)) i line is))))
  binding_by bound _ i line is = refused_at (some_left (lead k.New (made_new {m = Plain} bound))) i

  pub binding_read : Follows m b.binding (bindings.binding_line most)
  unfolding b.binding b.bound_to
  binding_read =
      link named (λ bound. link (token k.Assign refl) (λ _. on_kind (b.binding_by bound) (binding_by bound) (some_left (lead k.New (made_new {m = Plain} bound)))))

  compiled_by : (d : Dialect) (kd : Kind) (i : Input) → Whole i.ahead → kind i ≡ kd
      → Out m (form.compilation most d) i (r.compilation_by d kd i)
  compiled_by d k.Rows i line is = left_of (behind_word k.Rows refl (mapped (c.CompileRows d) (select m most expressions)) i line is)
  compiled_by d k.Objects i line is = right_of (left_of (behind_word k.Objects refl (mapped (c.CompileObjects d) (query_read m most expressions)) i line is))
  compiled_by d k.Bulk i line is = right_of (right_of (left_of (behind_word k.Bulk refl (mapped (c.CompileBulk d) (bulk_read m most expressions)) i line is)))
  compiled_by d k.Table i line is = right_of (right_of (right_of (behind_word k.Table refl (mapped (c.CompileTable d) named) i line is)))
  compiled_by d _ i line is = refused_at (some_left (lead k.Rows (mapped (c.CompileRows d) (select m most expressions)))) i

  compile : Follows m r.compile (sequence form.dialect (form.compilation most))
  unfolding r.compile r.compilation
  compile = link dialect (λ d. on_kind (r.compilation_by d) (compiled_by d) (some_left (lead k.Rows (mapped (c.CompileRows d) (select m most expressions)))))

  top_by : (kd : Kind) (i : Input) → Whole i.ahead → kind i ≡ kd → Out m (form.top_line most) i (r.top_by kd i)
  top_by k.Table i line is = left_of (behind_word k.Table refl (mapped c.TableHead named) i line is)
  top_by k.Class i line is = right_of (left_of (behind_word k.Class refl class_head i line is))
  top_by k.Rows i line is = right_of (right_of (left_of (behind_word k.Rows refl (mapped c.Rows (select m most expressions)) i line is)))
  top_by k.Bulk i line is = right_of (right_of (right_of (left_of (behind_word k.Bulk refl (mapped c.Bulk (bulk_read m most expressions)) i line is))))
  top_by k.Compile i line is = right_of (right_of (right_of (right_of (left_of (behind_word k.Compile refl compile i line is)))))
  top_by _ i line is = right_of (right_of (right_of (right_of (right_of (at acting i line)))))

  pub top_read : Follows m r.top (form.top_line most)
  unfolding r.top
  top_read = on_kind r.top_by top_by (some_left (lead k.Table (mapped c.TableHead (named {c = Plain}))))
