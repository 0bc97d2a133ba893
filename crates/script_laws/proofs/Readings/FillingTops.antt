-- What the forms of the lines outside blocks say is read, where that of expressions is.
use Rattle.std.proofs.Common.{◌≡◌, ℕ, Bool, true, false, not, ◌||◌, if◌then◌else◌, List, [], ◌∷◌, ◌++◌, drop, Option, refl, ap, sym, subst, ◌∙◌}
use Rattle.script_types.specs.declared.command.Command.{Command}
use Rattle.script_types.specs.declared.command.Command.TheVariants as c
use Rattle.base_core.specs.declared.dialect.Dialect.{Dialect}
use Rattle.base_core.specs.declared.dialect.Dialect.TheVariants.{Sqlite, Postgresql, Mysql}
use Rattle.script_types.specs.declared.command.Term.{Term}
use Rattle.script_types.specs.declared.select.SynSelect.{SynSelect}
use Rattle.script_types.specs.declared.select.SynQuery.{SynQuery}
use Rattle.script_types.specs.declared.select.SynBulk.{SynBulk}
use Rattle.script_lex.specs.declared.kind.Kind.{Kind}
use Rattle.script_lex.specs.declared.kind.Kind.TheVariants as k
use Rattle.script_lex.specs.declared.token.Token.{Token}
use Rattle.script_lex.specs.Lex.{same_kind}
use Rattle.script_tokens.proofs.Alike.{alike}
use Rattle.script_tokens.specs.Input.{Reader, ◌>>=◌, ◌>>◌, pure, take_token, second_kind, first_of}
use Rattle.script_tokens.specs.Names as N
use Rattle.script_tokens.specs.Names.{is_no_name}
use Rattle.script_tokens.specs.Literals as literals
use Rattle.script_tokens.specs.Literals.{begins_literal}
use Rattle.script_expr.specs.Expr.{whole}
use Rattle.script_select.specs.Select as S
use Rattle.script_select.specs.Query as Q
use Rattle.script_select.specs.Bulk as B
use Rattle.script_blocks.specs.Classes as C
use Rattle.script_read.specs.Terms as R
use Rattle.script_read.specs.Bindings as b
use Rattle.script_read.specs.Top as r
use Rattle.script_read.specs.Line.{outer}
use Rattle.script_laws.specs.Readings.Forms.Form.{Form, sequence, says, word, maybe, ◌or◌}
use Rattle.script_laws.specs.Readings.Forms.Basics as basic
use Rattle.script_laws.specs.Readings.Forms.Expressions.{expression_to}
use Rattle.script_laws.specs.Readings.Forms.Selects.{select}
use Rattle.script_laws.specs.Readings.Forms.Queries.{query}
use Rattle.script_laws.specs.Readings.Forms.Bulk.{bulk}
use Rattle.script_laws.specs.Readings.Forms.ClassHeads as heads
use Rattle.script_laws.specs.Readings.Forms.Bindings as bindings
use Rattle.script_laws.specs.Readings.Forms.TopLines as form
use Rattle.script_laws.proofs.Readings.Forms.Taking.{Mode, Enough}
use Rattle.script_laws.proofs.Readings.Forms.Filling.{given_as, Read, Complete, Opens, always, both, then_any, less, made, expected, taken, on_word, either, if_word, made_opens, word_opens, then_opens, first_opens, maybe_opens, whether_opens, either_opens}
use Rattle.script_laws.proofs.Readings.Forms.FillingBasics.{named, listed}
use Rattle.script_laws.proofs.Readings.Expressions.FillingSteps.{unlike, opens_less, solid_of, separated_opens}
use Rattle.script_laws.proofs.Readings.Expressions.FillingKinds.{is_name}
use Rattle.script_laws.proofs.Readings.Expressions.FillingLiterals.{literal_read, literal_solid}
use Rattle.script_laws.proofs.Readings.SomeKinds.{false_true, among, other_than, not_this, end_within}
use Rattle.script_laws.proofs.Readings.FillingParts.{instead, mapped, decided, unless_end, perhaps}
use Rattle.script_laws.proofs.Readings.FillingValues as values
use Rattle.script_laws.proofs.Readings.FillingValues.{begins_value, name_opens, term_opens}
use Rattle.script_laws.proofs.Readings.FillingSelects.{ends, opening, behind_expression, select_read, query_read, bulk_read}
use Rattle.script_laws.proofs.Readings.FillingHeads.{class_head}
use Rattle.script_laws.proofs.Readings.Tops.{same_flat}
use Rattle.script_laws.proofs.Readings.Forms.Steps.{is_end}

-- a name begins with no such token
name_is_no : (kd : Kind) → is_name kd ≡ false → {t : Kind → Bool} → Opens basic.name t (other_than kd)
name_is_no kd out = opens_less name_opens (not_this is_name kd out)

abbrev no_assign : Kind → Bool
no_assign = other_than k.Assign

name_no_assign : {t : Kind → Bool} → Opens basic.name t no_assign
unfolding is_no_name
name_no_assign = name_is_no k.Assign refl

name_no_end : Opens basic.name is_end (other_than k.LineEnd)
name_no_end = name_is_no k.LineEnd values.no_name_ends

dialect_opens : {t : Kind → Bool} → Opens form.dialect t no_assign
unfolding same_kind
dialect_opens = either_opens (first_opens (word_opens k.Sqlite refl)) (either_opens (first_opens (word_opens k.Postgresql refl)) (first_opens (word_opens k.Mysql refl)))

end_no_assign : (y : Kind) → is_end y ≡ true → no_assign y ≡ true
unfolding same_kind
end_no_assign = end_within no_assign refl

from_ends : {A : Type 0} {mode : Mode} {p : Reader A} {g : Form A} → Complete mode (among ends) p g → Complete mode is_end p g
unfolding among same_kind
from_ends cp = less cp (end_within (among ends) refl)

any : {A : Type 0} {mode : Mode} {p : Reader A} {g : Form A} → Complete mode always p g → Complete mode is_end p g
any cp = less cp (λ y e. refl)

-- ---- what stands behind the first word of a line: how it is read, and that it begins with no `=`

record Behind {A : Type 0} (mode : Mode) (p : Reader A) (g : Form A) : Type 0 where
  complete : Complete mode is_end p g
  opens : Opens g is_end no_assign

nothing_more : {A : Type 0} {mode : Mode} (a : A) → Behind mode (pure a) (says a)
nothing_more a = record { complete = any (made a); opens = made_opens a end_no_assign }

module _ {mode : Mode} where
  a_term : {A : Type 0} (f : Term → A) → Behind mode (R.term >>= (λ x. pure (f x))) (sequence basic.term (λ x. says (f x)))
  a_term f = record { complete = mapped f (values.term {t = is_end} refl); opens = first_opens (first_opens name_no_assign) }

  a_name : {A : Type 0} (f : List ℕ → A) → Behind mode (N.name >>= (λ x. pure (f x))) (sequence basic.name (λ x. says (f x)))
  a_name f = record { complete = mapped f (any named); opens = first_opens name_no_assign }

  name_if_any : (f : Option (List ℕ) → Command) → Behind mode (r.name_if_any >>= (λ x. pure (f x))) (sequence (maybe basic.name) (λ x. says (f x)))
  unfolding r.name_if_any
  name_if_any f = record {
    complete = mapped f (perhaps (any named) name_no_end);
    opens = then_opens is_end (maybe_opens name_no_assign end_no_assign) (λ x. made_opens (f x) (λ y e. e));
  }

  set_to : (owner : Term) (called : List ℕ) → Complete mode is_end (r.set_to owner called) ((sequence basic.value (λ v. says (c.SetValue owner called v))) or (sequence basic.term (λ t. says (c.SetTerm owner called t))))
  unfolding r.set_to begins_value
  set_to owner called =
      decided (λ kd. same_kind kd k.Null || begins_literal kd) (mapped (c.SetValue owner called) (any values.value)) (mapped (c.SetTerm owner called) (values.term {t = is_end} refl))
      (first_opens values.value_opens) (first_opens (opens_less term_opens values.name_no_value))

  set : Behind mode r.set (sequence bindings.member (λ owner. sequence (word k.Assign) (λ _. (sequence basic.value (λ v. says (c.SetValue owner.0 owner.1 v))) or (sequence basic.term (λ t. says (c.SetTerm owner.0 owner.1 t))))))
  unfolding r.set
  set = record { complete = then_any values.member (λ owner. then_any (expected k.Assign) (λ _. set_to owner.0 owner.1)); opens = first_opens (first_opens (first_opens name_no_assign)) }

  append : Behind mode r.append (sequence form.member_and_term (λ found. says (c.Append found.0.0 found.0.1 found.1)))
  unfolding r.append
  append = record { complete = mapped (λ found. c.Append found.0.0 found.0.1 found.1) (values.linked {t = is_end} refl); opens = first_opens (first_opens (first_opens (first_opens name_no_assign))) }

  remove : Behind mode r.remove (sequence form.member_and_term (λ found. says (c.Remove found.0.0 found.0.1 found.1)))
  unfolding r.remove
  remove = record { complete = mapped (λ found. c.Remove found.0.0 found.0.1 found.1) (values.linked {t = is_end} refl); opens = first_opens (first_opens (first_opens (first_opens name_no_assign))) }

  show : Behind mode r.show (sequence basic.term (λ owner. (sequence (word k.Dot) (λ _. sequence basic.name (λ called. says (c.ShowMember owner called)))) or says (c.Show owner)))
  unfolding r.show among same_kind
  show = record {
    complete = both (values.term {t = among (k.Dot ∷ ends)} refl) (λ owner. if_word k.Dot (c.Show owner) (mapped (c.ShowMember owner) (any named)) (unlike is_end k.Dot refl))
        (λ owner. either_opens (first_opens (word_opens k.Dot refl)) (made_opens (c.Show owner) (end_within (among (k.Dot ∷ ends)) refl)));
    opens = first_opens (first_opens name_no_assign);
  }

  two : Behind mode r.same (sequence basic.term (λ first. sequence basic.term (λ second. says (c.Same first second))))
  unfolding is_no_name
  two = record {
    complete = instead same_flat (both (values.term {t = is_name} refl) (λ first. mapped (c.Same first) (values.term {t = is_end} refl)) (λ first. first_opens term_opens));
    opens = first_opens (first_opens name_no_assign);
  }

  dialect : Complete mode always r.dialect form.dialect
  unfolding r.dialect
  dialect =
      either (on_word r.dialect_by k.Sqlite (then_any (taken k.Sqlite) (λ _. made Sqlite))) (either (on_word r.dialect_by k.Postgresql (then_any (taken k.Postgresql) (λ _. made Postgresql)))
      (on_word r.dialect_by k.Mysql (then_any (taken k.Mysql) (λ _. made Mysql))))

  a_class : Behind mode C.class_head (sequence basic.name (λ class. heads.root_class class or heads.extending_class class))
  a_class = record { complete = from_ends class_head; opens = first_opens name_no_assign }

  -- ---- what a name is bound to

  made_new : (bound : List ℕ) → Complete mode is_end (take_token >> b.new_object bound) (bindings.new bound)
  unfolding b.new_object b.cells_if_any b.cells
  made_new bound =
      then_any (taken k.New) (λ _. then_any named (λ class. both (unless_end [] (listed k.Comma always is_end values.cell (solid_of is_name values.cell_opens values.no_name_ends) refl (λ y e. refl) (unlike is_end k.Comma refl))
      (separated_opens k.Comma (opens_less values.cell_opens (not_this is_name k.LineEnd values.no_name_ends)))) (λ cells. any (made _)) (λ cells. made_opens _ (λ y e. e))))

  got : (bound : List ℕ) → Complete mode is_end (take_token >> b.object_by_key bound) (bindings.get bound)
  unfolding b.object_by_key literals.literals among same_kind
  got bound =
      any (then_any (taken k.Get) (λ _. then_any named (λ class. then_any (expected k.LParen) (λ _.
      both (listed k.Comma always (among (k.RParen ∷ [])) literal_read (literal_solid) refl (λ y e. refl) (unlike (among (k.RParen ∷ [])) k.Comma refl))
      (λ key. then_any (expected k.RParen) (λ _. made _)) (λ key. first_opens (word_opens k.RParen refl))))))

  related : (bound : List ℕ) → Complete mode is_end (take_token >> b.related_object bound) (bindings.related_object bound)
  unfolding b.related_object
  related bound = any (then_any (taken k.Related) (λ _. then_any values.member (λ found. made _)))

  begun : (bound : List ℕ) → Complete mode is_end (take_token >> pure (c.BeginNested bound)) (bindings.begin_nested bound)
  begun bound = any (then_any (taken k.BeginNested) (λ _. made _))

-- ---- lines, by their second token

outer_binding : (mode : Mode) (xs rest : List Token) (n o : ℕ) (a : Command) → same_kind (first_of (drop 1 xs)).kind k.Assign ≡ true → Read mode b.binding xs rest n o a
    → Read mode outer xs rest n o a
unfolding outer second_kind
outer_binding mode xs rest n o a is read = record {
  left = read.left;
  budget = read.budget;
  is = given_as (ap (λ c. if c then b.binding (record { ahead = xs; operators = o }) else r.top (record { ahead = xs; operators = o })) is) read.is;
}

outer_top : (mode : Mode) (xs rest : List Token) (n o : ℕ) (a : Command) → same_kind (first_of (drop 1 xs)).kind k.Assign ≡ false → Read mode r.top xs rest n o a
    → Read mode outer xs rest n o a
unfolding outer second_kind
outer_top mode xs rest n o a is read = record {
  left = read.left;
  budget = read.budget;
  is = given_as (ap (λ c. if c then b.binding (record { ahead = xs; operators = o }) else r.top (record { ahead = xs; operators = o })) is) read.is;
}

-- lines that are no bindings: read where the second token decides what is read, and where it does not
record OfTop (mode : Mode) (g : Form Command) : Type 0 where
  by_second : Complete mode is_end outer g
  by_first : Complete mode is_end r.top g

one_of : {mode : Mode} {g h : Form Command} → OfTop mode g → OfTop mode h → OfTop mode (g or h)
one_of og oh = record { by_second = either og.by_second oh.by_second; by_first = either og.by_first oh.by_first }

not_true : (c : Bool) → not c ≡ true → c ≡ false
not_true true e = absurd (false_true e)
not_true false e = refl

module _ {mode : Mode} where
  top_run : (kd : Kind) (g : Form Command) → Complete mode is_end r.top (sequence (word kd) (λ _. g)) → Opens g is_end no_assign
      → (prefix rest : List Token) (count o : ℕ) (a : Command) → sequence (word kd) (λ _. g) prefix count a → Enough mode count o → is_end (first_of rest).kind ≡ true
      → Read mode outer (prefix ++ rest) rest count o a
  top_run kd g cp og prefix rest count o a said enough stop =
      let w = said.1 in
      let tokens : prefix ≡ w.first.0 ∷ w.rest = w.joined ∙ ap (λ ts. ts ++ w.rest) w.first.1 in
      let other : same_kind (first_of (w.rest ++ rest)).kind k.Assign ≡ false =
      not_true (same_kind (first_of (w.rest ++ rest)).kind k.Assign) (og.run w.rest rest w.rest_count a w.second stop) in
      outer_top mode (prefix ++ rest) rest count o a (subst (λ ts. same_kind (first_of (drop 1 (ts ++ rest))).kind k.Assign ≡ false) (sym tokens) other)
      (cp.run prefix rest count o a said enough stop)

  on_top : (kd : Kind) {g : Form Command} → Complete mode is_end r.top (sequence (word kd) (λ _. g)) → Opens g is_end no_assign → OfTop mode (sequence (word kd) (λ _. g))
  on_top kd {g = g} cp og = record { by_second = record { run = top_run kd g cp og }; by_first = cp }

  behind_word : (kd : Kind) {by p : Reader Command} {g : Form Command} → by ≡ (take_token >> p) → Behind mode p g → Complete mode is_end by (sequence (word kd) (λ _. g))
  behind_word kd {g = g} is one = subst (λ q. Complete mode is_end q (sequence (word kd) (λ _. g))) (sym is) (then_any (taken kd) (λ _. one.complete))

  at_top : (kd : Kind) {p : Reader Command} {g : Form Command} → r.top_by kd ≡ (take_token >> p) → Behind mode p g → OfTop mode (sequence (word kd) (λ _. g))
  unfolding r.top
  at_top kd is one = on_top kd (on_word r.top_by kd (behind_word kd is one)) one.opens

  -- lines of the readers within, which read every first word that the one above does not
  in_acting : (kd : Kind) {g : Form Command} → r.top_by kd ≡ r.action → Complete mode is_end (r.action_by kd) (sequence (word kd) (λ _. g)) → Opens g is_end no_assign
      → OfTop mode (sequence (word kd) (λ _. g))
  unfolding r.top r.action
  in_acting kd {g = g} top cp og =
      on_top kd (on_word r.top_by kd (subst (λ q. Complete mode is_end q (sequence (word kd) (λ _. g))) (sym top) (on_word r.action_by kd cp))) og

  at_acting : (kd : Kind) {p : Reader Command} {g : Form Command} → r.top_by kd ≡ r.action → r.action_by kd ≡ (take_token >> p) → Behind mode p g
      → OfTop mode (sequence (word kd) (λ _. g))
  at_acting kd top is one = in_acting kd top (behind_word kd is one) one.opens

  in_termed : (kd : Kind) {g : Form Command} → r.top_by kd ≡ r.action → r.action_by kd ≡ r.term_command → Complete mode is_end (r.term_command_by kd) (sequence (word kd) (λ _. g))
      → Opens g is_end no_assign → OfTop mode (sequence (word kd) (λ _. g))
  unfolding r.term_command
  in_termed kd {g = g} top acting cp og = in_acting kd top (subst (λ q. Complete mode is_end q (sequence (word kd) (λ _. g))) (sym acting) (on_word r.term_command_by kd cp)) og

  at_termed : (kd : Kind) (f : Term → Command) → r.top_by kd ≡ r.action → r.action_by kd ≡ r.term_command → r.term_command_by kd ≡ (take_token >> (R.term >>= (λ x. pure (f x))))
      → OfTop mode (sequence (word kd) (λ _. sequence basic.term (λ x. says (f x))))
  at_termed kd f top acting is = in_termed kd top acting (behind_word kd is (a_term f)) (first_opens (first_opens name_no_assign))

  at_bare : (kd : Kind) (a : Command) → r.top_by kd ≡ r.action → r.action_by kd ≡ r.term_command → r.term_command_by kd ≡ r.bare → r.bare_by kd ≡ (take_token >> pure a)
      → OfTop mode (sequence (word kd) (λ _. says a))
  unfolding r.bare
  at_bare kd a top acting termed is =
      in_termed kd top acting (subst (λ q. Complete mode is_end q (sequence (word kd) (λ _. says a))) (sym termed) (on_word r.bare_by kd (behind_word kd is (nothing_more a)))) (made_opens a end_no_assign)

  acting_lines : OfTop mode form.acting_line
  acting_lines =
      one_of (at_acting k.Set refl refl set) (one_of (at_acting k.Append refl refl append) (one_of (at_acting k.Remove refl refl remove) (one_of (at_acting k.Show refl refl show)
      (one_of (at_acting k.Is refl refl two) (one_of (at_acting k.Commit refl refl (name_if_any c.Commit)) (one_of (at_acting k.Rollback refl refl (name_if_any c.Rollback))
      (one_of (one_of (at_termed k.Add c.Add refl refl refl) (one_of (at_termed k.Delete c.Delete refl refl refl) (one_of (at_termed k.Expunge c.Expunge refl refl refl)
      (one_of (at_termed k.Expire c.Expire refl refl refl) (one_of (at_termed k.Refresh c.Refresh refl refl refl) (at_termed k.State c.State refl refl refl))))))
      (one_of (at_bare k.Configure c.Configure refl refl refl refl) (one_of (at_bare k.CreateAll c.CreateAll refl refl refl refl) (one_of (at_bare k.DropAll c.DropAll refl refl refl refl)
      (one_of (at_bare k.Dump c.Dump refl refl refl refl) (one_of (at_bare k.Flush c.Flush refl refl refl refl) (at_bare k.Close c.Close refl refl refl refl)))))))))))))

-- ---- lines with expressions

opening_no_assign : (y : Kind) → opening y ≡ true → no_assign y ≡ true
opening_no_assign = not_this opening k.Assign refl

bulk_opens : (most : ℕ) → Opens (bulk most) is_end no_assign
unfolding same_kind
bulk_opens most = either_opens (first_opens (word_opens k.Insert refl)) (either_opens (first_opens (word_opens k.Update refl)) (first_opens (word_opens k.Delete refl)))

module _ (mode : Mode) (most : ℕ) (expressions : Complete mode (among behind_expression) whole (expression_to most)) (begins : Opens (expression_to most) always opening) where
  rows : (f : SynSelect → Command) → Behind mode (S.select >>= (λ x. pure (f x))) (sequence (select most) (λ x. says (f x)))
  unfolding same_kind
  rows f = record {
    complete = mapped f (from_ends (select_read mode most expressions begins));
    opens = first_opens (then_opens opening (whether_opens (word_opens k.Distinct refl) opening_no_assign)
        (λ distinct. first_opens (separated_opens k.Comma (first_opens begins))));
  }

  objects : (f : SynQuery → Command) → Behind mode (Q.query >>= (λ x. pure (f x))) (sequence (query most) (λ x. says (f x)))
  objects f = record { complete = mapped f (from_ends (query_read mode most expressions begins)); opens = first_opens (first_opens name_no_assign) }

  statements : (f : SynBulk → Command) → Behind mode (B.bulk >>= (λ x. pure (f x))) (sequence (bulk most) (λ x. says (f x)))
  statements f = record {
    complete = mapped f (from_ends (bulk_read mode most expressions begins));
    opens = then_opens is_end (bulk_opens most) (λ x. made_opens (f x) (λ y e. e));
  }

  compiled : (d : Dialect) → Complete mode is_end (r.compilation d) (form.compilation most d)
  unfolding r.compilation
  compiled d =
      either (on_word (r.compilation_by d) k.Rows (then_any (taken k.Rows) (λ _. (rows (c.CompileRows d)).complete)))
      (either (on_word (r.compilation_by d) k.Objects (then_any (taken k.Objects) (λ _. (objects (c.CompileObjects d)).complete)))
      (either (on_word (r.compilation_by d) k.Bulk (then_any (taken k.Bulk) (λ _. (statements (c.CompileBulk d)).complete)))
      (on_word (r.compilation_by d) k.Table (then_any (taken k.Table) (λ _. (a_name (c.CompileTable d)).complete)))))

  compile : Behind mode r.compile (sequence form.dialect (form.compilation most))
  unfolding r.compile
  compile = record { complete = then_any dialect compiled; opens = first_opens dialect_opens }

  top_lines : OfTop mode (form.top_line most)
  top_lines =
      one_of (at_top k.Table refl (a_name c.TableHead)) (one_of (at_top k.Class refl a_class) (one_of (at_top k.Rows refl (rows c.Rows)) (one_of (at_top k.Bulk refl (statements c.Bulk))
      (one_of (at_top k.Compile refl compile) acting_lines))))

  bound_to : (bound : List ℕ) → Complete mode is_end (b.bound_to bound) (bindings.bound_to most bound)
  unfolding b.bound_to
  bound_to bound =
      either (on_word (b.binding_by bound) k.New (made_new bound)) (either (on_word (b.binding_by bound) k.Get (got bound))
      (either (on_word (b.binding_by bound) k.Objects (then_any (taken k.Objects) (λ _. (objects (c.Objects bound)).complete)))
      (either (on_word (b.binding_by bound) k.Related (related bound)) (on_word (b.binding_by bound) k.BeginNested (begun bound)))))

  pub binding_filled : Complete mode is_end b.binding (bindings.binding_line most)
  unfolding b.binding
  binding_filled = then_any named (λ bound. then_any (expected k.Assign) (λ _. bound_to bound))

  binding_run : (prefix rest : List Token) (count o : ℕ) (a : Command) → (bindings.binding_line most) prefix count a → Enough mode count o → is_end (first_of rest).kind ≡ true
      → Read mode outer (prefix ++ rest) rest count o a
  binding_run prefix rest count o a said enough stop =
      let w = said.1 in
      let v = w.second.1 in
      let u = v.first.0 in
      let tokens : prefix ≡ w.first.0 ∷ u ∷ v.rest = w.joined ∙ ap (λ ts. ts ++ w.rest) w.first.1 ∙ ap (λ ts. w.first.0 ∷ ts) (v.joined ∙ ap (λ ts. ts ++ v.rest) v.first.1) in
      let assigns : same_kind u.kind k.Assign ≡ true = alike v.first.2 in
      outer_binding mode (prefix ++ rest) rest count o a (subst (λ ts. same_kind (first_of (drop 1 (ts ++ rest))).kind k.Assign ≡ true) (sym tokens) assigns)
      (binding_filled.run prefix rest count o a said enough stop)

  pub outer_read : Complete mode is_end outer (form.outer_line most)
  outer_read = either (record { run = binding_run }) top_lines.by_second

  pub top_filled : Complete mode is_end r.top (form.top_line most)
  top_filled = top_lines.by_first
