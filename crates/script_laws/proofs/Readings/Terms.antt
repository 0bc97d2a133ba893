-- Values, terms and lists of them are read as their forms say.
use Rattle.std.proofs.Common.{Some, None, refl}
use Rattle.script_lex.specs.declared.kind.Kind.TheVariants as k
use Rattle.base_core.specs.declared.value.Value.TheVariants as v
use Rattle.script_tokens.specs.Names as n
use Rattle.script_tokens.specs.Literals as l
use Rattle.script_expr.specs.Expr as x
use Rattle.script_read.specs.Terms as r
use Rattle.script_read.specs.Bindings as b
use Rattle.script_laws.specs.Readings.Forms.Form.{sequence, says, word, maybe}
use Rattle.script_laws.specs.Readings.Forms.Basics as form
use Rattle.script_laws.specs.Readings.Forms.Expressions as expressions
use Rattle.script_laws.specs.Readings.Forms.Bindings as bindings
use Rattle.script_laws.specs.Readings.Forms.TopLines as top
use Rattle.script_laws.proofs.Readings.Forms.Taking.{Mode, Sound}
use Rattle.script_laws.proofs.Readings.Forms.Steps.{both, some_made}
use Rattle.script_laws.proofs.Readings.Forms.Steps as step
use Rattle.script_laws.proofs.Readings.Forms.Options.{if_word, bracket_up}
use Rattle.script_laws.proofs.Readings.Forms.Basics as basics
use Rattle.script_laws.proofs.Readings.Following.{Follows, link, made, token, introduced, word_or, some_maybe}

pub named : {c : Mode} → Follows c n.name form.name
named = record { sound = basics.named; some = basics.some_name }

pub names : {c : Mode} → Follows c n.names form.names
names = record { sound = basics.names_read; some = basics.some_names }

pub literal : {c : Mode} → Follows c l.literal form.literal
literal = record { sound = basics.literal_read; some = basics.some_literal }

pub int : {c : Mode} → Follows c l.int form.int
int = record { sound = basics.int_read; some = basics.some_int }

pub value : {c : Mode} → Follows c l.value form.value
unfolding l.value
value = word_or k.Null refl (made v.Null) literal

index : {c : Mode} → Sound c r.index (maybe (sequence (word k.LBracket) (λ _. sequence form.int (λ n. sequence (word k.RBracket) (λ _. says n)))))
unfolding r.index
index =
    if_word k.LBracket None refl
    (both basics.int_read (λ n. both (step.expected k.RBracket refl) (λ _. step.made (Some n)) (λ _. some_made (Some n))) (λ n. step.some_both (step.some_word k.RBracket) (λ _. some_made (Some n))))
    (bracket_up k.LBracket k.RBracket form.int) (refl, refl)

pub term : {c : Mode} → Follows c r.term form.term
unfolding r.term
term = link named (λ called. link (record { sound = index; some = some_maybe _ }) (λ place. made _))

pub member : {c : Mode} → Follows c r.member bindings.member
unfolding r.member
member = link term (λ owner. link (token k.Dot refl) (λ _. link named (λ called. made _)))

pub linked : {c : Mode} → Follows c r.member_and_term top.member_and_term
unfolding r.member_and_term
linked = link member (λ owner. link term (λ other. made _))

pub source : {c : Mode} → Follows c x.source expressions.source
unfolding x.source
source = link named (λ table. link (introduced k.As refl named) (λ alias. made _))

pub cell : {c : Mode} → Follows c b.cell bindings.cell
unfolding b.cell
cell = link named (λ attribute. link (token k.Assign refl) (λ _. link value (λ found. made _)))
