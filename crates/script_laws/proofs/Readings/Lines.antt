-- Whole lines outside blocks.
use Rattle.std.proofs.Common.{◌≡◌, ◌⊎◌, ℕ, Bool, true, false, if◌then◌else◌, List, [], ◌∷◌, ◌++◌, drop, Ok, Err, refl, ap, sym, ◌∙◌, append_assoc, inl, inr}
use Rattle.script_types.specs.declared.command.Command.{Command}
use Rattle.script_lex.specs.declared.kind.Kind.{Kind}
use Rattle.script_lex.specs.declared.kind.Kind.TheVariants as k
use Rattle.script_lex.specs.declared.token.Token.{Token}
use Rattle.script_lex.specs.Lex.{same_kind, tokens}
use Rattle.script_tokens.specs.declared.fault.Fault.{Fault}
use Rattle.script_tokens.specs.Input.{Input, Outcome, and_then, sees, second_kind, first_of, start_of}
use Rattle.script_tokens.specs.Names.{is_no_name}
use Rattle.script_expr.specs.Expr.{whole}
use Rattle.script_read.specs.Bindings.{binding}
use Rattle.script_read.specs.Top.{top}
use Rattle.script_read.specs.Line.{ends, line_of, outer}
use Rattle.script_laws.specs.Readings.Forms.Form.{Form}
use Rattle.script_laws.specs.Readings.Forms.Lines.{Says, Begins}
use Rattle.script_laws.specs.Readings.Forms.Expressions.{expression_to}
use Rattle.script_laws.specs.Readings.Forms.Bindings.{binding_line}
use Rattle.script_laws.specs.Readings.Forms.TopLines.{top_line, outer_line}
use Rattle.script_laws.proofs.Readings.Forms.Exact.{EndsAViablePrefix, ReadsWhatIsSaid, ReadsAllThatIsSaid, SaysOneThing}
use Rattle.script_laws.proofs.Readings.Forms.Taking.{Plain, Around, Took, Completed, Refused, Stands, Here, TooDeep, Kept}
use Rattle.script_laws.proofs.Readings.Forms.Filling.{Complete, Opens, always, less}
use Rattle.script_laws.proofs.Readings.Forms.Lines.{line_is_whole, ends_read, ends_refused, begun, refused_by, refused_yields, fault_same, all_is_read, one_thing}
use Rattle.script_laws.proofs.Readings.Expressions.Whole.{whole_sound, wider_sound, some_expression_to}
use Rattle.script_laws.proofs.Readings.Expressions.FillingKinds.{ends_expression, begins_expression}
use Rattle.script_laws.proofs.Readings.Expressions.FillingExpressions.{whole_plain, expression_opens, whole_wider, wider_opens}
use Rattle.script_laws.proofs.Readings.Exact.{outer_reader, RefusesNoSooner, RefusesSoonerInDepthAlone, EndsInDepth}
use Rattle.script_laws.specs.Readings.Language.{binding_or_other}
use Rattle.script_laws.proofs.Readings.SomeKinds.{false_true, among, all_in, within}
use Rattle.script_laws.proofs.Readings.Following.{Follows}
use Rattle.script_laws.proofs.Readings.Tops.{binding_read, top_read}
use Rattle.script_laws.proofs.Readings.Expressions.FillingSteps.{opens_less}
use Rattle.script_laws.proofs.Readings.FillingSelects.{behind_expression, opening}
use Rattle.script_laws.proofs.Readings.FillingTops.{outer_read}
use Rattle.script_laws.proofs.Readings.Forms.Steps.{is_end}

-- ---- expressions

narrow : Follows Around whole (expression_to 100)
narrow = record { sound = whole_sound; some = some_expression_to 100 }

wide : Follows Plain whole (expression_to 101)
wide = record { sound = wider_sound; some = some_expression_to 101 }

pub filled : Complete Plain (among behind_expression) whole (expression_to 100)
unfolding all_in
filled = less whole_plain (within behind_expression ends_expression refl)

begins_opening : (y : Kind) → begins_expression y ≡ true → opening y ≡ true
unfolding is_no_name
begins_opening k.Null e = absurd (false_true e)
begins_opening k.Distinct e = absurd (false_true e)
begins_opening k.Assign e = absurd (false_true e)
begins_opening k.LineEnd e = absurd (false_true e)
begins_opening _ e = refl

pub opened : Opens (expression_to 100) always opening
opened = opens_less expression_opens begins_opening

-- in whose expressions one more may nest than is read
pub wider_filled : Complete Around (among behind_expression) whole (expression_to 101)
unfolding all_in
wider_filled = less whole_wider (within behind_expression ends_expression refl)

pub wider_opened : Opens (expression_to 101) always opening
wider_opened = opens_less wider_opens begins_opening

complete : Complete Plain is_end outer (outer_line 100)
complete = outer_read Plain 100 filled opened

-- ---- what a line says

plain : {form : Form Command} {i j : Input} {a : Command} → Took Around form i a j → Took Plain form i a j
plain t = record { prefix = t.prefix; count = t.count; joined = t.joined; budget = t.budget; said = t.said }

widened : (g h : Form Command) (line : List Token) (command : Command) → Says g line command → ((ts : List Token) (n : ℕ) (a : Command) → g ts n a → h ts n a) → Says h line command
widened g h line command says up = record { prefix = says.prefix; rest = says.rest; joined = says.joined; ends = says.ends; said = up says.prefix 0 command says.said }

said_by : (form : Form Command) (line : List Token) (out : Outcome Command) → Kept Around form (start_of line) out → (command : Command) (left : Input)
    → ◌≡◌ {A = Outcome Command} (and_then out ends) (Ok (command, left)) → Says form line command
unfolding ends
said_by form line (Ok p) t command left e = ends_read form line p.0 p.1 (plain t) (sees k.LineEnd p.1) refl command left e
said_by form line (Err f) r command left e = absurd (refused_yields e)

said_as : (line : List ℕ) (b : Bool) (command : Command) (left : Input)
    → ◌≡◌ {A = Outcome Command} (and_then (if b then binding (start_of (tokens line)) else top (start_of (tokens line))) ends) (Ok (command, left)) → Says (outer_line 100) (tokens line) command
said_as line true command left e =
    let i = start_of (tokens line) in
    widened (binding_line 100) (outer_line 100) (tokens line) command
    (said_by (binding_line 100) (tokens line) (binding i) ((binding_read Around 100 narrow).sound.run i (line_is_whole line)) command left e) (λ ts n a s. inl s)
said_as line false command left e =
    let i = start_of (tokens line) in
    widened (top_line 100) (outer_line 100) (tokens line) command
    (said_by (top_line 100) (tokens line) (top i) ((top_read Around 100 narrow).sound.run i (line_is_whole line)) command left e) (λ ts n a s. inr s)

pub reads_what_is_said : ReadsWhatIsSaid outer_reader (outer_line 100)
unfolding line_of outer
reads_what_is_said line command left e = said_as line (same_kind (second_kind (start_of (tokens line))) k.Assign) command left e

pub reads_all_that_is_said : ReadsAllThatIsSaid outer_reader (outer_line 100)
unfolding line_of
reads_all_that_is_said = all_is_read outer (outer_line 100) complete

pub says_one_thing : SaysOneThing (outer_line 100)
says_one_thing = one_thing outer (outer_line 100) complete

-- ---- where a line is refused

refused_as : (line : List ℕ) (b : Bool) (e : Fault)
    → ◌≡◌ {A = Outcome Command} (and_then (if b then binding (start_of (tokens line)) else top (start_of (tokens line))) ends) (Err e)
    → EndsAViablePrefix (binding_or_other b 101) (tokens line) e
refused_as line true e is =
    let i = start_of (tokens line) in
    refused_by (binding_line 101) (tokens line) (binding i) ((binding_read Plain 101 wide).sound.run i (line_is_whole line)) e is
refused_as line false e is =
    let i = start_of (tokens line) in
    refused_by (top_line 101) (tokens line) (top i) ((top_read Plain 101 wide).sound.run i (line_is_whole line)) e is

pub refuses_no_sooner : RefusesNoSooner
unfolding line_of outer second_kind
refuses_no_sooner line e is = refused_as line (same_kind (first_of (drop 1 (tokens line))).kind k.Assign) e is

begun_around : (form : Form Command) (before : List Token) → Completed Around form before 0 → Begins form before
begun_around form before done = begun form before (record { more = done.more; count = done.count; value = done.value; enough = done.enough; said = done.said })

deep_there : (form : Form Command) (line : List Token) (f e : Fault) (r : Refused Around form (start_of line) f) → Stands Around r.behind f → f ≡ e
    → EndsAViablePrefix form line e ⊎ EndsInDepth form line e
deep_there form line f e r (Here at) is =
    inl (record { before = r.before; after = r.behind; joined = r.joined; at = sym is ∙ at; begins = begun_around form r.before r.done })
deep_there form line f e r (TooDeep tight u after split wants at) is = inr (record {
  before = r.before;
  word = u;
  after = after;
  joined = r.joined ∙ ap (λ ts. r.before ++ ts) split ∙ sym (append_assoc r.before (u ∷ []) after);
  at = sym is ∙ at;
  wants = wants;
  begins = begun_around form r.before r.done;
})

deep_by : (form : Form Command) (line : List Token) (out : Outcome Command) → Kept Around form (start_of line) out → (e : Fault) → ◌≡◌ {A = Outcome Command} (and_then out ends) (Err e)
    → EndsAViablePrefix form line e ⊎ EndsInDepth form line e
unfolding ends
deep_by form line (Ok p) t e is = inl (ends_refused form line p.0 p.1 (plain t) (sees k.LineEnd p.1) e is)
deep_by form line (Err f) r e is = deep_there form line f e r r.stands (fault_same is)

deep_as : (line : List ℕ) (b : Bool) (e : Fault)
    → ◌≡◌ {A = Outcome Command} (and_then (if b then binding (start_of (tokens line)) else top (start_of (tokens line))) ends) (Err e)
    → EndsAViablePrefix (binding_or_other b 100) (tokens line) e ⊎ EndsInDepth (binding_or_other b 100) (tokens line) e
deep_as line true e is =
    let i = start_of (tokens line) in
    deep_by (binding_line 100) (tokens line) (binding i) ((binding_read Around 100 narrow).sound.run i (line_is_whole line)) e is
deep_as line false e is =
    let i = start_of (tokens line) in
    deep_by (top_line 100) (tokens line) (top i) ((top_read Around 100 narrow).sound.run i (line_is_whole line)) e is

pub refuses_sooner_in_depth_alone : RefusesSoonerInDepthAlone
unfolding line_of outer second_kind
refuses_sooner_in_depth_alone line e is = deep_as line (same_kind (first_of (drop 1 (tokens line))).kind k.Assign) e is
