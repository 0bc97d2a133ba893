-- Whole lines of bytes.
use Rattle.std.proofs.Common.{◌≡◌, ◌≢◌, ℕ, zero, suc, ◌+◌, ◌-◌, Bool, true, false, if◌then◌else◌, List, [], ◌∷◌, ◌++◌, Ok, Err, refl, ap, sym, subst, ◌∙◌, append-nil}
use Rattle.script_types.specs.declared.command.Command.{Command}
use Rattle.script_lex.specs.declared.kind.Kind.{Kind}
use Rattle.script_lex.specs.declared.kind.Kind.TheVariants as k
use Rattle.script_lex.specs.declared.token.Token.{Token}
use Rattle.script_lex.specs.Lex.{same_kind, is_blank, first_token, tokens_from, tokens}
use Rattle.script_tokens.proofs.Alike.{same, alike}
use Rattle.script_tokens.specs.declared.fault.Fault.{Fault}
use Rattle.script_tokens.specs.declared.fault.Fault.TheVariants.{At}
use Rattle.script_tokens.specs.Input.{Input, Outcome, Reader, ◌>>=◌, and_then, head, sees, first_of, no_token, start_of}
use Rattle.script_blocks.specs.Blocks.{table_line}
use Rattle.script_blocks.specs.Classes.{class_line}
use Rattle.script_laws.specs.Readings.Forms.Form.{Form}
use Rattle.script_laws.specs.Readings.Forms.Lines.{Says, Begins}
use Rattle.script_laws.specs.Readings.Forms.TableLines as form
use Rattle.script_laws.specs.Readings.Forms.ClassLines as classes
use Rattle.script_laws.proofs.Readings.Forms.Exact.{EndsAViablePrefix, ReadsWhatIsSaid, ReadsAllThatIsSaid, SaysOneThing, RefusesNoSooner, table_reader, class_reader}
use Rattle.script_read.specs.Line.{ends, line_of}
use Rattle.script_laws.proofs.Readings.Forms.Taking.{Plain, Took, Completed, Refused, Stands, Here, TooDeep, Kept, last_of, Whole, Sound}
use Rattle.script_laws.proofs.Readings.Forms.Filling.{Read, Complete}
use Rattle.script_laws.proofs.Readings.Forms.FillingTables.{table_line_read as tables_filled}
use Rattle.script_laws.proofs.Readings.Forms.FillingClasses.{class_line_read as classes_filled}
use Rattle.script_laws.proofs.Readings.Forms.TableLines.{table_line_read}
use Rattle.script_laws.proofs.Readings.Forms.ClassLines.{class_line_read}
use Rattle.script_laws.proofs.Readings.Forms.Steps.{is_end}

-- ---- outcomes

value_of : Command → Outcome Command → Command
value_of other (Ok p) = p.0
value_of other (Err e) = other

fault_of : Fault → Outcome Command → Fault
fault_of other (Ok p) = other
fault_of other (Err e) = e

is_refused : Outcome Command → Type 0
is_refused (Ok p) = ⊥
is_refused (Err e) = Unit {0}

value_same : {a b : Command} {i j : Input} → ◌≡◌ {A = Outcome Command} (Ok (a, i)) (Ok (b, j)) → a ≡ b
unfolding value_of
value_same {a = a} e = ap (value_of a) e

pub fault_same : {e f : Fault} → ◌≡◌ {A = Outcome Command} (Err e) (Err f) → e ≡ f
unfolding fault_of
fault_same {e = e} is = ap (fault_of e) is

pub refused_yields : {f : Fault} {a : Command} {i : Input} → ◌≡◌ {A = Outcome Command} (Err f) (Ok (a, i)) → ⊥
unfolding is_refused
refused_yields e = subst is_refused e tt

-- ---- the tokens of a line end with its end, or with a byte that begins no token

bad_is_whole : k.Bad ≢ k.Signed
bad_is_whole e = cc

end_is_whole : k.LineEnd ≢ k.Signed
end_is_whole e = cc

-- the last of these, whatever stands before them
EndsWell : List Token → Type 0
EndsWell ts = (t : Token) → (last_of t ts).kind ≢ k.Signed

bad_or_more : (t : Token) (rest : List Token) (bad : Bool) → same_kind t.kind k.Bad ≡ bad → EndsWell rest → EndsWell (if bad then t ∷ [] else t ∷ rest)
unfolding EndsWell
bad_or_more t rest true is well = λ u e. bad_is_whole (sym (same is) ∙ e)
bad_or_more t rest false is well = λ u. well t

by_blank : (b at : ℕ) (z : List ℕ) (blank : Bool) → ((left : ℕ) → EndsWell (tokens_from left (at + 1) z))
    → EndsWell (if blank then tokens_from 0 (at + 1) z
    else (let t = first_token at (b ∷ z) in if same_kind t.0.kind k.Bad then t.0 ∷ [] else t.0 ∷ tokens_from (t.1 - 1) (at + 1) z))
by_blank b at z true rec = rec 0
by_blank b at z false rec =
    let t = first_token at (b ∷ z) in
    bad_or_more t.0 (tokens_from (t.1 - 1) (at + 1) z) (same_kind t.0.kind k.Bad) refl (rec (t.1 - 1))

ends_well : (left at : ℕ) (z : List ℕ) → EndsWell (tokens_from left at z)
unfolding EndsWell
ends_well left at [] = λ t. end_is_whole
ends_well (suc left) at (b ∷ z) = ends_well left (at + 1) z
ends_well zero at (b ∷ z) = by_blank b at z (is_blank b) (λ left. ends_well left (at + 1) z)

pub line_is_whole : (line : List ℕ) → Whole (tokens line)
unfolding EndsWell tokens
line_is_whole line = ends_well 0 0 line no_token

-- ---- what a line says, and where it is refused

pub ends_read : (form : Form Command) (line : List Token) (said : Command) (j : Input) → Took Plain form (start_of line) said j → (b : Bool) → sees k.LineEnd j ≡ b
    → (command : Command) (left : Input) → ◌≡◌ {A = Outcome Command} (if b then Ok (said, j) else Err (At (head j).at)) (Ok (command, left)) → Says form line command
unfolding sees head
ends_read form line said j t true seen command left e =
    let same_command : said ≡ command = value_same e in
    record {
      prefix = t.prefix;
      rest = j.ahead;
      joined = t.joined;
      ends = same seen;
      said = subst (λ c. form t.prefix 0 c) same_command (subst (λ n. form t.prefix n said) t.budget t.said);
    }
ends_read form line said j t false seen command left e = absurd (refused_yields e)

read_by : (form : Form Command) (line : List Token) (out : Outcome Command) → Kept Plain form (start_of line) out → (command : Command) (left : Input)
    → ◌≡◌ {A = Outcome Command} (and_then out ends) (Ok (command, left)) → Says form line command
unfolding ends
read_by form line (Ok p) t command left e = ends_read form line p.0 p.1 t (sees k.LineEnd p.1) refl command left e
read_by form line (Err f) r command left e = absurd (refused_yields e)

pub read_as_said : (p : Reader Command) (form : Form Command) → Sound Plain p form → ReadsWhatIsSaid (p >>= ends) form
read_as_said p form sp line command left e =
    read_by form (tokens line) (p (start_of (tokens line))) (sp.run (start_of (tokens line)) (line_is_whole line)) command left e

pub ends_refused : (form : Form Command) (line : List Token) (said : Command) (j : Input) → Took Plain form (start_of line) said j → (b : Bool)
    → (e : Fault) → ◌≡◌ {A = Outcome Command} (if b then Ok (said, j) else Err (At (head j).at)) (Err e) → EndsAViablePrefix form line e
unfolding head
ends_refused form line said j t true e is = absurd (refused_yields (sym is))
ends_refused form line said j t false e is = record {
  before = t.prefix;
  after = j.ahead;
  joined = t.joined;
  at = sym (fault_same is);
  begins = record {
    more = [];
    command = said;
    said = subst (λ ts. form ts 0 said) (sym (append-nil t.prefix)) (subst (λ n. form t.prefix n said) t.budget t.said);
  };
}

pub begun : (form : Form Command) (before : List Token) → Completed Plain form before 0 → Begins form before
begun form before done = record { more = done.more; command = done.value; said = subst (λ n. form (before ++ done.more) n done.value) done.enough done.said }

-- where as many may nest as are read nothing is refused too deep
refused_there : (form : Form Command) (line : List Token) (f e : Fault) (r : Refused Plain form (start_of line) f) → Stands Plain r.behind f → f ≡ e → EndsAViablePrefix form line e
refused_there form line f e r (Here at) is = record { before = r.before; after = r.behind; joined = r.joined; at = sym is ∙ at; begins = begun form r.before r.done }
refused_there form line f e r (TooDeep tight t after split wants at) is = absurd tight

pub refused_by : (form : Form Command) (line : List Token) (out : Outcome Command) → Kept Plain form (start_of line) out → (e : Fault)
    → ◌≡◌ {A = Outcome Command} (and_then out ends) (Err e) → EndsAViablePrefix form line e
unfolding ends
refused_by form line (Ok p) t e is = ends_refused form line p.0 p.1 t (sees k.LineEnd p.1) e is
refused_by form line (Err f) r e is = refused_there form line f e r r.stands (fault_same is)

pub refused_no_sooner : (p : Reader Command) (form : Form Command) → Sound Plain p form → RefusesNoSooner (p >>= ends) form
refused_no_sooner p form sp line e is = refused_by form (tokens line) (p (start_of (tokens line))) (sp.run (start_of (tokens line)) (line_is_whole line)) e is

-- ---- what is said is read

is_end_by : (kd : Kind) → kd ≡ k.LineEnd → is_end kd ≡ true
is_end_by kd e = ap is_end e

ends_there : (command : Command) (j : Input) → (first_of j.ahead).kind ≡ k.LineEnd → ends command j ≡ Ok (command, j)
unfolding sees head ends
ends_there command j e = ap (λ b. if b then Ok (command, j) else Err (At (first_of j.ahead).at)) (alike e)

pub filled_by : (p : Reader Command) (prefix rest : List Token) (command : Command) → (first_of rest).kind ≡ k.LineEnd → Read Plain p (prefix ++ rest) rest 0 0 command
    → (left : Input) × ((p >>= ends) (start_of (prefix ++ rest)) ≡ Ok (command, left))
filled_by p prefix rest command is read =
    let j : Input = record { ahead = rest; operators = read.left } in
    (j, ap (λ out. and_then out ends) read.is.gives ∙ ends_there command j is)

pub filled : (p : Reader Command) (form : Form Command) → Complete Plain is_end p form → (line : List Token) (command : Command) → Says form line command
    → (left : Input) × ((p >>= ends) (start_of line) ≡ Ok (command, left))
filled p form cp line command said =
    subst (λ ts. (left : Input) × ((p >>= ends) (start_of ts) ≡ Ok (command, left))) (sym said.joined)
    (filled_by p said.prefix said.rest command said.ends (cp.run said.prefix said.rest 0 0 command said.said refl (is_end_by (first_of said.rest).kind said.ends)))

pub all_is_read : (p : Reader Command) (form : Form Command) → Complete Plain is_end p form → ReadsAllThatIsSaid (p >>= ends) form
all_is_read p form cp line command said = filled p form cp line command said

one_value : (out : Outcome Command) (c d : Command) (i j : Input) → ◌≡◌ {A = Outcome Command} out (Ok (c, i)) → ◌≡◌ {A = Outcome Command} out (Ok (d, j)) → c ≡ d
one_value out c d i j e f = value_same (sym e ∙ f)

pub one_thing : (p : Reader Command) (form : Form Command) → Complete Plain is_end p form → SaysOneThing form
one_thing p form cp line c d sc sd =
    let a = filled p form cp line c sc in
    let b = filled p form cp line d sd in
    one_value ((p >>= ends) (start_of line)) c d a.0 b.0 a.1 b.1

pub tables_all_read : ReadsAllThatIsSaid table_reader form.table_line
unfolding line_of
tables_all_read = all_is_read table_line form.table_line tables_filled

pub tables_say_one_thing : SaysOneThing form.table_line
tables_say_one_thing = one_thing table_line form.table_line tables_filled

pub tables_read : ReadsWhatIsSaid table_reader form.table_line
unfolding line_of
tables_read = read_as_said table_line form.table_line table_line_read

pub tables_refused : RefusesNoSooner table_reader form.table_line
unfolding line_of
tables_refused = refused_no_sooner table_line form.table_line table_line_read

pub classes_all_read : ReadsAllThatIsSaid class_reader classes.class_line
unfolding line_of
classes_all_read = all_is_read class_line classes.class_line classes_filled

pub classes_say_one_thing : SaysOneThing classes.class_line
classes_say_one_thing = one_thing class_line classes.class_line classes_filled

pub classes_read : ReadsWhatIsSaid class_reader classes.class_line
unfolding line_of
classes_read = read_as_said class_line classes.class_line class_line_read

pub classes_refused : RefusesNoSooner class_reader classes.class_line
unfolding line_of
classes_refused = refused_no_sooner class_line classes.class_line class_line_read
