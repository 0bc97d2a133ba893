-- Where a line is refused, its tokens up to there are the longest prefix of it with which some line begins.
use Rattle.std.proofs.Common.{◌≡◌, ◌≢◌, ◌⊎◌, ℕ, zero, suc, ◌+◌, ◌-◌, ◌≤◌, Bool, true, false, if◌then◌else◌, List, [], ◌∷◌, ◌++◌, take, drop, length, Ok, Err, refl, ap, sym, subst, ◌∙◌, append_assoc, append-nil, inl, inr, length-append, length-drop, length-take-le, arith}
use Rattle.std.proofs.lemmas.List.{take-append-drop, take-append-le}
use Rattle.std.proofs.Math.Seq.{drop-append_seam, take-append_seam}
use Rattle.script_types.specs.declared.command.Command.{Command}
use Rattle.script_lex.specs.declared.kind.Kind.{Kind}
use Rattle.script_lex.specs.declared.kind.Kind.TheVariants as k
use Rattle.script_lex.specs.declared.token.Token.{Token}
use Rattle.script_lex.specs.Lex.{same_kind, tokens}
use Rattle.script_tokens.specs.declared.fault.Fault.{Fault}
use Rattle.script_tokens.specs.declared.fault.Fault.TheVariants.{Memory, At}
use Rattle.script_tokens.specs.Input.{Input, Outcome, Reader, ◌>>=◌, and_then, first_of, no_token, second_kind, start_of}
use Rattle.script_read.specs.Bindings.{binding}
use Rattle.script_read.specs.Top.{top}
use Rattle.script_read.specs.Line.{ends, line_of, outer}
use Rattle.script_laws.specs.Readings.Forms.Form.{Form}
use Rattle.script_laws.specs.Readings.Forms.Lines.{Says, Begins}
use Rattle.script_laws.specs.Readings.Forms.Bindings.{binding_line}
use Rattle.script_laws.specs.Readings.Forms.TopLines.{top_line}
use Rattle.script_laws.specs.Readings.Forms.TableLines as tables
use Rattle.script_laws.specs.Readings.Forms.ClassLines as classes
use Rattle.script_laws.proofs.Readings.Forms.Exact.{EndsAViablePrefix, ReadsAllThatIsSaid, table_reader, class_reader}
use Rattle.script_laws.proofs.Readings.Forms.Taking.{Plain, Around}
use Rattle.script_laws.proofs.Readings.Forms.Steps.{is_end}
use Rattle.script_laws.proofs.Readings.Forms.Filling.{Escapes, given, Complete}
use Rattle.script_laws.proofs.Readings.Forms.Lines.{all_is_read, filled_by, fault_same, refused_yields, tables_all_read, tables_refused, classes_all_read, classes_refused}
use Rattle.script_laws.specs.Readings.Nesting.{nests}
use Rattle.script_laws.proofs.Readings.Opens.{opens}
use Rattle.script_laws.proofs.Readings.Steady.Settling.{closes, IsClosed}
use Rattle.script_laws.proofs.Readings.Steady.Refusals.{place, IsRefusedForGood, whole_binding, whole_top, whole_table_line, whole_class_line}
use Rattle.script_laws.proofs.Readings.Steady.Settled.{binding_refused, top_refused, table_refused, class_refused}
use Rattle.script_laws.proofs.Readings.Exact.{outer_reader, EndsInDepth}
use Rattle.script_laws.specs.Readings.Language.{EndDeep, GoesOn, binding_or_other, form_for}
use Rattle.script_laws.proofs.Readings.SomeKinds.{false_true}
use Rattle.script_laws.proofs.Readings.FillingTops.{binding_filled, top_filled}
use Rattle.script_laws.proofs.Readings.Lines.{filled, opened, wider_filled, wider_opened, refuses_no_sooner, refuses_sooner_in_depth_alone}
use Rattle.script_laws.proofs.Readings.Closed.{line_is_closed}
use Rattle.script_laws.proofs.Readings.Places.{Rise, line_rises, one_place}

-- a refused token of the line: some line of the narrow form begins with the tokens before it, or with those before a last word and one of the wide form with all; and none of
-- the narrow form begins with these and itself
pub record LongestPrefix (wide narrow : Form Command) (line : List Token) (e : Fault) : Type 0 where
  pub before : List Token
  pub after : List Token
  pub joined : line ≡ before ++ after
  pub stands : 1 ≤ length after
  pub at : e ≡ At (first_of after).at
  pub begins : Begins narrow before ⊎ (EndDeep narrow before × Begins wide before)
  pub stops : Begins narrow (before ++ first_of after ∷ []) → ⊥
  pub stops_deeper : nests (first_of after).kind ≡ true → GoesOn wide before (first_of after) → ⊥

place_of : Fault → ℕ
place_of Memory = 0
place_of (At at) = at

same_place : {a b : ℕ} → At a ≡ At b → a ≡ b
unfolding place_of
same_place e = ap place_of e

-- ---- the tokens before

-- two tokens that have one place are one
one_prefix : (k : ℕ) (line before : List Token) (t : Token) (ts : List Token) → line ≡ before ++ t ∷ ts → Rise 0 line → suc k ≤ length line → place k line ≡ t.at
    → k ≡ length before
one_prefix k line before t ts split rise some is =
    let all : length line ≡ length before + suc (length ts) = ap length split ∙ length-append before (t ∷ ts) in
    let other : suc (length before) ≤ length line = omega arith in
    let there : place (length before) line ≡ t.at = ap (λ us. (first_of us).at) (ap (drop (length before)) split ∙ drop-append_seam before (t ∷ ts)) in
    one_place 0 line k (length before) rise some other (is ∙ sym there)

-- a token stands no later than another one that has its place
no_later : (k : ℕ) (line before after : List Token) → line ≡ before ++ after → Rise 0 line → suc k ≤ length line → place k line ≡ (first_of after).at → k ≤ length before
no_later k line before [] split rise some is =
    let all : length line ≡ length before + 0 = ap length split ∙ length-append before [] in
    omega arith
no_later k line before (t ∷ ts) split rise some is = let same : k ≡ length before = one_prefix k line before t ts split rise some is in omega arith

begins_less : (form : Form Command) (k : ℕ) (line before after : List Token) → line ≡ before ++ after → k ≤ length before → Begins form before → Begins form (take k line)
begins_less form k line before after split less begins =
    let cut : take k before ≡ take k line = sym (take-append-le k before after less) ∙ sym (ap (take k) split) in
    let whole : before ++ begins.more ≡ take k before ++ (drop k before ++ begins.more) =
    sym (ap (λ ts. ts ++ begins.more) (take-append-drop k before)) ∙ append_assoc (take k before) (drop k before) begins.more in
    subst (λ ts. Begins form ts) cut (record {
      more = drop k before ++ begins.more;
      command = begins.command;
      said = subst (λ ts. form ts 0 begins.command) whole begins.said;
    })

-- ---- the depth of expressions

closed_last : (ts : List Token) (t : Token) → IsClosed (ts ++ t ∷ []) → closes t.kind ≡ true
closed_last [] t closed = closed
closed_last (u ∷ []) t closed = closed.1
closed_last (u ∷ v ∷ us) t closed = closed_last (v ∷ us) t closed.1

nesting_goes : (kd : Kind) → nests kd ≡ true → closes kd ≡ false
nesting_goes k.In e = refl
nesting_goes k.Exists e = refl
nesting_goes _ e = absurd (false_true e)

end_deep : (narrow : Form Command) (k : ℕ) (line earlier : List Token) (word : Token) (after : List Token) → line ≡ (earlier ++ word ∷ []) ++ after → Rise 0 line → IsClosed line
    → suc k ≤ length line → place k line ≡ (first_of after).at → nests word.kind ≡ true → Begins narrow earlier → EndDeep narrow (take k line)
end_deep narrow k line earlier word [] split rise closed some is wants begins =
    let last : closes word.kind ≡ true = closed_last earlier word (subst IsClosed (split ∙ append-nil (earlier ++ word ∷ [])) closed) in
    absurd (false_true (sym (nesting_goes word.kind wants) ∙ last))
end_deep narrow k line earlier word (t ∷ ts) split rise closed some is wants begins =
    let prefix = earlier ++ word ∷ [] in
    let same : k ≡ length prefix = one_prefix k line prefix t ts split rise some is in record {
      earlier = earlier;
      word = word;
      joined = ap (λ n. take n line) same ∙ ap (take (length prefix)) split ∙ take-append_seam prefix (t ∷ ts);
      wants = wants;
      begins = begins;
    }

begins_one : (wide narrow : Form Command) (k : ℕ) (line : List Token) (e : Fault) → Rise 0 line → IsClosed line → suc k ≤ length line → e ≡ At (place k line)
    → EndsAViablePrefix wide line e → EndsAViablePrefix narrow line e ⊎ EndsInDepth narrow line e
    → Begins narrow (take k line) ⊎ (EndDeep narrow (take k line) × Begins wide (take k line))
begins_one wide narrow k line e rise closed some at viable (inl v) =
    inl (begins_less narrow k line v.before v.after v.joined (no_later k line v.before v.after v.joined rise some (same_place (sym at ∙ v.at))) v.begins)
begins_one wide narrow k line e rise closed some at viable (inr d) =
    let less = no_later k line viable.before viable.after viable.joined rise some (same_place (sym at ∙ viable.at)) in
    inr (
      end_deep narrow k line d.before d.word d.after d.joined rise closed some (same_place (sym at ∙ d.at)) d.wants d.begins,
      begins_less wide k line viable.before viable.after viable.joined less viable.begins,
    )

-- ---- the refused token itself

alike_prefix : (k : ℕ) (line more z : List Token) → suc k ≤ length line → take (suc k) line ≡ take (suc k) (((take k line ++ first_of (drop k line) ∷ []) ++ more) ++ z)
alike_prefix k [] more z some = absurd (omega arith)
alike_prefix zero (t ∷ ts) more z some = refl
alike_prefix (suc k) (t ∷ ts) more z some = let less : suc k ≤ length ts = omega arith in ap (λ us. t ∷ us) (alike_prefix k ts more z less)

not_both : (out : Outcome Command) (e : Fault) → out ≡ Err e → (left : Input) (command : Command) → out ≡ Ok (command, left) → ⊥
not_both out e is left command read = refused_yields (sym is ∙ read)

stops_at : (p : Reader Command) (form : Form Command) (k : ℕ) (line : List Token) → ReadsAllThatIsSaid p form → suc k ≤ length line
    → ((other : List Token) → take (suc k) line ≡ take (suc k) other → p (start_of other) ≡ Err (At (place k other)))
    → Begins form (take k line ++ first_of (drop k line) ∷ []) → ⊥
stops_at p form k line reads some again begins =
    let said = (take k line ++ first_of (drop k line) ∷ []) ++ begins.more in
    let other = said ++ no_token ∷ [] in
    let says : Says form other begins.command = record { prefix = said; rest = no_token ∷ []; joined = refl; ends = refl; said = begins.said } in
    let read = reads other begins.command says in
    not_both (p (start_of other)) (At (place k other)) (again other (alike_prefix k line begins.more (no_token ∷ []) some)) read.0 begins.command read.1

-- ---- the refused token itself, where one more may nest

-- where a token stands in a list that is cut at another
data Whereabouts (front : List Token) (t : Token) (back : List Token) (u : Token) : Type 0 where
  Sooner : (before after : List Token) → front ≡ before ++ u ∷ after → Whereabouts front t back u
  There : u ≡ t → Whereabouts front t back u
  Later : (before after : List Token) → back ≡ before ++ u ∷ after → Whereabouts front t back u

one_behind : (a t u : Token) (front back : List Token) → Whereabouts front t back u → Whereabouts (a ∷ front) t back u
one_behind a t u front back (Sooner before after is) = Sooner (a ∷ before) after (ap (λ ts. a ∷ ts) is)
one_behind a t u front back (There is) = There is
one_behind a t u front back (Later before after is) = Later before after is

whereabouts : (front : List Token) (t : Token) (back before : List Token) (u : Token) (after : List Token) → front ++ t ∷ back ≡ before ++ u ∷ after
    → Whereabouts front t back u
whereabouts [] t back [] u after is = There (sym (ap first_of is))
whereabouts [] t back (b ∷ before) u after is = Later before after (ap (drop 1) is)
whereabouts (a ∷ front) t back [] u after is = Sooner [] front (ap (λ c. c ∷ front) (ap first_of is))
whereabouts (a ∷ front) t back (b ∷ before) u after is = one_behind a t u front back (whereabouts front t back before u after (ap (drop 1) is))

nests_no_opening : (kd : Kind) → nests kd ≡ true → opens kd ≡ 1 → ⊥
nests_no_opening k.In e one = absurd (omega (arith, one))
nests_no_opening k.Exists e one = absurd (omega (arith, one))
nests_no_opening _ e one = absurd (false_true e)

end_no_opening : opens no_token.kind ≡ 1 → ⊥
end_no_opening one = omega (arith, one)

no_last : (before after : List Token) (u : Token) → [] ≡ before ++ u ∷ after → ⊥
no_last before after u is = let long : 0 ≡ length before + suc (length after) = ap length is ∙ length-append before (u ∷ after) in omega (arith, long)

-- a token behind which an expression nests has another place than this one
apart_by : (k : ℕ) (line : List Token) (more : List Token) (u : Token) → Rise 0 line → suc k ≤ length line → nests (first_of (drop k line)).kind ≡ true
    → ((before after : List Token) (v : Token) → more ≡ before ++ v ∷ after → v.at ≢ (first_of (drop k line)).at) → opens u.kind ≡ 1 → u.at ≡ place k line
    → Whereabouts (take k line) (first_of (drop k line)) (more ++ no_token ∷ []) u → ⊥
apart_by k line more u rise some wants apart one is (Sooner before after split) =
    let whole : line ≡ before ++ u ∷ (after ++ drop k line) =
    sym (take-append-drop k line) ∙ ap (λ ts. ts ++ drop k line) split ∙ append_assoc before (u ∷ after) (drop k line) in
    let same : k ≡ length before = one_prefix k line before u (after ++ drop k line) whole rise some (sym is) in
    let below : k ≤ length line = omega arith in
    let long : length (take k line) ≡ k = length-take-le k line below in
    let parts : length (take k line) ≡ length before + suc (length after) = ap length split ∙ length-append before (u ∷ after) in
    omega (arith, same, long, parts)
apart_by k line more u rise some wants apart one is (There same) =
    nests_no_opening (first_of (drop k line)).kind wants (ap (λ t. opens t.kind) (sym same) ∙ one)
apart_by k line more u rise some wants apart one is (Later before after split) = later_by (whereabouts more no_token [] before u after split)
  where
    later_by : Whereabouts more no_token [] u → ⊥
    later_by (Sooner b a s) = apart b a u s is
    later_by (There s) = end_no_opening (ap (λ t. opens t.kind) (sym s) ∙ one)
    later_by (Later b a s) = no_last b a u s

module _ (p : Reader Command) (wide : Form Command) (cp : Complete Around is_end p wide) (k : ℕ) (line : List Token) (rise : Rise 0 line) (some : suc k ≤ length line)
    (again : (other : List Token) → take (suc k) line ≡ take (suc k) other → (p >>= ends) (start_of other) ≡ Err (At (place k other)))
    (wants : nests (first_of (drop k line)).kind ≡ true) (on : GoesOn wide (take k line) (first_of (drop k line))) where
  abbrev said_tokens : List Token
  said_tokens = (take k line ++ first_of (drop k line) ∷ []) ++ on.more

  abbrev ended : List Token
  ended = said_tokens ++ no_token ∷ []

  told : (p >>= ends) (start_of ended) ≡ Err (At (place k ended))
  told = again ended (alike_prefix k line on.more (no_token ∷ []) some)

  split : ended ≡ take k line ++ first_of (drop k line) ∷ (on.more ++ no_token ∷ [])
  split =
      append_assoc (take k line ++ first_of (drop k line) ∷ []) on.more (no_token ∷ []) ∙ append_assoc (take k line) (first_of (drop k line) ∷ []) (on.more ++ no_token ∷ [])

  placed : place k ended ≡ place k line
  placed =
      let below : k ≤ length line = omega arith in
      let long : length (take k line) ≡ k = length-take-le k line below in
      ap (λ ts. (first_of (drop k ts)).at) split
      ∙ ap (λ n. (first_of (drop n (take k line ++ first_of (drop k line) ∷ (on.more ++ no_token ∷ [])))).at) (sym long)
      ∙ ap (λ ts. (first_of ts).at) (drop-append_seam (take k line) (first_of (drop k line) ∷ (on.more ++ no_token ∷ [])))

  by_outcome : (left : ℕ) → (p (start_of ended) ≡ Ok (on.command, record { ahead = no_token ∷ []; operators = left })) ⊎ Escapes ended (p (start_of ended)) → ⊥
  by_outcome left (inl ok) =
      let read = filled_by p said_tokens (no_token ∷ []) on.command refl (record { left = left; budget = refl; is = given ok }) in
      not_both ((p >>= ends) (start_of ended)) (At (place k ended)) told read.0 on.command read.1
  by_outcome left (inr s) =
      let same : At (place k ended) ≡ At s.token.at = fault_same (sym told ∙ ap (λ out. and_then out ends) s.is) in
      apart_by k line on.more s.token rise some wants on.apart s.nests (sym (same_place same) ∙ placed)
      (whereabouts (take k line) (first_of (drop k line)) (on.more ++ no_token ∷ []) s.before s.token s.after (sym split ∙ s.joined))

  stops_deep : ⊥
  stops_deep = let read = cp.run said_tokens (no_token ∷ []) 0 0 on.command on.said refl refl in by_outcome read.left read.is.gives

-- ---- both

-- no line of the wide form goes on with a refused word behind which an expression nests
abbrev StopsDeep : Reader Command → Form Command → Type 0
StopsDeep p wide =
    (k : ℕ) (line : List Token) → Rise 0 line → suc k ≤ length line → ((other : List Token) → take (suc k) line ≡ take (suc k) other → p (start_of other) ≡ Err (At (place k other)))
    → nests (first_of (drop k line)).kind ≡ true → GoesOn wide (take k line) (first_of (drop k line)) → ⊥

longest : (p : Reader Command) (wide narrow : Form Command) → IsRefusedForGood p → ReadsAllThatIsSaid p narrow → StopsDeep p wide → (bytes : List ℕ) (e : Fault)
    → p (start_of (tokens bytes)) ≡ Err e → EndsAViablePrefix wide (tokens bytes) e → EndsAViablePrefix narrow (tokens bytes) e ⊎ EndsInDepth narrow (tokens bytes) e
    → LongestPrefix wide narrow (tokens bytes) e
longest p wide narrow refused reads stop bytes e is viable deep =
    let line = tokens bytes in
    let for_good = refused line e is in
    let k = for_good.0 in
    let closed : IsClosed line = line_is_closed bytes in
    let some : suc k ≤ length line = for_good.1.0 closed in
    let left : length (drop k line) ≡ length line - k = length-drop k line in
    let stands : 1 ≤ length (drop k line) = omega arith in record {
      before = take k line;
      after = drop k line;
      joined = sym (take-append-drop k line);
      stands = stands;
      at = for_good.1.1.0;
      begins = begins_one wide narrow k line e (line_rises bytes) closed some for_good.1.1.0 viable deep;
      stops = stops_at p narrow k line reads some for_good.1.1.1;
      stops_deeper = stop k line (line_rises bytes) some for_good.1.1.1;
    }

-- ---- the lines of each place

bindings_all_read : ReadsAllThatIsSaid whole_binding (binding_line 100)
bindings_all_read = all_is_read binding (binding_line 100) (binding_filled Plain 100 filled opened)

others_all_read : ReadsAllThatIsSaid whole_top (top_line 100)
others_all_read = all_is_read top (top_line 100) (top_filled Plain 100 filled opened)

binding_stops : StopsDeep whole_binding (binding_line 101)
binding_stops = stops_deep binding (binding_line 101) (binding_filled Around 101 wider_filled wider_opened)

top_stops : StopsDeep whole_top (top_line 101)
top_stops = stops_deep top (top_line 101) (top_filled Around 101 wider_filled wider_opened)

-- where no expressions stand
flat_stops : (p : Reader Command) (form : Form Command) → ReadsAllThatIsSaid p form → StopsDeep p form
flat_stops p form reads k line rise some again wants on = stops_at p form k line reads some again (record { more = on.more; command = on.command; said = on.said })

outer_by : (bytes : List ℕ) (b : Bool) (e : Fault)
    → ◌≡◌ {A = Outcome Command} (and_then (if b then binding (start_of (tokens bytes)) else top (start_of (tokens bytes))) ends) (Err e)
    → EndsAViablePrefix (binding_or_other b 101) (tokens bytes) e → EndsAViablePrefix (binding_or_other b 100) (tokens bytes) e ⊎ EndsInDepth (binding_or_other b 100) (tokens bytes) e
    → LongestPrefix (binding_or_other b 101) (binding_or_other b 100) (tokens bytes) e
outer_by bytes true e is viable deep = longest whole_binding (binding_line 101) (binding_line 100) binding_refused bindings_all_read binding_stops bytes e is viable deep
outer_by bytes false e is viable deep = longest whole_top (top_line 101) (top_line 100) top_refused others_all_read top_stops bytes e is viable deep

pub outer_prefix : (bytes : List ℕ) (e : Fault) → outer_reader (start_of (tokens bytes)) ≡ Err e
    → LongestPrefix (form_for 101 (tokens bytes)) (form_for 100 (tokens bytes)) (tokens bytes) e
unfolding line_of outer second_kind
outer_prefix bytes e is = outer_by bytes (same_kind (first_of (drop 1 (tokens bytes))).kind k.Assign) e is (refuses_no_sooner bytes e is) (refuses_sooner_in_depth_alone bytes e is)

pub table_prefix : (bytes : List ℕ) (e : Fault) → table_reader (start_of (tokens bytes)) ≡ Err e → LongestPrefix tables.table_line tables.table_line (tokens bytes) e
unfolding line_of
table_prefix bytes e is = longest whole_table_line tables.table_line tables.table_line table_refused tables_all_read (flat_stops whole_table_line tables.table_line tables_all_read) bytes e is (tables_refused bytes e is) (inl (tables_refused bytes e is))

pub class_prefix : (bytes : List ℕ) (e : Fault) → class_reader (start_of (tokens bytes)) ≡ Err e → LongestPrefix classes.class_line classes.class_line (tokens bytes) e
unfolding line_of
class_prefix bytes e is = longest whole_class_line classes.class_line classes.class_line class_refused classes_all_read (flat_stops whole_class_line classes.class_line classes_all_read) bytes e is (classes_refused bytes e is) (inl (classes_refused bytes e is))
