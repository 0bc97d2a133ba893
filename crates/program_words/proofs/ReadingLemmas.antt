-- The command takes words exactly where they are options, and finds those.
use Rattle.std.proofs.Common.{◌≡◌, ◌∙◌, ◌||◌, ◌⊎◌, ℕ, nat_eq, Bool, codes, true, false, refl, sym, ap, subst, List, [], ◌∷◌, ◌++◌, map, Option, Some, None, inl, inr, if◌then◌else◌, is_some, append-nil}
use Rattle.std.specs.Prelude.{fold, option_map, slice_get}
use Rattle.std.specs.List.{AllByRecursion}
use Rattle.std.specs.Str.{IsUtf8, bytes_eq, chars, encode_utf8_all}
use Rattle.std.specs.Char.{encode_utf8}
use Rattle.std.proofs.lemmas.Bool.Decides.{Decides-eqb}
use Rattle.std.proofs.lemmas.Str.{chars_from_encodes}
use Rattle.std.proofs.lemmas.Slice.Eq.{bytes_eq-Decides}
use Rattle.std.proofs.lemmas.List.{map-append}
use Rattle.clap.specs.Lexer.{long_of, name_and_value, short_of}
use Rattle.clap.specs.Walk.{Held, Row, Rule, Waiting, Walk, arg_by_id, arg_by_long, at_row, idle, more_values, option, first_of, has_row, nothing_held, positional, reading_by, settled, settled_rows, subcommand_met, takes_values, used, walk, walk_from, walked, with_default, without}
use Rattle.clap.specs.Simple.{Shape, built, entered, filled}
use Rattle.clap.specs.Kinds.{Kinds, or_else}
use Rattle.clap.specs.Faults.{bundle_fault, default_fault, defaults_fault, entered_fault, fault_of, flags_fault, level_fault, long_fault, settle_fault, turn_fault, use_fault, walk_fault}
use Rattle.clap.specs.Words.{matches_of}
use Rattle.clap.specs.declared.parser.matches.ValueSource.TheVariants.{CommandLine, DefaultValue}
use Rattle.clap.proofs.WalkLemmas.{list_any-map}
use Rattle.program_words.specs.WordsCommand.{flag, option_with_value, words_command}
use Rattle.program_words.specs.Reading.{Place, AnOption, AValue, TheEnd, Text, Given, is_given, is_value, takes_value, words_read}
use Rattle.program_words.specs.Asked.{Values, is_on, value_given, values_asked, values_by}

-- ---- the command

abbrev shape : Shape
shape = (built words_command).top

abbrev value_rule : Text → Rule
value_rule name = filled (option_with_value name)

abbrev echo_rule : Rule
echo_rule = filled (flag (codes "echo"))

abbrev rules : List Rule
rules = value_rule (codes "dialect") ∷ echo_rule ∷ value_rule (codes "store") ∷ []

-- there is no kind of fault
abbrev pub is_nothing : Kinds → Bool
is_nothing [] = true
is_nothing (kind ∷ others) = false

-- what the command finds in the words, where it takes them
abbrev pub values_of_command : List Text → Option Values
values_of_command words = if is_nothing (fault_of words_command words) then Some (values_by (λ name. first_of name (matches_of words_command words))) else None

-- ---- what the command makes of the words from here on

abbrev at_end : Held → Option (List Row)
at_end h = if is_nothing (settle_fault rules false h) then Some (settled rules h).rows else None

abbrev command_read : Walk → List Text → Option (List Row)
command_read w [] = at_end w.held
command_read w (word ∷ rest) = if is_nothing (turn_fault shape [] w word) then command_read (walked rules [] w word) rest else None

abbrev by_faults : Walk → List Text → Option (List Row)
by_faults w words =
    let end = (fold (walked rules []) w words).held in
    if is_nothing (or_else (walk_fault shape [] w words) (settle_fault rules false end)) then Some (settled rules end).rows else None

read_on : (ks : Kinds) (w : Walk) (word : Text) (rest : List Text) → turn_fault shape [] w word ≡ ks → by_faults (walked rules [] w word) rest ≡ command_read (walked rules [] w word) rest
    → by_faults w (word ∷ rest) ≡ command_read w (word ∷ rest)
unfolding walk_fault
read_on [] w word rest e more = rw e more
read_on (k ∷ ks) w word rest e more = rw e refl

read_is : (words : List Text) (w : Walk) → by_faults w words ≡ command_read w words
unfolding walk_fault
read_is [] w = refl
read_is (word ∷ rest) w = read_on (turn_fault shape [] w word) w word rest refl (read_is rest (walked rules [] w word))

-- ---- rows

abbrev row_of : Given → Row
row_of given = record {
  id = given.0;
  values = given.1 ∷ [];
  count = None;
  source = Some CommandLine;
  reading = if bytes_eq given.0 (codes "echo") then reading_by echo_rule else reading_by (value_rule given.0);
}

neither_first : (a b : Bool) → (a || b) ≡ false → a ≡ false
neither_first true b e = cc
neither_first false b e = refl

neither_second : (a b : Bool) → (a || b) ≡ false → b ≡ false
neither_second true b e = cc
neither_second false b e = e

no_row : (id : Text) (change : Row → List Row) (missing rows : List Row) → has_row id rows ≡ false → at_row id change missing rows ≡ rows ++ missing
no_row id change missing [] e = refl
no_row id change missing (r ∷ rs) e =
    let first : bytes_eq r.id id ≡ false = neither_first (bytes_eq r.id id) (has_row id rs) e in
    let others : has_row id rs ≡ false = neither_second (bytes_eq r.id id) (has_row id rs) e in
    rw first (ap (λ more. r ∷ more) (no_row id change missing rs others))

without_none : (id : Text) (rows : List Row) → has_row id rows ≡ false → without id rows ≡ rows
without_none id rows e = no_row id (λ _. []) [] rows e ∙ append-nil rows

given_rows : (name : Text) (gs : List Given) → is_given name gs ≡ has_row name (map row_of gs)
given_rows name gs = list_any-map (λ r. bytes_eq r.id name) row_of gs

-- ---- what a word looks like

pub data Looks (word : Text) : Type 0 where
  IsDashes : bytes_eq word (codes "--") ≡ true → is_value word ≡ false → Looks word
  IsLong : (o : Text × Option Text) → bytes_eq word (codes "--") ≡ false → long_of word ≡ Some o → is_value word ≡ false → Looks word
  IsShort : (x : ℕ) (xs : Text) → word ≡ 45 ∷ x ∷ xs → bytes_eq word (codes "--") ≡ false → long_of word ≡ None → short_of word ≡ Some (x ∷ xs) → is_value word ≡ false → Looks word
  IsPlain : bytes_eq word (codes "--") ≡ false → long_of word ≡ None → short_of word ≡ None → is_value word ≡ true → Looks word

one_byte : (x : ℕ) (b : Bool) → nat_eq x 45 ≡ b → Looks (x ∷ [])
one_byte x true e = IsPlain (rw e refl) (rw e refl) (rw e refl) refl
one_byte x false e = IsPlain (rw e refl) (rw e refl) (rw e refl) refl

two_dashes : (x y : ℕ) (rest : Text) → nat_eq x 45 ≡ true → nat_eq y 45 ≡ true → Looks (x ∷ y ∷ rest)
two_dashes x y [] e f = IsDashes (rw (e, f) refl) (rw e refl)
two_dashes x y (z ∷ zs) e f = IsLong (name_and_value (z ∷ zs)) (rw (e, f) refl) (rw (e, f) refl) (rw e refl)

one_dash : (x y : ℕ) (rest : Text) (b : Bool) → nat_eq x 45 ≡ true → nat_eq y 45 ≡ b → Looks (x ∷ y ∷ rest)
one_dash x y rest true e f = two_dashes x y rest e f
one_dash x y rest false e f =
    let is : x ≡ 45 = (Decides-eqb x 45).0 e in
    IsShort y rest (ap (λ z. z ∷ y ∷ rest) is) (rw (e, f) refl) (rw (e, f) refl) (rw (e, f) refl) (rw e refl)

two_bytes : (x y : ℕ) (rest : Text) (b : Bool) → nat_eq x 45 ≡ b → Looks (x ∷ y ∷ rest)
two_bytes x y rest true e = one_dash x y rest (nat_eq y 45) e refl
two_bytes x y rest false e = IsPlain (rw e refl) (rw e refl) (rw e refl) (rw e refl)

looks : (word : Text) → Looks word
looks [] = IsPlain refl refl refl refl
looks (x ∷ []) = one_byte x (nat_eq x 45) refl
looks (x ∷ y ∷ rest) = two_bytes x y rest (nat_eq x 45) refl

-- ---- words that are refused

or_nothing : (a : Kinds) → or_else a [] ≡ a
or_nothing [] = refl
or_nothing (k ∷ ks) = refl

or_stuck : (a b : Kinds) → is_nothing a ≡ false → is_nothing (or_else a b) ≡ false
or_stuck [] b e = cc
or_stuck (k ∷ ks) b e = refl

abbrev IsStuck : Held → Type 0
IsStuck h = is_nothing (settle_fault rules false h) ≡ false

abbrev held : List Row → Option (Text × List Text) → Held
held rows pending = record { rows = rows; pending = pending; skip = 0 }

abbrev walk_at : Held → Waiting → ℕ → Bool → Walk
walk_at h waiting p trailing = record { held = h; waiting = waiting; position = p; is_trailing = trailing; stopped = None }

refused_word : (w : Walk) (word : Text) (rest : List Text) → is_nothing (turn_fault shape [] w word) ≡ false → command_read w (word ∷ rest) ≡ None
refused_word w word rest e = rw e refl

-- after `--` nothing may follow
stuck_trailing : (words : List Text) (h : Held) (waiting : Waiting) (p : ℕ) → IsStuck h → command_read (walk_at h waiting p true) words ≡ None
stuck_trailing [] h waiting p e = rw e refl
stuck_trailing (word ∷ rest) h waiting p e = refl

-- an option behind one that lacks its value
stuck_by : (b : Bool) (a : Rule) (v : Option Text) (h : Held) → takes_values a ≡ b → IsStuck h → is_nothing (long_fault rules false (Some a) v h) ≡ false
stuck_by true a (Some x) h t e = rw t (or_stuck (settle_fault rules false h) _ e)
stuck_by true a None h t e = rw t e
stuck_by false a (Some x) h t e = rw t refl
stuck_by false a None h t e = rw t (or_stuck (settle_fault rules false h) _ e)

stuck_option : (found : Option Rule) (v : Option Text) (h : Held) → IsStuck h → is_nothing (long_fault rules false found v h) ≡ false
stuck_option None v h e = refl
stuck_option (Some a) v h e = stuck_by (takes_values a) a v h refl e

no_subcommand : (waiting : Waiting) (word : Text) → subcommand_met [] waiting word ≡ None
no_subcommand idle word = refl
no_subcommand (option id) word = refl
no_subcommand positional word = refl

long_refused : (waiting : Waiting) (word : Text) (o : Text × Option Text) (h : Held) (p : ℕ) → bytes_eq word (codes "--") ≡ false → long_of word ≡ Some o
    → is_nothing (long_fault rules false (arg_by_long rules o.0) o.1 h) ≡ false → is_nothing (turn_fault shape [] (walk_at h waiting p false) word) ≡ false
long_refused waiting word o h p d l e = rw (no_subcommand waiting word, d, l) (or_stuck (long_fault rules false (arg_by_long rules o.0) o.1 h) _ e)

-- a word of UTF-8 that begins with a hyphen has a character behind it
first_char_by : (x : ℕ) (xs cs : List ℕ) → IsUtf8 (45 ∷ x ∷ xs) → chars (x ∷ xs) ≡ cs → (ch : ℕ) × (slice_get (chars (x ∷ xs)) 0 ≡ Some ch)
unfolding chars encode_utf8
first_char_by x xs [] utf8 e =
    let all : utf8.0 ≡ 45 ∷ chars (x ∷ xs) = chars_from_encodes utf8.0 (45 ∷ x ∷ xs) utf8 utf8.1.1 in
    let bytes : encode_utf8_all (45 ∷ []) ≡ 45 ∷ x ∷ xs = ap encode_utf8_all (sym (all ∙ ap (λ ds. 45 ∷ ds) e)) ∙ utf8.1.1 in
    absurd (cc)
first_char_by x xs (ch ∷ more) utf8 e = (ch, rw e refl)

first_char : (x : ℕ) (xs : List ℕ) → IsUtf8 (45 ∷ x ∷ xs) → (ch : ℕ) × (slice_get (chars (x ∷ xs)) 0 ≡ Some ch)
first_char x xs utf8 = first_char_by x xs (chars (x ∷ xs)) utf8 refl

short_fault_comes : (x : ℕ) (xs : Text) (ch : ℕ) (rows : List Row) (pending : Option (Text × List Text)) → slice_get (chars (x ∷ xs)) 0 ≡ Some ch
    → is_nothing (bundle_fault rules false (x ∷ xs) (held rows pending)) ≡ false
unfolding flags_fault
short_fault_comes x xs ch rows pending first = rw first refl

short_refused : (waiting : Waiting) (word : Text) (x : ℕ) (xs : Text) (rows : List Row) (pending : Option (Text × List Text)) (p : ℕ) → word ≡ 45 ∷ x ∷ xs → bytes_eq word (codes "--") ≡ false → long_of word ≡ None → short_of word ≡ Some (x ∷ xs)
    → IsUtf8 word → is_nothing (turn_fault shape [] (walk_at (held rows pending) waiting p false) word) ≡ false
short_refused waiting word x xs rows pending p is d l s utf8 =
    let first = first_char x xs (subst IsUtf8 is utf8) in
    rw (no_subcommand waiting word, d, l, s) (or_stuck (bundle_fault rules false (x ∷ xs) (held rows pending)) _ (short_fault_comes x xs first.0 rows pending first.1))

-- where an option that was given twice waits to be refused, no words save it
stuck_idle : (words : List Text) (rows : List Row) (pending : Option (Text × List Text)) (p : ℕ) → AllByRecursion IsUtf8 words → IsStuck (held rows pending) → command_read (walk_at (held rows pending) idle p false) words ≡ None
unfolding walked
stuck_idle [] rows pending p utf8 e = rw e refl
stuck_idle (word ∷ rest) rows pending p utf8 e = by (looks word)
  where
    by : Looks word → command_read (walk_at (held rows pending) idle p false) (word ∷ rest) ≡ None
    by (IsDashes d w) = rw d (stuck_trailing rest (held rows pending) idle p e)
    by (IsLong o d l v) = refused_word (walk_at (held rows pending) idle p false) word rest (long_refused idle word o (held rows pending) p d l (stuck_option (arg_by_long rules o.0) o.1 (held rows pending) e))
    by (IsShort x xs is d l s v) = refused_word (walk_at (held rows pending) idle p false) word rest (short_refused idle word x xs rows pending p is d l s utf8.0)
    by (IsPlain d l s v) = rw (d, l, s) refl

-- ---- the value of an option

-- one of the two options with a value
abbrev IsValued : Text → Type 0
IsValued name = (name ≡ codes "dialect") ⊎ (name ≡ codes "store")

by_name : (P : Text → Type 0) → P (codes "dialect") → P (codes "store") → (name : Text) → IsValued name → P name
by_name P dialect store name (inl is) = subst P (sym is) dialect
by_name P dialect store name (inr is) = subst P (sym is) store

rule_by_long : (name : Text) → IsValued name → arg_by_long rules name ≡ Some (value_rule name)
rule_by_long = by_name (λ name. arg_by_long rules name ≡ Some (value_rule name)) refl refl

rule_by_id : (name : Text) → IsValued name → arg_by_id rules name ≡ Some (value_rule name)
rule_by_id = by_name (λ name. arg_by_id rules name ≡ Some (value_rule name)) refl refl

value_taken : (name : Text) → IsValued name → takes_value name ≡ true
value_taken = by_name (λ name. takes_value name ≡ true) refl refl

no_echo : (name : Text) → IsValued name → bytes_eq name (codes "echo") ≡ false
no_echo = by_name (λ name. bytes_eq name (codes "echo") ≡ false) refl refl

same_name : (name : Text) → bytes_eq name name ≡ true
same_name name = (bytes_eq-Decides name name).1 refl

missing_value : (name : Text) (rows : List Row) → IsValued name → IsStuck (held rows (Some (name, [])))
missing_value name rows v = rw (rule_by_id name v) refl

-- a use of the option with a value
value_used : (name value : Text) (rows : List Row) → IsValued name → has_row name rows ≡ false → used (value_rule name) (value ∷ []) rows ≡ rows ++ row_of (name, value) ∷ []
value_used name value rows v e =
    rw (no_echo name v) (ap (λ (rs : List Row). at_row name (more_values CommandLine (value ∷ [])) (row_of_value name value ∷ []) rs) (without_none name rows e)
    ∙ no_row name (more_values CommandLine (value ∷ [])) (row_of_value name value ∷ []) rows e)
  where
    row_of_value : Text → Text → Row
    row_of_value name value = record { id = name; values = value ∷ []; count = None; source = Some CommandLine; reading = reading_by (value_rule name) }

use_taken : (name value : Text) (rows : List Row) → has_row name rows ≡ false → use_fault false (value_rule name) (value ∷ []) rows ≡ []
use_taken name value rows e = rw e refl

use_repeated : (name value : Text) (rows : List Row) → has_row name rows ≡ true → is_nothing (use_fault false (value_rule name) (value ∷ []) rows) ≡ false
use_repeated name value rows e = rw e refl

value_settled : (name value : Text) (rows : List Row) → IsValued name → has_row name rows ≡ false → settle_fault rules false (held rows (Some (name, value ∷ []))) ≡ []
value_settled name value rows v e = rw (rule_by_id name v) (use_taken name value rows e)

value_repeated : (name value : Text) (rows : List Row) → IsValued name → has_row name rows ≡ true → IsStuck (held rows (Some (name, value ∷ [])))
value_repeated name value rows v e = rw (rule_by_id name v) (use_repeated name value rows e)

value_rows : (name value : Text) (rows : List Row) → IsValued name → has_row name rows ≡ false → settled_rows rules (Some (name, value ∷ [])) rows ≡ rows ++ row_of (name, value) ∷ []
value_rows name value rows v e = rw (rule_by_id name v) (value_used name value rows v e)

-- the word is the option's value
value_read : (name word : Text) (rest : List Text) (rows : List Row) (p : ℕ) → IsValued name → bytes_eq word (codes "--") ≡ false → long_of word ≡ None → short_of word ≡ None
    → command_read (walk_at (held rows (Some (name, []))) (option name) p false) (word ∷ rest) ≡ command_read (walk_at (held rows (Some (name, word ∷ []))) idle p false) rest
unfolding walked
value_read name word rest rows p v d l s = rw (d, l, s, rule_by_id name v, same_name name) refl

-- another word behind the option is refused
no_value : (name word : Text) (rest : List Text) (rows : List Row) (p : ℕ) → IsValued name → IsUtf8 word → is_value word ≡ false
    → command_read (walk_at (held rows (Some (name, []))) (option name) p false) (word ∷ rest) ≡ None
unfolding walked
no_value name word rest rows p v utf8 not_value = by (looks word)
  where
    stuck : IsStuck (held rows (Some (name, [])))
    stuck = missing_value name rows v

    by : Looks word → command_read (walk_at (held rows (Some (name, []))) (option name) p false) (word ∷ rest) ≡ None
    by (IsDashes d w) = rw d (stuck_trailing rest (held rows (Some (name, []))) (option name) p stuck)
    by (IsLong o d l w) = refused_word (walk_at (held rows (Some (name, []))) (option name) p false) word rest
        (long_refused (option name) word o (held rows (Some (name, []))) p d l (stuck_option (arg_by_long rules o.0) o.1 (held rows (Some (name, []))) stuck))
    by (IsShort x xs is d l s w) = refused_word (walk_at (held rows (Some (name, []))) (option name) p false) word rest
        (short_refused (option name) word x xs rows (Some (name, [])) p is d l s utf8)
    by (IsPlain d l s w) = cc

-- an option that was given before is refused, at the latest behind its value
repeated_option : (words : List Text) (name : Text) (rows : List Row) (p : ℕ) → AllByRecursion IsUtf8 words → IsValued name → has_row name rows ≡ true
    → command_read (walk_at (held rows (Some (name, []))) (option name) p false) words ≡ None
repeated_option [] name rows p utf8 v e = let stuck : IsStuck (held rows (Some (name, []))) = missing_value name rows v in rw stuck refl
repeated_option (word ∷ rest) name rows p utf8 v e = by (is_value word) refl (looks word)
  where
    by : (b : Bool) → is_value word ≡ b → Looks word → command_read (walk_at (held rows (Some (name, []))) (option name) p false) (word ∷ rest) ≡ None
    by false other l = no_value name word rest rows p v utf8.0 other
    by true fine (IsPlain d l s w) = value_read name word rest rows p v d l s ∙ stuck_idle rest rows (Some (name, word ∷ [])) p utf8.1 (value_repeated name word rows v e)
    by true fine (IsDashes d w) = cc
    by true fine (IsLong o d l w) = cc
    by true fine (IsShort x xs is d l s w) = cc

-- ---- the two readings side by side

abbrev waiting_at : Place → Waiting
waiting_at (AValue name) = option name
waiting_at place = idle

abbrev is_at_end : Place → Bool
is_at_end TheEnd = true
is_at_end place = false

-- the command holds the options that were given, the last of them perhaps as one that is to be settled
pub record IsSettled (gs : List Given) (rows : List Row) (pending : Option (Text × List Text)) : Type 0 where
  pub passes : settle_fault rules false (held rows pending) ≡ []
  pub holds : settled_rows rules pending rows ≡ map row_of gs

-- an option waits for its value that was not given before
pub record IsBegun (name : Text) (gs : List Given) (rows : List Row) (pending : Option (Text × List Text)) : Type 0 where
  pub valued : IsValued name
  pub waits : pending ≡ Some (name, [])
  pub holds : rows ≡ map row_of gs
  pub free : is_given name gs ≡ false

abbrev Holds : Place → List Given → List Row → Option (Text × List Text) → Type 0
Holds (AValue name) gs rows pending = IsBegun name gs rows pending
Holds place gs rows pending = IsSettled gs rows pending

abbrev reads : Place → List Row → Option (Text × List Text) → ℕ → List Text → Option (List Row)
reads place rows pending p words = command_read (walk_at (held rows pending) (waiting_at place) p (is_at_end place)) words

abbrev given_rows_of : Place → List Given → List Text → Option (List Row)
given_rows_of place gs words = option_map (map row_of) (words_read place gs words)

-- the two agree on the words from here on
abbrev AgreeOn : ℕ → List Text → Type 0
AgreeOn p words = (place : Place) (gs : List Given) (rows : List Row) (pending : Option (Text × List Text)) → Holds place gs rows pending → reads place rows pending p words ≡ given_rows_of place gs words

one_more : (gs : List Given) (g : Given) → map row_of gs ++ row_of g ∷ [] ≡ map row_of (gs ++ g ∷ [])
one_more gs g = sym (map-append row_of gs (g ∷ []))

-- behind an option that waits for its value
agree_on_value : (name word : Text) (rest : List Text) (gs : List Given) (p : ℕ) → AllByRecursion IsUtf8 (word ∷ rest) → AgreeOn p rest → IsValued name → is_given name gs ≡ false
    → reads (AValue name) (map row_of gs) (Some (name, [])) p (word ∷ rest) ≡ given_rows_of (AValue name) gs (word ∷ rest)
unfolding words_read
agree_on_value name word rest gs p utf8 next v free = by (is_value word) refl (looks word)
  where
    none : has_row name (map row_of gs) ≡ false
    none = sym (given_rows name gs) ∙ free

    by : (b : Bool) → is_value word ≡ b → Looks word → reads (AValue name) (map row_of gs) (Some (name, [])) p (word ∷ rest) ≡ given_rows_of (AValue name) gs (word ∷ rest)
    by false other l = no_value name word rest (map row_of gs) p v utf8.0 other ∙ rw other refl
    by true fine (IsPlain d l s w) = value_read name word rest (map row_of gs) p v d l s
        ∙ next AnOption (gs ++ (name, word) ∷ []) (map row_of gs) (Some (name, word ∷ [])) (record {
          passes = value_settled name word (map row_of gs) v none;
          holds = value_rows name word (map row_of gs) v none ∙ one_more gs (name, word);
        })
        ∙ rw fine refl
    by true fine (IsDashes d w) = cc
    by true fine (IsLong o d l w) = cc
    by true fine (IsShort x xs is d l s w) = cc

-- an option whose value is to come, or stands in its word
begins : (name word : Text) (rest : List Text) (gs : List Given) (rows : List Row) (pending : Option (Text × List Text)) (p : ℕ) → IsValued name → IsSettled gs rows pending → bytes_eq word (codes "--") ≡ false → long_of word ≡ Some (name, None)
    → reads AnOption rows pending p (word ∷ rest) ≡ command_read (walk_at (held (map row_of gs) (Some (name, []))) (option name) p false) rest
unfolding walked
begins name word rest gs rows pending p v s d l = rw (d, l, rule_by_long name v, s.passes, s.holds) refl

has_value : (name value word : Text) (rest : List Text) (gs : List Given) (rows : List Row) (pending : Option (Text × List Text)) (p : ℕ) → IsValued name → IsSettled gs rows pending → bytes_eq word (codes "--") ≡ false → long_of word ≡ Some (name, Some value)
    → is_given name gs ≡ false → reads AnOption rows pending p (word ∷ rest) ≡ command_read (walk_at (held (map row_of (gs ++ (name, value) ∷ [])) None) idle p false) rest
unfolding walked
has_value name value word rest gs rows pending p v s d l free =
    let none : has_row name (map row_of gs) ≡ false = sym (given_rows name gs) ∙ free in
    rw (d, l, rule_by_long name v, s.passes, s.holds, use_taken name value (map row_of gs) none, value_used name value (map row_of gs) v none, one_more gs (name, value)) refl

has_value_again : (name value word : Text) (rest : List Text) (gs : List Given) (rows : List Row) (pending : Option (Text × List Text)) (p : ℕ) → IsValued name → IsSettled gs rows pending → bytes_eq word (codes "--") ≡ false → long_of word ≡ Some (name, Some value)
    → is_given name gs ≡ true → reads AnOption rows pending p (word ∷ rest) ≡ None
has_value_again name value word rest gs rows pending p v s d l again =
    let some : has_row name (map row_of gs) ≡ true = sym (given_rows name gs) ∙ again in
    let fault : is_nothing (long_fault rules false (arg_by_long rules name) (Some value) (held rows pending)) ≡ false = rw (rule_by_long name v, s.passes, s.holds) (use_repeated name value (map row_of gs) some) in
    refused_word (walk_at (held rows pending) idle p false) word rest (long_refused idle word (name, Some value) (held rows pending) p d l fault)

agree_on_valued : (name word : Text) (value : Option Text) (rest : List Text) (gs : List Given) (rows : List Row) (pending : Option (Text × List Text)) (p : ℕ) (given : Bool) → AllByRecursion IsUtf8 (word ∷ rest) → AgreeOn p rest → IsValued name → IsSettled gs rows pending
    → bytes_eq word (codes "--") ≡ false → long_of word ≡ Some (name, value) → is_given name gs ≡ given → reads AnOption rows pending p (word ∷ rest) ≡ given_rows_of AnOption gs (word ∷ rest)
unfolding words_read
agree_on_valued name word None rest gs rows pending p true utf8 next v s d l again =
    begins name word rest gs rows pending p v s d l ∙ repeated_option rest name (map row_of gs) p utf8.1 v (sym (given_rows name gs) ∙ again) ∙ rw (d, l, again) refl
agree_on_valued name word (Some value) rest gs rows pending p true utf8 next v s d l again =
    has_value_again name value word rest gs rows pending p v s d l again ∙ rw (d, l, again) refl
agree_on_valued name word None rest gs rows pending p false utf8 next v s d l free =
    begins name word rest gs rows pending p v s d l
    ∙ next (AValue name) gs (map row_of gs) (Some (name, [])) (record { valued = v; waits = refl; holds = refl; free = free })
    ∙ rw (d, l, free, value_taken name v) refl
agree_on_valued name word (Some value) rest gs rows pending p false utf8 next v s d l free =
    has_value name value word rest gs rows pending p v s d l free
    ∙ next AnOption (gs ++ (name, value) ∷ []) (map row_of (gs ++ (name, value) ∷ [])) None (record { passes = refl; holds = refl })
    ∙ rw (d, l, free, value_taken name v) refl

-- ---- the flag

echo_used : (rows : List Row) → has_row (codes "echo") rows ≡ false → used echo_rule [] rows ≡ rows ++ row_of (codes "echo", codes "true") ∷ []
echo_used rows e =
    ap (λ (rs : List Row). at_row (codes "echo") (more_values CommandLine (codes "true" ∷ [])) (row_of (codes "echo", codes "true") ∷ []) rs) (without_none (codes "echo") rows e)
    ∙ no_row (codes "echo") (more_values CommandLine (codes "true" ∷ [])) (row_of (codes "echo", codes "true") ∷ []) rows e

echo_taken : (rows : List Row) → has_row (codes "echo") rows ≡ false → use_fault false echo_rule [] rows ≡ []
echo_taken rows e = rw e refl

echo_repeated : (rows : List Row) → has_row (codes "echo") rows ≡ true → is_nothing (use_fault false echo_rule [] rows) ≡ false
echo_repeated rows e = rw e refl

agree_on_echo : (word : Text) (value : Option Text) (rest : List Text) (gs : List Given) (rows : List Row) (pending : Option (Text × List Text)) (p : ℕ) (given : Bool) → AgreeOn p rest → IsSettled gs rows pending
    → bytes_eq word (codes "--") ≡ false → long_of word ≡ Some (codes "echo", value) → is_given (codes "echo") gs ≡ given → reads AnOption rows pending p (word ∷ rest) ≡ given_rows_of AnOption gs (word ∷ rest)
unfolding walked words_read
agree_on_echo word (Some value) rest gs rows pending p true next s d l again = rw (d, l, again) refl
agree_on_echo word (Some value) rest gs rows pending p false next s d l free = rw (d, l, free) refl
agree_on_echo word None rest gs rows pending p true next s d l again =
    let some : has_row (codes "echo") (map row_of gs) ≡ true = sym (given_rows (codes "echo") gs) ∙ again in
    let fault : is_nothing (long_fault rules false (arg_by_long rules (codes "echo")) None (held rows pending)) ≡ false = rw (s.passes, s.holds) (echo_repeated (map row_of gs) some) in
    refused_word (walk_at (held rows pending) idle p false) word rest (long_refused idle word (codes "echo", None) (held rows pending) p d l fault) ∙ rw (d, l, again) refl
agree_on_echo word None rest gs rows pending p false next s d l free =
    let none : has_row (codes "echo") (map row_of gs) ≡ false = sym (given_rows (codes "echo") gs) ∙ free in
    let more : List Given = gs ++ (codes "echo", codes "true") ∷ [] in
    let step : reads AnOption rows pending p (word ∷ rest) ≡ command_read (walk_at (held (map row_of more) None) idle p false) rest =
    rw (d, l, s.passes, s.holds, echo_taken (map row_of gs) none, echo_used (map row_of gs) none, one_more gs (codes "echo", codes "true")) refl in
    step ∙ next AnOption more (map row_of more) None (record { passes = refl; holds = refl }) ∙ rw (d, l, free) refl

-- ---- another option

agree_on_unknown : (name word : Text) (value : Option Text) (rest : List Text) (gs : List Given) (rows : List Row) (pending : Option (Text × List Text)) (p : ℕ) (given : Bool) → bytes_eq word (codes "--") ≡ false → long_of word ≡ Some (name, value)
    → bytes_eq (codes "dialect") name ≡ false → bytes_eq (codes "echo") name ≡ false → bytes_eq (codes "store") name ≡ false → is_given name gs ≡ given
    → reads AnOption rows pending p (word ∷ rest) ≡ given_rows_of AnOption gs (word ∷ rest)
unfolding walked words_read
agree_on_unknown name word value rest gs rows pending p true d l e1 e2 e3 g = rw (d, l, e1, e2, e3, g) refl
agree_on_unknown name word value rest gs rows pending p false d l e1 e2 e3 g = rw (d, l, e1, e2, e3, g) refl

is_name : (literal name : Text) → bytes_eq literal name ≡ true → name ≡ literal
is_name literal name e = sym ((bytes_eq-Decides literal name).0 e)

agree_on_long : (name word : Text) (value : Option Text) (rest : List Text) (gs : List Given) (rows : List Row) (pending : Option (Text × List Text)) (p : ℕ) (a b c : Bool) → AllByRecursion IsUtf8 (word ∷ rest) → AgreeOn p rest → IsSettled gs rows pending
    → bytes_eq word (codes "--") ≡ false → long_of word ≡ Some (name, value) → bytes_eq (codes "dialect") name ≡ a → bytes_eq (codes "echo") name ≡ b → bytes_eq (codes "store") name ≡ c
    → reads AnOption rows pending p (word ∷ rest) ≡ given_rows_of AnOption gs (word ∷ rest)
agree_on_long name word value rest gs rows pending p true b c utf8 next s d l e1 e2 e3 = agree_on_valued name word value rest gs rows pending p (is_given name gs) utf8 next (inl (is_name (codes "dialect") name e1)) s d l refl
agree_on_long name word value rest gs rows pending p false true c utf8 next s d l e1 e2 e3 =
    let named : long_of word ≡ Some (codes "echo", value) = l ∙ ap (λ (n : Text). Some (n, value)) (is_name (codes "echo") name e2) in
    agree_on_echo word value rest gs rows pending p (is_given (codes "echo") gs) next s d named refl
agree_on_long name word value rest gs rows pending p false false true utf8 next s d l e1 e2 e3 = agree_on_valued name word value rest gs rows pending p (is_given name gs) utf8 next (inr (is_name (codes "store") name e3)) s d l refl
agree_on_long name word value rest gs rows pending p false false false utf8 next s d l e1 e2 e3 = agree_on_unknown name word value rest gs rows pending p (is_given name gs) d l e1 e2 e3 refl

agree_on_option : (word : Text) (rest : List Text) (gs : List Given) (rows : List Row) (pending : Option (Text × List Text)) (p : ℕ) → AllByRecursion IsUtf8 (word ∷ rest) → AgreeOn p rest → IsSettled gs rows pending
    → Looks word → reads AnOption rows pending p (word ∷ rest) ≡ given_rows_of AnOption gs (word ∷ rest)
unfolding walked words_read
agree_on_option word rest gs rows pending p utf8 next s (IsDashes d w) = rw d (next TheEnd gs rows pending s)
agree_on_option word rest gs rows pending p utf8 next s (IsLong o d l w) =
    agree_on_long o.0 word o.1 rest gs rows pending p (bytes_eq (codes "dialect") o.0) (bytes_eq (codes "echo") o.0) (bytes_eq (codes "store") o.0) utf8 next s d l refl refl refl
agree_on_option word rest gs rows pending p utf8 next s (IsShort x xs is d l sh w) =
    refused_word (walk_at (held rows pending) idle p false) word rest (short_refused idle word x xs rows pending p is d l sh utf8.0) ∙ rw (d, l) refl
agree_on_option word rest gs rows pending p utf8 next s (IsPlain d l sh w) = rw (d, l, sh) refl

-- ---- all words

agree : (words : List Text) (p : ℕ) → AllByRecursion IsUtf8 words → AgreeOn p words
unfolding words_read
agree [] p utf8 AnOption gs rows pending s = rw (s.passes, s.holds) refl
agree [] p utf8 TheEnd gs rows pending s = rw (s.passes, s.holds) refl
agree [] p utf8 (AValue name) gs rows pending b = let stuck : IsStuck (held rows (Some (name, []))) = missing_value name rows b.valued in rw (b.waits, stuck) refl
agree (word ∷ rest) p utf8 AnOption gs rows pending s = agree_on_option word rest gs rows pending p utf8 (agree rest p utf8.1) s (looks word)
agree (word ∷ rest) p utf8 TheEnd gs rows pending s = refl
agree (word ∷ rest) p utf8 (AValue name) gs rows pending b =
    rw (b.waits, b.holds) (agree_on_value name word rest gs p utf8 (agree rest p utf8.1) b.valued b.free)

-- ---- what the command finds in the words

no_stop : (stop : Option (Text × List Text)) → is_some (entered (built words_command) stop) ≡ false
no_stop None = refl
no_stop (Some stop) = refl

no_entered_fault : (stop : Option (Text × List Text)) → entered_fault (built words_command) stop ≡ []
no_entered_fault None = refl
no_entered_fault (Some stop) = refl

no_value_fault : (name : Text) (rows : List Row) (given : Bool) → has_row name rows ≡ given → default_fault rows (value_rule name) ≡ []
no_value_fault name rows true e = rw e refl
no_value_fault name rows false e = rw e refl

no_echo_fault : (rows : List Row) (given : Bool) → has_row (codes "echo") rows ≡ given → default_fault rows echo_rule ≡ []
no_echo_fault rows true e = rw e refl
no_echo_fault rows false e = rw e refl

no_defaults_fault : (rows : List Row) → defaults_fault rows rules ≡ []
unfolding defaults_fault
no_defaults_fault rows =
    let second : List Row = with_default rows (value_rule (codes "dialect")) in
    let third : List Row = with_default second echo_rule in
    ap (λ (ks : Kinds). or_else ks (or_else (default_fault second echo_rule) (or_else (default_fault third (value_rule (codes "store"))) []))) (no_value_fault (codes "dialect") rows (has_row (codes "dialect") rows) refl)
    ∙ ap (λ (ks : Kinds). or_else ks (or_else (default_fault third (value_rule (codes "store"))) [])) (no_echo_fault second (has_row (codes "echo") second) refl)
    ∙ ap (λ (ks : Kinds). or_else ks []) (no_value_fault (codes "store") third (has_row (codes "store") third) refl)

faults_by : (words : List Text) (has_subcommand : Bool) (below : Kinds) → has_subcommand ≡ false → below ≡ [] → level_fault shape [] nothing_held words has_subcommand below
    ≡ or_else (walk_fault shape [] (walk_from nothing_held) words) (settle_fault rules false (walk rules [] nothing_held words).held)
faults_by words has_subcommand below e f =
    let end : Held = (walk rules [] nothing_held words).held in
    rw (e, f) (ap (λ (ks : Kinds). or_else (walk_fault shape [] (walk_from nothing_held) words) (or_else (settle_fault rules false end) (or_else ks []))) (no_defaults_fault (settled rules end).rows)
    ∙ ap (λ (ks : Kinds). or_else (walk_fault shape [] (walk_from nothing_held) words) ks) (or_nothing (settle_fault rules false end)))

faults_are : (words : List Text) → fault_of words_command words ≡ or_else (walk_fault shape [] (walk_from nothing_held) words) (settle_fault rules false (walk rules [] nothing_held words).held)
faults_are words =
    let stop : Option (Text × List Text) = (walk rules [] nothing_held words).stopped in
    faults_by words (is_some (entered (built words_command) stop)) (entered_fault (built words_command) stop) (no_stop stop) (no_entered_fault stop)

-- ---- the rows at the end

no_value_default : (name : Text) (rows : List Row) (given : Bool) → has_row name rows ≡ given → with_default rows (value_rule name) ≡ rows
no_value_default name rows true e = rw e refl
no_value_default name rows false e = rw e refl

value_of : (name : Text) (gs : List Given) → first_of name (map row_of gs) ≡ value_given name gs
value_of name [] = refl
value_of name (g ∷ gs) = by (bytes_eq g.0 name) refl (value_of name gs)
  where
    by : (b : Bool) → bytes_eq g.0 name ≡ b → first_of name (map row_of gs) ≡ value_given name gs → first_of name (map row_of (g ∷ gs)) ≡ value_given name (g ∷ gs)
    by true e more = rw e refl
    by false e more = rw e more

abbrev off_row : Row
off_row = record { id = codes "echo"; values = codes "false" ∷ []; count = None; source = Some DefaultValue; reading = reading_by echo_rule }

behind : (name : Text) (rows : List Row) (r : Row) → bytes_eq r.id name ≡ false → first_of name (rows ++ r ∷ []) ≡ first_of name rows
behind name [] r e = rw e refl
behind name (x ∷ rows) r e = by (bytes_eq x.id name) refl (behind name rows r e)
  where
    by : (b : Bool) → bytes_eq x.id name ≡ b → first_of name (rows ++ r ∷ []) ≡ first_of name rows → first_of name (x ∷ (rows ++ r ∷ [])) ≡ first_of name (x ∷ rows)
    by true f more = rw f refl
    by false f more = rw f more

no_first : (name : Text) (rows : List Row) (r : Row) → has_row name rows ≡ false → bytes_eq r.id name ≡ true → first_of name (rows ++ r ∷ []) ≡ slice_get r.values 0
no_first name [] r none e = rw e refl
no_first name (x ∷ rows) r none e =
    let first : bytes_eq x.id name ≡ false = neither_first (bytes_eq x.id name) (has_row name rows) none in
    let others : has_row name rows ≡ false = neither_second (bytes_eq x.id name) (has_row name rows) none in
    rw first (no_first name rows r others e)

none_first : (name : Text) (rows : List Row) → has_row name rows ≡ false → first_of name rows ≡ None
none_first name [] none = refl
none_first name (x ∷ rows) none = let first : bytes_eq x.id name ≡ false = neither_first (bytes_eq x.id name) (has_row name rows) none in
    let others : has_row name rows ≡ false = neither_second (bytes_eq x.id name) (has_row name rows) none in rw first (none_first name rows others)

echo_off : (rows : List Row) → has_row (codes "echo") rows ≡ false → with_default rows echo_rule ≡ rows ++ off_row ∷ []
echo_off rows e = rw e (no_row (codes "echo") (more_values DefaultValue (codes "false" ∷ [])) (off_row ∷ []) rows e)

abbrev echo_by : List Row → Bool
echo_by rows = is_on (first_of (codes "echo") rows)

echo_default : (rows : List Row) (given : Bool) → has_row (codes "echo") rows ≡ given
    → values_by (λ name. first_of name (with_default rows echo_rule)) ≡ values_by (λ name. first_of name rows)
echo_default rows true e = rw e refl
echo_default rows false e =
    let off : is_on (first_of (codes "echo") (rows ++ off_row ∷ [])) ≡ is_on (first_of (codes "echo") rows) = ap is_on (no_first (codes "echo") rows off_row e refl) ∙ sym (ap is_on (none_first (codes "echo") rows e)) in
    rw (echo_off rows e) (rw (behind (codes "dialect") rows off_row refl, behind (codes "store") rows off_row refl, off) refl)

rows_at_end : (rows : List Row) → fold with_default rows rules ≡ with_default rows echo_rule
rows_at_end rows =
    ap (λ (rs : List Row). with_default (with_default rs echo_rule) (value_rule (codes "store"))) (no_value_default (codes "dialect") rows (has_row (codes "dialect") rows) refl)
    ∙ no_value_default (codes "store") (with_default rows echo_rule) (has_row (codes "store") (with_default rows echo_rule)) refl

values_found : (gs : List Given) → values_by (λ name. first_of name (fold with_default (map row_of gs) rules)) ≡ values_by (λ name. value_given name gs)
values_found gs =
    ap (λ (rs : List Row). values_by (λ name. first_of name rs)) (rows_at_end (map row_of gs))
    ∙ echo_default (map row_of gs) (has_row (codes "echo") (map row_of gs)) refl
    ∙ rw (value_of (codes "dialect") gs, value_of (codes "echo") gs, value_of (codes "store") gs) refl

by_rows : (b : Bool) (rows : List Row) → (if b then Some (values_by (λ name. first_of name (fold with_default rows rules))) else None) ≡ option_map (λ (rs : List Row). values_by (λ name. first_of name (fold with_default rs rules))) (if b then Some rows else None)
by_rows true rows = refl
by_rows false rows = refl

by_given : (o : Option (List Given)) → option_map (λ (rs : List Row). values_by (λ name. first_of name (fold with_default rs rules))) (option_map (map row_of) o) ≡ option_map (λ gs. values_by (λ name. value_given name gs)) o
by_given None = refl
by_given (Some gs) = ap Some (values_found gs)

-- the command takes words exactly where they are options, and finds those
pub as_command : (words : List Text) → AllByRecursion IsUtf8 words → values_of_command words ≡ values_asked words
as_command words utf8 =
    let end : Held = (walk rules [] nothing_held words).held in
    ap (λ (ks : Kinds). if is_nothing ks then Some (values_by (λ name. first_of name (fold with_default (settled rules end).rows rules))) else None) (faults_are words)
    ∙ by_rows (is_nothing (or_else (walk_fault shape [] (walk_from nothing_held) words) (settle_fault rules false end))) (settled rules end).rows
    ∙ ap (option_map (λ (rs : List Row). values_by (λ name. first_of name (fold with_default rs rules)))) (read_is words (walk_from nothing_held) ∙ agree words 1 utf8 AnOption [] [] None (record { passes = refl; holds = refl }))
    ∙ by_given (words_read AnOption [] words)
