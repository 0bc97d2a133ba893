-- The lines of a script, one after the other.
use Rattle.std.proofs.Common.{◌++◌, cond, ◌≡◌, ℕ, zero, suc, ◌+◌, ◌<◌, ◌≤◌, Bool, true, false, List, [], ◌∷◌, length, drop, get_or, Option, None, Some, Result, Ok, Err, IsErrAnd, refl, sym, ap, ◌∙◌, subst, arith, add-one, drop-cons}
use Rattle.std.specs.Prelude.{nat_eq}
use Rattle.std.proofs.lemmas.Bool.Decides.{nat_tests}
use Rattle.std.proofs.lemmas.List.{length-drop, nil_from_length}
use Rattle.std.specs.Io.KnownBytes.{prepend_known}
use Rattle.base_core.specs.declared.refusal.Refusal.{Refusal}
use Rattle.base_core.specs.declared.refusal.Refusal.TheVariants.{Memory}
use Rattle.class_types.specs.Rules.{Rules}
use Rattle.keeper_core.specs.Programs.{each, as_refusal}
use Rattle.keeper_core.specs.Beside.{Beside}
use Rattle.keeper_core.specs.Moment.{Moment, Reaches, Runs}
use Rattle.keeper_core.proofs.Sequence.{each_end, each_err, each_turn, no_memory, reaches_end, reaches_start}
use Rattle.byte_streams.specs.declared.lines.NextLine.{NextLine}
use Rattle.byte_streams.specs.declared.lines.NextLine.TheVariants as next
use Rattle.byte_streams.specs.declared.lines.ReadStop.{ReadStop}
use Rattle.byte_streams.specs.declared.lines.ReadStop.TheVariants as read
use Rattle.byte_streams.specs.Cutting.{Cut, Ended, TooLong, Line, IsNext, IsNextOf, next_cut, has_newline, last_line, line_width, most_bytes, passes_limit, whole_line}
use Rattle.shell_steps.specs.ShellState.{ShellState}
use Rattle.sqla_shell.specs.declared.ending.Ending.{Ending}
use Rattle.sqla_shell.specs.declared.ending.Ending.TheVariants as ending
use Rattle.sqla_shell.specs.declared.stop.Stop.{Stop}
use Rattle.sqla_shell.specs.Causes.{read_stop, stop_refusal}
use Rattle.sqla_shell.specs.Outcome.{DoesLines, HasNothingLeft, ending_of}
use Rattle.byte_streams.specs.Scripts.{Lines, lines_by, lines_from, lines_of}
use Rattle.sqla_shell.specs.Reference.{do_and_reply}

-- so many lines were done, and what is left of the bytes has the lines behind them
pub record OnWay {S : Type 0} (rules : Rules) (tell : S → Moment (Beside ShellState)) (all : Lines) (old : S) (i taken : ℕ) (bytes : List ℕ) (mid : S) : Type 0 where
  pub most : ℕ
  pub few : most_bytes + 1 ≤ most + taken
  pub lines : lines_from most taken bytes ≡ record { lines = drop i all.lines; too_long = all.too_long }
  pub way : Reaches tell (each (do_and_reply rules) tt all.lines) old (each (do_and_reply rules) tt (drop i all.lines)) mid

-- the same, where the source tells its bytes
abbrev pub OnLines : {S : Type 0} → Rules → Option (List ℕ) → (S → Moment (Beside ShellState)) → S → ℕ → ℕ → Option (List ℕ) → S → Type 0
OnLines rules None tell old i taken left mid = Unit {0}
OnLines rules (Some script) tell old i taken None mid = ⊥
OnLines rules (Some script) tell old i taken (Some bytes) mid = OnWay rules tell (lines_of script) old i taken bytes mid

pub lines_start : {S : Type 0} (rules : Rules) (tell : S → Moment (Beside ShellState)) (old : S) (left : Option (List ℕ)) → OnLines rules left tell old 0 0 (prepend_known [] left) old
lines_start rules tell old None = tt
lines_start rules tell old (Some bytes) = record { most = most_bytes + 1; few = omega arith; lines = refl; way = reaches_start }

-- ---- lists

has_more : {A : Type 0} (xs : List A) (i : ℕ) (y : A) (ys : List A) → drop i xs ≡ y ∷ ys → i < length xs
has_more xs i y ys is = let count : length (drop i xs) ≡ suc (length ys) = ap length is in omega (arith, length-drop i xs, count)

next_item : {A : Type 0} (xs : List A) (i : ℕ) (y : A) (ys : List A) → drop i xs ≡ y ∷ ys → y ≡ get_or xs i y
next_item xs i y ys is = ap (λ l. get_or l 0 y) (sym is ∙ drop-cons xs i y (has_more xs i y ys is))

next_rest : {A : Type 0} (xs : List A) (i : ℕ) (y : A) (ys : List A) → drop i xs ≡ y ∷ ys → ys ≡ drop (i + 1) xs
next_rest xs i y ys is = rw add-one (ap (λ l. drop 1 l) (sym is ∙ drop-cons xs i y (has_more xs i y ys is)))

no_more : {A : Type 0} (xs : List A) (i : ℕ) → drop i xs ≡ [] → length xs ≤ i
no_more xs i is = let count : length (drop i xs) ≡ 0 = ap length is in omega (arith, length-drop i xs, count)

-- ---- one turn

-- what the next line is in the lines of the script, and what is left behind it
record Turned (all : Lines) (i : ℕ) (line : List ℕ) (now : ℕ) (rest : List ℕ) : Type 0 where
  most : ℕ
  few : most_bytes + 1 ≤ most + now
  here : drop i all.lines ≡ line ∷ (lines_from most now rest).lines
  behind : (lines_from most now rest).too_long ≡ all.too_long

turned : (all : Lines) (most i taken : ℕ) (bytes line : List ℕ) (now : ℕ) (rest : List ℕ)
    → most_bytes + 1 ≤ most + taken → taken < now → now ≤ most_bytes
    → lines_from most taken bytes ≡ record { lines = drop i all.lines; too_long = all.too_long }
    → IsNext (next_cut taken bytes) (next.Line line) taken bytes now rest → Turned all i line now rest
unfolding lines_from
turned all zero i taken bytes line now rest few later within lines is = absurd (omega (arith, few, later, within))
turned all (suc most) i taken bytes line now rest few later within lines is = by (next_cut taken bytes) lines is
  where
    by : (c : Cut) → lines_by c (lines_from most) ≡ record { lines = drop i all.lines; too_long = all.too_long } → IsNext c (next.Line line) taken bytes now rest → Turned all i line now rest
    by Ended same p = absurd p
    by TooLong same p = absurd p
    by (Line l t r) same p =
        subst (λ x. Turned all i x now rest) (sym p.0) (subst (λ n. Turned all i l n rest) (sym p.1) (subst (λ b. Turned all i l t b) (sym p.2)
        (record { most = most; few = subst (λ n. most_bytes + 1 ≤ most + n) p.1 (omega (arith, few, later)); here = sym (ap (λ x. x.lines) same); behind = ap (λ x. x.too_long) same })))

-- a line was done
pub line_done : {S X : Type 0} {tell : S → Moment (Beside ShellState)} (rules : Rules) (old : S) {mid new : S} {v : X → Unit {0}} {x : X} (start : Option (List ℕ)) (i taken : ℕ) (left : Option (List ℕ)) (line : List ℕ) (now : ℕ) (more : Option (List ℕ))
    → taken < now → now ≤ most_bytes → OnLines rules start tell old i taken left mid → IsNextOf taken left (next.Line line) now more
    → Runs tell v (do_and_reply rules line tt) mid (Ok x) new → OnLines rules start tell old (i + 1) now more new
line_done rules old None i taken left line now more later within on is ran = tt
line_done rules old (Some script) i taken None line now more later within on is ran = absurd on
line_done rules old (Some script) i taken (Some bytes) line now None later within on is ran = absurd is
line_done {tell = tell} rules old {mid = mid} {new = new} {v = v} {x = x} (Some script) i taken (Some bytes) line now (Some rest) later within on is ran =
    let all = lines_of script in
    let t = turned all on.most i taken bytes line now rest on.few later within on.lines is in
    record {
      most = t.most;
      few = t.few;
      lines = ap (λ ls. record { lines = ls; too_long = (lines_from t.most now rest).too_long }) (next_rest all.lines i line (lines_from t.most now rest).lines t.here)
          ∙ ap (λ b. record { lines = drop (i + 1) all.lines; too_long = b }) t.behind;
      way = each_turn (do_and_reply rules) all.lines i on.way (has_more all.lines i line (lines_from t.most now rest).lines t.here) (next_item all.lines i line (lines_from t.most now rest).lines t.here) ran refl;
    }

-- a line was stopped
pub line_stopped : {S X : Type 0} {tell : S → Moment (Beside ShellState)} (rules : Rules) (old : S) {mid new : S} {v : X → Unit {0}} {e : Refusal} (start : Option (List ℕ)) (i taken : ℕ) (left : Option (List ℕ)) (line : List ℕ) (now : ℕ) (more : Option (List ℕ))
    → taken < now → now ≤ most_bytes → OnLines rules start tell old i taken left mid → IsNextOf taken left (next.Line line) now more
    → Runs tell v (do_and_reply rules line tt) mid (Err e) new → DoesLines rules start tell old (Err e) new
line_stopped rules old None i taken left line now more later within on is ran = tt
line_stopped rules old (Some script) i taken None line now more later within on is ran = absurd on
line_stopped rules old (Some script) i taken (Some bytes) line now None later within on is ran = absurd is
line_stopped {tell = tell} rules old {mid = mid} {new = new} {v = v} {e = e} (Some script) i taken (Some bytes) line now (Some rest) later within on is ran =
    let all = lines_of script in
    let t = turned all on.most i taken bytes line now rest on.few later within on.lines is in
    (each_err (do_and_reply rules) all.lines i on.way (has_more all.lines i line (lines_from t.most now rest).lines t.here) (next_item all.lines i line (lines_from t.most now rest).lines t.here) ran, tt)

-- the same with the stop's own words
pub line_stopped_as : {S X : Type 0} {tell : S → Moment (Beside ShellState)} (rules : Rules) (old : S) {mid new : S} {v : X → Unit {0}} (start : Option (List ℕ)) (i taken : ℕ) (left : Option (List ℕ)) (line : List ℕ) (now : ℕ) (more : Option (List ℕ))
    → taken < now → now ≤ most_bytes → OnLines rules start tell old i taken left mid → IsNextOf taken left (next.Line line) now more
    → (stop : Stop) (r : Result Ending Stop) → IsErrAnd r (λ d. d ≡ stop) → Runs tell v (do_and_reply rules line tt) mid (Err (stop_refusal stop)) new → DoesLines rules start tell old (as_refusal stop_refusal r) new
line_stopped_as rules old start i taken left line now more later within on is stop (Ok e) same ran = absurd same
line_stopped_as {tell = tell} rules old {new = new} start i taken left line now more later within on is stop (Err d) same ran =
    subst (λ s. DoesLines rules start tell old (Err (stop_refusal s)) new) (sym same) (line_stopped rules old start i taken left line now more later within on is ran)

-- ---- the end of the lines

-- the next cut is no line
ended : (all : Lines) (most i taken : ℕ) (bytes : List ℕ) (answer : NextLine) (b : Bool)
    → most_bytes + 1 ≤ most + taken → taken ≤ most_bytes → lines_from most taken bytes ≡ record { lines = drop i all.lines; too_long = all.too_long }
    → lines_by (next_cut taken bytes) (lines_from most) ≡ lines_by (next_cut taken bytes) (lines_from most)
    → ((most : ℕ) → lines_by (next_cut taken bytes) (lines_from most) ≡ record { lines = []; too_long = b })
    → (length all.lines ≤ i) × (all.too_long ≡ b)
unfolding lines_from
ended all zero i taken bytes answer b few within lines same none = absurd (omega (arith, few, within))
ended all (suc most) i taken bytes answer b few within lines same none =
    let is : record { lines = []; too_long = b } ≡ record { lines = drop i all.lines; too_long = all.too_long } = sym (none most) ∙ lines in
    (no_more all.lines i (sym (ap (λ x. x.lines) is)), sym (ap (λ x. x.too_long) is))

cut_ended : (taken : ℕ) (bytes : List ℕ) (now : ℕ) (rest : List ℕ) (c : Cut) → IsNext c next.End taken bytes now rest → c ≡ Ended
cut_ended taken bytes now rest Ended p = refl
cut_ended taken bytes now rest TooLong p = absurd p
cut_ended taken bytes now rest (Line l t r) p = absurd p

cut_too_long : (taken : ℕ) (bytes : List ℕ) (now : ℕ) (rest : List ℕ) (c : Cut) → IsNext c next.TooLong taken bytes now rest → c ≡ TooLong
cut_too_long taken bytes now rest Ended p = absurd p
cut_too_long taken bytes now rest TooLong p = refl
cut_too_long taken bytes now rest (Line l t r) p = absurd p

-- the script has ended
pub lines_ended : {S : Type 0} (rules : Rules) (tell : S → Moment (Beside ShellState)) (old mid : S) (start : Option (List ℕ)) (i taken : ℕ) (left : Option (List ℕ)) (now : ℕ) (more : Option (List ℕ))
    → taken ≤ most_bytes → OnLines rules start tell old i taken left mid → IsNextOf taken left next.End now more → DoesLines rules start tell old (Ok ending.Finished) mid
lines_ended rules tell old mid None i taken left now more within on is = tt
lines_ended rules tell old mid (Some script) i taken None now more within on is = absurd on
lines_ended rules tell old mid (Some script) i taken (Some bytes) now None within on is = absurd is
lines_ended rules tell old mid (Some script) i taken (Some bytes) now (Some rest) within on is =
    let all = lines_of script in
    let e = ended all on.most i taken bytes next.End false on.few within on.lines refl (λ most. ap (λ c. lines_by c (lines_from most)) (cut_ended taken bytes now rest (next_cut taken bytes) is)) in
    (each_end (do_and_reply rules) all.lines i on.way e.0 refl, by all.too_long e.1)
  where
    by : (b : Bool) → b ≡ false → ending.Finished ≡ ending_of b
    by false is = refl
    by true is = cc

-- a limit was passed
pub lines_too_long : {S : Type 0} (rules : Rules) (tell : S → Moment (Beside ShellState)) (old mid : S) (start : Option (List ℕ)) (i taken : ℕ) (left : Option (List ℕ)) (now : ℕ) (more : Option (List ℕ))
    → taken ≤ most_bytes → OnLines rules start tell old i taken left mid → IsNextOf taken left next.TooLong now more → DoesLines rules start tell old (Ok ending.TooLong) mid
lines_too_long rules tell old mid None i taken left now more within on is = tt
lines_too_long rules tell old mid (Some script) i taken None now more within on is = absurd on
lines_too_long rules tell old mid (Some script) i taken (Some bytes) now None within on is = absurd is
lines_too_long rules tell old mid (Some script) i taken (Some bytes) now (Some rest) within on is =
    let all = lines_of script in
    let e = ended all on.most i taken bytes next.TooLong true on.few within on.lines refl (λ most. ap (λ c. lines_by c (lines_from most)) (cut_too_long taken bytes now rest (next_cut taken bytes) is)) in
    (each_end (do_and_reply rules) all.lines i on.way e.0 refl, by all.too_long e.1)
  where
    by : (b : Bool) → b ≡ true → ending.TooLong ≡ ending_of b
    by true is = refl
    by false is = cc

-- the source was stopped
pub read_stopped : {S : Type 0} (rules : Rules) (tell : S → Moment (Beside ShellState)) (old mid : S) (start : Option (List ℕ)) (i taken : ℕ) (left : Option (List ℕ)) (stop : Stop) (cause : ReadStop)
    → stop ≡ read_stop cause → OnLines rules start tell old i taken left mid → DoesLines rules start tell old (Err (stop_refusal stop)) mid
read_stopped rules tell old mid None i taken left stop cause is on = tt
read_stopped rules tell old mid (Some script) i taken None stop cause is on = absurd on
read_stopped rules tell old mid (Some script) i taken (Some bytes) stop cause is on =
    (subst (λ d. Runs {X = Ending} tell (λ e. tt) (each (do_and_reply rules) tt (lines_of script).lines) old (Err d) mid) (sym (memory stop cause is)) (reaches_end on.way no_memory), tt)
  where
    memory : (stop : Stop) (cause : ReadStop) → stop ≡ read_stop cause → stop_refusal stop ≡ Memory
    memory stop read.Fault is = ap stop_refusal is
    memory stop read.Memory is = ap stop_refusal is

-- ---- the end of the source

-- nothing is cut of nothing alone
cut_empty : (taken : ℕ) (bytes : List ℕ) → next_cut taken bytes ≡ Ended → bytes ≡ []
unfolding next_cut
cut_empty taken bytes is = by (has_newline bytes) (nat_eq (length bytes) 0) refl is
  where
    long : (b : Bool) (line : Cut) → cond b TooLong line ≡ Ended → (line ≡ Ended → ⊥) → ⊥
    long true line same apart = cc
    long false line same apart = apart same

    by : (newline none : Bool) → nat_eq (length bytes) 0 ≡ none → cond newline (whole_line taken bytes) (cond none Ended (last_line taken bytes)) ≡ Ended → bytes ≡ []
    by true none here same = absurd (long (passes_limit (line_width bytes) (taken + (line_width bytes + 1))) _ same (λ same. cc))
    by false true here same = nil_from_length bytes (grind (arith, nat_tests))
    by false false here same = absurd (long (passes_limit (length bytes) (taken + length bytes)) _ same (λ same. cc))

nothing_behind : (pending left : List ℕ) → pending ++ left ≡ [] → left ≡ []
nothing_behind [] left is = is
nothing_behind (b ∷ pending) left is = cc

-- the script has ended, and nothing is left with the source
pub nothing_left : {S : Type 0} (rules : Rules) (tell : S → Moment (Beside ShellState)) (old mid : S) (start : Option (List ℕ)) (i taken : ℕ) (come : Option (List ℕ)) (now : ℕ) (pending : List ℕ) (left : Option (List ℕ))
    → OnLines rules start tell old i taken come mid → IsNextOf taken come next.End now (prepend_known pending left) → HasNothingLeft start left
nothing_left rules tell old mid None i taken come now pending left on is = tt
nothing_left rules tell old mid (Some script) i taken None now pending left on is = absurd on
nothing_left rules tell old mid (Some script) i taken (Some bytes) now pending None on is = absurd is
nothing_left rules tell old mid (Some script) i taken (Some bytes) now pending (Some rest) on is =
    by (next_cut taken bytes) refl is
  where
    by : (c : Cut) → next_cut taken bytes ≡ c → IsNext c next.End taken bytes now (pending ++ rest) → Some rest ≡ Some []
    by Ended same p = ap Some (nothing_behind pending rest (p.1 ∙ cut_empty taken bytes same))
    by TooLong same p = absurd p
    by (Line l t r) same p = absurd p
