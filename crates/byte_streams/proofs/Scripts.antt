-- The lines of a script are its bytes.
use Rattle.std.proofs.Common.{◌≡◌, ℕ, zero, suc, ◌+◌, ◌-◌, ◌<◌, ◌≤◌, Bool, true, false, cond, eqb, ltb, ◌&&◌, List, [], ◌∷◌, ◌++◌, length, take, drop, get_or, refl, sym, ap, ◌∙◌, subst, arith, add-one}
use Rattle.std.proofs.lemmas.List.{append-nil, append_assoc, take-append-drop, take-take, drop_all, length-take-le, nil_from_length}
use Rattle.std.proofs.lemmas.List.Sums.{passes_at_first}
use Rattle.std.proofs.lemmas.Bool.Decides.{nat_tests}
use Rattle.std.proofs.Math.Seq.{drop-cons}
use Rattle.std.specs.Io.BufRead.{strip_last, ends_with_byte}
use Rattle.byte_streams.specs.Cutting.{is_newline, carriage_return, line_width, has_newline, whole_line, last_line, passes_limit, most_bytes, next_cut, TooLong, Ended, Line, Cut}
use Rattle.byte_streams.specs.Scripts.{Lines, lines_by, lines_from, lines_of, LineEnd, Newline, ReturnAndNewline, ScriptEnd, end_bytes, BeginsWithLine, AreLines, IsOfItsLines}
use Rattle.byte_streams.proofs.Pieces.{when_true, when_false, below, not_below, stands, reaches, same, width_more, cut_whole, cut_last, cut_none, whole_too_long_at, whole_line_at, last_too_long}

-- what a cut says of the bytes: a line takes a byte or more and stays within the limits
abbrev CutSays : Cut → ℕ → List ℕ → Type 0
CutSays Ended taken bytes = bytes ≡ []
CutSays TooLong taken bytes = Unit {0}
CutSays (Line line now behind) taken bytes = BeginsWithLine bytes line behind × (taken < now) × (now ≤ most_bytes)

-- no newline stands among the first bytes, up to the first newline
bare_to : (n : ℕ) (bytes : List ℕ) → n ≤ line_width bytes → n ≤ length bytes → has_newline (take n bytes) ≡ false
bare_to n bytes before within = by_width (has_newline (take n bytes)) refl
  where
    by_width : (has : Bool) → has_newline (take n bytes) ≡ has → has ≡ false
    by_width false is = refl
    by_width true is =
        let here : line_width (take n bytes) < length (take n bytes) = stands _ _ is in
        let same_width : line_width (take n bytes ++ drop n bytes) ≡ line_width (take n bytes) = width_more (take n bytes) (drop n bytes) here in
        let all : line_width bytes ≡ line_width (take n bytes) = ap line_width (sym (take-append-drop n bytes)) ∙ same_width in
        absurd (omega (arith, length-take-le n bytes within))

-- bytes from a place on begin with the byte there
from_place : (n byte : ℕ) (bytes : List ℕ) → n < length bytes → get_or bytes n 0 ≡ byte → bytes ≡ take n bytes ++ (byte ∷ drop (n + 1) bytes)
from_place n byte bytes within is =
    let behind : drop n bytes ≡ byte ∷ drop (n + 1) bytes = rw (add-one n, ← is) (drop-cons bytes n 0 within) in
    sym (take-append-drop n bytes) ∙ ap (λ rest. take n bytes ++ rest) behind

short_of : (width bytes : ℕ) → passes_limit width bytes ≡ false → bytes ≤ most_bytes
short_of width bytes is = grind (arith, nat_tests)

newline_is : (byte : ℕ) → is_newline byte ≡ true → byte ≡ 10
newline_is byte is = grind (arith, nat_tests)

-- the bytes before the first newline, it, and the bytes behind it
at_newline : (bytes : List ℕ) → line_width bytes < length bytes → bytes ≡ take (line_width bytes) bytes ++ (10 ∷ drop (line_width bytes + 1) bytes)
at_newline bytes within = from_place (line_width bytes) 10 bytes within (newline_is _ (passes_at_first is_newline bytes 0 within))

-- a line without the carriage return at its end, and its end
stripped : (bytes raw behind : List ℕ) → bytes ≡ raw ++ (10 ∷ behind) → ((n : ℕ) → n ≤ length raw → has_newline (take n raw) ≡ false)
    → BeginsWithLine bytes (strip_last carriage_return raw) behind
stripped bytes raw behind is bare = by_return (ends_with_byte carriage_return raw) refl
  where
    whole : take (length raw) raw ≡ raw
    whole = sym (append-nil _) ∙ ap (λ rest. take (length raw) raw ++ rest) (sym (drop_all (length raw) raw (omega arith))) ∙ take-append-drop (length raw) raw

    by_return : (has : Bool) → ends_with_byte carriage_return raw ≡ has → BeginsWithLine bytes (cond has (take (length raw - 1) raw) raw) behind
    by_return true has =
        let some : 0 < length raw = grind (arith, nat_tests) in
        let last : get_or raw (length raw - 1) 0 ≡ 13 = grind (arith, nat_tests) in
        let none : drop (length raw - 1 + 1) raw ≡ [] = drop_all (length raw - 1 + 1) raw (omega arith) in
        let front : raw ≡ take (length raw - 1) raw ++ (13 ∷ []) = from_place (length raw - 1) 13 raw (omega arith) last ∙ ap (λ rest. take (length raw - 1) raw ++ (13 ∷ rest)) none in
        record {
          end = ReturnAndNewline;
          bare = bare (length raw - 1) (omega arith);
          joined = is ∙ ap (λ r. r ++ (10 ∷ behind)) front ∙ append_assoc (take (length raw - 1) raw) (13 ∷ []) (10 ∷ behind);
          last = λ e. cc;
        }
    by_return false has = record {
      end = Newline;
      bare = subst (λ r. has_newline r ≡ false) whole (bare (length raw) (omega arith));
      joined = is;
      last = λ e. cc;
    }

-- the line that a newline ends
whole_says : (taken : ℕ) (bytes : List ℕ) → line_width bytes < length bytes → CutSays (whole_line taken bytes) taken bytes
whole_says taken bytes within = by_limit (passes_limit (line_width bytes) (taken + (line_width bytes + 1))) refl
  where
    says : Cut → Type 0
    says c = CutSays c taken bytes

    bare : (n : ℕ) → n ≤ length (take (line_width bytes) bytes) → has_newline (take n (take (line_width bytes) bytes)) ≡ false
    bare n fits =
        let long : length (take (line_width bytes) bytes) ≡ line_width bytes = length-take-le (line_width bytes) bytes (omega arith) in
        ap has_newline (take-take n (line_width bytes) bytes (omega arith)) ∙ bare_to n bytes (omega arith) (omega arith)

    by_limit : (long : Bool) → passes_limit (line_width bytes) (taken + (line_width bytes + 1)) ≡ long → says (whole_line taken bytes)
    by_limit true is = subst says (sym (whole_too_long_at taken bytes is)) tt
    by_limit false is =
        let line = stripped bytes (take (line_width bytes) bytes) (drop (line_width bytes + 1) bytes) (at_newline bytes within) bare in
        subst says (sym (whole_line_at taken (line_width bytes) bytes refl is)) (line, omega arith, short_of (line_width bytes) (taken + (line_width bytes + 1)) is)

-- the line that the script ends
last_says : (taken : ℕ) (bytes : List ℕ) → has_newline bytes ≡ false → 0 < length bytes → CutSays (last_line taken bytes) taken bytes
last_says taken bytes bare some = by_limit (passes_limit (length bytes) (taken + length bytes)) refl
  where
    says : Cut → Type 0
    says c = CutSays c taken bytes

    by_limit : (long : Bool) → passes_limit (length bytes) (taken + length bytes) ≡ long → says (last_line taken bytes)
    by_limit true is = subst says (sym (last_too_long taken bytes is)) tt
    by_limit false is =
        let line : BeginsWithLine bytes bytes [] = record { end = ScriptEnd; bare = bare; joined = sym (append-nil bytes); last = λ e. refl } in
        subst says (sym (when_false (passes_limit (length bytes) (taken + length bytes)) _ _ is)) (line, omega arith, short_of (length bytes) (taken + length bytes) is)

cut_says : (taken : ℕ) (bytes : List ℕ) → CutSays (next_cut taken bytes) taken bytes
cut_says taken bytes = by_newline (has_newline bytes) refl
  where
    says : Cut → Type 0
    says c = CutSays c taken bytes

    by_size : has_newline bytes ≡ false → (n : ℕ) → length bytes ≡ n → says (next_cut taken bytes)
    by_size bare zero none = subst says (sym (cut_none taken bytes none)) (nil_from_length bytes none)
    by_size bare (suc n) some = subst says (sym (cut_last taken bytes (reaches _ _ bare) (omega arith))) (last_says taken bytes bare (omega arith))

    by_newline : (has : Bool) → has_newline bytes ≡ has → says (next_cut taken bytes)
    by_newline true is = subst says (sym (cut_whole taken bytes (stands _ _ is))) (whole_says taken bytes (stands _ _ is))
    by_newline false is = by_size is (length bytes) refl

-- the lines of the bytes that are left are these bytes; all of them, where as many lines are taken as bytes may be left
record AreOfLines (most taken : ℕ) (bytes : List ℕ) (lines : Lines) : Type 0 where
  rest : List ℕ
  joined : AreLines lines.lines rest bytes
  whole : lines.too_long ≡ false → most_bytes < most + taken → taken ≤ most_bytes → rest ≡ []

lines_are : (most taken : ℕ) (bytes : List ℕ) → AreOfLines most taken bytes (lines_from most taken bytes)
unfolding lines_from
lines_are zero taken bytes = record { rest = bytes; joined = refl; whole = λ all enough within. absurd (omega arith) }
lines_are (suc most) taken bytes = by (next_cut taken bytes) (cut_says taken bytes) (lines_are most)
  where
    by : (c : Cut) → CutSays c taken bytes → ((now : ℕ) (behind : List ℕ) → AreOfLines most now behind (lines_from most now behind))
        → AreOfLines (suc most) taken bytes (lines_by c (lines_from most))
    by Ended says others = record { rest = []; joined = says; whole = λ all enough within. refl }
    by TooLong says others = record { rest = bytes; joined = refl; whole = λ all enough within. cc }
    by (Line line now behind) says others = let rest = others now behind in record {
      rest = rest.rest;
      joined = (behind, says.0, rest.joined);
      whole = λ all enough within. rest.whole all (omega arith) says.2;
    }

pub of_its_lines : (bytes : List ℕ) → IsOfItsLines bytes
of_its_lines bytes =
    let all = lines_are (most_bytes + 1) 0 bytes in
    record { rest = all.rest; joined = all.joined; whole = λ long. all.whole long (omega arith) (omega arith) }
