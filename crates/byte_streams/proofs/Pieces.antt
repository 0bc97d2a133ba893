-- What the bytes that were read tell of the next line, whatever bytes are still to come.
use Rattle.std.proofs.Common.{◌≡◌, ℕ, ◌+◌, ◌<◌, ◌≤◌, Bool, true, false, cond, eqb, ltb, not, List, [], ◌++◌, length, take, drop, refl, sym, ap, ◌∙◌, subst, arith, length-append}
use Rattle.std.proofs.lemmas.List.{append-nil, take-append-le, drop-append-le, take-take, take_all, drop_all}
use Rattle.std.proofs.lemmas.List.Folds.{prefix_len-append}
use Rattle.std.proofs.lemmas.List.Sums.{prefix_len-le-length}
use Rattle.std.proofs.lemmas.Bool.Decides.{nat_tests}
use Rattle.std.specs.Io.BufRead.{strip_last}
use Rattle.byte_streams.specs.Cutting.{is_newline, carriage_return, line_width, has_newline, whole_line, last_line, passes_limit, most_bytes, next_cut, TooLong, Ended, Line, Cut}

pub when_true : (test : Bool) (x y : Cut) → test ≡ true → cond test x y ≡ x
when_true true x y is = refl
when_true false x y is = cc

pub when_false : (test : Bool) (x y : Cut) → test ≡ false → cond test x y ≡ y
when_false true x y is = cc
when_false false x y is = refl

pub below : (a b : ℕ) → a < b → ltb a b ≡ true
below a b is = grind (arith, nat_tests)

pub not_below : (a b : ℕ) → b ≤ a → ltb a b ≡ false
not_below a b is = grind (arith, nat_tests)

pub stands : (a b : ℕ) → ltb a b ≡ true → a < b
stands a b is = grind (arith, nat_tests)

pub reaches : (a b : ℕ) → ltb a b ≡ false → b ≤ a
reaches a b is = grind (arith, nat_tests)

pub same : (a b : ℕ) → a ≡ b → eqb a b ≡ true
same a b is = grind (arith, nat_tests)

other : (a b : ℕ) → b < a → eqb a b ≡ false
other a b is = grind (arith, nat_tests)

passes_more : (a b c d : ℕ) → a ≤ b → c ≤ d → passes_limit a c ≡ true → passes_limit b d ≡ true
passes_more a b c d h i p = grind (arith, nat_tests)

passes_some : (width taken : ℕ) → taken ≤ most_bytes → passes_limit width (taken + width) ≡ true → 0 < width
passes_some width taken few long = grind (arith, nat_tests)

-- bytes behind a newline leave the first one where it is
pub width_more : (bytes more : List ℕ) → line_width bytes < length bytes → line_width (bytes ++ more) ≡ line_width bytes
width_more bytes more within =
    let e = prefix_len-append (λ (b : ℕ). not (is_newline b)) bytes more in
    grind (arith, nat_tests)

-- bytes without a newline stand before the first one of what follows
width_past : (bytes more : List ℕ) → length bytes ≤ line_width bytes → length bytes ≤ line_width (bytes ++ more)
width_past bytes more bare =
    let e = prefix_len-append (λ (b : ℕ). not (is_newline b)) bytes more in
    let most = prefix_len-le-length (λ (b : ℕ). not (is_newline b)) bytes in
    grind (arith, nat_tests)

pub has_more : (bytes more : List ℕ) → line_width bytes < length bytes → has_newline (bytes ++ more) ≡ true
has_more bytes more within = below (line_width (bytes ++ more)) (length (bytes ++ more)) (omega (arith, width_more bytes more within, length-append bytes more))

pub cut_whole : (taken : ℕ) (bytes : List ℕ) → line_width bytes < length bytes → next_cut taken bytes ≡ whole_line taken bytes
unfolding next_cut
cut_whole taken bytes within = when_true (has_newline bytes) _ _ (below _ _ within)

pub cut_last : (taken : ℕ) (bytes : List ℕ) → length bytes ≤ line_width bytes → 0 < length bytes → next_cut taken bytes ≡ last_line taken bytes
unfolding next_cut
cut_last taken bytes bare some = when_false (has_newline bytes) _ _ (not_below _ _ bare) ∙ when_false (eqb (length bytes) 0) _ _ (other _ _ some)

pub cut_none : (taken : ℕ) (bytes : List ℕ) → length bytes ≡ 0 → next_cut taken bytes ≡ Ended
unfolding next_cut
cut_none taken bytes none = when_false (has_newline bytes) _ _ (not_below _ _ (omega arith)) ∙ when_true (eqb (length bytes) 0) _ _ (same _ _ none)

pub whole_too_long_at : (taken : ℕ) (bytes : List ℕ) → passes_limit (line_width bytes) (taken + (line_width bytes + 1)) ≡ true → whole_line taken bytes ≡ TooLong
whole_too_long_at taken bytes long = when_true (passes_limit (line_width bytes) (taken + (line_width bytes + 1))) _ _ long

pub whole_line_at : (taken width : ℕ) (bytes : List ℕ) → width ≡ line_width bytes → passes_limit width (taken + (width + 1)) ≡ false
    → whole_line taken bytes ≡ Line (strip_last carriage_return (take width bytes)) (taken + (width + 1)) (drop (width + 1) bytes)
whole_line_at taken width bytes is short = subst (λ (w : ℕ). passes_limit w (taken + (w + 1)) ≡ false → whole_line taken bytes ≡ Line (strip_last carriage_return (take w bytes)) (taken + (w + 1)) (drop (w + 1) bytes)) (sym is) (λ h. when_false (passes_limit (line_width bytes) (taken + (line_width bytes + 1))) _ _ h) short

pub last_too_long : (taken : ℕ) (bytes : List ℕ) → passes_limit (length bytes) (taken + length bytes) ≡ true → last_line taken bytes ≡ TooLong
last_too_long taken bytes long = when_true (passes_limit (length bytes) (taken + length bytes)) _ _ long

-- the line that a newline ends

pub whole_too_long : (bytes more : List ℕ) (taken width : ℕ) → width ≡ line_width bytes → width < length bytes → passes_limit width (taken + (width + 1)) ≡ true → next_cut taken (bytes ++ more) ≡ TooLong
whole_too_long bytes more taken width is within long =
    let e : line_width (bytes ++ more) ≡ width = width_more bytes more (omega arith) ∙ sym is in
    cut_whole taken (bytes ++ more) (omega (arith, length-append bytes more))
    ∙ whole_too_long_at taken (bytes ++ more) (passes_more width (line_width (bytes ++ more)) (taken + (width + 1)) (taken + (line_width (bytes ++ more) + 1)) (omega arith) (omega arith) long)

pub whole_is : (bytes more : List ℕ) (taken width size : ℕ) → width ≡ line_width bytes → width < length bytes → size ≤ width → take size (take width bytes) ≡ strip_last carriage_return (take width bytes)
    → passes_limit width (taken + (width + 1)) ≡ false → next_cut taken (bytes ++ more) ≡ Line (take size bytes) (taken + (width + 1)) (drop (width + 1) bytes ++ more)
whole_is bytes more taken width size is within fits stripped short =
    let e : width ≡ line_width (bytes ++ more) = is ∙ sym (width_more bytes more (omega arith)) in
    let front : take width (bytes ++ more) ≡ take width bytes = take-append-le width bytes more (omega arith) in
    let rest : drop (width + 1) (bytes ++ more) ≡ drop (width + 1) bytes ++ more = drop-append-le (width + 1) bytes more (omega arith) in
    let line : take size bytes ≡ strip_last carriage_return (take width bytes) = sym (take-take size width bytes fits) ∙ stripped in
    cut_whole taken (bytes ++ more) (omega (arith, length-append bytes more))
    ∙ whole_line_at taken width (bytes ++ more) e short
    ∙ rw (front, rest, line) refl

-- bytes without a newline

pub open_too_long : (bytes more : List ℕ) (taken : ℕ) → taken ≤ most_bytes → length bytes ≤ line_width bytes → passes_limit (length bytes) (taken + length bytes) ≡ true → next_cut taken (bytes ++ more) ≡ TooLong
open_too_long bytes more taken few bare long = by_newline (has_newline (bytes ++ more)) refl
  where
    all : length (bytes ++ more) ≡ length bytes + length more
    all = length-append bytes more

    by_newline : (has : Bool) → has_newline (bytes ++ more) ≡ has → next_cut taken (bytes ++ more) ≡ TooLong
    by_newline true is =
        let past = width_past bytes more bare in
        cut_whole taken (bytes ++ more) (stands (line_width (bytes ++ more)) (length (bytes ++ more)) is) ∙ whole_too_long_at taken (bytes ++ more) (passes_more (length bytes) (line_width (bytes ++ more)) (taken + length bytes) (taken + (line_width (bytes ++ more) + 1)) past (omega arith) long)
    by_newline false is =
        let some : 0 < length bytes = passes_some (length bytes) taken few long in
        let bare_all : length (bytes ++ more) ≤ line_width (bytes ++ more) = reaches (line_width (bytes ++ more)) (length (bytes ++ more)) is in
        cut_last taken (bytes ++ more) bare_all (omega (arith, all))
        ∙ last_too_long taken (bytes ++ more) (passes_more (length bytes) (length (bytes ++ more)) (taken + length bytes) (taken + length (bytes ++ more)) (omega (arith, all)) (omega (arith, all)) long)

pub ended_empty : (bytes more : List ℕ) (taken : ℕ) → more ≡ [] → length bytes ≡ 0 → next_cut taken (bytes ++ more) ≡ Ended
ended_empty bytes more taken nothing empty = cut_none taken (bytes ++ more) (omega (arith, length-append bytes more, ap length nothing))

pub ended_is : (bytes more : List ℕ) (taken : ℕ) → more ≡ [] → 0 < length bytes → length bytes ≤ line_width bytes → passes_limit (length bytes) (taken + length bytes) ≡ false
    → next_cut taken (bytes ++ more) ≡ Line (take (length bytes) bytes) (taken + length bytes) (drop (length bytes) bytes ++ more)
ended_is bytes more taken nothing some bare short =
    let front : take (length bytes) bytes ≡ bytes = take_all (length bytes) bytes (omega arith) in
    let rest : drop (length bytes) bytes ≡ [] = drop_all (length bytes) bytes (omega arith) in
    rw (nothing, front, rest, append-nil bytes) (cut_last taken bytes bare some ∙ when_false (passes_limit (length bytes) (taken + length bytes)) _ _ short)
