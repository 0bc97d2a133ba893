-- What is put on a page behind what stood there, where there was memory for all of it.
use Rattle.std.proofs.Common.{◌≡◌, ℕ, ◌+◌, ◌<◌, true, List, [], ◌∷◌, ◌++◌, length, get_or, drop, refl, sym, ap, ◌∙◌}
use Rattle.std.proofs.lemmas.List.{drop_more}
use Rattle.base_core.specs.declared.dialect.Dialect.{Dialect}
use Rattle.sql_text.specs.Written.{Piece, words, Written, put_piece, put_all, nothing_written, with_leading_separators}
use Rattle.sql_text.specs.Pages.{Paged, WroteOn, put_on, whole_page}
use Rattle.sql_text.proofs.Steps.{put_append, dialect_put, same_dialect}

unfoldable pub piece_on : Paged → Piece → Paged
piece_on page piece = record { written = put_piece page.written piece; is_whole = page.is_whole }

pub on_nil : (page : Paged) → put_on page [] ≡ page
unfolding put_on put_all
on_nil page = refl

pub on_cons : (page : Paged) (p : Piece) (ps : List Piece) → put_on page (p ∷ ps) ≡ put_on (piece_on page p) ps
unfolding put_on put_all piece_on
on_cons page p ps = refl

pub on_append : (page : Paged) (ps qs : List Piece) → put_on page (ps ++ qs) ≡ put_on (put_on page ps) qs
unfolding put_on
on_append page ps qs = ap (λ (w : Written). record { written = w; is_whole = page.is_whole }) (put_append page.written ps qs)

pub whole_one : (page : Paged) (p : Piece) → (piece_on page p).is_whole ≡ page.is_whole
unfolding piece_on
whole_one page p = refl

pub whole_on : (page : Paged) (ps : List Piece) → (put_on page ps).is_whole ≡ page.is_whole
unfolding put_on
whole_on page ps = refl

pub dialect_one : (page : Paged) (p : Piece) → (piece_on page p).written.dialect ≡ page.written.dialect
unfolding piece_on
dialect_one page p = dialect_put page.written p

-- the dialect stays
pub dialect_on : (page : Paged) (ps : List Piece) → (put_on page ps).written.dialect ≡ page.written.dialect
unfolding put_on
dialect_on page ps = same_dialect page.written ps

pub ruleset page_steps = (on_nil, on_cons, on_append, whole_one, whole_on, dialect_one, dialect_on)

-- a page that is whole was whole before
pub whole_before : (pieces : List Piece) (old new : Paged) → new.is_whole ≡ true → new ≡ put_on old pieces → old.is_whole ≡ true
whole_before pieces old new whole is = sym (whole_on old pieces) ∙ (sym (ap (λ (p : Paged). p.is_whole) is) ∙ whole)

pub wrote_then : (before after : List Piece) (old mid new : Paged) → WroteOn before old mid → WroteOn after mid new → WroteOn (before ++ after) old new
wrote_then before after old mid new first second whole =
    let last = second whole in
    last ∙ (ap (λ (m : Paged). put_on m after) (first (whole_before after mid new whole last)) ∙ sym (on_append old before after))

-- the same where what comes behind depends on the dialect
pub wrote_in : (before : List Piece) (after : Dialect → List Piece) (old mid new : Paged) → WroteOn before old mid → WroteOn (after mid.written.dialect) mid new → WroteOn (before ++ after old.written.dialect) old new
wrote_in before after old mid new first second whole =
    let last = second whole in
    let mid-is = first (whole_before (after mid.written.dialect) mid new whole last) in
    let there : mid.written.dialect ≡ old.written.dialect = ap (λ (p : Paged). p.written.dialect) mid-is ∙ dialect_on old before in
    wrote_then before (after old.written.dialect) old mid new first (λ h. last ∙ ap (λ (q : Dialect). put_on mid (after q)) there) whole

-- the items from a place on begin with the one at that place
pub dropped : {A : Type 0} (xs : List A) (i : ℕ) (x : A) → i < length xs → x ≡ get_or xs i x → drop i xs ≡ x ∷ drop (i + 1) xs
dropped {A} xs i x less is = drop_more xs i x less ∙ ap (λ (y : A). y ∷ drop (i + 1) xs) (sym is)

-- one more part of what a loop writes
pub more_on : (part rest all : List Piece) (old new done : Paged) → all ≡ part ++ rest → (old.is_whole ≡ true → put_on old all ≡ done) → WroteOn part old new → new.is_whole ≡ true → put_on new rest ≡ done
more_on part rest all old new done all-is so-far wrote whole =
    let new-is = wrote whole in
    ap (λ (p : Paged). put_on p rest) new-is ∙ (sym (on_append old part rest) ∙ (sym (ap (put_on old) all-is) ∙ so-far (whole_before part old new whole new-is)))

-- one more item of a list, behind its separator
pub led_on : {A : Type 0} (word : List ℕ) (f : A → List Piece) (x : A) (rest xs : List A) (old mid new done : Paged) → xs ≡ x ∷ rest
    → (old.is_whole ≡ true → put_on old (with_leading_separators word f xs) ≡ done) → WroteOn (words word ∷ []) old mid → WroteOn (f x) mid new
    → new.is_whole ≡ true → put_on new (with_leading_separators word f rest) ≡ done
led_on word f x rest xs old mid new done xs-is so-far first second =
    more_on (words word ∷ f x) (with_leading_separators word f rest) (with_leading_separators word f xs) old new done
    (ap (with_leading_separators word f) xs-is)
    so-far
    (wrote_then (words word ∷ []) (f x) old mid new first second)

-- the same where its pieces depend on the dialect
pub led_in : {A : Type 0} (pieces : Dialect → A → List Piece) (word : List ℕ) (x : A) (rest xs all : List A) (start old mid new : Paged) → xs ≡ x ∷ rest
    → (old.is_whole ≡ true → (old.written.dialect ≡ start.written.dialect) × (put_on old (with_leading_separators word (pieces start.written.dialect) xs) ≡ put_on start (with_leading_separators word (pieces start.written.dialect) all)))
    → WroteOn (words word ∷ []) old mid → WroteOn (pieces mid.written.dialect x) mid new
    → new.is_whole ≡ true → (new.written.dialect ≡ start.written.dialect) × (put_on new (with_leading_separators word (pieces start.written.dialect) rest) ≡ put_on start (with_leading_separators word (pieces start.written.dialect) all))
led_in pieces word x rest xs all start old mid new xs-is so-far first second whole =
    let new-is = second whole in
    let mid-whole = whole_before (pieces mid.written.dialect x) mid new whole new-is in
    let mid-is = first mid-whole in
    let before = so-far (whole_before (words word ∷ []) old mid mid-whole mid-is) in
    let there : mid.written.dialect ≡ start.written.dialect = ap (λ (p : Paged). p.written.dialect) mid-is ∙ (dialect_on old (words word ∷ []) ∙ before.0) in
    let after : new.written.dialect ≡ start.written.dialect = ap (λ (p : Paged). p.written.dialect) new-is ∙ (dialect_on mid (pieces mid.written.dialect x) ∙ there) in
    let here : WroteOn (pieces start.written.dialect x) mid new = λ h. new-is ∙ ap (λ (q : Dialect). put_on mid (pieces q x)) there in
    (after, led_on word (pieces start.written.dialect) x rest xs old mid new _ xs-is (λ h. before.1) first here whole)

-- what was written on a page from nothing on
pub written_on : (dialect : Dialect) (pieces : List Piece) (empty page : Paged) → empty ≡ whole_page (nothing_written dialect) → WroteOn pieces empty page → page.is_whole ≡ true → page.written ≡ put_all (nothing_written dialect) pieces
unfolding put_on
written_on dialect pieces empty page empty-is wrote whole =
    ap (λ (p : Paged). p.written) (wrote whole) ∙ ap (λ (p : Paged). put_all p.written pieces) empty-is

-- and its text
pub text_on : (dialect : Dialect) (pieces : List Piece) (empty page : Paged) (text : List ℕ) → empty ≡ whole_page (nothing_written dialect) → WroteOn pieces empty page → page.is_whole ≡ true → text ≡ page.written.text → (put_all (nothing_written dialect) pieces).text ≡ text
text_on dialect pieces empty page text empty-is wrote whole text-is =
    sym (text-is ∙ ap (λ (w : Written). w.text) (written_on dialect pieces empty page empty-is wrote whole))
