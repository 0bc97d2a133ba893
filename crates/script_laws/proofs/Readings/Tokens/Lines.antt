-- The tokens that are cut of a line are those that are spelled there, and no others are.
use Rattle.std.proofs.Common.{◌≡◌, ◌⊎◌, inl, inr, ℕ, zero, suc, ◌+◌, ◌-◌, ◌<◌, ◌≤◌, ◌≢◌, Bool, true, false, ◌&&◌, ◌||◌, if◌then◌else◌, ◌==◌, List, [], ◌∷◌, ◌++◌, length, drop, slice_index, Option, Some, None, refl, ap, sym, subst, ◌∙◌, append-nil, length-append, arith}
use Rattle.std.proofs.Math.Seq.{drop-append_seam}
use Rattle.std.proofs.lemmas.Bool.{eqb-true}
use Rattle.script_lex.specs.declared.kind.Kind.{Kind}
use Rattle.script_lex.specs.declared.kind.Kind.TheVariants as k
use Rattle.script_lex.specs.declared.token.Content.{Content}
use Rattle.script_lex.specs.declared.token.Content.TheVariants.{Nothing}
use Rattle.script_lex.specs.declared.token.Token.{Token}
use Rattle.script_lex.specs.declared.shape.Class.TheVariants as class
use Rattle.script_lex.specs.Shape.{Text, is_in, keyword, symbol, token_prefix}
use Rattle.script_lex.specs.Content.{content, content_by}
use Rattle.script_lex.specs.Lex.{same_kind, is_blank, token_or_bad, first_token, tokens_from, tokens}
use Rattle.script_lex.proofs.TokensGo.{tokens_step, tokens_end}
use Rattle.script_tokens.proofs.Alike.{same, alike}
use Rattle.script_laws.specs.Readings.Tokens.Spelling.{every, with_quotes_doubled, starts, symbol as symbol_text, Spells, Word, QuotedName, QuotedText, QuotedBytes, Digits, Sign, Minus, Symbol, IsSpelled}
use Rattle.script_laws.specs.Readings.Tokens.Cutting.{IsFirst, BeginsNoToken, IsNext, Ends, LineEnd, Fault, AreTokens, CutsTokens, CutsAllTokens}
use Rattle.script_laws.proofs.Readings.Tokens.Runs.{true_false, false_true, both_true, if_true, if_false, none_some}
use Rattle.script_laws.proofs.Readings.Tokens.Words.{plain_good, keyword_plain, symbol_plain, content_at}
use Rattle.script_laws.proofs.Readings.Tokens.Reached.{bytes_good, number_good, signed_good, names, texts, Reached, reached}
use Rattle.script_laws.proofs.Readings.Tokens.Right.{begun}

-- ---- the first token

-- what is cut of a text: the token that it begins with, or a byte that begins none
data Cut (at : ℕ) (z : Text) (t : Token × ℕ) : Type 0 where
  Front : (spelling behind : Text) → z ≡ spelling ++ behind → t.1 ≡ length spelling → t.0.at ≡ at → same_kind t.0.kind k.Bad ≡ false
      → IsFirst t.0.kind t.0.content spelling behind → Cut at z t
  NoToken : t.0.kind ≡ k.Bad → t.0.at ≡ at → BeginsNoToken z → Cut at z t

-- what is spelled at the front is reached
reached_in : (z s b : Text) (kind : Kind) (held : Content) → z ≡ s ++ b → Spells kind held s b → Reached z (length s) kind held
reached_in z s b kind held split said = subst (λ t. Reached t (length s) kind held) (sym split) (reached kind held s b said)

-- where nothing is held, nothing is spelled
none_held : (z : Text) → content (token_prefix z).0 (token_prefix z).1 z ≡ None → BeginsNoToken z
none_held z none s b split said =
    let r = reached_in z s b said.kind said.content split said.spelled in
    absurd (none_some (sym none ∙ ap (λ p. content p.0 p.1 z) r.is ∙ r.holds))

none_good : (z : Text) → same_kind (token_prefix z).0 k.Bad ≡ true → BeginsNoToken z
none_good z bad s b split said =
    let r = reached_in z s b said.kind said.content split said.spelled in
    absurd (true_false (sym bad ∙ ap (λ p. same_kind p.0 k.Bad) r.is ∙ r.good))

no_longer : (n len : ℕ) (kind found : Kind) (held what : Content) → (suc n ≤ len) ⊎ ((n ≡ len) × (kind ≡ found) × (held ≡ what)) → n ≤ len
no_longer n len kind found held what (inl less) = omega (arith, less)
no_longer n len kind found held what (inr same) = omega (arith, same.0)

longest_by : (z s b : Text) (len : ℕ) → z ≡ s ++ b → len ≡ length s → (token_prefix z).1 ≡ len → (other rest : Text) → s ++ b ≡ other ++ rest
    → IsSpelled other rest → length other ≤ length s
longest_by z s b len split long is other rest joined said =
    let r = reached_in z other rest said.kind said.content (split ∙ joined) said.spelled in
    let far : length other ≤ r.len = no_longer (length other) r.len said.kind r.found said.content r.what r.far in
    let same : r.len ≡ len = ap (λ p. p.1) (sym r.is) ∙ is in
    omega (arith, far, same, long)

held_by : (at x : ℕ) (w : Text) (o : Option Content) → content (token_prefix (x ∷ w)).0 (token_prefix (x ∷ w)).1 (x ∷ w) ≡ o
    → (bad : Bool) → same_kind (token_prefix (x ∷ w)).0 k.Bad ≡ bad → Cut at (x ∷ w) (token_or_bad at (token_prefix (x ∷ w)).0 (token_prefix (x ∷ w)).1 o)
held_by at x w None none bad is = NoToken refl refl (none_held (x ∷ w) none)
held_by at x w (Some held) holds true is = NoToken (same is) refl (none_good (x ∷ w) is)
held_by at x w (Some held) holds false is =
    let z = x ∷ w in
    let p = token_prefix z in
    let g = begun x w is in
    let known : content_by p.0 g.spelling z ≡ Some held =
    ap (content_by p.0 g.spelling) g.joined ∙ sym (content_at p.0 p.1 g.spelling g.behind g.long) ∙ ap (content p.0 p.1) (sym g.joined) ∙ holds in
    Front g.spelling g.behind g.joined g.long refl is
    (record { spelled = g.spelled held known; longest = longest_by z g.spelling g.behind p.1 g.joined g.long refl })

cut_of : (at x : ℕ) (w : Text) → Cut at (x ∷ w) (first_token at (x ∷ w))
unfolding first_token
cut_of at x w =
    let z = x ∷ w in
    held_by at x w (content (token_prefix z).0 (token_prefix z).1 z) refl (same_kind (token_prefix z).0 k.Bad) refl

-- ---- blanks

blank_is : (x : ℕ) (space : Bool) → (x == 32) ≡ space → (space || x == 9) ≡ true → (x ≡ 32) ⊎ (x ≡ 9)
blank_is x true is e = inl (eqb-true x 32 is)
blank_is x false is e = inr (eqb-true x 9 e)

blank_bad : (x : ℕ) (w : Text) → (x ≡ 32) ⊎ (x ≡ 9) → same_kind (token_prefix (x ∷ w)).0 k.Bad ≡ true
unfolding token_prefix symbol
blank_bad x w (inl is) = subst (λ y. same_kind (token_prefix (y ∷ w)).0 k.Bad ≡ true) (sym is) (alike refl)
blank_bad x w (inr is) = subst (λ y. same_kind (token_prefix (y ∷ w)).0 k.Bad ≡ true) (sym is) (alike refl)

end_bad : same_kind (token_prefix []).0 k.Bad ≡ true
unfolding token_prefix symbol
end_bad = alike refl

-- a text that begins with a token begins with no blank
solid_by : (x : ℕ) (w s b : Text) → x ∷ w ≡ s ++ b → IsSpelled s b → (blank : Bool) → is_blank x ≡ blank → blank ≡ false
solid_by x w s b split said false is = refl
solid_by x w s b split said true is = absurd (none_good (x ∷ w) (blank_bad x w (blank_is x (x == 32) refl is)) s b split said)

record Solid (z : Text) : Type 0 where
  first : ℕ
  more : Text
  joined : z ≡ first ∷ more
  no_blank : is_blank first ≡ false

solid : (z s b : Text) → z ≡ s ++ b → IsSpelled s b → Solid z
solid [] s b split said = absurd (none_good [] end_bad s b split said)
solid (x ∷ w) s b split said = record { first = x; more = w; joined = refl; no_blank = solid_by x w s b split said (is_blank x) refl }

some_length : (s : Text) → s ≢ [] → 1 ≤ length s
some_length [] some = absurd (some refl)
some_length (x ∷ s) some = omega arith

is_some_text : Option Text → Bool
is_some_text None = true
is_some_text (Some []) = false
is_some_text (Some (x ∷ s)) = true

all_some : (kind : Kind) → is_some_text (symbol_text kind) ≡ true
unfolding is_some_text
all_some k.LParen = refl
all_some _ = refl

symbol_some : (kind : Kind) (s : Text) → symbol_text kind ≡ Some s → s ≢ []
unfolding is_some_text
symbol_some kind s e none = false_true (sym (ap is_some_text (e ∙ ap Some none)) ∙ all_some kind)

-- a token has a byte or more
spelled_length : (kind : Kind) (held : Content) (s b : Text) → Spells kind held s b → 1 ≤ length s
spelled_length kind held s b (Word is same holds) = some_length s (λ none. false_true (sym (ap (starts (is_in class.Word)) none) ∙ is.1))
spelled_length kind held s b (QuotedName name utf8 is ends same holds) = let long : length s ≡ suc (length (with_quotes_doubled 34 name ++ 34 ∷ [])) = ap length is in omega (arith, long)
spelled_length kind held s b (QuotedText text utf8 is ends same holds) = let long : length s ≡ suc (length (with_quotes_doubled 39 text ++ 39 ∷ [])) = ap length is in omega (arith, long)
spelled_length kind held s b (QuotedBytes digits all even is same holds) = let long : length s ≡ suc (suc (length (digits ++ 39 ∷ []))) = ap length is in omega (arith, long)
spelled_length kind held s b (Digits some all same holds) = some_length s some
spelled_length kind held s b (Sign is digit same holds) = let long : length s ≡ 1 = ap length is in omega (arith, long)
spelled_length kind held s b (Minus is digit same holds) = let long : length s ≡ 1 = ap length is in omega (arith, long)
spelled_length kind held s b (Symbol is holds) = some_length s (symbol_some kind s is)

blanks_passed : (at : ℕ) (blanks rest : Text) → every is_blank blanks ≡ true → tokens_from 0 at (blanks ++ rest) ≡ tokens_from 0 (at + length blanks) rest
blanks_passed at [] rest all = let same : at ≡ at + 0 = omega arith in ap (λ n. tokens_from 0 n rest) same
blanks_passed at (b ∷ blanks) rest all =
    let parts = both_true (is_blank b) (every is_blank blanks) all in
    let there : (at + 1) + length blanks ≡ at + suc (length blanks) = omega arith in
    if_true (is_blank b) _ _ parts.0 ∙ blanks_passed (at + 1) blanks rest parts.1 ∙ ap (λ n. tokens_from 0 n rest) there

-- ---- what is cut is spelled

record IsCut (at : ℕ) (z : Text) (all : List Token) : Type 0 where
  found : List Token
  last : Token
  joined : all ≡ found ++ last ∷ []
  are : AreTokens at z found last

are_before : (b at : ℕ) (z : Text) (found : List Token) (last : Token) → is_blank b ≡ true → AreTokens (at + 1) z found last → AreTokens at (b ∷ z) found last
are_before b at z [] last is (LineEnd all kind place) =
    let there : last.at ≡ at + suc (length z) = omega (arith, place) in
    LineEnd (ap (λ c. c && every is_blank z) is ∙ all) kind there
are_before b at z [] last is (Fault blanks c behind split all stops none kind place) =
    let there : last.at ≡ at + suc (length blanks) = omega (arith, place) in
    Fault (b ∷ blanks) c behind (ap (λ w. b ∷ w) split) (ap (λ d. d && every is_blank blanks) is ∙ all) stops none kind there
are_before b at z (t ∷ ts) last is said =
    let next = said.0 in
    let there : t.at ≡ at + suc (length next.blanks) = omega (arith, next.placed) in (
      record {
        blanks = b ∷ next.blanks;
        spelling = next.spelling;
        behind = next.behind;
        joined = ap (λ w. b ∷ w) next.joined;
        blank = ap (λ d. d && every is_blank next.blanks) is ∙ next.blank;
        placed = there;
        first = next.first;
      },
      said.1,
    )

-- what is cut behind so many bytes
abbrev Rest : ℕ → Text → Type 0
Rest at z = (left : ℕ) → left ≤ length z → IsCut ((at + 1) + left) (drop left z) (tokens_from left (at + 1) z)

cut_first : (at b : ℕ) (z : Text) (t : Token × ℕ) → Cut at (b ∷ z) t → is_blank b ≡ false → Rest at z
    → IsCut at (b ∷ z) (if same_kind t.0.kind k.Bad then t.0 ∷ [] else t.0 ∷ tokens_from (t.1 - 1) (at + 1) z)
cut_first at b z t (NoToken bad place none) no_blank rec =
    let there : t.0.at ≡ at + 0 = omega (arith, place) in
    record { found = []; last = t.0; joined = if_true (same_kind t.0.kind k.Bad) _ _ (alike bad); are = Fault [] b z refl refl no_blank none bad there }
cut_first at b z t (Front s r split long place good first) no_blank rec =
    let some : 1 ≤ length s = spelled_length t.0.kind t.0.content s r first.spelled in
    let all : suc (length z) ≡ length s + length r = ap length split ∙ length-append s r in
    let less : t.1 - 1 ≤ length z = omega (arith, some, all, long) in
    let c = rec (t.1 - 1) less in
    let count : length s ≡ suc (t.1 - 1) = omega (arith, some, long) in
    let rest : drop (t.1 - 1) z ≡ r = sym (ap (λ n. drop n (b ∷ z)) count) ∙ ap (drop (length s)) split ∙ drop-append_seam s r in
    let there : (at + 1) + (t.1 - 1) ≡ t.0.at + length s = omega (arith, place, count) in
    let place_here : t.0.at ≡ at + 0 = omega (arith, place) in
    record {
      found = t.0 ∷ c.found;
      last = c.last;
      joined = if_false (same_kind t.0.kind k.Bad) _ _ good ∙ ap (λ ts. t.0 ∷ ts) c.joined;
      are = (
        record { blanks = []; spelling = s; behind = r; joined = split; blank = refl; placed = place_here; first = first },
        subst (λ n. AreTokens n r c.found c.last) there (subst (λ w. AreTokens ((at + 1) + (t.1 - 1)) w c.found c.last) rest c.are),
      );
    }

cut_by : (at b : ℕ) (z : Text) (blank : Bool) → is_blank b ≡ blank → Rest at z
    → IsCut at (b ∷ z) (if blank then tokens_from 0 (at + 1) z
    else (let t = first_token at (b ∷ z) in if same_kind t.0.kind k.Bad then t.0 ∷ [] else t.0 ∷ tokens_from (t.1 - 1) (at + 1) z))
cut_by at b z true is rec =
    let none : 0 ≤ length z = omega arith in
    let c = rec 0 none in
    let here : (at + 1) + 0 ≡ at + 1 = omega arith in
    record { found = c.found; last = c.last; joined = c.joined; are = are_before b at z c.found c.last is (subst (λ n. AreTokens n z c.found c.last) here c.are) }
cut_by at b z false is rec = cut_first at b z (first_token at (b ∷ z)) (cut_of at b z) is rec

cut_from : (left at : ℕ) (z : Text) → left ≤ length z → IsCut (at + left) (drop left z) (tokens_from left at z)
cut_from zero at [] less =
    let there : at ≡ at + 0 + 0 = omega arith in
    record { found = []; last = record { kind = k.LineEnd; content = Nothing; at = at }; joined = refl; are = LineEnd refl refl there }
cut_from (suc left) at [] less = absurd (omega arith)
cut_from (suc left) at (b ∷ z) less =
    let below : left ≤ length z = omega arith in
    let there : (at + 1) + left ≡ at + suc left = omega arith in
    subst (λ n. IsCut n (drop left z) (tokens_from left (at + 1) z)) there (cut_from left (at + 1) z below)
cut_from zero at (b ∷ z) less =
    let here : at ≡ at + 0 = omega arith in
    subst (λ n. IsCut n (b ∷ z) (tokens_from 0 at (b ∷ z))) here (cut_by at b z (is_blank b) refl (λ left. cut_from left (at + 1) z))

pub cuts_tokens : CutsTokens
unfolding tokens
cuts_tokens line =
    let none : 0 ≤ length line = omega arith in
    let c = cut_from 0 0 line none in
    let here : 0 + 0 ≡ 0 = omega arith in
    (c.found, c.last, c.joined, subst (λ n. AreTokens n line c.found c.last) here c.are)

-- ---- what is spelled is cut

-- of what reaches so far, nothing reaches further
exact_by : (at : ℕ) (found : Kind) (len : ℕ) (what : Content) (n : ℕ) (kind : Kind) (held : Content) → len ≤ n
    → (suc n ≤ len) ⊎ ((n ≡ len) × (kind ≡ found) × (held ≡ what))
    → ◌≡◌ {A = Token × ℕ} (record { kind = found; content = what; at = at }, len) (record { kind = kind; content = held; at = at }, n)
exact_by at found len what n kind held less (inl more) = absurd (omega (arith, less, more))
exact_by at found len what n kind held less (inr same) =
    ap (λ m. (record { kind = found; content = what; at = at }, m)) (sym same.0) ∙ ap (λ x. (record { kind = x; content = what; at = at }, n)) (sym same.1)
    ∙ ap (λ x. (record { kind = kind; content = x; at = at }, n)) (sym same.2)

within_len : (n m len : ℕ) → len ≡ m → m ≤ n → len ≤ n
within_len n m len same less = omega (arith, same, less)

spelled_good : (kind : Kind) (held : Content) (s b : Text) → Spells kind held s b → same_kind kind k.Bad ≡ false
spelled_good kind held s b (Word is same holds) = ap (λ x. same_kind x k.Bad) same ∙ plain_good (keyword s) (keyword_plain s)
spelled_good kind held s b (QuotedName name utf8 is ends same holds) = ap (λ x. same_kind x k.Bad) same ∙ names.good
spelled_good kind held s b (QuotedText text utf8 is ends same holds) = ap (λ x. same_kind x k.Bad) same ∙ texts.good
spelled_good kind held s b (QuotedBytes digits all even is same holds) = ap (λ x. same_kind x k.Bad) same ∙ bytes_good
spelled_good kind held s b (Digits some all same holds) = ap (λ x. same_kind x k.Bad) same ∙ number_good
spelled_good kind held s b (Sign is digit same holds) = ap (λ x. same_kind x k.Bad) same ∙ signed_good
spelled_good kind held s b (Minus is digit same holds) = ap (λ x. same_kind x k.Bad) same ∙ plain_good k.Minus refl
spelled_good kind held s b (Symbol is holds) = plain_good kind (symbol_plain kind s is)

-- the token that a text begins with is the one that is cut
first_by : (at : ℕ) (z s b : Text) (kind : Kind) (held : Content) (t : Token × ℕ) → Cut at z t → first_token at z ≡ t → z ≡ s ++ b → IsFirst kind held s b
    → first_token at z ≡ (record { kind = kind; content = held; at = at }, length s)
unfolding first_token
first_by at z s b kind held t (NoToken bad place none) cut split first =
    absurd (none s b split (record { kind = kind; content = held; spelled = first.spelled }))
first_by at z s b kind held t (Front f r front long place good other) cut split first =
    let reach = reached_in z s b kind held split first.spelled in
    let told : first_token at z ≡ (record { kind = reach.found; content = reach.what; at = at }, reach.len) =
    ap (λ p. token_or_bad at p.0 p.1 (content p.0 p.1 z)) reach.is ∙ ap (token_or_bad at reach.found reach.len) reach.holds in
    let less : length f ≤ length s =
    first.longest f r (sym split ∙ front) (record { kind = t.0.kind; content = t.0.content; spelled = other.spelled }) in
    let same_len : reach.len ≡ length f = ap (λ p. p.1) (sym told ∙ cut) ∙ long in
    told ∙ exact_by at reach.found reach.len reach.what (length s) kind held (within_len (length s) (length f) reach.len same_len less) reach.far

first_is : (at : ℕ) (z s b : Text) (kind : Kind) (held : Content) → z ≡ s ++ b → IsFirst kind held s b
    → first_token at z ≡ (record { kind = kind; content = held; at = at }, length s)
first_is at [] s b kind held split first = absurd (none_good [] end_bad s b split (record { kind = kind; content = held; spelled = first.spelled }))
first_is at (x ∷ w) s b kind held split first = first_by at (x ∷ w) s b kind held (first_token at (x ∷ w)) (cut_of at x w) refl split first

rest_is : (at : ℕ) (z s b : Text) (t : Token) → z ≡ s ++ b → first_token at z ≡ (t, length s) → 1 ≤ length s → Solid z → same_kind t.kind k.Bad ≡ false
    → tokens_from 0 at z ≡ t ∷ tokens_from 0 (at + length s) b
rest_is at z s b t split cut some solid good =
    let all : length z ≡ length s + length b = ap length split ∙ length-append s b in
    let one : 0 < length z = omega (arith, all, some) in
    let no_blank : is_blank (slice_index z 0) ≡ false = ap (λ w. is_blank (slice_index w 0)) solid.joined ∙ solid.no_blank in
    let good_here : same_kind (first_token at z).0.kind k.Bad ≡ false = ap (λ p. same_kind p.0.kind k.Bad) cut ∙ good in
    let len : (first_token at z).1 ≡ length s = ap (λ p. p.1) cut in
    let low : 1 ≤ (first_token at z).1 = omega (arith, len, some) in
    let high : (first_token at z).1 ≤ length z = omega (arith, len, all) in
    tokens_step at z one no_blank good_here low high ∙ ap (λ p. p.0 ∷ tokens_from 0 (at + p.1) (drop p.1 z)) cut
    ∙ ap (λ w. t ∷ tokens_from 0 (at + length s) w) (ap (drop (length s)) split ∙ drop-append_seam s b)

next_is : (at : ℕ) (z : Text) (t : Token) (next : IsNext at z t) → tokens_from 0 at z ≡ t ∷ tokens_from 0 (t.at + length next.spelling) next.behind
next_is at z t next =
    let s = next.spelling in
    let b = next.behind in
    let w = s ++ b in
    let said : IsSpelled s b = record { kind = t.kind; content = t.content; spelled = next.first.spelled } in
    let starts_so = solid w s b refl said in
    let cut : first_token t.at w ≡ (t, length s) = first_is t.at w s b t.kind t.content refl next.first in
    ap (tokens_from 0 at) next.joined ∙ blanks_passed at next.blanks w next.blank ∙ ap (λ n. tokens_from 0 n w) (sym next.placed)
    ∙ rest_is t.at w s b t refl cut (spelled_length t.kind t.content s b next.first.spelled) starts_so (spelled_good t.kind t.content s b next.first.spelled)

-- the end of these tokens, but for what it holds
abbrev Ended : List Token → List Token → Token → Type 0
Ended all found last = (end : Token) × (all ≡ found ++ end ∷ []) × (end.kind ≡ last.kind) × (end.at ≡ last.at)

bad_by : (at : ℕ) (z : Text) (t : Token × ℕ) → Cut at z t → BeginsNoToken z → (t.0.kind ≡ k.Bad) × (t.0.at ≡ at)
bad_by at z t (NoToken bad place none) stops = (bad, place)
bad_by at z t (Front s b split long place good first) stops =
    absurd (stops s b split (record { kind = t.0.kind; content = t.0.content; spelled = first.spelled }))

ends_from : (at : ℕ) (z : Text) (last : Token) → Ends at z last → Ended (tokens_from 0 at z) [] last
ends_from at z last (LineEnd all kind place) = (
  record { kind = k.LineEnd; content = Nothing; at = at + length z },
  ap (tokens_from 0 at) (sym (append-nil z)) ∙ blanks_passed at z [] all,
  sym kind,
  sym place,
)
ends_from at z last (Fault blanks b behind split all no_blank none kind place) =
    let here = at + length blanks in
    let w = b ∷ behind in
    let t = first_token here w in
    let bad = bad_by here w t (cut_of here b behind) none in
    let some : 0 < length w = omega arith in (
      t.0,
      ap (tokens_from 0 at) split ∙ blanks_passed at blanks w all ∙ tokens_end here w some no_blank (alike bad.0),
      bad.0 ∙ sym kind,
      bad.1 ∙ sym place,
    )

all_from : (found : List Token) (at : ℕ) (z : Text) (last : Token) → AreTokens at z found last → Ended (tokens_from 0 at z) found last
all_from [] at z last ends = ends_from at z last ends
all_from (t ∷ ts) at z last said =
    let next = said.0 in
    let more = all_from ts (t.at + length next.spelling) next.behind last said.1 in
    (more.0, next_is at z t next ∙ ap (λ us. t ∷ us) more.1, more.2, more.3)

pub cuts_all_tokens : CutsAllTokens
unfolding tokens
cuts_all_tokens line found last are = all_from found 0 line last are
