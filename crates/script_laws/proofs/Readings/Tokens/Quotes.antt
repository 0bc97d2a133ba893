-- Quotes that are doubled.
use Rattle.std.proofs.Common.{◌≡◌, ℕ, zero, suc, ◌+◌, Bool, true, false, not, ◌&&◌, if◌then◌else◌, ◌==◌, [], ◌∷◌, ◌++◌, length, slice_index, Some, refl, ap, sym, subst, ◌∙◌, arith}
use Rattle.std.proofs.lemmas.Bool.{eqb-true, eq-eqb, ne_eqb}
use Rattle.script_lex.specs.Shape.{Text, quote_end}
use Rattle.script_lex.specs.Content.{undouble}
use Rattle.script_laws.specs.Readings.Tokens.Spelling.{starts, with_quotes_doubled}
use Rattle.script_laws.specs.Readings.Tokens.Cutting.{UndoublingUndoesDoubling}
use Rattle.script_laws.proofs.Readings.Tokens.Runs.{if_true, if_false, same_some, none_some}

same_number : (q : ℕ) → (q == q) ≡ true
same_number q = eq-eqb q q refl

-- ---- undoubling

undouble_by : (q b : ℕ) (z : Text) (is : Bool) → (b == q) ≡ is → undouble q false (with_quotes_doubled q z) ≡ z
    → undouble q false (if is then q ∷ q ∷ with_quotes_doubled q z else b ∷ with_quotes_doubled q z) ≡ b ∷ z
undouble_by q b z true is more =
    ap (λ c. q ∷ undouble q c (q ∷ with_quotes_doubled q z)) (same_number q) ∙ ap (λ w. q ∷ w) more ∙ ap (λ c. c ∷ z) (sym (eqb-true b q is))
undouble_by q b z false is more = ap (λ c. b ∷ undouble q c (with_quotes_doubled q z)) is ∙ ap (λ w. b ∷ w) more

pub undoes_doubling : UndoublingUndoesDoubling
undoes_doubling q [] = refl
undoes_doubling q (b ∷ z) = undouble_by q b z (b == q) refl (undoes_doubling q z)

-- ---- the quote that closes

first_byte : (q : ℕ) (behind : Text) → starts (λ b. b == q) behind ≡ false → (q ≡ 0 → ⊥) → (slice_index behind 0 == q) ≡ false
first_byte zero [] ends some = absurd (some refl)
first_byte (suc q) [] ends some = ne_eqb 0 (suc q) (omega arith)
first_byte q (b ∷ z) ends some = ends

end_by : (q at b : ℕ) (z behind : Text) (is : Bool) → (b == q) ≡ is
    → ((at : ℕ) → quote_end q false at (with_quotes_doubled q z ++ q ∷ behind) ≡ Some (at + length (with_quotes_doubled q z) + 1))
    → quote_end q false at ((if is then q ∷ q ∷ with_quotes_doubled q z else b ∷ with_quotes_doubled q z) ++ q ∷ behind)
    ≡ Some (at + length (if is then q ∷ q ∷ with_quotes_doubled q z else b ∷ with_quotes_doubled q z) + 1)
end_by q at b z behind true is more =
    let again : quote_end q (q == q) (at + 1) (q ∷ (with_quotes_doubled q z ++ q ∷ behind)) ≡ Some ((at + 1) + 1 + length (with_quotes_doubled q z) + 1) =
    ap (λ c. quote_end q c (at + 1) (q ∷ (with_quotes_doubled q z ++ q ∷ behind))) (same_number q) ∙ more ((at + 1) + 1) in
    let there : (at + 1) + 1 + length (with_quotes_doubled q z) + 1 ≡ at + length (q ∷ q ∷ with_quotes_doubled q z) + 1 = omega arith in
    if_false ((q == q) && not (q == q)) _ _ (ap (λ c. c && not c) (same_number q)) ∙ again ∙ ap Some there
end_by q at b z behind false is more =
    let there : (at + 1) + length (with_quotes_doubled q z) + 1 ≡ at + length (b ∷ with_quotes_doubled q z) + 1 = omega arith in
    if_false ((b == q) && not (slice_index (with_quotes_doubled q z ++ q ∷ behind) 0 == q)) _ _ (ap (λ c. c && not (slice_index (with_quotes_doubled q z ++ q ∷ behind) 0 == q)) is)
    ∙ ap (λ c. quote_end q c (at + 1) (with_quotes_doubled q z ++ q ∷ behind)) is ∙ more (at + 1) ∙ ap Some there

-- it stands behind the doubled text
pub closes_there : (q : ℕ) → (q ≡ 0 → ⊥) → (inside behind : Text) → starts (λ b. b == q) behind ≡ false → (at : ℕ)
    → quote_end q false at (with_quotes_doubled q inside ++ q ∷ behind) ≡ Some (at + length (with_quotes_doubled q inside) + 1)
closes_there q some [] behind ends at =
    let there : at + 1 ≡ at + 0 + 1 = omega arith in
    if_true ((q == q) && not (slice_index behind 0 == q)) _ _
    (ap (λ c. c && not (slice_index behind 0 == q)) (same_number q) ∙ ap not (first_byte q behind ends some)) ∙ ap Some there
closes_there q some (b ∷ z) behind ends at = end_by q at b z behind (b == q) refl (closes_there q some z behind ends)

-- what the quote that closes stands behind
pub record Closed (q at : ℕ) (z : Text) (end : ℕ) : Type 0 where
  pub inside : Text
  pub behind : Text
  pub joined : z ≡ with_quotes_doubled q inside ++ q ∷ behind
  pub ends : starts (λ b. b == q) behind ≡ false
  pub long : end ≡ at + length (with_quotes_doubled q inside) + 1

closed_here : (q at : ℕ) (z : Text) (end : ℕ) → starts (λ b. b == q) z ≡ false → at + 1 ≡ end → Closed q at (q ∷ z) end
closed_here q at z end ends is = record { inside = []; behind = z; joined = refl; ends = ends; long = omega (arith, is) }

-- behind a byte that is no quote, and behind two that are
past_other : (q at b : ℕ) (z : Text) (end : ℕ) → (b == q) ≡ false → Closed q (at + 1) z end → Closed q at (b ∷ z) end
past_other q at b z end is c =
    let front : with_quotes_doubled q (b ∷ c.inside) ≡ b ∷ with_quotes_doubled q c.inside = if_false (b == q) _ _ is in
    record {
      inside = b ∷ c.inside;
      behind = c.behind;
      joined = ap (λ w. b ∷ w) c.joined ∙ ap (λ w. w ++ q ∷ c.behind) (sym front);
      ends = c.ends;
      long = let long : length (with_quotes_doubled q (b ∷ c.inside)) ≡ suc (length (with_quotes_doubled q c.inside)) = ap length front in omega (arith, c.long, long);
    }

past_two : (q at : ℕ) (z : Text) (end : ℕ) → Closed q ((at + 1) + 1) z end → Closed q at (q ∷ q ∷ z) end
past_two q at z end c =
    let front : with_quotes_doubled q (q ∷ c.inside) ≡ q ∷ q ∷ with_quotes_doubled q c.inside = if_true (q == q) _ _ (same_number q) in
    record {
      inside = q ∷ c.inside;
      behind = c.behind;
      joined = ap (λ w. q ∷ q ∷ w) c.joined ∙ ap (λ w. w ++ q ∷ c.behind) (sym front);
      ends = c.ends;
      long = let long : length (with_quotes_doubled q (q ∷ c.inside)) ≡ suc (suc (length (with_quotes_doubled q c.inside))) = ap length front in omega (arith, c.long, long);
    }

starts_by : (q : ℕ) (z : Text) → (slice_index z 0 == q) ≡ false → starts (λ b. b == q) z ≡ false
starts_by q [] is = refl
starts_by q (b ∷ z) is = is

-- where the text goes on behind a quote that may be the first of two, the second comes first
After : ℕ → Bool → ℕ → Text → ℕ → Type 0
After q false at z end = Closed q at z end
After q true at z end = (c : ℕ) × (w : Text) × (z ≡ c ∷ w) × Closed q (at + 1) w end

at_byte : (q at b : ℕ) (z : Text) (end : ℕ) → (is : Bool) → (b == q) ≡ is → (next : Bool) → (slice_index z 0 == q) ≡ next
    → ((second : Bool) → quote_end q second (at + 1) z ≡ Some end → After q second (at + 1) z end)
    → (if is && not next then Some (at + 1) else quote_end q is (at + 1) z) ≡ Some end → Closed q at (b ∷ z) end
unfolding After
at_byte q at b z end false is next two rec e = past_other q at b z end is (rec false e)
at_byte q at b z end true is false two rec e =
    subst (λ c. Closed q at (c ∷ z) end) (sym (eqb-true b q is)) (closed_here q at z end (starts_by q z two) (same_some e))
at_byte q at b z end true is true two rec e =
    let more = rec true e in
    let second : more.0 ≡ q = eqb-true more.0 q (ap (λ w. slice_index w 0 == q) (sym more.2) ∙ two) in
    subst (λ c. Closed q at (c ∷ z) end) (sym (eqb-true b q is))
    (subst (λ w. Closed q at (q ∷ w) end) (sym more.2) (subst (λ c. Closed q at (q ∷ c ∷ more.1) end) (sym second) (past_two q at more.1 end more.3)))

closed_from : (q : ℕ) (second : Bool) (at : ℕ) (z : Text) (end : ℕ) → quote_end q second at z ≡ Some end → After q second at z end
unfolding After
closed_from q true at [] end e = absurd (none_some e)
closed_from q false at [] end e = absurd (none_some e)
closed_from q true at (b ∷ z) end e = (b, z, refl, closed_from q false (at + 1) z end e)
closed_from q false at (b ∷ z) end e =
    at_byte q at b z end (b == q) refl (slice_index z 0 == q) refl (λ second. closed_from q second (at + 1) z end) e

pub closed_by : (q at : ℕ) (z : Text) (end : ℕ) → quote_end q false at z ≡ Some end → Closed q at z end
unfolding After
closed_by q at z end e = closed_from q false at z end e
