-- Where objects come to differ they are touched: an object that is untouched then was so before, and has the record that it had.
use Rattle.std.proofs.Common.{◌≡◌, ◌≢◌, ℕ, ◌+◌, ◌<◌, ◌≤◌, Bool, true, false, cond, List, [], ◌∷◌, length, map, get_or, ◌⊎◌, inl, inr, refl, sym, ap, ◌∙◌, subst, arith}
use Rattle.std.proofs.lemmas.Bool.{cases_eq, not-false}
use Rattle.std.specs.List.{enumerate_from, filter}
use Rattle.base_core.specs.declared.ids.ObjId.{ObjId}
use Rattle.object_arena.specs.declared.object.Object.{Object}
use Rattle.object_arena.specs.Graph.{Graph, no_object, object_at, place_of}
use Rattle.object_arena.specs.Identity.{id_of_place}
use Rattle.savepoints.specs.Scopes.{Framed, is_touched, touch}
use Rattle.session_laws.specs.Scopes.{Touch}
use Rattle.session_laws.proofs.Scopes.Traces.{touch_long, touch_touches, touches_grow}
use Rattle.object_records.specs.Same.{same_object}
use Rattle.object_records.specs.Touched.{differs, frames_touched_between, frames_with_touched}
use Rattle.object_records.proofs.Exact.{records_same}

-- ---- one touch after another

touch_scopes : (graph : Graph) (object : ObjId) (frames : Framed) → (touch graph object frames).scopes ≡ frames.scopes
unfolding touch
touch_scopes graph object frames = touch_long frames.scopes graph object frames

-- however many are touched, the scopes stay
pub all_scopes : (graph : Graph) (ids : List ObjId) (frames : Framed) → (frames_with_touched graph ids frames).scopes ≡ frames.scopes
all_scopes graph [] frames = refl
all_scopes graph (id ∷ ids) frames = all_scopes graph ids (touch graph id frames) ∙ touch_scopes graph id frames

-- the scopes in progress stay
pub between_scopes : (old new : Graph) (frames : Framed) → (frames_touched_between old new frames).scopes ≡ frames.scopes
unfolding frames_touched_between
between_scopes old new frames = all_scopes old (filter (differs old new) (map (λ placed. id_of_place placed.0) (enumerate_from 0 old.objects))) frames

pub as_deep : (graph : Graph) (object : ObjId) (frames : Framed) (depth : ℕ) → depth ≤ length frames.scopes → depth ≤ length (touch graph object frames).scopes
as_deep graph object frames depth high = omega (arith, high, ap length (touch_scopes graph object frames))

-- what was touched stays so
pub touched_stays : (graph : Graph) (ids : List ObjId) (frames : Framed) (depth place : ℕ) → 1 ≤ depth → depth ≤ length frames.scopes → is_touched frames depth place ≡ true → is_touched (frames_with_touched graph ids frames) depth place ≡ true
touched_stays graph [] frames depth place low high is = is
touched_stays graph (id ∷ ids) frames depth place low high is =
    let deep = as_deep graph id frames depth high in
    touched_stays graph ids (touch graph id frames) depth place low deep (touches_grow (record { graph = graph; frames = frames }) (Touch id) depth place (low, deep) is)

touched_here : (graph : Graph) (n k : ℕ) (ids : List ObjId) (frames : Framed) (depth : ℕ) → n ≡ k → 1 ≤ depth → depth ≤ length frames.scopes → is_touched (frames_with_touched graph ids (touch graph (id_of_place n) frames)) depth k ≡ true
touched_here graph n k ids frames depth same low high =
    let deep = as_deep graph (id_of_place n) frames depth high in
    let place : place_of (id_of_place n) ≡ k = omega (arith, same) in
    touched_stays graph ids (touch graph (id_of_place n) frames) depth k low deep
    (subst (λ (p : ℕ). is_touched (touch graph (id_of_place n) frames) depth p ≡ true) place (touch_touches (record { graph = graph; frames = frames }) (id_of_place n) depth (low, high)))

touched_next : (graph : Graph) (test : ObjId → Bool) (n k : ℕ) (ids : List ObjId) (frames : Framed) (depth : ℕ) (b : Bool) → test (id_of_place n) ≡ b → test (id_of_place k) ≡ true → 1 ≤ depth → depth ≤ length frames.scopes
    → ((now : Framed) → depth ≤ length now.scopes → n ≢ k → is_touched (frames_with_touched graph ids now) depth k ≡ true) → (n ≡ k) ⊎ (n ≢ k)
    → is_touched (frames_with_touched graph (cond b (id_of_place n ∷ ids) ids) frames) depth k ≡ true
touched_next graph test n k ids frames depth true at is low high later (inl same) = touched_here graph n k ids frames depth same low high
touched_next graph test n k ids frames depth true at is low high later (inr other) = later (touch graph (id_of_place n) frames) (as_deep graph (id_of_place n) frames depth high) other
touched_next graph test n k ids frames depth false at is low high later (inl same) = absurd (let h : true ≡ false = sym is ∙ ap (λ (m : ℕ). test (id_of_place m)) (sym same) ∙ at in cc)
touched_next graph test n k ids frames depth false at is low high later (inr other) = later frames high other

-- an object that passes a test is touched where those that pass are
touched_passing : (graph : Graph) (test : ObjId → Bool) (n : ℕ) (objects : List Object) (k : ℕ) (frames : Framed) (depth : ℕ) → n ≤ k → k < n + length objects → test (id_of_place k) ≡ true → 1 ≤ depth → depth ≤ length frames.scopes
    → is_touched (frames_with_touched graph (filter test (map (λ placed. id_of_place placed.0) (enumerate_from n objects))) frames) depth k ≡ true
touched_passing graph test n [] k frames depth first last is low high = absurd (omega (arith, first, last))
touched_passing graph test n (o ∷ objects) k frames depth first last is low high =
    touched_next graph test n k (filter test (map (λ placed. id_of_place placed.0) (enumerate_from (n + 1) objects))) frames depth (test (id_of_place n)) refl is low high
    (λ now deep other. touched_passing graph test (n + 1) objects k now depth (omega (arith, first, other)) (omega (arith, last)) is low deep) (cases_eq n k)

-- ---- what is untouched

pub not_true : (b : Bool) → (b ≡ true → ⊥) → b ≡ false
not_true true never = absurd (never refl)
not_true false never = refl

pub other_answer : (b : Bool) → b ≡ false → b ≡ true → ⊥
other_answer b left right = let h : false ≡ true = sym left ∙ right in cc

same_record : (old new : Graph) (place : ℕ) → differs old new (id_of_place place) ≡ false → get_or old.objects place no_object ≡ get_or new.objects place no_object
same_record old new place is =
    let here : place_of (id_of_place place) ≡ place = omega arith in
    subst (λ (p : ℕ). get_or old.objects p no_object ≡ get_or new.objects p no_object) here
    ((records_same (object_at old (id_of_place place)) (object_at new (id_of_place place)) (same_object (object_at old (id_of_place place)) (object_at new (id_of_place place))) refl).0
    (not-false (same_object (object_at old (id_of_place place)) (object_at new (id_of_place place))) is))

-- an object that was untouched in a scope, and has the record that it had
pub record IsLeft (old new : Graph) (frames : Framed) (depth place : ℕ) : Type 0 where
  pub untouched : is_touched frames depth place ≡ false
  pub same : get_or old.objects place no_object ≡ get_or new.objects place no_object

pub left_alone : (old new : Graph) (frames : Framed) (depth place : ℕ) → 1 ≤ depth → depth ≤ length frames.scopes → place < length old.objects → is_touched (frames_touched_between old new frames) depth place ≡ false → IsLeft old new frames depth place
unfolding frames_touched_between
left_alone old new frames depth place low high less is = record {
  untouched = not_true (is_touched frames depth place) (λ before.
      other_answer (is_touched (frames_touched_between old new frames) depth place) is
      (touched_stays old (filter (differs old new) (map (λ placed. id_of_place placed.0) (enumerate_from 0 old.objects))) frames depth place low high before));
  same = same_record old new place (not_true (differs old new (id_of_place place)) (λ changes.
      other_answer (is_touched (frames_touched_between old new frames) depth place) is
      (touched_passing old (differs old new) 0 old.objects place frames depth (omega arith) (omega (arith, less)) changes low high)));
}
