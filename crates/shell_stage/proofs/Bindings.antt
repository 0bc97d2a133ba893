-- What a shell's names stand for, as objects are made and names bound.
use Rattle.std.proofs.Common.{◌≡◌, ℕ, ◌≤◌, Bool, true, false, cond, List, [], ◌∷◌, Option, None, Some, ◌⊎◌, inl, inr, ⊎_elim, if◌then◌else◌, sym, subst, arith}
use Rattle.std.specs.Map.{lookup}
use Rattle.indexmap.specs.IndexMap.{insert_entry}
use Rattle.base_core.specs.declared.ids.ClassId.{ClassId}
use Rattle.base_core.specs.declared.ids.ObjId.{ObjId}
use Rattle.schema_core.specs.Catalog.{same_name}
use Rattle.object_arena.specs.Graph.{Graph}
use Rattle.class_mapping.specs.Mapped.{Mapped}
use Rattle.session_scopes.specs.SessionState.{AreThereStill, GoesOn, IsMadeOf, SessionState}
use Rattle.shell_parts.specs.declared.names.Bound.{Bound}
use Rattle.shell_parts.specs.declared.names.Bound.TheVariants.{Nothing, Object, Objects, Saved}
use Rattle.shell_parts.specs.Bindings.{bind, bound_to}
use Rattle.command_resolve.specs.declared.answer.Answer.{Answer}
use Rattle.command_resolve.specs.declared.answer.Answer.TheVariants as answer
use Rattle.command_names.specs.Standing.{AreOfDeclared, IsOfDeclared, IsThere}
use Rattle.command_resolve.specs.Standing.{IsAnswer}
use Rattle.command_names.specs.Terms.{Bindings}
use Rattle.shell_stage.specs.declared.stage.Stage.{Stage}
use Rattle.shell_stage.specs.declared.stage.Stage.TheVariants.{Declaring, Configured}
use Rattle.shell_stage.specs.Stages.{AreBound, IsAnswerAt}
use Rattle.shell_stage.specs.Step.{names_with}

-- ---- a binding more

replaced : {B : Type 0} (here : Bool) (bound last own : B) (rest : Option B) → cond here (Some bound) rest ≡ Some last → (last ≡ bound) ⊎ (cond here (Some own) rest ≡ Some last)
replaced true bound last own rest is = inl cc
replaced false bound last own rest is = inr is

passed : {B : Type 0} (here : Bool) (bound last own : B) (later rest : Option B) → (later ≡ Some last → (last ≡ bound) ⊎ (rest ≡ Some last)) → cond here (Some own) later ≡ Some last
    → (last ≡ bound) ⊎ (cond here (Some own) rest ≡ Some last)
passed true bound last own later rest next is = inr is
passed false bound last own later rest next is = next is

alone : {B : Type 0} (here : Bool) (bound last : B) → cond here (Some bound) None ≡ Some last → last ≡ bound
alone true bound last is = cc
alone false bound last is = cc

-- the entry is that of the name, or the name's comes later
placed : {K B : Type 0} (same : K → K → Bool) (test : K → Bool) (entries : List (K × B)) (entry : K × B) (name : K) (bound last : B)
    → (lookup test (insert_entry same entries name bound) ≡ Some last → (last ≡ bound) ⊎ (lookup test entries ≡ Some last))
    → (here : Bool) → lookup test (if here then (entry.0, bound) ∷ entries else entry ∷ insert_entry same entries name bound) ≡ Some last → (last ≡ bound) ⊎ (lookup test (entry ∷ entries) ≡ Some last)
placed same test entries entry name bound last later true is = replaced (test entry.0) bound last entry.1 (lookup test entries) is
placed same test entries entry name bound last later false is = passed (test entry.0) bound last entry.1 (lookup test (insert_entry same entries name bound)) (lookup test entries) later is

-- what a name stands for then was bound now, or before
bound_then : {K B : Type 0} (same : K → K → Bool) (test : K → Bool) (entries : List (K × B)) (name : K) (bound last : B)
    → lookup test (insert_entry same entries name bound) ≡ Some last → (last ≡ bound) ⊎ (lookup test entries ≡ Some last)
bound_then same test [] name bound last is = inl (alone (test name) bound last is)
bound_then same test (entry ∷ entries) name bound last is = placed same test entries entry name bound last (bound_then same test entries name bound last) (same name entry.0) is

-- what holds of the thing that is bound, and of all that was bound before, holds of all then
all_then : (P : Bound → Type 0) (names : Bindings) (name : List ℕ) (thing : Bound) → P thing → ((other : List ℕ) (last : Bound) → bound_to names other ≡ Some last → P last)
    → (other : List ℕ) (last : Bound) → bound_to (bind names name thing) other ≡ Some last → P last
all_then P names name thing now before other last is =
    ⊎_elim
    (λ (here : last ≡ thing). subst P (sym here) now)
    (λ (there : bound_to names other ≡ Some last). before other last there)
    (bound_then same_name (same_name other) names name thing last is)

bound_in : (session : SessionState) (names : Bindings) (answer : Answer) → IsAnswer session.mapping session.graph session.drawn.drawn answer → AreBound (Configured session) names → AreBound (Configured session) (names_with answer names)
bound_in session names (answer.Bind name thing) is bound = (
  all_then (IsThere session.graph session.drawn.drawn) names name thing is.0 bound.0,
  all_then (IsOfDeclared session.mapping) names name thing is.1 bound.1,
)
bound_in session names other is bound = bound

bound_at : (stage : Stage) (names : Bindings) (answer : Answer) → IsAnswerAt stage answer → AreBound stage names → AreBound stage (names_with answer names)
bound_at (Declaring mapping) names answer is bound = absurd is
bound_at (Configured session) names answer is bound = bound_in session names answer is bound

-- what an answer binds was bound
pub bound_more : (stage : Stage) (names later : Bindings) (answer : Answer) → later ≡ names_with answer names → IsAnswerAt stage answer → AreBound stage names → AreBound stage later
bound_more stage names later answer is there bound = subst (AreBound stage) (sym is) (bound_at stage names answer there bound)

pub bound_before : (stage : Stage) (names later : Bindings) → later ≡ names → AreBound stage names → AreBound stage later
bound_before stage names later is bound = subst (AreBound stage) (sym is) bound

-- ---- no name is bound

pub none_bound_in : (session : SessionState) (names : Bindings) → names ≡ [] → AreBound (Configured session) names
none_bound_in session names none = rw none ((λ name thing is. absurd cc), (λ name thing is. absurd cc))

pub none_bound : (mapping : Mapped) (names : Bindings) → names ≡ [] → AreBound (Declaring mapping) names
none_bound mapping names none = none

-- ---- objects that stay

made_stays : (old new : Graph) (object : ObjId) (class : ClassId) → AreThereStill old new → IsMadeOf old object class → IsMadeOf new object class
made_stays old new object class stay made = subst (λ (k : ClassId). IsMadeOf new object k) made.1 (stay object made.0)

thing_stays : (old new : Graph) (before now : ℕ) (thing : Bound) → AreThereStill old new → before ≤ now → IsThere old before thing → IsThere new now thing
thing_stays old new before now Nothing stay more there = tt
thing_stays old new before now (Object object class) stay more there = made_stays old new object class stay there
thing_stays old new before now (Objects members) stay more there = λ k d less. made_stays old new _ _ stay (there k d less)
thing_stays old new before now (Saved number) stay more there = (there.0, omega (arith, more, there.1))

-- the session kept its objects
pub bound_stays : (names : Bindings) (old new : SessionState) → new.mapping ≡ old.mapping → AreThereStill old.graph new.graph → old.drawn.drawn ≤ new.drawn.drawn → AreBound (Configured old) names → AreBound (Configured new) names
bound_stays names old new same stay more bound = (
  λ name thing is. thing_stays old.graph new.graph old.drawn.drawn new.drawn.drawn thing stay more (bound.0 name thing is),
  subst (λ (mapped : Mapped). AreOfDeclared mapped names) (sym same) bound.1,
)

-- the session goes on
pub bound_same : (names : Bindings) (old new : SessionState) → GoesOn old new → AreBound (Configured old) names → AreBound (Configured new) names
bound_same names old new on bound = bound_stays names old new on.mapping on.there on.drawn bound

-- the same, where the session is that of the stage
pub bound_in_session : {stage : Stage} {old : SessionState} (names : Bindings) (new : SessionState) → stage ≡ Configured old → GoesOn old new → AreBound stage names → AreBound (Configured new) names
bound_in_session {old = old} names new is on bound = bound_same names old new on (subst (λ (s : Stage). AreBound s names) is bound)

pub bound_after : {stage : Stage} {old : SessionState} (names : Bindings) (new : SessionState) → stage ≡ Configured old → ((names : Bindings) → AreBound (Configured old) names → AreBound (Configured new) names) → AreBound stage names → AreBound (Configured new) names
bound_after names new is stay bound = stay names (subst (λ (s : Stage). AreBound s names) is bound)

pub ruleset bindings = (none_bound, bound_more, bound_before, bound_in_session, bound_after)
