-- What the form of any number of items says is read.
use Rattle.std.proofs.Common.{◌≡◌, ℕ, zero, suc, ◌+◌, ◌≤◌, Bool, true, List, [], ◌∷◌, ◌++◌, length, Option, Some, None, refl, ap, sym, subst, ◌∙◌, append_assoc, append-nil, length-append, arith}
use Rattle.script_lex.specs.declared.kind.Kind.{Kind}
use Rattle.script_lex.specs.declared.token.Token.{Token}
use Rattle.script_tokens.specs.Input.{Reader, first_of}
use Rattle.script_laws.specs.Readings.Forms.Form.{Form}
use Rattle.script_laws.specs.Readings.Forms.Expressions.{many}
use Rattle.script_laws.proofs.Readings.Forms.Taking.{Mode, Enough}
use Rattle.script_laws.proofs.Readings.Forms.Steps.{budget_none, budget_more}
use Rattle.script_laws.proofs.Readings.Forms.Filling.{given, given_map, given_then, Read, Complete, Opens, always, enough_first, enough_then}
use Rattle.script_laws.proofs.Readings.Forms.FillingBasics.{Solid}
use Rattle.script_tokens.specs.Many.{many_by, many_from}

-- a turn reads an item, or nothing where none comes
pub record Turns {A : Type 0} (mode : Mode) (s t : Kind → Bool) (turn : Reader (Option A)) (item : Form A) : Type 0 where
  pub item_read : (prefix rest : List Token) (count o : ℕ) (a : A) → item prefix count a → Enough mode count o → s (first_of rest).kind ≡ true
      → Read mode turn (prefix ++ rest) rest count o (Some a)
  pub none_read : (rest : List Token) (o : ℕ) → t (first_of rest).kind ≡ true → Read mode turn rest rest 0 o None
  pub opens : Opens item always s
  pub solid : Solid item
  pub within : (y : Kind) → t y ≡ true → s y ≡ true

-- there are no more items than tokens
many_fit : {A : Type 0} (item : Form A) → Solid item → (all : List A) (tokens : List Token) (count : ℕ) → many item tokens count all → length all ≤ length tokens
many_fit item solid [] tokens count said = omega arith
many_fit item solid (a ∷ more) tokens count said =
    let w = said in
    let some = solid.run w.prefix w.prefix_count a w.first in
    let rest = many_fit item solid more w.rest w.rest_count w.second in
    let all : length tokens ≡ length w.prefix + length w.rest = ap length w.joined ∙ length-append w.prefix w.rest in
    omega arith

many_opens_by : {A : Type 0} (item : Form A) (s t : Kind → Bool) → Opens item always s → ((y : Kind) → t y ≡ true → s y ≡ true) → (tokens rest : List Token) (count : ℕ) (all : List A)
    → many item tokens count all → t (first_of rest).kind ≡ true → s (first_of (tokens ++ rest)).kind ≡ true
many_opens_by item s t og within tokens rest count [] said stop = subst (λ ts. s (first_of (ts ++ rest)).kind ≡ true) (sym said.0) (within (first_of rest).kind stop)
many_opens_by item s t og within tokens rest count (a ∷ more) said stop =
    let w = said in
    subst (λ ts. s (first_of ts).kind ≡ true) (sym (append_assoc w.prefix w.rest rest) ∙ ap (λ ts. ts ++ rest) (sym w.joined)) (og.run w.prefix (w.rest ++ rest) w.prefix_count a w.first refl)

pub many_opens : {A : Type 0} {item : Form A} {s t : Kind → Bool} → Opens item always s → ((y : Kind) → t y ≡ true → s y ≡ true) → Opens (many item) t s
many_opens {item = item} {s = s} {t = t} og within = record { run = λ tokens rest count all said stop. many_opens_by item s t og within tokens rest count all said stop }

module _ {A : Type 0} (mode : Mode) (s t : Kind → Bool) (turn : Reader (Option A)) (item : Form A) (turns : Turns mode s t turn item) where
  ended_by : (n : ℕ) (found : List A) (rest : List Token) (o : ℕ) → t (first_of rest).kind ≡ true → Read mode (many_from turn n found) rest rest 0 o found
  unfolding many_from
  ended_by zero found rest o stop = record { left = o; budget = budget_none mode o; is = given refl }
  ended_by (suc n) found rest o stop =
      let read = turns.none_read rest o stop in
      record { left = read.left; budget = read.budget; is = given_map (many_by (many_from turn n) found) refl read.is }

  ended : (n : ℕ) (found : List A) (prefix rest : List Token) (count o : ℕ) → prefix ≡ [] → count ≡ 0 → t (first_of rest).kind ≡ true
      → Read mode (many_from turn n found) (prefix ++ rest) rest count o (found ++ [])
  ended n found prefix rest count o none counts stop =
      subst (λ ts. Read mode (many_from turn n found) (ts ++ rest) rest count o (found ++ [])) (sym none)
      (subst (λ m. Read mode (many_from turn n found) rest rest m o (found ++ [])) (sym counts)
      (subst (λ all. Read mode (many_from turn n found) rest rest 0 o all) (sym (append-nil found)) (ended_by n found rest o stop)))

  step : (n : ℕ) (found : List A) (a : A) (fs ys rest : List Token) (l m o : ℕ) (all : List A) → (one : Read mode turn (fs ++ ys) ys l o (Some a))
      → Read mode (many_from turn n (found ++ a ∷ [])) ys rest m one.left all → Read mode (many_from turn (suc n) found) (fs ++ ys) rest (l + m) o all
  unfolding many_from
  step n found a fs ys rest l m o all one two = record {
    left = two.left;
    budget = budget_more mode l m o one.left two.left one.budget two.budget;
    is = given_then fs ys (many_by (many_from turn n) found) one.is two.is;
  }

  all_read : (n : ℕ) (all found : List A) (prefix rest : List Token) (count o : ℕ) → length all ≤ n → many item prefix count all → Enough mode count o → t (first_of rest).kind ≡ true
      → Read mode (many_from turn n found) (prefix ++ rest) rest count o (found ++ all)
  all_read n [] found prefix rest count o fits said enough stop = ended n found prefix rest count o said.0 said.1 stop
  all_read zero (a ∷ more) found prefix rest count o fits said enough stop = absurd (omega arith)
  all_read (suc n) (a ∷ more) found prefix rest count o fits said enough stop =
      let w = said in
      let enough_all : Enough mode (w.prefix_count + w.rest_count) o = subst (λ m. Enough mode m o) w.counted enough in
      let tokens : w.prefix ++ (w.rest ++ rest) ≡ prefix ++ rest = sym (append_assoc w.prefix w.rest rest) ∙ ap (λ ts. ts ++ rest) (sym w.joined) in
      let behind : s (first_of (w.rest ++ rest)).kind ≡ true = many_opens_by item s t turns.opens turns.within w.rest rest w.rest_count more w.second stop in
      let one : Read mode turn (w.prefix ++ (w.rest ++ rest)) (w.rest ++ rest) w.prefix_count o (Some a) =
      turns.item_read w.prefix (w.rest ++ rest) w.prefix_count o a w.first (enough_first mode w.prefix_count w.rest_count o enough_all) behind in
      let less : length more ≤ n = omega arith in
      let rec : Read mode (many_from turn n (found ++ a ∷ [])) (w.rest ++ rest) rest w.rest_count one.left ((found ++ a ∷ []) ++ more) =
      all_read n more (found ++ a ∷ []) w.rest rest w.rest_count one.left less w.second (enough_then mode w.prefix_count w.rest_count o one.left enough_all one.budget) stop in
      let whole : Read mode (many_from turn (suc n) found) (w.prefix ++ (w.rest ++ rest)) rest (w.prefix_count + w.rest_count) o ((found ++ a ∷ []) ++ more) =
      step n found a w.prefix (w.rest ++ rest) rest w.prefix_count w.rest_count o ((found ++ a ∷ []) ++ more) one rec in
      subst (λ ts. Read mode (many_from turn (suc n) found) ts rest count o (found ++ a ∷ more)) tokens
      (subst (λ m. Read mode (many_from turn (suc n) found) (w.prefix ++ (w.rest ++ rest)) rest m o (found ++ a ∷ more)) (sym w.counted)
      (subst (λ xs. Read mode (many_from turn (suc n) found) (w.prefix ++ (w.rest ++ rest)) rest (w.prefix_count + w.rest_count) o xs) (append_assoc found (a ∷ []) more) whole))

  from_start : (prefix rest : List Token) (count o : ℕ) (all : List A) → many item prefix count all → Enough mode count o → t (first_of rest).kind ≡ true
      → Read mode (λ i. many_from turn (length i.ahead) [] i) (prefix ++ rest) rest count o all
  from_start prefix rest count o all said enough stop =
      let fits = many_fit item turns.solid all prefix count said in
      let long = length-append prefix rest in
      let read = all_read (length (prefix ++ rest)) all [] prefix rest count o (omega arith) said enough stop in
      record { left = read.left; budget = read.budget; is = read.is }

pub all_filled : {A : Type 0} {mode : Mode} {s t : Kind → Bool} {turn : Reader (Option A)} {item : Form A} → Turns mode s t turn item
    → Complete mode t (λ i. many_from turn (length i.ahead) [] i) (many item)
all_filled {mode = mode} {s = s} {t = t} {turn = turn} {item = item} turns =
    record { run = λ prefix rest count o all said enough stop. from_start mode s t turn item turns prefix rest count o all said enough stop }
