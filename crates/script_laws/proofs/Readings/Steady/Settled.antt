-- A steady reader is refused for good.
use Rattle.std.proofs.Common.{◌≡◌, ℕ, suc, List, take, Ok, Err, refl, ap, sym, ◌∙◌}
use Rattle.script_types.specs.declared.command.Command.{Command}
use Rattle.script_lex.specs.declared.token.Token.{Token}
use Rattle.script_tokens.specs.declared.fault.Fault.{Fault}
use Rattle.script_tokens.specs.declared.fault.Fault.TheVariants.{At}
use Rattle.script_tokens.specs.Input.{Outcome, Reader, start_of}
use Rattle.script_laws.proofs.Readings.Steady.Settling.{Leaves, Settled, Taken, Refused, IsSteady}
use Rattle.script_laws.proofs.Readings.Steady.Refusals.{place, IsRefusedForGood, whole_binding, whole_top, whole_table_line, whole_class_line}
use Rattle.script_laws.proofs.Readings.Steady.Steps.{both}
use Rattle.script_laws.proofs.Readings.Steady.Marked.{refused_yields}
use Rattle.script_laws.proofs.Readings.Steady.Lines.{binding_steady, top_steady, table_line_steady, class_line_steady, ends_steady}

fault_of : {A : Type 0} → Fault → Outcome A → Fault
fault_of other (Ok p) = other
fault_of other (Err e) = e

fault_same : {A : Type 0} {d e : Fault} → ◌≡◌ {A = Outcome A} (Err d) (Err e) → d ≡ e
unfolding fault_of
fault_same {d = d} q = ap (fault_of d) q

refused_by : (p : Reader Command) (tokens : List Token) (e : Fault) → Settled p (start_of tokens) → p (start_of tokens) ≡ Err e
    → (k : ℕ) × (Leaves k tokens × ((e ≡ At (place k tokens))
    × ((other : List Token) → take (suc k) tokens ≡ take (suc k) other → p (start_of other) ≡ Err (At (place k other)))))
refused_by p tokens e (Taken k a n l h) was = absurd (refused_yields (sym was ∙ h tokens refl))
refused_by p tokens e (Refused k l h) was = (k, (l, (fault_same (sym was ∙ h tokens refl), h)))

refused_for_good : (p : Reader Command) → IsSteady p → IsRefusedForGood p
refused_for_good p sp tokens e was = refused_by p tokens e (sp (start_of tokens)) was

binding_whole : IsSteady whole_binding
binding_whole = both binding_steady ends_steady

top_whole : IsSteady whole_top
top_whole = both top_steady ends_steady

table_whole : IsSteady whole_table_line
table_whole = both table_line_steady ends_steady

class_whole : IsSteady whole_class_line
class_whole = both class_line_steady ends_steady

pub binding_refused : IsRefusedForGood whole_binding
binding_refused = refused_for_good whole_binding binding_whole

pub top_refused : IsRefusedForGood whole_top
top_refused = refused_for_good whole_top top_whole

pub table_refused : IsRefusedForGood whole_table_line
table_refused = refused_for_good whole_table_line table_whole

pub class_refused : IsRefusedForGood whole_class_line
class_refused = refused_for_good whole_class_line class_whole
