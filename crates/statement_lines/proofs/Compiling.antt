-- What may be compiled, and what refuses it.
use Rattle.std.proofs.Common.{◌≡◌, Result, Ok, Err, IfErr, sym, subst}
use Rattle.base_core.specs.declared.refusal.Refusal.{Refusal}
use Rattle.base_core.specs.declared.refusal.Refusal.TheVariants.{InvalidRequestError, Memory, TypeMismatch}
use Rattle.schema_core.specs.Catalog.{Catalog}
use Rattle.expr_types.specs.declared.select.Select.{Select}
use Rattle.expr_types.specs.declared.select.Statement.TheVariants as statements
use Rattle.sql_semantics.specs.Plain.{IsPlainSelect}
use Rattle.script_resolve.specs.Refusals.{CanRefuse}
use Rattle.sql_statements.specs.Texts.{HasCuts}
use Rattle.statement_lines.proofs.Cuts.{cut_fits}
use Rattle.statement_lines.specs.CompiledLines.{IsOfCompiling}

pub plain_has_cuts : (schema : Catalog) (s : Select) → IsPlainSelect schema s → HasCuts (statements.Select s)
plain_has_cuts schema s plain = (cut_fits s.limit plain.fits_limit, cut_fits s.offset plain.fits_offset)

-- what names and kinds are refused for
pub of_names : (e : Refusal) → CanRefuse e → IsOfCompiling e
of_names (InvalidRequestError kind) cause = cause
of_names (TypeMismatch wanted found) cause = tt
of_names Memory cause = tt
of_names e cause = absurd cause

-- memory that ran out
pub memory_alone : {X : Type 0} (r : Result X Refusal) → IfErr r (λ e. e ≡ Memory) → IfErr r IsOfCompiling
memory_alone (Ok x) cause = tt
memory_alone (Err e) cause = subst IsOfCompiling (sym cause) tt

pub ruleset ending = (memory_alone)

pub ruleset selecting = (plain_has_cuts, of_names)
