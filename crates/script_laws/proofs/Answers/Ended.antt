-- How a run ends where nothing failed.
use Rattle.std.proofs.Common.{◌≡◌, ◌⊎◌, inl, inr, ℕ, Bool, true, false, List, Option, None, Some, Result, Ok, Err, ⊎_elim, refl, sym, ap, ◌∙◌, subst}
use Rattle.base_core.specs.declared.refusal.Refusal.{Refusal}
use Rattle.schema_core.specs.Tables.{Tables}
use Rattle.class_types.specs.Rules.{Rules}
use Rattle.program_words.specs.declared.options.Options.{Options}
use Rattle.keeper_core.specs.Keeping.{new_store}
use Rattle.keeper_core.specs.Moment.{Told}
use Rattle.keeper_core.specs.declared.target.Target.{Target}
use Rattle.keeper_core.specs.declared.target.Target.TheVariants as targets
use Rattle.keeper_core.specs.Programs.{Event, Log, Run, ◌>>=◌, continue_from, each, give}
use Rattle.keeper_core.specs.Store.{Store}
use Rattle.byte_streams.specs.Scripts.{lines_of}
use Rattle.shell_replies.specs.declared.notes.PrintOptions.{PrintOptions}
use Rattle.shell_steps.specs.Step.{end_reply}
use Rattle.sqla_shell.specs.Causes.{Faults, ShowsFaults, done_status}
use Rattle.sqla_shell.specs.declared.ending.Ending.{Ending}
use Rattle.sqla_shell.specs.declared.ending.Ending.TheVariants.{Finished, TooLong}
use Rattle.sqla_shell.specs.declared.status.Status.{Status}
use Rattle.sqla_shell.specs.declared.status.Status.TheVariants as status
use Rattle.sqla_shell.specs.Outcome.{Ends, IsReferenceWhere, IsTakenRun, log_with}
use Rattle.sqla_shell.specs.Reference.{close_and_tell, do_and_reply, end_script, end_unless_too_long, reference, reference_over, script, start, writes}
use Rattle.sqla_shell.specs.Seen.{Seen, faults_of}
use Rattle.sqla_shell.specs.Words.{IsRun, print_options}
use Rattle.script_laws.specs.Answers.Runs.{EndsAsItsLinesAnswer, IsFaultless}
use Rattle.script_laws.proofs.Answers.Answered.{Shells}
use Rattle.script_laws.proofs.Answers.Counted.{script_counts}

-- ---- a script within the limits that is done ends by its end

finishes_from : {A : Type 0} (events : List Event) (v : Shells) (r : Result A Refusal) (next : A → Shells → Run Shells Ending) → ((a : A) (w : Shells) (ending : Ending) → (next a w).answer ≡ Ok ending → ending ≡ Finished)
    → (ending : Ending) → (continue_from events v r next).answer ≡ Ok ending → ending ≡ Finished
finishes_from events v (Ok a) next finishes ending is = finishes a v ending is
finishes_from events v (Err e) next finishes ending is = absurd cc

finishes_then : {A : Type 0} (m : Shells → Run Shells A) (next : A → Shells → Run Shells Ending) → ((a : A) (w : Shells) (ending : Ending) → (next a w).answer ≡ Ok ending → ending ≡ Finished)
    → (w : Shells) (ending : Ending) → ((m >>= next) w).answer ≡ Ok ending → ending ≡ Finished
unfolding ◌>>=◌
finishes_then m next finishes w ending is = finishes_from (m w).events (m w).after (m w).answer next finishes ending is

end_finishes : (w : Shells) (ending : Ending) → (end_script w).answer ≡ Ok ending → ending ≡ Finished
unfolding end_script give
end_finishes =
    finishes_then end_reply _ (λ reply. finishes_then (writes reply) _ (λ u. finishes_then close_and_tell (λ u. give Finished) (λ u w ending is. let same : Finished ≡ ending = cc in sym same)))

short_finishes : (too_long : Bool) → too_long ≡ false → (w : Shells) (ending : Ending) → (end_unless_too_long too_long w).answer ≡ Ok ending → ending ≡ Finished
short_finishes true short w ending is = absurd cc
short_finishes false short w ending is = end_finishes w ending is

script_finishes : (rules : Rules) (bytes : List ℕ) → (lines_of bytes).too_long ≡ false → (w : Shells) (ending : Ending) → (script rules bytes w).answer ≡ Ok ending → ending ≡ Finished
unfolding script
script_finishes rules bytes short = finishes_then (each (do_and_reply rules) tt (lines_of bytes).lines) _ (λ u w ending is. short_finishes (lines_of bytes).too_long short w ending is)

-- ---- how a run ends

module _ (options : PrintOptions) (rules : Rules) (bytes written : List ℕ) (told : Told Store) where
  -- the keeper or memory failed, or the reference tells how the run ends
  abbrev Reached : Status → Type 0
  Reached end = ((end ≡ status.KeeperFault) ⊎ (end ≡ status.Memory)) ⊎ ((log : Log) × Ends (reference options rules bytes) (log_with new_store.log written) end log)

  taken : (opening : Option Tables) (before : Option (Told Store)) (end : Status) (now : Option (List ℕ)) → IsTakenRun options rules targets.Memory opening (Some bytes) (Some written) before end now (Some told) → Reached end
  taken opening before end None is = absurd is
  taken opening before end (Some now) is =
      inr (log_with told.log now, subst (λ (first : Told Store). Ends (reference_over options rules first.world.tables bytes) (log_with first.log written) end (log_with told.log now)) is.1 is.3.run)

  reached : (target : Target) (opening : Option Tables) (old : Seen) (end : Status) (new : Seen) (attached : Bool) → target ≡ targets.Memory → old.left ≡ Some bytes → old.written ≡ Some written → new.keeper.told ≡ Some told
      → IsReferenceWhere attached options rules target opening old end new → Reached end
  reached target opening old end new false memory left wrote tells is = inl is.3
  reached target opening old end new true memory left wrote tells is =
      taken opening old.keeper.told end new.written
      (subst (λ (t : Target). IsTakenRun options rules t opening (Some bytes) (Some written) old.keeper.told end new.written (Some told)) memory
      (subst (λ (now : Option (Told Store)). IsTakenRun options rules target opening (Some bytes) (Some written) old.keeper.told end new.written now) tells
      (subst (λ (before : Option (List ℕ)). IsTakenRun options rules target opening (Some bytes) before old.keeper.told end new.written new.keeper.told) wrote
      (subst (λ (from : Option (List ℕ)). IsTakenRun options rules target opening from old.written old.keeper.told end new.written new.keeper.told) left is))))

  ended : (lines_of bytes).too_long ≡ false → (end : Status) (attached : Bool) (old new : Faults) → IsFaultless old new → ShowsFaults end attached old new → Reached end → (end ≡ status.Memory) ⊎ (end ≡ done_status (reference options rules bytes).after.own.desk.refused)
  ended short status.Done attached old new faultless shows (inr ends) = inr (ap done_status (sym ends.1.1))
  ended short status.Done attached old new faultless shows (inl (inl is)) = absurd cc
  ended short status.Done attached old new faultless shows (inl (inr is)) = absurd cc
  ended short status.Refused attached old new faultless shows (inr ends) = inr (ap done_status (sym ends.1.1))
  ended short status.Refused attached old new faultless shows (inl (inl is)) = absurd cc
  ended short status.Refused attached old new faultless shows (inl (inr is)) = absurd cc
  ended short status.Usage attached old new faultless shows (inr ends) = absurd ends.1
  ended short status.Usage attached old new faultless shows (inl (inl is)) = absurd cc
  ended short status.Usage attached old new faultless shows (inl (inr is)) = absurd cc
  ended short status.ReadFault attached old new faultless shows how = absurd (faultless.source shows.0.1)
  ended short status.WriteFault attached old new faultless shows how = absurd (faultless.sink shows.1.1)
  ended short status.KeeperFault attached old new faultless shows how = absurd (faultless.keeper shows.2.1)
  ended short status.Memory attached old new faultless shows how = inl refl
  ended short status.TooLong attached old new faultless shows (inr ends) = absurd (let no : TooLong ≡ Finished = script_finishes rules bytes short (start options) TooLong ends.1.answer in cc)
  ended short status.TooLong attached old new faultless shows (inl (inl is)) = absurd cc
  ended short status.TooLong attached old new faultless shows (inl (inr is)) = absurd cc

pub run_ends : (options : Options) (rules : Rules) (opening : Target → Option Tables) (old : Seen) (end : Status) (new : Seen) → options.target ≡ targets.Memory → IsRun options rules opening old end new
    → ShowsFaults end new.keeper.attached (faults_of old) (faults_of new) → EndsAsItsLinesAnswer (print_options options) rules old end new
run_ends options rules opening old end new memory (inl none) shows bytes written told left wrote tells short faultless = inl none.0
run_ends options rules opening old end new memory (inr is) shows bytes written told left wrote tells short faultless =
    let print : PrintOptions = print_options options in
    ⊎_elim inl (λ is. inr (is ∙ ap done_status (script_counts print rules bytes short)))
    (ended print rules bytes written told short end new.keeper.attached (faults_of old) (faults_of new) faultless shows
    (reached print rules bytes written told options.target (opening options.target) old end new new.keeper.attached memory left wrote tells is))
