use Rattle.std.proofs.Common.{[], ◌∷◌, ◌++◌, None, Some, refl, sym, ap, ◌∙◌, rules, lit<}
use Rattle.std.proofs.Output.{has_written_append, has_written_of_eq}
use Rattle.std.proofs.lemmas.Str.Pattern.{split_parts}
use Rattle.value_texts.proofs.Doubling.{doubled_plain, doubled_step}
use Rattle.value_texts.proofs.values.write_doubled.Goals as goal

pub loop-before-preserved : goal.loop-before-preserved
loop-before-preserved g c =
    let parts = split_parts 39 c.loop-before.rest.now (Some (c.in-Some.before, c.in-Some.after)) c.in-Some.ensures.cases (lit< tt) in (
      search rules,
      λ plain.
          let so_far = c.loop-before.invariant.1 plain in
          let first = c.in_ok-write_str.ensures.writes so_far.1.plain refl in
          let second = c.in_ok-write_str-2.ensures.writes first.plain refl in (
            so_far.0 ++ (c.in-Some.before.now ++ 39 ∷ 39 ∷ []),
            has_written_append _ _ _ _ _ _ so_far.1 (has_written_append _ _ _ _ _ _ first second),
            doubled_step so_far.0 c.in-Some.before.now c.in-Some.after.now c.loop-before.rest.now parts.0 parts.1 ∙ so_far.2,
          ),
    )

pub returns : goal.returns
returns g c =
    let parts = split_parts 39 c.loop-before.rest.now None c.in_default.ensures.cases (lit< tt) in
    λ plain done.
    let so_far = c.loop-before.invariant.1 plain in
    let last = c.write_str-2.ensures.writes so_far.1.plain done in
    has_written_of_eq _ _ _ _ _ (ap (λ r. so_far.0 ++ r) (sym (doubled_plain c.loop-before.rest.now parts)) ∙ so_far.2) (has_written_append _ _ _ _ _ _ so_far.1 last)
