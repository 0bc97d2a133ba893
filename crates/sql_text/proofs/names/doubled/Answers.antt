use Rattle.std.proofs.Common.{None, Some, string_bytes, rules}
use Rattle.std.proofs.lemmas.Str.Pattern.{split_parts}
use Rattle.sql_text.proofs.Doubling.{doubled_plain, doubled_split, doubled_step}
use Rattle.sql_text.proofs.names.doubled.Goals as goal

pub loop-before-preserved : goal.loop-before-preserved
loop-before-preserved c =
    let parts = split_parts c.args.mark c.loop-before.rest.now (Some (c.in-Some.before, c.in-Some.after)) c.in-Some.ensures.cases c.requires in
    let split = doubled_split c.args.mark c.in-Some.before.now c.in-Some.after.now c.loop-before.rest.now parts.0 parts.1 in
    let step = doubled_step c.args.mark (string_bytes c.loop-before.shown) c.in-Some.before.now c.in-Some.after.now c.loop-before.rest.now split in
    let ascii = c.in_ok-push.ensures.ascii c.requires in
    let first = c.in_ok-push_str.ensures.bytes in
    let second = c.in_ok-push.ensures.bytes in
    let third = c.in_ok-push-2.ensures.bytes in
    (search rules, cc (ascii, first, second, third, step, c.loop-before.invariant.1))

pub returns : goal.returns
returns c =
    let parts = split_parts c.args.mark c.loop-before.rest.now None c.in_default.ensures.cases c.requires in
    let last = doubled_plain c.args.mark c.loop-before.rest.now parts in
    let whole = c.in_ok-push_str-2.ensures.bytes in
    cc (last, whole, c.loop-before.invariant.1)
