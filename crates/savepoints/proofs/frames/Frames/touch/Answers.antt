use Rattle.std.proofs.Common.{◌≡◌, ◌∙◌, ◌<◌, ◌-◌, List, length, ap, rules}
use Rattle.object_arena.specs.declared.object.Object.{Object}
use Rattle.savepoints.specs.declared.scope.Scope.{Scope}
use Rattle.savepoints.specs.declared.traces.Trace.{Trace}
use Rattle.std.specs.Prelude.{slice_set}
use Rattle.savepoints.specs.Scopes.{Framed, padded_traces, touched_trace}
use Rattle.savepoints.proofs.TraceLemmas.{touch_is}
use Rattle.savepoints.proofs.frames.Frames.touch.Goals as goal

pub returns-clause-ok : goal.returns-clause-ok
returns-clause-ok c =
    let frames : Framed = c.args.self.now in
    let place = c.args.object.0 - 1 in
    let put : List Trace = slice_set c.pad.new.traces.items place c.touched_trace-trace.result in
    let some : 0 < length frames.scopes = search rules in
    ap (λ (f : Framed). record f { traces = put }) c.self.view_is
    ∙ touch_is frames c.args.arena.now c.args.object c.pad.new.traces.items c.touched_trace-trace.result some
    (c.in_ok-pad.ensures.ok ∙ ap (λ (f : Framed). padded_traces f.traces place) c.self.view_is)
    (c.touched_trace-trace.ensures ∙ ap (λ (o : Object). touched_trace frames place o) c.object.ensures.is)
