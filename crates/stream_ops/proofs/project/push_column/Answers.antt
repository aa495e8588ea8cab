use Rattle.std.proofs.Common.{ℕ, [], ◌∷◌, ◌++◌, length, sym, ◌∙◌, ap}
use Rattle.std.proofs.lemmas.List.{length_push}
use Rattle.std.proofs.lemmas.Iterator.Adapters.{YieldsList-from_vec}
use Rattle.std.proofs.lemmas.Iterator.Consumers.{YieldsList-from_enumerate, YieldsList-turn}
use Rattle.scalar_value.specs.declared.value.Value.{Value}
use Rattle.stream_ops.proofs.Transposed.{column-step}
use Rattle.stream_ops.proofs.project.push_column.Goals as goal

pub loop-place-preserved : goal.loop-place-preserved
loop-place-preserved c =
    let column = c.args.column in
    let seen = c.loop-place.yielded in
    let item : ℕ × Value = (c.in-Some.place, c.in-Some.value) in
    let counted = c.into_vec.result.ok.0 in
    let turn = YieldsList-turn (YieldsList-from_enumerate (YieldsList-from_vec column (cc) (cc)) (cc)) seen c.loop-place.place-iterator c.loop-place.yielded_by c.next.result c.next.new.self item c.in-Some.is c.next.ensures.steps in
    column-step c.args.rows.now c.loop-place.rows column (length seen) _ c.in-Some.place c.in-Some.value c.index-rows-place.result c.push.new.self
    c.requires c.loop-place.invariant turn c.index-rows-place.is (c.in_ok-push.ensures.appended ∙ ap (λ row. row ++ c.in-Some.value ∷ []) (sym c.index-rows-place.is)) (length_push seen item)
