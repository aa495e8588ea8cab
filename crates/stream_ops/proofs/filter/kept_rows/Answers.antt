use Rattle.std.proofs.Common.{List, [], ◌∷◌, ◌++◌, length, Bor, sym, ◌∙◌, ap₂}
use Rattle.std.proofs.lemmas.List.{length_push}
use Rattle.std.proofs.lemmas.Slice.Zip.{zip_turn}
use Rattle.scalar_value.specs.declared.value.Value.{Value}
use Rattle.stream_ops.proofs.Filtered.{kept, passed-over}
use Rattle.stream_ops.proofs.filter.kept_rows.Goals as goal

pub loop-row-preserved-in_ok-push : goal.loop-row-preserved-in_ok-push
loop-row-preserved-in_ok-push c =
    let rows = c.args.rows.now in
    let values = c.args.values.now in
    let seen = c.loop-row.yielded in
    let item : Bor (List Value) × Bor Value = (c.in-Some.row, c.in-Some.value) in
    let turn = zip_turn rows values seen _ c.loop-row.row-iterator c.next.new.self c.next.result (cc) (cc) c.loop-row.yielded_by item c.in-Some.is c.next.ensures.steps in
    c.in_ok-push.ensures.appended
    ∙ ap₂ (λ xs x. xs ++ x ∷ []) c.loop-row.invariant c.in_ok-copy.ensures
    ∙ sym (kept rows values (length seen) _ item.0.now item.1.now turn.0 turn.1 (turn.2 item.0.now) (turn.3 item.1.now) (length_push seen item) (sym c.is_true.ensures ∙ c.if-is_true.true))

pub loop-row-preserved : goal.loop-row-preserved
loop-row-preserved c =
    let rows = c.args.rows.now in
    let values = c.args.values.now in
    let seen = c.loop-row.yielded in
    let item : Bor (List Value) × Bor Value = (c.in-Some.row, c.in-Some.value) in
    let turn = zip_turn rows values seen _ c.loop-row.row-iterator c.next.new.self c.next.result (cc) (cc) c.loop-row.yielded_by item c.in-Some.is c.next.ensures.steps in
    c.loop-row.invariant
    ∙ sym (passed-over rows values (length seen) _ item.0.now item.1.now turn.0 turn.1 (turn.2 item.0.now) (turn.3 item.1.now) (length_push seen item) (sym c.is_true.ensures ∙ c.if-is_true.false))
