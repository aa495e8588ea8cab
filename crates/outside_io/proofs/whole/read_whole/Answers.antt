use Rattle.std.proofs.Common.{◌≡◌, ◌+◌, Some, length, take, arith, rules, length-take, ap, ◌∙◌}
use Rattle.std.proofs.lemmas.List.{take_at}
use Rattle.outside_io.specs.Outside.{Held}
use Rattle.outside_io.proofs.Fronts.{front_next, front_whole}
use Rattle.outside_io.proofs.whole.read_whole.Goals as goal

pub pieces-preserved : goal.pieces-preserved
pieces-preserved g c =
    let same : length c.read_next.new.buffer ≡ c.make_room.new.buffer.len = cc in
    let kept = c.in-Ok.ensures.kept_front ∙ ap (take c.pieces.filled) c.deref_mut.ensures.value ∙ c.in_ok-make_room.ensures.kept in
    rw (take_at _ _ _ same)
    (record {
      in_buffer = search rules;
      in_limit = search rules;
      front = λ held p. front_next _ _ _ _ _ (c.pieces.invariant.front held p) kept (c.in-Ok.ensures.bytes held (c.pieces.invariant.held ∙ p));
      held = c.in-Ok.ensures.held ∙ c.pieces.invariant.held;
      counts = search rules;
    })

pub returns-clause-known : goal.returns-clause-known
returns-clause-known g c =
    let same : length c.read_next.new.buffer ≡ c.make_room.new.buffer.len = cc in
    let kept = c.in-Ok.ensures.kept_front ∙ ap (take c.pieces.filled) c.deref_mut.ensures.value ∙ c.in_ok-make_room.ensures.kept in
    let answered = c.of.ensures ∙ c.truncate.ensures.items ∙ ap (take (c.pieces.filled + c.in-Ok.count)) (take_at _ _ _ same) in
    let more = λ (held : Held) (p : g.F.Files.held c.args.files.now ≡ Some held). c.in-Ok.ensures.bytes held (c.pieces.invariant.held ∙ p) in
    rw answered
    (λ held p. (
      front_whole (held c.args.name.now) c.read_next.new.buffer c.pieces.filled c.in-Ok.count
          (search rules)
          (omega arith)
          (front_next _ _ _ _ _ (c.pieces.invariant.front held p) kept (more held p))
          (more held p),
      omega (arith, length-take (c.pieces.filled + c.in-Ok.count) c.read_next.new.buffer),
    ))
