-- At most as many rules are levels as there are.
use Rattle.std.proofs.Common.{rules, ◌≡◌, ◌∷◌, [], length, arith, length-append, ap, ◌∙◌}
use Rattle.std.specs.Prelude.{reverse}
use Rattle.std.proofs.lemmas.List.{length-reverse}
use Rattle.syntax_steps.proofs.Basics.{levels_small}
use Rattle.syntax_steps.proofs.frame.Frames.push.Goals as goal

pub prove-unreachable-requires : goal.prove-unreachable-requires
prove-unreachable-requires c =
    let same : c.len-length.result ≡ length c.push.new.self.items = search rules in
    let grown = ap length c.in_ok-push.ensures.items ∙ length-append c.self.inside.items.items (c.args.frame ∷ []) in
    omega (arith, c.self.invariant, levels_small (reverse c.self.inside.items.items), length-reverse c.self.inside.items.items, same, grown)
