use Rattle.std.proofs.Common.{◌≡◌, ◌-◌, [], ◌∷◌, ◌++◌, length, ap, subst, ◌∙◌, arith}
use Rattle.std.proofs.lemmas.List.{length-append}
use Rattle.plan_nodes.specs.declared.node.Node.{Node}
use Rattle.plan_nodes.specs.declared.node.NodeKind.TheVariants.{Sink}
use Rattle.chain_plans.specs.Chains.{chain_nodes, nodes_behind}
use Rattle.chain_plans.proofs.Making.{last_columns, step_made, last_at, none_left}
use Rattle.chain_plans.proofs.nodes.chain.Goals as goal

pub loop-step-preserved : goal.loop-step-preserved
loop-step-preserved c =
    let more : c.push-in-loop-step.new.self.items ≡ c.loop-step.nodes.items ++ c.in_ok-node_behind.field-0 ∷ [] = c.in_ok-push-2.ensures.items in
    let steps : c.loop-step.step-iterator.rest.items ≡ c.in-Some.step ∷ c.next.new.self.rest.items = c.in-Some.ensures.steps.0 in
    let is : c.in_ok-node_behind.field-0 ≡ record { kind = c.in-Some.step.kind; inputs = length c.loop-step.nodes.items ∷ []; mark = c.args.mark; schema = c.in-Some.step.schema } = cc (c.in_ok-node_behind.ensures, c.len-input.ensures) in
    let whole : c.loop-step.nodes.items ++ nodes_behind c.args.mark (length c.loop-step.nodes.items) (last_columns c.loop-step.nodes.items) (c.in-Some.step ∷ c.next.new.self.rest.items) ≡ chain_nodes c.args.name c.args.mark c.args.schema c.args.steps =
    subst (λ ss. c.loop-step.nodes.items ++ nodes_behind c.args.mark (length c.loop-step.nodes.items) (last_columns c.loop-step.nodes.items) ss ≡ chain_nodes c.args.name c.args.mark c.args.schema c.args.steps) steps c.loop-step.invariant.so_far in
    let a = length-append c.loop-step.nodes.items (c.in_ok-node_behind.field-0 ∷ []) in
    let b = ap length more in
    let d = ap length steps in
    let few = c.loop-step.invariant.few in
    record {
      some = omega arith;
      few = omega arith;
      so_far = step_made c.args.mark _ c.loop-step.nodes.items c.push-in-loop-step.new.self.items c.in-Some.step c.next.new.self.rest.items c.in_ok-node_behind.field-0 more is whole;
    }

pub returns : goal.returns
returns c =
    let more : c.push-2.new.self.items ≡ c.loop-step.nodes.items ++ c.in_ok-node_behind-2.field-0 ∷ [] = c.in_ok-push-3.ensures.items in
    let none = c.in-None.ensures.steps.0 in
    let held = c.loop-step.step-iterator.rest.ok in
    let end : c.loop-step.step-iterator.rest.items ≡ [] = none_left c.loop-step.step-iterator.rest.items (omega arith) in
    let some = c.loop-step.invariant.some in
    let long = c.len-2.ensures in
    let at : c.index.result.now.schema ≡ last_columns c.loop-step.nodes.items = ap (λ (x : Node). x.schema) c.index.ensures ∙ last_at c.loop-step.nodes.items (c.len-2.result - 1) c.index.result.now (omega arith) in
    let number : c.len-input-2.result ≡ length c.loop-step.nodes.items = c.len-input-2.ensures ∙ (let a = c.loop-step.nodes.ok in omega arith) in
    let cols : c.in_ok-columns.columns ≡ last_columns c.loop-step.nodes.items = c.in_ok-columns.ensures ∙ at in
    let is : c.in_ok-node_behind-2.field-0 ≡ record { kind = Sink; inputs = length c.loop-step.nodes.items ∷ []; mark = c.args.mark; schema = last_columns c.loop-step.nodes.items } =
    c.in_ok-node_behind-2.ensures ∙ (ap (λ n. record { kind = Sink; inputs = n ∷ []; mark = c.args.mark; schema = c.in_ok-columns.columns }) number
    ∙ ap (λ f. record { kind = Sink; inputs = length c.loop-step.nodes.items ∷ []; mark = c.args.mark; schema = f }) cols) in
    c.of.ensures ∙ (more ∙ (ap (λ (x : Node). c.loop-step.nodes.items ++ x ∷ []) is
    ∙ subst (λ ss. c.loop-step.nodes.items ++ nodes_behind c.args.mark (length c.loop-step.nodes.items) (last_columns c.loop-step.nodes.items) ss ≡ chain_nodes c.args.name c.args.mark c.args.schema c.args.steps) end c.loop-step.invariant.so_far))
