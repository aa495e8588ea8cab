use Rattle.std.proofs.Common.{rules}
use Rattle.std.proofs.lemmas.List.Sorted.{answers_always}
use Rattle.plan_machine.specs.Batch.{key_of}
use Rattle.plan_nodes.proofs.Gathered.{stable-bare}
use Rattle.hash_join.proofs.gather.put_in_order.Goals as goal

pub returns : goal.returns
returns c =
    stable-bare c.args.all.items c.sort_by_key.new.self.items
    (c.in_ok-sort_by_key.ensures.sorted (λ b. key_of b.index) (answers_always _ _ _ (λ f a r g h. search rules)))
    (c.sort_by_key.ensures.stable (λ b. key_of b.index) (answers_always _ _ _ (λ f a r g h. search rules)))
