use Rattle.std.proofs.Common.{[], ◌++◌, refl, ◌∙◌, ap, subst, append_assoc}
use Rattle.std.specs.Prelude.{Some}
use Rattle.std.specs.Arc.{arc_value}
use Rattle.task_work.specs.declared.work.Share.TheVariants as share
use Rattle.task_work.specs.Rows.{IsNewOf}
use Rattle.task_work.proofs.Workers.{each_pushed}
use Rattle.task_work.proofs.row.put_together.Goals as goal

pub loop-old-preserved : goal.loop-old-preserved
loop-old-preserved g c =
    record {
      all = rw append_assoc (c.loop-old.invariant.all ∙ ap (λ z. c.loop-old.yielded ++ z) c.in-Some.ensures.steps.0);
      each =
          each_pushed (IsNewOf g.O.Operator.meaning g.O.Operator.local_is (arc_value c.args.made.now)) c.loop-old.yielded c.loop-old.row.items c.push.new.self.items c.in-Some.old
          (Some (share.Part (record { op = c.in-Some.old.op; shared = c.in_ok-try_clone.field-0; local = c.in_ok-local.local })))
          c.loop-old.invariant.each c.in_ok-push.ensures.items
          (record {
            op = refl;
            shared = c.in_ok-try_clone.ensures;
            local = λ kinds. subst (λ o. g.O.Operator.local_is (g.O.Operator.meaning o) kinds c.in_ok-local.local []) c.deref.ensures (c.in_ok-local.ensures kinds);
          });
    }
