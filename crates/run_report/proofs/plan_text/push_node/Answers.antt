use Rattle.std.proofs.Common.{◌++◌, [], ◌∷◌, arith}
use Rattle.std.proofs.lemmas.Grind.{common_steps}
use Rattle.run_report.specs.PlanTexts.{kind_word, mark_word, input_words}
use Rattle.run_report.proofs.Lines.{joined}
use Rattle.run_report.proofs.plan_text.push_node.Goals as goal

pub returns : goal.returns
returns c =
    let v = c.args.node.now in
    grind (arith, common_steps, joined (kind_word v.kind) (input_words v.kind v.inputs ++ mark_word v.mark ∷ []))
