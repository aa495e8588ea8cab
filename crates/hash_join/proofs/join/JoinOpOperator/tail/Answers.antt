use Rattle.std.proofs.Common.{◌≡◌, ◌*◌, ◌++◌, map, take, drop, ◌∙◌, ap, ap₂}
use Rattle.std.specs.Arc.{arc_value}
use Rattle.column_batch.specs.Batches.{kinds_of, fit_kinds}
use Rattle.plan_machine.specs.Batch.{rows_of}
use Rattle.plan_nodes.specs.Kinds.{missing_row, unmatched_rows}
use Rattle.hash_join.specs.Parts.{left_over}
use Rattle.hash_join.proofs.Held.{part-fits, part-is, ends-tails, both-columns}
use Rattle.hash_join.proofs.join.JoinOpOperator.tail.Goals as goal

pub of_rows-requires : goal.of_rows-requires
of_rows-requires c =
    let s = c.requires in
    let rows : c.in_ok-rows.rows ≡ map (λ y. missing_row (kinds_of c.args.self.now.left) ++ y) c.part_of-part.result.now = cc (c.in_ok-rows.ensures, c.as_slice.ensures, c.in_ok-missing.ensures) in
    let part : c.part_of-part.result.now ≡ take c.args.self.now.batch (drop (c.args.k * c.args.self.now.batch) (left_over (arc_value c.args.shared.now.rows) c.args.shared.now.ends)) = cc (c.part_of-part.ensures, c.left_over.ensures) in
    ap₂ fit_kinds c.in_ok-kinds.ensures rows
    ∙ part-fits c.args.self.now.spec (kinds_of c.args.self.now.left) (kinds_of c.args.self.now.right) c.args.self.now.batch s.0 s.3
    (left_over (arc_value c.args.shared.now.rows) c.args.shared.now.ends) c.part_of-part.result.now c.args.self.now.batch (c.args.k * c.args.self.now.batch) s.4.2 part

pub returns : goal.returns
returns c ends inputs built streamed fits holds below =
    let j = c.args.self.now.spec in
    let left = kinds_of c.args.self.now.left in
    let right = kinds_of c.args.self.now.right in
    let size = c.args.self.now.batch in
    let tails = ends-tails j left right size ends in
    let rows : c.in_ok-rows.rows ≡ map (λ y. missing_row (kinds_of c.args.self.now.left) ++ y) c.part_of-part.result.now = cc (c.in_ok-rows.ensures, c.as_slice.ensures, c.in_ok-missing.ensures) in
    let part : c.part_of-part.result.now ≡ take c.args.self.now.batch (drop (c.args.k * c.args.self.now.batch) (left_over (arc_value c.args.shared.now.rows) c.args.shared.now.ends)) = cc (c.part_of-part.ensures, c.left_over.ensures) in (
      ap (λ b. b.rows) c.of_rows.ensures
          ∙ part-is j left right size inputs fits (left_over (arc_value c.args.shared.now.rows) c.args.shared.now.ends) (unmatched_rows j left built (rows_of streamed)) c.part_of-part.result.now c.in_ok-rows.rows size (c.args.k * size) (holds.3 tails) part rows,
      ap (λ b. b.kinds) c.of_rows.ensures ∙ c.in_ok-kinds.ensures ∙ both-columns j.kind left right tails,
    )
