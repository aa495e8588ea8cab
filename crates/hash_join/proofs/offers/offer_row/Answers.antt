use Rattle.std.proofs.Common.{◌++◌, [], ◌∷◌, cond, not, filter, inl, inr, sym, ◌∙◌, ap}
use Rattle.row_table.specs.Keys.{rows_match}
use Rattle.plan_nodes.specs.Kinds.{matching}
use Rattle.plan_nodes.proofs.JoinParts.{on-ok}
use Rattle.hash_join.specs.Windows.{offers}
use Rattle.hash_join.specs.Given.{given_row}
use Rattle.hash_join.proofs.Windowed.{offers-more}
use Rattle.hash_join.proofs.GivenRows.{semi-offered, anti-offered, left-offered, full-offered}
use Rattle.hash_join.proofs.offers.offer_row.Goals as goal

pub returns-then-window : goal.returns-then-window
returns-then-window c =
    sym (offers-more c.args.window.now (given_row c.args.spec.now.kind c.args.missing.now c.args.x.now (filter (rows_match (matching c.args.spec.now) c.args.x.now) c.args.built.now)) c.if-window.true)

pub returns-in-Semi : goal.returns-in-Semi
returns-in-Semi c =
    let x = c.args.x.now in
    let w = c.args.window.now in
    rw c.in-Semi.is
    (on-ok c.offer_if.result
    (λ e. semi-offered (rows_match (matching c.args.spec.now) x) c.args.missing.now x c.args.built.now w c.offer_if.new.window
    (e ∙ ap (λ b. offers w (cond b ((x ++ []) ∷ []) [])) c.has_match.ensures))
    c.offer_if.ensures)

pub returns-in-Anti : goal.returns-in-Anti
returns-in-Anti c =
    let x = c.args.x.now in
    let w = c.args.window.now in
    rw c.in-Anti.is
    (on-ok c.offer_if-in-Anti.result
    (λ e. anti-offered (rows_match (matching c.args.spec.now) x) c.args.missing.now x c.args.built.now w c.offer_if-in-Anti.new.window
    (e ∙ ap (λ b. offers w (cond (not b) ((x ++ []) ∷ []) [])) c.has_match-in-Anti.ensures))
    c.offer_if-in-Anti.ensures)

pub returns-in_ok-any-in-Left : goal.returns-in_ok-any-in-Left
returns-in_ok-any-in-Left c =
    let x = c.args.x.now in
    let missing = c.args.missing.now in
    let f = rows_match (matching c.args.spec.now) x in
    let w = c.args.window.now in
    let u = c.offer_matches-in-Left.new.window in
    let v = c.offer_if-in-Left.new.window in
    let k = c.in_ok-any-in-Left.ensures in
    elim c.in-Left.is [
      | inl e ↦ rw e (on-ok c.offer_if-in-Left.result
          (λ m. left-offered f missing x c.args.built.now w v u k.1 (m ∙ ap (λ b. offers u (cond (not b) ((x ++ missing) ∷ []) [])) k.0))
          c.offer_if-in-Left.ensures)
      | inr e ↦ rw e (on-ok c.offer_if-in-Left.result
          (λ m. full-offered f missing x c.args.built.now w v u k.1 (m ∙ ap (λ b. offers u (cond (not b) ((x ++ missing) ∷ []) [])) k.0))
          c.offer_if-in-Left.ensures)
    ]
