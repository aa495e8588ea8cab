-- A verb that is read of arguments of its form suits the shape where its tests pass.
use Rattle.std.proofs.Common.{◌≡◌, true, false, ◌&&◌, sym, ap, ◌∙◌, subst}
use Rattle.std.proofs.lemmas.Bool.{and_left, and_right}
use Rattle.verb_forms.specs.Shapes.{ShapeValue, IsShape}
use Rattle.verb_arguments.specs.Forms.{has_form}
use Rattle.verb_types.specs.Checks.{is_grouped, has_by, result_of}
use Rattle.verb_types.proofs.Promises.{Promised}
use Rattle.verb_types.proofs.Suiting.{read_promised, result_suits, suits_given}
use Rattle.verb_types.proofs.checks.checked_verb.Goals as goal
use Rattle.verb_types.proofs.checks.checked_verb.Goals.{In_ok-made, else-has_by-via-then-has_by+else-is_grouped, else-has_by-via-else-has_by}

promised : (c : In_ok-made) → Promised c.args.x.now c.in_ok-made.made
promised c =
    let free : (has_by c.args.verb c.args.args.now && is_grouped c.args.x.now) ≡ false =
    elim c.else-has_by.branch [
      | else-has_by-via-then-has_by+else-is_grouped w ↦ and_right (has_by c.args.verb c.args.args.now) (is_grouped c.args.x.now) (sym w.is_grouped.ensures ∙ w.if-is_grouped.false)
      | else-has_by-via-else-has_by w ↦ and_left (has_by c.args.verb c.args.args.now) (is_grouped c.args.x.now) (sym c.has_by.ensures ∙ w.if-has_by.false)
    ] in
    let P : ShapeValue → Type 0 = λ s. IsShape s in
    let shape : IsShape c.args.x.now = subst P c.x.view_is c.x.invariant in
    let form : has_form c.args.verb c.args.x.now.schema c.args.args.now ≡ true =
    ap (λ (s : ShapeValue). has_form c.args.verb s.schema c.args.args.now) (sym c.x.view_is) ∙ sym c.in_ok-has_form.ensures ∙ c.if-not-branch.false in
    read_promised c.args.verb c.args.x.now c.args.at c.args.args.now c.in_ok-made.made shape (form, free) c.in_ok-made.ensures

pub result_of-requires : goal.result_of-requires
result_of-requires c = (promised (goal.at.result_of-requires c).In_ok-made).grouped

pub returns-clause-suits : goal.returns-clause-suits
returns-clause-suits c =
    suits_given c.args.x.now (result_of c.args.at c.args.x.now c.in_ok-made.made) c.result_of.result
    (result_suits c.args.x.now c.args.at c.in_ok-made.made (promised (goal.at.returns-clause-suits c).In_ok-made)) c.result_of.ensures
