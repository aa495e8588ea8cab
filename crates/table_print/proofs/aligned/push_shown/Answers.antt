use Rattle.std.proofs.Common.{◌≡◌, ◌++◌, false, sym, ◌∙◌, ap, append_assoc}
use Rattle.std.specs.Prelude.{string_bytes}
use Rattle.std.specs.List.{list_any}
use Rattle.std.proofs.Math.Utf8.{encode, encodes}
use Rattle.table_print.specs.Aligned.{is_hidden, shown}
use Rattle.table_print.proofs.Texts.{plain-shown, shown-more}
use Rattle.table_print.proofs.aligned.push_shown.Goals as goal

pub returns-then-not-has_hidden : goal.returns-then-not-has_hidden
returns-then-not-has_hidden c =
    let none : list_any is_hidden c.args.text.now ≡ false = cc in
    c.in_ok-push_str.ensures.bytes ∙ ap (λ t. string_bytes c.args.out.now ++ t) (sym (plain-shown c.args.text.now none))

pub loop-c-preserved : goal.loop-c-preserved
loop-c-preserved c =
    c.in_ok-push.ensures.bytes ∙ ap (λ t. t ++ encode c.shown_char.result) c.loop-c.invariant
    ∙ append_assoc (string_bytes c.args.out.now) (shown (encodes c.loop-c.yielded)) (encode c.shown_char.result)
    ∙ ap (λ x. string_bytes c.args.out.now ++ (shown (encodes c.loop-c.yielded) ++ encode x)) c.shown_char.ensures
    ∙ ap (λ t. string_bytes c.args.out.now ++ t) (sym (shown-more c.loop-c.yielded c.in-Some.c))
