use Rattle.std.proofs.Common.{Some, None, sym, ap, ◌∙◌, option_map, Option, ℕ, ◌*◌, lit<}
use Rattle.std.proofs.lemmas.Str.Pattern.{split_once_first}
use Rattle.scalar_value.proofs.Digits.{whole_given, size_parted, size_none}
use Rattle.scalar_value.proofs.dec_text.text_size.Goals as goal

pub returns-in-Some-clause-value : goal.returns-in-Some-clause-value
returns-in-Some-clause-value c = whole_given c.args.text.now _ (sym c.if-is_digits.ensures) c.in-Some.ensures

pub returns-in-None-clause-value : goal.returns-in-None-clause-value
returns-in-None-clause-value c = whole_given c.args.text.now _ (sym c.if-is_digits.ensures) c.in-None.ensures

pub returns-in-Some-split_once-clause-value : goal.returns-in-Some-split_once-clause-value
returns-in-Some-split_once-clause-value c =
    let cut = split_once_first 46 c.args.text.now (Some (c.in-Some-split_once.whole, c.in-Some-split_once.part)) c.in-Some-split_once.ensures.cases (lit< tt) in
    c.parted_size.ensures.value ∙ size_parted c.args.text.now _ _ (sym c.if-is_digits.ensures) cut.1 cut.2

pub returns-in-None-split_once-clause-value : goal.returns-in-None-split_once-clause-value
returns-in-None-split_once-clause-value c =
    size_none c.args.text.now (sym c.if-is_digits.ensures) (split_once_first 46 c.args.text.now None c.in-None-split_once.ensures.cases (lit< tt))
