use Rattle.std.proofs.Common.{to_z, arith, sym, ap, ◌∙◌, option_map, pos, lit<, None, Option, ℕ, ℤ, ◌≡◌}
use Rattle.std.specs.Int.{w64}
use Rattle.std.proofs.lemmas.Int.{ints}
use Rattle.std.proofs.lemmas.Str.Pattern.{strip_prefix_char}
use Rattle.scalar_value.proofs.Digits.{unsigned_text, dec_made}
use Rattle.scalar_value.specs.Decimals.{dec_of_text, dec_size}
use Rattle.scalar_value.proofs.dec6.Dec6.parse.Goals as goal

pub returns-in-Some-text_size-2 : goal.returns-in-Some-text_size-2
returns-in-Some-text_size-2 c =
    let plain = unsigned_text c.args.s.now (strip_prefix_char 45 c.args.s.now None c.in-None.ensures.cases (lit< tt)) in
    let small = c.in-Some-text_size-2.ensures.small in
    let same : to_z w64 c.in-Some-text_size-2.size ≡ pos c.in-Some-text_size-2.size = omega (arith, ints) in
    dec_made c.of-in-Some-text_size-2.result c.in-Some-text_size-2.size _ same small c.of-in-Some-text_size-2.ensures
    ∙ ap (option_map pos) c.in-Some-text_size-2.ensures.value ∙ sym plain

pub returns-in-None-text_size-2 : goal.returns-in-None-text_size-2
returns-in-None-text_size-2 c =
    let plain = unsigned_text c.args.s.now (strip_prefix_char 45 c.args.s.now None c.in-None.ensures.cases (lit< tt)) in
    ap (option_map pos) c.in-None-text_size-2.ensures.value ∙ sym plain
