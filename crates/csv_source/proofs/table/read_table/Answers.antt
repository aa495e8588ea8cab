use Rattle.std.proofs.Common.{◌≡◌, refl, Bool, true, false}
use Rattle.std.specs.Str.{is_utf8}
use Rattle.std.proofs.lemmas.Str.{IsUtf8-from_is_utf8, is_utf8-from_IsUtf8}
use Rattle.csv_source.specs.Typed.{typed}
use Rattle.csv_source.proofs.table.read_table.Goals as goal

pub returns-in-Ok : goal.returns-in-Ok
unfolding typed
returns-in-Ok c = rw (is_utf8-from_IsUtf8 c.args.bytes.now c.in-Ok.ensures.cases.1) c.read_records.ensures

not_true : (b : Bool) → (b ≡ true → ⊥) → b ≡ false
not_true true h = absurd (h refl)
not_true false h = refl

pub returns-in-Err : goal.returns-in-Err
unfolding typed
returns-in-Err c =
    let no = not_true (is_utf8 c.args.bytes.now) (λ e. c.in-Err.ensures.cases.0 (IsUtf8-from_is_utf8 c.args.bytes.now e)) in
    rw (c.at.ensures, no) refl
