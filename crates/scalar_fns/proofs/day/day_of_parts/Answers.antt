use Rattle.std.proofs.Common.{arith, to_z, to_z-of_z, pos, ◌≡◌, refl, sym, ap, ◌∙◌, Some, ℤ, true, false, rules, FitsSigned}
use Rattle.std.specs.Int.{w8, w16, w32}
use Rattle.std.proofs.lemmas.Int.{ints}
use Rattle.jiff_core.specs.Calendar.{IsDate}
use Rattle.scalar_fns.proofs.Calendar.{date_there, date_missing, same_number}
use Rattle.scalar_fns.proofs.day.day_of_parts.Goals as goal

pub returns-in-Ok : goal.returns-in-Ok
returns-in-Ok c =
    let year : to_z w16 c.args.year ≡ pos c.args.year = omega (arith, ints) in
    let month : to_z w8 c.args.month ≡ pos c.args.month = omega (arith, ints) in
    let day : to_z w8 c.args.day ≡ pos c.args.day = omega (arith, ints) in
    let there : IsDate (pos c.args.year) (pos c.args.month) (pos c.args.day) = rw (year, month, day) at (c.in-Ok.ensures.succeeds.0 refl) in
    let parts = c.in-Ok.ensures.value in
    let fits : FitsSigned w32 c.to_unix_epoch_day.result = search rules in
    simp to_z-of_z (ap (λ (z : ℤ). Some z) (c.to_unix_epoch_day.ensures.value ∙ same_number (parts.0 ∙ year) (parts.1 ∙ month) (parts.2 ∙ day)) ∙ sym (date_there c.args.year c.args.month c.args.day there))

pub returns-in-Err : goal.returns-in-Err
returns-in-Err c =
    let year : to_z w16 c.args.year ≡ pos c.args.year = omega (arith, ints) in
    let month : to_z w8 c.args.month ≡ pos c.args.month = omega (arith, ints) in
    let day : to_z w8 c.args.day ≡ pos c.args.day = omega (arith, ints) in
    date_missing c.args.year c.args.month c.args.day c.requires.year_in
    (λ h. let clash : false ≡ true = c.in-Err.ensures.succeeds.1 (rw (year, month, day) h) in cc)
