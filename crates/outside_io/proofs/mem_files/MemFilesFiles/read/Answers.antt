use Rattle.std.proofs.Common.{◌≡◌, ◌<◌, ◌≤◌, refl, false, min, ◌-◌, length, rules, arith, ◌∙◌, ap}
use Rattle.outside_io.specs.Memory.{Named, place_named, is_to_fail}
use Rattle.outside_io.proofs.NamedFiles.{file_at, not_there, others_kept}
use Rattle.outside_io.proofs.mem_files.MemFilesFiles.read.Goals as goal

pub returns-then-contains-clause-others : goal.returns-then-contains-clause-others
returns-then-contains-clause-others c =
    λ other differ there. rw (c.fail.ensures.files, c.fail.ensures.counts, c.place_of-place.ensures.value, c.as_slice.ensures) (others_kept _ _ _ other _ differ there)

pub returns-then-place-len-clause-others : goal.returns-then-place-len-clause-others
returns-then-place-len-clause-others c =
    λ other differ there. rw (c.fail-then-place-len.ensures.files, c.fail-then-place-len.ensures.counts, c.place_of-place.ensures.value, c.as_slice.ensures) (others_kept _ _ _ other _ differ there)

pub returns-clause-bytes : goal.returns-clause-bytes
returns-clause-bytes c =
    let place = c.place_of-place.ensures.value ∙ ap (λ (l : Named). place_named l c.args.name.now) c.as_slice.ensures in
    let within : place_named c.args.self.now.files c.args.name.now < length c.args.self.now.files = omega (arith, place) in
    let found = file_at c.args.self.now.files c.args.name.now c.index-as_slice-place.result within in
    rw (found, ← place, ← c.as_slice-3.ensures, ← c.index-as_slice-place.is, ← c.as_slice-4.ensures) c.copy_from.ensures.filled

pub returns-then-place-len-clause-answer : goal.returns-then-place-len-clause-answer
returns-then-place-len-clause-answer c =
    let place = c.place_of-place.ensures.value ∙ ap (λ (l : Named). place_named l c.args.name.now) c.as_slice.ensures in
    let above : length c.args.self.now.files ≤ place_named c.args.self.now.files c.args.name.now = omega (arith, place) in
    rw (not_there c.args.self.now.files c.args.name.now above) refl

pub returns-clause-answer : goal.returns-clause-answer
returns-clause-answer c =
    let place = c.place_of-place.ensures.value ∙ ap (λ (l : Named). place_named l c.args.name.now) c.as_slice.ensures in
    let within : place_named c.args.self.now.files c.args.name.now < length c.args.self.now.files = omega (arith, place) in
    let found = file_at c.args.self.now.files c.args.name.now c.index-as_slice-place.result within in
    let goes_on : is_to_fail c.args.self.now.failing c.args.self.now.calls ≡ false = search rules in
    let count : c.copy_from.result ≡ min (length c.args.into.now) (length c.index-as_slice-place.result.1 - c.args.at) = cc in
    rw (found, goes_on, ← place, ← c.as_slice-3.ensures, ← c.index-as_slice-place.is, count) refl
