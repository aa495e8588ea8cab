use Rattle.std.proofs.Common.{◌≡◌, sym, ◌∙◌, arith}
use Rattle.std.proofs.lemmas.Bool.{leb-true, le-leb}
use Rattle.fetch_counts.proofs.Counted.{front_is}
use Rattle.fetch_counts.proofs.counting.is_met.Goals as goal

pub returns-in-Some-clause-fetch : goal.returns-in-Some-clause-fetch
returns-in-Some-clause-fetch c folded wanted is few f =
    let same : c.in-Some.wanted ≡ wanted = (let e = sym c.in-Some.is ∙ is in cc) in
    let front = c.args.front.now in
    let i = front_is folded front.first front.behind.items front.begins f.0 f.1 wanted (omega arith) in (
      λ t. i.0 (let le = leb-true c.in-Some.wanted front.first.rows t in omega arith),
      λ h. le-leb c.in-Some.wanted front.first.rows (let le = i.1 h in omega arith),
    )
