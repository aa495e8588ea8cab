-- What a window shows of the output of a streamed batch.
use Rattle.std.proofs.Common.{◌≡◌, ℕ, List, [], drop, ◌∙◌, ap, ap₂, sym, subst}
use Rattle.scalar_value.specs.declared.value.Value.{Value}
use Rattle.scalar_value.specs.declared.value.ColType.{ColType}
use Rattle.plan_nodes.specs.declared.options.JoinSpec.{JoinSpec}
use Rattle.plan_nodes.specs.Kinds.{missing_row, joined_rows}
use Rattle.hash_join.specs.declared.window.Window.{Window}
use Rattle.hash_join.specs.Windows.{offers}
use Rattle.hash_join.specs.Given.{given_rows}
use Rattle.hash_join.proofs.Windowed.{open_at, Shows, shown}
use Rattle.hash_join.proofs.GivenRows.{rows-are}

pub shows-joined : (j : JoinSpec) (right : List ColType) (built rows : List (List Value)) (missing : List Value) (from size : ℕ) (w v : Window)
    → w ≡ open_at from size [] → missing ≡ missing_row right → v ≡ offers w (given_rows j missing built rows)
    → Shows v size (drop from (joined_rows j right built rows))
shows-joined j right built rows missing from size w v opened none all =
    let made : v ≡ offers (open_at from size []) (joined_rows j right built rows) =
    all ∙ ap₂ (λ (u : Window) (m : List Value). offers u (given_rows j m built rows)) opened none ∙ ap (offers (open_at from size [])) (rows-are j right built rows) in
    subst (λ u. Shows u size (drop from (joined_rows j right built rows))) (sym made) (shown from size (joined_rows j right built rows))
