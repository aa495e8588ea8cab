-- What is stored of each node as a run begins.
use Rattle.std.specs.Prelude.{ℕ, Bool, true, false, cond, List, [], ◌∷◌}
use Rattle.scalar_value.specs.declared.value.Value.{Value}
use Rattle.plan_machine.specs.Phases.{first_phase_of}
use Rattle.plan_machine.specs.Batch.{parts}
use Rattle.plan_nodes.specs.declared.node.Node.{Node}
use Rattle.plan_nodes.specs.Kinds.{kind_meaning, is_source}
use Rattle.plan_nodes.specs.Plans.{user_of, input_at, is_kept}
use Rattle.plan_store.specs.declared.stage.NodeInfo.{NodeInfo}
use Rattle.plan_store.specs.declared.stage.Stage.{Stage}

abbrev pub info_of : List Node → Node → ℕ → NodeInfo
info_of nodes v n =
    record {
      source = is_source v.kind;
      shape = (kind_meaning v.kind [] 1).shape;
      kept = is_kept v.mark;
      first = input_at v.inputs 0;
      second = input_at v.inputs 1;
      user = user_of nodes n;
    }

abbrev pub stage_of : Node → ℕ → List (List Value) → Stage
stage_of v batch rows =
    record {
      phase = first_phase_of (is_source v.kind) (kind_meaning v.kind [] 1).shape;
      next = 0;
      count = cond (is_source v.kind) (parts batch rows) 0;
      busy = 0;
    }

-- the rows of a node's table: of a source those of the next table, of any other node none
abbrev pub next_table : Bool → List (List (List Value)) → List (List Value)
next_table true [] = []
next_table true (t ∷ ts) = t
next_table false ts = []
