-- What the check of calls promises of the verbs that it gives.
use Rattle.std.specs.Prelude.{◌≡◌, Ok}
use Rattle.syntax_tree.specs.declared.tree.Call.{Call}
use Rattle.verb_forms.specs.declared.verb.Verb.{Verb}
use Rattle.verb_forms.specs.After.{after}
use Rattle.verb_forms.specs.Shapes.{ShapeValue, IsShape}
use Rattle.verb_forms.specs.Suits.{Suits}
use Rattle.verb_types.specs.Checks.{checked}

-- The verb that the check of a call gives suits the shape, and the shape beside it is the one after the verb.
abbrev pub CheckedVerbsSuit : Type 0
CheckedVerbsSuit = (call : Call) (x : ShapeValue) (v : Verb) (y : ShapeValue) → IsShape x → checked call x ≡ Ok (v, y) → Suits v x × (y ≡ after v x)
