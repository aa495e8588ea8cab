-- A checked `group_by` suits its shape.
use Rattle.std.proofs.Common.{◌≡◌, ℕ, Bool, true, false, Ok, List, [], map, filter, IsTrue, refl}
use Rattle.std.specs.Prelude.{if◌then◌else◌}
use Rattle.syntax_tree.specs.declared.tree.Arg.{Arg}
use Rattle.term_types.proofs.TypedPieces.{IfGiven, then_given}
use Rattle.verb_forms.specs.declared.verb.Verb.TheVariants.{GroupBy}
use Rattle.verb_forms.specs.Shapes.{ShapeValue, IsShape}
use Rattle.verb_forms.specs.Suits.{are_places}
use Rattle.selections.specs.Columns.{with_columns}
use Rattle.verb_arguments.specs.Arguments.{value_of, is_unnamed}
use Rattle.verb_types.specs.Steps.{columns_of, places_of, adds, group_by_of}
use Rattle.verb_types.proofs.Places.{with_columns-places, places_of-places}
use Rattle.verb_types.proofs.Grouped.{are_apart, apart_groups, places_of-apart, with_columns-apart}
use Rattle.verb_types.proofs.Promises.{Promised, columns_of-places}

had-places : (x : ShapeValue) (adds : Bool) → IsTrue (are_places x.schema (if adds then places_of x.schema x.groups else []))
had-places x true = places_of-places x.schema x.groups
had-places x false = refl

had-apart : (x : ShapeValue) (adds : Bool) → IsShape x → are_apart (if adds then places_of x.schema x.groups else []) ≡ true
had-apart x true is = places_of-apart x.schema x.groups is.grouped
had-apart x false is = refl

pub group_by_promised : (x : ShapeValue) (args : List Arg) → IsShape x → IfGiven (Promised x) (group_by_of x args)
group_by_promised x args is =
    let had : List ℕ = if adds args then places_of x.schema x.groups else [] in
    then_given (λ columns. IsTrue (are_places x.schema columns)) (Promised x) (columns_of x.schema (map value_of (filter is_unnamed args))) (λ columns. Ok (GroupBy (with_columns had columns)))
    (columns_of-places x.schema (map value_of (filter is_unnamed args)))
    (λ columns p.
    let places : IsTrue (are_places x.schema (with_columns had columns)) = with_columns-places x.schema had columns (had-places x (adds args)) p in
    record {
      form = places;
      grouped = λ d. apart_groups x.schema (with_columns had columns) is.named places (with_columns-apart had columns (had-apart x (adds args) is));
    })
