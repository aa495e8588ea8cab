-- A longer takes its rows one by one.
use Rattle.std.proofs.Common.{Bool, List, [], ◌∷◌, ◌++◌, map, refl}
use Rattle.std.proofs.lemmas.Grind.{flat_map-append}
use Rattle.scalar_value.specs.declared.value.Value.TheVariants.{Chr}
use Rattle.row_table.specs.declared.field.Field.{Field}
use Rattle.row_table.specs.Keys.{key_of}
use Rattle.plan_nodes.specs.declared.options.LongerSpec.{LongerSpec}
use Rattle.plan_nodes.specs.KindRows.{cell, name_at}
use Rattle.plan_nodes.specs.Kinds.{longer_meaning}
use Rattle.plan_nodes.proofs.Lawful.{LawfulMeaning}

pub longer-lawful : (s : LongerSpec) (schema : List Field) (gathers gives : Bool) → LawfulMeaning (longer_meaning s schema) gathers gives
longer-lawful s schema gathers gives = record {
  part_nil = λ b. refl;
  part_append = λ b xs ys. flat_map-append (λ row. map (λ column. key_of s.kept row ++ Chr (name_at schema column) ∷ cell column row ∷ []) s.chosen) xs ys;
  part_same = λ b c xs same h. refl;
  rest_same = λ tails b c xs ys same set. absurd (cc);
  fetch_wants = λ n wants front xs ys zs enough. refl;
}
