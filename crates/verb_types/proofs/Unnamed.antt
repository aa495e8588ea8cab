-- The columns of the arguments without names, read from the left.
use Rattle.std.proofs.Common.{◌≡◌, ℕ, refl, sym, ap, ◌∙◌, true, false, cond, List, [], ◌∷◌, ◌++◌, map, append_assoc, append-nil, Result, Ok, Err}
use Rattle.std.specs.Prelude.{filter}
use Rattle.row_table.specs.declared.field.Field.{Field}
use Rattle.syntax_tree.specs.declared.tree.Arg.{Arg}
use Rattle.term_calls.specs.declared.fault.TermFault.{TermFault}
use Rattle.term_calls.specs.Faults.{and_then}
use Rattle.term_calls.proofs.Collected.{behind}
use Rattle.verb_arguments.specs.Arguments.{value_of, is_unnamed}
use Rattle.verb_types.specs.Steps.{column_of, columns_of}
use Rattle.verb_types.specs.Working.{with_all_unnamed}

one_behind : (had : List ℕ) (x : ℕ) (r : Result (List ℕ) TermFault) → behind (had ++ x ∷ []) r ≡ behind had (and_then r (λ xs. Ok (x ∷ xs)))
one_behind had x (Ok xs) = ap (λ l. Ok l) (append_assoc had (x ∷ []) xs)
one_behind had x (Err f) = refl

column_first : (r : Result ℕ TermFault) (had : List ℕ) (rest : Result (List ℕ) TermFault) (next : List ℕ → Result (List ℕ) TermFault) → ((now : List ℕ) → next now ≡ behind now rest)
    → and_then (and_then r (λ at. Ok (had ++ at ∷ []))) next ≡ behind had (and_then r (λ x. and_then rest (λ xs. Ok (x ∷ xs))))
column_first (Ok x) had rest next h = h (had ++ x ∷ []) ∙ one_behind had x rest
column_first (Err f) had rest next h = refl

unnamed_behind : (schema : List Field) (args : List Arg) (had : List ℕ) → with_all_unnamed schema had args ≡ behind had (columns_of schema (map value_of (filter is_unnamed args)))
unnamed_behind schema [] had = ap (λ l. Ok l) (sym (append-nil had))
unnamed_behind schema (a ∷ args) had =
    elim (is_unnamed a) as (λ b. and_then {F = TermFault} (cond b (and_then (column_of schema (value_of a)) (λ at. Ok (had ++ at ∷ []))) (Ok had)) (λ now. with_all_unnamed schema now args) ≡ behind had (columns_of schema (map value_of (cond b (a ∷ filter is_unnamed args) (filter is_unnamed args))))) [
      | true ↦ column_first (column_of schema (value_of a)) had (columns_of schema (map value_of (filter is_unnamed args))) (λ now. with_all_unnamed schema now args) (λ now. unnamed_behind schema args now)
      | false ↦ unnamed_behind schema args had
    ]

behind_nothing : (r : Result (List ℕ) TermFault) → behind [] r ≡ r
behind_nothing (Ok xs) = refl
behind_nothing (Err f) = refl

pub all_unnamed_read : (schema : List Field) (args : List Arg) → with_all_unnamed schema [] args ≡ columns_of schema (map value_of (filter is_unnamed args))
all_unnamed_read schema args = unnamed_behind schema args [] ∙ behind_nothing (columns_of schema (map value_of (filter is_unnamed args)))
