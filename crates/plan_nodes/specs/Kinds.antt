-- What each kind of node computes, on whole lists of rows.
use Rattle.std.specs.Prelude.{ℕ, ◌+◌, ◌-◌, ◌^◌, nat_le, Bool, true, false, ◌&&◌, not, cond, List, [], ◌∷◌, ◌++◌, map, length, Some, None}
use Rattle.std.specs.List.{filter, flat_map, list_any}
use Rattle.scalar_value.specs.declared.value.Value.TheVariants.{Missing}
use Rattle.scalar_value.specs.declared.value.Value.{Value}
use Rattle.scalar_value.specs.declared.value.ColType.{ColType}
use Rattle.scalar_value.specs.Truths.{is_true}
use Rattle.na_expr.specs.declared.expr.Expr.{Expr}
use Rattle.na_expr.specs.Evaluation.{val}
use Rattle.na_expr.specs.Types.{typed}
use Rattle.row_table.specs.declared.field.Field.{Field}
use Rattle.row_table.specs.declared.join.JoinKind.{JoinKind}
use Rattle.row_table.specs.declared.join.JoinKind.TheVariants.{Inner, Left, Right, Full, Semi, Anti}
use Rattle.row_table.specs.Keys.{Matching, rows_match}
use Rattle.column_batch.specs.Batches.{kinds_of}
use Rattle.plan_machine.specs.declared.shape.OpShape.{OpShape}
use Rattle.plan_nodes.specs.declared.node.NodeKind.{NodeKind}
use Rattle.plan_nodes.specs.declared.node.NodeKind.TheVariants.{Source, Filter, Project, Longer, Aggregate, HashJoin, OrderBy, Fetch, Window, Sink}
use Rattle.plan_nodes.specs.declared.options.LongerSpec.{LongerSpec}
use Rattle.plan_nodes.specs.declared.options.AggSpec.{AggSpec}
use Rattle.plan_nodes.specs.declared.options.JoinSpec.{JoinSpec}
use Rattle.plan_nodes.specs.declared.options.SortKey.{SortKey}
use Rattle.plan_nodes.specs.declared.options.WindowSpec.{WindowSpec}
use Rattle.plan_nodes.specs.Operators.{OpMeaning, first_of, second_of}
use Rattle.plan_nodes.specs.KindRows.{longer_rows, aggregated, ordered_rows, fetched, windowed}
pub use Rattle.plan_nodes.specs.KindTypes.{same_kind, same_kinds, unnamed, is_ok, ok_or_lgl, is_condition, are_typed, types_of, kind_at, same_column, keys_fit}
use Rattle.plan_nodes.specs.KindTypes.{looks_at_places, window_looks_at_places, lacks_column, longer_fits, longer_kinds, aggregate_fits, aggregate_kinds, order_fits, window_fits, window_kinds}

-- ---- rows

-- filter: the rows on which the condition is TRUE
abbrev pub filtered : Expr → List (List Value) → List (List Value)
filtered e rows = filter (λ row. is_true (val row e)) rows

-- project: for each row the values of the expressions
abbrev pub projected : List Expr → List (List Value) → List (List Value)
projected es rows = map (λ row. map (val row) es) rows

-- hashjoin: which rows match
abbrev pub matching : JoinSpec → Matching
matching j = record { left = j.left_keys; right = j.right_keys; na_match = j.na_match }

-- so many missing values
abbrev pub missing_row : List ColType → List Value
missing_row kinds = map (λ t. Missing) kinds

-- What a left row gives with the right rows that match it, where right rows have columns of these types: an inner or a
-- right join a row for each of them; a left or a full join also one where there is none, with missing values for the right
-- side; a semi and an anti join the left row itself where there are some, or none.
abbrev pub joined_row : JoinKind → List ColType → List Value → List (List Value) → List (List Value)
joined_row Inner right x ys = map (λ y. x ++ y) ys
joined_row Left right x [] = (x ++ missing_row right) ∷ []
joined_row Left right x (y ∷ ys) = map (λ y. x ++ y) (y ∷ ys)
joined_row Right right x ys = map (λ y. x ++ y) ys
joined_row Full right x [] = (x ++ missing_row right) ∷ []
joined_row Full right x (y ∷ ys) = map (λ y. x ++ y) (y ∷ ys)
joined_row Semi right x [] = []
joined_row Semi right x (y ∷ ys) = x ∷ []
joined_row Anti right x [] = x ∷ []
joined_row Anti right x (y ∷ ys) = []

-- what left rows give, in their order
abbrev pub joined_rows : JoinSpec → List ColType → List (List Value) → List (List Value) → List (List Value)
joined_rows j right built rows = flat_map (λ x. joined_row j.kind right x (filter (rows_match (matching j) x) built)) rows

-- the right rows that match no left row
abbrev pub unmatched : JoinSpec → List (List Value) → List (List Value) → List (List Value)
unmatched j built streamed = filter (λ y. not (list_any (λ x. rows_match (matching j) x y) streamed)) built

-- a right or a full join gives them at its end, with missing values for the left side
abbrev pub has_unmatched : JoinKind → Bool
has_unmatched Inner = false
has_unmatched Left = false
has_unmatched Right = true
has_unmatched Full = true
has_unmatched Semi = false
has_unmatched Anti = false

abbrev pub unmatched_rows : JoinSpec → List ColType → List (List Value) → List (List Value) → List (List Value)
unmatched_rows j left built streamed = cond (has_unmatched j.kind) (map (λ y. missing_row left ++ y) (unmatched j built streamed)) []

-- semi and anti joins keep the left columns alone
abbrev pub keeps_left : JoinKind → Bool
keeps_left Inner = false
keeps_left Left = false
keeps_left Right = false
keeps_left Full = false
keeps_left Semi = true
keeps_left Anti = true

-- ---- operators

abbrev pub streaming : OpShape
streaming = record { folds = false; streams = true; tails = false }

abbrev pub gathering : OpShape
gathering = record { folds = true; streams = false; tails = false }

-- A filter keeps the columns; its condition is a truth value.
abbrev pub filter_meaning : Expr → OpMeaning
filter_meaning e =
    record {
      shape = streaming;
      wanted = None;
      size = None;
      cuts = false;
      part = λ built rows. filtered e rows;
      rest = λ built streamed. [];
      fits = λ inputs. is_condition (typed (unnamed (first_of inputs)) e);
      columns = first_of;
    }

-- A project is made for an input with columns of these types, and gives a column for each expression.
abbrev pub project_meaning : List Expr → List ColType → OpMeaning
project_meaning es kinds =
    record {
      shape = streaming;
      wanted = None;
      size = None;
      cuts = false;
      part = λ built rows. projected es rows;
      rest = λ built streamed. [];
      fits = λ inputs. same_kinds kinds (first_of inputs) && are_typed kinds es;
      columns = λ inputs. types_of kinds es;
    }

-- A hashjoin is made for inputs with columns of these types. It gathers its right input and streams its left one.
abbrev pub join_meaning : JoinSpec → List ColType → List ColType → ℕ → OpMeaning
join_meaning j left right size =
    record {
      shape = record { folds = true; streams = true; tails = has_unmatched j.kind };
      wanted = None;
      size = Some size;
      cuts = true;
      part = joined_rows j right;
      rest = unmatched_rows j left;
      fits = λ inputs. same_kinds left (first_of inputs) && (same_kinds right (second_of inputs) && keys_fit left right j.left_keys j.right_keys);
      columns = λ inputs. cond (keeps_left j.kind) left (left ++ right);
    }

-- A sink gathers its input, whatever its columns are, and is read in batches of this size.
abbrev pub sink_meaning : ℕ → OpMeaning
sink_meaning size =
    record {
      shape = gathering;
      wanted = None;
      size = Some size;
      cuts = false;
      part = λ built rows. [];
      rest = λ built streamed. built;
      fits = λ inputs. true;
      columns = first_of;
    }

-- What is read once its one input has ended: an operator that gathers it whole, and gives rows at its end.
abbrev pub ending : OpShape
ending = record { folds = true; streams = false; tails = true }

-- A longer is made for an input with these columns, whose names it gives as values.
abbrev pub longer_meaning : LongerSpec → List Field → OpMeaning
longer_meaning s schema =
    record {
      shape = streaming;
      wanted = None;
      size = None;
      cuts = false;
      part = λ built rows. longer_rows schema s rows;
      rest = λ built streamed. [];
      fits = λ inputs. same_kinds (kinds_of schema) (first_of inputs) && longer_fits (kinds_of schema) s;
      columns = λ inputs. longer_kinds (kinds_of schema) s;
    }

-- An aggregate is made for an input with columns of these types.
abbrev pub aggregate_meaning : AggSpec → List ColType → ℕ → OpMeaning
aggregate_meaning s kinds size =
    record {
      shape = ending;
      wanted = None;
      size = Some size;
      cuts = false;
      part = λ built rows. [];
      rest = λ built streamed. aggregated s built;
      fits = λ inputs. same_kinds kinds (first_of inputs) && aggregate_fits kinds s;
      columns = λ inputs. aggregate_kinds kinds s;
    }

-- An order_by sorts its input by some of its columns.
abbrev pub order_meaning : List SortKey → ℕ → OpMeaning
order_meaning ks size =
    record {
      shape = ending;
      wanted = None;
      size = Some size;
      cuts = false;
      part = λ built rows. [];
      rest = λ built streamed. ordered_rows ks built;
      fits = λ inputs. order_fits (first_of inputs) ks;
      columns = first_of;
    }

-- A fetch wants to see the rows that it leaves out and those that it gives, which are no more than a count of 64 bits says.
abbrev pub fetch_meaning : (offset count size : ℕ) → OpMeaning
fetch_meaning offset count size =
    record {
      shape = ending;
      wanted = Some (offset + count);
      size = Some size;
      cuts = false;
      part = λ built rows. [];
      rest = λ built streamed. fetched offset count built;
      fits = λ inputs. nat_le (offset + count) (2 ^ 64 - 1);
      columns = first_of;
    }

-- A window is made for an input with columns of these types.
abbrev pub window_meaning : WindowSpec → List ColType → ℕ → OpMeaning
window_meaning s kinds size =
    record {
      shape = ending;
      wanted = None;
      size = Some size;
      cuts = false;
      part = λ built rows. [];
      rest = λ built streamed. windowed s built;
      fits = λ inputs. same_kinds kinds (first_of inputs) && window_fits kinds s;
      columns = λ inputs. window_kinds kinds s;
    }

-- A source has no operator; it stands here as one that gives nothing.
abbrev pub no_meaning : OpMeaning
no_meaning =
    record {
      shape = record { folds = false; streams = false; tails = false };
      wanted = None;
      size = None;
      cuts = false;
      part = λ built rows. [];
      rest = λ built streamed. [];
      fits = λ inputs. true;
      columns = first_of;
    }

-- the operator of a node with inputs of these columns, where batches have so many rows
abbrev pub kind_meaning : NodeKind → List (List Field) → ℕ → OpMeaning
kind_meaning (Source name) inputs batch = no_meaning
kind_meaning (Filter e) inputs batch = filter_meaning e
kind_meaning (Project es) inputs batch = project_meaning es (kinds_of (first_of inputs))
kind_meaning (Longer s) inputs batch = longer_meaning s (first_of inputs)
kind_meaning (Aggregate s) inputs batch = aggregate_meaning s (kinds_of (first_of inputs)) batch
kind_meaning (HashJoin j) inputs batch = join_meaning j (kinds_of (first_of inputs)) (kinds_of (second_of inputs)) batch
kind_meaning (OrderBy ks) inputs batch = order_meaning ks batch
kind_meaning (Fetch offset count) inputs batch = fetch_meaning offset count batch
kind_meaning (Window s) inputs batch = window_meaning s (kinds_of (first_of inputs)) batch
kind_meaning Sink inputs batch = sink_meaning batch

-- how many inputs a node takes
abbrev pub input_count : NodeKind → ℕ
input_count (Source name) = 0
input_count (Filter e) = 1
input_count (Project es) = 1
input_count (Longer s) = 1
input_count (Aggregate s) = 1
input_count (HashJoin j) = 2
input_count (OrderBy ks) = 1
input_count (Fetch offset count) = 1
input_count (Window s) = 1
input_count Sink = 1

abbrev pub is_source : NodeKind → Bool
is_source (Source name) = true
is_source (Filter e) = false
is_source (Project es) = false
is_source (Longer s) = false
is_source (Aggregate s) = false
is_source (HashJoin j) = false
is_source (OrderBy ks) = false
is_source (Fetch offset count) = false
is_source (Window s) = false
is_source Sink = false

abbrev pub is_sink : NodeKind → Bool
is_sink (Source name) = false
is_sink (Filter e) = false
is_sink (Project es) = false
is_sink (Longer s) = false
is_sink (Aggregate s) = false
is_sink (HashJoin j) = false
is_sink (OrderBy ks) = false
is_sink (Fetch offset count) = false
is_sink (Window s) = false
is_sink Sink = true

-- Whether a node asks for an input whose order is kept: a fetch, which gives the first rows; an order_by that leaves rows
-- apart from which its keys can't be told; and aggregates and windows that look at the places of rows.
abbrev pub asks_order : NodeKind → List (List Field) → Bool
asks_order (Source name) inputs = false
asks_order (Filter e) inputs = false
asks_order (Project es) inputs = false
asks_order (Longer s) inputs = false
asks_order (Aggregate s) inputs = list_any (λ call. looks_at_places call.kind) s.calls
asks_order (HashJoin j) inputs = false
asks_order (OrderBy ks) inputs = lacks_column ks (length (first_of inputs))
asks_order (Fetch offset count) inputs = true
asks_order (Window s) inputs = list_any (λ call. window_looks_at_places call.kind) s.calls
asks_order Sink inputs = false

-- The kinds of which plans may be made today: those whose operators are built, and which the state of a run takes.
abbrev pub is_built : NodeKind → Bool
is_built (Source name) = true
is_built (Filter e) = true
is_built (Project es) = true
is_built (Longer s) = false
is_built (Aggregate s) = false
is_built (HashJoin j) = true
is_built (OrderBy ks) = false
is_built (Fetch offset count) = true
is_built (Window s) = false
is_built Sink = true
