-- What a streamed batch gives, and what is left of it.
use Rattle.std.proofs.Common.{◌≡◌, ℕ, Bool, true, List, [], ◌∷◌, ◌++◌, refl, sym, ◌∙◌, ap, ap₂, subst}
use Rattle.std.specs.Prelude.{Option, Some, None, MatchOption, IsTrue}
use Rattle.std.specs.Arc.{arc_value}
use Rattle.scalar_value.specs.declared.value.Value.{Value}
use Rattle.scalar_value.specs.declared.value.ColType.{ColType}
use Rattle.column_batch.specs.Batches.{BatchValue}
use Rattle.plan_machine.specs.Batch.{Batch, marked}
use Rattle.plan_machine.specs.State.{Task}
use Rattle.plan_nodes.specs.Operators.{OpMeaning, item, first_of, sent_rows, next_from}
use Rattle.task_work.specs.declared.work.Part.{Part}
use Rattle.task_work.specs.declared.work.Waiting.{Waiting}
use Rattle.task_work.specs.Sites.{Site}
use Rattle.task_work.specs.Work.{IsPart, IsStreamed, IsOut, IsRest}

module _ {O S L : Type 0}
    (meaning : O → OpMeaning)
    (local_is : OpMeaning → List ColType → L → List (Batch (List Value)) → Type 0)
    (shared_is : OpMeaning → List (List ColType) → S → List (List Value) → List (Batch (List Value)) → Type 0)
    (v : Site)
  where
    rest_some : (t : Task (List Value)) (b : BatchValue) (next : ℕ) (rest : Option Waiting)
        → rest ≡ Some (record { batch = b; from = next })
        → b.index ≡ t.batch.index → b.rows ≡ t.batch.rows → b.kinds ≡ first_of v.inputs
        → IsRest meaning local_is shared_is v t (Some next) rest
    rest_some t b next rest e i r k = subst (IsRest meaning local_is shared_is v t (Some next)) (sym e) (i, r, k, refl)

    pub rest_stands : (t : Task (List Value)) (b : BatchValue) (next : Option ℕ) (rest : Option Waiting)
        → MatchOption next (rest ≡ None) (λ from. rest ≡ Some (record { batch = b; from = from }))
        → b.index ≡ t.batch.index → b.rows ≡ t.batch.rows → b.kinds ≡ first_of v.inputs
        → IsRest meaning local_is shared_is v t next rest
    rest_stands t b None rest e i r k = subst (IsRest meaning local_is shared_is v t None) (sym e) tt
    rest_stands t b (Some next) rest e i r k = rest_some t b next rest e i r k

    -- what the operator gives
    record Given (m : OpMeaning) (inputs : List (List ColType)) (built : List (List Value)) (taken : List (Batch (List Value))) (b : BatchValue) (from : ℕ) (new : L) (out : BatchValue) (next : Option ℕ) : Type 0 where
      local : local_is m (first_of inputs) new (taken ++ item b from ∷ [])
      rows : out.rows ≡ sent_rows m built b.rows from
      kinds : out.kinds ≡ m.columns inputs
      goes_on : next ≡ next_from m built b.rows from

    abbrev pub Gives : OpMeaning → S → L → BatchValue → ℕ → L → BatchValue → Option ℕ → Type 0
    Gives m s old b from new out next =
        m.shape.streams ≡ true → (inputs : List (List ColType)) (built : List (List Value)) (taken : List (Batch (List Value)))
        → IsTrue (m.fits inputs) → shared_is m inputs s built [] → local_is m (first_of inputs) old taken → b.kinds ≡ first_of inputs
        → local_is m (first_of inputs) new (taken ++ item b from ∷ []) × (out.rows ≡ sent_rows m built b.rows from) × (out.kinds ≡ m.columns inputs) × (next ≡ next_from m built b.rows from)

    module _ (t : Task (List Value)) (p : Part O S L) (b : BatchValue) (from : ℕ)
        (part : IsPart meaning local_is shared_is v (first_of v.inputs) t.took t.built [] p) (work : IsStreamed meaning local_is shared_is v t b from)
        (o : O) (s : S) (is_op : o ≡ arc_value p.op) (is_shared : s ≡ arc_value p.shared)
        (new : L) (out : BatchValue) (next : Option ℕ) (gives : Gives (meaning o) s p.local b from new out next)
      where
        given : Given v.meaning v.inputs t.built t.took b from new out next
        given =
            let at : Gives v.meaning (arc_value p.shared) p.local b from new out next = subst (λ z. Gives v.meaning z p.local b from new out next) is_shared (subst (λ m. Gives m s p.local b from new out next) (ap meaning is_op ∙ part.is_shared.op) gives) in
            let g = at work.streams v.inputs t.built t.took part.is_shared.fits part.is_shared.shared part.local work.columns in
            record { local = g.0; rows = g.1; kinds = g.2; goes_on = g.3 }

        pub streamed_part : IsPart meaning local_is shared_is v (first_of v.inputs) (t.took ++ t.batch ∷ []) t.built [] (record { op = p.op; shared = p.shared; local = new })
        streamed_part =
            record {
              is_shared = record { source = part.is_shared.source; op = part.is_shared.op; fits = part.is_shared.fits; columns = part.is_shared.columns; shared = part.is_shared.shared };
              local = subst (λ z. local_is v.meaning (first_of v.inputs) new (t.took ++ z ∷ [])) (sym work.batch) given.local;
            }

        pub streamed_out : (kept : Bool) (i j : Option ℕ) (made : BatchValue) → v.kept ≡ kept → j ≡ b.index → i ≡ marked kept j → made ≡ record out { index = i }
            → IsOut meaning local_is shared_is v t.batch.index (sent_rows v.meaning t.built t.batch.rows t.batch.from) made
        streamed_out kept i j made ek ej ei em =
            record {
              columns = ap (λ (z : BatchValue). z.kinds) em ∙ (given.kinds ∙ sym part.is_shared.columns);
              at = ap (λ (z : BatchValue). z.index) em ∙ (ei ∙ ap₂ marked (sym ek) (ej ∙ sym (ap (λ (z : Batch (List Value)). z.index) work.batch)));
              given = ap (λ (z : BatchValue). z.rows) em ∙ (given.rows ∙ sym (ap (λ (z : Batch (List Value)). sent_rows v.meaning t.built z.rows z.from) work.batch));
            }

        pub streamed_rest : (rest : Option Waiting) → MatchOption next (rest ≡ None) (λ at. rest ≡ Some (record { batch = b; from = at }))
            → IsRest meaning local_is shared_is v t (next_from v.meaning t.built t.batch.rows t.batch.from) rest
        streamed_rest rest e =
            subst (λ z. IsRest meaning local_is shared_is v t z rest)
            (given.goes_on ∙ sym (ap (λ (z : Batch (List Value)). next_from v.meaning t.built z.rows z.from) work.batch))
            (rest_stands t b next rest e (sym (ap (λ (z : Batch (List Value)). z.index) work.batch)) (sym (ap (λ (z : Batch (List Value)). z.rows) work.batch)) work.columns)
