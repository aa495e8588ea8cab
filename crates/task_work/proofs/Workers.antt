-- A row of all workers' parts: what stands in its shares and local parts, and in a row of new parts.
use Rattle.std.proofs.Common.{◌≡◌, ℕ, ◌<◌, ◌≤◌, suc, arith, false, List, [], ◌∷◌, ◌++◌, length, refl, sym, ◌∙◌, ap, subst, get_or}
use Rattle.std.specs.Prelude.{IsTrue, Option, Some, None}
use Rattle.std.specs.Arc.{arc_value}
use Rattle.scalar_value.specs.declared.value.Value.{Value}
use Rattle.scalar_value.specs.declared.value.ColType.{ColType}
use Rattle.plan_machine.specs.Batch.{Batch}
use Rattle.plan_nodes.specs.Operators.{OpMeaning, Each, flat, end_count}
use Rattle.task_work.specs.declared.row.Shares.{Shares}
use Rattle.task_work.specs.declared.work.Part.{Part}
use Rattle.task_work.specs.declared.work.Share.{Share}
use Rattle.task_work.specs.declared.work.Share.TheVariants as share
use Rattle.task_work.specs.Rows.{AreParts, shares_of, locals_of, IsNew, IsNewOf}
use Rattle.task_work.specs.Sites.{Site}
use Rattle.task_work.specs.Work.{IsPart, IsPartOf, IsRow}

pub each_more : {A B : Type 0} (R : A → B → Type 0) (xs : List A) (ys : List B) (x : A) (y : B) → Each R xs ys → R x y → Each R (xs ++ x ∷ []) (ys ++ y ∷ [])
each_more R [] [] x y h r = (r, tt)
each_more R [] (z ∷ ys) x y h r = absurd h
each_more R (w ∷ xs) [] x y h r = absurd h
each_more R (w ∷ xs) (z ∷ ys) x y h r = (h.0, each_more R xs ys x y h.1 r)

pub each_pushed : {A B : Type 0} (R : A → B → Type 0) (xs : List A) (ys zs : List B) (x : A) (y : B) → Each R xs ys → zs ≡ ys ++ y ∷ [] → R x y → Each R (xs ++ x ∷ []) zs
each_pushed R xs ys zs x y h e r = subst (Each R (xs ++ x ∷ [])) (sym e) (each_more R xs ys x y h r)

each_length : {A B : Type 0} (R : A → B → Type 0) (xs : List A) (ys : List B) → Each R xs ys → length ys ≡ length xs
each_length R [] [] h = refl
each_length R [] (y ∷ ys) h = absurd h
each_length R (x ∷ xs) [] h = absurd h
each_length R (x ∷ xs) (y ∷ ys) h = ap suc (each_length R xs ys h.1)

module _ {O S L : Type 0}
    (meaning : O → OpMeaning)
    (local_is : OpMeaning → List ColType → L → List (Batch (List Value)) → Type 0)
    (shared_is : OpMeaning → List (List ColType) → S → List (List Value) → List (Batch (List Value)) → Type 0)
    (v : Site)
  where
    -- a worker's shares
    pub record Holds (built : List (List Value)) (streamed : List (Batch (List Value))) (x : Shares O S) : Type 0 where
      pub source : v.source ≡ false
      pub op : meaning (arc_value x.op) ≡ v.meaning
      pub fits : IsTrue (v.meaning.fits v.inputs)
      pub columns : v.columns ≡ v.meaning.columns v.inputs
      pub shared : shared_is v.meaning v.inputs (arc_value x.shared) built streamed

    abbrev pub AllHold : List (List Value) → List (Batch (List Value)) → List (Shares O S) → Type 0
    AllHold built streamed [] = Unit {0}
    AllHold built streamed (x ∷ xs) = Holds built streamed x × AllHold built streamed xs

    module _ (kinds : List ColType) (built : List (List Value)) (streamed : List (Batch (List Value))) where
      each_parts : (row : List (Option (Share O S L))) (lists : List (List (Batch (List Value)))) → Each (IsPartOf meaning local_is shared_is v kinds built streamed) row lists → AreParts row
      each_parts [] lists h = tt
      each_parts (None ∷ row) [] h = absurd h
      each_parts (None ∷ row) (l ∷ lists) h = absurd h.0
      each_parts (Some (share.Table t) ∷ row) [] h = absurd h
      each_parts (Some (share.Table t) ∷ row) (l ∷ lists) h = absurd h.0
      each_parts (Some (share.Part p) ∷ row) [] h = absurd h
      each_parts (Some (share.Part p) ∷ row) (l ∷ lists) h = each_parts row lists h.1

      each_local : (row : List (Option (Share O S L))) (lists : List (List (Batch (List Value)))) → Each (IsPartOf meaning local_is shared_is v kinds built streamed) row lists → Each (local_is v.meaning kinds) (locals_of row) lists
      each_local [] [] h = tt
      each_local [] (l ∷ lists) h = absurd h
      each_local (None ∷ row) [] h = absurd h
      each_local (None ∷ row) (l ∷ lists) h = absurd h.0
      each_local (Some (share.Table t) ∷ row) [] h = absurd h
      each_local (Some (share.Table t) ∷ row) (l ∷ lists) h = absurd h.0
      each_local (Some (share.Part p) ∷ row) [] h = absurd h
      each_local (Some (share.Part p) ∷ row) (l ∷ lists) h = (h.0.local, each_local row lists h.1)

      each_holds : (row : List (Option (Share O S L))) (lists : List (List (Batch (List Value)))) → Each (IsPartOf meaning local_is shared_is v kinds built streamed) row lists → AllHold built streamed (shares_of row)
      each_holds [] lists h = tt
      each_holds (None ∷ row) [] h = absurd h
      each_holds (None ∷ row) (l ∷ lists) h = absurd h.0
      each_holds (Some (share.Table t) ∷ row) [] h = absurd h
      each_holds (Some (share.Table t) ∷ row) (l ∷ lists) h = absurd h.0
      each_holds (Some (share.Part p) ∷ row) [] h = absurd h
      each_holds (Some (share.Part p) ∷ row) (l ∷ lists) h =
          (record { source = h.0.is_shared.source; op = h.0.is_shared.op; fits = h.0.is_shared.fits; columns = h.0.is_shared.columns; shared = h.0.is_shared.shared }, each_holds row lists h.1)

      each_count : (row : List (Option (Share O S L))) (lists : List (List (Batch (List Value)))) → Each (IsPartOf meaning local_is shared_is v kinds built streamed) row lists → length (shares_of row) ≡ length row
      each_count [] lists h = refl
      each_count (None ∷ row) [] h = absurd h
      each_count (None ∷ row) (l ∷ lists) h = absurd h.0
      each_count (Some (share.Table t) ∷ row) [] h = absurd h
      each_count (Some (share.Table t) ∷ row) (l ∷ lists) h = absurd h.0
      each_count (Some (share.Part p) ∷ row) [] h = absurd h
      each_count (Some (share.Part p) ∷ row) (l ∷ lists) h = ap suc (each_count row lists h.1)

      first_holds : (xs : List (Shares O S)) (x : Shares O S) → 0 < length xs → x ≡ get_or xs 0 x → AllHold built streamed xs → Holds built streamed x
      first_holds [] x some e h = absurd (omega arith)
      first_holds (y ∷ xs) x some e h = subst (Holds built streamed) (sym e) h.0

    -- the lists of workers who took nothing yet
    blanks : List (Shares O S) → List (List (Batch (List Value)))
    blanks [] = []
    blanks (x ∷ xs) = [] ∷ blanks xs

    flat-blanks : (xs : List (Shares O S)) → flat (blanks xs) ≡ []
    unfolding blanks
    flat-blanks [] = refl
    flat-blanks (x ∷ xs) = flat-blanks xs

    module _ (kinds : List ColType) (had : List (List Value)) (gone : List (Batch (List Value))) (made : S) (built : List (List Value)) (streamed : List (Batch (List Value))) where
      one_new : (x : Shares O S) (p : Part O S L) → Holds had gone x → IsNew meaning local_is made x p → shared_is v.meaning v.inputs made built streamed → IsPart meaning local_is shared_is v kinds [] built streamed p
      one_new x p h n s =
          let op : meaning (arc_value p.op) ≡ v.meaning = ap (λ a. meaning (arc_value a)) n.op ∙ h.op in
          record {
            is_shared = record { source = h.source; op = op; fits = h.fits; columns = h.columns; shared = subst (λ z. shared_is v.meaning v.inputs z built streamed) (sym n.shared) s };
            local = subst (λ m. local_is m kinds p.local []) op (n.local kinds);
          }

      all_new : (xs : List (Shares O S)) (row : List (Option (Share O S L))) → AllHold had gone xs → Each (IsNewOf meaning local_is made) xs row → shared_is v.meaning v.inputs made built streamed
          → Each (IsPartOf meaning local_is shared_is v kinds built streamed) row (blanks xs)
      unfolding blanks
      all_new [] [] h n s = tt
      all_new [] (y ∷ row) h n s = absurd n
      all_new (x ∷ xs) [] h n s = absurd n
      all_new (x ∷ xs) (None ∷ row) h n s = absurd n.0
      all_new (x ∷ xs) (Some (share.Table t) ∷ row) h n s = absurd n.0
      all_new (x ∷ xs) (Some (share.Part p) ∷ row) h n s = (one_new x p h.0 n.0 s, all_new xs row h.1 n.1 s)

    -- ---- an operator that a share holds
    module _ (built : List (List Value)) (streamed : List (Batch (List Value))) (x : Shares O S) (h : Holds built streamed x) (o : O) (is : o ≡ arc_value x.op) where
      pub op_is : meaning o ≡ v.meaning
      op_is = ap meaning is ∙ h.op

      pub op_fits : IsTrue ((meaning o).fits v.inputs)
      op_fits = subst (λ m. IsTrue (m.fits v.inputs)) (sym op_is) h.fits

      pub op_shared : (s made : S) → s ≡ made → (now : List (List Value)) (sent : List (Batch (List Value))) → shared_is v.meaning v.inputs made now sent → shared_is (meaning o) v.inputs s now sent
      op_shared s made e now sent g = subst (λ m. shared_is m v.inputs s now sent) (sym op_is) (subst (λ z. shared_is v.meaning v.inputs z now sent) (sym e) g)

      pub op_held : (s : S) → s ≡ arc_value x.shared → shared_is (meaning o) v.inputs s built streamed
      op_held s e = op_shared s (arc_value x.shared) e built streamed h.shared

      pub op_gave : (made z : S) → made ≡ z → (now : List (List Value)) (sent : List (Batch (List Value))) → shared_is (meaning o) v.inputs z now sent → shared_is v.meaning v.inputs made now sent
      op_gave made z e now sent g = subst (λ k. shared_is v.meaning v.inputs k now sent) (sym e) (subst (λ m. shared_is m v.inputs z now sent) op_is g)

      pub op_count : (count : ℕ) (now : List (List Value)) (sent : List (Batch (List Value))) → count ≡ end_count (meaning o) now sent → count ≡ end_count v.meaning now sent
      op_count count now sent e = e ∙ ap (λ m. end_count m now sent) op_is

    -- ---- the row that a task takes
    module _ (kinds : List ColType) (taken : List (Batch (List Value))) (built : List (List Value)) (streamed : List (Batch (List Value))) (row : List (Option (Share O S L))) (r : IsRow meaning local_is shared_is v kinds taken built streamed row) where
      pub row_parts : AreParts row
      row_parts = each_parts kinds built streamed row r.lists r.parts

      pub row_some : 1 ≤ v.workers → (xs : List (Shares O S)) → xs ≡ shares_of row → 0 < length xs
      row_some w xs e = omega (arith, ap length e, each_count kinds built streamed row r.lists r.parts, r.workers)

      pub row_first : 1 ≤ v.workers → (xs : List (Shares O S)) → xs ≡ shares_of row → (x : Shares O S) → x ≡ get_or xs 0 x → Holds built streamed x
      row_first w xs e x at = first_holds kinds built streamed xs x (row_some w xs e) at (subst (AllHold built streamed) (sym e) (each_holds kinds built streamed row r.lists r.parts))

      pub row_locals : (m : OpMeaning) → m ≡ v.meaning → (locals : List L) → locals ≡ locals_of row → Each (local_is m kinds) locals r.lists
      row_locals m e locals is = subst (λ z. Each (local_is z kinds) locals r.lists) (sym e) (subst (λ z. Each (local_is v.meaning kinds) z r.lists) (sym is) (each_local kinds built streamed row r.lists r.parts))

      pub row_at : (of : OpMeaning → List ColType) → of v.meaning ≡ kinds → (m : OpMeaning) → m ≡ v.meaning → (locals : List L) → locals ≡ locals_of row → Each (local_is m (of m)) locals r.lists
      row_at of same m e locals is =
          subst (λ z. Each (local_is z (of z)) locals r.lists) (sym e) (subst (λ ks. Each (local_is v.meaning ks) locals r.lists) (sym same) (row_locals v.meaning refl locals is))

      pub row_new : (later : List ColType) → (xs : List (Shares O S)) → xs ≡ shares_of row → (news : List (Option (Share O S L))) (made : S) → Each (IsNewOf meaning local_is made) xs news
          → (now : List (List Value)) (sent : List (Batch (List Value))) → shared_is v.meaning v.inputs made now sent → IsRow meaning local_is shared_is v later [] now sent news
      row_new later xs e news made n now sent s =
          record {
            lists = blanks xs;
            parts = all_new later built streamed made now sent xs news (subst (AllHold built streamed) (sym e) (each_holds kinds built streamed row r.lists r.parts)) n s;
            all = flat-blanks xs;
            workers = each_length (IsNewOf meaning local_is made) xs news n ∙ (ap length e ∙ (each_count kinds built streamed row r.lists r.parts ∙ r.workers));
          }
