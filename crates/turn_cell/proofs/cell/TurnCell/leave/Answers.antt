-- The entry may be counted, and then the turn may be given back.
use Rattle.std.proofs.Common.{◌≡◌, ◌⊎◌, ◌∙◌, sym, ap, subst, arith, [], ◌∷◌, ◌++◌, length, box_value, option_map, true, Some, None}
use Rattle.atomic_table.specs.Table.{rest}
use Rattle.turn_cell.specs.Seats.{emptied_slots}
use Rattle.turn_cell.proofs.Models.{same_table, same_start, same_cell, same_knows, same_in_turn, same_seen, same_number}
use Rattle.turn_cell.proofs.Turn.{may_count, may_give, job_of_start}
use Rattle.turn_cell.proofs.cell.TurnCell.leave.Given.{Over}
use Rattle.turn_cell.proofs.cell.TurnCell.leave.Goals.{After-exchange}
use Rattle.turn_cell.proofs.cell.TurnCell.leave.Goals as goal

-- the seat with the machine back in the slot
in_turn : (g : Over) (c : After-exchange g) → c.exchange.new.seat.me.0.knows.in_turn ≡ true
in_turn g c = ap (λ me. me.0.knows.in_turn) c.exchange.ensures.3 ∙ same_in_turn (same_knows c.seat.view_is) ∙ c.requires.in_turn

holds_machine : (g : Over) (c : After-exchange g) → c.exchange.new.seat.me.1 ≡ (0, Some c.args.machine) ∷ []
holds_machine g c = ap (λ me. me.1) c.exchange.ensures.3 ∙ ap (λ held. (0, Some c.args.machine) ∷ rest held) (c.seat.invariant.1 ∙ ap emptied_slots (same_in_turn (same_knows c.seat.view_is) ∙ c.requires.in_turn))

ahead : (g : Over) (c : After-exchange g) → g.M.Machine.history (box_value c.args.machine) ≡ c.exchange.new.seat.me.0.knows.seen ++ c.args.entry ∷ []
ahead g c = c.requires.history ∙ ap (λ seen. seen ++ c.args.entry ∷ []) (sym (ap (λ me. me.0.knows.seen) c.exchange.ensures.3 ∙ same_seen (same_knows c.seat.view_is)))

pub fetch_add-requires : goal.fetch_add-requires
fetch_add-requires g c =
    let knows = same_knows c.seat.view_is in let after = c.exchange.ensures.3 in (
      c.exchange.ensures.0 ∙ same_table (same_cell c.seat.view_is ∙ c.requires.cell ∙ sym c.self.view_is),
      omega (arith, c.self.invariant.0),
      may_count g.M.Machine.owner (λ b. g.M.Machine.history (box_value b)) (λ b. g.M.Machine.job (box_value b)) g.M.Machine.job _ _ _ _ c.args.machine c.args.entry
          (ap (λ me. me.0.is_live) after ∙ c.seat.invariant.0)
          (in_turn g (goal.at.fetch_add-requires g c).After-exchange)
          (holds_machine g (goal.at.fetch_add-requires g c).After-exchange)
          (ahead g (goal.at.fetch_add-requires g c).After-exchange)
          (subst (λ n. (g.M.Machine.owner c.args.entry ≡ None) ⊎ (g.M.Machine.owner c.args.entry ≡ Some n)) (sym (ap (λ me. me.0.knows.number) after ∙ same_number knows)) c.requires.owner)
          (omega (arith, c.length-seat-inside.type_inv, c.length-seat-inside.ensures, ap (λ m. length (g.M.Machine.history m)) c.deref.ensures)),
    )

pub store-requires : goal.store-requires
store-requires g c =
    let knows = same_knows c.seat.view_is in let after = c.exchange.ensures.3 in
    let counted = c.fetch_add.ensures.2 c.args.machine c.args.entry (holds_machine g (goal.at.store-requires g c).After-exchange) (ahead g (goal.at.store-requires g c).After-exchange) in (
      c.fetch_add.ensures.0 ∙ c.exchange.ensures.0 ∙ same_table (same_cell c.seat.view_is ∙ c.requires.cell ∙ sym c.self.view_is),
      omega (arith, c.self.invariant.0),
      may_give g.M.Machine.owner (λ b. g.M.Machine.history (box_value b)) (λ b. g.M.Machine.job (box_value b)) g.M.Machine.job _ _ _ _ c.args.machine
          c.self.invariant.1
          (ap (λ v. v.is_live) counted.1 ∙ ap (λ me. me.0.is_live) after ∙ c.seat.invariant.0)
          (ap (λ v. v.knows.in_turn) counted.1 ∙ in_turn g (goal.at.store-requires g c).After-exchange)
          (counted.0 ∙ holds_machine g (goal.at.store-requires g c).After-exchange)
          (ahead g (goal.at.store-requires g c).After-exchange ∙ sym (ap (λ v. v.knows.seen) counted.1))
          (job_of_start g.M.Machine.job _ _ (ap (option_map g.M.Machine.job) (ap (λ v. v.start) counted.1 ∙ ap (λ me. me.0.start) after ∙ same_start (same_cell c.seat.view_is ∙ c.requires.cell)) ∙ c.requires.job)),
    )
