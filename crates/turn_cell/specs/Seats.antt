-- Cells and seats, as contracts see them.
use Rattle.std.specs.Prelude.{ℕ, Bool, true, false, List, [], ◌∷◌, Option, None, refl}
use Rattle.atomic_table.specs.Seated.{TableId, table_id_coded}
use Rattle.std.specs.Coded.{Coded, code_by, coded×, coded_ℕ, coded_bool, coded_list, coded_option}
use Rattle.turn_cell.specs.declared.knowledge.Known.{Known}

-- which cell it is: its table, which no other cell has, and the machine that it began with
pub record CellValue (M : Type 0) : Type 0 where
  pub table : TableId
  pub start : Option M

-- a seat: of which cell it is, and what it knows
pub record SeatValue (M E : Type 0) : Type 0 where
  pub cell : CellValue M
  pub knows : Known E

-- what a seat holds of the slot while the machine is out of it: the slot where it is in the turn, and else nothing
abbrev pub emptied_slots : {B : Type 0} → Bool → List (ℕ × Option B)
emptied_slots true = (0, None) ∷ []
emptied_slots false = []

-- how these are stored: each as the tuple of its fields
abbrev pub cell_value_coded : {M : Type 0} → Coded M → Coded (CellValue M)
cell_value_coded {M} c = code_by (TableId × Option M) (coded× table_id_coded (coded_option c)) (λ x. (x.table, x.start)) (λ p. record { table = p.0; start = p.1 }) (λ _. refl)

abbrev pub known_coded : {E : Type 0} → Coded E → Coded (Known E)
known_coded {E} c =
    code_by (ℕ × (List E × (List E × (Bool × (Bool × (List ℕ × (List (ℕ × List E) × ℕ)))))))
    (coded× coded_ℕ (coded× (coded_list c) (coded× (coded_list c) (coded× coded_bool (coded× coded_bool (coded× (coded_list coded_ℕ) (coded× (coded_list (coded× coded_ℕ (coded_list c))) coded_ℕ)))))))
    (λ k. (k.number, (k.seen, (k.own_entries, (k.in_turn, (k.is_first, (k.given, (k.joined, k.unjoined))))))))
    (λ p. record { number = p.0; seen = p.1.0; own_entries = p.1.1.0; in_turn = p.1.1.1.0; is_first = p.1.1.1.1.0; given = p.1.1.1.1.1.0; joined = p.1.1.1.1.1.1.0; unjoined = p.1.1.1.1.1.1.1 })
    (λ _. refl)

abbrev pub seat_value_coded : {M E : Type 0} → Coded M → Coded E → Coded (SeatValue M E)
seat_value_coded {M} {E} c e = code_by (CellValue M × Known E) (coded× (cell_value_coded c) (known_coded e)) (λ s. (s.cell, s.knows)) (λ p. record { cell = p.0; knows = p.1 }) (λ _. refl)
