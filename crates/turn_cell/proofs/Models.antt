-- What follows of two seats or two cells that are equal, as contracts see them.
use Rattle.std.proofs.Common.{◌≡◌, ap}
use Rattle.turn_cell.specs.Seats.{CellValue, SeatValue}
use Rattle.turn_cell.specs.declared.knowledge.Known.{Known}

module _ {M : Type 0} where
  pub same_table : {x y : CellValue M} → x ≡ y → x.table ≡ y.table
  same_table e = ap (λ (x : CellValue M). x.table) e

  pub same_start : {x y : CellValue M} → x ≡ y → x.start ≡ y.start
  same_start e = ap (λ (x : CellValue M). x.start) e

module _ {M E : Type 0} where
  pub same_cell : {x y : SeatValue M E} → x ≡ y → x.cell ≡ y.cell
  same_cell e = ap (λ (x : SeatValue M E). x.cell) e

  pub same_knows : {x y : SeatValue M E} → x ≡ y → x.knows ≡ y.knows
  same_knows e = ap (λ (x : SeatValue M E). x.knows) e

module _ {E : Type 0} where
  pub same_in_turn : {x y : Known E} → x ≡ y → x.in_turn ≡ y.in_turn
  same_in_turn e = ap (λ (x : Known E). x.in_turn) e

  pub same_is_first : {x y : Known E} → x ≡ y → x.is_first ≡ y.is_first
  same_is_first e = ap (λ (x : Known E). x.is_first) e

  pub same_seen : {x y : Known E} → x ≡ y → x.seen ≡ y.seen
  same_seen e = ap (λ (x : Known E). x.seen) e

  pub same_given : {x y : Known E} → x ≡ y → x.given ≡ y.given
  same_given e = ap (λ (x : Known E). x.given) e

  pub same_number : {x y : Known E} → x ≡ y → x.number ≡ y.number
  same_number e = ap (λ (x : Known E). x.number) e

  pub same_unjoined : {x y : Known E} → x ≡ y → x.unjoined ≡ y.unjoined
  same_unjoined e = ap (λ (x : Known E). x.unjoined) e
