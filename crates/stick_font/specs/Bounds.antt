-- What contracts of labels need: the next cell, and bounds of the arithmetic.
use Rattle.std.specs.Prelude.{ℕ, suc, ◌≤◌, ◌^◌, nat_abs, nat_eq, if◌then◌else◌}
use Rattle.exact.specs.declared.spot.Spot.{Spot}
use Rattle.stick_font.specs.declared.cell.Cell.{Cell}
use Rattle.stick_font.specs.declared.label.LabelStroke.{LabelStroke}
use Rattle.stick_font.specs.Labels.{carriage_return, is_printed, line_feed}

-- the cell after one more byte
abbrev pub moved_on : Cell → ℕ → Cell
moved_on cell byte = record {
  column = if nat_eq byte carriage_return then 0 else if is_printed byte then suc cell.column else cell.column;
  line = if nat_eq byte line_feed then suc cell.line else cell.line;
}

-- a column and a line are below 2^64
pub record IsLabelPoint (p : Spot) : Type 0 where
  pub x_in : nat_abs p.x ≤ 2 ^ 72
  pub y_in : nat_abs p.y ≤ 2 ^ 72

-- a cell near the label's start, the offsets of whose points are computed in 64 bits
pub record IsShortCell (cell : Cell) : Type 0 where
  pub column_in : cell.column ≤ 2 ^ 23
  pub line_in : cell.line ≤ 2 ^ 23

pub record IsShortPoint (p : Spot) : Type 0 where
  pub x_in : nat_abs p.x ≤ 2 ^ 29
  pub y_in : nat_abs p.y ≤ 2 ^ 29

pub record IsShortStroke (s : LabelStroke) : Type 0 where
  pub from_in : IsShortPoint s.from
  pub to_in : IsShortPoint s.to

pub record IsLabelStroke (s : LabelStroke) : Type 0 where
  pub from_in : IsLabelPoint s.from
  pub to_in : IsLabelPoint s.to
