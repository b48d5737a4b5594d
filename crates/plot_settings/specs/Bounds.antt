-- What is set and asked for is in its range.
use Rattle.std.specs.Prelude.{◌≤◌, ◌<◌, ◌^◌, ℕ, ℤ, nat_abs, All, List, ⊤}
use Rattle.plot_frame.specs.Bounds.{IsPoints, IsScaling}
use Rattle.plot_page.specs.declared.stroke.TheConstants.{GREATEST_WIDTH}
use Rattle.plot_settings.specs.declared.figure.Arc.{Arc}
use Rattle.plot_settings.specs.declared.figure.Circle.{Circle}
use Rattle.plot_settings.specs.declared.figure.Corner.{Corner}
use Rattle.plot_settings.specs.declared.setting.Setting.{Setting}
use Rattle.plot_settings.specs.declared.setting.Setting.TheVariants.{FirstPoint, BothPoints, Scale, CornerWindow, Width}
use Rattle.plot_settings.specs.declared.setting.Setting.TheVariants.{WidthOfAll}

-- a number of an IP, rounded
abbrev pub IsPlotterUnit : ℤ → Type 0
IsPlotterUnit z = nat_abs z ≤ 2 ^ 24

-- a coordinate of an IW
abbrev pub IsCoordinate : ℤ → Type 0
IsCoordinate z = nat_abs z ≤ 2 ^ 55

-- what is set
abbrev pub IsSetting : Setting → Type 0
IsSetting (FirstPoint x y) = IsPlotterUnit x × IsPlotterUnit y
IsSetting (BothPoints p) = IsPoints p
IsSetting (Scale s) = IsScaling s
IsSetting (CornerWindow c) = IsCoordinate c.ax × IsCoordinate c.ay × IsCoordinate c.bx × IsCoordinate c.by
IsSetting (Width p w) = w ≤ GREATEST_WIDTH
IsSetting (WidthOfAll w) = w ≤ GREATEST_WIDTH
IsSetting _ = ⊤

-- the widths of all pens
abbrev pub AreWidths : List ℕ → Type 0
AreWidths ws = All (λ w. w ≤ GREATEST_WIDTH) ws

-- a corner, a circle and an arc that are asked for
pub record IsCorner (c : Corner) : Type 0 where
  pub x_in : nat_abs c.x ≤ 2 ^ 55
  pub y_in : nat_abs c.y ≤ 2 ^ 55

pub record IsCircle (c : Circle) : Type 0 where
  pub radius_in : nat_abs c.radius ≤ 2 ^ 55
  pub chord_above : 0 < c.chord

pub record IsArc (a : Arc) : Type 0 where
  pub x_in : nat_abs a.x ≤ 2 ^ 55
  pub y_in : nat_abs a.y ≤ 2 ^ 55
  pub sweep_in : nat_abs a.sweep ≤ 360000
  pub chord_above : 0 < a.chord
