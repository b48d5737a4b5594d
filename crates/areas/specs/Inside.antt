-- Which places are inside an area (HP-GL/2 guide: FP). An area is bounded by edges, which lead round closed polygons. Edges are
-- in grains. Places are in grains divided by the resolution r, so that each is whole: an inch is 16,256 grains, and a pixel
-- 16,256 steps.
use Rattle.std.specs.Prelude.{ℕ, Bool, ◌&&◌, List, count_by, ℤ, pos, ◌-ℤ◌, ◌*ℤ◌, int_le, int_lt}
use Rattle.plot_page.specs.Segments.{Segment}
use Rattle.polygons.specs.declared.lines.Rule.{Rule}
use Rattle.polygons.specs.Fills.{is_inside}

-- a place (x, y) is level with an edge that leads upwards, and not left of it
abbrev pub rises_past : ℕ → Segment → ℤ → ℤ → Bool
rises_past r e x y =
    (int_le (pos r *ℤ e.ay) y && int_lt y (pos r *ℤ e.by))
    && int_le ((e.bx -ℤ e.ax) *ℤ (y -ℤ pos r *ℤ e.ay)) ((x -ℤ pos r *ℤ e.ax) *ℤ (e.by -ℤ e.ay))

-- it is level with an edge that leads downwards, and not left of it
abbrev pub falls_past : ℕ → Segment → ℤ → ℤ → Bool
falls_past r e x y =
    (int_le (pos r *ℤ e.by) y && int_lt y (pos r *ℤ e.ay))
    && int_le ((x -ℤ pos r *ℤ e.ax) *ℤ (e.by -ℤ e.ay)) ((e.bx -ℤ e.ax) *ℤ (y -ℤ pos r *ℤ e.ay))

-- a place is inside by how many edges it is past, of those that lead upwards and of those that lead downwards
abbrev pub is_inside_area : Rule → ℕ → List Segment → ℤ → ℤ → Bool
is_inside_area rule r edges x y =
    is_inside rule (count_by (λ e. rises_past r e x y) edges) (count_by (λ e. falls_past r e x y) edges)
