-- The place that one language takes over from the other.
use Rattle.std.proofs.Common.{◌≡◌, ◌∙◌, ap, refl, Bool, true, false, [], ◌∷◌, Option, Some, None}
use Rattle.std.specs.Prelude.{if◌then◌else◌}
use Rattle.exact.specs.declared.spot.Spot.{Spot}
use Rattle.hpgl_plot.specs.declared.state.Position.{Position}
use Rattle.hpgl_plot.specs.Paths.{pen_placed}
use Rattle.hpgl_plot.specs.Strokes.{are_in_range}
use Rattle.hpgl_plot.specs.Machine as core
use Rattle.full_plot.specs.Curves.{arrived, if_in_range}
use Rattle.full_plot.specs.Texts.{at_margin}
use Rattle.full_plot.specs.Worlds.{FullWorld, with_core}

-- the left margin where the pen is
abbrev with_margins : Option FullWorld → Option FullWorld
with_margins None = None
with_margins (Some w) = Some (at_margin w)

arrived_if : (b : Bool) (w : FullWorld) (p : Position)
    → (if b then Some (arrived p w) else None)
    ≡ with_margins (with_core w (core.ends_in (core.moved w.core.state p) (if b then Some (core.with_strokes w.core w.core.state []) else None)))
arrived_if true w p = refl
arrived_if false w p = refl

-- the pen is put at a place
pub arrived_by_put : (w : FullWorld) (q : Spot) (o : Option core.World) → core.put_at w.core (pen_placed w.core.page w.core.state.frame q) ≡ o
    → if_in_range w.core.range (q ∷ []) (Some (arrived (pen_placed w.core.page w.core.state.frame q) w)) ≡ with_margins (with_core w o)
arrived_by_put w q o e =
    arrived_if (are_in_range w.core.range (q ∷ [])) w (pen_placed w.core.page w.core.state.frame q)
    ∙ ap (λ (c : Option core.World). with_margins (with_core w c)) e

-- a place is in range, or not
begun_if : (b : Bool) (w v : FullWorld) (o : Option core.World) → (if b then Some (core.with_strokes w.core w.core.state []) else None) ≡ o
    → (if b then Some v else None) ≡ elim o [ None ↦ None | Some c ↦ Some v ]
begun_if true w v o e = ap (λ (c : Option core.World). elim c [ None ↦ None | Some d ↦ Some v ]) e
begun_if false w v o e = ap (λ (c : Option core.World). elim c [ None ↦ None | Some d ↦ Some v ]) e

pub in_range_by : (w v : FullWorld) (q : Spot) (o : Option core.World) → core.travelled w.core true (q ∷ []) ≡ o
    → if_in_range w.core.range (q ∷ []) (Some v) ≡ elim o [ None ↦ None | Some c ↦ Some v ]
in_range_by w v q o e = begun_if (are_in_range w.core.range (q ∷ [])) w v o e
