-- The ends of chords.
use Rattle.std.proofs.Common.{refl, sym, ap₂, ◌∙◌, ◌≡◌, arith, ℤ, pos, ◌+ℤ◌, ◌-ℤ◌, ◌*ℤ◌, ap}
use Rattle.std.proofs.lemmas.Int.{ints}
use Rattle.plot_arc.proofs.Angles.{symmetries}
use Rattle.exact.proofs.Rounding.{meets_lem, one_lem}
use Rattle.exact.specs.Rounding.{IsRounded}
use Rattle.exact.specs.declared.spot.Spot.{Spot}
use Rattle.plot_arc.specs.Arcs.{sine_of, cosine_of, nearest, vector, turned_x, turned_y, chord_point_of}
use Rattle.plot_arc.specs.Laws.{ChordsAreRounded, WholeTurnsLeadBack, ten_millionths}

nearest_meets : (z : ℤ) → IsRounded (ten_millionths z) (nearest z)
nearest_meets z = meets_lem (ten_millionths z) (omega arith)

-- the two coordinates of the turned vector, from its parts
pub x_is : (centre from v : Spot) (t s k n : ℤ) → v ≡ vector centre from → s ≡ sine_of t → k ≡ cosine_of t → n ≡ nearest (v.x *ℤ k -ℤ v.y *ℤ s) → n ≡ nearest (turned_x (vector centre from) t)
x_is centre from v t s k n e f g j = j ∙ rw (e, f, g) refl

pub y_is : (centre from v : Spot) (t s k n : ℤ) → v ≡ vector centre from → s ≡ sine_of t → k ≡ cosine_of t → n ≡ nearest (v.x *ℤ s +ℤ v.y *ℤ k) → n ≡ nearest (turned_y (vector centre from) t)
y_is centre from v t s k n e f g j = j ∙ rw (e, f, g) refl

way_back : (c n : ℤ) → (c +ℤ n) -ℤ c ≡ n
way_back c n = omega (arith, ints)

from_centre : (c z : ℤ) → IsRounded (ten_millionths z) ((c +ℤ nearest z) -ℤ c)
from_centre c z = rw (way_back c (nearest z)) (nearest_meets z)

pub chords_are_rounded : ChordsAreRounded
chords_are_rounded = record {
  x = λ centre from t. from_centre centre.x (turned_x (vector centre from) t);
  y = λ centre from t. from_centre centre.y (turned_y (vector centre from) t);
}

-- a turn by nothing, with the sine 0 and the cosine 1
nearest_one : (z n : ℤ) → z ≡ n *ℤ pos 10000000 → nearest z ≡ n
nearest_one z n e = sym (one_lem (ten_millionths z) n (omega arith) (record { least = omega (arith, ints); most = omega (arith, ints) }))

left_in_place : (centre from : Spot) → chord_point_of centre from (pos 0) ≡ from
left_in_place centre from =
    let v = vector centre from in
    let x = nearest_one (turned_x v (pos 0)) v.x (omega (arith, ints)) in
    let y = nearest_one (turned_y v (pos 0)) v.y (omega (arith, ints)) in
    let a : centre.x +ℤ v.x ≡ from.x = omega (arith, ints) in
    let b : centre.y +ℤ v.y ≡ from.y = omega (arith, ints) in
    rw (x, y, a, b) refl

point : Spot → Spot → ℤ → ℤ → Spot
point centre v s k = record { x = centre.x +ℤ nearest (v.x *ℤ k -ℤ v.y *ℤ s); y = centre.y +ℤ nearest (v.x *ℤ s +ℤ v.y *ℤ k) }

same_point : (centre from : Spot) (t u : ℤ) → sine_of t ≡ sine_of u → cosine_of t ≡ cosine_of u → chord_point_of centre from t ≡ chord_point_of centre from u
unfolding point
same_point centre from t u e f = ap₂ (point centre (vector centre from)) e f

cosine_period : (t : ℤ) → cosine_of (t +ℤ pos 360000) ≡ cosine_of t
cosine_period t =
    let e : (t +ℤ pos 360000) +ℤ pos 90000 ≡ (t +ℤ pos 90000) +ℤ pos 360000 = omega (arith, ints) in
    ap sine_of e ∙ symmetries.period (t +ℤ pos 90000)

pub whole_turns_lead_back : WholeTurnsLeadBack
whole_turns_lead_back = record {
  none = left_in_place;
  period = λ centre from t. same_point centre from (t +ℤ pos 360000) t (symmetries.period t) (cosine_period t);
}
