-- Points of circles and arcs: sines, the ends of chords, and the angles at which they are. Angles are in thousandths of
-- a degree, sines in ten-millionths by a table of whole degrees, and coordinates in millionths of the current unit.
use Rattle.std.specs.Prelude.{ℕ, ◌+◌, ◌-◌, ◌*◌, ◌/◌, ◌%◌, ◌^◌, min, max, nat_le, slice_index_or, if◌then◌else◌}
use Rattle.std.specs.Prelude.{ℤ, pos, neg_ℤ, nat_abs, int_lt, ◌+ℤ◌, ◌-ℤ◌, ◌*ℤ◌}
use Rattle.std.specs.Int.{int_rem_euclid}
use Rattle.exact.specs.Fraction.{quotient, round}
use Rattle.exact.specs.declared.spot.Spot.{Spot}
use Rattle.plot_arc.specs.declared.sines.TheConstants.{SINES}

-- of 0 to 90 whole degrees, in ten-thousandths; at 90 the next entry, which the table does not have, is taken no times
abbrev pub sine_of_degrees : ℕ → ℕ
sine_of_degrees d = slice_index_or SINES d 0

-- of 0 to 90 degrees: between whole degrees by a straight line
abbrev pub sine_to_90 : ℕ → ℕ
sine_to_90 t = sine_of_degrees (t / 1000) * (1000 - t % 1000) + sine_of_degrees (t / 1000 + 1) * (t % 1000)

-- of 0 to 180 degrees
abbrev pub sine_to_180 : ℕ → ℕ
sine_to_180 t = if nat_le t 90000 then sine_to_90 t else sine_to_90 (180000 - t)

-- of 0 to 360 degrees
abbrev pub sine_to_360 : ℕ → ℤ
sine_to_360 t = if nat_le t 180000 then pos (sine_to_180 t) else neg_ℤ (pos (sine_to_180 (t - 180000)))

-- of any angle
abbrev pub sine_of : ℤ → ℤ
sine_of t = sine_to_360 (nat_abs (int_rem_euclid t (pos 360000)))

abbrev pub cosine_of : ℤ → ℤ
cosine_of t = sine_of (t +ℤ pos 90000)

-- from the centre to a point
abbrev pub vector : Spot → Spot → Spot
vector centre from = record { x = from.x -ℤ centre.x; y = from.y -ℤ centre.y }

-- a vector turned counterclockwise, times 10^7: x cos t - y sin t and x sin t + y cos t
abbrev pub turned_x : Spot → ℤ → ℤ
turned_x v t = v.x *ℤ cosine_of t -ℤ v.y *ℤ sine_of t

abbrev pub turned_y : Spot → ℤ → ℤ
turned_y v t = v.x *ℤ sine_of t +ℤ v.y *ℤ cosine_of t

-- ten-millionths as the nearest whole number
abbrev pub nearest : ℤ → ℤ
nearest z = round (quotient z (pos (10 ^ 7)))

abbrev pub chord_point_of : Spot → Spot → ℤ → Spot
chord_point_of centre from t =
    let v = vector centre from in
    record { x = centre.x +ℤ nearest (turned_x v t); y = centre.y +ℤ nearest (turned_y v t) }

-- how many chords a sweep has: its size over the chord's, rounded up, and at least one
abbrev pub chords_of : ℕ → ℤ → ℕ
chords_of chord sweep = max (nat_abs sweep / chord + min 1 (nat_abs sweep % chord)) 1

-- the turn after k chords: k chords, at most the sweep, in its direction
abbrev pub turn_after : ℕ → ℤ → ℕ → ℤ
turn_after chord sweep k =
    let size = pos (min (k * chord) (nat_abs sweep)) in
    if int_lt sweep (pos 0) then neg_ℤ size else size
