-- Places and coordinates of some frames, worked by hand.
use Rattle.std.proofs.Common.{◌∷◌, [], refl, pos, negsuc}
use Rattle.exact.specs.Fraction.{whole}
use Rattle.exact.proofs.Tables.{Agree}
use Rattle.plot_frame.specs.declared.pair.AxisName.TheVariants.{X, Y}
use Rattle.plot_frame.specs.declared.pair.Pair.{Pair}
use Rattle.plot_frame.specs.declared.scaling.Ends.{Ends}
use Rattle.plot_frame.specs.declared.scaling.Range.{Range}
use Rattle.plot_frame.specs.declared.scaling.Scaling.{Scaling}
use Rattle.plot_frame.specs.declared.scaling.Scaling.TheVariants.{Off, Anisotropic, Isotropic, PointFactor}
use Rattle.plot_frame.specs.Frame.{axis_units, grains, coordinate}
use Rattle.plot_frame.specs.Line.{place, back, axis_line}

-- P1 at 0 and P2 at 64 or 128, and P2 left of P1
abbrev short : Ends
short = record { first = pos 0; last = pos 64 }

abbrev long : Ends
long = record { first = pos 0; last = pos 128 }

abbrev back_to_0 : Ends
back_to_0 = record { first = pos 128; last = pos 0 }

abbrev square : Pair Ends
square = record { x = short; y = short }

abbrev wide : Pair Ends
wide = record { x = long; y = short }

abbrev high : Pair Ends
high = record { x = short; y = long }

abbrev turned : Pair Ends
turned = record { x = back_to_0; y = short }

-- 0 to 8, 8 to 0, and 0 to 3
abbrev eight : Range
eight = record { least = pos 0; most = pos 8000000 }

abbrev falling : Range
falling = record { least = pos 8000000; most = pos 0 }

abbrev three : Range
three = record { least = pos 0; most = pos 3000000 }

-- the same on both axes
abbrev both : Range → Scaling
both r = Anisotropic (record { x = r; y = r })

-- half of what is left over on each side, and a quarter on the left and all of it below
abbrev halves : Range → Scaling
halves r = Isotropic (record { x = record { range = r; share = pos 50000000 }; y = record { range = r; share = pos 50000000 } })

abbrev quarter : Scaling
quarter = Isotropic (record { x = record { range = eight; share = pos 25000000 }; y = record { range = eight; share = pos 100000000 } })

-- 1 lies at P1, and a unit takes half a plotter unit in x and 2 in y
abbrev factors : Scaling
factors = PointFactor (record { x = record { least = pos 1000000; factor = pos 500000 }; y = record { least = pos 1000000; factor = pos 2000000 } })

-- places in grains, scaling off and in type 2
unscaled : Agree (
    (grains (axis_units X square Off (whole (pos 3500000))) 0, pos 56)  -- 3.5 units are 56 grains
    ∷ (grains (axis_units X square Off (whole (pos 3500000))) 10, pos 216)  -- 10 units more with a margin of 10
    ∷ (grains (axis_units X square Off (whole (pos 31250))) 0, pos 1)  -- half a grain is rounded up
    ∷ (grains (axis_units X square Off (whole (negsuc 31249))) 0, pos 0)  -- below 0 too
    ∷ (grains (axis_units X wide factors (whole (pos 3000000))) 0, pos 16)  -- type 2: 3 is 2 units above 1, so 1 plotter unit from P1
    ∷ (grains (axis_units Y wide factors (whole (pos 3000000))) 0, pos 64)  -- 4 plotter units from P1
    ∷ [])
unscaled = refl

-- places in grains in type 0
stretched : Agree (
    (grains (axis_units X square (both eight) (whole (pos 3500000))) 0, pos 448)  -- 3.5 of 8 lies at 28 of 64 units
    ∷ (grains (axis_units X square (both falling) (whole (pos 3500000))) 0, pos 576)  -- from the other end it lies at 36
    ∷ (grains (axis_units X turned (both eight) (whole (pos 3500000))) 0, pos 1152)  -- 128 - 56 units
    ∷ (grains (axis_units X wide (both eight) (whole (pos 8000000))) 0, pos 2048)  -- the two axes each have their own ratio: x
    ∷ (grains (axis_units Y wide (both eight) (whole (pos 8000000))) 0, pos 1024)  -- y
    ∷ (grains (axis_units X square (both three) (whole (pos 1000000))) 0, pos 341)  -- a third of 64 units is 341 1/3 grains
    ∷ [])
stretched = refl

-- places in grains in type 1: a unit takes 8 plotter units
even : Agree (
    (grains (axis_units X wide (halves eight) (whole (pos 0))) 0, pos 512)  -- of the 64 that are left over in x half lies on either side
    ∷ (grains (axis_units X wide (halves eight) (whole (pos 8000000))) 0, pos 1536)  -- the other end of the range
    ∷ (grains (axis_units Y wide (halves eight) (whole (pos 0))) 0, pos 0)  -- none is left over in y
    ∷ (grains (axis_units X wide quarter (whole (pos 0))) 0, pos 256)  -- a quarter on the left
    ∷ (grains (axis_units Y high quarter (whole (pos 0))) 0, pos 1024)  -- all of it below
    ∷ (grains (axis_units X turned (halves eight) (whole (pos 0))) 0, pos 1536)  -- from the right, 128 - 32 units
    ∷ (grains (axis_units X wide (halves falling) (whole (pos 8000000))) 0, pos 512)  -- with the range's ends exchanged
    ∷ [])
even = refl

-- grains as millionths of units, and what lines say of places
coordinates : Agree (
    (coordinate (axis_units X square (both three)) (pos 341) 0, pos 999023)  -- 341 grains are 0.9990234375 units
    ∷ (coordinate (axis_units X square (both eight)) (pos 1) 0, pos 7813)  -- a grain is 7,812.5 millionths
    ∷ (coordinate (axis_units X square (both falling)) (pos 1) 0, pos 7992188)  -- where coordinates fall, a grain on is as much less than 8
    ∷ (coordinate (axis_units X wide (halves eight)) (pos 1536) 0, pos 8000000)  -- in type 1
    ∷ (coordinate (axis_units X turned (halves eight)) (pos 1536) 0, pos 0)  -- in type 1, from the right
    ∷ (coordinate (axis_units X wide factors) (pos 16) 0, pos 3000000)  -- in type 2
    ∷ (coordinate (axis_units X square Off) (pos 0) 10, negsuc 9999999)  -- the page's edge, 10 units before P1
    ∷ (place (axis_line X square (both three) 0) (pos 1000000), pos 341)  -- the line of a third
    ∷ (place (axis_line X turned (halves eight) 0) (pos 0), pos 1536)  -- a line from the right
    ∷ (back (axis_line X square (both falling) 0) (pos 1), pos 7992188)  -- back along a line, where coordinates fall
    ∷ [])
coordinates = refl
