-- Bezier curves (HP-GL/2 guide: BZ and BR): from p0 to p3, with the control points p1 and p2, in grains.
use Rattle.std.specs.Prelude.{ℕ, ◌-◌, ◌*◌, max, nat_abs, nat_le, List, [], ◌∷◌, map, find, unwrap_or}
use Rattle.std.specs.Prelude.{ℤ, pos, ◌+ℤ◌, ◌-ℤ◌, ◌*ℤ◌}
use Rattle.std.specs.List.{range_with_len}
use Rattle.exact.specs.Fraction.{round, quotient}
use Rattle.exact.specs.declared.spot.Spot.{Spot}

-- how far b is from the middle between a and c, twice
abbrev pub bend_of : ℤ → ℤ → ℤ → ℕ
bend_of a b c = nat_abs (a -ℤ pos 2 *ℤ b +ℤ c)

-- the greatest bend at p1 and at p2, in x and in y
abbrev pub greatest_bend : Spot → Spot → Spot → Spot → ℕ
greatest_bend p0 p1 p2 p3 =
    max (max (bend_of p0.x p1.x p2.x) (bend_of p0.y p1.y p2.y)) (max (bend_of p1.x p2.x p3.x) (bend_of p1.y p2.y p3.y))

-- how many chords a curve of this bend has: the least of these numbers n with 16 * n * n not below it, or 256
unfoldable pub chords_of_bend : ℕ → ℕ
chords_of_bend bend = unwrap_or (find (λ n. nat_le bend (16 * n * n)) (4 ∷ 8 ∷ 16 ∷ 32 ∷ 64 ∷ 128 ∷ 256 ∷ [])) 256

-- the sum of four coordinates by their weights, after k parts of the way, when l are left
abbrev pub weighed : ℕ → ℕ → ℤ → ℤ → ℤ → ℤ → ℤ
weighed l k p0 p1 p2 p3 =
    pos (l * l * l) *ℤ p0 +ℤ pos (3 * l * l * k) *ℤ p1 +ℤ pos (3 * l * k * k) *ℤ p2 +ℤ pos (k * k * k) *ℤ p3

-- the coordinate after k of n parts: the weights add up to n^3
abbrev pub curve_coordinate : ℕ → ℕ → ℤ → ℤ → ℤ → ℤ → ℤ
curve_coordinate n k p0 p1 p2 p3 = round (quotient (weighed (n - k) k p0 p1 p2 p3) (pos (n * n * n)))

-- the place after k of n parts of a curve
unfoldable pub curve_place : ℕ → ℕ → Spot → Spot → Spot → Spot → Spot
curve_place n k p0 p1 p2 p3 =
    record { x = curve_coordinate n k p0.x p1.x p2.x p3.x; y = curve_coordinate n k p0.y p1.y p2.y p3.y }

-- the places that the pen reaches after p0, in order: the last is that after n of n parts
abbrev pub bezier_places : Spot → Spot → Spot → Spot → List Spot
bezier_places p0 p1 p2 p3 =
    let n = chords_of_bend (greatest_bend p0 p1 p2 p3) in
    map (λ k. curve_place n k p0 p1 p2 p3) (range_with_len 1 n)
