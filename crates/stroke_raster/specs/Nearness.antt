-- What the test of a pixel means: that some point of the segment is near, or each is far.
use Rattle.std.specs.Prelude.{ℕ, ◌*◌, ◌<◌, ◌≤◌, IsTrue, IsFalse, ℤ, pos, ◌*ℤ◌, ◌≤ℤ◌, ◌<ℤ◌}
use Rattle.stroke_raster.specs.declared.vector.Vector.{Vector}
use Rattle.stroke_raster.specs.Gap.{dot, gap_met, scaled, way}

-- q times the way from the point t/q of the segment to the point
abbrev pub off : Vector → Vector → ℤ → ℤ → Vector
off v w t q = way (scaled t v) (scaled q w)

-- the point t/q of the segment is within half of d
abbrev pub IsNear : Vector → Vector → ℕ → ℤ → ℤ → Type 0
IsNear v w d t q = (pos 4 *ℤ dot (off v w t q) (off v w t q)) ≤ℤ (pos (d * d) *ℤ (q *ℤ q))

-- the point t/q of the segment is farther away
abbrev pub IsFar : Vector → Vector → ℕ → ℤ → ℤ → Type 0
IsFar v w d t q = (pos (d * d) *ℤ (q *ℤ q)) <ℤ (pos 4 *ℤ dot (off v w t q) (off v w t q))

-- what the test means: if it is met, a point of the segment is near; if it is not met, each point is far
pub record GapLaw (v w : Vector) (d : ℕ) : Type 0 where
  pub first : IsTrue (gap_met v w d) → dot v w ≤ℤ pos 0 → IsNear v w d (pos 0) (pos 1)
  pub last : IsTrue (gap_met v w d) → pos 0 <ℤ dot v w → dot v v ≤ℤ dot v w → IsNear v w d (pos 1) (pos 1)
  pub between : IsTrue (gap_met v w d) → pos 0 <ℤ dot v w → dot v w <ℤ dot v v → IsNear v w d (dot v w) (dot v v)
  pub far : IsFalse (gap_met v w d) → (t q : ℕ) → t ≤ q → 0 < q → IsFar v w d (pos t) (pos q)

abbrev pub GapMeansNear : Type 0
GapMeansNear = (v w : Vector) (d : ℕ) → GapLaw v w d
