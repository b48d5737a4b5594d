-- What a buffer counts.
use Rattle.std.specs.Prelude.{ℕ, ◌+◌, ◌*◌, ◌≤◌, if◌then◌else◌, Option, Some, None, length}
use Rattle.polygons.specs.declared.buffer.Buffer.TheInside.{Inside}
use Rattle.polygons.specs.declared.buffer.Opened.{Opened}

-- places of the open sub-polygon that no edge leads to or from: one, if it has only one
abbrev pub lone : Option Opened → ℕ
lone None = 0
lone (Some o) = if o.is_alone then 1 else 0

-- each other place begins or ends an edge; the lone one is counted
pub record IsHeld (b : Inside) : Type 0 where
  pub most : b.places ≤ 2 * length b.edges.items + lone b.opened
  pub least : lone b.opened ≤ b.places
