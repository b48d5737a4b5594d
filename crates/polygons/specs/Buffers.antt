-- The polygon buffer (HP-GL/2 guide: PM). It holds closed sub-polygons, and at most one that is open. Places are in
-- grains.
use Rattle.std.specs.Prelude.{ℕ, ◌+◌, ◌-◌, Bool, true, false, if◌then◌else◌, List, [], ◌∷◌, ◌++◌}
use Rattle.std.specs.Prelude.{Option, Some, None}
use Rattle.exact.specs.Spots.{is_same_spot}
use Rattle.exact.specs.declared.spot.Spot.{Spot}
use Rattle.polygons.specs.declared.edge.Edge.{Edge}
use Rattle.polygons.specs.declared.buffer.Opened.{Opened}

-- the edges of all sub-polygons in order, each close last in its sub-polygon; the number of all places, those of the
-- open sub-polygon too; and the open sub-polygon
pub record Contents : Type 0 where
  pub edges : List Edge
  pub places : ℕ
  pub opened : Option Opened

abbrev pub empty_buffer : Contents
empty_buffer = record { edges = []; places = 0; opened = None }

-- a sub-polygon that begins at p
abbrev pub begun : Contents → Spot → Contents
begun c p =
    record { edges = c.edges; places = c.places + 1; opened = Some (record { first = p; last = p; is_alone = true }) }

-- one is opened at p, unless one is open
abbrev pub begun_at : Contents → Spot → Contents
begun_at c p = elim (c.opened) [ None ↦ begun c p | Some o ↦ c ]

-- the edge to a further place
abbrev pub extended : Contents → Opened → Spot → Bool → Contents
extended c o p drawn = record {
  edges = c.edges ++ (record { from = o.last; to = p; is_drawn = drawn } ∷ []);
  places = c.places + 1;
  opened = Some (record { first = o.first; last = p; is_alone = false });
}

-- a further place p of the open sub-polygon; one is opened at p if none is open
abbrev pub reached_at : Contents → Spot → Bool → Contents
reached_at c p drawn = elim (c.opened) [ None ↦ begun c p | Some o ↦ extended c o p drawn ]

-- the closing edge, if the last place is not the first
abbrev pub closing : Opened → Bool → List Edge
closing o drawn =
    if is_same_spot o.last o.first then [] else record { from = o.last; to = o.first; is_drawn = drawn } ∷ []

-- the open sub-polygon is closed, or dropped if it has only one place
abbrev pub sub_polygon_ended : Contents → Opened → Bool → Contents
sub_polygon_ended c o drawn =
    if o.is_alone then record { edges = c.edges; places = c.places - 1; opened = None }
    else record { edges = c.edges ++ closing o drawn; places = c.places; opened = None }

abbrev pub closed : Contents → Bool → Contents
closed c drawn = elim (c.opened) [ None ↦ c | Some o ↦ sub_polygon_ended c o drawn ]
