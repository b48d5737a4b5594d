-- Edges whose ends are taken to other places, those at one place to the same one, lead round closed polygons if they did before.
use Rattle.std.proofs.Common.{◌≡◌, ◌∙◌, ap, ap₂, sym, subst, refl, List, [], ◌∷◌, ◌++◌, flat_map, map, ℤ, All}
use Rattle.std.proofs.lemmas.List.{map-append}
use Rattle.std.proofs.lemmas.List.Elements.{All-cons, All-head, All-nil, All-tail}
use Rattle.exact.specs.declared.spot.Spot.{Spot}
use Rattle.plot_page.specs.Segments.{Segment}
use Rattle.areas.specs.Laws.{AreRound, IsRound, LeadsTo}

abbrev pub at : ℤ → ℤ → Spot
at x y = record { x = x; y = y }

-- where a change of strokes takes the places at which they end
pub record TakesPlaces (change : Segment → Segment) : Type 0 where
  pub to : ℤ → ℤ → Spot
  pub first : (s : Segment) → at (change s).ax (change s).ay ≡ to s.ax s.ay
  pub last : (s : Segment) → at (change s).bx (change s).by ≡ to s.bx s.by

module _ (change : Segment → Segment) (takes : TakesPlaces change) where
  leads_to : (x y : ℤ) (es : List Segment) (u v : ℤ) → LeadsTo x y es u v
      → LeadsTo (takes.to x y).x (takes.to x y).y (map change es) (takes.to u v).x (takes.to u v).y
  leads_to x y [] u v h = (ap₂ (λ (a b : ℤ). (takes.to a b).x) h.0 h.1, ap₂ (λ (a b : ℤ). (takes.to a b).y) h.0 h.1)
  leads_to x y (e ∷ es) u v h =
      let end : Spot = takes.to u v in (
        ap (λ (p : Spot). p.x) (takes.first e) ∙ ap₂ (λ (a b : ℤ). (takes.to a b).x) h.0 h.1,
        ap (λ (p : Spot). p.y) (takes.first e) ∙ ap₂ (λ (a b : ℤ). (takes.to a b).y) h.0 h.1,
        subst (λ (p : Spot). LeadsTo p.x p.y (map change es) end.x end.y) (sym (takes.last e)) (leads_to e.bx e.by es u v h.2),
      )

  each_round : (polygons : List (List Segment)) → All IsRound polygons → All IsRound (map (map change) polygons)
  each_round [] h = All-nil IsRound
  each_round (p ∷ ps) h =
      let i = All-head IsRound p ps h in
      All-cons IsRound (map change p) (map (map change) ps)
      (record { x = (takes.to i.x i.y).x; y = (takes.to i.x i.y).y; closed = leads_to i.x i.y p i.x i.y i.closed })
      (each_round ps (All-tail IsRound p ps h))

  joined : (polygons : List (List Segment))
      → map change (flat_map (λ polygon. polygon) polygons) ≡ flat_map (λ polygon. polygon) (map (map change) polygons)
  joined [] = refl
  joined (p ∷ ps) =
      map-append change p (flat_map (λ polygon. polygon) ps) ∙ ap (λ (ss : List Segment). map change p ++ ss) (joined ps)

  pub still_round : (edges : List Segment) → AreRound edges → AreRound (map change edges)
  still_round edges h = record {
    polygons = map (map change) h.polygons;
    each = each_round h.polygons h.each;
    is = ap (map change) h.is ∙ joined h.polygons;
  }
