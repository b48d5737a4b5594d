-- The buffer's edges are those of closed sub-polygons, and then the path of the open one.
use Rattle.std.proofs.Common.{◌≡◌, ℤ, Bool, true, List, [], ◌∷◌, ◌++◌, Option, Some, None, refl, sym, subst, ap, ap₂, ◌∙◌, inl, inr, arith, append_assoc}
use Rattle.std.proofs.lemmas.Bool.{cases_Bool, and_parts}
use Rattle.std.proofs.lemmas.Int.{ints}
use Rattle.std.proofs.lemmas.List.{append-nil}
use Rattle.std.proofs.lemmas.List.Concat.{flat_map-append}
use Rattle.std.proofs.lemmas.List.Elements.{All-nil, All-push}
use Rattle.std.specs.List.{flat_map}
use Rattle.std.specs.Ordering.{int_eq}
use Rattle.exact.specs.Spots.{is_same_spot}
use Rattle.exact.specs.declared.spot.Spot.{Spot}
use Rattle.polygons.specs.declared.edge.Edge.{Edge}
use Rattle.polygons.specs.declared.buffer.Opened.{Opened}
use Rattle.polygons.specs.Buffers.{Contents, begun, extended, sub_polygon_ended}
use Rattle.polygons.specs.Laws.{IsPath, IsLoop, AreLoops, HoldsPolygons, BuffersHoldPolygons}

abbrev spot : ℤ → ℤ → Spot
spot x y = record { x = x; y = y }

int_same : (a b : ℤ) → int_eq a b ≡ true → a ≡ b
int_same a b e = grind (arith, ints)

same_spot : (a b : Spot) → is_same_spot a b ≡ true → a ≡ b
same_spot a b e =
    let p = and_parts (int_eq a.x b.x) (int_eq a.y b.y) e in
    ap₂ spot (int_same a.x b.x p.0) (int_same a.y b.y p.1)

path_more : (p : Spot) (es : List Edge) (q : Spot) (e : Edge) → IsPath p es q → e.from ≡ q → IsPath p (es ++ (e ∷ [])) e.to
path_more p [] q e h f = (f ∙ sym h, refl)
path_more p (x ∷ es) q e h f = (h.0, path_more x.to es q e h.1 f)

no_loops : AreLoops []
no_loops = record { loops = []; each = All-nil IsLoop; is = refl }

one_loop : (edges path : List Edge) (p : Spot) → AreLoops edges → IsPath p path p → AreLoops (edges ++ path)
one_loop edges path p h l = record {
  loops = h.loops ++ (path ∷ []);
  each = All-push IsLoop h.loops path h.each (record { start = p; closed = l });
  is = ap (λ xs. xs ++ path) h.is
      ∙ sym (flat_map-append (λ loop. loop) h.loops (path ∷ []) ∙ ap (λ xs. flat_map (λ loop. loop) h.loops ++ xs) (append-nil path));
}

begun_holds : (c : Contents) (p : Spot) → c.opened ≡ None → HoldsPolygons c → HoldsPolygons (begun c p)
begun_holds c p e h =
    let n = rw e at h.opened_is in
    record {
      loops = h.loops;
      path = [];
      are_loops = h.are_loops;
      is = h.is ∙ ap (λ xs. h.loops ++ xs) n;
      opened_is = (refl, λ t. refl);
    }

begun_by : (c : Contents) (p : Spot) (o : Option Opened) → c.opened ≡ o → HoldsPolygons c → HoldsPolygons (elim o [ None ↦ begun c p | Some o ↦ c ])
begun_by c p None e h = begun_holds c p e h
begun_by c p (Some o) e h = h

extended_holds : (c : Contents) (o : Opened) (p : Spot) (drawn : Bool) → c.opened ≡ Some o → HoldsPolygons c → HoldsPolygons (extended c o p drawn)
extended_holds c o p drawn e h =
    let n = rw e at h.opened_is in
    let edge : Edge = record { from = o.last; to = p; is_drawn = drawn } in
    record {
      loops = h.loops;
      path = h.path ++ (edge ∷ []);
      are_loops = h.are_loops;
      is = ap (λ xs. xs ++ (edge ∷ [])) h.is ∙ append_assoc h.loops h.path (edge ∷ []);
      opened_is = (path_more o.first h.path o.last edge n.0 refl, λ t. absurd (cc));
    }

reached_by : (c : Contents) (p : Spot) (drawn : Bool) (o : Option Opened) → c.opened ≡ o → HoldsPolygons c
    → HoldsPolygons (elim o [ None ↦ begun c p | Some o ↦ extended c o p drawn ])
reached_by c p drawn None e h = begun_holds c p e h
reached_by c p drawn (Some o) e h = extended_holds c o p drawn e h

ended_holds : (c : Contents) (o : Opened) (drawn : Bool) → c.opened ≡ Some o → HoldsPolygons c → HoldsPolygons (sub_polygon_ended c o drawn)
ended_holds c o drawn e h =
    let n = rw e at h.opened_is in
    elim (cases_Bool o.is_alone) [
      | inl t ↦ (
          let z = n.1 t in
          rw t (record {
            loops = h.loops;
            path = [];
            are_loops = h.are_loops;
            is = h.is ∙ ap (λ xs. h.loops ++ xs) z;
            opened_is = refl;
          })
          )
      | inr t ↦ elim (cases_Bool (is_same_spot o.last o.first)) [
        | inl f ↦ (
            let s = same_spot o.last o.first f in
            let P : Spot → Type 0 = λ q. IsPath o.first h.path q in
            rw (t, f) (record {
              loops = h.loops ++ h.path;
              path = [];
              are_loops = one_loop h.loops h.path o.first h.are_loops (subst P s n.0);
              is = ap (λ xs. xs ++ []) h.is;
              opened_is = refl;
            })
            )
        | inr f ↦ (
            let edge : Edge = record { from = o.last; to = o.first; is_drawn = drawn } in
            rw (t, f) (record {
              loops = h.loops ++ (h.path ++ (edge ∷ []));
              path = [];
              are_loops = one_loop h.loops (h.path ++ (edge ∷ [])) o.first h.are_loops (path_more o.first h.path o.last edge n.0 refl);
              is = ap (λ xs. xs ++ (edge ∷ [])) h.is ∙ append_assoc h.loops h.path (edge ∷ []) ∙ sym (append-nil (h.loops ++ (h.path ++ (edge ∷ []))));
              opened_is = refl;
            })
            )
      ]
    ]

closed_by : (c : Contents) (drawn : Bool) (o : Option Opened) → c.opened ≡ o → HoldsPolygons c → HoldsPolygons (elim o [ None ↦ c | Some o ↦ sub_polygon_ended c o drawn ])
closed_by c drawn None e h = h
closed_by c drawn (Some o) e h = ended_holds c o drawn e h

loops_of : (c : Contents) → HoldsPolygons c → c.opened ≡ None → AreLoops c.edges
loops_of c h e =
    let n = rw e at h.opened_is in
    let P : List Edge → Type 0 = AreLoops in
    subst P (sym (h.is ∙ ap (λ xs. h.loops ++ xs) n ∙ append-nil h.loops)) h.are_loops

pub buffers_hold_polygons_lem : BuffersHoldPolygons
buffers_hold_polygons_lem = record {
  empty = record { loops = []; path = []; are_loops = no_loops; is = refl; opened_is = refl };
  begun = λ c p h. begun_by c p c.opened refl h;
  reached = λ c p drawn h. reached_by c p drawn c.opened refl h;
  closed = λ c drawn h. closed_by c drawn c.opened refl h;
  loops = loops_of;
}
