use Rattle.std.proofs.Common.{◌≡◌, ◌^◌, List, [], ◌∷◌, ◌++◌, arith}
use Rattle.std.specs.List.{All}
use Rattle.std.proofs.lemmas.List.Elements.{All-push, All-nil}
use Rattle.directions.specs.Bounds.{IsWithin}
use Rattle.exact.specs.declared.spot.Spot.{Spot}
use Rattle.curves.proofs.arcs.arc_places.Goals as goal
use Rattle.curves.proofs.arcs.arc_places.Goals.{After-push-2}
use Rattle.curves.proofs.arcs.arc_places.Goals.{in-None, in-Some+in_ok-push-in-Some, in-Some-2+in_ok-add_between-in-Some-2}

wider : (s : Spot) → IsWithin (2 ^ 27) s → IsWithin (2 ^ 35) s
wider s h = let hx = h.x_in in let hy = h.y_in in record { x_in = omega arith; y_in = omega arith }

no_places : (xs : List Spot) → xs ≡ [] → All (IsWithin (2 ^ 35)) xs
no_places xs e = rw e (All-nil (IsWithin (2 ^ 35)))

one_more : (xs ys : List Spot) (s : Spot) → ys ≡ xs ++ (s ∷ []) → All (IsWithin (2 ^ 35)) xs → IsWithin (2 ^ 27) s → All (IsWithin (2 ^ 35)) ys
one_more xs ys s e h p = rw e (All-push (IsWithin (2 ^ 35)) xs s h (wider s p))

pub returns-clause-within : goal.returns-clause-within
returns-clause-within c =
    let n = no_places c.new-places.result.items c.new-places.ensures.items in
    one_more c.match-through.places.items c.push-2.new.self.items c.args.c c.in_ok-push.ensures.items
    (elim c.match-through.branch [
      | in-None w ↦ rw w.places-is n
      | in-Some+in_ok-push-in-Some w ↦ (let m = one_more c.new-places.result.items w.push.new.self.items c.args.b w.in_ok-push-in-Some.ensures.items n c.requires.b_in in rw w.places-is m)
      | in-Some-2+in_ok-add_between-in-Some-2 w ↦ (let m = w.in_ok-add_between-in-Some-2.ensures.within n in rw w.places-is m)
    ])
    c.requires.c_in
