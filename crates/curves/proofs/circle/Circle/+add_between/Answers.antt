use Rattle.std.proofs.Common.{◌≡◌, ◌^◌, List, [], ◌∷◌, ◌++◌, suc, ◌-◌, arith}
use Rattle.std.specs.List.{All}
use Rattle.std.proofs.lemmas.List.Elements.{All-push}
use Rattle.std.proofs.lemmas.Result.{IfOk-equal, IfOk-weaker}
use Rattle.directions.specs.Bounds.{IsWithin}
use Rattle.exact.specs.declared.spot.Spot.{Spot}
use Rattle.curves.proofs.Betweens.{all_between}
use Rattle.curves.proofs.circle.Circle.+add_between.Goals as goal

pub returns-clause-value : goal.returns-clause-value
returns-clause-value t c =
    let e : c.args.k ≡ suc (c.args.k - 1) = omega (arith, c.if-k-eq0.false) in
    IfOk-equal c.add_between-2.result _ _ _ c.add_between-2.ensures.value
    (all_between c.args.self.now (c.args.k - 1) c.args.k c.args.p c.args.q c.middle-middle.result c.place_at.result
    c.args.places.now.items c.add_between.new.places.items c.push.new.self.items
    e c.middle-middle.ensures.value c.place_at.ensures.value c.in_ok-add_between.ensures.value c.in_ok-push.ensures.items)

-- a place more is within too
one_more : (P : Spot → Type 0) (xs ys zs : List Spot) (s : Spot) → (All P xs → All P ys) → zs ≡ ys ++ (s ∷ []) → P s → All P xs → All P zs
one_more P xs ys zs s f e p h = rw e (All-push P ys s (f h) p)

pub returns-clause-within : goal.returns-clause-within
returns-clause-within t c =
    let P : Spot → Type 0 = IsWithin (2 ^ 35) in
    let xs : List Spot = c.args.places.now.items in
    let zs : List Spot = c.push.new.self.items in
    let ws : List Spot = c.add_between-2.new.places.items in
    let n : All P xs → All P zs = one_more P xs c.add_between.new.places.items zs c.place_at.result
    c.in_ok-add_between.ensures.within c.in_ok-push.ensures.items c.place_at.ensures.within in
    IfOk-weaker c.add_between-2.result (λ _. All P zs → All P ws) (λ _. All P xs → All P ws) (λ _ f h. f (n h))
    c.add_between-2.ensures.within
