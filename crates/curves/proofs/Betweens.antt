-- The directions between two, and the places in them.
use Rattle.std.proofs.Common.{◌≡◌, Bool, ℕ, suc, List, [], ◌∷◌, ◌++◌, map, ap, ap₂, sym, refl, ◌∙◌, append_assoc}
use Rattle.std.proofs.lemmas.List.{map-append}
use Rattle.exact.specs.declared.spot.Spot.{Spot}
use Rattle.curves.specs.Arcs.{between, middle, place_at}
use Rattle.curves.specs.declared.circle.Circle.{Circle}

pub between_none : (clockwise : Bool) (k : ℕ) (p q : Spot) → k ≡ 0 → between clockwise k p q ≡ []
unfolding between
between_none clockwise k p q e = rw e refl

between_suc : (clockwise : Bool) (k : ℕ) (p q : Spot)
    → between clockwise (suc k) p q
    ≡ between clockwise k p (middle clockwise p q) ++ (middle clockwise p q ∷ between clockwise k (middle clockwise p q) q)
unfolding between
between_suc clockwise k p q = refl

-- the places in the directions after one more middle was put between p and q
places_more : (circle : Circle) (k : ℕ) (p q : Spot)
    → map (place_at circle) (between circle.clockwise (suc k) p q)
    ≡ map (place_at circle) (between circle.clockwise k p (middle circle.clockwise p q))
    ++ (place_at circle (middle circle.clockwise p q)
    ∷ map (place_at circle) (between circle.clockwise k (middle circle.clockwise p q) q))
places_more circle k p q =
    let m = middle circle.clockwise p q in
    ap (map (place_at circle)) (between_suc circle.clockwise k p q)
    ∙ map-append (place_at circle) (between circle.clockwise k p m) (m ∷ between circle.clockwise k m q)

joined : (xs firsts lasts : List Spot) (s : Spot) → ((xs ++ firsts) ++ (s ∷ [])) ++ lasts ≡ xs ++ (firsts ++ (s ∷ lasts))
joined xs firsts lasts s = append_assoc (xs ++ firsts) (s ∷ []) lasts ∙ append_assoc xs firsts (s ∷ lasts)

-- the places before the middle, its own, and those after it
pub all_between : (circle : Circle) (j k : ℕ) (p q m s : Spot) (xs ys zs : List Spot)
    → k ≡ suc j → m ≡ middle circle.clockwise p q → s ≡ place_at circle m
    → ys ≡ xs ++ map (place_at circle) (between circle.clockwise j p m) → zs ≡ ys ++ (s ∷ [])
    → zs ++ map (place_at circle) (between circle.clockwise j m q) ≡ xs ++ map (place_at circle) (between circle.clockwise k p q)
all_between circle j k p q m s xs ys zs e f g h i =
    let n = middle circle.clockwise p q in
    let firsts : List Spot = map (place_at circle) (between circle.clockwise j p n) in
    let lasts : List Spot = map (place_at circle) (between circle.clockwise j n q) in
    let a : zs ≡ (xs ++ firsts) ++ (place_at circle n ∷ []) = rw (i, h, g, f) refl in
    ap₂ (λ (l : List Spot) (r : Spot). l ++ map (place_at circle) (between circle.clockwise j r q)) a f
    ∙ joined xs firsts lasts (place_at circle n)
    ∙ ap (λ (l : List Spot). xs ++ l) (sym (places_more circle j p q))
    ∙ ap (λ (l : ℕ). xs ++ map (place_at circle) (between circle.clockwise l p q)) (sym e)
