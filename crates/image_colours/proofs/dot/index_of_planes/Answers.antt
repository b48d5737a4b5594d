use Rattle.std.proofs.Common.{◌≡◌, ◌∙◌, ◌-◌, ◌<◌, ◌≤◌, ◌^◌, sym, ap, ℕ, List, [], map, take, drop, length, min, get_or, arith, length-take, length-drop, Bor}
use Rattle.std.proofs.lemmas.List.{get_or-map, get_or-take, length-map}
use Rattle.image_colours.specs.Dots.{bits_at, index_of_planes}
use Rattle.image_colours.proofs.Indices.{index_step, index_none, index_within}
use Rattle.image_colours.proofs.dot.index_of_planes.Goals as goal

-- the planes that count
abbrev counted : ℕ → List (Bor (List ℕ)) → List (List ℕ)
counted count planes = take count (map {A = Bor (List ℕ)} {B = List ℕ} (λ p. p.now) planes)

few : (count : ℕ) (planes : List (Bor (List ℕ))) → length (counted count planes) ≤ count
few count planes = omega (arith, length-take count (map {A = Bor (List ℕ)} {B = List ℕ} (λ p. p.now) planes))

all_there : (count left : ℕ) (planes : List (Bor (List ℕ))) → left ≤ count → left ≤ length planes
    → left ≤ length (counted count planes)
all_there count left planes h k =
    omega (
      arith,
      length-take count (map {A = Bor (List ℕ)} {B = List ℕ} (λ p. p.now) planes),
      length-map {A = Bor
          (List ℕ)} {B = List ℕ} planes (λ p. p.now),
      h,
      k,
    )

none_after : (count left : ℕ) (planes : List (Bor (List ℕ))) → left ≡ min count (length planes)
    → length (counted count planes) ≤ left
none_after count left planes e =
    omega (
      arith,
      length-take count (map {A = Bor (List ℕ)} {B = List ℕ} (λ p. p.now) planes),
      length-map {A = Bor
          (List ℕ)} {B = List ℕ} planes (λ p. p.now),
      e,
    )

plane_at : (count k : ℕ) (planes : List (Bor (List ℕ))) (d : Bor (List ℕ)) → k < count → k < length planes
    → (get_or planes k d).now ≡ get_or (counted count planes) k []
plane_at count k planes d h j =
    sym (get_or-take count (map {A = Bor (List ℕ)} {B = List ℕ} (λ p. p.now) planes) k [] h
    ∙ get_or-map {X = Bor (List ℕ)} {Y = List ℕ} (λ p. p.now) planes k d [] j)

index_small : (c : goal.After-bits_at) → c.loop-left.index < 2 ^ 8
index_small c =
    let bound : index_of_planes (drop c.loop-left.left (counted c.args.count c.args.planes.now)) c.args.column < 2 ^ 8 =
    index_within (drop c.loop-left.left (counted c.args.count c.args.planes.now)) c.args.column 8
    (omega (
      arith,
      length-drop c.loop-left.left
          (counted c.args.count c.args.planes.now),
      few c.args.count c.args.planes.now,
      c.requires,
    )) in
    omega (arith, bound, c.loop-left.invariant.index)

pub loop-left-init : goal.loop-left-init
loop-left-init c = record {
  within = omega arith;
  counted = omega arith;
  index = index_none (counted c.args.count c.args.planes.now) c.min-left.result c.args.column
      (none_after c.args.count c.min-left.result c.args.planes.now c.min-left.ensures);
}

pub overflow_mul-index : goal.overflow_mul-index
overflow_mul-index c = omega (arith, index_small c)

pub overflow_add-index : goal.overflow_add-index
overflow_add-index c = omega (arith, index_small c, c.bits_at.ensures.near)

pub loop-left-preserved : goal.loop-left-preserved
loop-left-preserved c =
    let k : c.loop-left.left - 1 < c.args.count = omega arith in
    let j : c.loop-left.left - 1 < length c.args.planes.now = omega arith in
    record {
      within = omega arith;
      counted = omega arith;
      index = index_step (counted c.args.count c.args.planes.now) c.loop-left.left c.args.column c.bits_at.result c.loop-left.index
          c.loop-left-test.true
          (all_there c.args.count c.loop-left.left c.args.planes.now c.loop-left.invariant.counted c.loop-left.invariant.within)
          (c.bits_at.ensures.value ∙ ap (λ (z : List ℕ). bits_at 1 z c.args.column) (plane_at c.args.count
          (c.loop-left.left - 1) c.args.planes.now _ k j))
          c.loop-left.invariant.index;
    }

pub returns-clause-near : goal.returns-clause-near
returns-clause-near c =
    let bound : index_of_planes (drop c.loop-left.left (counted c.args.count c.args.planes.now)) c.args.column < 2 ^ 8 =
    index_within (drop c.loop-left.left (counted c.args.count c.args.planes.now)) c.args.column 8
    (omega (
      arith,
      length-drop c.loop-left.left
          (counted c.args.count c.args.planes.now),
      few c.args.count c.args.planes.now,
      c.requires,
    )) in
    omega (arith, bound, c.loop-left.invariant.index)
