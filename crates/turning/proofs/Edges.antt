-- How often a place is past an edge before a quarter turn and after it: the difference depends on where the ends lie, and is lost
-- round a polygon. By the ways from an end to the place and from the place to the other end, which are given by their coordinates.
use Rattle.std.proofs.Common.{◌≡◌, ◌+◌, Bool, true, false, not, ◌&&◌, refl, sym}
use Rattle.std.proofs.Common.{arith, ℤ, pos, ◌-ℤ◌, ◌*ℤ◌, ◌≤ℤ◌, ◌<ℤ◌, int_le, int_lt}
use Rattle.std.proofs.lemmas.Int.{ints}
use Rattle.polygons.proofs.SolidLaws.{one}
use Rattle.polygons.proofs.Tests.{le_false, le_from, le_not, le_true, lt_from, lt_not}
use Rattle.turning.proofs.Signs.{above_below, below_above, down_down, down_up, right_zero, right_zero_below, up_down, up_up}

-- what is known of the tests of an edge: whether its first end is not above the place, the other end above it, the first end not
-- right of it, the other end right of it; and by the side of the edge on which the place lies, whether it is past the edge upwards
-- and downwards
pub record Sides (a b c d n m : Bool) : Type 0 where
  pub right : a ≡ true → b ≡ true → c ≡ false → d ≡ true → n ≡ false
  pub left : a ≡ true → b ≡ true → c ≡ true → d ≡ false → n ≡ true
  pub right_down : a ≡ false → b ≡ false → c ≡ false → d ≡ true → m ≡ false
  pub left_down : a ≡ false → b ≡ false → c ≡ true → d ≡ false → m ≡ true
  pub over : a ≡ false → b ≡ true → c ≡ true → d ≡ true → n ≡ true
  pub under : a ≡ true → b ≡ false → c ≡ true → d ≡ true → n ≡ false
  pub over_back : a ≡ false → b ≡ true → c ≡ false → d ≡ false → m ≡ true
  pub under_back : a ≡ true → b ≡ false → c ≡ false → d ≡ false → m ≡ false
  pub falling : a ≡ false → b ≡ false → c ≡ true → d ≡ true → one n + one m ≡ 1
  pub rising : a ≡ true → b ≡ true → c ≡ false → d ≡ false → one n + one m ≡ 1

pub counts : (a b c d n m : Bool) → Sides a b c d n m
    → one ((c && d) && n) + one ((not b && not a) && m) + one (b && not d)
    ≡ one ((a && b) && n) + one ((not d && not c) && m) + one (not a && c)
counts true true true true n m s = omega arith
counts true true true false n m s = let e = s.left refl refl refl refl in rw e refl
counts true true false true n m s = let e = s.right refl refl refl refl in rw e refl
counts true true false false n m s = let e = s.rising refl refl refl refl in omega (arith, e)
counts true false true true n m s = let e = s.under refl refl refl refl in rw e refl
counts true false true false n m s = omega arith
counts true false false true n m s = omega arith
counts true false false false n m s = let e = s.under_back refl refl refl refl in rw e refl
counts false true true true n m s = let e = s.over refl refl refl refl in rw e refl
counts false true true false n m s = omega arith
counts false true false true n m s = omega arith
counts false true false false n m s = let e = s.over_back refl refl refl refl in rw e refl
counts false false true true n m s = let e = s.falling refl refl refl refl in omega (arith, e)
counts false false true false n m s = let e = s.left_down refl refl refl refl in rw e refl
counts false false false true n m s = let e = s.right_down refl refl refl refl in rw e refl
counts false false false false n m s = omega arith

-- two numbers that differ are in order one way
order : (p q : ℤ) → (p ≡ q → ⊥) → (b c : Bool) → int_le p q ≡ b → int_le q p ≡ c → one b + one c ≡ 1
order p q differ true true e f =
    let h = le_from p q e in
    let k = le_from q p f in
    let same : p ≡ q = omega (arith, ints, h, k) in
    absurd (differ same)
order p q differ true false e f = refl
order p q differ false true e f = refl
order p q differ false false e f =
    let h = le_not p q e in
    let k = le_not q p f in
    absurd (omega (arith, ints, h, k))

either : (p q : ℤ) → (p ≡ q → ⊥) → one (int_le p q) + one (int_le q p) ≡ 1
either p q differ =
    order p q differ (int_le p q) (int_le q p) refl refl

by_test : (p q : ℤ) → q ≤ℤ p → (p ≡ q → ⊥) → (b : Bool) → int_le p q ≡ b → b ≡ false
by_test p q h differ true e =
    let k = le_from p q e in
    let same : p ≡ q = omega (arith, ints, h, k) in
    absurd (differ same)
by_test p q h differ false e = refl

strictly : (p q : ℤ) → q ≤ℤ p → (p ≡ q → ⊥) → int_le p q ≡ false
strictly p q h differ = by_test p q h differ (int_le p q) refl

module _ (ax ay bx by x y : ℤ) where
  -- the products whose order says on which side of the edge the place lies
  abbrev pub first : ℤ
  first = (bx -ℤ x) *ℤ (y -ℤ ay)

  abbrev pub second : ℤ
  second = (x -ℤ ax) *ℤ (by -ℤ y)

  -- the place does not lie on the edge
  abbrev pub IsOff : Type 0
  IsOff = first ≡ second → pos 0 ≤ℤ ((x -ℤ ax) *ℤ (bx -ℤ x)) → pos 0 ≤ℤ ((y -ℤ ay) *ℤ (by -ℤ y)) → ⊥

  above : int_le ay y ≡ true → pos 0 ≤ℤ (y -ℤ ay)
  above e = let h = le_from ay y e in omega (arith, ints, h)

  not_above : int_le ay y ≡ false → (y -ℤ ay) <ℤ pos 0
  not_above e = let h = le_not ay y e in omega (arith, ints, h)

  below : int_lt y by ≡ true → pos 0 <ℤ (by -ℤ y)
  below e = let h = lt_from y by e in omega (arith, ints, h)

  not_below : int_lt y by ≡ false → (by -ℤ y) ≤ℤ pos 0
  not_below e = let h = lt_not y by e in omega (arith, ints, h)

  after : int_le ax x ≡ true → pos 0 ≤ℤ (x -ℤ ax)
  after e = let h = le_from ax x e in omega (arith, ints, h)

  not_after : int_le ax x ≡ false → (x -ℤ ax) <ℤ pos 0
  not_after e = let h = le_not ax x e in omega (arith, ints, h)

  before : int_lt x bx ≡ true → pos 0 <ℤ (bx -ℤ x)
  before e = let h = lt_from x bx e in omega (arith, ints, h)

  not_before : int_lt x bx ≡ false → (bx -ℤ x) ≤ℤ pos 0
  not_before e = let h = lt_not x bx e in omega (arith, ints, h)

  least : (z : ℤ) → pos 0 <ℤ z → pos 0 ≤ℤ z
  least z h = omega (arith, ints, h)

  most : (z : ℤ) → z <ℤ pos 0 → z ≤ℤ pos 0
  most z h = omega (arith, ints, h)

  pub sides : IsOff → Sides (int_le ay y) (int_lt y by) (int_le ax x) (int_lt x bx) (int_le first second) (int_le second first)
  sides off =
      let u = bx -ℤ x in
      let v = by -ℤ y in
      let w = x -ℤ ax in
      let z = y -ℤ ay in
      record {
        right = λ a b c d.
            let p = up_up u z (least u (before d)) (above a) in
            let q = below_above w v (not_after c) (below b) in
            le_false first second (omega (arith, ints, p, q));
        left = λ a b c d.
            let p = down_up u z (not_before d) (above a) in
            let q = up_up w v (after c) (least v (below b)) in
            le_true first second (omega (arith, ints, p, q));
        right_down = λ a b c d.
            let p = above_below u z (before d) (not_above a) in
            let q = down_down w v (most w (not_after c)) (not_below b) in
            le_false second first (omega (arith, ints, p, q));
        left_down = λ a b c d.
            let p = down_down u z (not_before d) (most z (not_above a)) in
            let q = up_down w v (after c) (not_below b) in
            le_true second first (omega (arith, ints, p, q));
        over = λ a b c d.
            let p = up_down u z (least u (before d)) (most z (not_above a)) in
            let q = up_up w v (after c) (least v (below b)) in
            le_true first second (omega (arith, ints, p, q));
        under = λ a b c d.
            let p = up_up u z (least u (before d)) (above a) in
            let q = up_down w v (after c) (not_below b) in
            strictly first second (omega (arith, ints, p, q)) (λ e.
            let zero = right_zero u z (before d) (above a) (omega (arith, ints, p, q, e)) in
            off e (up_up w u (after c) (least u (before d))) (down_down z v (omega (arith, ints, zero)) (not_below b)));
        over_back = λ a b c d.
            let p = down_down u z (not_before d) (most z (not_above a)) in
            let q = down_up w v (most w (not_after c)) (least v (below b)) in
            le_true second first (omega (arith, ints, p, q));
        under_back = λ a b c d.
            let p = down_up u z (not_before d) (above a) in
            let q = down_down w v (most w (not_after c)) (not_below b) in
            strictly second first (omega (arith, ints, p, q)) (λ e.
            let zero = right_zero_below w v (not_after c) (not_below b) (omega (arith, ints, p, q, e)) in
            off (sym e) (down_down w u (most w (not_after c)) (not_before d)) (up_up z v (above a) (omega (arith, ints, zero))));
        falling = λ a b c d.
            either first second (λ e. off e (up_up w u (after c) (least u (before d))) (down_down z v (most z (not_above a)) (not_below b)));
        rising = λ a b c d.
            either first second (λ e. off e (down_down w u (most w (not_after c)) (not_before d)) (up_up z v (above a) (least v (below b))));
      }
