-- What parameters set, by their count, and that it is in its range.
use Rattle.std.proofs.Common.{inl, inr, ◌≡◌, ◌≤◌, ◌^◌, ◌-◌, refl, suc, Bool, true, false, ◌&&◌, ◌||◌, not, List, [], ◌∷◌, length, take, drop, get_or, All, Some, IfSome, ℤ, pos, ◌≤ℤ◌, int_le, nat_abs, arith}
use Rattle.std.proofs.lemmas.List.{take_all}
use Rattle.std.proofs.lemmas.Int.{ints}
use Rattle.std.proofs.lemmas.Bool.{and_parts, or_parts, cases_Bool, not-true}
use Rattle.std.proofs.lemmas.List.Elements.{All-head, All-tail}
use Rattle.std.proofs.lemmas.Bool.Decides.{not_from_Decides, Decides-int_eq}
use Rattle.std.specs.Ordering.{int_eq}
use Rattle.exact.specs.Fraction.{Fraction}
use Rattle.exact.proofs.Rounding.{meets_lem}
use Rattle.plot_frame.specs.declared.pair.Pair.{Pair}
use Rattle.plot_frame.specs.declared.scaling.Range.{Range}
use Rattle.plot_frame.specs.Bounds.{Both, IsEnds, IsRange, IsFactor, IsPoints}
use Rattle.plot_settings.specs.declared.setting.Setting.{Setting}
use Rattle.plot_settings.specs.declared.setting.Setting.TheVariants.{BothPoints, PenColour, Size, Direction}
use Rattle.plot_settings.specs.Colours.{rgb, default_colour}
use Rattle.plot_settings.specs.Parameters.{when, whole_of, ends_at, points_at, scaling_points, window_corners, rotation_set, rotated, isotropic, isotropic_by, scaling_of_type, ranges_of, user_scaling, anisotropic, factor_of, point_factor, has_empty_range, is_percent, is_byte, given_colour, pen_colour_setting, is_size, size_grains, character_size, nearest_axis, label_direction}
use Rattle.plot_settings.specs.Bounds.{IsSetting}

pub isotropic_two : (r : Pair Range) (ns : List ℤ) (l b : ℤ) → 2 ≤ length ns → l ≡ get_or ns 0 l → b ≡ get_or ns 1 b → isotropic_by r ns ≡ isotropic r l b
isotropic_two r [] l b h p q = absurd (omega arith)
isotropic_two r (x ∷ []) l b h p q = absurd (omega arith)
isotropic_two r (x ∷ (y ∷ ns)) l b h p q = rw (p, q) refl

pub points_by : (a b c d a' b' c' d' : ℤ) → a ≡ a' → b ≡ b' → c ≡ c' → d ≡ d' → points_at a b c d ≡ points_at a' b' c' d'
points_by a b c d a' b' c' d' e f g h = rw (e, f, g, h) refl

pub points_four : (ns : List ℤ) (a b c d : ℤ) → 4 ≤ length ns → a ≡ get_or ns 0 a → b ≡ get_or ns 1 b → c ≡ get_or ns 2 c → d ≡ get_or ns 3 d
    → scaling_points ns ≡ Some (BothPoints (points_at (whole_of a) (whole_of b) (whole_of c) (whole_of d)))
points_four [] a b c d h p q r s = absurd (omega arith)
points_four (x ∷ []) a b c d h p q r s = absurd (omega arith)
points_four (x ∷ (y ∷ [])) a b c d h p q r s = absurd (omega arith)
points_four (x ∷ (y ∷ (z ∷ []))) a b c d h p q r s = absurd (omega arith)
points_four (x ∷ (y ∷ (z ∷ (w ∷ ns)))) a b c d h p q r s = rw (p, q, r, s) refl

pub colours_by : (p r g b p' r' g' b' : ℤ) → p ≡ p' → r ≡ r' → g ≡ g' → b ≡ b' → given_colour p r g b ≡ given_colour p' r' g' b'
colours_by p r g b p' r' g' b' e f h i = rw (e, f, h, i) refl

pub colour_four : (ns : List ℤ) (a b c d : ℤ) → 4 ≤ length ns → a ≡ get_or ns 0 a → b ≡ get_or ns 1 b → c ≡ get_or ns 2 c → d ≡ get_or ns 3 d
    → pen_colour_setting ns ≡ given_colour (whole_of a) (whole_of b) (whole_of c) (whole_of d)
colour_four [] a b c d h p q r s = absurd (omega arith)
colour_four (x ∷ []) a b c d h p q r s = absurd (omega arith)
colour_four (x ∷ (y ∷ [])) a b c d h p q r s = absurd (omega arith)
colour_four (x ∷ (y ∷ (z ∷ []))) a b c d h p q r s = absurd (omega arith)
colour_four (x ∷ (y ∷ (z ∷ (w ∷ ns)))) a b c d h p q r s = rw (p, q, r, s) refl

pub scaled_five : (ns : List ℤ) (a b c d t : ℤ) → 5 ≤ length ns → a ≡ get_or ns 0 a → b ≡ get_or ns 1 b → c ≡ get_or ns 2 c → d ≡ get_or ns 3 d → t ≡ get_or ns 4 t
    → user_scaling ns ≡ scaling_of_type (whole_of t) (ranges_of a b c d) (take (length ns - 5) (drop 5 ns))
scaled_five [] a b c d t h p q r s u = absurd (omega arith)
scaled_five (x ∷ []) a b c d t h p q r s u = absurd (omega arith)
scaled_five (x ∷ (y ∷ [])) a b c d t h p q r s u = absurd (omega arith)
scaled_five (x ∷ (y ∷ (z ∷ []))) a b c d t h p q r s u = absurd (omega arith)
scaled_five (x ∷ (y ∷ (z ∷ (w ∷ [])))) a b c d t h p q r s u = absurd (omega arith)
scaled_five (x ∷ (y ∷ (z ∷ (w ∷ (v ∷ ns))))) a b c d t h p q r s u =
    rw (p, q, r, s, u, take_all (suc (suc (suc (suc (suc (length ns))))) - 5) ns (omega arith)) refl

abbrev pub IsParameter : ℤ → Type 0
IsParameter z = nat_abs z ≤ 8388607999999

-- the four numbers of an SC, IP or IW
pub record AreTwo (r : Range) : Type 0 where
  pub least : IsParameter r.least
  pub most : IsParameter r.most

four_of : (a b c d : ℤ) (ns : List ℤ) → All IsParameter (a ∷ (b ∷ (c ∷ (d ∷ ns)))) → Both AreTwo (ranges_of a b c d)
four_of a b c d ns h =
    let t = All-tail IsParameter a (b ∷ (c ∷ (d ∷ ns))) h in
    let u = All-tail IsParameter b (c ∷ (d ∷ ns)) t in
    let v = All-tail IsParameter c (d ∷ ns) u in
    record {
      x = record { least = All-head IsParameter a (b ∷ (c ∷ (d ∷ ns))) h; most = All-head IsParameter b (c ∷ (d ∷ ns)) t };
      y = record { least = All-head IsParameter c (d ∷ ns) u; most = All-head IsParameter d ns v };
    }

whole_bound : (n : ℤ) → IsParameter n → nat_abs (whole_of n) ≤ 8388608
whole_bound n h =
    let f : Fraction = record { over = n; under = 1000000 } in
    let m = meets_lem f (omega arith) in
    let a = m.least in
    let b = m.most in
    omega (arith, ints)

ends_in : (a b : ℤ) → nat_abs a ≤ 8388608 → nat_abs b ≤ 8388608 → IsEnds (ends_at a b)
ends_in a b h k = elim (cases_Bool (int_eq a b)) [
  | inl t ↦ rw t (let i = (Decides-int_eq a b).0 t in
      record { first_in = omega arith; distance_in = omega (arith, ints); apart = λ z. omega (arith, ints) })
  | inr t ↦ rw t (let i = not_from_Decides _ (Decides-int_eq a b) t in
      record { first_in = omega arith; distance_in = omega (arith, ints); apart = λ z. i (omega (arith, ints)) })
]

points_sound : (a b c d : ℤ) → IsParameter a → IsParameter b → IsParameter c → IsParameter d → IsPoints (points_at (whole_of a) (whole_of b) (whole_of c) (whole_of d))
points_sound a b c d h i j k = record {
  x = ends_in (whole_of a) (whole_of c) (whole_bound a h) (whole_bound c j);
  y = ends_in (whole_of b) (whole_of d) (whole_bound b i) (whole_bound d k);
}

pub points_setting_sound : (ns : List ℤ) → All IsParameter ns → IfSome (scaling_points ns) IsSetting
points_setting_sound [] h = tt
points_setting_sound (x ∷ []) h = tt
points_setting_sound (x ∷ (y ∷ [])) h =
    let wx = whole_bound x (All-head IsParameter x (y ∷ []) h) in
    let wy = whole_bound y (All-head IsParameter y [] (All-tail IsParameter x (y ∷ []) h)) in
    (omega arith, omega arith)
points_setting_sound (x ∷ (y ∷ (z ∷ []))) h = tt
points_setting_sound (a ∷ (b ∷ (c ∷ (d ∷ ns)))) h = let p = four_of a b c d ns h in points_sound a b c d p.x.least p.x.most p.y.least p.y.most

pub window_setting_sound : (ns : List ℤ) → All IsParameter ns → IfSome (window_corners ns) IsSetting
window_setting_sound [] h = tt
window_setting_sound (x ∷ []) h = tt
window_setting_sound (x ∷ (y ∷ [])) h = tt
window_setting_sound (x ∷ (y ∷ (z ∷ []))) h = tt
window_setting_sound (a ∷ (b ∷ (c ∷ (d ∷ ns)))) h =
    let p = four_of a b c d ns h in
    let ha = p.x.least in
    let hb = p.x.most in
    let hc = p.y.least in
    let hd = p.y.most in
    (omega arith, omega arith, omega arith, omega arith)

rotation_sound : (n : ℤ) → IfSome (rotation_set n) IsSetting
rotation_sound n = elim (cases_Bool (int_eq n (pos 0))) [
  | inl t ↦ rw t tt
  | inr t ↦ rw t (elim (cases_Bool (int_eq n (pos 90))) [
    | inl u ↦ rw u tt
    | inr u ↦ rw u (elim (cases_Bool (int_eq n (pos 180))) [
      | inl v ↦ rw v tt
      | inr v ↦ rw v (elim (cases_Bool (int_eq n (pos 270))) [
        | inl w ↦ rw w tt
        | inr w ↦ rw w tt
      ])
    ])
  ])
]

pub rotation_setting_sound : (ns : List ℤ) → IfSome (rotated ns) IsSetting
rotation_setting_sound [] = tt
rotation_setting_sound (n ∷ ns) = rotation_sound (whole_of n)

-- what is set under a test is in its range, if it is so without the test
under_test : (test : Bool) (s : Setting) → IsSetting s → IfSome (when test s) IsSetting
under_test true s h = h
under_test false s h = tt

default_colour_sound : (p : ℤ) → IfSome (when (is_byte p) (PenColour (nat_abs p) (default_colour (nat_abs p)))) IsSetting
default_colour_sound p = under_test (is_byte p) (PenColour (nat_abs p) (default_colour (nat_abs p))) tt

colour_sound : (p r g b : ℤ) → IfSome (given_colour p r g b) IsSetting
colour_sound p r g b =
    under_test (is_byte p && (is_byte r && (is_byte g && is_byte b)))
    (PenColour (nat_abs p) (rgb (nat_abs r) (nat_abs g) (nat_abs b))) tt

pub colour_setting_sound : (ns : List ℤ) → IfSome (pen_colour_setting ns) IsSetting
colour_setting_sound [] = tt
colour_setting_sound (p ∷ []) = default_colour_sound (whole_of p)
colour_setting_sound (p ∷ (r ∷ [])) = tt
colour_setting_sound (p ∷ (r ∷ (g ∷ []))) = tt
colour_setting_sound (p ∷ (r ∷ (g ∷ (b ∷ ns)))) = colour_sound (whole_of p) (whole_of r) (whole_of g) (whole_of b)

range_sound : (r : Range) → AreTwo r → int_eq r.least r.most ≡ false → IsRange r
range_sound r h e =
    let n = not_from_Decides _ (Decides-int_eq r.least r.most) e in
    let a = h.least in
    let b = h.most in
    record { least_in = omega arith; most_in = omega arith; apart = λ z. n (omega (arith, ints)) }

ranges_sound : (r : Pair Range) → Both AreTwo r → has_empty_range r ≡ false → Both IsRange r
ranges_sound r h e =
    let n = or_parts (int_eq r.x.least r.x.most) (int_eq r.y.least r.y.most) e in
    record { x = range_sound r.x h.x n.0; y = range_sound r.y h.y n.1 }

anisotropic_sound : (r : Pair Range) → Both AreTwo r → IfSome (anisotropic r) IsSetting
anisotropic_sound r h = elim (cases_Bool (has_empty_range r)) [
  | inl t ↦ rw t tt
  | inr t ↦ rw t (ranges_sound r h t)
]

percent_is : (n : ℤ) → is_percent n ≡ true → (pos 0 ≤ℤ n) × (nat_abs n ≤ 10 ^ 8)
percent_is n h =
    let p = and_parts (int_le (pos 0) n) (int_le n (pos 100000000)) h in
    (omega (arith, ints), omega (arith, ints))

isotropic_sound : (r : Pair Range) (l b : ℤ) → Both AreTwo r → IfSome (isotropic r l b) IsSetting
isotropic_sound r l b h = elim (cases_Bool (not (has_empty_range r) && (is_percent l && is_percent b))) [
  | inr t ↦ rw t tt
  | inl t ↦ rw t (let n = and_parts (not (has_empty_range r)) _ t in
      let m = and_parts (is_percent l) (is_percent b) n.1 in
      let p = percent_is l m.0 in
      let q = percent_is b m.1 in
      let e = not-true (has_empty_range r) n.0 in
      let g = ranges_sound r h e in
      record {
        x = record { range = g.x; share_from = p.0; share_in = p.1 };
        y = record { range = g.y; share_from = q.0; share_in = q.1 };
      })
]

isotropic_by_sound : (r : Pair Range) (ns : List ℤ) → Both AreTwo r → IfSome (isotropic_by r ns) IsSetting
isotropic_by_sound r [] h = isotropic_sound r (pos 50000000) (pos 50000000) h
isotropic_by_sound r (l ∷ []) h = isotropic_sound r l (pos 50000000) h
isotropic_by_sound r (l ∷ (b ∷ ns)) h = isotropic_sound r l b h

factor_in : (r : Range) → AreTwo r → int_eq r.most (pos 0) ≡ false → IsFactor (factor_of r)
factor_in r h e =
    let a = h.least in
    let b = h.most in
    record { least_in = omega arith; factor_in = omega arith; factor_not_0 = not_from_Decides _ (Decides-int_eq r.most (pos 0)) e }

factor_sound : (r : Pair Range) → Both AreTwo r → IfSome (point_factor r) IsSetting
factor_sound r h = elim (cases_Bool (int_eq r.x.most (pos 0) || int_eq r.y.most (pos 0))) [
  | inl t ↦ rw t tt
  | inr t ↦ rw t (let n = or_parts (int_eq r.x.most (pos 0)) (int_eq r.y.most (pos 0)) t in
      record { x = factor_in r.x h.x n.0; y = factor_in r.y h.y n.1 })
]

typed_sound : (k : ℤ) (r : Pair Range) (ns : List ℤ) → Both AreTwo r → IfSome (scaling_of_type k r ns) IsSetting
typed_sound k r ns h = elim (cases_Bool (int_eq k (pos 0))) [
  | inl t ↦ rw t (anisotropic_sound r h)
  | inr t ↦ rw t (elim (cases_Bool (int_eq k (pos 1))) [
    | inl u ↦ rw u (isotropic_by_sound r ns h)
    | inr u ↦ rw u (elim (cases_Bool (int_eq k (pos 2))) [
      | inl v ↦ rw v (factor_sound r h)
      | inr v ↦ rw v tt
    ])
  ])
]

pub scaling_setting_sound : (ns : List ℤ) → All IsParameter ns → IfSome (user_scaling ns) IsSetting
scaling_setting_sound [] h = tt
scaling_setting_sound (x ∷ []) h = tt
scaling_setting_sound (x ∷ (y ∷ [])) h = tt
scaling_setting_sound (x ∷ (y ∷ (z ∷ []))) h = tt
scaling_setting_sound (a ∷ (b ∷ (c ∷ (d ∷ [])))) h =
    anisotropic_sound (ranges_of a b c d) (four_of a b c d [] h)
scaling_setting_sound (a ∷ (b ∷ (c ∷ (d ∷ (t ∷ ns))))) h =
    typed_sound (whole_of t) (ranges_of a b c d) ns (four_of a b c d (t ∷ ns) h)

pub size_setting_sound : (ns : List ℤ) → IfSome (character_size ns) IsSetting
size_setting_sound [] = tt
size_setting_sound (w ∷ []) = tt
size_setting_sound (w ∷ (h ∷ ns)) =
    under_test (is_size w && is_size h) (Size (record { width = size_grains w; height = size_grains h })) tt

pub direction_setting_sound : (ns : List ℤ) → IfSome (label_direction ns) IsSetting
direction_setting_sound [] = tt
direction_setting_sound (x ∷ []) = tt
direction_setting_sound (x ∷ (y ∷ ns)) =
    under_test (not (int_eq x (pos 0) && int_eq y (pos 0))) (Direction (nearest_axis x y)) tt
