-- How far a turned vector goes, and some turns.
use Rattle.std.proofs.Common.{◌≡◌, ◌≤◌, ℕ, pos, neg_ℤ, nat_abs, arith, refl}
use Rattle.std.proofs.lemmas.Int.{ints}
use Rattle.exact.specs.declared.spot.Spot.{Spot}
use Rattle.plot_settings.specs.declared.setting.Rotation.{Rotation}
use Rattle.plot_settings.specs.declared.setting.Rotation.TheVariants as rotation
use Rattle.hpgl_plot.specs.OnPage.{turned_vector}

pub vector_right : (r : Rotation) (v : Spot) (m : ℕ) → nat_abs v.x ≤ m → nat_abs v.y ≤ m → nat_abs (turned_vector r v).x ≤ m
vector_right rotation.None v m h k = h
vector_right rotation.Quarter v m h k = omega (arith, ints)
vector_right rotation.Half v m h k = omega (arith, ints)
vector_right rotation.ThreeQuarters v m h k = k

pub vector_above : (r : Rotation) (v : Spot) (m : ℕ) → nat_abs v.x ≤ m → nat_abs v.y ≤ m → nat_abs (turned_vector r v).y ≤ m
vector_above rotation.None v m h k = k
vector_above rotation.Quarter v m h k = h
vector_above rotation.Half v m h k = omega (arith, ints)
vector_above rotation.ThreeQuarters v m h k = omega (arith, ints)

not_turned : turned_vector rotation.None (record { x = pos 12; y = pos 5 }) ≡ record { x = pos 12; y = pos 5 }
not_turned = refl

quarter_turn : turned_vector rotation.Quarter (record { x = pos 12; y = pos 5 }) ≡ record { x = neg_ℤ (pos 5); y = pos 12 }
quarter_turn = refl

half_turn : turned_vector rotation.Half (record { x = pos 12; y = pos 5 }) ≡ record { x = neg_ℤ (pos 12); y = neg_ℤ (pos 5) }
half_turn = refl

three_quarters : turned_vector rotation.ThreeQuarters (record { x = pos 12; y = pos 5 }) ≡ record { x = pos 5; y = neg_ℤ (pos 12) }
three_quarters = refl
