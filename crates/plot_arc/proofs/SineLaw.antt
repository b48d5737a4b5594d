-- Each sine of whole degrees, found by computing all of them.
use Rattle.std.proofs.Common.{◌≡◌, ◌<◌, ◌≤◌, ℕ, Bool, true, map, get_or, refl, sym, ap, ◌∙◌, arith}
use Rattle.std.proofs.lemmas.List.FromFn.{get_or-map-range_with_len}
use Rattle.std.specs.List.{range_with_len}
use Rattle.plot_arc.specs.Arcs.{sine_of_degrees}
use Rattle.plot_arc.specs.SineBounds.{is_sine}

abbrev is_right : ℕ → Bool
is_right d = is_sine d (sine_of_degrees d)

all_right : map is_right (range_with_len 0 91) ≡ map (λ _. true) (range_with_len 0 91)
all_right = refl

pub nearest : (d : ℕ) → d ≤ 90 → is_sine d (sine_of_degrees d) ≡ true
nearest d h =
    let within : d < 91 = omega arith in
    sym (get_or-map-range_with_len is_right 0 91 d d (is_right 0) within (omega arith))
    ∙ ap (λ t. get_or t d (is_right 0)) all_right
    ∙ get_or-map-range_with_len (λ _. true) 0 91 d d (is_right 0) within (omega arith)
