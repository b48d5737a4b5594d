-- Instructions that make no moves look at their first numbers only.
use Rattle.std.proofs.Common.{◌≡◌, refl, ap, true, false, List, [], ◌∷◌, take, ℤ}
use Rattle.hpgl_text.specs.declared.instruction.Instruction.{Instruction}
use Rattle.hpgl_text.specs.declared.instruction.Instruction.TheVariants.{Initialize, DefaultValues, InputPoints, Scale, Rotate, InputWindow, SelectPen, PenWidth, PenColour, PenUp, PenDown, PlotAbsolute, PlotRelative, EdgeAbsolute, EdgeRelative, Circle, ArcAbsolute, ArcRelative, CharacterSize, Direction}
use Rattle.plot_settings.specs.Parameters.{circled, arced, character_size, label_direction, scaling_points, user_scaling, rotated, window_corners, selected_pen, pen_width_setting, pen_colour_setting}
use Rattle.plot_settings.specs.Slants.{is_slanted}
use Rattle.plot_settings.specs.Pairs.{plots_pairs}
use Rattle.plot_settings.specs.Meanings.{sets, edges, asks, DrawCircle, DrawArc, meaning}

first_one : {T : Type 0} (f : List ℤ → T) → ((n : ℤ) (ns : List ℤ) → f (n ∷ take 6 ns) ≡ f (n ∷ ns)) → (ns : List ℤ) → f (take 7 ns) ≡ f ns
first_one f h [] = refl
first_one f h (n ∷ ns) = h n ns

first_two : {T : Type 0} (f : List ℤ → T) → ((a b : ℤ) (ns : List ℤ) → f (a ∷ (b ∷ take 5 ns)) ≡ f (a ∷ (b ∷ ns))) → (ns : List ℤ) → f (take 7 ns) ≡ f ns
first_two f h [] = refl
first_two f h (a ∷ []) = refl
first_two f h (a ∷ (b ∷ ns)) = h a b ns

first_four : {T : Type 0} (f : List ℤ → T) → ((a b c d : ℤ) (ns : List ℤ) → f (a ∷ (b ∷ (c ∷ (d ∷ take 3 ns)))) ≡ f (a ∷ (b ∷ (c ∷ (d ∷ ns))))) → (ns : List ℤ) → f (take 7 ns) ≡ f ns
first_four f h [] = refl
first_four f h (a ∷ []) = refl
first_four f h (a ∷ (b ∷ [])) = refl
first_four f h (a ∷ (b ∷ (c ∷ []))) = refl
first_four f h (a ∷ (b ∷ (c ∷ (d ∷ ns)))) = h a b c d ns

first_seven : (a b c d : ℤ) (ns : List ℤ) → user_scaling (a ∷ (b ∷ (c ∷ (d ∷ take 3 ns)))) ≡ user_scaling (a ∷ (b ∷ (c ∷ (d ∷ ns))))
first_seven a b c d [] = refl
first_seven a b c d (t ∷ []) = refl
first_seven a b c d (t ∷ (l ∷ [])) = refl
first_seven a b c d (t ∷ (l ∷ (m ∷ ns))) = refl

-- what it means
pub same_meaning : (i : Instruction) → plots_pairs i ≡ false → (ns : List ℤ) → meaning i (take 7 ns) ≡ meaning i ns
same_meaning Initialize h ns = refl
same_meaning DefaultValues h ns = refl
same_meaning InputPoints h ns = ap sets (first_four scaling_points (λ a b c d ms. refl) ns)
same_meaning Scale h ns = ap sets (first_four user_scaling first_seven ns)
same_meaning Rotate h ns = ap sets (first_one rotated (λ n ms. refl) ns)
same_meaning InputWindow h ns = ap sets (first_four window_corners (λ a b c d ms. refl) ns)
same_meaning SelectPen h ns = ap sets (first_one selected_pen (λ n ms. refl) ns)
same_meaning PenWidth h ns = ap sets (first_two pen_width_setting (λ a b ms. refl) ns)
same_meaning PenColour h ns = ap sets (first_four pen_colour_setting (λ a b c d ms. refl) ns)
same_meaning PenUp h ns = absurd (cc h)
same_meaning PenDown h ns = absurd (cc h)
same_meaning PlotAbsolute h ns = absurd (cc h)
same_meaning PlotRelative h ns = absurd (cc h)
same_meaning EdgeAbsolute h ns = first_two (edges false) (λ a b ms. refl) ns
same_meaning EdgeRelative h ns = first_two (edges true) (λ a b ms. refl) ns
same_meaning Circle h ns = ap (asks DrawCircle) (first_two circled (λ a b ms. refl) ns)
same_meaning ArcAbsolute h ns = ap (asks (DrawArc false)) (first_four arced (λ a b c d ms. refl) ns)
same_meaning ArcRelative h ns = ap (asks (DrawArc true)) (first_four arced (λ a b c d ms. refl) ns)
same_meaning CharacterSize h ns = ap sets (first_two character_size (λ a b ms. refl) ns)
same_meaning Direction h ns = ap sets (first_two label_direction (λ a b ms. refl) ns)

-- whether a direction is along no axis
pub same_slant : (ns : List ℤ) → is_slanted (take 7 ns) ≡ is_slanted ns
same_slant ns = first_two is_slanted (λ a b ms. refl) ns
