-- Further instructions other than UL, SD and AD look at their first seven numbers only.
use Rattle.std.proofs.Common.{◌≡◌, ◌∙◌, ◌≤◌, nat_le, inl, inr, length, length-take, take_all, take-take, ap, refl, sym, arith, ℕ, min, ℤ, List, [], ◌∷◌, take}
use Rattle.std.specs.Prelude.{if◌then◌else◌}
use Rattle.std.proofs.lemmas.Bool.{cases_Bool}
use Rattle.std.proofs.lemmas.Bool.Decides.{nat_tests}
use Rattle.hpgl_text.specs.declared.further.Further.{Further}
use Rattle.hpgl_text.specs.declared.further.Further.TheVariants as of
use Rattle.full_settings.specs.FurtherRequests.{further_request, has_many}

first_one : {T : Type 0} (f : List ℤ → T) → ((n : ℤ) (ns : List ℤ) → f (n ∷ take 6 ns) ≡ f (n ∷ ns)) → (ns : List ℤ) → f (take 7 ns) ≡ f ns
first_one f h [] = refl
first_one f h (n ∷ ns) = h n ns

first_two : {T : Type 0} (f : List ℤ → T) → ((a b : ℤ) (ns : List ℤ) → f (a ∷ (b ∷ take 5 ns)) ≡ f (a ∷ (b ∷ ns))) → (ns : List ℤ) → f (take 7 ns) ≡ f ns
first_two f h [] = refl
first_two f h (a ∷ []) = refl
first_two f h (a ∷ (b ∷ ns)) = h a b ns

first_three : {T : Type 0} (f : List ℤ → T) → ((a b c : ℤ) (ns : List ℤ) → f (a ∷ (b ∷ (c ∷ take 4 ns))) ≡ f (a ∷ (b ∷ (c ∷ ns)))) → (ns : List ℤ) → f (take 7 ns) ≡ f ns
first_three f h [] = refl
first_three f h (a ∷ []) = refl
first_three f h (a ∷ (b ∷ [])) = refl
first_three f h (a ∷ (b ∷ (c ∷ ns))) = h a b c ns

first_four : {T : Type 0} (f : List ℤ → T) → ((a b c d : ℤ) (ns : List ℤ) → f (a ∷ (b ∷ (c ∷ (d ∷ take 3 ns)))) ≡ f (a ∷ (b ∷ (c ∷ (d ∷ ns))))) → (ns : List ℤ) → f (take 7 ns) ≡ f ns
first_four f h [] = refl
first_four f h (a ∷ []) = refl
first_four f h (a ∷ (b ∷ [])) = refl
first_four f h (a ∷ (b ∷ (c ∷ []))) = refl
first_four f h (a ∷ (b ∷ (c ∷ (d ∷ ns)))) = h a b c d ns

first_five : {T : Type 0} (f : List ℤ → T) → ((a b c d e : ℤ) (ns : List ℤ) → f (a ∷ (b ∷ (c ∷ (d ∷ (e ∷ take 2 ns))))) ≡ f (a ∷ (b ∷ (c ∷ (d ∷ (e ∷ ns))))))
    → (ns : List ℤ) → f (take 7 ns) ≡ f ns
first_five f h [] = refl
first_five f h (a ∷ []) = refl
first_five f h (a ∷ (b ∷ [])) = refl
first_five f h (a ∷ (b ∷ (c ∷ []))) = refl
first_five f h (a ∷ (b ∷ (c ∷ (d ∷ [])))) = refl
first_five f h (a ∷ (b ∷ (c ∷ (d ∷ (e ∷ ns))))) = h a b c d e ns

first_six : {T : Type 0} (f : List ℤ → T) → ((a b c d e g : ℤ) (ns : List ℤ) → f (a ∷ (b ∷ (c ∷ (d ∷ (e ∷ (g ∷ take 1 ns)))))) ≡ f (a ∷ (b ∷ (c ∷ (d ∷ (e ∷ (g ∷ ns)))))))
    → (ns : List ℤ) → f (take 7 ns) ≡ f ns
first_six f h [] = refl
first_six f h (a ∷ []) = refl
first_six f h (a ∷ (b ∷ [])) = refl
first_six f h (a ∷ (b ∷ (c ∷ []))) = refl
first_six f h (a ∷ (b ∷ (c ∷ (d ∷ [])))) = refl
first_six f h (a ∷ (b ∷ (c ∷ (d ∷ (e ∷ []))))) = refl
first_six f h (a ∷ (b ∷ (c ∷ (d ∷ (e ∷ (g ∷ ns)))))) = h a b c d e g ns

pub same_request : (f : Further) (ns : List ℤ) → further_request f (if has_many f then ns else take 7 ns) ≡ further_request f ns
same_request of.LineType ns = first_three (further_request of.LineType) (λ _ _ _ _. refl) ns
same_request of.WidthUnit ns = first_one (further_request of.WidthUnit) (λ _ _. refl) ns
same_request of.PenThickness ns = first_one (further_request of.PenThickness) (λ _ _. refl) ns
same_request of.TickLength ns = first_two (further_request of.TickLength) (λ _ _ _. refl) ns
same_request of.RelativePoints ns = first_four (further_request of.RelativePoints) (λ _ _ _ _ _. refl) ns
same_request of.ColourRange ns = first_six (further_request of.ColourRange) (λ _ _ _ _ _ _ _. refl) ns
same_request of.CharacterPlot ns = first_two (further_request of.CharacterPlot) (λ _ _ _. refl) ns
same_request of.RelativeSize ns = first_two (further_request of.RelativeSize) (λ _ _ _. refl) ns
same_request of.StandardSet ns = first_one (further_request of.StandardSet) (λ _ _. refl) ns
same_request of.AlternateSet ns = first_one (further_request of.AlternateSet) (λ _ _. refl) ns
same_request of.Slant ns = first_one (further_request of.Slant) (λ _ _. refl) ns
same_request of.RelativeDirection ns = first_two (further_request of.RelativeDirection) (λ _ _ _. refl) ns
same_request of.TextPath ns = first_two (further_request of.TextPath) (λ _ _ _. refl) ns
same_request of.LabelOrigin ns = first_one (further_request of.LabelOrigin) (λ _ _. refl) ns
same_request of.ExtraSpace ns = first_two (further_request of.ExtraSpace) (λ _ _ _. refl) ns
same_request of.ArcAbsoluteThreePoint ns = first_five (further_request of.ArcAbsoluteThreePoint) (λ _ _ _ _ _ _. refl) ns
same_request of.ArcRelativeThreePoint ns = first_five (further_request of.ArcRelativeThreePoint) (λ _ _ _ _ _ _. refl) ns
same_request of.PolygonMode ns = first_one (further_request of.PolygonMode) (λ _ _. refl) ns
same_request of.FillPolygon ns = first_one (further_request of.FillPolygon) (λ _ _. refl) ns
same_request of.FillType ns = first_three (further_request of.FillType) (λ _ _ _ _. refl) ns
same_request of.AnchorCorner ns = first_two (further_request of.AnchorCorner) (λ _ _ _. refl) ns
same_request of.FillAbsolute ns = first_two (further_request of.FillAbsolute) (λ _ _ _. refl) ns
same_request of.FillRelative ns = first_two (further_request of.FillRelative) (λ _ _ _. refl) ns
same_request of.EdgeWedge ns = first_four (further_request of.EdgeWedge) (λ _ _ _ _ _. refl) ns
same_request of.FillWedge ns = first_four (further_request of.FillWedge) (λ _ _ _ _ _. refl) ns
same_request of.ChordTolerance ns = first_one (further_request of.ChordTolerance) (λ _ _. refl) ns
same_request of.Transparency ns = first_one (further_request of.Transparency) (λ _ _. refl) ns
same_request of.ScreenedVectors ns = first_two (further_request of.ScreenedVectors) (λ _ _ _. refl) ns
same_request f ns = refl

-- the first of the leading numbers are the first of all
pub first_of_leading : (count most : ℕ) (list ns : List ℤ) → most ≤ 7 → take count list ≡ take 7 ns → take (min count most) list ≡ take most ns
first_of_leading count most list ns h e = elim (cases_Bool (nat_le count most)) [
  | inl t ↦ (let k : count ≤ most = grind (arith, nat_tests) in
      let m : min count most ≡ count = omega arith in
      let few : length (take 7 ns) ≤ most = rw (sym e) (omega (arith, length-take count list)) in
      ap (λ (n : ℕ). take n list) m ∙ e ∙ sym (take_all most (take 7 ns) few) ∙ take-take most 7 ns h)
  | inr t ↦ (let k : most ≤ count = grind (arith, nat_tests) in
      let m : min count most ≡ most = omega arith in
      ap (λ (n : ℕ). take n list) m ∙ sym (take-take most count list k) ∙ ap (λ (l : List ℤ). take most l) e ∙ take-take most 7 ns h)
]
