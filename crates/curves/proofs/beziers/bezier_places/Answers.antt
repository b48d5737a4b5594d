use Rattle.std.proofs.Common.{◌≡◌, ℕ, ◌+◌, ◌^◌, List, [], ◌∷◌, ◌++◌, map, ap₂, sym, ◌∙◌, arith}
use Rattle.std.specs.List.{All, range_with_len}
use Rattle.std.proofs.lemmas.List.Elements.{All-push}
use Rattle.std.proofs.lemmas.List.FromFn.{map-range_with_len_more}
use Rattle.directions.specs.Bounds.{IsWithin}
use Rattle.exact.specs.declared.spot.Spot.{Spot}
use Rattle.curves.specs.Beziers.{curve_place}
use Rattle.curves.proofs.beziers.bezier_places.Goals as goal

one_more : (f : ℕ → Spot) (k : ℕ) (xs ys : List Spot) (s : Spot)
    → xs ≡ map f (range_with_len 1 k) → s ≡ f (k + 1) → ys ≡ xs ++ (s ∷ []) → ys ≡ map f (range_with_len 1 (k + 1))
one_more f k xs ys s e g h =
    h ∙ ap₂ (λ (l : List Spot) (r : Spot). l ++ (r ∷ [])) e g ∙ sym (map-range_with_len_more f 1 k (k + 1) (omega arith))

one_more_within : (P : Spot → Type 0) (xs ys : List Spot) (s : Spot) → All P xs → P s → ys ≡ xs ++ (s ∷ []) → All P ys
one_more_within P xs ys s h p e = rw e (All-push P xs s h p)

pub loop-k-preserved : goal.loop-k-preserved
loop-k-preserved c =
    let n = c.chords-chords.result in
    let f : ℕ → Spot = λ j. curve_place n j c.args.p0 c.args.p1 c.args.p2 c.args.p3 in
    record {
      value = one_more f c.loop-k.k c.loop-k.places.items c.push.new.self.items c.curve_place.result
          c.loop-k.invariant.value c.curve_place.ensures.value c.in_ok-push.ensures.items;
      within = one_more_within (IsWithin (2 ^ 27)) c.loop-k.places.items c.push.new.self.items c.curve_place.result
          c.loop-k.invariant.within c.curve_place.ensures.within c.in_ok-push.ensures.items;
    }
