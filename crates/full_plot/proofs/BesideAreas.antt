-- No area goes on at a number of strokes at which none did: later areas begin there or after it.
use Rattle.std.proofs.Common.{◌≤◌, ◌<◌, ℕ, Bool, true, false, inl, inr, arith, List, [], ◌∷◌, ◌++◌, get_or, nat_lt, All}
use Rattle.std.proofs.lemmas.Bool.{cases_Bool}
use Rattle.std.proofs.lemmas.List.Elements.{All-append, All-cons, All-nil}
use Rattle.areas.specs.Shapes.{NoneGoesOn}
use Rattle.areas.specs.declared.area.Area.{Area}
use Rattle.polygons.specs.declared.lines.Rule.{Rule}
use Rattle.full_plot.specs.Fills.{area_of}
use Rattle.full_plot.specs.Drawings.{Ascend}
use Rattle.full_plot.specs.Sheets.{ends_with}
use Rattle.full_plot.proofs.AreasInOrder.{AreUpTo, are_within}

-- an area that goes on at a number of strokes if it is before the area's last edge
abbrev EndsBy : ℕ → Area → Type 0
EndsBy n a = a.first < n → a.end ≤ n

-- none goes on at a number of strokes up to which all are
pub none_after_all : (areas : List Area) (count : ℕ) → AreUpTo 0 areas count → NoneGoesOn count areas
none_after_all areas count h = λ n d within less. are_within 0 areas count h n d within

-- nor with an area of later strokes
pub none_with_later : (n : ℕ) (areas : List Area) (first end : ℕ) (rule : Rule) → n ≤ first → NoneGoesOn n areas
    → NoneGoesOn n (areas ++ area_of first end rule)
none_with_later n areas first end rule before h = elim (cases_Bool (nat_lt first end)) [
  | inl t ↦ (let a : Area = record { first = first; end = end; rule = rule } in
      rw t (All-append (EndsBy n) areas (a ∷ []) h
      (All-cons (EndsBy n) a [] (λ (less : first < n). absurd (omega (arith, before, less))) (All-nil (EndsBy n)))))
  | inr t ↦ rw t (All-append (EndsBy n) areas [] h (All-nil (EndsBy n)))
]

-- no area goes on where a sheet ends
abbrev pub NoneAtEnds : List ℕ → List Area → Type 0
NoneAtEnds ends areas = All (λ (end : ℕ). NoneGoesOn end areas) ends

-- with one more end, up to which all areas are
pub none_at_next : (ends : List ℕ) (areas : List Area) (count : ℕ) → AreUpTo 0 areas count → NoneAtEnds ends areas
    → NoneAtEnds (ends ++ count ∷ []) areas
none_at_next ends areas count order h =
    let P : ℕ → Type 0 = λ (end : ℕ). NoneGoesOn end areas in
    All-append P ends (count ∷ []) h (All-cons P count [] (none_after_all areas count order) (All-nil P))

pub none_at_next_end : (more : Bool) (ends : List ℕ) (areas : List Area) (count : ℕ) → AreUpTo 0 areas count → NoneAtEnds ends areas
    → NoneAtEnds (ends_with more ends count) areas
none_at_next_end true ends areas count order h = none_at_next ends areas count order h
none_at_next_end false ends areas count order h = h

-- ends that ascend are no greater than what they ascend to
starts_within : (start : ℕ) (ends : List ℕ) (count : ℕ) → Ascend start ends count → start ≤ count
starts_within start [] count h = h
starts_within start (end ∷ ends) count h = omega (arith, h.0, starts_within end ends count h.1)

ends_within : (start : ℕ) (ends : List ℕ) (count : ℕ) → Ascend start ends count → All (λ (end : ℕ). end ≤ count) ends
ends_within start [] count h = All-nil (λ (end : ℕ). end ≤ count)
ends_within start (end ∷ ends) count h =
    All-cons (λ (n : ℕ). n ≤ count) end ends (starts_within end ends count h.1) (ends_within end ends count h.1)

-- with an area of strokes after the ends
pub none_at_ends_with_later : (ends : List ℕ) (areas : List Area) (first end : ℕ) (rule : Rule) → Ascend 0 ends first
    → NoneAtEnds ends areas → NoneAtEnds ends (areas ++ area_of first end rule)
none_at_ends_with_later ends areas first end rule order h =
    λ n d within. none_with_later (get_or ends n d) areas first end rule (ends_within 0 ends first order n d within) (h n d within)
