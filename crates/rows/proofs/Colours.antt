-- Palettes and numbers of one stroke more.
use Rattle.std.proofs.Common.{◌≡◌, ℕ, ◌+◌, ◌-◌, ◌<◌, ◌≤◌, List, [], ◌∷◌, ◌++◌, Bool, true, false, cond, length, length-append, get_or, take, map, fold, refl, sym, ap, ◌∙◌, subst, arith, inl, inr}
use Rattle.std.specs.List.{list_any}
use Rattle.std.specs.Str.{bytes_eq}
use Rattle.std.proofs.Math.ListN.{get_or-append}
use Rattle.std.proofs.lemmas.Bool.{cases_lt}
use Rattle.std.proofs.lemmas.List.{get_or-append_right, get_or-take, get_or_read, length-take-le, map-append, take_more}
use Rattle.std.proofs.lemmas.List.Elements.{All-append, filter-append}
use Rattle.std.proofs.lemmas.List.Sums.{fold-append}
use Rattle.plot_page.specs.Segments.{Segment}
use Rattle.plot_page.specs.Pens.{has_pen}
use Rattle.plot_page.specs.declared.pens.PenSet.{PenSet}
use Rattle.stroke_raster.specs.Boxes.{selected}
use Rattle.picture_out.specs.Inks.{colour_bytes, paper}
use Rattle.rows.specs.Palettes.{AreNumbers, IsNumbered, stroke_colour, colours_used, with_colour}

-- the palette of one stroke more
pub palette_more : (pens : PenSet) (ss : List Segment) (i : ℕ) (s : Segment) → i < length ss → s ≡ get_or ss i s
    → colours_used pens (take (i + 1) ss) ≡ cond (has_pen pens s.pen) (with_colour (colours_used pens (take i ss)) (stroke_colour s)) (colours_used pens (take i ss))
palette_more pens ss i s lt is =
    let front = take i ss in
    let white = colour_bytes paper ∷ [] in
    let old = colours_used pens front in
    let all : take (i + 1) ss ≡ front ++ s ∷ [] = take_more ss i s lt ∙ ap (λ (t : Segment). front ++ t ∷ []) (sym is) in
    let chosen : selected pens (take (i + 1) ss) ≡ selected pens front ++ selected pens (s ∷ []) = ap (selected pens) all ∙ filter-append (λ (t : Segment). has_pen pens t.pen) front (s ∷ []) in
    let colours : map stroke_colour (selected pens (take (i + 1) ss)) ≡ map stroke_colour (selected pens front) ++ map stroke_colour (selected pens (s ∷ [])) =
    ap (map stroke_colour) chosen ∙ map-append stroke_colour (selected pens front) (selected pens (s ∷ [])) in
    ap (fold with_colour white) colours
    ∙ fold-append with_colour white (map stroke_colour (selected pens front)) (map stroke_colour (selected pens (s ∷ [])))
    ∙ elim (has_pen pens s.pen) as (λ b. fold with_colour old (map stroke_colour (cond b (s ∷ []) [])) ≡ cond b (with_colour old (stroke_colour s)) old) [ true ↦ refl | false ↦ refl ]

-- a palette only grows
grown_by : (old : List (List ℕ)) (colour : List ℕ) (b : Bool) (k : ℕ) → k < length old → get_or (cond b old (old ++ colour ∷ [])) k [] ≡ get_or old k []
grown_by old colour true k lt = refl
grown_by old colour false k lt = get_or-append old (colour ∷ []) [] k lt

longer_by : (old : List (List ℕ)) (colour : List ℕ) (b : Bool) → length old ≤ length (cond b old (old ++ colour ∷ []))
longer_by old colour true = omega arith
longer_by old colour false = omega (arith, length-append old (colour ∷ []))

pub record Grows (old new : List (List ℕ)) : Type 0 where
  pub longer : length old ≤ length new
  pub same : (k : ℕ) → k < length old → get_or new k [] ≡ get_or old k []

grows_by : (old : List (List ℕ)) (colour : List ℕ) (b : Bool) → Grows old (cond b (with_colour old colour) old)
grows_by old colour true = record {
  longer = longer_by old colour (list_any (bytes_eq colour) old);
  same = λ k lt. grown_by old colour (list_any (bytes_eq colour) old) k lt;
}
grows_by old colour false = record { longer = omega arith; same = λ k lt. refl }

pub grows : (pens : PenSet) (s : Segment) (old new : List (List ℕ)) (n : ℕ) → IsNumbered pens s old new n → Grows old new
grows pens s old new n h = subst (Grows old) (sym h.colours) (grows_by old (stroke_colour s) (has_pen pens s.pen))

-- an item, whatever stands for one that is not there
item : (ss : List Segment) (i : ℕ) (s t : Segment) → i < length ss → s ≡ get_or ss i s → get_or ss i t ≡ s
item ss i s t lt is = sym (get_or_read ss i s lt is t)

-- the numbers of one stroke more
pub numbers_more : (pens : PenSet) (ss : List Segment) (i : ℕ) (s : Segment) (old new : List (List ℕ)) (numbers : List ℕ) (n : ℕ) → i < length ss → s ≡ get_or ss i s
    → AreNumbers pens (take i ss) old numbers → IsNumbered pens s old new n → AreNumbers pens (take (i + 1) ss) new (numbers ++ n ∷ [])
numbers_more pens ss i s old new numbers n lt is before one =
    let more = grows pens s old new n one in
    let few : length (take i ss) ≡ i = length-take-le i ss (omega arith) in
    let size : length numbers ≡ i = before.size ∙ few in
    let all : length (take (i + 1) ss) ≡ i + 1 = length-take-le (i + 1) ss (omega arith) in
    record {
      size = omega (arith, size, all, length-append numbers (n ∷ []));
      within = All-append (λ (m : ℕ). m < length new) numbers (n ∷ [])
          (λ k d inside. omega (arith, before.within k d inside, more.longer))
          (λ k d inside. elim (cases_lt k 1) as (λ _. get_or (n ∷ []) k d < length new) [
            | inl small ↦ (let first : 0 ≡ k = omega (arith, small) in subst (λ (j : ℕ). get_or (n ∷ []) j d < length new) first one.within)
            | inr large ↦ absurd (omega (arith, large, inside))
          ]);
      named = λ k t inside has.
          let upto : k < i + 1 = omega (arith, inside, all) in
          let there : get_or (take (i + 1) ss) k t ≡ get_or ss k t = get_or-take (i + 1) ss k t upto in
          elim (cases_lt k i) as (λ _. get_or new (get_or (numbers ++ n ∷ []) k 0) [] ≡ stroke_colour (get_or (take (i + 1) ss) k t)) [
            | inl lt' ↦ (let kept : get_or (numbers ++ n ∷ []) k 0 ≡ get_or numbers k 0 = get_or-append numbers (n ∷ []) 0 k (omega (arith, lt', size)) in
                let here : get_or (take i ss) k t ≡ get_or (take (i + 1) ss) k t = get_or-take i ss k t lt' ∙ sym there in
                let has' : has_pen pens (get_or (take i ss) k t).pen ≡ true = ap (λ (u : Segment). has_pen pens u.pen) here ∙ has in
                ap (λ (m : ℕ). get_or new m []) kept
                ∙ more.same (get_or numbers k 0) (before.within k 0 (omega (arith, lt', size)))
                ∙ before.named k t (omega (arith, lt', few)) has'
                ∙ ap stroke_colour here)
            | inr le ↦ (let last : k ≡ i = omega (arith, le, upto) in
                let mine : get_or (numbers ++ n ∷ []) k 0 ≡ n = get_or-append_right numbers (n ∷ []) i k 0 size le ∙ ap (λ (m : ℕ). get_or (n ∷ []) m 0) (let none : k - i ≡ 0 = omega arith in none) in
                let here : get_or (take (i + 1) ss) k t ≡ s = there ∙ ap (λ (m : ℕ). get_or ss m t) last ∙ item ss i s t lt is in
                let has' : has_pen pens s.pen ≡ true = ap (λ (u : Segment). has_pen pens u.pen) (sym here) ∙ has in
                ap (λ (m : ℕ). get_or new m []) mine ∙ one.named has' ∙ ap stroke_colour (sym here))
          ];
    }
