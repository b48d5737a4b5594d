-- What is accepted is accepted in a wider range of places.
use Rattle.std.proofs.Common.{◌≡◌, ◌≤◌, ℕ, ◌+◌, Bool, true, ◌&&◌, inl, inr, List, [], ◌∷◌, length, nat_abs, nat_le, nat_lt, None, refl, sym, arith}
use Rattle.std.proofs.lemmas.Bool.{and_parts, cases_Bool}
use Rattle.std.proofs.lemmas.Bool.Decides.{nat_tests}
use Rattle.std.proofs.lemmas.Option.{none-some}
use Rattle.std.specs.List.{list_all}
use Rattle.exact.specs.declared.spot.Spot.{Spot}
use Rattle.hpgl_text.specs.Shapes.{ItemShape}
use Rattle.plot_page.specs.declared.page.Page.{Page}
use Rattle.plot_settings.specs.Meanings.{Step, steps_of}
use Rattle.hpgl_plot.specs.Paths.{path}
use Rattle.hpgl_plot.specs.States.{state_of}
use Rattle.hpgl_plot.specs.Strokes.{are_in_range, history, is_in_range, refusal_after, stay_in_range, strokes_from}
use Rattle.full_plot.specs.Laws.{CoreAcceptsNoMore}

both : (a b : Bool) → a ≡ true → b ≡ true → (a && b) ≡ true
both a b p q = rw (p, q) refl

module _ (a b : ℕ) (wider : a ≤ b) where
  number_wider : (n : ℕ) → nat_le n a ≡ true → nat_le n b ≡ true
  number_wider n h = grind (arith, nat_tests)

  place_wider : (q : Spot) → is_in_range a q ≡ true → is_in_range b q ≡ true
  place_wider q h =
      let p = and_parts (nat_le (nat_abs q.x) a) (nat_le (nat_abs q.y) a) h in
      both (nat_le (nat_abs q.x) b) (nat_le (nat_abs q.y) b) (number_wider (nat_abs q.x) p.0) (number_wider (nat_abs q.y) p.1)

  places_wider : (qs : List Spot) → are_in_range a qs ≡ true → are_in_range b qs ≡ true
  places_wider [] h = refl
  places_wider (q ∷ qs) h =
      let p = and_parts (is_in_range a q) (are_in_range a qs) h in
      both (is_in_range b q) (are_in_range b qs) (place_wider q p.0) (places_wider qs p.1)

  lines_wider : (ls : List (List Spot)) → list_all (are_in_range a) ls ≡ true → list_all (are_in_range b) ls ≡ true
  lines_wider [] h = refl
  lines_wider (l ∷ ls) h =
      let p = and_parts (are_in_range a l) (list_all (are_in_range a) ls) h in
      both (are_in_range b l) (list_all (are_in_range b) ls) (places_wider l p.0) (lines_wider ls p.1)

  steps_wider : (page : Page) (before ss : List Step) → stay_in_range a page before ss ≡ true → stay_in_range b page before ss ≡ true
  steps_wider page before [] h = refl
  steps_wider page before (s ∷ ss) h =
      let ls = (path page (state_of page before) s).lines in
      let p = and_parts (list_all (are_in_range a) ls) (stay_in_range a page (s ∷ before) ss) h in
      both (list_all (are_in_range b) ls) (stay_in_range b page (s ∷ before) ss) (lines_wider ls p.0) (steps_wider page (s ∷ before) ss p.1)

  items_wider : (page : Page) (before : List Step) (count : ℕ) (items : List ItemShape)
      → refusal_after a page before count items ≡ None → refusal_after b page before count items ≡ None
  items_wider page before count [] h = refl
  items_wider page before count (i ∷ more) h =
      let ss = steps_of i in
      let total = count + length (strokes_from page before ss) in
      elim (cases_Bool (stay_in_range a page before ss)) [
        | inr f ↦ absurd (none-some _ (sym (rw f at h)))
        | inl t ↦ elim (cases_Bool (nat_lt 4194304 total)) [
          | inl u ↦ absurd (none-some _ (sym (rw (t, u) at h)))
          | inr u ↦ (let s = steps_wider page before ss t in rw (s, u) (items_wider page (history before ss) total more (rw (t, u) at h)))
        ]
      ]

pub accepts_no_more : CoreAcceptsNoMore
accepts_no_more page before items h = items_wider 1048576 134217712 (omega arith) page before 0 items h
