-- What the sheets of a plot have of a list, joined in order, is all of it.
use Rattle.std.proofs.Common.{◌≡◌, ◌∙◌, ◌≤◌, ◌<◌, ◌+◌, ◌-◌, ℕ, zero, suc, refl, arith, sym, ap, ap₂, Bool, true, false, List, [], ◌∷◌, ◌++◌, length, take, drop, get_or, nat_eq, nat_lt, flat_map, append-nil, add-one}
use Rattle.std.specs.List.{range_with_len}
use Rattle.std.proofs.lemmas.Bool.{or_parts}
use Rattle.std.proofs.lemmas.Bool.Decides.{nat_tests}
use Rattle.std.proofs.lemmas.List.{drop_all, get_or_past, length-take, length_push, map-id, take-append-drop, take-take, take_all}
use Rattle.std.proofs.lemmas.List.Concat.{flat_map-append}
use Rattle.std.proofs.lemmas.List.FromFn.{map-range_with_len_more}
use Rattle.full_plot.specs.Drawings.{Ascend, of_sheet, sheet_count}
use Rattle.full_plot.specs.Laws.{AreSheets}
use Rattle.full_plot.specs.Sheets.{ends_with, has_more, last_end}

-- after more strokes
pub ascend_on : (start : ℕ) (ends : List ℕ) (m n : ℕ) → m ≤ n → Ascend start ends m → Ascend start ends n
ascend_on start [] m n l h = omega (arith, l, h)
ascend_on start (end ∷ ends) m n l h = (h.0, ascend_on end ends m n l h.1)

-- with one more end
ascend_ended : (start : ℕ) (ends : List ℕ) (count : ℕ) → Ascend start ends count → Ascend start (ends ++ count ∷ []) count
ascend_ended start [] count h = (h, omega arith)
ascend_ended start (end ∷ ends) count h = (h.0, ascend_ended end ends count h.1)

pub ascend_with : (more : Bool) (ends : List ℕ) (count : ℕ) → Ascend 0 ends count → Ascend 0 (ends_with more ends count) count
ascend_with true ends count h = ascend_ended 0 ends count h
ascend_with false ends count h = h

-- a sheet begins before it ends
begins : (before start : ℕ) (ends : List ℕ) (count : ℕ) → Ascend start ends count
    → get_or (start ∷ ends) before count ≤ get_or ends before count
begins zero start [] count h = h
begins zero start (end ∷ ends) count h = h.0
begins (suc k) start [] count h = omega arith
begins (suc k) start (end ∷ ends) count h = begins k end ends count h.1

-- and after the last sheet there are no more strokes
past : (k start : ℕ) (ends : List ℕ) (count : ℕ) → count ≤ last_end (start ∷ ends) → length ends ≤ k
    → count ≤ get_or (start ∷ ends) k count
past zero start [] count h l = h
past zero start (end ∷ ends) count h l = absurd (omega (arith, l))
past (suc k) start [] count h l = omega arith
past (suc k) start (end ∷ ends) count h l = past k end ends count h (omega (arith, l))

last_from_start : (ends : List ℕ) → last_end (0 ∷ ends) ≡ last_end ends
last_from_start [] = refl
last_from_start (end ∷ ends) = refl

-- after so many sheets: as many as ended, and one more if something was drawn after them
ended_by : (more : Bool) (k : ℕ) (ends : List ℕ) (count other : ℕ) → (more ≡ false → count ≤ last_end ends) → length (ends_with more ends other) ≤ k
    → count ≤ get_or (0 ∷ ends) k count
ended_by true k ends count other few l =
    let long : length (0 ∷ ends) ≤ k = omega (arith, l, length_push ends other) in
    let e : get_or (0 ∷ ends) k count ≡ count = get_or_past (0 ∷ ends) k count long in
    omega (arith, e)
ended_by false k ends count other few l = past k 0 ends count (rw (last_from_start ends) (few refl)) l

-- nothing is left of strokes and of images if nothing was drawn
none_left : (ends : List ℕ) (count : ℕ) (other_ends : List ℕ) (others : ℕ) → has_more ends count other_ends others ≡ false
    → (count ≤ last_end ends) × (others ≤ last_end other_ends)
none_left ends count other_ends others e =
    let both = or_parts (nat_lt (last_end ends) count) (nat_lt (last_end other_ends) others) e in
    let first : nat_lt (last_end ends) count ≡ false = both.0 in
    let second : nat_lt (last_end other_ends) others ≡ false = both.1 in
    (grind (arith, nat_tests), grind (arith, nat_tests))

-- the numbers from a on, and one more
range_more : (a n : ℕ) → range_with_len a (suc n) ≡ range_with_len a n ++ (a + n) ∷ []
range_more a n =
    ap (range_with_len a) (sym (add-one n)) ∙ sym (map-id (range_with_len a (n + 1))) ∙ map-range_with_len_more (λ (x : ℕ). x) a n (a + n) refl
    ∙ ap (λ (ns : List ℕ). ns ++ (a + n) ∷ []) (map-id (range_with_len a n))

module _ {A : Type 0} where
  -- a part and the rest
  parts_join : (a b : ℕ) (list : List A) → a ≤ b → take a list ++ drop a (take b list) ≡ take b list
  parts_join a b list l =
      ap (λ (first : List A). first ++ drop a (take b list)) (sym (take-take a b list l)) ∙ take-append-drop a (take b list)

  -- what the sheet with so many before it has
  this_sheet : (before sheet : ℕ) (list : List A) (ends : List ℕ) → sheet ≡ 1 + before
      → of_sheet list ends sheet ≡ drop (get_or (0 ∷ ends) before (length list)) (take (get_or ends before (length list)) list)
  this_sheet before sheet list ends e =
      let is_one : nat_eq sheet 0 ≡ false = grind (arith, nat_tests) in
      let place : sheet - 1 ≡ before = omega (arith, e) in
      rw (is_one, place) refl

  -- so many sheets
  first_join : (k : ℕ) (list : List A) (ends : List ℕ) → Ascend 0 ends (length list)
      → flat_map (of_sheet list ends) (range_with_len 1 k) ≡ take (get_or (0 ∷ ends) k (length list)) list
  first_join zero list ends h = refl
  first_join (suc k) list ends h =
      let sheet : ℕ → List A = of_sheet list ends in
      let count : ℕ = length list in
      ap (flat_map sheet) (range_more 1 k) ∙ flat_map-append sheet (range_with_len 1 k) ((1 + k) ∷ [])
      ∙ ap₂ (λ (first next : List A). first ++ next) (first_join k list ends h)
      (append-nil (sheet (1 + k)) ∙ this_sheet k (1 + k) list ends refl)
      ∙ parts_join (get_or (0 ∷ ends) k count) (get_or ends k count) list (begins k 0 ends count h)

  no_later : (sheet : ℕ) (list : List A) (ends : List ℕ) → 0 < sheet → length list ≤ get_or (0 ∷ ends) (sheet - 1) (length list)
      → of_sheet list ends sheet ≡ []
  no_later sheet list ends l far =
      let count : ℕ = length list in
      let before : ℕ = sheet - 1 in
      let sheets : List A = take (get_or ends before count) list in
      this_sheet before sheet list ends (omega (arith, l))
      ∙ drop_all (get_or (0 ∷ ends) before count) sheets (omega (arith, far, length-take (get_or ends before count) list))

  -- if nothing is left after so many sheets
  are_sheets_by : (list : List A) (ends : List ℕ) (sheets : ℕ) → Ascend 0 ends (length list)
      → ((k : ℕ) → sheets ≤ k → length list ≤ get_or (0 ∷ ends) k (length list)) → AreSheets list ends sheets
  are_sheets_by list ends sheets h end = record {
    joined = first_join sheets list ends h ∙ take_all _ list (end sheets (omega arith));
    later = λ (sheet : ℕ) (l : sheets < sheet). no_later sheet list ends (omega (arith, l)) (end (sheet - 1) (omega (arith, l)));
  }

-- the strokes of the sheets of a plot, and its images
pub strokes_are_sheets : {A : Type 0} (strokes : List A) (ends image_ends : List ℕ) (images : ℕ) → Ascend 0 ends (length strokes)
    → AreSheets strokes ends (sheet_count ends (length strokes) image_ends images)
strokes_are_sheets strokes ends image_ends images h =
    are_sheets_by strokes ends (sheet_count ends (length strokes) image_ends images) h (λ k l.
    ended_by (has_more ends (length strokes) image_ends images) k ends (length strokes) (length strokes)
    (λ e. (none_left ends (length strokes) image_ends images e).0) l)

pub images_are_sheets : {A : Type 0} (images : List A) (ends image_ends : List ℕ) (strokes : ℕ) → Ascend 0 image_ends (length images)
    → length image_ends ≡ length ends → AreSheets images image_ends (sheet_count ends strokes image_ends (length images))
images_are_sheets images ends image_ends strokes h same =
    are_sheets_by images image_ends (sheet_count ends strokes image_ends (length images)) h (λ k l.
    ended_by (has_more ends strokes image_ends (length images)) k image_ends (length images) strokes
    (λ e. (none_left ends strokes image_ends (length images) e).1)
    (same_length (has_more ends strokes image_ends (length images)) ends image_ends strokes k same l))
  where
    same_length : (more : Bool) (ends others : List ℕ) (count k : ℕ) → length others ≡ length ends → length (ends_with more ends count) ≤ k
        → length (ends_with more others count) ≤ k
    same_length true ends others count k e l = omega (arith, e, l, length_push ends count, length_push others count)
    same_length false ends others count k e l = omega (arith, e, l)
