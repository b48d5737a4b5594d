-- Rows of colours, written piece by piece.
use Rattle.std.proofs.Common.{◌≡◌, ℕ, ◌+◌, ◌-◌, ◌*◌, ◌<◌, ◌≤◌, List, ◌++◌, ◌∷◌, [], length, get_or, take, drop, replicate, flat_map, cond, true, false, nat_eq, ap, ◌∙◌, sym, arith, refl, suc, length-append}
use borrow.Rule.Slice.PartMut.{put_mid}
use Rattle.std.proofs.Math.Seq.{take-add}
use Rattle.std.proofs.lemmas.Grind.{flat_map-append}
use Rattle.std.proofs.lemmas.List.{length-take-le, length-drop}
use Rattle.picture_out.specs.declared.inks.Ink.{Ink}
use Rattle.picture_out.specs.Inks.{colour_bytes, ink_at, paper, cell_colour}
use Rattle.picture_out.proofs.Tables.{placed}

pub colour_size : (inks : List Ink) (cell : ℕ) → length (cell_colour inks cell) ≡ 3
colour_size inks cell = elim (nat_eq cell 0) as (λ b. length (cond b (colour_bytes paper) (colour_bytes (ink_at inks cell))) ≡ 3) [ true ↦ refl | false ↦ refl ]

pub threes : {X : Type 0} (f : X → List ℕ) (xs : List X) → ((x : X) → length (f x) ≡ 3) → length (flat_map f xs) ≡ 3 * length xs
threes f [] h = omega arith
threes f (x ∷ xs) h = omega (arith, h x, threes f xs h, length-append (f x) (flat_map f xs))

-- one colour for each cell of a run
pub one_colour : (f : ℕ → List ℕ) (c : List ℕ) (xs ys : List ℕ) → length xs ≡ length ys → ((k : ℕ) → k < length ys → f (get_or ys k 0) ≡ c) → flat_map (λ _. c) xs ≡ flat_map f ys
one_colour f c [] [] size h = refl
one_colour f c [] (y ∷ ys) size h = absurd (omega (arith, size))
one_colour f c (x ∷ xs) [] size h = absurd (omega (arith, size))
one_colour f c (x ∷ xs) (y ∷ ys) size h =
    ap (λ (z : List ℕ). c ++ z) (one_colour f c xs ys (omega (arith, size)) (λ k lt. h (suc k) (omega (arith, lt))))
    ∙ ap (λ (z : List ℕ). z ++ flat_map f ys) (sym (h 0 (omega arith)))

-- cells that are 0 are white
pub white : (inks : List Ink) (cells : List ℕ) (n : ℕ) → n ≡ 3 * length cells → ((k : ℕ) → k < length cells → get_or cells k 0 ≡ 0) → replicate {A = ℕ} n 255 ≡ flat_map (cell_colour inks) cells
white inks [] n size h = ap (λ (m : ℕ). replicate {A = ℕ} m 255) size
white inks (x ∷ xs) n size h =
    let more : n ≡ suc (suc (suc (3 * length xs))) = omega (arith, size) in
    ap (λ (m : ℕ). replicate {A = ℕ} m 255) more
    ∙ ap (λ (z : List ℕ). 255 ∷ 255 ∷ 255 ∷ z) (white inks xs (3 * length xs) refl (λ k lt. h (suc k) (omega (arith, lt))))
    ∙ ap (λ (cell : ℕ). cell_colour inks cell ++ flat_map (cell_colour inks) xs) (sym (h 0 (omega arith)))

-- the colours of the cells up to `column`, and then those up to `next`
pub cells_more : (f : ℕ → List ℕ) (cells out old part : List ℕ) (column next a b : ℕ) → ((cell : ℕ) → length (f cell) ≡ 3) → a ≡ 3 * column → b ≡ 3 * next → column ≤ next → next ≤ length cells → out ≡ flat_map f (take column cells) ++ drop a old → part ≡ flat_map f (take (next - column) (drop column cells)) → put_mid a (b - a) out part ≡ flat_map f (take next cells) ++ drop b old
cells_more f cells out old part column next a b three is_a is_b le within h e =
    let size : length (flat_map f (take column cells)) ≡ a = threes f (take column cells) three ∙ omega (arith, length-take-le column cells (omega arith)) in
    let joined : flat_map f (take column cells) ++ flat_map f (take (next - column) (drop column cells)) ≡ flat_map f (take (column + (next - column)) cells) = sym (flat_map-append f (take column cells) (take (next - column) (drop column cells))) ∙ ap (flat_map f) (sym (take-add column (next - column) cells)) in
    let there : column + (next - column) ≡ next = omega arith in
    placed (flat_map f (take column cells)) out old part a (b - a) b (omega arith) size h
    ∙ ap (λ (z : List ℕ). (flat_map f (take column cells) ++ z) ++ drop b old) e
    ∙ ap (λ (z : List ℕ). z ++ drop b old) joined
    ∙ ap (λ (n : ℕ). flat_map f (take n cells) ++ drop b old) there

-- what is written over a list has its length
pub filled_size : (f : ℕ → List ℕ) (cells out old : List ℕ) (column a : ℕ) → ((cell : ℕ) → length (f cell) ≡ 3) → a ≡ 3 * column → column ≤ length cells → a ≤ length old → out ≡ flat_map f (take column cells) ++ drop a old → length out ≡ length old
filled_size f cells out old column a three is_a within room h =
    let front : length (flat_map f (take column cells)) ≡ 3 * length (take column cells) = threes f (take column cells) three in
    omega (arith, ap length h, length-append (flat_map f (take column cells)) (drop a old), front, length-take-le column cells within, length-drop a old)
