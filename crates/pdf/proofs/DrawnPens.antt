-- The pens that draw a stroke.
use Rattle.std.proofs.Common.{◌≡◌, ℕ, zero, suc, ◌+◌, ◌<◌, ◌≤◌, get_or, List, [], ◌∷◌, ◌++◌, Bool, true, false, cond, ◌&&◌, ◌||◌, ◌==◌, length, filter, take, refl, ap, sym, ◌∙◌, arith}
use Rattle.std.specs.List.{range_with_len}
use Rattle.std.proofs.lemmas.List.{take_more}
use Rattle.std.proofs.lemmas.List.Elements.{filter-append}
use Rattle.plot_page.specs.Segments.{Segment}
use Rattle.plot_page.specs.declared.pens.PenSet.{PenSet}
use Rattle.stroke_runs.specs.Drawn.{is_drawn}
use Rattle.pdf.specs.Documents.{has_drawn}

or_none : (b : Bool) → (b || false) ≡ b
or_none true = refl
or_none false = refl

or_moved : (a b c : Bool) → (a || (b || c)) ≡ ((a || b) || c)
or_moved true b c = refl
or_moved false b c = refl

-- one stroke more
pub drawn_more : (pens : PenSet) (xs : List Segment) (s : Segment) (pen : ℕ) → has_drawn pens (xs ++ s ∷ []) pen ≡ (has_drawn pens xs pen || (is_drawn pens s && (pen == s.pen)))
drawn_more pens [] s pen = or_none (is_drawn pens s && (pen == s.pen))
drawn_more pens (x ∷ xs) s pen =
    ap (λ (b : Bool). (is_drawn pens x && (pen == x.pen)) || b) (drawn_more pens xs s pen)
    ∙ or_moved (is_drawn pens x && (pen == x.pen)) (has_drawn pens xs pen) (is_drawn pens s && (pen == s.pen))

-- tests that agree below a number keep the same numbers below it
pub filter_below : (f g : ℕ → Bool) (most a n : ℕ) → ((k : ℕ) → k < most → f k ≡ g k) → a + n ≤ most → filter f (range_with_len a n) ≡ filter g (range_with_len a n)
filter_below f g most a zero same within = refl
filter_below f g most a (suc n) same within =
    ap (λ (b : Bool). cond b (a ∷ filter f (range_with_len (a + 1) n)) (filter f (range_with_len (a + 1) n))) (same a (omega (arith, within)))
    ∙ ap (λ (zs : List ℕ). cond (g a) (a ∷ zs) zs) (filter_below f g most (a + 1) n same (omega (arith, within)))

range_more : (a n : ℕ) → range_with_len a (suc n) ≡ range_with_len a n ++ (a + n) ∷ []
range_more a zero = ap (λ (k : ℕ). k ∷ []) (let e : a ≡ a + 0 = omega arith in e)
range_more a (suc n) =
    ap (λ (zs : List ℕ). a ∷ zs) (range_more (a + 1) n)
    ∙ ap (λ (k : ℕ). a ∷ (range_with_len (a + 1) n ++ k ∷ [])) (let e : a + 1 + n ≡ a + suc n = omega arith in e)

-- the next number is kept, or not
pub filter_next : (f : ℕ → Bool) (n : ℕ) → filter f (range_with_len 0 (n + 1)) ≡ filter f (range_with_len 0 n) ++ cond (f n) (n ∷ []) []
filter_next f n =
    ap (λ (k : ℕ). filter f (range_with_len 0 k)) (let e : n + 1 ≡ suc n = omega arith in e) ∙ ap (filter f) (range_more 0 n)
    ∙ filter-append f (range_with_len 0 n) ((0 + n) ∷ [])
    ∙ ap (λ (k : ℕ). filter f (range_with_len 0 n) ++ cond (f k) (k ∷ []) []) (let e : 0 + n ≡ n = omega arith in e)

-- the strokes up to the next one
pub take_next : (xs : List Segment) (i : ℕ) (s : Segment) → i < length xs → s ≡ get_or xs i s → take (i + 1) xs ≡ take i xs ++ s ∷ []
take_next xs i s lt is = take_more xs i s lt ∙ ap (λ (z : Segment). take i xs ++ z ∷ []) (sym is)
