-- Lists that are written from the left, over old ones.
use Rattle.std.proofs.Common.{◌≡◌, ℕ, ◌+◌, ◌-◌, ◌<◌, ◌≤◌, List, ◌++◌, ◌∷◌, [], length, get_or, set, take, drop, map, replicate, ap, ◌∙◌, sym, append_assoc, arith, subst, refl, zero, suc, length-append}
use borrow.Rule.Slice.PartMut.{put_mid}
use Rattle.std.specs.List.{range_with_len, flat_map}
use Rattle.std.proofs.lemmas.List.{drop_more, set_at, set-append_right, take_more, flat_map_more, take_at, drop_at, drop-drop, length-replicate}
use Rattle.std.proofs.lemmas.Simd.{get_or-replicate}
use Rattle.std.proofs.lemmas.Grind.{same_number_lists}
use Rattle.std.proofs.lemmas.List.FromFn.{length-map-range_with_len, map-range_with_len_more, get_or-map-range_with_len}

-- one more value of a table
pub filled_more : (f : ℕ → ℕ) (out old : List ℕ) (p y : ℕ) → p < length old → out ≡ map f (range_with_len 0 p) ++ drop p old → y ≡ f p → set out p y ≡ map f (range_with_len 0 (p + 1)) ++ drop (p + 1) old
filled_more f out old p y lt h e =
    let front : List ℕ = map f (range_with_len 0 p) in
    let opened : out ≡ front ++ (get_or old p 0 ∷ drop (p + 1) old) = h ∙ ap (λ (z : List ℕ). front ++ z) (drop_more old p 0 lt) in
    let written : set out p y ≡ front ++ (y ∷ drop (p + 1) old) = ap (λ (z : List ℕ). set z p y) opened ∙ set_at front (get_or old p 0) (drop (p + 1) old) y p (length-map-range_with_len f 0 p) in
    let joined : (front ++ (y ∷ [])) ++ drop (p + 1) old ≡ front ++ (y ∷ drop (p + 1) old) = append_assoc front (y ∷ []) (drop (p + 1) old) in
    let more : front ++ (y ∷ []) ≡ map f (range_with_len 0 (p + 1)) = ap (λ (z : ℕ). front ++ (z ∷ [])) e ∙ sym (map-range_with_len_more f 0 p p (omega arith)) in
    written ∙ sym joined ∙ ap (λ (z : List ℕ). z ++ drop (p + 1) old) more

-- the last value of a table of m
pub filled_last : (f : ℕ → ℕ) (out old : List ℕ) (p q m y : ℕ) → p ≡ q → q + 1 ≡ m → m ≤ length old → out ≡ map f (range_with_len 0 p) ++ drop p old → y ≡ f q → set out q y ≡ map f (range_with_len 0 m) ++ drop m old
filled_last f out old p q m y here next le h e =
    let P : ℕ → Type 0 = λ n. out ≡ map f (range_with_len 0 n) ++ drop n old in
    filled_more f out old q y (omega arith) (subst P here h) e ∙ ap (λ (n : ℕ). map f (range_with_len 0 n) ++ drop n old) next

set_after : (front ys : List ℕ) (n k y : ℕ) → length front ≡ n → set (front ++ ys) (n + k) y ≡ front ++ set ys k y
set_after front ys n k y h =
    let e : (n + k) - n ≡ k = omega arith in
    set-append_right front ys n (n + k) y h (omega arith) ∙ ap (λ (j : ℕ). front ++ set ys j y) e

three_more : (old : List ℕ) (n : ℕ) → n + 3 ≤ length old → drop n old ≡ get_or old n 0 ∷ get_or old (n + 1) 0 ∷ get_or old (n + 2) 0 ∷ drop (n + 3) old
three_more old n le =
    let a = drop_more old n 0 (omega arith) in
    let b = drop_more old (n + 1) 0 (omega arith) in
    let c = drop_more old (n + 2) 0 (omega arith) in
    let two : n + 1 + 1 ≡ n + 2 = omega arith in
    let three : n + 2 + 1 ≡ n + 3 = omega arith in
    a ∙ ap (λ (z : List ℕ). get_or old n 0 ∷ z) (b ∙ ap (λ (j : ℕ). get_or old (n + 1) 0 ∷ drop j old) two ∙ ap (λ (z : List ℕ). get_or old (n + 1) 0 ∷ z) (c ∙ ap (λ (j : ℕ). get_or old (n + 2) 0 ∷ drop j old) three))

-- three more values after the front
pub three_written : (front out old : List ℕ) (n r g b : ℕ) → length front ≡ n → n + 3 ≤ length old → out ≡ front ++ drop n old → set (set (set out n r) (n + 1) g) (n + 2) b ≡ front ++ (r ∷ g ∷ b ∷ drop (n + 3) old)
three_written front out old n r g b size le h =
    let x = get_or old n 0 in
    let y = get_or old (n + 1) 0 in
    let z = get_or old (n + 2) 0 in
    let rest = drop (n + 3) old in
    let opened : out ≡ front ++ (x ∷ y ∷ z ∷ rest) = h ∙ ap (λ (w : List ℕ). front ++ w) (three_more old n le) in
    let one : set out n r ≡ front ++ (r ∷ y ∷ z ∷ rest) = ap (λ (w : List ℕ). set w n r) opened ∙ set_at front x (y ∷ z ∷ rest) r n size in
    let two : set (set out n r) (n + 1) g ≡ front ++ (r ∷ g ∷ z ∷ rest) = ap (λ (w : List ℕ). set w (n + 1) g) one ∙ set_after front (r ∷ y ∷ z ∷ rest) n 1 g size in
    ap (λ (w : List ℕ). set w (n + 2) b) two ∙ set_after front (r ∷ g ∷ z ∷ rest) n 2 b size

-- one more piece of three values
pub piece_more : (f : ℕ → List ℕ) (cells out old : List ℕ) (i n m r g b : ℕ) → i < length cells → length (flat_map f (take i cells)) ≡ n → n + 3 ≤ length old → n + 3 ≡ m → out ≡ flat_map f (take i cells) ++ drop n old → (r ∷ g ∷ b ∷ []) ≡ f (get_or cells i 0) → set (set (set out n r) (n + 1) g) (n + 2) b ≡ flat_map f (take (i + 1) cells) ++ drop m old
piece_more f cells out old i n m r g b lt size le next h e =
    let front = flat_map f (take i cells) in
    let rest = drop (n + 3) old in
    let written : set (set (set out n r) (n + 1) g) (n + 2) b ≡ front ++ (r ∷ g ∷ b ∷ rest) = three_written front out old n r g b size le h in
    let joined : (front ++ (r ∷ g ∷ b ∷ [])) ++ rest ≡ front ++ (r ∷ g ∷ b ∷ rest) = append_assoc front (r ∷ g ∷ b ∷ []) rest in
    let more : front ++ (r ∷ g ∷ b ∷ []) ≡ flat_map f (take (i + 1) cells) = ap (λ (w : List ℕ). front ++ w) e ∙ flat_map_more f [] (take i cells) (get_or cells i 0) ∙ ap (flat_map f) (sym (take_more cells i 0 lt)) in
    written ∙ sym joined ∙ ap (λ (w : List ℕ). w ++ rest) more ∙ ap (λ (j : ℕ). flat_map f (take (i + 1) cells) ++ drop j old) next

-- a part is written right after the front
pub placed : (front out old part : List ℕ) (a k m : ℕ) → a + k ≡ m → length front ≡ a → out ≡ front ++ drop a old → put_mid a k out part ≡ (front ++ part) ++ drop m old
placed front out old part a k m next size h =
    let before : take a out ≡ front = ap (take a) h ∙ take_at front (drop a old) a size in
    let after : drop a out ≡ drop a old = ap (drop a) h ∙ drop_at front (drop a old) a size in
    let rest : drop k (drop a out) ≡ drop m old = ap (drop k) after ∙ drop-drop k a old ∙ ap (λ (n : ℕ). drop n old) next in
    ap (λ (z : List ℕ). z ++ (part ++ drop k (drop a out))) before
    ∙ ap (λ (z : List ℕ). front ++ (part ++ z)) rest
    ∙ sym (append_assoc front part (drop m old))

-- a table from a on, and one from its end on
pub tables_joined : (f : ℕ → ℕ) (a n k b : ℕ) → a + n ≡ b → map f (range_with_len a n) ++ map f (range_with_len b k) ≡ map f (range_with_len a (n + k))
tables_joined f a zero k b e =
    let here : b ≡ a = omega (arith, e) in
    let same : k ≡ 0 + k = omega arith in
    ap (λ (z : ℕ). map f (range_with_len z k)) here ∙ ap (λ (z : ℕ). map f (range_with_len a z)) same
tables_joined f a (suc n) k b e =
    let more : suc (n + k) ≡ suc n + k = omega arith in
    ap (λ (z : List ℕ). f a ∷ z) (tables_joined f (a + 1) n k b (omega (arith, e))) ∙ ap (λ (z : ℕ). map f (range_with_len a z)) more

-- a further part of a table is written
pub table_more : (f : ℕ → ℕ) (out old part : List ℕ) (a k m : ℕ) → a + k ≡ m → out ≡ map f (range_with_len 0 a) ++ drop a old → part ≡ map f (range_with_len a k) → put_mid a k out part ≡ map f (range_with_len 0 m) ++ drop m old
table_more f out old part a k m next h e =
    placed (map f (range_with_len 0 a)) out old part a k m next (length-map-range_with_len f 0 a) h
    ∙ ap (λ (z : List ℕ). (map f (range_with_len 0 a) ++ z) ++ drop m old) e
    ∙ ap (λ (z : List ℕ). z ++ drop m old) (tables_joined f 0 a k a (omega arith))
    ∙ ap (λ (z : ℕ). map f (range_with_len 0 z) ++ drop m old) next

-- two tables with the same values
pub same_table : (g f : ℕ → ℕ) (b n : ℕ) → ((k : ℕ) → k < n → g k ≡ f (b + k)) → map g (range_with_len 0 n) ≡ map f (range_with_len b n)
same_table g f b n h =
    let left : length (map g (range_with_len 0 n)) ≡ n = length-map-range_with_len g 0 n in
    same_number_lists _ _ (left ∙ sym (length-map-range_with_len f b n)) (λ k lt.
    let in_range : k < n = omega (arith, lt, left) in
    get_or-map-range_with_len g 0 n k k 0 in_range (omega arith) ∙ h k in_range ∙ sym (get_or-map-range_with_len f b n k (b + k) 0 in_range refl))

-- a table whose values are 0
pub zero_table : (f : ℕ → ℕ) (b n : ℕ) → ((k : ℕ) → k < n → f (b + k) ≡ 0) → replicate {A = ℕ} n 0 ≡ map f (range_with_len b n)
zero_table f b n h =
    same_number_lists _ _ (length-replicate {A = ℕ} n 0 ∙ sym (length-map-range_with_len f b n)) (λ k lt.
    let in_range : k < n = omega (arith, lt, length-replicate {A = ℕ} n 0) in
    get_or-replicate {A = ℕ} n k 0 0 in_range ∙ sym (h k in_range) ∙ sym (get_or-map-range_with_len f b n k (b + k) 0 in_range refl))

-- bytes of one value
pub filled_to : (xs : List ℕ) (n m y : ℕ) → xs ≡ replicate n y → length xs ≡ m → xs ≡ replicate m y
filled_to xs n m y h size =
    let e : n ≡ m = sym (length-replicate {A = ℕ} n y) ∙ sym (ap length h) ∙ size in
    h ∙ ap (λ (k : ℕ). replicate k y) e

-- what a piece begins with after a part is written: the bytes before the part, and those that the part begins with
pub begins_filled : (out part front bits rest : List ℕ) (a k n : ℕ) → take a out ≡ front → length front ≡ a → part ≡ bits ++ rest → length bits ≡ n → take (a + n) (put_mid a k out part) ≡ front ++ bits
begins_filled out part front bits rest a k n before size filled long =
    let after = drop k (drop a out) in
    let opened : put_mid a k out part ≡ (front ++ bits) ++ (rest ++ after) =
    ap (λ (z : List ℕ). z ++ (part ++ after)) before
    ∙ ap (λ (z : List ℕ). front ++ (z ++ after)) filled
    ∙ ap (λ (z : List ℕ). front ++ z) (append_assoc bits rest after)
    ∙ sym (append_assoc front bits (rest ++ after)) in
    ap (take (a + n)) opened ∙ take_at (front ++ bits) (rest ++ after) (a + n) (omega (arith, length-append front bits, size, long))
