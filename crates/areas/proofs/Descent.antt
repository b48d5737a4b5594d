-- A list of edges in which those that stay move up, one after another, and others are left behind; and lists whose end is written.
use Rattle.std.proofs.Common.{◌≡◌, ℕ, ◌+◌, ◌-◌, ◌≤◌, ◌<◌, true, false, List, [], ◌∷◌, ◌++◌, append-nil, filter, map, take, drop, set, length, sym, ap, ◌∙◌, arith, ℤ, cond}
use Rattle.std.proofs.lemmas.List.{drop-drop, drop-set-lt, drop-take, drop_all, drop_at, drop_more, length-drop, length-take-le, map_push, take-take, take_more_set}
use Rattle.std.proofs.lemmas.List.Elements.{filter_more}
use Rattle.std.proofs.lemmas.Slice.{take-put_mid}
use borrow.Rule.Slice.PartMut.{put_mid, take_put}
use Rattle.areas.specs.declared.swept_edge.SweptEdge.{SweptEdge}
use Rattle.areas.specs.Sweeps.{below, edge_at, reaches_down}

-- the end of a list is written anew
pub front_put : {X : Type 0} (a k : ℕ) (xs ys : List X) → a ≤ length xs → take a (put_mid a k xs ys) ≡ take a xs
front_put a k xs ys l = take_put a k xs ys l

pub tail_put : {X : Type 0} (a k : ℕ) (xs ys : List X) → a ≤ length xs → k ≡ length xs - a → drop a (put_mid a k xs ys) ≡ ys
tail_put a k xs ys l is =
    let long = length-drop a xs in
    drop_at _ _ a (length-take-le a xs l) ∙ ap (λ zs. ys ++ zs) (drop_all k (drop a xs) (omega (arith, long, is))) ∙ append-nil ys

-- what is left of two lists begins alike
pub same_at : (near before : List SweptEdge) (at : ℕ) → at < length near → at < length before → drop at near ≡ drop at before
    → edge_at near at ≡ edge_at before at
same_at near before at l m rest =
    let first : List SweptEdge → SweptEdge = λ zs. edge_at zs 0 in
    sym (ap first (drop_more near at (edge_at [] 0) l)) ∙ ap first rest ∙ ap first (drop_more before at (edge_at [] 0) m)

pub rest_next : (near before : List SweptEdge) (at : ℕ) → drop at near ≡ drop at before → drop (at + 1) near ≡ drop (at + 1) before
rest_next near before at rest = sym (drop-drop 1 at near) ∙ ap (drop 1) rest ∙ drop-drop 1 at before

module _ (r : ℕ) (y : ℤ) (near before : List SweptEdge) (kept at : ℕ) (l : at < length before) (same : length near ≡ length before)
    (few : kept ≤ at) (so_far : take kept near ≡ map below (filter (reaches_down r y) (take at before))) (rest : drop at near ≡ drop at before) where
  abbrev edge : SweptEdge
  edge = edge_at near at

  edge_is : edge ≡ edge_at before at
  edge_is = same_at near before at (omega (arith, l, same)) l rest

  pub stays : reaches_down r y edge ≡ true
      → take (kept + 1) (set near kept (below edge)) ≡ map below (filter (reaches_down r y) (take (at + 1) before))
  stays h =
      let more = filter_more (reaches_down r y) before at (edge_at [] 0) l in
      let test : reaches_down r y (edge_at before at) ≡ true = ap (reaches_down r y) (sym edge_is) ∙ h in
      let grown : filter (reaches_down r y) (take (at + 1) before) ≡ filter (reaches_down r y) (take at before) ++ edge_at before at ∷ [] =
      more ∙ ap (λ b. filter (reaches_down r y) (take at before) ++ cond b (edge_at before at ∷ []) []) test in
      take_more_set near kept (below edge) (omega (arith, few, l, same))
      ∙ ap (λ zs. zs ++ below edge ∷ []) so_far
      ∙ ap (λ e. map below (filter (reaches_down r y) (take at before)) ++ below e ∷ []) edge_is
      ∙ sym (ap (map below) grown ∙ map_push below (filter (reaches_down r y) (take at before)) (edge_at before at))

  pub rest_after : drop (at + 1) (set near kept (below edge)) ≡ drop (at + 1) before
  rest_after = drop-set-lt (at + 1) near kept (below edge) (omega (arith, few)) ∙ rest_next near before at rest

  pub left_behind : reaches_down r y edge ≡ false → take kept near ≡ map below (filter (reaches_down r y) (take (at + 1) before))
  left_behind h =
      let more = filter_more (reaches_down r y) before at (edge_at [] 0) l in
      let test : reaches_down r y (edge_at before at) ≡ false = ap (reaches_down r y) (sym edge_is) ∙ h in
      let same_ones : filter (reaches_down r y) (take (at + 1) before) ≡ filter (reaches_down r y) (take at before) =
      more ∙ ap (λ b. filter (reaches_down r y) (take at before) ++ cond b (edge_at before at ∷ []) []) test ∙ append-nil _ in
      so_far ∙ sym (ap (map below) same_ones)

-- the first ones of a list are written anew
pub put_first : {X : Type 0} (end : ℕ) (xs ys : List X) → end ≤ length xs → length ys ≡ end → take end (put_mid 0 end xs ys) ≡ ys
put_first end xs ys l long = take-put_mid 0 end xs ys end (omega (arith, long)) (omega arith)

pub take_first : {X : Type 0} (n end : ℕ) (xs ys : List X) → n ≤ end → end ≤ length xs → length ys ≡ end → take n (put_mid 0 end xs ys) ≡ take n ys
take_first n end xs ys few l long = sym (take-take n end (put_mid 0 end xs ys) few) ∙ ap (take n) (put_first end xs ys l long)

-- a part of a list, by its place and its length, and by its end
pub part_is : {X : Type 0} (at end : ℕ) (xs : List X) → at ≤ end → take (end - at) (drop at xs) ≡ drop at (take end xs)
part_is at end xs l =
    let e : at + (end - at) ≡ end = omega (arith, l) in
    sym (drop-take at (end - at) xs) ∙ ap (λ n. drop at (take n xs)) e

-- the part from `at` to before `end` is written anew, and of what is written the first ones count
pub part_put : {X : Type 0} (at n end : ℕ) (xs ys : List X) → at ≤ end → end ≤ length xs → length ys ≡ end - at → n ≤ end - at
    → drop at (take (at + n) (put_mid at (end - at) xs ys)) ≡ take n ys
part_put at n end xs ys l m long few =
    let whole : take end (put_mid at (end - at) xs ys) ≡ take at xs ++ ys = take-put_mid at (end - at) xs ys end (omega (arith, l, long)) (omega (arith, l, m)) in
    drop-take at n (put_mid at (end - at) xs ys)
    ∙ sym (take-take n (end - at) (drop at (put_mid at (end - at) xs ys)) few)
    ∙ ap (take n) (part_is at end (put_mid at (end - at) xs ys) l ∙ ap (drop at) whole ∙ drop_at _ ys at (length-take-le at xs (omega (arith, l, m))))
