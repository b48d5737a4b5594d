-- Items of lists, and those after them.
use Rattle.std.proofs.Common.{◌≡◌, ℕ, zero, suc, List, [], ◌∷◌, drop, map, slice_get, None, Some, refl}

-- an item of a list, and those after it
pub drop_taken : {X : Type 0} (xs : List X) (k : ℕ) (x : X) → slice_get xs k ≡ Some x → drop k xs ≡ x ∷ drop (suc k) xs
drop_taken [] k x h = cc
drop_taken (y ∷ ys) zero x h = cc
drop_taken (y ∷ ys) (suc k) x h = drop_taken ys k x h

pub drop_none : {X : Type 0} (xs : List X) (k : ℕ) → slice_get xs k ≡ None → drop k xs ≡ []
drop_none [] zero h = refl
drop_none [] (suc k) h = refl
drop_none (y ∷ ys) zero h = cc
drop_none (y ∷ ys) (suc k) h = drop_none ys k h

-- past the last item of a list
pub map_none : {X Y : Type 0} (f : X → Y) (xs : List X) (k : ℕ) → slice_get xs k ≡ None → slice_get (map f xs) k ≡ None
map_none f [] zero h = refl
map_none f [] (suc k) h = refl
map_none f (y ∷ ys) zero h = cc
map_none f (y ∷ ys) (suc k) h = map_none f ys k h

pub map_some : {X Y : Type 0} (f : X → Y) (xs : List X) (k : ℕ) (x : X) → slice_get xs k ≡ Some x → slice_get (map f xs) k ≡ Some (f x)
map_some f [] k x h = cc
map_some f (y ∷ ys) zero x h = cc
map_some f (y ∷ ys) (suc k) x h = map_some f ys k x h
