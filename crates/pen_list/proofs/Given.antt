-- What the assignments of a list give a pen, one after the other.
use Rattle.std.proofs.Common.{◌≡◌, ◌<◌, ◌+◌, ◌∙◌, ℕ, Bool, true, false, cond, Option, Some, None, List, [], ◌∷◌, length, get_or, take, drop, reverse, refl, sym, ap, arith}
use Rattle.std.specs.Prelude.{find, not}
use Rattle.std.specs.Option.{option_and_then, option_or}
use Rattle.std.proofs.lemmas.List.{at_drop_all, at_drop_more, reverse-append, take_all, take_more}
use Rattle.pen_list.specs.Assignments.{is_assignment, pens_of, value_of}
use Rattle.pen_list.specs.Lists.{is_listed}

module _ {V : Type 0} (meaning : List ℕ → Option V) where
  -- the first bad one of some assignments
  abbrev pub bad_in : List (List ℕ) → Option (List ℕ)
  bad_in its = find (λ it. not (is_assignment meaning it)) its

  -- the value that some assignments give a pen
  abbrev pub given_by : List (List ℕ) → ℕ → Option V
  given_by its pen = option_and_then (λ it. meaning (value_of it)) (find (λ it. is_listed (pens_of it) pen) (reverse its))

  -- one more assignment
  module _ (its : List (List ℕ)) (n : ℕ) (it : List ℕ) (inside : n < length its) (is : it ≡ get_or its n it) where
    left : bad_in (drop n its) ≡ bad_in (it ∷ drop (n + 1) its)
    left = at_drop_more bad_in its n it inside ∙ ap (λ (one : List ℕ). bad_in (one ∷ drop (n + 1) its)) (sym is)

    pub bad_here : is_assignment meaning it ≡ false → bad_in (drop n its) ≡ Some it
    bad_here bad = left ∙ rw bad refl

    pub bad_later : is_assignment meaning it ≡ true → bad_in (drop (n + 1) its) ≡ bad_in (drop n its)
    bad_later good = sym (left ∙ rw good refl)

    pub last_first : reverse (take (n + 1) its) ≡ it ∷ reverse (take n its)
    last_first =
        ap reverse (take_more its n it inside) ∙ reverse-append (take n its) (get_or its n it ∷ [])
        ∙ ap (λ (one : List ℕ). one ∷ reverse (take n its)) (sym is)

    by_test : (names : Bool) (pen : ℕ) → is_listed (pens_of it) pen ≡ names → given_by (take (n + 1) its) pen
        ≡ cond names (meaning (value_of it)) (given_by (take n its) pen)
    by_test true pen e = rw (last_first, e) refl
    by_test false pen e = rw (last_first, e) refl

    given_next : (pen : ℕ) → given_by (take (n + 1) its) pen
        ≡ cond (is_listed (pens_of it) pen) (meaning (value_of it)) (given_by (take n its) pen)
    given_next pen = by_test (is_listed (pens_of it) pen) pen refl

    either : (names : Bool) (given before had : Option V) (value : V) → given ≡ Some value
        → cond names (Some value) (option_or before had) ≡ option_or (cond names given before) had
    either true given before had value e = rw e refl
    either false given before had value e = refl

    -- what a pen has after it: its value, if it names the pen, or what the pen had
    pub has_next : (pen : ℕ) (named : Bool) (now before had : Option V) (value : V) → meaning (value_of it) ≡ Some value
        → named ≡ is_listed (pens_of it) pen → before ≡ option_or (given_by (take n its) pen) had → now ≡ cond named (Some value) before
        → now ≡ option_or (given_by (take (n + 1) its) pen) had
    has_next pen named now before had value means names so_far next =
        let step = either named (meaning (value_of it)) (given_by (take n its) pen) had value means in
        let given = given_next pen in
        rw (next, so_far, given, ← names) step

-- all assignments
module _ {V : Type 0} (meaning : List ℕ → Option V) (its : List (List ℕ)) (n : ℕ) (all : n ≡ length its) where
  pub none_bad : bad_in meaning (drop n its) ≡ None
  none_bad = at_drop_all (bad_in meaning) its n (omega arith)

  pub all_given : (pen : ℕ) → given_by meaning (take n its) pen ≡ given_by meaning its pen
  all_given pen = ap (λ (ones : List (List ℕ)). given_by meaning ones pen) (take_all n its (omega arith))
