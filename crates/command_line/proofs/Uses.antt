-- One use of an argument: where it has no fault, its values pass, and this is the row that it makes or adds to.
use Rattle.std.proofs.Common.{◌≡◌, ◌⊎◌, ℕ, true, false, Bool, List, [], ◌∷◌, ◌++◌, Option, Some, None, length, refl, ap, ◌∙◌, subst, inl, inr, arith, cond, ◌&&◌, ◌||◌}
use Rattle.std.specs.List.{AllByRecursion}
use Rattle.std.specs.Prelude.{◌==◌, nat_eq}
use Rattle.std.proofs.lemmas.Bool.Decides.{nat_tests}
use Rattle.std.proofs.lemmas.List.Folds.{list_all-append}
use Rattle.std.specs.Prelude.{find}
use Rattle.std.specs.Str.{bytes_eq}
use Rattle.clap.specs.Walk.{Row, Rule, Text, has_row, used_as, more_values, without, at_row, values_or_missing, is_append}
use Rattle.clap.specs.Facts.{explicit_source}
use Rattle.clap.specs.Takes.{values_pass, value_passes}
use Rattle.clap.specs.Walk.{stronger}
use Rattle.clap.specs.Kinds.{Kinds, or_else, range_kinds}
use Rattle.clap.specs.Faults.{action_fault, set_fault, values_fault, repeat_fault}
use Rattle.clap.specs.declared.builder.action.ArgAction.{ArgAction}
use Rattle.clap.specs.declared.builder.action.ArgAction.TheVariants.{Set, SetTrue, Append}
use Rattle.clap.specs.declared.error.kind.ErrorKind.{ErrorKind}
use Rattle.clap.specs.declared.error.kind.ErrorKind.TheVariants.{InvalidValue, WrongNumberOfValues, ArgumentConflict}
use Rattle.clap.specs.declared.parser.matches.ValueSource.{ValueSource}
use Rattle.clap.specs.declared.parser.matches.ValueSource.TheVariants.{DefaultValue, CommandLine}
use Rattle.clap.specs.declared.builder.value_parser.Reading.{Reading}
use Rattle.command_line.specs.Parses.{one}

pub or_none : (a b : Kinds) → or_else a b ≡ [] → (a ≡ []) × (b ≡ [])
or_none [] b e = (refl, e)
or_none (k ∷ ks) b e = absurd (cc)

if_none : (b : Bool) (k : ErrorKind) (ks : Kinds) → cond b [] (k ∷ ks) ≡ [] → b ≡ true
if_none true k ks e = refl
if_none false k ks e = absurd (cc)

pub find_has : {X : Type 0} (p : X → Bool) (P : X → Type 0) (xs : List X) (x : X) → AllByRecursion P xs → find p xs ≡ Some x → P x
find_has p P [] x all e = absurd (cc)
find_has {X} p P (y ∷ ys) x all e = go (p y) e (λ r. find_has p P ys x all.1 r)
  where
    go : (b : Bool) → cond b (Some y) (find p ys) ≡ Some x → (find p ys ≡ Some x → P x) → P x
    go true e later = let same : y ≡ x = cc in subst P same all.0
    go false e later = later e

pub all_append : {X : Type 0} (P : X → Type 0) (xs ys : List X) → AllByRecursion P xs → AllByRecursion P ys → AllByRecursion P (xs ++ ys)
all_append P [] ys a b = b
all_append P (x ∷ xs) ys a b = (a.0, all_append P xs ys a.1 b)

pub values_taken : (a : Rule) (vs : List Text) → values_fault a vs ≡ [] → values_pass a vs ≡ true
values_taken a [] e = refl
values_taken a (v ∷ vs) e =
    let both = or_none _ _ e in
    let here : value_passes a v ≡ true = if_none _ _ _ both.0 in
    rw here (values_taken a vs both.1)

-- ---- rows

pub same_text_is : (t : Text) → bytes_eq t t ≡ true
same_text_is [] = refl
same_text_is (x ∷ xs) = let here : nat_eq x x ≡ true = grind (arith, nat_tests) in rw here (same_text_is xs)

or_false : (a b : Bool) → (a || b) ≡ false → (a ≡ false) × (b ≡ false)
or_false true b e = absurd (cc)
or_false false b e = (refl, e)

pub no_at_row : (id : Text) (change : Row → List Row) (missing rows : List Row) → has_row id rows ≡ false → at_row id change missing rows ≡ rows ++ missing
no_at_row id change missing [] e = refl
no_at_row id change missing (r ∷ rs) e =
    let both = or_false (bytes_eq r.id id) (has_row id rs) e in
    rw both.0 (ap (λ (t : List Row). r ∷ t) (no_at_row id change missing rs both.1))

append_nil : {X : Type 0} (xs : List X) → xs ++ [] ≡ xs
append_nil [] = refl
append_nil (x ∷ xs) = ap (λ t. x ∷ t) (append_nil xs)

-- one value in a use that has no fault
-- where neither test fails, n is 1
one_of_tests : (n : ℕ) (empty same : Bool) → (same ≡ true → n ≡ 1)
    → cond empty (InvalidValue ∷ []) (cond same [] (WrongNumberOfValues ∷ [])) ≡ [] → n ≡ 1
one_of_tests n true same tells e = absurd (cc)
one_of_tests n false true tells e = tells refl
one_of_tests n false false tells e = absurd (cc)

one_value : (vs : List Text) → range_kinds 1 1 (length vs) ≡ [] → length vs ≡ 1
one_value vs e = one_of_tests (length vs) (length vs == 0) (1 == length vs) (λ t. grind (arith, nat_tests)) e

some_values : (a : Rule) (vs : List Text) → length vs ≡ 1 → values_or_missing a vs ≡ vs
some_values a [] e = absurd (omega arith)
some_values a (v ∷ vs) e = refl

is_nil : (vs : List Text) → length vs ≡ 0 → vs ≡ []
is_nil [] e = refl
is_nil (v ∷ vs) e = absurd (omega arith)

no_value : (vs : List Text) → range_kinds 0 0 (length vs) ≡ [] → vs ≡ []
no_value vs e =
    let same : (0 == length vs) ≡ true = if_none _ _ _ e in
    is_nil vs (grind (arith, nat_tests))

if_fault : (b : Bool) (k : ErrorKind) (ks : Kinds) → cond (b && true) (k ∷ ks) [] ≡ [] → b ≡ false
if_fault true k ks e = absurd (cc)
if_fault false k ks e = refl

-- a use that sets one value, where it has no fault
pub record SetsOne (a : Rule) (vs : List Text) (rows : List Row) : Type 0 where
  pub one : length vs ≡ 1
  pub absent : has_row a.id rows ≡ false
  pub passes : values_pass a vs ≡ true

sets_one : (a : Rule) (vs : List Text) (rows : List Row) → length vs ≡ 1 → set_fault false a vs rows ≡ [] → SetsOne a vs rows
sets_one a vs rows one none =
    let both = or_none (repeat_fault false a.id rows) (values_fault a vs) none in
    record { one = one; absent = if_fault (has_row a.id rows) ArgumentConflict [] both.0; passes = values_taken a vs both.1 }

-- the use of an argument of one value
pub set_parts : (a : Rule) (vs : List Text) (rows : List Row) (x : ArgAction) (least most : ℕ) → x ≡ Set → least ≡ 1 → most ≡ 1
    → or_else (range_kinds least most (length vs)) (action_fault x false a (values_or_missing a vs) rows) ≡ []
    → SetsOne a (values_or_missing a vs) rows
set_parts a vs rows x least most is_set is_least is_most none =
    let e = rw (is_set, is_least, is_most) at none in
    let both = or_none (range_kinds 1 1 (length vs)) (set_fault false a (values_or_missing a vs) rows) e in
    let has_one = one_value vs both.0 in
    sets_one a (values_or_missing a vs) rows (rw (some_values a vs has_one) has_one) both.1

-- the use of a flag
pub flag_parts : (a : Rule) (vs : List Text) (rows : List Row) (x : ArgAction) (least most : ℕ) → x ≡ SetTrue → least ≡ 0 → most ≡ 0
    → length a.missing ≡ 1 → or_else (range_kinds least most (length vs)) (action_fault x false a (values_or_missing a vs) rows) ≡ []
    → SetsOne a (values_or_missing a vs) rows
flag_parts a vs rows x least most is_set is_least is_most stands none =
    let e = rw (is_set, is_least, is_most) at none in
    let both = or_none (range_kinds 0 0 (length vs)) (set_fault false a (values_or_missing a vs) rows) e in
    let none_given : vs ≡ [] = no_value vs both.0 in
    sets_one a (values_or_missing a vs) rows (rw none_given stands) both.1

unfoldable pub set_row : Text → Reading → List Text → Row
set_row id how vs = record { id = id; values = vs; count = None; source = Some CommandLine; reading = how }

set_used : (id : Text) (how : Reading) (vs : List Text) (rows : List Row) → has_row id rows ≡ false
    → used_as Set id how vs rows ≡ rows ++ set_row id how vs ∷ []
unfolding set_row
set_used id how vs rows absent =
    let kept : without id rows ≡ rows = no_at_row id (λ _. []) [] rows absent ∙ append_nil rows in
    rw kept (no_at_row id (more_values CommandLine vs) (set_row id how vs ∷ []) rows absent)

-- the actions that set one value
unfoldable pub Sets : ArgAction → Type 0
Sets x = (x ≡ Set) ⊎ (x ≡ SetTrue)

pub used_is : (x : ArgAction) (id : Text) (how : Reading) (vs : List Text) (rows : List Row) → Sets x → has_row id rows ≡ false
    → used_as x id how vs rows ≡ rows ++ set_row id how vs ∷ []
unfolding Sets
used_is x id how vs rows sets absent = elim sets [
  | inl is_set ↦ rw is_set (set_used id how vs rows absent)
  | inr is_flag ↦ rw is_flag (set_used id how vs rows absent)
]

-- the use of an argument that keeps the values of all uses
pub record AddsOne (a : Rule) (vs : List Text) : Type 0 where
  pub one : length vs ≡ 1
  pub passes : values_pass a vs ≡ true

pub more_parts : (a : Rule) (vs : List Text) (rows : List Row) (x : ArgAction) (least most : ℕ) → x ≡ Append → least ≡ 1 → most ≡ 1
    → or_else (range_kinds least most (length vs)) (action_fault x false a (values_or_missing a vs) rows) ≡ []
    → AddsOne a (values_or_missing a vs)
more_parts a vs rows x least most is_append is_least is_most none =
    let e = rw (is_append, is_least, is_most) at none in
    let both = or_none (range_kinds 1 1 (length vs)) (values_fault a (values_or_missing a vs)) e in
    let has_one = one_value vs both.0 in
    record { one = rw (some_values a vs has_one) has_one; passes = values_taken a (values_or_missing a vs) both.1 }

pub append_used : (x : ArgAction) (id : Text) (how : Reading) (vs : List Text) (rows : List Row) → x ≡ Append
    → used_as x id how vs rows ≡ at_row id (more_values CommandLine vs) (set_row id how vs ∷ []) rows
unfolding set_row
append_used x id how vs rows is = rw is refl

pub both_pass : (a : Rule) (us vs : List Text) → values_pass a us ≡ true → values_pass a vs ≡ true → values_pass a (us ++ vs) ≡ true
both_pass a us vs here there = list_all-append (value_passes a) us vs ∙ rw (here, there) refl

-- after one more use a row is given by the words
pub given_now : (s : Option ValueSource) → explicit_source (Some (stronger s CommandLine)) ≡ true
given_now None = refl
given_now (Some DefaultValue) = refl
given_now (Some CommandLine) = refl
