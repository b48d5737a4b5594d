-- What the lists of papers have for a name.
use Rattle.std.proofs.Common.{◌&&◌, ◌≡◌, ◌≢◌, ◌∙◌, ◌<◌, ◌≤◌, ℕ, Bool, List, [], ◌∷◌, ◌++◌, Option, Some, None, true, false, length, map, refl, ap, sym, arith, codes, rules}
use Rattle.std.specs.Prelude.{find, option_map}
use Rattle.std.specs.Bool.{one_answer}
use Rattle.std.specs.Option.{option_or, IfSome}
use Rattle.std.specs.List.{AllByRecursion}
use Rattle.std.specs.Str.{bytes_eq}
use Rattle.std.proofs.lemmas.List.{append_cancel_right, length-append}
use Rattle.std.proofs.lemmas.List.Folds.{find-append}
use Rattle.std.proofs.lemmas.Slice.Eq.{bytes_eq-Decides}
use Rattle.clap.specs.Words.{Text}
use Rattle.plot_page.specs.Pages.{is_roll_side}
use Rattle.command_line.specs.Papers.{landscape_of, names_plot, paper_of, papers, portrait, size_in, size_named}

abbrev Paper : Type 0
Paper = Text × (ℕ × ℕ)

abbrev pub suffix : Text
suffix = codes "-portrait"

abbrev pub turned : ℕ × ℕ → ℕ × ℕ
turned (width, height) = (height, width)

same_text : (a b : Text) → bytes_eq a b ≡ true → a ≡ b
same_text a b same = (bytes_eq-Decides a b).0 same

-- a list has no size for a name that is longer than each of its names
longer_than_all : (its : List Paper) (name : Text) → AllByRecursion (λ (it : Paper). length it.0 < 9) its → 9 ≤ length name
    → size_in its name ≡ None
longer_than_all [] name short long = refl
longer_than_all (it ∷ its) name short long = branch (bytes_eq it.0 name) refl (longer_than_all its name short.1 long)
  where
    branch : (b : Bool) → bytes_eq it.0 name ≡ b → size_in its name ≡ None → size_in (it ∷ its) name ≡ None
    branch true same later = let lengths = ap length (same_text it.0 name same) in absurd (omega (arith, lengths, short.0, long))
    branch false other later = rw other later

-- no paper in portrait has a name without the suffix
without_suffix : (its : List Paper) (name : Text) → ((front : Text) → name ≢ front ++ suffix) → size_in (map portrait its) name ≡ None
without_suffix [] name lacks = refl
without_suffix (it ∷ its) name lacks = branch (bytes_eq (it.0 ++ suffix) name) refl (without_suffix its name lacks)
  where
    branch : (b : Bool) → bytes_eq (it.0 ++ suffix) name ≡ b → size_in (map portrait its) name ≡ None → size_in (map portrait (it ∷ its)) name ≡ None
    branch true same later = absurd (lacks it.0 (sym (same_text (it.0 ++ suffix) name same)))
    branch false other later = rw other later

same_name : (a b : Text) → bytes_eq (a ++ suffix) (b ++ suffix) ≡ bytes_eq a b
same_name a b =
    let long = bytes_eq-Decides (a ++ suffix) (b ++ suffix) in
    one_answer _ _ (λ same. append_cancel_right a b suffix (long.0 same), λ is. long.1 (ap (λ (t : Text). t ++ suffix) is)) (bytes_eq-Decides a b)

-- a paper in portrait has the size of the paper in landscape, turned
with_suffix : (its : List Paper) (name : Text) → size_in (map portrait its) (name ++ suffix) ≡ option_map turned (size_in its name)
with_suffix [] name = refl
with_suffix (it ∷ its) name = branch (bytes_eq it.0 name) refl (with_suffix its name)
  where
    branch : (b : Bool) → bytes_eq it.0 name ≡ b → size_in (map portrait its) (name ++ suffix) ≡ option_map turned (size_in its name)
        → size_in (map portrait (it ∷ its)) (name ++ suffix) ≡ option_map turned (size_in (it ∷ its) name)
    branch true same later = rw (same_name it.0 name, same) refl
    branch false other later = rw (same_name it.0 name, other) later

mapped_or : {X Y : Type 0} (f : X → Y) (o p : Option X) → option_map f (option_or o p) ≡ option_or (option_map f o) (option_map f p)
mapped_or f None p = refl
mapped_or f (Some x) p = refl

or_none : {X : Type 0} (o : Option X) → option_or o None ≡ o
or_none None = refl
or_none (Some x) = refl

in_both : (its more : List Paper) (name : Text) → size_in (its ++ more) name ≡ option_or (size_in its name) (size_in more name)
in_both its more name =
    ap (option_map (λ (it : Paper). it.1)) (find-append (λ (it : Paper). bytes_eq it.0 name) its more)
    ∙ mapped_or (λ (it : Paper). it.1) (find (λ (it : Paper). bytes_eq it.0 name) its) (find (λ (it : Paper). bytes_eq it.0 name) more)

all_short : AllByRecursion (λ (it : Paper). length it.0 < 9) papers
all_short = search rules

pub paper_without_suffix : (name : Text) → ((front : Text) → name ≢ front ++ suffix) → paper_of name ≡ landscape_of name
paper_without_suffix name lacks =
    in_both papers (map portrait papers) name ∙ ap (option_or (landscape_of name)) (without_suffix papers name lacks) ∙ or_none (landscape_of name)

pub paper_with_suffix : (name front : Text) → name ≡ front ++ suffix → paper_of name ≡ option_map turned (landscape_of front)
paper_with_suffix name front is =
    let lengths = ap length is ∙ length-append front suffix in
    let long : 9 ≤ length name = omega (arith, lengths) in
    in_both papers (map portrait papers) name
    ∙ ap (λ (o : Option (ℕ × ℕ)). option_or o (size_in (map portrait papers) name)) (longer_than_all papers name all_short long)
    ∙ ap (size_in (map portrait papers)) is ∙ with_suffix papers front

all_fit : AllByRecursion (λ (it : Paper). (is_roll_side it.1.0 && is_roll_side it.1.1) ≡ true) (papers ++ map portrait papers)
all_fit = search rules

found_fits : (its : List Paper) (name : Text) → AllByRecursion (λ (it : Paper). (is_roll_side it.1.0 && is_roll_side it.1.1) ≡ true) its
    → IfSome (size_in its name) (λ size. (is_roll_side size.0 && is_roll_side size.1) ≡ true)
found_fits [] name all = tt
found_fits (it ∷ its) name all = branch (bytes_eq it.0 name) refl (found_fits its name all.1)
  where
    branch : (b : Bool) → bytes_eq it.0 name ≡ b → IfSome (size_in its name) (λ size. (is_roll_side size.0 && is_roll_side size.1) ≡ true)
        → IfSome (size_in (it ∷ its) name) (λ size. (is_roll_side size.0 && is_roll_side size.1) ≡ true)
    branch true same later = rw same all.0
    branch false other later = rw other later

-- the size of each paper is one of a page
pub paper_fits : (name : Text) → IfSome (paper_of name) (λ size. (is_roll_side size.0 && is_roll_side size.1) ≡ true)
paper_fits name = found_fits (papers ++ map portrait papers) name all_fit

-- so is the size that a name gives
pub named_fits : (name : Text) → IfSome (size_named name) (λ size. (is_roll_side size.0 && is_roll_side size.1) ≡ true)
named_fits name = branch (names_plot name) refl (paper_fits name)
  where
    branch : (b : Bool) → names_plot name ≡ b → IfSome (paper_of name) (λ size. (is_roll_side size.0 && is_roll_side size.1) ≡ true)
        → IfSome (size_named name) (λ size. (is_roll_side size.0 && is_roll_side size.1) ≡ true)
    branch true same fits = rw same refl
    branch false other fits = rw other fits
