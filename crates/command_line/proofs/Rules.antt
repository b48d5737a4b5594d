-- The rules of a subcommand once they are built, which are found by the names of its options.
use Rattle.std.proofs.Common.{◌≡◌, ◌∙◌, ◌++◌, ℕ, Bool, List, [], ◌∷◌, Option, Some, None, true, false, map, refl, ap, subst, append_assoc}
use Rattle.std.specs.Prelude.{filter, find, is_some, not, ◌&&◌, ◌||◌, if◌then◌else◌}
use Rattle.std.specs.List.{list_any}
use Rattle.std.specs.Str.{bytes_eq}
use Rattle.std.proofs.lemmas.Slice.Eq.{bytes_eq-Decides}
use Rattle.clap.specs.Simple.{built_leaf, filled, filled_from, help_rule}
use Rattle.clap.specs.Walk.{Rule, Text, arg_by_id}
use Rattle.command_line.specs.declared.subcommands.Kind.{Kind}
use Rattle.command_line.specs.Options.{OptionRow, file_rule, has, option_named, option_rule, options, options_of, subcommand_app}
use Rattle.command_line.proofs.Lists.{found_is, found_passes, left_true, right_true}

-- an option of a subcommand, as building fills it in
abbrev pub filled_option : Kind → OptionRow → Rule
filled_option kind o = filled (option_rule kind o)

-- what each subcommand has besides: FILE and help
abbrev pub others : List Rule
others = filled_from 1 (file_rule ∷ help_rule ∷ [])

-- the rules of a subcommand that is built
abbrev pub built_rules : Text × Kind → List Rule
built_rules it = (built_leaf (subcommand_app it).top).rules

-- building fills in each option, none of which has a position
filled_options : (kind : Kind) (os : List OptionRow) (rest : List Rule) (i : ℕ)
    → filled_from i (map (option_rule kind) os ++ rest) ≡ map (filled_option kind) os ++ filled_from i rest
filled_options kind [] rest i = refl
filled_options kind (o ∷ os) rest i = ap (λ more. filled_option kind o ∷ more) (filled_options kind os rest i)

pub rules_are : (it : Text × Kind) → built_rules it ≡ map (filled_option it.1) (options_of it.1) ++ others
rules_are (name, kind) =
    ap (filled_from 1) (append_assoc (map (option_rule kind) (options_of kind)) (file_rule ∷ []) (help_rule ∷ []))
    ∙ filled_options kind (options_of kind) (file_rule ∷ help_rule ∷ []) 1

-- no two options have the same name
abbrev are_apart : List OptionRow → Bool
are_apart [] = true
are_apart (o ∷ os) = not (list_any (λ p. bytes_eq p.name o.name) os) && are_apart os

both_apart : (b c : Bool) → not (b || c) ≡ true → (b ≡ false) × (not c ≡ true)
both_apart true c apart = absurd (cc)
both_apart false c apart = (refl, apart)

-- those of these options that a subcommand has, built, and what it has besides
abbrev pub rules_with : Kind → List OptionRow → List Rule
rules_with kind os = map (filled_option kind) (filter (λ p. has p.group kind) os) ++ others

absent : (kind : Kind) (os : List OptionRow) (name : Text) → not (list_any (λ p. bytes_eq p.name name) os) ≡ true
    → arg_by_id (rules_with kind os) name ≡ arg_by_id others name
absent kind [] name apart = refl
absent kind (p ∷ ps) name apart =
    let both = both_apart _ _ apart in
    branch (has p.group kind) refl both.0 (absent kind ps name both.1)
  where
    branch : (b : Bool) → has p.group kind ≡ b → bytes_eq p.name name ≡ false → arg_by_id (rules_with kind ps) name ≡ arg_by_id others name
        → arg_by_id (rules_with kind (p ∷ ps)) name ≡ arg_by_id others name
    branch true kept other later = rw (kept, other) later
    branch false left other later = rw left later

-- the rule of this name, if the name is that of the option o
abbrev Finds : Kind → List OptionRow → Text → OptionRow → Type 0
Finds kind os name o = arg_by_id (rules_with kind os) name ≡ (if has o.group kind then Some (filled_option kind o) else arg_by_id others name)

finds_first : (kind : Kind) (o : OptionRow) (os : List OptionRow) (name : Text) → bytes_eq o.name name ≡ true → not (list_any (λ p. bytes_eq p.name name) os) ≡ true
    → Finds kind (o ∷ os) name o
finds_first kind o os name same apart = branch (has o.group kind) refl
  where
    branch : (b : Bool) → has o.group kind ≡ b → Finds kind (o ∷ os) name o
    branch true kept = rw (kept, same) refl
    branch false left = rw left (absent kind os name apart)

finds_later : (kind : Kind) (p : OptionRow) (os : List OptionRow) (name : Text) (o : OptionRow) → bytes_eq p.name name ≡ false → Finds kind os name o
    → Finds kind (p ∷ os) name o
finds_later kind p os name o other later = branch (has p.group kind) refl
  where
    branch : (b : Bool) → has p.group kind ≡ b → Finds kind (p ∷ os) name o
    branch true kept = rw (kept, other) later
    branch false left = rw left later

finds : (kind : Kind) (os : List OptionRow) (name : Text) (o : OptionRow) → are_apart os ≡ true → find (λ p. bytes_eq p.name name) os ≡ Some o
    → Finds kind os name o
finds kind [] name o apart found = absurd (cc)
finds kind (p ∷ ps) name o apart found = branch (bytes_eq p.name name) refl (finds kind ps name o (right_true _ _ apart))
  where
    branch : (b : Bool) → bytes_eq p.name name ≡ b → (find (λ q. bytes_eq q.name name) ps ≡ Some o → Finds kind ps name o) → Finds kind (p ∷ ps) name o
    branch true same later =
        let here = rw same at found in
        let is : p ≡ o = cc in
        let named : p.name ≡ name = (bytes_eq-Decides p.name name).0 same in
        let others_apart = subst (λ (n : Text). not (list_any (λ q. bytes_eq q.name n) ps) ≡ true) named (left_true _ _ apart) in
        subst (λ (z : OptionRow). Finds kind (p ∷ ps) name z) is (finds_first kind p ps name same others_apart)
    branch false other later = finds_later kind p ps name o other (later (rw other at found))

pub has_option : (it : Text × Kind) (name : Text) (o : OptionRow) → option_named name ≡ Some o → has o.group it.1 ≡ true
    → arg_by_id (built_rules it) name ≡ Some (filled_option it.1 o)
has_option (command, kind) name o found kept =
    ap (λ (c : List Rule). arg_by_id c name) (rules_are (command, kind)) ∙ finds kind options name o refl found ∙ rw kept refl

pub has_no_option : (it : Text × Kind) (name : Text) (o : OptionRow) → option_named name ≡ Some o → has o.group it.1 ≡ false
    → arg_by_id (built_rules it) name ≡ arg_by_id others name
has_no_option (command, kind) name o found left =
    ap (λ (c : List Rule). arg_by_id c name) (rules_are (command, kind)) ∙ finds kind options name o refl found ∙ rw left refl

-- no option has the name of what is there besides
pub no_other : (name : Text) (o : OptionRow) → option_named name ≡ Some o → arg_by_id others name ≡ None
no_other name o found =
    let alone = found_passes (λ (p : OptionRow). not (is_some (arg_by_id others p.name))) (λ p. bytes_eq p.name name) options o refl found in
    let same = found_is (λ p. bytes_eq p.name name) options o found in
    let named : o.name ≡ name = (bytes_eq-Decides o.name name).0 same in
    not_there _ (subst (λ (n : Text). not (is_some (arg_by_id others n)) ≡ true) named alone)
  where
    not_there : (a : Option Rule) → not (is_some a) ≡ true → a ≡ None
    not_there None none = refl
    not_there (Some a) none = absurd (cc)
