-- The law of parses, for the command of the program.
use Rattle.std.proofs.Common.{◌≡◌, ◌∙◌, ◌≤◌, ◌++◌, ◌⊎◌, Bool, List, [], ◌∷◌, Option, Some, None, true, false, length, map, refl, inl, inr, sym, subst, rules, Result, Ok, Err, IfOk}
use Rattle.std.specs.Prelude.{not, ◌&&◌, option_to_list}
use Rattle.std.specs.List.{AllByRecursion, list_all}
use Rattle.std.specs.Str.{bytes_eq}
use Rattle.std.proofs.lemmas.Slice.Eq.{bytes_eq-Decides}
use Rattle.clap.specs.Simple.{HasMatchesOf, built, built_leaf, filled}
use Rattle.clap.specs.Walk.{Rule, Text, arg_by_id}
use Rattle.clap.specs.Faults.{fault_of}
use Rattle.clap.specs.Kinds.{FailsBy}
use Rattle.clap.specs.declared.builder.action.ArgAction.TheVariants.{Help}
use Rattle.clap.specs.declared.error.Error.{Error}
use Rattle.clap.specs.declared.parser.matches.ArgMatches.{ArgMatches}
use Rattle.command_line.specs.Parses.{HasGoodMatches, IsFlag, IsSingle, IsSingleShape, TakesMore, TakesOne}
use Rattle.command_line.proofs.ParseLaw.{parse_good}
use Rattle.command_line.specs.declared.subcommands.Kind.{Kind}
use Rattle.command_line.specs.declared.table.Value.{Value}
use Rattle.command_line.specs.declared.table.Value.TheVariants.{Flag, Number, Word}
use Rattle.command_line.specs.Options.{OptionRow, option_rule, options_of, plot_app, subcommand_app, subcommands}
use Rattle.command_line.proofs.Lists.{all_both, all_mapped, all_pass, left_true, right_true}
use Rattle.command_line.proofs.Rules.{built_rules, filled_option, others, rules_are}

-- a rule takes one value at a use, is a flag, or asks for help, and has one default at most
record IsUsedSingly (a : Rule) : Type 0 where
  kind : TakesOne a ⊎ (IsFlag a ⊎ (TakesMore a ⊎ (a.action ≡ Some Help)))
  defaults : length a.defaults ≤ 1

-- each option is, by what it takes
use_of : (kind : Kind) (o : OptionRow) (v : Value) → o.value ≡ v → (λ (a : Rule). TakesOne a ⊎ (IsFlag a ⊎ (TakesMore a ⊎ (a.action ≡ Some Help)))) (filled_option kind o)
use_of kind o Word is = inl (record { sets = rw is refl; takes = rw is refl })
use_of kind o (Number low high) is = inl (record { sets = rw is refl; takes = rw is refl })
use_of kind o Flag is = inr (inl (record { sets = rw is refl; takes = rw is refl; stands = rw is refl }))

defaults_of : (kind : Kind) (o : OptionRow) (v : Value) (default : Option Text) → o.value ≡ v
    → length (filled (record (option_rule kind o) { defaults = option_to_list default })).defaults ≤ 1
defaults_of kind o Word None is = rw is (search rules)
defaults_of kind o (Number low high) None is = rw is (search rules)
defaults_of kind o Flag None is = rw is (search rules)
defaults_of kind o v (Some text) is = search rules

option_single : (kind : Kind) (o : OptionRow) → IsUsedSingly (filled_option kind o)
option_single kind o = record { kind = use_of kind o o.value refl; defaults = defaults_of kind o o.value _ refl }

options_single : (kind : Kind) (os : List OptionRow) → AllByRecursion IsUsedSingly (map (filled_option kind) os ++ others)
options_single kind [] = (
  record { kind = inr (inr (inl (record { appends = refl; takes = refl }))); defaults = search rules },
  (record { kind = inr (inr (inr refl)); defaults = search rules }, tt),
)
options_single kind (o ∷ os) = (option_single kind o, options_single kind os)

-- no two rules have the same name
abbrev are_distinct : List Rule → Bool
are_distinct [] = true
are_distinct (a ∷ rest) = list_all (λ b. not (bytes_eq a.id b.id)) rest && are_distinct rest

is_itself : (a : Text) → bytes_eq a a ≡ true
is_itself a = (bytes_eq-Decides a a).1 refl

is_not : (b : Bool) → not b ≡ true → b ≡ false
is_not true is = absurd (cc)
is_not false is = refl

-- so each is found by its name
found_past : (a : Rule) (c rest : List Rule) → list_all (λ b. not (bytes_eq a.id b.id)) rest ≡ true → AllByRecursion (λ b. arg_by_id c b.id ≡ Some b) rest
    → AllByRecursion (λ b. arg_by_id (a ∷ c) b.id ≡ Some b) rest
found_past a c [] apart found = tt
found_past a c (b ∷ rest) apart found =
    let other : bytes_eq a.id b.id ≡ false = is_not (bytes_eq a.id b.id) (left_true _ _ apart) in (
      rw other found.0,
      found_past a c rest (right_true _ _ apart) found.1,
    )

found_there : (c : List Rule) → are_distinct c ≡ true → AllByRecursion (λ a. arg_by_id c a.id ≡ Some a) c
found_there [] distinct = tt
found_there (a ∷ rest) distinct =
    let same : bytes_eq a.id a.id ≡ true = is_itself a.id in (
      rw same refl,
      found_past a rest rest (left_true _ _ distinct) (found_there rest (right_true _ _ distinct)),
    )

single : (it : Text × Kind) → are_distinct (built_rules it) ≡ true → IsSingleShape (built_leaf (subcommand_app it).top)
single (name, kind) distinct =
    let all = subst (AllByRecursion IsUsedSingly) (sym (rules_are (name, kind))) (options_single kind (options_of kind)) in
    record {
      single = all_both (λ a. arg_by_id (built_rules (name, kind)) a.id ≡ Some a) IsUsedSingly (IsSingle (built_rules (name, kind)))
          (λ a found used. record { found = found; kind = used.kind; defaults = used.defaults })
          (built_rules (name, kind)) (found_there (built_rules (name, kind)) distinct) all;
      no_again = refl;
    }

all_single : AllByRecursion IsSingleShape (built plot_app).subs
all_single =
    all_mapped (λ (it : Text × Kind). built_leaf (subcommand_app it).top) IsSingleShape subcommands
    (all_pass (λ it. are_distinct (built_rules it)) (λ it. IsSingleShape (built_leaf (subcommand_app it).top)) single subcommands refl)

pub plot_parses : (words : List Text) (m : ArgMatches) → fault_of plot_app words ≡ [] → HasMatchesOf plot_app words m → HasGoodMatches plot_app words m
plot_parses words m none given =
    let to = parse_good plot_app words all_single refl none in
    record { to = to; rows_are = (given refl).1 ∙ to.is }

pub parsed_good : (words : List Text) (r : Result ArgMatches Error) → FailsBy (fault_of plot_app words) r → IfOk r (HasMatchesOf plot_app words) → IfOk r (HasGoodMatches plot_app words)
parsed_good words (Ok m) none given = plot_parses words m none given
parsed_good words (Err e) some given = tt
