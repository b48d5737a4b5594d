use Rattle.std.proofs.Common.{◌≡◌, ◌∙◌, ◌++◌, List, [], ◌∷◌, Bool, Bor, false, ap, map, refl}
use Rattle.std.proofs.lemmas.List.{map-append}
use Rattle.std.proofs.lemmas.Result.{IfOk-weaker}
use Rattle.clap.specs.Words.{AddsAliases, Text, rule_of}
use Rattle.clap.specs.declared.builder.arg.Arg.{Arg}
use Rattle.command_line.proofs.options.with_aliases.Goals as goal

-- the names that are added
abbrev names : List (Bor Text × Bool) → List Text
names added = map (λ alias. alias.0.now) added

hidden : (added : List (Bor Text)) → names (map (λ (name : Bor Text). (name, false)) added) ≡ map (λ name. name.now) added
hidden [] = refl
hidden (name ∷ rest) = ap (λ (texts : List Text). name.now ∷ texts) (hidden rest)

-- the rule of an argument has the aliases that are added to it
aliased : (old new : Arg) (added : List (Bor Text)) → AddsAliases old new (map (λ (name : Bor Text). (name, false)) added)
    → rule_of new ≡ record (rule_of old) { aliases = (rule_of old).aliases ++ map (λ name. name.now) added }
aliased old new added adds =
    ap rule_of adds.0
    ∙ ap (λ (texts : List Text). record (rule_of old) { aliases = texts })
    (ap names adds.1
    ∙ map-append _ old.aliases.items (map (λ (name : Bor Text). (name, false)) added)
    ∙ ap (λ (texts : List Text). (rule_of old).aliases ++ texts) (hidden added))

pub returns-clause-rule : goal.returns-clause-rule
returns-clause-rule c = IfOk-weaker c.aliases.result _ _ (λ arg adds. aliased c.args.arg arg c.args.aliases.now adds) c.aliases.ensures
