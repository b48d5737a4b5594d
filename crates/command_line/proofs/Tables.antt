-- A command that gets the options of the table one by one has those of its subcommand.
use Rattle.std.proofs.Common.{◌≡◌, ◌∙◌, ◌++◌, ◌+◌, ◌<◌, ℕ, Bool, List, [], ◌∷◌, get_or, length, take, true, false, map, refl, ap, ap₂, sym, append_assoc, append-nil}
use Rattle.std.specs.Prelude.{filter, fold}
use Rattle.std.proofs.lemmas.List.Sums.{fold_more}
use Rattle.clap.specs.Words.{App, Rule, Text, new_app, with_rule}
use Rattle.command_line.specs.declared.subcommands.Kind.{Kind}
use Rattle.command_line.specs.declared.table.OptionRow.{OptionRow as CodeRow}
use Rattle.command_line.specs.Options.{OptionRow, file_rule, has, option_rule, options, subcommand_app}
use Rattle.command_line.specs.Tables.{add_option, row_of}

abbrev with_options : Kind → App → List OptionRow → App
with_options kind app os = record app {
  top = record app.top { rules = app.top.rules ++ map (option_rule kind) (filter (λ o. has o.group kind) os) };
}

added : (kind : Kind) (app : App) (rows : List CodeRow) → fold (λ a row. add_option kind a (row_of row)) app rows ≡ with_options kind app (map row_of rows)
added kind app [] = ap (λ (rules : List Rule). record app { top = record app.top { rules = rules } }) (sym (append-nil app.top.rules))
added kind app (row ∷ rows) = branch (has row.group kind) refl (λ next. added kind next rows)
  where
    branch : (b : Bool) → has row.group kind ≡ b
        → ((next : App) → fold (λ a more. add_option kind a (row_of more)) next rows ≡ with_options kind next (map row_of rows))
        → fold (λ a more. add_option kind a (row_of more)) app (row ∷ rows) ≡ with_options kind app (map row_of (row ∷ rows))
    branch true kept later =
        let rule = option_rule kind (row_of row) in
        let more = map (option_rule kind) (filter (λ o. has o.group kind) (map row_of rows)) in
        rw kept (later (with_rule app rule) ∙ ap (λ (rules : List Rule). record app { top = record app.top { rules = rules } }) (append_assoc app.top.rules (rule ∷ []) more))
    branch false left later = rw left (later app)

-- a command with the options of a table that stands for the table of the definitions, and FILE
pub whole : (kind : Kind) (name : Text) (rows : List CodeRow) (bare command : App) (rule : Rule) → bare ≡ new_app name
    → command ≡ fold (λ a row. add_option kind a (row_of row)) bare rows → rule ≡ file_rule → map row_of rows ≡ options → with_rule command rule ≡ subcommand_app (name, kind)
whole kind name rows bare command rule bare_is command_is rule_is table =
    let all = command_is
    ∙ ap (λ (a : App). fold (λ b row. add_option kind b (row_of row)) a rows) bare_is
    ∙ added kind (new_app name) rows
    ∙ ap (with_options kind (new_app name)) table in
    ap₂ with_rule all rule_is

-- a command with one option more of a table
pub one_more : (kind : Kind) (first before after : App) (rows : List CodeRow) (i : ℕ) (d : CodeRow)
    → before ≡ fold (λ a row. add_option kind a (row_of row)) first (take i rows)
    → after ≡ add_option kind before (row_of (get_or rows i d)) → i < length rows
    → after ≡ fold (λ a row. add_option kind a (row_of row)) first (take (i + 1) rows)
one_more kind first before after rows i d before_is after_is less =
    after_is
    ∙ ap (λ (a : App). add_option kind a (row_of (get_or rows i d))) before_is
    ∙ sym (fold_more (λ a row. add_option kind a (row_of row)) first rows i d less)
