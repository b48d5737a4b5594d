-- How the code's table of options stands for that of the definitions, and how a command gets its options one by one.
use Rattle.std.specs.Prelude.{Some, map, if◌then◌else◌}
use Rattle.clap.specs.Words.{App, Rule, Text, new_rule, with_rule}
use Rattle.clap.specs.declared.builder.action.ArgAction.TheVariants.{Set, SetTrue}
use Rattle.clap.specs.declared.builder.value_parser.ValueParser.{ValueParser}
use Rattle.command_line.specs.declared.subcommands.Kind.{Kind}
use Rattle.command_line.specs.declared.table.OptionRow.{OptionRow as CodeRow}
use Rattle.command_line.specs.declared.table.Value.{Value}
use Rattle.command_line.specs.Options.{OptionRow, action_of, has, option_rule, parser_of, values_of}

-- what a row of the code says
abbrev pub row_of : CodeRow → OptionRow
row_of row = record {
  name = row.name.now;
  group = row.group;
  value = row.value;
  defaults = map (λ it. (it.0, it.1.now)) row.defaults.now;
  short = row.short;
  aliases = map (λ name. name.now) row.aliases.now;
}

-- a command with an option more, if the subcommand has it
abbrev pub add_option : Kind → App → OptionRow → App
add_option kind app o = if has o.group kind then with_rule app (option_rule kind o) else app

-- `--NAME VALUE`, at most once, with a parser
abbrev pub bare_rule : Text → ValueParser → Rule
bare_rule name parser = record (new_rule name) {
  long = Some name;
  action = Some Set;
  value_names = 1;
  parser = Some parser;
}

-- `--NAME`, at most once
abbrev pub flag_rule : Text → Rule
flag_rule name = record (new_rule name) { long = Some name; action = Some SetTrue }

-- an option that takes this, without a default and by one name
abbrev pub value_rule : Text → Value → Rule
value_rule name value = record (new_rule name) {
  long = Some name;
  action = Some (action_of value);
  value_names = values_of value;
  parser = parser_of value;
}
