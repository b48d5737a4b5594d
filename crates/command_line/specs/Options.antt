-- The subcommands and options of `plotraster`, as `clap` sees them.
use Rattle.std.specs.Prelude.{◌≡◌, ◌++◌, ℕ, Bool, List, [], ◌∷◌, Option, Some, None, codes, pos, true, false, filter, find, fold, map, option_map, option_to_list}
use Rattle.std.specs.Str.{bytes_eq}
use Rattle.clap.specs.Words.{App, Rule, Text, app_of, new_app, new_rule, with_subcommand}
use Rattle.clap.specs.declared.builder.command.Command.{Command}
use Rattle.clap.specs.declared.builder.command.Command.TheViews.{out-Command}
use Rattle.clap.specs.declared.builder.action.ArgAction.{ArgAction}
use Rattle.clap.specs.declared.builder.action.ArgAction.TheVariants.{Set, SetTrue, Append}
use Rattle.clap.specs.declared.builder.value_parser.ValueParser.{ValueParser}
use Rattle.clap.specs.declared.builder.value_parser.ValueParser.TheVariants as vp
use Rattle.picture_job.specs.declared.vector_job.VectorFormat.TheVariants.{Dxf, Pdf, Svg}
use Rattle.picture_out.specs.declared.form.Form.TheVariants.{Marks, Pbm, Ppm, Pcl}
use Rattle.command_line.specs.declared.subcommands.Kind.{Kind}
use Rattle.command_line.specs.declared.destination.Destination.TheVariants.{File}
use Rattle.command_line.specs.declared.subcommands.Kind.TheVariants.{Draw, Write}
use Rattle.command_line.specs.declared.subcommands.Output.{Output}
use Rattle.command_line.specs.declared.subcommands.Output.TheVariants.{Picture, Png, Report, Vector}
use Rattle.command_line.specs.declared.groups.Group.{Group}
use Rattle.command_line.specs.declared.groups.Group.TheVariants as group
use Rattle.command_line.specs.declared.table.Value.{Value}
use Rattle.command_line.specs.declared.table.Value.TheVariants.{Flag, Number, Word}

-- ---- groups of subcommands

-- a picture
abbrev pub is_picture : Output → Bool
is_picture (Picture form) = true
is_picture Png = true
is_picture (Vector format) = true
is_picture Report = false

-- a picture of pixels
abbrev pub is_raster : Output → Bool
is_raster (Picture form) = true
is_raster Png = true
is_raster (Vector format) = false
is_raster Report = false

-- what may be smoothed
abbrev pub is_smoothed : Output → Bool
is_smoothed (Picture Ppm) = true
is_smoothed Png = true
is_smoothed _ = false

-- what has labels as texts in place of their strokes
abbrev pub has_texts : Output → Bool
has_texts (Vector Dxf) = true
has_texts _ = false

-- a picture whose rows are independent
abbrev pub has_rows : Output → Bool
has_rows (Picture form) = true
has_rows _ = false

-- a picture for printers
abbrev pub is_pcl : Output → Bool
is_pcl (Picture Pcl) = true
is_pcl _ = false

-- draw is in the group
abbrev pub has_draw : Group → Bool
has_draw group.Rows = false
has_draw group.Pcl = false
has_draw _ = true

-- what writes this is in the group
abbrev pub has_output : Group → Output → Bool
has_output group.All output = true
has_output group.Draw output = false
has_output group.Pictures output = is_picture output
has_output group.Rasters output = is_raster output
has_output group.Smoothed output = is_smoothed output
has_output group.Texts output = has_texts output
has_output group.Rows output = has_rows output
has_output group.Pcl output = is_pcl output

-- a subcommand is in the group
abbrev pub has : Group → Kind → Bool
has group.All kind = true
has it (Draw destination) = has_draw it
has it (Write output) = has_output it output

-- ---- the table

-- an option: its name, the subcommands that have it, what it takes, what it has if it is not given, its short name, and
-- other spellings
pub record OptionRow : Type 0 where
  pub name : Text
  pub group : Group
  pub value : Value
  -- each for a group, of which the first that has the subcommand decides
  pub defaults : List (Group × Text)
  pub short : Option ℕ
  pub aliases : List Text

-- an option without a default
abbrev pub option : Text → Group → Value → OptionRow
option name who value =
    record { name = name; group = who; value = value; defaults = []; short = None; aliases = [] }

-- an option with this default
abbrev pub option_or : Text → Text → Group → Value → OptionRow
option_or default name who value = record (option name who value) { defaults = (group.All, default) ∷ [] }

-- the option for how the plot is read
abbrev pub profile : OptionRow
profile = record (option (codes "profile") group.All Word) {
  defaults = (group.Draw, codes "full") ∷ (group.All, codes "core") ∷ [];
}

-- all options, in the order of the help
abbrev pub options : List OptionRow
options =
    option (codes "width") group.All (Number 64 524288)
    ∷ option (codes "height") group.All (Number 64 524288)
    ∷ option (codes "page") group.All Word
    ∷ option_or (codes "0") (codes "left") group.All (Number 0 65536)
    ∷ option_or (codes "0") (codes "below") group.All (Number 0 65536)
    ∷ option (codes "fit") group.All Flag
    ∷ option (codes "margin") group.All (Number 0 100)
    ∷ option (codes "rotate") group.All Word
    ∷ profile
    ∷ option (codes "sheet") group.All Word
    ∷ option (codes "characters") group.All Word
    ∷ record (option (codes "output") group.All Word) { short = Some 111 }
    ∷ option (codes "verbose") group.All Flag
    ∷ record (option (codes "colours") group.All Word) { aliases = codes "colors" ∷ [] }
    ∷ option (codes "widths") group.All Word
    ∷ option (codes "dots") group.Rasters (Number 10 1200)
    ∷ option_or (codes "all") (codes "pens") group.Pictures Word
    ∷ option (codes "progress") group.Rasters Flag
    ∷ option (codes "size") group.Draw (Number 16 20000)
    ∷ option (codes "smooth") group.Smoothed (Number 1 8)
    ∷ option (codes "labels") group.Texts Word
    ∷ option (codes "form") group.Draw Word
    ∷ option (codes "quiet") group.Draw Flag
    ∷ option_or (codes "64") (codes "band") group.Rows (Number 1 4096)
    ∷ option_or (codes "0") (codes "from") group.Rows (Number 0 399999)
    ∷ option (codes "rows") group.Rows (Number 1 400000)
    ∷ []

-- what the option of this name takes
abbrev pub option_named : Text → Option OptionRow
option_named name = find (λ o. bytes_eq o.name name) options

abbrev pub value_named : Text → Option Value
value_named name = option_map (λ o. o.value) (option_named name)

-- ---- what `clap` sees

-- the default of a subcommand
abbrev pub default_of : Kind → List (Group × Text) → Option Text
default_of kind defaults = option_map (λ it. it.1) (find (λ it. has it.0 kind) defaults)

-- what `clap` does with a use, how many values it has, and how they are read
abbrev pub action_of : Value → ArgAction
action_of Flag = SetTrue
action_of _ = Set

abbrev pub values_of : Value → ℕ
values_of Flag = 0
values_of _ = 1

abbrev pub parser_of : Value → Option ValueParser
parser_of Word = Some vp.String
parser_of (Number low high) = Some (vp.Signed (pos low) (pos high))
parser_of Flag = None

-- an option of a subcommand: `--NAME VALUE` or `--NAME`, at most once
abbrev pub option_rule : Kind → OptionRow → Rule
option_rule kind o = record (new_rule o.name) {
  long = Some o.name;
  aliases = o.aliases;
  short = o.short;
  action = Some (action_of o.value);
  value_names = values_of o.value;
  defaults = option_to_list (default_of kind o.defaults);
  parser = parser_of o.value;
}

-- FILE, each word that is neither an option nor a subcommand
abbrev pub file_rule : Rule
file_rule = record (new_rule (codes "FILE")) { action = Some Append }

-- the options of a subcommand
abbrev pub options_of : Kind → List OptionRow
options_of kind = filter (λ o. has o.group kind) options

-- a subcommand takes its options, and the names of files
abbrev pub rules_of : Kind → List Rule
rules_of kind = map (option_rule kind) (options_of kind) ++ file_rule ∷ []

abbrev pub subcommand_app : Text × Kind → App
subcommand_app (name, kind) =
    let a = new_app name in
    record a { top = record a.top { rules = rules_of kind } }

-- `plotraster` itself: it has a version, a subcommand has to be named, and `help` is none
abbrev pub top_app : App
top_app =
    let a = new_app (codes "plotraster") in
    record a { top = record a.top { has_version = true; subcommand_required = true; disable_help_subcommand = true } }

-- the subcommands: their names, and what they do
abbrev pub subcommands : List (Text × Kind)
subcommands =
    (codes "draw", Draw File)
    ∷ (codes "png", Write Png)
    ∷ (codes "pdf", Write (Vector Pdf))
    ∷ (codes "svg", Write (Vector Svg))
    ∷ (codes "dxf", Write (Vector Dxf))
    ∷ (codes "marks", Write (Picture Marks))
    ∷ (codes "pbm", Write (Picture Pbm))
    ∷ (codes "ppm", Write (Picture Ppm))
    ∷ (codes "pcl", Write (Picture Pcl))
    ∷ (codes "report", Write Report)
    ∷ []

abbrev pub add_subcommand : App → Text × Kind → App
add_subcommand app it = with_subcommand app (subcommand_app it).top

-- `plotraster`
abbrev pub plot_app : App
plot_app = fold add_subcommand top_app subcommands

-- the command is a, and has no global argument
pub record IsOf (a : App) (c : Command) : Type 0 where
  pub app : app_of c ≡ a
  pub local : (out-Command c).has_globals ≡ false
