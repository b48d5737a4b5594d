-- A faultless parse leaves a value for each option of this command.
use Rattle.std.proofs.Common.{◌≡◌, ◌∙◌, ◌≤◌, ◌<◌, ℕ, Bool, List, [], ◌∷◌, Option, Some, None, true, false, length, refl, ap, sym, subst, map, arith, codes, rules}
use Rattle.std.specs.Prelude.{find, is_some, option_map, pos, ◌||◌}
use Rattle.std.specs.List.{AllByRecursion}
use Rattle.std.specs.Option.{option_map_or}
use Rattle.std.specs.Str.{bytes_eq}
use Rattle.std.proofs.lemmas.Slice.Eq.{bytes_eq-Decides}
use Rattle.clap.specs.Simple.{Shape, built, built_leaf, subcommand_rows_of}
use Rattle.clap.specs.Takes.{value_passes, values_pass}
use Rattle.clap.specs.Facts.{parser_of_value}
use Rattle.clap.specs.ValueTests.{accepts}
use Rattle.clap.specs.Values.{IsSignedIn}
use Rattle.clap.specs.declared.builder.value_parser.ValueParser.{ValueParser}
use Rattle.clap.specs.Walk.{Row, Rule, Text, arg_by_id, first_of, has_row, reading_by}
use Rattle.clap.specs.declared.parser.matches.ArgMatches.{ArgMatches}
use Rattle.clap.specs.declared.builder.value_parser.Reading.TheVariants as reading
use Rattle.clap.specs.declared.builder.value_parser.ValueParser.TheVariants as vp
use Rattle.clap.proofs.ValueTestLemmas.{accepts-Accepts}
use Rattle.command_line.specs.Parses.{HasGoodMatches, IsIn, RowOf, RowsOf, first, past}
use Rattle.command_line.specs.declared.destination.Destination.{Destination}
use Rattle.command_line.specs.declared.subcommands.Kind.{Kind}
use Rattle.command_line.specs.declared.subcommands.Kind.TheVariants.{Draw, Write}
use Rattle.command_line.specs.declared.groups.Group.TheVariants as group
use Rattle.command_line.specs.declared.table.Value.{Value}
use Rattle.command_line.specs.declared.table.Value.TheVariants.{Flag, Number, Word}
use Rattle.command_line.specs.Lines.{kind_into, kind_named, number_in, written}
use Rattle.command_line.specs.Options.{OptionRow, has, is_picture, option_named, plot_app, profile, subcommand_app, subcommands}
use Rattle.command_line.specs.Readings.{HasNumber, HasNumbers, HasValues, IsInRange, MayHaveNumber}
use Rattle.command_line.proofs.Lists.{left_true}
use Rattle.command_line.proofs.Rules.{built_rules, filled_option, has_no_option, has_option, no_other, others}

-- a row of an argument: its first value passes, and is read as the argument's parser says
record IsRowOf (a : Rule) (r : Row) : Type 0 where
  text : Text
  more : List Text
  values : r.values ≡ text ∷ more
  passes : value_passes a text ≡ true
  reading : r.reading ≡ reading_by a

first_value : (a : Rule) (r : Row) (vs : List Text) → r.values ≡ vs → 1 ≤ length vs → values_pass a vs ≡ true → r.reading ≡ reading_by a → IsRowOf a r
first_value a r [] is some passes reading = absurd (omega arith)
first_value a r (t ∷ vs) is some passes reading =
    record { text = t; more = vs; values = is; passes = left_true (value_passes a t) (values_pass a vs) passes; reading = reading }

row_of_rule : (c : List Rule) (a : Rule) (name : Text) (r : Row) → arg_by_id c name ≡ Some a → bytes_eq r.id name ≡ true → RowOf c r → IsRowOf a r
row_of_rule c a name r found same row =
    let named : r.id ≡ name = (bytes_eq-Decides r.id name).0 same in
    let both : Some row.rule ≡ Some a = sym row.found ∙ ap (arg_by_id c) named ∙ found in
    let is : row.rule ≡ a = cc in
    first_value a r r.values refl row.some (subst (λ (x : Rule). values_pass x r.values ≡ true) is row.passes) (row.reading ∙ ap reading_by is)

-- the first row of an argument
record FirstRow (a : Rule) (name : Text) (rows : List Row) : Type 0 where
  row : Row
  found : find (λ (r : Row). bytes_eq r.id name) rows ≡ Some row
  good : IsRowOf a row

first_row : (c : List Rule) (a : Rule) (name : Text) (rows : List Row) → arg_by_id c name ≡ Some a → AllByRecursion (RowOf c) rows → has_row name rows ≡ true → FirstRow a name rows
first_row c a name [] found all has = absurd (cc)
first_row c a name (r ∷ rest) found all has =
    branch (bytes_eq r.id name) refl has (λ more. first_row c a name rest found all.1 more)
  where
    branch : (b : Bool) → bytes_eq r.id name ≡ b → (b || has_row name rest) ≡ true → (has_row name rest ≡ true → FirstRow a name rest) → FirstRow a name (r ∷ rest)
    branch true same has later = record { row = r; found = rw same refl; good = row_of_rule c a name r found same all.0 }
    branch false other has later =
        let next = later has in
        record { row = next.row; found = rw other next.found; good = next.good }

-- a value of an argument with this parser is a number in the parser's range
within_range : (ignore_case : Bool) (parser : Option ValueParser) (low high : ℕ) (text : Text) → parser ≡ Some (vp.Signed (pos low) (pos high))
    → accepts ignore_case (parser_of_value parser) text ≡ true → IsSignedIn (pos low) (pos high) text
within_range ignore_case parser low high text is passes =
    accepts-Accepts ignore_case (vp.Signed (pos low) (pos high)) text (rw is at passes)

number_there : (c : List Rule) (a : Rule) (name : Text) (rows : List Row) (low high : ℕ) → arg_by_id c name ≡ Some a → a.parser ≡ Some (vp.Signed (pos low) (pos high))
    → AllByRecursion (RowOf c) rows → has_row name rows ≡ true → HasNumber rows name low high
number_there c a name rows low high found parser all has =
    let met = first_row c a name rows found all has in
    let text = met.good.text in
    let how : met.row.reading ≡ reading.WithoutMinus = met.good.reading ∙ rw parser refl in
    record {
      text = text;
      given = rw (met.found, met.good.values, how) refl;
      within = within_range a.ignore_case a.parser low high text parser met.good.passes;
    }

text_there : (c : List Rule) (a : Rule) (name : Text) (rows : List Row) → arg_by_id c name ≡ Some a → AllByRecursion (RowOf c) rows → has_row name rows ≡ true
    → is_some (first_of name rows) ≡ true
text_there c a name rows found all has =
    let met = first_row c a name rows found all has in
    rw (met.found, met.good.values) refl

-- an argument that has a number has a row
row_there : (name : Text) (rows : List Row) → is_some (number_in rows name) ≡ true → has_row name rows ≡ true
row_there name [] has = absurd (cc)
row_there name (r ∷ rest) has = branch (bytes_eq r.id name) refl (row_there name rest)
  where
    branch : (b : Bool) → bytes_eq r.id name ≡ b → (is_some (number_in rest name) ≡ true → has_row name rest ≡ true) → has_row name (r ∷ rest) ≡ true
    branch true same later = rw same refl
    branch false other later = rw other (later (rw other at has))

number_if_there : (c : List Rule) (a : Rule) (name : Text) (rows : List Row) (low high : ℕ) → arg_by_id c name ≡ Some a → a.parser ≡ Some (vp.Signed (pos low) (pos high))
    → AllByRecursion (RowOf c) rows → MayHaveNumber rows name low high
number_if_there c a name rows low high found parser all = λ given. number_there c a name rows low high found parser all (row_there name rows given)

-- a row is none of an option that a subcommand does not have
no_row : (c : List Rule) (name : Text) (rows : List Row) → arg_by_id c name ≡ None → AllByRecursion (RowOf c) rows → has_row name rows ≡ true → ⊥
no_row c name [] unknown all has = absurd (cc)
no_row c name (r ∷ rest) unknown all has = branch (bytes_eq r.id name) refl has (no_row c name rest unknown all.1)
  where
    branch : (b : Bool) → bytes_eq r.id name ≡ b → (b || has_row name rest) ≡ true → (has_row name rest ≡ true → ⊥) → ⊥
    branch true same has later =
        let named : r.id ≡ name = (bytes_eq-Decides r.id name).0 same in
        let both : Some all.0.rule ≡ None = sym all.0.found ∙ ap (arg_by_id c) named ∙ unknown in
        absurd (cc)
    branch false other has later = later has

-- so it has no number
no_number : (c : List Rule) (name : Text) (rows : List Row) (low high : ℕ) → arg_by_id c name ≡ None → AllByRecursion (RowOf c) rows → MayHaveNumber rows name low high
no_number c name rows low high unknown all = λ given. absurd (no_row c name rows unknown all (row_there name rows given))

-- an option with a default has a row
row_by_default : (c : List Rule) (a : Rule) (name : Text) (rows : List Row) → arg_by_id c name ≡ Some a → 0 < length a.defaults
    → AllByRecursion (λ (b : Rule). 0 < length b.defaults → has_row b.id rows ≡ true) c → has_row name rows ≡ true
row_by_default [] a name rows found some all = absurd (cc)
row_by_default (b ∷ bs) a name rows found some all = branch (bytes_eq b.id name) refl (λ more. row_by_default bs a name rows more some all.1)
  where
    branch : (t : Bool) → bytes_eq b.id name ≡ t → (arg_by_id bs name ≡ Some a → has_row name rows ≡ true) → has_row name rows ≡ true
    branch true same later =
        let here = rw same at found in
        let is : a ≡ b = cc in
        let named : b.id ≡ name = (bytes_eq-Decides b.id name).0 same in
        subst (λ (n : Text). has_row n rows ≡ true) named (all.0 (subst (λ (x : Rule). 0 < length x.defaults) is some))
    branch false other later = later (rw other at found)

-- an option of the table with a number has one in its range, if it has one at all
number_in_range : (it : Text × Kind) (rows : List Row) → RowsOf (built_rules it) rows → (name : Text) (o : OptionRow) (low high : ℕ) → option_named name ≡ Some o
    → o.value ≡ Number low high → arg_by_id others name ≡ None → MayHaveNumber rows name low high
number_in_range it rows good name o low high found takes alone = branch (has o.group it.1) refl
  where
    branch : (b : Bool) → has o.group it.1 ≡ b → MayHaveNumber rows name low high
    branch true kept = number_if_there (built_rules it) (filled_option it.1 o) name rows low high (has_option it name o found kept) (rw takes refl) good.each
    branch false left = no_number (built_rules it) name rows low high (has_no_option it name o found left ∙ alone) good.each

-- an option of the subcommand with a default has a row
default_there : (it : Text × Kind) (rows : List Row) → RowsOf (built_rules it) rows → (name : Text) (o : OptionRow) → option_named name ≡ Some o
    → has o.group it.1 ≡ true → 0 < length (filled_option it.1 o).defaults → has_row name rows ≡ true
default_there it rows good name o found kept some =
    row_by_default (built_rules it) (filled_option it.1 o) name rows (has_option it name o found kept) some good.defaults

number_by_default : (it : Text × Kind) (rows : List Row) → RowsOf (built_rules it) rows → (name : Text) (o : OptionRow) (low high : ℕ) → option_named name ≡ Some o
    → has o.group it.1 ≡ true → 0 < length (filled_option it.1 o).defaults → o.value ≡ Number low high → HasNumber rows name low high
number_by_default it rows good name o low high found kept some takes =
    number_there (built_rules it) (filled_option it.1 o) name rows low high (has_option it name o found kept) (rw takes refl) good.each
    (default_there it rows good name o found kept some)

text_by_default : (it : Text × Kind) (rows : List Row) → RowsOf (built_rules it) rows → (name : Text) (o : OptionRow) → option_named name ≡ Some o
    → has o.group it.1 ≡ true → 0 < length (filled_option it.1 o).defaults → is_some (first_of name rows) ≡ true
text_by_default it rows good name o found kept some =
    text_there (built_rules it) (filled_option it.1 o) name rows (has_option it name o found kept) good.each
    (default_there it rows good name o found kept some)

-- the profile has a default, whichever the subcommand is
profile_default : (kind : Kind) → 0 < length (filled_option kind profile).defaults
profile_default (Draw destination) = omega arith
profile_default (Write output) = omega arith

numbers_there : (it : Text × Kind) (rows : List Row) → RowsOf (built_rules it) rows → HasNumbers rows
numbers_there it rows good = record {
  within = λ name. within name (option_named name) refl;
  left = number_by_default it rows good (codes "left") _ 0 65536 refl refl (omega arith) refl;
  below = number_by_default it rows good (codes "below") _ 0 65536 refl refl (omega arith) refl;
}
  where
    by_value : (name : Text) (o : OptionRow) (v : Value) → option_named name ≡ Some o → o.value ≡ v → IsInRange (Some v) name rows
    by_value name o (Number low high) found takes = number_in_range it rows good name o low high found takes (no_other name o found)
    by_value name o Word found takes = tt
    by_value name o Flag found takes = tt

    within : (name : Text) (o : Option OptionRow) → option_named name ≡ o → IsInRange (option_map (λ p. p.value) o) name rows
    within name None none = tt
    within name (Some o) found = by_value name o o.value found refl

-- what writes a picture has pens
has_pens : (destination : Destination) (kind : Kind) (rows : List Row) → option_map_or is_picture (written (kind_into destination kind) rows) false ≡ true
    → has group.Pictures kind ≡ true
has_pens destination (Draw _) rows is = refl
has_pens destination (Write output) rows is = is

values_of : (destination : Destination) (it : Text × Kind) (rows : List Row) → RowsOf (built_rules it) rows → HasValues (kind_into destination it.1) rows
values_of destination it rows good = record {
  pens = λ is. text_by_default it rows good (codes "pens") _ refl (has_pens destination it.1 rows is) (omega arith);
  numbers = numbers_there it rows good;
  profile = text_by_default it rows good (codes "profile") _ refl refl (profile_default it.1);
}

-- the rows of a subcommand give its options values, whatever its output goes into
abbrev Reads : Shape → Type 0
Reads command = (destination : Destination) (kind : Kind) → kind_named command.name ≡ Some kind → (rows : List Row) → RowsOf command.rules rows
    → HasValues (kind_into destination kind) rows

-- the name of a row of the table is that of this row
abbrev IsNamed : Text × Kind → Type 0
IsNamed it = kind_named it.0 ≡ Some it.1

all_named : AllByRecursion IsNamed subcommands
all_named = search rules

same_kind : (k l : Kind) → Some k ≡ Some l → k ≡ l
same_kind k l same = cc

-- what a subcommand's rows give is the same whatever says which one it is
row_reads : (it : Text × Kind) → IsNamed it → Reads (built_leaf (subcommand_app it).top)
row_reads (name, k) named destination kind is rows good =
    subst (λ (l : Kind). HasValues (kind_into destination l) rows) (same_kind _ _ (sym named ∙ is)) (values_of destination (name, k) rows good)

reads : (its : List (Text × Kind)) → AllByRecursion IsNamed its → AllByRecursion Reads (map (λ (it : Text × Kind). built_leaf (subcommand_app it).top) its)
reads [] named = tt
reads (it ∷ its) named = (row_reads it named.0, reads its named.1)

each_reads : AllByRecursion Reads (built plot_app).subs
each_reads = reads subcommands all_named

-- each subcommand has a name of the table
abbrev HasName : Shape → Type 0
HasName command = is_some (kind_named command.name) ≡ true

row_name : (it : Text × Kind) → IsNamed it → HasName (built_leaf (subcommand_app it).top)
row_name (name, kind) named = ap is_some named

names : (its : List (Text × Kind)) → AllByRecursion IsNamed its → AllByRecursion HasName (map (λ (it : Text × Kind). built_leaf (subcommand_app it).top) its)
names [] named = tt
names (it ∷ its) named = (row_name it named.0, names its named.1)

each_name : AllByRecursion HasName (built plot_app).subs
each_name = names subcommands all_named

in_all : {X : Type 0} (P : X → Type 0) (x : X) (xs : List X) → IsIn x xs → AllByRecursion P xs → P x
in_all P x _ (first xs) all = all.0
in_all P x _ (past y xs at) all = in_all P x xs at all.1

same_pair : (p q : Text × List Row) → Some p ≡ Some q → p ≡ q
same_pair p q same = cc

pub values_there : (destination : Destination) (words : List Text) (m : ArgMatches) (name : Text) (rows : List Row) (kind : Kind) → HasGoodMatches plot_app words m
    → subcommand_rows_of m ≡ Some (name, rows) → kind_named name ≡ Some kind → HasValues (kind_into destination kind) rows
values_there destination words m name rows kind good are named =
    let to = good.to in
    let pair = same_pair _ _ (sym good.rows_are ∙ are) in
    let here = in_all Reads to.command (built plot_app).subs to.known each_reads in
    subst (λ (p : Text × List Row). kind_named p.0 ≡ Some kind → HasValues (kind_into destination kind) p.1) pair (λ is. here destination kind is to.rows to.good) named

pub name_there : (words : List Text) (m : ArgMatches) (name : Text) (rows : List Row) → HasGoodMatches plot_app words m
    → subcommand_rows_of m ≡ Some (name, rows) → is_some (kind_named name) ≡ true
name_there words m name rows good are =
    let to = good.to in
    let pair = same_pair _ _ (sym good.rows_are ∙ are) in
    subst (λ (p : Text × List Row). is_some (kind_named p.0) ≡ true) pair (in_all HasName to.command (built plot_app).subs to.known each_name)
