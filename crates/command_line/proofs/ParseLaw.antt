-- A parse with no fault gives rows that pass.
use Rattle.std.proofs.Common.{◌≡◌, ◌<◌, ◌≤◌, ℕ, rules, zero, suc, true, false, Bool, List, [], ◌∷◌, ◌++◌, Option, Some, None, length, refl, ap, sym, ◌∙◌, subst, inl, inr, arith, cond, ◌&&◌, ◌||◌, drop}
use Rattle.std.specs.List.{AllByRecursion}
use Rattle.std.specs.Prelude.{not}
use Rattle.std.specs.Option.{option_map_or}
use Rattle.std.proofs.lemmas.List.{length-append}
use Rattle.std.proofs.lemmas.Slice.Eq.{bytes_eq-Decides}
use Rattle.std.specs.Prelude.{find, fold, encode_utf8, slice_get, is_some}
use Rattle.std.specs.Str.{bytes_eq, chars}
use Rattle.clap.specs.Lexer.{long_of, short_of}
use Rattle.clap.specs.Walk.{Row, Rule, Text, Held, Names, Outcome, Step, Walk, Waiting, arg_by_id, arg_by_long, arg_by_short, arg_by_index, has_row, action_of, used, more_values, at_row, settled, settled_rows, used_by_id, has_short, has_long, reacted, reading_by, values_or_missing, takes_values, most_values, takes_several, is_pending, option_met, flag_met, long_met, short_met, attached_value, bundle_step, bundle_met, bundle, after_flag, plain_word, option_word, short_or_plain, long_or_other, subcommand_or_other, subcommand_met, word_met, to_positional, after_step, walked, walked_from, walk, default_rows, with_default, is_empty, nothing_held, rows_after, walk_from, pushed, is_append}
use Rattle.clap.specs.Walk.{done, waits, plain, refused, idle, option, positional, next, trailing, subcommand, value}
use Rattle.clap.specs.Facts.{unwrap_or_range}
use Rattle.clap.specs.Takes.{values_pass}
use Rattle.clap.specs.Simple.{App, Shape, built, subcommand_of, argument_words, names_of, entered, label_of, rows_at}
use Rattle.clap.specs.Walk.{stop_after, answers_to}
use Rattle.std.specs.Prelude.{option_map}
use Rattle.clap.specs.Kinds.{Kinds, or_else, request_kinds, check_kinds}
use Rattle.clap.specs.Faults.{use_fault, settle_fault, react_fault, values_fault, option_fault, long_fault, short_fault, bundle_step_fault, flags_fault, bundle_fault, flag_word_fault, other_fault, word_fault, positional_fault, step_fault, turn_fault, walk_fault, default_fault, given_default_fault, defaults_fault, level_fault, stray_fault, entered_fault, fault_of}
use Rattle.clap.specs.declared.builder.action.ArgAction.TheVariants.{Set, SetTrue, Append, Help}
use Rattle.clap.specs.declared.error.kind.ErrorKind.TheVariants.{TooManyValues}
use Rattle.clap.specs.declared.parser.matches.ValueSource.TheVariants.{DefaultValue, CommandLine}
use Rattle.command_line.specs.Parses.{RowOf, RowsOf, ParsesTo, IsFlag, IsIn, first, past, IsSingle, IsSingleShape, TakesMore, TakesOne}
use Rattle.command_line.proofs.Uses.{or_none, find_has, all_append, values_taken, same_text_is, no_at_row, SetsOne, set_parts, flag_parts, set_row, Sets, used_is, more_parts, append_used, both_pass, given_now}

module _ (c : List Rule) (single : AllByRecursion (IsSingle c) c) where
  abbrev Good : List Row → Type 0
  Good rows = AllByRecursion (RowOf c) rows

  set_good : (a : Rule) (vs : List Text) (rows : List Row) → arg_by_id c a.id ≡ Some a → Sets (action_of a)
      → SetsOne a (values_or_missing a vs) rows → Good rows → Good (used a vs rows)
  unfolding set_row
  set_good a vs rows found sets parts good =
      let values = values_or_missing a vs in
      let made : used a vs rows ≡ rows ++ set_row a.id (reading_by a) values ∷ [] =
      used_is (action_of a) a.id (reading_by a) values rows sets parts.absent in
      let here : RowOf c (set_row a.id (reading_by a) values) = record { rule = a; found = found; some = omega (arith, parts.one); one = λ _. parts.one; passes = parts.passes; reading = refl; given = λ e. absurd (cc) } in
      rw made (all_append (RowOf c) rows (set_row a.id (reading_by a) values ∷ []) good (here, tt))

  one_good : (a : Rule) (vs : List Text) (rows : List Row) → arg_by_id c a.id ≡ Some a → TakesOne a → use_fault false a vs rows ≡ [] → Good rows → Good (used a vs rows)
  unfolding Sets
  one_good a vs rows found is none good =
      let action_is : action_of a ≡ Set = rw is.sets refl in
      let parts = set_parts a vs rows (action_of a) (unwrap_or_range a.range).start_inclusive (most_values a) action_is (rw is.takes refl) (rw is.takes refl) none in
      set_good a vs rows found (inl action_is) parts good

  flag_use_good : (a : Rule) (vs : List Text) (rows : List Row) → arg_by_id c a.id ≡ Some a → IsFlag a → use_fault false a vs rows ≡ [] → Good rows → Good (used a vs rows)
  unfolding Sets
  flag_use_good a vs rows found is none good =
      let action_is : action_of a ≡ SetTrue = rw is.sets refl in
      let parts = flag_parts a vs rows (action_of a) (unwrap_or_range a.range).start_inclusive (most_values a) action_is (rw is.takes refl) (rw is.takes refl) is.stands none in
      set_good a vs rows found (inr action_is) parts good

  -- a row with the values of one more use
  grown_row : (a : Rule) (vs : List Text) (r : Row) → arg_by_id c a.id ≡ Some a → action_of a ≡ Append → values_pass a vs ≡ true
      → bytes_eq r.id a.id ≡ true → RowOf c r → Good (more_values CommandLine vs r)
  grown_row a vs r found appends passes same row =
      let named : r.id ≡ a.id = (bytes_eq-Decides r.id a.id).0 same in
      let both : Some row.rule ≡ Some a = sym row.found ∙ ap (arg_by_id c) named ∙ found in
      let is : row.rule ≡ a = cc in
      let kept = subst (λ (x : Rule). values_pass x r.values ≡ true) is row.passes in
      let lengths = length-append r.values vs in (
        record {
          rule = a;
          found = ap (arg_by_id c) named ∙ found;
          some = omega (arith, row.some, lengths);
          one = λ e. absurd (let no : is_append Append ≡ false = rw appends at e in cc);
          passes = both_pass a r.values vs kept passes;
          reading = row.reading ∙ ap reading_by is;
          given = λ e. absurd (let yes = given_now r.source in cc);
        },
        tt,
      )

  at_row_good : (a : Rule) (vs : List Text) (missing rows : List Row) → arg_by_id c a.id ≡ Some a → action_of a ≡ Append → values_pass a vs ≡ true
      → Good missing → Good rows → Good (at_row a.id (more_values CommandLine vs) missing rows)
  at_row_good a vs missing [] found appends passes new good = new
  at_row_good a vs missing (r ∷ rs) found appends passes new good =
      branch (bytes_eq r.id a.id) refl (at_row_good a vs missing rs found appends passes new good.1)
    where
      branch : (b : Bool) → bytes_eq r.id a.id ≡ b → Good (at_row a.id (more_values CommandLine vs) missing rs)
          → Good (cond b (more_values CommandLine vs r ++ rs) (r ∷ at_row a.id (more_values CommandLine vs) missing rs))
      branch true same later = all_append (RowOf c) (more_values CommandLine vs r) rs (grown_row a vs r found appends passes same good.0) good.1
      branch false other later = (good.0, later)

  more_good : (a : Rule) (vs : List Text) (rows : List Row) → arg_by_id c a.id ≡ Some a → TakesMore a → use_fault false a vs rows ≡ [] → Good rows → Good (used a vs rows)
  unfolding set_row
  more_good a vs rows found is none good =
      let values = values_or_missing a vs in
      let appends : action_of a ≡ Append = rw is.appends refl in
      let parts = more_parts a vs rows (action_of a) (unwrap_or_range a.range).start_inclusive (most_values a) appends (rw is.takes refl) (rw is.takes refl) none in
      let here : RowOf c (set_row a.id (reading_by a) values) = record {
        rule = a;
        found = found;
        some = omega (arith, parts.one);
        one = λ _. parts.one;
        passes = parts.passes;
        reading = refl;
        given = λ e. absurd (cc);
      } in
      rw (append_used (action_of a) a.id (reading_by a) values rows appends)
      (at_row_good a values (set_row a.id (reading_by a) values ∷ []) rows found appends parts.passes (here, tt) good)

  help_used : (a : Rule) (vs : List Text) (rows : List Row) → a.action ≡ Some Help → rows ≡ used a vs rows
  help_used a vs rows is = rw is refl

  use_good : (a : Rule) (vs : List Text) (rows : List Row) → IsSingle c a → use_fault false a vs rows ≡ [] → Good rows → Good (used a vs rows)
  use_good a vs rows s none good = elim s.kind [
    | inl k ↦ one_good a vs rows s.found k none good
    | inr other ↦ elim other [
      | inl f ↦ flag_use_good a vs rows s.found f none good
      | inr more ↦ elim more [
        | inl m ↦ more_good a vs rows s.found m none good
        | inr h ↦ subst Good (help_used a vs rows h) good
      ]
    ]
  ]

  pending_good : (p : Option (Text × List Text)) (rows : List Row)
      → option_map_or (λ (q : Text × List Text). option_map_or (λ (a : Rule). use_fault false a q.1 rows) (arg_by_id c q.0) []) p [] ≡ [] → Good rows → Good (settled_rows c p rows)
  pending_good None rows none good = good
  pending_good (Some p) rows none good = by_id (arg_by_id c p.0) refl none
    where
      by_id : (o : Option Rule) → arg_by_id c p.0 ≡ o → option_map_or (λ (a : Rule). use_fault false a p.1 rows) o [] ≡ [] → Good (used_by_id o p.1 rows)
      by_id None e n = good
      by_id (Some a) e n = use_good a p.1 rows (find_has (λ (x : Rule). bytes_eq x.id p.0) (IsSingle c) c a single e) n good

  settle_good : (h : Held) → settle_fault c false h ≡ [] → Good h.rows → Good (settled c h).rows
  settle_good h none good = pending_good h.pending h.rows none good

  react_good : (a : Rule) (vs : List Text) (h : Held) → IsSingle c a → react_fault c false a vs h ≡ [] → Good h.rows → Good (reacted c a vs h).rows
  react_good a vs h s none good =
      let both = or_none (settle_fault c false h) (use_fault false a vs (settled c h).rows) none in
      use_good a vs (settled c h).rows s both.1 (settle_good h both.0 good)

  option_good : (a : Rule) (v : Option Text) (h : Held) → IsSingle c a → option_fault c false a v h ≡ [] → Good h.rows → Good (option_met c a v h).0.rows
  option_good a (Some v) h s none good = react_good a (v ∷ []) h s none good
  option_good a None h s none good = settle_good h none good

  flag_good : (a : Rule) (v : Option Text) (h : Held) → IsSingle c a → cond (is_some v) (TooManyValues ∷ []) (react_fault c false a [] h) ≡ [] → Good h.rows
      → Good (flag_met c a v h).0.rows
  flag_good a (Some v) h s none good = good
  flag_good a None h s none good = react_good a [] h s none good

  long_good : (o : Option Rule) (v : Option Text) (h : Held) → ((a : Rule) → o ≡ Some a → IsSingle c a) → long_fault c false o v h ≡ [] → Good h.rows
      → Good (long_met c o v h).0.rows
  long_good None v h s none good = good
  long_good (Some a) v h s none good = branch (takes_values a) none
    where
      branch : (b : Bool) → cond b (option_fault c false a v h) (cond (is_some v) (TooManyValues ∷ []) (react_fault c false a [] h)) ≡ []
          → Good (cond b (option_met c a v h) (flag_met c a v h)).0.rows
      branch true n = option_good a v h (s a refl) n good
      branch false n = flag_good a v h (s a refl) n good

  short_good : (o : Option Rule) (rest : Text) (h : Held) (fault : Held → Kinds) (met : Held → Held × Outcome) → ((a : Rule) → o ≡ Some a → IsSingle c a)
      → ((g : Held) → fault g ≡ [] → Good g.rows → Good (met g).0.rows) → short_fault c false o rest h fault ≡ [] → Good h.rows
      → Good (short_met c o rest h met).0.rows
  short_good None rest h fault met s later none good = good
  short_good (Some a) rest h fault met s later none good = branch (takes_values a) none
    where
      branch : (b : Bool) → cond b (option_fault c false a (attached_value rest) h) (or_else (react_fault c false a [] h) (fault (reacted c a [] h))) ≡ []
          → Good (cond b (option_met c a (attached_value rest) h) (met (reacted c a [] h))).0.rows
      branch true n = option_good a (attached_value rest) h (s a refl) n good
      branch false n =
          let both = or_none (react_fault c false a [] h) (fault (reacted c a [] h)) n in
          later (reacted c a [] h) both.1 (react_good a [] h (s a refl) both.0 good)

  by_short : (x : ℕ) (a : Rule) → arg_by_short c x ≡ Some a → IsSingle c a
  by_short x a e = find_has (λ (r : Rule). not (is_some r.index) && has_short r x) (IsSingle c) c a single e

  by_long : (name : Text) (a : Rule) → arg_by_long c name ≡ Some a → IsSingle c a
  by_long name a e = find_has (λ (r : Rule). not (is_some r.index) && has_long r name) (IsSingle c) c a single e

  step_good : (x : Option ℕ) (flags : Text) (skip : ℕ) (so_far : Outcome) (h : Held) (fault : Text → ℕ → Held → Kinds) (met : Text → ℕ → Outcome → Held → Held × Outcome)
      → ((rest : Text) (k : ℕ) (o : Outcome) (g : Held) → fault rest k g ≡ [] → Good g.rows → Good (met rest k o g).0.rows)
      → bundle_step_fault c false x flags skip h fault ≡ [] → Good h.rows → Good (bundle_step c x flags skip so_far h met).0.rows
  step_good None flags skip so_far h fault met later none good = good
  step_good (Some x) flags zero so_far h fault met later none good =
      let rest = drop (length (encode_utf8 x)) flags in
      short_good (arg_by_short c x) rest h (fault rest 0) (met rest 0 done) (by_short x) (later rest 0 done) none good
  step_good (Some x) flags (suc skip) so_far h fault met later none good = later (drop (length (encode_utf8 x)) flags) skip so_far h none good

  flags_good : (k : ℕ) (flags : Text) (skip : ℕ) (so_far : Outcome) (h : Held) → flags_fault c false k flags skip h ≡ [] → Good h.rows
      → Good (bundle_met c k flags skip so_far h).0.rows
  unfolding flags_fault bundle_met
  flags_good zero flags skip so_far h none good = good
  flags_good (suc k) flags skip so_far h none good =
      step_good (slice_get (chars flags) 0) flags skip so_far h (flags_fault c false k) (bundle_met c k) (flags_good k) none good

  option_rows : (o : Option Rule) (id word : Text) (h : Held) → h.rows ≡ (option_word o id word h).0.rows
  option_rows None id word h = refl
  option_rows (Some a) id word h = refl

  plain_rows : (waiting : Waiting) (word : Text) (h : Held) → h.rows ≡ (plain_word c waiting word h).0.rows
  plain_rows (option id) word h = option_rows (arg_by_id c id) id word h
  plain_rows idle word h = refl
  plain_rows positional word h = refl

  flag_rows : (waiting : Waiting) (word : Text) (h : Held) (o : Outcome) → h.rows ≡ (after_flag c waiting word h o).0.rows
  flag_rows waiting word h done = refl
  flag_rows waiting word h (waits id) = refl
  flag_rows waiting word h plain = plain_rows waiting word h
  flag_rows waiting word h refused = plain_rows waiting word h

  bundle_good : (o : Option Text) (waiting : Waiting) (word : Text) (h : Held) → option_map_or (λ (flags : Text). bundle_fault c false flags h) o [] ≡ [] → Good h.rows
      → Good (short_or_plain c waiting word o h).0.rows
  bundle_good None waiting word h none good = subst Good (plain_rows waiting word h) good
  bundle_good (Some flags) waiting word h none good =
      subst Good (flag_rows waiting word (bundle c flags h).0 (bundle c flags h).1) (flags_good (length flags) flags h.skip plain (record h { skip = 0 }) none good)

  flag_word_good : (o : Option (Text × Option Text)) (waiting : Waiting) (word : Text) (h : Held) → flag_word_fault c false o word h ≡ [] → Good h.rows
      → Good (long_or_other c waiting word o h).0.rows
  flag_word_good None waiting word h none good = bundle_good (short_of word) waiting word h none good
  flag_word_good (Some p) waiting word h none good =
      let met = long_met c (arg_by_long c p.0) p.1 h in
      subst Good (flag_rows waiting word met.0 met.1) (long_good (arg_by_long c p.0) p.1 h (by_long p.0) none good)

  -- a default is one of its rule's
  default_good : (a : Rule) (vs : List Text) (rows : List Row) → IsSingle c a → vs ≡ a.defaults → has_row a.id rows ≡ false
      → cond (is_empty vs) [] (given_default_fault a vs) ≡ [] → Good rows → Good (default_rows a.id (reading_by a) vs rows)
  default_good a [] rows s is absent none good = good
  default_good a (v ∷ []) rows s is absent none good =
      let both = or_none (request_kinds (action_of a)) (values_fault a (v ∷ [])) none in
      let taken = values_taken a (v ∷ []) both.1 in
      let row : Row = record { id = a.id; values = v ∷ []; count = None; source = Some DefaultValue; reading = reading_by a } in
      let here : RowOf c row = record { rule = a; found = s.found; some = search rules; one = λ _. refl; passes = taken; reading = refl; given = λ e. is } in
      let made : default_rows a.id (reading_by a) (v ∷ []) rows ≡ rows ++ row ∷ [] = no_at_row a.id (more_values DefaultValue (v ∷ [])) (row ∷ []) rows absent in
      subst Good (sym made) (all_append (RowOf c) rows (row ∷ []) good (here, tt))
  default_good a (v ∷ u ∷ vs) rows s is absent none good =
      let few : length (v ∷ u ∷ vs) ≤ 1 = subst (λ (xs : List Text). length xs ≤ 1) (sym is) s.defaults in
      absurd (omega arith)

  with_default_good : (a : Rule) (rows : List Row) → IsSingle c a → default_fault rows a ≡ [] → Good rows → Good (with_default rows a)
  with_default_good a rows s none good = branch (has_row a.id rows) refl none
    where
      branch : (b : Bool) → has_row a.id rows ≡ b → cond (b || is_empty a.defaults) [] (given_default_fault a a.defaults) ≡ []
          → Good (cond b rows (default_rows a.id (reading_by a) a.defaults rows))
      branch true e n = good
      branch false e n = default_good a a.defaults rows s refl e n good

  defaults_good : (rules : List Rule) (rows : List Row) → AllByRecursion (IsSingle c) rules → defaults_fault rows rules ≡ [] → Good rows → Good (fold with_default rows rules)
  unfolding defaults_fault
  defaults_good [] rows all none good = good
  defaults_good (a ∷ rest) rows all none good =
      let both = or_none (default_fault rows a) (defaults_fault (with_default rows a) rest) none in
      defaults_good rest (with_default rows a) all.1 both.1 (with_default_good a rows all.0 both.0 good)

-- ---- each rule with a default has a row

or_right : (a b : Bool) → b ≡ true → (a || b) ≡ true
or_right true b e = refl
or_right false b e = e

or_left : (a b : Bool) → a ≡ true → (a || b) ≡ true
or_left true b e = refl
or_left false b e = absurd (cc)

row_kept : (id : Text) (rows more : List Row) → has_row id rows ≡ true → has_row id (rows ++ more) ≡ true
row_kept id [] more e = absurd (cc)
row_kept id (r ∷ rs) more e = branch (bytes_eq r.id id) e (λ t. row_kept id rs more t)
  where
    branch : (b : Bool) → (b || has_row id rs) ≡ true → (has_row id rs ≡ true → has_row id (rs ++ more) ≡ true) → (b || has_row id (rs ++ more)) ≡ true
    branch true e later = refl
    branch false e later = later e

row_last : (id : Text) (rows : List Row) (r : Row) → bytes_eq r.id id ≡ true → has_row id (rows ++ r ∷ []) ≡ true
row_last id [] r e = or_left (bytes_eq r.id id) false e
row_last id (x ∷ xs) r e = or_right (bytes_eq x.id id) _ (row_last id xs r e)

default_row : Rule → List Text → Row
default_row a vs = record { id = a.id; values = vs; count = None; source = Some DefaultValue; reading = reading_by a }

default_is : (a : Rule) (v : Text) (vs : List Text) (rows : List Row) → has_row a.id rows ≡ false → default_rows a.id (reading_by a) (v ∷ vs) rows ≡ rows ++ default_row a (v ∷ vs) ∷ []
unfolding default_row
default_is a v vs rows absent = no_at_row a.id (more_values DefaultValue (v ∷ vs)) (default_row a (v ∷ vs) ∷ []) rows absent

default_keeps : (id : Text) (a : Rule) (vs : List Text) (rows : List Row) → has_row a.id rows ≡ false → has_row id rows ≡ true → has_row id (default_rows a.id (reading_by a) vs rows) ≡ true
default_keeps id a [] rows absent e = e
default_keeps id a (v ∷ vs) rows absent e = rw (default_is a v vs rows absent) (row_kept id rows (default_row a (v ∷ vs) ∷ []) e)

with_default_keeps : (id : Text) (a : Rule) (rows : List Row) → has_row id rows ≡ true → has_row id (with_default rows a) ≡ true
with_default_keeps id a rows e = branch (has_row a.id rows) refl
  where
    branch : (b : Bool) → has_row a.id rows ≡ b → has_row id (cond b rows (default_rows a.id (reading_by a) a.defaults rows)) ≡ true
    branch true is = e
    branch false is = default_keeps id a a.defaults rows is e

defaults_keep : (id : Text) (rules : List Rule) (rows : List Row) → has_row id rows ≡ true → has_row id (fold with_default rows rules) ≡ true
defaults_keep id [] rows e = e
defaults_keep id (a ∷ rest) rows e = defaults_keep id rest (with_default rows a) (with_default_keeps id a rows e)

default_adds : (a : Rule) (vs : List Text) (rows : List Row) → has_row a.id rows ≡ false → 0 < length vs → has_row a.id (default_rows a.id (reading_by a) vs rows) ≡ true
unfolding default_row
default_adds a [] rows absent some = absurd (omega arith)
default_adds a (v ∷ vs) rows absent some = rw (default_is a v vs rows absent) (row_last a.id rows (default_row a (v ∷ vs)) (same_text_is a.id))

with_default_adds : (a : Rule) (rows : List Row) → 0 < length a.defaults → has_row a.id (with_default rows a) ≡ true
with_default_adds a rows some = branch (has_row a.id rows) refl
  where
    branch : (b : Bool) → has_row a.id rows ≡ b → has_row a.id (cond b rows (default_rows a.id (reading_by a) a.defaults rows)) ≡ true
    branch true is = is
    branch false is = default_adds a a.defaults rows is some

defaults_there : (rules : List Rule) (rows : List Row) → AllByRecursion (λ (a : Rule). 0 < length a.defaults → has_row a.id (fold with_default rows rules) ≡ true) rules
defaults_there [] rows = tt
defaults_there (a ∷ rest) rows = (λ some. defaults_keep a.id rest (with_default rows a) (with_default_adds a rows some), defaults_there rest (with_default rows a))

-- ---- a walk over the words

module _ (s : Shape) (single : AllByRecursion (IsSingle s.rules) s.rules) (no_again : s.args_override_self ≡ false) where
  other_good : (o : Option Text) (waiting : Waiting) (position : ℕ) (word : Text) (h : Held) → other_fault s o word h ≡ [] → AllByRecursion (RowOf s.rules) h.rows
      → AllByRecursion (RowOf s.rules) (subcommand_or_other s.rules o waiting position word h).0.rows
  other_good (Some name) waiting position word h none good = good
  other_good None waiting position word h none good = branch (bytes_eq word (45 ∷ 45 ∷ [])) (rw no_again at none)
    where
      branch : (b : Bool) → cond b [] (flag_word_fault s.rules false (long_of word) word h) ≡ []
          → AllByRecursion (RowOf s.rules) (cond b (h, trailing position) (long_or_other s.rules waiting word (long_of word) h)).0.rows
      branch true n = good
      branch false n = flag_word_good s.rules single (long_of word) waiting word h n good

  word_good : (names : Names) (b : Bool) (waiting : Waiting) (position : ℕ) (word : Text) (h : Held) → word_fault s names b waiting word h ≡ [] → AllByRecursion (RowOf s.rules) h.rows
      → AllByRecursion (RowOf s.rules) (word_met s.rules names b waiting position word h).0.rows
  word_good names true waiting position word h none good = good
  word_good names false waiting position word h none good = other_good (subcommand_met names waiting word) waiting position word h none good

  positional_good : (o : Option Rule) (word : Text) (w : Walk) (h : Held)
      → option_map_or (λ (a : Rule). positional_fault s.rules s.args_override_self a h) o (stray_fault s) ≡ [] → AllByRecursion (RowOf s.rules) h.rows
      → AllByRecursion (RowOf s.rules) (to_positional s.rules o word w h).held.rows
  positional_good None word w h none good = good
  positional_good (Some a) word w h none good = branch (is_pending a h.pending && takes_several a) (rw no_again at none)
    where
      branch : (b : Bool) → cond b [] (settle_fault s.rules false h) ≡ [] → AllByRecursion (RowOf s.rules) (pushed a.id word (cond b h (settled s.rules h))).rows
      branch true n = good
      branch false n = settle_good s.rules single h n good

  after_good : (step : Step) (word : Text) (w : Walk) (h : Held) → step_fault s w.position h step ≡ [] → AllByRecursion (RowOf s.rules) h.rows
      → AllByRecursion (RowOf s.rules) (after_step s.rules word w h step).held.rows
  after_good (next waiting) word w h none good = good
  after_good (trailing position) word w h none good = good
  after_good (subcommand name) word w h none good = good
  after_good value word w h none good = positional_good (arg_by_index s.rules w.position) word w h none good

  turn_good : (names : Names) (w : Walk) (word : Text) → turn_fault s names w word ≡ [] → AllByRecursion (RowOf s.rules) w.held.rows
      → AllByRecursion (RowOf s.rules) (walked s.rules names w word).held.rows
  unfolding walked
  turn_good names w word none good = branch w.stopped none
    where
      branch : (o : Option (Text × List Text))
          → cond (is_some o) [] (or_else (word_fault s names w.is_trailing w.waiting word w.held)
          (step_fault s w.position (word_met s.rules names w.is_trailing w.waiting w.position word w.held).0 (word_met s.rules names w.is_trailing w.waiting w.position word w.held).1)) ≡ []
          → AllByRecursion (RowOf s.rules) (walked_from s.rules names o w word).held.rows
      branch (Some p) n = good
      branch None n =
          let met = word_met s.rules names w.is_trailing w.waiting w.position word w.held in
          let both = or_none (word_fault s names w.is_trailing w.waiting word w.held) (step_fault s w.position met.0 met.1) n in
          after_good met.1 word w met.0 both.1 (word_good names w.is_trailing w.waiting w.position word w.held both.0 good)

  walk_good : (names : Names) (words : List Text) (w : Walk) → walk_fault s names w words ≡ [] → AllByRecursion (RowOf s.rules) w.held.rows
      → AllByRecursion (RowOf s.rules) (fold (walked s.rules names) w words).held.rows
  unfolding walk_fault
  walk_good names [] w none good = good
  walk_good names (word ∷ rest) w none good =
      let both = or_none (turn_fault s names w word) (walk_fault s names (walked s.rules names w word) rest) none in
      walk_good names rest (walked s.rules names w word) both.1 (turn_good names w word both.0 good)

  -- one level of a parse that has no fault
  pub level_good : (names : Names) (words : List Text) (has : Bool) (below : Kinds) → level_fault s names nothing_held words has below ≡ [] → RowsOf s.rules (rows_after s.rules names words)
  level_good names words has below none =
      let end = (walk s.rules names nothing_held words).held in
      let one = or_none (walk_fault s names (walk_from nothing_held) words) _ none in
      let two = or_none below _ one.1 in
      let three = or_none (settle_fault s.rules s.args_override_self end) _ two.1 in
      let four = or_none (defaults_fault (settled s.rules end).rows s.rules) _ three.1 in
      let held = walk_good names words (walk_from nothing_held) one.0 tt in
      let done_rows = settle_good s.rules single end (rw no_again at three.0) held in
      record {
        each = defaults_good s.rules single s.rules (settled s.rules end).rows single four.0 done_rows;
        defaults = defaults_there s.rules (settled s.rules end).rows;
      }

-- ---- the command and its subcommand

find_in : {X : Type 0} (p : X → Bool) (xs : List X) (x : X) → find p xs ≡ Some x → IsIn x xs
find_in p [] x e = absurd (cc)
find_in {X} p (y ∷ ys) x e = go (p y) e (λ r. find_in p ys x r)
  where
    go : (b : Bool) → cond b (Some y) (find p ys) ≡ Some x → (find p ys ≡ Some x → IsIn x ys) → IsIn x (y ∷ ys)
    go true e after = let same : y ≡ x = cc in subst (λ (z : X). IsIn x (z ∷ ys)) (sym same) (first ys)
    go false e after = past y ys (after e)

required_has : (has required help wanted : Bool) → required ≡ true → check_kinds (not has && help) (not has && required) wanted ≡ [] → has ≡ true
required_has true required help wanted is none = refl
required_has false true true wanted is none = absurd (cc)
required_has false true false wanted is none = absurd (cc)
required_has false false help wanted is none = absurd (cc)

pub parse_good : (a : App) (words : List Text) → AllByRecursion IsSingleShape (built a).subs → (built a).top.subcommand_required ≡ true → fault_of a words ≡ [] → ParsesTo a words
parse_good a words single required none =
    let b = built a in
    let args = argument_words a words in
    let names = names_of b in
    let end = (walk b.top.rules names nothing_held args).held in
    let one = or_none (walk_fault b.top names (walk_from nothing_held) args) _ none in
    let two = or_none (entered_fault b (stop_after b.top.rules names args)) _ one.1 in
    let three = or_none (settle_fault b.top.rules b.top.args_override_self end) _ two.1 in
    let four = or_none (defaults_fault (settled b.top.rules end).rows b.top.rules) _ three.1 in
    let met = required_has (is_some (entered b (stop_after b.top.rules names args))) b.top.subcommand_required _ _ required four.1 in
    by_stop (stop_after b.top.rules names args) refl two.0 met
  where
    by_shape : (p : Text × List Text) (o : Option Shape) → find (λ (s : Shape). answers_to p.0 (label_of s)) (built a).subs ≡ o
        → option_map_or (λ (s : Shape). level_fault s [] nothing_held p.1 false []) o [] ≡ []
        → is_some (option_map (λ (s : Shape). rows_at s p.1) o) ≡ true
        → subcommand_of a words ≡ option_map (λ (s : Shape). rows_at s p.1) o → ParsesTo a words
    by_shape p None e n met is = absurd (cc)
    by_shape p (Some s) e n met is =
        let s_single = find_has (λ (s : Shape). answers_to p.0 (label_of s)) IsSingleShape (built a).subs s single e in
        record {
          command = s;
          known = find_in (λ (s : Shape). answers_to p.0 (label_of s)) (built a).subs s e;
          rows = rows_after s.rules [] p.1;
          is = is;
          good = level_good s s_single.single s_single.no_again [] p.1 false [] n;
        }

    by_stop : (o : Option (Text × List Text)) → stop_after (built a).top.rules (names_of (built a)) (argument_words a words) ≡ o
        → entered_fault (built a) o ≡ [] → is_some (entered (built a) o) ≡ true → ParsesTo a words
    by_stop None e n met = absurd (cc)
    by_stop (Some p) e n met =
        by_shape p (find (λ (s : Shape). answers_to p.0 (label_of s)) (built a).subs) refl n met (ap (entered (built a)) e)
