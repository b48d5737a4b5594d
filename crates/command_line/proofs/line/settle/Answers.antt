use Rattle.std.proofs.Common.{◌≡◌, ◌∙◌, ap, ap₂, subst, sym, ◌↔◌, Bool, true, false, List, Result, Err, Option, Some, None, Ok, refl, is_some}
use Rattle.std.specs.Prelude.{option_map}
use Rattle.std.specs.Result.{IsErrAnd, result_err}
use Rattle.std.proofs.lemmas.Result.{IfOk-weaker}
use Rattle.clap.specs.Words.{Row, Text, found_of, rows_of, subcommand_rows_of}
use Rattle.clap.specs.declared.parser.matches.ArgMatches.{ArgMatches}
use Rattle.command_line.specs.declared.destination.Destination.{Destination}
use Rattle.command_line.specs.declared.fault.LineFault.{LineFault}
use Rattle.command_line.specs.declared.subcommands.Kind.{Kind}
use Rattle.command_line.specs.Faults.{refusal_of}
use Rattle.command_line.specs.Lines.{IsLineBy, asks_bad_list, has_bad_list, kind_into, kind_named, line_fault, values_fault}
use Rattle.command_line.specs.Readings.{HasValues}
use Rattle.command_line.proofs.Given.{its_fault, not_known, was_some}
use Rattle.command_line.proofs.ReadingLaw.{name_there, values_there}
use Rattle.command_line.proofs.line.settle.Goals as goal

pair : {A B : Type 0} → A → B → A × B
pair a b = (a, b)

-- an option of pairs, from its first parts and its second parts
paired : {X A B : Type 0} (f : X → A) (g : X → B) (o : Option X) (a : A) (b : B)
    → option_map f o ≡ Some a → option_map (λ (p : A × B). p.1) (option_map {U = A × B} (λ x. (f x, g x)) o) ≡ Some b
    → option_map {U = A × B} (λ x. (f x, g x)) o ≡ Some (a, b)
unfolding pair
paired f g None a b first second = absurd (cc)
paired {X} {A} {B} f g (Some x) a b first second =
    let one : f x ≡ a = cc in
    let two : g x ≡ b = cc in
    ap Some (ap₂ (λ (l : A) (r : B). pair l r) one two)

unknown_lists_no_pens : (into : Destination) (m : ArgMatches) (name : Text) (rows : List Row) → subcommand_rows_of m ≡ Some (name, rows) → kind_named name ≡ None
    → asks_bad_list into m ≡ false
unknown_lists_no_pens into m name rows is unknown = rw (is, unknown) refl

known_list : (into : Destination) (m : ArgMatches) (name : Text) (rows : List Row) (kind : Kind) → subcommand_rows_of m ≡ Some (name, rows) → kind_named name ≡ Some kind
    → asks_bad_list into m ≡ has_bad_list (kind_into into kind) rows
known_list into m name rows kind is known = rw (is, known) refl

known_fault : (into : Destination) (m : ArgMatches) (name : Text) (rows : List Row) (kind : Kind) → subcommand_rows_of m ≡ Some (name, rows) → kind_named name ≡ Some kind
    → line_fault into m ≡ values_fault (kind_into into kind) rows
known_fault into m name rows kind is known = rw (is, known) refl

words_are_no_pens : {X : Type 0} (r : Result X LineFault) (e : LineFault) (bad : Bool) → IsErrAnd r (λ f. f ≡ e) → e ≡ LineFault.Words → bad ≡ false
    → (r ≡ Err LineFault.Pens) ↔ (bad ≡ true)
words_are_no_pens (Ok x) e bad is words good = absurd is
words_are_no_pens (Err f) e bad is words good = (λ h. let same : LineFault.Words ≡ LineFault.Pens = (let got : f ≡ LineFault.Pens = cc in sym words ∙ sym is ∙ got) in absurd (cc), λ h. absurd (cc))

pub returns-in_err-kind-clause-pens : goal.returns-in_err-kind-clause-pens
returns-in_err-kind-clause-pens c =
    let met = was_some c.subcommand.result _ _ (sym c.ok_or.ensures.value ∙ c.in_ok-name.was) in
    let matches = paired _ _ _ _ _ (sym c.subcommand.ensures.name ∙ ap (option_map (λ p. p.0.now)) met)
    (sym c.subcommand.ensures.rows ∙ ap (option_map (λ p. rows_of (found_of p.1.now))) met) in
    let unknown = sym c.kind_of.ensures ∙ not_known _ c.in_err-kind.ensures.variant in
    let none = unknown_lists_no_pens c.args.destination c.args.matches.now _ _ matches unknown in
    words_are_no_pens _ _ _ c.from_residual-in_err-kind.ensures.1 (its_fault c.kind_of.result LineFault.Words _ (sym c.ok_or-2.ensures.value ∙ c.in_err-kind.was)) none

pub returns-in_err-kind-clause-refused : goal.returns-in_err-kind-clause-refused
returns-in_err-kind-clause-refused c = λ of.
    let met = was_some c.subcommand.result _ _ (sym c.ok_or.ensures.value ∙ c.in_ok-name.was) in
    let matches = paired _ _ _ _ _ (sym c.subcommand.ensures.name ∙ ap (option_map (λ p. p.0.now)) met)
    (sym c.subcommand.ensures.rows ∙ ap (option_map (λ p. rows_of (found_of p.1.now))) met) in
    let known = name_there of.0 c.args.matches.now _ _ of.1 matches in
    let bad : false ≡ true = c.in_err-kind.ensures.variant ∙ ap is_some c.kind_of.ensures ∙ known in
    absurd (cc)

pub returns-clause-line : goal.returns-clause-line
returns-clause-line c =
    let met = was_some c.subcommand.result _ _ (sym c.ok_or.ensures.value ∙ c.in_ok-name.was) in
    let matches = paired _ _ _ _ _ (sym c.subcommand.ensures.name ∙ ap (option_map (λ p. p.0.now)) met)
    (sym c.subcommand.ensures.rows ∙ ap (option_map (λ p. rows_of (found_of p.1.now))) met) in
    let known = sym c.kind_of.ensures ∙ was_some c.kind_of.result _ _ (sym c.ok_or-2.ensures.value ∙ c.in_ok-kind.was) in
    IfOk-weaker c.line_of.result _ _ (λ line by. record {
      name = c.in_ok-name.name.now;
      rows = rows_of (found_of c.in_ok-name.options.now);
      kind = c.in_ok-kind.kind;
      matches = matches;
      named = known;
      by = subst (λ (k : Kind). IsLineBy k (rows_of (found_of c.in_ok-name.options.now)) line) c.into_destination.ensures by;
    }) c.line_of.ensures.line

pub returns-clause-pens : goal.returns-clause-pens
returns-clause-pens c =
    let met = was_some c.subcommand.result _ _ (sym c.ok_or.ensures.value ∙ c.in_ok-name.was) in
    let matches = paired _ _ _ _ _ (sym c.subcommand.ensures.name ∙ ap (option_map (λ p. p.0.now)) met)
    (sym c.subcommand.ensures.rows ∙ ap (option_map (λ p. rows_of (found_of p.1.now))) met) in
    let known = sym c.kind_of.ensures ∙ was_some c.kind_of.result _ _ (sym c.ok_or-2.ensures.value ∙ c.in_ok-kind.was) in
    rw (known_list c.args.destination c.args.matches.now _ _ _ matches known)
    (subst (λ (k : Kind). (c.line_of.result ≡ Err LineFault.Pens) ↔ (has_bad_list k (rows_of (found_of c.in_ok-name.options.now)) ≡ true))
    c.into_destination.ensures c.line_of.ensures.pens)

pub returns-clause-refused : goal.returns-clause-refused
returns-clause-refused c = λ of.
    let met = was_some c.subcommand.result _ _ (sym c.ok_or.ensures.value ∙ c.in_ok-name.was) in
    let matches = paired _ _ _ _ _ (sym c.subcommand.ensures.name ∙ ap (option_map (λ p. p.0.now)) met)
    (sym c.subcommand.ensures.rows ∙ ap (option_map (λ p. rows_of (found_of p.1.now))) met) in
    let known = sym c.kind_of.ensures ∙ was_some c.kind_of.result _ _ (sym c.ok_or-2.ensures.value ∙ c.in_ok-kind.was) in
    let rows = rows_of (found_of c.in_ok-name.options.now) in
    let refused = subst (λ (k : Kind). HasValues k rows → option_map refusal_of (result_err c.line_of.result) ≡ values_fault k rows)
    c.into_destination.ensures c.line_of.ensures.refused in
    refused (values_there c.args.destination of.0 c.args.matches.now _ _ _ of.1 matches known)
    ∙ sym (known_fault c.args.destination c.args.matches.now _ _ _ matches known)
