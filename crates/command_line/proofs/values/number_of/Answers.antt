use Rattle.std.proofs.Common.{◌≡◌, ◌∙◌, ℕ, List, Option, Some, None, Result, IfOk, ap, refl, sym, subst}
use Rattle.std.specs.Prelude.{option_map}
use Rattle.std.specs.Option.{ok_or}
use Rattle.std.specs.Str.Parse.{digits_value, without_leading_plus, ParsesUnsigned, ExplainsUnsignedError, HasUnsignedDigitsIfOk}
use Rattle.std.specs.declared.num.ParseIntError.{ParseIntError}
use Rattle.command_line.specs.declared.fault.LineFault.TheVariants as LineFault
use Rattle.clap.specs.Words.{ReadsOne, found_of, one_of, one_text, rows_of}
use Rattle.clap.proofs.CallerReads.{signed_reads}
use Rattle.clap.proofs.WalkLemmas.{one_text-rows}
use Rattle.command_line.proofs.values.number_of.Goals as goal

abbrev value_of : List ℕ → ℕ
value_of t = digits_value 10 (without_leading_plus t)

-- `u32::from_str`
abbrev Reads : List ℕ → Result ℕ ParseIntError → Type 0
Reads t r = ParsesUnsigned 32 10 t r × ExplainsUnsignedError 10 t r × HasUnsignedDigitsIfOk t r

-- what `get_one` gives of a text is the text's value
read_number : {F : Type 0} (fault : F) (text : Option (List ℕ)) (read : Option ℕ)
    → (text ≡ None → read ≡ None) → ((t : List ℕ) → text ≡ Some t → ReadsOne Reads t read)
    → IfOk (ok_or read fault) (λ n. option_map value_of text ≡ Some n)
read_number fault text None none value = tt
read_number fault None (Some n) none value = let e : Some n ≡ None = none refl in absurd (cc)
read_number fault (Some t) (Some n) none value = ap Some (sym (value t refl).0.1)

pub returns-clause-number : goal.returns-clause-number
returns-clause-number c =
    let F = found_of c.args.options.now in
    let read = read_number LineFault.Words (one_text F c.args.name.now) c.get_one.result c.get_one.ensures.none c.get_one.ensures.value in
    let same = subst (λ (t : Option (List ℕ)). IfOk (ok_or c.get_one.result LineFault.Words) (λ n. option_map value_of t ≡ Some n)) (one_text-rows F c.args.name.now) read in
    subst (λ r. IfOk r (λ n. option_map value_of (one_of c.args.name.now (rows_of F)) ≡ Some n)) (sym c.ok_or.ensures.value) same

pub returns-clause-understood : goal.returns-clause-understood
returns-clause-understood c = λ low high fits has.
    let F = found_of c.args.options.now in
    let read = c.get_one.ensures.value _ (one_text-rows F c.args.name.now ∙ has.given) in
    let got = signed_reads ParseIntError Reads 32 low high has.text c.get_one.result read (λ u x given. given.0) fits has.within in
    rw (c.ok_or.ensures.value, got.1) (got.2, got.3)
