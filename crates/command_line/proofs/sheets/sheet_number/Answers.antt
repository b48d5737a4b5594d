use Rattle.std.proofs.Common.{◌≡◌, ◌∙◌, ℤ, Bool, true, false, Some, None, ap, refl, subst, sym}
use Rattle.std.specs.Prelude.{FitsSigned, nat_abs, not, pos, ◌≤ℤ◌}
use Rattle.std.specs.Int.Signed.{lt_z_no}
use Rattle.std.proofs.lemmas.Int.{to_z-of_z}
use lib.Dec.{T}
use Rattle.std.specs.Int.{w64}
use Rattle.std.specs.Str.Parse.{IsNumeral, signed_digits_value, without_leading_sign}
use Rattle.clap.specs.Values.{IsSignedIn}
use Rattle.clap.specs.ValueTests.{is_signed_in}
use Rattle.clap.specs.Words.{Text}
use Rattle.clap.specs.declared.builder.value_parser.ValueParser.TheVariants as vp
use Rattle.clap.proofs.ValueTestLemmas.{Accepts-accepts, accepts-Accepts}
use Rattle.command_line.specs.Sheets.{sheet_number}
use Rattle.command_line.proofs.sheets.sheet_number.Goals as goal

no_number : (text : Text) → ¬ (IsNumeral 10 (without_leading_sign text) × FitsSigned w64 (signed_digits_value 10 text)) → None ≡ sheet_number text
no_number text none = branch (is_signed_in (pos 0) (pos 4194304) text) refl
  where
    branch : (b : Bool) → is_signed_in (pos 0) (pos 4194304) text ≡ b → None ≡ sheet_number text
    branch true is = let within = accepts-Accepts false (vp.Signed (pos 0) (pos 4194304)) text is in absurd (none (within.0, within.1))
    branch false is = rw is refl

a_number : (text : Text) → IsSignedIn (pos 0) (pos 4194304) text → Some (nat_abs (signed_digits_value 10 text)) ≡ sheet_number text
a_number text within = rw (Accepts-accepts false (vp.Signed (pos 0) (pos 4194304)) text within) refl

pub returns-in_default : goal.returns-in_default
returns-in_default c = no_number c.args.text.now c.in_default.ensures.value.0

pub returns : goal.returns
returns c =
    let text = c.args.text.now in
    let read = c.in-Ok.ensures.value.0 in
    let fits = subst (λ (z : ℤ). FitsSigned w64 z) (sym read.1) read.0.1 in
    let whole = to_z-of_z w64 c.in-Ok.sheet fits ∙ read.1 in
    let low = lt_z_no (subst T (ap not (sym c.if-sheet-lt0.false)) tt) in
    let high = lt_z_no (subst T (ap not (sym c.if-sheet-gt-GREATEST_SHEET.false)) tt) in
    let within : IsSignedIn (pos 0) (pos 4194304) text = (read.0.0, read.0.1, subst (λ (z : ℤ). pos 0 ≤ℤ z) whole low, subst (λ (z : ℤ). z ≤ℤ pos 4194304) whole high) in
    subst (λ (z : ℤ). Some (nat_abs z) ≡ sheet_number text) (sym whole) (a_number text within)
