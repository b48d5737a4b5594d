-- Pairs of coded numbers that nothing separates.
use Rattle.std.proofs.Common.{◌≡◌, ◌∙◌, ap, sym, subst, refl, ℕ, suc, ◌+◌, ◌<◌, ◌≤◌, Bool, true, false, not, ◌||◌, ◌==◌, List, [], ◌∷◌, drop, take, slice_index, if◌then◌else◌, Option, option_map, Some, None, inl, inr, arith}
use Rattle.std.proofs.lemmas.Bool.{cases_Bool}
use Rattle.std.proofs.lemmas.Bool.Decides.{nat_tests}
use Rattle.std.specs.List.{prefix_len}
use Rattle.hpgl_text.specs.Coded.{Digits, CodedNumber, is_inner, is_last, digits_of, decoded, read_code, coded_number}
use Rattle.hpgl_text.specs.Polylines.{Piece, plain, completed, is_cut, without_number, is_flag, starts_number, is_passed, gap_length, past_gap, piece_at, pair_piece, number_piece}
use Rattle.hpgl_text.specs.Carried.{IsClosePair}
use Rattle.hpgl_text.specs.declared.polyline.base.Base.{Base}
use Rattle.hpgl_text.specs.declared.polyline.base.Base.TheVariants.{SixtyFour, ThirtyTwo}
use Rattle.hpgl_text.specs.declared.polyline.kind.PieceKind.TheVariants.{Pair, Bad, Cut}

neither : (a b : Bool) → (a || b) ≡ false → (a ≡ false) × (b ≡ false)
neither true b h = cc
neither false b h = (refl, h)

-- no code begins with a byte that is no digit
no_code : (digits : Digits) (k b : ℕ) (bs : List ℕ) → (is_inner digits b || is_last digits b) ≡ false → read_code digits (suc k) (b ∷ bs) ≡ None
no_code digits k b bs h =
    let n = neither (is_inner digits b) (is_last digits b) h in
    let inner = n.0 in
    let last = n.1 in
    rw (last, inner) refl

no_number : (base : Base) (b : ℕ) (bs : List ℕ) → starts_number base b ≡ false → coded_number base (b ∷ bs) ≡ None
no_number SixtyFour b bs h = ap (option_map decoded) (no_code (digits_of SixtyFour) 5 b bs h)
no_number ThirtyTwo b bs h = ap (option_map decoded) (no_code (digits_of ThirtyTwo) 6 b bs h)

none_at_end : (base : Base) → coded_number base [] ≡ None
none_at_end SixtyFour = refl
none_at_end ThirtyTwo = refl

-- a number begins with its first digit
starts : (base : Base) (text : List ℕ) (n : CodedNumber) → coded_number base text ≡ Some n → starts_number base (slice_index text 0) ≡ true
starts base [] n h = let none = none_at_end base in cc
starts base (b ∷ bs) n h = elim (cases_Bool (starts_number base b)) [
  | inl t ↦ t
  | inr f ↦ (let none = no_number base b bs f in cc)
]

digit_above : (base : Base) (b : ℕ) → starts_number base b ≡ true → 63 ≤ b
digit_above SixtyFour b h = grind (arith, nat_tests)
digit_above ThirtyTwo b h = grind (arith, nat_tests)

differs : (b c : ℕ) → c < b → (b == c) ≡ false
differs b c h = grind (arith, nat_tests)

-- a digit is no flag
pub number_at : (base : Base) (closed : Bool) (text : List ℕ) → starts_number base (slice_index text 0) ≡ true → piece_at base closed text ≡ number_piece base closed text
number_at base closed text h =
    let b = slice_index text 0 in
    let above = digit_above base b h in
    let n55 = differs b 55 (omega arith) in
    let n58 = differs b 58 (omega arith) in
    let n60 = differs b 60 (omega arith) in
    let n61 = differs b 61 (omega arith) in
    let n62 = differs b 62 (omega arith) in
    rw (n55, n58, n60, n61, n62, h) refl

-- no gap lies before a digit
not_passed : (f : Bool) (s : Bool) → s ≡ true → not (f || s) ≡ false
not_passed true s h = refl
not_passed false s h = rw h refl

no_gap : (base : Base) (text : List ℕ) (n : CodedNumber) → coded_number base text ≡ Some n → gap_length base text ≡ 0
no_gap base [] n h = refl
no_gap base (b ∷ bs) n h =
    let stops : is_passed base b ≡ false = not_passed (is_flag b) (starts_number base b) (starts base (b ∷ bs) n h) in
    rw (stops, prefix_len) refl

number_found : (base : Base) (closed : Bool) (text : List ℕ) (x : CodedNumber) → coded_number base text ≡ Some x
    → number_piece base closed text ≡ pair_piece x base closed (drop x.bytes text)
number_found base closed text x h =
    ap (λ (o : Option CodedNumber). elim o [
      | None ↦ plain (if is_cut base closed text then Cut else Bad) 1
      | Some n ↦ pair_piece n base closed (drop n.bytes text)
    ]) h

second_found : (base : Base) (closed : Bool) (x : CodedNumber) (text : List ℕ) (y : CodedNumber) → coded_number base (past_gap base text) ≡ Some y
    → pair_piece x base closed text ≡ completed (Pair x.value y.value) x.bytes base text y
second_found base closed x text y h =
    ap (λ (o : Option CodedNumber). elim o [
      | None ↦ plain (without_number base closed (past_gap base text)) x.bytes
      | Some n ↦ completed (Pair x.value n.value) x.bytes base text n
    ]) h

close : (base : Base) (text : List ℕ) (x y : CodedNumber) → gap_length base text ≡ 0 → IsClosePair (completed (Pair x.value y.value) x.bytes base text y) x.value y.value (x.bytes + y.bytes)
close base text x y h = record {
  kind_is = refl;
  gap_is = ap (λ (k : ℕ). take k text) h;
  bytes_is = omega (arith, h);
}

-- two numbers, the second of which follows the first at once, are a pair
pub pair_at : (base : Base) (closed : Bool) (text : List ℕ) (x y : CodedNumber) → coded_number base text ≡ Some x → coded_number base (drop x.bytes text) ≡ Some y
    → IsClosePair (piece_at base closed text) x.value y.value (x.bytes + y.bytes)
pair_at base closed text x y h k =
    let rest = drop x.bytes text in
    let gap = no_gap base rest y k in
    let past : coded_number base (past_gap base rest) ≡ Some y = ap (λ (n : ℕ). coded_number base (drop n rest)) gap ∙ k in
    subst (λ (p : Piece). IsClosePair p x.value y.value (x.bytes + y.bytes))
    (sym (number_at base closed text (starts base text x h) ∙ number_found base closed text x h ∙ second_found base closed x rest y past))
    (close base rest x y gap)
