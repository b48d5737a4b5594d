-- The next form in the bytes of a text, by the next ESC.
use Rattle.std.proofs.Common.{◌≡◌, ℕ, zero, suc, ◌+◌, ◌<◌, ◌≤◌, ◌==◌, Bool, true, false, List, [], ◌∷◌, length, drop, get_or, refl, arith, ap, sym, ◌∙◌}
use Rattle.std.specs.Prelude.{Option, unwrap_or}
use Rattle.std.proofs.lemmas.Bool.Decides.{nat_tests}
use Rattle.std.proofs.lemmas.List.{drop_more}
use Rattle.memchr.specs.Find.{Passes, is_byte, NoneBefore, Nowhere}
use Rattle.hpgl_text.specs.Bytes.{escape as esc}
use Rattle.escapes.specs.Escapes.{escape}
use Rattle.full_text.specs.Languages.{first_asked, entered_by, has_instructions_next}

-- the byte at a place is an ESC, or none, as a search finds
pub is_esc : (text : List ℕ) (k : ℕ) → Passes (is_byte 27) text k → get_or text k 0 ≡ esc
is_esc text k h = grind (arith, nat_tests, h)

pub is_other : (text : List ℕ) (k : ℕ) → ¬ (Passes (is_byte 27) text k) → ¬ (get_or text k 0 ≡ esc)
is_other text k h e = h (grind (arith, nat_tests, e))

-- a byte that is no ESC is passed
passes_other : (b : ℕ) (text : List ℕ) → ¬ (b ≡ esc) → has_instructions_next (b ∷ text) ≡ has_instructions_next text
passes_other b text h = let e : (b == esc) ≡ false = grind (arith, nat_tests) in rw e refl

stops_at : (b : ℕ) (text : List ℕ) → b ≡ esc → has_instructions_next (b ∷ text) ≡ unwrap_or (entered_by (first_asked (escape text))) (has_instructions_next text)
stops_at b text h = let e : (b == esc) ≡ true = grind (arith, nat_tests) in rw e refl

-- bytes that are none
passes_some : (k : ℕ) (text : List ℕ) → k ≤ length text → ((i : ℕ) → i < k → ¬ (get_or text i 0 ≡ esc)) → has_instructions_next text ≡ has_instructions_next (drop k text)
passes_some zero text l h = refl
passes_some (suc k) [] l h = absurd (omega (arith, l))
passes_some (suc k) (b ∷ text) l h = passes_other b text (h 0 (omega arith)) ∙ passes_some k text (omega (arith, l)) (λ i below. h (suc i) (omega arith))

pub none_there : (text : List ℕ) → ((i : ℕ) → i < length text → ¬ (get_or text i 0 ≡ esc)) → has_instructions_next text ≡ false
none_there [] h = refl
none_there (b ∷ text) h = passes_other b text (h 0 (omega arith)) ∙ none_there text (λ i below. h (suc i) (omega arith))

-- the first ESC decides, or what follows it
pub first_there : (text : List ℕ) (k : ℕ) → k < length text → ((i : ℕ) → i < k → ¬ (get_or text i 0 ≡ esc)) → get_or text k 0 ≡ esc
    → has_instructions_next text ≡ unwrap_or (entered_by (first_asked (escape (drop (k + 1) text)))) (has_instructions_next (drop (k + 1) text))
first_there text k l h e =
    passes_some k text (omega (arith, l)) h ∙ ap has_instructions_next (drop_more text k 0 l) ∙ stops_at (get_or text k 0) (drop (k + 1) text) e

-- by a search for the next ESC
pub next_is : (text left after : List ℕ) (place : ℕ) (found : Option Bool) → has_instructions_next left ≡ has_instructions_next text
    → NoneBefore (Passes (is_byte 27) left) 0 (length left) place → Passes (is_byte 27) left place
    → after ≡ drop (place + 1) left → found ≡ entered_by (first_asked (escape after))
    → has_instructions_next text ≡ unwrap_or found (has_instructions_next after)
next_is text left after place found same none here e r =
    sym same
    ∙ first_there left place none.high (λ i below. is_other left i (none.before i (omega arith) below)) (is_esc left place here)
    ∙ ap (λ (z : List ℕ). unwrap_or (entered_by (first_asked (escape z))) (has_instructions_next z)) (sym e)
    ∙ ap (λ (z : Option Bool). unwrap_or z (has_instructions_next after)) (sym r)

pub none_is : (text left : List ℕ) → has_instructions_next left ≡ has_instructions_next text → Nowhere (Passes (is_byte 27) left) 0 (length left)
    → has_instructions_next text ≡ false
none_is text left same none = sym same ∙ none_there left (λ i below. is_other left i (none i (omega arith) below))
