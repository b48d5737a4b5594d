-- The last positions for which two tests hold: if they differ only where both hold for a position before that looks alike, as do
-- those between, then the last ones look alike.
use Rattle.std.proofs.Common.{◌≡◌, ◌∙◌, ℕ, zero, suc, ◌≤◌, ◌≢◌, Bool, true, false, ◌⊎◌, inl, inr, refl, sym, ap, arith}
use Rattle.std.proofs.lemmas.Bool.{true≢false}
use Rattle.stroke_raster.specs.ShownShapes.{last_at}

-- a position before, or this one, for which both tests hold, and from which up to this one all look alike
pub record IsHidden {X : Type 0} (test after : ℕ → Bool) (look : ℕ → X) (e : ℕ) : Type 0 where
  pub first : ℕ
  pub from : 1 ≤ first
  pub to : first ≤ e
  pub here : test first ≡ true
  pub there : after first ≡ true
  pub alike : (k : ℕ) → first ≤ k → k ≤ e → look k ≡ look e

last_yes : (test : ℕ → Bool) (n : ℕ) → test (suc n) ≡ true → last_at test (suc n) ≡ suc n
last_yes test n h = rw h refl

last_no : (test : ℕ → Bool) (n : ℕ) → test (suc n) ≡ false → last_at test (suc n) ≡ last_at test n
last_no test n h = rw h refl

within_by : (test : ℕ → Bool) (n : ℕ) → last_at test n ≤ n → (b : Bool) → test (suc n) ≡ b → last_at test (suc n) ≤ suc n
within_by test n w true h = let e = last_yes test n h in omega (arith, e)
within_by test n w false h = let e = last_no test n h in omega (arith, e, w)

pub last_within : (test : ℕ → Bool) (n : ℕ) → last_at test n ≤ n
last_within test zero = omega arith
last_within test (suc n) = within_by test n (last_within test n) (test (suc n)) refl

-- a position for which a test does not hold is not the one for which it does
apart : (test : ℕ → Bool) (f n : ℕ) → test f ≡ true → test (suc n) ≡ false → f ≢ suc n
apart test f n t u same = true≢false (sym t ∙ ap test same ∙ u)

before : (f n : ℕ) → f ≤ suc n → f ≢ suc n → f ≤ n
before f n h k = omega (arith, h, k)

from_by : (test : ℕ → Bool) (n f : ℕ) → (f ≤ n → f ≤ last_at test n) → f ≤ suc n → test f ≡ true → (b : Bool) → test (suc n) ≡ b
    → f ≤ last_at test (suc n)
from_by test n f more to h true e = let l = last_yes test n e in omega (arith, l, to)
from_by test n f more to h false e =
    let l = last_no test n e in
    let k = more (before f n to (apart test f n h e)) in
    omega (arith, l, k)

last_from : (test : ℕ → Bool) (n f : ℕ) → 1 ≤ f → f ≤ n → test f ≡ true → f ≤ last_at test n
last_from test zero f from to h = omega (arith, from, to)
last_from test (suc n) f from to h = from_by test n f (λ k. last_from test n f from k h) to h (test (suc n)) refl

module _ {X : Type 0} (test after : ℕ → Bool) (look : ℕ → X) where
  abbrev Agrees : ℕ → Type 0
  Agrees e = (test e ≡ after e) ⊎ IsHidden test after look e

  differs : (n : ℕ) → Agrees (suc n) → test (suc n) ≡ true → after (suc n) ≡ false
      → look (last_at after (suc n)) ≡ look (last_at test (suc n))
  differs n (inl same) t u = absurd (true≢false (sym t ∙ same ∙ u))
  differs n (inr h) t u =
      let l = last_no after n u in
      let f = last_from after n h.first h.from (before h.first n h.to (apart after h.first n h.there u)) h.there in
      let w = last_within after n in
      ap look l ∙ h.alike (last_at after n) f (omega (arith, w)) ∙ sym (ap look (last_yes test n t))

  differs_back : (n : ℕ) → Agrees (suc n) → test (suc n) ≡ false → after (suc n) ≡ true
      → look (last_at after (suc n)) ≡ look (last_at test (suc n))
  differs_back n (inl same) u t = absurd (true≢false (sym t ∙ sym same ∙ u))
  differs_back n (inr h) u t =
      let l = last_no test n u in
      let f = last_from test n h.first h.from (before h.first n h.to (apart test h.first n h.here u)) h.here in
      let w = last_within test n in
      ap look (last_yes after n t) ∙ sym (ap look l ∙ h.alike (last_at test n) f (omega (arith, w)))

  alike_by : (n : ℕ) → Agrees (suc n) → look (last_at after n) ≡ look (last_at test n) → (b c : Bool) → test (suc n) ≡ b
      → after (suc n) ≡ c
      → look (last_at after (suc n)) ≡ look (last_at test (suc n))
  alike_by n h more true true e f = ap look (last_yes after n f ∙ sym (last_yes test n e))
  alike_by n h more false false e f = ap look (last_no after n f) ∙ more ∙ ap look (sym (last_no test n e))
  alike_by n h more true false e f = differs n h e f
  alike_by n h more false true e f = differs_back n h e f

  pub last_alike : (n : ℕ) → ((e : ℕ) → 1 ≤ e → e ≤ n → Agrees e) → look (last_at after n) ≡ look (last_at test n)
  last_alike zero h = refl
  last_alike (suc n) h =
      alike_by n (h (suc n) (omega arith) (omega arith)) (last_alike n (λ k from to. h k from (omega (arith, to)))) (test (suc n)) (after (suc n)) refl refl
