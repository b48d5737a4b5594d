-- Places of colours, and samples of pixels.
use Rattle.std.proofs.Common.{◌≡◌, ℕ, zero, suc, ◌/◌, ◌%◌, ◌+◌, ◌*◌, ◌^◌, ◌<◌, ◌≤◌, Bool, true, false, cond, ◌||◌, List, [], ◌∷◌, length, get_or, map, set, take, refl, sym, ap, ap₂, ◌∙◌, subst, arith, inl, inr}
use borrow.Author.Count.{below_more}
use Rattle.std.specs.List.{flat_map, list_any}
use Rattle.std.specs.Str.{bytes_eq}
use Rattle.std.proofs.lemmas.Bool.{cases_lt, le-ltb, lt-ltb}
use Rattle.std.proofs.lemmas.List.{get_or-map, get_or-set_other, get_or-set_same, length-map}
use Rattle.std.proofs.lemmas.List.Concat.{flat_map-cons}
use Rattle.png.specs.declared.header.Depth.{Depth}
use Rattle.png.specs.declared.header.Layout.{Layout}
use Rattle.png.specs.declared.header.Layout.TheVariants.{Indexed, Grey, Rgb}
use Rattle.png.specs.Headers.{bits_of_depth, three}
use Rattle.rows.specs.PixelRows.{HasSamples, number_in, place_of, sample_count, samples_of}

later : (colours : List (List ℕ)) (c colour : List ℕ) (b : Bool) → bytes_eq colour c ≡ b → (b || list_any (bytes_eq colour) colours) ≡ false → (bytes_eq colour c ≡ false) × (list_any (bytes_eq colour) colours ≡ false)
later colours c colour true is none = absurd (cc)
later colours c colour false is none = (is, none)

-- a colour's place: none before it is this one, and it is, or the list ends
pub place_at : (colours : List (List ℕ)) (colour : List ℕ) (i : ℕ) → i ≤ length colours → list_any (bytes_eq colour) (take i colours) ≡ false
    → (i < length colours → bytes_eq colour (get_or colours i []) ≡ true) → i ≡ place_of colours colour
unfolding place_of
place_at [] colour zero le none here = refl
place_at [] colour (suc i) le none here = absurd (omega (arith, le))
place_at (c ∷ colours) colour zero le none here = sym (ap (λ (b : Bool). cond b 0 (suc (place_of colours colour))) (here (omega arith)))
place_at (c ∷ colours) colour (suc i) le none here =
    let h = later (take i colours) c colour (bytes_eq colour c) refl none in
    ap suc (place_at colours colour i (omega (arith, le)) h.1 (λ lt. here (omega (arith, lt))))
    ∙ sym (ap (λ (b : Bool). cond b 0 (suc (place_of colours colour))) h.0)

-- the channels of pixels, one after another
pub channel_at : (ps : List (List ℕ)) (i : ℕ) → get_or (flat_map three ps) i 0 ≡ get_or (get_or ps (i / 3) []) (i % 3) 0
channel_at [] i = refl
channel_at (p ∷ ps) zero = refl
channel_at (p ∷ ps) (suc zero) = refl
channel_at (p ∷ ps) (suc (suc zero)) = refl
channel_at (p ∷ ps) (suc (suc (suc i))) =
    let whole : suc (suc (suc i)) / 3 ≡ suc (i / 3) = omega arith in
    let rest : suc (suc (suc i)) % 3 ≡ i % 3 = omega arith in
    ap (λ (z : List ℕ). get_or z (suc (suc (suc i))) 0) (flat_map-cons three p ps)
    ∙ channel_at ps i
    ∙ sym (ap₂ (λ (a b : ℕ). get_or (get_or (p ∷ ps) a []) b 0) whole rest)

-- how many there are
pub channels_size : (ps : List (List ℕ)) → length (flat_map three ps) ≡ 3 * length ps
channels_size [] = omega arith
channels_size (p ∷ ps) = omega (arith, ap length (flat_map-cons three p ps), channels_size ps)

-- one sample more
pub written_more : (samples values : List ℕ) (i v : ℕ) → i < length samples → v ≡ get_or values i 0 → ((k : ℕ) → k < i → get_or samples k 0 ≡ get_or values k 0)
    → (k : ℕ) → k < i + 1 → get_or (set samples i v) k 0 ≡ get_or values k 0
written_more samples values i v lt is before =
    below_more (λ (k : ℕ). get_or (set samples i v) k 0 ≡ get_or values k 0) i
    (λ k small. get_or-set_other samples i k v 0 (λ e. omega (arith, e, small)) ∙ before k small) (get_or-set_same samples i v 0 lt ∙ is)

pub others_kept : (samples old : List ℕ) (i v from : ℕ) → i < from → ((k : ℕ) → from ≤ k → get_or samples k 0 ≡ get_or old k 0)
    → (k : ℕ) → from ≤ k → get_or (set samples i v) k 0 ≡ get_or old k 0
others_kept samples old i v from lt before k le = get_or-set_other samples i k v 0 (λ e. omega (arith, e, lt, le)) ∙ before k le

-- a number in a palette is within it
pub number_within : (palette : List (List ℕ)) (colour : List ℕ) → 0 < length palette → number_in palette colour < length palette
number_within palette colour some = elim (cases_lt (place_of palette colour) (length palette)) as (λ _. number_in palette colour < length palette) [
  | inl lt ↦ subst (λ (b : Bool). cond b (place_of palette colour) 0 < length palette) (sym (lt-ltb _ _ lt)) lt
  | inr le ↦ subst (λ (b : Bool). cond b (place_of palette colour) 0 < length palette) (sym (le-ltb _ _ le)) some
]

pub places_small : (depth : Depth) (palette pixels : List (List ℕ)) (old samples : List ℕ) → 0 < length palette → length palette ≤ 2 ^ bits_of_depth depth
    → HasSamples (map (number_in palette) pixels) old samples → (k : ℕ) → k < length pixels → get_or samples k 0 < 2 ^ bits_of_depth depth
places_small depth palette pixels old samples some few has k lt =
    let written : get_or samples k 0 ≡ number_in palette (get_or pixels k []) =
    has.written k (omega (arith, lt, length-map pixels (number_in palette))) ∙ get_or-map (number_in palette) pixels k [] 0 lt in
    omega (arith, written, few, number_within palette (get_or pixels k []) some)

-- how many samples there are
pub samples_size : (layout : Layout) (pixels : List (List ℕ)) → length (samples_of layout pixels) ≡ sample_count layout (length pixels)
samples_size (Indexed depth palette) pixels = length-map pixels (number_in palette.now)
samples_size Grey pixels = length-map pixels (λ (pixel : List ℕ). get_or pixel 0 0)
samples_size Rgb pixels = channels_size pixels
