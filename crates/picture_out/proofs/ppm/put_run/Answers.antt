use Rattle.std.proofs.Common.{ℕ, List, ◌≡◌, ◌∙◌, ◌++◌, drop, ap, append-nil, ◌*◌, ◌+◌, ◌/◌, length, take, flat_map, arith, refl}
use Rattle.std.specs.List.{range_with_len}
use Rattle.std.proofs.lemmas.List.{length-take-le, drop_all, take_all}
use Rattle.std.proofs.lemmas.List.FromFn.{length-range_with_len}
use Rattle.picture_out.specs.Inks.{colour_bytes}
use Rattle.picture_out.proofs.Coloured.{threes}
use Rattle.picture_out.proofs.Tables.{piece_more}
use Rattle.picture_out.proofs.ppm.put_run.Goals as goal

pub loop-pixel-preserved : goal.loop-pixel-preserved
loop-pixel-preserved c =
    let i = c.loop-pixel.pixel in
    let count : ℕ = length c.args.out.now / 3 in
    let pixels : List ℕ = range_with_len 0 count in
    let long : length pixels ≡ count = length-range_with_len 0 count in
    let f : ℕ → List ℕ = λ _. colour_bytes c.args.ink in
    let size : length (flat_map f (take i pixels)) ≡ 3 * i = omega (arith, threes f (take i pixels) (λ x. refl), length-take-le i pixels (omega (arith, long))) in
    piece_more f pixels c.loop-pixel.out c.args.out.now i (3 * i) (3 * (i + 1)) c.args.ink.red c.args.ink.green c.args.ink.blue (omega (arith, long)) size (omega arith) (omega arith) c.loop-pixel.invariant refl

pub returns : goal.returns
returns c =
    let out = c.args.out.now in
    let count : ℕ = length out / 3 in
    let pixels : List ℕ = range_with_len 0 count in
    let long : length pixels ≡ count = length-range_with_len 0 count in
    let f : ℕ → List ℕ = λ _. colour_bytes c.args.ink in
    let whole : 3 * count ≡ length out = omega (arith, c.requires) in
    let all : c.loop-pixel.pixel ≡ count = omega arith in
    c.loop-pixel.invariant
    ∙ ap (λ (n : ℕ). flat_map f (take n pixels) ++ drop (3 * n) out) all
    ∙ ap (λ (z : List ℕ). flat_map f (take count pixels) ++ z) (drop_all (3 * count) out (omega (arith, whole)))
    ∙ append-nil (flat_map f (take count pixels))
    ∙ ap (flat_map f) (take_all count pixels (omega (arith, long)))
