use Rattle.std.proofs.Common.{◌<◌, ◌^◌, ℕ, get_or, length, subst, sym}
use Rattle.png.specs.Headers.{HasColours, bits_of_depth}
use Rattle.png.specs.declared.header.Layout.{Layout}
use Rattle.rows.specs.PixelRows.{sample_count, sample_depth}
use Rattle.rows.proofs.PixelRows.{places_small}
use Rattle.rows.proofs.sample_row.put_samples.Goals as goal

pub returns-in-Indexed-clause-small : goal.returns-in-Indexed-clause-small
returns-in-Indexed-clause-small c =
    let pixels = c.args.pixels.now in
    let new = c.put_places.new.samples in
    subst (λ (l : Layout). HasColours l → (k : ℕ) → k < sample_count l (length pixels) → get_or new k 0 < 2 ^ bits_of_depth (sample_depth l)) (sym c.in-Indexed.is)
    (λ has. places_small c.in-Indexed.depth c.in-Indexed.palette.now pixels c.args.samples.now new has.0 has.1 c.put_places.ensures) c.requires.colours
