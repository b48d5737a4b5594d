use Rattle.std.proofs.Common.{ℕ, List, ap, ◌∙◌}
use Rattle.png.specs.declared.header.Layout.{Layout}
use Rattle.rows.specs.PixelRows.{layout_bytes}
use Rattle.rows.specs.Pictures.{Reach}
use Rattle.rows.specs.Progress.{row_pixels}
use Rattle.rows.proofs.smooth_bands.SmoothBandsBands.begin.Goals as goal

pub returns-in-Ok-clause-text : goal.returns-in-Ok-clause-text
returns-in-Ok-clause-text c =
    let bands = c.in-Ok.bands in
    ap {B = Reach → ℕ → List ℕ} (λ (l : Layout). λ reaches row. layout_bytes l (row_pixels bands reaches row)) c.in-Ok.ensures.layout
    ∙ ap {B = Reach → ℕ → List ℕ} (λ (f : Reach → ℕ → List (List ℕ)). λ reaches row. layout_bytes c.args.ask.layout (f reaches row)) c.in-Ok.ensures.pixels
