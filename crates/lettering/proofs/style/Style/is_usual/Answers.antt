use Rattle.std.proofs.Common.{◌≡◌, ◌∙◌, ap, ap₂, ℕ, ℤ, IsTrue, pos, rules}
use Rattle.exact.specs.declared.spot.Spot.{Spot}
use Rattle.lettering.specs.Styles.{usual}
use Rattle.lettering.specs.declared.style.LineFeed.{LineFeed}
use Rattle.lettering.specs.declared.style.LineFeed.TheVariants.{Normal}
use Rattle.lettering.specs.declared.style.Path.{Path}
use Rattle.lettering.specs.declared.style.Path.TheVariants.{Right}
use Rattle.lettering.specs.declared.style.Style.{Style}
use Rattle.lettering.proofs.style.Style.is_usual.Goals as goal

-- two styles whose parts are the same
same_style : (s t : Style) → s.width ≡ t.width → s.height ≡ t.height → s.direction ≡ t.direction → s.slant ≡ t.slant
    → s.step_x ≡ t.step_x → s.step_y ≡ t.step_y → s.path ≡ t.path → s.line_feed ≡ t.line_feed → s.origin ≡ t.origin → s ≡ t
same_style s t w h d sl x y p f o =
    ap₂ (λ (a b : ℤ). record s { width = a; height = b }) w h
    ∙ ap₂ (λ (a : Spot) (b : ℤ). record s { width = t.width; height = t.height; direction = a; slant = b }) d sl
    ∙ ap₂ (λ (a b : ℤ). record t { step_x = a; step_y = b; path = s.path; line_feed = s.line_feed; origin = s.origin }) x y
    ∙ ap₂ (λ (a : Path) (b : LineFeed). record t { path = a; line_feed = b; origin = s.origin }) p f
    ∙ ap (λ (a : ℕ). record t { origin = a }) o

pub returns : goal.returns
returns c =
    let s : Style = c.args.self.now in
    let width : s.width ≡ c.args.size.width = search rules in
    let height : s.height ≡ c.args.size.height = search rules in
    let slant : s.slant ≡ pos 0 = search rules in
    let step_x : s.step_x ≡ pos 1000000 = search rules in
    let step_y : s.step_y ≡ pos 1000000 = search rules in
    let path : s.path ≡ Right = search rules in
    let line_feed : s.line_feed ≡ Normal = search rules in
    let origin : s.origin ≡ 1 = search rules in
    λ (same : IsTrue c.is_same.result).
    same_style s (record usual { width = c.args.size.width; height = c.args.size.height; direction = c.args.direction })
    width height (c.is_same.ensures same) slant step_x step_y path line_feed origin
