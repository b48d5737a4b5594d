-- Where a picture lies is determined.
use Rattle.std.proofs.Common.{◌≡◌, ◌≤◌, ◌∙◌, ℕ, Bool, true, false, List, Option, Some, None, refl, sym, ap, subst}
use Rattle.std.proofs.Props.{props}
use mathlib.Core.HLevel.{is_prop→PathP}
use Rattle.rows.specs.Contents.{ContentList}
use Rattle.plot_page.specs.declared.page.Page.{Page}
use Rattle.plot_page.specs.declared.pens.PenSet.{PenSet}
use Rattle.page_fit.specs.Around.{Sides, sides_of}
use Rattle.page_fit.specs.declared.around.Corner.{Corner}
use Rattle.page_fit.specs.declared.extent.Extent.{Extent}
use Rattle.picture_job.specs.declared.page_choice.PageChoice.{PageChoice}
use Rattle.conversion.specs.Placements.{HasNoPage, IsAround, IsAsked, IsDrawnOn, IsFirstPage, IsFitted, IsPlaced, IsPlacedBy}
use Rattle.conversion.specs.Placements.{Place, contents_extent, no_corner}
use Rattle.conversion.specs.Rules.{Rules, contents_by}
use Rattle.conversion.specs.declared.placement.Placement.{Placement}
use Rattle.conversion.specs.declared.placement.Placement.TheVariants.{Given, Asked, Unasked, Fitted, Blank, TooLarge}

-- pages of the same numbers are the same
same_page : (p q : Page) → p.width ≡ q.width → p.height ≡ q.height → p.left ≡ q.left → p.below ≡ q.below → p ≡ q
same_page p q w h l b =
    λ i. record {
      width = w i;
      height = h i;
      left = l i;
      below = b i;
      width_in = is_prop→PathP (λ j. (64 ≤ w j) × (w j ≤ 524288)) (λ j. hlevel props) p.width_in q.width_in i;
      height_in = is_prop→PathP (λ j. (64 ≤ h j) × (h j ≤ 524288)) (λ j. hlevel props) p.height_in q.height_in i;
      left_in = is_prop→PathP (λ j. l j ≤ 65536) (λ j. hlevel props) p.left_in q.left_in i;
      below_in = is_prop→PathP (λ j. b j ≤ 65536) (λ j. hlevel props) p.below_in q.below_in i;
    }

by_sides : (p q : Page) (s : Option Sides) → s ≡ Some (sides_of p) → s ≡ Some (sides_of q) → p ≡ q
by_sides p q s is_p is_q =
    let same : Some (sides_of p) ≡ Some (sides_of q) = sym is_p ∙ is_q in
    let alike : sides_of p ≡ sides_of q = cc in
    same_page p q (ap (λ (x : Sides). x.width) alike) (ap (λ (x : Sides). x.height) alike) (ap (λ (x : Sides). x.left) alike) (ap (λ (x : Sides). x.below) alike)

-- an answer is another one
clash : {X : Type 0} (o : Option X) (x : X) → o ≡ None → o ≡ Some x → ⊥
clash o x none some = absurd (cc)

-- the page that a plot is drawn on is determined, and why it is
asked_alike : (rules : Rules) (given : Page) (plot : List ℕ) (p q : Placement) (page page' : Page) → IsAsked rules given plot p page → IsAsked rules given plot q page'
    → (p ≡ q) × (page ≡ page')
asked_alike rules given plot Asked Asked page page' a b = (refl, by_sides page page' (rules.asked given plot) a b)
asked_alike rules given plot Asked Unasked page page' a b = absurd (clash (rules.asked given plot) (sides_of page) b.1 a)
asked_alike rules given plot Unasked Asked page page' a b = absurd (clash (rules.asked given plot) (sides_of page') a.1 b)
asked_alike rules given plot Unasked Unasked page page' a b = (refl, a.0 ∙ sym b.0)
asked_alike rules given plot Asked Given page page' a b = absurd b
asked_alike rules given plot Asked Fitted page page' a b = absurd b
asked_alike rules given plot Asked Blank page page' a b = absurd b
asked_alike rules given plot Asked TooLarge page page' a b = absurd b
asked_alike rules given plot Unasked Given page page' a b = absurd b
asked_alike rules given plot Unasked Fitted page page' a b = absurd b
asked_alike rules given plot Unasked Blank page page' a b = absurd b
asked_alike rules given plot Unasked TooLarge page page' a b = absurd b
asked_alike rules given plot Given q page page' a b = absurd a
asked_alike rules given plot Fitted q page page' a b = absurd a
asked_alike rules given plot Blank q page page' a b = absurd a
asked_alike rules given plot TooLarge q page page' a b = absurd a

drawn_alike : (asked : Bool) (rules : Rules) (given : Page) (plot : List ℕ) (p q : Placement) (page page' : Page) → IsDrawnOn asked rules given plot p page → IsDrawnOn asked rules given plot q page'
    → (p ≡ q) × (page ≡ page')
drawn_alike true rules given plot p q page page' a b = asked_alike rules given plot p q page page' a b
drawn_alike false rules given plot p q page page' a b = (a.0 ∙ sym b.0, a.1 ∙ sym b.1)

module _ (longest : ℕ) (pens : PenSet) (margin : ℕ) (on : Page) (contents : ContentList) where
  abbrev Is : Placement → Corner → Page → Type 0
  Is placement corner page = IsFitted longest pens margin on contents placement corner page

  abbrev seen : Option Extent
  seen = contents_extent pens on contents

  Alike : Placement → Corner → Page → Placement → Corner → Page → Type 0
  Alike p k page q k' page' = (p ≡ q) × ((k ≡ k') × (page ≡ page'))

  one_extent : (e f : Extent) → seen ≡ Some e → seen ≡ Some f → e ≡ f
  one_extent e f a b = let same : Some e ≡ Some f = sym a ∙ b in cc

  around_once : (e f : Extent) (k k' : Corner) (page page' : Page) → seen ≡ Some e → seen ≡ Some f → IsAround longest pens margin contents e k page → IsAround longest pens margin contents f k' page'
      → (k ≡ k') × (page ≡ page')
  around_once e f k k' page page' a b x y =
      let y' = subst (λ (z : Extent). IsAround longest pens margin contents z k' page') (one_extent f e b a) y in
      (x.corner_is ∙ sym y'.corner_is, by_sides page page' _ x.sides y'.sides)

  no_around : (e f : Extent) (k : Corner) (page : Page) → seen ≡ Some e → seen ≡ Some f → IsAround longest pens margin contents e k page → HasNoPage longest pens margin contents f → ⊥
  no_around e f k page a b x none = none k page (subst (λ (z : Extent). IsAround longest pens margin contents z k page) (one_extent e f a b) x)

  stays : (p : Placement) (k k' : Corner) (page page' : Page) → k ≡ no_corner → k' ≡ no_corner → page ≡ on → page' ≡ on → Alike p k page p k' page'
  unfolding Alike
  stays p k k' page page' a b c d = (refl, (a ∙ sym b, c ∙ sym d))

  pub fitted_alike : (p q : Placement) (k k' : Corner) (page page' : Page) → Is p k page → Is q k' page' → (p ≡ q) × ((k ≡ k') × (page ≡ page'))
  unfolding Alike
  fitted_alike Fitted Fitted k k' page page' a b = (refl, around_once a.0 b.0 k k' page page' a.1 b.1 a.2 b.2)
  fitted_alike Fitted Blank k k' page page' a b = absurd (clash seen a.0 b.2 a.1)
  fitted_alike Fitted TooLarge k k' page page' a b = absurd (no_around a.0 b.2.0 k page a.1 b.2.1 a.2 b.2.2)
  fitted_alike Fitted Given k k' page page' a b = absurd b
  fitted_alike Fitted Asked k k' page page' a b = absurd b
  fitted_alike Fitted Unasked k k' page page' a b = absurd b
  fitted_alike Blank Fitted k k' page page' a b = absurd (clash seen b.0 a.2 b.1)
  fitted_alike Blank Blank k k' page page' a b = stays Blank k k' page page' a.0 b.0 a.1 b.1
  fitted_alike Blank TooLarge k k' page page' a b = absurd (clash seen b.2.0 a.2 b.2.1)
  fitted_alike Blank Given k k' page page' a b = absurd b
  fitted_alike Blank Asked k k' page page' a b = absurd b
  fitted_alike Blank Unasked k k' page page' a b = absurd b
  fitted_alike TooLarge Fitted k k' page page' a b = absurd (no_around b.0 a.2.0 k' page' b.1 a.2.1 b.2 a.2.2)
  fitted_alike TooLarge Blank k k' page page' a b = absurd (clash seen a.2.0 b.2 a.2.1)
  fitted_alike TooLarge TooLarge k k' page page' a b = stays TooLarge k k' page page' a.0 b.0 a.1 b.1
  fitted_alike TooLarge Given k k' page page' a b = absurd b
  fitted_alike TooLarge Asked k k' page page' a b = absurd b
  fitted_alike TooLarge Unasked k k' page page' a b = absurd b
  fitted_alike Given q k k' page page' a b = absurd a
  fitted_alike Asked q k k' page page' a b = absurd a
  fitted_alike Unasked q k k' page page' a b = absurd a

one_place : (p q : Place) → p.placement ≡ q.placement → p.drawn_on ≡ q.drawn_on → p.corner ≡ q.corner → p.page ≡ q.page → p ≡ q
one_place p q w d k e = λ i. record { placement = w i; drawn_on = d i; corner = k i; page = e i }

placed_by : (m : Option ℕ) (c : PageChoice) (rules : Rules) (pens : PenSet) (given : Page) (plot : List ℕ) (p q : Place)
    → IsPlacedBy m c rules pens given plot p → IsPlacedBy m c rules pens given plot q → p ≡ q
placed_by None c rules pens given plot p q a b =
    let on = drawn_alike c.asked rules given plot p.placement q.placement p.drawn_on q.drawn_on a.0 b.0 in
    one_place p q on.0 on.1 (a.1 ∙ sym b.1) (a.2 ∙ on.1 ∙ sym b.2)
placed_by (Some margin) c rules pens given plot p q a b =
    let on : p.drawn_on ≡ q.drawn_on = (drawn_alike c.asked rules given plot a.0.0 b.0.0 p.drawn_on q.drawn_on a.0.1 b.0.1).1 in
    let b' = subst (λ (x : Page). IsFitted rules.longest pens margin x (contents_by rules x plot) q.placement q.corner q.page) (sym on) b.1 in
    let same = fitted_alike rules.longest pens margin p.drawn_on (contents_by rules p.drawn_on plot) p.placement q.placement p.corner q.corner p.page q.page a.1 b' in
    one_place p q same.0 on same.1.0 same.1.1

-- the picture of a plot lies in one place
pub placed_alike : (c : PageChoice) (rules : Rules) (pens : PenSet) (given : Page) (plot : List ℕ) (p q : Place)
    → IsPlaced c rules pens given plot p → IsPlaced c rules pens given plot q → p ≡ q
placed_alike c rules pens given plot p q a b = placed_by c.margin c rules pens given plot p q a b

-- if no page is asked for, a plot is drawn on the given one
pub first_page : (c : PageChoice) (rules : Rules) (given : Page) (plot : List ℕ) (page : Page) → IsFirstPage c rules given plot page → c.asked ≡ false → page ≡ given
first_page c rules given plot page first not_asked =
    let on = subst (λ (b : Bool). IsDrawnOn b rules given plot first.0 page) not_asked first.1 in
    on.1
