-- A plot that was drawn and is then turned, or cannot be turned.
use Rattle.std.proofs.Common.{◌≡◌, ◌≢◌, ◌∙◌, Result, Ok, Err, false, ap, refl, subst, sym}
use Rattle.plot_page.specs.declared.pens.PenSet.{PenSet}
use Rattle.picture_job.specs.declared.page_choice.PageChoice.{PageChoice}
use Rattle.picture_job.specs.declared.picture.Picture.{Picture}
use Rattle.devices.specs.Sources.{SourceState}
use Rattle.directions.specs.declared.turn.Turn.{Turn}
use Rattle.directions.specs.declared.turn.Turn.TheVariants.{None, Quarter, Half, ThreeQuarters}
use Rattle.conversion.specs.Kinds.{HasDrawnFor, HasDrawnTurned, HasTurned, pens_of}
use Rattle.conversion.specs.Rules.{Rules}
use Rattle.conversion.specs.Turned.{IsTurned, can_be_turned}
use Rattle.conversion.specs.declared.fault.Fault.{Fault}
use Rattle.conversion.specs.declared.fault.Fault.TheVariants.{Unturned}
use Rattle.conversion.specs.declared.place.Drawing.{Drawing}

module _ (rules : Rules) (choice : PageChoice) (picture : Picture) (before after : SourceState) where
  -- what is turned is drawn, and then turned
  as_turned : (turn : Turn) (answer : Result Drawing Fault) → turn ≢ None → HasTurned turn rules choice picture before after answer
      → HasDrawnTurned turn rules choice picture before after answer
  as_turned None answer some h = absurd (some refl)
  as_turned Quarter answer some h = h
  as_turned Half answer some h = h
  as_turned ThreeQuarters answer some h = h

  module _ (turn : Turn) (some : turn ≢ None) (pens : PenSet) (its : pens ≡ pens_of picture) (drawing : Drawing) (drawn : HasDrawnFor rules choice picture before after (Ok drawing)) where
    pub turned_so : (turned : Drawing) → IsTurned pens turn drawing turned → HasDrawnTurned turn rules choice picture before after (Ok turned)
    turned_so turned h =
        as_turned turn (Ok turned) some (drawing, drawn, subst (λ (p : PenSet). IsTurned p turn drawing turned) its h)

    pub unturned_so : can_be_turned pens turn drawing ≡ false → HasDrawnTurned turn rules choice picture before after (Err Unturned)
    unturned_so h =
        let by_pens = ap (λ (p : PenSet). can_be_turned p turn drawing) (sym its) ∙ h in
        as_turned turn (Err Unturned) some (drawing, drawn, by_pens)
