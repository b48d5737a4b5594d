-- What a run does for a picture that is asked for.
use Rattle.std.proofs.Common.{◌≡◌, ℕ, Bool, true, false, Result, Ok, Err, inl, inr, refl, ap, subst}
use Rattle.picture_job.specs.declared.picture.Picture.{Picture}
use Rattle.devices.specs.Sinks.{SinkState}
use Rattle.devices.specs.Sources.{SourceState}
use Rattle.rows.specs.Pictures.{exact}
use Rattle.conversion.specs.Kinds.{HasConvertedTo, HasDrawnTurned, IsToldOfPicture, WritesSheet}
use Rattle.conversion.specs.PageJobs.{is_picture_possible}
use Rattle.conversion.specs.Rules.{rules_in}
use Rattle.conversion.specs.declared.fault.Fault.{Fault}
use Rattle.conversion.specs.declared.fault.Fault.TheVariants.{Resolution}
use Rattle.conversion.specs.declared.naming.Naming.{Naming}
use Rattle.conversion.specs.declared.outcome.Outcome.{Outcome}
use Rattle.conversion.specs.declared.place.Drawing.{Drawing}
use Rattle.conversion.specs.declared.request.Request.{Request}
use Rattle.conversion.specs.declared.setup.Setup.{Setup}

module _ {W : Type 0} (hears : W → ℕ → ℕ → W → Type 0) (setup : Setup) (picture : Picture) (naming : Naming) where
  -- it cannot have its resolution
  pub not_asked : (source : SourceState) (sink : SinkState) (watcher : W) (fault : Fault) → fault ≡ Resolution → is_picture_possible setup.choice picture ≡ false
      → HasConvertedTo setup.turn (rules_in setup) setup.choice picture naming exact source source sink sink hears watcher watcher (Err fault)
  not_asked source sink watcher fault is none = record {
    unread = λ _. (ap Err is, refl, refl);
    converts = λ possible. absurd (cc);
  }

  module _ (request : Request) (of_setup : request.setup ≡ setup) (of_picture : request.picture.now ≡ picture) (named : request.naming ≡ naming) (before after : SourceState) (sink sink' : SinkState) (watcher watcher' : W) where
    asked : (answer : Result Outcome Fault)
        → HasConvertedTo request.setup.turn (rules_in request.setup) request.setup.choice request.picture.now request.naming exact before after sink sink' hears watcher watcher' answer
        → HasConvertedTo setup.turn (rules_in setup) setup.choice picture naming exact before after sink sink' hears watcher watcher' answer
    asked answer h =
        let P : Setup → Picture → Naming → Type 0 = λ s p n. HasConvertedTo s.turn (rules_in s) s.choice p n exact before after sink sink' hears watcher watcher' answer in
        subst (λ (n : Naming). P setup picture n) named (subst (λ (p : Picture). P setup p request.naming) of_picture (subst (λ (s : Setup). P s request.picture.now request.naming) of_setup h))

    -- it was drawn and written
    pub written : (drawing : Drawing) (answer : Result Outcome Fault) → HasDrawnTurned request.setup.turn (rules_in request.setup) request.setup.choice request.picture.now before after (Ok drawing)
        → WritesSheet request.setup.choice request.picture.now request.naming exact drawing 0 sink sink' answer
        → IsToldOfPicture hears request.setup.choice request.picture.now drawing.page watcher watcher' answer
        → HasConvertedTo setup.turn (rules_in setup) setup.choice picture naming exact before after sink sink' hears watcher watcher' answer
    written drawing answer drawn wrote told = asked answer (record {
      unread = λ none. (let possible = request.possible in absurd (cc));
      converts = λ _. inl (drawing, drawn, wrote, told);
    })

  -- it was not drawn
  pub not_drawn : (request : Request) → request.setup ≡ setup → request.picture.now ≡ picture → request.naming ≡ naming → (before after : SourceState) (sink : SinkState) (watcher : W) (fault : Fault)
      → HasDrawnTurned request.setup.turn (rules_in request.setup) request.setup.choice request.picture.now before after (Err fault)
      → HasConvertedTo setup.turn (rules_in setup) setup.choice picture naming exact before after sink sink hears watcher watcher (Err fault)
  not_drawn request of_setup of_picture named before after sink watcher fault drawn =
      asked request of_setup of_picture named before after sink sink watcher watcher (Err fault) (record {
        unread = λ none. (let possible = request.possible in absurd (cc));
        converts = λ _. inr (fault, drawn, refl, refl);
      })
