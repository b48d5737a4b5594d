use Rattle.std.proofs.Common.{◌≡◌, ◌∙◌, ap, sym, codes, ◌↔◌, Bool, true, List, [], ◌∷◌, Result, Err, Option, Some, None, Ok}
use Rattle.std.specs.Option.{option_or}
use Rattle.std.specs.Prelude.{option_map}
use Rattle.std.specs.Result.{IsErrAnd, result_err}
use Rattle.clap.specs.Words.{Row, found_of, rows_of}
use Rattle.command_line.specs.declared.fault.LineFault.{LineFault}
use Rattle.command_line.specs.declared.subcommands.Kind.{Kind}
use Rattle.command_line.specs.Faults.{Refusal, first_of_these, refusal_of}
use Rattle.command_line.specs.Lines.{carousel_fault, choice_fault, each_fault, labels_fault, output_fault, pixels_fault, reading_fault, selection_fault, task_fault, turn_fault, values_fault}
use Rattle.command_line.proofs.line.line_of.Goals as goal

-- a fault that is passed on says the same of lists of pens
same_pens : {X Y : Type 0} (r : Result X LineFault) (e : LineFault) (bad : Bool) → IsErrAnd r (λ f. f ≡ e)
    → (◌≡◌ {A = Result Y LineFault} (Err e) (Err LineFault.Pens)) ↔ (bad ≡ true) → (r ≡ Err LineFault.Pens) ↔ (bad ≡ true)
same_pens (Ok x) e bad is pens = absurd is
same_pens (Err f) e bad is pens = (λ h. pens.0 (let same : e ≡ LineFault.Pens = cc in ap Err same), λ h. let same : e ≡ LineFault.Pens = (let got = pens.1 h in cc) in ap Err (is ∙ same))

-- pens are selected by no bad list
no_bad_list : {X : Type 0} (x : X) (bad : Bool) → (◌≡◌ {A = Result X LineFault} (Ok x) (Err LineFault.Pens)) ↔ (bad ≡ true) → bad ≡ true → ⊥
no_bad_list x bad pens is = let wrong = pens.1 is in absurd (cc)

-- a fault that is passed on is the fault
passed_on : {X : Type 0} (r : Result X LineFault) (e : LineFault) → IsErrAnd r (λ f. f ≡ e) → option_map refusal_of (result_err r) ≡ Some (refusal_of e)
passed_on (Ok x) e is = absurd is
passed_on (Err f) e is = ap (λ (g : LineFault). Some (refusal_of g)) is

-- the first of these faults, or what follows it
here : (fault : Option Refusal) (others : List (Option Refusal)) (x : Refusal) → Some x ≡ fault → first_of_these (fault ∷ others) ≡ Some x
here fault others x is = ap (λ (o : Option Refusal). option_or o (first_of_these others)) (sym is)

past : (fault : Option Refusal) (others : List (Option Refusal)) → None ≡ fault → first_of_these (fault ∷ others) ≡ first_of_these others
past fault others none = ap (λ (o : Option Refusal). option_or o (first_of_these others)) (sym none)

abbrev told : Option LineFault → Option Refusal
told fault = option_map refusal_of fault

-- the faults that come after so many
abbrev after_10 : Kind → List Row → List (Option Refusal)
after_10 kind rows = []

abbrev after_9 : Kind → List Row → List (Option Refusal)
after_9 kind rows = told (output_fault rows) ∷ after_10 kind rows

abbrev after_8 : Kind → List Row → List (Option Refusal)
after_8 kind rows = told (turn_fault rows) ∷ after_9 kind rows

abbrev after_7 : Kind → List Row → List (Option Refusal)
after_7 kind rows = told (choice_fault kind rows) ∷ after_8 kind rows

abbrev after_6 : Kind → List Row → List (Option Refusal)
after_6 kind rows = told (pixels_fault kind rows) ∷ after_7 kind rows

abbrev after_5 : Kind → List Row → List (Option Refusal)
after_5 kind rows = told (each_fault kind rows) ∷ after_6 kind rows

abbrev after_4 : Kind → List Row → List (Option Refusal)
after_4 kind rows = told (reading_fault rows) ∷ after_5 kind rows

abbrev after_3 : Kind → List Row → List (Option Refusal)
after_3 kind rows = told (task_fault kind rows) ∷ after_4 kind rows

abbrev after_2 : Kind → List Row → List (Option Refusal)
after_2 kind rows = told (labels_fault kind rows) ∷ after_3 kind rows

abbrev after_1 : Kind → List Row → List (Option Refusal)
after_1 kind rows = carousel_fault rows ∷ after_2 kind rows

abbrev after_0 : Kind → List Row → List (Option Refusal)
after_0 kind rows = told (selection_fault kind rows) ∷ after_1 kind rows

-- each fault is the first one if there is none before it, and without any there is none
module _ (kind : Kind) (rows : List Row) where
  bad_0 : (e : LineFault) → Some e ≡ selection_fault kind rows → values_fault kind rows ≡ Some (refusal_of e)
  bad_0 e bad = here (told (selection_fault kind rows)) (after_1 kind rows) (refusal_of e) (ap told bad)

  module _ (g0 : None ≡ selection_fault kind rows) where
    good_0 : values_fault kind rows ≡ first_of_these (after_1 kind rows)
    good_0 = past (told (selection_fault kind rows)) (after_1 kind rows) (ap told g0)

    bad_1 : (x : Refusal) → Some x ≡ carousel_fault rows → values_fault kind rows ≡ Some x
    bad_1 x bad = good_0 ∙ here (carousel_fault rows) (after_2 kind rows) x bad

    module _ (g1 : None ≡ carousel_fault rows) where
      good_1 : values_fault kind rows ≡ first_of_these (after_2 kind rows)
      good_1 = good_0 ∙ past (carousel_fault rows) (after_2 kind rows) g1

      bad_2 : (e : LineFault) → Some e ≡ labels_fault kind rows → values_fault kind rows ≡ Some (refusal_of e)
      bad_2 e bad = good_1 ∙ here (told (labels_fault kind rows)) (after_3 kind rows) (refusal_of e) (ap told bad)

      module _ (g2 : None ≡ labels_fault kind rows) where
        good_2 : values_fault kind rows ≡ first_of_these (after_3 kind rows)
        good_2 = good_1 ∙ past (told (labels_fault kind rows)) (after_3 kind rows) (ap told g2)

        bad_3 : (e : LineFault) → Some e ≡ task_fault kind rows → values_fault kind rows ≡ Some (refusal_of e)
        bad_3 e bad = good_2 ∙ here (told (task_fault kind rows)) (after_4 kind rows) (refusal_of e) (ap told bad)

        module _ (g3 : None ≡ task_fault kind rows) where
          good_3 : values_fault kind rows ≡ first_of_these (after_4 kind rows)
          good_3 = good_2 ∙ past (told (task_fault kind rows)) (after_4 kind rows) (ap told g3)

          bad_4 : (e : LineFault) → Some e ≡ reading_fault rows → values_fault kind rows ≡ Some (refusal_of e)
          bad_4 e bad = good_3 ∙ here (told (reading_fault rows)) (after_5 kind rows) (refusal_of e) (ap told bad)

          module _ (g4 : None ≡ reading_fault rows) where
            good_4 : values_fault kind rows ≡ first_of_these (after_5 kind rows)
            good_4 = good_3 ∙ past (told (reading_fault rows)) (after_5 kind rows) (ap told g4)

            bad_5 : (e : LineFault) → Some e ≡ each_fault kind rows → values_fault kind rows ≡ Some (refusal_of e)
            bad_5 e bad = good_4 ∙ here (told (each_fault kind rows)) (after_6 kind rows) (refusal_of e) (ap told bad)

            module _ (g5 : None ≡ each_fault kind rows) where
              good_5 : values_fault kind rows ≡ first_of_these (after_6 kind rows)
              good_5 = good_4 ∙ past (told (each_fault kind rows)) (after_6 kind rows) (ap told g5)

              bad_6 : (e : LineFault) → Some e ≡ pixels_fault kind rows → values_fault kind rows ≡ Some (refusal_of e)
              bad_6 e bad = good_5 ∙ here (told (pixels_fault kind rows)) (after_7 kind rows) (refusal_of e) (ap told bad)

              module _ (g6 : None ≡ pixels_fault kind rows) where
                good_6 : values_fault kind rows ≡ first_of_these (after_7 kind rows)
                good_6 = good_5 ∙ past (told (pixels_fault kind rows)) (after_7 kind rows) (ap told g6)

                bad_7 : (e : LineFault) → Some e ≡ choice_fault kind rows → values_fault kind rows ≡ Some (refusal_of e)
                bad_7 e bad = good_6 ∙ here (told (choice_fault kind rows)) (after_8 kind rows) (refusal_of e) (ap told bad)

                module _ (g7 : None ≡ choice_fault kind rows) where
                  good_7 : values_fault kind rows ≡ first_of_these (after_8 kind rows)
                  good_7 = good_6 ∙ past (told (choice_fault kind rows)) (after_8 kind rows) (ap told g7)

                  bad_8 : (e : LineFault) → Some e ≡ turn_fault rows → values_fault kind rows ≡ Some (refusal_of e)
                  bad_8 e bad = good_7 ∙ here (told (turn_fault rows)) (after_9 kind rows) (refusal_of e) (ap told bad)

                  module _ (g8 : None ≡ turn_fault rows) where
                    good_8 : values_fault kind rows ≡ first_of_these (after_9 kind rows)
                    good_8 = good_7 ∙ past (told (turn_fault rows)) (after_9 kind rows) (ap told g8)

                    bad_9 : (e : LineFault) → Some e ≡ output_fault rows → values_fault kind rows ≡ Some (refusal_of e)
                    bad_9 e bad = good_8 ∙ here (told (output_fault rows)) (after_10 kind rows) (refusal_of e) (ap told bad)

                    module _ (g9 : None ≡ output_fault rows) where
                      good_9 : values_fault kind rows ≡ first_of_these (after_10 kind rows)
                      good_9 = good_8 ∙ past (told (output_fault rows)) (after_10 kind rows) (ap told g9)

pub returns-in_err-output-clause-pens : goal.returns-in_err-output-clause-pens
returns-in_err-output-clause-pens c = same_pens _ _ _ c.from_residual.ensures.1 c.in_err-output.ensures.pens

pub returns-in_err-output-clause-refused : goal.returns-in_err-output-clause-refused
returns-in_err-output-clause-refused c = λ has.
    passed_on _ _ c.from_residual.ensures.1
    ∙ sym (bad_0 c.args.kind (rows_of (found_of c.args.options.now)) _ (c.in_err-output.ensures.refused has.pens))

pub returns-in_err-carousel-clause-pens : goal.returns-in_err-carousel-clause-pens
returns-in_err-carousel-clause-pens c =
    same_pens _ _ _ c.from_residual-in_err-carousel.ensures.1
    (λ h. absurd (c.in_err-carousel.ensures.pens h), λ bad. absurd (no_bad_list _ _ c.in_ok-output.ensures.pens bad))

pub returns-in_err-carousel-clause-refused : goal.returns-in_err-carousel-clause-refused
returns-in_err-carousel-clause-refused c = λ has.
    passed_on _ _ c.from_residual-in_err-carousel.ensures.1
    ∙ sym (bad_1 c.args.kind (rows_of (found_of c.args.options.now)) (c.in_ok-output.ensures.refused has.pens) _ c.in_err-carousel.ensures.refused)

pub returns-in_err-labels-clause-pens : goal.returns-in_err-labels-clause-pens
returns-in_err-labels-clause-pens c =
    same_pens _ _ _ c.from_residual-in_err-labels.ensures.1
    (λ h. absurd (c.in_err-labels.ensures.pens h), λ bad. absurd (no_bad_list _ _ c.in_ok-output.ensures.pens bad))

pub returns-in_err-labels-clause-refused : goal.returns-in_err-labels-clause-refused
returns-in_err-labels-clause-refused c = λ has.
    passed_on _ _ c.from_residual-in_err-labels.ensures.1
    ∙ sym (bad_2 c.args.kind (rows_of (found_of c.args.options.now)) (c.in_ok-output.ensures.refused has.pens) c.in_ok-carousel.ensures.refused _ c.in_err-labels.ensures.refused)

pub returns-in_err-task-clause-pens : goal.returns-in_err-task-clause-pens
returns-in_err-task-clause-pens c =
    same_pens _ _ _ c.from_residual-in_err-task.ensures.1
    (λ h. absurd (c.in_err-task.ensures.pens h), λ bad. absurd (no_bad_list _ _ c.in_ok-output.ensures.pens bad))

pub returns-in_err-task-clause-refused : goal.returns-in_err-task-clause-refused
returns-in_err-task-clause-refused c = λ has.
    passed_on _ _ c.from_residual-in_err-task.ensures.1
    ∙ sym (bad_3 c.args.kind (rows_of (found_of c.args.options.now)) (c.in_ok-output.ensures.refused has.pens) c.in_ok-carousel.ensures.refused c.in_ok-labels.ensures.refused _ (c.in_err-task.ensures.refused has.numbers))

pub returns-in_err-reading-clause-pens : goal.returns-in_err-reading-clause-pens
returns-in_err-reading-clause-pens c =
    same_pens _ _ _ c.from_residual-in_err-reading.ensures.1
    (λ h. absurd (c.in_err-reading.ensures.pens h), λ bad. absurd (no_bad_list _ _ c.in_ok-output.ensures.pens bad))

pub returns-in_err-reading-clause-refused : goal.returns-in_err-reading-clause-refused
returns-in_err-reading-clause-refused c = λ has.
    passed_on _ _ c.from_residual-in_err-reading.ensures.1
    ∙ sym (bad_4 c.args.kind (rows_of (found_of c.args.options.now)) (c.in_ok-output.ensures.refused has.pens) c.in_ok-carousel.ensures.refused c.in_ok-labels.ensures.refused (c.in_ok-task.ensures.refused has.numbers) _ (c.in_err-reading.ensures.refused has.profile has.numbers))

pub returns-in_err-each_sheet-clause-pens : goal.returns-in_err-each_sheet-clause-pens
returns-in_err-each_sheet-clause-pens c =
    same_pens _ _ _ c.from_residual-in_err-each_sheet.ensures.1
    (λ h. absurd (c.in_err-each_sheet.ensures.pens h), λ bad. absurd (no_bad_list _ _ c.in_ok-output.ensures.pens bad))

pub returns-in_err-each_sheet-clause-refused : goal.returns-in_err-each_sheet-clause-refused
returns-in_err-each_sheet-clause-refused c = λ has.
    passed_on _ _ c.from_residual-in_err-each_sheet.ensures.1
    ∙ sym (bad_5 c.args.kind (rows_of (found_of c.args.options.now)) (c.in_ok-output.ensures.refused has.pens) c.in_ok-carousel.ensures.refused c.in_ok-labels.ensures.refused (c.in_ok-task.ensures.refused has.numbers) (c.in_ok-reading.ensures.refused has.profile has.numbers) _ c.in_err-each_sheet.ensures.refused)

pub returns-in_err-pixels-clause-pens : goal.returns-in_err-pixels-clause-pens
returns-in_err-pixels-clause-pens c =
    same_pens _ _ _ c.from_residual-in_err-pixels.ensures.1
    (λ h. absurd (c.in_err-pixels.ensures.pens h), λ bad. absurd (no_bad_list _ _ c.in_ok-output.ensures.pens bad))

pub returns-in_err-pixels-clause-refused : goal.returns-in_err-pixels-clause-refused
returns-in_err-pixels-clause-refused c = λ has.
    passed_on _ _ c.from_residual-in_err-pixels.ensures.1
    ∙ sym (bad_6 c.args.kind (rows_of (found_of c.args.options.now)) (c.in_ok-output.ensures.refused has.pens) c.in_ok-carousel.ensures.refused c.in_ok-labels.ensures.refused (c.in_ok-task.ensures.refused has.numbers) (c.in_ok-reading.ensures.refused has.profile has.numbers) c.in_ok-each_sheet.ensures.refused _ (c.in_err-pixels.ensures.refused (has.numbers.within (codes "size"))))

pub returns-in_err-choice-clause-pens : goal.returns-in_err-choice-clause-pens
returns-in_err-choice-clause-pens c =
    same_pens _ _ _ c.from_residual-in_err-choice.ensures.1
    (λ h. absurd (c.in_err-choice.ensures.pens h), λ bad. absurd (no_bad_list _ _ c.in_ok-output.ensures.pens bad))

pub returns-in_err-choice-clause-refused : goal.returns-in_err-choice-clause-refused
returns-in_err-choice-clause-refused c = λ has.
    passed_on _ _ c.from_residual-in_err-choice.ensures.1
    ∙ sym (bad_7 c.args.kind (rows_of (found_of c.args.options.now)) (c.in_ok-output.ensures.refused has.pens) c.in_ok-carousel.ensures.refused c.in_ok-labels.ensures.refused (c.in_ok-task.ensures.refused has.numbers) (c.in_ok-reading.ensures.refused has.profile has.numbers) c.in_ok-each_sheet.ensures.refused (c.in_ok-pixels.ensures.refused (has.numbers.within (codes "size"))) _ (c.in_err-choice.ensures.refused (has.numbers.within (codes "margin"))))

pub returns-in_err-turn-clause-pens : goal.returns-in_err-turn-clause-pens
returns-in_err-turn-clause-pens c =
    same_pens _ _ _ c.from_residual-in_err-turn.ensures.1
    (λ h. absurd (c.in_err-turn.ensures.pens h), λ bad. absurd (no_bad_list _ _ c.in_ok-output.ensures.pens bad))

pub returns-in_err-turn-clause-refused : goal.returns-in_err-turn-clause-refused
returns-in_err-turn-clause-refused c = λ has.
    passed_on _ _ c.from_residual-in_err-turn.ensures.1
    ∙ sym (bad_8 c.args.kind (rows_of (found_of c.args.options.now)) (c.in_ok-output.ensures.refused has.pens) c.in_ok-carousel.ensures.refused c.in_ok-labels.ensures.refused (c.in_ok-task.ensures.refused has.numbers) (c.in_ok-reading.ensures.refused has.profile has.numbers) c.in_ok-each_sheet.ensures.refused (c.in_ok-pixels.ensures.refused (has.numbers.within (codes "size"))) (c.in_ok-choice.ensures.refused (has.numbers.within (codes "margin"))) _ c.in_err-turn.ensures.refused)

pub returns-in_err-place-clause-pens : goal.returns-in_err-place-clause-pens
returns-in_err-place-clause-pens c =
    same_pens _ _ _ c.from_residual-in_err-place.ensures.1
    (λ h. absurd (c.in_err-place.ensures.pens h), λ bad. absurd (no_bad_list _ _ c.in_ok-output.ensures.pens bad))

pub returns-in_err-place-clause-refused : goal.returns-in_err-place-clause-refused
returns-in_err-place-clause-refused c = λ has.
    passed_on _ _ c.from_residual-in_err-place.ensures.1
    ∙ sym (bad_9 c.args.kind (rows_of (found_of c.args.options.now)) (c.in_ok-output.ensures.refused has.pens) c.in_ok-carousel.ensures.refused c.in_ok-labels.ensures.refused (c.in_ok-task.ensures.refused has.numbers) (c.in_ok-reading.ensures.refused has.profile has.numbers) c.in_ok-each_sheet.ensures.refused (c.in_ok-pixels.ensures.refused (has.numbers.within (codes "size"))) (c.in_ok-choice.ensures.refused (has.numbers.within (codes "margin"))) c.in_ok-turn.ensures.refused _ c.in_err-place.ensures.refused)

pub returns-clause-pens : goal.returns-clause-pens
returns-clause-pens c = (λ h. absurd (cc), λ bad. absurd (no_bad_list _ _ c.in_ok-output.ensures.pens bad))

pub returns-clause-refused : goal.returns-clause-refused
returns-clause-refused c = λ has.
    sym (good_9 c.args.kind (rows_of (found_of c.args.options.now)) (c.in_ok-output.ensures.refused has.pens) c.in_ok-carousel.ensures.refused c.in_ok-labels.ensures.refused (c.in_ok-task.ensures.refused has.numbers) (c.in_ok-reading.ensures.refused has.profile has.numbers) c.in_ok-each_sheet.ensures.refused (c.in_ok-pixels.ensures.refused (has.numbers.within (codes "size"))) (c.in_ok-choice.ensures.refused (has.numbers.within (codes "margin"))) c.in_ok-turn.ensures.refused c.in_ok-place.ensures.refused)
