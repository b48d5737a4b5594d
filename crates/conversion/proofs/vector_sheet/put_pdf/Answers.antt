use Rattle.pdf.specs.Texts.{letter_count}
use Rattle.conversion.proofs.Vectors.{by_test, few_enough, letters_counted, too_many}
use Rattle.conversion.proofs.vector_sheet.put_pdf.Goals as goal

pub returns-then-not-has_few_letters-clause-letters : goal.returns-then-not-has_few_letters-clause-letters
returns-then-not-has_few_letters-clause-letters g c =
    too_many c.has_few_letters.result (letter_count c.args.view.now.labels.now) _ _ (by_test _ _ _ c.has_few_letters.ensures)
    (letters_counted c.args.view.now.before c.args.view.now.labels.now) c.if-not-has_few_letters.true

pub returns-clause-letters : goal.returns-clause-letters
returns-clause-letters g c =
    few_enough c.put_fitting_pdf.result c.has_few_letters.result (letter_count c.args.view.now.labels.now) _ _ (by_test _ _ _ c.has_few_letters.ensures)
    (letters_counted c.args.view.now.before c.args.view.now.labels.now) c.if-not-has_few_letters.false c.put_fitting_pdf.ensures.letters
