use Rattle.std.proofs.Common.{◌∙◌, ap, ℤ, List}
use Rattle.full_settings.specs.FurtherRequests.{further_request}
use Rattle.full_settings.proofs.FirstNumbers.{first_of_leading}
use Rattle.full_settings.proofs.requests.request_by_few.Goals as goal

-- the first of the leading numbers are the first of all
pub returns-clause-value : goal.returns-clause-value
returns-clause-value c =
    rw c.requires.other at c.request_by_first.ensures.value
    ∙ ap (λ (ns : List ℤ). further_request c.args.further ns)
    (rw c.min.ensures (first_of_leading c.leading-list.result.1 c.args.most c.leading-list.result.0 c.args.numbers.now c.requires.few c.leading-list.ensures.values))
