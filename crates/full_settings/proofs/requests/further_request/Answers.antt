use Rattle.std.proofs.Common.{◌∙◌, ap, ℤ, List}
use Rattle.std.specs.Prelude.{if◌then◌else◌}
use Rattle.full_settings.specs.FurtherRequests.{further_request, has_many}
use Rattle.full_settings.proofs.FirstNumbers.{same_request}
use Rattle.full_settings.proofs.requests.further_request.Goals as goal

pub returns-clause-value : goal.returns-clause-value
returns-clause-value c =
    let f = c.args.further in
    let ns = c.args.numbers.now in
    c.request_by_first.ensures.value
    ∙ ap (λ (first : List ℤ). further_request f (if has_many f then ns else first)) c.leading-list.ensures.values
    ∙ same_request f ns
