use Rattle.picture_job.proofs.Resolutions.{suits_pixels}
use Rattle.picture_job.proofs.laws.resolutions_suit_pixels.Goals as goal

pub returns : goal.returns
returns c page pixels least = suits_pixels page pixels least
