use Rattle.std.proofs.Common.{sym}
use Rattle.std.proofs.lemmas.List.{length-map}
use Rattle.page_images.specs.PageImages.{counted}
use Rattle.conversion.proofs.sheet.image_count.Goals as goal

pub returns : goal.returns
returns c = sym (length-map c.args.images.list.now (counted c.args.images.first))
