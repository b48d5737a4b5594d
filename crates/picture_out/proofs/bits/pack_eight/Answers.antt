use Rattle.std.proofs.Common.{◌∙◌, take, arith}
use Rattle.std.proofs.lemmas.List.{length-take-le}
use Rattle.picture_out.proofs.Bytes.{byte_of_front}
use Rattle.picture_out.proofs.Lanes.{mask_is_byte}
use Rattle.picture_out.proofs.bits.pack_eight.Goals as goal

pub returns : goal.returns
returns c = mask_is_byte (take 8 c.args.cells.now) (length-take-le 8 c.args.cells.now (omega arith)) ∙ byte_of_front c.args.cells.now
