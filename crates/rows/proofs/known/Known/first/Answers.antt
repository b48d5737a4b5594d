use Rattle.std.proofs.Common.{[], refl}
use Rattle.std.proofs.lemmas.List.{get_or-replicate}
use Rattle.std.proofs.lemmas.Slice.Eq.{bytes_eq-Decides}
use Rattle.rows.proofs.KnownNumbers.{first_number, like}
use Rattle.rows.proofs.known.Known.first.Goals as goal

pub returns : goal.returns
returns c = λ palette some is.
    let first = first_number palette c.args.colour ((bytes_eq-Decides c.args.colour c.args.colour).1 refl) some is in
    record {
      last = first;
      others = λ k lt. like palette c.args.colour _ 0 _ (get_or-replicate 256 k c.args.colour [] lt) (get_or-replicate 256 k 0 0 lt) first;
    }
