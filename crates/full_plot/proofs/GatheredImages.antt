-- Images that are taken out of the machine, one at a time.
use Rattle.std.proofs.Common.{◌≡◌, ◌∙◌, ap, sym, subst, All, List, [], ◌∷◌, ◌++◌, append_assoc, map}
use Rattle.std.proofs.lemmas.List.Elements.{All-head, All-tail}
use Rattle.raster_graphics.specs.declared.image.Image.{Image}
use Rattle.raster_graphics.specs.declared.machine.Machine.{Machine}
use Rattle.raster_graphics.specs.Laws.{IsInOrder, RowsAscend}

-- the first one, and those that are left
pub taken_in_order : (m n : Machine) (image : Image) → m.images ≡ image ∷ n.images → n ≡ record m { images = n.images } → IsInOrder m
    → RowsAscend image × IsInOrder n
taken_in_order m n image e left h =
    let all : All RowsAscend (image ∷ n.images) = subst (All RowsAscend) e h.images in (
      All-head RowsAscend image n.images all,
      subst IsInOrder (sym left) (record { images = All-tail RowsAscend image n.images all; image = h.image }),
    )

-- those that are gathered, with one more
pub one_gathered : {A B : Type 0} (f : A → B) (done : List B) (a : A) (rest more : List A) → more ≡ a ∷ rest
    → (done ++ f a ∷ []) ++ map f rest ≡ done ++ map f more
one_gathered f done a rest more e = append_assoc done (f a ∷ []) (map f rest) ∙ ap (λ (list : List _). done ++ map f list) (sym e)
