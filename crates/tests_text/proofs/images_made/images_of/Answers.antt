use Rattle.std.proofs.Common.{◌≡◌, ◌∷◌, All, sym, subst}
use Rattle.std.proofs.lemmas.List.Elements.{All-head, All-tail}
use Rattle.raster_graphics.specs.declared.image.Image.{Image}
use Rattle.raster_graphics.specs.declared.machine.Machine.{Machine}
use Rattle.raster_graphics.specs.Laws.{IsInOrder, RowsAscend}
use Rattle.tests_text.proofs.images_made.images_of.Goals as goal

-- the first image, and those that are left
taken : (m n : Machine) (image : Image) → m.images ≡ image ∷ n.images → n ≡ record m { images = n.images } → IsInOrder m → RowsAscend image × IsInOrder n
taken m n image e left h =
    let all : All RowsAscend (image ∷ n.images) = subst (All RowsAscend) e h.images in (
      All-head RowsAscend image n.images all,
      subst IsInOrder (sym left) (record { images = All-tail RowsAscend image n.images all; image = h.image }),
    )

pub new-requires : goal.new-requires
new-requires c = (taken c.images.machine c.take_done.new.self c.in-Some.image c.in-Some.ensures.taken c.in-Some.ensures.left c.images.invariant).0

pub images-preserved : goal.images-preserved
images-preserved c = (taken c.images.machine c.take_done.new.self c.in-Some.image c.in-Some.ensures.taken c.in-Some.ensures.left c.images.invariant).1
