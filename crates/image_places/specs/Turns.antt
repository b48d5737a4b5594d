-- Images turned with their page: each about its first corner, which lies where the turn of the page takes it.
use Rattle.std.specs.Prelude.{Bool, List, map}
use Rattle.std.specs.List.{list_all}
use Rattle.directions.specs.declared.turn.Turn.{Turn}
use Rattle.page_images.specs.PageImages.{ImageShape}
use Rattle.plot_page.specs.declared.page.Page.{Page}
use Rattle.turning.specs.Turns.{is_turnable, turned_segment}

-- the corners of all images are places after the turn
abbrev pub are_images_turnable : Turn → Page → List ImageShape → Bool
are_images_turnable turn page images = list_all (λ i. is_turnable turn page i.frame) images

-- an image that is not turned, after the turn
abbrev pub turned_image : Turn → Page → ImageShape → ImageShape
turned_image turn page i = record i { frame = turned_segment turn page i.frame; turn = turn }

abbrev pub turned_images : Turn → Page → List ImageShape → List ImageShape
turned_images turn page images = map (turned_image turn page) images
