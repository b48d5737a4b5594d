-- The texts of tiles, and of images among sections.
use Rattle.std.proofs.Common.{◌≡◌, ℕ, ◌+◌, ◌-◌, ◌<◌, ◌++◌, ◌∙◌, List, [], ◌∷◌, suc, sym, ap, append_assoc, drop, flat_map, map, max, min, arith}
use Rattle.std.proofs.lemmas.List.Concat.{flat_map-append}
use Rattle.std.specs.List.{range_with_len}
use Rattle.image_data.specs.Tiles.{tile, tiles_at}
use Rattle.image_data.specs.declared.tile.Tile.{Tile}
use Rattle.raster_graphics.specs.declared.image.Image.{Image}
use Rattle.labels.specs.Labels.{LabelShape}
use Rattle.labels.specs.Sheets.{count_to}
use Rattle.page_images.specs.PageImages.{ImageShape, all_counted, counted}
use Rattle.plot_page.specs.declared.page.Page.{Page}
use Rattle.plot_page.specs.declared.pens.PenSet.{PenSet}
use Rattle.svg.specs.Images.{group_text, image_text, tile_text}
use Rattle.svg.specs.Sections.{Contents, section_between, section_text, sections_text}

-- the numbers that are left, from one on
pub next_number : (k n : ℕ) → k < n → range_with_len k (n - k) ≡ k ∷ range_with_len (k + 1) (n - (k + 1))
next_number k n h = let e : n - k ≡ suc (n - (k + 1)) = omega (arith, h) in ap (range_with_len k) e

pub all_numbers : (n : ℕ) → range_with_len 0 (n - 0) ≡ range_with_len 0 n
all_numbers n = let e : n - 0 ≡ n = omega arith in ap (range_with_len 0) e

pub no_numbers : (k n : ℕ) → n - k ≡ 0 → range_with_len k (n - k) ≡ []
no_numbers k n e = ap (range_with_len k) e

-- the tiles of the next band, and of those after it
pub next_bands : (image : Image) (k n : ℕ) → k < n
    → flat_map (tile_text image) (flat_map (tiles_at image) (range_with_len k (n - k)))
    ≡ flat_map (tile_text image) (tiles_at image k) ++ flat_map (tile_text image) (flat_map (tiles_at image) (range_with_len (k + 1) (n - (k + 1))))
next_bands image k n h =
    ap (λ (ks : List ℕ). flat_map (tile_text image) (flat_map (tiles_at image) ks)) (next_number k n h)
    ∙ flat_map-append (tile_text image) (tiles_at image k) (flat_map (tiles_at image) (range_with_len (k + 1) (n - (k + 1))))

-- the next strip of a band, and those after it
pub next_strips : (image : Image) (position k n : ℕ) (t : Tile) → k < n → t ≡ tile image position k
    → flat_map (tile_text image) (map (tile image position) (range_with_len k (n - k)))
    ≡ tile_text image t ++ flat_map (tile_text image) (map (tile image position) (range_with_len (k + 1) (n - (k + 1))))
next_strips image position k n t h is =
    ap (λ (ks : List ℕ). flat_map (tile_text image) (map (tile image position) ks)) (next_number k n h)
    ∙ ap (λ (s : Tile). tile_text image s ++ flat_map (tile_text image) (map (tile image position) (range_with_len (k + 1) (n - (k + 1))))) (sym is)

-- the next section with the image after it, and what follows
pub next_section : (page : Page) (pens : PenSet) (c : Contents) (first done end cut after : ℕ) (labels later : List LabelShape) (left rest : List ImageShape) (i : ImageShape)
    → left ≡ i ∷ rest → cut ≡ min (counted first i).before end → after ≡ max done cut → later ≡ drop (count_to cut labels) labels
    → sections_text page pens c done end labels (all_counted first left)
    ≡ section_text page pens (section_between c done cut labels) ++ (image_text page i ++ sections_text page pens c after end later (all_counted first rest))
unfolding group_text
next_section page pens c first done end cut after labels later left rest i next is ends others =
    let m = min (counted first i).before end in
    let section : ℕ → List ℕ = λ n. section_text page pens (section_between c done n labels) in
    let cuts = sym is in
    let afters : max done m ≡ after = sym (ends ∙ ap (λ (n : ℕ). max done n) is) in
    let laters : drop (count_to m labels) labels ≡ later = sym (others ∙ ap (λ (n : ℕ). drop (count_to n labels) labels) is) in
    ap (λ (z : List ImageShape). sections_text page pens c done end labels (all_counted first z)) next
    ∙ append_assoc (section m) (image_text page i) (sections_text page pens c (max done m) end (drop (count_to m labels) labels) (all_counted first rest))
    ∙ (λ j. section (cuts j) ++ (image_text page i ++ sections_text page pens c (afters j) end (laters j) (all_counted first rest)))
