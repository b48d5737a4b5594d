use Rattle.std.proofs.Common.{◌≡◌, ℕ, ◌+◌, ◌-◌, ◌<◌, ◌≤◌, true, false, nat_lt, length, get_or, take, refl, ap, ◌∙◌, arith}
use Rattle.std.proofs.lemmas.Nat.{mul-le}
use Rattle.plot_page.specs.Segments.{Segment}
use Rattle.stroke_raster.specs.Boxes.{in_box}
use Rattle.areas.specs.Views.{areas_in}
use Rattle.plot_page.specs.Pens.{has_pen}
use Rattle.plot_page.specs.Resolutions.{columns_of}
use Rattle.stroke_raster.specs.Boxes.{box_pixels}
use Rattle.stroke_raster.specs.Scenes.{scene_test}
use Rattle.stroke_raster.specs.ShownShapes.{stroke_at}
use Rattle.stroke_raster.specs.Slots.{band_of, end_row_at, goes_on}
use Rattle.stroke_raster.proofs.Chains.{start, step, finish, due_began}
use Rattle.stroke_raster.proofs.BoxCounts.{boxes_slot, boxes_grow}
use Rattle.stroke_raster.proofs.ReachedRows.{least_as, least_joined}
use Rattle.stroke_raster.proofs.ShownCounts.{counted_start, counted_step, shown_at_most}
use Rattle.stroke_raster.proofs.Slots.{goes_on_falls, goes_is, quiet_slot, quiet_stroke, due_selected, take_whole, shows_start, shows_step}
use Rattle.stroke_raster.proofs.walk.paint_band.Goals as goal

pub slots-init : goal.slots-init
slots-init g c =
    let xs = c.args.scene.now.strokes.now in
    let bands = length c.args.heads.now in
    let covers = λ (s : Segment). g.G.Gauge.reaches c.args.gauge.now s c.args.scene.now.page c.args.scene.now.dots in
    let band = band_of c.args.scene.now.pens xs (areas_in c.args.scene.now.areas) c.args.scene.now.page c.args.scene.now.dots c.args.scene.now.first_row c.args.scene.now.band_rows bands in
    let goes = goes_on xs (areas_in c.args.scene.now.areas) c.args.scene.now.page c.args.scene.now.dots c.args.scene.now.first_row c.args.scene.now.band_rows in
    let linked = c.requires.next.linked in
    let s = start (length xs) bands band goes (goes_on_falls xs (areas_in c.args.scene.now.areas) c.args.scene.now.page c.args.scene.now.dots c.args.scene.now.first_row c.args.scene.now.band_rows) c.args.band c.args.heads.now c.args.links.now linked c.requires.next.in_range (get_or c.args.links.now 0 0) (get_or c.args.heads.now c.args.band 0) refl refl in
    let low = s.1.low in
    let o = linked.first in
    let w = linked.begin c.args.band (omega arith) c.requires.next.in_range in
    let ho = o.high in
    let out : (j r k : ℕ) → 0 < j → j < c.min-slot.result → r < c.args.rows → has_pen c.args.scene.now.pens (stroke_at xs j).pen ≡ true → covers (stroke_at xs j) (c.args.first + r) k ≡ false = λ j r k u v rr sel.
    quiet_stroke c.args.scene.now.pens xs (areas_in c.args.scene.now.areas) c.args.scene.now.page c.args.scene.now.dots c.args.scene.now.first_row c.args.scene.now.band_rows bands (g.G.Gauge.reaches c.args.gauge.now) (λ t r c'. c.keeps_to_boxes.ensures t c.args.scene.now.page c.args.scene.now.dots r c') c.args.band j c.args.first c.args.scene.now.at_least c.requires.next.at
    (o.none j u (omega (arith, v, c.min-slot.ensures))) (w.none j u (omega (arith, v, c.min-slot.ensures))) r k (omega (arith, rr, c.requires.next.rows_fit)) (omega (arith, rr, c.requires.next.rows_in)) sel in
    let none : (j r k : ℕ) → 0 < j → j < c.min-slot.result → r < c.args.rows → scene_test (g.G.Gauge.reaches c.args.gauge.now) c.args.scene.now j (c.args.first + r) k ≡ false = λ j r k u v rr.
    quiet_slot c.args.scene.now.pens xs (areas_in c.args.scene.now.areas) c.args.scene.now.page c.args.scene.now.dots c.args.scene.now.first_row c.args.scene.now.band_rows bands (g.G.Gauge.reaches c.args.gauge.now) (λ t r c'. c.keeps_to_boxes.ensures t c.args.scene.now.page c.args.scene.now.dots r c') c.args.band j c.args.first c.args.scene.now.at_least c.requires.next.at
    (o.none j u (omega (arith, v, c.min-slot.ensures))) (w.none j u (omega (arith, v, c.min-slot.ensures))) r k (omega (arith, rr, c.requires.next.rows_fit)) (omega (arith, rr, c.requires.next.rows_in)) in
    record {
      lesser = c.min-slot.ensures;
      ahead = s.0;
      kept = s.1;
      sound = c.clear.ensures.sound;
      height = c.clear.ensures.height;
      width = c.clear.ensures.width ∙ c.requires.width;
      room = c.requires.room;
      shows = shows_start g.C.Canvas.mark (scene_test (g.G.Gauge.reaches c.args.gauge.now) c.args.scene.now) c.args.first c.args.rows (columns_of c.args.scene.now.page c.args.scene.now.dots) c.min-slot.result (g.C.Canvas.pixel c.clear.new.self) (omega (arith, c.min-slot.ensures)) g.met.C.Canvas.blank
          (λ r k u v. c.clear.ensures.blank r k u (omega (arith, v, c.requires.width))) none;
      same = refl;
      least = (let n = counted_start covers c.args.scene.now.pens xs c.args.first c.args.rows (columns_of c.args.scene.now.page c.args.scene.now.dots) c.min-slot.result (omega (arith, c.min-slot.ensures)) (omega (arith, c.min-slot.ensures)) out in rw n (omega arith));
      most = omega arith;
      grows = omega arith;
    }

pub overflow_add-first : goal.overflow_add-first
overflow_add-first g c =
    let page = c.args.scene.now.page in
    let m = mul-le page.height c.args.scene.now.dots.resolution 524288 1200 (omega (arith, page.height_in)) c.args.scene.now.dots.at_most in
    omega (arith, m, c.requires.next.rows_in)

pub paint_slot-bottom-requires-clause-room : goal.paint_slot-bottom-requires-clause-room
paint_slot-bottom-requires-clause-room g c = c.slots.invariant.room c.slots.slot

pub slots-smaller : goal.slots-smaller
slots-smaller g c =
    let xs = c.args.scene.now.strokes.now in
    let bands = length c.args.heads.now in
    let band = band_of c.args.scene.now.pens xs (areas_in c.args.scene.now.areas) c.args.scene.now.page c.args.scene.now.dots c.args.scene.now.first_row c.args.scene.now.band_rows bands in
    let goes = goes_on xs (areas_in c.args.scene.now.areas) c.args.scene.now.page c.args.scene.now.dots c.args.scene.now.first_row c.args.scene.now.band_rows in
    let inv = c.slots.invariant in
    let low = inv.kept.low in
    let fit : c.slots.slot ≤ length xs = omega (arith, c.slots-test.true) in
    let e = c.paint_slot-bottom.ensures.end in
    let s = step (length xs) bands band goes (goes_on_falls xs (areas_in c.args.scene.now.areas) c.args.scene.now.page c.args.scene.now.dots c.args.scene.now.first_row c.args.scene.now.band_rows) c.args.band c.args.heads.now c.args.links.now c.slots.links c.keep-tail.new.links
    c.slots.old c.slots.new c.slots.slot c.slots.tail c.keep-tail.result c.moved-old.result c.moved-new.result (get_or c.slots.links c.slots.slot 0) (nat_lt (c.args.first + c.args.scene.now.band_rows) c.paint_slot-bottom.result)
    c.requires.next.linked c.requires.next.in_range (omega (arith, c.slots.auto.links, c.requires.next.slots)) inv.lesser fit inv.ahead inv.kept refl c.moved-old.ensures c.moved-new.ensures
    (goes_is c.args.first c.args.scene.now.first_row c.args.band c.args.scene.now.band_rows c.paint_slot-bottom.result (end_row_at xs (areas_in c.args.scene.now.areas) c.args.scene.now.page c.args.scene.now.dots c.slots.slot) c.requires.next.at e) c.keep-tail.ensures.links c.keep-tail.ensures.tail in
    omega (arith, s.3, c.min-slot-in-slots.ensures, fit)

pub slots-preserved : goal.slots-preserved
slots-preserved g c =
    let xs = c.args.scene.now.strokes.now in
    let bands = length c.args.heads.now in
    let covers = λ (s : Segment). g.G.Gauge.reaches c.args.gauge.now s c.args.scene.now.page c.args.scene.now.dots in
    let inside = λ (s : Segment). in_box s c.args.scene.now.page c.args.scene.now.dots in
    let band = band_of c.args.scene.now.pens xs (areas_in c.args.scene.now.areas) c.args.scene.now.page c.args.scene.now.dots c.args.scene.now.first_row c.args.scene.now.band_rows bands in
    let goes = goes_on xs (areas_in c.args.scene.now.areas) c.args.scene.now.page c.args.scene.now.dots c.args.scene.now.first_row c.args.scene.now.band_rows in
    let inv = c.slots.invariant in
    let columns = columns_of c.args.scene.now.page c.args.scene.now.dots in
    let slot = c.slots.slot in
    let low = inv.kept.low in
    let fit : c.slots.slot ≤ length xs = omega (arith, c.slots-test.true) in
    let pos : 0 < c.slots.slot = omega (arith, low, inv.lesser) in
    let e = c.paint_slot-bottom.ensures.end in
    let len : length c.slots.links ≡ length xs + 1 = omega (arith, c.slots.auto.links, c.requires.next.slots) in
    let s = step (length xs) bands band goes (goes_on_falls xs (areas_in c.args.scene.now.areas) c.args.scene.now.page c.args.scene.now.dots c.args.scene.now.first_row c.args.scene.now.band_rows) c.args.band c.args.heads.now c.args.links.now c.slots.links c.keep-tail.new.links
    c.slots.old c.slots.new c.slots.slot c.slots.tail c.keep-tail.result c.moved-old.result c.moved-new.result (get_or c.slots.links c.slots.slot 0) (nat_lt (c.args.first + c.args.scene.now.band_rows) c.paint_slot-bottom.result)
    c.requires.next.linked c.requires.next.in_range len inv.lesser fit inv.ahead inv.kept refl c.moved-old.ensures c.moved-new.ensures
    (goes_is c.args.first c.args.scene.now.first_row c.args.band c.args.scene.now.band_rows c.paint_slot-bottom.result (end_row_at xs (areas_in c.args.scene.now.areas) c.args.scene.now.page c.args.scene.now.dots c.slots.slot) c.requires.next.at e) c.keep-tail.ensures.links c.keep-tail.ensures.tail in
    let a = s.0 in
    let k = s.1 in
    let between = s.2 in
    let next : c.slots.slot < c.min-slot-in-slots.result = omega (arith, s.3, c.min-slot-in-slots.ensures) in
    let ho = a.old_next.high in
    let end : c.min-slot-in-slots.result ≤ length xs + 1 = omega (arith, c.min-slot-in-slots.ensures, ho) in
    let began : band c.slots.slot ≤ c.args.band = rw inv.lesser (due_began (length xs) band goes c.args.band c.args.links.now c.slots.links c.slots.old c.slots.new inv.ahead (omega (arith, inv.lesser, fit))) in
    let sel : has_pen c.args.scene.now.pens (stroke_at xs c.slots.slot).pen ≡ true = due_selected c.args.scene.now.pens xs (areas_in c.args.scene.now.areas) c.args.scene.now.page c.args.scene.now.dots c.args.scene.now.first_row c.args.scene.now.band_rows bands (g.G.Gauge.reaches c.args.gauge.now) (λ t r' c'. c.keeps_to_boxes.ensures t c.args.scene.now.page c.args.scene.now.dots r' c') c.slots.slot (omega (arith, began, c.requires.next.in_range)) in
    let out : (j r q : ℕ) → c.slots.slot < j → j < c.min-slot-in-slots.result → r < c.args.rows → has_pen c.args.scene.now.pens (stroke_at xs j).pen ≡ true → covers (stroke_at xs j) (c.args.first + r) q ≡ false = λ j r q u v rr se.
    let b = between j u (omega (arith, v, c.min-slot-in-slots.ensures)) in
    quiet_stroke c.args.scene.now.pens xs (areas_in c.args.scene.now.areas) c.args.scene.now.page c.args.scene.now.dots c.args.scene.now.first_row c.args.scene.now.band_rows bands (g.G.Gauge.reaches c.args.gauge.now) (λ t' r' c'. c.keeps_to_boxes.ensures t' c.args.scene.now.page c.args.scene.now.dots r' c') c.args.band j c.args.first c.args.scene.now.at_least c.requires.next.at
    b.0 b.1 r q (omega (arith, rr, c.requires.next.rows_fit)) (omega (arith, rr, c.requires.next.rows_in)) se in
    let none : (j r q : ℕ) → c.slots.slot < j → j < c.min-slot-in-slots.result → r < c.args.rows → scene_test (g.G.Gauge.reaches c.args.gauge.now) c.args.scene.now j (c.args.first + r) q ≡ false = λ j r q u v rr.
    let b = between j u (omega (arith, v, c.min-slot-in-slots.ensures)) in
    quiet_slot c.args.scene.now.pens xs (areas_in c.args.scene.now.areas) c.args.scene.now.page c.args.scene.now.dots c.args.scene.now.first_row c.args.scene.now.band_rows bands (g.G.Gauge.reaches c.args.gauge.now) (λ t' r' c'. c.keeps_to_boxes.ensures t' c.args.scene.now.page c.args.scene.now.dots r' c') c.args.band j c.args.first c.args.scene.now.at_least c.requires.next.at
    b.0 b.1 r q (omega (arith, rr, c.requires.next.rows_fit)) (omega (arith, rr, c.requires.next.rows_in)) in
    record {
      lesser = c.min-slot-in-slots.ensures;
      ahead = a;
      kept = k;
      sound = c.paint_slot-bottom.ensures.sound;
      height = c.paint_slot-bottom.ensures.height ∙ inv.height;
      width = c.paint_slot-bottom.ensures.width ∙ inv.width;
      room = λ position. c.paint_slot-bottom.ensures.room _ (inv.room position);
      shows = shows_step g.C.Canvas.mark (scene_test (g.G.Gauge.reaches c.args.gauge.now) c.args.scene.now) c.args.first c.args.rows (columns_of c.args.scene.now.page c.args.scene.now.dots) c.slots.slot c.min-slot-in-slots.result (g.C.Canvas.pixel c.slots.canvas) (g.C.Canvas.pixel c.paint_slot-bottom.new.canvas) pos next inv.shows
          (λ r k u v. rw sel (rw inv.same at (c.paint_slot-bottom.ensures.pixels r k (omega (arith, u, inv.height)) (omega (arith, v, inv.width))))) none;
      same = c.paint_slot-bottom.ensures.same ∙ inv.same;
      least = (let n = counted_step covers c.args.scene.now.pens xs c.args.first c.args.rows (columns_of c.args.scene.now.page c.args.scene.now.dots) c.slots.slot c.min-slot-in-slots.result pos fit next end sel out in
          let m = least_as (g.G.Gauge.reaches c.slots.gauge) (g.G.Gauge.reaches c.args.gauge.now) inv.same (stroke_at xs c.slots.slot) (stroke_at xs c.slots.slot) refl c.args.scene.now.page c.args.scene.now.dots c.args.first c.args.rows (columns_of c.args.scene.now.page c.args.scene.now.dots) (g.G.Gauge.count c.slots.gauge) (g.G.Gauge.count c.paint_slot-bottom.new.gauge) (rw (inv.height, inv.width) at c.paint_slot-bottom.ensures.least) in
          rw n (least_joined (g.G.Gauge.count c.args.gauge.now) _ _ (g.G.Gauge.count c.slots.gauge) (g.G.Gauge.count c.paint_slot-bottom.new.gauge) inv.least m));
      most = (let x = boxes_slot c.args.scene.now.pens inside xs c.slots.slot c.args.first c.args.rows (columns_of c.args.scene.now.page c.args.scene.now.dots) pos fit sel in
          let y = boxes_grow c.args.scene.now.pens inside xs c.args.first c.args.rows (columns_of c.args.scene.now.page c.args.scene.now.dots) c.slots.slot (c.min-slot-in-slots.result - 1) (omega arith) (omega arith) in
          let m : g.G.Gauge.count c.paint_slot-bottom.new.gauge ≤ g.G.Gauge.count c.slots.gauge + box_pixels inside (stroke_at xs c.slots.slot) c.args.first c.args.rows (columns_of c.args.scene.now.page c.args.scene.now.dots) = rw (inv.height, inv.width) at c.paint_slot-bottom.ensures.most in
          omega (arith, x, y, m, inv.most));
      grows = omega (arith, c.paint_slot-bottom.ensures.grows, inv.grows);
    }

pub returns-clause-linked : goal.returns-clause-linked
returns-clause-linked g c =
    let xs = c.args.scene.now.strokes.now in
    let bands = length c.args.heads.now in
    let inv = c.slots.invariant in
    finish (length xs) bands (band_of c.args.scene.now.pens xs (areas_in c.args.scene.now.areas) c.args.scene.now.page c.args.scene.now.dots c.args.scene.now.first_row c.args.scene.now.band_rows bands) (goes_on xs (areas_in c.args.scene.now.areas) c.args.scene.now.page c.args.scene.now.dots c.args.scene.now.first_row c.args.scene.now.band_rows) c.args.band c.args.heads.now c.args.links.now c.slots.links c.slots.old c.slots.new c.slots.tail
    (omega (arith, c.slots.auto.links, c.requires.next.slots)) c.requires.next.linked inv.ahead inv.kept (omega (arith, c.slots-test.false, inv.lesser))

pub returns-clause-pixels : goal.returns-clause-pixels
returns-clause-pixels g c =
    let xs = c.args.scene.now.strokes.now in
    let inv = c.slots.invariant in
    let ho = inv.ahead.old_next.high in
    let e : c.slots.slot - 1 ≡ length xs = omega (arith, c.slots-test.false, inv.lesser, ho) in
    λ r k u v. rw e at (inv.shows r k u v)

pub returns-clause-least : goal.returns-clause-least
returns-clause-least g c =
    let xs = c.args.scene.now.strokes.now in
    let inv = c.slots.invariant in
    let ho = inv.ahead.old_next.high in
    let covers = λ (s : Segment). g.G.Gauge.reaches c.args.gauge.now s c.args.scene.now.page c.args.scene.now.dots in
    let e : c.slots.slot - 1 ≡ length xs = omega (arith, c.slots-test.false, inv.lesser, ho) in
    let w : take (c.slots.slot - 1) xs ≡ xs = ap (λ (n : ℕ). take n xs) e ∙ take_whole xs in
    let m = rw w at inv.least in
    let s = shown_at_most covers c.args.scene.now.pens xs (columns_of c.args.scene.now.page c.args.scene.now.dots) c.args.first c.args.rows in
    omega (arith, m, s)
