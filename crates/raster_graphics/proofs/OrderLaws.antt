-- Requests keep rows in order.
use Rattle.std.proofs.Common.{◌≡◌, subst, refl, ℕ, ◌+◌, ◌^◌, ◌<◌, ◌≤◌, min, max, Bool, true, false, cond, if◌then◌else◌, nat_le, pos, negsuc, List, [], ◌∷◌, ◌++◌, Option, Some, None, is_some, Result, Ok, Err, IfOk, OnOk, arith}
use Rattle.std.specs.List.{All}
use Rattle.std.proofs.lemmas.List.Quantifiers.{all_pairs_push}
use Rattle.std.proofs.lemmas.List.Elements.{All-nil, All-push, All-weaker}
use Rattle.image_rows.specs.declared.compression.Compression.TheVariants.{Unencoded}
use Rattle.image_rows.specs.declared.ending.Ending.{Ending}
use Rattle.image_rows.specs.Endings.{ending_of}
use Rattle.raster_graphics.specs.declared.fault.Answer.{Answer}
use Rattle.raster_graphics.specs.declared.fault.Fault.{Fault}
use Rattle.raster_graphics.specs.declared.fault.Fault.TheVariants.{TooFar}
use Rattle.raster_graphics.specs.declared.place.Place.{Place}
use Rattle.raster_graphics.specs.declared.settings.Settings.{Settings}
use Rattle.raster_graphics.specs.declared.line.Line.{Line}
use Rattle.raster_graphics.specs.declared.image.Image.{Image}
use Rattle.raster_graphics.specs.declared.open_image.OpenImage.{OpenImage}
use Rattle.raster_graphics.specs.declared.machine.Machine.{Machine}
use Rattle.raster_graphics.specs.Settings.{is_past, advanced, with_setting}
use Rattle.raster_graphics.specs.Rows.{next_plane, breaks, whole_line}
use Rattle.raster_graphics.specs.Images.{opened, settings_of, image_of, with_row, moved_to, next_begin, is_far}
use Rattle.raster_requests.specs.declared.image.Corner.{Corner}
use Rattle.raster_requests.specs.declared.image.Corner.TheVariants.{AtMargin}
use Rattle.raster_requests.specs.declared.request.Request.{Request}
use Rattle.raster_requests.specs.declared.request.Request.TheVariants as request
use Rattle.raster_requests.specs.declared.request.Request.TheVariants.{Set, Start, End, EndAndReset, Compress, MoveRows, Plane, LastPlane, PalettePart, PaletteEntry, Enter, Reset, EndPage, Nothing}
use Rattle.image_colours.specs.Palettes.{has_entry}
use Rattle.raster_graphics.specs.Places.{density_from, after_change}
use Rattle.raster_graphics.specs.Machines.{Step, no_planes, no_parts, origin, answer_of, with_line, in_reach, row_added, with_whole_line, done, bad, start, ending_at, ended, closed, after_close}
use Rattle.raster_graphics.specs.Machines.{moved_in, moved_by, rows_moved, image_at, corner_of, with_data, unmoved, sending_to, plane_in, row_in, is_settled, set_or_bad, with_unit, at_place, place_changed, with_colour, reset, obeyed}
use Rattle.raster_graphics.specs.Machines as machines
use Rattle.raster_graphics.specs.Positions.{Ascends}
use Rattle.raster_graphics.specs.Laws.{RowsAscend, OpenAscends, IsInOrder, RowsStayInOrder}

-- what a step leaves is in order
InOrder : Step → Type 0
InOrder (Ok r) = IsInOrder r.0
InOrder (Err fault) = Unit {0}

ordered_if : (b : Bool) (x y : Step) → InOrder x → InOrder y → InOrder (cond b x y)
ordered_if true x y f g = f
ordered_if false x y f g = g

MachineInOrder : Result Machine Fault → Type 0
MachineInOrder (Ok m) = IsInOrder m
MachineInOrder (Err fault) = Unit {0}

-- images that are open
none_ascends : Ascends []
none_ascends i j d h k = absurd (omega (arith, k))

opened_ascends : (corner : Place) → OpenAscends (Some (opened corner))
opened_ascends corner = (none_ascends, All-nil (λ k. k < 0))

row_ascends : (planes : List (List ℕ)) (image : OpenImage) → OpenAscends (Some image) → OpenAscends (Some (with_row planes image))
row_ascends planes image h = (
  all_pairs_push (λ a b. a < b) image.numbers image.next h.0 (λ k d within. h.1 k d within),
  All-push (λ k. k < image.next + 1) image.numbers image.next (All-weaker (λ k. k < image.next) (λ k. k < image.next + 1)
      (λ k below. omega (arith, below)) image.numbers h.1) (omega arith),
)

not_back : (settings : Settings) (row rows : ℕ) → row ≤ advanced settings row rows
not_back settings row rows =
    elim settings.height as (λ h. row ≤ (elim h [
      | None ↦ row + rows
      | Some height ↦ max row (min
          (row + rows) height)
    ])) [ None ↦ omega arith | Some height ↦ omega arith ]

moved_ascends : (next : ℕ) (image : OpenImage) → image.next ≤ next → OpenAscends (Some image)
    → OpenAscends (Some (moved_to next image))
moved_ascends next image further h = (
  h.0,
  All-weaker (λ k. k < image.next) (λ k. k < next) (λ k below. omega
      (arith, below, further)) image.numbers h.1,
)

-- an image that ends
done_ascends : (settings : Settings) (image : OpenImage) (images : List Image) (numbers : List ℕ) → All RowsAscend images
    → Ascends image.numbers
    → All RowsAscend (elim numbers [ [] ↦ images | _ ∷ _ ↦ images ++ image_of settings image ∷ [] ])
done_ascends settings image images [] all here = all
done_ascends settings image images (n ∷ numbers) all here = All-push RowsAscend images (image_of settings image) all here

ending_ordered : (settings : Settings) (image : OpenImage) (m : Machine) (place : Option Place) → IsInOrder m
    → OpenAscends (Some image)
    → MachineInOrder (ending_at settings image m place)
unfolding MachineInOrder
ending_ordered settings image m None h here = tt
ending_ordered settings image m
    (Some place) h here = record { images = done_ascends settings image m.images image.numbers h.images here.0; image = tt }

open_ascends : (m : Machine) (i : Option OpenImage) → IsInOrder m → m.image ≡ i → OpenAscends i
open_ascends m i h e = subst OpenAscends e h.image

closed_ordered : (m : Machine) → IsInOrder m → MachineInOrder (closed m)
unfolding MachineInOrder
closed_ordered m h =
    let P : Option OpenImage → Type 0 = λ i. m.image ≡ i → MachineInOrder (elim i [ None ↦ Ok m | Some image ↦ ended image m ]) in
    let all : P m.image = elim m.image as P [
      | None ↦ λ e. h
      | Some image ↦ λ e. ending_ordered (settings_of image m.settings) image m (next_begin
          (settings_of image m.settings) image) h (open_ascends m (Some image) h e)
    ] in
    all refl

after_close_ordered : (r : Result Machine Fault) (next : Machine → Step) → MachineInOrder r → ((n : Machine) → IsInOrder n
    → InOrder (next n)) → InOrder (after_close r next)
unfolding MachineInOrder InOrder
after_close_ordered (Ok m) next h f = f m h
after_close_ordered (Err fault) next h f = tt

-- rows without dots
moved_in_ordered : (m : Machine) (image : OpenImage) (place : Option Place) → IsInOrder m → OpenAscends (Some image)
    → InOrder (moved_in m image place)
unfolding InOrder
moved_in_ordered m image None h here = tt
moved_in_ordered m image (Some place) h here = record { images = h.images; image = here }

moved_ordered : (rows : ℕ) (settings : Settings) (image : OpenImage) (m : Machine) → IsInOrder m → OpenAscends (Some image)
    → InOrder (moved_by rows settings image m)
unfolding InOrder
moved_ordered rows settings image m h here =
    ordered_if (nat_le (2 ^ 32) (advanced settings image.next rows)) (Err TooFar)
    (moved_in m (moved_to (advanced settings image.next rows) image) (next_begin settings (moved_to
    (advanced settings image.next rows) image))) tt
    (moved_in_ordered m (moved_to (advanced settings image.next rows) image) (next_begin settings (moved_to
    (advanced settings image.next rows) image)) h
    (moved_ascends (advanced settings image.next rows) image (not_back settings image.next rows) here))

rows_moved_ordered : (rows : ℕ) (m : Machine) → IsInOrder m → InOrder (rows_moved rows m)
unfolding InOrder
rows_moved_ordered rows m h =
    let P : Option OpenImage → Type 0 = λ i. m.image ≡ i
    → InOrder (elim i [ None ↦ done m | Some image ↦ moved_by rows (settings_of image m.settings) image m ]) in
    let all : P m.image = elim m.image as P [
      | None ↦ λ e. h
      | Some image ↦ λ e. moved_ordered rows
          (settings_of image m.settings) image m h (open_ascends m (Some image) h e)
    ] in
    all refl

image_ascends : (corner : Corner) (m : Machine) → IsInOrder m → OpenAscends (Some (image_at corner m))
image_ascends corner m h =
    let P : Option OpenImage → Type 0 = λ i. m.image ≡ i
    → OpenAscends (Some (elim i [ None ↦ opened (corner_of corner m.place) | Some image ↦ image ])) in
    let all : P m.image = elim m.image as P [
      | None ↦ λ e. opened_ascends
          (corner_of corner m.place)
      | Some image ↦ λ e. open_ascends m (Some image) h e
    ] in
    all refl

unmoved_ordered : (image : OpenImage) (m : Machine) → IsInOrder m → OpenAscends (Some image) → InOrder (unmoved image m)
unfolding InOrder
unmoved_ordered image m h here = record { images = h.images; image = here }

-- planes and rows
line_ordered : (m : Machine) (image : OpenImage) (ending : Ending) (r : Result Line Fault) → IsInOrder m
    → OpenAscends (Some image) → InOrder (with_line m image ending r)
unfolding InOrder
line_ordered m image ending (Ok line) h here = record { images = h.images; image = here }
line_ordered m image ending (Err fault) h here = tt

row_ordered : (m : Machine) (settings : Settings) (image : OpenImage) (ending : Ending) → IsInOrder m → OpenAscends (Some image)
    → InOrder (row_added settings image ending m)
unfolding InOrder
row_ordered m settings image ending h here =
    ordered_if (nat_le (2 ^ 32) (image.next + 1)) (Err TooFar) (in_reach m settings (with_row m.line.planes image) ending) tt
    (ordered_if (is_far settings (with_row m.line.planes image)) (Err TooFar)
    (Ok (record m { image = Some (with_row m.line.planes image); line = no_planes m.line }, answer_of ending)) tt
    (record { images = h.images; image = row_ascends m.line.planes image here }))

whole_line_ordered : (m : Machine) (settings : Settings) (image : OpenImage) (ending : Ending) (r : Result Line Fault)
    → IsInOrder m → OpenAscends (Some image)
    → InOrder (with_whole_line m settings image ending r)
unfolding InOrder
whole_line_ordered m settings image ending (Ok line) h here = row_ordered (record m { line = line }) settings image ending
    (record { images = h.images; image = h.image }) here
whole_line_ordered m settings image ending (Err fault) h here = tt

plane_ordered : (input : List ℕ) (settings : Settings) (image : OpenImage) (m : Machine) → IsInOrder m → OpenAscends (Some image)
    → InOrder (machines.plane_of input settings image m)
plane_ordered input settings image m h here =
    elim m.compression as (λ c. InOrder (elim c [
      | None ↦ unmoved image m
      | Some compression ↦ if is_past settings image.next then unmoved image m else plane_in
          (sending_to settings compression image) input image m
    ])) [
      | None ↦ unmoved_ordered image m h here
      | Some compression ↦ ordered_if (is_past settings image.next) (unmoved image m) (plane_in
          (sending_to settings compression image) input image m) (unmoved_ordered image m h here)
          (line_ordered m image (ending_of (breaks (sending_to settings compression image) input m.line)) (next_plane
          (sending_to settings compression image) input m.line) h here)
    ]

row_of_ordered : (input : List ℕ) (settings : Settings) (image : OpenImage) (m : Machine) → IsInOrder m → OpenAscends (Some image)
    → InOrder (machines.row_of input settings image m)
row_of_ordered input settings image m h here =
    elim m.compression as (λ c. InOrder (elim c [
      | None ↦ moved_by 1 settings image m
      | Some compression ↦ if is_past settings image.next then unmoved image m else row_in
          (sending_to settings compression image) input image m
    ])) [
      | None ↦ moved_ordered 1 settings image m h here
      | Some compression ↦ ordered_if (is_past settings image.next) (unmoved image m) (row_in
          (sending_to settings compression image) input image m) (unmoved_ordered image m h here)
          (whole_line_ordered m settings image (ending_of (breaks (sending_to settings compression image) input m.line)) (whole_line
          (sending_to settings compression image) input m.line) h here)
    ]

-- settings
same_images : (m : Machine) (settings : Option Settings) → IsInOrder m → InOrder (set_or_bad m settings)
unfolding InOrder
same_images m None h = h
same_images m (Some settings) h = record { images = h.images; image = h.image }

unit_ordered : (m : Machine) (unit : Option ℕ) → IsInOrder m → InOrder (with_unit m unit)
unfolding InOrder
unit_ordered m None h = h
unit_ordered m (Some unit) h = record { images = h.images; image = h.image }

place_ordered : (m : Machine) (place : Option Place) → IsInOrder m → InOrder (at_place m place)
unfolding InOrder
place_ordered m None h = tt
place_ordered m (Some place) h = record { images = h.images; image = h.image }

ordered : (request : Request) (input : List ℕ) (m : Machine) → IsInOrder m → InOrder (obeyed request input m)
unfolding InOrder
ordered (Set setting) input m h = ordered_if (is_settled m.image) (done m) (set_or_bad m (with_setting setting input m.settings)) h
    (same_images m (with_setting setting input m.settings) h)
ordered (Start None) input m h = ordered_if (is_some m.image) (done m) (bad m) h h
ordered (Start (Some corner)) input m h = record { images = h.images; image = image_ascends corner m h }
ordered End input m h = after_close_ordered (closed m) done (closed_ordered m h) (λ n k. k)
ordered EndAndReset input m h = after_close_ordered (closed m) (λ n. done (record n { compression = Some Unencoded }))
    (closed_ordered m h) (λ n k. record { images = k.images; image = k.image })
ordered (Compress None) input m h = record { images = h.images; image = h.image }
ordered (Compress (Some compression)) input m h = record { images = h.images; image = h.image }
ordered (MoveRows rows) input m h = rows_moved_ordered rows m h
ordered Plane input m h = plane_ordered input (settings_of (with_data m) m.settings) (with_data m) m h (image_ascends AtMargin m h)
ordered LastPlane input m h = row_of_ordered input (settings_of (with_data m) m.settings) (with_data m) m h
    (image_ascends AtMargin m h)
ordered (PalettePart primary n) input m h = record { images = h.images; image = h.image }
ordered (PaletteEntry (pos n)) input m h =
    ordered_if (has_entry m.settings.coding n) (done (record m { settings = with_colour n m.parts m.settings; parts = no_parts }))
    (bad m) (record { images = h.images; image = h.image }) h
ordered (PaletteEntry (negsuc n)) input m h = h
ordered (request.Place change) input m h = after_close_ordered (closed m) (place_changed change) (closed_ordered m h)
    (λ n k. place_ordered n (after_change change n.unit n.place) k)
ordered (request.Unit n) input m h = unit_ordered m (density_from n) h
ordered (Enter language places) input m h = after_close_ordered (closed m) done (closed_ordered m h) (λ n k. k)
ordered Reset input m h = after_close_ordered (closed m) (λ n. done (reset n)) (closed_ordered m h)
    (λ n k. record { images = k.images; image = tt })
ordered EndPage input m h = after_close_ordered (closed m) (λ n. done (record n { place = origin })) (closed_ordered m h)
    (λ n k. record { images = k.images; image = k.image })
ordered Nothing input m h = h
ordered request.Bad input m h = h
ordered request.Skipped input m h = h

of_step : (r : Step) (n : Machine) (answer : Answer) → InOrder r → r ≡ Ok (n, answer) → IsInOrder n
unfolding InOrder
of_step r n answer h e = subst InOrder e h

of_close : (r : Result Machine Fault) (n : Machine) → MachineInOrder r → r ≡ Ok n → IsInOrder n
unfolding MachineInOrder
of_close r n h e = subst MachineInOrder e h

pub rows_stay_in_order_lem : RowsStayInOrder
rows_stay_in_order_lem = record {
  at_start = record { images = All-nil RowsAscend; image = tt };
  request = λ request input m n answer e h. of_step (obeyed request input m) n answer (ordered request input m h) e;
  close = λ m n e h. of_close (closed m) n (closed_ordered m h) e;
}

-- what obeying and closing keep
pub obeyed_in_order : (request : Request) (input : List ℕ) (m n : Machine) (r : Result Answer Fault)
    → IfOk r (λ answer. obeyed request input m ≡ Ok (n, answer)) → IsInOrder m → OnOk r (IsInOrder n)
obeyed_in_order request input m n (Ok answer) e h = rows_stay_in_order_lem.request request input m n answer e h
obeyed_in_order request input m n (Err fault) e h = tt

pub closed_in_order : {U : Type 0} (m n : Machine) (r : Result U Fault) → OnOk r (closed m ≡ Ok n) → IsInOrder m → OnOk r (IsInOrder n)
closed_in_order m n (Ok u) e h = rows_stay_in_order_lem.close m n e h
closed_in_order m n (Err fault) e h = tt
