-- No request makes more bytes of planes than there is room for.
use Rattle.std.proofs.Common.{◌≡◌, sym, ap, subst, refl, ℕ, zero, suc, ◌+◌, ◌-◌, ◌^◌, ◌≤◌, Bool, true, false, cond, if◌then◌else◌, nat_le, pos, negsuc, List, [], ◌∷◌, ◌++◌, length, get_or, Option, Some, None, is_some, Result, Ok, Err, arith}
use Rattle.std.proofs.lemmas.Bool.{ltb-false}
use Rattle.image_rows.specs.declared.compression.Compression.{Compression}
use Rattle.image_rows.specs.declared.compression.Compression.TheVariants.{Unencoded}
use Rattle.image_rows.specs.declared.compression.RowLength.{RowLength}
use Rattle.image_rows.specs.declared.compression.RowLength.TheVariants.{Fixed, UpTo}
use Rattle.image_rows.specs.declared.ending.Ending.{Ending}
use Rattle.image_rows.specs.Rows.{whole_row, row_of}
use Rattle.image_rows.specs.Endings.{ending_of}
use Rattle.image_rows.proofs.RowLaws.{rows_have_their_width_lem}
use Rattle.image_colours.specs.Counts.{plane_count, plane_bytes}
use Rattle.raster_graphics.specs.declared.fault.Answer.{Answer}
use Rattle.raster_graphics.specs.declared.fault.Fault.{Fault}
use Rattle.raster_graphics.specs.declared.fault.Fault.TheVariants.{TooFar, TooMuch}
use Rattle.raster_graphics.specs.declared.place.Place.{Place}
use Rattle.raster_graphics.specs.declared.settings.Settings.{Settings}
use Rattle.raster_graphics.specs.declared.line.Line.{Line}
use Rattle.raster_graphics.specs.declared.image.Image.{Image}
use Rattle.raster_graphics.specs.declared.open_image.OpenImage.{OpenImage}
use Rattle.raster_graphics.specs.declared.machine.Machine.{Machine}
use Rattle.raster_graphics.specs.Settings.{plane_size, is_past, advanced, with_setting}
use Rattle.raster_graphics.specs.Rows.{Sending, is_full, is_too_much, plane_of, next_plane, breaks, and_then, filled, whole_line}
use Rattle.raster_graphics.specs.Images.{opened, settings_of, image_of, with_row, moved_to, next_begin, is_far}
use Rattle.raster_requests.specs.declared.image.Corner.{Corner}
use Rattle.raster_requests.specs.declared.image.Corner.TheVariants.{AtMargin}
use Rattle.raster_requests.specs.declared.request.Request.{Request}
use Rattle.raster_requests.specs.declared.request.Request.TheVariants as request
use Rattle.raster_requests.specs.declared.request.Request.TheVariants.{Set, Start, End, EndAndReset, Compress, MoveRows, Plane, LastPlane, PalettePart, PaletteEntry, Enter, Reset, EndPage, Nothing}
use Rattle.image_colours.specs.Palettes.{has_entry}
use Rattle.raster_graphics.specs.declared.machine.TheConstants.{MOST_BYTES}
use Rattle.raster_graphics.specs.Places.{density_from, after_change}
use Rattle.raster_graphics.specs.Machines.{Step, no_planes, no_parts, origin, answer_of, with_line, in_reach, row_added, with_whole_line, done, bad, start, ending_at, ended, closed, after_close}
use Rattle.raster_graphics.specs.Machines.{moved_in, moved_by, rows_moved, image_at, corner_of, with_data, unmoved, sending_to, plane_in, row_in, is_settled, set_or_bad, with_unit, at_place, place_changed, with_colour, reset, obeyed}
use Rattle.raster_graphics.specs.Machines as machines
use Rattle.raster_graphics.specs.Laws.{bytes_of, image_bytes, open_bytes, held, PlanesHaveRoom}

-- bytes of planes and of images that are joined
bytes-append : (xs ys : List (List ℕ)) → bytes_of (xs ++ ys) ≡ bytes_of xs + bytes_of ys
unfolding bytes_of
bytes-append [] ys = omega arith
bytes-append (x ∷ xs) ys = let more : bytes_of (xs ++ ys) ≡ bytes_of xs + bytes_of ys = bytes-append xs ys in omega (arith, more)

bytes-one : (x : List ℕ) → bytes_of (x ∷ []) ≡ length x
unfolding bytes_of
bytes-one x = omega arith

bytes-none : bytes_of [] ≡ 0
unfolding bytes_of
bytes-none = refl

images-push : (images : List Image) (image : Image)
    → image_bytes (images ++ image ∷ []) ≡ image_bytes images + bytes_of image.planes
unfolding image_bytes
images-push [] image = omega arith
images-push (first ∷ images) image =
    let more : image_bytes (images ++ image ∷ []) ≡ image_bytes images + bytes_of image.planes = images-push images image in
    omega (arith, more)

-- a line has no more bytes than this, with its room
KeepsLine : ℕ → Result Line Fault → Type 0
KeepsLine k (Ok line) = bytes_of line.planes + line.room ≤ k
KeepsLine k (Err fault) = Unit {0}

line_if : (k : ℕ) (b : Bool) (x y : Result Line Fault) → (b ≡ true → KeepsLine k x) → (b ≡ false → KeepsLine k y)
    → KeepsLine k (cond b x y)
line_if k true x y f g = f refl
line_if k false x y f g = g refl

-- a plane has its room
IsRoom : RowLength → ℕ → Type 0
IsRoom (Fixed width) room = Unit {0}
IsRoom (UpTo most) room = most ≤ room

same_le : (n : ℕ) → n ≤ n
same_le n = omega arith

room_of : (settings : Settings) (room : ℕ) → IsRoom (plane_size settings room) room
unfolding IsRoom
room_of settings room =
    elim settings.width as (λ w. IsRoom (elim w [
      | None ↦ UpTo room
      | Some width ↦ Fixed
          (plane_bytes settings.coding width)
    ]) room) [ None ↦ same_le room | Some width ↦ tt ]

plane_within : (size : RowLength) (room : ℕ) (compression : Compression) (seed input : List ℕ) → IsRoom size room
    → is_too_much size room (whole_row compression seed input) ≡ false → length (row_of size compression seed input) ≤ room
unfolding IsRoom
plane_within (Fixed width) room compression seed input h e =
    omega (arith, ltb-false room width e, rows_have_their_width_lem width compression seed input)
plane_within (UpTo most) room compression seed input h e =
    omega (arith, h, ltb-false most (length (whole_row compression seed input)) e)

with_plane : (planes : List (List ℕ)) (plane : List ℕ) (room k : ℕ) → length plane ≤ room → bytes_of planes + room ≤ k
    → bytes_of (planes ++ plane ∷ []) + (room - length plane) ≤ k
with_plane planes plane room k h e = omega (arith, bytes-append planes (plane ∷ []), bytes-one plane, h, e)

next_keeps : (sending : Sending) (input : List ℕ) (line : Line) (k : ℕ) → bytes_of line.planes + line.room ≤ k
    → KeepsLine k (next_plane sending input line)
unfolding KeepsLine
next_keeps sending input line k h =
    let seed : List ℕ = get_or sending.seeds (length line.planes) [] in
    let size : RowLength = plane_size sending.settings line.room in
    let new : Result Line Fault = Ok (record {
      planes = line.planes ++ plane_of sending input line
          ∷ [];
      room = line.room - length (plane_of sending input line);
    }) in
    let much : Bool = is_too_much (plane_size sending.settings line.room) line.room (whole_row sending.compression
    (get_or sending.seeds (length line.planes) []) input) in
    line_if k (is_full sending.settings line.planes) (Ok line) (cond much (Err TooMuch) new) (λ e. h)
    (λ e. line_if k much (Err TooMuch) new (λ f. tt)
    (λ f. with_plane line.planes (plane_of sending input line) line.room k
    (plane_within (plane_size sending.settings line.room) line.room sending.compression (get_or sending.seeds
    (length line.planes) []) input (room_of sending.settings line.room) f) h))

then_keeps : (k : ℕ) (r : Result Line Fault) (next : Line → Result Line Fault) → KeepsLine k r
    → ((line : Line) → bytes_of line.planes + line.room ≤ k → KeepsLine k (next line)) → KeepsLine k (and_then r next)
unfolding KeepsLine
then_keeps k (Ok line) next h f = f line h
then_keeps k (Err fault) next h f = tt

filled_keeps : (n : ℕ) (sending : Sending) (line : Line) (k : ℕ) → bytes_of line.planes + line.room ≤ k
    → KeepsLine k (filled n sending line)
unfolding KeepsLine filled
filled_keeps zero sending line k h = h
filled_keeps (suc n) sending line k h =
    then_keeps k (next_plane sending [] line) (filled n sending) (next_keeps sending [] line k h)
    (λ next e. filled_keeps n sending next k e)

whole_keeps : (sending : Sending) (input : List ℕ) (line : Line) (k : ℕ) → bytes_of line.planes + line.room ≤ k
    → KeepsLine k (whole_line sending input line)
whole_keeps sending input line k h =
    then_keeps k (next_plane sending input line) (filled (plane_count sending.settings.coding) sending)
    (next_keeps sending input line k h)
    (λ next e. filled_keeps (plane_count sending.settings.coding) sending next k e)

-- what a step leaves has no more bytes than this
Keeps : ℕ → Step → Type 0
Keeps k (Ok r) = held r.0 ≤ k
Keeps k (Err fault) = Unit {0}

keeps_if : (k : ℕ) (b : Bool) (x y : Step) → Keeps k x → Keeps k y → Keeps k (cond b x y)
keeps_if k true x y f g = f
keeps_if k false x y f g = g

-- a line that takes the place of another
line_keeps : (m : Machine) (image : OpenImage) (ending : Ending) (r : Result Line Fault)
    → bytes_of image.planes ≡ open_bytes m.image
    → KeepsLine (bytes_of m.line.planes + m.line.room) r → Keeps (held m) (with_line m image ending r)
unfolding KeepsLine Keeps
line_keeps m image ending (Ok line) same h = omega (arith, same, h)
line_keeps m image ending (Err fault) same h = tt

-- a row that is added to its image
row_keeps : (m : Machine) (settings : Settings) (image : OpenImage) (ending : Ending) (k : ℕ)
    → image_bytes m.images + bytes_of image.planes + bytes_of m.line.planes + m.line.room ≤ k
    → Keeps k (row_added settings image ending m)
unfolding Keeps
row_keeps m settings image ending k h =
    keeps_if k (nat_le (2 ^ 32) (image.next + 1)) (Err TooFar) (in_reach m settings (with_row m.line.planes image) ending) tt
    (keeps_if k (is_far settings (with_row m.line.planes image)) (Err TooFar)
    (Ok (record m { image = Some (with_row m.line.planes image); line = no_planes m.line }, answer_of ending)) tt
    (omega (arith, bytes-append image.planes m.line.planes, bytes-none, h)))

whole_line_keeps : (m : Machine) (settings : Settings) (image : OpenImage) (ending : Ending) (r : Result Line Fault)
    → bytes_of image.planes ≡ open_bytes m.image
    → KeepsLine (bytes_of m.line.planes + m.line.room) r → Keeps (held m) (with_whole_line m settings image ending r)
unfolding KeepsLine Keeps
whole_line_keeps m settings image ending (Ok line) same h = row_keeps (record m { line = line }) settings image ending (held m)
    (omega (arith, same, h))
whole_line_keeps m settings image ending (Err fault) same h = tt

-- an image that ends
KeepsMachine : ℕ → Result Machine Fault → Type 0
KeepsMachine k (Ok m) = held m ≤ k
KeepsMachine k (Err fault) = Unit {0}

done_bytes : (settings : Settings) (image : OpenImage) (images : List Image) (numbers : List ℕ)
    → image_bytes (elim numbers [
      | [] ↦ images
      | _ ∷ _ ↦ images ++ image_of settings image
          ∷ []
    ]) ≤ image_bytes images + bytes_of image.planes
done_bytes settings image images [] = omega arith
done_bytes settings image images (n ∷ numbers) = omega (arith, images-push images (image_of settings image))

ending_keeps : (settings : Settings) (image : OpenImage) (m : Machine) (place : Option Place) (k : ℕ)
    → image_bytes m.images + bytes_of image.planes + bytes_of m.line.planes + m.line.room ≤ k
    → KeepsMachine k (ending_at settings image m place)
unfolding KeepsMachine
ending_keeps settings image m None k h = tt
ending_keeps settings image m (Some place) k h = omega (arith, done_bytes settings image m.images image.numbers, bytes-none, h)

closed_keeps : (m : Machine) → KeepsMachine (held m) (closed m)
unfolding KeepsMachine
closed_keeps m =
    let P : Option OpenImage → Type 0 = λ i. m.image ≡ i
    → KeepsMachine (held m) (elim i [ None ↦ Ok m | Some image ↦ ended image m ]) in
    let all : P m.image = elim m.image as P [
      | None ↦ λ e. same_le (held m)
      | Some image ↦ λ e. ending_keeps (settings_of image m.settings) image m (next_begin (settings_of image m.settings) image)
          (held m)
          (let same : open_bytes m.image ≡ bytes_of image.planes = ap open_bytes e in omega (arith, same))
    ] in
    all refl

after_close_keeps : (k : ℕ) (r : Result Machine Fault) (next : Machine → Step) → KeepsMachine k r → ((n : Machine) → held n ≤ k
    → Keeps k (next n))
    → Keeps k (after_close r next)
unfolding KeepsMachine Keeps
after_close_keeps k (Ok m) next h f = f m h
after_close_keeps k (Err fault) next h f = tt

-- rows without dots
moved_in_keeps : (m : Machine) (image : OpenImage) (place : Option Place) (k : ℕ)
    → image_bytes m.images + bytes_of image.planes + bytes_of m.line.planes + m.line.room ≤ k → Keeps k (moved_in m image place)
unfolding Keeps
moved_in_keeps m image None k h = tt
moved_in_keeps m image (Some place) k h = omega (arith, bytes-none, h)

moved_keeps : (rows : ℕ) (settings : Settings) (image : OpenImage) (m : Machine) → bytes_of image.planes ≡ open_bytes m.image
    → Keeps (held m) (moved_by rows settings image m)
unfolding Keeps
moved_keeps rows settings image m same =
    let next : ℕ = advanced settings image.next rows in
    keeps_if (held m) (nat_le (2 ^ 32) (advanced settings image.next rows)) (Err TooFar)
    (moved_in m (moved_to (advanced settings image.next rows) image) (next_begin settings (moved_to
    (advanced settings image.next rows) image))) tt
    (moved_in_keeps m (moved_to (advanced settings image.next rows) image) (next_begin settings (moved_to
    (advanced settings image.next rows) image)) (held m) (omega (arith, same)))

rows_moved_keeps : (rows : ℕ) (m : Machine) → Keeps (held m) (rows_moved rows m)
unfolding Keeps
rows_moved_keeps rows m =
    let P : Option OpenImage → Type 0 = λ i. m.image ≡ i
    → Keeps (held m) (elim i [ None ↦ done m | Some image ↦ moved_by rows (settings_of image m.settings) image m ]) in
    let all : P m.image = elim m.image as P [
      | None ↦ λ e. same_le (held m)
      | Some image ↦ λ e. moved_keeps rows (settings_of image m.settings) image m (sym (ap open_bytes e))
    ] in
    all refl

-- the image that is open, or one that begins
planes_at : (corner : Corner) (m : Machine) → bytes_of (image_at corner m).planes ≡ open_bytes m.image
planes_at corner m =
    elim m.image as (λ i. let image : OpenImage = elim i [ None ↦ opened (corner_of corner m.place) | Some image ↦ image ] in
    bytes_of image.planes ≡ open_bytes i) [ None ↦ bytes-none | Some image ↦ refl ]

unmoved_keeps : (image : OpenImage) (m : Machine) → bytes_of image.planes ≡ open_bytes m.image → Keeps (held m) (unmoved image m)
unfolding Keeps
unmoved_keeps image m same = omega (arith, same)

plane_keeps : (input : List ℕ) (settings : Settings) (image : OpenImage) (m : Machine)
    → bytes_of image.planes ≡ open_bytes m.image → Keeps (held m) (machines.plane_of input settings image m)
plane_keeps input settings image m same =
    elim m.compression as (λ c. Keeps (held m) (elim c [
      | None ↦ unmoved image m
      | Some compression ↦ if is_past settings image.next then unmoved image m else plane_in
          (sending_to settings compression image) input image m
    ])) [
      | None ↦ unmoved_keeps image m same
      | Some compression ↦ keeps_if (held m) (is_past settings image.next) (unmoved image m) (plane_in
          (sending_to settings compression image) input image m) (unmoved_keeps image m same)
          (line_keeps m image (ending_of (breaks (sending_to settings compression image) input m.line)) (next_plane
          (sending_to settings compression image) input m.line) same
          (next_keeps (sending_to settings compression image) input m.line (bytes_of m.line.planes + m.line.room) (same_le
          (bytes_of m.line.planes + m.line.room))))
    ]

row_of_keeps : (input : List ℕ) (settings : Settings) (image : OpenImage) (m : Machine)
    → bytes_of image.planes ≡ open_bytes m.image → Keeps (held m) (machines.row_of input settings image m)
row_of_keeps input settings image m same =
    elim m.compression as (λ c. Keeps (held m) (elim c [
      | None ↦ moved_by 1 settings image m
      | Some compression ↦ if is_past settings image.next then unmoved image m else row_in
          (sending_to settings compression image) input image m
    ])) [
      | None ↦ moved_keeps 1 settings image m same
      | Some compression ↦ keeps_if (held m) (is_past settings image.next) (unmoved image m) (row_in
          (sending_to settings compression image) input image m) (unmoved_keeps image m same)
          (whole_line_keeps m settings image (ending_of (breaks (sending_to settings compression image) input m.line)) (whole_line
          (sending_to settings compression image) input m.line) same
          (whole_keeps (sending_to settings compression image) input m.line (bytes_of m.line.planes + m.line.room) (same_le
          (bytes_of m.line.planes + m.line.room))))
    ]

set_keeps : (m : Machine) (settings : Option Settings) → Keeps (held m) (set_or_bad m settings)
unfolding Keeps
set_keeps m None = same_le (held m)
set_keeps m (Some settings) = same_le (held m)

unit_keeps : (m : Machine) (unit : Option ℕ) → Keeps (held m) (with_unit m unit)
unfolding Keeps
unit_keeps m None = same_le (held m)
unit_keeps m (Some unit) = same_le (held m)

place_keeps : (m : Machine) (place : Option Place) (k : ℕ) → held m ≤ k → Keeps k (at_place m place)
unfolding Keeps
place_keeps m None k h = tt
place_keeps m (Some place) k h = h

keeps : (request : Request) (input : List ℕ) (m : Machine) → Keeps (held m) (obeyed request input m)
unfolding Keeps
keeps (Set setting) input m = keeps_if (held m) (is_settled m.image) (done m) (set_or_bad m
    (with_setting setting input m.settings)) (same_le (held m)) (set_keeps m (with_setting setting input m.settings))
keeps (Start None) input m = keeps_if (held m) (is_some m.image) (done m) (bad m) (same_le (held m)) (same_le (held m))
keeps (Start (Some corner)) input m = omega (arith, planes_at corner m)
keeps End input m = after_close_keeps (held m) (closed m) done (closed_keeps m) (λ n h. h)
keeps EndAndReset input m = after_close_keeps (held m) (closed m) (λ n. done (record n { compression = Some Unencoded }))
    (closed_keeps m) (λ n h. h)
keeps (Compress None) input m = same_le (held m)
keeps (Compress (Some compression)) input m = same_le (held m)
keeps (MoveRows rows) input m = rows_moved_keeps rows m
keeps Plane input m = plane_keeps input (settings_of (with_data m) m.settings) (with_data m) m (planes_at AtMargin m)
keeps LastPlane input m = row_of_keeps input (settings_of (with_data m) m.settings) (with_data m) m (planes_at AtMargin m)
keeps (PalettePart primary n) input m = same_le (held m)
keeps (PaletteEntry (pos n)) input m =
    keeps_if (held m) (has_entry m.settings.coding n) (done
    (record m { settings = with_colour n m.parts m.settings; parts = no_parts })) (bad m) (same_le (held m)) (same_le (held m))
keeps (PaletteEntry (negsuc n)) input m = same_le (held m)
keeps (request.Place change) input m = after_close_keeps (held m) (closed m) (place_changed change) (closed_keeps m)
    (λ n h. place_keeps n (after_change change n.unit n.place) (held m) h)
keeps (request.Unit n) input m = unit_keeps m (density_from n)
keeps (Enter language places) input m = after_close_keeps (held m) (closed m) done (closed_keeps m) (λ n h. h)
keeps Reset input m = after_close_keeps (held m) (closed m) (λ n. done (reset n)) (closed_keeps m) (λ n h. omega
    (arith, bytes-none, h))
keeps EndPage input m = after_close_keeps (held m) (closed m) (λ n. done (record n { place = origin })) (closed_keeps m) (λ n h. h)
keeps Nothing input m = same_le (held m)
keeps request.Bad input m = same_le (held m)
keeps request.Skipped input m = same_le (held m)

of_step : (k : ℕ) (r : Step) (n : Machine) (answer : Answer) → Keeps k r → r ≡ Ok (n, answer) → held n ≤ k
unfolding Keeps
of_step k r n answer h e = subst (Keeps k) e h

of_close : (k : ℕ) (r : Result Machine Fault) (n : Machine) → KeepsMachine k r → r ≡ Ok n → held n ≤ k
unfolding KeepsMachine
of_close k r n h e = subst (KeepsMachine k) e h

nothing_held : held start ≡ MOST_BYTES
unfolding bytes_of image_bytes
nothing_held = refl

pub planes_have_room_lem : PlanesHaveRoom
planes_have_room_lem = record {
  at_start = nothing_held;
  request = λ request input m n answer e. of_step (held m) (obeyed request input m) n answer (keeps request input m) e;
  close = λ m n e. of_close (held m) (closed m) n (closed_keeps m) e;
}
