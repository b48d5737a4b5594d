-- Rows that were written, by the cells of a band and band after band.
use Rattle.std.proofs.Common.{◌≡◌, ℕ, ◌+◌, ◌-◌, ◌<◌, ◌≤◌, List, [], ◌++◌, length, take, drop, map, get_or}
use Rattle.std.proofs.Common.{refl, sym, ap, ◌∙◌, subst, arith, length-append, append-nil, append_assoc, cond, nat_eq, Result, Ok, Err}
use Rattle.std.proofs.Math.Seq.{take-append_seam, drop-append_seam}
use Rattle.std.proofs.lemmas.List.{take-append-le}
use Rattle.std.proofs.lemmas.List.FromFn.{take-map-range_with_len, get_or-map-range_with_len, length-map-range_with_len}
use Rattle.std.specs.List.{range_with_len}
use Rattle.std.specs.Io.KnownBytes.{Appends}
use Rattle.devices.specs.Sinks.{SinkState}
use Rattle.devices.proofs.KnownBytes.{Appends-join, Appends-more}
use Rattle.picture_out.specs.declared.form.Form.{Form}
use Rattle.picture_out.specs.declared.inks.Ink.{Ink}
use Rattle.picture_out.specs.Forms.{row_bytes}
use Rattle.rows.specs.declared.writing.Broken.{Broken}
use Rattle.rows.specs.Pictures.{head_if, picture_of, rows_bytes}
use Rattle.rows.specs.Stops.{bytes_before, IsStoppedAt}
use Rattle.rows.specs.Progress.{IsWhole, rows_text, AreWritten, PictureStops, WritesCells, WritesRows}
use Rattle.rows.proofs.Pictures.{rows_first, rows_join, stopped_at}
use Rattle.rows.proofs.RowTexts.{text_is}

-- the cells of a list that were written are rows of the picture that were written
pub cells_written : (form : Form) (inks : List Ink) (row pens : ℕ → List ℕ) → ((r : ℕ) → row r ≡ row_bytes form r inks (pens r))
    → (first at n end done : ℕ) (old new : SinkState) (answer : Result ℕ Broken) → end ≡ at + n
    → WritesCells form inks first at (map pens (range_with_len at n)) done old new answer → WritesRows row first at end done old new answer
cells_written form inks row pens made first at n end done old new (Ok bytes) is wrote =
    let count : end - at ≡ n = omega (arith, is) in
    let text : rows_text form inks at (map pens (range_with_len at n)) ≡ rows_bytes row at (end - at) =
    text_is form inks row pens at n made ∙ ap (rows_bytes row at) (sym count) in
    subst (λ (z : List ℕ). AreWritten z done old new bytes) text wrote
cells_written form inks row pens made first at n end done old new (Err stop) is wrote =
    let list = map pens (range_with_len at n) in
    let k = wrote.k in
    let s = wrote.stopped in
    let count : end - at ≡ n = omega (arith, is) in
    let text : rows_text form inks at list ≡ rows_bytes row at (end - at) = text_is form inks row pens at n made ∙ ap (rows_bytes row at) (sym count) in
    let size : length list ≡ n = length-map-range_with_len pens at n in
    let inside : k < n = omega (arith, s.inside, size) in
    let apart : stop.row - at ≡ k = omega (arith, s.row) in
    let some : rows_text form inks at (take k list) ≡ rows_bytes row at (stop.row - at) =
    ap (rows_text form inks at) (take-map-range_with_len pens at n k (omega arith)) ∙ text_is form inks row pens at k made ∙ ap (rows_bytes row at) (sym apart) in
    let one : get_or list k [] ≡ pens (at + k) = get_or-map-range_with_len pens at n k (at + k) [] inside refl in
    let bytes : row_bytes form (at + k) inks (get_or list k []) ≡ row stop.row = ap (row_bytes form (at + k) inks) one ∙ sym (made (at + k)) ∙ ap row (sym s.row) in
    record {
      written = subst (λ (z : List ℕ). Appends old.held new.held (take (stop.bytes - done) z)) text wrote.written;
      failed = wrote.failed;
      since = omega (arith, s.row);
      until = omega (arith, s.row, inside, is);
      from = omega (arith, s.from, ap length some);
      to = omega (arith, s.to, ap length some, ap length bytes);
      whole = s.whole ∙ ap (λ (r : ℕ). cond (nat_eq r first) 0 (done + length (rows_text form inks at (take k list)))) (sym s.row)
          ∙ ap (λ (z : List ℕ). cond (nat_eq stop.row first) 0 (done + length z)) some;
    }

-- some rows, and those after them
pub rows_meet : (row : ℕ → List ℕ) (at mid end : ℕ) → at ≤ mid → mid ≤ end → rows_bytes row at (end - at) ≡ rows_bytes row at (mid - at) ++ rows_bytes row mid (end - mid)
rows_meet row at mid end from to =
    let parts : end - at ≡ (mid - at) + (end - mid) = omega arith in
    let there : at + (mid - at) ≡ mid = omega arith in
    ap (rows_bytes row at) parts ∙ rows_join row at (mid - at) (end - mid) ∙ ap (λ (r : ℕ). rows_bytes row at (mid - at) ++ rows_bytes row r (end - mid)) there

-- rows up to `mid` were written, and then those up to `end`, or the sink failed in one of them
pub rows_after : (row : ℕ → List ℕ) (first at mid end done bytes : ℕ) (s t u : SinkState) (answer : Result ℕ Broken) → at ≤ mid → mid ≤ end
    → WritesRows row first at mid done s t (Ok bytes) → WritesRows row first mid end bytes t u answer → WritesRows row first at end done s u answer
rows_after row first at mid end done bytes s t u (Ok n) from to before after =
    let front = rows_bytes row at (mid - at) in
    let back = rows_bytes row mid (end - mid) in
    let all : rows_bytes row at (end - at) ≡ front ++ back = rows_meet row at mid end from to in
    record {
      written = subst (Appends s.held u.held) (sym all) (Appends-join s.held t.held u.held front back before.written after.written);
      count = omega (arith, before.count, after.count, ap length all, length-append front back);
      sound = after.sound ∙ before.sound;
    }
rows_after row first at mid end done bytes s t u (Err stop) from to before after =
    let front = rows_bytes row at (mid - at) in
    let back = rows_bytes row mid (end - mid) in
    let more = rows_bytes row mid (stop.row - mid) in
    let all : rows_bytes row at (end - at) ≡ front ++ back = rows_meet row at mid end from to in
    let some : rows_bytes row at (stop.row - at) ≡ front ++ more = rows_meet row at mid stop.row from after.since in
    let size = length-append front more in
    let taken : stop.bytes - done ≡ length front + (stop.bytes - bytes) = omega (arith, before.count, after.from) in
    let first_part : take (length front) (front ++ back) ≡ front = take-append_seam front back in
    let last_part : drop (length front) (front ++ back) ≡ back = drop-append_seam front back in
    let both : Appends s.held u.held (take (length front + (stop.bytes - bytes)) (front ++ back)) =
    Appends-more s.held t.held u.held (front ++ back) (length front) (stop.bytes - bytes)
    (subst (Appends s.held t.held) (sym first_part) before.written)
    (subst (λ (z : List ℕ). Appends t.held u.held (take (stop.bytes - bytes) z)) (sym last_part) after.written) in
    record {
      written = subst (λ (z : List ℕ). Appends s.held u.held (take (stop.bytes - done) z)) (sym all)
          (subst (λ (k : ℕ). Appends s.held u.held (take k (front ++ back))) (sym taken) both);
      failed = omega (arith, after.failed, before.sound);
      since = omega (arith, from, after.since);
      until = after.until;
      from = omega (arith, after.from, before.count, ap length some, size);
      to = omega (arith, after.to, before.count, ap length some, size);
      whole = let same : bytes + length more ≡ done + length (rows_bytes row at (stop.row - at)) = omega (arith, before.count, ap length some, size) in
          after.whole ∙ ap (λ (k : ℕ). cond (nat_eq stop.row first) 0 k) same;
    }

-- if the sink failed in one of some rows, it failed in one of those and more
pub cut_in_more : (row : ℕ → List ℕ) (first at mid end done : ℕ) (s u : SinkState) (stop : Broken) → mid ≤ end
    → WritesRows row first at mid done s u (Err stop) → WritesRows row first at end done s u (Err stop)
cut_in_more row first at mid end done s u stop to cut =
    let front = rows_bytes row at (mid - at) in
    let from : at ≤ mid = omega (arith, cut.since, cut.until) in
    let all : rows_bytes row at (end - at) ≡ front ++ rows_bytes row mid (end - mid) = rows_meet row at mid end from to in
    let some : rows_bytes row at (stop.row + 1 - at) ≡ rows_bytes row at (stop.row - at) ++ rows_bytes row stop.row (stop.row + 1 - stop.row) = rows_meet row at stop.row (stop.row + 1) cut.since (omega arith) in
    let one : stop.row + 1 - stop.row ≡ 1 = omega arith in
    let last : rows_bytes row stop.row (stop.row + 1 - stop.row) ≡ row stop.row = ap (rows_bytes row stop.row) one ∙ append-nil (row stop.row) in
    let rest : front ≡ rows_bytes row at (stop.row + 1 - at) ++ rows_bytes row (stop.row + 1) (mid - (stop.row + 1)) = rows_meet row at (stop.row + 1) mid (omega (arith, cut.since)) (omega (arith, cut.until)) in
    let inside : stop.bytes - done ≤ length front =
    omega (arith, cut.to, ap length some, length-append (rows_bytes row at (stop.row - at)) (rows_bytes row stop.row (stop.row + 1 - stop.row)), ap length last, ap length rest, length-append (rows_bytes row at (stop.row + 1 - at)) (rows_bytes row (stop.row + 1) (mid - (stop.row + 1)))) in
    let same : take (stop.bytes - done) front ≡ take (stop.bytes - done) (rows_bytes row at (end - at)) =
    sym (ap (take (stop.bytes - done)) all ∙ take-append-le (stop.bytes - done) front (rows_bytes row mid (end - mid)) inside) in
    record {
      written = subst (Appends s.held u.held) same cut.written;
      failed = cut.failed;
      since = cut.since;
      until = omega (arith, cut.until);
      from = cut.from;
      to = cut.to;
      whole = cut.whole;
    }

-- one row was written
pub row_written : (row : ℕ → List ℕ) (first at bytes : ℕ) (s t : SinkState) → Appends s.held t.held (row at) → t.faults ≡ s.faults
    → WritesRows row first at (at + 1) bytes s t (Ok (bytes + length (row at)))
row_written row first at bytes s t written sound =
    let one : at + 1 - at ≡ 1 = omega arith in
    let all : rows_bytes row at (at + 1 - at) ≡ row at = ap (rows_bytes row at) one ∙ append-nil (row at) in
    record {
      written = subst (Appends s.held t.held) (sym all) written;
      count = ap (λ (z : List ℕ). bytes + length z) (sym all);
      sound = sound;
    }

-- one row was cut short
pub row_cut : (row : ℕ → List ℕ) (first at bytes taken whole : ℕ) (s t : SinkState) → Appends s.held t.held (take taken (row at)) → taken < length (row at) → t.faults ≡ s.faults + 1
    → whole ≡ cond (nat_eq at first) 0 bytes → WritesRows row first at (at + 1) bytes s t (Err (record { row = at; whole = whole; bytes = bytes + taken }))
row_cut row first at bytes taken whole s t written inside failed is =
    let one : at + 1 - at ≡ 1 = omega arith in
    let none : at - at ≡ 0 = omega arith in
    let nothing : rows_bytes row at (at - at) ≡ [] = ap (rows_bytes row at) none in
    let all : rows_bytes row at (at + 1 - at) ≡ row at = ap (rows_bytes row at) one ∙ append-nil (row at) in
    let count : bytes + taken - bytes ≡ taken = omega arith in
    let before : bytes ≡ bytes + length (rows_bytes row at (at - at)) = omega (arith, ap length nothing) in
    record {
      written = subst (λ (z : List ℕ). Appends s.held t.held (take (bytes + taken - bytes) z)) (sym all) (subst (λ (k : ℕ). Appends s.held t.held (take k (row at))) (sym count) written);
      failed = failed;
      since = omega arith;
      until = omega arith;
      from = omega (arith, before);
      to = omega (arith, before, inside);
      whole = is ∙ ap (λ (k : ℕ). cond (nat_eq at first) 0 k) before;
    }

-- the head was written, and the sink failed in a row
pub picture_cut : (head : List ℕ) (row : ℕ → List ℕ) (foot : List ℕ) (rows first bytes : ℕ) (s t u : SinkState) (stop : Broken) → Appends s.held t.held (head_if head first) → t.faults ≡ s.faults
    → bytes ≡ length (head_if head first) → WritesRows row first first rows bytes t u (Err stop) → PictureStops head row foot rows first s u stop
picture_cut head row foot rows first bytes s t u stop written sound size cut =
    let front = head_if head first in
    let back = rows_bytes row first (rows - first) in
    let all = picture_of head row foot rows first in
    let start : take (length front) all ≡ front = take-append_seam front (back ++ foot) in
    let rest : drop (length front) all ≡ back ++ foot = drop-append_seam front (back ++ foot) in
    let part = stop.bytes - bytes in
    let inside : part < length back =
    let some = rows_meet row first stop.row rows cut.since (omega (arith, cut.until)) in
    let last = rows_first row stop.row (rows - stop.row) (rows - (stop.row + 1)) (omega (arith, cut.until)) in
    omega (arith, cut.to, cut.from, ap length some, length-append (rows_bytes row first (stop.row - first)) (rows_bytes row stop.row (rows - stop.row)), ap length last, length-append (row stop.row) (rows_bytes row (stop.row + 1) (rows - (stop.row + 1)))) in
    let whole : stop.bytes ≡ length front + part = omega (arith, size, cut.from) in
    let taken : take part (drop (length front) all) ≡ take part back = ap (take part) rest ∙ take-append-le part back foot (omega (arith, inside)) in
    let both : Appends s.held u.held (take (length front + part) all) =
    Appends-more s.held t.held u.held all (length front) part (subst (Appends s.held t.held) (sym start) written) (subst (Appends t.held u.held) (sym taken) cut.written) in
    let before : bytes + length (rows_bytes row first (stop.row - first)) ≡ bytes_before head row first stop.row = ap (λ (n : ℕ). n + length (rows_bytes row first (stop.row - first))) size in
    record {
      written = subst (λ (n : ℕ). Appends s.held u.held (take n all)) (sym whole) both;
      within = omega (arith, whole, inside, length-append front (back ++ foot), length-append back foot);
      failed = omega (arith, cut.failed, sound);
      stopped = stopped_at head row rows first stop.bytes stop.row (bytes + length (rows_bytes row first (stop.row - first))) stop.whole cut.since (omega (arith, cut.until)) before cut.whole cut.from (λ _. cut.to);
    }

-- all rows were written, and the sink failed in the foot
pub foot_cut : (head : List ℕ) (row : ℕ → List ℕ) (foot : List ℕ) (rows first rows' first' done taken whole : ℕ) (s u : SinkState) → rows' ≡ rows → first' ≡ first → first ≤ rows
    → done ≡ length (head_if head first ++ rows_bytes row first (rows - first))
    → Appends s.held u.held (take (done + taken) ((head_if head first ++ rows_bytes row first (rows - first)) ++ foot)) → done + taken < length ((head_if head first ++ rows_bytes row first (rows - first)) ++ foot) → u.faults ≡ s.faults + 1
    → whole ≡ cond (nat_eq rows' first') 0 done → PictureStops head row foot rows first s u (record { row = rows'; whole = whole; bytes = done + taken })
foot_cut head row foot rows first rows' first' done taken whole s u is_rows is_first from size written within failed is =
    let front = head_if head first in
    let back = rows_bytes row first (rows - first) in
    let same : (front ++ back) ++ foot ≡ picture_of head row foot rows first = append_assoc front back foot in
    let before : done ≡ bytes_before head row first rows = size ∙ length-append front back in
    let whole_is : whole ≡ cond (nat_eq rows first) 0 done = is ∙ ap (λ (r : ℕ). cond (nat_eq r first') 0 done) is_rows ∙ ap (λ (r : ℕ). cond (nat_eq rows r) 0 done) is_first in
    record {
      written = subst (λ (z : List ℕ). Appends s.held u.held (take (done + taken) z)) same written;
      within = omega (arith, within, ap length same);
      failed = failed;
      stopped = subst (λ (r : ℕ). IsStoppedAt head row rows first (done + taken) r whole) (sym is_rows)
          (stopped_at head row rows first (done + taken) rows done whole from (omega arith) before whole_is (omega arith) (λ lt. absurd (omega (arith, lt))));
    }

-- a picture of equal parts stopped
pub stops_same : (head head' : List ℕ) (row row' : ℕ → List ℕ) (foot foot' : List ℕ) (rows rows' first first' : ℕ) (s u : SinkState) (stop : Broken) → head ≡ head' → row ≡ row' → foot ≡ foot' → rows ≡ rows' → first ≡ first'
    → PictureStops head row foot rows first s u stop → PictureStops head' row' foot' rows' first' s u stop
stops_same head head' row row' foot foot' rows rows' first first' s u stop eh er et en ef h =
    subst (λ (k : ℕ). PictureStops head' row' foot' rows' k s u stop) ef
    (subst (λ (k : ℕ). PictureStops head' row' foot' k first s u stop) en
    (subst (λ (z : List ℕ). PictureStops head' row' z rows first s u stop) et
    (subst (λ (f : ℕ → List ℕ). PictureStops head' f foot rows first s u stop) er
    (subst (λ (z : List ℕ). PictureStops z row foot rows first s u stop) eh h))))

-- a picture of equal parts was written
pub whole_same : (head head' : List ℕ) (row row' : ℕ → List ℕ) (foot foot' : List ℕ) (rows rows' first first' : ℕ) (s u : SinkState) (bytes : ℕ) → head ≡ head' → row ≡ row' → foot ≡ foot' → rows ≡ rows' → first ≡ first'
    → IsWhole (picture_of head row foot rows first) s u bytes → IsWhole (picture_of head' row' foot' rows' first') s u bytes
whole_same head head' row row' foot foot' rows rows' first first' s u bytes eh er et en ef h =
    subst (λ (k : ℕ). IsWhole (picture_of head' row' foot' rows' k) s u bytes) ef
    (subst (λ (k : ℕ). IsWhole (picture_of head' row' foot' k first) s u bytes) en
    (subst (λ (z : List ℕ). IsWhole (picture_of head' row' z rows first) s u bytes) et
    (subst (λ (f : ℕ → List ℕ). IsWhole (picture_of head' f foot rows first) s u bytes) er
    (subst (λ (z : List ℕ). IsWhole (picture_of z row foot rows first) s u bytes) eh h))))
