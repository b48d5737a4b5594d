use Rattle.std.proofs.Common.{◌≡◌, ◌+◌, ◌-◌, ◌++◌, ℕ, List, Err, length, ap, ap₂, subst, ◌∙◌, arith, length-append}
use Rattle.std.specs.Io.KnownBytes.{Appends}
use Rattle.picture_out.specs.Forms.{foot_bytes, head_bytes}
use Rattle.devices.specs.Sinks.{taken_of, Writes}
use Rattle.devices.proofs.KnownBytes.{Appends-join, cut_second}
use Rattle.rows.specs.Pictures.{foot_if, head_if, rows_bytes}
use Rattle.rows.proofs.WrittenRows.{foot_cut, picture_cut}
use Rattle.rows.proofs.writing.write_picture.Goals as goal

pub returns-in-Err-write_left-clause-writes : goal.returns-in-Err-write_left-clause-writes
returns-in-Err-write_left-clause-writes g c =
    let first = g.B.Bands.next c.args.bands.now in
    let rows = g.B.Bands.rows c.args.bands.now in
    let end = g.B.Bands.end c.args.bands.now in
    let foot = foot_if (foot_bytes c.args.form) rows end in
    let row : ℕ → List ℕ = g.B.Bands.row_text c.args.bands.now (g.G.Gauge.reaches c.args.gauge.now) in
    let head = head_bytes c.args.form c.args.dots c.args.columns rows in
    let made : List ℕ = head_if (head_bytes c.args.form c.args.dots c.args.columns c.rows-rows.result) c.next_row-first.result in
    let same : made ≡ head_if head first =
    ap (λ (n : ℕ). head_if (head_bytes c.args.form c.args.dots c.args.columns n) c.next_row-first.result) c.rows-rows.ensures.count ∙ ap (head_if head) c.next_row-first.ensures.next in
    let wrote = c.in-Ok.ensures.writes in
    let before : c.in-Ok.bytes ≡ length (head_if head first) = c.in-Ok.ensures.count ∙ ap length same in
    picture_cut head row foot end first c.in-Ok.bytes (g.K.Sink.state c.args.sink.now) (g.K.Sink.state c.write_head.new.sink) (g.K.Sink.state c.write_left.new.sink) c.in-Err-write_left.stop
    (subst (Appends (g.K.Sink.state c.args.sink.now).held (g.K.Sink.state c.write_head.new.sink).held) same wrote.0) wrote.1 before c.in-Err-write_left.ensures.writes

pub returns-in-Err-write_foot-clause-writes : goal.returns-in-Err-write_foot-clause-writes
returns-in-Err-write_foot-clause-writes g c =
    let first = g.B.Bands.next c.args.bands.now in
    let rows = g.B.Bands.rows c.args.bands.now in
    let end = g.B.Bands.end c.args.bands.now in
    let foot = foot_if (foot_bytes c.args.form) rows end in
    let row : ℕ → List ℕ = g.B.Bands.row_text c.args.bands.now (g.G.Gauge.reaches c.args.gauge.now) in
    let head = head_bytes c.args.form c.args.dots c.args.columns rows in
    let s = g.K.Sink.state c.args.sink.now in
    let t = g.K.Sink.state c.write_head.new.sink in
    let u = g.K.Sink.state c.write_left.new.sink in
    let v = g.K.Sink.state c.write_foot.new.sink in
    let made : List ℕ = head_if (head_bytes c.args.form c.args.dots c.args.columns c.rows-rows.result) c.next_row-first.result in
    let same : made ≡ head_if head first =
    ap (λ (n : ℕ). head_if (head_bytes c.args.form c.args.dots c.args.columns n) c.next_row-first.result) c.rows-rows.ensures.count ∙ ap (head_if head) c.next_row-first.ensures.next in
    let back = rows_bytes row first (end - first) in
    let wrote_head = c.in-Ok.ensures.writes in
    let wrote = c.in-Ok-write_left.ensures.writes in
    let begun : c.in-Ok.bytes ≡ length (head_if head first) = c.in-Ok.ensures.count ∙ ap length same in
    let both : Appends s.held u.held (head_if head first ++ back) = Appends-join s.held t.held u.held (head_if head first) back (subst (Appends s.held t.held) same wrote_head.0) wrote.written in
    let done : c.in-Ok-write_left.bytes ≡ length (head_if head first ++ back) = omega (arith, wrote.count, begun, length-append (head_if head first) back) in
    let moved : c.in-Ok-write_left.bytes + c.bytes-in-Err-write_foot.result ≡ length (head_if head first ++ back) + taken_of c.in-Err-write_foot.fault = omega (arith, done, c.bytes-in-Err-write_foot.ensures) in
    let same_foot : foot_if (foot_bytes c.args.form) c.rows-rows.result c.end_row-end.result ≡ foot = ap₂ (foot_if (foot_bytes c.args.form)) c.rows-rows.ensures.count c.end_row-end.ensures.end in
    let short = subst (λ (z : List ℕ). Writes {U = ℕ} u v z (Err c.in-Err-write_foot.fault)) same_foot c.in-Err-write_foot.ensures.writes in
    let cut = cut_second s.held u.held v.held s.faults u.faults v.faults (head_if head first ++ back) foot _ _ (both, wrote.sound ∙ wrote_head.1) short moved in
    foot_cut head row foot end first c.end_row-end.result c.next_row-first.result c.in-Ok-write_left.bytes c.bytes-in-Err-write_foot.result c.whole_before.result s v c.end_row-end.ensures.end c.next_row-first.ensures.next
    (omega (arith, c.next_row-first.ensures.next, c.next_row-first.ensures.within)) done cut.0 cut.1 cut.2 c.whole_before.ensures
