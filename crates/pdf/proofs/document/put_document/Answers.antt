use Rattle.std.proofs.Common.{◌≡◌, ◌+◌, ◌*◌, ◌∙◌, ap, take, length, refl, arith}
use Rattle.std.proofs.lemmas.List.{length-take, length-take-le}
use Rattle.areas.specs.Views.{areas_in}
use Rattle.labels.specs.Sheets.{all_counted}
use Rattle.pieces.specs.Texts.{count_of}
use Rattle.pieces.proofs.Texts.{puts_as, written}
use Rattle.pdf.specs.Documents.{font_count, header_text}
use Rattle.pdf.proofs.AddedObjects.{added_more}
use Rattle.pdf.proofs.AddedPages.{pdf_put}
use Rattle.pdf.proofs.FontLists.{fonts_most}
use Rattle.pdf.proofs.document.put_document.Goals as goal

pub put_fonts-requires-clause-room : goal.put_fonts-requires-clause-room
put_fonts-requires-clause-room g c =
    let count = c.list_rows-row_count.result in
    let rows = take count c.list_rows-row_count.new.list in
    let few = length-take count c.list_rows-row_count.new.list in
    omega (arith, c.requires.room, c.put_front.ensures.adds.size, c.put_shared_objects.ensures.adds.size, c.put_layers.ensures.adds.size, c.list_pens-count.ensures.few, fonts_most rows (omega (arith, few, c.list_rows-row_count.ensures.few)))

pub font_count-requires : goal.font_count-requires
font_count-requires g c =
    let count = c.list_rows-row_count.result in
    omega (arith, length-take count c.list_rows-row_count.new.list, c.list_rows-row_count.ensures.few)

pub returns : goal.returns
returns g c =
    let view = c.args.view.now in
    let ends = c.args.ends.now in
    let count = c.list_pens-count.result in
    let pens = take count c.list_pens-count.new.list in
    let rows = take c.list_rows-row_count.result c.list_rows-row_count.new.list in
    let fonts = c.font_count.result in
    let pages = c.put_pages.ensures.adds in
    let size : length pens ≡ count = length-take-le count c.list_pens-count.new.list (omega (arith, c.list_pens-count.ensures.few)) in
    let layers : 4 + count ≡ 4 + length pens = omega (arith, size) in
    let begin : 4 + count + fonts ≡ 4 + length pens + font_count rows = omega (arith, size, c.font_count.ensures.value) in
    let new : count_of c.args.text.now ≡ 0 = omega (arith, c.requires.new.0, c.requires.new.1) in
    let front = added_more c.put_front.ensures.adds c.put_shared_objects.ensures.adds refl in
    let puts = pdf_put (4 + count) (4 + count + fonts) (4 + count + fonts + 3 * length ends) c.args.version.now c.args.title.now view.page.now view.pens.now view.strokes.now (areas_in view.areas) ends
    (all_counted view.before view.labels.now) pens rows pages.streams new (puts_as c.put_header.ensures.puts (ap header_text c.unit_of.ensures)) front c.put_layers.ensures.adds c.put_fonts.ensures.adds pages.adds c.put_end.ensures.puts
    pages.are layers begin refl c.list_pens-count.ensures.list c.list_rows-row_count.ensures.list in
    record {
      same = c.finish.ensures.same ∙ puts.same;
      writes = record {
        streams = pages.streams;
        are = pages.are;
        writes = written g.K.Sink.state c.args.text.now c.put_end.new.text _ _ c.finish.result c.requires.new puts c.finish.ensures.finishes;
      };
    }
