use Rattle.std.proofs.Common.{◌≡◌, ◌∙◌, ap, ap₂, subst, List, [], ◌∷◌}
use Rattle.character_sets.specs.Texts.{signs}
use Rattle.character_sets.specs.declared.encoding.Encoding.{Encoding}
use Rattle.character_sets.specs.declared.sets.Sets.{Sets}
use Rattle.character_sets.specs.declared.sign.Sign.{Sign}
use Rattle.exact.specs.declared.spot.Spot.{Spot}
use Rattle.lettering.specs.Labels.{styled_label_strokes}
use Rattle.lettering.specs.Letters.{centred}
use Rattle.lettering.specs.declared.style.Style.{Style}
use Rattle.hpgl_plot.specs.Machine as core
use Rattle.full_settings.specs.declared.font.Font.{Font}
use Rattle.full_plot.specs.Machine.{seen}
use Rattle.full_plot.specs.Texts.{are_bold, letters_at_pen, signs_of, style_of}
use Rattle.full_plot.proofs.LinesAlong.{with_runs}
use Rattle.full_plot.proofs.plotter.FullPlotter.write_symbol.Goals as goal

pub returns : goal.returns
returns c =
    let w = seen c.args.self.now in
    let v = core.seen c.ink_letters.new.plotter in
    let letter : List Sign = signs_of w (c.args.symbol ∷ []) in
    let style : c.centred-lettering.result.style ≡ centred (style_of w) = c.centred-lettering.ensures ∙ ap centred c.lettering.ensures in
    let own : c.signs-signs.result ≡ letter =
    c.signs-signs.ensures.value
    ∙ ap₂ (λ (e : Encoding) (sets : Sets). signs e sets (c.args.symbol ∷ [])) c.reading.ensures.encoding c.reading.ensures.sets in
    let strokes = c.strokes.ensures ∙ ap₂ (λ (s : Style) (ss : List Sign). styled_label_strokes s ss) style own in
    with_runs w (letters_at_pen (are_bold w) w.core (styled_label_strokes (centred (style_of w)) letter)) v c.ink_letters.result
    (subst (λ (ss : List (Spot × Spot)). core.Runs (letters_at_pen (are_bold w) w.core ss) v c.ink_letters.result) strokes
    (subst (λ (f : Font). core.Runs (letters_at_pen f.is_bold w.core c.strokes.result) v c.ink_letters.result) c.font-is_bold.ensures.value c.ink_letters.ensures))
