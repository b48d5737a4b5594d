-- Labels in the style of core's are written by core.
use Rattle.std.proofs.Common.{◌≡◌, ◌∙◌, false, ℕ, List, ap, sym, subst, Option, Result, IsTrue}
use Rattle.character_sets.specs.Texts.{signs}
use Rattle.character_sets.specs.declared.encoding.Encoding.{Encoding}
use Rattle.character_sets.specs.declared.sets.Sets.{Sets}
use Rattle.exact.specs.declared.spot.Spot.{Spot}
use Rattle.directions.specs.Laws.{right}
use Rattle.lettering.specs.CoreTexts.{is_core_text}
use Rattle.lettering.specs.Laws.{usual_turned}
use Rattle.lettering.specs.Styles.{usual}
use Rattle.lettering.specs.declared.style.Style.{Style}
use Rattle.plot_settings.specs.Meanings.{Write}
use Rattle.hpgl_plot.specs.declared.plotter.Stop.{Stop}
use Rattle.hpgl_plot.specs.Machine as core
use Rattle.full_plot.specs.Texts.{core_style, label_by, turn_by}
use Rattle.full_plot.proofs.CoreLabels.{label_as_in_core, turn_in, turned_twice}

-- what core answers for a label in its style
pub core_label : {U : Type 0} (c v : core.World) (style : Style) (encoding : Encoding) (sets : Sets) (bytes : List ℕ) (r : Result U Stop)
    → style ≡ core_style c.state → IsTrue (is_core_text encoding sets bytes) → core.Runs (core.step c (Write bytes)) v r
    → core.Runs (label_by false style c (signs encoding sets bytes)) v r
core_label c v style encoding sets bytes r e h k =
    let turned_is : style ≡ usual_turned c.state.size (turn_in c.state) =
    e ∙ ap (λ (d : Spot). record usual { width = c.state.size.width; height = c.state.size.height; direction = d })
    (turned_twice (turn_by c.state.frame.rotation) (turn_by c.state.direction) right) in
    subst (λ (o : Option core.World). core.Runs o v r) (sym (label_as_in_core c style encoding sets bytes turned_is h)) k
