use Rattle.std.proofs.Common.{None, ◌≡◌, ◌+◌, ◌++◌, ◌∷◌, ℕ, Bor, List, [], get_or, map, refl, subst, sym, take}
use Rattle.delivery.specs.Deliveries.{Anything, Delivers}
use Rattle.delivery.specs.Folders.{ArePlotsPut, IsPlotPut}
use Rattle.delivery.proofs.Delivered.{both, nothing_yet}
use Rattle.delivery.proofs.Folders.{plots_more, texts_all, texts_more}
use Rattle.delivery.proofs.folder.deliver_each.Goals as goal

abbrev texts : List (Bor (List ℕ)) → List (List ℕ)
texts files = map (λ (file : Bor (List ℕ)). file.now) files

pub loop-file-init : goal.loop-file-init
loop-file-init g c = λ plots are. (
  are,
  nothing_yet g.D.Voice.does plots None (ArePlotsPut c.args.order.folder.now c.args.order.extension.now (texts (take 0 c.args.order.files.now)))
      c.args.desk.now c.args.desk.now refl (λ deeds. tt),
)

pub loop-file-preserved : goal.loop-file-preserved
loop-file-preserved g c = λ plots are.
    let folder = c.args.order.folder.now in
    let extension = c.args.order.extension.now in
    let files = c.args.order.files.now in
    let i = c.loop-file.file-index in
    let before = c.loop-file.invariant plots are in
    let so_far = texts (take i files) in
    let file = (get_or files i (record { ref_ptr = (0, 0); now = [] })).now in
    let more : texts (take (i + 1) files) ≡ so_far ++ file ∷ [] = texts_more files i (record { ref_ptr = (0, 0); now = [] }) c.loop-file-test.true in (
      c.deliver_plot-next.ensures.plots plots before.0,
      subst (λ (s : ℕ). Delivers g.D.Voice.does plots None c.args.desk.now c.deliver_plot-next.new.desk s Anything Anything (ArePlotsPut folder extension (texts (take (i + 1) files))))
          (sym c.greater_status-status.ensures)
          (both g.D.Voice.does plots None (ArePlotsPut folder extension so_far) (IsPlotPut folder extension file)
          (ArePlotsPut folder extension (texts (take (i + 1) files))) c.args.desk.now c.loop-file.desk c.deliver_plot-next.new.desk
          c.loop-file.status c.deliver_plot-next.result before.1 (c.deliver_plot-next.ensures.delivers plots before.0)
          (λ xs ys first next. subst (λ (all : List (List ℕ)). ArePlotsPut folder extension all (xs ++ ys)) (sym more)
          (plots_more folder extension file so_far xs ys first next))),
    )

pub returns : goal.returns
returns g c = λ plots are.
    let files = c.args.order.files.now in
    subst (λ (all : List (Bor (List ℕ))). Delivers g.D.Voice.does plots None c.args.desk.now c.loop-file.desk c.loop-file.status Anything Anything
    (ArePlotsPut c.args.order.folder.now c.args.order.extension.now (texts all)))
    (texts_all files c.loop-file.file-index c.loop-file-test.false) (c.loop-file.invariant plots are).1
