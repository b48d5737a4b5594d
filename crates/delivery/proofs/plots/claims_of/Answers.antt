use Rattle.std.proofs.Common.{Bor, List, [], map, refl, subst, take, ℕ, sym, ◌≡◌, get_or, ◌++◌, ◌∷◌, ◌+◌}
use Rattle.output_files.specs.Claims.{is_plot}
use Rattle.delivery.specs.Looks.{IsPlot, LooksForPlots}
use Rattle.delivery.proofs.Folders.{texts_all, texts_more}
use Rattle.delivery.proofs.Looking.{are_looks, look_for_more, look_more, of_any_error}
use Rattle.delivery.proofs.plots.claims_of.Goals as goal

abbrev texts : List (Bor (List ℕ)) → List (List ℕ)
texts files = map (λ (file : Bor (List ℕ)). file.now) files

pub loop-file-init : goal.loop-file-init
loop-file-init g c = ([], refl, tt)

pub loop-file-preserved : goal.loop-file-preserved
loop-file-preserved g c =
    let files = c.args.files.now in
    let i = c.loop-file.file-index in
    let file = (get_or files i (record { ref_ptr = (0, 0); now = [] })).now in
    let more : texts (take (i + 1) files) ≡ texts (take i files) ++ file ∷ [] = texts_more files i (record { ref_ptr = (0, 0); now = [] }) c.loop-file-test.true in
    let found = c.id_at-found.ensures.0 in
    subst (λ (all : List (List ℕ)). LooksForPlots g.D.Voice.does c.args.desk.now (is_plot c.add_found.new.claims) all c.id_at-found.new.desk) (sym more)
    (look_for_more g.D.Voice.does (is_plot c.loop-file.claims) (is_plot c.add_found.new.claims) (texts (take i files)) file found c.args.desk.now
    c.loop-file.desk c.id_at-found.new.desk c.in_ok-add_found.ensures.others (subst (IsPlot (is_plot c.add_found.new.claims)) c.id_at-found.ensures.2 c.in_ok-add_found.ensures.found)
    c.loop-file.invariant c.id_at-found.ensures.1)

pub returns-in_err-add_found-clause-looks : goal.returns-in_err-add_found-clause-looks
returns-in_err-add_found-clause-looks g c =
    let files = texts (take c.loop-file.file-index c.args.files.now) in
    of_any_error c.from_residual.result
    (look_more g.D.Voice.does c.args.desk.now c.loop-file.desk c.id_at-found.new.desk _ c.id_at-found.ensures.0
    (are_looks g.D.Voice.does (is_plot c.loop-file.claims) files c.args.desk.now c.loop-file.desk c.loop-file.invariant) c.id_at-found.ensures.1)

pub returns-clause-plots : goal.returns-clause-plots
returns-clause-plots g c =
    let files = c.args.files.now in
    subst (λ (all : List (Bor (List ℕ))). LooksForPlots g.D.Voice.does c.args.desk.now (is_plot c.loop-file.claims) (texts all) c.loop-file.desk)
    (texts_all files c.loop-file.file-index c.loop-file-test.false) c.loop-file.invariant
