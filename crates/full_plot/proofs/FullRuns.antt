-- Steps of core, one after another, in the profile full.
use Rattle.std.proofs.Common.{◌≡◌, ◌∙◌, ◌<◌, ◌≤◌, ap, sym, refl, arith, Bool, true, ℕ, false, true≢false, slice_index_or, Result, Ok, Err, List, [], ◌∷◌, ◌++◌, length, Option, Some, None, ℤ}
use Rattle.std.specs.Prelude.{if◌then◌else◌}
use Rattle.std.proofs.lemmas.List.{map-append}
use Rattle.hpgl_text.specs.EntryShapes.{EntryShape}
use Rattle.plot_settings.specs.Meanings.{Touch, Lower, meaning, moves, lowered_then, part_steps, entry_steps}
use Rattle.hpgl_text.specs.declared.instruction.Instruction.{Instruction}
use Rattle.hpgl_text.specs.declared.instruction.Instruction.TheVariants.{PenWidth, PenColour}
use Rattle.std.specs.Result.{IsErrAnd}
use Rattle.std.specs.Prelude.{IfErr, IfOk}
use Rattle.hpgl_plot.specs.declared.plotter.Stop.{Stop}
use Rattle.hpgl_plot.specs.declared.plotter.Stop.TheVariants.{Memory, OffRange}
use Rattle.full_settings.specs.declared.requests.FurtherRequest.{FurtherRequest}
use Rattle.full_notes.specs.Contexts.{Context}
use Rattle.full_notes.specs.Notes.{request_after}
use Rattle.full_plot.specs.Items.{as_core, more_steps, params_steps, request_steps}
use Rattle.full_plot.specs.ContextsAfter.{after_request}
use Rattle.full_notes.proofs.Noted.{is_own}
use Rattle.full_plot.specs.Sheets.{last_end}
use Rattle.full_plot.specs.Worlds.{FullWorld, full_followed}
use Rattle.full_plot.specs.Machine.{FullStep, Core, full_step, run, core_step, Runs}

full_followed-followed : (o : Option FullWorld) (f g : FullWorld → Option FullWorld) → full_followed (full_followed o f) g ≡ full_followed o (λ (v : FullWorld). full_followed (f v) g)
full_followed-followed None f g = refl
full_followed-followed (Some v) f g = refl

followed_by : (o : Option FullWorld) (f g : FullWorld → Option FullWorld) → ((v : FullWorld) → f v ≡ g v) → full_followed o f ≡ full_followed o g
followed_by None f g h = refl
followed_by (Some v) f g h = h v

pub run-append : (w : FullWorld) (ss ts : List FullStep) → run w (ss ++ ts) ≡ full_followed (run w ss) (λ (v : FullWorld). run v ts)
run-append w [] ts = refl
run-append w (s ∷ ss) ts =
    followed_by (full_step w s) (λ (v : FullWorld). run v (ss ++ ts)) (λ (v : FullWorld). full_followed (run v ss) (λ (u : FullWorld). run u ts)) (λ (v : FullWorld). run-append v ss ts)
    ∙ sym (full_followed-followed (full_step w s) (λ (v : FullWorld). run v ss) (λ (u : FullWorld). run u ts))

-- one entry of a polyline, and the rest
entries_run : (w : FullWorld) (e : EntryShape) (rest : List EntryShape)
    → run w (as_core (entry_steps (e ∷ rest))) ≡ full_followed (run w (as_core (part_steps e.what))) (λ (v : FullWorld). run v (as_core (entry_steps rest)))
entries_run w e rest = ap (λ (ss : List FullStep). run w ss) (map-append Core (part_steps e.what) (entry_steps rest)) ∙ run-append w (as_core (part_steps e.what)) (as_core (entry_steps rest))

pub one_entry : (w v : FullWorld) (e : EntryShape) (rest : List EntryShape) → run w (as_core (part_steps e.what)) ≡ Some v
    → run w (as_core (entry_steps (e ∷ rest))) ≡ run v (as_core (entry_steps rest))
one_entry w v e rest h = entries_run w e rest ∙ ap (λ (o : Option FullWorld). full_followed o (λ (u : FullWorld). run u (as_core (entry_steps rest)))) h

pub one_entry_out : (w : FullWorld) (e : EntryShape) (rest : List EntryShape) → run w (as_core (part_steps e.what)) ≡ None
    → run w (as_core (entry_steps (e ∷ rest))) ≡ None
one_entry_out w e rest h = entries_run w e rest ∙ ap (λ (o : Option FullWorld). full_followed o (λ (u : FullWorld). run u (as_core (entry_steps rest)))) h

-- PD without a pair, and with one
pub lower_short : (w v z : FullWorld) (ns : List ℤ) → length ns < 2 → core_step w Touch ≡ Some v → core_step v (Lower true) ≡ Some z
    → run w (as_core (lowered_then (moves ns))) ≡ run z (as_core (moves ns))
lower_short w v z [] h e f = rw e (rw f refl)
lower_short w v z (a ∷ []) h e f = rw e (rw f refl)
lower_short w v z (a ∷ (b ∷ ns)) h e f = absurd (omega arith)

pub lower_long : (w z : FullWorld) (ns : List ℤ) → 2 ≤ length ns → core_step w (Lower true) ≡ Some z
    → run w (as_core (lowered_then (moves ns))) ≡ run z (as_core (moves ns))
lower_long w z [] h f = absurd (omega arith)
lower_long w z (a ∷ []) h f = absurd (omega arith)
lower_long w z (a ∷ (b ∷ ns)) h f = rw f refl

-- an instruction without steps of its own
pub other_steps : (c : Context) (i : Instruction) (ns : List ℤ) → is_own i ≡ false → params_steps c i ns ≡ as_core (meaning i ns).steps ++ more_steps i ns
other_steps c PenWidth ns h = absurd (true≢false h)
other_steps c PenColour ns h = absurd (true≢false h)
other_steps c i ns h = refl

-- some steps, and more
pub more_run : (w v z : FullWorld) (ss ts : List FullStep) → run w ss ≡ Some v → run v ts ≡ Some z → run w (ss ++ ts) ≡ Some z
more_run w v z ss ts h k = run-append w ss ts ∙ ap (λ (o : Option FullWorld). full_followed o (λ (u : FullWorld). run u ts)) h ∙ k

pub no_more : (w : FullWorld) (ss ts : List FullStep) → run w ss ≡ None → run w (ss ++ ts) ≡ None
no_more w ss ts h = run-append w ss ts ∙ ap (λ (o : Option FullWorld). full_followed o (λ (u : FullWorld). run u ts)) h

-- what stops a part stops all of it
pub stopped : {U : Type 0} (V : Type 0) (o p : Option FullWorld) (u v : FullWorld) (e : Stop) (r : Result U Stop) → (o ≡ None → p ≡ None)
    → Runs {U = V} o u (Err e) → IsErrAnd r (λ f. f ≡ e) → Runs p v r
stopped V o p u v e (Ok x) n h i = absurd i
stopped V o p u v Memory (Err f) n h i = rw i tt
stopped V o p u v OffRange (Err f) n h i = rw i (n h)

-- what a call leaves that can only want memory
pub runs_by : {U : Type 0} (o : Option FullWorld) (v : FullWorld) (r : Result U Stop) (P : Type 0) → (P → o ≡ Some v) → IfOk r (λ x. P) → IfErr r (λ e. e ≡ Memory)
    → Runs o v r
runs_by o v (Ok x) P f h i = f h
runs_by o v (Err e) P f h i = rw i tt

-- the last number of a list
pub last_is : (e x : ℕ) (xs : List ℕ) → slice_index_or (x ∷ xs) (length xs) e ≡ last_end (x ∷ xs)
last_is e x [] = refl
last_is e x (y ∷ ys) = last_is e y ys

-- whether a chord is read or not
pub any_read : (usual : Bool) (ns : List ℤ) → (if usual then ns else ns) ≡ ns
any_read true ns = refl
any_read false ns = refl

-- a further instruction is in the context after it
pub told_run : (w : FullWorld) (q r : FurtherRequest) (ns : List ℤ) (c : Context) → r ≡ q → c ≡ request_after w.context r
    → run (record w { context = c }) (request_steps r ns) ≡ run (after_request q w) (request_steps q ns)
told_run w q r ns c h e =
    ap (λ (d : Context). run (record w { context = d }) (request_steps r ns)) e
    ∙ ap (λ (p : FurtherRequest). run (after_request p w) (request_steps p ns)) h
