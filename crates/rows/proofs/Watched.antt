-- Watchers that are told of nothing, of one number more, and of all rows.
use Rattle.std.proofs.Common.{◌≡◌, ◌-◌, ◌<◌, ◌≤◌, ℕ, Bool, true, false, refl, sym, subst, arith}
use Rattle.rows.specs.Watching.{IsToldIn, WasTold, WasToldInPart}

pub none_told : {W : Type 0} (hears : W → ℕ → ℕ → W → Type 0) (rows : ℕ) (watcher : W) → WasToldInPart hears rows watcher watcher
none_told hears rows watcher = record { done = 0; told = WasTold.nothing }

-- whether the sink failed or not
pub not_told : {W : Type 0} (hears : W → ℕ → ℕ → W → Type 0) (rows : ℕ) (watcher : W) (is_failure : Bool) → IsToldIn hears rows watcher watcher is_failure
not_told hears rows watcher true = none_told hears rows watcher
not_told hears rows watcher false = refl

-- before the first row
pub told_nothing : {W : Type 0} (hears : W → ℕ → ℕ → W → Type 0) (rows first : ℕ) (watcher : W)
    → WasTold hears rows watcher (first - first) watcher
told_nothing hears rows first watcher =
    let none : first - first ≡ 0 = omega arith in
    subst (λ (n : ℕ). WasTold hears rows watcher n watcher) (sym none) WasTold.nothing

-- after the rows up to `at`, those up to `to` are written, of those up to `end`
pub told_more : {W : Type 0} (hears : W → ℕ → ℕ → W → Type 0) (first at to end : ℕ) (before watcher after : W) → first ≤ at
    → at < to → to ≤ end → WasTold hears (end - first) before (at - first) watcher
    → hears watcher (to - first) (end - first) after → WasTold hears (end - first) before (to - first) after
told_more hears first at to end before watcher after from more within told heard =
    WasTold.more (to - first) after told (omega (arith, from, more)) (omega (arith, from, more, within)) heard

-- of some rows of as many
pub told_some : {W : Type 0} (hears : W → ℕ → ℕ → W → Type 0) (rows count done : ℕ) (before after : W) → rows ≡ count → WasTold hears rows before done after
    → WasToldInPart hears count before after
told_some hears rows count done before after same told = record { done = done; told = subst (λ (n : ℕ). WasTold hears n before done after) same told }

-- after the last row, by the numbers that the rows have elsewhere
pub told_all : {W : Type 0} (hears : W → ℕ → ℕ → W → Type 0) (first at end from to : ℕ) (before after : W) → end ≤ at
    → at ≤ end → end ≡ to → first ≡ from → WasTold hears (end - first) before (at - first) after
    → WasTold hears (to - from) before (to - from) after
told_all hears first at end from to before after past within ends begins told =
    let all : at - first ≡ to - from = omega (arith, past, within, ends, begins) in
    let rows : end - first ≡ to - from = omega (arith, ends, begins) in
    subst (λ (n : ℕ). WasTold hears n before (to - from) after) rows (subst (λ (n : ℕ). WasTold hears (end - first) before n after) all told)
