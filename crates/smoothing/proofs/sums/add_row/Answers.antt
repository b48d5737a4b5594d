use Rattle.std.proofs.Common.{◌≡◌, ◌<◌, ◌≤◌, ◌+◌, ◌*◌, ◌/◌, ℕ, length, get_or, set, refl, sym, subst, ◌∙◌, arith, inl, inr}
use Rattle.std.proofs.Math.Nat.{le-div_iff_mul-le, mul-div-le, mul-le-mul_left}
use Rattle.std.proofs.lemmas.Bool.{cases_lt}
use Rattle.std.proofs.lemmas.List.{get_or_default, get_or-set_other, get_or-set_same, length-set}
use Rattle.smoothing.specs.Totals.{HasCells}
use Rattle.smoothing.specs.declared.sums.Sums.{Sums}
use Rattle.smoothing.proofs.Rows.{white_between}
use Rattle.smoothing.proofs.sums.add_row.Goals as goal

pub marked-init : goal.marked-init
marked-init g c =
    let n = c.args.times in
    let r = c.next_marked-marked.result in
    let below : n * (r / n) ≤ r = mul-div-le r n in
    let blank : (k : ℕ) → 0 ≤ k → k < r → get_or c.args.cells.now k 0 ≡ 0 = λ k _ lt. elim (cases_lt k c.args.low) [
      | inl before ↦ c.requires.before k before
      | inr from ↦ c.next_marked-marked.ensures.blank k from lt
    ] in
    record {
      size = refl;
      done = λ k d lt.
          let all : n * (k + 1) ≤ n * (r / n) = mul-le-mul_left n (omega (arith, lt)) in
          white_between (g.I.Inks.inks c.args.inks.now) c.args.cells.now n k 0 r _ blank (omega arith) (omega (arith, all, below));
      others = λ k d le. refl;
      blank = λ k le lt. blank k (omega arith) lt;
    }

pub marked-preserved : goal.marked-preserved
marked-preserved g c =
    let inks = g.I.Inks.inks c.args.inks.now in
    let cells = c.args.cells.now in
    let n = c.args.times in
    let q = c.marked.marked / n in
    let old = c.args.sums.now in
    let mid = c.marked.sums in
    let made = c.with_cells.result in
    let inv = c.marked.invariant in
    let next = c.next_marked-marked-in-marked.ensures in
    let r = c.next_marked-marked-in-marked.result in
    let inside : q < length mid = c.if-marked-side.true in
    let below : n * (r / n) ≤ r = mul-div-le r n in
    let turned : (q + 1) * n ≡ n * q + n = grind arith in
    let onward : q + 1 ≤ r / n = (le-div_iff_mul-le {k = n} {x = q + 1} {y = r} (omega (arith, c.requires.least))).1 (omega (arith, turned, next.onward)) in
    record {
      size = length-set mid q made ∙ inv.size;
      done = λ k d lt. elim (cases_lt k q) [
        | inl before ↦
            subst (λ (s : Sums). HasCells inks cells (n * k) n (get_or old k d) s) (sym (get_or-set_other mid q k made d (λ e. omega (arith, e, before)))) (inv.done k d before)
        | inr from ↦ elim (cases_lt q k) [
          | inl after ↦
              let here : n * (q + 1) ≤ n * k = mul-le-mul_left n (omega (arith, after)) in
              let all : n * (k + 1) ≤ n * (r / n) = mul-le-mul_left n (omega (arith, lt)) in
              let parts : n * (q + 1) ≡ n * q + n = grind arith in
              subst (λ (s : Sums). HasCells inks cells (n * k) n (get_or old k d) s)
              (sym (get_or-set_other mid q k made d (λ e. omega (arith, e, after)) ∙ inv.others k d from))
              (white_between inks cells n k (n * q + n) r (get_or old k d) next.blank (omega (arith, here, parts)) (omega (arith, all, below)))
          | inr most ↦
              let same : k ≡ q = omega (arith, from, most) in
              let was = get_or_default mid q _ d inside ∙ inv.others q d (omega arith) in
              subst (λ (j : ℕ). HasCells inks cells (n * j) n (get_or old j d) (get_or (set mid q made) j d)) (sym same)
              (subst (λ (s : Sums). HasCells inks cells (n * q) n (get_or old q d) s) (sym (get_or-set_same mid q made d inside))
              (subst (λ (s : Sums). HasCells inks cells (n * q) n s made) was c.with_cells.ensures))
        ]
      ];
      others = λ k d le. get_or-set_other mid q k made d (λ e. omega (arith, e, le, onward)) ∙ inv.others k d (omega (arith, le, onward));
      blank = λ k le lt.
          let past : n * (q + 1) ≤ n * (r / n) = mul-le-mul_left n onward in
          let parts : n * (q + 1) ≡ n * q + n = grind arith in
          next.blank k (omega (arith, le, past, parts)) lt;
    }

pub returns-after-marked-clause-cells : goal.returns-after-marked-clause-cells
returns-after-marked-clause-cells g c = λ k d lt.
    let inks = g.I.Inks.inks c.args.inks.now in
    let cells = c.args.cells.now in
    let n = c.args.times in
    let m = c.marked.marked in
    let old = c.args.sums.now in
    let inv = c.marked.invariant in
    elim (cases_lt k (m / n)) [
      | inl before ↦ inv.done k d before
      | inr from ↦
          let here : n * (m / n) ≤ n * k = mul-le-mul_left n from in
          let blank : (p : ℕ) → n * k ≤ p → p < n * (k + 1) → get_or cells p 0 ≡ 0 = λ p le _. elim (cases_lt p m) [
            | inl within ↦ inv.blank p (omega (arith, here, le)) within
            | inr past ↦ c.requires.after p (omega (arith, c.marked-test.false, past))
          ] in
          subst (λ (s : Sums). HasCells inks cells (n * k) n (get_or old k d) s) (sym (inv.others k d from))
          (white_between inks cells n k (n * k) (n * (k + 1)) (get_or old k d) blank (omega arith) (omega arith))
    ]
